use Rattle.std.proofs.Common.{◌≡◌, length}
use Rattle.xs_template.specs.TemplatePieces.{after_gaps}
use Rattle.xs_template.proofs.assignment.after_gaps.Given as goal

abbrev pub invariant-loop-rest : goal.invariant-loop-rest
invariant-loop-rest l = after_gaps l.text ≡ after_gaps l.rest

abbrev pub decreases-loop-rest : goal.decreases-loop-rest
decreases-loop-rest l = length l.rest
