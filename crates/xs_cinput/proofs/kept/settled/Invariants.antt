use Rattle.std.proofs.Common.{◌≡◌, length}
use Rattle.xs_cinput.specs.TokenInput.{kept}
use Rattle.xs_cinput.proofs.kept.settled.Given as goal

abbrev pub invariant-loop-rest : goal.invariant-loop-rest
invariant-loop-rest l = kept l.whole l.rest ≡ kept l.whole l.tokens

abbrev pub decreases-loop-rest : goal.decreases-loop-rest
decreases-loop-rest l = length l.rest
