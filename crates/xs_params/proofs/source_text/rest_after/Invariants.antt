use Rattle.std.proofs.Common.{◌≡◌, drop}
use Rattle.xs_params.specs.DefaultTexts.{rest_after}
use Rattle.xs_params.proofs.source_text.rest_after.Given as goal

-- the line is not among those so far
abbrev pub invariant-loop-line : goal.invariant-loop-line
invariant-loop-line l = rest_after l.src l.at ≡ rest_after (drop l.line-index l.src) l.at
