use Rattle.std.proofs.Common.{◌≡◌, drop}
use Rattle.xs_base.specs.Lines.{last_filled}
use Rattle.xs_params.proofs.source_text.last_filled.Given as goal

-- the last so far, and those of the lines that are left
abbrev pub invariant-loop-line : goal.invariant-loop-line
invariant-loop-line l = last_filled 1 l.src ≡ last_filled l.last (drop l.line-index l.src)
