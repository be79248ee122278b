use Rattle.std.proofs.Common.{◌≡◌, length, drop}
use Rattle.xs_base.specs.Lines.{lines_of}
use Rattle.xs_sections.specs.Steps.{begun, run}
use Rattle.xs_sections.proofs.splitting.read.Given as goal

-- what was read of the lines so far, and the lines that are left
abbrev pub invariant-loop-line : goal.invariant-loop-line
invariant-loop-line l = run begun (lines_of l.src) ≡ run l.reading (drop (length l.yielded) (lines_of l.src))
