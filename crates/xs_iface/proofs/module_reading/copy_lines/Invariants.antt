use Rattle.std.proofs.Common.{◌≡◌, take}
use Rattle.xs_iface.proofs.module_reading.copy_lines.Given as goal

-- the lines so far
abbrev pub invariant-loop-line : goal.invariant-loop-line
invariant-loop-line l = l.copies ≡ take l.line-index l.lines
