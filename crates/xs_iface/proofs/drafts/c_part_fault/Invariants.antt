use Rattle.std.proofs.Common.{◌≡◌, drop}
use Rattle.xs_iface.specs.Iface.{c_part_fault}
use Rattle.xs_iface.proofs.drafts.c_part_fault.Given as goal

-- no line before this one is refused
abbrev pub invariant-loop-line : goal.invariant-loop-line
invariant-loop-line l = c_part_fault l.lines ≡ c_part_fault (drop l.line-index l.lines)
