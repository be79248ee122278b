use Rattle.std.proofs.Common.{◌≡◌, drop}
use Rattle.xs_base.specs.Lines.{has_no_end}
use Rattle.xs_iface.proofs.passed_lines.has_no_end.Given as goal

-- no byte before this one ends a line
abbrev pub invariant-loop-byte : goal.invariant-loop-byte
invariant-loop-byte l = has_no_end l.text ≡ has_no_end (drop l.byte-index l.text)
