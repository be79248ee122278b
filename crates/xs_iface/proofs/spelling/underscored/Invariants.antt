use Rattle.std.proofs.Common.{◌≡◌, take}
use Rattle.xs_iface.specs.Iface.{underscored}
use Rattle.xs_iface.proofs.spelling.underscored.Given as goal

-- the bytes so far
abbrev pub invariant-loop-byte : goal.invariant-loop-byte
invariant-loop-byte l = l.text ≡ underscored (take l.byte-index l.name)
