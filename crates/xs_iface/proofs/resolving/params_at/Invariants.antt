use Rattle.std.proofs.Common.{◌≡◌, map, take}
use Rattle.xs_iface.specs.Iface.{param_at}
use Rattle.xs_iface.proofs.resolving.params_at.Given as goal

-- the parameters so far
abbrev pub invariant-loop-name : goal.invariant-loop-name
invariant-loop-name l = l.params ≡ map (param_at l.line) (take l.name-index l.names)
