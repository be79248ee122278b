use Rattle.std.proofs.Common.{◌≡◌, [], drop, take}
use Rattle.xs_base.specs.Faults.{first_fault}
use Rattle.xs_iface.specs.Iface.{param_fault}
use Rattle.xs_iface.proofs.resolving.interface_fault.Given as goal

-- the parameters so far have no fault
abbrev pub invariant-loop-at : goal.invariant-loop-at
invariant-loop-at l =
    first_fault (param_fault l.paragraph.line) [] l.paragraph.params
    ≡ first_fault (param_fault l.paragraph.line) (take l.at l.paragraph.params) (drop l.at l.paragraph.params)
