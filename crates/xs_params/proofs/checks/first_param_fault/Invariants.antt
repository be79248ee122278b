use Rattle.std.proofs.Common.{◌≡◌, [], drop, take}
use Rattle.xs_base.specs.Faults.{first_fault}
use Rattle.xs_params.specs.ParamLists.{param_fault}
use Rattle.xs_params.proofs.checks.first_param_fault.Given as goal

-- the parameters so far have no fault
abbrev pub invariant-loop-at : goal.invariant-loop-at
invariant-loop-at l = first_fault param_fault [] l.params ≡ first_fault param_fault (take l.at l.params) (drop l.at l.params)
