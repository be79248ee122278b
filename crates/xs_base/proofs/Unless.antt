-- A value is given where a fault is looked for first, so there is no fault.
use Rattle.std.proofs.Common.{◌≡◌, Option, None, Some, Ok, refl}
use Rattle.xs_base.specs.declared.fault.Fault.{Fault}
use Rattle.xs_base.specs.Faults.{unless_fault}

-- there is no fault, and the value is the one that stands after it
pub record Faultless {A : Type 0} (o : Option Fault) (a b : A) : Type 0 where
  pub none : o ≡ None
  pub same : a ≡ b

pub faultless : {A : Type 0} (o : Option Fault) (a b : A) → unless_fault o a ≡ Ok b → Faultless o a b
faultless None a b h = record { none = refl; same = cc }
faultless (Some f) a b h = absurd cc
