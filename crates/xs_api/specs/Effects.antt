-- What a row does.
use Rattle.xs_api.specs.declared.api.Abrupt.{Abrupt}
use Rattle.xs_api.specs.declared.api.Frame.{Frame}
use Rattle.xs_api.specs.declared.api.Operand.{Operand}

-- what a row does: it gives a value, or ends what is run
pub data Effect (S : Type 0) : Type 0 where
  Gives : Operand → Frame → S → Effect S
  Ends : Abrupt → Frame → S → Effect S
