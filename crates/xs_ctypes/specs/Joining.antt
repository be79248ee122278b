-- How the refusals of parts are brought together: out of memory ends all, and of two faults the
-- lesser is told.
use Rattle.std.specs.Prelude.{◌≡◌, List, [], ◌∷◌, ◌++◌, Option, None, Some, Result, Ok, Err}
use Rattle.xs_base.specs.declared.fault.Fault.{Fault}
use Rattle.xs_base.specs.declared.fault.Refuse.{Refuse}
use Rattle.xs_base.specs.declared.fault.Refuse.TheVariants as refuse
use Rattle.xs_base.specs.declared.memory.Memory.{Memory}
use Rattle.xs_ctypes.specs.Checked.{lesser}

abbrev pub first_refusal : Refuse → Refuse → Refuse
first_refusal refuse.Memory d = refuse.Memory
first_refusal (refuse.Fault f) refuse.Memory = refuse.Memory
first_refusal (refuse.Fault f) (refuse.Fault g) = refuse.Fault (lesser f g)

-- two parts
abbrev pub joined : {A B : Type 0} → Result A Refuse → Result B Refuse → Result (A × B) Refuse
joined (Ok a) (Ok b) = Ok (a, b)
joined (Ok a) (Err e) = Err e
joined (Err e) (Ok b) = Err e
joined (Err e) (Err d) = Err (first_refusal e d)

-- the first fault of a list, with one fault more at its end
abbrev pub first_of : Option Fault → Fault → Fault
first_of None g = g
first_of (Some f) g = lesser f g

-- A part is taken up behind others: it is added where it is good, and its fault is noted where not.
abbrev pub TakesUp : {X : Type 0} → List X → Option Fault → Result X Refuse → List X
    → Result (Option Fault) Memory → Type 0
TakesUp good least part good1 (Err e) = Unit {0}
TakesUp good least (Ok x) good1 (Ok least1) = (good1 ≡ good ++ x ∷ []) × (least1 ≡ least)
TakesUp good least (Err (refuse.Fault f)) good1 (Ok least1) =
    (good1 ≡ good) × (least1 ≡ Some (first_of least f))
TakesUp good least (Err refuse.Memory) good1 (Ok least1) = ⊥

-- A part that is nothing but checked is noted behind others.
abbrev pub Notes : Option Fault → Result (Unit {0}) Refuse → Result (Option Fault) Memory → Type 0
Notes least part (Err e) = Unit {0}
Notes least (Ok u) (Ok least1) = least1 ≡ least
Notes least (Err (refuse.Fault f)) (Ok least1) = least1 ≡ Some (first_of least f)
Notes least (Err refuse.Memory) (Ok least1) = ⊥

-- what a list comes to
abbrev pub settled : {X : Type 0} → X → Option Fault → Result X Refuse
settled good None = Ok good
settled good (Some f) = Err (refuse.Fault f)
