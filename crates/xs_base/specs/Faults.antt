-- Which of several faults is the first, and what is given where there is none.
use Rattle.std.specs.Option.{option_or}
use Rattle.std.specs.Prelude.{Bool, ◌&&◌, ◌||◌, ◌==◌, nat_lt, if◌then◌else◌, List, [], ◌∷◌, ◌++◌, Option, None, Some, fold, Result, Ok, Err}
use Rattle.xs_base.specs.declared.fault.Fault.{Fault}

-- The lesser line goes before, and on one line the lesser code.
abbrev pub is_before : Fault → Fault → Bool
is_before f g = nat_lt f.line g.line || (f.line == g.line && nat_lt f.code g.code)

-- the earlier of two faults, of which the first may be missing
abbrev pub earlier : Option Fault → Fault → Option Fault
earlier None f = Some f
earlier (Some g) f = if is_before f g then Some f else Some g

-- the first of faults: none of them goes before it
abbrev pub first_of : List Fault → Option Fault
first_of faults = fold earlier None faults

-- the first fault in a list whose elements are each held against those before it
abbrev pub first_fault : {A : Type 0} → (List A → A → Option Fault) → List A → List A → Option Fault
first_fault fault before [] = None
first_fault fault before (x ∷ xs) =
    option_or (fault before x) (first_fault fault (before ++ x ∷ []) xs)

-- no value where there is a fault
abbrev pub unless_fault : {A : Type 0} → Option Fault → A → Result A Fault
unless_fault None value = Ok value
unless_fault (Some fault) value = Err fault
