-- A reader of the input gives a value or its first fault. Out of memory is the one answer that no
-- definition gives.
use Rattle.std.specs.Prelude.{◌≡◌, ℕ, List, [], ◌∷◌, ◌++◌, Result, Ok, Err}
use Rattle.xs_base.specs.declared.fault.Fault.{Fault}
use Rattle.xs_base.specs.declared.fault.Refuse.{Refuse}
use Rattle.xs_base.specs.declared.fault.Refuse.TheVariants as refuse
use Rattle.xs_base.specs.declared.fault_codes.TheConstants.{NOT_BUILT}
use Rattle.xs_base.specs.declared.source.FileOf.{FileOf}

-- a fault in a file, at a line, with a code and a word
abbrev pub fault_in : FileOf → ℕ → ℕ → List ℕ → Fault
fault_in file line code word = record { file = file; line = line; code = code; word = word }

-- the fault of a form that is not built yet
abbrev pub not_built_in : FileOf → ℕ → Fault
not_built_in file line = fault_in file line NOT_BUILT []

-- A call refuses for the reason that the definition gives, or where memory runs out.
abbrev pub Fails : {A : Type 0} → Refuse → Result A Fault → Type 0
Fails refuse.Memory read = Unit {0}
Fails (refuse.Fault fault) read = read ≡ Err fault

-- A call gives what the definition gives, with a view of the call's value.
abbrev pub GivesBy : {X A : Type 0} → (X → A) → Result X Refuse → Result A Fault → Type 0
GivesBy view (Ok x) read = read ≡ Ok (view x)
GivesBy view (Err e) read = Fails e read

-- A call gives what the definition gives.
abbrev pub Gives : {A : Type 0} → Result A Refuse → Result A Fault → Type 0
Gives = GivesBy (λ a. a)

infixl 10 ◌>>=◌
-- a stage after a stage: the first fault decides
abbrev pub ◌>>=◌ : {A B : Type 0} → Result A Fault → (A → Result B Fault) → Result B Fault
(Ok a) >>= next = next a
(Err fault) >>= next = Err fault

-- what is given, after what stands before it
abbrev pub with_front : {A E : Type 0} → List A → Result (List A) E → Result (List A) E
with_front before (Ok after) = Ok (before ++ after)
with_front before (Err e) = Err e

-- what each element gives, or the first fault
abbrev pub collect : {A B : Type 0} → (A → Result B Fault) → List A → Result (List B) Fault
collect read [] = Ok []
collect read (x ∷ xs) = read x >>= (λ y. with_front (y ∷ []) (collect read xs))
