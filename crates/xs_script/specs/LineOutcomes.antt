-- What a reader of a line gives: its value, or that there is none. Out of memory is the one answer
-- that no definition gives.
use Rattle.std.specs.Prelude.{◌≡◌, Result, Ok, Err}
use Rattle.xs_script.specs.declared.line_part.Stop.{Stop}
use Rattle.xs_script.specs.declared.line_part.Stop.TheVariants as stop

-- what is given where there is no reading
abbrev pub NoReading : Type 0
NoReading = Unit {0}

-- A call gives no value, as the definition gives none, or where memory runs out.
abbrev pub Stops : {A : Type 0} → Stop → Result A NoReading → Type 0
Stops stop.Unread read = read ≡ Err tt
Stops stop.Memory read = Unit {0}

-- A call gives what the definition gives, with a view of the call's value.
abbrev pub ReportsBy : {X A : Type 0} → (X → A) → Result X Stop → Result A NoReading → Type 0
ReportsBy view (Ok x) read = read ≡ Ok (view x)
ReportsBy view (Err why) read = Stops why read

-- A call gives what the definition gives.
abbrev pub Reports : {A : Type 0} → Result A Stop → Result A NoReading → Type 0
Reports = ReportsBy (λ a. a)
