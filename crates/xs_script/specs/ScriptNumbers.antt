-- The values of numbers as they stand.
use Rattle.std.specs.Bool.{then_some}
use Rattle.std.specs.Prelude.{ℕ, ◌-◌, ◌^◌, ◌==◌, if◌then◌else◌, nat_lt, nat_le, List, [], ◌∷◌, Option, Some, pos, neg_ℤ}
use Rattle.xs_base.specs.Scanning.{value_of_digits}
use Rattle.xs_script.specs.declared.command.Number.{Number}
use Rattle.xs_script.specs.declared.command.Number.TheVariants.{Int, Uns}

abbrev pub some_number : Number → Option Number
some_number n = Some n

abbrev pub positive : ℕ → Option Number
positive n = if nat_lt n (2 ^ 63) then Some (Int (pos n)) else then_some (nat_lt n (2 ^ 64)) (Uns n)

abbrev pub negative : ℕ → Option Number
negative n = then_some (nat_le n (2 ^ 63)) (Int (neg_ℤ (pos n)))

-- an optional sign and digits, by what their value means after a sign and what it means without one
abbrev pub signed : {A : Type 0} → (ℕ → Option A) → (ℕ → Option A) → List ℕ → Option A
signed below above [] = above 0
signed below above (b ∷ digits) = if b == 45 then below (value_of_digits digits)
    else above (value_of_digits (b ∷ digits))

-- the value of an optional sign and digits, between -2^63 and 2^64 - 1
abbrev pub number_of : List ℕ → Option Number
number_of text = signed negative positive text

abbrev pub small : ℕ → ℕ → Option ℕ
small limit n = then_some (nat_le n limit) n

-- the value of an optional sign and digits, between 0 and 2^32 - 1
abbrev pub argument_of : List ℕ → Option ℕ
argument_of text = signed (small 0) (small (2 ^ 32 - 1)) text
