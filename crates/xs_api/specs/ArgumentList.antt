-- The argument stack as a list of items.
use Rattle.std.specs.Prelude.{◌≡◌, ◌⊎◌, ℕ, ◌+◌, ◌<◌, ◌≤◌, ℤ, pos, negsuc, if◌then◌else◌, nat_le, List, [], ◌∷◌, ◌++◌, length, Option, Some, None, Result, Ok, Err, slice_set}
use Rattle.xs_values.specs.declared.trap.Trap.TheVariants as trap
use Rattle.xs_api.specs.declared.api.Stop.{Stop}
use Rattle.xs_api.specs.declared.api.Stop.TheVariants as stop
use Rattle.xs_api.specs.Limits.{most_items}

-- the index of an item that is counted from a base, where it is no further than one past the list
abbrev pub item_index : ℕ → ℤ → ℕ → Option ℕ
item_index base (pos i) len = if nat_le (base + i) len then Some (base + i) else None
item_index base (negsuc i) len = None

-- an item is written or appended, is out of bounds, or is one too many
abbrev pub Puts : List ℕ → ℕ → ℕ → Result (Unit {0}) Stop → List ℕ → Type 0
Puts old at n (Ok u) new = ((at < length old) × (new ≡ slice_set old at n))
    ⊎ ((at ≡ length old) × ((at < most_items) × (new ≡ old ++ n ∷ [])))
Puts old at n (Err (stop.Trap trap.Bounds)) new = (length old < at) × (new ≡ old)
Puts old at n (Err (stop.Trap trap.Large)) new =
    (at ≡ length old) × ((most_items ≤ at) × (new ≡ old))
Puts old at n (Err (stop.Trap t)) new = ⊥
Puts old at n (Err stop.Memory) new = new ≡ old
