-- What the heap's calls answer.
use Rattle.std.specs.Prelude.{◌≡◌, ℕ, ◌≤◌, Bool, true, false, Option, Some, None, Result, Ok, Err, length}
use Rattle.std.specs.Option.{option_map}
use Rattle.xs_values.specs.declared.plain.Plain.{Plain}
use Rattle.xs_api.specs.declared.heap.Cell.{Cell}
use Rattle.xs_api.specs.declared.heap.HeapFail.{HeapFail}
use Rattle.xs_api.specs.declared.heap.HeapFail.TheVariants.{Large, Memory}
use Rattle.xs_api.specs.Limits.{most_names}
use Rattle.xs_api.specs.World.{Cells, cell_at, live_of, may_make, with_lowered, with_new, with_value}

-- what holds of each heap: no scalar has the name 0, the immortals are there, and the living
-- scalars are counted
pub record HeapHolds (cells : Cells) (live : ℕ) : Type 0 where
  pub none : cell_at 0 cells ≡ None
  pub long : 5 ≤ length cells
  pub short : length cells ≤ most_names
  pub counted : live ≡ live_of cells

-- the value of a scalar, where it is there
abbrev pub value_at : ℕ → Cells → Option Plain
value_at n cells = option_map (λ c. c.value) (cell_at n cells)

-- a scalar is made, the limit is reached, or memory is not found
abbrev pub Makes : Plain → Cells → Result ℕ HeapFail → Cells → Type 0
Makes p old (Ok n) new = (may_make old ≡ true) × (n ≡ length old) × (new ≡ with_new p old)
Makes p old (Err Large) new = (may_make old ≡ false) × (new ≡ old)
Makes p old (Err Memory) new = new ≡ old

-- a value is set, or the scalar is gone
abbrev pub Sets : ℕ → Plain → Cells → Bool → Cells → Type 0
Sets n p old true new = (c : Cell) × (cell_at n old ≡ Some c) × (new ≡ with_value n c p old)
Sets n p old false new = (cell_at n old ≡ None) × (new ≡ old)

-- an owner is removed, or the scalar is gone
abbrev pub Lowers : ℕ → Cells → Bool → Cells → Type 0
Lowers n old true new = (c : Cell) × (cell_at n old ≡ Some c) × (new ≡ with_lowered n c old)
Lowers n old false new = (cell_at n old ≡ None) × (new ≡ old)

-- how many owners a scalar has, or that it is gone
abbrev pub Counts : ℕ → Cells → Option ℕ → Type 0
Counts n cells None = cell_at n cells ≡ None
Counts n cells (Some k) = (c : Cell) × (cell_at n cells ≡ Some c) × (k ≡ c.count)
