-- What the rows work on: counted scalars, Perl's stacks, and the registered names.
use Rattle.std.specs.Prelude.{ℕ, zero, suc, ◌-◌, pos, Bool, if◌then◌else◌, ◌&&◌, nat_le, nat_lt, List, [], ◌∷◌, ◌++◌, length, take, drop, map, Option, Some, None, slice_index_or, slice_set}
use Rattle.std.specs.List.{count_by}
use Rattle.std.specs.Map.{lookup}
use Rattle.std.specs.Option.{is_some}
use Rattle.std.specs.Str.{bytes_eq}
use Rattle.xs_values.specs.declared.plain.Plain.{Plain}
use Rattle.xs_values.specs.declared.plain.Plain.TheVariants as plain
use Rattle.xs_values.specs.declared.trap.Trap.{Trap}
use Rattle.xs_values.specs.declared.trap.Trap.TheVariants as trap
use Rattle.xs_api.specs.declared.api.Registered.{Registered}
use Rattle.xs_api.specs.declared.heap.Cell.{Cell}
use Rattle.xs_api.specs.Limits.{most_names}
use Rattle.xs_api.specs.declared.stacks.Depths.{Depths}

-- Scalars by their names, None where one is gone. The next name is the length, and no name is given
-- twice.
abbrev pub Cells : Type 0
Cells = List (Option Cell)

-- The cells; the argument list, which may be longer than its top; the marks, the temporaries and
-- the scopes, the newest first; and the registered names, the newest first.
pub record World : Type 0 where
  pub cells : Cells
  pub args : List ℕ
  pub top : ℕ
  pub marks : List ℕ
  pub temps : List ℕ
  pub scopes : List ℕ
  pub names : List Registered

-- ---- scalars

abbrev pub uncounted : Plain → Option Cell
uncounted p = Some (record { value = p; count = 0 })

-- Names 1 to 4 are undef, yes, no and the scalar of $@: they are always there and never counted. No
-- scalar has the name 0.
abbrev pub new_cells : Cells
new_cells = None ∷ uncounted plain.Undef ∷ uncounted (plain.Int (pos 1)) ∷ uncounted (plain.Text [])
    ∷ uncounted (plain.Text []) ∷ []

abbrev pub is_uncounted : ℕ → Bool
is_uncounted n = nat_le 1 n && nat_le n 4

abbrev pub is_read_only : ℕ → Bool
is_read_only n = nat_le 1 n && nat_le n 3

abbrev pub cell_at : ℕ → Cells → Option Cell
cell_at n cells = slice_index_or cells n None

-- the trap for a scalar that is gone
abbrev pub gone : ℕ → Cells → Trap
gone n cells = trap.Gone n (length cells)

-- whether one more scalar may be made
abbrev pub may_make : Cells → Bool
may_make cells = nat_lt (length cells) most_names

-- a new scalar with one owner, whose name is the next
abbrev pub with_new : Plain → Cells → Cells
with_new p cells = cells ++ Some (record { value = p; count = 1 }) ∷ []

abbrev pub with_value : ℕ → Cell → Plain → Cells → Cells
with_value n c p cells = slice_set cells n (Some (record { value = p; count = c.count }))

-- a scalar with one owner less, which is gone where none is left
abbrev pub lowered : ℕ → Plain → Option Cell
lowered zero p = None
lowered (suc zero) p = None
lowered (suc (suc k)) p = Some (record { value = p; count = suc k })

abbrev pub with_lowered : ℕ → Cell → Cells → Cells
with_lowered n c cells = slice_set cells n (lowered c.count c.value)

abbrev pub living : Cells → ℕ
living cells = count_by is_some cells

-- how many scalars are counted
abbrev pub live_of : Cells → ℕ
live_of cells = living (drop 5 cells)

-- ---- the end of temporaries

-- What is left where temporaries are freed: all went well, or one of them was gone.
pub data Swept (S : Type 0) : Type 0 where
  Clean : S → Swept S
  Dirty : Trap → S → Swept S

abbrev pub then_swept : {S : Type 0} → Swept S → (S → Swept S) → Swept S
then_swept (Clean s) go = go s
then_swept (Dirty t s) go = Dirty t s

abbrev pub with_cells : Cells → World → World
with_cells cells w = record w { cells = cells }

abbrev pub with_temps : List ℕ → World → World
with_temps temps w = record w { temps = temps }

abbrev pub lower_cell : Option Cell → ℕ → World → Swept World
lower_cell None n w = Dirty (gone n w.cells) w
lower_cell (Some c) n w = Clean (with_cells (with_lowered n c w.cells) w)

-- one owner of a scalar less
abbrev pub lower : ℕ → World → Swept World
lower n w = if is_uncounted n then Clean w else lower_cell (cell_at n w.cells) n w

-- Lowers so many temporaries of a list, the newest first. One that is gone has been popped from the
-- list.
abbrev pub free_newest : ℕ → List ℕ → World → Swept World
free_newest zero temps w = Clean (with_temps temps w)
free_newest (suc k) [] w = Clean (with_temps [] w)
free_newest (suc k) (n ∷ temps) w = then_swept (lower n (with_temps temps w)) (free_newest k temps)

-- frees the temporaries above a height
abbrev pub free_above : ℕ → World → Swept World
free_above height w = free_newest (length w.temps - height) w.temps w

-- the heights of the stacks
abbrev pub depths_of : World → Depths
depths_of w =
    record {
      args = w.top;
      marks = length w.marks;
      temps = length w.temps;
      scopes = length w.scopes;
    }

-- a stack, whose newest item comes first, cut to a height
abbrev pub cut_stack : {T : Type 0} → ℕ → List T → List T
cut_stack height items = drop (length items - height) items

-- the argument list cut to a new top
abbrev pub cut_args : ℕ → World → World
cut_args top w = record w { args = take top w.args; top = top }

-- the argument list, the marks and the scopes cut to these heights
abbrev pub cut_stacks : Depths → World → World
cut_stacks d w =
    record (cut_args d.args w) {
      marks = cut_stack d.marks w.marks;
      scopes = cut_stack d.scopes w.scopes;
    }

-- Frees the temporaries above a height, and then cuts all stacks.
abbrev pub sweep : Depths → World → Swept World
sweep d w = then_swept (free_above d.temps w) (λ after. Clean (cut_stacks d after))

-- ---- registered names

-- the number of the function that a name is registered for last
abbrev pub registered : List ℕ → List Registered → Option ℕ
registered name all = lookup (λ n. bytes_eq n name) (map (λ r. (r.name, r.function)) all)
