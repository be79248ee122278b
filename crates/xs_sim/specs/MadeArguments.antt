-- The arguments of a call are made, one after the other, or a limit is reached.
use Rattle.std.specs.Prelude.{ℤ, ℕ, List, [], ◌∷◌, length, if◌then◌else◌}
use Rattle.xs_api.specs.Rows.{with_mortal}
use Rattle.xs_api.specs.World.{World, may_make}
use Rattle.xs_values.specs.declared.plain.Plain.TheVariants.{Int}
use Rattle.xs_values.specs.declared.trap.Trap.{Trap}
use Rattle.xs_values.specs.declared.trap.Trap.TheVariants.{Large}

pub data Made : Type 0 where
  AllMade : List ℕ → World → Made
  NotMade : Trap → Made

abbrev pub with_name : ℕ → Made → Made
with_name n (AllMade names w) = AllMade (n ∷ names) w
with_name n (NotMade trap) = NotMade trap

-- the arguments of a call are made, each a new temporary
abbrev pub args_made : List ℤ → World → Made
args_made [] w = AllMade [] w
args_made (z ∷ zs) w =
    if may_make w.cells then with_name (length w.cells) (args_made zs (with_mortal (Int z) w))
    else NotMade Large
