-- The limits that a user can see.
use Rattle.std.specs.Prelude.{ℕ}

-- how many items the argument stack may have
abbrev pub most_items : ℕ
most_items = 1000000

-- how many names there are at most: 4,000,000 scalars that are made in one run, and those of 0 to 4
abbrev pub most_names : ℕ
most_names = 4000005
