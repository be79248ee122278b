-- Names that were noted.
use Rattle.std.specs.Prelude.{ℕ, List, map}
use denote.Ref.{Bor}

-- the names that slices hold
abbrev pub names_of : List (Bor (List ℕ)) → List (List ℕ)
names_of slices = map (λ (slice : Bor (List ℕ)). slice.now) slices
