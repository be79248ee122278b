-- Places of names in a list.
use Rattle.std.proofs.Common.{◌≡◌, ℕ, ◌^◌, ◌<◌, ◌≤◌, List, [], length, Some, arith}
use Rattle.std.proofs.lemmas.List.Quantifiers.{position-Some}
use Rattle.std.specs.List.{position}
use Rattle.std.specs.Prelude.{Bool}

-- a place in a short list
pub place_is_small : (test : List ℕ → Bool) (names : List (List ℕ)) (place : ℕ) → position test names ≡ Some place → length names ≤ 64 → place < 2 ^ 32
place_is_small test names place at few = omega (arith, (position-Some test names place [] at).0, few)
