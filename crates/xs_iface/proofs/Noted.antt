-- Names that were noted.
use Rattle.std.proofs.Common.{◌≡◌, ℕ, ◌||◌, List, [], ◌∷◌, refl, ap, ◌∙◌, arith}
use Rattle.std.proofs.lemmas.Bool.Decides.{nat_tests}
use Rattle.std.specs.List.{list_any}
use Rattle.std.specs.Str.{bytes_eq}
use denote.Ref.{Bor}
use Rattle.xs_base.specs.Names.{is_among}
use Rattle.xs_iface.specs.Repeats.{names_of}

pub same_both_ways : (xs ys : List ℕ) → bytes_eq xs ys ≡ bytes_eq ys xs
same_both_ways [] [] = refl
same_both_ways [] (y ∷ ys) = refl
same_both_ways (x ∷ xs) [] = refl
same_both_ways (x ∷ xs) (y ∷ ys) = grind (arith, nat_tests, same_both_ways xs ys)

-- a set has a name where the names that it holds have it
pub set_has : (slices : List (Bor (List ℕ))) (name : Bor (List ℕ)) → list_any (λ (slice : Bor (List ℕ)). bytes_eq name.now slice.now) slices
    ≡ is_among (names_of slices) name.now
set_has [] name = refl
set_has (slice ∷ slices) name =
    ap (λ t. t || list_any (λ (s : Bor (List ℕ)). bytes_eq name.now s.now) slices) (same_both_ways name.now slice.now)
    ∙ ap (λ t. bytes_eq slice.now name.now || t) (set_has slices name)
