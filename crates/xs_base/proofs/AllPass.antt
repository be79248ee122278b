-- Tests that all elements of a list pass.
use Rattle.std.proofs.Common.{◌≡◌, Bool, true, List, [], ◌∷◌, ◌++◌, refl, ◌∙◌}
use Rattle.std.proofs.lemmas.Bool.{and_from, and_parts}
use Rattle.std.proofs.lemmas.List.Folds.{list_all-append}
use Rattle.std.specs.List.{list_all}

pub all-append : {A : Type 0} (p : A → Bool) (xs ys : List A) → list_all p xs ≡ true → list_all p ys ≡ true → list_all p (xs ++ ys) ≡ true
all-append p xs ys hx hy = list_all-append p xs ys ∙ and_from (list_all p xs) (list_all p ys) hx hy

-- a test that passes wherever another does
pub all-weaker : {A : Type 0} (p q : A → Bool) → ((x : A) → p x ≡ true → q x ≡ true) → (xs : List A) → list_all p xs ≡ true → list_all q xs ≡ true
all-weaker p q each [] h = refl
all-weaker p q each (x ∷ xs) h =
    let g = and_parts (p x) (list_all p xs) h in
    and_from (q x) (list_all q xs) (each x g.0) (all-weaker p q each xs g.1)
