-- Lists whose elements all pass a test, and the first that passes.
use Rattle.std.proofs.Common.{◌≡◌, ℕ, suc, zero, ◌+◌, ◌||◌, Bool, true, false, cond, List, [], ◌∷◌, None, Some, map, take, refl}
use Rattle.std.proofs.lemmas.Bool.{and_from, and_parts}
use Rattle.std.specs.List.{AllByRecursion as All, list_all, list_any, position_from}

-- the first elements of those that all pass
pub list_all-take : {A : Type 0} (p : A → Bool) (n : ℕ) (xs : List A) → list_all p xs ≡ true → list_all p (take n xs) ≡ true
list_all-take p zero xs h = refl
list_all-take p (suc n) [] h = refl
list_all-take p (suc n) (x ∷ xs) h =
    let g = and_parts (p x) (list_all p xs) h in
    and_from (p x) (list_all p (take n xs)) g.0 (list_all-take p n xs g.1)

-- what elements that pass are made into
pub all_made : {A B : Type 0} (p : A → Bool) (f : A → B) (Q : B → Type 0) → ((x : A) → p x ≡ true → Q (f x)) → (xs : List A) → list_all p xs ≡ true
    → All Q (map f xs)
all_made p f Q each [] h = tt
all_made p f Q each (x ∷ xs) h = let g = and_parts (p x) (list_all p xs) h in (each x g.0, all_made p f Q each xs g.1)

-- no place is found, so none passes
pub none_found : {A : Type 0} (test : A → Bool) (i : ℕ) (xs : List A) → position_from test i xs ≡ None → list_any test xs ≡ false
none_found test i [] h = refl
none_found test i (x ∷ xs) h = by (test x) h (none_found test (i + 1) xs)
  where
    by : (t : Bool) → cond t (Some i) (position_from test (i + 1) xs) ≡ None → (position_from test (i + 1) xs ≡ None → list_any test xs ≡ false)
        → (t || list_any test xs) ≡ false
    by true none ih = absurd cc
    by false none ih = ih none
