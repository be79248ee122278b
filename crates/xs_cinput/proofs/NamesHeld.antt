-- The names that a set of names holds.
use Rattle.std.proofs.Common.{◌≡◌, ℕ, false, ◌||◌, if◌then◌else◌, List, [], ◌∷◌, ◌++◌, map, refl, ap, ◌∙◌, arith}
use Rattle.std.proofs.lemmas.List.{map-append}
use Rattle.std.proofs.lemmas.Bool.Decides.{nat_tests}
use Rattle.std.specs.List.{list_any}
use Rattle.std.specs.Str.{bytes_eq}
use Rattle.std.specs.declared.alloc.Global.{Global}
use Rattle.std.specs.declared.vec.Vec.{Vec}
use Rattle.xs_base.specs.Names.{is_among}

same_both_ways : (xs ys : List ℕ) → bytes_eq xs ys ≡ bytes_eq ys xs
same_both_ways [] [] = refl
same_both_ways [] (y ∷ ys) = refl
same_both_ways (x ∷ xs) [] = refl
same_both_ways (x ∷ xs) (y ∷ ys) = grind (arith, nat_tests, same_both_ways xs ys)

-- a set has a name where the names that it holds have it
pub set_has : (keys : List (Vec ℕ Global)) (word : List ℕ) → list_any (λ (key : Vec ℕ Global). bytes_eq word key.items) keys
    ≡ is_among (map (λ (key : Vec ℕ Global). key.items) keys) word
set_has [] word = refl
set_has (key ∷ keys) word =
    ap (λ t. t || list_any (λ (k : Vec ℕ Global). bytes_eq word k.items) keys) (same_both_ways word key.items)
    ∙ ap (λ t. bytes_eq key.items word || t) (set_has keys word)

-- the names that a set holds, after it took one that it had not
pub set_with : (keys new : List (Vec ℕ Global)) (key : Vec ℕ Global) (word : List ℕ) (old : List (List ℕ)) → key.items ≡ word
    → map (λ (k : Vec ℕ Global). k.items) keys ≡ old → is_among old word ≡ false
    → new ≡ (if list_any (λ (k : Vec ℕ Global). bytes_eq key.items k.items) keys then keys else keys ++ key ∷ [])
    → map (λ (k : Vec ℕ Global). k.items) new ≡ (if is_among old word then old else old ++ word ∷ [])
set_with keys new key word old e v f n =
    let h : list_any (λ (k : Vec ℕ Global). bytes_eq key.items k.items) keys ≡ false =
    set_has keys key.items ∙ ap (λ w. is_among (map (λ (k : Vec ℕ Global). k.items) keys) w) e ∙ ap (λ names. is_among names word) v ∙ f in
    let k : new ≡ keys ++ key ∷ [] = n ∙ rw h refl in
    ap (map (λ (k : Vec ℕ Global). k.items)) k
    ∙ map-append (λ (k : Vec ℕ Global). k.items) keys (key ∷ [])
    ∙ ap (λ names. names ++ key.items ∷ []) v
    ∙ ap (λ w. old ++ w ∷ []) e
    ∙ rw f refl
