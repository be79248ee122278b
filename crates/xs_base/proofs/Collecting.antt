-- What the elements of a list give, one after the other.
use Rattle.std.proofs.Common.{◌≡◌, ℕ, suc, ◌<◌, List, [], ◌∷◌, ◌++◌, drop, get_or, length, map, Result, Ok, Err, refl, sym, ap, ◌∙◌, append_assoc, drop-cons}
use Rattle.xs_base.specs.Reading.{◌>>=◌, Fails, collect, with_front}
use Rattle.xs_base.specs.declared.fault.Fault.{Fault}
use Rattle.xs_base.specs.declared.fault.Refuse.{Refuse}
use Rattle.xs_base.specs.declared.fault.Refuse.TheVariants as refuse

-- ---- what is given after other

-- a list in front of a list in front of another
pub with_front-with_front : {A E : Type 0} (xs ys : List A) (r : Result (List A) E) → with_front xs (with_front ys r) ≡ with_front (xs ++ ys) r
with_front-with_front {A} {E} xs ys (Ok zs) = ap (λ (l : List A). let r : Result (List A) E = Ok l in r) (sym (append_assoc xs ys zs))
with_front-with_front xs ys (Err e) = refl

no_front : {A E : Type 0} (r : Result (List A) E) → r ≡ with_front [] r
no_front (Ok xs) = refl
no_front (Err e) = refl

-- what is given, and what is given after it
abbrev pub joined : {A : Type 0} → Result (List A) Fault → Result (List A) Fault → Result (List A) Fault
joined first more = first >>= (λ front. with_front front more)

pub with_front-joined : {A : Type 0} (xs : List A) (first more : Result (List A) Fault) → with_front xs (joined first more) ≡ joined (with_front xs first) more
with_front-joined xs (Ok ys) more = with_front-with_front xs ys more
with_front-joined xs (Err fault) more = refl

-- ---- faults

-- the fault of a stage is the fault of all
pub fails_then : {A B : Type 0} (e : Refuse) (before : List B) (r : Result A Fault) (next : A → Result (List B) Fault) → Fails e r
    → Fails e (with_front before (r >>= next))
fails_then refuse.Memory before r next h = tt
fails_then (refuse.Fault fault) before r next h = rw h refl

pub fails_after : {A : Type 0} (e : Refuse) (before : List A) (r : Result (List A) Fault) → Fails e r → Fails e (with_front before r)
fails_after refuse.Memory before r h = tt
fails_after (refuse.Fault fault) before r h = rw h refl

-- ---- lists

-- an element, and what the elements after it give in two parts
one_joined : {B : Type 0} (first : Result B Fault) (xs ys : Result (List B) Fault)
    → (first >>= (λ y. with_front (y ∷ []) (joined xs ys))) ≡ joined (first >>= (λ y. with_front (y ∷ []) xs)) ys
one_joined (Ok y) xs ys = with_front-joined (y ∷ []) xs ys
one_joined (Err fault) xs ys = refl

-- a list gives what its two parts give
pub collect-append : {A B : Type 0} (read : A → Result B Fault) (xs ys : List A) → collect read (xs ++ ys) ≡ joined (collect read xs) (collect read ys)
collect-append read [] ys = no_front (collect read ys)
collect-append {A} {B} read (x ∷ xs) ys =
    ap (λ (r : Result (List B) Fault). read x >>= (λ y. with_front (y ∷ []) r)) (collect-append read xs ys)
    ∙ one_joined (read x) (collect read xs) (collect read ys)

-- one element gives a value
gives_one : {A B : Type 0} (read : A → Result B Fault) (before : List B) (x : A) (y : B) (xs : List A) → read x ≡ Ok y
    → with_front before (collect read (x ∷ xs)) ≡ with_front (before ++ y ∷ []) (collect read xs)
gives_one {A} {B} read before x y xs h =
    ap (λ (r : Result B Fault). with_front before (r >>= (λ z. with_front (z ∷ []) (collect read xs)))) h
    ∙ with_front-with_front before (y ∷ []) (collect read xs)

-- the next element gives a value
pub next_gives : {A B : Type 0} (read : A → Result B Fault) (before more : List B) (all : List A) (i j : ℕ) (x : A) (y : B) → i < length all → j ≡ suc i
    → x ≡ get_or all i x → read x ≡ Ok y
    → more ≡ before ++ y ∷ [] → with_front before (collect read (drop i all)) ≡ with_front more (collect read (drop j all))
next_gives {A} {B} read before more all i j x y within next is h longer =
    ap (λ (xs : List A). with_front before (collect read xs)) (drop-cons all i x within ∙ ap (λ (z : A). z ∷ drop (suc i) all) (sym is))
    ∙ gives_one read before x y (drop (suc i) all) h
    ∙ ap (λ (ys : List B). with_front ys (collect read (drop (suc i) all))) (sym longer)
    ∙ ap (λ (k : ℕ). with_front more (collect read (drop k all))) (sym next)

-- as many are given as there are elements
pub length-collect : {A B : Type 0} (read : A → Result B Fault) (xs : List A) (ys : List B) → collect read xs ≡ Ok ys → length ys ≡ length xs
length-collect {A} {B} read [] ys e = let same : [] ≡ ys = cc in ap length (sym same)
length-collect {A} {B} read (x ∷ xs) ys e = by (read x) (collect read xs) e (length-collect read xs)
  where
    by : (first : Result B Fault) (r : Result (List B) Fault) → (first >>= (λ y. with_front (y ∷ []) r)) ≡ Ok ys
        → ((zs : List B) → r ≡ Ok zs → length zs ≡ length xs) → length ys ≡ suc (length xs)
    by (Ok y) (Ok zs) h ih = let same : y ∷ zs ≡ ys = cc in ap length (sym same) ∙ ap suc (ih zs refl)
    by (Ok y) (Err fault) h ih = absurd cc
    by (Err fault) r h ih = absurd cc

-- each element gives its value
pub collect_each : {A B : Type 0} (read : A → Result B Fault) (xs : List A) (ys : List B) → map read xs ≡ map Ok ys → collect read xs ≡ Ok ys
collect_each read [] [] h = refl
collect_each read [] (y ∷ ys) h = absurd cc
collect_each read (x ∷ xs) [] h = absurd cc
collect_each {A} {B} read (x ∷ xs) (y ∷ ys) h =
    let first : read x ≡ Ok y = cc in
    let more : map read xs ≡ map Ok ys = cc in
    rw (first, collect_each read xs ys more) refl
