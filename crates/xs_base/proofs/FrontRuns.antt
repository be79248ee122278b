-- A run in front of a text and what stands after it make up the text.
use Rattle.std.proofs.Common.{◌≡◌, ℕ, ◌+◌, ◌<◌, Bool, true, false, List, [], ◌∷◌, ◌++◌, length, take, drop, Option, None, Some, refl, ap, sym, ◌∙◌, arith}
use Rattle.std.proofs.lemmas.Bool.{and_from, and_parts, eqb-true}
use Rattle.std.proofs.lemmas.List.{length-append}
use Rattle.std.proofs.lemmas.Option.{cond_some}
use Rattle.std.specs.List.{list_all}
use Rattle.std.specs.Prelude.{◌==◌, if◌then◌else◌, option_and_then}
use Rattle.xs_base.specs.ByteRuns.{after_run, belongs, front_of}
use Rattle.xs_base.specs.Readers.{head_is}
use Rattle.xs_base.specs.Scanning.{strip_byte, strip_prefix}
use Rattle.xs_base.specs.declared.byte_runs.ByteClass.{ByteClass}

pub front_is : (class : ByteClass) (xs : List ℕ) → take (length (front_of class xs)) xs ≡ front_of class xs
front_is class [] = refl
front_is class (b ∷ bs) = elim (belongs class b) as (λ t. take (length (if t then b ∷ front_of class bs else [])) (b ∷ bs)
    ≡ (if t then b ∷ front_of class bs else [])) [
      | true ↦ ap (λ (ys : List ℕ). b ∷ ys) (front_is class bs)
      | false ↦ refl
    ]

pub after_is : (class : ByteClass) (xs : List ℕ) → drop (length (front_of class xs)) xs ≡ after_run class xs
after_is class [] = refl
after_is class (b ∷ bs) = elim (belongs class b) as (λ t. drop (length (if t then b ∷ front_of class bs else [])) (b ∷ bs)
    ≡ (if t then after_run class bs else b ∷ bs)) [
      | true ↦ after_is class bs
      | false ↦ refl
    ]

pub front_after : (class : ByteClass) (xs : List ℕ) → front_of class xs ++ after_run class xs ≡ xs
front_after class [] = refl
front_after class (b ∷ bs) = elim (belongs class b) as (λ t. (if t then b ∷ front_of class bs else []) ++ (if t then after_run class bs else b ∷ bs) ≡ b ∷ bs) [
  | true ↦ ap (λ (ys : List ℕ). b ∷ ys) (front_after class bs)
  | false ↦ refl
]

-- the bytes of a run are all of the class
pub front_belongs : (class : ByteClass) (xs : List ℕ) → list_all (belongs class) (front_of class xs) ≡ true
front_belongs class [] = refl
front_belongs class (b ∷ bs) = by (belongs class b) refl (front_belongs class bs)
  where
    by : (t : Bool) → belongs class b ≡ t → list_all (belongs class) (front_of class bs) ≡ true
        → list_all (belongs class) (if t then b ∷ front_of class bs else []) ≡ true
    by true e ih = and_from (belongs class b) (list_all (belongs class) (front_of class bs)) e ih
    by false e ih = refl

-- the byte after a run is not of the class
pub after_stops : (class : ByteClass) (xs : List ℕ) → head_is (belongs class) (after_run class xs) ≡ false
after_stops class [] = refl
after_stops class (b ∷ bs) = by (belongs class b) refl (after_stops class bs)
  where
    by : (t : Bool) → belongs class b ≡ t → head_is (belongs class) (after_run class bs) ≡ false
        → head_is (belongs class) (if t then after_run class bs else b ∷ bs) ≡ false
    by true e ih = ih
    by false e ih = e

-- bytes of a class, with a byte after them that is not of it, are the run
pub front_seam : (class : ByteClass) (run rest : List ℕ) → list_all (belongs class) run ≡ true → head_is (belongs class) rest ≡ false
    → front_of class (run ++ rest) ≡ run
front_seam class [] [] all stop = refl
front_seam class [] (b ∷ bs) all stop = rw stop refl
front_seam class (b ∷ bs) rest all stop =
    let h = and_parts (belongs class b) (list_all (belongs class) bs) all in
    rw h.0 (ap (λ (ys : List ℕ). b ∷ ys) (front_seam class bs rest h.1 stop))

pub after_seam : (class : ByteClass) (run rest : List ℕ) → list_all (belongs class) run ≡ true → head_is (belongs class) rest ≡ false
    → after_run class (run ++ rest) ≡ rest
after_seam class [] [] all stop = refl
after_seam class [] (b ∷ bs) all stop = rw stop refl
after_seam class (b ∷ bs) rest all stop =
    let h = and_parts (belongs class b) (list_all (belongs class) bs) all in
    rw h.0 (after_seam class bs rest h.1 stop)

-- a byte of a class in front is one of the run
pub front_some : (class : ByteClass) (text : List ℕ) → head_is (belongs class) text ≡ true → 0 < length (front_of class text)
front_some class [] h = absurd cc
front_some class (b ∷ bs) h = by (belongs class b) h
  where
    by : (t : Bool) → t ≡ true → 0 < length (if t then b ∷ front_of class bs else [])
    by true e = omega arith
    by false e = absurd cc

-- and bytes of a class begin with one
pub head_belongs : (class : ByteClass) (run rest : List ℕ) → list_all (belongs class) run ≡ true → 0 < length run → head_is (belongs class) (run ++ rest) ≡ true
head_belongs class [] rest all some = absurd (omega (arith, some))
head_belongs class (b ∷ bs) rest all some = (and_parts (belongs class b) (list_all (belongs class) bs) all).0

-- how long both are
pub run_sizes : (class : ByteClass) (xs : List ℕ) → length (front_of class xs) + length (after_run class xs) ≡ length xs
run_sizes class xs = sym (length-append (front_of class xs) (after_run class xs)) ∙ ap length (front_after class xs)

-- ---- a word in front of a text

byte_in_front : (w : ℕ) (text next : List ℕ) → strip_byte w text ≡ Some next → text ≡ w ∷ next
byte_in_front w [] next h = absurd cc
byte_in_front w (b ∷ bs) next h =
    let g = cond_some (b == w) bs next h in
    let at : b ≡ w = eqb-true b w g.0 in
    ap (λ (c : ℕ). c ∷ bs) at ∙ ap (λ (ys : List ℕ). w ∷ ys) g.1

pub word_in_front : (word text next : List ℕ) → strip_prefix word text ≡ Some next → text ≡ word ++ next
word_in_front [] text next h = cc
word_in_front (w ∷ ws) text next h = by (strip_byte w text) refl (word_in_front ws) h
  where
    by : (o : Option (List ℕ)) → strip_byte w text ≡ o → ((u v : List ℕ) → strip_prefix ws u ≡ Some v → u ≡ ws ++ v)
        → option_and_then (strip_prefix ws) o ≡ Some next → text ≡ w ∷ (ws ++ next)
    by None e ih some = absurd cc
    by (Some u) e ih some = byte_in_front w text u e ∙ ap (λ (v : List ℕ). w ∷ v) (ih u next some)
