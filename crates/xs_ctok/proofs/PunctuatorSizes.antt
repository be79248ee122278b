-- A punctuator in front of a text lies within it.
use Rattle.std.proofs.Common.{◌≡◌, ℕ, ◌≤◌, ◌==◌, ◌||◌, Bool, true, false, List, [], ◌∷◌, length, map, take, refl, ap, sym, ◌∙◌, arith}
use Rattle.std.proofs.lemmas.Bool.{and_parts, eqb-true}
use Rattle.std.proofs.lemmas.List.{length-take}
use Rattle.std.specs.List.{list_all}
use Rattle.std.specs.Prelude.{if◌then◌else◌}
use Rattle.std.specs.Str.{bytes_eq}
use Rattle.xs_base.specs.Names.{is_among}
use Rattle.xs_ctok.specs.Punctuators.{is_double, is_single, is_triple, punctuator_len}
use Rattle.xs_ctok.specs.declared.punctuators.TheConstants.{DOUBLES, SINGLES, TRIPLES}
use Rattle.std.proofs.lemmas.Slice.Eq.{bytes_eq-Decides}

-- a word that is listed has the size of those that are listed
pub among_size : (n : ℕ) (words : List (List ℕ)) (word : List ℕ) → list_all (λ (w : List ℕ). length w == n) words ≡ true → is_among words word ≡ true
    → length word ≡ n
among_size n [] word all h = absurd cc
among_size n (w ∷ words) word all h =
    let p = and_parts (length w == n) (list_all (λ (v : List ℕ). length v == n) words) all in
    by (bytes_eq w word) refl p.0 (among_size n words word p.1) h
  where
    by : (t : Bool) → bytes_eq w word ≡ t → (length w == n) ≡ true → (is_among words word ≡ true → length word ≡ n)
        → (t || is_among words word) ≡ true → length word ≡ n
    by true e size ih h = ap length (sym ((bytes_eq-Decides w word).0 e)) ∙ eqb-true (length w) n size
    by false e size ih h = ih h

-- what is listed of n bytes in front of a text lies within it
taken_size : (n : ℕ) (words : List (List ℕ)) (text : List ℕ) → list_all (λ (w : List ℕ). length w == n) words ≡ true → is_among words (take n text) ≡ true
    → n ≤ length text
taken_size n words text all h = omega (arith, among_size n words (take n text) all h, length-take n text)

pub punctuator_size : (text : List ℕ) → punctuator_len text ≤ length text
unfolding punctuator_len
punctuator_size text = by_three (is_triple (take 3 text)) refl
  where
    by_one : (t : Bool) → is_single (take 1 text) ≡ t → (if t then 1 else 0) ≤ length text
    by_one true e = taken_size 1 (map (λ p. p.now) SINGLES) text refl e
    by_one false e = omega arith

    by_two : (t : Bool) → is_double (take 2 text) ≡ t → (if t then 2 else (if is_single (take 1 text) then 1 else 0)) ≤ length text
    by_two true e = taken_size 2 (map (λ p. p.now) DOUBLES) text refl e
    by_two false e = by_one (is_single (take 1 text)) refl

    by_three : (t : Bool) → is_triple (take 3 text) ≡ t
        → (if t then 3 else (if is_double (take 2 text) then 2 else (if is_single (take 1 text) then 1 else 0))) ≤ length text
    by_three true e = taken_size 3 (map (λ p. p.now) TRIPLES) text refl e
    by_three false e = by_two (is_double (take 2 text)) refl
