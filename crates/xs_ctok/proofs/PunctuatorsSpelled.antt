-- Punctuators are spelled as the rules say, and what is spelled so is read.
use Rattle.std.proofs.Common.{◌≡◌, ℕ, ◌<◌, ◌≤◌, ◌||◌, Bool, true, false, List, [], ◌∷◌, ◌++◌, length, map, take, drop, Option, None, Some, refl, ap, sym, ◌∙◌, subst, arith, eq-eqb}
use Rattle.std.proofs.lemmas.Bool.{and_parts, false_from_ne_true, or_left, or_right}
use Rattle.std.specs.List.{list_all}
use Rattle.std.specs.Prelude.{if◌then◌else◌, is_some}
use Rattle.std.specs.Str.{bytes_eq}
use Rattle.std.proofs.lemmas.Slice.Eq.{bytes_eq-Decides}
use Rattle.std.proofs.lemmas.List.{take-append-drop}
use Rattle.std.proofs.Math.Seq.{take-append_seam}
use Rattle.xs_base.specs.Names.{is_among}
use Rattle.xs_base.specs.Scanning.{starts_with, strip_prefix}
use Rattle.xs_base.proofs.FrontRuns.{word_in_front}
use Rattle.xs_ctok.specs.Punctuators.{is_double, is_single, is_triple, punctuator_len}
use Rattle.xs_ctok.specs.TokenSpelling.{IsPunctuator, is_no_punctuator, is_punctuator}
use Rattle.xs_ctok.specs.declared.punctuators.TheConstants.{DOUBLES, SINGLES, TRIPLES}
use Rattle.xs_ctok.proofs.PunctuatorSizes.{among_size}

-- ---- what is listed

triple_size : (p : List ℕ) → is_triple p ≡ true → length p ≡ 3
triple_size p h = among_size 3 (map (λ p. p.now) TRIPLES) p refl h

double_size : (p : List ℕ) → is_double p ≡ true → length p ≡ 2
double_size p h = among_size 2 (map (λ p. p.now) DOUBLES) p refl h

single_size : (p : List ℕ) → is_single p ≡ true → length p ≡ 1
single_size p h = among_size 1 (map (λ p. p.now) SINGLES) p refl h

-- what all listed words have, a listed word has
pub among_has : (P : List ℕ → Bool) (words : List (List ℕ)) (word : List ℕ) → list_all P words ≡ true → is_among words word ≡ true → P word ≡ true
among_has P [] word all h = absurd cc
among_has P (w ∷ words) word all h =
    let p = and_parts (P w) (list_all P words) all in
    by (bytes_eq w word) refl p.0 (among_has P words word p.1) h
  where
    by : (t : Bool) → bytes_eq w word ≡ t → P w ≡ true → (is_among words word ≡ true → P word ≡ true) → (t || is_among words word) ≡ true → P word ≡ true
    by true e first ih h = ap P (sym ((bytes_eq-Decides w word).0 e)) ∙ first
    by false e first ih h = ih h

-- ---- the front of a text

strip_front : (p rest : List ℕ) → strip_prefix p (p ++ rest) ≡ Some rest
strip_front [] rest = refl
strip_front (b ∷ p) rest = rw (eq-eqb b b refl) (strip_front p rest)

pub starts_front : (p rest : List ℕ) → starts_with p (p ++ rest) ≡ true
starts_front p rest = rw (strip_front p rest) refl

starts_taken : (n : ℕ) (text : List ℕ) → starts_with (take n text) text ≡ true
starts_taken n text = ap (starts_with (take n text)) (sym (take-append-drop n text)) ∙ starts_front (take n text) (drop n text)

take_front : (n : ℕ) (t rest : List ℕ) → length t ≡ n → take n (t ++ rest) ≡ t
take_front n t rest e = ap (λ k. take k (t ++ rest)) (sym e) ∙ take-append_seam t rest

-- ---- what is spelled is read

no_triple : (t rest : List ℕ) → IsPunctuator t rest → length t ≤ 2 → is_triple (take 3 (t ++ rest)) ≡ false
no_triple t rest x short = false_from_ne_true (is_triple (take 3 (t ++ rest))) (λ e.
    let p = take 3 (t ++ rest) in
    omega (arith, triple_size p e, x.longest p (or_left (is_triple p) (is_double p || is_single p) e) (starts_taken 3 (t ++ rest))))

no_double : (t rest : List ℕ) → IsPunctuator t rest → length t ≤ 1 → is_double (take 2 (t ++ rest)) ≡ false
no_double t rest x short = false_from_ne_true (is_double (take 2 (t ++ rest))) (λ e.
    let p = take 2 (t ++ rest) in
    omega (
      arith,
      double_size p e,
      x.longest p (or_right (is_triple p) (is_double p || is_single p) (or_left (is_double p) (is_single p) e)) (starts_taken 2 (t ++ rest)),
    ))

pub punctuator_done : (t rest : List ℕ) → IsPunctuator t rest → punctuator_len (t ++ rest) ≡ length t
unfolding punctuator_len
punctuator_done t rest x = by_triple (is_triple t) refl x.listed
  where
    by_double : (b : Bool) → is_double t ≡ b → (b || is_single t) ≡ true → punctuator_len (t ++ rest) ≡ length t
    by_double true e h =
        let size = double_size t e in
        rw (no_triple t rest x (omega (arith, size)), take_front 2 t rest size, e) (sym size)
    by_double false e h =
        let size = single_size t h in
        rw (no_triple t rest x (omega (arith, size)), no_double t rest x (omega (arith, size)), take_front 1 t rest size, h) (sym size)

    by_triple : (b : Bool) → is_triple t ≡ b → (b || (is_double t || is_single t)) ≡ true → punctuator_len (t ++ rest) ≡ length t
    by_triple true e h =
        let size = triple_size t e in
        rw (take_front 3 t rest size, e) (sym size)
    by_triple false e h = by_double (is_double t) refl h

-- ---- what is read is spelled

-- the longest is as long as each that is listed and stands in front
covers : (p rest : List ℕ) → is_punctuator p ≡ true → length p ≤ punctuator_len (p ++ rest)
unfolding punctuator_len
covers p rest h = by_triple (is_triple p) refl h
  where
    by_one : (b : Bool) → is_single p ≡ true → is_triple (take 3 (p ++ rest)) ≡ false → is_double (take 2 (p ++ rest)) ≡ b
        → length p ≤ punctuator_len (p ++ rest)
    by_one true e f g = rw (f, g) (omega (arith, single_size p e))
    by_one false e f g = rw (f, g, take_front 1 p rest (single_size p e), e) (omega (arith, single_size p e))

    by_three : (b : Bool) → is_single p ≡ true → is_triple (take 3 (p ++ rest)) ≡ b → length p ≤ punctuator_len (p ++ rest)
    by_three true e f = rw f (omega (arith, single_size p e))
    by_three false e f = by_one (is_double (take 2 (p ++ rest))) e f refl

    by_two : (b : Bool) → is_double p ≡ true → is_triple (take 3 (p ++ rest)) ≡ b → length p ≤ punctuator_len (p ++ rest)
    by_two true e f = rw f (omega (arith, double_size p e))
    by_two false e f = rw (f, take_front 2 p rest (double_size p e), e) (omega (arith, double_size p e))

    by_double : (b : Bool) → is_double p ≡ b → (b || is_single p) ≡ true → length p ≤ punctuator_len (p ++ rest)
    by_double true e h = by_two (is_triple (take 3 (p ++ rest))) e refl
    by_double false e h = by_three (is_triple (take 3 (p ++ rest))) h refl

    by_triple : (b : Bool) → is_triple p ≡ b → (b || (is_double p || is_single p)) ≡ true → length p ≤ punctuator_len (p ++ rest)
    by_triple true e h = rw (take_front 3 p rest (triple_size p e), e) (omega (arith, triple_size p e))
    by_triple false e h = by_double (is_double p) refl h

pub longest : (text p : List ℕ) → is_punctuator p ≡ true → starts_with p text ≡ true → length p ≤ punctuator_len text
longest text p h starts = by (strip_prefix p text) refl starts
  where
    by : (o : Option (List ℕ)) → strip_prefix p text ≡ o → is_some o ≡ true → length p ≤ punctuator_len text
    by None e some = absurd cc
    by (Some rest) e some = subst (λ k. length p ≤ punctuator_len k) (sym (word_in_front p text rest e)) (covers p rest h)

-- the bytes that are found are listed, so many
abbrev Found : List ℕ → ℕ → Type 0
Found text n = (is_punctuator (take n text) ≡ true) × (length (take n text) ≡ n)

found_one : (text : List ℕ) (b : Bool) → is_single (take 1 text) ≡ b → 0 < (if b then 1 else 0) → Found text (if b then 1 else 0)
found_one text true e some = (
  or_right (is_triple (take 1 text)) (is_double (take 1 text) || is_single (take 1 text)) (or_right (is_double (take 1 text)) (is_single (take 1 text)) e),
  single_size (take 1 text) e,
)
found_one text false e some = absurd (omega arith)

found_two : (text : List ℕ) (b : Bool) → is_double (take 2 text) ≡ b → 0 < (if b then 2 else (if is_single (take 1 text) then 1 else 0))
    → Found text (if b then 2 else (if is_single (take 1 text) then 1 else 0))
found_two text true e some = (
  or_right (is_triple (take 2 text)) (is_double (take 2 text) || is_single (take 2 text)) (or_left (is_double (take 2 text)) (is_single (take 2 text)) e),
  double_size (take 2 text) e,
)
found_two text false e some = found_one text (is_single (take 1 text)) refl some

found_three : (text : List ℕ) (b : Bool) → is_triple (take 3 text) ≡ b
    → 0 < (if b then 3 else (if is_double (take 2 text) then 2 else (if is_single (take 1 text) then 1 else 0)))
    → Found text (if b then 3 else (if is_double (take 2 text) then 2 else (if is_single (take 1 text) then 1 else 0)))
found_three text true e some = (or_left (is_triple (take 3 text)) (is_double (take 3 text) || is_single (take 3 text)) e, triple_size (take 3 text) e)
found_three text false e some = found_two text (is_double (take 2 text)) refl some

found : (text : List ℕ) → 0 < punctuator_len text → Found text (punctuator_len text)
unfolding punctuator_len
found text some = found_three text (is_triple (take 3 text)) refl some

-- a punctuator in front of bytes
abbrev pub PunctuatorEnds : List ℕ → ℕ → Type 0
PunctuatorEnds text n = (t : List ℕ) × (rest : List ℕ) × (text ≡ t ++ rest) × (n ≡ length t) × IsPunctuator t rest

pub punctuator_sound : (text : List ℕ) (n : ℕ) → 0 < n → punctuator_len text ≡ n → is_no_punctuator text ≡ false → PunctuatorEnds text n
punctuator_sound text n some e none =
    let f = found text (omega (arith, e)) in
    let t = take (punctuator_len text) text in
    let rest = drop (punctuator_len text) text in
    let whole : t ++ rest ≡ text = take-append-drop (punctuator_len text) text in (
      t,
      rest,
      sym whole,
      omega (arith, e, f.1),
      record {
        listed = f.0;
        longest = λ p h starts. omega (arith, f.1, longest text p h (ap (starts_with p) (sym whole) ∙ starts));
        no_other = ap is_no_punctuator whole ∙ none;
      },
    )
