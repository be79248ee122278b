-- The lines of a short text are short.
use Rattle.std.proofs.Common.{◌≡◌, ℕ, zero, suc, ◌+◌, ◌-◌, ◌^◌, ◌<◌, ◌==◌, Bool, true, false, cond, List, [], ◌∷◌, length, take, get_or, refl, arith}
use Rattle.std.proofs.lemmas.Bool.{and_from, and_parts}
use Rattle.std.specs.List.{list_all, onto_first, slice_index, slice_split}
use Rattle.std.specs.Prelude.{if◌then◌else◌, nat_lt}
use Rattle.std.specs.Str.Lines.{lines, lines_of_parts, strip_carriage_return}
use Rattle.std.proofs.lemmas.List.{length-take}
use Rattle.xs_base.specs.Lines.{lines_of, numbered}
use Rattle.xs_base.specs.declared.source.Line.{Line}
use Rattle.xs_base.proofs.LineSteps.{is_end}
use Rattle.xs_ctok.specs.Tokens.{are_short, is_short, short_text}
use Rattle.xs_ctok.proofs.Facts.{is_less, less_is}

-- ---- one of the lines

pub line_is_short : (all : List Line) (i : ℕ) (d : Line) → i < length all → are_short all ≡ true → length (get_or all i d).text < 2 ^ 32 - 1
line_is_short [] i d h s = absurd (omega arith)
line_is_short (line ∷ all) zero d h s = is_less (length line.text) (2 ^ 32 - 1) (and_parts (is_short line) (are_short all) s).0
line_is_short (line ∷ all) (suc i) d h s = line_is_short all i d (omega arith) (and_parts (is_short line) (are_short all) s).1

-- ---- the lines of a text

abbrev below : ℕ → List (List ℕ) → Bool
below k parts = list_all (λ (l : List ℕ). nat_lt (length l) k) parts

below_more : (k : ℕ) (parts : List (List ℕ)) → below k parts ≡ true → below (suc k) parts ≡ true
below_more k [] h = refl
below_more k (part ∷ parts) h =
    let p = and_parts (nat_lt (length part) k) (below k parts) h in
    and_from (nat_lt (length part) (suc k)) (below (suc k) parts) (less_is (length part) (suc k) (omega (arith, is_less (length part) k p.0)))
    (below_more k parts p.1)

onto_below : (x k : ℕ) (parts : List (List ℕ)) → 0 < k → below k parts ≡ true → below (suc k) (onto_first x parts) ≡ true
onto_below x k [] pos h = and_from (nat_lt 1 (suc k)) true (less_is 1 (suc k) (omega arith)) refl
onto_below x k (part ∷ parts) pos h =
    let p = and_parts (nat_lt (length part) k) (below k parts) h in
    and_from (nat_lt (suc (length part)) (suc k)) (below (suc k) parts) (less_is (suc (length part)) (suc k) (omega (arith, is_less (length part) k p.0)))
    (below_more k parts p.1)

parts_below : (xs : List ℕ) (k : ℕ) → length xs < k → below k (slice_split is_end xs) ≡ true
parts_below [] k h = and_from (nat_lt 0 k) true (less_is 0 k (omega arith)) refl
parts_below (x ∷ xs) zero h = absurd (omega arith)
parts_below (x ∷ xs) (suc k) h = by (is_end x) (parts_below xs k (omega arith))
  where
    by : (t : Bool) → below k (slice_split is_end xs) ≡ true
        → below (suc k) (cond t ([] ∷ slice_split is_end xs) (onto_first x (slice_split is_end xs))) ≡ true
    by true ih = and_from (nat_lt 0 (suc k)) (below (suc k) (slice_split is_end xs)) (less_is 0 (suc k) (omega arith)) (below_more k (slice_split is_end xs) ih)
    by false ih = onto_below x k (slice_split is_end xs) (omega (arith, h)) ih

strip_below : (l : List ℕ) (k : ℕ) → nat_lt (length l) k ≡ true → nat_lt (length (strip_carriage_return l)) k ≡ true
strip_below l k h = elim (slice_index l (length l - 1) == 13) as (λ t. nat_lt (length (if t then take (length l - 1) l else l)) k ≡ true) [
  | true ↦ less_is (length (take (length l - 1) l)) k (omega (arith, is_less (length l) k h, length-take (length l - 1) l))
  | false ↦ h
]

lines_below : (k : ℕ) (parts : List (List ℕ)) → below k parts ≡ true → below k (lines_of_parts parts) ≡ true
lines_below k [] h = refl
lines_below k (x ∷ []) h = elim (length x == 0) as (λ t. below k (if t then [] else x ∷ []) ≡ true) [ true ↦ refl | false ↦ h ]
lines_below k (x ∷ y ∷ more) h =
    let g = and_parts (nat_lt (length x) k) (below k (y ∷ more)) h in
    and_from (nat_lt (length (strip_carriage_return x)) k) (below k (lines_of_parts (y ∷ more))) (strip_below x k g.0) (lines_below k (y ∷ more) g.1)

numbered_short : (n : ℕ) (texts : List (List ℕ)) → below (2 ^ 32 - 1) texts ≡ true → are_short (numbered n texts) ≡ true
numbered_short n [] h = refl
numbered_short n (text ∷ texts) h =
    let g = and_parts (short_text text) (below (2 ^ 32 - 1) texts) h in
    and_from (short_text text) (are_short (numbered (n + 1) texts)) g.0 (numbered_short (n + 1) texts g.1)

-- the lines of a text of fewer than 2^32 - 1 bytes
pub lines_are_short : (bytes : List ℕ) → length bytes < 2 ^ 32 - 1 → are_short (lines_of bytes) ≡ true
lines_are_short bytes h = numbered_short 1 (lines bytes) (lines_below (2 ^ 32 - 1) (slice_split is_end bytes) (parts_below bytes (2 ^ 32 - 1) h))
