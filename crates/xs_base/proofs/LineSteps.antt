-- The lines of bytes, the first line first.
use Rattle.std.proofs.Common.{◌≡◌, ℕ, ◌+◌, ◌<◌, ◌≤◌, ◌==◌, Bool, true, false, not, cond, nat_lt, List, [], ◌∷◌, ◌++◌, length, take, drop, None, Some, refl, ap, sym, ◌∙◌, arith, append_assoc, append-nil}
use Rattle.std.specs.List.{slice_split, onto_first, position, position_or_len}
use Rattle.xs_base.specs.declared.source.Line.{Line}
use Rattle.xs_base.specs.Lines.{numbered}
use Rattle.std.specs.Str.Lines.{lines, lines_of_parts, strip_carriage_return}
use Rattle.std.proofs.lemmas.List.Splits.{slice_split_first}
use Rattle.std.proofs.lemmas.Option.{cond_some}
use Rattle.xs_base.proofs.Choices.{none_unless}

abbrev pub is_end : ℕ → Bool
is_end = λ b. b == 10

abbrev HasFirst : List (List ℕ) → Type 0
HasFirst parts = (y : List ℕ) × ((ys : List (List ℕ)) × (parts ≡ y ∷ ys))

onto_first_has : (x : ℕ) (parts : List (List ℕ)) → HasFirst (onto_first x parts)
onto_first_has x [] = (x ∷ [], ([], refl))
onto_first_has x (part ∷ parts) = (x ∷ part, (parts, refl))

-- bytes have a first part
first_part : (xs : List ℕ) → HasFirst (slice_split is_end xs)
first_part [] = ([], ([], refl))
first_part (x ∷ xs) = elim (is_end x) as (λ b. HasFirst (cond b ([] ∷ slice_split is_end xs) (onto_first x (slice_split is_end xs)))) [
  | true ↦ ([], (slice_split is_end xs, refl))
  | false ↦ onto_first_has x (slice_split is_end xs)
]

lines_step : (x : List ℕ) (parts : List (List ℕ)) → HasFirst parts → lines_of_parts (x ∷ parts) ≡ strip_carriage_return x ∷ lines_of_parts parts
lines_step x parts h = rw h.1.1 refl

-- a line that ends at byte 10
pub lines_first : (xs : List ℕ) (n : ℕ) → position is_end xs ≡ Some n → lines xs ≡ strip_carriage_return (take n xs) ∷ lines (drop (n + 1) xs)
lines_first xs n h =
    let p = cond_some (nat_lt (position_or_len is_end xs) (length xs)) (position_or_len is_end xs) n h in
    let lt : position_or_len is_end xs < length xs = grind (arith, p.0) in
    let split : slice_split is_end xs ≡ take n xs ∷ slice_split is_end (drop (n + 1) xs) =
    slice_split_first is_end xs 0 lt ∙ ap (λ k. take k xs ∷ slice_split is_end (drop (k + 1) xs)) p.1 in
    ap lines_of_parts split ∙ lines_step (take n xs) (slice_split is_end (drop (n + 1) xs)) (first_part (drop (n + 1) xs))

unsplit_on : (b : Bool) (x : ℕ) (xs : List ℕ) → length (x ∷ xs) ≤ cond (not b) (1 + position_or_len is_end xs) 0
    → (length xs ≤ position_or_len is_end xs → slice_split is_end xs ≡ xs ∷ [])
    → cond b ([] ∷ slice_split is_end xs) (onto_first x (slice_split is_end xs)) ≡ (x ∷ xs) ∷ []
unsplit_on true x xs h rest = absurd (omega arith)
unsplit_on false x xs h rest = ap (onto_first x) (rest (omega arith))

unsplit : (xs : List ℕ) → length xs ≤ position_or_len is_end xs → slice_split is_end xs ≡ xs ∷ []
unsplit [] h = refl
unsplit (x ∷ xs) h = unsplit_on (is_end x) x xs h (unsplit xs)

-- what stands after the last byte 10
pub lines_last : (xs : List ℕ) → position is_end xs ≡ None → lines xs ≡ cond (length xs == 0) [] (xs ∷ [])
lines_last xs h =
    let p = (none_unless (nat_lt (position_or_len is_end xs) (length xs)) (position_or_len is_end xs) None h).0 in
    ap lines_of_parts (unsplit xs (grind (arith, p)))

-- a line more
pub line_reported : (all : List Line) (number : ℕ) (rest text after : List ℕ) (n : ℕ) → position is_end rest ≡ Some n
    → text ≡ strip_carriage_return (take n rest) → after ≡ drop (n + 1) rest
    → (all ++ record { number = number; text = text } ∷ []) ++ numbered (number + 1) (lines after) ≡ all ++ numbered number (lines rest)
line_reported all number rest text after n at is_text is_after =
    append_assoc all _ _ ∙ rw (is_text, is_after) (ap (λ texts. all ++ numbered number texts) (sym (lines_first rest n at)))

-- the last line, which has no end
pub last_reported : (all : List Line) (number : ℕ) (rest : List ℕ) → position is_end rest ≡ None → length rest == 0 ≡ false
    → all ++ record { number = number; text = rest } ∷ [] ≡ all ++ numbered number (lines rest)
last_reported all number rest at more = ap (λ texts. all ++ numbered number texts) (sym (lines_last rest at ∙ ap (λ b. cond b [] (rest ∷ [])) more))

-- no last line
pub none_reported : (all : List Line) (number : ℕ) (rest : List ℕ) → position is_end rest ≡ None → length rest == 0 ≡ true
    → all ≡ all ++ numbered number (lines rest)
none_reported all number rest at none = sym (ap (λ texts. all ++ numbered number texts) (lines_last rest at ∙ ap (λ b. cond b [] (rest ∷ [])) none)
    ∙ append-nil all)
