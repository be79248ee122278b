-- No line of a file has a byte that ends a line.
use Rattle.std.proofs.Common.{◌≡◌, ℕ, ◌+◌, ◌-◌, ◌==◌, Bool, true, false, not, cond, List, [], ◌∷◌, length, take, refl}
use Rattle.std.proofs.lemmas.Bool.{and_from, and_parts}
use Rattle.std.specs.List.{list_all, onto_first, slice_index, slice_split}
use Rattle.std.specs.Prelude.{if◌then◌else◌}
use Rattle.std.specs.Str.Lines.{lines, lines_of_parts, strip_carriage_return}
use Rattle.xs_base.specs.Lines.{has_no_end, have_no_end, lines_of, numbered}
use Rattle.xs_base.proofs.LineSteps.{is_end}
use Rattle.xs_base.proofs.Lists.{list_all-take}

onto_passes : (x : ℕ) (parts : List (List ℕ)) → is_end x ≡ false → list_all has_no_end parts ≡ true → list_all has_no_end (onto_first x parts) ≡ true
onto_passes x [] e h = rw e refl
onto_passes x (part ∷ parts) e h = rw e h

parts_pass : (xs : List ℕ) → list_all has_no_end (slice_split is_end xs) ≡ true
parts_pass [] = refl
parts_pass (x ∷ xs) = by (is_end x) refl (parts_pass xs)
  where
    by : (t : Bool) → is_end x ≡ t → list_all has_no_end (slice_split is_end xs) ≡ true
        → list_all has_no_end (cond t ([] ∷ slice_split is_end xs) (onto_first x (slice_split is_end xs))) ≡ true
    by true e ih = ih
    by false e ih = onto_passes x (slice_split is_end xs) e ih

strip_passes : (l : List ℕ) → has_no_end l ≡ true → has_no_end (strip_carriage_return l) ≡ true
strip_passes l h = elim (slice_index l (length l - 1) == 13) as (λ t. has_no_end (if t then take (length l - 1) l else l) ≡ true) [
  | true ↦ list_all-take (λ b. not (b == 10)) (length l - 1) l h
  | false ↦ h
]

lines_pass : (parts : List (List ℕ)) → list_all has_no_end parts ≡ true → list_all has_no_end (lines_of_parts parts) ≡ true
lines_pass [] h = refl
lines_pass (x ∷ []) h = elim (length x == 0) as (λ t. list_all has_no_end (if t then [] else x ∷ []) ≡ true) [ true ↦ refl | false ↦ h ]
lines_pass (x ∷ y ∷ more) h =
    let g = and_parts (has_no_end x) (list_all has_no_end (y ∷ more)) h in
    and_from (has_no_end (strip_carriage_return x)) (list_all has_no_end (lines_of_parts (y ∷ more))) (strip_passes x g.0) (lines_pass (y ∷ more) g.1)

numbered_pass : (n : ℕ) (texts : List (List ℕ)) → list_all has_no_end texts ≡ true → have_no_end (numbered n texts) ≡ true
numbered_pass n [] h = refl
numbered_pass n (text ∷ texts) h =
    let g = and_parts (has_no_end text) (list_all has_no_end texts) h in
    and_from (has_no_end text) (have_no_end (numbered (n + 1) texts)) g.0 (numbered_pass (n + 1) texts g.1)

pub no_end_in_lines : (bytes : List ℕ) → have_no_end (lines_of bytes) ≡ true
no_end_in_lines bytes = numbered_pass 1 (lines bytes) (lines_pass (slice_split is_end bytes) (parts_pass bytes))
