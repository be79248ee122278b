-- Lines have no more tokens than bytes.
use Rattle.std.proofs.Common.{◌≡◌, ℕ, suc, ◌+◌, ◌-◌, ◌≤◌, ◌==◌, Bool, true, false, cond, List, [], ◌∷◌, length, take, Option, Ok, refl, ap, arith}
use Rattle.std.proofs.lemmas.List.{length-append, length-take}
use Rattle.std.specs.List.{onto_first, slice_index, slice_split}
use Rattle.std.specs.Prelude.{if◌then◌else◌}
use Rattle.std.specs.Str.Lines.{lines, lines_of_parts, strip_carriage_return}
use Rattle.xs_base.specs.Lines.{lines_of, numbered}
use Rattle.xs_base.specs.declared.source.FileOf.{FileOf}
use Rattle.xs_base.specs.declared.source.Line.{Line}
use Rattle.xs_base.proofs.LineSteps.{is_end}
use Rattle.xs_ctok.specs.LineSpelling as ls
use Rattle.xs_ctok.specs.LineSpelling.{IsRead, Reads}
use Rattle.xs_ctok.specs.Tokens.{tokens_of}
use Rattle.xs_ctok.specs.declared.lexing.Mode.{Mode}
use Rattle.xs_ctok.specs.declared.token.Token.{Token}
use Rattle.xs_ctok.proofs.FrontsSpelled.{stands_some}
use Rattle.xs_ctok.proofs.LinesSpelled.{spelled_law}

-- how many bytes lines have
abbrev pub all_bytes : List Line → ℕ
all_bytes [] = 0
all_bytes (line ∷ lines) = length line.text + all_bytes lines

-- each token has a byte
reads_few : {line c d : ℕ} {m n : Mode} {bs es : List ℕ} {ts : List Token} → Reads line m c bs ts n d es → length ts + length es ≤ length bs
reads_few ls.here = omega arith
reads_few (ls.blank h e x) = omega (arith, reads_few x)
reads_few (ls.line_comment h) = omega arith
reads_few (ls.comment h x) = omega (arith, reads_few x)
reads_few (ls.inside e x) = omega (arith, reads_few x)
reads_few (ls.close x) = omega (arith, reads_few x)
reads_few (ls.token {t = t} {rest = rest} h s x) = omega (arith, reads_few x, stands_some s, length-append t rest)

lines_few : {opened : Option ℕ} {lines : List Line} {ts : List Token} → IsRead opened lines ts → length ts ≤ all_bytes lines
lines_few ls.ended = omega arith
lines_few (ls.one_line {ts = ts} {us = us} reads more) = omega (arith, reads_few reads, lines_few more, length-append ts us)

pub tokens_few : (file : FileOf) (all : List Line) (ts : List Token) → tokens_of file all ≡ Ok ts → length ts ≤ all_bytes all
tokens_few file all ts h = lines_few (spelled_law.sound file all ts h)

-- ---- the lines of a text

abbrev total : List (List ℕ) → ℕ
total [] = 0
total (part ∷ parts) = length part + total parts

onto_total : (x : ℕ) (parts : List (List ℕ)) → total (onto_first x parts) ≡ suc (total parts)
onto_total x [] = omega arith
onto_total x (part ∷ parts) = omega arith

parts_total : (xs : List ℕ) → total (slice_split is_end xs) ≤ length xs
parts_total [] = omega arith
parts_total (x ∷ xs) = by (is_end x) (parts_total xs)
  where
    by : (t : Bool) → total (slice_split is_end xs) ≤ length xs
        → total (cond t ([] ∷ slice_split is_end xs) (onto_first x (slice_split is_end xs))) ≤ suc (length xs)
    by true ih = omega (arith, ih)
    by false ih = omega (arith, ih, onto_total x (slice_split is_end xs))

strip_within : (l : List ℕ) → length (strip_carriage_return l) ≤ length l
strip_within l = elim (slice_index l (length l - 1) == 13) as (λ t. length (if t then take (length l - 1) l else l) ≤ length l) [
  | true ↦ omega (arith, length-take (length l - 1) l)
  | false ↦ omega arith
]

lines_total : (parts : List (List ℕ)) → total (lines_of_parts parts) ≤ total parts
lines_total [] = omega arith
lines_total (x ∷ []) = elim (length x == 0) as (λ t. total (if t then [] else x ∷ []) ≤ length x + 0) [ true ↦ omega arith | false ↦ omega arith ]
lines_total (x ∷ y ∷ more) = omega (arith, strip_within x, lines_total (y ∷ more))

numbered_total : (n : ℕ) (texts : List (List ℕ)) → all_bytes (numbered n texts) ≡ total texts
numbered_total n [] = refl
numbered_total n (text ∷ texts) = ap (λ k. length text + k) (numbered_total (n + 1) texts)

-- a text has no more tokens than bytes
pub few_in_text : (file : FileOf) (bytes : List ℕ) (ts : List Token) → tokens_of file (lines_of bytes) ≡ Ok ts → length ts ≤ length bytes
few_in_text file bytes ts h =
    omega (arith, tokens_few file (lines_of bytes) ts h, numbered_total 1 (lines bytes), lines_total (slice_split is_end bytes), parts_total bytes)
