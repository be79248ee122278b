-- A text that is written line by line is read as these lines, and each has its tokens alone.
use Rattle.std.proofs.Common.{◌≡◌, ℕ, zero, suc, ◌+◌, ◌-◌, Bool, true, false, not, cond, ◌&&◌, List, [], ◌∷◌, ◌++◌, length, get_or, None, Ok, Result, refl, ap, ◌∙◌}
use Rattle.std.proofs.lemmas.Bool.{and_parts, not-true}
use Rattle.std.specs.List.{list_all, onto_first, slice_split}
use Rattle.std.specs.Prelude.{◌==◌}
use Rattle.std.specs.Str.Lines.{lines, lines_of_parts, strip_carriage_return}
use Rattle.xs_base.proofs.AllPass.{all-weaker}
use Rattle.xs_base.specs.Lines.{has_no_end, numbered}
use Rattle.xs_base.specs.Reading.{◌>>=◌, with_front}
use Rattle.xs_base.specs.declared.fault.Fault.{Fault}
use Rattle.xs_base.specs.declared.source.FileOf.TheVariants as file
use Rattle.xs_base.specs.declared.source.Line.{Line}
use Rattle.xs_ctok.proofs.TokenSteps.{cut}
use Rattle.xs_ctok.specs.Tokens.{cut_of, tokens_from, tokens_of}
use Rattle.xs_ctok.specs.declared.token.Token.{Token}

-- ---- lines

abbrev is_end : ℕ → Bool
is_end = λ b. b == 10

split_line : (text rest : List ℕ) → has_no_end text ≡ true → slice_split is_end (text ++ 10 ∷ rest) ≡ text ∷ slice_split is_end rest
split_line [] rest h = refl
split_line (b ∷ text) rest h =
    let g = and_parts (not (b == 10)) (has_no_end text) h in
    rw (not-true (b == 10) g.0, split_line text rest g.1) refl

after_line : (text rest : List ℕ) → lines_of_parts (text ∷ slice_split is_end rest) ≡ strip_carriage_return text ∷ lines rest
after_line text [] = refl
after_line text (b ∷ rest) = by (is_end b) (slice_split is_end rest)
  where
    by : (t : Bool) (parts : List (List ℕ)) → lines_of_parts (text ∷ cond t ([] ∷ parts) (onto_first b parts))
        ≡ strip_carriage_return text ∷ lines_of_parts (cond t ([] ∷ parts) (onto_first b parts))
    by true parts = refl
    by false [] = refl
    by false (part ∷ parts) = refl

-- A line ends at its byte 10.
pub line_ends : (text rest : List ℕ) → has_no_end text ≡ true → lines (text ++ 10 ∷ rest) ≡ strip_carriage_return text ∷ lines rest
line_ends text rest h = ap lines_of_parts (split_line text rest h) ∙ after_line text rest

-- a byte that belongs to no end of a line
abbrev pub is_line_byte : ℕ → Bool
is_line_byte b = not (b == 10) && not (b == 13)

no_end_in : (text : List ℕ) → list_all is_line_byte text ≡ true → has_no_end text ≡ true
no_end_in text h = all-weaker is_line_byte (λ b. not (b == 10)) (λ b g. (and_parts (not (b == 10)) (not (b == 13)) g).0) text h

no_return_at : (text : List ℕ) (i : ℕ) → list_all is_line_byte text ≡ true → get_or text i 0 == 13 ≡ false
no_return_at [] i h = refl
no_return_at (b ∷ text) zero h =
    let g = and_parts (is_line_byte b) (list_all is_line_byte text) h in
    not-true (b == 13) (and_parts (not (b == 10)) (not (b == 13)) g.0).1
no_return_at (b ∷ text) (suc i) h = no_return_at text i (and_parts (is_line_byte b) (list_all is_line_byte text) h).1

not_stripped : (text : List ℕ) → list_all is_line_byte text ≡ true → strip_carriage_return text ≡ text
not_stripped text h = rw (no_return_at text (length text - 1) h) refl

-- ---- the tokens of a line, and those of the lines after it

abbrev pub line_at : ℕ → List ℕ → Line
line_at n text = record { number = n; text = text }

-- the tokens of a text, of which the first line has this number
abbrev pub tokens_at : ℕ → List ℕ → Result (List Token) Fault
tokens_at n text = tokens_of file.Text (numbered n (lines text))

-- A line that has its tokens alone has them in front of those of the lines after it.
pub line_first : (n : ℕ) (text rest : List ℕ) (ts : List Token) → list_all is_line_byte text ≡ true → cut_of file.Text None (line_at n text) ≡ Ok (cut ts None)
    → tokens_at n (text ++ 10 ∷ rest) ≡ with_front ts (tokens_at (n + 1) rest)
unfolding tokens_from
line_first n text rest ts plain alone =
    ap (λ texts. tokens_of file.Text (numbered n texts)) (line_ends text rest (no_end_in text plain) ∙ ap (λ t. t ∷ lines rest) (not_stripped text plain))
    ∙ ap (λ r. r >>= (λ c. with_front c.tokens (tokens_from file.Text c.open_at (numbered (n + 1) (lines rest))))) alone
