-- The lines of a file.
use Rattle.std.specs.List.{list_all}
use Rattle.std.specs.Prelude.{ℕ, ◌+◌, ◌==◌, Bool, not, fold, if◌then◌else◌, List, [], ◌∷◌}
use Rattle.std.specs.Str.Lines.{lines}
use Rattle.xs_base.specs.Scanning.{is_blank_line}
use Rattle.xs_base.specs.declared.source.Line.{Line}

-- texts as lines, the first with this number
abbrev pub numbered : ℕ → List (List ℕ) → List Line
numbered n [] = []
numbered n (text ∷ texts) = record { number = n; text = text } ∷ numbered (n + 1) texts

-- A line ends at byte 10 or at the end of the file, and loses one byte 13 in front of byte 10.
abbrev pub lines_of : List ℕ → List Line
lines_of bytes = numbered 1 (lines bytes)

-- no byte ends a line
abbrev pub has_no_end : List ℕ → Bool
has_no_end text = list_all (λ b. not (b == 10)) text

abbrev pub have_no_end : List Line → Bool
have_no_end all = list_all (λ (l : Line). has_no_end l.text) all

-- the number of the last line that is not empty, or else this number; blanks alone are an empty
-- line
abbrev pub last_filled : ℕ → List Line → ℕ
last_filled number all =
    fold (λ n (l : Line). if is_blank_line l.text then n else l.number) number all

-- the line of a fault at the early end of a text
abbrev pub early_end : List ℕ → ℕ
early_end bytes = last_filled 1 (lines_of bytes)
