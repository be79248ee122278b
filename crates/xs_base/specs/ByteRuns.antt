-- Runs of bytes of one class in front of a text.
use Rattle.std.specs.Prelude.{ℕ, not, ◌==◌, ◌&&◌, ◌||◌, nat_le, Bool, List, [], ◌∷◌, codes, if◌then◌else◌}
use Rattle.xs_base.specs.Scanning.{starts_with, is_blank, is_ascii_digit, is_letter, is_word_byte}
use Rattle.xs_base.specs.declared.byte_runs.ByteClass.{ByteClass}
use Rattle.xs_base.specs.declared.byte_runs.ByteClass.TheVariants.{Blank, NoBlank, Digit, Octal, Hexadecimal, Letter, Capital, Word, Name, Space}

-- a capital letter or `_`, of which the words of keywords are made
abbrev pub is_capital : ℕ → Bool
is_capital b = (nat_le 65 b && nat_le b 90) || b == 95

-- a byte of C's white space: tab, line feed, vertical tab, form feed, carriage return or space
abbrev pub is_space : ℕ → Bool
is_space b = (nat_le 9 b && nat_le b 13) || b == 32

-- an octal digit
abbrev pub is_octal_digit : ℕ → Bool
is_octal_digit b = nat_le 48 b && nat_le b 55

-- a hexadecimal digit, with letters of either case
abbrev pub is_hexadecimal_digit : ℕ → Bool
is_hexadecimal_digit b =
    is_ascii_digit b || (nat_le 65 b && nat_le b 70) || (nat_le 97 b && nat_le b 102)

-- whether a byte is of a class
abbrev pub belongs : ByteClass → ℕ → Bool
belongs Blank b = is_blank b
belongs NoBlank b = not (is_blank b)
belongs Digit b = is_ascii_digit b
belongs Octal b = is_octal_digit b
belongs Hexadecimal b = is_hexadecimal_digit b
belongs Letter b = is_letter b
belongs Capital b = is_capital b
belongs Word b = is_word_byte b
belongs Name b = is_word_byte b || b == 58
belongs Space b = is_space b

-- the longest run of a class in front
abbrev pub front_of : ByteClass → List ℕ → List ℕ
front_of class [] = []
front_of class (b ∷ bs) = if belongs class b then b ∷ front_of class bs else []

-- what stands after that run
abbrev pub after_run : ByteClass → List ℕ → List ℕ
after_run class [] = []
after_run class (b ∷ bs) = if belongs class b then after_run class bs else b ∷ bs

-- the text from its first byte on that is no blank
abbrev pub after_blanks : List ℕ → List ℕ
after_blanks text = after_run Blank text

-- the first byte that is no blank is `#`
abbrev pub is_remark : List ℕ → Bool
is_remark text = starts_with (codes "#") (after_blanks text)
