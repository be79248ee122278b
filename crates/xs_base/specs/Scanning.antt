-- The bytes of words, digits and blanks, and what stands in front of a text.
use Rattle.std.specs.List.{list_all}
use Rattle.std.specs.Prelude.{not, ℕ, ◌+◌, ◌*◌, ◌-◌, fold, Bool, false, ◌&&◌, ◌||◌, ◌==◌, if◌then◌else◌, nat_le, List, [], ◌∷◌, Option, None, Some, is_some, option_and_then}

-- a space or a tab
abbrev pub is_blank : ℕ → Bool
is_blank b = b == 32 || b == 9

-- a decimal digit
abbrev pub is_ascii_digit : ℕ → Bool
is_ascii_digit b = nat_le 48 b && nat_le b 57

-- a letter of either case
abbrev pub is_letter : ℕ → Bool
is_letter b = (nat_le 65 b && nat_le b 90) || (nat_le 97 b && nat_le b 122)

-- the first byte of an identifier
abbrev pub begins_word : ℕ → Bool
begins_word b = is_letter b || b == 95

-- a byte of an identifier, wherever it stands but in front
abbrev pub is_word_byte : ℕ → Bool
is_word_byte b = begins_word b || is_ascii_digit b

-- An identifier (C standard) is one byte that begins a word, and word bytes after it.
abbrev pub is_identifier : List ℕ → Bool
is_identifier [] = false
is_identifier (b ∷ bs) = begins_word b && list_all is_word_byte bs

-- a `0` with other bytes after it
abbrev pub has_leading_zero : List ℕ → Bool
has_leading_zero (a ∷ b ∷ bs) = a == 48
has_leading_zero _ = false

-- a decimal number: digits, one at least, without a zero in front of others
abbrev pub is_decimal : List ℕ → Bool
is_decimal [] = false
is_decimal (d ∷ ds) = list_all is_ascii_digit (d ∷ ds) && not (has_leading_zero (d ∷ ds))

-- a text of blanks alone
abbrev pub is_blank_line : List ℕ → Bool
is_blank_line text = list_all is_blank text

-- what stands after a byte that the text begins with
abbrev pub strip_byte : ℕ → List ℕ → Option (List ℕ)
strip_byte w [] = None
strip_byte w (b ∷ bs) = if b == w then Some bs else None

-- what stands after a word that the text begins with
abbrev pub strip_prefix : List ℕ → List ℕ → Option (List ℕ)
strip_prefix [] text = Some text
strip_prefix (w ∷ ws) text = option_and_then (strip_prefix ws) (strip_byte w text)

-- The text begins with a word.
abbrev pub starts_with : List ℕ → List ℕ → Bool
starts_with word text = is_some (strip_prefix word text)

-- the value of decimal digits
abbrev pub value_of_digits : List ℕ → ℕ
value_of_digits = fold (λ n b. 10 * n + (b - 48)) 0
