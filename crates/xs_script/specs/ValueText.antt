-- The text that shows a plain value.
use Rattle.std.specs.Char.{digit_char}
use Rattle.std.specs.List.{flat_map}
use Rattle.std.specs.Prelude.{ℕ, ◌/◌, ◌%◌, ◌==◌, ◌&&◌, nat_lt, nat_le, if◌then◌else◌, List, [], ◌∷◌, ◌++◌, length, take, codes}
use Rattle.xs_values.specs.Plains.{text_of}
use Rattle.xs_values.specs.declared.plain.Plain.{Plain}
use Rattle.xs_values.specs.declared.plain.Plain.TheVariants.{Undef, Int, Uns, Text}
use Rattle.xs_script.specs.declared.command_words.TheConstants.{UNDEF}

-- A byte of a text in quotes: a quote and a backslash after a backslash, 32 to 126 as they are,
-- others by \x and two digits.
abbrev pub shown_byte : ℕ → List ℕ
shown_byte b =
    if b == 34 then codes "\\\""
    else (if b == 92 then codes "\\\\"
    else (if nat_le 32 b && nat_le b 126 then b ∷ []
    else codes "\\x" ++ digit_char (b / 16) ∷ digit_char (b % 16) ∷ []))

-- A text in quotes. After 64 bytes of the text the quote closes and two dots follow.
abbrev pub quoted_text : List ℕ → List ℕ
quoted_text text = codes "\"" ++ flat_map shown_byte (take 64 text)
    ++ (if nat_lt 64 (length text) then codes "\".." else codes "\"")

abbrev pub value_text_of : Plain → List ℕ
value_text_of Undef = UNDEF.now
value_text_of (Int n) = text_of (Int n)
value_text_of (Uns n) = text_of (Uns n)
value_text_of (Text text) = quoted_text text
