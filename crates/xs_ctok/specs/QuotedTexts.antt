-- Character literals and texts in quotes.
use Rattle.std.specs.Prelude.{ℕ, zero, suc, ◌+◌, ◌*◌, ◌<◌, ◌≤◌, ◌==◌, ◌||◌, nat_lt, if◌then◌else◌, List, [], ◌∷◌, ◌++◌, drop, Option, Some, None, option_and_then}
use Rattle.xs_base.specs.declared.fault_codes.TheConstants.{OPEN_COMMENT_OR_TEXT, STRAY_BYTE}
use Rattle.xs_values.specs.declared.literal.Base.TheVariants as base
use Rattle.xs_ctok.specs.Numerals.{is_digit_of, value_in}
use Rattle.xs_ctok.specs.declared.front.Front.{Front}
use Rattle.xs_ctok.specs.declared.front.Front.TheVariants as front
use Rattle.xs_ctok.specs.declared.quoted.Escape.{Escape}
use Rattle.xs_ctok.specs.declared.quoted.Escape.TheVariants as escape
use Rattle.xs_ctok.specs.declared.token.TokKind.TheVariants as kind

-- ---- escapes

-- what \n \t \r \\ \' \" stand for, by the byte after the backslash
abbrev pub simple_escape : ℕ → Option ℕ
simple_escape b =
    if b == 110 then Some 10
    else if b == 116 then Some 9
    else if b == 114 then Some 13
    else if b == 92 || (b == 39 || b == 34) then Some b
    else None

-- the escape of two hexadecimal digits, by their values
abbrev pub hexadecimal_of : Option ℕ → Option ℕ → Escape
hexadecimal_of (Some high) (Some low) = escape.Stands (16 * high + low) 3
hexadecimal_of (Some high) None = escape.Unlisted
hexadecimal_of None low = escape.Unlisted

-- the escape whose digits stand after `\x`
abbrev pub hexadecimal_escape : List ℕ → Escape
hexadecimal_escape [] = escape.Open
hexadecimal_escape (h ∷ []) =
    if is_digit_of base.Hexadecimal h then escape.Open else escape.Unlisted
hexadecimal_escape (h ∷ l ∷ rest) =
    hexadecimal_of (value_in base.Hexadecimal h) (value_in base.Hexadecimal l)

-- the byte of three octal digits, if it is one
abbrev pub octal_value : ℕ → ℕ → ℕ → Option ℕ
octal_value h m l =
    option_and_then (λ high. option_and_then (λ middle. option_and_then (λ low.
    if nat_lt high 4 then Some (64 * high + 8 * middle + low) else None)
    (value_in base.Octal l)) (value_in base.Octal m)) (value_in base.Octal h)

abbrev pub zero_escape : ℕ → Escape
zero_escape b = if b == 48 then escape.Stands 0 1 else escape.Unlisted

abbrev pub octal_or_zero : Option ℕ → ℕ → Escape
octal_or_zero (Some value) b = escape.Stands value 3
octal_or_zero None b = zero_escape b

-- Three octal digits from 000 to 377, else `\0`.
abbrev pub octal_escape : ℕ → List ℕ → Escape
octal_escape b [] = zero_escape b
octal_escape b (m ∷ []) = zero_escape b
octal_escape b (m ∷ l ∷ rest) = octal_or_zero (octal_value b m l) b

abbrev pub long_escape : Option ℕ → ℕ → List ℕ → Escape
long_escape (Some value) b rest = escape.Stands value 1
long_escape None b rest = if b == 120 then hexadecimal_escape rest else octal_escape b rest

-- what stands after a backslash
unfoldable pub escape_of : List ℕ → Escape
escape_of [] = escape.Open
escape_of (b ∷ rest) = long_escape (simple_escape b) b rest

-- An escape has a byte, and lies within the text.
abbrev pub FitsEscape : Escape → ℕ → Type 0
FitsEscape (escape.Stands value len) size = (0 < len) × (len ≤ size)
FitsEscape escape.Unlisted size = Unit {0}
FitsEscape escape.Open size = Unit {0}

-- ---- texts

abbrev pub on_escape : Escape → (ℕ → ℕ → Front) → Front
on_escape (escape.Stands value len) go = go value len
on_escape escape.Unlisted go = front.Refused STRAY_BYTE
on_escape escape.Open go = front.Refused OPEN_COMMENT_OR_TEXT

-- A text, of which so many bytes were read and stand for these bytes, and a further so many belong
-- to an escape, from this place on.
abbrev pub text_front : List ℕ → ℕ → ℕ → List ℕ → Front
text_front content n skip [] = front.Refused OPEN_COMMENT_OR_TEXT
text_front content n (suc skip) (b ∷ bs) = text_front content (n + 1) skip bs
text_front content n zero (b ∷ bs) =
    if b == 34 then front.Piece (kind.Text content) (n + 1)
    else if b == 92 then on_escape (escape_of bs)
    (λ value len. text_front (content ++ value ∷ []) (n + 1) len bs)
    else text_front (content ++ b ∷ []) (n + 1) 0 bs

-- ---- characters

-- a character literal of this byte, of which so many bytes were read, where it ends here
abbrev pub closed_front : ℕ → ℕ → List ℕ → Front
closed_front value n [] = front.Refused OPEN_COMMENT_OR_TEXT
closed_front value n (b ∷ bs) =
    if b == 39 then front.Piece (kind.Char value) (n + 1) else front.Refused STRAY_BYTE

abbrev pub escaped_front : Escape → List ℕ → Front
escaped_front e rest = on_escape e (λ value len. closed_front value (2 + len) (drop len rest))

-- the character literal whose quote stands in front of these bytes
unfoldable pub char_front : List ℕ → Front
char_front [] = front.Refused OPEN_COMMENT_OR_TEXT
char_front (b ∷ bs) =
    if b == 39 then front.Refused STRAY_BYTE
    else if b == 92 then escaped_front (escape_of bs) bs
    else closed_front b 2 bs
