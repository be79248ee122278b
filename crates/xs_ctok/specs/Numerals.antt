-- Integers in front of a text.
use Rattle.std.specs.Char.{digit_value}
use Rattle.std.specs.Prelude.{ℕ, ◌+◌, ◌*◌, ◌^◌, ◌<◌, ◌≤◌, fold, Bool, false, ◌==◌, ◌&&◌, ◌||◌, nat_lt, if◌then◌else◌, List, [], ◌∷◌, length, map, Option, Some, None}
use Rattle.std.specs.Bool.{then_some}
use Rattle.xs_base.specs.declared.fault_codes.TheConstants.{FLOATING_POINT_IN_C, LITERAL_TOO_WIDE}
use Rattle.xs_base.specs.declared.byte_runs.ByteClass.{ByteClass}
use Rattle.xs_base.specs.declared.byte_runs.ByteClass.TheVariants as class
use Rattle.xs_base.specs.ByteRuns.{after_run, belongs, front_of}
use Rattle.xs_base.specs.Readers.{head_is}
use Rattle.xs_base.specs.Scanning.{is_ascii_digit, starts_with}
use Rattle.xs_values.specs.declared.literal.Base.{Base}
use Rattle.xs_values.specs.declared.literal.Base.TheVariants as base
use Rattle.xs_values.specs.declared.literal.Suffix.{Suffix}
use Rattle.xs_ctok.specs.declared.numerals.TheConstants.{NO_SUFFIX, SUFFIXES}
use Rattle.xs_ctok.specs.declared.numerals.NumberFront.{NumberFront}
use Rattle.xs_ctok.specs.declared.numerals.NumberFront.TheVariants as number
use Rattle.xs_ctok.specs.declared.token.Literal.{Literal}

-- ---- digits

abbrev pub radix : Base → ℕ
radix base.Decimal = 10
radix base.Octal = 8
radix base.Hexadecimal = 16

-- the class of the digits of a base
abbrev pub digits_in : Base → ByteClass
digits_in base.Decimal = class.Digit
digits_in base.Octal = class.Octal
digits_in base.Hexadecimal = class.Hexadecimal

abbrev pub is_digit_of : Base → ℕ → Bool
is_digit_of b c = belongs (digits_in b) c

-- the value of a digit of a base
abbrev pub value_in : Base → ℕ → Option ℕ
value_in b c = then_some (is_digit_of b c) (digit_value c)

-- the longest run of digits in front
abbrev pub digits_of : Base → List ℕ → List ℕ
digits_of b text = front_of (digits_in b) text

-- what stands after it
abbrev pub after_digits : Base → List ℕ → List ℕ
after_digits b text = after_run (digits_in b) text

-- the value of digits
abbrev pub value_of : Base → List ℕ → ℕ
value_of b = fold (λ n c. radix b * n + digit_value c) 0

-- ---- points and exponents

abbrev pub is_exponent_letter : Base → ℕ → Bool
is_exponent_letter base.Decimal c = c == 101 || c == 69
is_exponent_letter base.Octal c = c == 101 || c == 69
is_exponent_letter base.Hexadecimal c = c == 112 || c == 80

-- what stands after a sign in front, if there is one
abbrev pub after_sign : List ℕ → List ℕ
after_sign [] = []
after_sign (c ∷ cs) = if c == 43 || c == 45 then cs else c ∷ cs

-- an exponent of a floating constant in front
abbrev pub has_exponent : Base → List ℕ → Bool
has_exponent b [] = false
has_exponent b (c ∷ cs) = is_exponent_letter b c && head_is is_ascii_digit (after_sign cs)

-- the base of a floating constant, whose digits may have an 8 or a 9 after a leading `0`
abbrev pub floating_base : Base → Base
floating_base base.Decimal = base.Decimal
floating_base base.Octal = base.Decimal
floating_base base.Hexadecimal = base.Hexadecimal

-- a point or an exponent
abbrev pub has_point : Base → List ℕ → Bool
has_point b rest = head_is (λ c. c == 46) rest || has_exponent b rest

-- digits that a point or an exponent follows
abbrev pub is_floating : Base → List ℕ → Bool
is_floating b text = has_point b (after_digits (floating_base b) text)

-- ---- suffixes

-- a suffix as it is written, and what it says
pub record Suffixed : Type 0 where
  pub written : List ℕ
  pub says : Suffix

abbrev pub suffixed : List ℕ → Suffix → Suffixed
suffixed written says = record { written = written; says = says }

abbrev pub suffix_among : List Suffixed → List ℕ → Suffixed
suffix_among [] text = suffixed [] NO_SUFFIX
suffix_among (row ∷ rows) text =
    if starts_with row.written text then row else suffix_among rows text

abbrev pub suffixes : List Suffixed
suffixes = map (λ row. suffixed row.0.now row.1) SUFFIXES

-- the longest suffix in front, or none
unfoldable pub suffix_of : List ℕ → Suffixed
suffix_of text = suffix_among suffixes text

-- ---- integers

abbrev pub literal : Base → Suffix → ℕ → Literal
literal b suffix value = record { value = value; base = b; suffix = suffix }

-- An integer of digits and a suffix after them, where so many bytes stand in front of the digits.
abbrev pub integer_of : Base → List ℕ → Suffixed → ℕ → NumberFront
integer_of b digits s before =
    if nat_lt (value_of b digits) (2 ^ 64) then number.Integer
    (literal b s.says (value_of b digits)) (before + length digits + length s.written)
    else number.Refused LITERAL_TOO_WIDE

abbrev pub integer_front : Base → List ℕ → ℕ → NumberFront
integer_front b text before =
    integer_of b (digits_of b text) (suffix_of (after_digits b text)) before

abbrev pub based_front : Base → List ℕ → ℕ → NumberFront
based_front b text before =
    if is_floating b text then number.Refused FLOATING_POINT_IN_C else integer_front b text before

abbrev pub is_x : ℕ → Bool
is_x c = c == 120 || c == 88

-- the digits after the `0x` of a hexadecimal integer, where one of them follows it
abbrev pub after_hexadecimal_prefix : List ℕ → Option (List ℕ)
after_hexadecimal_prefix [] = None
after_hexadecimal_prefix (z ∷ []) = None
after_hexadecimal_prefix (z ∷ x ∷ rest) =
    if z == 48 && (is_x x && head_is (is_digit_of base.Hexadecimal) rest) then Some rest else None

-- A number is octal where another digit follows its `0`. So `0` alone is decimal, by which it gets
-- the kind that it has as an octal literal (C11 6.4.4.1).
abbrev pub is_octal : List ℕ → Bool
is_octal [] = false
is_octal (z ∷ rest) = z == 48 && head_is is_ascii_digit rest

abbrev pub number_by : Option (List ℕ) → List ℕ → NumberFront
number_by (Some rest) text = based_front base.Hexadecimal rest 2
number_by None text =
    if is_octal text then based_front base.Octal text 0 else based_front base.Decimal text 0

-- the number in front of a text that begins with a digit
unfoldable pub number_front : List ℕ → NumberFront
number_front text = number_by (after_hexadecimal_prefix text) text

-- A number has a byte, and lies within the text.
abbrev pub FitsNumber : NumberFront → ℕ → Type 0
FitsNumber (number.Integer literal len) size = (0 < len) × (len ≤ size)
FitsNumber (number.Refused code) size = Unit {0}
