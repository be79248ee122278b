-- Plain values, and their numbers, truth and texts.
use Rattle.std.specs.Prelude.{ℤ, pos, negsuc, neg_ℤ, ℕ, ◌-◌, ◌^◌, if◌then◌else◌, not, ◌==◌, Bool, true, false, List, [], ◌∷◌, int_lt, nat_lt}
use Rattle.std.specs.Fmt.{decimal, signed_decimal}
use Rattle.xs_base.specs.ByteRuns.{after_run, front_of}
use Rattle.xs_base.specs.Scanning.{value_of_digits}
use Rattle.xs_base.specs.declared.byte_runs.ByteClass.TheVariants.{Digit, Space}
use Rattle.xs_values.specs.declared.kind.Kind.TheVariants.{U64}
use Rattle.xs_values.specs.declared.plain.Plain.{Plain}
use Rattle.xs_values.specs.declared.plain.Plain.TheVariants.{Undef, Int, Uns, Text}
use Rattle.xs_values.specs.Numbers.{bits_in, is_same}

-- the number that the longest run of digits in front writes; none gives 0
abbrev pub value_in_front : List ℕ → ℕ
value_in_front text = value_of_digits (front_of Digit text)

-- one optional sign, and the longest run of digits
abbrev pub signed_number : List ℕ → ℤ
signed_number [] = pos 0
signed_number (b ∷ bs) =
    if b == 45 then neg_ℤ (pos (value_in_front bs))
    else (if b == 43 then pos (value_in_front bs) else pos (value_in_front (b ∷ bs)))

-- the whole number that a text begins with, after C's white space
abbrev pub whole_number : List ℕ → ℤ
whole_number bytes = signed_number (after_run Space bytes)

-- a number brought into a range
abbrev pub between : ℤ → ℤ → ℤ → ℤ
between low high z = if int_lt z low then low else (if int_lt high z then high else z)

-- the whole number of a text, in the range of IV and UV together
abbrev pub number_of_text : List ℕ → ℤ
number_of_text bytes = between (negsuc (2 ^ 63 - 1)) (pos (2 ^ 64 - 1)) (whole_number bytes)

-- a number brought into the range of IV
abbrev pub into_iv : ℤ → ℤ
into_iv z = between (negsuc (2 ^ 63 - 1)) (pos (2 ^ 63 - 1)) z

-- the number of a value
abbrev pub number_of : Plain → ℤ
number_of Undef = pos 0
number_of (Int i) = i
number_of (Uns u) = pos u
number_of (Text t) = number_of_text t

-- the IV of a value
abbrev pub iv_of : Plain → ℤ
iv_of Undef = pos 0
iv_of (Int i) = i
iv_of (Uns u) = into_iv (pos u)
iv_of (Text t) = into_iv (number_of_text t)

-- the UV of a value: its number modulo 2^64
abbrev pub uv_of : Plain → ℕ
uv_of p = bits_in U64 (number_of p)

-- Whether a value is true: undef, 0, the empty text and the text `0` are not.
abbrev pub truth_of : Plain → Bool
truth_of Undef = false
truth_of (Int i) = not (is_same i (pos 0))
truth_of (Uns u) = not (u == 0)
truth_of (Text []) = false
truth_of (Text (b ∷ [])) = not (b == 48)
truth_of (Text (b ∷ c ∷ bs)) = true

-- the text of a value
abbrev pub text_of : Plain → List ℕ
text_of Undef = []
text_of (Int i) = signed_decimal i
text_of (Uns u) = decimal u
text_of (Text t) = t

-- the value that holds a number of the range of UV
abbrev pub plain_of_uv : ℕ → Plain
plain_of_uv u = if nat_lt u (2 ^ 63) then Int (pos u) else Uns u
