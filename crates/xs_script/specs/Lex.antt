-- The parts of a line.
use Rattle.std.specs.Bool.{then_some}
use Rattle.std.specs.Char.{digit_value}
use Rattle.std.specs.Option.{option_map, option_map_or, option_to_list}
use Rattle.std.specs.Prelude.{ℕ, zero, suc, ◌+◌, ◌*◌, ◌-◌, Bool, false, not, ◌&&◌, ◌||◌, ◌==◌, if◌then◌else◌, nat_lt, List, [], ◌∷◌, ◌++◌, codes, length, Option, Some, None, Result, Ok, Err}
use Rattle.xs_base.specs.Names.{is_qualified_name}
use Rattle.xs_base.specs.ByteRuns.{after_run, front_of}
use Rattle.xs_base.specs.Scanning.{starts_with, begins_word, is_blank, is_ascii_digit}
use Rattle.xs_base.specs.declared.byte_runs.ByteClass.TheVariants.{Digit, Name}
use Rattle.xs_base.specs.Reading.{with_front}
use Rattle.xs_script.specs.LineOutcomes.{NoReading}
use Rattle.xs_script.specs.declared.line_part.Token.{Token}
use Rattle.xs_script.specs.declared.line_part.Token.TheVariants as token
use Rattle.xs_script.specs.declared.line_part.Mark.{Mark}
use Rattle.xs_script.specs.declared.line_part.Mark.TheVariants as mark
use Rattle.xs_script.specs.declared.line_part.Front.{Front}
use Rattle.xs_script.specs.declared.line_part.Front.TheVariants as front
use Rattle.xs_script.specs.declared.line_parts.TextState.{TextState}
use Rattle.xs_script.specs.declared.line_parts.TextState.TheVariants as text

-- ---- bytes

-- the value of a hexadecimal digit of either case
abbrev pub hex_value : ℕ → Option ℕ
hex_value b = then_some (nat_lt (digit_value b) 16) (digit_value b)

-- ---- names

-- A name with what stands after it. A number right after it begins with its sign, since a digit
-- would belong to the name.
abbrev pub name_before : List ℕ → List ℕ → Front
name_before name after =
    if is_qualified_name name && not (starts_with (codes "-") after) then front.Piece
    (token.Name name) (length name) else front.Nothing

abbrev pub name_front : List ℕ → Front
name_front bytes = name_before (front_of Name bytes) (after_run Name bytes)

-- ---- numbers

-- a number of a sign and digits
abbrev pub signed_number : List ℕ → List ℕ → Front
signed_number sign [] = front.Nothing
signed_number sign (d ∷ ds) = front.Piece (token.Number (sign ++ d ∷ ds)) (length (sign ++ d ∷ ds))

-- a number whose digits stand after this sign
abbrev pub number_front : List ℕ → List ℕ → Front
number_front sign after = signed_number sign (front_of Digit after)

-- ---- texts

-- what \" \\ \n and \t stand for, by the byte after the backslash
abbrev pub escape_value : ℕ → Option ℕ
escape_value b =
    if b == 34 || b == 92 then Some b
    else (if b == 110 then Some 10 else (if b == 116 then Some 9 else None))

abbrev pub to_plain : ℕ → TextState × Option ℕ
to_plain value = (text.Plain, Some value)

abbrev pub high_digit : ℕ → TextState × Option ℕ
high_digit high = (text.Low high, None)

abbrev pub low_digit : ℕ → ℕ → TextState × Option ℕ
low_digit high low = to_plain (16 * high + low)

-- where reading of a text comes to after this byte, and the byte of the text that ends there
abbrev pub text_step : TextState → ℕ → Option (TextState × Option ℕ)
text_step text.Plain b = if b == 92 then Some (text.Escape, None) else Some (text.Plain, Some b)
text_step text.Escape b =
    if b == 120 then Some (text.High, None) else option_map to_plain (escape_value b)
text_step text.High b = option_map high_digit (hex_value b)
text_step (text.Low high) b = option_map (low_digit high) (hex_value b)

abbrev pub closes : TextState → ℕ → Bool
closes text.Plain b = b == 34
closes text.Escape b = false
closes text.High b = false
closes (text.Low high) b = false

abbrev pub on_step : Option (TextState × Option ℕ) → (TextState → List ℕ → Front) → Front
on_step step go =
    option_map_or (λ (next : TextState × Option ℕ). go next.0 (option_to_list next.1)) step
    front.Nothing

-- A text, of which so many bytes were read and stand for these bytes, from this place on.
abbrev pub text_front : TextState → List ℕ → ℕ → List ℕ → Front
text_front text_state content n [] = front.Nothing
text_front text_state content n (b ∷ bs) =
    if closes text_state b then front.Piece (token.Text content) (n + 1)
    else on_step (text_step text_state b)
    (λ next more. text_front next (content ++ more) (n + 1) bs)

-- ---- marks

abbrev pub single : ℕ → Option Mark
single b =
    if b == 61 then Some mark.Equals
    else (if b == 40 then Some mark.OpenRound
    else (if b == 41 then Some mark.CloseRound
    else (if b == 91 then Some mark.OpenSquare
    else (if b == 93 then Some mark.CloseSquare
    else (if b == 123 then Some mark.OpenCurly
    else (if b == 125 then Some mark.CloseCurly
    else (if b == 44 then Some mark.Comma
    else (if b == 59 then Some mark.Semicolon
    else (if b == 92 then Some mark.Backslash else None)))))))))

abbrev pub alone : Option Mark → Front
alone found = option_map_or (λ m. front.Piece (token.Mark m) 1) found front.Nothing

abbrev pub mark_front : ℕ → List ℕ → Front
mark_front b after =
    if b == 61 && starts_with (codes ">") after then front.Piece (token.Mark mark.Arrow) 2
    else alone (single b)

-- ---- lines

-- what stands at the front of the rest of a line
unfoldable pub first_part : List ℕ → Front
first_part [] = front.Nothing
first_part (b ∷ bs) =
    if is_blank b then front.Blank
    else (if begins_word b then name_front (b ∷ bs)
    else (if is_ascii_digit b then number_front [] (b ∷ bs)
    else (if b == 45 then number_front (45 ∷ []) bs
    else (if b == 34 then text_front text.Plain [] 1 bs
    else mark_front b bs))))

-- the parts of a line, with those after the front by how many of its further bytes are passed over
abbrev pub by_front : Front → (ℕ → Result (List Token) NoReading) → Result (List Token) NoReading
by_front front.Blank after_run = after_run 0
by_front (front.Piece token len) after_run = with_front (token ∷ []) (after_run (len - 1))
by_front front.Nothing after_run = Err tt

-- the parts of the rest of a line, of which this many bytes in front belong to the part before
unfoldable pub tokens_from : ℕ → List ℕ → Result (List Token) NoReading
tokens_from skip [] = Ok []
tokens_from (suc skip) (b ∷ bs) = tokens_from skip bs
tokens_from zero (b ∷ bs) = by_front (first_part (b ∷ bs)) (λ skip. tokens_from skip bs)

-- the parts of a line; there is no reading where a byte begins no part
abbrev pub tokens_of : List ℕ → Result (List Token) NoReading
tokens_of line = tokens_from 0 line
