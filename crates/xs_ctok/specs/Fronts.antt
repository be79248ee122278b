-- What stands at the front of the rest of a line.
use Rattle.std.specs.Prelude.{ℕ, Bool, ◌==◌, if◌then◌else◌, List, [], ◌∷◌, length}
use Rattle.xs_base.specs.ByteRuns as runs
use Rattle.xs_base.specs.declared.byte_runs.ByteClass.TheVariants as class
use Rattle.xs_base.specs.declared.fault_codes.TheConstants.{FLOATING_POINT_IN_C, STRAY_BYTE}
use Rattle.xs_base.specs.Readers.{head_is}
use Rattle.xs_base.specs.Scanning.{begins_word, is_ascii_digit, is_blank}
use Rattle.xs_ctok.specs.Directives.{directive_front}
use Rattle.xs_ctok.specs.Numerals.{number_front}
use Rattle.xs_ctok.specs.Punctuators.{punctuator_front}
use Rattle.xs_ctok.specs.QuotedTexts.{char_front, text_front}
use Rattle.xs_ctok.specs.declared.front.Front.{Front}
use Rattle.xs_ctok.specs.declared.front.Front.TheVariants as front
use Rattle.xs_ctok.specs.declared.numerals.NumberFront.{NumberFront}
use Rattle.xs_ctok.specs.declared.numerals.NumberFront.TheVariants as number
use Rattle.xs_ctok.specs.declared.token.TokKind.TheVariants as kind

abbrev pub word_front : List ℕ → Front
word_front text = front.Piece kind.Word (length (runs.front_of class.Word text))

abbrev pub integer_token : NumberFront → Front
integer_token (number.Integer literal len) = front.Piece (kind.Int literal) len
integer_token (number.Refused code) = front.Refused code

abbrev pub integer_front : List ℕ → Front
integer_front text = integer_token (number_front text)

-- a `.`, which begins a floating constant where a digit follows it
abbrev pub dot_front : List ℕ → List ℕ → Front
dot_front text more = if head_is is_ascii_digit more then front.Refused FLOATING_POINT_IN_C
    else punctuator_front text

-- a `/`, which may begin a comment (C11 6.4.9)
abbrev pub slash_front : List ℕ → List ℕ → Front
slash_front text more =
    if head_is (λ c. c == 47) more then front.LineComment
    else if head_is (λ c. c == 42) more then front.Comment
    else punctuator_front text

-- a `#`, which begins a directive where only blanks stand before it on the line (C11 6.10)
abbrev pub hash_front : Bool → List ℕ → List ℕ → Front
hash_front fresh text more =
    if fresh then directive_front text more else front.Refused STRAY_BYTE

-- the token that begins with this byte
unfoldable pub token_front : ℕ → List ℕ → List ℕ → Front
token_front b text more =
    if begins_word b then word_front text
    else if is_ascii_digit b then integer_front text
    else if b == 46 then dot_front text more
    else if b == 34 then text_front [] 1 0 more
    else if b == 39 then char_front more
    else punctuator_front text

-- What stands at the front of the rest of a line, of which only blanks stood so far or not.
unfoldable pub front_of : Bool → List ℕ → Front
front_of fresh [] = front.Blank
front_of fresh (b ∷ bs) =
    if is_blank b then front.Blank
    else if b == 47 then slash_front (b ∷ bs) bs
    else if b == 35 then hash_front fresh (b ∷ bs) bs
    else token_front b (b ∷ bs) bs
