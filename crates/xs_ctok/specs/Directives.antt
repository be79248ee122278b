-- Lines that begin with `#`.
use Rattle.std.specs.Prelude.{ℕ, ◌+◌, ◌-◌, Bool, true, not, ◌==◌, ◌&&◌, nat_lt, if◌then◌else◌, List, [], ◌∷◌, codes, drop, length, Option, Some, None}
use Rattle.std.specs.Str.{bytes_eq}
use Rattle.xs_base.specs.ByteRuns as runs
use Rattle.xs_base.specs.ByteRuns.{after_blanks, after_run}
use Rattle.xs_base.specs.declared.byte_runs.ByteClass.TheVariants as class
use Rattle.xs_base.specs.declared.fault_codes.TheConstants.{DEFINE_NOT_TAKEN, LITERAL_TOO_WIDE, STRAY_BYTE}
use Rattle.xs_base.specs.Readers.{head_is}
use Rattle.xs_base.specs.Scanning.{begins_word, is_ascii_digit, is_blank, starts_with}
use Rattle.xs_ctok.specs.CWords.{is_reserved}
use Rattle.xs_ctok.specs.Numerals.{number_front}
use Rattle.xs_ctok.specs.declared.directives.Gap.{Gap}
use Rattle.xs_ctok.specs.declared.directives.Gap.TheVariants as gap
use Rattle.xs_ctok.specs.declared.front.Front.{Front}
use Rattle.xs_ctok.specs.declared.front.Front.TheVariants as front
use Rattle.xs_ctok.specs.declared.numerals.NumberFront.{NumberFront}
use Rattle.xs_ctok.specs.declared.numerals.NumberFront.TheVariants as number
use Rattle.xs_ctok.specs.declared.token.TokKind.TheVariants as kind

-- ---- blanks and comments on the line

abbrev pub after_star : ℕ → Gap
after_star b = if b == 47 then gap.Between else if b == 42 then gap.Star else gap.Inside

abbrev pub begun_gap : ℕ → List ℕ → Option Gap
begun_gap b more =
    if is_blank b then Some gap.Between
    else if b == 47 && starts_with (codes "*") more then Some gap.Opening
    else None

-- what is open after a byte that a blank or a comment has there, with these bytes after it
abbrev pub gap_step : Gap → ℕ → List ℕ → Option Gap
gap_step gap.Between b more = begun_gap b more
gap_step gap.Opening b more = Some gap.Inside
gap_step gap.Inside b more = if b == 42 then Some gap.Star else Some gap.Inside
gap_step gap.Star b more = Some (after_star b)

abbrev pub on_gap : Option Gap → List ℕ → (Gap → List ℕ) → List ℕ
on_gap None text go = text
on_gap (Some next) text go = go next

-- What stands after the blanks and the comments in front. A comment may stay open.
abbrev pub after_gap : Gap → List ℕ → List ℕ
after_gap so_far [] = []
after_gap so_far (b ∷ bs) = on_gap (gap_step so_far b bs) (b ∷ bs) (λ next. after_gap next bs)

abbrev pub ends_line : List ℕ → Bool
ends_line [] = true
ends_line (b ∷ bs) = starts_with (codes "//") (b ∷ bs)

-- Only blanks and comments stand up to the end of the line.
unfoldable pub is_over : List ℕ → Bool
is_over text = ends_line (after_gap gap.Between text)

-- ---- directives

-- a name that a `#define` may have
unfoldable pub may_define : List ℕ → Bool
may_define name = head_is begins_word name && not (is_reserved name)

-- the fault of a `#define` with this fault in the place of its integer
abbrev pub define_fault : ℕ → ℕ
define_fault code = if code == LITERAL_TOO_WIDE then LITERAL_TOO_WIDE else DEFINE_NOT_TAKEN

abbrev pub defined : List ℕ → List ℕ → List ℕ → NumberFront → Front
defined whole name text (number.Refused code) = front.Refused (define_fault code)
defined whole name text (number.Integer literal len) =
    if is_over (drop len text) then front.Piece (kind.Define name literal)
    (length whole - length text + len)
    else front.Refused DEFINE_NOT_TAKEN

-- a `#define` of a name, of which these bytes are left from its integer on
abbrev pub integer_define : List ℕ → List ℕ → List ℕ → Front
integer_define whole name text = defined whole name text (number_front text)

abbrev pub valued_by : List ℕ → List ℕ → List ℕ → List ℕ → Front
valued_by whole name rest text =
    if nat_lt (length text) (length rest) && head_is is_ascii_digit text then integer_define whole
    name text
    else front.Refused DEFINE_NOT_TAKEN

-- a `#define` of a name, with these bytes after the name
abbrev pub valued_define : List ℕ → List ℕ → List ℕ → Front
valued_define whole name rest = valued_by whole name rest (after_gap gap.Between rest)

abbrev pub is_no_context : List ℕ → List ℕ → Bool
is_no_context name rest = bytes_eq name (codes "PERL_NO_GET_CONTEXT") && is_over rest

-- a `#define` with this word after it, and these bytes after the word
unfoldable pub named_define : List ℕ → List ℕ → List ℕ → Front
named_define whole name rest =
    if is_no_context name rest then front.Piece kind.Include (length whole - length rest)
    else if may_define name then valued_define whole name rest
    else front.Refused DEFINE_NOT_TAKEN

abbrev pub word_in : List ℕ → List ℕ
word_in text = runs.front_of class.Word (after_blanks text)

abbrev pub after_word : List ℕ → List ℕ
after_word text = after_run class.Word (after_blanks text)

-- a `#define` with these bytes after it
abbrev pub define_front : List ℕ → List ℕ → Front
define_front whole text =
    if head_is is_blank text then named_define whole (word_in text) (after_word text)
    else front.Refused DEFINE_NOT_TAKEN

-- The directive of a line from its `#` on, with these bytes after the `#`.
unfoldable pub directive_front : List ℕ → List ℕ → Front
directive_front whole text =
    if bytes_eq (word_in text) (codes "include") then front.Piece kind.Include (length whole)
    else if bytes_eq (word_in text) (codes "define") then define_front whole (after_word text)
    else front.Refused STRAY_BYTE
