-- How code is cut into the pieces of a template, byte by byte.
use Rattle.std.specs.Prelude.{ℕ, ◌&&◌, ◌||◌, ◌==◌, Bool, true, false, fold, if◌then◌else◌, List, [], ◌∷◌, ◌++◌, Option, None, Some, Result, Ok, Err}
use Rattle.std.specs.List.{join_by}
use Rattle.xs_base.specs.Reading.{fault_in}
use Rattle.xs_base.specs.Scanning.{is_word_byte}
use Rattle.xs_base.specs.declared.fault.Fault.{Fault}
use Rattle.xs_base.specs.declared.fault_codes.TheConstants.{TEMPLATE_NOT_TAKEN}
use Rattle.xs_template.specs.Variables.{variable_named}
use Rattle.xs_template.specs.declared.cutting.Cutting.{Cutting}
use Rattle.xs_template.specs.declared.cutting.Mode.{Mode}
use Rattle.xs_template.specs.declared.cutting.Mode.TheVariants.{Plain, Backslash, Dollar, Braced, Refused}
use Rattle.xs_template.specs.declared.template.Piece.{Piece}
use Rattle.xs_template.specs.declared.template.Piece.TheVariants.{Text, Named}
use Rattle.xs_template.specs.declared.variables.Variable.{Variable}
use Rattle.xs_typemap.specs.declared.typemap.Code.{Code}

-- the lines of code as one text, with byte 10 between them
abbrev pub text_of : List (List ℕ) → List ℕ
text_of lines = join_by (λ line. line) (10 ∷ []) lines

-- before the first byte
abbrev pub begun : Cutting
begun = record { pieces = []; text = []; mode = Plain; name = [] }

abbrev pub with_byte : ℕ → Cutting → Cutting
with_byte b s = record s { text = s.text ++ b ∷ []; mode = Plain }

-- the text so far as a piece, where there is any
abbrev pub with_text : List ℕ → List Piece → List Piece
with_text [] pieces = pieces
with_text (b ∷ bs) pieces = pieces ++ Text (b ∷ bs) ∷ []

abbrev pub with_variable : Variable → Cutting → Cutting
with_variable variable s =
    record {
      pieces = with_text s.text s.pieces ++ Named variable ∷ [];
      text = [];
      mode = Plain;
      name = [];
    }

-- The code is no template: this is the word at fault.
abbrev pub refused : List ℕ → Cutting → Cutting
refused word s = record s { mode = Refused; name = word }

-- the word of a `$` without braces, and of one with `{` after it
abbrev pub dollar_word : List ℕ → List ℕ
dollar_word name = 36 ∷ name

abbrev pub braced_word : List ℕ
braced_word = 36 ∷ 123 ∷ []

-- a byte outside of all names
abbrev pub plain_byte : ℕ → Cutting → Cutting
plain_byte b s =
    if b == 36 then record s { mode = Dollar; name = [] }
    else (if b == 92 then record s { mode = Backslash } else with_byte b s)

-- the bytes that a backslash stands before: `"`, `\` and `$`
abbrev pub is_escaped : ℕ → Bool
is_escaped b = b == 34 || (b == 92 || b == 36)

-- the byte after a backslash, which else stays
abbrev pub escaped_byte : ℕ → Cutting → Cutting
escaped_byte b s = if is_escaped b then with_byte b s else with_byte b (with_byte 92 s)

-- a byte after a whole name, without braces
abbrev pub after_name : Option Variable → ℕ → Cutting → Cutting
after_name (Some variable) b s = plain_byte b (with_variable variable s)
after_name None b s = refused (dollar_word s.name) s

abbrev pub is_no_name : List ℕ → Bool
is_no_name [] = true
is_no_name (b ∷ bs) = false

abbrev pub with_letter : ℕ → Cutting → Cutting
with_letter b s = record s { name = s.name ++ b ∷ [] }

-- a byte after `$` and a part of a name
unfoldable pub dollar_byte : ℕ → Cutting → Cutting
dollar_byte b s =
    if is_word_byte b then with_letter b s
    else (if b == 123 && is_no_name s.name then record s { mode = Braced }
    else after_name (variable_named s.name) b s)

-- the closing brace after a whole name
abbrev pub closing : Option Variable → Cutting → Cutting
closing (Some variable) s = with_variable variable s
closing None s = refused braced_word s

-- a byte after `${` and a part of a name
unfoldable pub braced_byte : ℕ → Cutting → Cutting
braced_byte b s =
    if is_word_byte b then with_letter b s
    else (if b == 125 then closing (variable_named s.name) s else refused braced_word s)

abbrev pub step_at : Mode → ℕ → Cutting → Cutting
step_at Plain b s = plain_byte b s
step_at Backslash b s = escaped_byte b s
step_at Dollar b s = dollar_byte b s
step_at Braced b s = braced_byte b s
step_at Refused b s = s

-- a byte more
abbrev pub step : Cutting → ℕ → Cutting
step s b = step_at s.mode b s

-- at the end of the text
abbrev pub name_ended : Option Variable → Cutting → Cutting
name_ended (Some variable) s = with_variable variable s
name_ended None s = refused (dollar_word s.name) s

abbrev pub ended_at : Mode → Cutting → Cutting
ended_at Plain s = s
ended_at Backslash s = with_byte 92 s
ended_at Dollar s = name_ended (variable_named s.name) s
ended_at Braced s = refused braced_word s
ended_at Refused s = s

abbrev pub ended : Cutting → Cutting
ended s = ended_at s.mode s

abbrev pub is_refused : Mode → Bool
is_refused Refused = true
is_refused _ = false

-- The pieces, or the word at fault on the line of the kind's name.
abbrev pub finished : Code → Cutting → Result (List Piece) Fault
finished code s =
    if is_refused s.mode then Err (fault_in code.file code.line TEMPLATE_NOT_TAKEN s.name)
    else Ok (with_text s.text s.pieces)

-- how a text is cut, as far as it goes
abbrev pub cut_from : Cutting → List ℕ → Cutting
cut_from s text = fold step s text

-- the template that code is
abbrev pub template_of : Code → Result (List Piece) Fault
template_of code = finished code (ended (cut_from begun (text_of code.lines)))
