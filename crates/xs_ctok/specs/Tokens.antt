-- The tokens of the lines of a C text, or its first fault.
use Rattle.std.specs.List.{list_all}
use Rattle.std.specs.Option.{option_to_list}
use Rattle.std.specs.Prelude.{◌≡◌, ℕ, zero, suc, ◌+◌, ◌-◌, ◌^◌, ◌<◌, ◌≤◌, Bool, true, false, nat_lt, codes, if◌then◌else◌, List, [], ◌∷◌, ◌++◌, length, take, Option, Some, None, Result, Ok, Err}
use Rattle.xs_base.specs.declared.fault_codes.TheConstants.{OPEN_COMMENT_OR_TEXT}
use Rattle.xs_base.specs.declared.fault.Fault.{Fault}
use Rattle.xs_base.specs.declared.fault.Refuse.{Refuse}
use Rattle.xs_base.specs.declared.source.FileOf.{FileOf}
use Rattle.xs_base.specs.declared.source.Line.{Line}
use Rattle.xs_base.specs.declared.source.Span.{Span}
use Rattle.xs_base.specs.Reading.{◌>>=◌, Fails, fault_in, with_front}
use Rattle.xs_base.specs.Scanning.{starts_with}
use Rattle.xs_ctok.specs.Fronts.{front_of}
use Rattle.xs_ctok.specs.declared.front.Front.{Front}
use Rattle.xs_ctok.specs.declared.front.Front.TheVariants as front
use Rattle.xs_ctok.specs.declared.lexing.Mode.{Mode}
use Rattle.xs_ctok.specs.declared.lexing.Mode.TheVariants as mode
use Rattle.xs_ctok.specs.declared.lexing.Moved.{Moved}
use Rattle.xs_ctok.specs.declared.token.TokKind.{TokKind}
use Rattle.xs_ctok.specs.declared.token.Token.{Token}

-- ---- one step on a line

abbrev pub passed : Mode → ℕ → Moved
passed m len = record { token = None; mode = m; len = len }

abbrev pub token_at : TokKind → Span → List ℕ → Token
token_at kind span text = record { kind = kind; text = text; span = span }

-- The step over what stands at the front of a line's rest, where no comment is open.
abbrev pub by_front : FileOf → Span → Mode → List ℕ → Front → Result Moved Fault
by_front file span m text front.Blank = Ok (passed m 1)
by_front file span m text front.LineComment = Ok (passed mode.Between (length text))
by_front file span m text front.Comment = Ok (passed (mode.Inside span.line) 2)
by_front file span m text (front.Piece kind len) =
    Ok (record {
      token = Some (token_at kind span (take len text));
      mode = mode.Between;
      len = len;
    })
by_front file span m text (front.Refused code) = Err (fault_in file span.line code [])

abbrev pub step_on : FileOf → Span → Mode → List ℕ → Result Moved Fault
step_on file span mode.Fresh text = by_front file span mode.Fresh text (front_of true text)
step_on file span mode.Between text = by_front file span mode.Between text (front_of false text)
step_on file span (mode.Inside opened) text =
    by_front file span (mode.Inside opened) text (front_of false text)

-- The step in a comment that was opened on a line.
abbrev pub step_inside : ℕ → List ℕ → Moved
step_inside opened text = if starts_with (codes "*/") text then passed mode.Between 2
    else passed (mode.Inside opened) 1

abbrev pub step : FileOf → Span → Mode → List ℕ → Result Moved Fault
step file span (mode.Inside opened) text = Ok (step_inside opened text)
step file span mode.Fresh text = step_on file span mode.Fresh text
step file span mode.Between text = step_on file span mode.Between text

-- A step is over a byte or more of the rest.
abbrev pub FitsStep : Moved → ℕ → Type 0
FitsStep m size = (0 < m.len) × (m.len ≤ size)

-- ---- a line

-- the tokens of a line, and the line of the comment that is open at its end
pub record Cut : Type 0 where
  pub tokens : List Token
  pub open_at : Option ℕ

abbrev pub with_tokens : List Token → Result Cut Fault → Result Cut Fault
with_tokens before (Ok cut) = Ok (record { tokens = before ++ cut.tokens; open_at = cut.open_at })
with_tokens before (Err fault) = Err fault

abbrev pub open_in : Mode → Option ℕ
open_in (mode.Inside opened) = Some opened
open_in mode.Fresh = None
open_in mode.Between = None

abbrev pub then_cut : Result Moved Fault → (Moved → Result Cut Fault) → Result Cut Fault
then_cut (Ok m) go = with_tokens (option_to_list m.token) (go m)
then_cut (Err fault) go = Err fault

-- The tokens of the rest of a line from a column on, of which so many bytes in front belong to the
-- step before.
unfoldable pub line_from : FileOf → ℕ → Mode → ℕ → ℕ → List ℕ → Result Cut Fault
line_from file line m skip col [] = Ok (record { tokens = []; open_at = open_in m })
line_from file line m (suc skip) col (b ∷ bs) = line_from file line m skip (col + 1) bs
line_from file line m zero col (b ∷ bs) =
    then_cut (step file (record { line = line; col = col }) m (b ∷ bs))
    (λ moved. line_from file line moved.mode (moved.len - 1) (col + 1) bs)

abbrev pub begun : Option ℕ → Mode
begun (Some opened) = mode.Inside opened
begun None = mode.Fresh

-- the tokens of a line, at whose begin a comment of that line is open or none
abbrev pub cut_of : FileOf → Option ℕ → Line → Result Cut Fault
cut_of file opened line = line_from file line.number (begun opened) 0 1 line.text

-- ---- all lines

abbrev pub closed : FileOf → Option ℕ → Result (List Token) Fault
closed file None = Ok []
closed file (Some opened) = Err (fault_in file opened OPEN_COMMENT_OR_TEXT [])

-- a line that columns can count
abbrev pub short_text : List ℕ → Bool
short_text text = nat_lt (length text) (2 ^ 32 - 1)

abbrev pub is_short : Line → Bool
is_short line = short_text line.text

abbrev pub are_short : List Line → Bool
are_short all = list_all is_short all

-- the tokens of lines, where a comment of that line is open or none
unfoldable pub tokens_from : FileOf → Option ℕ → List Line → Result (List Token) Fault
tokens_from file opened [] = closed file opened
tokens_from file opened (line ∷ lines) =
    cut_of file opened line >>= (λ cut. with_front cut.tokens (tokens_from file cut.open_at lines))

-- The tokens of the lines of a text, or its first fault.
abbrev pub tokens_of : FileOf → List Line → Result (List Token) Fault
tokens_of file lines = tokens_from file None lines

-- ---- what the reader of a line ensures

-- The tokens of a line were added.
abbrev pub Cuts : List Token → Result (Option ℕ) Refuse → List Token → Result Cut Fault → Type 0
Cuts old (Ok opened) new read =
    with_tokens old read ≡ Ok (record { tokens = new; open_at = opened })
Cuts old (Err e) new read = Fails e read
