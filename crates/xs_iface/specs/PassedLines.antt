-- Lines of C that give nothing but an `#include` or PERL_NO_GET_CONTEXT.
use Rattle.std.specs.List.{list_all}
use Rattle.std.specs.Prelude.{ℕ, Bool, true, false, ◌&&◌, ◌||◌, List, [], ◌∷◌, Result, Ok, Err}
use Rattle.std.specs.Str.Lines.{strip_carriage_return}
use Rattle.xs_base.specs.ByteRuns.{is_remark}
use Rattle.xs_base.specs.Lines.{has_no_end}
use Rattle.xs_base.specs.Scanning.{is_blank_line}
use Rattle.xs_base.specs.declared.fault.Fault.{Fault}
use Rattle.xs_base.specs.declared.source.FileOf.TheVariants as file
use Rattle.xs_base.specs.declared.source.Line.{Line}
use Rattle.xs_ctok.specs.Tokens.{are_short, tokens_of}
use Rattle.xs_ctok.specs.declared.token.TokKind.{TokKind}
use Rattle.xs_ctok.specs.declared.token.TokKind.TheVariants as kind
use Rattle.xs_ctok.specs.declared.token.Token.{Token}

-- a token that is a line that is passed over
abbrev pub is_passed_kind : TokKind → Bool
is_passed_kind kind.Include = true
is_passed_kind _ = false

abbrev pub is_passed_token : Token → Bool
is_passed_token t = is_passed_kind t.kind

abbrev pub gives_nothing : Result (List Token) Fault → Bool
gives_nothing (Ok ts) = list_all is_passed_token ts
gives_nothing (Err fault) = false

-- the bytes as the one line of a C text, which loses one byte 13 in front of its end
abbrev pub alone : List ℕ → List Line
alone text = record { number = 1; text = strip_carriage_return text } ∷ []

-- one line, which is blank or begins with `#` after blanks
abbrev pub may_pass : List ℕ → Bool
may_pass text = has_no_end text && (is_blank_line text || is_remark text)

-- Alone, the line has no token but one that is passed over.
unfoldable pub is_passed_line : List ℕ → Bool
is_passed_line text =
    may_pass text && (are_short (alone text) && gives_nothing (tokens_of file.Text (alone text)))
