-- What a token is to a parameter list.
use Rattle.std.specs.Prelude.{ℕ, Bool, true, false, ◌&&◌, if◌then◌else◌, List, Option, Some, None, codes}
use Rattle.std.specs.Str.{bytes_eq}
use Rattle.xs_ctok.specs.declared.token.TokKind.{TokKind}
use Rattle.xs_ctok.specs.declared.token.TokKind.TheVariants as kind
use Rattle.xs_ctok.specs.declared.token.Token.{Token}
use Rattle.xs_params.specs.declared.opens.Bracket.{Bracket}
use Rattle.xs_params.specs.declared.opens.Bracket.TheVariants as bracket
use Rattle.xs_params.specs.declared.param.Dir.{Dir}
use Rattle.xs_params.specs.declared.param.Dir.TheVariants as dir

abbrev pub is_word_kind : TokKind → Bool
is_word_kind kind.Word = true
is_word_kind _ = false

abbrev pub is_punct_kind : TokKind → Bool
is_punct_kind kind.Punct = true
is_punct_kind _ = false

abbrev pub is_directive_kind : TokKind → Bool
is_directive_kind kind.Include = true
is_directive_kind (kind.Define name literal) = true
is_directive_kind _ = false

abbrev pub is_same : List ℕ → List ℕ → Bool
is_same a b = bytes_eq a b

-- the token is a word
abbrev pub is_word : Token → Bool
is_word t = is_word_kind t.kind

-- the token is this punctuator
abbrev pub is_sign : List ℕ → Token → Bool
is_sign text t = is_punct_kind t.kind && bytes_eq t.text text

-- the token is a line that begins with `#`
abbrev pub is_directive : Token → Bool
is_directive t = is_directive_kind t.kind

-- the token is `NO_INIT`
abbrev pub is_no_init : Token → Bool
is_no_init t = is_word_kind t.kind && is_same t.text (codes "NO_INIT")

-- the direction that a word says
unfoldable pub direction_of : List ℕ → Option Dir
direction_of word =
    if is_same word (codes "IN") then Some dir.In
    else if is_same word (codes "OUT") then Some dir.Out
    else if is_same word (codes "IN_OUT") then Some dir.InOut
    else if is_same word (codes "OUTLIST") then Some dir.OutList
    else if is_same word (codes "IN_OUTLIST") then Some dir.InOutList
    else None

-- the bracket that a token opens
unfoldable pub opened_by : Token → Option Bracket
opened_by t =
    if is_sign (codes "(") t then Some bracket.Round
    else if is_sign (codes "[") t then Some bracket.Square
    else if is_sign (codes "{") t then Some bracket.Curly
    else None

-- the bracket that a token closes
unfoldable pub closed_by : Token → Option Bracket
closed_by t =
    if is_sign (codes ")") t then Some bracket.Round
    else if is_sign (codes "]") t then Some bracket.Square
    else if is_sign (codes "}") t then Some bracket.Curly
    else None
