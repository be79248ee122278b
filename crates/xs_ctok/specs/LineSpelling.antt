-- How lines are read: from place to place, over blanks, comments and tokens.
use Rattle.std.specs.Prelude.{◌≡◌, ℕ, ◌+◌, ◌<◌, Bool, true, false, codes, List, [], ◌∷◌, ◌++◌, drop, length, Option, Some, None}
use Rattle.xs_base.specs.declared.fault_codes.TheConstants.{OPEN_COMMENT_OR_TEXT}
use Rattle.xs_base.specs.declared.fault.Fault.{Fault}
use Rattle.xs_base.specs.declared.source.FileOf.{FileOf}
use Rattle.xs_base.specs.declared.source.Line.{Line}
use Rattle.xs_base.specs.declared.source.Span.{Span}
use Rattle.xs_base.specs.Readers.{head_is}
use Rattle.xs_base.specs.Reading.{fault_in}
use Rattle.xs_base.specs.Scanning.{is_blank, starts_with}
use Rattle.xs_ctok.specs.Fronts.{front_of}
use Rattle.xs_ctok.specs.Tokens.{begun, open_in, token_at}
use Rattle.xs_ctok.specs.TokenSpelling.{Stands}
use Rattle.xs_ctok.specs.declared.front.Front.TheVariants as front
use Rattle.xs_ctok.specs.declared.lexing.Mode.{Mode}
use Rattle.xs_ctok.specs.declared.lexing.Mode.TheVariants as mode
use Rattle.xs_ctok.specs.declared.token.TokKind.{TokKind}
use Rattle.xs_ctok.specs.declared.token.Token.{Token}

-- no comment is open
abbrev pub is_code : Mode → Bool
is_code mode.Fresh = true
is_code mode.Between = true
is_code (mode.Inside opened) = false

-- only blanks stand on the line so far
abbrev pub is_fresh : Mode → Bool
is_fresh mode.Fresh = true
is_fresh mode.Between = false
is_fresh (mode.Inside opened) = false

abbrev pub span_at : ℕ → ℕ → Span
span_at line col = record { line = line; col = col }

-- From a mode, a column and the bytes from there on, reading of a line comes over these tokens to
-- another such place. Each byte on the way is a blank, of a comment, or of one of the tokens.
pub data Reads (line : ℕ) : Mode → ℕ → List ℕ → List Token → Mode → ℕ → List ℕ → Type 0 where
  here : {m : Mode} {c : ℕ} {bs : List ℕ} → Reads line m c bs [] m c bs
  blank : {m n : Mode} {c d b : ℕ} {bs es : List ℕ} {ts : List Token} → is_code m ≡ true
      → is_blank b ≡ true → Reads line m (c + 1) bs ts n d es → Reads line m c (b ∷ bs) ts n d es
  line_comment : {m : Mode} {c : ℕ} {more : List ℕ} → is_code m ≡ true
      → Reads line m c (47 ∷ 47 ∷ more) [] mode.Between (c + length (47 ∷ 47 ∷ more)) []
  comment : {m n : Mode} {c d : ℕ} {bs es : List ℕ} {ts : List Token} → is_code m ≡ true
      → Reads line (mode.Inside line) (c + 2) bs ts n d es
      → Reads line m c (47 ∷ 42 ∷ bs) ts n d es
  inside : {n : Mode} {opened c d b : ℕ} {bs es : List ℕ} {ts : List Token}
      → starts_with (codes "*/") (b ∷ bs) ≡ false
      → Reads line (mode.Inside opened) (c + 1) bs ts n d es
      → Reads line (mode.Inside opened) c (b ∷ bs) ts n d es
  close : {n : Mode} {opened c d : ℕ} {bs es : List ℕ} {ts : List Token}
      → Reads line mode.Between (c + 2) bs ts n d es
      → Reads line (mode.Inside opened) c (42 ∷ 47 ∷ bs) ts n d es
  token : {m n : Mode} {c d : ℕ} {t rest es : List ℕ} {k : TokKind} {ts : List Token}
      → is_code m ≡ true → Stands (is_fresh m) k t rest
      → Reads line mode.Between (c + length t) rest ts n d es
      → Reads line m c (t ++ rest) (token_at k (span_at line c) t ∷ ts) n d es

-- Lines are read to their ends, and no comment stays open.
pub data IsRead : Option ℕ → List Line → List Token → Type 0 where
  ended : IsRead None [] []
  one_line : {opened : Option ℕ} {line : Line} {lines : List Line} {ts us : List Token} {m : Mode}
      {d : ℕ} → Reads line.number (begun opened) 1 line.text ts m d [] → IsRead (open_in m) lines us
      → IsRead opened (line ∷ lines) (ts ++ us)

-- No blank, no comment and no token begins at a place.
pub record NoToken (m : Mode) (text : List ℕ) : Type 0 where
  pub some : 0 < length text
  pub code : is_code m ≡ true
  pub no_blank : head_is is_blank text ≡ false
  pub no_line_comment : starts_with (codes "//") text ≡ false
  pub no_comment : starts_with (codes "/*") text ≡ false
  pub no_token : (k : TokKind) (t rest : List ℕ) → text ≡ t ++ rest
      → Stands (is_fresh m) k t rest → ⊥

-- The fault of lines: reading comes to a place where no token begins, or a comment stays open.
pub data IsFault (file : FileOf) : Option ℕ → List Line → Fault → Type 0 where
  stays_open : {opened : ℕ}
      → IsFault file (Some opened) [] (fault_in file opened OPEN_COMMENT_OR_TEXT [])
  here : {opened : Option ℕ} {line : Line} {lines : List Line} {ts : List Token} {m : Mode}
      {d code : ℕ} {rest : List ℕ} → Reads line.number (begun opened) 1 line.text ts m d rest
      → NoToken m rest → front_of (is_fresh m) rest ≡ front.Refused code
      → IsFault file opened (line ∷ lines) (fault_in file line.number code [])
  later : {opened : Option ℕ} {line : Line} {lines : List Line} {ts : List Token} {m : Mode} {d : ℕ}
      {fault : Fault} → Reads line.number (begun opened) 1 line.text ts m d []
      → IsFault file (open_in m) lines fault → IsFault file opened (line ∷ lines) fault

-- Each token stands at its line and column of a text that begins at a column, after the token
-- before it.
abbrev pub ArePlaced : ℕ → ℕ → List ℕ → List Token → Type 0
ArePlaced line col text [] = Unit {0}
ArePlaced line col text (t ∷ ts) =
    (skip : ℕ) × (rest : List ℕ) × (t.span ≡ span_at line (col + skip))
    × (drop skip text ≡ t.text ++ rest)
    × ArePlaced line (col + skip + length t.text) rest ts
