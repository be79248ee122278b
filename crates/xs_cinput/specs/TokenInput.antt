-- What the grammar reads from, and the steps that its rules are made of.
use Rattle.std.specs.Prelude.{◌≡◌, ℕ, suc, Bool, true, false, not, ◌&&◌, ◌||◌, if◌then◌else◌, List, [], ◌∷◌, length, codes, Result, Ok, Err}
use Rattle.std.specs.Str.{bytes_eq}
use Rattle.xs_base.specs.declared.fault_codes.TheConstants.{NESTED_TOO_DEEP, NO_READING_HERE}
use Rattle.xs_base.specs.declared.fault.Fault.{Fault}
use Rattle.xs_base.specs.declared.fault.Refuse.{Refuse}
use Rattle.xs_base.specs.declared.source.FileOf.{FileOf}
use Rattle.xs_base.specs.Names.{is_among}
use Rattle.xs_base.specs.Reading.{GivesBy, fault_in}
use Rattle.xs_base.specs.Readers as readers
use Rattle.xs_base.specs.Readers.{head_is, tail, pure}
use Rattle.xs_ctok.specs.declared.token.TokKind.{TokKind}
use Rattle.xs_ctok.specs.declared.token.TokKind.TheVariants as kind
use Rattle.xs_ctok.specs.declared.token.Token.{Token}
use Rattle.xs_ctok.specs.CWords.{is_dropped_statement, is_dropped_word, is_no_name, is_type_word}

-- ---- a token

abbrev pub is_punct_kind : TokKind → Bool
is_punct_kind kind.Punct = true
is_punct_kind _ = false

abbrev pub is_word_kind : TokKind → Bool
is_word_kind kind.Word = true
is_word_kind _ = false

abbrev pub is_directive_kind : TokKind → Bool
is_directive_kind kind.Include = true
is_directive_kind (kind.Define name literal) = true
is_directive_kind _ = false

-- the token is this punctuator
abbrev pub is_sign : List ℕ → Token → Bool
is_sign text t = is_punct_kind t.kind && bytes_eq t.text text

-- the token is this word
abbrev pub is_word : List ℕ → Token → Bool
is_word text t = is_word_kind t.kind && bytes_eq t.text text

-- the token is a word that may be a name of something
abbrev pub is_name : Token → Bool
is_name t = is_word_kind t.kind && not (is_no_name t.text)

-- the token begins a type, where the file has declared these
abbrev pub is_type : List (List ℕ) → Token → Bool
is_type types t = is_word_kind t.kind && (is_type_word t.text || is_among types t.text)

-- the token may be the name of a variable, a parameter or what is called
abbrev pub is_variable : List (List ℕ) → Token → Bool
is_variable types t = is_name t && not (is_among types t.text)

-- ---- words that are dropped

-- A word that is dropped, or a line that is passed over where a whole file is read.
abbrev pub is_passed : Bool → Token → Bool
is_passed whole t =
    (is_word_kind t.kind && is_dropped_word t.text) || (whole && is_directive_kind t.kind)

-- a word that is dropped with the `;` after it
abbrev pub is_passed_pair : Token → List Token → Bool
is_passed_pair t ts = is_word_kind t.kind && is_dropped_statement t.text
    && head_is (is_sign (codes ";")) ts

-- the tokens that the grammar reads, after a token that is dropped with the one before it
abbrev pub kept_from : Bool → Bool → List Token → List Token
kept_from whole after_pair [] = []
kept_from whole true (t ∷ ts) = kept_from whole false ts
kept_from whole false (t ∷ ts) = if is_passed whole t then kept_from whole false ts
    else (if is_passed_pair t ts then kept_from whole true ts else t ∷ kept_from whole false ts)

-- the tokens that the grammar reads
abbrev pub kept : Bool → List Token → List Token
kept whole ts = kept_from whole false ts

-- The first of these tokens is not dropped.
abbrev pub is_settled : Bool → List Token → Type 0
is_settled whole [] = Unit {0}
is_settled whole (t ∷ ts) = kept whole (t ∷ ts) ≡ t ∷ kept whole ts

-- ---- the input

-- The tokens that are left, the names of the types that are declared, the file, the line of a fault
-- at the early end, and turns enough for a loop that consumes a token in each.
pub record Input : Type 0 where
  pub rest : List Token
  pub types : List (List ℕ)
  pub file : FileOf
  pub last : ℕ
  pub turns : ℕ

abbrev pub line_at : ℕ → List Token → ℕ
line_at last [] = last
line_at last (t ∷ ts) = t.span.line

abbrev pub text_at : List Token → List ℕ
text_at [] = []
text_at (t ∷ ts) = t.text

abbrev pub is_empty : List Token → Bool
is_empty [] = true
is_empty (t ∷ ts) = false

unfoldable pub at_end : Input → Bool
at_end i = is_empty i.rest

unfoldable pub sees : List ℕ → Input → Bool
sees text i = head_is (is_sign text) i.rest

unfoldable pub sees_word : List ℕ → Input → Bool
sees_word text i = head_is (is_word text) i.rest

unfoldable pub sees_name : Input → Bool
sees_name i = head_is is_name i.rest

unfoldable pub sees_type : Input → Bool
sees_type i = head_is (is_type i.types) i.rest

unfoldable pub sees_variable : Input → Bool
sees_variable i = head_is (is_variable i.types) i.rest

-- the line of the next token, or the last line
unfoldable pub line : Input → ℕ
line i = line_at i.last i.rest

unfoldable pub next : Input → Input
next i = record i { rest = tail i.rest }

-- the next token's text, or nothing
unfoldable pub spelling : Input → List ℕ
spelling i = text_at i.rest

unfoldable pub fault : ℕ → Input → Fault
fault code i = fault_in i.file (line i) code []

-- ---- readers

-- what reading tokens comes to
abbrev pub Outcome : Type 0 → Type 0
Outcome A = readers.Outcome Input Fault A

abbrev pub Reader : Type 0 → Type 0
Reader A = readers.Reader Input Fault A

-- no reading here
abbrev pub refuse : {A : Type 0} → Reader A
refuse = λ i. Err (fault NO_READING_HERE i)

abbrev pub too_deep : {A : Type 0} → Reader A
too_deep = λ i. Err (fault NESTED_TOO_DEEP i)

-- the line of the next token
abbrev pub here : Reader ℕ
here = λ i. Ok (line i, i)

-- passes over the next token
abbrev pub skip : Reader (Unit {0})
skip = λ i. Ok (tt, next i)

-- consumes the next token, and gives its text
abbrev pub consume_token : Reader (List ℕ)
consume_token = λ i. Ok (spelling i, next i)

unfoldable pub after : List ℕ → Input → Input
after text i = if sees text i then next i else i

-- consumes this punctuator, if it comes next
abbrev pub eat : List ℕ → Reader Bool
eat text = λ i. Ok (sees text i, after text i)

-- consumes the next token, if it is the one that is expected
abbrev pub passed : Bool → Reader (Unit {0})
passed is_expected = λ i. if is_expected then Ok (tt, next i) else refuse i

abbrev pub consumed : Bool → Reader (List ℕ)
consumed is_expected = λ i. if is_expected then consume_token i else refuse i

unfoldable pub expect : List ℕ → Reader (Unit {0})
expect text = λ i. passed (sees text i) i

unfoldable pub expect_word : List ℕ → Reader (Unit {0})
expect_word text = λ i. passed (sees_word text i) i

unfoldable pub a_name : Reader (List ℕ)
a_name = λ i. consumed (sees_name i) i

unfoldable pub a_variable : Reader (List ℕ)
a_variable = λ i. consumed (sees_variable i) i

-- ---- what a function that reads ensures

abbrev pub Reads : {X A : Type 0} → (X → A) → Outcome A → Result X Refuse → Input → Type 0
Reads view outcome result new = GivesBy (λ x. (view x, new)) result outcome
