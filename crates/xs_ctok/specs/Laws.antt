-- The statements of the laws of this crate.
use Rattle.std.specs.List.{list_all}
use Rattle.std.specs.Prelude.{◌≡◌, ℕ, ◌+◌, ◌^◌, ◌<◌, ◌≤◌, Bool, true, false, length, List, [], ◌∷◌, ◌++◌, map, Option, None, Result, Ok, Err}
use Rattle.xs_base.specs.declared.fault_codes.TheConstants.{FLOATING_POINT_IN_C, LITERAL_TOO_WIDE, OPEN_COMMENT_OR_TEXT, STRAY_BYTE}
use Rattle.xs_base.specs.declared.fault.Fault.{Fault}
use Rattle.xs_base.specs.declared.source.FileOf.{FileOf}
use Rattle.xs_base.specs.declared.source.Line.{Line}
use Rattle.xs_base.specs.Names.{is_among}
use Rattle.xs_base.specs.Readers.{head_is}
use Rattle.xs_base.specs.Reading.{with_front}
use Rattle.xs_base.specs.Scanning.{starts_with}
use Rattle.xs_ctok.specs.LineSpelling.{ArePlaced, IsFault, IsRead}
use Rattle.xs_values.specs.declared.literal.Base.{Base}
use Rattle.xs_values.specs.declared.literal.Base.TheVariants as base
use Rattle.xs_values.specs.declared.literal.Suffix.{Suffix}
use Rattle.xs_values.specs.declared.model.DataModel.{DataModel}
use Rattle.xs_values.specs.Literals.{literal_kind_of}
use Rattle.xs_ctok.specs.Fronts.{front_of}
use Rattle.xs_ctok.specs.Numerals.{Suffixed, is_digit_of, is_floating, literal, suffix_of, suffixes, value_of}
use Rattle.xs_ctok.specs.QuotedTexts.{escape_of}
use Rattle.xs_ctok.specs.TokenSpelling.{IsInteger, IsPrefix, StandFor}
use Rattle.xs_ctok.specs.Tokens.{Cut, cut_of, tokens_of}
use Rattle.xs_ctok.specs.declared.front.Front.TheVariants as front
use Rattle.xs_ctok.specs.declared.numerals.TheConstants.{NO_SUFFIX}
use Rattle.xs_ctok.specs.declared.quoted.Escape.TheVariants as escape
use Rattle.xs_ctok.specs.declared.token.TokKind.{TokKind}
use Rattle.xs_ctok.specs.declared.token.Token.{Token}

-- ---- lines apart and together

-- Each line alone, read where no comment is open, has its tokens and leaves no comment open.
abbrev pub AreAlone : FileOf → List Line → List Token → Type 0
AreAlone file [] ts = ts ≡ []
AreAlone file (line ∷ lines) ts =
    (us : List Token) × (vs : List Token)
    × (cut_of file None line ≡ Ok (record { tokens = us; open_at = None }))
    × AreAlone file lines vs × (ts ≡ us ++ vs)

-- Lines that have tokens add these to the tokens of the lines after them, and lines that have them
-- alone have them together.
pub record JoinedLaw : Type 0 where
  pub joined : (file : FileOf) (xs ys : List Line) (ts : List Token) → tokens_of file xs ≡ Ok ts
      → tokens_of file (xs ++ ys) ≡ with_front ts (tokens_of file ys)
  pub alone : (file : FileOf) (lines : List Line) (ts : List Token) → AreAlone file lines ts
      → tokens_of file lines ≡ Ok ts

-- ---- lines at other places

-- a token without the number of its line
pub record Unlined : Type 0 where
  pub kind : TokKind
  pub text : List ℕ
  pub col : ℕ

abbrev pub unlined : Token → Unlined
unlined t = record { kind = t.kind; text = t.text; col = t.span.col }

-- Lines with the same texts have the same tokens but for the numbers of the lines, or each has a
-- fault.
abbrev pub AreSame : Result (List Token) Fault → Result (List Token) Fault → Type 0
AreSame (Ok ts) (Ok us) = map unlined ts ≡ map unlined us
AreSame (Err e) (Err f) = e.code ≡ f.code
AreSame (Ok ts) (Err f) = ⊥
AreSame (Err e) (Ok us) = ⊥

abbrev pub RelinedLaw : Type 0
RelinedLaw = (f g : FileOf) (xs ys : List Line) → map (λ (l : Line). l.text) xs
    ≡ map (λ (l : Line). l.text) ys → AreSame (tokens_of f xs) (tokens_of g ys)

-- ---- tokens by rules

-- The tokens of lines are those of the rules, and the fault of lines is at the first byte at which
-- no token begins, or at the line where a comment begins that stays open.
pub record SpelledLaw : Type 0 where
  pub sound : (file : FileOf) (lines : List Line) (ts : List Token) → tokens_of file lines ≡ Ok ts
      → IsRead None lines ts
  pub complete : (file : FileOf) (lines : List Line) (ts : List Token) → IsRead None lines ts
      → tokens_of file lines ≡ Ok ts
  pub first_fault : (file : FileOf) (lines : List Line) (fault : Fault)
      → tokens_of file lines ≡ Err fault → IsFault file None lines fault
  pub faulty : (file : FileOf) (lines : List Line) (fault : Fault)
      → IsFault file None lines fault → tokens_of file lines ≡ Err fault

-- Each token of a line stands there at its column, after the token before it.
abbrev pub PlacedLaw : Type 0
PlacedLaw = (file : FileOf) (opened : Option ℕ) (line : Line) (cut : Cut)
    → cut_of file opened line ≡ Ok cut → ArePlaced line.number 1 line.text cut.tokens

-- The suffix that is found stands in front, and no suffix that stands there is longer.
pub record SuffixLaw : Type 0 where
  pub stands : (text : List ℕ) → starts_with (suffix_of text).written text ≡ true
  pub longest : (text written : List ℕ)
      → is_among (map (λ (s : Suffixed). s.written) suffixes) written ≡ true
      → starts_with written text ≡ true → length written ≤ length (suffix_of text).written

-- A decimal integer below 10 without a suffix is its digit alone. `0` counts as decimal, and has
-- the kind that it has as an octal integer.
pub record DigitLaw : Type 0 where
  pub alone : (value : ℕ) (t rest : List ℕ) → value < 10
      → IsInteger (literal base.Decimal NO_SUFFIX value) t rest → t ≡ (48 + value) ∷ []
  pub zero_kind : (model : DataModel) (suffix : Suffix)
      → literal_kind_of model base.Decimal suffix 0 ≡ literal_kind_of model base.Octal suffix 0

-- The codes of faults: an integer of more than 64 bits, whatever follows it; a constant with a
-- point or an exponent; a text in quotes in which the line ends, or that has an escape that is not
-- listed; and a `#` after something on its line.
pub record CodesLaw : Type 0 where
  pub wide : (fresh : Bool) (b : Base) (before digits rest : List ℕ)
      → IsPrefix b before (digits ++ rest) → list_all (is_digit_of b) digits ≡ true
      → 0 < length digits → head_is (is_digit_of b) rest ≡ false
      → is_floating b (digits ++ rest) ≡ false → 2 ^ 64 ≤ value_of b digits
      → front_of fresh (before ++ (digits ++ rest)) ≡ front.Refused LITERAL_TOO_WIDE
  pub floating : (fresh : Bool) (b : Base) (before text : List ℕ) → IsPrefix b before text
      → head_is (is_digit_of b) text ≡ true → is_floating b text ≡ true
      → front_of fresh (before ++ text) ≡ front.Refused FLOATING_POINT_IN_C
  pub open_text : (fresh : Bool) (s cs : List ℕ) → StandFor [] s cs
      → front_of fresh (34 ∷ s) ≡ front.Refused OPEN_COMMENT_OR_TEXT
  pub open_escape : (fresh : Bool) (s cs e : List ℕ) → StandFor (92 ∷ e) s cs
      → escape_of e ≡ escape.Open
      → front_of fresh (34 ∷ (s ++ 92 ∷ e)) ≡ front.Refused OPEN_COMMENT_OR_TEXT
  pub other_escape : (fresh : Bool) (s cs e : List ℕ) → StandFor (92 ∷ e) s cs
      → escape_of e ≡ escape.Unlisted
      → front_of fresh (34 ∷ (s ++ 92 ∷ e)) ≡ front.Refused STRAY_BYTE
  pub inside : (more : List ℕ) → front_of false (35 ∷ more) ≡ front.Refused STRAY_BYTE
