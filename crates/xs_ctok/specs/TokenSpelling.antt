-- How tokens are spelled, by rules. Each rule says what may follow the token, so that it is the
-- longest that begins there (C11 6.4).
use Rattle.std.specs.List.{list_all}
use Rattle.std.specs.Prelude.{◌≡◌, ℕ, ◌+◌, ◌*◌, ◌^◌, ◌<◌, ◌≤◌, Bool, true, false, ◌==◌, ◌&&◌, ◌||◌, List, [], ◌∷◌, ◌++◌, codes, length, Some, None}
use Rattle.xs_base.specs.Readers.{head_is}
use Rattle.xs_base.specs.Scanning.{is_ascii_digit, is_blank, is_identifier, is_word_byte, starts_with}
use Rattle.xs_values.specs.declared.literal.Base.{Base}
use Rattle.xs_values.specs.declared.literal.Base.TheVariants as base
use Rattle.xs_ctok.specs.CWords.{is_reserved}
use Rattle.xs_ctok.specs.Numerals.{after_hexadecimal_prefix, is_digit_of, is_floating, is_octal, is_x, suffix_of, suffixed, value_in, value_of}
use Rattle.xs_ctok.specs.Punctuators.{is_double, is_single, is_triple}
use Rattle.xs_ctok.specs.QuotedTexts.{octal_value, simple_escape}
use Rattle.xs_ctok.specs.declared.token.Literal.{Literal}
use Rattle.xs_ctok.specs.declared.token.TokKind.{TokKind}
use Rattle.xs_ctok.specs.declared.token.TokKind.TheVariants as kind

-- ---- integers

-- What stands before the digits of a base, and what stands from the digits on. `0` alone is
-- decimal.
pub data IsPrefix : Base → List ℕ → List ℕ → Type 0 where
  decimal : {text : List ℕ} → is_octal text ≡ false → after_hexadecimal_prefix text ≡ None
      → IsPrefix base.Decimal [] text
  octal : {text : List ℕ} → is_octal text ≡ true → after_hexadecimal_prefix text ≡ None
      → IsPrefix base.Octal [] text
  hexadecimal : {x : ℕ} {text : List ℕ} → is_x x ≡ true
      → IsPrefix base.Hexadecimal (48 ∷ x ∷ []) text

-- An integer literal: one digit or more, of which no further one follows, with no point or exponent
-- after them, and the longest suffix.
pub record IsInteger (literal : Literal) (t rest : List ℕ) : Type 0 where
  pub before : List ℕ
  pub digits : List ℕ
  pub written : List ℕ
  pub spelled : t ≡ before ++ (digits ++ written)
  pub prefix : IsPrefix literal.base before (digits ++ (written ++ rest))
  pub are_digits : list_all (is_digit_of literal.base) digits ≡ true
  pub some : 0 < length digits
  pub ends : head_is (is_digit_of literal.base) (written ++ rest) ≡ false
  pub no_point : is_floating literal.base (digits ++ (written ++ rest)) ≡ false
  pub suffix : suffix_of (written ++ rest) ≡ suffixed written literal.suffix
  pub value : value_of literal.base digits ≡ literal.value
  pub fits : literal.value < 2 ^ 64

-- ---- characters and texts

-- two octal digits in front
abbrev pub are_octal : List ℕ → Bool
are_octal [] = false
are_octal (m ∷ []) = false
are_octal (m ∷ l ∷ rest) = is_digit_of base.Octal m && is_digit_of base.Octal l

-- What stands after a backslash, the byte that it stands for, and what follows it. `\0` is the byte
-- 0 only where no two octal digits follow it.
pub data EscapeStands : List ℕ → ℕ → List ℕ → Type 0 where
  simple : {b v : ℕ} {after : List ℕ} → simple_escape b ≡ Some v → EscapeStands (b ∷ []) v after
  hexadecimal : {h l x y : ℕ} {after : List ℕ} → value_in base.Hexadecimal h ≡ Some x
      → value_in base.Hexadecimal l ≡ Some y
      → EscapeStands (120 ∷ h ∷ l ∷ []) (16 * x + y) after
  octal : {h m l v : ℕ} {after : List ℕ} → octal_value h m l ≡ Some v
      → EscapeStands (h ∷ m ∷ l ∷ []) v after
  zero_byte : {after : List ℕ} → are_octal after ≡ false → EscapeStands (48 ∷ []) 0 after

-- what stands between quotes, and the bytes that it stands for, where this follows it
pub data StandFor (after : List ℕ) : List ℕ → List ℕ → Type 0 where
  nothing : StandFor after [] []
  itself : {b : ℕ} {s cs : List ℕ} → (b == 34) ≡ false → (b == 92) ≡ false → StandFor after s cs
      → StandFor after (b ∷ s) (b ∷ cs)
  escaped : {v : ℕ} {e s cs : List ℕ} → EscapeStands e v (s ++ after) → StandFor after s cs
      → StandFor after (92 ∷ (e ++ s)) (v ∷ cs)

-- what stands between the quotes of a character literal, and its byte, where this follows it
pub data IsCharacter (after : List ℕ) : List ℕ → ℕ → Type 0 where
  plain : {b : ℕ} → (b == 39) ≡ false → (b == 92) ≡ false → IsCharacter after (b ∷ []) b
  escaped : {v : ℕ} {e : List ℕ} → EscapeStands e v after → IsCharacter after (92 ∷ e) v

-- ---- punctuators

abbrev pub is_punctuator : List ℕ → Bool
is_punctuator p = is_triple p || (is_double p || is_single p)

-- the begin of a comment, or of a floating constant
abbrev pub is_no_punctuator : List ℕ → Bool
is_no_punctuator [] = false
is_no_punctuator (b ∷ bs) =
    (b == 47 && (head_is (λ c. c == 47) bs || head_is (λ c. c == 42) bs))
    || (b == 46 && head_is is_ascii_digit bs)

-- a punctuator that is listed, and no longer one stands there
pub record IsPunctuator (t rest : List ℕ) : Type 0 where
  pub listed : is_punctuator t ≡ true
  pub longest : (p : List ℕ) → is_punctuator p ≡ true → starts_with p (t ++ rest) ≡ true
      → length p ≤ length t
  pub no_other : is_no_punctuator (t ++ rest) ≡ false

-- ---- directives

abbrev pub are_blanks : List ℕ → Bool
are_blanks text = list_all is_blank text

-- `*/` stands in the text
abbrev pub has_close : List ℕ → Bool
has_close [] = false
has_close (a ∷ bs) = (a == 42 && head_is (λ b. b == 47) bs) || has_close bs

-- blanks and whole comments, each from `/*` to the first `*/` (C11 6.4.9)
pub data IsGap : List ℕ → Type 0 where
  nothing : IsGap []
  blank : {b : ℕ} {rest : List ℕ} → is_blank b ≡ true → IsGap rest → IsGap (b ∷ rest)
  comment : (text : List ℕ) {rest : List ℕ} → has_close (text ++ 42 ∷ []) ≡ false → IsGap rest
      → IsGap (47 ∷ 42 ∷ (text ++ 42 ∷ 47 ∷ rest))

-- what may stand up to the end of a line: blanks and comments, of which the last may end with the
-- line or stay open
pub data IsOver : List ℕ → Type 0 where
  gap_alone : {g : List ℕ} → IsGap g → IsOver g
  line_comment : (g more : List ℕ) → IsGap g → IsOver (g ++ 47 ∷ 47 ∷ more)
  open_comment : (g text : List ℕ) → IsGap g → has_close text ≡ false
      → IsOver (g ++ 47 ∷ 42 ∷ text)

-- `define` and blanks after a `#`
pub record IsHead (t : List ℕ) : Type 0 where
  pub before : List ℕ
  pub blanks : List ℕ
  pub spelled : t ≡ 35 ∷ (before ++ (codes "define" ++ blanks))
  pub are_before : are_blanks before ≡ true
  pub are_after : are_blanks blanks ≡ true
  pub some : 0 < length blanks

-- ---- tokens

-- A token of a kind, spelled by these bytes, where what follows are those. Directives stand where
-- nothing but blanks stands before them on the line.
pub data Stands : Bool → TokKind → List ℕ → List ℕ → Type 0 where
  word : {fresh : Bool} {t rest : List ℕ} → is_identifier t ≡ true
      → head_is is_word_byte rest ≡ false → Stands fresh kind.Word t rest
  integer : {fresh : Bool} {literal : Literal} {t rest : List ℕ} → IsInteger literal t rest
      → Stands fresh (kind.Int literal) t rest
  character : {fresh : Bool} {value : ℕ} {s rest : List ℕ} → IsCharacter (39 ∷ rest) s value
      → Stands fresh (kind.Char value) (39 ∷ (s ++ 39 ∷ [])) rest
  text : {fresh : Bool} {s bytes rest : List ℕ} → StandFor (34 ∷ rest) s bytes
      → Stands fresh (kind.Text bytes) (34 ∷ (s ++ 34 ∷ [])) rest
  punctuator : {fresh : Bool} {t rest : List ℕ} → IsPunctuator t rest
      → Stands fresh kind.Punct t rest
  include : (before more : List ℕ) → are_blanks before ≡ true → head_is is_word_byte more ≡ false
      → Stands true kind.Include (35 ∷ (before ++ (codes "include" ++ more))) []
  no_context : {head rest : List ℕ} → IsHead head → head_is is_word_byte rest ≡ false
      → IsOver rest
      → Stands true kind.Include (head ++ codes "PERL_NO_GET_CONTEXT") rest
  define : {head name gap number rest : List ℕ} {literal : Literal} → IsHead head
      → is_identifier name ≡ true → is_reserved name ≡ false → IsGap gap → 0 < length gap
      → IsInteger literal number rest → IsOver rest
      → Stands true (kind.Define name literal) (head ++ (name ++ (gap ++ number))) rest
