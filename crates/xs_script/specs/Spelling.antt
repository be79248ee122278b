-- How the parts of a line are spelled, by rules.
use Rattle.std.specs.List.{list_all}
use Rattle.std.specs.Prelude.{◌≡◌, ℕ, ◌+◌, ◌*◌, ◌==◌, Bool, true, false, ◌&&◌, List, [], ◌∷◌, ◌++◌, codes, Some}
use Rattle.xs_script.specs.declared.line_part.Token.{Token}
use Rattle.xs_script.specs.declared.line_part.Token.TheVariants as token
use Rattle.xs_script.specs.declared.line_part.Mark.{Mark}
use Rattle.xs_script.specs.declared.line_part.Mark.TheVariants as mark
use Rattle.xs_base.specs.Names.{IsJoined}
use Rattle.xs_base.specs.Readers.{head_is}
use Rattle.xs_base.specs.ByteRuns.{belongs}
use Rattle.xs_base.specs.Scanning.{starts_with, is_blank, is_ascii_digit}
use Rattle.xs_base.specs.declared.byte_runs.ByteClass.TheVariants.{Name}
use Rattle.xs_script.specs.PartInput.{mark_byte}
use Rattle.xs_script.specs.Lex.{hex_value, escape_value}

-- one digit or more
abbrev pub IsDigits : List ℕ → Type 0
IsDigits [] = ⊥
IsDigits (b ∷ bs) = list_all is_ascii_digit (b ∷ bs) ≡ true

-- what stands between quotes, and the bytes that it stands for
pub data StandFor : List ℕ → List ℕ → Type 0 where
  nothing : StandFor [] []
  itself : {b : ℕ} {s cs : List ℕ} → (b == 34) ≡ false → (b == 92) ≡ false → StandFor s cs
      → StandFor (b ∷ s) (b ∷ cs)
  escaped : {e v : ℕ} {s cs : List ℕ} → escape_value e ≡ Some v → StandFor s cs
      → StandFor (92 ∷ e ∷ s) (v ∷ cs)
  hexadecimal : {h l x y : ℕ} {s cs : List ℕ} → hex_value h ≡ Some x → hex_value l ≡ Some y
      → StandFor s cs → StandFor (92 ∷ 120 ∷ h ∷ l ∷ s) ((16 * x + y) ∷ cs)

abbrev pub mark_text : Mark → List ℕ
mark_text mark.Arrow = 61 ∷ 62 ∷ []
mark_text m = mark_byte m ∷ []

-- `=>` is one part
abbrev pub goes_on : Mark → List ℕ → Bool
goes_on m bs = mark_byte m == 61 && starts_with (codes ">") bs

-- The parts are spelled by these bytes. A name ends where no letter, digit, `_` or `:` follows, and
-- no sign of a number may follow it; a number ends where no digit follows.
pub data Spelled : List Token → List ℕ → Type 0 where
  line_end : Spelled [] []
  blank : {ts : List Token} {b : ℕ} {bs : List ℕ} → is_blank b ≡ true → Spelled ts bs
      → Spelled ts (b ∷ bs)
  name : {ts : List Token} {n bs : List ℕ} → IsJoined n → head_is (belongs Name) bs ≡ false
      → starts_with (codes "-") bs ≡ false → Spelled ts bs → Spelled (token.Name n ∷ ts) (n ++ bs)
  number : {ts : List Token} {ds bs : List ℕ} → IsDigits ds → head_is is_ascii_digit bs ≡ false
      → Spelled ts bs → Spelled (token.Number ds ∷ ts) (ds ++ bs)
  negative : {ts : List Token} {ds bs : List ℕ} → IsDigits ds → head_is is_ascii_digit bs ≡ false
      → Spelled ts bs → Spelled (token.Number (45 ∷ ds) ∷ ts) (45 ∷ ds ++ bs)
  text : {ts : List Token} {s cs bs : List ℕ} → StandFor s cs → Spelled ts bs
      → Spelled (token.Text cs ∷ ts) (34 ∷ s ++ 34 ∷ bs)
  mark_stands : {ts : List Token} {bs : List ℕ} (m : Mark) → goes_on m bs ≡ false → Spelled ts bs
      → Spelled (token.Mark m ∷ ts) (mark_text m ++ bs)
