-- Decimal integers below 10.
use Rattle.std.proofs.Common.{◌≡◌, ℕ, ◌+◌, ◌*◌, ◌<◌, ◌≤◌, ◌==◌, Bool, true, false, ◌&&◌, ◌||◌, List, [], ◌∷◌, ◌++◌, length, refl, ap, sym, ◌∙◌, arith, append-nil}
use Rattle.std.proofs.lemmas.Bool.{and_parts}
use Rattle.std.proofs.lemmas.Bool.Decides.{nat_tests}
use Rattle.std.specs.Char.{digit_value}
use Rattle.std.specs.List.{list_all}
use Rattle.std.specs.Prelude.{if◌then◌else◌}
use Rattle.xs_base.specs.Scanning.{is_ascii_digit, starts_with}
use Rattle.xs_values.specs.declared.literal.Base.TheVariants as base
use Rattle.xs_values.specs.declared.literal.Length.{Length}
use Rattle.xs_values.specs.declared.literal.Length.TheVariants.{Int, Long, LongLong}
use Rattle.xs_values.specs.declared.literal.Suffix.{Suffix}
use Rattle.xs_values.specs.declared.model.DataModel.{DataModel}
use Rattle.xs_values.specs.declared.model.DataModel.TheVariants.{Lp64}
use Rattle.xs_values.specs.Literals.{literal_kind_of}
use Rattle.xs_ctok.specs.Laws.{DigitLaw}
use Rattle.xs_ctok.specs.Numerals.{Suffixed, is_digit_of, is_octal, literal, suffix_among, suffix_of, suffixed, suffixes, value_of}
use Rattle.xs_ctok.specs.TokenSpelling as sp
use Rattle.xs_ctok.specs.TokenSpelling.{IsInteger, IsPrefix}
use Rattle.xs_ctok.specs.declared.numerals.TheConstants.{NO_SUFFIX}
use Rattle.xs_ctok.proofs.DigitValues.{fold_grows}

-- ---- digits

digit_byte : (c : ℕ) → is_digit_of base.Decimal c ≡ true → c ≡ 48 + digit_value c
digit_byte c h = grind (arith, nat_tests)

digit_ascii : (c : ℕ) → is_digit_of base.Decimal c ≡ true → is_ascii_digit c ≡ true
digit_ascii c h = grind (arith, nat_tests)

no_zero : (c : ℕ) → (c == 48) ≡ false → c ≡ 48 + digit_value c → 0 < digit_value c
no_zero c h e = grind (arith, nat_tests)

-- digits whose first is no `0` before others are one, where their value is below 10
one_digit : (digits after : List ℕ) (value : ℕ) → list_all (is_digit_of base.Decimal) digits ≡ true → 0 < length digits → is_octal (digits ++ after) ≡ false
    → value_of base.Decimal digits ≡ value → value < 10 → digits ≡ (48 + value) ∷ []
one_digit [] after value all some plain is small = absurd (omega (arith, some))
one_digit (c ∷ []) after value all some plain is small =
    let byte = digit_byte c (and_parts (is_digit_of base.Decimal c) true all).0 in
    let same : c ≡ 48 + value = omega (arith, byte, is) in
    ap (λ (k : ℕ). k ∷ []) same
one_digit (c ∷ d ∷ ds) after value all some plain is small = absurd (omega (arith, first, more, is, small))
  where
    parts : (is_digit_of base.Decimal c ≡ true) × ((is_digit_of base.Decimal d && list_all (is_digit_of base.Decimal) ds) ≡ true)
    parts = and_parts (is_digit_of base.Decimal c) (is_digit_of base.Decimal d && list_all (is_digit_of base.Decimal) ds) all

    second : is_ascii_digit d ≡ true
    second = digit_ascii d (and_parts (is_digit_of base.Decimal d) (list_all (is_digit_of base.Decimal) ds) parts.1).0

    by : (t : Bool) → (c == 48) ≡ t → is_ascii_digit d ≡ true → (t && is_ascii_digit d) ≡ false → (c == 48) ≡ false
    by true e s h = absurd cc
    by false e s h = e

    first : 0 < digit_value c
    first = no_zero c (by (c == 48) refl second plain) (digit_byte c parts.0)

    more : 10 * (10 * 0 + digit_value c) + digit_value d ≤ value_of base.Decimal (c ∷ d ∷ ds)
    more = fold_grows base.Decimal (10 * (10 * 0 + digit_value c) + digit_value d) ds

-- ---- suffixes

abbrev is_long : Length → Bool
is_long Int = false
is_long Long = true
is_long LongLong = true

-- whether a suffix says something
abbrev tells : Suffix → Bool
tells s = s.unsigned || is_long s.length

none_written : (rows : List Suffixed) (text : List ℕ) → list_all (λ (row : Suffixed). tells row.says) rows ≡ true
    → (suffix_among rows text).says ≡ NO_SUFFIX → (suffix_among rows text).written ≡ []
none_written [] text all e = refl
none_written (row ∷ rows) text all e =
    let parts = and_parts (tells row.says) (list_all (λ (r : Suffixed). tells r.says) rows) all in
    by (starts_with row.written text) parts.0 (none_written rows text parts.1) e
  where
    by : (t : Bool) → tells row.says ≡ true → ((suffix_among rows text).says ≡ NO_SUFFIX → (suffix_among rows text).written ≡ [])
        → (if t then row else suffix_among rows text).says ≡ NO_SUFFIX → (if t then row else suffix_among rows text).written ≡ []
    by true told more h = let untold : true ≡ false = sym told ∙ ap tells h in absurd cc
    by false told more h = more h

no_suffix_written : (text written : List ℕ) → suffix_of text ≡ suffixed written NO_SUFFIX → written ≡ []
unfolding suffix_of
no_suffix_written text written e =
    sym (ap (λ (s : Suffixed). s.written) e) ∙ none_written suffixes text refl (ap (λ (s : Suffixed). s.says) e)

-- ---- integers

decimal_prefix : {before text : List ℕ} → IsPrefix base.Decimal before text → (before ≡ []) × (is_octal text ≡ false)
decimal_prefix (sp.decimal h e) = (refl, h)

alone : (value : ℕ) (t rest : List ℕ) → value < 10 → IsInteger (literal base.Decimal NO_SUFFIX value) t rest → t ≡ (48 + value) ∷ []
alone value t rest small x =
    let p = decimal_prefix x.prefix in
    let digits = one_digit x.digits (x.written ++ rest) value x.are_digits x.some p.1 x.value small in
    let none = no_suffix_written (x.written ++ rest) x.written x.suffix in
    x.spelled ∙ ap (λ (k : List ℕ). k ++ (x.digits ++ x.written)) p.0 ∙ ap (λ (k : List ℕ). x.digits ++ k) none ∙ append-nil x.digits ∙ digits

-- ---- the kind of 0

kind_of_zero : (model : DataModel) (unsigned : Bool) (length : Length)
    → literal_kind_of model base.Decimal (record { unsigned = unsigned; length = length }) 0
    ≡ literal_kind_of model base.Octal (record { unsigned = unsigned; length = length }) 0
kind_of_zero Lp64 true Int = refl
kind_of_zero Lp64 true Long = refl
kind_of_zero Lp64 true LongLong = refl
kind_of_zero Lp64 false Int = refl
kind_of_zero Lp64 false Long = refl
kind_of_zero Lp64 false LongLong = refl

pub digit_law : DigitLaw
digit_law = record { alone = alone; zero_kind = λ model suffix. kind_of_zero model suffix.unsigned suffix.length }
