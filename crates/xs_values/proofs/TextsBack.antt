-- The text of a number is read back.
use Rattle.std.proofs.Common.{◌≡◌, ℕ, ℤ, pos, negsuc, suc, ◌≤ℤ◌, neg_ℤ, true, false, List, [], ◌∷◌, refl, ap, ◌∙◌, arith}
use Rattle.std.proofs.lemmas.Bool.Decides.{nat_tests}
use Rattle.std.proofs.lemmas.Bool.{and_parts, cond-false}
use Rattle.std.proofs.lemmas.Int.{ints}
use Rattle.std.proofs.Math.Nat.{mod-eq_of_lt}
use Rattle.std.specs.Fmt.{decimal, signed_decimal}
use Rattle.std.specs.List.{list_all}
use Rattle.std.specs.Prelude.{◌==◌, int_lt}
use Rattle.xs_base.proofs.DecimalText.{AreDigits, decimal_digits}
use Rattle.xs_base.specs.ByteRuns.{front_of, is_space}
use Rattle.xs_base.specs.Scanning.{is_ascii_digit, value_of_digits}
use Rattle.xs_base.specs.declared.byte_runs.ByteClass.TheVariants.{Digit}
use Rattle.xs_values.specs.declared.kind.Kind.TheVariants.{I64, U64}
use Rattle.xs_values.specs.Kinds.{high_of, low_of}
use Rattle.xs_values.specs.Laws.{IvsAreReadBack, TextsAreReadBack, UvsAreReadBack}
use Rattle.xs_values.specs.Numbers.{bits_in}
use Rattle.xs_values.specs.Plains.{between, into_iv, signed_number, value_in_front, whole_number}

front_of_digits : (ds : List ℕ) → list_all is_ascii_digit ds ≡ true → front_of Digit ds ≡ ds
front_of_digits [] h = refl
front_of_digits (d ∷ ds) h =
    let parts : (is_ascii_digit d ≡ true) × (list_all is_ascii_digit ds ≡ true) = and_parts _ _ h in
    rw parts.0 (ap (λ (xs : List ℕ). d ∷ xs) (front_of_digits ds parts.1))

value_back : (n : ℕ) (ds : List ℕ) → AreDigits n ds → value_in_front ds ≡ n
value_back n ds d = ap value_of_digits (front_of_digits ds d.all) ∙ d.value

no_space : (b : ℕ) → is_ascii_digit b ≡ true → is_space b ≡ false
no_space b h = grind (arith, nat_tests)

no_minus : (b : ℕ) → is_ascii_digit b ≡ true → (b == 45) ≡ false
no_minus b h = grind (arith, nat_tests)

no_plus : (b : ℕ) → is_ascii_digit b ≡ true → (b == 43) ≡ false
no_plus b h = grind (arith, nat_tests)

whole_of_digits : (n : ℕ) (ds : List ℕ) → AreDigits n ds → whole_number ds ≡ pos n
whole_of_digits n [] d = absurd (let no : false ≡ true = d.some in cc)
whole_of_digits n (b ∷ bs) d =
    ap signed_number (cond-false (is_space b) _ _ (no_space b d.some))
    ∙ cond-false (b == 45) _ _ (no_minus b d.some)
    ∙ cond-false (b == 43) _ _ (no_plus b d.some)
    ∙ ap pos (value_back n (b ∷ bs) d)

pub whole_back : (z : ℤ) → low_of I64 ≤ℤ z → z ≤ℤ high_of U64 → whole_number (signed_decimal z) ≡ z
whole_back (pos n) l h = whole_of_digits n (decimal n) (decimal_digits n (omega (arith, ints, h)))
whole_back (negsuc n) l h = ap (λ m. neg_ℤ (pos m)) (value_back (suc n) (decimal (suc n)) (decimal_digits (suc n) (omega (arith, ints, l))))

not_less : (x y : ℤ) → y ≤ℤ x → int_lt x y ≡ false
not_less x y h = grind (arith, ints)

pub between_same : (l h z : ℤ) → l ≤ℤ z → z ≤ℤ h → between l h z ≡ z
between_same l h z a b = cond-false (int_lt z l) _ _ (not_less z l a) ∙ cond-false (int_lt h z) _ _ (not_less h z b)

pub texts_back : TextsAreReadBack
texts_back z l h = ap (between (low_of I64) (high_of U64)) (whole_back z l h) ∙ between_same (low_of I64) (high_of U64) z l h

pub ivs_back : IvsAreReadBack
ivs_back i r = ap into_iv (texts_back i r.low (omega (arith, ints, r.high))) ∙ between_same (low_of I64) (high_of I64) i r.low r.high

pub uvs_back : UvsAreReadBack
uvs_back u h = ap (bits_in U64) (texts_back (pos u) (record { le = tt }) (omega (arith, ints, h))) ∙ mod-eq_of_lt h
