-- The digits of the text of a number.
use Rattle.std.proofs.Common.{◌≡◌, ℕ, ◌+◌, ◌*◌, ◌-◌, ◌%◌, ◌^◌, ◌<◌, Bool, true, ◌&&◌, List, [], ◌∷◌, ◌++◌, ap, ◌∙◌, arith}
use Rattle.std.proofs.lemmas.Bool.Decides.{nat_tests}
use Rattle.std.proofs.lemmas.Fmt.{decimal_by_steps}
use Rattle.std.proofs.lemmas.List.Sums.{fold-append}
use Rattle.std.specs.Fmt.{decimal}
use Rattle.std.specs.List.{list_all}
use Rattle.xs_base.proofs.AllPass.{all-append}
use Rattle.xs_base.specs.Readers.{head_is}
use Rattle.xs_base.specs.Scanning.{is_ascii_digit, value_of_digits}

-- Digits that write a number, at least one.
pub record AreDigits (n : ℕ) (ds : List ℕ) : Type 0 where
  pub all : list_all is_ascii_digit ds ≡ true
  pub value : value_of_digits ds ≡ n
  pub some : head_is is_ascii_digit ds ≡ true

digit_is : (n : ℕ) → n < 10 → is_ascii_digit (48 + n) ≡ true
digit_is n h = grind (arith, nat_tests)

head_is-append : (p : ℕ → Bool) (xs ys : List ℕ) → head_is p xs ≡ true → head_is p (xs ++ ys) ≡ true
head_is-append p [] ys h = absurd cc
head_is-append p (x ∷ xs) ys h = h

-- The text of a number below 2 ^ 64 is digits that write it.
pub decimal_digits : (n : ℕ) → n < 2 ^ 64 → AreDigits n (decimal n)
decimal_digits = decimal_by_steps AreDigits
    (λ n h. record { all = ap (λ b. b && true) (digit_is n h); value = omega arith; some = digit_is n h })
    (λ n ds h d. record {
      all = all-append is_ascii_digit ds ((48 + n % 10) ∷ []) d.all (ap (λ b. b && true) (digit_is (n % 10) (omega arith)));
      value = fold-append (λ m b. 10 * m + (b - 48)) 0 ds ((48 + n % 10) ∷ []) ∙ omega (arith, d.value);
      some = head_is-append is_ascii_digit ds ((48 + n % 10) ∷ []) d.some;
    })
