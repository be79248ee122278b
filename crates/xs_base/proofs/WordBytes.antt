-- Bytes of words are no other bytes.
use Rattle.std.proofs.Common.{◌≡◌, ℕ, Bool, true, false, ap, ◌∙◌, arith}
use Rattle.std.proofs.lemmas.Bool.{both_ways, eqb-true, false_from_ne_true}
use Rattle.std.proofs.lemmas.Bool.Decides.{nat_tests}
use Rattle.std.specs.Prelude.{◌==◌}
use Rattle.xs_base.specs.Scanning.{begins_word, is_blank, is_ascii_digit, is_word_byte}

-- a byte that passes a test is not one that fails it
pub not_this : (p : ℕ → Bool) (c : ℕ) → p c ≡ false → (b : ℕ) → p b ≡ true → (b == c) ≡ false
not_this p c other b h = false_from_ne_true (b == c) (λ e. both_ways (p b) (ap p (eqb-true b c e) ∙ other) h)

pub word_not_blank : (b : ℕ) → is_word_byte b ≡ true → is_blank b ≡ false
word_not_blank b h = grind (arith, nat_tests)

pub digit_not_word : (b : ℕ) → is_ascii_digit b ≡ true → begins_word b ≡ false
digit_not_word b h = grind (arith, nat_tests)
