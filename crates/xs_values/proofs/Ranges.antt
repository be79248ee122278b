-- The ranges of the kinds.
use Rattle.std.proofs.Common.{◌≡◌, ℤ, pos, negsuc, zero, suc, ◌≤ℤ◌, ◌≤◌, ◌^◌, true, false, if◌then◌else◌, Result, Ok, Err, refl, sym, ap, ◌∙◌, arith}
use Rattle.std.proofs.Math.Nat.{mod-le}
use Rattle.std.proofs.lemmas.Bool.{and_parts, cond-false, false≢true, true≢false}
use Rattle.std.proofs.lemmas.Bool.Decides.{nat_tests}
use Rattle.std.proofs.lemmas.Int.{ints}
use Rattle.std.specs.Int.RustNames.{int_div, int_le, int_rem, unsigned_abs}
use Rattle.xs_values.specs.declared.kind.Kind.{Kind}
use Rattle.xs_values.specs.declared.kind.Kind.TheVariants.{I8, U8, I16, U16, I32, U32, I64, U64}
use Rattle.xs_values.specs.declared.kind.Kind.TheVariants as kind
use Rattle.xs_values.specs.declared.trap.Trap.{Trap}
use Rattle.xs_values.specs.declared.trap.Trap.TheVariants.{Overflow}
use Rattle.xs_values.specs.declared.model.DataModel.TheVariants.{Lp64}
use Rattle.xs_values.specs.Kinds.{high_of, is_signed, low_of, promoted, wider}
use Rattle.xs_values.specs.Laws.{CommonKindIsSymmetric, KindsHaveTheirWidth, LongIsInTheTable, PromotionKeepsNumbers}
use Rattle.xs_values.specs.Types.{number_types}
use Rattle.xs_values.specs.Numbers.{IsInRange, Number, divided, is_held, is_same}

-- 0 lies in each range
pub low_nonpositive : (k : Kind) → low_of k ≤ℤ pos 0
low_nonpositive I8 = record { le = tt }
low_nonpositive U8 = record { le = tt }
low_nonpositive I16 = record { le = tt }
low_nonpositive U16 = record { le = tt }
low_nonpositive I32 = record { le = tt }
low_nonpositive U32 = record { le = tt }
low_nonpositive I64 = record { le = tt }
low_nonpositive U64 = record { le = tt }
low_nonpositive kind.Bool = record { le = tt }

pub high_nonnegative : (k : Kind) → pos 0 ≤ℤ high_of k
high_nonnegative I8 = record { le = tt }
high_nonnegative U8 = record { le = tt }
high_nonnegative I16 = record { le = tt }
high_nonnegative U16 = record { le = tt }
high_nonnegative I32 = record { le = tt }
high_nonnegative U32 = record { le = tt }
high_nonnegative I64 = record { le = tt }
high_nonnegative U64 = record { le = tt }
high_nonnegative kind.Bool = record { le = tt }

pub signed_abs : (k : Kind) (z : ℤ) → is_signed k ≡ true → IsInRange k z → unsigned_abs z ≤ 2 ^ 63
signed_abs I8 (pos n) s r = omega (arith, ints, r.high)
signed_abs I8 (negsuc n) s r = omega (arith, ints, r.low)
signed_abs I16 (pos n) s r = omega (arith, ints, r.high)
signed_abs I16 (negsuc n) s r = omega (arith, ints, r.low)
signed_abs I32 (pos n) s r = omega (arith, ints, r.high)
signed_abs I32 (negsuc n) s r = omega (arith, ints, r.low)
signed_abs I64 (pos n) s r = omega (arith, ints, r.high)
signed_abs I64 (negsuc n) s r = omega (arith, ints, r.low)
signed_abs U8 z s r = absurd (false≢true s)
signed_abs U16 z s r = absurd (false≢true s)
signed_abs U32 z s r = absurd (false≢true s)
signed_abs U64 z s r = absurd (false≢true s)
signed_abs kind.Bool z s r = absurd (false≢true s)

pub unsigned_low : (k : Kind) (z : ℤ) → is_signed k ≡ false → IsInRange k z → pos 0 ≤ℤ z
unsigned_low U8 z s r = r.low
unsigned_low U16 z s r = r.low
unsigned_low U32 z s r = r.low
unsigned_low U64 z s r = r.low
unsigned_low kind.Bool z s r = r.low
unsigned_low I8 z s r = absurd (true≢false s)
unsigned_low I16 z s r = absurd (true≢false s)
unsigned_low I32 z s r = absurd (true≢false s)
unsigned_low I64 z s r = absurd (true≢false s)

-- what a division leaves lies between 0 and the dividend
pub rest_in_range : (k : Kind) (x y : ℤ) → IsInRange k x → IsInRange k (int_rem x y)
rest_in_range k (pos a) y r = record {
  low = omega (arith, ints, low_nonpositive k);
  high = omega (arith, ints, r.high, mod-le a (unsigned_abs y));
}
rest_in_range k (negsuc a) y r = record {
  low = omega (arith, ints, r.low, mod-le (suc a) (unsigned_abs y));
  high = omega (arith, ints, high_nonnegative k);
}

pub held_in_range : (k : Kind) (z : ℤ) → is_held k z ≡ true → IsInRange k z
held_in_range k z h =
    let parts : (int_le (low_of k) z ≡ true) × (int_le z (high_of k) ≡ true) = and_parts _ _ h in
    record { low = grind (arith, ints, nat_tests, parts.0); high = grind (arith, ints, nat_tests, parts.1) }

not_same : (y : ℤ) → (y ≡ pos 0 → ⊥) → is_same y (pos 0) ≡ false
not_same (pos zero) h = absurd (h refl)
not_same (pos (suc n)) h = grind (arith, ints, nat_tests)
not_same (negsuc n) h = refl

-- what `%` gives where its divisor is not 0
pub rest_given : (k : Kind) (x y q r : ℤ) (given : Result Number Trap) → (y ≡ pos 0 → ⊥) → q ≡ int_div x y → r ≡ int_rem x y
    → given ≡ (if is_held k q then Ok (record { kind = k; value = r }) else Err Overflow) → given ≡ divided k x y (int_rem x y)
rest_given k x y q r given h e g is =
    is
    ∙ ap (λ z. if is_held k z then Ok (record { kind = k; value = r }) else Err Overflow) e
    ∙ ap (λ z. if is_held k (int_div x y) then Ok (record { kind = k; value = z }) else Err Overflow) g
    ∙ sym (cond-false _ _ _ (not_same y h))

pub kinds_have_their_width : KindsHaveTheirWidth
kinds_have_their_width I8 = refl
kinds_have_their_width U8 = refl
kinds_have_their_width I16 = refl
kinds_have_their_width U16 = refl
kinds_have_their_width I32 = refl
kinds_have_their_width U32 = refl
kinds_have_their_width I64 = refl
kinds_have_their_width U64 = refl
kinds_have_their_width kind.Bool = refl

pub promotion_keeps : PromotionKeepsNumbers
promotion_keeps I8 z r = record { low = omega (arith, ints, r.low); high = omega (arith, ints, r.high) }
promotion_keeps U8 z r = record { low = omega (arith, ints, r.low); high = omega (arith, ints, r.high) }
promotion_keeps I16 z r = record { low = omega (arith, ints, r.low); high = omega (arith, ints, r.high) }
promotion_keeps U16 z r = record { low = omega (arith, ints, r.low); high = omega (arith, ints, r.high) }
promotion_keeps I32 z r = r
promotion_keeps U32 z r = r
promotion_keeps I64 z r = r
promotion_keeps U64 z r = r
promotion_keeps kind.Bool z r = record { low = omega (arith, ints, r.low); high = omega (arith, ints, r.high) }

-- what holds of the four promoted kinds holds of every promoted kind
pub at_promoted : (P : Kind → Type 0) → P I32 → P U32 → P I64 → P U64 → (k : Kind) → P (promoted k)
at_promoted P a b c d I8 = a
at_promoted P a b c d U8 = a
at_promoted P a b c d I16 = a
at_promoted P a b c d U16 = a
at_promoted P a b c d I32 = a
at_promoted P a b c d U32 = b
at_promoted P a b c d I64 = c
at_promoted P a b c d U64 = d
at_promoted P a b c d kind.Bool = a

pub common_symmetric : CommonKindIsSymmetric
common_symmetric a b =
    at_promoted (λ x. wider x (promoted b) ≡ wider (promoted b) x)
    (at_promoted (λ y. wider I32 y ≡ wider y I32) refl refl refl refl b)
    (at_promoted (λ y. wider U32 y ≡ wider y U32) refl refl refl refl b)
    (at_promoted (λ y. wider I64 y ≡ wider y I64) refl refl refl refl b)
    (at_promoted (λ y. wider U64 y ≡ wider y U64) refl refl refl refl b)
    a

pub long_in_table : LongIsInTheTable
unfolding number_types
long_in_table Lp64 = refl
