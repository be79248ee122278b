-- What conversion gives: the number of the range that differs by a multiple of 2^bits.
use Rattle.std.proofs.Common.{◌≡◌, ◌≢◌, ℕ, ℤ, pos, negsuc, zero, suc, ◌+◌, ◌*◌, ◌-◌, ◌/◌, ◌%◌, ◌<◌, ◌≤◌, ◌+ℤ◌, ◌-ℤ◌, ◌≤ℤ◌, ◌^◌, if◌then◌else◌, true, refl, sym, ap, subst, arith}
use Rattle.std.proofs.Math.Nat.{add-mul, mod-add-div', mod-lt, suc-mul, zero-mul}
use Rattle.std.proofs.lemmas.Bool.{cond-true, cond_both}
use Rattle.std.proofs.lemmas.Bool.Decides.{nat_tests}
use Rattle.std.proofs.lemmas.Int.{ints}
use Rattle.std.specs.Int.{int_rem_euclid}
use Rattle.std.specs.Int.RustNames.{int_le}
use Rattle.xs_values.specs.declared.kind.Kind.{Kind}
use Rattle.xs_values.specs.declared.kind.Kind.TheVariants.{I8, U8, I16, U16, I32, U32, I64, U64}
use Rattle.xs_values.specs.declared.kind.Kind.TheVariants as kind
use Rattle.xs_values.specs.Kinds.{bits_of, high_of, low_of}
use Rattle.xs_values.specs.Laws.{ConversionIsTheNumber, DifferByMultiple, IsTheNumber, UvsAreConversions}
use Rattle.xs_values.specs.Numbers.{IsInRange, bits_in, wrapped_value}
use Rattle.xs_values.specs.Plains.{number_of}

-- the residue modulo m, or the one below 0 where that is above h
abbrev residue : ℕ → ℕ → ℤ → ℤ
residue m h z = if int_le (int_rem_euclid z (pos m)) (pos h) then int_rem_euclid z (pos m) else int_rem_euclid z (pos m) -ℤ pos m

-- the range from l to h has m numbers
record Spans (m h : ℕ) (l : ℤ) : Type 0 where
  some : 0 < m
  low : l ≤ℤ pos 0
  all : pos h -ℤ l +ℤ pos 1 ≡ pos m

-- the number that the residue r below m stands for
abbrev chosen : ℕ → ℕ → ℕ → ℤ
chosen m h r = if int_le (pos r) (pos h) then pos r else pos r -ℤ pos m

chosen_low : (m h r : ℕ) (l : ℤ) → Spans m h l → r < m → l ≤ℤ chosen m h r
chosen_low m h r l s b =
    cond_both (int_le (pos r) (pos h)) (pos r) (pos r -ℤ pos m) (λ z. l ≤ℤ z)
    (λ e. omega (arith, ints, s.low))
    (λ e. let above : h < r = grind (arith, ints, nat_tests) in omega (arith, ints, s.all, s.low))

chosen_high : (m h r : ℕ) (l : ℤ) → Spans m h l → r < m → chosen m h r ≤ℤ pos h
chosen_high m h r l s b =
    cond_both (int_le (pos r) (pos h)) (pos r) (pos r -ℤ pos m) (λ z. z ≤ℤ pos h)
    (λ e. let below : r ≤ h = grind (arith, ints, nat_tests) in omega (arith, ints))
    (λ e. omega (arith, ints, b))

chosen_of_pos : (m h a : ℕ) → DifferByMultiple m (chosen m h (a % m)) (pos a)
chosen_of_pos m h a =
    cond_both (int_le (pos (a % m)) (pos h)) (pos (a % m)) (pos (a % m) -ℤ pos m) (λ y. DifferByMultiple m y (pos a))
    (λ e. record { left = a / m; right = 0; equal = omega (arith, ints, mod-add-div' a m) })
    (λ e. record { left = suc (a / m); right = 0; equal = omega (arith, ints, mod-add-div' a m, suc-mul (a / m) m) })

chosen_of_negsuc : (m h a : ℕ) → a % m < m → DifferByMultiple m (chosen m h (m - 1 - a % m)) (negsuc a)
chosen_of_negsuc m h a b =
    cond_both (int_le (pos (m - 1 - a % m)) (pos h)) (pos (m - 1 - a % m)) (pos (m - 1 - a % m) -ℤ pos m) (λ y. DifferByMultiple m y (negsuc a))
    (λ e. record { left = 0; right = suc (a / m); equal = omega (arith, ints, mod-add-div' a m, suc-mul (a / m) m) })
    (λ e. record { left = 0; right = a / m; equal = omega (arith, ints, mod-add-div' a m) })

-- the residue of a number, as the definition has it
residue_low : (m h : ℕ) (l : ℤ) → Spans m h l → (z : ℤ) → l ≤ℤ residue m h z
residue_low m h l s (pos a) = chosen_low m h (a % m) l s (mod-lt a s.some)
residue_low m h l s (negsuc a) = let some : 0 < m = s.some in chosen_low m h (m - 1 - a % m) l s (omega arith)

residue_high : (m h : ℕ) (l : ℤ) → Spans m h l → (z : ℤ) → residue m h z ≤ℤ pos h
residue_high m h l s (pos a) = chosen_high m h (a % m) l s (mod-lt a s.some)
residue_high m h l s (negsuc a) = let some : 0 < m = s.some in chosen_high m h (m - 1 - a % m) l s (omega arith)

residue_same : (m h : ℕ) → 0 < m → (z : ℤ) → DifferByMultiple m (residue m h z) z
residue_same m h some (pos a) = chosen_of_pos m h a
residue_same m h some (negsuc a) = chosen_of_negsuc m h a (mod-lt a some)

-- Two numbers of one range that differ by a multiple of its length are one.
record Near (m : ℕ) (x y : ℤ) : Type 0 where
  below : (x +ℤ pos 1) ≤ℤ (y +ℤ pos m)
  above : (y +ℤ pos 1) ≤ℤ (x +ℤ pos m)

near : (m h : ℕ) (l x y : ℤ) → Spans m h l → l ≤ℤ x → x ≤ℤ pos h → l ≤ℤ y → y ≤ℤ pos h → Near m x y
near m h l x y s a b c d = record { below = omega (arith, ints, s.all); above = omega (arith, ints, s.all) }

same_number : (m i j : ℕ) (x y : ℤ) → Near m x y → x +ℤ pos (i * m) ≡ y +ℤ pos (j * m) → x ≡ y
same_number m zero zero x y n e = omega (arith, ints, e, zero-mul m)
same_number m zero (suc j) x y n e = absurd (omega (arith, ints, e, n.below, zero-mul m, suc-mul j m))
same_number m (suc i) zero x y n e = absurd (omega (arith, ints, e, n.above, zero-mul m, suc-mul i m))
same_number m (suc i) (suc j) x y n e = same_number m i j x y n (omega (arith, ints, e, suc-mul i m, suc-mul j m))

both_differ : (m : ℕ) (x y z : ℤ) (d : DifferByMultiple m x z) (e : DifferByMultiple m y z)
    → x +ℤ pos ((d.left + e.right) * m) ≡ y +ℤ pos ((e.left + d.right) * m)
both_differ m x y z d e =
    omega (arith, ints, d.equal, e.equal, add-mul d.left e.right m, add-mul e.left d.right m)

the_number : (k : Kind) (m h : ℕ) (z : ℤ) → Spans m h (low_of k) → high_of k ≡ pos h → 2 ^ bits_of k ≡ m → IsTheNumber k z (residue m h z)
the_number k m h z s top count =
    let y_low : low_of k ≤ℤ residue m h z = residue_low m h (low_of k) s z in
    let y_high : residue m h z ≤ℤ pos h = residue_high m h (low_of k) s z in
    let same : DifferByMultiple m (residue m h z) z = residue_same m h s.some z in
    record {
      held = record { low = y_low; high = subst (λ (t : ℤ). residue m h z ≤ℤ t) (sym top) y_high };
      same = subst (λ (n : ℕ). DifferByMultiple n (residue m h z) z) (sym count) same;
      only = λ x r d.
          let there : DifferByMultiple m x z = subst (λ (n : ℕ). DifferByMultiple n x z) count d in
          let x_high : x ≤ℤ pos h = subst (λ (t : ℤ). x ≤ℤ t) top r.high in
          same_number m (there.left + same.right) (same.left + there.right) x (residue m h z)
          (near m h (low_of k) x (residue m h z) s r.low x_high y_low y_high) (both_differ m x (residue m h z) z there same);
    }

pub conversion_is : ConversionIsTheNumber
conversion_is I8 z other = the_number I8 256 127 z (record { some = omega arith; low = record { le = tt }; all = refl }) refl refl
conversion_is U8 z other = the_number U8 256 255 z (record { some = omega arith; low = record { le = tt }; all = refl }) refl refl
conversion_is I16 z other = the_number I16 65536 32767 z (record { some = omega arith; low = record { le = tt }; all = refl }) refl refl
conversion_is U16 z other = the_number U16 65536 65535 z (record { some = omega arith; low = record { le = tt }; all = refl }) refl refl
conversion_is I32 z other = the_number I32 4294967296 2147483647 z (record { some = omega arith; low = record { le = tt }; all = refl }) refl refl
conversion_is U32 z other = the_number U32 4294967296 4294967295 z (record { some = omega arith; low = record { le = tt }; all = refl }) refl refl
conversion_is I64 z other =
    the_number I64 18446744073709551616 9223372036854775807 z (record { some = omega arith; low = record { le = tt }; all = refl }) refl refl
conversion_is U64 z other =
    the_number U64 18446744073709551616 18446744073709551615 z (record { some = omega arith; low = record { le = tt }; all = refl }) refl refl
conversion_is kind.Bool z other = absurd (other refl)

not_bool : (k : Kind) → 8 ≤ bits_of k → k ≢ kind.Bool
not_bool k h e = omega (arith, h, ap bits_of e)

-- conversion gives a number of the kind
pub wrapped_in_range : (k : Kind) (z : ℤ) → IsInRange k (wrapped_value k z)
wrapped_in_range I8 z = (conversion_is I8 z (not_bool I8 (omega arith))).held
wrapped_in_range U8 z = (conversion_is U8 z (not_bool U8 (omega arith))).held
wrapped_in_range I16 z = (conversion_is I16 z (not_bool I16 (omega arith))).held
wrapped_in_range U16 z = (conversion_is U16 z (not_bool U16 (omega arith))).held
wrapped_in_range I32 z = (conversion_is I32 z (not_bool I32 (omega arith))).held
wrapped_in_range U32 z = (conversion_is U32 z (not_bool U32 (omega arith))).held
wrapped_in_range I64 z = (conversion_is I64 z (not_bool I64 (omega arith))).held
wrapped_in_range U64 z = (conversion_is U64 z (not_bool U64 (omega arith))).held
wrapped_in_range kind.Bool (pos zero) = record { low = record { le = tt }; high = record { le = tt } }
wrapped_in_range kind.Bool (pos (suc n)) = record { low = record { le = tt }; high = record { le = tt } }
wrapped_in_range kind.Bool (negsuc n) = record { low = record { le = tt }; high = record { le = tt } }

held_same : (k : Kind) (z : ℤ) → 8 ≤ bits_of k → IsInRange k z → wrapped_value k z ≡ z
held_same k z wide r = sym ((conversion_is k z (not_bool k wide)).only z r (record { left = 0; right = 0; equal = refl }))

-- conversion keeps a number that the kind holds
pub wrapped_value-held : (k : Kind) (z : ℤ) → IsInRange k z → wrapped_value k z ≡ z
wrapped_value-held I8 z r = held_same I8 z (omega arith) r
wrapped_value-held U8 z r = held_same U8 z (omega arith) r
wrapped_value-held I16 z r = held_same I16 z (omega arith) r
wrapped_value-held U16 z r = held_same U16 z (omega arith) r
wrapped_value-held I32 z r = held_same I32 z (omega arith) r
wrapped_value-held U32 z r = held_same U32 z (omega arith) r
wrapped_value-held I64 z r = held_same I64 z (omega arith) r
wrapped_value-held U64 z r = held_same U64 z (omega arith) r
wrapped_value-held kind.Bool (pos zero) r = refl
wrapped_value-held kind.Bool (pos (suc n)) r = ap pos (omega (arith, ints, r.high))
wrapped_value-held kind.Bool (negsuc n) r = absurd (omega (arith, ints, r.low))

fits_below : (r m h : ℕ) → m ≡ suc h → r < m → int_le (pos r) (pos h) ≡ true
fits_below r m h e b = grind (arith, nat_tests)

uv_at : (z : ℤ) → pos (bits_in U64 z) ≡ wrapped_value U64 z
uv_at (pos a) = sym (cond-true (int_le (pos (a % (2 ^ 64))) (high_of U64)) _ _ (fits_below (a % (2 ^ 64)) (2 ^ 64) (2 ^ 64 - 1) refl (mod-lt a (omega arith))))
uv_at (negsuc a) =
    sym (cond-true (int_le (pos (2 ^ 64 - 1 - a % (2 ^ 64))) (high_of U64)) _ _
    (fits_below (2 ^ 64 - 1 - a % (2 ^ 64)) (2 ^ 64) (2 ^ 64 - 1) refl (omega arith)))

pub uv_is : UvsAreConversions
uv_is p = uv_at (number_of p)
