-- Numbers of type `int`: what a conversion gives is in range, and a sum is in range or traps Overflow.
use Rattle.std.proofs.Common.{◌≡◌, ℤ, pos, negsuc, ℕ, ◌-◌, ◌%◌, ◌<◌, ◌≤◌, ◌-ℤ◌, ◌≤ℤ◌, Bool, true, false, cond, refl, arith}
use Rattle.std.proofs.lemmas.Bool.Decides.{nat_tests}
use Rattle.std.proofs.lemmas.Int.{ints}
use Rattle.std.specs.Int.RustNames.{int_le}
use Rattle.std.specs.Prelude.{◌+ℤ◌, Result, Ok, Err}
use Rattle.xs_values.proofs.Wrapping.{wrapped_value-held}
use Rattle.xs_values.specs.declared.kind.Kind.TheVariants.{I32, I64}
use Rattle.xs_values.specs.declared.trap.Trap.{Trap}
use Rattle.xs_values.specs.declared.trap.Trap.TheVariants.{Overflow}
use Rattle.xs_values.specs.declared.operator.Op.TheVariants.{Add}
use Rattle.xs_values.specs.Numbers.{Number, IsInRange, calculated, is_held, wrapped_value}

residue_low : (r : ℕ) → r < 4294967296 → negsuc 2147483647 ≤ℤ cond (int_le (pos r) (pos 2147483647)) (pos r) (pos r -ℤ pos 4294967296)
residue_low r h = grind (arith, ints, nat_tests)

residue_high : (r : ℕ) → r < 4294967296 → cond (int_le (pos r) (pos 2147483647)) (pos r) (pos r -ℤ pos 4294967296) ≤ℤ pos 2147483647
residue_high r h = grind (arith, ints, nat_tests)

-- a number that is not below 0
pub in_range : (v : ℕ) → v ≤ 2147483647 → IsInRange I32 (pos v)
in_range v h = record { low = omega (arith, ints); high = omega (arith, ints, h) }

-- what a conversion to `int` gives is in range
pub wrapped_in_range : (z : ℤ) → IsInRange I32 (wrapped_value I32 z)
wrapped_in_range (pos n) = let h : n % 4294967296 < 4294967296 =
    omega arith in record { low = residue_low (n % 4294967296) h; high = residue_high (n % 4294967296) h }
wrapped_in_range (negsuc n) = let h : 4294967296 - 1 - n % 4294967296 < 4294967296 =
    omega arith in record { low = residue_low (4294967296 - 1 - n % 4294967296) h; high = residue_high (4294967296 - 1 - n % 4294967296) h }

pub wrapped_twice : (z : ℤ) → wrapped_value I32 (wrapped_value I32 z) ≡ wrapped_value I32 z
wrapped_twice z = wrapped_value-held I32 (wrapped_value I32 z) (wrapped_in_range z)

-- a number that an `int` holds is held by an IV
pub in_iv : (z : ℤ) → IsInRange I32 z → IsInRange I64 z
in_iv (pos n) h = record { low = omega (arith, ints); high = omega (arith, ints, h.high) }
in_iv (negsuc n) h = record { low = omega (arith, ints, h.low); high = omega (arith, ints) }

held : (z : ℤ) → is_held I32 z ≡ true → IsInRange I32 z
held (pos n) e = record { low = omega (arith, ints); high = grind (arith, ints, nat_tests) }
held (negsuc n) e = record { low = grind (arith, ints, nat_tests); high = omega (arith, ints) }

-- a number of type `int`
abbrev pub IsInt : Number → Type 0
IsInt n = (n ≡ record { kind = I32; value = n.value }) × IsInRange I32 n.value

-- what a sum of such numbers is
abbrev pub IsIntOrTrap : Result Number Trap → Type 0
IsIntOrTrap (Ok n) = IsInt n
IsIntOrTrap (Err trap) = Unit {0}

settled_at : (z : ℤ) (b : Bool) → is_held I32 z ≡ b → IsIntOrTrap (cond b (Ok (record { kind = I32; value = z })) (Err Overflow))
settled_at z true e = (refl, held z e)
settled_at z false e = tt

pub sum_of_two : (x y : Number) → IsInt x → IsInt y → IsIntOrTrap (calculated Add x y)
sum_of_two x y e g = rw (e.0, g.0) (settled_at (wrapped_value I32 x.value +ℤ wrapped_value I32 y.value) _ refl)
