-- What the code's arithmetic on 128 bits gives of numbers that have at most 64.
use Rattle.std.proofs.Common.{◌≡◌, ℕ, ℤ, pos, negsuc, zero, suc, ◌+ℤ◌, ◌-ℤ◌, ◌*ℤ◌, neg_ℤ, ◌≤ℤ◌, ◌≤◌, ◌-◌, ◌^◌, ◌/◌, ◌%◌, FitsSigned, to_z, of_z, refl, ap, ◌∙◌, arith}
use Rattle.std.proofs.Math.Nat.{div-le_self, mod-le}
use Rattle.std.proofs.lemmas.Int.{fits_signed_from_abs, fits_signed_mul, ints, to_z-of_z}
use Rattle.std.specs.Int.{w128}
use Rattle.std.specs.Int.RustNames.{int_div, int_rem, unsigned_abs}

-- a number between the least IV and the greatest UV
pub record IsWord (z : ℤ) : Type 0 where
  pub low : neg_ℤ (pos (2 ^ 63)) ≤ℤ z
  pub high : z ≤ℤ pos (2 ^ 64 - 1)

-- a number, after it went through 128 bits
abbrev pub through : ℤ → ℤ
through z = to_z w128 (of_z w128 z)

pub through_word : (z : ℤ) → neg_ℤ (pos (2 ^ 63)) ≤ℤ z → z ≤ℤ pos (2 ^ 64 - 1) → through z ≡ z
through_word z l h = omega (arith, ints)

pub sum_is : (x y : ℤ) → IsWord x → IsWord y → through (through x +ℤ through y) ≡ x +ℤ y
sum_is x y a b = omega (arith, ints, a.low, a.high, b.low, b.high)

pub difference_is : (x y : ℤ) → IsWord x → IsWord y → through (through x -ℤ through y) ≡ x -ℤ y
difference_is x y a b = omega (arith, ints, a.low, a.high, b.low, b.high)

pub negative_is : (x : ℤ) → IsWord x → through (pos 0 -ℤ through x) ≡ neg_ℤ x
negative_is x a = omega (arith, ints, a.low, a.high)

abs_neg : (n : ℕ) → unsigned_abs (neg_ℤ (pos n)) ≡ n
abs_neg zero = refl
abs_neg (suc n) = refl

pub quotient_abs : (x y : ℤ) → unsigned_abs (int_div x y) ≤ unsigned_abs x
quotient_abs (pos a) (pos b) = div-le_self a b
quotient_abs (pos a) (negsuc b) = omega (arith, abs_neg (a / suc b), div-le_self a (suc b))
quotient_abs (negsuc a) (pos b) = omega (arith, abs_neg (suc a / b), div-le_self (suc a) b)
quotient_abs (negsuc a) (negsuc b) = div-le_self (suc a) (suc b)

word_abs : (x : ℤ) → IsWord x → unsigned_abs x ≤ 2 ^ 64
word_abs (pos n) a = omega (arith, ints, a.high)
word_abs (negsuc n) a = omega (arith, ints, a.low)

pub quotient_fits : (x y : ℤ) → IsWord x → FitsSigned w128 (int_div x y)
quotient_fits x y a = fits_signed_from_abs w128 (int_div x y) (omega (arith, quotient_abs x y, word_abs x a))

pub product_fits : (x y : ℤ) → unsigned_abs x ≤ 2 ^ 63 → unsigned_abs y ≤ 2 ^ 63 → FitsSigned w128 (x *ℤ y)
product_fits x y a b = fits_signed_mul w128 x y (2 ^ 63) (2 ^ 63) a b (omega arith)

pub product_is : (x y : ℤ) → FitsSigned w128 x → FitsSigned w128 y → unsigned_abs x ≤ 2 ^ 63 → unsigned_abs y ≤ 2 ^ 63
    → through (through x *ℤ through y) ≡ x *ℤ y
product_is x y f g a b =
    ap (λ z. through (z *ℤ through y)) (to_z-of_z w128 x f)
    ∙ ap (λ z. through (x *ℤ z)) (to_z-of_z w128 y g)
    ∙ to_z-of_z w128 (x *ℤ y) (product_fits x y a b)

pub quotient_through : (x y : ℤ) → IsWord x → through (int_div x y) ≡ int_div x y
quotient_through x y a = to_z-of_z w128 (int_div x y) (quotient_fits x y a)

rest_abs : (x y : ℤ) → unsigned_abs (int_rem x y) ≤ unsigned_abs x
rest_abs (pos a) y = mod-le a (unsigned_abs y)
rest_abs (negsuc a) y = omega (arith, abs_neg (suc a % unsigned_abs y), mod-le (suc a) (unsigned_abs y))

pub rest_through : (x y : ℤ) → IsWord x → through (int_rem x y) ≡ int_rem x y
rest_through x y a = to_z-of_z w128 (int_rem x y) (fits_signed_from_abs w128 (int_rem x y) (omega (arith, rest_abs x y, word_abs x a)))

-- what a function gives of two numbers that went through 128 bits
pub of_both : (f : ℤ → ℤ → ℤ) (x y r : ℤ) → FitsSigned w128 x → FitsSigned w128 y → r ≡ f (through x) (through y) → r ≡ f x y
of_both f x y r a b e = e ∙ ap (λ z. f z (through y)) (to_z-of_z w128 x a) ∙ ap (f x) (to_z-of_z w128 y b)
