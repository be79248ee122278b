-- The value of a digit is below its base, and the value of digits only grows as digits follow.
use Rattle.std.proofs.Common.{◌≡◌, ℕ, true, suc, ◌+◌, ◌*◌, ◌<◌, ◌≤◌, List, [], ◌∷◌, length, get_or, drop, drop-cons, fold, ap, arith}
use Rattle.std.proofs.lemmas.Bool.Decides.{nat_tests}
use Rattle.std.specs.Char.{digit_value}
use Rattle.xs_values.specs.declared.literal.Base.{Base}
use Rattle.xs_values.specs.declared.literal.Base.TheVariants as base
use Rattle.xs_ctok.specs.Numerals.{is_digit_of, radix}

pub digit_within : (b : Base) (c : ℕ) → is_digit_of b c ≡ true → digit_value c < radix b
digit_within base.Decimal c h = grind (arith, nat_tests)
digit_within base.Octal c h = grind (arith, nat_tests)
digit_within base.Hexadecimal c h = grind (arith, nat_tests)

abbrev pub digit_step : Base → ℕ → ℕ → ℕ
digit_step b n c = radix b * n + digit_value c

-- a product with the radix, in either order
pub scaled : (b : Base) (n r : ℕ) → r ≡ radix b → n * r ≡ radix b * n
scaled base.Decimal n r e = rw e (omega arith)
scaled base.Octal n r e = rw e (omega arith)
scaled base.Hexadecimal n r e = rw e (omega arith)

step_grows : (b : Base) (n c : ℕ) → n ≤ digit_step b n c
step_grows base.Decimal n c = omega arith
step_grows base.Octal n c = omega arith
step_grows base.Hexadecimal n c = omega arith

pub fold_grows : (b : Base) (n : ℕ) (ds : List ℕ) → n ≤ fold (digit_step b) n ds
fold_grows b n [] = omega arith
fold_grows b n (d ∷ ds) = omega (arith, step_grows b n d, fold_grows b (digit_step b n d) ds)

pub too_wide : (b : Base) (n i m : ℕ) (ds : List ℕ) → i < length ds → m ≤ radix b * n + digit_value (get_or ds i 0) → m ≤ fold (digit_step b) n (drop i ds)
too_wide b n i m ds h wide =
    let e : fold (digit_step b) n (drop i ds) ≡ fold (digit_step b) (digit_step b n (get_or ds i 0)) (drop (suc i) ds) =
    ap (fold (digit_step b) n) (drop-cons ds i 0 h) in
    omega (arith, e, fold_grows b (digit_step b n (get_or ds i 0)) (drop (suc i) ds))
