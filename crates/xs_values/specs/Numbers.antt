-- C's numbers, and what operators give on whole numbers.
use Rattle.std.specs.Prelude.{ℕ, ℤ, pos, negsuc, zero, suc, neg_ℤ, ◌+ℤ◌, ◌-ℤ◌, ◌*ℤ◌, ◌≤ℤ◌, ◌^◌, Bool, true, false, if◌then◌else◌, not, ◌&&◌, Result, Ok, Err, bit_and, bit_or, bit_xor, int_lt}
use Rattle.std.specs.Int.{int_div_euclid, int_rem_euclid}
use Rattle.std.specs.Int.RustNames.{int_div, int_le, int_rem, unsigned_abs}
use Rattle.xs_values.specs.declared.kind.Kind.{Kind}
use Rattle.xs_values.specs.declared.kind.Kind.TheVariants.{I8, U8, I16, U16, I32, U32, I64, U64}
use Rattle.xs_values.specs.declared.kind.Kind.TheVariants as kind
use Rattle.xs_values.specs.declared.operator.Op.{Op}
use Rattle.xs_values.specs.declared.operator.Op.TheVariants.{Add, Subtract, Multiply, Divide, Remainder, ShiftLeft, ShiftRight, BitAnd, BitXor, BitOr, Equal, NotEqual, Less, LessEqual, Greater, GreaterEqual}
use Rattle.xs_values.specs.declared.trap.Trap.{Trap}
use Rattle.xs_values.specs.declared.trap.Trap.TheVariants.{Overflow, Shift, Zero}
use Rattle.xs_values.specs.declared.unary_operator.UnOp.{UnOp}
use Rattle.xs_values.specs.declared.unary_operator.UnOp.TheVariants.{Plus, Minus, Complement, Not}
use Rattle.xs_values.specs.Kinds.{bits_of, common_kind, high_of, is_signed, low_of, promoted}

-- a number: its kind, and a whole number
pub record Number : Type 0 where
  pub kind : Kind
  pub value : ℤ

pub record IsInRange (k : Kind) (z : ℤ) : Type 0 where
  pub low : low_of k ≤ℤ z
  pub high : z ≤ℤ high_of k

-- whether the range of a kind holds a whole number
abbrev pub is_held : Kind → ℤ → Bool
is_held k z = int_le (low_of k) z && int_le z (high_of k)

-- whether two whole numbers are one
abbrev pub is_same : ℤ → ℤ → Bool
is_same x y = int_le x y && int_le y x

-- Conversion (C11 6.3.1.3, and 6.3.1.2 for `bool`).

-- The residue of a whole number, or the one below 0 where the kind does not hold that. A law says
-- that this is the number of the kind that differs by a multiple of 2^bits, and the only one.
abbrev pub modular : Kind → ℤ → ℤ
modular k z =
    if int_le (int_rem_euclid z (pos (2 ^ bits_of k))) (high_of k) then int_rem_euclid z
    (pos (2 ^ bits_of k))
    else int_rem_euclid z (pos (2 ^ bits_of k)) -ℤ pos (2 ^ bits_of k)

-- 1 for any number but 0
abbrev pub one_unless_zero : ℤ → ℤ
one_unless_zero (pos zero) = pos 0
one_unless_zero (pos (suc n)) = pos 1
one_unless_zero (negsuc n) = pos 1

abbrev pub wrapped_value : Kind → ℤ → ℤ
wrapped_value I8 z = modular I8 z
wrapped_value U8 z = modular U8 z
wrapped_value I16 z = modular I16 z
wrapped_value U16 z = modular U16 z
wrapped_value I32 z = modular I32 z
wrapped_value U32 z = modular U32 z
wrapped_value I64 z = modular I64 z
wrapped_value U64 z = modular U64 z
wrapped_value kind.Bool z = one_unless_zero z

-- C's conversion of a whole number to a kind
abbrev pub wrapped : Kind → ℤ → Number
wrapped k z = record { kind = k; value = wrapped_value k z }

-- What operators give.

-- What an operator gives of the whole number that it computed: that number, Overflow where a signed
-- kind does not hold it (C11 6.5p5), and the wrapped number where an unsigned kind does not (C11
-- 6.2.5p9).
abbrev pub settled : Kind → ℤ → Result Number Trap
settled k z = if is_held k z then Ok (record { kind = k; value = z })
    else (if is_signed k then Err Overflow else Ok (wrapped k z))

-- what a division with the quotient q gives: z, where the kind holds q
abbrev pub divided_as : Kind → ℤ → ℤ → Result Number Trap
divided_as k q z = if is_held k q then Ok (record { kind = k; value = z }) else Err Overflow

-- What `/` and `%` give (C11 6.5.5): there is nothing to divide by 0, and where the kind does not
-- hold the quotient, which is truncated toward 0, neither has a value.
abbrev pub divided : Kind → ℤ → ℤ → ℤ → Result Number Trap
divided k x y z = if is_same y (pos 0) then Err Zero else divided_as k (int_div x y) z

-- whether a number counts the places of a shift: it is not negative, and below the width (C11
-- 6.5.7p3)
abbrev pub is_count : Kind → ℤ → Bool
is_count k y = int_le (pos 0) y && int_lt y (pos (bits_of k))

-- x << y is x * 2^y, which no negative x has (C11 6.5.7p4)
abbrev pub shifted_left : Kind → ℤ → ℤ → Result Number Trap
shifted_left k x y =
    if is_count k y then (if int_lt x (pos 0) then Err Overflow
    else settled k (x *ℤ pos (2 ^ unsigned_abs y)))
    else Err Shift

-- x >> y is x / 2^y, rounded down (C11 6.5.7p5, which leaves a negative x to the compiler: the sign
-- is kept)
abbrev pub shifted_right : Kind → ℤ → ℤ → Result Number Trap
shifted_right k x y =
    if is_count k y then Ok
    (record { kind = k; value = int_div_euclid x (pos (2 ^ unsigned_abs y)) })
    else Err Shift

-- the bits of a number in two's complement, as a number that is not negative (C11 6.2.6.2)
abbrev pub bits_in : Kind → ℤ → ℕ
bits_in k z = unsigned_abs (int_rem_euclid z (pos (2 ^ bits_of k)))

-- 1 where a comparison holds, and else 0: an `int` (C11 6.5.8p6, 6.5.9p3)
abbrev pub truth_number : Bool → Number
truth_number false = record { kind = I32; value = pos 0 }
truth_number true = record { kind = I32; value = pos 1 }

-- An operator on two whole numbers in a kind. Both are numbers of this kind, but for the count of a
-- shift.
abbrev pub operated : Op → Kind → ℤ → ℤ → Result Number Trap
operated Add k x y = settled k (x +ℤ y)
operated Subtract k x y = settled k (x -ℤ y)
operated Multiply k x y = settled k (x *ℤ y)
operated Divide k x y = divided k x y (int_div x y)
operated Remainder k x y = divided k x y (int_rem x y)
operated ShiftLeft k x y = shifted_left k x y
operated ShiftRight k x y = shifted_right k x y
operated BitAnd k x y = Ok (wrapped k (pos (bit_and (bits_in k x) (bits_in k y))))
operated BitXor k x y = Ok (wrapped k (pos (bit_xor (bits_in k x) (bits_in k y))))
operated BitOr k x y = Ok (wrapped k (pos (bit_or (bits_in k x) (bits_in k y))))
operated Equal k x y = Ok (truth_number (is_same x y))
operated NotEqual k x y = Ok (truth_number (not (is_same x y)))
operated Less k x y = Ok (truth_number (int_lt x y))
operated LessEqual k x y = Ok (truth_number (int_le x y))
operated Greater k x y = Ok (truth_number (int_lt y x))
operated GreaterEqual k x y = Ok (truth_number (int_le y x))

abbrev pub is_shift : Op → Bool
is_shift ShiftLeft = true
is_shift ShiftRight = true
is_shift _ = false

abbrev pub is_comparison : Op → Bool
is_comparison Equal = true
is_comparison NotEqual = true
is_comparison Less = true
is_comparison LessEqual = true
is_comparison Greater = true
is_comparison GreaterEqual = true
is_comparison _ = false

-- The kind that an operator works in: that of the promoted left operand for a shift (C11 6.5.7p3),
-- and the common kind else.
abbrev pub working_kind : Op → Kind → Kind → Kind
working_kind op a b = if is_shift op then promoted a else common_kind a b

-- the kind of what an operator gives
abbrev pub result_kind_of : Op → Kind → Kind → Kind
result_kind_of op a b = if is_comparison op then I32 else working_kind op a b

-- the right operand: the count of a shift is not converted
abbrev pub right_operand : Op → Kind → ℤ → ℤ
right_operand op k z = if is_shift op then z else wrapped_value k z

-- What an operator gives: the operands are converted to the kind that it works in first.
abbrev pub calculated : Op → Number → Number → Result Number Trap
calculated op a b =
    operated op (working_kind op a.kind b.kind)
    (wrapped_value (working_kind op a.kind b.kind) a.value)
    (right_operand op (working_kind op a.kind b.kind) b.value)

-- the kind of what an operator with one operand gives
abbrev pub unary_kind_of : UnOp → Kind → Kind
unary_kind_of Plus k = promoted k
unary_kind_of Minus k = promoted k
unary_kind_of Complement k = promoted k
unary_kind_of Not k = I32

-- What an operator with one operand gives (C11 6.5.3.3). The complement of all bits of z is -1 - z.
abbrev pub calculated_unary : UnOp → Number → Result Number Trap
calculated_unary Plus a = Ok (record { kind = promoted a.kind; value = a.value })
calculated_unary Minus a = settled (promoted a.kind) (neg_ℤ a.value)
calculated_unary Complement a = Ok (wrapped (promoted a.kind) (negsuc 0 -ℤ a.value))
calculated_unary Not a = Ok (truth_number (is_same a.value (pos 0)))
