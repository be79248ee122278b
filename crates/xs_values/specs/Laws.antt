-- Laws of the definitions.
use Rattle.std.specs.Prelude.{◌≡◌, ◌≢◌, ℕ, ℤ, pos, ◌+ℤ◌, ◌-ℤ◌, ◌*ℤ◌, ◌≤ℤ◌, ◌*◌, ◌<◌, ◌^◌, codes, Some, Ok, Err}
use Rattle.std.specs.Fmt.{decimal, signed_decimal}
use Rattle.xs_values.specs.declared.kind.Kind.{Kind}
use Rattle.xs_values.specs.declared.kind.Kind.TheVariants.{I64, U64}
use Rattle.xs_values.specs.declared.kind.Kind.TheVariants as kind
use Rattle.xs_values.specs.declared.model.DataModel.{DataModel}
use Rattle.xs_values.specs.declared.operator.Op.{Op}
use Rattle.xs_values.specs.declared.operator.Op.TheVariants.{Divide, Remainder}
use Rattle.xs_values.specs.declared.plain.Plain.{Plain}
use Rattle.xs_values.specs.declared.plain.Plain.TheVariants.{Int, Text}
use Rattle.xs_values.specs.declared.trap.Trap.{Trap}
use Rattle.xs_values.specs.declared.unary_operator.UnOp.{UnOp}
use Rattle.xs_values.specs.Kinds.{bits_of, common_kind, high_of, low_of, promoted}
use Rattle.xs_values.specs.Numbers.{IsInRange, Number, calculated, calculated_unary, result_kind_of, unary_kind_of, wrapped_value}
use Rattle.xs_values.specs.Plains.{iv_of, number_of, number_of_text, text_of, uv_of}
use Rattle.xs_values.specs.Types.{kind_of_type, long_kind_of}

-- A kind of n bits has 2^n numbers (C11 6.2.6.2).
abbrev pub KindsHaveTheirWidth : Type 0
KindsHaveTheirWidth = (k : Kind) → high_of k -ℤ low_of k +ℤ pos 1 ≡ pos (2 ^ bits_of k)

-- Promotion keeps the value (C11 6.3.1.1p3).
abbrev pub PromotionKeepsNumbers : Type 0
PromotionKeepsNumbers = (k : Kind) (z : ℤ) → IsInRange k z → IsInRange (promoted k) z

-- Which operand stands left does not matter to the kind of both (C11 6.3.1.8).
abbrev pub CommonKindIsSymmetric : Type 0
CommonKindIsSymmetric = (a b : Kind) → common_kind a b ≡ common_kind b a

-- Two numbers differ by a multiple of m: they are one, after multiples of m are added to both.
pub record DifferByMultiple (m : ℕ) (y z : ℤ) : Type 0 where
  pub left : ℕ
  pub right : ℕ
  pub equal : y +ℤ pos (left * m) ≡ z +ℤ pos (right * m)

-- y is what conversion to a kind gives of z (C11 6.3.1.3): the number of the kind's range that
-- differs from z by a multiple of 2^bits, and the only one.
pub record IsTheNumber (k : Kind) (z y : ℤ) : Type 0 where
  pub held : IsInRange k y
  pub same : DifferByMultiple (2 ^ bits_of k) y z
  pub only : (x : ℤ) → IsInRange k x → DifferByMultiple (2 ^ bits_of k) x z → x ≡ y

abbrev pub ConversionIsTheNumber : Type 0
ConversionIsTheNumber = (k : Kind) (z : ℤ) → k ≢ kind.Bool → IsTheNumber k z (wrapped_value k z)

-- (a / b) * b + a % b is a, after both were converted (C11 6.5.5p6).
abbrev pub DivisionIsWhole : Type 0
DivisionIsWhole =
    (a b q r : Number) → calculated Divide a b ≡ Ok q → calculated Remainder a b ≡ Ok r
    → q.value *ℤ wrapped_value (common_kind a.kind b.kind) b.value +ℤ r.value
    ≡ wrapped_value (common_kind a.kind b.kind) a.value

-- `%` traps where `/` does, with the same trap.
abbrev pub RemaindersTrapAsQuotients : Type 0
RemaindersTrapAsQuotients = (a b : Number) (t : Trap) → calculated Divide a b ≡ Err t
    → calculated Remainder a b ≡ Err t

-- n is a number of a kind
pub record IsNumberOf (k : Kind) (n : Number) : Type 0 where
  pub of_kind : n.kind ≡ k
  pub held : IsInRange k n.value

-- What an operator gives is a number of the kind that its operands' kinds determine.
abbrev pub ResultsAreNumbers : Type 0
ResultsAreNumbers =
    (op : Op) (a b n : Number) → calculated op a b ≡ Ok n
    → IsNumberOf (result_kind_of op a.kind b.kind) n

abbrev pub UnaryResultsAreNumbers : Type 0
UnaryResultsAreNumbers =
    (op : UnOp) (a n : Number) → IsInRange a.kind a.value → calculated_unary op a ≡ Ok n
    → IsNumberOf (unary_kind_of op a.kind) n

-- The UV of a value is its number, converted to U64: of a negative number the residue modulo 2^64.
abbrev pub UvsAreConversions : Type 0
UvsAreConversions = (p : Plain) → pos (uv_of p) ≡ wrapped_value U64 (number_of p)

-- The text of a number, read as a number, gives that number.
abbrev pub TextsAreReadBack : Type 0
TextsAreReadBack = (z : ℤ) → low_of I64 ≤ℤ z → z ≤ℤ high_of U64 → number_of_text (signed_decimal z)
    ≡ z

abbrev pub IvsAreReadBack : Type 0
IvsAreReadBack = (i : ℤ) → IsInRange I64 i → iv_of (Text (text_of (Int i))) ≡ i

abbrev pub UvsAreReadBack : Type 0
UvsAreReadBack = (u : ℕ) → u < 2 ^ 64 → uv_of (Text (decimal u)) ≡ u

-- The table of number types and the suffixes of literals have one kind of `long`.
abbrev pub LongIsInTheTable : Type 0
LongIsInTheTable = (model : DataModel) → kind_of_type model (codes "long")
    ≡ Some (long_kind_of model)
