-- Which types go into which (the C standard, 6.3 and 6.5), and what the operands of rows are.
use Rattle.std.specs.Prelude.{ℕ, Bool, true, false, ◌&&◌, ◌||◌, not, if◌then◌else◌, nat_eq, [], Option, None, Some}
use Rattle.xs_base.specs.declared.fault_codes.TheConstants.{TYPES_DIFFER}
use Rattle.xs_values.specs.declared.operator.Op.{Op}
use Rattle.xs_values.specs.declared.operator.Op.TheVariants.{Equal, NotEqual}
use Rattle.xs_values.specs.Kinds.{common_kind}
use Rattle.xs_values.specs.declared.kind.Kind.{Kind}
use Rattle.xs_values.specs.declared.kind.Kind.TheVariants as kinds
use Rattle.xs_values.specs.declared.unary_operator.UnOp.{UnOp}
use Rattle.xs_values.specs.declared.unary_operator.UnOp.TheVariants as unary
use Rattle.xs_values.specs.Numbers.{result_kind_of, unary_kind_of}
use Rattle.xs_perlapi.specs.declared.row.ApiType.{ApiType}
use Rattle.xs_perlapi.specs.declared.row.ApiType.TheVariants as api
use Rattle.xs_ctree.specs.declared.value_type.ValueType.{ValueType}
use Rattle.xs_ctree.specs.declared.value_type.ValueType.TheVariants as type_of
use Rattle.xs_ctypes.specs.Checked.{Judged, Fine, Wrong, when}

abbrev pub differ : {A : Type 0} → Judged A
differ = Wrong TYPES_DIFFER []

abbrev pub is_number : ValueType → Bool
is_number (type_of.Number kind) = true
is_number _ = false

abbrev pub is_scalar : ValueType → Bool
is_scalar type_of.Scalar = true
is_scalar _ = false

-- whether the type is that of a declaration with a type that no variable may have
abbrev pub is_faulty : ValueType → Bool
is_faulty type_of.Faulty = true
is_faulty _ = false

abbrev pub are_numbers : ValueType → ValueType → Bool
are_numbers a b = is_number a && is_number b

-- all types but those of numbers and of nothing
abbrev pub is_pointer : ValueType → Bool
is_pointer (type_of.Number kind) = false
is_pointer type_of.Void = false
is_pointer _ = true

-- ---- one type

-- the place of a kind in their order
abbrev pub kind_place : Kind → ℕ
kind_place kinds.I8 = 0
kind_place kinds.U8 = 1
kind_place kinds.I16 = 2
kind_place kinds.U16 = 3
kind_place kinds.I32 = 4
kind_place kinds.U32 = 5
kind_place kinds.I64 = 6
kind_place kinds.U64 = 7
kind_place kinds.Bool = 8

-- the place of a type in their order, and that of its kind or record
abbrev pub type_place : ValueType → ℕ × ℕ
type_place (type_of.Number kind) = (0, kind_place kind)
type_place type_of.Text = (1, 0)
type_place type_of.Scalar = (2, 0)
type_place type_of.Array = (3, 0)
type_place type_of.Hash = (4, 0)
type_place type_of.Place = (5, 0)
type_place (type_of.Record index) = (6, index)
type_place type_of.Untyped = (7, 0)
type_place (type_of.Address kind) = (8, kind_place kind)
type_place type_of.Null = (9, 0)
type_place type_of.Void = (10, 0)
type_place type_of.Faulty = (11, 0)

-- whether two types are one
abbrev pub same : ValueType → ValueType → Bool
same a b =
    nat_eq (type_place a).0 (type_place b).0 && nat_eq (type_place a).1 (type_place b).1

abbrev pub is_text : ValueType → Bool
is_text t = same t type_of.Text

abbrev pub is_char : ValueType → Bool
is_char t = same t (type_of.Number kinds.I8)

-- whether the type is that of NULL alone
abbrev pub is_null : ValueType → Bool
is_null t = same t type_of.Null

-- ---- what goes into what

-- What is assigned: numbers go into each other, NULL goes into each pointer, and a pointer into its
-- own type.
abbrev pub goes_into : ValueType → ValueType → Bool
goes_into (type_of.Number from) to = is_number to
goes_into type_of.Null to = is_pointer to
goes_into type_of.Void to = false
goes_into from to = same from to

-- a condition is a number or a pointer
abbrev pub is_condition : ValueType → Bool
is_condition type_of.Void = false
is_condition _ = true

-- what Perl keeps things in: a cast among these keeps the thing
abbrev pub is_thing : ValueType → Bool
is_thing type_of.Scalar = true
is_thing type_of.Array = true
is_thing type_of.Hash = true
is_thing _ = false

abbrev pub is_record : ValueType → Bool
is_record (type_of.Record index) = true
is_record _ = false

abbrev pub is_untyped : ValueType → Bool
is_untyped t = same t type_of.Untyped

-- What is cast to a pointer: its own type, NULL, a thing to a thing, and a record to `void *`.
abbrev pub casts_pointer : ValueType → ValueType → Bool
casts_pointer from to =
    (same from to || is_null from)
    || ((is_thing from && is_thing to) || (is_record from && is_untyped to))

-- what is cast to a type
abbrev pub casts : ValueType → ValueType → Bool
casts from (type_of.Number kind) = is_number from
casts from type_of.Void = true
casts from to = casts_pointer from to

abbrev pub of_cast : Option ValueType → ValueType → Judged ValueType
of_cast None from = differ
of_cast (Some to) from = when (casts from to) to TYPES_DIFFER []

-- a type, where there is one
abbrev pub or_differ : Option ValueType → Judged ValueType
or_differ None = differ
or_differ (Some t) = Fine t

-- a truth, where a test holds
abbrev pub of_truth : Bool → Judged ValueType
of_truth test = when test (type_of.Number kinds.I32) TYPES_DIFFER []

-- two conditions under `&&` or `||`
abbrev pub are_conditions : ValueType → ValueType → Bool
are_conditions a b = is_condition a && is_condition b

-- an operand that is promoted
abbrev pub of_promoted : UnOp → ValueType → Judged ValueType
of_promoted op (type_of.Number kind) = Fine (type_of.Number (unary_kind_of op kind))
of_promoted op _ = differ

-- an operand behind an operator
abbrev pub of_one : UnOp → ValueType → Judged ValueType
of_one unary.Not t = of_truth (is_condition t)
of_one unary.Plus t = of_promoted unary.Plus t
of_one unary.Minus t = of_promoted unary.Minus t
of_one unary.Complement t = of_promoted unary.Complement t

-- two numbers under an operator
abbrev pub of_numbers : Op → ValueType → ValueType → Judged ValueType
of_numbers op (type_of.Number a) (type_of.Number b) =
    Fine (type_of.Number (result_kind_of op a b))
of_numbers op _ _ = differ

-- whether an operator is `==` or `!=`
abbrev pub is_equality : Op → Bool
is_equality Equal = true
is_equality NotEqual = true
is_equality _ = false

-- Pointers under `==` and `!=` are of one type, or one is NULL. Two texts are not compared: C
-- compares where they stand, and not their bytes.
abbrev pub compares : ValueType → ValueType → Bool
compares a b =
    is_pointer a && (is_pointer b && ((same a b && not (is_text a)) || (is_null a || is_null b)))

-- two operands under an operator
abbrev pub of_two : Op → ValueType → ValueType → Judged ValueType
of_two op a b =
    if are_numbers a b then of_numbers op a b else of_truth (compares a b && is_equality op)

-- what a pointer points to
abbrev pub of_pointed : ValueType → Judged ValueType
of_pointed type_of.Text = Fine (type_of.Number kinds.I8)
of_pointed type_of.Place = Fine type_of.Scalar
of_pointed (type_of.Address kind) = Fine (type_of.Number kind)
of_pointed _ = differ

-- the address of a variable
abbrev pub of_address : ValueType → Judged ValueType
of_address (type_of.Number kind) = Fine (type_of.Address kind)
of_address _ = differ

-- whether a type is that of a pointer to a variable
abbrev pub is_address : ValueType → Bool
is_address (type_of.Address kind) = true
is_address _ = false

-- whether a text has a byte at an index
abbrev pub is_element : ValueType → ValueType → Bool
is_element text at = is_text text && is_number at

-- two numbers of which one is chosen
abbrev pub of_common : ValueType → ValueType → Judged ValueType
of_common (type_of.Number a) (type_of.Number b) = Fine (type_of.Number (common_kind a b))
of_common _ _ = differ

-- whether a pointer, or nothing, is chosen beside a value of another type
abbrev pub is_chosen : ValueType → ValueType → Bool
is_chosen a b = same a b || (is_null b && is_pointer a)

-- The two values of a choice: numbers, two of one type, or a pointer and NULL.
abbrev pub of_values : ValueType → ValueType → Judged ValueType
of_values a b =
    if are_numbers a b then of_common a b
    else if is_chosen a b then Fine a
    else when (is_chosen b a) b TYPES_DIFFER []

-- a choice by a condition
abbrev pub of_choice : ValueType → ValueType → ValueType → Judged ValueType
of_choice test a b = if is_condition test then of_values a b else differ

-- whether an expression of a type may be an operand of a row
abbrev pub is_operand : ApiType → ValueType → Bool
is_operand (api.Number kind) t = is_number t
is_operand api.Integer t = is_number t
is_operand api.Scalar t = is_scalar t
is_operand _ t = false

-- the type of a row's result
abbrev pub result_type : ApiType → ValueType
result_type (api.Number kind) = type_of.Number kind
result_type api.Scalar = type_of.Scalar
result_type _ = type_of.Void
