-- The type of an expression, by the rule of its form, from the types of its parts. Nothing is asked
-- here of the parts themselves: the type of a part that is at fault means nothing.
use Rattle.std.specs.Prelude.{ℕ, Bool, true, ◌&&◌, not, if◌then◌else◌, nat_eq, List, [], ◌∷◌, length, Option, Some, None, codes}
use Rattle.std.specs.Option.{is_some}
use Rattle.std.specs.Str.{bytes_eq}
use Rattle.xs_base.specs.declared.fault_codes.TheConstants.{UNKNOWN_NAME, UNKNOWN_FUNCTION, TYPES_DIFFER, WRONG_NUMBER_OF_ARGUMENTS, NOT_ASSIGNABLE}
use Rattle.xs_values.specs.declared.kind.Kind.TheVariants.{I8, I32}
use Rattle.xs_values.specs.declared.operator.Op.{Op}
use Rattle.xs_values.specs.declared.model.DataModel.TheVariants.{Lp64}
use Rattle.xs_values.specs.Literals.{literal_kind_of}
use Rattle.xs_cinput.specs.declared.tree.BinaryOp.{BinaryOp}
use Rattle.xs_cinput.specs.declared.tree.BinaryOp.TheVariants as c
use Rattle.xs_cexpr.specs.ExpressionTree as syntax
use Rattle.xs_cexpr.specs.ExpressionTree.{ExprTree, ExprTrees, PlaceTree, VarPlace, TargetPlace, StPlace}
use Rattle.xs_perlapi.specs.declared.row.ApiType.{ApiType}
use Rattle.xs_perlapi.specs.Table.{RowCall, row_named}
use Rattle.xs_ctree.specs.declared.value_type.Slot.{Slot}
use Rattle.xs_ctree.specs.declared.value_type.ValueType.{ValueType}
use Rattle.xs_ctree.specs.declared.value_type.ValueType.TheVariants as type_of
use Rattle.xs_ctypes.specs.Checked.{Fine, Judged, Wrong, unbuilt, unknown, when}
use Rattle.xs_ccheck.specs.ExprTyping.{is_cv, is_text_type, letter_in, other_address, text_in, usage_word}
use Rattle.xs_ctypes.specs.Scopes.{Local, variable_of}
use Rattle.xs_ctypes.specs.TypeNames.{cast_named}
use Rattle.xs_ctypes.specs.ValueTypes.{are_conditions, are_numbers, differ, goes_into, is_address, is_element, is_number, is_operand, of_address, of_cast, of_choice, of_one, of_pointed, of_truth, of_two, result_type}

-- the type that a rule gives
abbrev pub type_by : Judged ValueType → ValueType
type_by (Fine t) = t
type_by (Wrong code word) = type_of.Void

-- ---- the rules

-- a variable has the type of its declaration, and the item count is an int
abbrev pub name_type : List ℕ → Option Slot → Judged ValueType
name_type name (Some v) = Fine v.of_type
name_type name None =
    if bytes_eq name (codes "items") then Fine (type_of.Number I32) else unknown UNKNOWN_NAME name

-- a name that is assigned to
abbrev pub variable_type : List ℕ → Option Slot → Judged ValueType
variable_type name (Some v) = when (not (is_address v.of_type)) v.of_type NOT_ASSIGNABLE []
variable_type name None =
    if bytes_eq name (codes "items") then Wrong NOT_ASSIGNABLE [] else unknown UNKNOWN_NAME name

-- what a pointer points to that is assigned to
abbrev pub written_type : ValueType → Judged ValueType
written_type (type_of.Address kind) = Fine (type_of.Number kind)
written_type type_of.Text = Wrong NOT_ASSIGNABLE []
written_type type_of.Place = Wrong NOT_ASSIGNABLE []
written_type _ = differ

abbrev pub target_type : List ℕ → Option Slot → Judged ValueType
target_type name (Some v) = written_type v.of_type
target_type name None =
    if bytes_eq name (codes "items") then differ else unknown UNKNOWN_NAME name

-- ST(i) that is assigned to
abbrev pub item_type : ValueType → Judged ValueType
item_type at = when (is_number at) type_of.Scalar TYPES_DIFFER []

-- an assignment has the type of what is assigned to
abbrev pub set_type : Option Op → ValueType → ValueType → Judged ValueType
set_type None to from = when (goes_into from to) to TYPES_DIFFER []
set_type (Some op) to from = when (are_numbers to from) to TYPES_DIFFER []

-- so has a step
abbrev pub step_type : ValueType → Judged ValueType
step_type to = when (is_number to) to TYPES_DIFFER []

-- a byte of a text
abbrev pub element_type : ValueType → ValueType → Judged ValueType
element_type text at = when (is_element text at) (type_of.Number I8) TYPES_DIFFER []

-- the address of a name
abbrev pub address_type : List ℕ → Option Slot → Judged ValueType
address_type name (Some v) = of_address v.of_type
address_type name None = other_address name

-- a cast; the address of a `char` may be cast to a text
abbrev pub cast_type : Option ℕ → Option ValueType → ValueType → Judged ValueType
cast_type None to from = of_cast to from
cast_type (Some slot) to from = if is_text_type to then Fine type_of.Text else of_cast to from

-- two operands with an operator between them
abbrev pub combined_type : BinaryOp → ValueType → ValueType → Judged ValueType
combined_type (c.On op) a b = of_two op a b
combined_type c.Or a b = of_truth (are_conditions a b)
combined_type c.And a b = of_truth (are_conditions a b)

-- whether operands of these types are those that a row takes
abbrev pub fit : List ApiType → List ValueType → Bool
fit [] ts = true
fit (wanted ∷ others) [] = true
fit (wanted ∷ others) (t ∷ ts) = is_operand wanted t && fit others ts

-- a call of a row with operands of these types
abbrev pub call_type : List ℕ → Option RowCall → List ValueType → Judged ValueType
call_type name None ts = unknown UNKNOWN_FUNCTION name
call_type name (Some r) ts =
    if nat_eq (length ts) (length r.operands) then
    when (fit r.operands ts) (result_type r.result) TYPES_DIFFER []
    else Wrong WRONG_NUMBER_OF_ARGUMENTS name

-- croak_xs_usage takes the word cv and a text
abbrev pub usage_type : ExprTrees → Judged ValueType
usage_type (syntax.MoreExprs a (syntax.MoreExprs b syntax.NoExprs)) =
    when (is_cv a && is_some (text_in b)) type_of.Void TYPES_DIFFER []
usage_type _ = Wrong WRONG_NUMBER_OF_ARGUMENTS usage_word

-- ---- one rule for each form

module _ (variables : List Local) where
  unfoldable mutual
    -- what the rule of its form says of an expression
    pub expr_rule : ExprTree → Judged ValueType
    expr_rule (syntax.Var line name) = name_type name (variable_of variables name)
    expr_rule (syntax.Num line n) =
        Fine (type_of.Number (literal_kind_of Lp64 n.base n.suffix n.value))
    -- a character is an int
    expr_rule (syntax.Chr line byte) = Fine (type_of.Number I32)
    expr_rule (syntax.Str line text) = Fine type_of.Text
    expr_rule (syntax.Paren line a) = Fine (type_by (expr_rule a))
    expr_rule (syntax.One line op a) = of_one op (type_by (expr_rule a))
    expr_rule (syntax.Call line name args) =
        if bytes_eq name usage_word then usage_type args
        else call_type name (row_named name) (expr_types args)
    expr_rule (syntax.Index line a at) =
        element_type (type_by (expr_rule a)) (type_by (expr_rule at))
    expr_rule (syntax.Deref line a) = of_pointed (type_by (expr_rule a))
    expr_rule (syntax.Address line name) = address_type name (variable_of variables name)
    expr_rule (syntax.Before line step place) = step_type (type_by (place_rule place))
    expr_rule (syntax.After line place step) = step_type (type_by (place_rule place))
    expr_rule (syntax.Set line place op value) =
        set_type op (type_by (place_rule place)) (type_by (expr_rule value))
    expr_rule (syntax.Two line op a b) =
        combined_type op (type_by (expr_rule a)) (type_by (expr_rule b))
    expr_rule (syntax.Choice line test a b) =
        of_choice (type_by (expr_rule test)) (type_by (expr_rule a)) (type_by (expr_rule b))
    expr_rule (syntax.Cast line to a) =
        cast_type (letter_in variables a) (cast_named to.name to.stars) (type_by (expr_rule a))
    -- not built yet
    expr_rule _ = unbuilt

    pub expr_types : ExprTrees → List ValueType
    expr_types syntax.NoExprs = []
    expr_types (syntax.MoreExprs a rest) = type_by (expr_rule a) ∷ expr_types rest

    -- what the rule of its form says of what is assigned to
    pub place_rule : PlaceTree → Judged ValueType
    place_rule (VarPlace line name) = variable_type name (variable_of variables name)
    place_rule (StPlace line at) = item_type (type_by (expr_rule at))
    place_rule (TargetPlace line name) = target_type name (variable_of variables name)
    -- not built yet
    place_rule _ = unbuilt

-- the type of an expression that is sound
abbrev pub expr_type : List Local → ExprTree → ValueType
expr_type variables e = type_by (expr_rule variables e)
