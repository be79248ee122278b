-- What an expression is where it stands: its code and its type, or the first fault in it. One rule
-- for each form.
use Rattle.std.specs.Prelude.{ℕ, pos, Bool, true, false, ◌&&◌, not, if◌then◌else◌, nat_eq, List, [], ◌∷◌, map, length, Option, Some, None, codes}
use Rattle.std.specs.Option.{is_some}
use Rattle.std.specs.Str.{bytes_eq}
use Rattle.xs_base.specs.declared.fault_codes.TheConstants.{UNKNOWN_NAME, UNKNOWN_FUNCTION, TYPES_DIFFER, WRONG_NUMBER_OF_ARGUMENTS, NOT_ASSIGNABLE}
use Rattle.xs_values.specs.declared.kind.Kind.{Kind}
use Rattle.xs_values.specs.declared.kind.Kind.TheVariants.{I8, I32}
use Rattle.xs_values.specs.declared.literal.Base.{Base}
use Rattle.xs_values.specs.declared.literal.Suffix.{Suffix}
use Rattle.xs_values.specs.declared.model.DataModel.TheVariants.{Lp64}
use Rattle.xs_values.specs.declared.operator.Op.{Op}
use Rattle.xs_values.specs.declared.operator.Op.TheVariants.{Equal}
use Rattle.xs_values.specs.declared.unary_operator.UnOp.{UnOp}
use Rattle.xs_values.specs.declared.unary_operator.UnOp.TheVariants as unary
use Rattle.xs_values.specs.Literals.{literal_kind_of}
use Rattle.xs_values.specs.Numbers.{wrapped}
use Rattle.xs_cinput.specs.declared.tree.BinaryOp.{BinaryOp}
use Rattle.xs_cinput.specs.declared.tree.BinaryOp.TheVariants as c
use Rattle.xs_cinput.specs.declared.tree.Step.{Step}
use Rattle.xs_cinput.specs.declared.tree.Step.TheVariants.{Up, Down}
use Rattle.xs_cexpr.specs.ExpressionTree as syntax
use Rattle.xs_cexpr.specs.ExpressionTree.{ExprTree, ExprTrees, PlaceTree, VarPlace, TargetPlace, FieldPlace, StPlace}
use Rattle.xs_perlapi.specs.declared.row.ApiType.{ApiType}
use Rattle.xs_perlapi.specs.declared.row.Written.TheVariants as written
use Rattle.xs_perlapi.specs.Table.{RowCall, row_named, word_written}
use Rattle.xs_ctree.specs.declared.node.StepOp.{StepOp}
use Rattle.xs_ctree.specs.declared.node.StepOp.TheVariants as step_op
use Rattle.xs_ctree.specs.declared.value_type.Slot.{Slot}
use Rattle.xs_ctree.specs.declared.value_type.ValueType.{ValueType}
use Rattle.xs_ctree.specs.declared.value_type.ValueType.TheVariants as type_of
use Rattle.xs_ctree.specs.TypedTree.{Expr, Literal, Letters, Variable, ItemCount, Passed, Cast, ByteAt, Not, Unary, Binary, Same, And, Or, Choice, Address, Letter, Pointed, StepOf, Assign, Compound, Api, Usage, Target, ToVariable, ToPointed, ToItem, exprs_of}
use Rattle.xs_ctypes.specs.Checked.{Checked, Fine, Good, Judged, Wrong, behind, both, judged, more, three, unbuilt, unknown, when}
use Rattle.xs_ctypes.specs.Scopes.{Local, variable_of}
use Rattle.xs_ctypes.specs.TypeNames.{cast_named}
use Rattle.xs_ctypes.specs.ValueTypes.{are_conditions, are_numbers, compares, differ, goes_into, is_address, is_char, is_condition, is_element, is_equality, is_number, is_operand, is_text, of_address, of_cast, of_choice, of_numbers, of_pointed, of_promoted, result_type}

-- an expression with its type
pub record TypedExpr : Type 0 where
  pub tree : Expr
  pub of_type : ValueType

abbrev pub as_typed : Expr → ValueType → TypedExpr
as_typed e t = record { tree = e; of_type = t }

-- what is assigned to, with its type
pub record TypedTarget : Type 0 where
  pub target : Target
  pub of_type : ValueType

-- the expression of a type that is judged
abbrev pub typed : (ValueType → Expr) → Judged ValueType → Judged TypedExpr
typed e (Fine t) = Fine (as_typed (e t) t)
typed e (Wrong code word) = Wrong code word

-- ---- names and literals

-- a name that is no variable
abbrev pub other_name : List ℕ → Judged TypedExpr
other_name name =
    if bytes_eq name (codes "items") then Fine (as_typed ItemCount (type_of.Number I32))
    else unknown UNKNOWN_NAME name

abbrev pub name_meant : List ℕ → Option Slot → Judged TypedExpr
name_meant name None = other_name name
name_meant name (Some v) = Fine (as_typed (Variable v.number) v.of_type)

abbrev pub number : Kind → ℕ → TypedExpr
number kind n = as_typed (Literal (wrapped kind (pos n))) (type_of.Number kind)

-- an integer literal; LP64 is the one data model so far
abbrev pub literal : Base → Suffix → ℕ → TypedExpr
literal base suffix n = number (literal_kind_of Lp64 base suffix n) n

-- a character, a `char` that is promoted
abbrev pub character : ℕ → TypedExpr
character byte =
    as_typed (Literal (wrapped I32 (wrapped I8 (pos byte)).value)) (type_of.Number I32)

abbrev pub letters : List ℕ → TypedExpr
letters text = as_typed (Letters text) type_of.Text

-- ---- operators, casts and assignments

-- an expression in parentheses
abbrev pub passed : TypedExpr → TypedExpr
passed x = as_typed (Passed x.tree) x.of_type

-- a truth, where a test holds
abbrev pub truth : Bool → Expr → Judged TypedExpr
truth test e = when test (as_typed e (type_of.Number I32)) TYPES_DIFFER []

-- an operand that is promoted
abbrev pub promoting : UnOp → TypedExpr → Judged TypedExpr
promoting op x = typed (λ t. Unary op x.tree) (of_promoted op x.of_type)

-- an operand behind an operator
abbrev pub prefixed : UnOp → TypedExpr → Judged TypedExpr
prefixed unary.Not x = truth (is_condition x.of_type) (Not x.tree)
prefixed unary.Plus x = promoting unary.Plus x
prefixed unary.Minus x = promoting unary.Minus x
prefixed unary.Complement x = promoting unary.Complement x

-- two numbers under an operator
abbrev pub calculated : Op → TypedExpr → TypedExpr → Judged TypedExpr
calculated op x y = typed (λ t. Binary op x.tree y.tree) (of_numbers op x.of_type y.of_type)

abbrev pub is_equal : Op → Bool
is_equal Equal = true
is_equal _ = false

-- two pointers under `==` or `!=`
abbrev pub compared : Op → TypedExpr → TypedExpr → Judged TypedExpr
compared op x y =
    truth (compares x.of_type y.of_type && is_equality op) (Same (is_equal op) x.tree y.tree)

abbrev pub operated : Op → TypedExpr → TypedExpr → Judged TypedExpr
operated op x y =
    if are_numbers x.of_type y.of_type then calculated op x y else compared op x y

-- two operands with an operator between them
abbrev pub combined : BinaryOp → TypedExpr → TypedExpr → Judged TypedExpr
combined (c.On op) x y = operated op x y
combined c.Or x y = truth (are_conditions x.of_type y.of_type) (Or x.tree y.tree)
combined c.And x y = truth (are_conditions x.of_type y.of_type) (And x.tree y.tree)

-- a choice of two values by a condition, with the type of its value
abbrev pub chosen : ℕ → TypedExpr → TypedExpr → TypedExpr → Judged TypedExpr
chosen line test x y =
    typed (λ t. Choice line t test.tree x.tree y.tree)
    (of_choice test.of_type x.of_type y.of_type)

abbrev pub converted : Option ValueType → TypedExpr → Judged TypedExpr
converted to x = typed (λ t. Cast t x.tree) (of_cast to x.of_type)

abbrev pub is_text_type : Option ValueType → Bool
is_text_type None = false
is_text_type (Some t) = is_text t

-- the slot of a `char`
abbrev pub char_slot : Option Slot → Option ℕ
char_slot None = None
char_slot (Some v) = if is_char v.of_type then Some v.number else None

-- the slot of a `char` whose address an expression is
abbrev pub letter_in : List Local → ExprTree → Option ℕ
letter_in variables (syntax.Address line name) = char_slot (variable_of variables name)
letter_in variables _ = None

-- A cast. The address of a `char` is cast to a text, which is the byte of the variable.
abbrev pub cast : Option ℕ → Option ValueType → TypedExpr → Judged TypedExpr
cast None to x = converted to x
cast (Some slot) to x =
    if is_text_type to then Fine (as_typed (Letter slot) type_of.Text) else converted to x

-- ---- pointers

abbrev pub pointed : ℕ → TypedExpr → Judged TypedExpr
pointed line x = typed (λ t. Pointed line t x.tree) (of_pointed x.of_type)

-- a byte of a text
abbrev pub element : TypedExpr → TypedExpr → Judged TypedExpr
element x at =
    when (is_element x.of_type at.of_type) (as_typed (ByteAt x.tree at.tree) (type_of.Number I8))
    TYPES_DIFFER []

-- the address of a name that is no variable; those of Perl's scalars are not built yet
abbrev pub other_address : {A : Type 0} → List ℕ → Judged A
other_address name =
    if is_some (word_written written.Address name) then unbuilt
    else if bytes_eq name (codes "items") then Wrong NOT_ASSIGNABLE []
    else unknown UNKNOWN_NAME name

abbrev pub address_of : Slot → Judged TypedExpr
address_of v = typed (λ t. Address v.number) (of_address v.of_type)

abbrev pub address_meant : List ℕ → Option Slot → Judged TypedExpr
address_meant name None = other_address name
address_meant name (Some v) = address_of v

-- ---- what is assigned to

abbrev pub variable_target : Slot → TypedTarget
variable_target v = record { target = ToVariable v.number v.of_type; of_type = v.of_type }

abbrev pub not_assigned : Judged TypedTarget
not_assigned = Wrong NOT_ASSIGNABLE []

-- no pointer to a variable is assigned to
abbrev pub known_place : Slot → Judged TypedTarget
known_place v = when (not (is_address v.of_type)) (variable_target v) NOT_ASSIGNABLE []

-- the item count is not assignable
abbrev pub variable_place : List ℕ → Option Slot → Judged TypedTarget
variable_place name None =
    if bytes_eq name (codes "items") then Wrong NOT_ASSIGNABLE [] else unknown UNKNOWN_NAME name
variable_place name (Some v) = known_place v

-- What a pointer in a slot points to. No byte of a text is written, and no place of a scalar.
abbrev pub target_of : ℕ → ValueType → Judged TypedTarget
target_of slot (type_of.Address kind) =
    Fine (record { target = ToPointed slot kind; of_type = type_of.Number kind })
target_of slot type_of.Text = Wrong NOT_ASSIGNABLE []
target_of slot type_of.Place = Wrong NOT_ASSIGNABLE []
target_of slot _ = differ

abbrev pub target_place : List ℕ → Option Slot → Judged TypedTarget
target_place name None =
    if bytes_eq name (codes "items") then differ else unknown UNKNOWN_NAME name
target_place name (Some v) = target_of v.number v.of_type

abbrev pub item_place : TypedExpr → Judged TypedTarget
item_place x =
    when (is_number x.of_type) (record { target = ToItem x.tree; of_type = type_of.Scalar })
    TYPES_DIFFER []

abbrev pub assigned : ℕ → TypedTarget → TypedExpr → Judged TypedExpr
assigned line to x =
    when (goes_into x.of_type to.of_type) (as_typed (Assign line to.target x.tree) to.of_type)
    TYPES_DIFFER []

-- an assignment with an operator
abbrev pub compounded : ℕ → Op → TypedTarget → TypedExpr → Judged TypedExpr
compounded line op to x =
    when (are_numbers to.of_type x.of_type)
    (as_typed (Compound line to.target op x.tree) to.of_type) TYPES_DIFFER []

abbrev pub set_to : ℕ → Option Op → TypedTarget → TypedExpr → Judged TypedExpr
set_to line None to x = assigned line to x
set_to line (Some op) to x = compounded line op to x

-- a step in front of a place, and one behind it
abbrev pub front_step : Step → StepOp
front_step Up = step_op.PrefixIncrement
front_step Down = step_op.PrefixDecrement

abbrev pub back_step : Step → StepOp
back_step Up = step_op.PostfixIncrement
back_step Down = step_op.PostfixDecrement

abbrev pub stepped : ℕ → StepOp → TypedTarget → Judged TypedExpr
stepped line op to =
    when (is_number to.of_type) (as_typed (StepOf line op to.target) to.of_type) TYPES_DIFFER []

-- ---- calls

-- whether operands have the types that are wanted
abbrev pub all_fit : List ApiType → List TypedExpr → Bool
all_fit [] xs = true
all_fit (wanted ∷ others) [] = true
all_fit (wanted ∷ others) (x ∷ xs) = is_operand wanted x.of_type && all_fit others xs

abbrev pub row_called : ℕ → RowCall → List TypedExpr → TypedExpr
row_called line r xs =
    as_typed (Api line r.row (exprs_of (map (λ x. x.tree) xs))) (result_type r.result)

-- a row whose operands are so many
abbrev pub row_judged : ℕ → RowCall → List TypedExpr → Judged TypedExpr
row_judged line r xs = when (all_fit r.operands xs) (row_called line r xs) TYPES_DIFFER []

abbrev pub called : ℕ → List ℕ → Option RowCall → List TypedExpr → Judged TypedExpr
called line name None xs = unknown UNKNOWN_FUNCTION name
called line name (Some r) xs =
    if nat_eq (length xs) (length r.operands) then row_judged line r xs
    else Wrong WRONG_NUMBER_OF_ARGUMENTS name

abbrev pub usage_word : List ℕ
usage_word = codes "croak_xs_usage"

-- whether an operand is the word cv
abbrev pub is_cv : ExprTree → Bool
is_cv (syntax.Var line name) = bytes_eq name (codes "cv")
is_cv _ = false

abbrev pub text_in : ExprTree → Option (List ℕ)
text_in (syntax.Str line text) = Some text
text_in _ = None

abbrev pub usage_of : ℕ → Bool → Option (List ℕ) → Judged TypedExpr
usage_of line true (Some text) = Fine (as_typed (Usage line text) type_of.Void)
usage_of line true None = differ
usage_of line false text = differ

-- another number of operands
abbrev pub wrong_usage : Judged TypedExpr
wrong_usage = Wrong WRONG_NUMBER_OF_ARGUMENTS usage_word

-- the operands of croak_xs_usage are the word cv and a text
abbrev pub usage : ℕ → ExprTrees → Judged TypedExpr
usage line syntax.NoExprs = wrong_usage
usage line (syntax.MoreExprs a syntax.NoExprs) = wrong_usage
usage line (syntax.MoreExprs a (syntax.MoreExprs b syntax.NoExprs)) =
    usage_of line (is_cv a) (text_in b)
usage line (syntax.MoreExprs a (syntax.MoreExprs b (syntax.MoreExprs d rest))) =
    wrong_usage

-- ---- any expression

module _ (variables : List Local) where
  unfoldable mutual
    pub expr : ExprTree → Checked TypedExpr
    expr (syntax.Var line name) = judged line (name_meant name (variable_of variables name))
    expr (syntax.Num line value) = Good (literal value.base value.suffix value.value)
    expr (syntax.Chr line byte) = Good (character byte)
    expr (syntax.Str line text) = Good (letters text)
    expr (syntax.Paren line a) = behind (expr a) (λ x. Good (passed x))
    expr (syntax.One line op a) = behind (expr a) (λ x. judged line (prefixed op x))
    expr (syntax.Call line name args) =
        if bytes_eq name usage_word then judged line (usage line args)
        else behind (exprs args) (λ xs. judged line (called line name (row_named name) xs))
    expr (syntax.Index line a at) =
        both (expr a) (expr at) (λ x i. judged line (element x i))
    expr (syntax.Deref line a) = behind (expr a) (λ x. judged line (pointed line x))
    expr (syntax.Address line name) =
        judged line (address_meant name (variable_of variables name))
    expr (syntax.Before line step place) =
        behind (place_in place) (λ to. judged line (stepped line (front_step step) to))
    expr (syntax.After line place step) =
        behind (place_in place) (λ to. judged line (stepped line (back_step step) to))
    expr (syntax.Set line place op value) =
        both (place_in place) (expr value) (λ to x. judged line (set_to line op to x))
    expr (syntax.Two line op a b) =
        both (expr a) (expr b) (λ x y. judged line (combined op x y))
    expr (syntax.Choice line test a b) =
        three (expr test) (expr a) (expr b) (λ t x y. judged line (chosen line t x y))
    expr (syntax.Cast line to a) =
        behind (expr a)
        (λ x. judged line (cast (letter_in variables a) (cast_named to.name to.stars) x))
    -- not built yet
    expr (syntax.Int2Ptr line to a) = judged line unbuilt
    expr (syntax.Arrow line name field) = judged line unbuilt

    pub exprs : ExprTrees → Checked (List TypedExpr)
    exprs syntax.NoExprs = Good []
    exprs (syntax.MoreExprs a rest) = more (expr a) (exprs rest)

    pub place_in : PlaceTree → Checked TypedTarget
    place_in (VarPlace line name) =
        judged line (variable_place name (variable_of variables name))
    place_in (StPlace line at) = behind (expr at) (λ x. judged line (item_place x))
    place_in (TargetPlace line name) =
        judged line (target_place name (variable_of variables name))
    -- not built yet
    place_in (FieldPlace line name field) = judged line unbuilt

-- an expression, where there is one
abbrev pub option_expr : List Local → Option ExprTree → Checked (Option TypedExpr)
option_expr variables None = Good None
option_expr variables (Some e) = behind (expr variables e) (λ x. Good (Some x))
