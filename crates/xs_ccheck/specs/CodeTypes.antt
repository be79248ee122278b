-- The types of typed code, one rule for each form (the C standard, 6.5 and 6.8.4.1). The types of
-- variables are those of the function's slots.
use Rattle.std.specs.Prelude.{◌≡◌, ℕ, Bool, true, List, [], ◌∷◌, Option, None, Some, slice_get}
use Rattle.xs_values.specs.Kinds.{promoted}
use Rattle.xs_values.specs.declared.kind.Kind.{Kind}
use Rattle.xs_values.specs.declared.kind.Kind.TheVariants.{I8, I32}
use Rattle.xs_values.specs.declared.operator.Op.{Op}
use Rattle.xs_values.specs.declared.unary_operator.UnOp.{UnOp}
use Rattle.xs_values.specs.Numbers.{Number, result_kind_of, unary_kind_of}
use Rattle.xs_perlapi.specs.declared.row.ApiType.{ApiType}
use Rattle.xs_perlapi.specs.declared.row.Row.TheVariants.{Entry, XsReturnYes}
use Rattle.xs_perlapi.specs.Table.{RowCall, row_named}
use Rattle.xs_ctree.specs.declared.node.Sort.{Sort}
use Rattle.xs_ctree.specs.declared.node.StepOp.{StepOp}
use Rattle.xs_ctree.specs.declared.node.Sort.TheVariants.{Helper, XsFunction, Boot}
use Rattle.xs_ctree.specs.declared.value_type.Slot.{Slot}
use Rattle.xs_ctree.specs.declared.value_type.ValueType.{ValueType}
use Rattle.xs_ctree.specs.declared.value_type.ValueType.TheVariants as type_of
use Rattle.xs_ctree.specs.TypedTree.{Expr, Exprs, NoExprs, MoreExprs, Literal, Letters, Variable, ItemCount, Passed, Cast, ByteAt, Not, Unary, Binary, Same, And, Or, Choice, Address, Letter, Pointed, StepOf, Assign, Compound, Api, Usage, Target, ToVariable, ToPointed, ToItem, Test, Always, When, Stmt, Stmts, NoStmts, MoreStmts, Block, Effect, Declare, If, Loop, Switch, Break, Continue, Return, Give, Quit, Register, Groups, NoGroups, MoreGroups, SetIndex}
use Rattle.xs_ctypes.specs.Checked.{Fine}
use Rattle.xs_ccheck.specs.StmtTyping.{may_return}
use Rattle.xs_ctypes.specs.ValueTypes.{are_conditions, are_numbers, casts, compares, goes_into, is_char, is_condition, is_element, is_number, is_operand, of_address, of_choice, of_pointed, result_type}

mutual
  -- an expression has a type
  pub data HasType (slots : List Slot) : Expr → ValueType → Type 0 where
    number : {n : Number} → HasType slots (Literal n) (type_of.Number n.kind)
    letters : {text : List ℕ} → HasType slots (Letters text) type_of.Text
    variable : {x : ℕ} {s : Slot} → slice_get slots x ≡ Some s
        → HasType slots (Variable x) s.of_type
    item_count : HasType slots ItemCount (type_of.Number I32)
    cast : {t from : ValueType} {e : Expr} → HasType slots e from → casts from t ≡ true
        → HasType slots (Cast t e) t
    parentheses : {e : Expr} {t : ValueType} → HasType slots e t → HasType slots (Passed e) t
    negation : {e : Expr} {t : ValueType} → HasType slots e t → is_condition t ≡ true
        → HasType slots (Not e) (type_of.Number I32)
    promotion : {op : UnOp} {e : Expr} {k : Kind} → HasType slots e (type_of.Number k)
        → HasType slots (Unary op e) (type_of.Number (unary_kind_of op k))
    operator : {op : Op} {a b : Expr} {j k : Kind} → HasType slots a (type_of.Number j)
        → HasType slots b (type_of.Number k)
        → HasType slots (Binary op a b) (type_of.Number (result_kind_of op j k))
    comparison : {equal : Bool} {a b : Expr} {s t : ValueType} → HasType slots a s
        → HasType slots b t → compares s t ≡ true
        → HasType slots (Same equal a b) (type_of.Number I32)
    conjunction : {a b : Expr} {s t : ValueType} → HasType slots a s → HasType slots b t
        → are_conditions s t ≡ true → HasType slots (And a b) (type_of.Number I32)
    disjunction : {a b : Expr} {s t : ValueType} → HasType slots a s → HasType slots b t
        → are_conditions s t ≡ true → HasType slots (Or a b) (type_of.Number I32)
    chosen : {at : ℕ} {test a b : Expr} {c s u t : ValueType} → HasType slots test c
        → HasType slots a s → HasType slots b u → of_choice c s u ≡ Fine t
        → HasType slots (Choice at t test a b) t
    assignment : {at : ℕ} {to : Target} {e : Expr} {t from : ValueType} → IsTarget slots to t
        → HasType slots e from → goes_into from t ≡ true → HasType slots (Assign at to e) t
    compound : {at : ℕ} {op : Op} {to : Target} {e : Expr} {t from : ValueType}
        → IsTarget slots to t → HasType slots e from → are_numbers t from ≡ true
        → HasType slots (Compound at to op e) t
    step : {at : ℕ} {op : StepOp} {to : Target} {t : ValueType} → IsTarget slots to t
        → is_number t ≡ true → HasType slots (StepOf at op to) t
    address : {x : ℕ} {s : Slot} {t : ValueType} → slice_get slots x ≡ Some s
        → of_address s.of_type ≡ Fine t → HasType slots (Address x) t
    letter : {x : ℕ} {s : Slot} → slice_get slots x ≡ Some s → is_char s.of_type ≡ true
        → HasType slots (Letter x) type_of.Text
    pointed : {at : ℕ} {e : Expr} {t u : ValueType} → HasType slots e t → of_pointed t ≡ Fine u
        → HasType slots (Pointed at u e) u
    element : {e i : Expr} {t u : ValueType} → HasType slots e t → HasType slots i u
        → is_element t u ≡ true → HasType slots (ByteAt e i) (type_of.Number I8)
    row : {at : ℕ} (name : List ℕ) {r : RowCall} {es : Exprs} → row_named name ≡ Some r
        → AreOperands slots r.operands es → HasType slots (Api at r.row es) (result_type r.result)
    usage : {at : ℕ} {text : List ℕ} → HasType slots (Usage at text) type_of.Void

  -- expressions are operands that a row takes, and as many
  pub data AreOperands (slots : List Slot) : List ApiType → Exprs → Type 0 where
    no_operand : AreOperands slots [] NoExprs
    one_operand : {wanted : ApiType} {others : List ApiType} {e : Expr} {es : Exprs}
        {t : ValueType} → HasType slots e t → is_operand wanted t ≡ true
        → AreOperands slots others es → AreOperands slots (wanted ∷ others) (MoreExprs e es)

  -- what is assigned to has a type
  pub data IsTarget (slots : List Slot) : Target → ValueType → Type 0 where
    to_variable : {x : ℕ} {s : Slot} → slice_get slots x ≡ Some s
        → IsTarget slots (ToVariable x s.of_type) s.of_type
    to_pointed : {x : ℕ} {s : Slot} {k : Kind} → slice_get slots x ≡ Some s
        → s.of_type ≡ type_of.Address k → IsTarget slots (ToPointed x k) (type_of.Number k)
    to_item : {e : Expr} {t : ValueType} → HasType slots e t → is_number t ≡ true
        → IsTarget slots (ToItem e) type_of.Scalar

-- the test of a loop is a condition
pub data IsTest (slots : List Slot) : Test → Type 0 where
  no_test : IsTest slots Always
  test : {e : Expr} {t : ValueType} → HasType slots e t → is_condition t ≡ true
      → IsTest slots (When e)

-- the expression after each turn of a loop
pub data IsEach (slots : List Slot) : Option Expr → Type 0 where
  no_each : IsEach slots None
  each : {e : Expr} {t : ValueType} → HasType slots e t → IsEach slots (Some e)

mutual
  -- Each expression of a statement has a type, each condition that of a number or a pointer, and
  -- what the function gives that of its result. What dXSARGS and XSRETURN_YES do is a row that no
  -- text calls.
  pub data IsTyped (slots : List Slot) (result : ValueType) : Stmt → Type 0 where
    block : {own : List Slot} {ss : Stmts} → AreTyped slots result ss
        → IsTyped slots result (Block own ss)
    effect : {e : Expr} {t : ValueType} → HasType slots e t → IsTyped slots result (Effect e)
    entry : {at : ℕ} → IsTyped slots result (Effect (Api at Entry NoExprs))
    declaration : {at x : ℕ} {s : Slot} → slice_get slots x ≡ Some s
        → IsTyped slots result (Declare at x)
    choice : {at : ℕ} {test : Expr} {a b : Stmt} {t : ValueType} → HasType slots test t
        → is_condition t ≡ true → IsTyped slots result a → IsTyped slots result b
        → IsTyped slots result (If at test a b)
    loop : {at : ℕ} {first : Bool} {test : Test} {each : Option Expr} {s : Stmt}
        → IsTest slots test → IsEach slots each → IsTyped slots result s
        → IsTyped slots result (Loop at first test each s)
    switch : {at : ℕ} {kind : Kind} {e : Expr} {gs : Groups}
        → HasType slots e (type_of.Number kind) → AreGroups slots result gs
        → IsTyped slots result (Switch at (promoted kind) e gs)
    break_out : {at : ℕ} → IsTyped slots result (Break at)
    next_turn : {at : ℕ} → IsTyped slots result (Continue at)
    function_end : {at : ℕ} → may_return result None ≡ true → IsTyped slots result (Return at)
    gives : {at : ℕ} {e : Expr} {t : ValueType} → HasType slots e t
        → may_return result (Some t) ≡ true → IsTyped slots result (Give at e)
    quit : {at : ℕ} {e : Expr} {t : ValueType} → HasType slots e t
        → IsTyped slots result (Quit at e)
    return_yes : {at line : ℕ} → IsTyped slots result (Quit at (Api line XsReturnYes NoExprs))
    set_index : {n : Number} → IsTyped slots result (SetIndex n)
    register : {name : List ℕ} {f : ℕ} {keeps : Bool} → IsTyped slots result (Register name f keeps)

  pub data AreTyped (slots : List Slot) (result : ValueType) : Stmts → Type 0 where
    no_more : AreTyped slots result NoStmts
    one_more : {s : Stmt} {ss : Stmts} → IsTyped slots result s → AreTyped slots result ss
        → AreTyped slots result (MoreStmts s ss)

  pub data AreGroups (slots : List Slot) (result : ValueType) : Groups → Type 0 where
    no_group : AreGroups slots result NoGroups
    one_group : {labels : List (Option Number)} {ss : Stmts} {gs : Groups}
        → AreTyped slots result ss → AreGroups slots result gs
        → AreGroups slots result (MoreGroups labels ss gs)

-- the type of what a function gives
abbrev pub result_of : Sort → ValueType
result_of (Helper count result) = result
result_of XsFunction = type_of.Void
result_of Boot = type_of.Void
