-- Which slots are declared and used in code, and which ones the text means: a name means its last
-- declaration in scope, and declarations are numbered in the order of the text. Both are lists in
-- that order.
use Rattle.std.specs.Prelude.{◌≡◌, ℕ, ◌+◌, true, false, if◌then◌else◌, List, [], ◌∷◌, ◌++◌, map, Option, Some, None, slice_get}
use Rattle.std.specs.Str.{bytes_eq}
use Rattle.xs_cexpr.specs.ExpressionTree as syntax
use Rattle.xs_cexpr.specs.ExpressionTree.{ExprTree, ExprTrees, PlaceTree, VarPlace, TargetPlace, StPlace}
use Rattle.xs_cstmt.specs.StatementTree as statement
use Rattle.xs_cstmt.specs.StatementTree.{DeclaratorTree, FirstTree, StmtTree, StmtTrees, GroupTrees}
use Rattle.xs_ctree.specs.declared.value_type.Slot.{Slot}
use Rattle.xs_ctree.specs.TypedTree.{Expr, Exprs, NoExprs, MoreExprs, Literal, Letters, Null, Variable, ItemCount, AliasIndex, Passed, Read, Cast, RecordOf, ByteAt, Field, Not, Unary, Binary, Same, And, Or, Choice, Address, Letter, Pointed, StepOf, Assign, Compound, Api, TextWithLength, Croak, Usage, Call, Target, ToVariable, ToPointed, ToField, ToItem, Test, Always, When, Stmt, Stmts, NoStmts, MoreStmts, Block, Effect, Declare, If, Loop, Switch, Break, Continue, Return, Give, Quit, Register, SetIndex, NewRecord, Groups, NoGroups, MoreGroups, Function}
use Rattle.xs_ccheck.specs.ExprTyping.{usage_word}

-- what is done with the slot of a number
pub data SlotUse : Type 0 where
  Declares : ℕ → SlotUse
  Uses : ℕ → SlotUse

-- the slots that are declared
abbrev pub slots_declared : List SlotUse → List ℕ
slots_declared [] = []
slots_declared (Declares x ∷ rest) = x ∷ slots_declared rest
slots_declared (Uses x ∷ rest) = slots_declared rest

-- ---- in code

abbrev mutual
  pub in_expr : Expr → List SlotUse
  in_expr (Literal n) = []
  in_expr (Letters text) = []
  in_expr (Null t) = []
  in_expr (Variable x) = Uses x ∷ []
  in_expr ItemCount = []
  in_expr AliasIndex = []
  in_expr (Passed e) = in_expr e
  in_expr (Read e) = in_expr e
  in_expr (Cast t e) = in_expr e
  in_expr (RecordOf r e) = in_expr e
  in_expr (ByteAt e i) = in_expr e ++ in_expr i
  in_expr (Field at x r f) = Uses x ∷ []
  in_expr (Not e) = in_expr e
  in_expr (Unary op e) = in_expr e
  in_expr (Binary op a b) = in_expr a ++ in_expr b
  in_expr (Same equal a b) = in_expr a ++ in_expr b
  in_expr (And a b) = in_expr a ++ in_expr b
  in_expr (Or a b) = in_expr a ++ in_expr b
  in_expr (Choice at t e a b) = in_expr e ++ (in_expr a ++ in_expr b)
  in_expr (Address x) = Uses x ∷ []
  in_expr (Letter x) = Uses x ∷ []
  in_expr (Pointed at t e) = in_expr e
  in_expr (StepOf at op to) = in_target to
  in_expr (Assign at to e) = in_target to ++ in_expr e
  in_expr (Compound at to op e) = in_target to ++ in_expr e
  in_expr (Api at r es) = in_exprs es
  in_expr (TextWithLength at x e) = in_expr e ++ Uses x ∷ []
  in_expr (Croak at format es) = in_exprs es
  in_expr (Usage at text) = []
  in_expr (Call at f es) = in_exprs es

  pub in_exprs : Exprs → List SlotUse
  in_exprs NoExprs = []
  in_exprs (MoreExprs e es) = in_expr e ++ in_exprs es

  pub in_target : Target → List SlotUse
  in_target (ToVariable x t) = Uses x ∷ []
  in_target (ToPointed x k) = Uses x ∷ []
  in_target (ToField x r f k) = Uses x ∷ []
  in_target (ToItem e) = in_expr e

abbrev pub in_test : Test → List SlotUse
in_test Always = []
in_test (When e) = in_expr e

-- the expression after each turn of a loop
abbrev pub in_each : Option Expr → List SlotUse
in_each None = []
in_each (Some e) = in_expr e

abbrev mutual
  pub in_stmt : Stmt → List SlotUse
  in_stmt (Block slots ss) = in_stmts ss
  in_stmt (Effect e) = in_expr e
  in_stmt (Declare at x) = Declares x ∷ []
  in_stmt (If at e a b) = in_expr e ++ (in_stmt a ++ in_stmt b)
  -- the test of a `do` stands behind its body
  in_stmt (Loop at true test each s) = in_test test ++ (in_each each ++ in_stmt s)
  in_stmt (Loop at false test each s) = in_stmt s ++ (in_test test ++ in_each each)
  in_stmt (Switch at k e gs) = in_expr e ++ in_groups gs
  in_stmt (Break at) = []
  in_stmt (Continue at) = []
  in_stmt (Return at) = []
  in_stmt (Give at e) = in_expr e
  in_stmt (Quit at e) = in_expr e
  in_stmt (Register name f keeps) = []
  in_stmt (SetIndex n) = []
  in_stmt (NewRecord at x r) = Uses x ∷ []

  pub in_stmts : Stmts → List SlotUse
  in_stmts NoStmts = []
  in_stmts (MoreStmts s ss) = in_stmt s ++ in_stmts ss

  pub in_groups : Groups → List SlotUse
  in_groups NoGroups = []
  in_groups (MoreGroups labels ss gs) = in_stmts ss ++ in_groups gs

-- ---- names

-- a name, and the number of its declaration among those of the function
pub record Named : Type 0 where
  pub name : List ℕ
  pub number : ℕ

-- the names in scope, the last declared one first, and how many declarations stand before
pub record Known : Type 0 where
  pub names : List Named
  pub count : ℕ

abbrev pub nothing_known : Known
nothing_known = record { names = []; count = 0 }

abbrev pub last_declared : List Named → List ℕ → Option ℕ
last_declared [] name = None
last_declared (n ∷ rest) name =
    if bytes_eq n.name name then Some n.number else last_declared rest name

abbrev pub knowing_also : Known → List ℕ → Known
knowing_also k name = record {
  names = record { name = name; number = k.count } ∷ k.names;
  count = k.count + 1;
}

abbrev pub known_behind_names : Known → List DeclaratorTree → Known
known_behind_names k [] = k
known_behind_names k (d ∷ rest) = known_behind_names (knowing_also k d.name) rest

-- the names of a block are known in it alone
abbrev pub known_outside : Known → Known → Known
known_outside k inner = record { names = k.names; count = inner.count }

-- the names behind what stands first in the head of a `for`
abbrev pub known_first : Known → FirstTree → Known
known_first k statement.NoFirst = k
known_first k (statement.FirstDeclare d) = known_behind_names k d.names
known_first k (statement.FirstEffect e) = k

abbrev mutual
  pub known_behind : Known → StmtTree → Known
  known_behind k (statement.Block line body) = known_outside k (known_behind_all k body)
  known_behind k (statement.Declare d) = known_behind_names k d.names
  known_behind k (statement.If line test s) = known_behind k s
  known_behind k (statement.IfElse line test s other) = known_behind (known_behind k s) other
  known_behind k (statement.While line test s) = known_behind k s
  known_behind k (statement.DoWhile line s test) = known_behind k s
  known_behind k (statement.For line head s) =
      known_outside k (known_behind (known_first k head.first) s)
  known_behind k (statement.Switch line e all) = known_behind_groups k all
  known_behind k _ = k

  pub known_behind_all : Known → StmtTrees → Known
  known_behind_all k statement.NoStmts = k
  known_behind_all k (statement.MoreStmts s rest) = known_behind_all (known_behind k s) rest

  pub known_behind_groups : Known → GroupTrees → Known
  known_behind_groups k statement.NoGroups = k
  known_behind_groups k (statement.MoreGroups line labels body rest) =
      known_behind_groups (known_behind_all k body) rest

-- ---- in the text

-- a name that no declaration has is no variable
abbrev pub use_of : Option ℕ → List SlotUse
use_of None = []
use_of (Some x) = Uses x ∷ []

module _ (names : List Named) where
  abbrev mutual
    pub meant_in_expr : ExprTree → List SlotUse
    meant_in_expr (syntax.Var line name) = use_of (last_declared names name)
    meant_in_expr (syntax.Call line name args) =
        if bytes_eq name usage_word then [] else meant_in_exprs args
    meant_in_expr (syntax.Index line a at) = meant_in_expr a ++ meant_in_expr at
    meant_in_expr (syntax.Deref line a) = meant_in_expr a
    meant_in_expr (syntax.Address line name) = use_of (last_declared names name)
    meant_in_expr (syntax.Before line step place) = meant_in_place place
    meant_in_expr (syntax.After line place step) = meant_in_place place
    meant_in_expr (syntax.Set line place op value) =
        meant_in_place place ++ meant_in_expr value
    meant_in_expr (syntax.Paren line a) = meant_in_expr a
    meant_in_expr (syntax.One line op a) = meant_in_expr a
    meant_in_expr (syntax.Two line op a b) = meant_in_expr a ++ meant_in_expr b
    meant_in_expr (syntax.Choice line test a b) =
        meant_in_expr test ++ (meant_in_expr a ++ meant_in_expr b)
    meant_in_expr (syntax.Cast line to a) = meant_in_expr a
    meant_in_expr _ = []

    pub meant_in_exprs : ExprTrees → List SlotUse
    meant_in_exprs syntax.NoExprs = []
    meant_in_exprs (syntax.MoreExprs a rest) = meant_in_expr a ++ meant_in_exprs rest

    pub meant_in_place : PlaceTree → List SlotUse
    meant_in_place (VarPlace line name) = use_of (last_declared names name)
    meant_in_place (TargetPlace line name) = use_of (last_declared names name)
    meant_in_place (StPlace line at) = meant_in_expr at
    meant_in_place _ = []

-- a value, where there is one
abbrev pub meant_in_value : List Named → Option ExprTree → List SlotUse
meant_in_value names None = []
meant_in_value names (Some value) = meant_in_expr names value

-- a name that is declared; its first value, in which it is not known yet, is assigned to it
abbrev pub meant_in_name : Known → Option ExprTree → List SlotUse
meant_in_name k None = Declares k.count ∷ []
meant_in_name k (Some value) =
    Declares k.count ∷ Uses k.count ∷ meant_in_expr k.names value

-- names that are declared one after another
abbrev pub meant_in_names : Known → List DeclaratorTree → List SlotUse
meant_in_names k [] = []
meant_in_names k (d ∷ rest) =
    meant_in_name k d.value ++ meant_in_names (knowing_also k d.name) rest

abbrev pub meant_in_first : Known → FirstTree → List SlotUse
meant_in_first k statement.NoFirst = []
meant_in_first k (statement.FirstDeclare d) = meant_in_names k d.names
meant_in_first k (statement.FirstEffect e) = meant_in_expr k.names e

abbrev mutual
  pub meant_in_stmt : Known → StmtTree → List SlotUse
  meant_in_stmt k (statement.Block line body) = meant_in_stmts k body
  meant_in_stmt k (statement.Declare d) = meant_in_names k d.names
  meant_in_stmt k (statement.Effect line e) = meant_in_expr k.names e
  meant_in_stmt k (statement.If line test s) = meant_in_expr k.names test ++ meant_in_stmt k s
  meant_in_stmt k (statement.IfElse line test s other) =
      meant_in_expr k.names test ++ (meant_in_stmt k s ++ meant_in_stmt (known_behind k s) other)
  meant_in_stmt k (statement.While line test s) =
      meant_in_expr k.names test ++ meant_in_stmt k s
  meant_in_stmt k (statement.DoWhile line s test) =
      meant_in_stmt k s ++ meant_in_expr (known_behind k s).names test
  meant_in_stmt k (statement.For line head s) =
      meant_in_first k head.first
      ++ (meant_in_value (known_first k head.first).names head.test
      ++ (meant_in_value (known_first k head.first).names head.step
      ++ meant_in_stmt (known_first k head.first) s))
  -- a label is no variable
  meant_in_stmt k (statement.Switch line e all) =
      meant_in_expr k.names e ++ meant_in_groups k all
  meant_in_stmt k (statement.Return line value) = meant_in_value k.names value
  meant_in_stmt k _ = []

  pub meant_in_stmts : Known → StmtTrees → List SlotUse
  meant_in_stmts k statement.NoStmts = []
  meant_in_stmts k (statement.MoreStmts s rest) =
      meant_in_stmt k s ++ meant_in_stmts (known_behind k s) rest

  pub meant_in_groups : Known → GroupTrees → List SlotUse
  meant_in_groups k statement.NoGroups = []
  meant_in_groups k (statement.MoreGroups line labels body rest) =
      meant_in_stmts k body ++ meant_in_groups (known_behind_all k body) rest

-- ---- a function

-- The slots of a function are numbered from 0 on; each is declared once, in that order; and a name
-- of the text is the slot of its last declaration in scope.
pub record HasItsSlots (body : StmtTrees) (f : Function) : Type 0 where
  pub numbered : (i : ℕ) (s : Slot) → slice_get f.slots i ≡ Some s → s.number ≡ i
  pub once : slots_declared (in_stmt f.body) ≡ map (λ s. s.number) f.slots
  pub meant : in_stmt f.body ≡ meant_in_stmts nothing_known body
