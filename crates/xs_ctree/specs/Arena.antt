-- The trees that nodes stand for.
use Rattle.std.specs.List.{list_all}
use Rattle.std.specs.Option.{option_map}
use Rattle.std.specs.Prelude.{◌≡◌, ℕ, zero, suc, ◌+◌, ◌<◌, Bool, true, ◌&&◌, nat_le, nat_lt, List, [], take, drop, length, map, Option, Some, None, slice_get, slice_index_or}
use Rattle.xs_values.specs.Numbers.{Number}
use Rattle.xs_ctree.specs.declared.node.ExprNode.{ExprNode}
use Rattle.xs_ctree.specs.declared.node.ExprNode.TheVariants as expr_node
use Rattle.xs_ctree.specs.declared.node.FunctionNode.{FunctionNode}
use Rattle.xs_ctree.specs.declared.node.GroupNode.{GroupNode}
use Rattle.xs_ctree.specs.declared.node.Range.{Range}
use Rattle.xs_ctree.specs.declared.node.StmtNode.{StmtNode}
use Rattle.xs_ctree.specs.declared.node.StmtNode.TheVariants as stmt_node
use Rattle.xs_ctree.specs.declared.node.TargetNode.{TargetNode}
use Rattle.xs_ctree.specs.declared.node.TargetNode.TheVariants as target_node
use Rattle.xs_ctree.specs.declared.node.TestNode.{TestNode}
use Rattle.xs_ctree.specs.declared.node.TestNode.TheVariants as test_node
use Rattle.xs_ctree.specs.declared.value_type.Slot.{Slot}
use Rattle.xs_ctree.specs.TypedTree as tree
use Rattle.xs_ctree.specs.TypedTree.{Expr, Exprs, Target, Test, Stmt, Stmts, Function, exprs_of, stmts_of, groups_from, nothing}

-- What nodes are read from: the texts that they name, the parts of lists, the slots that blocks
-- declare, the labels of groups, the groups of switches, and the nodes of expressions and of
-- statements.
pub record Arena : Type 0 where
  pub texts : List (List ℕ)
  pub parts : List ℕ
  pub slots : List Slot
  pub labels : List (Option Number)
  pub groups : List GroupNode
  pub exprs : List ExprNode
  pub stmts : List StmtNode

abbrev pub arena : List (List ℕ) → List ℕ → List Slot → List (Option Number) → List GroupNode
    → List ExprNode → List StmtNode → Arena
arena texts parts slots labels groups exprs stmts = record {
  texts = texts;
  parts = parts;
  slots = slots;
  labels = labels;
  groups = groups;
  exprs = exprs;
  stmts = stmts;
}

-- the elements of a range
abbrev pub ranged : {A : Type 0} → List A → Range → List A
ranged xs r = take r.count (drop r.start xs)

-- the text at an index
abbrev pub text_at : Arena → ℕ → List ℕ
text_at a t = slice_index_or a.texts t []

-- the labels of a group, and the indices of its statements
abbrev pub group_parts : Arena → GroupNode → List (Option Number) × List ℕ
group_parts a g = (ranged a.labels g.labels, ranged a.parts g.body)

-- ---- a node's tree, with the trees of its parts

abbrev pub exprs_from : Arena → Range → (ℕ → Expr) → Exprs
exprs_from a es expr = exprs_of (map expr (ranged a.parts es))

abbrev pub target_from : TargetNode → (ℕ → Expr) → Target
target_from (target_node.Variable x t) expr = tree.ToVariable x t
target_from (target_node.Pointed x k) expr = tree.ToPointed x k
target_from (target_node.Field x r f k) expr = tree.ToField x r f k
target_from (target_node.Item at) expr = tree.ToItem (expr at)

abbrev pub expr_from : Arena → Option ExprNode → (ℕ → Expr) → Expr
expr_from a None expr = tree.ItemCount
expr_from a (Some (expr_node.Literal n)) expr = tree.Literal n
expr_from a (Some (expr_node.Letters t)) expr = tree.Letters (text_at a t)
expr_from a (Some (expr_node.Null t)) expr = tree.Null t
expr_from a (Some (expr_node.Variable x)) expr = tree.Variable x
expr_from a (Some expr_node.ItemCount) expr = tree.ItemCount
expr_from a (Some expr_node.AliasIndex) expr = tree.AliasIndex
expr_from a (Some (expr_node.Passed e)) expr = tree.Passed (expr e)
expr_from a (Some (expr_node.Read e)) expr = tree.Read (expr e)
expr_from a (Some (expr_node.Cast t e)) expr = tree.Cast t (expr e)
expr_from a (Some (expr_node.RecordOf r e)) expr = tree.RecordOf r (expr e)
expr_from a (Some (expr_node.ByteAt e i)) expr = tree.ByteAt (expr e) (expr i)
expr_from a (Some (expr_node.Field at x r f)) expr = tree.Field at x r f
expr_from a (Some (expr_node.Not e)) expr = tree.Not (expr e)
expr_from a (Some (expr_node.Unary op e)) expr = tree.Unary op (expr e)
expr_from a (Some (expr_node.Binary op x y)) expr = tree.Binary op (expr x) (expr y)
expr_from a (Some (expr_node.Same equal x y)) expr = tree.Same equal (expr x) (expr y)
expr_from a (Some (expr_node.And x y)) expr = tree.And (expr x) (expr y)
expr_from a (Some (expr_node.Or x y)) expr = tree.Or (expr x) (expr y)
expr_from a (Some (expr_node.Choice at t e x y)) expr =
    tree.Choice at t (expr e) (expr x) (expr y)
expr_from a (Some (expr_node.Address x)) expr = tree.Address x
expr_from a (Some (expr_node.Letter x)) expr = tree.Letter x
expr_from a (Some (expr_node.Pointed at t e)) expr = tree.Pointed at t (expr e)
expr_from a (Some (expr_node.StepOf at op to)) expr = tree.StepOf at op (target_from to expr)
expr_from a (Some (expr_node.Assign at to e)) expr =
    tree.Assign at (target_from to expr) (expr e)
expr_from a (Some (expr_node.Compound at to op e)) expr =
    tree.Compound at (target_from to expr) op (expr e)
expr_from a (Some (expr_node.Api at r es)) expr = tree.Api at r (exprs_from a es expr)
expr_from a (Some (expr_node.TextWithLength at x e)) expr = tree.TextWithLength at x (expr e)
expr_from a (Some (expr_node.Croak at t es)) expr =
    tree.Croak at (text_at a t) (exprs_from a es expr)
expr_from a (Some (expr_node.Usage at t)) expr = tree.Usage at (text_at a t)
expr_from a (Some (expr_node.Call at f es)) expr = tree.Call at f (exprs_from a es expr)

abbrev pub test_from : TestNode → (ℕ → Expr) → Test
test_from test_node.Always expr = tree.Always
test_from (test_node.When e) expr = tree.When (expr e)

abbrev pub stmt_from : Arena → Option StmtNode → (ℕ → Expr) → (ℕ → Stmt) → Stmt
stmt_from a None expr stmt = nothing
stmt_from a (Some (stmt_node.Block slots ss)) expr stmt =
    tree.Block (ranged a.slots slots) (stmts_of (map stmt (ranged a.parts ss)))
stmt_from a (Some (stmt_node.Effect e)) expr stmt = tree.Effect (expr e)
stmt_from a (Some (stmt_node.Declare at x)) expr stmt = tree.Declare at x
stmt_from a (Some (stmt_node.If at e s t)) expr stmt = tree.If at (expr e) (stmt s) (stmt t)
stmt_from a (Some (stmt_node.Loop at first test each s)) expr stmt =
    tree.Loop at first (test_from test expr) (option_map expr each) (stmt s)
stmt_from a (Some (stmt_node.Switch at k e gs)) expr stmt =
    tree.Switch at k (expr e) (groups_from stmt (map (group_parts a) (ranged a.groups gs)))
stmt_from a (Some (stmt_node.Break at)) expr stmt = tree.Break at
stmt_from a (Some (stmt_node.Continue at)) expr stmt = tree.Continue at
stmt_from a (Some (stmt_node.Return at)) expr stmt = tree.Return at
stmt_from a (Some (stmt_node.Give at e)) expr stmt = tree.Give at (expr e)
stmt_from a (Some (stmt_node.Quit at e)) expr stmt = tree.Quit at (expr e)
stmt_from a (Some (stmt_node.Register t f keeps)) expr stmt =
    tree.Register (text_at a t) f keeps
stmt_from a (Some (stmt_node.SetIndex n)) expr stmt = tree.SetIndex n
stmt_from a (Some (stmt_node.NewRecord at x r)) expr stmt = tree.NewRecord at x r

-- ---- the trees of the nodes at an index, where parts are looked up so many levels down

unfoldable pub expr_to : ℕ → Arena → ℕ → Expr
expr_to zero a i = tree.ItemCount
expr_to (suc n) a i = expr_from a (slice_get a.exprs i) (expr_to n a)

unfoldable pub expr_at : Arena → ℕ → Expr
expr_at a i = expr_to (suc i) a i

unfoldable pub stmt_to : ℕ → Arena → ℕ → Stmt
stmt_to zero a i = nothing
stmt_to (suc n) a i = stmt_from a (slice_get a.stmts i) (expr_at a) (stmt_to n a)

unfoldable pub stmt_at : Arena → ℕ → Stmt
stmt_at a i = stmt_to (suc i) a i

abbrev pub function_of : Arena → FunctionNode → Function
function_of a f = record {
  name = f.name;
  sort = f.sort;
  slots = f.slots.items;
  body = stmt_at a f.body;
}

-- ---- what nodes name is there, and the parts of a node stand before it

-- whether each of these is below a limit
abbrev pub all_below : ℕ → List ℕ → Bool
all_below limit = list_all (λ i. nat_lt i limit)

-- whether an index is below a limit, where there is one
abbrev pub option_below : ℕ → Option ℕ → Bool
option_below limit None = true
option_below limit (Some i) = nat_lt i limit

abbrev pub is_within : {A : Type 0} → List A → Range → Bool
is_within xs r = nat_le (r.start + r.count) (length xs)

-- whether the parts of a list are there, each below a limit
abbrev pub parts_fit : Arena → ℕ → Range → Bool
parts_fit a limit r = is_within a.parts r && all_below limit (ranged a.parts r)

abbrev pub target_fits : ℕ → TargetNode → Bool
target_fits i (target_node.Variable x t) = true
target_fits i (target_node.Pointed x k) = true
target_fits i (target_node.Field x r f k) = true
target_fits i (target_node.Item at) = nat_lt at i

abbrev pub expr_fits : Arena → ℕ → ExprNode → Bool
expr_fits a i (expr_node.Literal n) = true
expr_fits a i (expr_node.Letters t) = nat_lt t (length a.texts)
expr_fits a i (expr_node.Null t) = true
expr_fits a i (expr_node.Variable x) = true
expr_fits a i expr_node.ItemCount = true
expr_fits a i expr_node.AliasIndex = true
expr_fits a i (expr_node.Passed e) = nat_lt e i
expr_fits a i (expr_node.Read e) = nat_lt e i
expr_fits a i (expr_node.Cast t e) = nat_lt e i
expr_fits a i (expr_node.RecordOf r e) = nat_lt e i
expr_fits a i (expr_node.ByteAt x y) = nat_lt x i && nat_lt y i
expr_fits a i (expr_node.Field at x r f) = true
expr_fits a i (expr_node.Not e) = nat_lt e i
expr_fits a i (expr_node.Unary op e) = nat_lt e i
expr_fits a i (expr_node.Binary op x y) = nat_lt x i && nat_lt y i
expr_fits a i (expr_node.Same equal x y) = nat_lt x i && nat_lt y i
expr_fits a i (expr_node.And x y) = nat_lt x i && nat_lt y i
expr_fits a i (expr_node.Or x y) = nat_lt x i && nat_lt y i
expr_fits a i (expr_node.Choice at t e x y) = nat_lt e i && (nat_lt x i && nat_lt y i)
expr_fits a i (expr_node.Address x) = true
expr_fits a i (expr_node.Letter x) = true
expr_fits a i (expr_node.Pointed at t e) = nat_lt e i
expr_fits a i (expr_node.StepOf at op to) = target_fits i to
expr_fits a i (expr_node.Assign at to e) = target_fits i to && nat_lt e i
expr_fits a i (expr_node.Compound at to op e) = target_fits i to && nat_lt e i
expr_fits a i (expr_node.Api at r es) = parts_fit a i es
expr_fits a i (expr_node.TextWithLength at x e) = nat_lt e i
expr_fits a i (expr_node.Croak at t es) = nat_lt t (length a.texts) && parts_fit a i es
expr_fits a i (expr_node.Usage at t) = nat_lt t (length a.texts)
expr_fits a i (expr_node.Call at f es) = parts_fit a i es

abbrev pub test_fits : ℕ → TestNode → Bool
test_fits limit test_node.Always = true
test_fits limit (test_node.When e) = nat_lt e limit

abbrev pub group_fits : Arena → ℕ → GroupNode → Bool
group_fits a i g = is_within a.labels g.labels && parts_fit a i g.body

abbrev pub groups_fit : Arena → ℕ → Range → Bool
groups_fit a i r = is_within a.groups r && list_all (group_fits a i) (ranged a.groups r)

abbrev pub stmt_fits : Arena → ℕ → StmtNode → Bool
stmt_fits a i (stmt_node.Block slots ss) = is_within a.slots slots && parts_fit a i ss
stmt_fits a i (stmt_node.Effect e) = nat_lt e (length a.exprs)
stmt_fits a i (stmt_node.Declare at x) = true
stmt_fits a i (stmt_node.If at e s t) =
    nat_lt e (length a.exprs) && (nat_lt s i && nat_lt t i)
stmt_fits a i (stmt_node.Loop at first test each s) =
    test_fits (length a.exprs) test && (option_below (length a.exprs) each && nat_lt s i)
stmt_fits a i (stmt_node.Switch at k e gs) = nat_lt e (length a.exprs) && groups_fit a i gs
stmt_fits a i (stmt_node.Break at) = true
stmt_fits a i (stmt_node.Continue at) = true
stmt_fits a i (stmt_node.Return at) = true
stmt_fits a i (stmt_node.Give at e) = nat_lt e (length a.exprs)
stmt_fits a i (stmt_node.Quit at e) = nat_lt e (length a.exprs)
stmt_fits a i (stmt_node.Register t f keeps) = nat_lt t (length a.texts)
stmt_fits a i (stmt_node.SetIndex n) = true
stmt_fits a i (stmt_node.NewRecord at x r) = true

pub record Fits (a : Arena) (functions : List FunctionNode) : Type 0 where
  pub expr : (i : ℕ) (n : ExprNode) → slice_get a.exprs i ≡ Some n → expr_fits a i n ≡ true
  pub stmt : (i : ℕ) (n : StmtNode) → slice_get a.stmts i ≡ Some n → stmt_fits a i n ≡ true
  pub body : (i : ℕ) (f : FunctionNode) → slice_get functions i ≡ Some f
      → f.body < length a.stmts
