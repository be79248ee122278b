-- Which statements leave the group in which they stand last.
use Rattle.std.proofs.Common.{◌≡◌, ◌∙◌, ◌-◌, ℕ, suc, Bool, false, List, [], ◌∷◌, length, map, Option, Some, None, refl, ap, subst, sym, arith}
use Rattle.std.specs.Prelude.{slice_get}
use Rattle.std.specs.declared.alloc.Global.{Global}
use Rattle.std.specs.declared.vec.Vec.{Vec}
use Rattle.xs_cexpr.specs.ExpressionTree.{ExprTree, PlaceTree}
use Rattle.xs_cexpr.specs.ExpressionViews.{expr_step, expr_tree, place_step}
use Rattle.xs_cexpr.specs.declared.tree.Expr.{Expr}
use Rattle.xs_cexpr.specs.declared.tree.Expr.TheVariants as e
use Rattle.xs_cexpr.specs.declared.tree.Expr.TheVariants.{rolls-Call}
use Rattle.xs_cexpr.specs.declared.tree.Expr.TheOpen.{Expr-F}
use Rattle.xs_cexpr.specs.declared.tree.Expr.TheFolds.{fold-roll-Expr}
use Rattle.xs_cexpr.specs.declared.tree.Expr.TheViews.{out-Expr, roll-Expr, roll-out-Expr}
use Rattle.xs_cexpr.specs.declared.tree.Place.{Place}
use Rattle.xs_cstmt.proofs.ViewsCompute.{stmt_tree-Block}
use Rattle.xs_cstmt.specs.StatementReader.{is_leaving_call, last_leaves, leaves}
use Rattle.xs_cstmt.specs.StatementTree.{GroupTree, StmtTree, stmts_of}
use Rattle.xs_cstmt.specs.StatementViews.{group_step, stmt_step, stmt_tree}
use Rattle.xs_cstmt.specs.declared.tree.Group.{Group}
use Rattle.xs_cstmt.specs.declared.tree.PerlForm.{PerlForm}
use Rattle.xs_cstmt.specs.declared.tree.Stmt.{Stmt}
use Rattle.xs_cstmt.specs.declared.tree.Stmt.TheVariants as s
use Rattle.xs_cstmt.specs.declared.tree.Stmt.TheVariants.{rolls-Block, rolls-Break, rolls-Effect, rolls-Perl, rolls-Return}
use Rattle.xs_cstmt.specs.declared.tree.Stmt.TheOpen.{Stmt-F}
use Rattle.xs_cstmt.specs.declared.tree.Stmt.TheFolds.{fold-roll-Stmt}
use Rattle.xs_cstmt.specs.declared.tree.Stmt.TheViews.{out-Stmt, roll-Stmt, roll-out-Stmt}

-- an expression is one of its variants
by_expr : (P : Expr → Type 0) → ((y : Expr-F Expr Place) → P (roll-Expr y)) → (x : Expr) → P x
by_expr P each x = subst P (roll-out-Expr x) (each (out-Expr x))

abbrev NoCall : Expr → Type 0
NoCall x = ((line : ℕ) (name : List ℕ) (args : Vec Expr Global) → x ≡ e.Call line name args → ⊥) → is_leaving_call (expr_tree x) ≡ false

layer_no_call : (y : Expr-F Expr Place) → NoCall (roll-Expr y)
unfolding expr_tree
layer_no_call (Expr-F.Name line name) other = ap is_leaving_call (fold-roll-Expr ExprTree PlaceTree expr_step place_step (Expr-F.Name line name))
layer_no_call (Expr-F.Int line literal) other = ap is_leaving_call (fold-roll-Expr ExprTree PlaceTree expr_step place_step (Expr-F.Int line literal))
layer_no_call (Expr-F.Char line byte) other = ap is_leaving_call (fold-roll-Expr ExprTree PlaceTree expr_step place_step (Expr-F.Char line byte))
layer_no_call (Expr-F.Text line text) other = ap is_leaving_call (fold-roll-Expr ExprTree PlaceTree expr_step place_step (Expr-F.Text line text))
layer_no_call (Expr-F.Call line name args) other = absurd (other line name args (rolls-Call line name args))
layer_no_call (Expr-F.Paren line a) other = ap is_leaving_call (fold-roll-Expr ExprTree PlaceTree expr_step place_step (Expr-F.Paren line a))
layer_no_call (Expr-F.Int2Ptr line to a) other = ap is_leaving_call (fold-roll-Expr ExprTree PlaceTree expr_step place_step (Expr-F.Int2Ptr line to a))
layer_no_call (Expr-F.Index line a b) other = ap is_leaving_call (fold-roll-Expr ExprTree PlaceTree expr_step place_step (Expr-F.Index line a b))
layer_no_call (Expr-F.Arrow line name field) other = ap is_leaving_call (fold-roll-Expr ExprTree PlaceTree expr_step place_step (Expr-F.Arrow line name field))
layer_no_call (Expr-F.Unary line op a) other = ap is_leaving_call (fold-roll-Expr ExprTree PlaceTree expr_step place_step (Expr-F.Unary line op a))
layer_no_call (Expr-F.Cast line to a) other = ap is_leaving_call (fold-roll-Expr ExprTree PlaceTree expr_step place_step (Expr-F.Cast line to a))
layer_no_call (Expr-F.Deref line a) other = ap is_leaving_call (fold-roll-Expr ExprTree PlaceTree expr_step place_step (Expr-F.Deref line a))
layer_no_call (Expr-F.Address line name) other = ap is_leaving_call (fold-roll-Expr ExprTree PlaceTree expr_step place_step (Expr-F.Address line name))
layer_no_call (Expr-F.Before line step place) other =
    ap is_leaving_call (fold-roll-Expr ExprTree PlaceTree expr_step place_step (Expr-F.Before line step place))
layer_no_call (Expr-F.After line place step) other = ap is_leaving_call (fold-roll-Expr ExprTree PlaceTree expr_step place_step (Expr-F.After line place step))
layer_no_call (Expr-F.Binary line op a b) other = ap is_leaving_call (fold-roll-Expr ExprTree PlaceTree expr_step place_step (Expr-F.Binary line op a b))
layer_no_call (Expr-F.Choice line test a b) other = ap is_leaving_call (fold-roll-Expr ExprTree PlaceTree expr_step place_step (Expr-F.Choice line test a b))
layer_no_call (Expr-F.Assign line place op a) other =
    ap is_leaving_call (fold-roll-Expr ExprTree PlaceTree expr_step place_step (Expr-F.Assign line place op a))

-- what is no call comes back
pub no_call : (x : Expr) → NoCall x
no_call = by_expr NoCall layer_no_call

-- a statement is one of its variants
by_stmt : (P : Stmt → Type 0) → ((y : Stmt-F Stmt Group) → P (roll-Stmt y)) → (x : Stmt) → P x
by_stmt P each x = subst P (roll-out-Stmt x) (each (out-Stmt x))

abbrev Stays : Stmt → Type 0
Stays x = ((line : ℕ) (body : Vec Stmt Global) → x ≡ s.Block line body → ⊥)
    → ((line : ℕ) → x ≡ s.Break line → ⊥)
    → ((line : ℕ) (value : Option Expr) → x ≡ s.Return line value → ⊥)
    → ((line : ℕ) (a : Expr) → x ≡ s.Effect line a → ⊥)
    → ((line : ℕ) (read : PerlForm) → x ≡ s.Perl line read → ⊥) → leaves (stmt_tree x) ≡ false

layer_stays : (y : Stmt-F Stmt Group) → Stays (roll-Stmt y)
unfolding stmt_tree
layer_stays (Stmt-F.Block line body) b k r f p = absurd (b line body (rolls-Block line body))
layer_stays (Stmt-F.Empty line) b k r f p = ap leaves (fold-roll-Stmt StmtTree GroupTree stmt_step group_step (Stmt-F.Empty line))
layer_stays (Stmt-F.Declare d) b k r f p = ap leaves (fold-roll-Stmt StmtTree GroupTree stmt_step group_step (Stmt-F.Declare d))
layer_stays (Stmt-F.Effect line a) b k r f p = absurd (f line a (rolls-Effect line a))
layer_stays (Stmt-F.If line test then_do) b k r f p = ap leaves (fold-roll-Stmt StmtTree GroupTree stmt_step group_step (Stmt-F.If line test then_do))
layer_stays (Stmt-F.IfElse line test then_do else_do) b k r f p =
    ap leaves (fold-roll-Stmt StmtTree GroupTree stmt_step group_step (Stmt-F.IfElse line test then_do else_do))
layer_stays (Stmt-F.While line test body) b k r f p = ap leaves (fold-roll-Stmt StmtTree GroupTree stmt_step group_step (Stmt-F.While line test body))
layer_stays (Stmt-F.DoWhile line body test) b k r f p = ap leaves (fold-roll-Stmt StmtTree GroupTree stmt_step group_step (Stmt-F.DoWhile line body test))
layer_stays (Stmt-F.For line head body) b k r f p = ap leaves (fold-roll-Stmt StmtTree GroupTree stmt_step group_step (Stmt-F.For line head body))
layer_stays (Stmt-F.Switch line a groups) b k r f p = ap leaves (fold-roll-Stmt StmtTree GroupTree stmt_step group_step (Stmt-F.Switch line a groups))
layer_stays (Stmt-F.Break line) b k r f p = absurd (k line (rolls-Break line))
layer_stays (Stmt-F.Continue line) b k r f p = ap leaves (fold-roll-Stmt StmtTree GroupTree stmt_step group_step (Stmt-F.Continue line))
layer_stays (Stmt-F.Return line value) b k r f p = absurd (r line value (rolls-Return line value))
layer_stays (Stmt-F.Perl line read) b k r f p = absurd (p line read (rolls-Perl line read))

-- no other statement leaves the group
pub stays : (x : Stmt) → Stays x
stays = by_stmt Stays layer_stays

one_later : {A : Type 0} (y z : A) (all : List A) → length (y ∷ z ∷ all) - 1 ≡ suc (length (z ∷ all) - 1)
one_later y z all = omega arith

-- the last of some statements decides
pub last_decides : (before : Bool) (all : List Stmt) (x : Stmt) → Some x ≡ slice_get all (length all - 1)
    → leaves (stmt_tree x) ≡ last_leaves before (stmts_of (map stmt_tree all))
last_decides before [] x e = absurd cc
last_decides before (y ∷ []) x e = let h : x ≡ y = cc in ap (λ (z : Stmt). leaves (stmt_tree z)) h
last_decides before (y ∷ z ∷ all) x e =
    last_decides (leaves (stmt_tree y)) (z ∷ all) x (e ∙ ap (slice_get (y ∷ z ∷ all)) (one_later y z all))

has_last : {A : Type 0} (y : A) (all : List A) → None ≡ slice_get (y ∷ all) (length (y ∷ all) - 1) → ⊥
has_last y [] e = absurd cc
has_last y (z ∷ all) e = has_last z all (e ∙ ap (slice_get (y ∷ z ∷ all)) (one_later y z all))

-- where there is no last statement there is none
pub none_leaves : (all : List Stmt) → None ≡ slice_get all (length all - 1) → false ≡ last_leaves false (stmts_of (map stmt_tree all))
none_leaves [] e = refl
none_leaves (y ∷ all) e = absurd (has_last y all e)

-- a block leaves where the last of its statements does
pub block_leaves : (x : Stmt) (line : ℕ) (body : Vec Stmt Global) (all : List Stmt) (b : Bool) → x ≡ s.Block line body → all ≡ body.items
    → b ≡ last_leaves false (stmts_of (map stmt_tree all)) → b ≡ leaves (stmt_tree x)
block_leaves x line body all b e i h =
    h
    ∙ ap (λ (items : List Stmt). last_leaves false (stmts_of (map stmt_tree items))) i
    ∙ sym (ap leaves (ap stmt_tree e ∙ stmt_tree-Block line body))
