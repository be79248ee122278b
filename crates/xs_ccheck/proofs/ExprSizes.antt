-- How far a walk down a tree of C goes: the nodes of the forms that are built. A node whose parts are taken up by a rule of its own counts for two.
use Rattle.std.proofs.Common.{◌≡◌, ℕ, zero, suc, ◌+◌, ◌<◌, List, [], ◌∷◌, length, map, ap, arith, get_or}
use Rattle.xs_cexpr.specs.declared.tree.Expr.{Expr}
use Rattle.xs_cexpr.specs.ExpressionViews.{expr_tree}
use Rattle.xs_cexpr.specs.ExpressionTree.{exprs_of, ExprTree, Call, Paren, One, Index, Deref, Before, After, Set, Two, Choice, Cast, ExprTrees, NoExprs, MoreExprs, PlaceTree, StPlace}

abbrev mutual
  pub expr_size : ExprTree → ℕ
  expr_size (Call line name args) = exprs_size args + 2
  expr_size (Set line place op value) = place_size place + expr_size value + 2
  expr_size (Paren line a) = expr_size a + 1
  expr_size (One line op a) = expr_size a + 1
  expr_size (Two line op a b) = expr_size a + expr_size b + 2
  expr_size (Index line a at) = expr_size a + expr_size at + 2
  expr_size (Deref line a) = expr_size a + 1
  expr_size (Before line step place) = place_size place + 2
  expr_size (After line place step) = place_size place + 2
  expr_size (Choice line test a b) = expr_size test + (expr_size a + expr_size b) + 2
  expr_size (Cast line to a) = expr_size a + 1
  expr_size _ = 1

  pub exprs_size : ExprTrees → ℕ
  exprs_size NoExprs = 0
  exprs_size (MoreExprs a all) = expr_size a + exprs_size all + 1

  pub place_size : PlaceTree → ℕ
  place_size (StPlace line at) = expr_size at + 1
  place_size _ = 1

-- an argument is smaller than all
pub item_smaller : (args : List Expr) (i : ℕ) (a : Expr) → i < length args → a ≡ get_or args i a
    → expr_size (expr_tree a) < exprs_size (exprs_of (map expr_tree args))
item_smaller [] i a lt e = absurd (omega (arith, lt))
item_smaller (b ∷ rest) zero a lt e = omega (arith, ap (λ z. expr_size (expr_tree z)) e)
item_smaller (b ∷ rest) (suc i) a lt e = omega (arith, item_smaller rest i a (omega (arith, lt)) e)
