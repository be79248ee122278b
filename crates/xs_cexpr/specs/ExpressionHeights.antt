-- How deep expressions are.
use Rattle.std.specs.Prelude.{ℕ, ◌+◌, max}
use Rattle.xs_cexpr.specs.ExpressionTree as tree
use Rattle.xs_cexpr.specs.ExpressionTree.{ExprTree, ExprTrees, PlaceTree}

-- How many nodes the longest way down has. A place is one, ST has its argument below it, and
-- parentheses are one.
abbrev mutual
  pub height : ExprTree → ℕ
  height (tree.Var line name) = 1
  height (tree.Num line literal) = 1
  height (tree.Chr line byte) = 1
  height (tree.Str line text) = 1
  height (tree.Call line name args) = heights args + 1
  height (tree.Paren line a) = height a + 1
  height (tree.Int2Ptr line to a) = height a + 1
  height (tree.Index line a at) = max (height a) (height at) + 1
  height (tree.Arrow line name field) = 1
  height (tree.One line op a) = height a + 1
  height (tree.Cast line to a) = height a + 1
  height (tree.Deref line a) = height a + 1
  height (tree.Address line name) = 1
  height (tree.Before line step place) = place_height place + 1
  height (tree.After line place step) = place_height place + 1
  height (tree.Two line op a b) = max (height a) (height b) + 1
  height (tree.Choice line test a b) = max (max (height test) (height a)) (height b) + 1
  height (tree.Set line place op a) = max (place_height place) (height a) + 1

  pub heights : ExprTrees → ℕ
  heights tree.NoExprs = 0
  heights (tree.MoreExprs a all) = max (height a) (heights all)

  pub place_height : PlaceTree → ℕ
  place_height (tree.VarPlace line name) = 1
  place_height (tree.TargetPlace line name) = 1
  place_height (tree.FieldPlace line name field) = 1
  place_height (tree.StPlace line at) = height at + 1
