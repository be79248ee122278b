-- How deep statements are.
use Rattle.std.specs.Prelude.{ℕ, ◌+◌, max, List, [], ◌∷◌, Option, Some, None}
use Rattle.xs_cexpr.specs.ExpressionHeights.{height}
use Rattle.xs_cexpr.specs.ExpressionTree.{ExprTree}
use Rattle.xs_cstmt.specs.StatementTree as tree
use Rattle.xs_cstmt.specs.StatementTree.{DeclaratorTree, FirstTree, ForTree, StmtTree, StmtTrees, GroupTrees}

-- how many blocks, conditions, loops and switches stand in each other, this one included
abbrev mutual
  pub depth : StmtTree → ℕ
  depth (tree.Block line body) = depths body + 1
  depth (tree.If line test s) = depth s + 1
  depth (tree.IfElse line test s other) = max (depth s) (depth other) + 1
  depth (tree.While line test s) = depth s + 1
  depth (tree.DoWhile line s test) = depth s + 1
  depth (tree.For line head s) = depth s + 1
  depth (tree.Switch line on groups) = group_depths groups + 1
  depth (tree.Empty line) = 0
  depth (tree.Declare d) = 0
  depth (tree.Effect line a) = 0
  depth (tree.Break line) = 0
  depth (tree.Continue line) = 0
  depth (tree.Return line value) = 0
  depth (tree.Perl line form) = 0

  pub depths : StmtTrees → ℕ
  depths tree.NoStmts = 0
  depths (tree.MoreStmts s all) = max (depth s) (depths all)

  pub group_depths : GroupTrees → ℕ
  group_depths tree.NoGroups = 0
  group_depths (tree.MoreGroups line labels body all) = max (depths body) (group_depths all)

-- ---- the height of the tallest expression

abbrev pub option_height : Option ExprTree → ℕ
option_height None = 0
option_height (Some a) = height a

abbrev pub tallest_value : List DeclaratorTree → ℕ
tallest_value [] = 0
tallest_value (d ∷ all) = max (option_height d.value) (tallest_value all)

abbrev pub tallest_first : FirstTree → ℕ
tallest_first tree.NoFirst = 0
tallest_first (tree.FirstDeclare d) = tallest_value d.names
tallest_first (tree.FirstEffect a) = height a

abbrev pub tallest_head : ForTree → ℕ
tallest_head head =
    max (tallest_first head.first) (max (option_height head.test) (option_height head.step))

abbrev mutual
  pub tallest : StmtTree → ℕ
  tallest (tree.Block line body) = tallest_of body
  tallest (tree.If line test s) = max (height test) (tallest s)
  tallest (tree.IfElse line test s other) = max (height test) (max (tallest s) (tallest other))
  tallest (tree.While line test s) = max (height test) (tallest s)
  tallest (tree.DoWhile line s test) = max (tallest s) (height test)
  tallest (tree.For line head s) = max (tallest_head head) (tallest s)
  tallest (tree.Switch line on groups) = max (height on) (tallest_in groups)
  tallest (tree.Empty line) = 0
  tallest (tree.Declare d) = tallest_value d.names
  tallest (tree.Effect line a) = height a
  tallest (tree.Break line) = 0
  tallest (tree.Continue line) = 0
  tallest (tree.Return line value) = option_height value
  tallest (tree.Perl line form) = 0

  pub tallest_of : StmtTrees → ℕ
  tallest_of tree.NoStmts = 0
  tallest_of (tree.MoreStmts s all) = max (tallest s) (tallest_of all)

  pub tallest_in : GroupTrees → ℕ
  tallest_in tree.NoGroups = 0
  tallest_in (tree.MoreGroups line labels body all) = max (tallest_of body) (tallest_in all)
