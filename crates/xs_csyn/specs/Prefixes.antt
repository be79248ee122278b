-- The heights of trees where one name counts as nothing, since it stands for an operand that has
-- not begun.
use Rattle.std.specs.Prelude.{◌≡◌, ◌+◌, ◌≤◌, ℕ, false, if◌then◌else◌, max, List, [], ◌∷◌, Option, Some, None, map}
use Rattle.std.specs.Str.{bytes_eq}
use Rattle.xs_base.specs.Names.{is_among}
use Rattle.xs_ctok.specs.declared.token.Token.{Token}
use Rattle.xs_cstmt.specs.StatementHeights.{depths}
use Rattle.xs_cstmt.specs.StatementReader.{max_nesting}
use Rattle.xs_cexpr.specs.ExpressionTree as tree_expr
use Rattle.xs_cstmt.specs.StatementTree as tree_stmt
use Rattle.xs_csyn.specs.FileTree as tree_file
use Rattle.xs_cexpr.specs.ExpressionTree.{ExprTree, ExprTrees, PlaceTree}
use Rattle.xs_cstmt.specs.StatementTree.{DeclaratorTree, FirstTree, StmtTree, StmtTrees, GroupTrees}
use Rattle.xs_csyn.specs.FileTree.{ItemTree}

-- ---- heights

abbrev mutual
  pub height_but : List ℕ → ExprTree → ℕ
  height_but hole (tree_expr.Var line name) = if bytes_eq name hole then 0 else 1
  height_but hole (tree_expr.Num line literal) = 1
  height_but hole (tree_expr.Chr line byte) = 1
  height_but hole (tree_expr.Str line text) = 1
  height_but hole (tree_expr.Call line name args) = heights_but hole args + 1
  height_but hole (tree_expr.Paren line a) = height_but hole a + 1
  height_but hole (tree_expr.Int2Ptr line to a) = height_but hole a + 1
  height_but hole (tree_expr.Index line a at) = max (height_but hole a) (height_but hole at) + 1
  height_but hole (tree_expr.Arrow line name field) = 1
  height_but hole (tree_expr.One line op a) = height_but hole a + 1
  height_but hole (tree_expr.Cast line to a) = height_but hole a + 1
  height_but hole (tree_expr.Deref line a) = height_but hole a + 1
  height_but hole (tree_expr.Address line name) = 1
  height_but hole (tree_expr.Before line step place) = place_height_but hole place + 1
  height_but hole (tree_expr.After line place step) = place_height_but hole place + 1
  height_but hole (tree_expr.Two line op a b) = max (height_but hole a) (height_but hole b) + 1
  height_but hole (tree_expr.Choice line test a b) =
      max (max (height_but hole test) (height_but hole a)) (height_but hole b) + 1
  height_but hole (tree_expr.Set line place op a) =
      max (place_height_but hole place) (height_but hole a) + 1

  pub heights_but : List ℕ → ExprTrees → ℕ
  heights_but hole tree_expr.NoExprs = 0
  heights_but hole (tree_expr.MoreExprs a all) = max (height_but hole a) (heights_but hole all)

  pub place_height_but : List ℕ → PlaceTree → ℕ
  place_height_but hole (tree_expr.VarPlace line name) = if bytes_eq name hole then 0 else 1
  place_height_but hole (tree_expr.TargetPlace line name) = 1
  place_height_but hole (tree_expr.FieldPlace line name field) = 1
  place_height_but hole (tree_expr.StPlace line at) = height_but hole at + 1

abbrev pub option_height_but : List ℕ → Option ExprTree → ℕ
option_height_but hole None = 0
option_height_but hole (Some a) = height_but hole a

abbrev pub tallest_value_but : List ℕ → List DeclaratorTree → ℕ
tallest_value_but hole [] = 0
tallest_value_but hole (d ∷ all) =
    max (option_height_but hole d.value) (tallest_value_but hole all)

abbrev pub tallest_first_but : List ℕ → FirstTree → ℕ
tallest_first_but hole tree_stmt.NoFirst = 0
tallest_first_but hole (tree_stmt.FirstDeclare d) = tallest_value_but hole d.names
tallest_first_but hole (tree_stmt.FirstEffect a) = height_but hole a

abbrev mutual
  pub tallest_but : List ℕ → StmtTree → ℕ
  tallest_but hole (tree_stmt.Block line body) = tallest_of_but hole body
  tallest_but hole (tree_stmt.If line test s) = max (height_but hole test) (tallest_but hole s)
  tallest_but hole (tree_stmt.IfElse line test s other) =
      max (height_but hole test) (max (tallest_but hole s) (tallest_but hole other))
  tallest_but hole (tree_stmt.While line test s) = max (height_but hole test) (tallest_but hole s)
  tallest_but hole (tree_stmt.DoWhile line s test) = max (tallest_but hole s) (height_but hole test)
  tallest_but hole (tree_stmt.For line head s) =
      max (max (tallest_first_but hole head.first) (max (option_height_but hole head.test)
      (option_height_but hole head.step)))
      (tallest_but hole s)
  tallest_but hole (tree_stmt.Switch line on groups) = max (height_but hole on)
      (tallest_in_but hole groups)
  tallest_but hole (tree_stmt.Empty line) = 0
  tallest_but hole (tree_stmt.Declare d) = tallest_value_but hole d.names
  tallest_but hole (tree_stmt.Effect line a) = height_but hole a
  tallest_but hole (tree_stmt.Break line) = 0
  tallest_but hole (tree_stmt.Continue line) = 0
  tallest_but hole (tree_stmt.Return line value) = option_height_but hole value
  tallest_but hole (tree_stmt.Perl line form) = 0

  pub tallest_of_but : List ℕ → StmtTrees → ℕ
  tallest_of_but hole tree_stmt.NoStmts = 0
  tallest_of_but hole (tree_stmt.MoreStmts s all) =
      max (tallest_but hole s) (tallest_of_but hole all)

  pub tallest_in_but : List ℕ → GroupTrees → ℕ
  tallest_in_but hole tree_stmt.NoGroups = 0
  tallest_in_but hole (tree_stmt.MoreGroups line labels body all) =
      max (tallest_of_but hole body) (tallest_in_but hole all)

-- no statement and no expression of the functions is too deep, where the name counts as nothing
abbrev pub FitBody : List ℕ → StmtTrees → Type 0
FitBody hole body = (depths body + 1 ≤ max_nesting) × (tallest_of_but hole body ≤ max_nesting)

abbrev pub FitsBut : List ℕ → ItemTree → Type 0
FitsBut hole (tree_file.TypedefItem t) = Unit {0}
FitsBut hole (tree_file.RecordItem r) = Unit {0}
FitsBut hole (tree_file.PrototypeItem h) = Unit {0}
FitsBut hole (tree_file.FunctionItem f) = FitBody hole f.body
FitsBut hole (tree_file.XsFunItem f) = FitBody hole f.body

abbrev pub FitItemsBut : List ℕ → List ItemTree → Type 0
FitItemsBut hole [] = Unit {0}
FitItemsBut hole (one ∷ all) = FitsBut hole one × FitItemsBut hole all

-- ---- the name

-- The name stands nowhere in these tokens.
abbrev pub IsFresh : Token → List Token → Type 0
IsFresh x ts = is_among (map (λ (t : Token). t.text) ts) x.text ≡ false
