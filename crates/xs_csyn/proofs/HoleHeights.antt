-- A height that counts one name as nothing is no greater than the height.
use Rattle.std.proofs.Common.{◌≡◌, ℕ, ◌≤◌, Bool, true, false, if◌then◌else◌, List, [], ◌∷◌, Option, Some, None, refl, arith}
use Rattle.std.proofs.lemmas.Slice.Eq.{bytes_eq-Decides}
use Rattle.std.specs.Str.{bytes_eq}
use Rattle.xs_ctok.specs.declared.token.Token.{Token}
use Rattle.xs_csyn.proofs.ExpressionsSound.{Stood}
use Rattle.xs_cexpr.specs.ExpressionHeights.{height, heights, place_height}
use Rattle.xs_cexpr.specs.ExpressionReader.{Found}
use Rattle.xs_csyn.specs.FileHeights.{FitsItem}
use Rattle.xs_csyn.specs.Prefixes.{FitsBut, height_but, heights_but, option_height_but, place_height_but, tallest_but, tallest_first_but, tallest_in_but, tallest_of_but, tallest_value_but}
use Rattle.xs_cstmt.specs.StatementHeights.{option_height, tallest, tallest_first, tallest_in, tallest_of, tallest_value}
use Rattle.xs_cexpr.specs.ExpressionTree as tree
use Rattle.xs_cexpr.specs.ExpressionTree.{ExprTree, ExprTrees, PlaceTree}
use Rattle.xs_cstmt.specs.StatementTree as tree_stmt
use Rattle.xs_cstmt.specs.StatementTree.{DeclaratorTree, FirstTree, GroupTrees, StmtTree, StmtTrees}
use Rattle.xs_csyn.specs.FileTree as tree_file
use Rattle.xs_csyn.specs.FileTree.{ItemTree}

-- ---- expressions

name_low : (c : Bool) → (if c then 0 else 1) ≤ 1
name_low true = omega arith
name_low false = omega arith

mutual
  pub but_low : (hole : List ℕ) (a : ExprTree) → height_but hole a ≤ height a
  but_low hole (tree.Var line name) = name_low (bytes_eq name hole)
  but_low hole (tree.Num line literal) = omega arith
  but_low hole (tree.Chr line byte) = omega arith
  but_low hole (tree.Str line text) = omega arith
  but_low hole (tree.Call line name args) = omega (arith, all_low hole args)
  but_low hole (tree.Paren line a) = omega (arith, but_low hole a)
  but_low hole (tree.Int2Ptr line to a) = omega (arith, but_low hole a)
  but_low hole (tree.Index line a at) = omega (arith, but_low hole a, but_low hole at)
  but_low hole (tree.Arrow line name field) = omega arith
  but_low hole (tree.One line op a) = omega (arith, but_low hole a)
  but_low hole (tree.Cast line to a) = omega (arith, but_low hole a)
  but_low hole (tree.Deref line a) = omega (arith, but_low hole a)
  but_low hole (tree.Address line name) = omega arith
  but_low hole (tree.Before line step place) = omega (arith, place_low hole place)
  but_low hole (tree.After line place step) = omega (arith, place_low hole place)
  but_low hole (tree.Two line op a c) = omega (arith, but_low hole a, but_low hole c)
  but_low hole (tree.Choice line test a c) = omega (arith, but_low hole test, but_low hole a, but_low hole c)
  but_low hole (tree.Set line place op a) = omega (arith, place_low hole place, but_low hole a)

  pub all_low : (hole : List ℕ) (all : ExprTrees) → heights_but hole all ≤ heights all
  all_low hole tree.NoExprs = omega arith
  all_low hole (tree.MoreExprs a all) = omega (arith, but_low hole a, all_low hole all)

  pub place_low : (hole : List ℕ) (p : PlaceTree) → place_height_but hole p ≤ place_height p
  place_low hole (tree.VarPlace line name) = name_low (bytes_eq name hole)
  place_low hole (tree.TargetPlace line name) = omega arith
  place_low hole (tree.FieldPlace line name field) = omega arith
  place_low hole (tree.StPlace line at) = omega (arith, but_low hole at)

-- the name that counts as nothing
pub hole_none : (x : Token) → height_but x.text (tree.Var x.span.line x.text) ≡ 0
hole_none x = rw ((bytes_eq-Decides x.text x.text).1 refl) refl

pub hole_place : (x : Token) → place_height_but x.text (tree.VarPlace x.span.line x.text) ≡ 0
hole_place x = rw ((bytes_eq-Decides x.text x.text).1 refl) refl

pub found_low : (hole : List ℕ) (f : Found) → f.height ≡ height f.tree → (n : ℕ) → f.height ≤ n → height_but hole f.tree ≤ n
found_low hole f tall n within = omega (arith, but_low hole f.tree, tall, within)

pub stood_low : {R : ExprTree → List Token → List Token → Type 0} {n : ℕ} {ts us : List Token} {f : Found} (hole : List ℕ) → Stood R n ts f us
    → height_but hole f.tree ≤ n
stood_low {n = n} {f = f} hole y = found_low hole f y.tall n y.within

-- ---- statements

pub option_low : (hole : List ℕ) (v : Option ExprTree) → option_height_but hole v ≤ option_height v
option_low hole None = omega arith
option_low hole (Some a) = but_low hole a

pub values_low : (hole : List ℕ) (all : List DeclaratorTree) → tallest_value_but hole all ≤ tallest_value all
values_low hole [] = omega arith
values_low hole (d ∷ all) = omega (arith, option_low hole d.value, values_low hole all)

pub first_low : (hole : List ℕ) (first : FirstTree) → tallest_first_but hole first ≤ tallest_first first
first_low hole tree_stmt.NoFirst = omega arith
first_low hole (tree_stmt.FirstDeclare d) = values_low hole d.names
first_low hole (tree_stmt.FirstEffect a) = but_low hole a

mutual
  pub stmt_low : (hole : List ℕ) (s : StmtTree) → tallest_but hole s ≤ tallest s
  stmt_low hole (tree_stmt.Block line body) = stmts_low hole body
  stmt_low hole (tree_stmt.If line test s) = omega (arith, but_low hole test, stmt_low hole s)
  stmt_low hole (tree_stmt.IfElse line test s other) = omega (arith, but_low hole test, stmt_low hole s, stmt_low hole other)
  stmt_low hole (tree_stmt.While line test s) = omega (arith, but_low hole test, stmt_low hole s)
  stmt_low hole (tree_stmt.DoWhile line s test) = omega (arith, but_low hole test, stmt_low hole s)
  stmt_low hole (tree_stmt.For line head s) =
      omega (arith, first_low hole head.first, option_low hole head.test, option_low hole head.step, stmt_low hole s)
  stmt_low hole (tree_stmt.Switch line on groups) = omega (arith, but_low hole on, groups_low hole groups)
  stmt_low hole (tree_stmt.Empty line) = omega arith
  stmt_low hole (tree_stmt.Declare d) = values_low hole d.names
  stmt_low hole (tree_stmt.Effect line a) = but_low hole a
  stmt_low hole (tree_stmt.Break line) = omega arith
  stmt_low hole (tree_stmt.Continue line) = omega arith
  stmt_low hole (tree_stmt.Return line value) = option_low hole value
  stmt_low hole (tree_stmt.Perl line form) = omega arith

  pub stmts_low : (hole : List ℕ) (all : StmtTrees) → tallest_of_but hole all ≤ tallest_of all
  stmts_low hole tree_stmt.NoStmts = omega arith
  stmts_low hole (tree_stmt.MoreStmts s all) = omega (arith, stmt_low hole s, stmts_low hole all)

  pub groups_low : (hole : List ℕ) (all : GroupTrees) → tallest_in_but hole all ≤ tallest_in all
  groups_low hole tree_stmt.NoGroups = omega arith
  groups_low hole (tree_stmt.MoreGroups line labels body all) = omega (arith, stmts_low hole body, groups_low hole all)

-- ---- items

pub item_low : (hole : List ℕ) (one : ItemTree) → FitsItem one → FitsBut hole one
item_low hole (tree_file.TypedefItem t) fit = tt
item_low hole (tree_file.RecordItem r) fit = tt
item_low hole (tree_file.PrototypeItem h) fit = tt
item_low hole (tree_file.FunctionItem f) fit = (fit.0, omega (arith, stmts_low hole f.body, fit.1))
item_low hole (tree_file.XsFunItem f) fit = (fit.0, omega (arith, stmts_low hole f.body, fit.1))
