-- The trees of expressions as plain data.
use Rattle.std.specs.Prelude.{Result, Ok, Err, map}
use Rattle.xs_cexpr.specs.ExpressionReader.{Found, FoundAll, FoundPlace}
use Rattle.xs_cexpr.specs.ExpressionTree.{ExprTree, Var, Num, Chr, Str, Call, Paren, Int2Ptr, Index, Arrow, One, Cast, Deref, Address, Before, After, Two, Choice, Set, PlaceTree, VarPlace, TargetPlace, FieldPlace, StPlace, exprs_of}
use Rattle.xs_cexpr.specs.declared.node.Node.{Node}
use Rattle.xs_cexpr.specs.declared.node.Nodes.{Nodes}
use Rattle.xs_cexpr.specs.declared.node.PlaceNode.{PlaceNode}
use Rattle.xs_cexpr.specs.declared.tree.Expr.{Expr}
use Rattle.xs_cexpr.specs.declared.tree.Expr.TheOpen.{Expr-F, Place-F}
use Rattle.xs_cexpr.specs.declared.tree.Expr.TheFolds.{fold-Expr, fold-Place}
use Rattle.xs_cexpr.specs.declared.tree.Place.{Place}

-- one node, with plain data in the place of its parts
abbrev pub expr_step : Expr-F ExprTree PlaceTree → ExprTree
expr_step (Expr-F.Name line name) = Var line name
expr_step (Expr-F.Int line literal) = Num line literal
expr_step (Expr-F.Char line byte) = Chr line byte
expr_step (Expr-F.Text line text) = Str line text
expr_step (Expr-F.Call line name args) = Call line name (exprs_of args.items)
expr_step (Expr-F.Paren line a) = Paren line a.value
expr_step (Expr-F.Int2Ptr line to a) = Int2Ptr line to a.value
expr_step (Expr-F.Index line a at) = Index line a.value at.value
expr_step (Expr-F.Arrow line name field) = Arrow line name field
expr_step (Expr-F.Unary line op a) = One line op a.value
expr_step (Expr-F.Cast line to a) = Cast line to a.value
expr_step (Expr-F.Deref line a) = Deref line a.value
expr_step (Expr-F.Address line name) = Address line name
expr_step (Expr-F.Before line step place) = Before line step place
expr_step (Expr-F.After line place step) = After line place step
expr_step (Expr-F.Binary line op a b) = Two line op a.value b.value
expr_step (Expr-F.Choice line test a b) = Choice line test.value a.value b.value
expr_step (Expr-F.Assign line place op a) = Set line place op a.value

abbrev pub place_step : Place-F ExprTree PlaceTree → PlaceTree
place_step (Place-F.Variable line name) = VarPlace line name
place_step (Place-F.Target line name) = TargetPlace line name
place_step (Place-F.Field line name field) = FieldPlace line name field
place_step (Place-F.St line at) = StPlace line at.value

unfoldable pub expr_tree : Expr → ExprTree
expr_tree = fold-Expr ExprTree PlaceTree expr_step place_step

unfoldable pub place_tree : Place → PlaceTree
place_tree = fold-Place ExprTree PlaceTree expr_step place_step

abbrev pub found : Node → Found
found n = record { tree = expr_tree n.tree; height = n.height }

abbrev pub found_all : Nodes → FoundAll
found_all n = record { trees = map expr_tree n.trees.items; height = n.height }

abbrev pub found_place : PlaceNode → FoundPlace
found_place p = record { place = place_tree p.place; height = p.height }

-- a place, or else an expression
abbrev pub placed_view : Result PlaceNode Node → Result FoundPlace Found
placed_view (Ok p) = Ok (found_place p)
placed_view (Err n) = Err (found n)
