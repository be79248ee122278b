-- The plain data of each kind of expression.
use Rattle.std.proofs.Common.{◌≡◌, ℕ, List, Option, map, ap, sym, ◌∙◌}
use Rattle.std.specs.declared.alloc.Global.{Global}
use Rattle.std.specs.declared.boxed.Box.{Box}
use Rattle.std.specs.declared.vec.Vec.{Vec}
use Rattle.xs_cinput.specs.declared.tree.BinaryOp.{BinaryOp}
use Rattle.xs_cinput.specs.declared.tree.CType.{CType}
use Rattle.xs_cinput.specs.declared.tree.Step.{Step}
use Rattle.xs_cexpr.specs.declared.tree.Expr.{Expr}
use Rattle.xs_cexpr.specs.declared.tree.Expr.TheVariants as e
use Rattle.xs_cexpr.specs.declared.tree.Expr.TheVariants.{rolls-Name, rolls-Int, rolls-Char, rolls-Text, rolls-Call, rolls-Paren, rolls-Int2Ptr, rolls-Index, rolls-Arrow, rolls-Unary, rolls-Cast, rolls-Deref, rolls-Address, rolls-Before, rolls-After, rolls-Binary, rolls-Choice, rolls-Assign}
use Rattle.xs_cexpr.specs.declared.tree.Expr.TheOpen.{Expr-F, Place-F}
use Rattle.xs_cexpr.specs.declared.tree.Expr.TheFolds.{fold-roll-Expr, fold-roll-Place}
use Rattle.xs_cexpr.specs.declared.tree.Place.{Place}
use Rattle.xs_cexpr.specs.declared.tree.Place.TheVariants as p
use Rattle.xs_cexpr.specs.declared.tree.Place.TheVariants.{rolls-Variable, rolls-Target, rolls-Field, rolls-St}
use Rattle.xs_cexpr.specs.ExpressionTree as t
use Rattle.xs_cexpr.specs.ExpressionTree.{ExprTree, PlaceTree, exprs_of}
use Rattle.xs_cexpr.specs.ExpressionViews.{expr_tree, place_tree, expr_step, place_step}
use Rattle.xs_ctok.specs.declared.token.Literal.{Literal}
use Rattle.xs_values.specs.declared.operator.Op.{Op}
use Rattle.xs_values.specs.declared.unary_operator.UnOp.{UnOp}

pub expr_tree-Name : (line : ℕ) (name : List ℕ)
    → expr_tree (e.Name line name) ≡ t.Var line name
unfolding expr_tree
expr_tree-Name line name = ap expr_tree (sym (rolls-Name line name))
    ∙ fold-roll-Expr ExprTree PlaceTree expr_step place_step (Expr-F.Name line name)

pub expr_tree-Int : (line : ℕ) (literal : Literal)
    → expr_tree (e.Int line literal) ≡ t.Num line literal
unfolding expr_tree
expr_tree-Int line literal = ap expr_tree (sym (rolls-Int line literal))
    ∙ fold-roll-Expr ExprTree PlaceTree expr_step place_step (Expr-F.Int line literal)

pub expr_tree-Char : (line byte : ℕ)
    → expr_tree (e.Char line byte) ≡ t.Chr line byte
unfolding expr_tree
expr_tree-Char line byte = ap expr_tree (sym (rolls-Char line byte))
    ∙ fold-roll-Expr ExprTree PlaceTree expr_step place_step (Expr-F.Char line byte)

pub expr_tree-Text : (line : ℕ) (text : List ℕ)
    → expr_tree (e.Text line text) ≡ t.Str line text
unfolding expr_tree
expr_tree-Text line text = ap expr_tree (sym (rolls-Text line text))
    ∙ fold-roll-Expr ExprTree PlaceTree expr_step place_step (Expr-F.Text line text)

pub expr_tree-Call : (line : ℕ) (name : List ℕ) (args : Vec Expr Global)
    → expr_tree (e.Call line name args) ≡ t.Call line name (exprs_of (map expr_tree args.items))
unfolding expr_tree
expr_tree-Call line name args = ap expr_tree (sym (rolls-Call line name args))
    ∙ fold-roll-Expr ExprTree PlaceTree expr_step place_step (Expr-F.Call line name args)

pub expr_tree-Paren : (line : ℕ) (a : Box Expr Global)
    → expr_tree (e.Paren line a) ≡ t.Paren line (expr_tree a.value)
unfolding expr_tree
expr_tree-Paren line a = ap expr_tree (sym (rolls-Paren line a))
    ∙ fold-roll-Expr ExprTree PlaceTree expr_step place_step (Expr-F.Paren line a)

pub expr_tree-Int2Ptr : (line : ℕ) (to : CType) (a : Box Expr Global)
    → expr_tree (e.Int2Ptr line to a) ≡ t.Int2Ptr line to (expr_tree a.value)
unfolding expr_tree
expr_tree-Int2Ptr line to a = ap expr_tree (sym (rolls-Int2Ptr line to a))
    ∙ fold-roll-Expr ExprTree PlaceTree expr_step place_step (Expr-F.Int2Ptr line to a)

pub expr_tree-Index : (line : ℕ) (a at : Box Expr Global)
    → expr_tree (e.Index line a at) ≡ t.Index line (expr_tree a.value) (expr_tree at.value)
unfolding expr_tree
expr_tree-Index line a at = ap expr_tree (sym (rolls-Index line a at))
    ∙ fold-roll-Expr ExprTree PlaceTree expr_step place_step (Expr-F.Index line a at)

pub expr_tree-Arrow : (line : ℕ) (name field : List ℕ)
    → expr_tree (e.Arrow line name field) ≡ t.Arrow line name field
unfolding expr_tree
expr_tree-Arrow line name field = ap expr_tree (sym (rolls-Arrow line name field))
    ∙ fold-roll-Expr ExprTree PlaceTree expr_step place_step (Expr-F.Arrow line name field)

pub expr_tree-Unary : (line : ℕ) (op : UnOp) (a : Box Expr Global)
    → expr_tree (e.Unary line op a) ≡ t.One line op (expr_tree a.value)
unfolding expr_tree
expr_tree-Unary line op a = ap expr_tree (sym (rolls-Unary line op a))
    ∙ fold-roll-Expr ExprTree PlaceTree expr_step place_step (Expr-F.Unary line op a)

pub expr_tree-Cast : (line : ℕ) (to : CType) (a : Box Expr Global)
    → expr_tree (e.Cast line to a) ≡ t.Cast line to (expr_tree a.value)
unfolding expr_tree
expr_tree-Cast line to a = ap expr_tree (sym (rolls-Cast line to a))
    ∙ fold-roll-Expr ExprTree PlaceTree expr_step place_step (Expr-F.Cast line to a)

pub expr_tree-Deref : (line : ℕ) (a : Box Expr Global)
    → expr_tree (e.Deref line a) ≡ t.Deref line (expr_tree a.value)
unfolding expr_tree
expr_tree-Deref line a = ap expr_tree (sym (rolls-Deref line a))
    ∙ fold-roll-Expr ExprTree PlaceTree expr_step place_step (Expr-F.Deref line a)

pub expr_tree-Address : (line : ℕ) (name : List ℕ)
    → expr_tree (e.Address line name) ≡ t.Address line name
unfolding expr_tree
expr_tree-Address line name = ap expr_tree (sym (rolls-Address line name))
    ∙ fold-roll-Expr ExprTree PlaceTree expr_step place_step (Expr-F.Address line name)

pub expr_tree-Before : (line : ℕ) (step : Step) (place : Place)
    → expr_tree (e.Before line step place) ≡ t.Before line step (place_tree place)
unfolding expr_tree place_tree
expr_tree-Before line step place = ap expr_tree (sym (rolls-Before line step place))
    ∙ fold-roll-Expr ExprTree PlaceTree expr_step place_step (Expr-F.Before line step place)

pub expr_tree-After : (line : ℕ) (place : Place) (step : Step)
    → expr_tree (e.After line place step) ≡ t.After line (place_tree place) step
unfolding expr_tree place_tree
expr_tree-After line place step = ap expr_tree (sym (rolls-After line place step))
    ∙ fold-roll-Expr ExprTree PlaceTree expr_step place_step (Expr-F.After line place step)

pub expr_tree-Binary : (line : ℕ) (op : BinaryOp) (a b : Box Expr Global)
    → expr_tree (e.Binary line op a b) ≡ t.Two line op (expr_tree a.value) (expr_tree b.value)
unfolding expr_tree
expr_tree-Binary line op a b = ap expr_tree (sym (rolls-Binary line op a b))
    ∙ fold-roll-Expr ExprTree PlaceTree expr_step place_step (Expr-F.Binary line op a b)

pub expr_tree-Choice : (line : ℕ) (test a b : Box Expr Global)
    → expr_tree (e.Choice line test a b) ≡ t.Choice line (expr_tree test.value) (expr_tree a.value) (expr_tree b.value)
unfolding expr_tree
expr_tree-Choice line test a b = ap expr_tree (sym (rolls-Choice line test a b))
    ∙ fold-roll-Expr ExprTree PlaceTree expr_step place_step (Expr-F.Choice line test a b)

pub expr_tree-Assign : (line : ℕ) (place : Place) (op : Option Op) (a : Box Expr Global)
    → expr_tree (e.Assign line place op a) ≡ t.Set line (place_tree place) op (expr_tree a.value)
unfolding expr_tree place_tree
expr_tree-Assign line place op a = ap expr_tree (sym (rolls-Assign line place op a))
    ∙ fold-roll-Expr ExprTree PlaceTree expr_step place_step (Expr-F.Assign line place op a)

pub place_tree-Variable : (line : ℕ) (name : List ℕ)
    → place_tree (p.Variable line name) ≡ t.VarPlace line name
unfolding place_tree
place_tree-Variable line name = ap place_tree (sym (rolls-Variable line name))
    ∙ fold-roll-Place ExprTree PlaceTree expr_step place_step (Place-F.Variable line name)

pub place_tree-Target : (line : ℕ) (name : List ℕ)
    → place_tree (p.Target line name) ≡ t.TargetPlace line name
unfolding place_tree
place_tree-Target line name = ap place_tree (sym (rolls-Target line name))
    ∙ fold-roll-Place ExprTree PlaceTree expr_step place_step (Place-F.Target line name)

pub place_tree-Field : (line : ℕ) (name field : List ℕ)
    → place_tree (p.Field line name field) ≡ t.FieldPlace line name field
unfolding place_tree
place_tree-Field line name field = ap place_tree (sym (rolls-Field line name field))
    ∙ fold-roll-Place ExprTree PlaceTree expr_step place_step (Place-F.Field line name field)

pub place_tree-St : (line : ℕ) (at : Box Expr Global)
    → place_tree (p.St line at) ≡ t.StPlace line (expr_tree at.value)
unfolding expr_tree place_tree
place_tree-St line at = ap place_tree (sym (rolls-St line at))
    ∙ fold-roll-Place ExprTree PlaceTree expr_step place_step (Place-F.St line at)

pub ruleset views = (
  expr_tree-Name,
  expr_tree-Int,
  expr_tree-Char,
  expr_tree-Text,
  expr_tree-Call,
  expr_tree-Paren,
  expr_tree-Int2Ptr,
  expr_tree-Index,
  expr_tree-Arrow,
  expr_tree-Unary,
  expr_tree-Cast,
  expr_tree-Deref,
  expr_tree-Address,
  expr_tree-Before,
  expr_tree-After,
  expr_tree-Binary,
  expr_tree-Choice,
  expr_tree-Assign,
  place_tree-Variable,
  place_tree-Target,
  place_tree-Field,
  place_tree-St,
)
