-- Which expressions are places.
use Rattle.std.proofs.Common.{◌≡◌, ◌∙◌, ℕ, Bool, true, false, not, if◌then◌else◌, List, [], ◌∷◌, length, map, Option, None, Result, Err, refl, ap, subst, sym}
use Rattle.std.specs.declared.alloc.Global.{Global}
use Rattle.std.specs.declared.boxed.Box.{Box}
use Rattle.std.specs.declared.vec.Vec.{Vec}
use Rattle.xs_cexpr.proofs.ViewsCompute.{expr_tree-Call, expr_tree-Deref}
use Rattle.xs_cexpr.specs.ExpressionReader.{Found, FoundPlace, list_place, place_tree_of, placed, placed_as, target_of}
use Rattle.xs_cexpr.specs.ExpressionTree as t
use Rattle.xs_cexpr.specs.ExpressionTree.{ExprTree, PlaceTree, exprs_of}
use Rattle.xs_cexpr.specs.ExpressionViews.{expr_step, expr_tree, found, place_step}
use Rattle.xs_cexpr.specs.declared.node.Node.{Node}
use Rattle.xs_cexpr.specs.declared.tree.Expr.{Expr}
use Rattle.xs_cexpr.specs.declared.tree.Expr.TheVariants as e
use Rattle.xs_cexpr.specs.declared.tree.Expr.TheVariants.{rolls-Name, rolls-Call, rolls-Arrow, rolls-Deref}
use Rattle.xs_cexpr.specs.declared.tree.Expr.TheOpen.{Expr-F}
use Rattle.xs_cexpr.specs.declared.tree.Expr.TheFolds.{fold-roll-Expr}
use Rattle.xs_cexpr.specs.declared.tree.Expr.TheViews.{out-Expr, roll-Expr, roll-out-Expr}
use Rattle.xs_cexpr.specs.declared.tree.Place.{Place}

pub not_one : {E : Type 0} (line : ℕ) (f : E → ExprTree) (all : List E) → (length all ≡ 1 → ⊥) → list_place line (exprs_of (map f all)) ≡ None
not_one line f [] other = refl
not_one line f (a ∷ []) other = absurd (other refl)
not_one line f (a ∷ b ∷ all) other = refl

-- an expression is one of its variants
by_variant : (P : Expr → Type 0) → ((y : Expr-F Expr Place) → P (roll-Expr y)) → (x : Expr) → P x
by_variant P each x = subst P (roll-out-Expr x) (each (out-Expr x))

abbrev NoTarget : ℕ → Expr → Type 0
NoTarget at x = ((line : ℕ) (name : List ℕ) → x ≡ e.Name line name → ⊥) → target_of at (expr_tree x) ≡ None

layer_no_target : (at : ℕ) (y : Expr-F Expr Place) → NoTarget at (roll-Expr y)
unfolding expr_tree
layer_no_target at (Expr-F.Name line name) other = absurd (other line name (rolls-Name line name))
layer_no_target at (Expr-F.Int line literal) other = ap (target_of at) (fold-roll-Expr ExprTree PlaceTree expr_step place_step (Expr-F.Int line literal))
layer_no_target at (Expr-F.Char line byte) other = ap (target_of at) (fold-roll-Expr ExprTree PlaceTree expr_step place_step (Expr-F.Char line byte))
layer_no_target at (Expr-F.Text line text) other = ap (target_of at) (fold-roll-Expr ExprTree PlaceTree expr_step place_step (Expr-F.Text line text))
layer_no_target at (Expr-F.Call line name args) other = ap (target_of at) (fold-roll-Expr ExprTree PlaceTree expr_step place_step (Expr-F.Call line name args))
layer_no_target at (Expr-F.Paren line a) other = ap (target_of at) (fold-roll-Expr ExprTree PlaceTree expr_step place_step (Expr-F.Paren line a))
layer_no_target at (Expr-F.Int2Ptr line to a) other = ap (target_of at) (fold-roll-Expr ExprTree PlaceTree expr_step place_step (Expr-F.Int2Ptr line to a))
layer_no_target at (Expr-F.Index line a b) other = ap (target_of at) (fold-roll-Expr ExprTree PlaceTree expr_step place_step (Expr-F.Index line a b))
layer_no_target at (Expr-F.Arrow line name field) other =
    ap (target_of at) (fold-roll-Expr ExprTree PlaceTree expr_step place_step (Expr-F.Arrow line name field))
layer_no_target at (Expr-F.Unary line op a) other = ap (target_of at) (fold-roll-Expr ExprTree PlaceTree expr_step place_step (Expr-F.Unary line op a))
layer_no_target at (Expr-F.Cast line to a) other = ap (target_of at) (fold-roll-Expr ExprTree PlaceTree expr_step place_step (Expr-F.Cast line to a))
layer_no_target at (Expr-F.Deref line a) other = ap (target_of at) (fold-roll-Expr ExprTree PlaceTree expr_step place_step (Expr-F.Deref line a))
layer_no_target at (Expr-F.Address line name) other = ap (target_of at) (fold-roll-Expr ExprTree PlaceTree expr_step place_step (Expr-F.Address line name))
layer_no_target at (Expr-F.Before line step place) other =
    ap (target_of at) (fold-roll-Expr ExprTree PlaceTree expr_step place_step (Expr-F.Before line step place))
layer_no_target at (Expr-F.After line place step) other =
    ap (target_of at) (fold-roll-Expr ExprTree PlaceTree expr_step place_step (Expr-F.After line place step))
layer_no_target at (Expr-F.Binary line op a b) other = ap (target_of at) (fold-roll-Expr ExprTree PlaceTree expr_step place_step (Expr-F.Binary line op a b))
layer_no_target at (Expr-F.Choice line test a b) other =
    ap (target_of at) (fold-roll-Expr ExprTree PlaceTree expr_step place_step (Expr-F.Choice line test a b))
layer_no_target at (Expr-F.Assign line place op a) other =
    ap (target_of at) (fold-roll-Expr ExprTree PlaceTree expr_step place_step (Expr-F.Assign line place op a))

no_target : (at : ℕ) (x : Expr) → NoTarget at x
no_target at = by_variant (NoTarget at) (layer_no_target at)

abbrev NoPlace : Expr → Type 0
NoPlace x = ((line : ℕ) (name : List ℕ) → x ≡ e.Name line name → ⊥)
    → ((line : ℕ) (name : List ℕ) (args : Vec Expr Global) → x ≡ e.Call line name args → ⊥)
    → ((line : ℕ) (name field : List ℕ) → x ≡ e.Arrow line name field → ⊥)
    → ((line : ℕ) (a : Box Expr Global) → x ≡ e.Deref line a → ⊥) → place_tree_of (expr_tree x) ≡ None

layer_no_place : (y : Expr-F Expr Place) → NoPlace (roll-Expr y)
unfolding expr_tree
layer_no_place (Expr-F.Name line name) n c r d = absurd (n line name (rolls-Name line name))
layer_no_place (Expr-F.Int line literal) n c r d = ap place_tree_of (fold-roll-Expr ExprTree PlaceTree expr_step place_step (Expr-F.Int line literal))
layer_no_place (Expr-F.Char line byte) n c r d = ap place_tree_of (fold-roll-Expr ExprTree PlaceTree expr_step place_step (Expr-F.Char line byte))
layer_no_place (Expr-F.Text line text) n c r d = ap place_tree_of (fold-roll-Expr ExprTree PlaceTree expr_step place_step (Expr-F.Text line text))
layer_no_place (Expr-F.Call line name args) n c r d = absurd (c line name args (rolls-Call line name args))
layer_no_place (Expr-F.Paren line a) n c r d = ap place_tree_of (fold-roll-Expr ExprTree PlaceTree expr_step place_step (Expr-F.Paren line a))
layer_no_place (Expr-F.Int2Ptr line to a) n c r d = ap place_tree_of (fold-roll-Expr ExprTree PlaceTree expr_step place_step (Expr-F.Int2Ptr line to a))
layer_no_place (Expr-F.Index line a b) n c r d = ap place_tree_of (fold-roll-Expr ExprTree PlaceTree expr_step place_step (Expr-F.Index line a b))
layer_no_place (Expr-F.Arrow line name field) n c r d = absurd (r line name field (rolls-Arrow line name field))
layer_no_place (Expr-F.Unary line op a) n c r d = ap place_tree_of (fold-roll-Expr ExprTree PlaceTree expr_step place_step (Expr-F.Unary line op a))
layer_no_place (Expr-F.Cast line to a) n c r d = ap place_tree_of (fold-roll-Expr ExprTree PlaceTree expr_step place_step (Expr-F.Cast line to a))
layer_no_place (Expr-F.Deref line a) n c r d = absurd (d line a (rolls-Deref line a))
layer_no_place (Expr-F.Address line name) n c r d = ap place_tree_of (fold-roll-Expr ExprTree PlaceTree expr_step place_step (Expr-F.Address line name))
layer_no_place (Expr-F.Before line step place) n c r d =
    ap place_tree_of (fold-roll-Expr ExprTree PlaceTree expr_step place_step (Expr-F.Before line step place))
layer_no_place (Expr-F.After line place step) n c r d = ap place_tree_of (fold-roll-Expr ExprTree PlaceTree expr_step place_step (Expr-F.After line place step))
layer_no_place (Expr-F.Binary line op a b) n c r d = ap place_tree_of (fold-roll-Expr ExprTree PlaceTree expr_step place_step (Expr-F.Binary line op a b))
layer_no_place (Expr-F.Choice line test a b) n c r d = ap place_tree_of (fold-roll-Expr ExprTree PlaceTree expr_step place_step (Expr-F.Choice line test a b))
layer_no_place (Expr-F.Assign line place op a) n c r d =
    ap place_tree_of (fold-roll-Expr ExprTree PlaceTree expr_step place_step (Expr-F.Assign line place op a))

no_place : (x : Expr) → NoPlace x
no_place = by_variant NoPlace layer_no_place

-- what is no place is the expression again

pub other_is_expression : (n : Node) → ((line : ℕ) (name : List ℕ) → n.tree ≡ e.Name line name → ⊥)
    → ((line : ℕ) (name : List ℕ) (args : Vec Expr Global) → n.tree ≡ e.Call line name args → ⊥)
    → ((line : ℕ) (name field : List ℕ) → n.tree ≡ e.Arrow line name field → ⊥)
    → ((line : ℕ) (a : Box Expr Global) → n.tree ≡ e.Deref line a → ⊥) → ◌≡◌ {A = Result FoundPlace Found} (Err (found n)) (placed (found n))
other_is_expression n a b c d = sym (ap (placed_as (found n)) (no_place n.tree a b c d))

pub target_is_expression : (line height : ℕ) (b : Box Expr Global) (x : Expr) → b.value ≡ x → ((line : ℕ) (name : List ℕ) → x ≡ e.Name line name → ⊥)
    → ◌≡◌ {A = Result FoundPlace Found} (Err (found (record { tree = e.Deref line b; height = height })))
    (placed (record { tree = t.Deref line (expr_tree x); height = height }))
target_is_expression line height b x v other =
    ap (λ (tree : ExprTree). let r : Result FoundPlace Found = Err (record { tree = tree; height = height }) in r)
    (expr_tree-Deref line b ∙ ap (λ (y : Expr). t.Deref line (expr_tree y)) v)
    ∙ sym (ap (placed_as (record { tree = t.Deref line (expr_tree x); height = height })) (no_target line x other))

pub call_is_expression : (line height : ℕ) (name : List ℕ) (args : Vec Expr Global)
    → place_tree_of (t.Call line name (exprs_of (map expr_tree args.items))) ≡ None
    → ◌≡◌ {A = Result FoundPlace Found} (Err (found (record { tree = e.Call line name args; height = height })))
    (placed (record { tree = t.Call line name (exprs_of (map expr_tree args.items)); height = height }))
call_is_expression line height name args no_place_there =
    ap (λ (tree : ExprTree). let r : Result FoundPlace Found = Err (record { tree = tree; height = height }) in r) (expr_tree-Call line name args)
    ∙ sym (ap (placed_as (record { tree = t.Call line name (exprs_of (map expr_tree args.items)); height = height })) no_place_there)

pub neither : (b : Bool) (o : Option PlaceTree) → o ≡ None → (if b then o else None) ≡ None
neither true o e = e
neither false o e = refl

pub named_other : (b : Bool) (o : Option PlaceTree) → not b ≡ true → (if b then o else None) ≡ None
named_other true o e = absurd cc
named_other false o e = refl
