-- Expressions of three parts, which are resolved one after the other.
use Rattle.std.proofs.Common.{◌≡◌, ℕ, List, Result, Ok, Err, subst}
use Rattle.xs_base.specs.declared.fault.Refuse.{Refuse}
use Rattle.xs_cexpr.specs.ExpressionTree.{ExprTree, Choice}
use Rattle.xs_ctree.specs.declared.typed.Typed.{Typed}
use Rattle.xs_ccheck.specs.declared.exprs.TypedNode.{TypedNode}
use Rattle.xs_ctypes.specs.Checked.{Checked, Good, behind, both, judged, three}
use Rattle.xs_ctypes.specs.Joining.{joined}
use Rattle.xs_ctypes.specs.Scopes.{Local}
use Rattle.xs_ccheck.specs.ExprTyping.{TypedExpr, chosen, expr}
use Rattle.xs_ccheck.specs.Resolving.{GivesExpr, HasTyped, Refuses, Resolves, typed_in}
use Rattle.xs_ccheck.proofs.JoinedParts.{HasPair, joined_resolves, node_refuses, node_resolves, pair_in, typed_stays}
use Rattle.xs_ccheck.proofs.LeastFaults.{both_behind}

abbrev Three : Type 0
Three = TypedNode × (TypedNode × TypedNode)

abbrev two_in : Typed → TypedNode × TypedNode → TypedExpr × TypedExpr
two_in = pair_in typed_in HasTyped typed_in HasTyped

abbrev HasTwo : Typed → TypedNode × TypedNode → Type 0
HasTwo = HasPair typed_in HasTyped typed_in HasTyped

abbrev three_in : Typed → Three → TypedExpr × (TypedExpr × TypedExpr)
three_in = pair_in typed_in HasTyped two_in HasTwo

abbrev HasThree : Typed → Three → Type 0
HasThree = HasPair typed_in HasTyped two_in HasTwo

module _ (vs : List Local) (line : ℕ) (test a b : ExprTree) (old one two three_ new : Typed) (t x y : Result TypedNode Refuse) where
  abbrev values : Checked (TypedExpr × TypedExpr)
  values = both {C = TypedExpr × TypedExpr} (expr vs a) (expr vs b) (λ v w. Good (v, w))

  abbrev all : Checked (TypedExpr × (TypedExpr × TypedExpr))
  all = both {C = TypedExpr × (TypedExpr × TypedExpr)} (expr vs test) values (λ v w. Good (v, w))

  abbrev node : TypedExpr × (TypedExpr × TypedExpr) → Checked TypedExpr
  node p = judged line (chosen line p.0 p.1.0 p.1.1)

  parts_resolve : GivesExpr t old one (expr vs test) → GivesExpr x one two (expr vs a) → GivesExpr y two three_ (expr vs b)
      → Resolves three_in HasThree (joined t (joined x y)) old three_ all
  parts_resolve h g i =
      joined_resolves typed_in HasTyped two_in HasTwo typed_stays old one three_ t (joined x y) _ _ h
      (joined_resolves typed_in HasTyped typed_in HasTyped typed_stays one two three_ x y _ _ g i)

  whole : behind all node ≡ expr vs (Choice line test a b)
  unfolding expr
  whole = both_behind (expr vs test) values (λ v w. node (v, w))

  pub choice_resolves : (p : Three) (res : Result TypedNode Refuse) → GivesExpr t old one (expr vs test) → GivesExpr x one two (expr vs a)
      → GivesExpr y two three_ (expr vs b) → joined t (joined x y) ≡ Ok p
      → GivesExpr res three_ new (judged line (chosen line (typed_in three_ p.0) (typed_in three_ p.1.0) (typed_in three_ p.1.1)))
      → GivesExpr res old new (expr vs (Choice line test a b))
  choice_resolves p res h g i are last =
      node_resolves three_in HasThree typed_in HasTyped old three_ new all node p (expr vs (Choice line test a b)) res
      (subst (λ r. Resolves three_in HasThree r old three_ all) are (parts_resolve h g i)) whole last

  pub choice_there : (p : Three) → GivesExpr t old one (expr vs test) → GivesExpr x one two (expr vs a) → GivesExpr y two three_ (expr vs b)
      → joined t (joined x y) ≡ Ok p → HasThree three_ p
  choice_there p h g i are = (subst (λ r. Resolves three_in HasThree r old three_ all) are (parts_resolve h g i)).there_is

  pub choice_refuses : (e : Refuse) → GivesExpr t old one (expr vs test) → GivesExpr x one two (expr vs a) → GivesExpr y two three_ (expr vs b)
      → joined t (joined x y) ≡ Err e → Refuses e (expr vs (Choice line test a b))
  choice_refuses e h g i are =
      node_refuses three_in HasThree typed_in HasTyped old three_ new all node e (expr vs (Choice line test a b))
      (subst (λ r. Resolves three_in HasThree r old three_ all) are (parts_resolve h g i)) whole
