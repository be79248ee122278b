-- The operands of a row are as many as their range says.
use Rattle.std.proofs.Common.{◌≡◌, ℕ, suc, ◌+◌, ◌≤◌, true, List, [], ◌∷◌, map, length, drop, refl, ap, ◌∙◌, arith, length-drop}
use Rattle.std.proofs.lemmas.Bool.Decides.{nat_tests}
use Rattle.std.proofs.lemmas.List.{length-map, length-take-le}
use Rattle.xs_ctree.specs.declared.node.Range.{Range}
use Rattle.xs_ctree.specs.Arena.{is_within, ranged}
use Rattle.xs_ctree.specs.TypedTree.{Expr, expr_count, exprs_of}

count_is : (es : List Expr) → expr_count (exprs_of es) ≡ length es
count_is [] = refl
count_is (e ∷ es) = ap suc (count_is es)

within_le : (parts : List ℕ) (r : Range) → is_within parts r ≡ true → r.start + r.count ≤ length parts
within_le parts r h = grind (arith, nat_tests)

pub counted : (f : ℕ → Expr) (parts : List ℕ) (r : Range) → is_within parts r ≡ true → expr_count (exprs_of (map f (ranged parts r))) ≡ r.count
counted f parts r h =
    let le : r.start + r.count ≤ length parts = within_le parts r h in
    count_is (map f (ranged parts r)) ∙ length-map (ranged parts r) f
    ∙ length-take-le r.count (drop r.start parts) (omega (arith, le, length-drop r.start parts))
