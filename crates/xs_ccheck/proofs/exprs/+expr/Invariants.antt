use Rattle.std.proofs.Common.{◌+◌, drop, map}
use Rattle.xs_cexpr.specs.ExpressionTree.{exprs_of}
use Rattle.xs_cexpr.specs.ExpressionViews.{expr_tree, place_tree}
use Rattle.xs_ccheck.specs.ExprTyping.{exprs}
use Rattle.xs_ccheck.specs.Resolving.{HaveTyped, typed_in}
use Rattle.xs_ccheck.proofs.Collecting.{Gathers}
use Rattle.xs_ccheck.proofs.ExprSizes.{expr_size, exprs_size, place_size}
use Rattle.xs_ccheck.proofs.exprs.+expr.Given as goal

abbrev pub decreases-expr : goal.decreases-expr
decreases-expr l = expr_size (expr_tree l.e.now)

abbrev pub decreases-assign : goal.decreases-assign
decreases-assign l = place_size (place_tree l.place.now) + expr_size (expr_tree l.value.now) + 1

abbrev pub decreases-binary : goal.decreases-binary
decreases-binary l = expr_size (expr_tree l.a.now) + expr_size (expr_tree l.b.now) + 1

abbrev pub decreases-step : goal.decreases-step
decreases-step l = place_size (place_tree l.place.now) + 1

abbrev pub decreases-index : goal.decreases-index
decreases-index l = expr_size (expr_tree l.a.now) + expr_size (expr_tree l.at.now) + 1

abbrev pub decreases-choice : goal.decreases-choice
decreases-choice l = expr_size (expr_tree l.test.now) + (expr_size (expr_tree l.a.now) + expr_size (expr_tree l.b.now)) + 1

abbrev pub decreases-call : goal.decreases-call
decreases-call l = exprs_size (exprs_of (map expr_tree l.args.now)) + 1

abbrev pub decreases-exprs : goal.decreases-exprs
decreases-exprs l = exprs_size (exprs_of (map expr_tree l.args.now))

abbrev pub decreases-place_in : goal.decreases-place_in
decreases-place_in l = place_size (place_tree l.place.now)

abbrev pub invariant-exprs-loop-a : goal.invariant-exprs-loop-a
invariant-exprs-loop-a l =
    Gathers typed_in HaveTyped l.fn.typed l.good.items l.least l.typed (exprs l.scope.variables (exprs_of (map expr_tree l.args)))
    (exprs l.scope.variables (exprs_of (map expr_tree (drop l.a-index l.args))))
