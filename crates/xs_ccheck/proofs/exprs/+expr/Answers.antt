use Rattle.std.proofs.Common.{◌≡◌, ◌∙◌, ◌+◌, ◌<◌, sym, ap, subst, length, map, drop, arith}
use Rattle.xs_cexpr.specs.ExpressionTree.{exprs_of}
use Rattle.xs_cexpr.specs.ExpressionViews.{expr_tree, place_tree}
use Rattle.xs_ccheck.specs.ExprTyping.{expr, exprs}
use Rattle.xs_ccheck.specs.Resolving.{GivesExpr, HasTyped, HaveTyped, typed_in}
use Rattle.xs_ccheck.proofs.Collecting.{step}
use Rattle.xs_ctypes.specs.Joining.{joined}
use Rattle.xs_ccheck.proofs.ExprParts.{choice_resolves}
use Rattle.xs_ccheck.proofs.ExprSizes.{item_smaller}
use Rattle.xs_ccheck.proofs.Lists.{typed_last}
use Rattle.xs_ccheck.proofs.Loops.{assignment, exprs_next, indexing, operation}
use Rattle.xs_ccheck.proofs.exprs.+expr.Goals as goal

pub assign-returns : goal.assign-returns
assign-returns t c =
    let vs = c.args.scope.now.variables in
    let place = place_tree c.args.place.now in
    let value = expr_tree c.args.value.now in
    let given = c.in_ok-to in
    assignment vs c.args.line c.args.typed.now c.place_in-to.new.typed c.expr-x.new.typed c.set_to.new.typed c.set_to.result given.x c.expr-x.result
    c.args.op place value given.to c.place_in-to.result c.place_in-to.ensures c.expr-x.ensures (sym c.both.ensures ∙ given.was) c.set_to.ensures

pub index-returns : goal.index-returns
index-returns t c =
    let vs = c.args.scope.now.variables in
    let a = expr_tree c.args.a.now in
    let at = expr_tree c.args.at.now in
    let given = c.in_ok-x in
    indexing vs c.args.line c.args.typed.now c.expr-x.new.typed c.expr-y.new.typed c.element.new.typed c.element.result given.y c.expr-y.result
    a at given.x c.expr-x.result c.expr-x.ensures c.expr-y.ensures (sym c.both.ensures ∙ given.was) c.element.ensures

pub binary-returns : goal.binary-returns
binary-returns t c =
    let vs = c.args.scope.now.variables in
    let a = expr_tree c.args.a.now in
    let b = expr_tree c.args.b.now in
    let given = c.in_ok-x in
    operation vs c.args.line c.args.typed.now c.expr-x.new.typed c.expr-y.new.typed c.combined.new.typed c.combined.result given.y c.expr-y.result
    c.args.op a b given.x c.expr-x.result c.expr-x.ensures c.expr-y.ensures (sym c.both.ensures ∙ given.was) c.combined.ensures

pub choice-returns : goal.choice-returns
choice-returns t c =
    let vs = c.args.scope.now.variables in
    let given = c.in_ok-test in
    let are : joined c.expr-test.result (joined c.expr-x.result c.expr-y.result) ≡ c.both.result =
    ap (joined c.expr-test.result) (sym c.both-values.ensures) ∙ sym c.both.ensures in
    choice_resolves vs c.args.line (expr_tree c.args.test.now) (expr_tree c.args.a.now) (expr_tree c.args.b.now) c.args.typed.now c.expr-test.new.typed
    c.expr-x.new.typed c.expr-y.new.typed c.chosen.new.typed c.expr-test.result c.expr-x.result c.expr-y.result (given.test, (given.x, given.y))
    c.chosen.result c.expr-test.ensures c.expr-x.ensures c.expr-y.ensures (are ∙ given.was) c.chosen.ensures

pub exprs-expr-x-requires : goal.exprs-expr-x-requires
exprs-expr-x-requires t c =
    let small = item_smaller c.args.args.now c.loop-a.a-index c.a-item.result (omega (arith, c.loop-a-test.true)) c.a-item.is in
    (omega (arith, small, c.decreases), tt)

pub exprs-loop-a-preserved : goal.exprs-loop-a-preserved
exprs-loop-a-preserved t c =
    let vs = c.args.scope.now.variables in
    let args = c.args.args.now in
    let i = c.loop-a.a-index in
    let within : i < length args = omega (arith, c.loop-a-test.true) in
    step typed_in HasTyped HaveTyped typed_last c.args.typed.now c.loop-a.typed c.expr-x.new.typed (exprs vs (exprs_of (map expr_tree args)))
    (exprs vs (exprs_of (map expr_tree (drop (i + 1) args)))) c.loop-a.good.items c.take_up.new.good.items c.loop-a.least c.in_ok-least.least
    c.expr-x.result (expr vs (expr_tree c.a-item.result)) (exprs vs (exprs_of (map expr_tree (drop i args))))
    (exprs_next vs args i c.a-item.result within c.a-item.is) c.loop-a.invariant c.expr-x.ensures c.in_ok-least.ensures
