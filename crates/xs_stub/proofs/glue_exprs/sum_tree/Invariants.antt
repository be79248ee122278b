use Rattle.std.proofs.Common.{◌≡◌, drop, fold}
use Rattle.xs_cexpr.specs.ExpressionTree.{Two}
use Rattle.xs_cexpr.specs.ExpressionViews.{expr_tree}
use Rattle.xs_cinput.specs.declared.tree.BinaryOp.TheVariants as binary
use Rattle.xs_values.specs.declared.operator.Op.TheVariants as op
use Rattle.xs_stub.specs.Intended.{term_tree}
use Rattle.xs_stub.proofs.glue_exprs.sum_tree.Given as goal

-- the sum so far, and the terms that are left
abbrev pub invariant-loop-term : goal.invariant-loop-term
invariant-loop-term l =
    fold (λ sum term. Two l.fn.line (binary.On op.Add) sum (term_tree l.fn.params l.fn.line term)) (expr_tree l.sum) (drop l.term-index l.others)
    ≡ fold (λ sum term. Two l.fn.line (binary.On op.Add) sum (term_tree l.fn.params l.fn.line term)) (term_tree l.fn.params l.fn.line l.fn.first) l.others
