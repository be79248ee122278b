use Rattle.std.proofs.Common.{ap, sym, ◌∙◌}
use Rattle.xs_ctree.specs.Arena.{expr_from}
use Rattle.xs_ctree.specs.Functions.{arena_of, expr_in}
use Rattle.xs_ctree.proofs.Additions.{itself}
use Rattle.xs_ctree.proofs.Opening.{expr_opens}
use Rattle.xs_ctree.proofs.typed.Typed.expr.Goals as goal

pub returns-clause-tree : goal.returns-clause-tree
returns-clause-tree c =
    let t = c.args.self.now in
    expr_opens (arena_of t) t.functions.items t.fits (itself (arena_of t)) c.args.i
    ∙ ap (λ o. expr_from (arena_of t) o (expr_in t)) (sym c.expr_node.ensures)
