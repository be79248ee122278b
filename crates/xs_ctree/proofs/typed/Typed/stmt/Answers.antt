use Rattle.std.proofs.Common.{ap, sym, ◌∙◌}
use Rattle.xs_ctree.specs.Arena.{stmt_from}
use Rattle.xs_ctree.specs.Functions.{arena_of, expr_in, stmt_in}
use Rattle.xs_ctree.proofs.Additions.{itself}
use Rattle.xs_ctree.proofs.Opening.{stmt_opens}
use Rattle.xs_ctree.proofs.typed.Typed.stmt.Goals as goal

pub returns-clause-tree : goal.returns-clause-tree
returns-clause-tree c =
    let t = c.args.self.now in
    stmt_opens (arena_of t) t.functions.items t.fits (itself (arena_of t)) c.args.i
    ∙ ap (λ o. stmt_from (arena_of t) o (expr_in t) (stmt_in t)) (sym c.stmt_node.ensures)
