use Rattle.std.proofs.Common.{refl, arith}
use Rattle.xs_ctree.proofs.Additions.{added_stmt, stmt_fits_more}
use Rattle.xs_ctree.proofs.typed.Typed.add_stmt.Goals as goal

pub invariant_of-self-clause-fits : goal.invariant_of-self-clause-fits
invariant_of-self-clause-fits c =
    rw c.push.ensures.items (stmt_fits_more _ _ _ _ _ _ _ _ c.args.self.now.fits _ c.args.node c.requires)

pub returns : goal.returns
returns c =
    added_stmt c.args.self.now _ refl refl c.args.node c.in_ok-index.index
    (omega (arith, c.in_ok-index.ensures, c.len.ensures, c.args.self.now.stmts.ok.0)) c.requires refl c.in_ok-push.ensures.items refl refl refl refl refl
