use Rattle.std.proofs.Common.{◌≡◌, ◌++◌, drop, map}
use Rattle.xs_cstmt.specs.StatementViews.{stmt_trees}
use Rattle.xs_stub.specs.Intended.{registration}
use Rattle.xs_stub.proofs.glue_items.with_registrations.Given as goal

-- the statements so far, and those of what is left
abbrev pub invariant-loop-xsub : goal.invariant-loop-xsub
invariant-loop-xsub l =
    stmt_trees l.all ++ map (registration l.fn.line) (drop l.xsub-index l.xsubs) ≡ stmt_trees l.fn.all ++ map (registration l.fn.line) l.xsubs
