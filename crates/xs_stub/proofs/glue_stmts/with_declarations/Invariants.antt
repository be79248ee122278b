use Rattle.std.proofs.Common.{◌≡◌, ◌++◌, drop, map}
use Rattle.xs_cstmt.specs.StatementViews.{stmt_trees}
use Rattle.xs_stub.specs.Intended.{declared_param}
use Rattle.xs_stub.proofs.glue_stmts.with_declarations.Given as goal

-- the statements so far, and those of what is left
abbrev pub invariant-loop-param : goal.invariant-loop-param
invariant-loop-param l =
    stmt_trees l.all ++ map (declared_param l.fn.line) (drop l.param-index l.params) ≡ stmt_trees l.fn.all ++ map (declared_param l.fn.line) l.params
