use Rattle.std.proofs.Common.{◌≡◌, ◌++◌, drop}
use Rattle.xs_cstmt.specs.StatementViews.{stmt_trees}
use Rattle.xs_stub.specs.Intended.{inputs_from}
use Rattle.xs_stub.proofs.glue_stmts.with_inputs.Given as goal

-- the statements so far, and the inputs that are left
abbrev pub invariant-loop-param : goal.invariant-loop-param
invariant-loop-param l =
    record {
      stmts : stmt_trees l.all ++ inputs_from l.index (drop l.param-index l.params) ≡ stmt_trees l.fn.all ++ inputs_from 0 l.params;
      index : l.index ≡ l.param-index;
    }
