use Rattle.std.proofs.Common.{◌≡◌, ◌-◌}
use Rattle.xs_csyn.specs.FileReader as spec
use Rattle.xs_cstmt.specs.StatementReader.{stmt}
use Rattle.xs_cstmt.specs.StatementViews.{stmt_trees}
use Rattle.xs_csyn.proofs.file.rest_of.Given as goal

abbrev pub invariant-loop-turn : goal.invariant-loop-turn
invariant-loop-turn l = spec.rest_of l.room l.fn.cursor ≡ spec.rest_from (stmt l.room) (l._turn-end - l._turn) (stmt_trees l.all) l.cursor
