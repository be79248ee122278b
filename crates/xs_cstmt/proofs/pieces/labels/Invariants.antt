use Rattle.std.proofs.Common.{◌≡◌, ◌-◌}
use Rattle.xs_cstmt.specs.StatementReader as spec
use Rattle.xs_cstmt.proofs.pieces.labels.Given as goal

abbrev pub invariant-loop-turn : goal.invariant-loop-turn
invariant-loop-turn l = spec.labels l.fn.cursor ≡ spec.labels_from (l._turn-end - l._turn) l.all l.cursor
