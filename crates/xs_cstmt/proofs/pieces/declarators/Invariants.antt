use Rattle.std.proofs.Common.{◌≡◌, ◌-◌, map}
use Rattle.xs_cstmt.specs.StatementReader as spec
use Rattle.xs_cstmt.specs.StatementViews.{declarator_tree}
use Rattle.xs_cstmt.proofs.pieces.declarators.Given as goal

abbrev pub invariant-loop-turn : goal.invariant-loop-turn
invariant-loop-turn l = spec.declarators l.fn.cursor ≡ spec.declarators_from (l._turn-end - l._turn) (map declarator_tree l.all) l.cursor
