use Rattle.std.proofs.Common.{◌≡◌, ◌-◌}
use Rattle.xs_cinput.specs.TypeReader as spec
use Rattle.xs_cinput.proofs.types.stars.Given as goal

abbrev pub invariant-loop-turn : goal.invariant-loop-turn
invariant-loop-turn l = record {
  read : spec.stars l.fn.cursor ≡ spec.stars_from (l._turn-end - l._turn) l.n l.cursor;
  turns : l.n ≡ l._turn;
}
