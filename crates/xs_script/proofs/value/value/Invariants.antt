use Rattle.std.proofs.Common.{◌≡◌, ◌-◌}
use Rattle.xs_script.specs.Value as spec
use Rattle.xs_script.specs.Partial.{partial_of}
use Rattle.xs_script.proofs.value.value.Given as goal

abbrev pub invariant-loop-turn : goal.invariant-loop-turn
invariant-loop-turn l = spec.value l.in_sub l.fn.cursor ≡ spec.turns l.in_sub (l._turn-end - l._turn) (partial_of l.partial) l.cursor
