use Rattle.std.proofs.Common.{◌≡◌, ◌-◌}
use Rattle.xs_script.specs.Rules as spec
use Rattle.xs_script.specs.CommandViews.{exprs_in}
use Rattle.xs_script.proofs.command_reading.some_arguments.Given as goal

abbrev pub invariant-loop-turn : goal.invariant-loop-turn
invariant-loop-turn l = spec.some_arguments l.in_sub l.fn.cursor ≡ spec.arguments_from l.in_sub (l._turn-end - l._turn) (exprs_in l.all) l.cursor
