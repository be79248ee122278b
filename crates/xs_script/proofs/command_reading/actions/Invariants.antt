use Rattle.std.proofs.Common.{◌≡◌, ◌-◌}
use Rattle.xs_script.specs.Rules as spec
use Rattle.xs_script.specs.CommandViews.{acts_of}
use Rattle.xs_script.proofs.command_reading.actions.Given as goal

abbrev pub invariant-loop-turn : goal.invariant-loop-turn
invariant-loop-turn l = spec.actions l.fn.cursor ≡ spec.actions_from (l._turn-end - l._turn) (acts_of l.all) l.cursor
