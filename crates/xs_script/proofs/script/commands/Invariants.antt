use Rattle.std.proofs.Common.{◌≡◌, drop}
use Rattle.xs_base.specs.Reading.{with_front}
use Rattle.xs_script.specs.Script.{script_of, commands_from}
use Rattle.xs_script.specs.CommandViews.{command_views}
use Rattle.xs_script.proofs.script.commands.Given as goal

abbrev pub invariant-loop-line : goal.invariant-loop-line
invariant-loop-line l = script_of l.src ≡ with_front (command_views l.out) (commands_from (drop l.line-index l.line-items) l.scope)
