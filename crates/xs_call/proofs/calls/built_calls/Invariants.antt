use Rattle.std.proofs.Common.{◌≡◌, drop, map}
use Rattle.xs_call.specs.BuiltCalls.{calls_of_commands}
use Rattle.xs_base.specs.Reading.{with_front}
use Rattle.xs_script.specs.CommandViews.{command_view}
use Rattle.xs_call.proofs.calls.built_calls.Given as goal

-- the calls so far, and those of the commands that are left
abbrev pub invariant-loop-command : goal.invariant-loop-command
invariant-loop-command l = with_front l.calls (calls_of_commands (map command_view (drop l.command-index l.commands)))
    ≡ calls_of_commands (map command_view l.commands)
