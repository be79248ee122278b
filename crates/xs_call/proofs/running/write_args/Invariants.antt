use Rattle.std.proofs.Common.{◌≡◌, ◌++◌, drop}
use Rattle.xs_call.specs.MachineTranscript.{show_cell}
use Rattle.xs_meaning.specs.Transcript.{arg_lines}
use Rattle.xs_machine.specs.MachineViews.{mach_of}
use Rattle.xs_call.proofs.running.write_args.Given as goal

-- the lines so far, and those that are left
abbrev pub invariant-loop-arg : goal.invariant-loop-arg
invariant-loop-arg l =
    record {
      text : l.text ++ arg_lines (show_cell (mach_of l.machine).state.store.cells) l.place (drop l.arg-index l.args)
          ≡ arg_lines (show_cell (mach_of l.machine).state.store.cells) 0 l.args;
      place : l.place ≡ l.arg-index;
    }
