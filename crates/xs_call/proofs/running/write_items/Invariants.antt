use Rattle.std.proofs.Common.{◌≡◌, ◌++◌, drop}
use Rattle.xs_call.specs.MachineTranscript.{show_cell}
use Rattle.xs_meaning.specs.Transcript.{item_lines}
use Rattle.xs_machine.specs.MachineViews.{mach_of}
use Rattle.xs_call.proofs.running.write_items.Given as goal

-- the lines so far, and those that are left
abbrev pub invariant-loop-item : goal.invariant-loop-item
invariant-loop-item l =
    record {
      text : l.text ++ item_lines (show_cell (mach_of l.machine).state.store.cells) l.args l.place (drop l.item-index l.items)
          ≡ item_lines (show_cell (mach_of l.machine).state.store.cells) l.args 0 l.items;
      place : l.place ≡ l.item-index;
    }
