-- The transcript of a C text: it is read, its names are resolved, and the machine runs it.
use Rattle.std.specs.Prelude.{ℕ, List, [], ◌++◌, length, codes, Option, None, Some}
use Rattle.xs_meaning.specs.declared.call_command.CallCommand.{CallCommand}
use Rattle.xs_meaning.specs.Transcript.{CallEnd, Returned, Croaked, Trapped, Spent, Report, call_text, croaked_text, end_report, in_front, live_line, own_trap_text, script_report, spent_text, trapped_text}
use Rattle.xs_api.specs.declared.heap.Cell.{Cell}
use Rattle.xs_machine.specs.declared.machine.Outcome.{Outcome}
use Rattle.xs_machine.specs.declared.machine.Outcome.TheVariants as outcome
use Rattle.xs_machine.specs.Machine.{Mach, booted, called, settled, with_world}
use Rattle.xs_sim.specs.MadeArguments.{Made, AllMade, NotMade, args_made}
use Rattle.xs_ctree.specs.TypedTree.{Code}
use Rattle.xs_api.specs.World.{Cells, World, cell_at, live_of}
use Rattle.xs_script.specs.ValueText.{value_text_of}

-- how many turns the boot may use, and each call
abbrev pub most_turns : ℕ
most_turns = 1000000

-- how a run of the machine ended, as a call's end; no run that is defined ends where memory runs
-- out
abbrev pub end_of : Outcome → CallEnd
end_of (outcome.Returned names) = Returned names
end_of (outcome.Croaked text) = Croaked text
end_of (outcome.Trapped trap) = Trapped trap
end_of outcome.Spent = Spent
end_of outcome.Memory = Spent

abbrev pub cell_text : Option Cell → List ℕ
cell_text None = codes "gone"
cell_text (Some c) = value_text_of c.value

abbrev pub show_cell : Cells → ℕ → List ℕ
show_cell cells name = cell_text (cell_at name cells)

-- ---- commands

-- after the temporaries' end: how many scalars live, and the marks and scopes that the call left
abbrev pub report_settled : ℕ → ℕ → Outcome → Mach World → Report (Mach World)
report_settled marks scopes (outcome.Returned names) m =
    record { text = live_line (live_of m.state.store.cells) marks scopes; next = Some m }
report_settled marks scopes (outcome.Croaked text) m =
    record { text = live_line (live_of m.state.store.cells) marks scopes; next = Some m }
report_settled marks scopes (outcome.Trapped trap) m =
    record { text = own_trap_text trap; next = None }
report_settled marks scopes outcome.Spent m = record { text = []; next = None }
report_settled marks scopes outcome.Memory m = record { text = []; next = None }

abbrev pub settled_report : Mach World → Report (Mach World)
settled_report m = report_settled (length m.state.store.marks) (length m.state.store.scopes)
    (settled m).stopped (settled m)

abbrev pub show_held : Mach World → ℕ → List ℕ
show_held m = show_cell m.state.store.cells

-- the lines of a call's end, and what follows them
abbrev pub report_at_end : List ℕ → List ℕ → CallEnd → Mach World → Report (Mach World)
report_at_end head args end m = end_report show_held settled_report head args end m

abbrev pub call_report_with : Code → CallCommand → Mach World → Made → Report (Mach World)
call_report_with code c m (AllMade names w) =
    report_at_end (call_text c) names
    (end_of (called code c.sub names most_turns (with_world w m)).stopped)
    (called code c.sub names most_turns (with_world w m))
call_report_with code c m (NotMade trap) = record { text = own_trap_text trap; next = None }

abbrev pub call_report : Code → Mach World → CallCommand → Report (Mach World)
call_report code m c = call_report_with code c m (args_made c.args m.state.store)

-- the line of the boot, and whether the script goes on after it
abbrev pub boot_report : CallEnd → Mach World → Report (Mach World)
boot_report (Returned items) m = in_front (codes "boot returned\n") (settled_report m)
boot_report (Croaked text) m =
    record { text = codes "boot" ++ (croaked_text text ++ (settled_report m).text); next = None }
boot_report (Trapped trap) m = record { text = codes "boot" ++ trapped_text trap; next = None }
boot_report Spent m = record { text = codes "boot" ++ spent_text; next = None }

-- The boot function runs first, and then each command.
unfoldable pub machine_transcript : Code → Mach World → List CallCommand → List ℕ
machine_transcript code new cs =
    script_report (call_report code) (boot_report (end_of (booted code most_turns new).stopped)
    (booted code most_turns new)) cs
