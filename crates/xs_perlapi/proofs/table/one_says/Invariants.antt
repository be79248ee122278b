use Rattle.std.proofs.Common.{◌≡◌, drop, map}
use Rattle.xs_perlapi.specs.Table.{one_says, word_entry}
use Rattle.xs_perlapi.proofs.table.one_says.Given as goal

abbrev pub invariant-loop-entry : goal.invariant-loop-entry
invariant-loop-entry l =
    one_says l.wanted l.name (map word_entry l.entries) ≡ one_says l.wanted l.name (map word_entry (drop l.entry-index l.entries))
