use Rattle.std.proofs.Common.{◌≡◌, drop, map}
use Rattle.xs_perlapi.specs.Table.{entry_view, has_word}
use Rattle.xs_perlapi.proofs.table.has_word.Given as goal

abbrev pub invariant-loop-entry : goal.invariant-loop-entry
invariant-loop-entry l =
    has_word (map entry_view l.entries) l.name ≡ has_word (map entry_view (drop l.entry-index l.entries)) l.name
