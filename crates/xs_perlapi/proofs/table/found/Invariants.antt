use Rattle.std.proofs.Common.{◌≡◌, drop, map}
use Rattle.xs_perlapi.specs.Table.{entry_view, found}
use Rattle.xs_perlapi.proofs.table.found.Given as goal

abbrev pub invariant-loop-entry : goal.invariant-loop-entry
invariant-loop-entry l =
    found l.written l.name (map entry_view l.entries) ≡ found l.written l.name (map entry_view (drop l.entry-index l.entries))
