use Rattle.std.proofs.Common.{◌≡◌, ◌+◌, ◌-◌, drop, map}
use Rattle.xs_cinput.specs.TypeReader.{is_joined_by}
use Rattle.xs_cinput.proofs.types.is_joined_by.Given as goal

abbrev pub invariant-loop-row : goal.invariant-loop-row
invariant-loop-row l = is_joined_by (map (λ row. (row.0.now, row.1.now)) l.table) l.name l.word
    ≡ is_joined_by (map (λ row. (row.0.now, row.1.now)) (drop l.row-index l.table)) l.name l.word
