use Rattle.std.proofs.Common.{◌≡◌, drop, map}
use Rattle.xs_values.specs.Types.{kind_among}
use Rattle.xs_values.proofs.types.kind_in.Given as goal

abbrev pub invariant-loop-row : goal.invariant-loop-row
invariant-loop-row l =
    kind_among (map (λ row. (row.0.now, row.1)) l.table) l.words
    ≡ kind_among (map (λ row. (row.0.now, row.1)) (drop l.row-index l.table)) l.words
