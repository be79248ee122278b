use Rattle.std.proofs.Common.{◌≡◌, ◌+◌, ◌-◌, drop, map}
use Rattle.xs_cinput.specs.Operators.{listed}
use Rattle.xs_cinput.proofs.operators.listed.Given as goal

abbrev pub invariant-loop-row : goal.invariant-loop-row
invariant-loop-row g l = listed (map (λ row. (row.0.now, row.1)) l.table) l.word
    ≡ listed (map (λ row. (row.0.now, row.1)) (drop l.row-index l.table)) l.word
