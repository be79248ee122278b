use Rattle.std.proofs.Common.{◌≡◌, drop, map}
use Rattle.xs_template.specs.Variables.{variable_in}
use Rattle.xs_template.proofs.variables.variable_in.Given as goal

abbrev pub invariant-loop-row : goal.invariant-loop-row
invariant-loop-row l =
    variable_in (map (λ row. (row.0.now, row.1)) l.rows) l.name ≡ variable_in (map (λ row. (row.0.now, row.1)) (drop l.row-index l.rows)) l.name
