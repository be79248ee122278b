use Rattle.std.proofs.Common.{◌≡◌, drop, map}
use Rattle.xs_base.specs.FaultTexts as spec
use Rattle.xs_base.proofs.fault_codes.text_in.Given as goal

-- the text is listed in the rows that are left, where it is listed
abbrev pub invariant-loop-row : goal.invariant-loop-row
invariant-loop-row l = spec.text_in (map (λ row. (row.0, row.1.now)) l.rows) l.code
    ≡ spec.text_in (map (λ row. (row.0, row.1.now)) (drop l.row-index l.rows)) l.code
