use Rattle.std.proofs.Common.{◌≡◌, drop, map}
use Rattle.xs_ctok.specs.Numerals as spec
use Rattle.xs_ctok.proofs.numerals.suffix_among.Given as goal

-- the suffix is found among the rows that are left
abbrev pub invariant-loop-row : goal.invariant-loop-row
invariant-loop-row l = spec.suffix_among (map (λ row. spec.suffixed row.0.now row.1) l.rows) l.text
    ≡ spec.suffix_among (map (λ row. spec.suffixed row.0.now row.1) (drop l.row-index l.rows)) l.text
