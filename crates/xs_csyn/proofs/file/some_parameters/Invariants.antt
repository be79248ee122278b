use Rattle.std.proofs.Common.{◌≡◌, ◌-◌}
use Rattle.xs_csyn.specs.FileReader as spec
use Rattle.xs_csyn.proofs.file.some_parameters.Given as goal

abbrev pub invariant-loop-turn : goal.invariant-loop-turn
invariant-loop-turn l = spec.some_parameters l.fn.cursor ≡ spec.parameters_from (l._turn-end - l._turn) l.all l.cursor
