use Rattle.std.proofs.Common.{◌≡◌}
use Rattle.std.specs.Prelude.{replicate}
use Rattle.xs_api.specs.declared.api.Operand.TheVariants.{Unset}
use Rattle.xs_machine.proofs.work.unset_vars.Given as goal

abbrev pub invariant-loop : goal.invariant-loop
invariant-loop l = l.vars.items ≡ replicate l.counter Unset
