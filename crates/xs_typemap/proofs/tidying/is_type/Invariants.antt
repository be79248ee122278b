use Rattle.std.proofs.Common.{◌≡◌, drop}
use Rattle.xs_typemap.specs.TidiedTypes as spec
use Rattle.xs_typemap.proofs.tidying.is_type.Given as goal

abbrev pub invariant-loop-b : goal.invariant-loop-b
invariant-loop-b l = spec.is_type l.text ≡ spec.is_rest_of_type l.due (drop l.b-index l.text)
