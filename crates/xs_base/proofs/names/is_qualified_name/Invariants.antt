use Rattle.std.proofs.Common.{◌≡◌, drop}
use Rattle.xs_base.specs.Names as spec
use Rattle.xs_base.proofs.names.is_qualified_name.Given as goal

abbrev pub invariant-loop-b : goal.invariant-loop-b
invariant-loop-b l = spec.is_qualified_name l.text ≡ spec.is_rest_of_name l.due (drop l.b-index l.text)
