use Rattle.xs_iface.proofs.BuiltForms.{module_is_built}
use Rattle.xs_iface.proofs.laws.module_is_of_built_forms.Goals as goal

pub returns : goal.returns
returns c = module_is_built
