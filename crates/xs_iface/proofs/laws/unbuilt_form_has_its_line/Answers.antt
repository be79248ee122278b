use Rattle.xs_iface.proofs.BuiltForms.{unbuilt_stands}
use Rattle.xs_iface.proofs.laws.unbuilt_form_has_its_line.Goals as goal

pub returns : goal.returns
returns c = unbuilt_stands
