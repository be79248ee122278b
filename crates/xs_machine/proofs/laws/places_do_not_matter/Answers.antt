use Rattle.xs_machine.proofs.BareCode.{places_do_not_matter}
use Rattle.xs_machine.proofs.laws.places_do_not_matter.Goals as goal

pub returns : goal.returns
returns c code = places_do_not_matter code
