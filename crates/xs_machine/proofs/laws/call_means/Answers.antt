use Rattle.xs_machine.proofs.Ends.{call_means}
use Rattle.xs_machine.proofs.laws.call_means.Goals as goal

pub returns : goal.returns
returns c code = call_means code
