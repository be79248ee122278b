use Rattle.xs_machine.proofs.Ends.{run_ends}
use Rattle.xs_machine.proofs.laws.run_ends.Goals as goal

pub returns : goal.returns
returns c code = run_ends code
