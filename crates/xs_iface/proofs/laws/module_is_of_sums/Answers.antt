use Rattle.xs_iface.proofs.ModulesAreSums.{module_gives_sums}
use Rattle.xs_iface.proofs.laws.module_is_of_sums.Goals as goal

pub returns : goal.returns
returns c = module_gives_sums
