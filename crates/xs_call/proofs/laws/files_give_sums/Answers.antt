use Rattle.xs_call.proofs.JobsJoin.{each_file}
use Rattle.xs_call.proofs.laws.files_give_sums.Goals as goal

pub returns : goal.returns
returns c = each_file
