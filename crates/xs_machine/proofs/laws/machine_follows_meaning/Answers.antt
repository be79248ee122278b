use Rattle.xs_machine.specs.Dispatch.{counted_rows}
use Rattle.xs_machine.proofs.Follows.{exprs_run, follows}
use Rattle.xs_machine.proofs.laws.machine_follows_meaning.Goals as goal

pub returns : goal.returns
returns c = record { exprs = λ code. exprs_run counted_rows code; stmts = λ code. follows counted_rows code }
