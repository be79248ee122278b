use Rattle.std.proofs.Common.{sym}
use Rattle.xs_cstmt.proofs.Leaving.{no_call}
use Rattle.xs_cstmt.proofs.stmts.is_leaving_call.Goals as goal

pub returns-in_default : goal.returns-in_default
returns-in_default c = sym (no_call c.args.a.now c.in_default.not-Call)
