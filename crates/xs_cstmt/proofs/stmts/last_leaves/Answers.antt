use Rattle.std.proofs.Common.{◌∙◌, false}
use Rattle.xs_cstmt.proofs.Leaving.{last_decides, none_leaves}
use Rattle.xs_cstmt.proofs.stmts.last_leaves.Goals as goal

pub returns-in-None : goal.returns-in-None
returns-in-None c = none_leaves c.args.body.now c.in-None.ensures.value

pub returns-in-Some : goal.returns-in-Some
returns-in-Some c = c.leaves.ensures ∙ last_decides false c.args.body.now c.in-Some.last.now c.in-Some.ensures.value
