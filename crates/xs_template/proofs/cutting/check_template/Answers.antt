use Rattle.xs_template.proofs.FollowsText.{follows}
use Rattle.xs_template.proofs.cutting.check_template.Goals as goal

pub returns-clause-rules : goal.returns-clause-rules
returns-clause-rules c = follows c.args.c.now c.cut_code.result c.cut_code.ensures
