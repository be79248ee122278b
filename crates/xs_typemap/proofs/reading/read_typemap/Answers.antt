use Rattle.xs_typemap.proofs.EntriesKept.{given_distinct}
use Rattle.xs_typemap.proofs.FollowsLines.{follows}
use Rattle.xs_typemap.proofs.reading.read_typemap.Goals as goal

pub returns-clause-format : goal.returns-clause-format
returns-clause-format c = follows c.args.file c.args.lines.now c.read.result c.read.ensures

pub returns-clause-distinct : goal.returns-clause-distinct
returns-clause-distinct c = given_distinct c.args.file c.args.lines.now c.read.result c.read.ensures
