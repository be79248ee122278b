use Rattle.xs_typemap.proofs.CoreRead.{core_given}
use Rattle.xs_typemap.proofs.core_table.core_typemap.Goals as goal

pub returns-clause-exact : goal.returns-clause-exact
returns-clause-exact c = core_given c.read_core.result c.read_core.ensures.exact
