use Rattle.xs_csyn.proofs.FilesComplete.{block_unique, expr_unique, file_unique}
use Rattle.xs_csyn.proofs.laws.unique_law.Goals as goal

pub returns-clause-files : goal.returns-clause-files
returns-clause-files c = file_unique

pub returns-clause-exprs : goal.returns-clause-exprs
returns-clause-exprs c = expr_unique

pub returns-clause-blocks : goal.returns-clause-blocks
returns-clause-blocks c = block_unique
