use Rattle.xs_csyn.proofs.FilesComplete.{file_complete, block_complete, expr_complete, args_complete}
use Rattle.xs_csyn.proofs.laws.complete_law.Goals as goal

pub returns-clause-files : goal.returns-clause-files
returns-clause-files c = file_complete

pub returns-clause-blocks : goal.returns-clause-blocks
returns-clause-blocks c = block_complete

pub returns-clause-exprs : goal.returns-clause-exprs
returns-clause-exprs c = expr_complete

pub returns-clause-arguments : goal.returns-clause-arguments
returns-clause-arguments c = args_complete
