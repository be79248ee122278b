use Rattle.xs_csyn.proofs.FilesComplete.{file_deep, file_unread, block_deep, expr_deep, args_deep}
use Rattle.xs_csyn.proofs.laws.deep_law.Goals as goal

pub returns-clause-files : goal.returns-clause-files
returns-clause-files c = file_deep

pub returns-clause-unread : goal.returns-clause-unread
returns-clause-unread c = file_unread

pub returns-clause-blocks : goal.returns-clause-blocks
returns-clause-blocks c = block_deep

pub returns-clause-exprs : goal.returns-clause-exprs
returns-clause-exprs c = expr_deep

pub returns-clause-arguments : goal.returns-clause-arguments
returns-clause-arguments c = args_deep
