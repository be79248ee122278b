use Rattle.xs_csyn.proofs.FilesSound.{file_sound, block_sound, expr_sound, args_sound}
use Rattle.xs_csyn.proofs.laws.sound_law.Goals as goal

pub returns-clause-files : goal.returns-clause-files
returns-clause-files c = file_sound

pub returns-clause-blocks : goal.returns-clause-blocks
returns-clause-blocks c = block_sound

pub returns-clause-exprs : goal.returns-clause-exprs
returns-clause-exprs c = expr_sound

pub returns-clause-arguments : goal.returns-clause-arguments
returns-clause-arguments c = args_sound
