use Rattle.xs_script.proofs.MeaningsAgree.{script_means, script_is}
use Rattle.xs_script.proofs.script.read_script.Goals as goal

pub returns-clause-sound : goal.returns-clause-sound
returns-clause-sound c = script_means c.commands.result c.args.src.now c.commands.ensures

pub returns-clause-complete : goal.returns-clause-complete
returns-clause-complete c = script_is c.commands.result c.args.src.now c.commands.ensures
