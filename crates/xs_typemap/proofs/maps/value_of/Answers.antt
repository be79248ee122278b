use Rattle.std.proofs.Common.{◌∙◌}
use Rattle.xs_typemap.proofs.WordsHeld.{value_held}
use Rattle.xs_typemap.proofs.maps.value_of.Goals as goal

pub returns : goal.returns
returns g c = c.get.ensures.value ∙ value_held c.args.words.now.entries c.args.word.now
