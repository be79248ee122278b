use Rattle.xs_values.proofs.Wrapping.{conversion_is}
use Rattle.xs_values.proofs.laws.conversion_is_the_number.Goals as goal

pub returns : goal.returns
returns c = conversion_is
