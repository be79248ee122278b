-- The table of operators has the levels of C's grammar.
use Rattle.std.proofs.Common.{refl}
use Rattle.xs_cinput.specs.OperatorLevels.{OperatorsHaveTheirLevels}
use Rattle.xs_cinput.specs.Operators.{binary_ops}

pub operators_have_their_levels : OperatorsHaveTheirLevels
unfolding binary_ops
operators_have_their_levels = refl
