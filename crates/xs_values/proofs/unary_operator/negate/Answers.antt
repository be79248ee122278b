use Rattle.std.proofs.Common.{ap, ◌∙◌}
use Rattle.xs_values.proofs.MachineWords.{negative_is}
use Rattle.xs_values.specs.Numbers.{settled}
use Rattle.xs_values.proofs.unary_operator.negate.Goals as goal

pub returns : goal.returns
returns c =
    c.settle.ensures
    ∙ ap (settled c.args.kind) (negative_is c.args.z (record { low = c.requires.low; high = c.requires.high }))
