use Rattle.std.proofs.Common.{ap, ◌∙◌}
use Rattle.xs_values.proofs.MachineWords.{difference_is}
use Rattle.xs_values.specs.Numbers.{settled}
use Rattle.xs_values.proofs.operator.subtract.Goals as goal

pub returns : goal.returns
returns c =
    c.settle.ensures
    ∙ ap (settled c.args.kind) (difference_is c.args.x c.args.y
    (record { low = c.requires.x_low; high = c.requires.x_high }) (record { low = c.requires.y_low; high = c.requires.y_high }))
