use Rattle.std.proofs.Common.{ap, ◌∙◌}
use Rattle.xs_values.proofs.MachineWords.{sum_is}
use Rattle.xs_values.specs.Numbers.{settled}
use Rattle.xs_values.proofs.operator.add.Goals as goal

pub returns : goal.returns
returns c =
    c.settle.ensures
    ∙ ap (settled c.args.kind) (sum_is c.args.x c.args.y
    (record { low = c.requires.x_low; high = c.requires.x_high }) (record { low = c.requires.y_low; high = c.requires.y_high }))
