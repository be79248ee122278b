use Rattle.xs_values.proofs.MachineWords.{product_is}
use Rattle.xs_values.proofs.operator.product.Goals as goal

pub returns : goal.returns
returns c = product_is c.args.x c.args.y c.ranges.x c.ranges.y c.requires.left c.requires.right
