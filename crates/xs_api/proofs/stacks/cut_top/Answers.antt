use Rattle.std.proofs.Common.{reverse, ap, ◌∙◌}
use Rattle.xs_api.proofs.StackCuts.{cut-reverse}
use Rattle.xs_api.proofs.stacks.cut_top.Goals as goal

pub returns : goal.returns
returns g c = ap reverse c.truncate.ensures.items ∙ cut-reverse c.args.stack.now.items c.args.height
