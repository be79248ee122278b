use Rattle.xs_ctree.proofs.Extending.{first_ranged}
use Rattle.xs_ctree.proofs.typed.first_in.Goals as goal

pub returns-in-Some : goal.returns-in-Some
returns-in-Some g c = first_ranged c.args.items.now.items c.args.range c.in-Some.first c.in-Some.ensures c.if-range-eq0.false
