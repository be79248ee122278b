use Rattle.xs_ctree.proofs.Additions.{croak_added}
use Rattle.xs_ctree.proofs.typed.Typed.add_croak.Goals as goal

pub returns : goal.returns
returns c =
    croak_added c.args.self.now c.add_text.new.self c.add_parts.new.self c.add_expr.new.self c.args.line c.args.format c.in_ok-text.text
    c.args.operands.now c.in_ok-range.range c.add_expr.result c.in_ok-text.ensures c.in_ok-range.ensures c.requires c.add_expr.ensures
