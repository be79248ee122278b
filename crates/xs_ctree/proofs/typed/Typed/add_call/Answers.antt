use Rattle.xs_ctree.proofs.Additions.{call_added}
use Rattle.xs_ctree.proofs.typed.Typed.add_call.Goals as goal

pub returns : goal.returns
returns c =
    call_added c.args.self.now c.add_parts.new.self c.add_expr.new.self c.args.line c.args.function c.args.args.now c.in_ok-range.range
    c.add_expr.result c.in_ok-range.ensures c.requires c.add_expr.ensures
