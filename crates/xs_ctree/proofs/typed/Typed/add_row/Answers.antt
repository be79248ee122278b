use Rattle.xs_ctree.proofs.Additions.{row_added}
use Rattle.xs_ctree.proofs.typed.Typed.add_row.Goals as goal

pub returns : goal.returns
returns c =
    row_added c.args.self.now c.add_parts.new.self c.add_expr.new.self c.args.line c.args.row c.args.operands.now c.in_ok-range.range
    c.add_expr.result c.in_ok-range.ensures c.requires c.add_expr.ensures
