use Rattle.std.proofs.Common.{sym, ◌∙◌, true, ◌≡◌}
use Rattle.xs_perlapi.specs.Table.{signature_view}
use Rattle.xs_ccheck.specs.ExprTyping.{all_fit}
use Rattle.xs_ccheck.specs.Resolving.{all_typed_in}
use Rattle.xs_ccheck.proofs.Loops.{row_typed}
use Rattle.xs_ccheck.proofs.calls.row_called.Goals as goal

pub returns : goal.returns
returns c =
    let old = c.args.typed.now in
    let fit : all_fit (signature_view c.args.row).operands (all_typed_in old c.args.xs.now) ≡ true = sym (c.all_fit.ensures old) ∙ c.if-not-all_fit.false in
    row_typed c.args.line (signature_view c.args.row) old c.add_row.new.self c.args.xs.now c.as_slice.result.now c.in_ok-node.node c.result_type.result
    (c.as_slice.ensures.value ∙ c.in_ok-operands.ensures) c.result_type.ensures fit c.in_ok-node.ensures
