use Rattle.std.proofs.Common.{◌≡◌, ◌-◌, length, arith}
use Rattle.xs_machine.proofs.Tops.{popped_split}
use Rattle.xs_machine.proofs.work.pop_operands.Goals as goal

pub returns : goal.returns
returns c =
    let at : c.saturating_sub-at.result ≡ length c.args.stack.now.items - c.args.n =
    omega (arith, c.saturating_sub-at.ensures, c.len.ensures, c.args.stack.now.ok.0) in
    rw (c.in_ok-operands.ensures.items, c.in_ok-operands.ensures.tail) (popped_split c.args.stack.now.items c.args.n c.saturating_sub-at.result at)
