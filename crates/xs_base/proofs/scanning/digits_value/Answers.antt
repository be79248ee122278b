use Rattle.std.proofs.Common.{◌^◌, arith}
use Rattle.xs_base.proofs.Digits.{too_wide}
use Rattle.xs_base.proofs.scanning.digits_value.Goals as goal

pub returns-in_default-clause-none : goal.returns-in_default-clause-none
returns-in_default-clause-none c =
    rw c.loop-b.invariant (too_wide c.loop-b.n c.loop-b.b-index (2 ^ 64) c.args.digits.now (omega arith) (omega (arith, c.in_default.ensures)))

pub returns-in_default-checked_add-clause-none : goal.returns-in_default-checked_add-clause-none
returns-in_default-checked_add-clause-none c =
    rw c.loop-b.invariant
    (too_wide c.loop-b.n c.loop-b.b-index (2 ^ 64) c.args.digits.now (omega arith)
    (omega (arith, c.in_default-checked_add.ensures, c.in-Some.ensures, c.saturating_sub.ensures)))
