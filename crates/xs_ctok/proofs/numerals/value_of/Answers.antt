use Rattle.std.proofs.Common.{◌^◌, arith}
use Rattle.xs_ctok.proofs.DigitValues.{too_wide, scaled}
use Rattle.xs_ctok.proofs.numerals.value_of.Goals as goal

pub returns-in_default-clause-none : goal.returns-in_default-clause-none
returns-in_default-clause-none c =
    let e = scaled c.args.base c.loop-b.n c.radix.result c.radix.ensures in
    rw c.loop-b.invariant
    (too_wide c.args.base c.loop-b.n c.loop-b.b-index (2 ^ 64) c.args.digits.now (omega (arith, c.loop-b-test.true))
    (omega (arith, c.in_default.ensures, e)))

pub returns-in_default-checked_add-clause-none : goal.returns-in_default-checked_add-clause-none
returns-in_default-checked_add-clause-none c =
    let e = scaled c.args.base c.loop-b.n c.radix.result c.radix.ensures in
    rw c.loop-b.invariant
    (too_wide c.args.base c.loop-b.n c.loop-b.b-index (2 ^ 64) c.args.digits.now (omega (arith, c.loop-b-test.true))
    (omega (arith, c.in_default-checked_add.ensures, c.in-Some.ensures.1, c.digit_value.ensures, e)))
