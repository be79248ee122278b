use Rattle.std.proofs.Common.{◌≡◌, ◌∙◌, sym}
use Rattle.xs_cinput.specs.Operators.{binary_ops, operator}
use Rattle.xs_cinput.proofs.FirstTokens.{first_in_by, loose, tight_enough}
use Rattle.xs_cinput.proofs.lookahead.operator.Goals as goal

pub returns-in-Some : goal.returns-in-Some
unfolding operator binary_ops
returns-in-Some c =
    tight_enough c.args.tight _ _ _ (first_in_by binary_ops c.args.cursor.now.rest c.in_ok-first.field-0.now c.in_ok-first.ensures ∙ sym c.in-Some.ensures)
    c.if-tight-binds.true

pub returns-in_default : goal.returns-in_default
unfolding operator binary_ops
returns-in_default c =
    loose c.args.tight _ _ _ (first_in_by binary_ops c.args.cursor.now.rest c.in_ok-first.field-0.now c.in_ok-first.ensures ∙ sym c.in-Some.ensures)
    c.if-tight-binds.false
