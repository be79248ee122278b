use Rattle.std.proofs.Common.{◌≡◌, ◌∙◌, sym}
use Rattle.xs_cinput.specs.Operators.{assignment, assignments}
use Rattle.xs_cinput.proofs.FirstTokens.{first_in_by}
use Rattle.xs_cinput.proofs.lookahead.assignment.Goals as goal

pub returns : goal.returns
unfolding assignment assignments
returns c = c.sign_in.ensures ∙ sym (first_in_by assignments c.args.cursor.now.rest c.in_ok-first.field-0.now c.in_ok-first.ensures)
