use Rattle.xs_cstmt.specs.PerlForms.{new_xs}
use Rattle.xs_cstmt.proofs.forms.new_xs.Goals as goal

pub returns : goal.returns
unfolding new_xs
returns c = rw (c.in_ok-expect_word.ensures, c.in_ok-expect.ensures, c.in_ok-full.ensures) c.registered.ensures
