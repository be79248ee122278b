use Rattle.std.proofs.Common.{◌<◌, ◌∙◌, ap, sym, length, arith, refl, rules}
use Rattle.xs_script.proofs.LexSteps.{at_blank, at_nothing, at_piece, at_end}
use Rattle.xs_script.proofs.line_parts.tokens.Goals as goal

pub loop-rest-preserved-in-Blank : goal.loop-rest-preserved-in-Blank
loop-rest-preserved-in-Blank c =
    let some : 0 < length c.loop-rest.rest.now = search rules in
    record {
      read = c.loop-rest.invariant.read ∙ at_blank c.loop-rest.out c.loop-rest.rest.now some (sym c.in_ok-front.ensures.value ∙ c.in-Blank.is)
          ∙ rw c.split_at.ensures.back refl;
      within = omega (arith, ap length c.split_at.ensures.back, c.split_at.ensures.back_len);
    }

pub loop-rest-preserved : goal.loop-rest-preserved
loop-rest-preserved c =
    let some : 0 < length c.loop-rest.rest.now = search rules in
    let fits = rw c.in-Piece.is at c.in_ok-front.ensures.within in
    record {
      read = c.loop-rest.invariant.read
          ∙ at_piece c.loop-rest.out c.loop-rest.rest.now c.in-Piece.token c.in-Piece.len some fits.0 (sym c.in_ok-front.ensures.value ∙ c.in-Piece.is)
          ∙ rw (c.in_ok-push-in-Piece.ensures.ok, c.split_at-in-Piece.ensures.back) refl;
      within = omega (arith, c.split_at-in-Piece.ensures.back_len);
    }

pub returns-in-Nothing : goal.returns-in-Nothing
returns-in-Nothing c =
    let some : 0 < length c.loop-rest.rest.now = search rules in
    c.loop-rest.invariant.read ∙ at_nothing c.loop-rest.out c.loop-rest.rest.now some (sym c.in_ok-front.ensures.value ∙ c.in-Nothing.is)

pub returns : goal.returns
returns c = c.loop-rest.invariant.read ∙ at_end c.loop-rest.out c.loop-rest.rest.now (search rules)
