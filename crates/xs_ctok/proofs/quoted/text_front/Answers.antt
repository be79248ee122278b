use Rattle.std.proofs.Common.{◌∙◌, ◌+◌, ◌-◌, sym, refl, ap, arith, length, take, drop, length-drop}
use Rattle.std.proofs.lemmas.List.{length-take}
use Rattle.xs_ctok.proofs.TokenSteps.{text_escape}
use Rattle.xs_ctok.proofs.quoted.text_front.Goals as goal

pub loop-rest-preserved-in-Stands : goal.loop-rest-preserved-in-Stands
loop-rest-preserved-in-Stands c =
    let rest = c.loop-rest.rest.now in
    record {
      all = c.loop-rest.invariant.all
          ∙ text_escape c.loop-rest.content rest c.loop-rest.n c.in-Stands.value c.in-Stands.len (c.loop-rest.n + (1 + c.in-Stands.len))
          c.in-len1-up.len_at_least c.if-b-eq34.false c.if-b-eq92.true (sym c.escape_of.ensures.value ∙ c.in-Stands.is) refl
          ∙ rw (c.in_ok-append-in-Stands.ensures.ok, c.split_at.ensures.back) refl;
      so_far = omega (
        arith,
        ap length c.split_at.ensures.back,
        c.in-Stands.ensures.within.1,
        c.loop-rest.invariant.so_far,
        c.in-len1-up.len_at_least,
        length-drop c.in-Stands.len (take (length rest - 1) (drop 1 rest)),
        length-take (length rest - 1) (drop 1 rest),
        length-drop 1 rest,
      );
    }
