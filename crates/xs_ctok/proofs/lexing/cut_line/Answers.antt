use Rattle.std.proofs.Common.{◌<◌, ◌∙◌, ap, length, refl, arith, rules}
use Rattle.std.proofs.lemmas.Result.{err_from_is_err_and}
use Rattle.std.specs.Option.{option_to_list}
use Rattle.xs_ctok.specs.Tokens.{with_tokens}
use Rattle.xs_ctok.proofs.TokenSteps.{at_end, at_step, fails_at, fails_through, with_tokens-with_tokens}
use Rattle.xs_ctok.proofs.lexing.cut_line.Goals as goal

pub returns-in_err-token : goal.returns-in_err-token
returns-in_err-token c =
    let some : 0 < length c.loop-rest.rest.now = search rules in
    let p = err_from_is_err_and c.from_residual.result c.from_residual.ensures.1 in
    rw (p.1, p.2)
    (fails_through _ c.args.out.now c.loop-rest.out _ _ c.loop-rest.invariant.read
    (fails_at c.args.file c.args.line.now.number _ c.loop-rest.mode c.loop-rest.col c.loop-rest.rest.now some c.in_err-token.ensures.read))

pub loop-rest-preserved : goal.loop-rest-preserved
loop-rest-preserved c =
    let some : 0 < length c.loop-rest.rest.now = search rules in
    let moved = c.in_ok-token.field-0 in
    record {
      read = c.loop-rest.invariant.read
          ∙ ap (with_tokens c.loop-rest.out)
          (at_step c.args.file c.args.line.now.number c.loop-rest.mode c.loop-rest.col c.loop-rest.rest.now moved some c.in_ok-token.ensures.within.0
          c.in_ok-token.ensures.read)
          ∙ with_tokens-with_tokens c.loop-rest.out (option_to_list moved.token) _
          ∙ rw (c.in_ok-push_some.ensures, c.split_at.ensures.back) refl;
      place = omega (arith, c.split_at.ensures.back_len, c.loop-rest.invariant.place, c.in_ok-token.ensures.within.1);
    }

pub returns : goal.returns
returns c =
    c.loop-rest.invariant.read
    ∙ at_end c.args.file c.args.line.now.number c.loop-rest.mode c.loop-rest.col c.loop-rest.rest.now c.loop-rest.out (search rules)
    ∙ rw c.open_in.ensures refl
