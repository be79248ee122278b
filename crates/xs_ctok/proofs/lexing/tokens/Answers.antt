use Rattle.std.proofs.Common.{◌∙◌, ◌+◌, ap, drop, refl}
use Rattle.std.proofs.lemmas.Result.{err_from_is_err_and}
use Rattle.xs_base.specs.Reading.{with_front}
use Rattle.xs_base.proofs.Collecting.{fails_then}
use Rattle.xs_ctok.specs.Tokens.{cut_of, tokens_from}
use Rattle.xs_ctok.proofs.TokenSteps.{all_read, line_read, nothing_after, tokens_from-drop}
use Rattle.xs_ctok.proofs.lexing.tokens.Goals as goal

pub loop-line-preserved : goal.loop-line-preserved
loop-line-preserved c =
    let at = c.loop-line.line-index in
    let all = c.args.src.now in
    c.loop-line.invariant
    ∙ ap (with_front c.loop-line.out) (tokens_from-drop c.args.file c.loop-line.opened all at c.line-item.result c.loop-line-test.true)
    ∙ rw (← c.line-item.is)
    (line_read c.loop-line.out c.cut_line.new.out c.in_ok-opened.opened (cut_of c.args.file c.loop-line.opened c.line-item.result)
    (λ o. tokens_from c.args.file o (drop (at + 1) all)) c.in_ok-opened.ensures)

pub returns-in_err-opened : goal.returns-in_err-opened
returns-in_err-opened c =
    let at = c.loop-line.line-index in
    let all = c.args.src.now in
    let p = err_from_is_err_and c.from_residual.result c.from_residual.ensures.1 in
    rw (p.1, p.2, c.loop-line.invariant, tokens_from-drop c.args.file c.loop-line.opened all at c.line-item.result c.loop-line-test.true, ← c.line-item.is)
    (fails_then _ c.loop-line.out (cut_of c.args.file c.loop-line.opened c.line-item.result)
    (λ d. with_front d.tokens (tokens_from c.args.file d.open_at (drop (at + 1) all))) c.in_err-opened.ensures)

pub returns-in-None : goal.returns-in-None
returns-in-None c =
    c.loop-line.invariant ∙ all_read c.args.file c.loop-line.opened c.args.src.now c.loop-line.line-index c.loop-line.out c.loop-line-test.false
    ∙ rw c.in-None.is (nothing_after c.loop-line.out)

pub returns-in-Some : goal.returns-in-Some
returns-in-Some c =
    c.loop-line.invariant ∙ all_read c.args.file c.loop-line.opened c.args.src.now c.loop-line.line-index c.loop-line.out c.loop-line-test.false
    ∙ rw (c.in-Some.is, c.bare.ensures) refl
