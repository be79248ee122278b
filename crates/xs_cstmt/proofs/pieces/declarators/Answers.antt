use Rattle.std.proofs.Common.{◌∙◌, ◌+◌, ◌-◌, map, ap, sym}
use Rattle.std.specs.Prelude.{codes}
use Rattle.xs_base.proofs.Turns.{one_more}
use Rattle.xs_cinput.specs.TokenInput.{after}
use Rattle.xs_cstmt.specs.StatementReader.{declarators_from}
use Rattle.xs_cstmt.specs.StatementViews.{declarator_tree}
use Rattle.xs_cstmt.proofs.LoopTurns.{declarator_more, map_more}
use Rattle.xs_cstmt.proofs.pieces.declarators.Goals as goal

pub loop-turn-preserved : goal.loop-turn-preserved
loop-turn-preserved c =
    let left = c.turns-turn-end.result - (c.loop-turn._turn + 1) in
    let done = map declarator_tree c.loop-turn.all in
    one_more (λ n. declarators_from n done c.loop-turn.cursor) c.turns-turn-end.result c.loop-turn._turn c.loop-turn-test.true c.loop-turn.invariant
    ∙ declarator_more left done c.loop-turn.cursor c.declarator.new.cursor (declarator_tree c.in_ok-one.one) c.in_ok-one.ensures
    (sym c.eat-more.ensures.found ∙ c.if-not-more.false)
    ∙ ap (λ all. declarators_from left all (after (codes ",") c.declarator.new.cursor))
    (map_more declarator_tree c.loop-turn.all c.push.new.self c.in_ok-one.one c.in_ok-push.ensures.ok)
    ∙ ap (declarators_from left (map declarator_tree c.push.new.self)) (sym c.eat-more.ensures.after)
