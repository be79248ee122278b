use Rattle.std.proofs.Common.{◌∙◌, ◌+◌, ◌-◌, ap, sym}
use Rattle.xs_base.proofs.Turns.{one_more}
use Rattle.xs_cstmt.specs.StatementReader.{labels_from}
use Rattle.xs_cstmt.proofs.LoopTurns.{label_more}
use Rattle.xs_cstmt.proofs.pieces.labels.Goals as goal

pub loop-turn-preserved : goal.loop-turn-preserved
loop-turn-preserved c =
    let left = c.turns-turn-end.result - (c.loop-turn._turn + 1) in
    one_more (λ n. labels_from n c.loop-turn.all c.loop-turn.cursor) c.turns-turn-end.result c.loop-turn._turn c.loop-turn-test.true c.loop-turn.invariant
    ∙ label_more left c.loop-turn.all c.loop-turn.cursor c.a_label.new.cursor c.in_ok-one.one c.in_ok-one.ensures
    (sym c.sees_label.ensures ∙ c.if-not-sees_label.false)
    ∙ ap (λ done. labels_from left done c.a_label.new.cursor) (sym c.in_ok-push.ensures.ok)
