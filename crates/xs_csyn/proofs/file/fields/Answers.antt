use Rattle.std.proofs.Common.{◌∙◌, ◌+◌, ◌-◌, List, ap, sym}
use Rattle.xs_base.proofs.Turns.{one_more}
use Rattle.xs_csyn.proofs.LoopTurns.{field_more}
use Rattle.xs_csyn.proofs.file.fields.Goals as goal
use Rattle.xs_csyn.specs.FileReader.{fields_from}
use Rattle.xs_csyn.specs.declared.tree.Par.{Par}

pub loop-turn-preserved : goal.loop-turn-preserved
loop-turn-preserved c =
    let left = c.turns-turn-end.result - (c.loop-turn._turn + 1) in
    one_more (λ n. fields_from n c.loop-turn.all c.loop-turn.cursor) c.turns-turn-end.result c.loop-turn._turn c.loop-turn-test.true c.loop-turn.invariant
    ∙ field_more left c.loop-turn.all c.loop-turn.cursor c.eat.new.self c.field.new.cursor c.in_ok-one.one (sym c.eat.ensures.found ∙ c.if-eat.false)
    c.eat.ensures.after c.in_ok-one.ensures
    ∙ ap (λ (all : List Par). fields_from left all c.field.new.cursor) (sym c.in_ok-push.ensures.ok)
