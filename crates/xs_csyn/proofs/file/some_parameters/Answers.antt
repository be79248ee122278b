use Rattle.std.proofs.Common.{◌∙◌, ◌+◌, ◌-◌, List, ap, sym}
use Rattle.xs_base.proofs.Turns.{one_more}
use Rattle.xs_csyn.proofs.LoopTurns.{parameter_more}
use Rattle.xs_csyn.proofs.file.some_parameters.Goals as goal
use Rattle.xs_csyn.specs.FileReader.{parameters_from}
use Rattle.xs_csyn.specs.declared.tree.Par.{Par}

pub loop-turn-preserved : goal.loop-turn-preserved
loop-turn-preserved c =
    let left = c.turns-turn-end.result - (c.loop-turn._turn + 1) in
    one_more (λ n. parameters_from n c.loop-turn.all c.loop-turn.cursor) c.turns-turn-end.result c.loop-turn._turn c.loop-turn-test.true c.loop-turn.invariant
    ∙ parameter_more left c.loop-turn.all c.loop-turn.cursor c.parameter.new.cursor c.eat-more.new.self c.in_ok-one.one c.in_ok-one.ensures
    (sym c.eat-more.ensures.found ∙ c.if-not-more.false) c.eat-more.ensures.after
    ∙ ap (λ (all : List Par). parameters_from left all c.eat-more.new.self) (sym c.in_ok-push.ensures.ok)
