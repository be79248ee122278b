use Rattle.std.proofs.Common.{◌+◌, ◌-◌, ◌∙◌, arith, sym}
use Rattle.xs_cinput.proofs.StarSteps.{star_more}
use Rattle.xs_cinput.proofs.types.stars.Goals as goal

pub loop-turn-preserved : goal.loop-turn-preserved
loop-turn-preserved c = record {
  read = c.loop-turn.invariant.read
      ∙ star_more (c.turns-turn-end.result - (c.loop-turn._turn + 1)) (c.turns-turn-end.result - c.loop-turn._turn) c.loop-turn.n c.loop-turn.cursor
      c.eat.new.self (omega arith) (sym c.eat.ensures.found ∙ c.if-not-eat.false) c.eat.ensures.after;
  turns = omega arith;
}
