use Rattle.std.proofs.Common.{rules, arith}
use Rattle.std.proofs.lemmas.Grind.{common_steps}
use Rattle.xs_script.specs.Value as spec
use Rattle.xs_script.specs.Value.{turns}
use Rattle.xs_script.specs.Partial.{partial_of}
use Rattle.xs_base.proofs.Turns.{one_more}
use Rattle.xs_script.proofs.value.value.Goals as goal
use Rattle.xs_script.proofs.value.value.Goals.{in-None+in_ok-partial-in-None, in-Some+in-Some-pop_open+in_ok-partial-in-Some-pop_open}

pub loop-turn-preserved : goal.loop-turn-preserved
unfolding turns
loop-turn-preserved c =
    let e = one_more (λ n. spec.turns c.args.in_sub n (partial_of c.loop-turn.partial) c.loop-turn.cursor) _ c.loop-turn._turn c.loop-turn-test.true
    c.loop-turn.invariant in
    elim c.match-ended.branch [
      | in-None+in_ok-partial-in-None w ↦ first_of (search rules, grind (arith, common_steps))
      | in-Some+in-Some-pop_open+in_ok-partial-in-Some-pop_open w ↦ first_of (search rules, grind (arith, common_steps))
    ]
