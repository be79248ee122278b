use Rattle.std.proofs.Common.{rules, arith}
use Rattle.std.proofs.lemmas.Grind.{common_steps}
use Rattle.xs_script.specs.Rules.{arguments_from, listed}
use Rattle.xs_script.specs.CommandViews.{exprs_in}
use Rattle.xs_base.proofs.Turns.{one_more}
use Rattle.xs_script.proofs.command_reading.some_arguments.Goals as goal

pub returns-in_err-e : goal.returns-in_err-e
unfolding listed
returns-in_err-e c =
    let e = one_more (λ n. arguments_from c.args.in_sub n (exprs_in c.loop-turn.all) c.loop-turn.cursor) _ c.loop-turn._turn c.loop-turn-test.true
    c.loop-turn.invariant in
    first_of (search rules, grind (arith, common_steps))

pub returns-in_err-expect : goal.returns-in_err-expect
unfolding listed
returns-in_err-expect c =
    let e = one_more (λ n. arguments_from c.args.in_sub n (exprs_in c.loop-turn.all) c.loop-turn.cursor) _ c.loop-turn._turn c.loop-turn-test.true
    c.loop-turn.invariant in
    first_of (search rules, grind (arith, common_steps))

pub returns-then-not-eat : goal.returns-then-not-eat
unfolding listed
returns-then-not-eat c =
    let e = one_more (λ n. arguments_from c.args.in_sub n (exprs_in c.loop-turn.all) c.loop-turn.cursor) _ c.loop-turn._turn c.loop-turn-test.true
    c.loop-turn.invariant in
    first_of (search rules, grind (arith, common_steps))

pub loop-turn-preserved : goal.loop-turn-preserved
unfolding listed
loop-turn-preserved c =
    let e = one_more (λ n. arguments_from c.args.in_sub n (exprs_in c.loop-turn.all) c.loop-turn.cursor) _ c.loop-turn._turn c.loop-turn-test.true
    c.loop-turn.invariant in
    first_of (search rules, grind (arith, common_steps))
