use Rattle.std.proofs.Common.{◌≡◌, ◌+◌, ◌-◌, suc, [], ◌∷◌, ◌++◌, ◌∙◌, arith, length, rules}
use Rattle.xs_iface.proofs.Chains.{one_more}
use Rattle.xs_iface.proofs.scan.read_chain.Goals as goal

pub loop-turn-preserved : goal.loop-turn-preserved
loop-turn-preserved c =
    let end = length c.args.text.now in
    let turn = c.loop-turn._turn in
    let is_more : end - turn ≡ suc (end - (turn + 1)) = omega arith in
    let all : c.push.new.self ≡ c.loop-turn.words ++ c.cut_run.result.0.now ∷ [] = search rules in
    c.loop-turn.invariant
    ∙ one_more (end - (turn + 1)) (end - turn) c.args.divider.now c.loop-turn.rest.now c.cut_run.result.0.now c.cut_run.result.1.now c.in-Some.next.now
    c.loop-turn.words c.push.new.self is_more
    c.cut_run.ensures.front c.cut_run.ensures.after c.in-Some.ensures all
