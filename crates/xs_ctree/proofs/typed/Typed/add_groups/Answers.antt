use Rattle.std.proofs.Common.{◌<◌, ◌∷◌, [], length, take, refl, arith}
use Rattle.xs_ctree.proofs.Additions.{groups_fit_more, next_stands, stands_more}
use Rattle.xs_ctree.proofs.typed.Typed.add_groups.Goals as goal

pub invariant_of-self-clause-fits : goal.invariant_of-self-clause-fits
invariant_of-self-clause-fits c =
    rw c.push.ensures.items (groups_fit_more _ _ _ _ _ _ _ _ c.add_group.new.self.fits _ (c.in_ok-node.node ∷ []))

pub loop-group-preserved : goal.loop-group-preserved
loop-group-preserved c =
    let gs = c.args.groups.now in
    let i = c.loop-group.group-index in
    let g = c.group-item.result in
    let within : i < length gs = omega (arith, c.loop-group-test.true) in
    next_stands c.args.self.now _ gs i g within c.group-item.is
    (stands_more c.args.self.now c.loop-group.self c.add_group.new.self _ (take i gs) g c.in_ok-node.node c.loop-group.invariant c.in_ok-node.ensures
    c.in_ok-push.ensures.items refl refl refl refl refl refl refl refl)
