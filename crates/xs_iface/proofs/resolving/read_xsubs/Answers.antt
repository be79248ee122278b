use Rattle.std.proofs.Common.{◌≡◌, [], ◌∷◌, ◌++◌, ◌+◌, ◌∙◌, arith, rules}
use Rattle.xs_iface.specs.Iface.{xsub_of}
use Rattle.xs_base.proofs.Collecting.{next_gives}
use Rattle.xs_iface.proofs.resolving.read_xsubs.Goals as goal

pub loop-draft-preserved : goal.loop-draft-preserved
loop-draft-preserved c =
    let longer : c.push.new.self ≡ c.loop-draft.xsubs ++ c.in_ok-xsub.xsub ∷ [] = search rules in
    c.loop-draft.invariant
    ∙ next_gives xsub_of c.loop-draft.xsubs c.push.new.self c.args.drafts.now c.loop-draft.draft-index
    (c.loop-draft.draft-index + 1) c.draft-item.result c.in_ok-xsub.xsub (omega arith) (omega arith) c.draft-item.is
    c.in_ok-xsub.ensures longer
