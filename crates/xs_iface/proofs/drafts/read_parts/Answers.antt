use Rattle.std.proofs.Common.{◌≡◌, [], ◌∷◌, ◌++◌, ◌+◌, ◌∙◌, arith, rules}
use Rattle.xs_iface.specs.Iface.{draft_of}
use Rattle.xs_base.proofs.Collecting.{next_gives}
use Rattle.xs_iface.proofs.drafts.read_parts.Goals as goal

pub loop-part-preserved : goal.loop-part-preserved
loop-part-preserved c =
    let longer : c.push.new.self ≡ c.loop-part.drafts ++ c.in_ok-draft.draft ∷ [] = search rules in
    c.loop-part.invariant
    ∙ next_gives (draft_of c.args.s.now) c.loop-part.drafts c.push.new.self c.args.parts.now c.loop-part.part-index
    (c.loop-part.part-index + 1) c.part-item.result c.in_ok-draft.draft (omega arith) (omega arith) c.part-item.is
    c.in_ok-draft.ensures longer
