use Rattle.xs_ctree.proofs.Additions.{block_added}
use Rattle.xs_ctree.proofs.typed.Typed.add_block.Goals as goal

pub returns : goal.returns
returns c =
    block_added c.args.self.now c.add_slots.new.self c.add_parts.new.self c.add_stmt.new.self c.args.slots.now c.args.body.now
    c.in_ok-slots.slots c.in_ok-body.body c.add_stmt.result c.in_ok-slots.ensures c.in_ok-body.ensures c.requires c.add_stmt.ensures
