use Rattle.xs_ctypes.proofs.HeldNames.{held_last}
use Rattle.xs_ctypes.proofs.scopes.add_last.Goals as goal

pub returns : goal.returns
returns c =
    held_last c.args.known.now c.insert.new.self.entries c.in_ok-from_slice.field-0 c.args.name.now c.args.slot c.in_ok-from_slice.ensures.items
    c.requires c.in_ok-insert.ensures.entries
