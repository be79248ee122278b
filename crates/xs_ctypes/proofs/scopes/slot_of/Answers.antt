use Rattle.std.proofs.Common.{◌∙◌}
use Rattle.xs_ctypes.proofs.HeldNames.{found_held}
use Rattle.xs_ctypes.proofs.scopes.slot_of.Goals as goal

pub returns : goal.returns
returns c = c.copied.ensures ∙ c.get.ensures.value ∙ found_held c.args.known.now.entries c.args.name.now
