use Rattle.std.proofs.Common.{◌∙◌, ap, drop}
use Rattle.xs_ctypes.proofs.HeldNames.{slots_behind}
use Rattle.xs_ctypes.proofs.scopes.slots_from.Goals as goal

pub returns : goal.returns
returns c =
    c.in_ok-slots.ensures.items ∙ c.after.ensures ∙ ap (drop c.args.count) (c.as_slice.ensures ∙ c.values.ensures.rest)
    ∙ slots_behind c.args.known.now.entries c.args.count
