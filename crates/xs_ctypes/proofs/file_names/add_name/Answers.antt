use Rattle.std.proofs.Common.{◌∙◌, sym}
use Rattle.xs_ctypes.proofs.HeldNames.{name_last, name_there}
use Rattle.xs_ctypes.proofs.file_names.add_name.Goals as goal

pub returns-in_ok-insert : goal.returns-in_ok-insert
returns-in_ok-insert c =
    name_last c.args.first.now c.insert.new.self.entries c.in_ok-from_slice.field-0 c.args.name.now c.args.at c.in_ok-from_slice.ensures.items
    (sym c.contains_key.ensures ∙ c.if-not-contains_key.true) c.in_ok-insert.ensures.entries

pub returns-else-not-contains_key : goal.returns-else-not-contains_key
returns-else-not-contains_key c =
    name_there c.args.name.now c.args.at c.args.first.now.entries (sym c.contains_key.ensures ∙ c.if-not-contains_key.false)
