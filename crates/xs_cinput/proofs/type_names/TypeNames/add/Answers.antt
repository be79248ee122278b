use Rattle.std.proofs.Common.{◌∙◌, sym}
use Rattle.xs_cinput.proofs.NamesHeld.{set_with}
use Rattle.xs_cinput.proofs.type_names.TypeNames.add.Goals as goal

pub returns-in_ok-insert : goal.returns-in_ok-insert
returns-in_ok-insert c =
    set_with c.self.inside.names.keys c.insert.new.self.keys c.in_ok-from_slice.field-0 c.args.name.now c.args.self.now
    c.in_ok-from_slice.ensures.items c.self.view_is (sym c.has.ensures ∙ c.if-not-has.true) c.in_ok-insert.ensures.keys
