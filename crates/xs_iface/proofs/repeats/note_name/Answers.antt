use Rattle.std.proofs.Common.{◌∙◌, ap, not}
use Rattle.xs_iface.proofs.Noted.{set_has}
use Rattle.xs_iface.proofs.repeats.note_name.Goals as goal

pub returns-clause-new : goal.returns-clause-new
returns-clause-new c = c.in_ok-is_new.ensures.added ∙ ap not (set_has c.args.names.now.keys c.args.name)
