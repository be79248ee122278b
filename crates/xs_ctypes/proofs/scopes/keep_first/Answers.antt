use Rattle.std.proofs.Common.{◌∙◌, ap, map, sym}
use Rattle.std.proofs.lemmas.List.{take-map}
use Rattle.xs_ctypes.specs.Scopes.{held}
use Rattle.xs_ctypes.proofs.scopes.keep_first.Goals as goal

pub returns : goal.returns
returns c = ap (map held) c.truncate.ensures.entries ∙ sym (take-map held c.args.count c.args.known.now.entries)
