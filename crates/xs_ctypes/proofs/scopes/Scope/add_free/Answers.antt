use Rattle.std.proofs.Common.{◌∙◌, sym}
use Rattle.xs_ctypes.proofs.HeldNames.{free_name}
use Rattle.xs_ctypes.proofs.scopes.Scope.add_free.Goals as goal

pub add-requires : goal.add-requires
add-requires c = free_name c.args.self.now.variables c.args.name.now (sym c.is_in_use.ensures ∙ c.if-is_in_use.false)
