use Rattle.std.proofs.Common.{◌∙◌, ap}
use Rattle.xs_ctypes.specs.FileNames.{index_of}
use Rattle.xs_ctypes.proofs.file_names.FileNames.index_of.Goals as goal

pub returns : goal.returns
returns c =
    c.copied.ensures ∙ c.get.ensures.value ∙ c.self.invariant c.args.name.now
    ∙ ap (λ names. index_of names.functions c.args.name.now) c.self.view_is
