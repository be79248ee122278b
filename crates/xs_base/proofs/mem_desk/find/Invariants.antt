use Rattle.std.proofs.Common.{◌≡◌, drop}
use Rattle.xs_base.specs.InMemory.{held}
use Rattle.xs_base.proofs.mem_desk.find.Given as goal

-- the file stands among those that are left
abbrev pub invariant-loop-file : goal.invariant-loop-file
invariant-loop-file l = held (drop l.file-index l.files) l.name ≡ held l.files l.name
