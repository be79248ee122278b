use Rattle.std.proofs.Common.{◌≡◌, ◌++◌, drop}
use Rattle.xs_csyn.specs.FileReader.{defines_of}
use Rattle.xs_csyn.proofs.file.defines.Given as goal

abbrev pub invariant-loop-t : goal.invariant-loop-t
invariant-loop-t l = defines_of l.tokens ≡ l.all ++ defines_of (drop l.t-index l.tokens)
