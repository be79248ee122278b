use Rattle.std.proofs.Common.{drop}
use Rattle.xs_ccheck.specs.FileTyping as spec
use Rattle.xs_ccheck.proofs.Lists.{DefinesSoFar}
use Rattle.xs_ccheck.proofs.file.defines.Given as goal

abbrev pub invariant-loop-d : goal.invariant-loop-d
invariant-loop-d l = DefinesSoFar l.least (spec.defines l.defines) (spec.defines (drop l.d-index l.defines))
