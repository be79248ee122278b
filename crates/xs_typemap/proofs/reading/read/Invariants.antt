use Rattle.std.proofs.Common.{◌≡◌, drop}
use Rattle.xs_typemap.specs.TypemapSteps.{begun, read_from}
use Rattle.xs_typemap.proofs.reading.read.Given as goal

-- what was read so far, and the lines that are left
abbrev pub invariant-loop-line : goal.invariant-loop-line
invariant-loop-line l = read_from l.file begun l.lines ≡ read_from l.file l.reading (drop l.line-index l.lines)
