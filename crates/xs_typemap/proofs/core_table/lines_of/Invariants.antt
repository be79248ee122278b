use Rattle.std.proofs.Common.{◌≡◌, ◌++◌, drop, map}
use Rattle.xs_typemap.specs.CoreTypes.{core_line}
use Rattle.xs_typemap.proofs.core_table.lines_of.Given as goal

-- the lines so far, and those of what is left
abbrev pub invariant-loop-text : goal.invariant-loop-text
invariant-loop-text l = l.lines ++ map (λ text. core_line text.now) (drop l.text-index l.texts) ≡ map (λ text. core_line text.now) l.texts
