use Rattle.std.proofs.Common.{map, drop}
use Rattle.xs_csyn.specs.FileViews.{item_tree}
use Rattle.xs_ccheck.specs.FileTyping as spec
use Rattle.xs_ccheck.proofs.Loops.{FunctionsSoFar}
use Rattle.xs_ccheck.proofs.file.functions_of.Given as goal

abbrev pub invariant-loop-at : goal.invariant-loop-at
invariant-loop-at l =
    FunctionsSoFar l.least l.typed (spec.functions l.names 0 (map item_tree l.items))
    (spec.functions l.names l.at (map item_tree (drop l.at l.items)))
