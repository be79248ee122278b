use Rattle.std.proofs.Common.{◌≡◌, [], drop}
use Rattle.xs_csyn.specs.FileReader.{types_after}
use Rattle.xs_csyn.specs.FileViews.{item_trees}
use Rattle.xs_csyn.proofs.declared_types.declared_by.Given as goal

abbrev pub invariant-loop-item : goal.invariant-loop-item
invariant-loop-item l = types_after [] (item_trees l.items)
    ≡ types_after l.names (item_trees (drop l.item-index l.items))
