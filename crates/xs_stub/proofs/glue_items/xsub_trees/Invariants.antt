use Rattle.std.proofs.Common.{◌≡◌, ◌++◌, drop, map}
use Rattle.xs_csyn.specs.FileViews.{item_trees}
use Rattle.xs_stub.specs.Intended.{xsub_tree}
use Rattle.xs_stub.proofs.glue_items.xsub_trees.Given as goal

-- the items so far, and those of what is left
abbrev pub invariant-loop-xsub : goal.invariant-loop-xsub
invariant-loop-xsub l = item_trees l.all ++ map xsub_tree (drop l.xsub-index l.xsubs) ≡ map xsub_tree l.xsubs
