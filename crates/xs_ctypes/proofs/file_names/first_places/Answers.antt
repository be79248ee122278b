use Rattle.std.proofs.Common.{[], subst, sym, arith}
use Rattle.xs_ctypes.specs.FileNames.{FindsFirst}
use Rattle.xs_ctypes.proofs.HeldNames.{names_next, none_held}
use Rattle.xs_ctypes.proofs.file_names.first_places.Goals as goal

pub loop-at-init : goal.loop-at-init
loop-at-init c = subst (FindsFirst []) (sym c.new-first.ensures.empty) none_held

pub loop-at-preserved : goal.loop-at-preserved
loop-at-preserved c =
    names_next c.args.items.now c.loop-at.at c.index-items-at.result c.item_name.result.now c.loop-at.first.entries c.add_name.new.first.entries
    (omega (arith, c.loop-at-test.true)) c.index-items-at.is c.item_name.ensures c.loop-at.invariant c.in_ok-add_name.ensures
