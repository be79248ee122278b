use Rattle.std.proofs.Common.{◌+◌, ◌<◌, ◌≤◌, length, map, drop, sym, ap, subst, arith}
use Rattle.std.proofs.lemmas.List.{drop_all}
use Rattle.xs_csyn.specs.FileViews.{item_tree}
use Rattle.xs_ccheck.specs.FileTyping.{functions, item}
use Rattle.xs_ccheck.specs.Resolving.{GivesFunctions}
use Rattle.xs_ccheck.proofs.Loops.{function_noted, functions_end, functions_next}
use Rattle.xs_ccheck.proofs.file.functions_of.Goals as goal

pub loop-at-preserved : goal.loop-at-preserved
loop-at-preserved c =
    let items = c.args.items.now in
    let names = c.args.names.now in
    let i = c.loop-at.at in
    let x = c.index-items-at.result in
    let within : i < length items = omega (arith, c.loop-at-test.true) in
    function_noted c.loop-at.least c.in_ok-least.least c.item-part.result c.loop-at.typed c.item-part.new.typed (item names i (item_tree x))
    (functions names 0 (map item_tree items)) (functions names i (map item_tree (drop i items))) (functions names (i + 1) (map item_tree (drop (i + 1) items)))
    (functions_next names items i x within c.index-items-at.is) c.loop-at.invariant c.item-part.ensures c.in_ok-least.ensures

pub returns : goal.returns
returns c =
    let items = c.args.items.now in
    let names = c.args.names.now in
    let i = c.loop-at.at in
    let whole = functions names 0 (map item_tree items) in
    let past : length items ≤ i = omega (arith, c.loop-at-test.false) in
    subst (λ r. GivesFunctions r whole) (sym c.settled.ensures)
    (functions_end c.loop-at.least c.loop-at.typed whole (functions names i (map item_tree (drop i items)))
    (ap (λ xs. functions names i (map item_tree xs)) (drop_all i items past)) c.loop-at.invariant)
