use Rattle.std.proofs.Common.{◌≡◌, ◌-◌, []}
use Rattle.xs_csyn.specs.FileReader as spec
use Rattle.xs_csyn.specs.FileViews.{item_trees}
use Rattle.xs_csyn.proofs.file.items.Given as goal

abbrev pub invariant-loop-turn : goal.invariant-loop-turn
invariant-loop-turn l =
    spec.items_from l.turns [] (record { rest = l.fn.tokens; types = []; file = l.file; last = l.last; turns = l.turns })
    ≡ spec.items_from (l.turns - l._turn) (item_trees l.all)
    (record { rest = l.rest; types = l.types; file = l.file; last = l.last; turns = l.turns })
