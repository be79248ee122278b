use Rattle.std.proofs.Common.{◌≡◌, ◌-◌, map}
use Rattle.xs_cexpr.specs.ExpressionViews.{expr_tree}
use Rattle.xs_csyn.specs.FileReader as spec
use Rattle.xs_csyn.proofs.file.some_args.Given as goal

abbrev pub invariant-loop-turn : goal.invariant-loop-turn
invariant-loop-turn l = spec.some_args l.room l.fn.cursor
    ≡ spec.args_from l.room (l._turn-end - l._turn) (map expr_tree l.all.items) l.cursor
