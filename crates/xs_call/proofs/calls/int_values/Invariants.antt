use Rattle.std.proofs.Common.{◌≡◌, ◌++◌, drop, map}
use Rattle.std.specs.Option.{option_map}
use Rattle.xs_call.specs.BuiltCalls.{ints_of}
use Rattle.xs_script.specs.CommandViews.{expr_view}
use Rattle.xs_call.proofs.calls.int_values.Given as goal

-- the numbers so far, and those of the expressions that are left
abbrev pub invariant-loop-e : goal.invariant-loop-e
invariant-loop-e l = option_map (λ rest. l.numbers ++ rest) (ints_of (map expr_view (drop l.e-index l.es))) ≡ ints_of (map expr_view l.es)
