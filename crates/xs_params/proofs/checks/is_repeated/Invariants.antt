use Rattle.std.proofs.Common.{◌≡◌, drop}
use Rattle.xs_params.specs.ParamLists.{is_repeated}
use Rattle.xs_params.proofs.checks.is_repeated.Given as goal

-- none so far has the name
abbrev pub invariant-loop-q : goal.invariant-loop-q
invariant-loop-q l = is_repeated l.before l.p ≡ is_repeated (drop l.q-index l.before) l.p
