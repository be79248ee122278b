use Rattle.std.proofs.Common.{◌≡◌, drop}
use Rattle.xs_params.specs.ParamLists.{have_default}
use Rattle.xs_params.proofs.checks.have_default.Given as goal

-- none so far has a default
abbrev pub invariant-loop-q : goal.invariant-loop-q
invariant-loop-q l = have_default l.before ≡ have_default (drop l.q-index l.before)
