use Rattle.std.proofs.Common.{◌≡◌, drop}
use Rattle.xs_params.specs.ParamLists.{form_from, form_of}
use Rattle.xs_params.proofs.form.read_form.Given as goal

-- reading goes on from here
abbrev pub invariant-loop-t : goal.invariant-loop-t
invariant-loop-t l = form_of l.src l.tokens ≡ form_from l.src l.due l.params (drop l.t-index l.tokens)
