use Rattle.std.proofs.Common.{◌≡◌, Option, sym, subst}
use Rattle.std.specs.Prelude.{OnOk}
use Rattle.xs_machine.specs.Machine.{enter}
use Rattle.xs_machine.specs.Dispatch.{counted_rows}
use Rattle.xs_ctree.specs.TypedTree.{Function}
use Rattle.xs_machine.specs.MachineViews.{mach_of, pending_of, state_of}
use Rattle.xs_machine.proofs.work.enter.Goals as goal

pub returns-in-Some-clause-acts : goal.returns-in-Some-clause-acts
returns-in-Some-clause-acts c =
    let is = c.in-Some.ensures in
    let P : Option Function
    → Type 0 = λ o. OnOk c.enter_body.result (mach_of c.enter_body.new.m ≡ enter counted_rows o (pending_of c.args.m.now) (state_of c.args.m.now)) in
    subst P (sym is.1) (c.enter_body.ensures.acts is.0 is.2.0 is.2.1)
