use Rattle.std.proofs.Common.{rules, ◌≡◌, pos, ◌<◌, ◌≤◌, ◌+◌, length, drop, Ok, Err, sym, ap, ◌∙◌, subst, to_z, of_z, w64}
use Rattle.std.proofs.Math.ListN.{get_or}
use Rattle.std.proofs.lemmas.List.{drop_all}
use Rattle.xs_sim.specs.MadeArguments.{args_made}
use Rattle.xs_machine.specs.MachineViews.{MakesArgument, mach_of}
use Rattle.xs_values.specs.declared.plain.Plain.TheVariants.{Int}
use Rattle.xs_call.proofs.Arguments.{before, more_is_reported, next_is_reported, same_but_world, stop_is_reported, end_report}
use Rattle.xs_call.proofs.running.make_arguments.Goals as goal

pub returns-in-Err-clause-made : goal.returns-in-Err-clause-made
returns-in-Err-clause-made c =
    let values = c.args.values.now in
    let i = c.loop-value.value-index in
    let here : i < length values = search rules in
    let same : to_z w64 (of_z w64 (get_or values i (pos 0))) ≡ get_or values i (pos 0) = search rules in
    let made = subst (λ z. MakesArgument (Int z) (mach_of c.loop-value.machine) (Err c.in-Err.stop) (mach_of c.int_argument.new.machine)) same
    c.in-Err.ensures.made in
    stop_is_reported values (drop (i + 1) values) (get_or values i (pos 0)) c.loop-value.names c.in-Err.stop (mach_of c.args.machine.now)
    (mach_of c.loop-value.machine) (mach_of c.int_argument.new.machine)
    (next_is_reported values i c.loop-value.names (mach_of c.loop-value.machine).state.store _ here c.loop-value.invariant.made) c.loop-value.invariant.machine
    made

pub loop-value-preserved : goal.loop-value-preserved
loop-value-preserved c =
    let values = c.args.values.now in
    let i = c.loop-value.value-index in
    let here : i < length values = search rules in
    let same : to_z w64 (of_z w64 (get_or values i (pos 0))) ≡ get_or values i (pos 0) = search rules in
    let made = subst (λ z. MakesArgument (Int z) (mach_of c.loop-value.machine) (Ok c.in-Ok.name) (mach_of c.int_argument.new.machine)) same
    c.in-Ok.ensures.made in
    let more = more_is_reported values (drop (i + 1) values) (get_or values i (pos 0)) c.loop-value.names c.in-Ok.name (mach_of c.args.machine.now)
    (mach_of c.loop-value.machine) (mach_of c.int_argument.new.machine)
    (next_is_reported values i c.loop-value.names (mach_of c.loop-value.machine).state.store _ here c.loop-value.invariant.made) made in
    record {
      made = ap (λ l. before l (args_made (drop (i + 1) values) (mach_of c.int_argument.new.machine).state.store)) c.in_ok-add_name-in-Ok.ensures.added ∙ more;
      machine = same_but_world (mach_of c.args.machine.now) (mach_of c.loop-value.machine) (mach_of c.int_argument.new.machine)
          (get_or values i (pos 0)) c.in-Ok.name c.loop-value.invariant.machine made;
      code = c.int_argument.ensures.code ∙ c.loop-value.invariant.code;
    }

pub returns-clause-made : goal.returns-clause-made
returns-clause-made c =
    let past : length c.args.values.now ≤ c.loop-value.value-index = search rules in
    let e = ap (λ l. before c.loop-value.names (args_made l (mach_of c.loop-value.machine).state.store))
    (sym (drop_all c.loop-value.value-index c.args.values.now past)) ∙ c.loop-value.invariant.made in
    (end_report c.args.values.now c.loop-value.names (mach_of c.args.machine.now) (mach_of c.loop-value.machine) e, c.loop-value.invariant.machine)
