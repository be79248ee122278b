use Rattle.std.proofs.Common.{◌≡◌, drop}
use Rattle.xs_sim.specs.MadeArguments.{args_made}
use Rattle.xs_machine.specs.MachineViews.{code_in, mach_of}
use Rattle.xs_machine.specs.Machine.{with_world}
use Rattle.xs_call.proofs.Arguments.{before}
use Rattle.xs_call.proofs.running.make_arguments.Given as goal

-- the scalars so far, and those of the values that are left
abbrev pub invariant-loop-value : goal.invariant-loop-value
invariant-loop-value l =
    record {
      made : before l.names (args_made (drop l.value-index l.values) (mach_of l.machine).state.store) ≡ args_made l.values (mach_of l.fn.machine).state.store;
      machine : mach_of l.machine ≡ with_world (mach_of l.machine).state.store (mach_of l.fn.machine);
      code : code_in l.machine ≡ code_in l.fn.machine;
    }
