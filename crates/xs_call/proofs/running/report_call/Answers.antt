use Rattle.std.proofs.Common.{rules}
use Rattle.xs_machine.specs.MachineViews.{code_in, mach_of}
use Rattle.xs_call.proofs.Arguments.{call_is_reported}
use Rattle.xs_call.proofs.running.report_call.Goals as goal

pub returns-in_ok-head-in-Ok-clause-reported : goal.returns-in_ok-head-in-Ok-clause-reported
returns-in_ok-head-in-Ok-clause-reported c =
    call_is_reported c.report_end.result (code_in c.args.machine.now) c.args.c.now c.in-Ok.names c.in_ok-head-in-Ok.head c.call-outcome.result
    (mach_of c.args.machine.now) (mach_of c.make_arguments.new.machine) (mach_of c.call-outcome.new.self) (mach_of c.report_end.new.machine) (search rules)
    (search rules) (search rules) (search rules) (search rules)
