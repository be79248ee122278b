use Rattle.std.proofs.Common.{◌≡◌, ◌++◌, [], drop}
use Rattle.xs_call.specs.MachineTranscript.{call_report}
use Rattle.xs_meaning.specs.Transcript.{calls_report}
use Rattle.xs_machine.specs.MachineViews.{code_in, mach_of, pending_of}
use Rattle.xs_call.proofs.running.report_calls.Given as goal

-- what is reported so far, and what is left to report
abbrev pub invariant-loop-call : goal.invariant-loop-call
invariant-loop-call l =
    record {
      reported : l.text ++ calls_report (call_report (code_in l.fn.machine)) (mach_of l.machine) (drop l.call-index l.calls)
          ≡ l.fn.text ++ calls_report (call_report (code_in l.fn.machine)) (mach_of l.fn.machine) l.calls;
      idle : pending_of l.machine ≡ [];
      code : code_in l.machine ≡ code_in l.fn.machine;
    }
