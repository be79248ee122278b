use Rattle.std.proofs.Common.{◌∙◌}
use Rattle.xs_machine.specs.Dispatch.{counted_rows}
use Rattle.xs_machine.specs.MachineViews.{code_in, mach_of}
use Rattle.xs_machine.proofs.Ends.{smaller, one_more, run_reached}
use Rattle.xs_machine.proofs.machine.Machine.run_to_end.Goals as goal

pub loop-smaller : goal.loop-smaller
loop-smaller c =
    smaller counted_rows (code_in c.loop.self) (code_in c.advance.new.self) (mach_of c.loop.self) (mach_of c.advance.new.self)
    c.in-Ok-Went.ensures.code c.in-Ok-Went.ensures.steps (c.in-Ok-Went.ensures.went (λ e. cc))

pub loop-preserved : goal.loop-preserved
loop-preserved c = record {
  runs = one_more counted_rows (code_in c.args.self.now) (code_in c.loop.self) c.loop.invariant.runs.0 (mach_of c.args.self.now) (mach_of c.loop.self)
      (mach_of c.advance.new.self) c.loop.invariant.code c.loop.invariant.runs.1 c.in-Ok-Went.ensures.steps;
  code = c.in-Ok-Went.ensures.code ∙ c.loop.invariant.code;
}

pub returns-in-Ok-Ended-clause-runs : goal.returns-in-Ok-Ended-clause-runs
returns-in-Ok-Ended-clause-runs c not_memory =
    let over = c.in-Ok-Ended.ensures.ended c.in-Ok-Ended.field-0-is in
    over.1 ∙ run_reached counted_rows (code_in c.args.self.now) (mach_of c.args.self.now)
    (mach_of c.loop.self) c.loop.invariant.runs.0 c.loop.invariant.runs.1 over.0
