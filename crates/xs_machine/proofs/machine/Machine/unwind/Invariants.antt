use Rattle.std.proofs.Common.{◌≡◌, vec_len}
use Rattle.xs_machine.specs.Machine.{unwind}
use Rattle.xs_machine.specs.Dispatch.{counted_rows}
use Rattle.xs_machine.specs.MachineViews.{pending_of, state_of}
use Rattle.xs_machine.proofs.machine.Machine.unwind.Given as goal

abbrev pub invariant-loop-task : goal.invariant-loop-task
invariant-loop-task l = record {
  same : unwind counted_rows l.abrupt (pending_of l.self) (state_of l.self) ≡ unwind counted_rows l.fn.abrupt (pending_of l.fn.self) (state_of l.fn.self);
  state : state_of l.self ≡ state_of l.fn.self;
  typed : l.self.typed ≡ l.fn.self.typed;
}

abbrev pub decreases-loop-task : goal.decreases-loop-task
decreases-loop-task l = vec_len l.self.pending
