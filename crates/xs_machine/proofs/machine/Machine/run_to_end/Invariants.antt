use Rattle.std.proofs.Common.{◌≡◌, ℕ}
use Rattle.xs_machine.specs.Machine.{left, steps}
use Rattle.xs_machine.specs.Dispatch.{counted_rows}
use Rattle.xs_machine.specs.MachineViews.{code_in, mach_of}
use Rattle.xs_machine.proofs.machine.Machine.run_to_end.Given as goal

abbrev pub invariant-loop : goal.invariant-loop
invariant-loop l = record {
  runs : (j : ℕ) × (mach_of l.self ≡ steps counted_rows (code_in l.fn.self) j (mach_of l.fn.self));
  code : code_in l.self ≡ code_in l.fn.self;
}

abbrev pub decreases-loop : goal.decreases-loop
decreases-loop l = left (code_in l.self) (mach_of l.self)
