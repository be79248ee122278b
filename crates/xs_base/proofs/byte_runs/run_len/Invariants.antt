use Rattle.std.proofs.Common.{◌≡◌, ◌+◌, drop, length}
use Rattle.xs_base.specs.ByteRuns.{front_of}
use Rattle.xs_base.proofs.byte_runs.run_len.Given as goal

-- the run, as far as it was passed, and what is left of it
abbrev pub invariant-loop-b : goal.invariant-loop-b
invariant-loop-b l =
    record {
      run : length (front_of l.class l.text) ≡ length (front_of l.class (drop l.b-index l.text)) + l.len;
      all : l.len ≡ l.b-index;
    }
