use Rattle.std.proofs.Common.{◌≡◌, ◌+◌, ◌≤◌, ◌++◌, length}
use Rattle.std.specs.Str.Lines.{lines}
use Rattle.xs_base.specs.Lines.{lines_of, numbered}
use Rattle.xs_base.proofs.cutting.lines.Given as goal

-- the lines so far, and those of the rest
abbrev pub invariant-loop-end : goal.invariant-loop-end
invariant-loop-end l =
    record {
      reported : l.all ++ numbered l.number (lines l.rest) ≡ lines_of l.src;
      room : l.number + length l.rest ≤ length l.src + 1;
    }

abbrev pub decreases-loop-end : goal.decreases-loop-end
decreases-loop-end l = length l.rest
