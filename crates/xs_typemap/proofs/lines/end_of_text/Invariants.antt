use Rattle.std.proofs.Common.{◌≡◌, ◌+◌, ◌-◌, ◌≤◌, length, take}
use Rattle.std.specs.List.{suffix_len}
use Rattle.xs_base.specs.Scanning.{is_blank}
use Rattle.xs_typemap.proofs.lines.end_of_text.Given as goal

-- the run at the end, as far as it was passed, and what is left of it
abbrev pub invariant-loop-end : goal.invariant-loop-end
invariant-loop-end l =
    (l.end ≤ length l.text) × (length l.text - l.end + suffix_len is_blank (take l.end l.text) ≡ suffix_len is_blank l.text)

abbrev pub decreases-loop-end : goal.decreases-loop-end
decreases-loop-end l = l.end
