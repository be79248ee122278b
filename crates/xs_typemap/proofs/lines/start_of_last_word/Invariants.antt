use Rattle.std.proofs.Common.{◌≡◌, ◌+◌, ◌-◌, ◌≤◌, length, take}
use Rattle.std.specs.List.{suffix_len}
use Rattle.xs_typemap.specs.TypemapLines.{is_no_blank}
use Rattle.xs_typemap.proofs.lines.start_of_last_word.Given as goal

-- the run at the end, as far as it was passed, and what is left of it
abbrev pub invariant-loop-start : goal.invariant-loop-start
invariant-loop-start l =
    (l.start ≤ length l.text) × (length l.text - l.start + suffix_len is_no_blank (take l.start l.text) ≡ suffix_len is_no_blank l.text)

abbrev pub decreases-loop-start : goal.decreases-loop-start
decreases-loop-start l = l.start
