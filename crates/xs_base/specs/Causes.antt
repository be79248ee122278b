-- How a count of faults moves over one call.
use Rattle.std.specs.Prelude.{ℕ, ◌+◌, ◌-◌, ◌^◌, ◌≤◌, min}

-- one more, where a u64 holds it
abbrev pub counted : ℕ → ℕ
counted n = min (n + 1) (2 ^ 64 - 1)

-- The count is greater than before, or stands at the end of its range.
abbrev pub Rose : ℕ → ℕ → Type 0
Rose before now = counted before ≤ now
