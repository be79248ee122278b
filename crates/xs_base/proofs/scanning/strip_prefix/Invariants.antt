use Rattle.std.proofs.Common.{◌≡◌, drop}
use Rattle.xs_base.specs.Scanning as spec
use Rattle.xs_base.proofs.scanning.strip_prefix.Given as goal

-- the rest of the word stands in front of the rest of the text just where the word does
abbrev pub invariant-loop-byte : goal.invariant-loop-byte
invariant-loop-byte l = spec.strip_prefix (drop l.byte-index l.word) l.rest ≡ spec.strip_prefix l.fn.word l.fn.text
