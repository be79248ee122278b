use Rattle.std.proofs.Common.{◌≡◌, drop}
use Rattle.xs_base.specs.Reading.{collect, with_front}
use Rattle.xs_iface.specs.Iface.{draft_of}
use Rattle.xs_iface.proofs.drafts.read_parts.Given as goal

-- what was read so far, and what the parts that are left give
abbrev pub invariant-loop-part : goal.invariant-loop-part
invariant-loop-part l = collect (draft_of l.s) l.parts ≡ with_front l.drafts (collect (draft_of l.s) (drop l.part-index l.parts))
