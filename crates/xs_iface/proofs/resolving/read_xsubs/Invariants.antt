use Rattle.std.proofs.Common.{◌≡◌, drop}
use Rattle.xs_base.specs.Reading.{collect, with_front}
use Rattle.xs_iface.specs.Iface.{xsub_of}
use Rattle.xs_iface.proofs.resolving.read_xsubs.Given as goal

-- what was read so far, and what the drafts that are left give
abbrev pub invariant-loop-draft : goal.invariant-loop-draft
invariant-loop-draft l = collect xsub_of l.drafts ≡ with_front l.xsubs (collect xsub_of (drop l.draft-index l.drafts))
