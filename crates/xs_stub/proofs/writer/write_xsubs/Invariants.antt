use Rattle.std.proofs.Common.{◌≡◌, ◌++◌, drop}
use Rattle.std.specs.List.{flat_map}
use Rattle.xs_stub.specs.Stub.{xsub_text}
use Rattle.xs_stub.proofs.writer.write_xsubs.Given as goal

-- the text so far, and that of what is left
abbrev pub invariant-loop-xsub : goal.invariant-loop-xsub
invariant-loop-xsub l = l.text ++ flat_map xsub_text (drop l.xsub-index l.xsubs) ≡ flat_map xsub_text l.xsubs
