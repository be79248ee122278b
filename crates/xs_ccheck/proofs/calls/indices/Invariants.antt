use Rattle.std.proofs.Common.{◌≡◌, take}
use Rattle.xs_ccheck.specs.Resolving.{nodes_of}
use Rattle.xs_ccheck.proofs.calls.indices.Given as goal

abbrev pub invariant-loop-x : goal.invariant-loop-x
invariant-loop-x l = l.all.items ≡ nodes_of (take l.x-index l.xs)
