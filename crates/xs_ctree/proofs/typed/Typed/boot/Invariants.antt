use Rattle.std.proofs.Common.{◌≡◌, drop, map}
use Rattle.xs_ctree.specs.Arena.{function_of}
use Rattle.xs_ctree.specs.Functions.{arena_of, boot_at, boot_from, code_of}
use Rattle.xs_ctree.proofs.typed.Typed.boot.Given as goal

abbrev pub invariant-loop-f : goal.invariant-loop-f
invariant-loop-f l = record {
  count : l.n ≡ l.f-index;
  same : boot_from l.n (map (function_of (arena_of l.self)) (drop l.f-index l.self.functions.items)) ≡ boot_at (code_of l.self);
}
