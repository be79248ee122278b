use Rattle.std.proofs.Common.{take}
use Rattle.xs_ctree.specs.Growth.{GroupsStand}
use Rattle.xs_ctree.proofs.typed.Typed.add_groups.Given as goal

-- the groups so far
abbrev pub invariant-loop-group : goal.invariant-loop-group
invariant-loop-group l = GroupsStand l.fn.self (take l.group-index l.groups) l.self
