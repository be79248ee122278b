use Rattle.std.proofs.Common.{◌≡◌, ◌≤◌, length, reverse, take}
use Rattle.xs_api.specs.World.{registered}
use Rattle.xs_machine.proofs.machine.registered.Given as goal

abbrev pub invariant-loop-at : goal.invariant-loop-at
invariant-loop-at l = record {
  within : l.at ≤ length l.names.items;
  same : registered l.name (reverse (take l.at l.names.items)) ≡ registered l.name (reverse l.names.items);
}

abbrev pub decreases-loop-at : goal.decreases-loop-at
decreases-loop-at l = l.at
