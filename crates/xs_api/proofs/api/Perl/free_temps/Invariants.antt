use Rattle.std.proofs.Common.{◌≡◌, vec_len}
use Rattle.xs_api.specs.PerlViews.{world_of}
use Rattle.xs_api.specs.World.{free_above}
use Rattle.xs_api.proofs.api.Perl.free_temps.Given as goal

abbrev pub invariant-loop-self : goal.invariant-loop-self
invariant-loop-self l = free_above l.height (world_of l.self) ≡ free_above l.height (world_of l.fn.self)

abbrev pub decreases-loop-self : goal.decreases-loop-self
decreases-loop-self l = vec_len l.self.stacks.temps
