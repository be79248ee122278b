use Rattle.xs_api.proofs.Cells.{holds_set}
use Rattle.xs_api.proofs.heap.Heap.set.Goals as goal

pub invariant_of-self : goal.invariant_of-self
invariant_of-self c = holds_set c.self.inside.cells.items _ c.self.inside.live c.args.n c.args.value c.set_value.result c.self.invariant c.set_value.ensures
