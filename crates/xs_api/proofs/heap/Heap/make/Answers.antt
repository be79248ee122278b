use Rattle.std.proofs.Common.{◌<◌, length, arith, rules}
use Rattle.xs_api.specs.Limits.{most_names}
use Rattle.xs_api.proofs.Cells.{holds_made}
use Rattle.xs_api.proofs.heap.Heap.make.Goals as goal

pub overflow_add-self : goal.overflow_add-self
overflow_add-self c =
    let less : length c.self.inside.cells.items < most_names = omega (arith, c.self.inside.cells.ok.0) in
    let made = holds_made c.self.inside.cells.items c.self.inside.live (record { value = c.args.value; count = 1 }) c.self.invariant less in
    search (rules, made.0)

pub invariant_of-self : goal.invariant_of-self
invariant_of-self c =
    let less : length c.self.inside.cells.items < most_names = omega (arith, c.self.inside.cells.ok.0) in
    let made = holds_made c.self.inside.cells.items c.self.inside.live (record { value = c.args.value; count = 1 }) c.self.invariant less in
    rw c.in-Ok.ensures.items made.1
