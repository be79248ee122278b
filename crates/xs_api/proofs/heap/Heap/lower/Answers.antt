use Rattle.std.proofs.Common.{refl}
use Rattle.xs_api.proofs.Cells.{holds_recounted, holds_gone, lowers_kept}
use Rattle.xs_api.proofs.heap.Heap.lower.Goals as goal

pub invariant_of-self : goal.invariant_of-self
invariant_of-self c =
    let cell = c.in-Some.ensures.0 in
    holds_recounted c.self.inside.cells.items c.set_count.new.cells.items c.self.inside.live c.args.n _ cell c.self.invariant c.in-Some.ensures.1
    (c.set_count.ensures cell c.in-Some.ensures.1)

pub overflow_sub-self : goal.overflow_sub-self
overflow_sub-self c = (holds_gone c.self.inside.cells.items c.self.inside.live c.args.n c.in-Some.ensures.0 c.self.invariant c.in-Some.ensures.1 c.requires).0

pub invariant_of-self-else-count-ge2 : goal.invariant_of-self-else-count-ge2
invariant_of-self-else-count-ge2 c =
    rw c.remove_at.ensures
    ((holds_gone c.self.inside.cells.items c.self.inside.live c.args.n c.in-Some.ensures.0 c.self.invariant c.in-Some.ensures.1 c.requires).1)

pub returns-then-count-ge2 : goal.returns-then-count-ge2
returns-then-count-ge2 c =
    let cell = c.in-Some.ensures.0 in
    lowers_kept c.self.inside.cells.items c.args.self.now c.set_count.new.cells.items c.args.n c.in-Some.count _ cell c.self.view_is c.in-Some.ensures.1
    c.in-Some.ensures.2 c.if-count-ge2.true refl (c.set_count.ensures cell c.in-Some.ensures.1)
