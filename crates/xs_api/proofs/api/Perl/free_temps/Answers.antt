use Rattle.std.proofs.Common.{◌<◌, ◌∙◌, ap, length, reverse, arith, rules}
use Rattle.std.proofs.lemmas.List.{length-reverse}
use Rattle.xs_api.specs.declared.stacks.Stacks.{Stacks}
use Rattle.xs_api.specs.PerlViews.{world_of}
use Rattle.xs_api.proofs.FreedTemps.{free-clean, free-dirty}
use Rattle.xs_api.proofs.api.Perl.free_temps.Goals as goal

pub loop-self-preserved : goal.loop-self-preserved
loop-self-preserved c =
    let above : c.args.height < length (reverse c.loop-self.self.stacks.temps.items) =
    omega (arith, length-reverse c.loop-self.self.stacks.temps.items, c.loop-self.self.stacks.temps.ok.0) in
    free-clean c.args.height c.in-Some.n (reverse c.pop_top.new.stack.items) (world_of c.loop-self.self)
    (world_of c.lower.new.self) c.in-Some.ensures.top above c.in_ok-lower.ensures.done
    (ap (λ (s : Stacks). reverse s.temps.items) c.in_ok-lower.ensures.temps)
    ∙ c.loop-self.invariant

pub returns-in_err-lower : goal.returns-in_err-lower
returns-in_err-lower c =
    let above : c.args.height < length (reverse c.loop-self.self.stacks.temps.items) =
    omega (arith, length-reverse c.loop-self.self.stacks.temps.items, c.loop-self.self.stacks.temps.ok.0) in
    let dirty = free-dirty c.args.height c.in-Some.n (reverse c.pop_top.new.stack.items) (world_of c.loop-self.self)
    (world_of c.lower.new.self) _ c.in-Some.ensures.top above c.in_err-lower.ensures.done in
    search (rules, c.loop-self.invariant, dirty)
