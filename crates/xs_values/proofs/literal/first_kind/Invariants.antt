use Rattle.std.proofs.Common.{◌≡◌, ◌&&◌, drop, pos}
use Rattle.std.specs.List.{find}
use Rattle.xs_values.specs.Literals.{may_have}
use Rattle.xs_values.specs.Numbers.{is_held}
use Rattle.xs_values.proofs.literal.first_kind.Given as goal

abbrev pub invariant-loop-kind : goal.invariant-loop-kind
invariant-loop-kind l =
    find (λ k. may_have l.model l.base l.suffix k && is_held k (pos l.value)) l.kinds
    ≡ find (λ k. may_have l.model l.base l.suffix k && is_held k (pos l.value)) (drop l.kind-index l.kinds)
