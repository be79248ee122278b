use Rattle.std.proofs.Common.{◌≡◌, map, drop}
use Rattle.xs_base.specs.Names as spec
use Rattle.xs_base.proofs.names.is_among.Given as goal

abbrev pub invariant-loop-w : goal.invariant-loop-w
invariant-loop-w l = spec.is_among (map (λ w. w.now) l.words) l.word ≡ spec.is_among (map (λ w. w.now) (drop l.w-index l.words)) l.word
