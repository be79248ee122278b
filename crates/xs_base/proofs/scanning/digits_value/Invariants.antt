use Rattle.std.proofs.Common.{◌≡◌, ◌+◌, ◌*◌, ◌-◌, drop, fold}
use Rattle.xs_base.specs.Scanning.{value_of_digits}
use Rattle.xs_base.proofs.scanning.digits_value.Given as goal

abbrev pub invariant-loop-b : goal.invariant-loop-b
invariant-loop-b l = value_of_digits l.digits ≡ fold (λ n b. 10 * n + (b - 48)) l.n (drop l.b-index l.digits)
