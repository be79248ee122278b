use Rattle.std.proofs.Common.{◌≡◌, ◌+◌, ◌*◌, drop, fold}
use Rattle.std.specs.Char.{digit_value}
use Rattle.xs_ctok.specs.Numerals.{radix, value_of}
use Rattle.xs_ctok.proofs.numerals.value_of.Given as goal

abbrev pub invariant-loop-b : goal.invariant-loop-b
invariant-loop-b l = value_of l.base l.digits ≡ fold (λ n c. radix l.base * n + digit_value c) l.n (drop l.b-index l.digits)
