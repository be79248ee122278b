use Rattle.std.proofs.Common.{◌≡◌, drop, fold}
use Rattle.xs_typemap.specs.TidiedTypes.{tidied, tidy_step}
use Rattle.xs_typemap.proofs.tidying.tidied.Given as goal

-- the type so far, and the bytes that are left
abbrev pub invariant-loop-byte : goal.invariant-loop-byte
invariant-loop-byte l = tidied l.text ≡ (fold tidy_step l.tidying (drop l.byte-index l.text)).text
