use Rattle.std.proofs.Common.{◌≡◌, ◌≤◌, length}
use Rattle.xs_ctok.specs.Directives.{after_gap}
use Rattle.xs_ctok.specs.declared.directives.Gap.TheVariants as gap
use Rattle.xs_ctok.proofs.directives.after_gap.Given as goal

abbrev pub invariant-loop-rest : goal.invariant-loop-rest
invariant-loop-rest l = record {
  all : after_gap gap.Between l.text ≡ after_gap l.so_far l.rest;
  within : length l.rest ≤ length l.text;
}

abbrev pub decreases-loop-rest : goal.decreases-loop-rest
decreases-loop-rest l = length l.rest
