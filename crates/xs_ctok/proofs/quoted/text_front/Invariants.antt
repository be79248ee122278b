use Rattle.std.proofs.Common.{◌≡◌, ◌+◌, [], length}
use Rattle.xs_ctok.specs.QuotedTexts.{text_front}
use Rattle.xs_ctok.proofs.quoted.text_front.Given as goal

abbrev pub invariant-loop-rest : goal.invariant-loop-rest
invariant-loop-rest l = record {
  all : text_front [] 1 0 l.after ≡ text_front l.content l.n 0 l.rest;
  so_far : l.n + length l.rest ≡ length l.after + 1;
}

abbrev pub decreases-loop-rest : goal.decreases-loop-rest
decreases-loop-rest l = length l.rest
