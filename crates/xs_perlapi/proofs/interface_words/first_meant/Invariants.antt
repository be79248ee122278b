use Rattle.std.proofs.Common.{◌≡◌, drop, map}
use Rattle.xs_perlapi.specs.Table.{first_meant, meant_view}
use Rattle.xs_perlapi.proofs.interface_words.first_meant.Given as goal

abbrev pub invariant-loop-word : goal.invariant-loop-word
invariant-loop-word l =
    first_meant (map meant_view l.words) l.name ≡ first_meant (map meant_view (drop l.word-index l.words)) l.name
