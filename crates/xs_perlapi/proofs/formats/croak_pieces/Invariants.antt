use Rattle.std.proofs.Common.{◌≡◌, ◌++◌, List, length}
use Rattle.std.specs.Prelude.{option_map}
use Rattle.xs_perlapi.specs.declared.formats.Piece.{Piece}
use Rattle.xs_perlapi.specs.Formats.{pieces_from}
use Rattle.xs_perlapi.proofs.formats.croak_pieces.Given as goal

abbrev pub invariant-loop-rest : goal.invariant-loop-rest
invariant-loop-rest l = option_map (λ (more : List Piece). l.all.items ++ more) (pieces_from 0 l.rest) ≡ pieces_from 0 l.text

abbrev pub decreases-loop-rest : goal.decreases-loop-rest
decreases-loop-rest l = length l.rest
