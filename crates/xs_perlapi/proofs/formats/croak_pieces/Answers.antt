use Rattle.std.proofs.Common.{List, ℕ, Option, drop, ap, sym, ◌∙◌, ◌++◌}
use Rattle.std.specs.Prelude.{option_map}
use Rattle.xs_perlapi.specs.declared.formats.Piece.{Piece}
use Rattle.xs_perlapi.specs.Formats.{pieces_from}
use Rattle.xs_perlapi.proofs.CroakTexts.{one_piece, turn}
use Rattle.xs_perlapi.proofs.formats.croak_pieces.Goals as goal

pub loop-rest-preserved : goal.loop-rest-preserved
loop-rest-preserved c =
    let all = c.loop-rest.all.items in
    let front = c.in-Some.front in
    let rest = c.loop-rest.rest.now in
    let left = pieces_from 0 (drop front.size rest) in
    ap (λ (t : List ℕ). option_map (λ (more : List Piece). c.push.new.self.items ++ more) (pieces_from 0 t)) c.split_at.ensures.back
    ∙ ap (λ (items : List Piece). option_map (λ (more : List Piece). items ++ more) left) c.in_ok-push.ensures.items
    ∙ sym (turn all front.piece left)
    ∙ ap (λ (o : Option (List Piece)). option_map (λ (more : List Piece). all ++ more) o)
    (sym (one_piece front rest (sym c.in-Some.ensures.value) c.in-Some.ensures.within.0))
    ∙ c.loop-rest.invariant
