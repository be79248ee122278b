use Rattle.std.proofs.Common.{◌≡◌, ◌++◌, drop, map}
use Rattle.std.specs.List.{concat}
use Rattle.xs_base.proofs.joining.together.Given as goal

-- the text so far, and that of what is left
abbrev pub invariant-loop-piece : goal.invariant-loop-piece
invariant-loop-piece l = l.text ++ concat (map (λ piece. piece.now) (drop l.piece-index l.pieces)) ≡ concat (map (λ piece. piece.now) l.pieces)
