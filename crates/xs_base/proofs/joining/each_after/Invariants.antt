use Rattle.std.proofs.Common.{◌≡◌, ◌++◌, drop}
use Rattle.std.specs.List.{flat_map}
use Rattle.xs_base.proofs.joining.each_after.Given as goal

-- the text so far, and that of what is left
abbrev pub invariant-loop-piece : goal.invariant-loop-piece
invariant-loop-piece l = l.text ++ flat_map (λ piece. l.separator ++ piece.now) (drop l.piece-index l.pieces)
    ≡ flat_map (λ piece. l.separator ++ piece.now) l.pieces
