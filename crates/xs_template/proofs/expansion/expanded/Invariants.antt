use Rattle.std.proofs.Common.{◌≡◌, ◌++◌, drop}
use Rattle.xs_template.specs.TemplatePieces.{expanded}
use Rattle.xs_template.proofs.expansion.expanded.Given as goal

-- the text so far, and that of the pieces that are left
abbrev pub invariant-loop-piece : goal.invariant-loop-piece
invariant-loop-piece l = l.text ++ expanded l.n (drop l.piece-index l.pieces) ≡ expanded l.n l.pieces
