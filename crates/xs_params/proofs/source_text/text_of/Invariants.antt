use Rattle.std.proofs.Common.{◌≡◌, ◌++◌, drop}
use Rattle.std.specs.List.{flat_map}
use Rattle.xs_params.specs.DefaultTexts.{piece_in}
use Rattle.xs_params.proofs.source_text.text_of.Given as goal

-- the text so far, and that of the lines that are left
abbrev pub invariant-loop-line : goal.invariant-loop-line
invariant-loop-line l = l.text ++ flat_map (piece_in l.x) (drop l.line-index l.src) ≡ flat_map (piece_in l.x) l.src
