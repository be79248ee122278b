use Rattle.std.proofs.Common.{◌≡◌, ◌++◌, ◌∷◌, [], drop}
use Rattle.std.specs.List.{flat_map}
use Rattle.xs_template.proofs.cutting.after_each_end.Given as goal

-- the text so far, and that of what is left
abbrev pub invariant-loop-line : goal.invariant-loop-line
invariant-loop-line l = l.text ++ flat_map (λ line. (10 ∷ []) ++ line) (drop l.line-index l.lines) ≡ flat_map (λ line. (10 ∷ []) ++ line) l.lines
