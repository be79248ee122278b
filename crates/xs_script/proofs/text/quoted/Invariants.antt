use Rattle.std.proofs.Common.{◌≡◌, ◌++◌, ◌∷◌, [], take}
use Rattle.std.specs.List.{flat_map}
use Rattle.xs_script.specs.ValueText.{shown_byte}
use Rattle.xs_script.proofs.text.quoted.Given as goal

abbrev pub invariant-loop-b : goal.invariant-loop-b
invariant-loop-b l = l.out ≡ (34 ∷ []) ++ flat_map shown_byte (take l.b-index (take 64 l.text))
