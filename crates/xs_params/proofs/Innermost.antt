-- The innermost bracket is the last of the program's list.
use Rattle.std.proofs.Common.{◌≡◌, List, [], ◌∷◌, ◌++◌, reverse}
use Rattle.std.proofs.lemmas.List.{reverse-append, length-reverse}
use Rattle.xs_params.specs.declared.opens.Bracket.{Bracket}

pub reverse-push : (opens : List Bracket) (inner : Bracket) → reverse (opens ++ inner ∷ []) ≡ inner ∷ reverse opens
reverse-push opens inner = reverse-append opens (inner ∷ [])

pub ruleset innermost = (reverse-push, length-reverse)
