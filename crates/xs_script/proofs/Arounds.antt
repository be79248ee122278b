-- The innermost bracket is the last of the program's list.
use Rattle.std.proofs.Common.{◌≡◌, List, [], ◌∷◌, ◌++◌, length, map, reverse, ap, ◌∙◌}
use Rattle.std.proofs.lemmas.List.{map-append, reverse-append, length-reverse, length-map}
use Rattle.xs_script.specs.declared.around.Open.{Open}
use Rattle.xs_script.specs.Brackets.{around_of, bracket}

pub around_of-push : (opens : List Open) (inner : Open) → around_of (opens ++ inner ∷ []) ≡ bracket inner ∷ around_of opens
around_of-push opens inner = ap reverse (map-append bracket opens (inner ∷ [])) ∙ reverse-append (map bracket opens) (bracket inner ∷ [])

pub length-around_of : (opens : List Open) → length (around_of opens) ≡ length opens
length-around_of opens = length-reverse (map bracket opens) ∙ length-map opens bracket

pub ruleset arounds = (around_of-push, length-around_of)
