-- Types.
use Rattle.std.specs.List.{list_any}
use Rattle.std.specs.Prelude.{ℕ, zero, suc, ◌+◌, Bool, ◌&&◌, if◌then◌else◌, List, [], ◌∷◌, ◌++◌, Option, Some, None, codes, map}
use Rattle.std.specs.Str.{bytes_eq}
use Rattle.xs_base.specs.Names.{is_among}
use Rattle.xs_base.specs.Readers.{◌>>=◌, head_is, pure}
use Rattle.xs_ctok.specs.declared.token.Token.{Token}
use Rattle.xs_cinput.specs.TokenInput.{Input, Reader, consume_token, consumed, eat, here, is_word_kind, refuse, sees_type}
use Rattle.xs_cinput.specs.declared.tree.CType.{CType}
use Rattle.xs_cinput.specs.declared.types.TheConstants.{JOINS}

-- the words of a type's name, and the word that may come after them
unfoldable pub join_table : List (List ℕ × List ℕ)
join_table = map (λ row. (row.0.now, row.1.now)) JOINS

abbrev pub is_joined_by : List (List ℕ × List ℕ) → List ℕ → List ℕ → Bool
is_joined_by table name word = list_any (λ row. bytes_eq row.0 name && bytes_eq row.1 word) table

-- the token goes on with this name of a type
abbrev pub joins : List ℕ → Token → Bool
joins name t = is_word_kind t.kind && is_joined_by join_table name t.text

unfoldable pub sees_join : List ℕ → Input → Bool
sees_join name i = head_is (joins name) i.rest

-- the name with the next word, where that goes on with it
unfoldable pub joined_name : List ℕ → Reader (List ℕ)
joined_name name = λ i. if sees_join name i then (do
  word ← consume_token
  pure (name ++ 32 ∷ word)) i else pure name i

abbrev pub a_type_word : Reader (List ℕ)
a_type_word = λ i. consumed (sees_type i) i

-- The name of a type has at most three words. `signed` alone is none.
unfoldable pub type_name : Reader (List ℕ)
type_name = do
  first ← a_type_word
  second ← joined_name first
  name ← joined_name second
  if bytes_eq name (codes "signed") then refuse else pure name

-- The `*` that come next, and `n` before them. Each turn consumes a token, so that further turns
-- change nothing.
unfoldable pub stars_from : ℕ → ℕ → Reader ℕ
stars_from zero n = refuse
stars_from (suc m) n = do
  is_star ← eat (codes "*")
  if is_star then stars_from m (n + 1) else pure n

unfoldable pub stars : Reader ℕ
stars = λ i. stars_from i.turns 0 i

unfoldable pub a_type : Reader CType
a_type = do
  line ← here
  name ← type_name
  n ← stars
  pure (record { line = line; name = name; stars = n })

-- ---- names of types that are declared

-- these names, with this one after them if it is another
abbrev pub with_name : List (List ℕ) → Option (List ℕ) → List (List ℕ)
with_name names None = names
with_name names (Some name) = if is_among names name then names else names ++ name ∷ []
