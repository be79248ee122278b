-- Names of packages and of functions in them, and words that are listed.
use Rattle.std.specs.List.{list_any}
use Rattle.std.specs.Prelude.{ℕ, ◌≡◌, ◌==◌, Bool, true, false, List, [], ◌∷◌, ◌++◌, if◌then◌else◌}
use Rattle.std.specs.Str.{bytes_eq}
use Rattle.xs_base.specs.Scanning.{begins_word, is_identifier, is_word_byte}
use Rattle.xs_base.specs.declared.names.NameByte.{NameByte}
use Rattle.xs_base.specs.declared.names.NameByte.TheVariants.{First, Further, SecondColon}

-- whether bytes are the rest of a qualified name, by the byte that has to come
abbrev pub is_rest_of_name : NameByte → List ℕ → Bool
is_rest_of_name First [] = false
is_rest_of_name Further [] = true
is_rest_of_name SecondColon [] = false
is_rest_of_name First (b ∷ bs) = if begins_word b then is_rest_of_name Further bs else false
is_rest_of_name Further (b ∷ bs) = if is_word_byte b then is_rest_of_name Further bs
    else (if b == 58 then is_rest_of_name SecondColon bs else false)
is_rest_of_name SecondColon (b ∷ bs) = if b == 58 then is_rest_of_name First bs else false

-- whether a text is a qualified name
abbrev pub is_qualified_name : List ℕ → Bool
is_qualified_name text = is_rest_of_name First text

-- Identifiers joined by `::`. By a law of this crate these are the qualified names.
pub data IsJoined : List ℕ → Type 0 where
  one : (word : List ℕ) → is_identifier word ≡ true → IsJoined word
  more : (word : List ℕ) {rest : List ℕ} → is_identifier word ≡ true → IsJoined rest
      → IsJoined (word ++ 58 ∷ 58 ∷ rest)

-- whether a word is listed
abbrev pub is_among : List (List ℕ) → List ℕ → Bool
is_among words word = list_any (λ w. bytes_eq w word) words
