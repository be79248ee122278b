-- The words that a map holds.
use Rattle.indexmap.specs.IndexMap.{insert_all, insert_entry}
use Rattle.std.proofs.Common.{◌≡◌, ℕ, Bool, true, false, cond, if◌then◌else◌, List, [], ◌∷◌, map, Some, Option, refl, ap, ◌∙◌}
use Rattle.std.specs.Map.{lookup}
use Rattle.std.specs.Str.{bytes_eq}
use Rattle.std.specs.declared.alloc.Global.{Global}
use Rattle.std.specs.declared.vec.Vec.{Vec}

abbrev pub Key : Type 0
Key = Vec ℕ Global

abbrev pub shown : {V : Type 0} → Key × V → List ℕ × V
shown entry = (entry.0.items, entry.1)

abbrev pub same_key : Key → Key → Bool
same_key a b = bytes_eq a.items b.items

-- a word stands for what the map holds at it
pub value_held : {V : Type 0} (held : List (Key × V)) (word : List ℕ)
    → lookup (λ (key : Key). bytes_eq word key.items) held ≡ lookup (bytes_eq word) (map shown held)
value_held [] word = refl
value_held {V} (entry ∷ held) word =
    ap (λ (o : Option V). cond (bytes_eq word entry.0.items) (Some entry.1) o) (value_held held word)

-- the words, after the map took one
pub one_set : {V : Type 0} (held : List (Key × V)) (key : Key) (value : V)
    → map shown (insert_entry same_key held key value) ≡ insert_entry bytes_eq (map shown held) key.items value
one_set [] key value = refl
one_set {V} (entry ∷ held) key value = by (bytes_eq key.items entry.0.items) (one_set held key value)
  where
    by : (t : Bool) → map shown (insert_entry same_key held key value) ≡ insert_entry bytes_eq (map shown held) key.items value
        → map shown (if t then (entry.0, value) ∷ held else entry ∷ insert_entry same_key held key value)
        ≡ (if t then (entry.0.items, value) ∷ map shown held else shown entry ∷ insert_entry bytes_eq (map shown held) key.items value)
    by true ih = refl
    by false ih = ap (λ (r : List (List ℕ × V)). shown entry ∷ r) ih

-- the words, after the map took those of another
pub all_set : {V : Type 0} (held more : List (Key × V))
    → map shown (insert_all same_key held more) ≡ insert_all bytes_eq (map shown held) (map shown more)
all_set held [] = refl
all_set {V} held (entry ∷ more) =
    all_set (insert_entry same_key held entry.0 entry.1) more
    ∙ ap (λ (words : List (List ℕ × V)). insert_all bytes_eq words (map shown more)) (one_set held entry.0 entry.1)
