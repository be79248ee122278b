-- What a typemap holds: types with their kinds, and kinds with their code.
use Rattle.indexmap.specs.IndexMap.{IndexMap, insert_all, insert_entry}
use Rattle.std.specs.Map.{lookup}
use Rattle.std.specs.Prelude.{ℕ, Bool, if◌then◌else◌, List, [], map, Option}
use Rattle.std.specs.Str.{bytes_eq}
use Rattle.std.specs.declared.alloc.Global.{Global}
use Rattle.std.specs.declared.vec.Vec.{Vec}
use Rattle.xs_typemap.specs.declared.typemap.Code.{Code}

-- words, each with what it stands for, in the order in which they first stood
abbrev pub Words : Type 0 → Type 0
Words V = List (List ℕ × V)

-- A word that is there keeps its place and takes the new value, and a new one goes last.
abbrev pub with_word : {V : Type 0} → Words V → List ℕ → V → Words V
with_word = insert_entry bytes_eq

-- with each of further words, one after the other
abbrev pub with_words : {V : Type 0} → Words V → Words V → Words V
with_words = insert_all bytes_eq

-- what a word stands for
abbrev pub value_of : {V : Type 0} → Words V → List ℕ → Option V
value_of words word = lookup (bytes_eq word) words

-- the words that a map holds
abbrev pub words_in : {V S : Type 0} → IndexMap (Vec ℕ Global) V S → Words V
words_in held = map (λ entry. (entry.0.items, entry.1)) held.entries

-- A typemap: each type with its kind, and each kind with its input code and its output code.
pub record Entries : Type 0 where
  pub types : Words (List ℕ)
  pub inputs : Words Code
  pub outputs : Words Code

abbrev pub entries_of : Words (List ℕ) → Words Code → Words Code → Entries
entries_of types inputs outputs = record { types = types; inputs = inputs; outputs = outputs }

abbrev pub no_entries : Entries
no_entries = entries_of [] [] []

abbrev pub with_type : List ℕ → List ℕ → Entries → Entries
with_type ctype kind m = record m { types = with_word m.types ctype kind }

abbrev pub with_code : Bool → List ℕ → Code → Entries → Entries
with_code input kind code m =
    if input then record m { inputs = with_word m.inputs kind code }
    else record m { outputs = with_word m.outputs kind code }

-- Later entries replace earlier ones of the same type or kind.
abbrev pub merged : Entries → Entries → Entries
merged m later =
    entries_of (with_words m.types later.types) (with_words m.inputs later.inputs)
    (with_words m.outputs later.outputs)

-- the kind of a type
abbrev pub kind_of : Entries → List ℕ → Option (List ℕ)
kind_of m ctype = value_of m.types ctype

-- the code of a kind, for one direction
abbrev pub code_of : Entries → List ℕ → Bool → Option Code
code_of m kind input = value_of (if input then m.inputs else m.outputs) kind
