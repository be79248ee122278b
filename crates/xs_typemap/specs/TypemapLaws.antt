-- What holds of typemaps and of tidied types.
use Rattle.std.specs.List.{flat_map, list_all}
use Rattle.std.specs.Map.{keys_of}
use Rattle.std.specs.Option.{option_or}
use Rattle.std.specs.Prelude.{◌≡◌, ℕ, not, ◌&&◌, ◌||◌, ◌==◌, Bool, true, false, filter, if◌then◌else◌, List, [], ◌∷◌, ◌++◌, Some, codes}
use Rattle.std.specs.Str.{bytes_eq}
use Rattle.xs_base.specs.ByteRuns.{after_blanks}
use Rattle.xs_base.specs.Names.{is_among}
use Rattle.xs_base.specs.Readers.{head_is}
use Rattle.xs_base.specs.Scanning.{is_blank, is_blank_line, is_identifier}
use Rattle.xs_typemap.specs.TidiedTypes.{is_type, tidied}
use Rattle.xs_typemap.specs.TypemapEntries.{Entries, Words, code_of, kind_of, merged, with_code, with_type}
use Rattle.xs_typemap.specs.TypemapLines.{entry_of, heading_of, without_end_blanks}
use Rattle.xs_typemap.specs.declared.lines.Section.{Section}
use Rattle.xs_typemap.specs.declared.lines.Section.TheVariants.{Types, Input, Output}
use Rattle.xs_typemap.specs.declared.lines.TypeEntry.{TypeEntry}
use Rattle.xs_typemap.specs.declared.typemap.Code.{Code}

-- the words, in the order in which they first stood
abbrev pub words_of : {V : Type 0} → Words V → List (List ℕ)
words_of words = keys_of words

-- no word stands twice
abbrev pub are_distinct : List (List ℕ) → Bool
are_distinct [] = true
are_distinct (word ∷ words) = not (is_among words word) && are_distinct words

-- Each type has one kind, and each kind one input code and one output code at most.
pub record IsDistinct (held : Entries) : Type 0 where
  pub types : are_distinct (words_of held.types) ≡ true
  pub inputs : are_distinct (words_of held.inputs) ≡ true
  pub outputs : are_distinct (words_of held.outputs) ≡ true

-- A word that stands keeps its place, and a new one goes last.
abbrev pub in_order : List (List ℕ) → List ℕ → List (List ℕ)
in_order words word = if is_among words word then words else words ++ word ∷ []

-- What is given later replaces what was given before, and leaves all else as it was.
pub record LaterReplaces : Type 0 where
  pub kind_given : (held : Entries) (ctype kind : List ℕ)
      → kind_of (with_type ctype kind held) ctype ≡ Some kind
  pub kind_kept : (held : Entries) (ctype kind other : List ℕ) → bytes_eq other ctype ≡ false
      → kind_of (with_type ctype kind held) other ≡ kind_of held other
  pub code_given : (held : Entries) (input : Bool) (kind : List ℕ) (code : Code)
      → code_of (with_code input kind code held) kind input ≡ Some code
  pub code_kept : (held : Entries) (input : Bool) (kind other : List ℕ) (code : Code)
      → bytes_eq other kind ≡ false
      → code_of (with_code input kind code held) other input ≡ code_of held other input
  pub direction_kept : (held : Entries) (input : Bool) (kind other : List ℕ) (code : Code)
      → code_of (with_code input kind code held) other (not input) ≡ code_of held other (not input)
  pub types_in_order : (held : Entries) (ctype kind : List ℕ)
      → words_of (with_type ctype kind held).types ≡ in_order (words_of held.types) ctype

-- A typemap that is merged holds what the later one says, and else what the earlier one says.
pub record LaterHolds : Type 0 where
  pub distinct : (held later : Entries) → IsDistinct held → IsDistinct (merged held later)
  pub kinds : (held later : Entries) → IsDistinct later → (ctype : List ℕ)
      → kind_of (merged held later) ctype ≡ option_or (kind_of later ctype) (kind_of held ctype)
  pub codes : (held later : Entries) → IsDistinct later → (kind : List ℕ) (input : Bool)
      → code_of (merged held later) kind input
      ≡ option_or (code_of later kind input) (code_of held kind input)

-- what is left of a text without its blanks
abbrev pub without_blanks : List ℕ → List ℕ
without_blanks text = filter (λ b. not (is_blank b)) text

-- ---- what tidying makes of a type

-- a byte of a word in the text of a type
abbrev pub is_letter : ℕ → Bool
is_letter b = not (is_blank b) && not (b == 42)

abbrev pub is_star_or_blank : ℕ → Bool
is_star_or_blank b = is_blank b || b == 42

-- The words and the runs of stars that the text of a type is made of, in order. Stars with blanks
-- alone between them are one run.
pub data HasParts : List ℕ → List (List ℕ) → Type 0 where
  none : (text : List ℕ) → is_blank_line text ≡ true → HasParts text []
  word : (blanks : List ℕ) (b : ℕ) (bs : List ℕ) {text : List ℕ} {parts : List (List ℕ)}
      → is_blank_line blanks ≡ true → list_all is_letter (b ∷ bs) ≡ true
      → head_is is_letter text ≡ false → HasParts text parts
      → HasParts (blanks ++ b ∷ (bs ++ text)) ((b ∷ bs) ∷ parts)
  stars : (blanks run : List ℕ) {text : List ℕ} {parts : List (List ℕ)}
      → is_blank_line blanks ≡ true → list_all is_star_or_blank run ≡ true
      → head_is (λ b. b == 42) (after_blanks text) ≡ false → HasParts text parts
      → HasParts (blanks ++ 42 ∷ (run ++ text)) ((42 ∷ without_blanks run) ∷ parts)

-- parts, each after a space
abbrev pub after_spaces : List (List ℕ) → List ℕ
after_spaces parts = flat_map (λ part. 32 ∷ part) parts

-- parts with one space between each two
abbrev pub with_spaces : List (List ℕ) → List ℕ
with_spaces [] = []
with_spaces (part ∷ parts) = part ++ after_spaces parts

-- A tidied type stays as it is when it is tidied again, nothing but blanks is added or lost, and
-- its parts have one space between each two.
pub record TidyLaw : Type 0 where
  pub once : (text : List ℕ) → tidied (tidied text) ≡ tidied text
  pub same : (text : List ℕ) → without_blanks (tidied text) ≡ without_blanks text
  pub some : (text : List ℕ) → (parts : List (List ℕ)) × HasParts text parts
  pub parts : (text : List ℕ) (parts : List (List ℕ)) → HasParts text parts
      → tidied text ≡ with_spaces parts

-- A tidied type, in the words of the format: identifiers with one space between them, and maybe one
-- space and stars after them.
pub data IsCType : List ℕ → Type 0 where
  word : (name : List ℕ) → is_identifier name ≡ true → IsCType name
  pointer : (name stars : List ℕ) → is_identifier name ≡ true
      → list_all (λ b. b == 42) stars ≡ true → IsCType (name ++ 32 ∷ 42 ∷ stars)
  more : (name : List ℕ) {rest : List ℕ} → is_identifier name ≡ true → IsCType rest
      → IsCType (name ++ 32 ∷ rest)

pub record TypesLaw : Type 0 where
  pub spelt : (text : List ℕ) → is_type text ≡ true → IsCType text
  pub taken : (text : List ℕ) → IsCType text → is_type text ≡ true

-- ---- what a line is, in the words of the format

-- the word of a heading
abbrev pub word_of : Section → List ℕ
word_of Types = codes "TYPEMAP"
word_of Input = codes "INPUT"
word_of Output = codes "OUTPUT"

-- a line of one word, with blanks alone after it
pub record IsAlone (text word : List ℕ) : Type 0 where
  pub after : List ℕ
  pub stands : text ≡ word ++ after
  pub blanks : is_blank_line after ≡ true

-- a line of a type, blanks, the name of a kind, and maybe blanks
pub record IsEntry (text : List ℕ) (entry : TypeEntry) : Type 0 where
  pub before : List ℕ
  pub blank : ℕ
  pub after : List ℕ
  pub stands : text ≡ before ++ blank ∷ (entry.kind ++ after)
  pub apart : is_blank blank ≡ true
  pub blanks : is_blank_line after ≡ true
  pub ctype : entry.ctype ≡ tidied before
  pub is_type : is_type entry.ctype ≡ true
  pub is_kind : is_identifier entry.kind ≡ true

-- A line is a heading, the name of a kind or an entry just where it is spelt so.
pub record LinesLaw : Type 0 where
  pub heading : (text : List ℕ) (section : Section) → heading_of text ≡ Some section
      → IsAlone text (word_of section)
  pub is_heading : (text : List ℕ) (section : Section) → IsAlone text (word_of section)
      → heading_of text ≡ Some section
  pub name : (text : List ℕ) → is_identifier (without_end_blanks text) ≡ true
      → IsAlone text (without_end_blanks text)
  pub is_name : (text name : List ℕ) → is_identifier name ≡ true → IsAlone text name
      → without_end_blanks text ≡ name
  pub entry : (text : List ℕ) (e : TypeEntry) → entry_of text ≡ Some e → IsEntry text e
  pub is_entry : (text : List ℕ) (e : TypeEntry) → IsEntry text e → entry_of text ≡ Some e
