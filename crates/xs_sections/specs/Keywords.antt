-- What a line is that may begin a paragraph: a file keyword, or the first line of the paragraph
-- itself.
use Rattle.std.specs.Prelude.{ℕ, Bool, true, false, not, ◌&&◌, ◌||◌, ◌==◌, if◌then◌else◌, List, [], ◌∷◌, Option, None, Some, codes, map, option_and_then}
use Rattle.std.specs.Str.{bytes_eq}
use Rattle.xs_base.specs.Names.{is_among}
use Rattle.xs_base.specs.ByteRuns.{after_run, after_blanks, front_of}
use Rattle.xs_base.specs.Scanning.{strip_prefix, starts_with, is_blank_line, is_identifier}
use Rattle.xs_sections.specs.declared.words.TheConstants.{BOOT, FALLBACK, FALLBACK_VALUES, LEFT_OUT, REQUIRE, SWITCHES, SWITCH_VALUES, TYPEMAP}
use Rattle.xs_base.specs.declared.byte_runs.ByteClass.TheVariants.{Capital, NoBlank, Word}
use Rattle.xs_sections.specs.declared.class.LineClass.{LineClass}
use Rattle.xs_sections.specs.declared.class.LineClass.TheVariants.{Keyword, BadValue, LeftOut, MapBegin, First, FirstOfBoot}

-- the one word of a value; no word where it has none or several
abbrev pub only_word : List ℕ → List ℕ
only_word value = if is_blank_line (after_run NoBlank (after_blanks value)) then front_of NoBlank
    (after_blanks value) else []

-- the value of PROTOTYPES and VERSIONCHECK
abbrev pub is_switch : List ℕ → Bool
is_switch word = is_among (map (λ value. value.now) SWITCH_VALUES) word

-- the value of FALLBACK
abbrev pub is_fallback : List ℕ → Bool
is_fallback word = is_among (map (λ value. value.now) FALLBACK_VALUES) word

-- the value of REQUIRE: a word
abbrev pub is_some_word : List ℕ → Bool
is_some_word [] = false
is_some_word (b ∷ bs) = true

-- after the end word of a typemap block, and its quote, stands nothing or `;`
abbrev pub is_closing : List ℕ → Bool
is_closing [] = true
is_closing (b ∷ []) = b == 59
is_closing (b ∷ c ∷ cs) = false

-- an end word is an identifier
abbrev pub end_word_of : List ℕ → List ℕ → Option (List ℕ)
end_word_of word closing = if is_identifier word && is_closing closing then Some word else None

-- what stands after the end word begins with its quote
abbrev pub quoted_word : ℕ → List ℕ → List ℕ → Option (List ℕ)
quoted_word quote word [] = None
quoted_word quote word (b ∷ closing) = if b == quote then end_word_of word closing else None

-- an end word, alone or in single or double quotes
abbrev pub end_word : List ℕ → Option (List ℕ)
end_word [] = None
end_word (b ∷ bs) =
    if b == 34 || b == 39 then quoted_word b (front_of Word bs) (after_run Word bs)
    else end_word_of (front_of Word (b ∷ bs)) (after_run Word (b ∷ bs))

-- the value of TYPEMAP: `<<` and the end word of the block
abbrev pub block_end : List ℕ → Option (List ℕ)
block_end word = option_and_then end_word (strip_prefix (codes "<<") word)

-- the file keywords that are left out
abbrev pub left_out_words : List (List ℕ)
left_out_words = map (λ keyword. keyword.now) LEFT_OUT

abbrev pub value_class : Bool → LineClass
value_class is_good = if is_good then Keyword else BadValue

abbrev pub map_class : Option (List ℕ) → LineClass
map_class None = BadValue
map_class (Some word) = MapBegin word

-- a line that is no file keyword
abbrev pub text_class : List ℕ → LineClass
text_class line = if starts_with BOOT.now line then FirstOfBoot else First

-- a keyword that is left out; `::` makes none
unfoldable pub left_out_class : List ℕ → List ℕ → List ℕ → LineClass
left_out_class word value line =
    if is_among left_out_words word && not (starts_with (codes ":") value) then LeftOut word
    else text_class line

-- a line that begins with a word, maybe blanks, and `:`, after which the value stands
unfoldable pub word_class : List ℕ → List ℕ → List ℕ → LineClass
word_class word value line =
    if is_among (map (λ keyword. keyword.now) SWITCHES) word then value_class
    (is_switch (only_word value))
    else (if bytes_eq word REQUIRE.now then value_class (is_some_word (only_word value))
    else (if bytes_eq word FALLBACK.now then value_class (is_fallback (only_word value))
    else (if bytes_eq word TYPEMAP.now then map_class (block_end (only_word value))
    else left_out_class word value line)))

-- the same of a line, by its word of capital letters and what stands after the word
abbrev pub class_after_word : List ℕ → List ℕ → List ℕ → LineClass
class_after_word word [] line = text_class line
class_after_word word (b ∷ value) line =
    if b == 58 then word_class word value line else text_class line

abbrev pub head_class : List ℕ → LineClass
head_class line =
    class_after_word (front_of Capital line) (after_blanks (after_run Capital line)) line
