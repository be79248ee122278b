-- The words of the grammar of C, and which words are reserved, by the tables of the program.
use Rattle.std.specs.Prelude.{ℕ, Bool, ◌||◌, List, map}
use Rattle.xs_ctok.specs.declared.words.TheConstants.{DROPPED_STATEMENTS, DROPPED_WORDS, GRAMMAR_WORDS, TYPE_WORDS}
use Rattle.xs_base.specs.Names.{is_among}
use Rattle.xs_perlapi.specs.Table.{is_interface_word}

abbrev pub type_words : List (List ℕ)
type_words = map (λ word. word.now) TYPE_WORDS

abbrev pub grammar_words : List (List ℕ)
grammar_words = map (λ word. word.now) GRAMMAR_WORDS

abbrev pub dropped_words : List (List ℕ)
dropped_words = map (λ word. word.now) DROPPED_WORDS

abbrev pub dropped_statements : List (List ℕ)
dropped_statements = map (λ word. word.now) DROPPED_STATEMENTS

-- whether a word names a type, whatever the file declares
unfoldable pub is_type_word : List ℕ → Bool
is_type_word word = is_among type_words word

-- whether a word is no name of anything
unfoldable pub is_no_name : List ℕ → Bool
is_no_name word = is_among type_words word || is_among grammar_words word

-- whether a word is passed over
unfoldable pub is_dropped_word : List ℕ → Bool
is_dropped_word word = is_among dropped_words word

-- whether a word is passed over with the `;` after it
unfoldable pub is_dropped_statement : List ℕ → Bool
is_dropped_statement word = is_among dropped_statements word

-- a reserved word
abbrev pub is_reserved : List ℕ → Bool
is_reserved word =
    is_no_name word
    || (is_dropped_word word || (is_dropped_statement word || is_interface_word word))
