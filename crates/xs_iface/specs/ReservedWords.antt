-- Which words may name a parameter or a function.
use Rattle.std.specs.Prelude.{ℕ, ◌&&◌, ◌||◌, not, Bool, List, map}
use Rattle.xs_base.specs.Names.{is_among}
use Rattle.xs_base.specs.Scanning.{is_identifier}
use Rattle.xs_ctok.specs.CWords.{is_reserved}
use Rattle.xs_iface.specs.declared.reserved_words.TheConstants.{GLUE_WORDS}

-- the words of the glue's results and of the preprocessor
unfoldable pub glue_words : List (List ℕ)
glue_words = map (λ word. word.now) GLUE_WORDS

-- a word that no parameter and no function of an XSUB has as its name
abbrev pub is_no_xsub_name : List ℕ → Bool
is_no_xsub_name word = is_reserved word || is_among glue_words word

-- a word that may name a parameter or a function
abbrev pub is_free : List ℕ → Bool
is_free word = is_identifier word && not (is_no_xsub_name word)
