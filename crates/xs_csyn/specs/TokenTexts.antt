-- What texts tokens have: a word begins as a word, and a punctuator does not.
use Rattle.std.specs.Prelude.{◌≡◌, ℕ, Bool, true, false, List, [], ◌∷◌, Ok}
use Rattle.xs_base.specs.Scanning.{begins_word}
use Rattle.xs_base.specs.declared.source.FileOf.{FileOf}
use Rattle.xs_base.specs.declared.source.Line.{Line}
use Rattle.xs_ctok.specs.Tokens.{tokens_of}
use Rattle.xs_ctok.specs.declared.token.Token.{Token}
use Rattle.xs_cinput.specs.TokenInput.{is_punct_kind, is_word_kind, kept}

-- the text begins as a word does
abbrev pub is_wordlike : List ℕ → Bool
is_wordlike [] = false
is_wordlike (c ∷ cs) = begins_word c

-- no word that is spelt as a punctuator, and no punctuator that is spelt as a word
abbrev pub IsSpelt : Token → Type 0
IsSpelt t = (is_word_kind t.kind ≡ true → is_wordlike t.text ≡ true)
    × (is_punct_kind t.kind ≡ true → is_wordlike t.text ≡ false)

abbrev pub AreSpelt : List Token → Type 0
AreSpelt [] = Unit {0}
AreSpelt (t ∷ ts) = IsSpelt t × AreSpelt ts

-- Of the tokens of lines, those that the grammar reads are spelt so.
abbrev pub TokensSpeltLaw : Type 0
TokensSpeltLaw = (file : FileOf) (lines : List Line) (whole : Bool) (ts : List Token)
    → tokens_of file lines ≡ Ok ts → AreSpelt (kept whole ts)
