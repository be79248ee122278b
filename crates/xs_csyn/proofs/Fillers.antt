-- There is a name to complete with: one that is longer than all others.
use Rattle.std.proofs.Common.{◌≡◌, ℕ, zero, suc, ◌+◌, ◌<◌, ◌≤◌, not, true, false, max, List, [], ◌∷◌, length, map, None, refl, ap, arith}
use Rattle.std.proofs.lemmas.Bool.{and_from, false_from_ne_true, leb-true, or_from}
use Rattle.std.proofs.lemmas.Slice.Eq.{bytes_eq-Decides}
use Rattle.std.specs.Str.{bytes_eq}
use Rattle.xs_base.specs.Names.{is_among}
use Rattle.xs_cinput.specs.Operators.{listed}
use Rattle.xs_cinput.specs.TokenInput.{is_name}
use Rattle.xs_csyn.specs.FaultPlaces.{FillerLaw, IsFiller}
use Rattle.xs_csyn.specs.TokenTexts.{is_wordlike}
use Rattle.xs_cstmt.specs.PerlForms.{forms}
use Rattle.xs_ctok.specs.CWords.{grammar_words, is_no_name, type_words}
use Rattle.xs_ctok.specs.declared.token.TokKind.TheVariants as kind
use Rattle.xs_ctok.specs.declared.token.Token.{Token}

-- ---- words that are shorter

abbrev longest : List (List ℕ) → ℕ
longest [] = 0
longest (word ∷ words) = max (length word) (longest words)

differs : (word text : List ℕ) → length word < length text → bytes_eq word text ≡ false
differs word text less = false_from_ne_true (bytes_eq word text) (λ e.
    let same : word ≡ text = (bytes_eq-Decides word text).0 e in
    let long : length word ≡ length text = ap (λ (l : List ℕ). length l) same in
    omega (arith, less, long))

not_among : (words : List (List ℕ)) (text : List ℕ) → longest words < length text → is_among words text ≡ false
not_among [] text less = refl
not_among (word ∷ words) text less =
    or_from (bytes_eq word text) (is_among words text) (differs word text (omega (arith, less))) (not_among words text (omega (arith, less)))

abbrev firsts : {V : Type 0} → List (List ℕ × V) → List (List ℕ)
firsts [] = []
firsts (row ∷ rows) = row.0 ∷ firsts rows

not_listed : {V : Type 0} (rows : List (List ℕ × V)) (text : List ℕ) → longest (firsts rows) < length text → listed rows text ≡ None
not_listed [] text less = refl
not_listed (row ∷ rows) text less = rw (differs row.0 text (omega (arith, less))) (not_listed rows text (omega (arith, less)))

-- the words of the grammar, and those that begin a form
words_short : longest type_words ≤ 63
words_short = leb-true (longest type_words) 63 refl

grammar_short : longest grammar_words ≤ 63
grammar_short = leb-true (longest grammar_words) 63 refl

forms_short : longest (firsts forms) ≤ 63
unfolding forms
forms_short = leb-true (longest (firsts forms)) 63 refl

-- ---- a long name

abbrev letters : ℕ → List ℕ
letters zero = 120 ∷ []
letters (suc n) = 120 ∷ letters n

letters_long : (n : ℕ) → length (letters n) ≡ n + 1
letters_long zero = refl
letters_long (suc n) = omega (arith, letters_long n)

abbrev named : List ℕ → Token
named text = record { kind = kind.Word; text = text; span = record { line = 0; col = 0 } }

no_word : (text : List ℕ) → 63 < length text → is_no_name text ≡ false
unfolding is_no_name
no_word text less =
    or_from (is_among type_words text) (is_among grammar_words text) (not_among type_words text (omega (arith, less, words_short)))
    (not_among grammar_words text (omega (arith, less, grammar_short)))

filler : (types : List (List ℕ)) (n : ℕ) → longest types ≤ n → 63 ≤ n → IsFiller types (named (letters n))
filler types n low long =
    let size = letters_long n in
    record {
      is_variable = and_from (is_name (named (letters n))) (not (is_among types (letters n)))
          (ap not (no_word (letters n) (omega (arith, size, long)))) (ap not (not_among types (letters n) (omega (arith, size, low))));
      is_spelt = ((λ e. wordlike n), (λ e. absurd cc));
      no_form = not_listed forms (letters n) (omega (arith, size, long, forms_short));
    }
  where
    wordlike : (n : ℕ) → is_wordlike (letters n) ≡ true
    wordlike zero = refl
    wordlike (suc n) = refl

pub filler_law : FillerLaw
filler_law types ts =
    let texts : List (List ℕ) = map (λ (t : Token). t.text) ts in
    let n : ℕ = longest types + (longest texts + 63) in
    let size = letters_long n in
    (named (letters n), filler types n (omega arith) (omega arith), not_among texts (letters n) (omega (arith, size)))
