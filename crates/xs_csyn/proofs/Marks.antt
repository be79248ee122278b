-- What a token is not.
use Rattle.std.proofs.Common.{◌≡◌, ℕ, Bool, true, false, if◌then◌else◌, ◌&&◌, ◌||◌, not, List, [], ◌∷◌, Option, Some, None, refl, ap, ◌∙◌}
use Rattle.std.proofs.lemmas.Bool.{and_from, and_left, and_right, and_parts, both_ways, false_from_ne_true, not-true, or_from, or_parts}
use Rattle.std.proofs.lemmas.Slice.Eq.{bytes_eq-Decides}
use Rattle.std.specs.Str.{bytes_eq}
use Rattle.xs_base.specs.Names.{is_among}
use Rattle.xs_ctok.specs.declared.token.TokKind.{TokKind}
use Rattle.xs_ctok.specs.declared.token.TokKind.TheVariants as kind
use Rattle.xs_ctok.specs.declared.token.Token.{Token}
use Rattle.xs_csyn.specs.FileGrammar.{AreNames}
use Rattle.xs_csyn.specs.Grammar.{Is, IsVariable, IsWord, MayName}
use Rattle.xs_cinput.specs.Operators.{listed, sign_in}
use Rattle.xs_cinput.specs.TokenInput.{is_name, is_punct_kind, is_sign, is_type, is_word, is_word_kind}
use Rattle.xs_ctok.specs.CWords.{grammar_words, is_no_name, is_type_word, type_words}

pub sign_only : (s : TokKind) → is_punct_kind s ≡ true → s ≡ kind.Punct
sign_only kind.Punct e = refl
sign_only s e = absurd cc

pub word_only : (s : TokKind) → is_word_kind s ≡ true → s ≡ kind.Word
word_only kind.Word e = refl
word_only s e = absurd cc

-- a token of one kind that is spelt so
abbrev pub IsOf : TokKind → List ℕ → Token → Type 0
IsOf s text u = (u.kind ≡ s) × (u.text ≡ text)

pub is_sign_of : (m : List ℕ) (u : Token) → Is m u → IsOf kind.Punct m u
is_sign_of m u is = let h = and_parts (is_punct_kind u.kind) (bytes_eq u.text m) is in (sign_only u.kind h.0, (bytes_eq-Decides u.text m).0 h.1)

pub is_word_of : (word : List ℕ) (u : Token) → IsWord word u → IsOf kind.Word word u
is_word_of word u is = let h = and_parts (is_word_kind u.kind) (bytes_eq u.text word) is in (word_only u.kind h.0, (bytes_eq-Decides u.text word).0 h.1)

pub is_word_from : (word : List ℕ) (u : Token) → is_word_kind u.kind ≡ true → u.text ≡ word → IsWord word u
is_word_from word u k e = and_from (is_word_kind u.kind) (bytes_eq u.text word) k ((bytes_eq-Decides u.text word).1 e)

-- a token that is one punctuator is another only if they are the same
pub marks : (m n : List ℕ) (u : Token) → Is m u → is_sign n u ≡ bytes_eq m n
marks m n u is = let k = is_sign_of m u is in ap (λ s. is_punct_kind s && bytes_eq u.text n) k.0 ∙ ap (λ x. bytes_eq x n) k.1

pub words : (m n : List ℕ) (u : Token) → IsWord m u → is_word n u ≡ bytes_eq m n
words m n u is = let k = is_word_of m u is in ap (λ s. is_word_kind s && bytes_eq u.text n) k.0 ∙ ap (λ x. bytes_eq x n) k.1

-- a token of another kind is no punctuator, and no word
pub no_mark : (m : List ℕ) (u : Token) → is_punct_kind u.kind ≡ false → is_sign m u ≡ false
no_mark m u other = and_left (is_punct_kind u.kind) (bytes_eq u.text m) other

pub no_word : (m : List ℕ) (u : Token) → is_word_kind u.kind ≡ false → is_word m u ≡ false
no_word m u other = and_left (is_word_kind u.kind) (bytes_eq u.text m) other

pub mark_no_word : (m n : List ℕ) (u : Token) → Is m u → is_word n u ≡ false
mark_no_word m n u is = no_word n u (ap is_word_kind (is_sign_of m u is).0)

pub word_no_mark : (m n : List ℕ) (u : Token) → IsWord m u → is_sign n u ≡ false
word_no_mark m n u is = no_mark n u (ap is_punct_kind (is_word_of m u is).0)

-- what stands in a table of signs for a punctuator
pub sign_row : {V : Type 0} (table : List (List ℕ × V)) (m : List ℕ) (u : Token) → Is m u → sign_in table u ≡ listed table m
sign_row table m u is = let k = is_sign_of m u is in rw (k.0, k.1) refl

-- nothing stands there for a token of another kind
pub no_sign_row : {V : Type 0} (table : List (List ℕ × V)) (u : Token) → is_punct_kind u.kind ≡ false → sign_in table u ≡ None
no_sign_row table u other = rw other refl

-- ---- names

pub name_kind : (u : Token) → MayName u → u.kind ≡ kind.Word
name_kind u n = word_only u.kind (and_parts (is_word_kind u.kind) (not (is_no_name u.text)) n).0

pub variable_name : (types : List (List ℕ)) (u : Token) → IsVariable types u → MayName u
variable_name types u v = (and_parts (is_name u) (not (is_among types u.text)) v).0

pub name_no_mark : (m : List ℕ) (u : Token) → MayName u → is_sign m u ≡ false
name_no_mark m u n = no_mark m u (ap is_punct_kind (name_kind u n))

-- what is no name: a punctuator, and a word of the grammar
pub mark_no_name : (m : List ℕ) (u : Token) → Is m u → is_name u ≡ false
mark_no_name m u is = and_left (is_word_kind u.kind) (not (is_no_name u.text)) (ap is_word_kind (is_sign_of m u is).0)

pub row_no_name : {V : Type 0} (table : List (List ℕ × V)) (u : Token) (v : V) → sign_in table u ≡ Some v → is_name u ≡ false
row_no_name {V} table u v e = by (is_punct_kind u.kind) refl e
  where
    by : (c : Bool) → is_punct_kind u.kind ≡ c → ◌≡◌ {A = Option V} (if c then listed table u.text else None) (Some v) → is_name u ≡ false
    by true is h = and_left (is_word_kind u.kind) (not (is_no_name u.text)) (ap is_word_kind (sign_only u.kind is))
    by false is h = absurd cc

pub word_no_name : (word : List ℕ) (u : Token) → IsWord word u → is_no_name word ≡ true → is_name u ≡ false
word_no_name word u is isnt =
    and_right (is_word_kind u.kind) (not (is_no_name u.text)) (ap not (ap is_no_name (is_word_of word u is).1 ∙ isnt))

-- a name is none of the words that are no names
pub name_no_word : (m : List ℕ) (u : Token) → MayName u → is_no_name m ≡ true → is_word m u ≡ false
name_no_word m u n isnt = false_from_ne_true (is_word m u) (λ is.
    both_ways (is_no_name u.text) (not-true (is_no_name u.text) (and_parts (is_word_kind u.kind) (not (is_no_name u.text)) n).1)
    (ap is_no_name (is_word_of m u is).1 ∙ isnt))

pub variable_no_type : (types : List (List ℕ)) (u : Token) → IsVariable types u → is_type types u ≡ false
unfolding is_no_name is_type_word
variable_no_type types u v =
    let p = and_parts (is_name u) (not (is_among types u.text)) v in
    let q = and_parts (is_word_kind u.kind) (not (is_no_name u.text)) p.0 in
    let none = or_parts (is_among type_words u.text) (is_among grammar_words u.text) (not-true (is_no_name u.text) q.1) in
    rw (q.0, none.0, not-true (is_among types u.text) p.1) refl

-- ---- types

-- a word of the grammar is no type's name
not_among : (types : List (List ℕ)) (word : List ℕ) → AreNames types → is_no_name word ≡ true → is_among types word ≡ false
not_among [] word names isnt = refl
not_among (name ∷ more) word names isnt =
    or_from (bytes_eq name word) (is_among more word)
    (false_from_ne_true (bytes_eq name word) (λ same. both_ways (is_no_name name) names.0 (ap is_no_name ((bytes_eq-Decides name word).0 same) ∙ isnt)))
    (not_among more word names.1 isnt)

pub word_no_type : (types : List (List ℕ)) (word : List ℕ) (u : Token) → AreNames types → IsWord word u → is_no_name word ≡ true → is_type_word word ≡ false
    → is_type types u ≡ false
word_no_type types word u names is isnt other =
    let k = is_word_of word u is in rw (k.0, k.1, other, not_among types word names isnt) refl

pub mark_no_type : (types : List (List ℕ)) (m : List ℕ) (u : Token) → Is m u → is_type types u ≡ false
mark_no_type types m u is = let k = is_sign_of m u is in rw (k.0) refl

pub type_kind : (types : List (List ℕ)) (u : Token) → is_type types u ≡ true → u.kind ≡ kind.Word
type_kind types u is = word_only u.kind (and_parts (is_word_kind u.kind) (is_type_word u.text || is_among types u.text) is).0

pub type_no_mark : (types : List (List ℕ)) (m : List ℕ) (u : Token) → is_type types u ≡ true → is_sign m u ≡ false
type_no_mark types m u is = no_mark m u (ap is_punct_kind (type_kind types u is))
