-- The tokens of lines are spelt as tokens are, and so are those of them that the grammar reads.
use Rattle.std.proofs.Common.{◌≡◌, ℕ, ◌||◌, Bool, true, false, not, if◌then◌else◌, List, [], ◌∷◌, ◌++◌, map, Option, refl}
use Rattle.std.proofs.lemmas.Bool.{and_parts, not-true}
use Rattle.std.specs.List.{list_all}
use Rattle.xs_base.specs.Scanning.{begins_word, is_identifier, is_word_byte}
use Rattle.xs_base.specs.declared.source.Line.{Line}
use Rattle.xs_base.specs.declared.source.Span.{Span}
use Rattle.xs_cinput.specs.TokenInput.{is_passed, is_passed_pair, is_punct_kind, is_word_kind, kept_from}
use Rattle.xs_csyn.proofs.FormSlots.{sign_spelt, word_spelt}
use Rattle.xs_csyn.specs.TokenTexts.{AreSpelt, IsSpelt, TokensSpeltLaw, is_wordlike}
use Rattle.xs_ctok.proofs.LinesSpelled.{spelled_law}
use Rattle.xs_ctok.proofs.PunctuatorsSpelled.{among_has}
use Rattle.xs_ctok.specs.LineSpelling as ls
use Rattle.xs_ctok.specs.LineSpelling.{IsRead, Reads, span_at}
use Rattle.xs_ctok.specs.Punctuators.{is_double, is_single, is_triple}
use Rattle.xs_ctok.specs.TokenSpelling as sp
use Rattle.xs_ctok.specs.TokenSpelling.{Stands, is_punctuator}
use Rattle.xs_ctok.specs.Tokens.{token_at}
use Rattle.xs_ctok.specs.declared.lexing.Mode.{Mode}
use Rattle.xs_ctok.specs.declared.punctuators.TheConstants.{DOUBLES, SINGLES, TRIPLES}
use Rattle.xs_ctok.specs.declared.token.TokKind.{TokKind}
use Rattle.xs_ctok.specs.declared.token.TokKind.TheVariants as kind
use Rattle.xs_ctok.specs.declared.token.Token.{Token}

-- ---- one token

identifier_wordlike : (t : List ℕ) → is_identifier t ≡ true → is_wordlike t ≡ true
identifier_wordlike [] h = absurd cc
identifier_wordlike (b ∷ bs) h = (and_parts (begins_word b) (list_all is_word_byte bs) h).0

-- no punctuator of the tables begins as a word does
abbrev no_word : List ℕ → Bool
no_word p = not (is_wordlike p)

punctuator_no_word : (p : List ℕ) → is_punctuator p ≡ true → no_word p ≡ true
punctuator_no_word p h = by (is_triple p) (is_double p) refl refl h
  where
    by : (s t : Bool) → is_triple p ≡ s → is_double p ≡ t → (s || (t || is_single p)) ≡ true → no_word p ≡ true
    by true t e f h = among_has no_word (map (λ q. q.now) TRIPLES) p refl e
    by false true e f h = among_has no_word (map (λ q. q.now) DOUBLES) p refl f
    by false false e f h = among_has no_word (map (λ q. q.now) SINGLES) p refl h

-- neither a word nor a punctuator
other_spelt : (t : Token) → is_word_kind t.kind ≡ false → is_punct_kind t.kind ≡ false → IsSpelt t
other_spelt t word sign = ((λ e. absurd cc), (λ e. absurd cc))

stands_spelt : {fresh : Bool} {k : TokKind} {t rest : List ℕ} (span : Span) → Stands fresh k t rest → IsSpelt (token_at k span t)
stands_spelt span (sp.word {t = t} h stop) = word_spelt (token_at kind.Word span t) refl (identifier_wordlike t h)
stands_spelt span (sp.integer {literal = l} {t = t} x) = other_spelt (token_at (kind.Int l) span t) refl refl
stands_spelt span (sp.character {value = v} {s = s} x) = other_spelt (token_at (kind.Char v) span (39 ∷ (s ++ 39 ∷ []))) refl refl
stands_spelt span (sp.text {s = s} {bytes = bytes} x) = other_spelt (token_at (kind.Text bytes) span (34 ∷ (s ++ 34 ∷ []))) refl refl
stands_spelt span (sp.punctuator {t = t} x) =
    sign_spelt (token_at kind.Punct span t) refl (not-true (is_wordlike t) (punctuator_no_word t x.listed))
stands_spelt {t = t} span (sp.include before more blank stop) = other_spelt (token_at kind.Include span t) refl refl
stands_spelt {t = t} span (sp.no_context x stop over) = other_spelt (token_at kind.Include span t) refl refl
stands_spelt {t = t} span (sp.define {name = name} {literal = l} x named free gap some number over) =
    other_spelt (token_at (kind.Define name l) span t) refl refl

-- ---- all tokens

-- the tokens of a part of a line, with others after them
reads_spelt : {line c d : ℕ} {m n : Mode} {bs es : List ℕ} {ts : List Token} (us : List Token) → Reads line m c bs ts n d es → AreSpelt us
    → AreSpelt (ts ++ us)
reads_spelt us ls.here a = a
reads_spelt us (ls.blank h e x) a = reads_spelt us x a
reads_spelt us (ls.line_comment h) a = a
reads_spelt us (ls.comment h x) a = reads_spelt us x a
reads_spelt us (ls.inside e x) a = reads_spelt us x a
reads_spelt us (ls.close x) a = reads_spelt us x a
reads_spelt {line = line} us (ls.token {c = c} h s x) a = (stands_spelt (span_at line c) s, reads_spelt us x a)

lines_spelt : {opened : Option ℕ} {lines : List Line} {ts : List Token} → IsRead opened lines ts → AreSpelt ts
lines_spelt ls.ended = tt
lines_spelt (ls.one_line {us = us} x more) = reads_spelt us x (lines_spelt more)

-- ---- the tokens that the grammar reads

kept_spelt : (whole pair : Bool) (ts : List Token) → AreSpelt ts → AreSpelt (kept_from whole pair ts)
kept_spelt whole pair [] a = tt
kept_spelt whole true (t ∷ ts) a = kept_spelt whole false ts a.1
kept_spelt whole false (t ∷ ts) a = by (is_passed whole t) (is_passed_pair t ts) (kept_spelt whole false ts a.1) (kept_spelt whole true ts a.1)
  where
    by : (c d : Bool) → AreSpelt (kept_from whole false ts) → AreSpelt (kept_from whole true ts)
        → AreSpelt (if c then kept_from whole false ts else (if d then kept_from whole true ts else t ∷ kept_from whole false ts))
    by true d one pair = one
    by false true one pair = pair
    by false false one pair = (a.0, one)

pub tokens_spelt_law : TokensSpeltLaw
tokens_spelt_law file lines whole ts h = kept_spelt whole false ts (lines_spelt (spelled_law.sound file lines ts h))
