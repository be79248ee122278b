-- What the grammar reads of the tokens of lines, and which integers these define.
use Rattle.std.proofs.Common.{◌≡◌, ℕ, ◌+◌, Bool, true, false, not, List, [], ◌∷◌, ◌++◌, length, append_assoc, refl, sym, ap, ◌∙◌}
use Rattle.std.proofs.lemmas.Bool.{and_parts, not-true}
use Rattle.std.specs.List.{list_all}
use Rattle.xs_ctok.specs.LineSpelling.{span_at}
use Rattle.xs_ctok.specs.Tokens.{token_at}
use Rattle.xs_ctok.specs.declared.token.TokKind.{TokKind}
use Rattle.xs_ctok.specs.declared.token.TokKind.TheVariants as kind
use Rattle.xs_ctok.specs.declared.token.Token.{Token}
use Rattle.xs_csyn.specs.FileReader.{defines_of}
use Rattle.xs_cinput.specs.TokenInput.{kept}
use Rattle.xs_ctok.specs.CWords.{is_dropped_statement, is_dropped_word}
use Rattle.xs_iface.specs.PassedLines.{is_passed_kind, is_passed_token}
use Rattle.xs_base.specs.declared.source.Span.{Span}
use Rattle.xs_stub.proofs.LinePieces.{ArePieces, AreLines, Blank, Piece, Tok, is_read, line_tokens, piece_tokens}

-- These tokens are read as they stand, and define nothing.
pub record AreRead (ts : List Token) : Type 0 where
  pub keeps : (us : List Token) → kept true (ts ++ us) ≡ ts ++ kept true us
  pub defines : (us : List Token) → defines_of (ts ++ us) ≡ defines_of us

one_kept : (k : TokKind) (at : Span) (text : List ℕ) (us : List Token) → is_read k text ≡ true
    → kept true (token_at k at text ∷ us) ≡ token_at k at text ∷ kept true us
one_kept kind.Word at text us h =
    let g = and_parts (not (is_dropped_word text)) (not (is_dropped_statement text)) h in
    rw (not-true (is_dropped_word text) g.0, not-true (is_dropped_statement text) g.1) refl
one_kept (kind.Int literal) at text us h = refl
one_kept (kind.Char byte) at text us h = refl
one_kept (kind.Text bytes) at text us h = refl
one_kept kind.Punct at text us h = refl
one_kept kind.Include at text us h = absurd cc
one_kept (kind.Define name literal) at text us h = absurd cc

none_defined : (k : TokKind) (at : Span) (text : List ℕ) (us : List Token) → is_read k text ≡ true → defines_of (token_at k at text ∷ us) ≡ defines_of us
none_defined kind.Word at text us h = refl
none_defined (kind.Int literal) at text us h = refl
none_defined (kind.Char byte) at text us h = refl
none_defined (kind.Text bytes) at text us h = refl
none_defined kind.Punct at text us h = refl
none_defined kind.Include at text us h = absurd cc
none_defined (kind.Define name literal) at text us h = absurd cc

nothing_read : AreRead []
nothing_read = record { keeps = λ us. refl; defines = λ us. refl }

one_read : (k : TokKind) (at : Span) (text : List ℕ) (ts : List Token) → is_read k text ≡ true → AreRead ts → AreRead (token_at k at text ∷ ts)
one_read k at text ts h more = record {
  keeps = λ us. one_kept k at text (ts ++ us) h ∙ ap (λ (l : List Token). token_at k at text ∷ l) (more.keeps us);
  defines = λ us. none_defined k at text (ts ++ us) h ∙ more.defines us;
}

both_read : (ts us : List Token) → AreRead ts → AreRead us → AreRead (ts ++ us)
both_read ts us x y = record {
  keeps = λ vs. ap (kept true) (append_assoc ts us vs) ∙ x.keeps (us ++ vs) ∙ ap (λ (l : List Token). ts ++ l) (y.keeps vs)
      ∙ sym (append_assoc ts us (kept true vs));
  defines = λ vs. ap defines_of (append_assoc ts us vs) ∙ x.defines (us ++ vs) ∙ y.defines vs;
}

pieces_read : (fresh : Bool) (n col : ℕ) (ps : List Piece) → ArePieces fresh ps → AreRead (piece_tokens n col ps)
pieces_read fresh n col [] h = nothing_read
pieces_read fresh n col (Blank blanks ∷ ps) h = pieces_read fresh n (col + length blanks) ps h.1
pieces_read fresh n col (Tok k text ∷ ps) h =
    one_read k (span_at n col) text (piece_tokens n (col + length text) ps) h.0.read (pieces_read false n (col + length text) ps h.1)

-- The tokens of lines of pieces are read.
pub lines_read : (n : ℕ) (all : List (List Piece)) → AreLines all → AreRead (line_tokens n all)
lines_read n [] h = nothing_read
lines_read n (ps ∷ all) h = both_read (piece_tokens n 1 ps) (line_tokens (n + 1) all) (pieces_read true n 1 ps h.0) (lines_read (n + 1) all h.1)

-- ---- tokens that are passed over

-- These tokens are not read, and define nothing.
pub record ArePassed (ts : List Token) : Type 0 where
  pub keeps : (us : List Token) → kept true (ts ++ us) ≡ kept true us
  pub defines : (us : List Token) → defines_of (ts ++ us) ≡ defines_of us

passed_kind : (k : TokKind) → is_passed_kind k ≡ true → k ≡ kind.Include
passed_kind kind.Include h = refl
passed_kind kind.Word h = absurd cc
passed_kind (kind.Int literal) h = absurd cc
passed_kind (kind.Char byte) h = absurd cc
passed_kind (kind.Text bytes) h = absurd cc
passed_kind kind.Punct h = absurd cc
passed_kind (kind.Define name literal) h = absurd cc

pub tokens_passed : (ts : List Token) → list_all is_passed_token ts ≡ true → ArePassed ts
tokens_passed [] h = record { keeps = λ us. refl; defines = λ us. refl }
tokens_passed (t ∷ ts) h =
    let g = and_parts (is_passed_token t) (list_all is_passed_token ts) h in
    let is : t.kind ≡ kind.Include = passed_kind t.kind g.0 in
    let more = tokens_passed ts g.1 in
    record { keeps = λ us. rw is (more.keeps us); defines = λ us. rw is (more.defines us) }
