-- Lines that are made of pieces: blanks and tokens, each followed by what does not continue it.
use Rattle.std.proofs.Common.{◌≡◌, ℕ, ◌+◌, ◌≤◌, Bool, true, false, not, ◌&&◌, List, [], ◌∷◌, ◌++◌, length, Option, None, Ok, Err, Result, refl, sym, ap, subst, ◌∙◌, arith, append_assoc}
use Rattle.std.proofs.lemmas.Bool.{and_parts}
use Rattle.std.proofs.lemmas.Bool.Decides.{nat_tests}
use Rattle.std.specs.List.{list_all}
use Rattle.xs_base.proofs.AllPass.{all-append, all-weaker}
use Rattle.xs_base.proofs.Collecting.{with_front-with_front}
use Rattle.xs_base.specs.Reading.{with_front}
use Rattle.xs_base.specs.Readers.{head_is}
use Rattle.xs_base.specs.Scanning.{is_blank, is_identifier, is_word_byte}
use Rattle.xs_base.specs.declared.fault.Fault.{Fault}
use Rattle.xs_base.specs.declared.source.FileOf.TheVariants as file
use Rattle.xs_ctok.proofs.LinesSpelled.{line_done}
use Rattle.xs_ctok.proofs.PunctuatorsSpelled.{longest}
use Rattle.xs_ctok.proofs.TokenSteps.{cut}
use Rattle.xs_ctok.specs.LineSpelling as places
use Rattle.xs_ctok.specs.LineSpelling.{Reads, is_code, is_fresh, span_at}
use Rattle.xs_ctok.specs.Punctuators.{punctuator_len}
use Rattle.xs_ctok.specs.TokenSpelling as sp
use Rattle.xs_ctok.specs.TokenSpelling.{Stands, is_no_punctuator, is_punctuator}
use Rattle.xs_ctok.specs.Tokens.{Cut, cut_of, open_in, token_at}
use Rattle.xs_ctok.specs.declared.lexing.Mode.{Mode}
use Rattle.xs_ctok.specs.declared.lexing.Mode.TheVariants as mode
use Rattle.xs_ctok.specs.declared.token.TokKind.{TokKind}
use Rattle.xs_ctok.specs.declared.token.TokKind.TheVariants as kind
use Rattle.xs_ctok.specs.declared.token.Token.{Token}
use Rattle.xs_ctok.specs.CWords.{is_dropped_statement, is_dropped_word}
use Rattle.xs_stub.proofs.WrittenLines.{is_line_byte, line_at, line_first, tokens_at}

-- ---- pieces

-- blanks, or a token of a kind by its bytes
pub data Piece : Type 0 where
  Blank : List ℕ → Piece
  Tok : TokKind → List ℕ → Piece

-- the pieces one after the other, and these bytes after them
abbrev pub spelled : List Piece → List ℕ → List ℕ
spelled [] rest = rest
spelled (Blank blanks ∷ ps) rest = blanks ++ spelled ps rest
spelled (Tok k text ∷ ps) rest = text ++ spelled ps rest

-- the tokens of the pieces, which begin in this column of a line
abbrev pub piece_tokens : ℕ → ℕ → List Piece → List Token
piece_tokens line col [] = []
piece_tokens line col (Blank blanks ∷ ps) = piece_tokens line (col + length blanks) ps
piece_tokens line col (Tok k text ∷ ps) = token_at k (span_at line col) text ∷ piece_tokens line (col + length text) ps

-- The grammar reads the token: it is no word that is dropped, and no directive.
abbrev pub is_read : TokKind → List ℕ → Bool
is_read kind.Word text = not (is_dropped_word text) && not (is_dropped_statement text)
is_read (kind.Int literal) text = true
is_read (kind.Char byte) text = true
is_read (kind.Text bytes) text = true
is_read kind.Punct text = true
is_read kind.Include text = false
is_read (kind.Define name literal) text = false

-- The bytes are a token of the kind where these follow, and the grammar reads it.
pub record IsTok (fresh : Bool) (k : TokKind) (text rest : List ℕ) : Type 0 where
  pub stands : Stands fresh k text rest
  pub in_line : list_all is_line_byte text ≡ true
  pub read : is_read k text ≡ true

-- a word of which no byte is a variable
pub word_tok : {fresh : Bool} {text rest : List ℕ} → is_identifier text ≡ true → head_is is_word_byte rest ≡ false → list_all is_line_byte text ≡ true
    → is_read kind.Word text ≡ true → IsTok fresh kind.Word text rest
word_tok named ends line read = record { stands = sp.word named ends; in_line = line; read = read }

-- a punctuator: no longer one stands there
pub sign_tok : {fresh : Bool} {text rest : List ℕ} → is_punctuator text ≡ true → punctuator_len (text ++ rest) ≡ length text
    → is_no_punctuator (text ++ rest) ≡ false → list_all is_line_byte text ≡ true → IsTok fresh kind.Punct text rest
sign_tok {text = text} {rest = rest} listed len other line = record {
  stands = sp.punctuator (record {
    listed = listed;
    longest = λ p is starts. subst (λ k. length p ≤ k) len (longest (text ++ rest) p is starts);
    no_other = other;
  });
  in_line = line;
  read = refl;
}

-- Each piece is what it is said to be where the others follow it.
abbrev pub ArePieces : Bool → List Piece → Type 0
ArePieces fresh [] = Unit {0}
ArePieces fresh (Blank blanks ∷ ps) = (list_all is_blank blanks ≡ true) × ArePieces fresh ps
ArePieces fresh (Tok k text ∷ ps) = IsTok fresh k text (spelled ps []) × ArePieces false ps

-- ---- the tokens of a line of pieces

no_comment : (m : Mode) → is_code m ≡ true → open_in m ≡ None
no_comment mode.Fresh h = refl
no_comment mode.Between h = refl
no_comment (mode.Inside opened) h = absurd cc

-- A line is read to its end over these tokens, and no comment is open there.
record ReadTo (line : ℕ) (m : Mode) (col : ℕ) (text : List ℕ) (ts : List Token) : Type 0 where
  last : Mode
  place : ℕ
  reads : Reads line m col text ts last place []
  code : is_code last ≡ true

blanks_read : (line : ℕ) (m : Mode) (col : ℕ) (blanks rest : List ℕ) (ts : List Token) → is_code m ≡ true → list_all is_blank blanks ≡ true
    → ReadTo line m (col + length blanks) rest ts → ReadTo line m col (blanks ++ rest) ts
blanks_read line m col [] rest ts code h more =
    let place : col + 0 ≡ col = omega arith in
    subst (λ c. ReadTo line m c rest ts) place more
blanks_read line m col (b ∷ blanks) rest ts code h more =
    let g = and_parts (is_blank b) (list_all is_blank blanks) h in
    let place : col + length (b ∷ blanks) ≡ col + 1 + length blanks = omega arith in
    let next = blanks_read line m (col + 1) blanks rest ts code g.1 (subst (λ c. ReadTo line m c rest ts) place more) in
    record { last = next.last; place = next.place; reads = places.blank code g.0 next.reads; code = next.code }

pieces_read_to : (line : ℕ) (m : Mode) (col : ℕ) (ps : List Piece) → is_code m ≡ true → ArePieces (is_fresh m) ps
    → ReadTo line m col (spelled ps []) (piece_tokens line col ps)
pieces_read_to line m col [] code h = record { last = m; place = col; reads = places.here; code = code }
pieces_read_to line m col (Blank blanks ∷ ps) code h =
    blanks_read line m col blanks (spelled ps []) (piece_tokens line (col + length blanks) ps) code h.0
    (pieces_read_to line m (col + length blanks) ps code h.1)
pieces_read_to line m col (Tok k text ∷ ps) code h =
    let next = pieces_read_to line mode.Between (col + length text) ps refl h.1 in
    record { last = next.last; place = next.place; reads = places.token code h.0.stands next.reads; code = next.code }

pieces_done : (n : ℕ) (ps : List Piece) → ArePieces true ps → cut_of file.Text None (line_at n (spelled ps [])) ≡ Ok (cut (piece_tokens n 1 ps) None)
pieces_done n ps h =
    let to = pieces_read_to n mode.Fresh 1 ps refl h in
    line_done file.Text None (line_at n (spelled ps [])) (piece_tokens n 1 ps) to.last to.place to.reads
    ∙ ap (λ (o : Option ℕ). let r : Result Cut Fault = Ok (cut (piece_tokens n 1 ps) o) in r) (no_comment to.last to.code)

blank_in_line : (b : ℕ) → is_blank b ≡ true → is_line_byte b ≡ true
blank_in_line b h = grind (arith, nat_tests)

pieces_in_line : (fresh : Bool) (ps : List Piece) → ArePieces fresh ps → list_all is_line_byte (spelled ps []) ≡ true
pieces_in_line fresh [] h = refl
pieces_in_line fresh (Blank blanks ∷ ps) h =
    all-append is_line_byte blanks (spelled ps []) (all-weaker is_blank is_line_byte blank_in_line blanks h.0) (pieces_in_line fresh ps h.1)
pieces_in_line fresh (Tok k text ∷ ps) h = all-append is_line_byte text (spelled ps []) h.0.in_line (pieces_in_line false ps h.1)

-- ---- lines of pieces

-- the lines, each with its end, and these bytes after them
abbrev pub written : List (List Piece) → List ℕ → List ℕ
written [] rest = rest
written (ps ∷ all) rest = spelled ps (10 ∷ written all rest)

-- the tokens of the lines, of which the first has this number
abbrev pub line_tokens : ℕ → List (List Piece) → List Token
line_tokens n [] = []
line_tokens n (ps ∷ all) = piece_tokens n 1 ps ++ line_tokens (n + 1) all

abbrev pub AreLines : List (List Piece) → Type 0
AreLines [] = Unit {0}
AreLines (ps ∷ all) = ArePieces true ps × AreLines all

pub spelled-onto : (ps : List Piece) (xs ys : List ℕ) → spelled ps xs ++ ys ≡ spelled ps (xs ++ ys)
spelled-onto [] xs ys = refl
spelled-onto (Blank blanks ∷ ps) xs ys = append_assoc blanks (spelled ps xs) ys ∙ ap (λ (t : List ℕ). blanks ++ t) (spelled-onto ps xs ys)
spelled-onto (Tok k text ∷ ps) xs ys = append_assoc text (spelled ps xs) ys ∙ ap (λ (t : List ℕ). text ++ t) (spelled-onto ps xs ys)

pub written-onto : (all : List (List Piece)) (xs ys : List ℕ) → written all xs ++ ys ≡ written all (xs ++ ys)
written-onto [] xs ys = refl
written-onto (ps ∷ all) xs ys = spelled-onto ps (10 ∷ written all xs) ys ∙ ap (λ (t : List ℕ). spelled ps (10 ∷ t)) (written-onto all xs ys)

pub written-append : (all more : List (List Piece)) (rest : List ℕ) → written (all ++ more) rest ≡ written all (written more rest)
written-append [] more rest = refl
written-append (ps ∷ all) more rest = ap (λ (t : List ℕ). spelled ps (10 ∷ t)) (written-append all more rest)

pub line_tokens-append : (n : ℕ) (all more : List (List Piece)) → line_tokens n (all ++ more) ≡ line_tokens n all ++ line_tokens (n + length all) more
line_tokens-append n [] more =
    let number : n ≡ n + 0 = omega arith in
    ap (λ k. line_tokens k more) number
line_tokens-append n (ps ∷ all) more =
    let number : n + 1 + length all ≡ n + length (ps ∷ all) = omega arith in
    ap (λ (ts : List Token). piece_tokens n 1 ps ++ ts) (line_tokens-append (n + 1) all more ∙ ap (λ k. line_tokens (n + 1) all ++ line_tokens k more) number)
    ∙ sym (append_assoc (piece_tokens n 1 ps) (line_tokens (n + 1) all) (line_tokens (n + length (ps ∷ all)) more))

pub are_both : (all more : List (List Piece)) → AreLines all → AreLines more → AreLines (all ++ more)
are_both [] more h g = g
are_both (ps ∷ all) more h g = (h.0, are_both all more h.1 g)

nothing_first : (r : Result (List Token) Fault) → r ≡ with_front [] r
nothing_first (Ok ts) = refl
nothing_first (Err f) = refl

-- Lines of pieces have the tokens of their pieces in front of those of the lines after them.
pub lines_done : (n : ℕ) (all : List (List Piece)) (rest : List ℕ) → AreLines all
    → tokens_at n (written all rest) ≡ with_front (line_tokens n all) (tokens_at (n + length all) rest)
lines_done n [] rest h =
    let number : n ≡ n + 0 = omega arith in
    ap (λ k. tokens_at k rest) number ∙ nothing_first (tokens_at (n + 0) rest)
lines_done n (ps ∷ all) rest h =
    let number : n + 1 + length all ≡ n + length (ps ∷ all) = omega arith in
    ap (tokens_at n) (sym (spelled-onto ps [] (10 ∷ written all rest)))
    ∙ line_first n (spelled ps []) (written all rest) (piece_tokens n 1 ps) (pieces_in_line true ps h.0) (pieces_done n ps h.0)
    ∙ ap (with_front (piece_tokens n 1 ps)) (lines_done (n + 1) all rest h.1 ∙ ap (λ k. with_front (line_tokens (n + 1) all) (tokens_at k rest)) number)
    ∙ with_front-with_front (piece_tokens n 1 ps) (line_tokens (n + 1) all) (tokens_at (n + length (ps ∷ all)) rest)
