-- The lines of the C part: their tokens are passed over.
use Rattle.std.proofs.Common.{◌≡◌, ℕ, ◌+◌, true, ◌&&◌, ◌||◌, List, [], ◌∷◌, ◌++◌, map, Ok, Err, Result, append_assoc, refl, sym, ap, ◌∙◌}
use Rattle.std.proofs.lemmas.Bool.{and_parts}
use Rattle.std.specs.List.{AllByRecursion as All, flat_map, list_all}
use Rattle.std.specs.Str.Lines.{lines, strip_carriage_return}
use Rattle.xs_base.proofs.AllPass.{all-append}
use Rattle.xs_base.proofs.Collecting.{with_front-with_front}
use Rattle.xs_base.specs.ByteRuns.{is_remark}
use Rattle.xs_base.specs.Lines.{has_no_end, numbered}
use Rattle.xs_base.specs.Reading.{with_front}
use Rattle.xs_base.specs.Scanning.{is_blank_line}
use Rattle.xs_base.specs.declared.fault.Fault.{Fault}
use Rattle.xs_base.specs.declared.source.FileOf.TheVariants as file
use Rattle.xs_base.specs.declared.source.Line.{Line}
use Rattle.xs_ctok.proofs.JoinedLines.{joined_law}
use Rattle.xs_ctok.proofs.OtherLines.{relined}
use Rattle.xs_ctok.specs.Laws.{AreSame, Unlined, unlined}
use Rattle.xs_ctok.specs.Tokens.{are_short, tokens_of}
use Rattle.xs_ctok.specs.declared.token.Token.{Token}
use Rattle.xs_iface.specs.PassedLines.{alone, gives_nothing, is_passed_line, is_passed_token, may_pass}
use Rattle.xs_stub.proofs.WrittenLines.{line_at, line_ends, tokens_at}
use Rattle.xs_stub.specs.Stub.{c_line_text}

-- ---- a line

-- Tokens that are passed over come in front of those of what follows the text.
pub record PassedAt (text : List ℕ) (n to : ℕ) : Type 0 where
  pub tokens : List Token
  pub passed : list_all is_passed_token tokens ≡ true
  pub first : (rest : List ℕ) → tokens_at n (text ++ rest) ≡ with_front tokens (tokens_at to rest)

-- Tokens that differ in their lines alone are passed over alike.
same_passed : (ts us : List Token) → map unlined ts ≡ map unlined us → list_all is_passed_token ts ≡ list_all is_passed_token us
same_passed [] [] h = refl
same_passed [] (u ∷ us) h = absurd cc
same_passed (t ∷ ts) [] h = absurd cc
same_passed (t ∷ ts) (u ∷ us) h =
    let first : unlined t ≡ unlined u = cc in
    let more : map unlined ts ≡ map unlined us = cc in
    let kinds : t.kind ≡ u.kind = ap (λ (x : Unlined). x.kind) first in
    rw (kinds, same_passed ts us more) refl

-- what the lines give where they stand elsewhere
record Elsewhere (lines : List Line) : Type 0 where
  tokens : List Token
  given : tokens_of file.Text lines ≡ Ok tokens
  passed : list_all is_passed_token tokens ≡ true

elsewhere : (lines : List Line) (r s : Result (List Token) Fault) → tokens_of file.Text lines ≡ s → AreSame r s → gives_nothing r ≡ true → Elsewhere lines
elsewhere lines (Ok ts) (Ok us) e same h = record { tokens = us; given = e; passed = sym (same_passed ts us same) ∙ h }
elsewhere lines (Ok ts) (Err f) e same h = absurd same
elsewhere lines (Err f) (Ok us) e same h = absurd same
elsewhere lines (Err f) (Err g) e same h = absurd cc

line_elsewhere : (n : ℕ) (text : List ℕ) → gives_nothing (tokens_of file.Text (alone text)) ≡ true → Elsewhere (line_at n (strip_carriage_return text) ∷ [])
line_elsewhere n text h =
    let there : List Line = line_at n (strip_carriage_return text) ∷ [] in
    elsewhere there (tokens_of file.Text (alone text)) (tokens_of file.Text there) refl (relined file.Text file.Text (alone text) there refl) h

line_passed : (n : ℕ) (line : Line) → is_passed_line line.text ≡ true → PassedAt (c_line_text line) n (n + 1)
unfolding is_passed_line
line_passed n line h =
    let g = and_parts (may_pass line.text) (are_short (alone line.text) && gives_nothing (tokens_of file.Text (alone line.text))) h in
    let k = and_parts (are_short (alone line.text)) (gives_nothing (tokens_of file.Text (alone line.text))) g.1 in
    let whole = (and_parts (has_no_end line.text) (is_blank_line line.text || is_remark line.text) g.0).0 in
    by (strip_carriage_return line.text) (line_ends line.text) whole (line_elsewhere n line.text k.1)
  where
    by : (text : List ℕ) → ((rest : List ℕ) → has_no_end line.text ≡ true → lines (line.text ++ 10 ∷ rest) ≡ text ∷ lines rest) → has_no_end line.text ≡ true
        → Elsewhere (line_at n text ∷ []) → PassedAt (c_line_text line) n (n + 1)
    by text cut whole there = record {
      tokens = there.tokens;
      passed = there.passed;
      first = λ rest.
          ap (tokens_at n) (append_assoc line.text (10 ∷ []) rest)
          ∙ ap (λ texts. tokens_of file.Text (numbered n texts)) (cut rest whole)
          ∙ joined_law.joined file.Text (line_at n text ∷ []) (numbered (n + 1) (lines rest)) there.tokens there.given;
    }

-- ---- all lines

nothing_first : (r : Result (List Token) Fault) → r ≡ with_front [] r
nothing_first (Ok ts) = refl
nothing_first (Err f) = refl

both_passed : {t u : List ℕ} {a b c : ℕ} → PassedAt t a b → PassedAt u b c → PassedAt (t ++ u) a c
both_passed {t = t} {u = u} {a = a} {c = c} x y = record {
  tokens = x.tokens ++ y.tokens;
  passed = all-append is_passed_token x.tokens y.tokens x.passed y.passed;
  first = λ rest.
      ap (tokens_at a) (append_assoc t u rest) ∙ x.first (u ++ rest) ∙ ap (with_front x.tokens) (y.first rest)
      ∙ with_front-with_front x.tokens y.tokens (tokens_at c rest);
}

-- Lines that are passed over, one by one, are passed over together.
pub lines_passed : (n : ℕ) (all : List Line) → All (λ line. is_passed_line line.text ≡ true) all → (to : ℕ) × PassedAt (flat_map c_line_text all) n to
lines_passed n [] h = (n, record { tokens = []; passed = refl; first = λ rest. nothing_first (tokens_at n rest) })
lines_passed n (line ∷ all) h = let more = lines_passed (n + 1) all h.1 in (more.0, both_passed (line_passed n line h.0) more.1)
