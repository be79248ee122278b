-- How the tokens of a line go on, and how texts in quotes do.
use Rattle.std.proofs.Common.{◌≡◌, ℕ, zero, suc, ◌+◌, ◌-◌, ◌<◌, ◌≤◌, ◌==◌, true, false, List, [], ◌∷◌, ◌++◌, length, get_or, take, drop, eq-eqb, Option, Result, Ok, Err, refl, ap, sym, ◌∙◌, arith, append_assoc, append-nil, drop-cons}
use Rattle.std.proofs.lemmas.Bool.{eqb-true, false_from_ne_true}
use Rattle.std.proofs.lemmas.List.{take_all}
use Rattle.std.specs.Option.{option_to_list}
use Rattle.xs_base.specs.Reading.{◌>>=◌, Fails, with_front}
use Rattle.xs_base.specs.declared.fault.Fault.{Fault}
use Rattle.xs_base.specs.declared.fault.Refuse.{Refuse}
use Rattle.xs_base.specs.declared.fault.Refuse.TheVariants as refuse
use Rattle.xs_base.specs.declared.source.FileOf.{FileOf}
use Rattle.xs_base.specs.declared.source.Line.{Line}
use Rattle.xs_base.proofs.Collecting.{with_front-with_front}
use Rattle.xs_ctok.specs.QuotedTexts.{escape_of, text_front}
use Rattle.xs_ctok.specs.Tokens.{Cut, closed, cut_of, line_from, open_in, step, tokens_from, with_tokens}
use Rattle.xs_ctok.specs.declared.lexing.Mode.{Mode}
use Rattle.xs_ctok.specs.declared.lexing.Moved.{Moved}
use Rattle.xs_ctok.specs.declared.quoted.Escape.TheVariants as escape
use Rattle.xs_ctok.specs.declared.token.Token.{Token}

-- ---- texts in quotes

-- bytes that belong to an escape
pub text_front-skip : (content : List ℕ) (n skip : ℕ) (bytes : List ℕ) → text_front content n skip bytes ≡ text_front content (n + skip) 0 (drop skip bytes)
text_front-skip content n zero bytes = ap (λ k. text_front content k 0 bytes) (omega arith)
text_front-skip content n (suc skip) [] = refl
text_front-skip content n (suc skip) (b ∷ bytes) =
    text_front-skip content (n + 1) skip bytes ∙ ap (λ k. text_front content k 0 (drop skip bytes)) (omega arith)

-- an escape, where the rest of a slice stands after the backslash
pub text_escape : (content rest : List ℕ) (n value len m : ℕ) → 1 ≤ length rest → (get_or rest 0 0 ≡ 34 → ⊥) → get_or rest 0 0 ≡ 92
    → escape_of (take (length rest - 1) (drop 1 rest)) ≡ escape.Stands value len → m ≡ n + (1 + len)
    → text_front content n 0 rest ≡ text_front (content ++ value ∷ []) m 0 (drop len (take (length rest - 1) (drop 1 rest)))
text_escape content [] n value len m some q s e more = absurd (omega arith)
text_escape content (b ∷ bs) n value len m some q s e more =
    let all : take (length (b ∷ bs) - 1) bs ≡ bs = take_all (length (b ∷ bs) - 1) bs (omega arith) in
    let no : (b == 34) ≡ false = false_from_ne_true (b == 34) (λ t. q (eqb-true b 34 t)) in
    let yes : (b == 92) ≡ true = eq-eqb b 92 s in
    let found : escape_of bs ≡ escape.Stands value len = ap escape_of (sym all) ∙ e in
    let moved : m ≡ n + 1 + len = omega arith in
    rw (no, yes, found, all, moved) (text_front-skip (content ++ value ∷ []) (n + 1) len bs)

-- ---- a line

abbrev pub cut : List Token → Option ℕ → Cut
cut tokens open_at = record { tokens = tokens; open_at = open_at }

pub with_tokens-with_tokens : (xs ys : List Token) (r : Result Cut Fault) → with_tokens xs (with_tokens ys r) ≡ with_tokens (xs ++ ys) r
with_tokens-with_tokens xs ys (Ok c) =
    ap (λ (l : List Token). let r : Result Cut Fault = Ok (cut l c.open_at) in r) (sym (append_assoc xs ys c.tokens))
with_tokens-with_tokens xs ys (Err f) = refl

module _ (file : FileOf) (line : ℕ) where
  -- bytes that belong to the step before
  pub line_from-skip : (m : Mode) (skip col : ℕ) (bytes : List ℕ)
      → line_from file line m skip col bytes ≡ line_from file line m 0 (col + skip) (drop skip bytes)
  unfolding line_from
  line_from-skip m zero col bytes = ap (λ c. line_from file line m 0 c bytes) (omega arith)
  line_from-skip m (suc skip) col [] = refl
  line_from-skip m (suc skip) col (b ∷ bytes) =
      line_from-skip m skip (col + 1) bytes ∙ ap (λ c. line_from file line m 0 c (drop skip bytes)) (omega arith)

  -- what the tokens from a place on are, after one step
  abbrev pub after_step : Moved → ℕ → List ℕ → Result Cut Fault
  after_step m col bytes = with_tokens (option_to_list m.token) (line_from file line m.mode 0 (col + m.len) (drop m.len bytes))

  one_step : (m : Mode) (col b : ℕ) (bs : List ℕ) (moved : Moved) (len : ℕ) → moved.len ≡ suc len
      → with_tokens (option_to_list moved.token) (line_from file line moved.mode (moved.len - 1) (col + 1) bs) ≡ after_step moved col (b ∷ bs)
  one_step m col b bs moved len e =
      let less : moved.len - 1 ≡ len = omega arith in
      let place : col + 1 + len ≡ col + moved.len = omega arith in
      rw less (ap (with_tokens (option_to_list moved.token)) (line_from-skip moved.mode len (col + 1) bs
      ∙ ap (λ c. line_from file line moved.mode 0 c (drop len bs)) place
      ∙ ap (λ n. line_from file line moved.mode 0 (col + moved.len) (drop n (b ∷ bs))) (sym e)))

  has_pred : (n : ℕ) → 0 < n → (k : ℕ) × (n ≡ suc k)
  has_pred zero h = absurd (omega arith)
  has_pred (suc k) h = (k, refl)

  pub at_step : (m : Mode) (col : ℕ) (bytes : List ℕ) (moved : Moved) → 0 < length bytes → 0 < moved.len
      → step file (record { line = line; col = col }) m bytes ≡ Ok moved → line_from file line m 0 col bytes ≡ after_step moved col bytes
  unfolding line_from
  at_step m col [] moved some pos e = absurd (omega arith)
  at_step m col (b ∷ bs) moved some pos e =
      let k = has_pred moved.len pos in
      rw e (one_step m col b bs moved k.0 k.1)

  pub at_fault : (m : Mode) (col : ℕ) (bytes : List ℕ) (fault : Fault) → 0 < length bytes
      → step file (record { line = line; col = col }) m bytes ≡ Err fault → line_from file line m 0 col bytes ≡ Err fault
  unfolding line_from
  at_fault m col [] fault some e = absurd (omega arith)
  at_fault m col (b ∷ bs) fault some e = rw e refl

  pub at_end : (m : Mode) (col : ℕ) (bytes : List ℕ) (out : List Token) → length bytes ≡ 0
      → with_tokens out (line_from file line m 0 col bytes) ≡ Ok (cut out (open_in m))
  unfolding line_from
  at_end m col [] out h = ap (λ (l : List Token). let r : Result Cut Fault = Ok (cut l (open_in m)) in r) (append-nil out)
  at_end m col (b ∷ bs) out h = absurd (omega arith)

  -- the fault of a step
  pub fails_at : (e : Refuse) (m : Mode) (col : ℕ) (bytes : List ℕ) → 0 < length bytes
      → Fails e (step file (record { line = line; col = col }) m bytes) → Fails e (line_from file line m 0 col bytes)
  fails_at refuse.Memory m col bytes some h = tt
  fails_at (refuse.Fault f) m col bytes some h = at_fault m col bytes f some h

-- a fault after some tokens is the fault of all
pub fails_through : (e : Refuse) (xs ys : List Token) (r s : Result Cut Fault) → with_tokens xs r ≡ with_tokens ys s → Fails e s → Fails e r
fails_through refuse.Memory xs ys r s same h = tt
fails_through (refuse.Fault f) xs ys (Ok c) s same h = let no : with_tokens xs (Ok c) ≡ Err f = same ∙ rw h refl in absurd cc
fails_through (refuse.Fault f) xs ys (Err g) s same h = let now : with_tokens xs (Err g) ≡ Err f = same ∙ rw h refl in now

-- ---- lines

pub tokens_from-drop : (file : FileOf) (opened : Option ℕ) (src : List Line) (i : ℕ) (d : Line) → i < length src
    → tokens_from file opened (drop i src)
    ≡ (cut_of file opened (get_or src i d) >>= (λ c. with_front c.tokens (tokens_from file c.open_at (drop (i + 1) src))))
unfolding tokens_from
tokens_from-drop file opened src i d h =
    ap (tokens_from file opened) (drop-cons src i d h)
    ∙ ap (λ n. cut_of file opened (get_or src i d) >>= (λ c. with_front c.tokens (tokens_from file c.open_at (drop n src))))
    (let s : suc i ≡ i + 1 = omega arith in s)

-- the tokens of a line were added
pub line_read : (out new : List Token) (opened : Option ℕ) (r : Result Cut Fault) (go : Option ℕ → Result (List Token) Fault)
    → with_tokens out r ≡ Ok (cut new opened) → with_front out (r >>= (λ c. with_front c.tokens (go c.open_at))) ≡ with_front new (go opened)
line_read out new opened (Ok c) go e =
    let same : cut (out ++ c.tokens) c.open_at ≡ cut new opened = cc in
    with_front-with_front out c.tokens (go c.open_at) ∙ ap (λ (d : Cut). with_front d.tokens (go d.open_at)) same
line_read out new opened (Err f) go e = absurd cc

pub all_read : (file : FileOf) (opened : Option ℕ) (src : List Line) (i : ℕ) (out : List Token) → length src ≤ i
    → with_front out (tokens_from file opened (drop i src)) ≡ with_front out (closed file opened)
unfolding tokens_from
all_read file opened [] zero out h = refl
all_read file opened [] (suc i) out h = refl
all_read file opened (x ∷ src) zero out h = absurd (omega arith)
all_read file opened (x ∷ src) (suc i) out h = all_read file opened src i out (omega arith)

pub nothing_after : (out : List Token) → with_front out (let r : Result (List Token) Fault = Ok [] in r) ≡ Ok out
nothing_after out = ap (λ (l : List Token). let r : Result (List Token) Fault = Ok l in r) (append-nil out)
