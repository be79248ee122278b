-- Lines are read as the rules say.
use Rattle.std.proofs.Common.{◌≡◌, ℕ, zero, suc, ◌+◌, ◌-◌, ◌<◌, Bool, true, false, List, [], ◌∷◌, ◌++◌, length, take, drop, Option, None, Some, Result, Ok, Err, refl, ap, sym, ◌∙◌, subst, arith, append-nil}
use Rattle.std.proofs.lemmas.Bool.{false_from_ne_true}
use Rattle.std.proofs.lemmas.List.{length-append}
use Rattle.std.proofs.Math.Seq.{drop-append_seam, drop-length, take-append_seam}
use Rattle.std.specs.Option.{option_to_list}
use Rattle.std.specs.Prelude.{codes, if◌then◌else◌, is_some}
use Rattle.xs_base.specs.Reading.{◌>>=◌, fault_in, with_front}
use Rattle.xs_base.specs.Scanning.{is_blank, starts_with, strip_prefix}
use Rattle.xs_base.specs.declared.fault_codes.TheConstants.{OPEN_COMMENT_OR_TEXT}
use Rattle.xs_base.specs.declared.fault.Fault.{Fault}
use Rattle.xs_base.specs.declared.source.FileOf.{FileOf}
use Rattle.xs_base.specs.declared.source.Line.{Line}
use Rattle.xs_base.proofs.FrontRuns.{word_in_front}
use Rattle.xs_ctok.specs.Fronts.{front_of}
use Rattle.xs_ctok.specs.Laws.{PlacedLaw, SpelledLaw}
use Rattle.xs_ctok.specs.LineSpelling as ls
use Rattle.xs_ctok.specs.LineSpelling.{ArePlaced, IsFault, IsRead, NoToken, Reads, is_code, is_fresh, span_at}
use Rattle.xs_ctok.specs.TokenSpelling.{Stands}
use Rattle.xs_ctok.specs.Tokens.{Cut, begun, by_front, cut_of, line_from, open_in, passed, step, step_inside, then_cut, token_at, tokens_from, with_tokens}
use Rattle.xs_ctok.specs.declared.front.Front.{Front}
use Rattle.xs_ctok.specs.declared.front.Front.TheVariants as front
use Rattle.xs_ctok.specs.declared.lexing.Mode.{Mode}
use Rattle.xs_ctok.specs.declared.lexing.Mode.TheVariants as mode
use Rattle.xs_ctok.specs.declared.lexing.Moved.{Moved}
use Rattle.xs_ctok.specs.declared.token.TokKind.{TokKind}
use Rattle.xs_ctok.specs.declared.token.Token.{Token}
use Rattle.xs_ctok.proofs.FrontsSpelled.{Tells, front_done, front_tells, stands_some}
use Rattle.xs_ctok.proofs.TokenSteps.{at_fault, at_step, cut, line_from-skip}
use Rattle.xs_ctok.proofs.Facts.{front_ok}

-- ---- what stands at the front

no_tokens : (r : Result Cut Fault) → with_tokens [] r ≡ r
no_tokens (Ok c) = refl
no_tokens (Err f) = refl

front_blank : (fresh : Bool) (b : ℕ) (bs : List ℕ) → is_blank b ≡ true → front_of fresh (b ∷ bs) ≡ front.Blank
unfolding front_of
front_blank fresh b bs h = rw h refl

front_line : (fresh : Bool) (more : List ℕ) → front_of fresh (47 ∷ 47 ∷ more) ≡ front.LineComment
unfolding front_of
front_line fresh more = refl

front_comment : (fresh : Bool) (more : List ℕ) → front_of fresh (47 ∷ 42 ∷ more) ≡ front.Comment
unfolding front_of
front_comment fresh more = refl

-- nothing that is taken begins where a front is refused
refused_none : (m : Mode) (b : ℕ) (bs : List ℕ) (code : ℕ) → is_code m ≡ true → front_of (is_fresh m) (b ∷ bs) ≡ front.Refused code → NoToken m (b ∷ bs)
refused_none m b bs code at h =
    let fresh = is_fresh m in
    record {
      some = omega arith;
      code = at;
      no_blank = false_from_ne_true (is_blank b) (λ e. let f : front.Blank ≡ front.Refused code = sym (front_blank fresh b bs e) ∙ h in absurd cc);
      no_line_comment = false_from_ne_true (starts_with (codes "//") (b ∷ bs)) (λ e. no_line (strip_prefix (codes "//") (b ∷ bs)) refl e);
      no_comment = false_from_ne_true (starts_with (codes "/*") (b ∷ bs)) (λ e. no_star (strip_prefix (codes "/*") (b ∷ bs)) refl e);
      no_token = λ k t rest is x.
          let f : front.Piece k (length t) ≡ front.Refused code = sym (front_done x) ∙ ap (front_of fresh) (sym is) ∙ h in absurd cc;
    }
  where
    no_line : (o : Option (List ℕ)) → strip_prefix (codes "//") (b ∷ bs) ≡ o → is_some o ≡ true → ⊥
    no_line None e some = absurd cc
    no_line (Some rest) e some =
        let f : front.LineComment ≡ front.Refused code =
        sym (front_line (is_fresh m) rest) ∙ ap (front_of (is_fresh m)) (sym (word_in_front (codes "//") (b ∷ bs) rest e)) ∙ h in absurd cc

    no_star : (o : Option (List ℕ)) → strip_prefix (codes "/*") (b ∷ bs) ≡ o → is_some o ≡ true → ⊥
    no_star None e some = absurd cc
    no_star (Some rest) e some =
        let f : front.Comment ≡ front.Refused code =
        sym (front_comment (is_fresh m) rest) ∙ ap (front_of (is_fresh m)) (sym (word_in_front (codes "/*") (b ∷ bs) rest e)) ∙ h in absurd cc

-- the step where no comment is open
step_code : (file : FileOf) (line col : ℕ) (m : Mode) (text : List ℕ) → is_code m ≡ true
    → step file (span_at line col) m text ≡ by_front file (span_at line col) m text (front_of (is_fresh m) text)
step_code file line col mode.Fresh text h = refl
step_code file line col mode.Between text h = refl
step_code file line col (mode.Inside n) text h = absurd cc

step_piece : (file : FileOf) (line col : ℕ) (m : Mode) (k : TokKind) (t rest : List ℕ) → is_code m ≡ true → Stands (is_fresh m) k t rest
    → step file (span_at line col) m (t ++ rest) ≡ Ok (record { token = Some (token_at k (span_at line col) t); mode = mode.Between; len = length t })
step_piece file line col m k t rest h x =
    step_code file line col m (t ++ rest) h ∙ rw (front_done x, take-append_seam t rest) refl

-- ---- what is spelled is read

module _ (file : FileOf) (line : ℕ) where
  -- the tokens from a place on, after one step
  moved_on : (m : Mode) (c : ℕ) (bs : List ℕ) (moved : Moved) (rest : List ℕ) → 0 < length bs → 0 < moved.len → drop moved.len bs ≡ rest
      → step file (span_at line c) m bs ≡ Ok moved
      → line_from file line m 0 c bs ≡ with_tokens (option_to_list moved.token) (line_from file line moved.mode 0 (c + moved.len) rest)
  moved_on m c bs moved rest some pos back e =
      at_step file line m c bs moved some pos e
      ∙ ap (λ r. with_tokens (option_to_list moved.token) (line_from file line moved.mode 0 (c + moved.len) r)) back

  pub reads_done : {m n : Mode} {c d : ℕ} {bs es : List ℕ} {ts : List Token} → Reads line m c bs ts n d es
      → line_from file line m 0 c bs ≡ with_tokens ts (line_from file line n 0 d es)
  reads_done (ls.here {m = m} {c = c} {bs = bs}) = sym (no_tokens (line_from file line m 0 c bs))
  reads_done (ls.blank {m = m} {c = c} {b = b} {bs = bs} h e x) =
      moved_on m c (b ∷ bs) (passed m 1) bs (omega arith) (omega arith) refl (step_code file line c m (b ∷ bs) h ∙ rw (front_blank (is_fresh m) b bs e) refl)
      ∙ no_tokens (line_from file line m 0 (c + 1) bs) ∙ reads_done x
  reads_done (ls.line_comment {m = m} {c = c} {more = more} h) =
      moved_on m c (47 ∷ 47 ∷ more) (passed mode.Between (length (47 ∷ 47 ∷ more))) [] (omega arith) (omega arith) (drop-length (47 ∷ 47 ∷ more))
      (step_code file line c m (47 ∷ 47 ∷ more) h ∙ rw (front_line (is_fresh m) more) refl)
  reads_done (ls.comment {m = m} {c = c} {bs = bs} h x) =
      moved_on m c (47 ∷ 42 ∷ bs) (passed (mode.Inside line) 2) bs (omega arith) (omega arith) refl
      (step_code file line c m (47 ∷ 42 ∷ bs) h ∙ rw (front_comment (is_fresh m) bs) refl)
      ∙ no_tokens (line_from file line (mode.Inside line) 0 (c + 2) bs) ∙ reads_done x
  reads_done (ls.inside {opened = o} {c = c} {b = b} {bs = bs} e x) =
      moved_on (mode.Inside o) c (b ∷ bs) (passed (mode.Inside o) 1) bs (omega arith) (omega arith) refl (rw e refl)
      ∙ no_tokens (line_from file line (mode.Inside o) 0 (c + 1) bs) ∙ reads_done x
  reads_done (ls.close {opened = o} {c = c} {bs = bs} x) =
      moved_on (mode.Inside o) c (42 ∷ 47 ∷ bs) (passed mode.Between 2) bs (omega arith) (omega arith) refl refl
      ∙ no_tokens (line_from file line mode.Between 0 (c + 2) bs) ∙ reads_done x
  reads_done (ls.token {m = m} {n = n} {c = c} {d = d} {t = t} {rest = rest} {es = es} {k = k} {ts = ts} h s x) =
      moved_on m c (t ++ rest) (record { token = Some (token_at k (span_at line c) t); mode = mode.Between; len = length t }) rest
      (omega (arith, length-append t rest, stands_some s)) (stands_some s) (drop-append_seam t rest) (step_piece file line c m k t rest h s)
      ∙ ap (with_tokens (token_at k (span_at line c) t ∷ [])) (reads_done x) ∙ more (line_from file line n 0 d es)
    where
      more : (r : Result Cut Fault) → with_tokens (token_at k (span_at line c) t ∷ []) (with_tokens ts r) ≡ with_tokens (token_at k (span_at line c) t ∷ ts) r
      more (Ok q) = refl
      more (Err f) = refl

  -- ---- what is read is spelled

  -- a line is read to its end, with this cut
  record ReadsTo (m : Mode) (c : ℕ) (bs : List ℕ) (q : Cut) : Type 0 where
    n : Mode
    d : ℕ
    reads : Reads line m c bs q.tokens n d []
    opens : q.open_at ≡ open_in n

  -- a line is read to a place where no token begins
  record ReadsUntil (m : Mode) (c : ℕ) (bs : List ℕ) (f : Fault) : Type 0 where
    ts : List Token
    n : Mode
    d : ℕ
    rest : List ℕ
    code : ℕ
    reads : Reads line m c bs ts n d rest
    none : NoToken n rest
    refused : front_of (is_fresh n) rest ≡ front.Refused code
    fault : f ≡ fault_in file line code []

  abbrev Led : Mode → ℕ → List ℕ → Result Cut Fault → Type 0
  Led m c bs (Ok q) = ReadsTo m c bs q
  Led m c bs (Err f) = ReadsUntil m c bs f

  -- a place to which reading comes over these tokens
  abbrev Leads : List Token → Mode → ℕ → List ℕ → Mode → ℕ → List ℕ → Type 0
  Leads before m c bs n d es =
      (ts : List Token) (p : Mode) (e : ℕ) (fs : List ℕ) → Reads line n d es ts p e fs → Reads line m c bs (before ++ ts) p e fs

  led_on : (before : List Token) (m n : Mode) (c d : ℕ) (bs es : List ℕ) (r : Result Cut Fault) → Leads before m c bs n d es → Led n d es r
      → Led m c bs (with_tokens before r)
  led_on before m n c d bs es (Ok q) leads x = record { n = x.n; d = x.d; reads = leads q.tokens x.n x.d [] x.reads; opens = x.opens }
  led_on before m n c d bs es (Err f) leads x =
      record {
        ts = before ++ x.ts;
        n = x.n;
        d = x.d;
        rest = x.rest;
        code = x.code;
        reads = leads x.ts x.n x.d x.rest x.reads;
        none = x.none;
        refused = x.refused;
        fault = x.fault;
      }

  -- what follows a step is read so
  abbrev Follows : List ℕ → Type 0
  Follows bs = (n : Mode) (skip c : ℕ) → Led n (c + skip) (drop skip bs) (line_from file line n skip c bs)

  -- a step over some bytes, after which reading goes on
  led_step : (before : List Token) (m n : Mode) (c skip b : ℕ) (bs es : List ℕ) → Follows bs → drop skip bs ≡ es
      → Leads before m c (b ∷ bs) n (c + 1 + skip) es → Led m c (b ∷ bs) (with_tokens before (line_from file line n skip (c + 1) bs))
  led_step before m n c skip b bs es follows back leads =
      led_on before m n c (c + 1 + skip) (b ∷ bs) es (line_from file line n skip (c + 1) bs) leads
      (subst (λ k. Led n (c + 1 + skip) k (line_from file line n skip (c + 1) bs)) back (follows n skip (c + 1)))

  end_led : (m : Mode) (c : ℕ) → Led m c [] (Ok (cut [] (open_in m)))
  end_led m c = record { n = m; d = c; reads = ls.here; opens = refl }

  place : (c skip len k : ℕ) → c + 1 + skip ≡ k → len ≡ suc skip → c + len ≡ k
  place c skip len k e f = omega (arith, e, f)

  nothing_left : (d : ℕ) → line_from file line mode.Between 0 d [] ≡ Ok (cut [] None)
  unfolding line_from
  nothing_left d = refl

  -- where no comment is open, by what stands at the front
  led_front : (m : Mode) (c b : ℕ) (bs : List ℕ) → is_code m ≡ true → Follows bs → (f : Front) → front_of (is_fresh m) (b ∷ bs) ≡ f
      → Tells (is_fresh m) (b ∷ bs) f
      → Led m c (b ∷ bs) (then_cut (by_front file (span_at line c) m (b ∷ bs) f) (λ q. line_from file line q.mode (q.len - 1) (c + 1) bs))
  led_front m c b bs h follows front.Blank e tells =
      led_step [] m m c 0 b bs bs follows refl (λ ts p d fs x. ls.blank h tells (subst (λ k. Reads line m k bs ts p d fs) (omega arith) x))
  led_front m c b bs h follows front.LineComment e tells =
      let size : length (b ∷ bs) - 1 ≡ length bs = omega arith in
      let whole = tells.1 in
      let ended : line_from file line mode.Between (length (b ∷ bs) - 1) (c + 1) bs ≡ Ok (cut [] None) =
      ap (λ k. line_from file line mode.Between k (c + 1) bs) size ∙ line_from-skip file line mode.Between (length bs) (c + 1) bs
      ∙ ap (line_from file line mode.Between 0 (c + 1 + length bs)) (drop-length bs) ∙ nothing_left (c + 1 + length bs) in
      rw ended (record {
        n = mode.Between;
        d = c + length (b ∷ bs);
        reads = subst (λ k. Reads line m c k [] mode.Between (c + length k) []) (sym whole) (ls.line_comment h);
        opens = refl;
      })
  led_front m c b bs h follows front.Comment e tells =
      let tails : bs ≡ 42 ∷ tells.0 = cc in
      let first : b ≡ 47 = cc in
      led_step [] m (mode.Inside line) c 1 b bs tells.0 follows (ap (drop 1) tails)
      (λ ts p d fs x. subst (λ k. Reads line m c k ts p d fs) (sym tells.1)
      (ls.comment h (subst (λ k. Reads line (mode.Inside line) k tells.0 ts p d fs) (omega arith) x)))
  led_front m c b bs h follows (front.Piece k n) e tells =
      let t = tells.0 in
      let rest = tells.1 in
      let some = stands_some tells.4 in
      let less : n ≡ suc (n - 1) = omega (arith, tells.3, some) in
      let back : drop (n - 1) bs ≡ rest =
      ap (λ j. drop j (b ∷ bs)) (sym less) ∙ ap (drop n) tells.2 ∙ ap (λ j. drop j (t ++ rest)) tells.3 ∙ drop-append_seam t rest in
      let taken : take n (b ∷ bs) ≡ t = ap (take n) tells.2 ∙ ap (λ j. take j (t ++ rest)) tells.3 ∙ take-append_seam t rest in
      rw taken (led_step (token_at k (span_at line c) t ∷ []) m mode.Between c (n - 1) b bs rest follows back
      (λ ts p d fs x. subst (λ l. Reads line m c l (token_at k (span_at line c) t ∷ ts) p d fs) (sym tells.2)
      (ls.token h tells.4 (subst (λ j. Reads line mode.Between j rest ts p d fs) (omega (arith, less, tells.3)) x))))
  led_front m c b bs h follows (front.Refused code) e tells =
      record { ts = []; n = m; d = c; rest = b ∷ bs; code = code; reads = ls.here; none = refused_none m b bs code h e; refused = e; fault = refl }

  -- in a comment
  led_inside : (o c b : ℕ) (bs : List ℕ) → Follows bs
      → Led (mode.Inside o) c (b ∷ bs) (with_tokens (option_to_list (step_inside o (b ∷ bs)).token)
      (line_from file line (step_inside o (b ∷ bs)).mode ((step_inside o (b ∷ bs)).len - 1) (c + 1) bs))
  led_inside o c b bs follows = by (strip_prefix (codes "*/") (b ∷ bs)) refl
    where
      by : (s : Option (List ℕ)) → strip_prefix (codes "*/") (b ∷ bs) ≡ s → let q = if is_some s then passed mode.Between 2 else passed (mode.Inside o) 1 in
          Led (mode.Inside o) c (b ∷ bs) (with_tokens (option_to_list q.token) (line_from file line q.mode (q.len - 1) (c + 1) bs))
      by None e =
          led_step [] (mode.Inside o) (mode.Inside o) c 0 b bs bs follows refl
          (λ ts p d fs x. ls.inside (ap is_some e) (subst (λ k. Reads line (mode.Inside o) k bs ts p d fs) (omega arith) x))
      by (Some rest) e =
          let whole : b ∷ bs ≡ 42 ∷ 47 ∷ rest = word_in_front (codes "*/") (b ∷ bs) rest e in
          let tails : bs ≡ 47 ∷ rest = cc in
          led_step [] (mode.Inside o) mode.Between c 1 b bs rest follows (ap (drop 1) tails)
          (λ ts p d fs x. subst (λ k. Reads line (mode.Inside o) c k ts p d fs) (sym whole)
          (ls.close (subst (λ k. Reads line mode.Between k rest ts p d fs) (omega arith) x)))

  led_at : (m : Mode) (c b : ℕ) (bs : List ℕ) → Follows bs → Led m c (b ∷ bs) (line_from file line m 0 c (b ∷ bs))
  unfolding line_from
  led_at mode.Fresh c b bs follows = led_front mode.Fresh c b bs refl follows (front_of true (b ∷ bs)) refl (front_tells true b bs)
  led_at mode.Between c b bs follows = led_front mode.Between c b bs refl follows (front_of false (b ∷ bs)) refl (front_tells false b bs)
  led_at (mode.Inside o) c b bs follows = led_inside o c b bs follows

  led : (bs : List ℕ) (m : Mode) (skip c : ℕ) → Led m (c + skip) (drop skip bs) (line_from file line m skip c bs)
  unfolding line_from
  led [] m zero c = end_led m (c + 0)
  led [] m (suc skip) c = end_led m (c + suc skip)
  led (b ∷ bs) m (suc skip) c =
      subst (λ k. Led m k (drop skip bs) (line_from file line m skip (c + 1) bs)) (let e : c + 1 + skip ≡ c + suc skip = omega arith in e)
      (led bs m skip (c + 1))
  led (b ∷ bs) m zero c =
      subst (λ k. Led m k (b ∷ bs) (line_from file line m 0 c (b ∷ bs))) (let e : c ≡ c + 0 = omega arith in e) (led_at m c b bs (λ n skip d. led bs n skip d))

-- ---- all lines

front_err : (before : List Token) (r : Result (List Token) Fault) (f : Fault) → with_front before r ≡ Err f → r ≡ Err f
front_err before (Ok us) f h = absurd cc
front_err before (Err g) f h = cc

lines_sound : (file : FileOf) (lines : List Line) (opened : Option ℕ) (ts : List Token) → tokens_from file opened lines ≡ Ok ts → IsRead opened lines ts
unfolding tokens_from
lines_sound file [] None ts h = let e : [] ≡ ts = cc in subst (λ k. IsRead None [] k) e ls.ended
lines_sound file [] (Some n) ts h = absurd cc
lines_sound file (x ∷ xs) opened ts h =
    by (line_from file x.number (begun opened) 0 1 x.text) (led file x.number x.text (begun opened) 0 1) (λ o us e. lines_sound file xs o us e) h
  where
    by : (r : Result Cut Fault) → Led file x.number (begun opened) 1 x.text r
        → ((o : Option ℕ) (us : List Token) → tokens_from file o xs ≡ Ok us → IsRead o xs us)
        → (r >>= (λ c. with_front c.tokens (tokens_from file c.open_at xs))) ≡ Ok ts → IsRead opened (x ∷ xs) ts
    by (Ok q) w ih h =
        let p = front_ok q.tokens (tokens_from file q.open_at xs) ts h in
        subst (λ k. IsRead opened (x ∷ xs) k) (sym p.2) (ls.one_line w.reads (subst (λ o. IsRead o xs p.0) w.opens (ih q.open_at p.0 p.1)))
    by (Err f) w ih h = absurd cc

lines_fault : (file : FileOf) (lines : List Line) (opened : Option ℕ) (f : Fault) → tokens_from file opened lines ≡ Err f → IsFault file opened lines f
unfolding tokens_from
lines_fault file [] None f h = absurd cc
lines_fault file [] (Some n) f h = let e : fault_in file n OPEN_COMMENT_OR_TEXT [] ≡ f = cc in subst (λ k. IsFault file (Some n) [] k) e ls.stays_open
lines_fault file (x ∷ xs) opened f h =
    by (line_from file x.number (begun opened) 0 1 x.text) (led file x.number x.text (begun opened) 0 1) (λ o e. lines_fault file xs o f e) h
  where
    by : (r : Result Cut Fault) → Led file x.number (begun opened) 1 x.text r → ((o : Option ℕ) → tokens_from file o xs ≡ Err f → IsFault file o xs f)
        → (r >>= (λ c. with_front c.tokens (tokens_from file c.open_at xs))) ≡ Err f → IsFault file opened (x ∷ xs) f
    by (Ok q) w ih h = ls.later w.reads (subst (λ o. IsFault file o xs f) w.opens (ih q.open_at (front_err q.tokens (tokens_from file q.open_at xs) f h)))
    by (Err g) w ih h =
        let same : fault_in file x.number w.code [] ≡ f = sym w.fault ∙ (let e : g ≡ f = cc in e) in
        subst (λ k. IsFault file opened (x ∷ xs) k) same (ls.here w.reads w.none w.refused)

ended_cut : (file : FileOf) (line : ℕ) (m : Mode) (d : ℕ) → line_from file line m 0 d [] ≡ Ok (cut [] (open_in m))
unfolding line_from
ended_cut file line m d = refl

pub line_done : (file : FileOf) (opened : Option ℕ) (x : Line) (ts : List Token) (m : Mode) (d : ℕ) → Reads x.number (begun opened) 1 x.text ts m d []
    → cut_of file opened x ≡ Ok (cut ts (open_in m))
line_done file opened x ts m d reads =
    reads_done file x.number reads ∙ ap (with_tokens ts) (ended_cut file x.number m d)
    ∙ ap (λ (l : List Token). let r : Result Cut Fault = Ok (cut l (open_in m)) in r) (append-nil ts)

lines_done : (file : FileOf) {opened : Option ℕ} {lines : List Line} {ts : List Token} → IsRead opened lines ts → tokens_from file opened lines ≡ Ok ts
unfolding tokens_from
lines_done file ls.ended = refl
lines_done file (ls.one_line {opened = opened} {line = x} {ts = ts} {m = m} {d = d} reads more) =
    rw (line_done file opened x ts m d reads, lines_done file more) refl

faults_done : (file : FileOf) {opened : Option ℕ} {lines : List Line} {f : Fault} → IsFault file opened lines f → tokens_from file opened lines ≡ Err f
unfolding tokens_from
faults_done file ls.stays_open = refl
faults_done file (ls.here {opened = opened} {line = x} {lines = lines} {ts = ts} {m = m} {d = d} {code = code} {rest = rest} reads none refused) =
    let at : line_from file x.number m 0 d rest ≡ Err (fault_in file x.number code []) =
    at_fault file x.number m d rest (fault_in file x.number code []) none.some
    (step_code file x.number d m rest none.code ∙ ap (by_front file (span_at x.number d) m rest) refused) in
    rw (reads_done file x.number reads, at) refl
faults_done file (ls.later {opened = opened} {line = x} {ts = ts} {m = m} {d = d} reads more) =
    rw (line_done file opened x ts m d reads, faults_done file more) refl

pub spelled_law : SpelledLaw
spelled_law =
    record {
      sound = λ file lines ts h. lines_sound file lines None ts h;
      complete = λ file lines ts x. lines_done file x;
      first_fault = λ file lines f h. lines_fault file lines None f h;
      faulty = λ file lines f x. faults_done file x;
    }

-- ---- places

drop_more : (before : List ℕ) (skip : ℕ) (rest : List ℕ) → drop (length before + skip) (before ++ rest) ≡ drop skip rest
drop_more [] skip rest = ap (λ k. drop k rest) (omega arith)
drop_more (b ∷ before) skip rest =
    let e : length (b ∷ before) + skip ≡ suc (length before + skip) = omega arith in
    ap (λ k. drop k (b ∷ (before ++ rest))) e ∙ drop_more before skip rest

-- tokens that stand after other bytes
placed_after : (line c d : ℕ) (before rest : List ℕ) (ts : List Token) → d ≡ c + length before → ArePlaced line d rest ts → ArePlaced line c (before ++ rest) ts
placed_after line c d before rest [] e x = tt
placed_after line c d before rest (t ∷ ts) e x =
    let at : d + x.0 ≡ c + (length before + x.0) = omega (arith, e) in (
      length before + x.0,
      x.1,
      x.2 ∙ ap (span_at line) at,
      drop_more before x.0 rest ∙ x.3,
      subst (λ k. ArePlaced line (k + length t.text) x.1 ts) at x.4,
    )

placed : {line c d : ℕ} {m n : Mode} {bs es : List ℕ} {ts : List Token} → Reads line m c bs ts n d es → ArePlaced line c bs ts
placed ls.here = tt
placed {line = line} (ls.blank {c = c} {b = b} {bs = bs} {ts = ts} h e x) = placed_after line c (c + 1) (b ∷ []) bs ts (omega arith) (placed x)
placed (ls.line_comment h) = tt
placed {line = line} (ls.comment {c = c} {bs = bs} {ts = ts} h x) = placed_after line c (c + 2) (47 ∷ 42 ∷ []) bs ts (omega arith) (placed x)
placed {line = line} (ls.inside {c = c} {b = b} {bs = bs} {ts = ts} e x) = placed_after line c (c + 1) (b ∷ []) bs ts (omega arith) (placed x)
placed {line = line} (ls.close {c = c} {bs = bs} {ts = ts} x) = placed_after line c (c + 2) (42 ∷ 47 ∷ []) bs ts (omega arith) (placed x)
placed {line = line} (ls.token {c = c} {t = t} {rest = rest} {ts = ts} h s x) =
    let here : c ≡ c + 0 = omega arith in
    (0, rest, ap (span_at line) here, refl, subst (λ k. ArePlaced line (k + length t) rest ts) here (placed x))

pub placed_law : PlacedLaw
placed_law file opened x q h = by (line_from file x.number (begun opened) 0 1 x.text) (led file x.number x.text (begun opened) 0 1) h
  where
    by : (r : Result Cut Fault) → Led file x.number (begun opened) 1 x.text r → r ≡ Ok q → ArePlaced x.number 1 x.text q.tokens
    by (Ok p) w h = let e : p ≡ q = cc in subst (λ (k : Cut). ArePlaced x.number 1 x.text k.tokens) e (placed w.reads)
    by (Err f) w h = absurd cc
