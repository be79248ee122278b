-- Where reading a form of the XS interface, or an expression as a statement, breaks off, the tokens that were passed begin a statement.
use Rattle.xs_csyn.specs.FaultPlaces.{SameNext}
use Rattle.std.proofs.Common.{◌≡◌, ℕ, ◌+◌, ◌≤◌, ◌||◌, Bool, true, false, if◌then◌else◌, List, [], ◌∷◌, ◌++◌, map, append_assoc, append-nil, Option, Some, None, refl, ap, sym, subst, ◌∙◌, arith, suc, length}
use Rattle.std.proofs.lemmas.Bool.{or_parts, or_right}
use Rattle.std.specs.Option.{option_map_or}
use Rattle.std.specs.Prelude.{codes}
use Rattle.xs_base.specs.Readers.{◌>>=◌, and_then, head_is, pure}
use Rattle.xs_ctok.specs.declared.token.Literal.{Literal}
use Rattle.xs_ctok.specs.declared.token.Token.{Token}
use Rattle.xs_csyn.proofs.Breaks.{MayCome, Viable, after_token, alike, breaks_here, fewer, finished, onward, other, read, retold, step, with_good}
use Rattle.xs_csyn.proofs.TokenBreaks.{breaks_at_end, by_expect, by_here, by_name, by_passed, by_variable, by_word}
use Rattle.xs_csyn.proofs.ExpressionsBegin.{expr_begins}
use Rattle.xs_csyn.proofs.TypesBegin.{sign, sign_spelt}
use Rattle.xs_csyn.proofs.FormRests.{fitting_read, form_first, form_rest, new_xs_rest, text_tells}
use Rattle.xs_csyn.proofs.FormSlots.{Fitting, all_fit, all_fitting, fitting, one_fits, row_facts, form_slots, spelt, unspelt}
use Rattle.xs_csyn.proofs.FormsComplete.{int_fits, perl_form_done, spelt_sign, spelt_word, text_fits}
use Rattle.xs_csyn.proofs.FormsLocal.{no_form, row_form}
use Rattle.xs_csyn.proofs.FormsSound.{begins_by, int_kind, perl_form_yields, text_kind}
use Rattle.xs_csyn.proofs.Frames.{IsFront, whole_frame}
use Rattle.xs_csyn.proofs.HoleHeights.{but_low, hole_none}
use Rattle.xs_csyn.proofs.Local.{Good, NextTells, are_cut, are_front, are_join, good_after, proper, turned}
use Rattle.xs_csyn.proofs.PlainLocal.{an_expr_local, int_tells}
use Rattle.xs_csyn.proofs.StatementFrames.{Fine, stmt_standing}
use Rattle.xs_csyn.proofs.StatementsSound.{an_expr_yields}
use Rattle.xs_csyn.proofs.Yields.{at}
use Rattle.xs_csyn.specs.Prefixes.{height_but, tallest_but}
use Rattle.xs_cstmt.specs.StatementHeights.{depth}
use Rattle.xs_csyn.specs.Grammar as r
use Rattle.xs_csyn.specs.Grammar.{IsVariable, Whole}
use Rattle.xs_cstmt.specs.PerlForms.{Part, a_text, an_int, expect_one, fits, form_at, form_row, int_ahead, is_no_operand, is_one, leads, sees_one, text_ahead}
use Rattle.xs_csyn.specs.TokenTexts.{AreSpelt, IsSpelt}
use Rattle.xs_csyn.specs.StatementGrammar as g
use Rattle.xs_csyn.specs.StatementGrammar.{Form as Formed, Statement}
use Rattle.xs_cstmt.specs.StatementReader.{an_expr, effect, max_nesting}
use Rattle.xs_cexpr.specs.ExpressionTree as tree_expr
use Rattle.xs_cstmt.specs.StatementTree as tree_stmt
use Rattle.xs_cexpr.specs.ExpressionTree.{ExprTree}
use Rattle.xs_cstmt.specs.StatementTree.{StmtTree}
use Rattle.xs_cinput.specs.TokenInput.{Input, Outcome, Reader, a_name, a_variable, expect, expect_word, is_type, is_word, next, refuse, skip}
use Rattle.xs_cstmt.specs.declared.forms.Form.{Form}
use Rattle.xs_cstmt.specs.declared.forms.Form.TheVariants as the
use Rattle.xs_cstmt.specs.declared.forms.Slot.TheVariants as slot
use Rattle.xs_cstmt.specs.declared.tree.PerlForm.{PerlForm}
use Rattle.xs_cexpr.specs.declared.node.Level.TheVariants as level

pub good_tail : {u : Token} {ts us : List Token} {k : ℕ} → ts ≡ u ∷ us → Good proper k ts → Good proper k us
good_tail {u} {ts} {us} {k} e good = good_after proper (u ∷ []) us k (subst (λ (l : List Token). Good proper k l) e good)

pub good_rest : {w : List Token → List Token} {ts us : List Token} {k : ℕ} → IsFront w → w us ≡ ts → Good proper k ts → Good proper k us
good_rest {w} {ts} {us} {k} f e good = good_after proper f.before us k (subst (λ (l : List Token). Good proper k l) (sym e ∙ f.is us) good)

pub first_spelt : {u : Token} {ts us : List Token} {k : ℕ} → ts ≡ u ∷ us → Good proper k ts → IsSpelt u
first_spelt {u} {ts} {us} {k} e good = (subst (λ (l : List Token). Good proper k l) e good).1.0

-- no `else` follows
abbrev pub NoElse : List Token → Type 0
NoElse us = head_is (is_word (codes "else")) us ≡ false

-- ---- forms by their slots

fitting_leads : {types : List (List ℕ)} {ss : List Part} {ts : List Token} → Fitting types ss ts → leads types ss ts ≡ true
fitting_leads all_fit = refl
fitting_leads {types} (one_fits {ss = ss} {t = t} {ts = ts} f x more) = rw f (or_right (is_no_operand types t) (leads types ss ts) (fitting_leads more))

-- what fits is spelt as it is to be
fitting_are : {types : List (List ℕ)} {ss : List Part} {ts : List Token} → Fitting types ss ts → AreSpelt ts
fitting_are all_fit = tt
fitting_are (one_fits e a x) = (a, fitting_are x)

-- tokens that lead on and would not with others are fit so far
leads_front : (types : List (List ℕ)) (x : Token) → IsVariable types x → IsSpelt x → (ss : List Part) (p js us : List Token)
    → leads types ss (p ++ js) ≡ true → leads types ss (p ++ us) ≡ false → AreSpelt p → (more : List Token) × Fitting types ss (p ++ more)
leads_front types x v y [] p js us e n a = absurd cc
leads_front types x v y (s ∷ ss) [] js us e n a = (map (fitting x) (s ∷ ss), all_fitting types x v y (s ∷ ss))
leads_front types x v y (s ∷ ss) (c ∷ p) js us e n a =
    by (fits types s c) (is_no_operand types c) refl e n (λ e' n'. leads_front types x v y ss p js us e' n' a.1)
  where
    by : (d o : Bool) → fits types s c ≡ d → (if d then o || leads types ss (p ++ js) else false) ≡ true
        → (if d then o || leads types ss (p ++ us) else false) ≡ false
        → (leads types ss (p ++ js) ≡ true → leads types ss (p ++ us) ≡ false → (more : List Token) × Fitting types ss (p ++ more))
        → (more : List Token) × Fitting types (s ∷ ss) ((c ∷ p) ++ more)
    by false o f e n h = absurd cc
    by true true f e n h = absurd cc
    by true false f e n h = let m = h e n in (m.0, one_fits f a.0 m.1)

-- Tokens that fit all slots are a statement.
form_stands : (b : Input) (which : Form) (t : Token) (slots : List Part) (ts : List Token) → form_row t ≡ Some (which, slots)
    → Fitting b.types (form_slots which) ts → (p : PerlForm) × Statement b.types (tree_stmt.Perl t.span.line p) (t ∷ ts) []
form_stands b which t slots ts row fit =
    let y = begins_by t (which, slots) row in
    let facts = row_facts t (which, slots) row in
    let led : leads b.types slots ts ≡ true = ap (λ ss. leads b.types ss ts) facts.slots ∙ fitting_leads fit in
    let is : form_at b.types (t ∷ ts) ≡ Some which =
    row_form b.types t ts (which, slots) row ∙ rw (or_right (is_type b.types t) (leads b.types slots ts) led) refl in
    let q = fitting_read b which fit b.turns in
    let one = perl_form_done b which t ts [] q.0 (form_first b which t ts b.turns y.is_a_word y.spelt ∙ q.1) in
    let z = (perl_form_yields b which t ts is).gives (tree_stmt.Perl t.span.line q.0) (at b []) one in
    let left : [] ≡ z.0 = ap (λ (i : Input). i.rest) z.1 in
    (z.2.0, g.perl (subst (λ (l : List Token). Formed b.types z.2.0 (t ∷ ts) l) (sym left) z.2.2))

-- ---- forms are short: what stands after nine tokens has no part in which form it is

-- The tokens in front of an operand that would be too deep are more than these.
abbrev pub far : ℕ
far = 8

slots_short : (which : Form) → length (form_slots which) ≤ far
slots_short (the.Word w) = omega arith
slots_short the.ResetStack = omega arith
slots_short the.SetIndex = omega arith
slots_short the.NewXs = omega arith
slots_short the.KeptNewXs = omega arith
slots_short the.NewRecord = omega arith
slots_short the.Unused = omega arith

pub row_short : (t : Token) (row : Form × List Part) → form_row t ≡ Some row → length row.1 ≤ far
row_short t row e =
    let same : length row.1 ≡ length (form_slots row.0) = ap (λ (ss : List Part). length ss) (row_facts t row e).slots in
    omega (arith, same, slots_short row.0)

leads_long : (types : List (List ℕ)) (ss : List Part) (p us vs : List Token) → length ss ≤ length p → leads types ss (p ++ us) ≡ leads types ss (p ++ vs)
leads_long types [] p us vs le = refl
leads_long types (s ∷ ss) [] us vs le = absurd (omega (arith, le))
leads_long types (s ∷ ss) (c ∷ p) us vs le =
    ap (λ on. if fits types s c then is_no_operand types c || on else false) (leads_long types ss p us vs (omega (arith, le)))

form_long : (types : List (List ℕ)) (before us vs : List Token) → suc far ≤ length before → form_at types (before ++ us) ≡ form_at types (before ++ vs)
form_long types [] us vs le = absurd (omega (arith, le))
form_long types (c ∷ p) us vs le = by (form_row c) refl
  where
    by : (o : Option (Form × List Part)) → form_row c ≡ o → form_at types (c ∷ (p ++ us)) ≡ form_at types (c ∷ (p ++ vs))
    by None f = no_form types c (p ++ us) f ∙ sym (no_form types c (p ++ vs) f)
    by (Some row) f =
        row_form types c (p ++ us) row f
        ∙ (ap (λ on. if is_type types c || on then Some row.0 else None) (leads_long types row.1 p us vs (omega (arith, le, row_short c row f)))
        ∙ sym (row_form types c (p ++ vs) row f))

pub form_front : (types : List (List ℕ)) {w : List Token → List Token} (f : IsFront w) (us vs : List Token) → suc far ≤ length f.before
    → form_at types (w us) ≡ form_at types (w vs)
form_front types f us vs le = ap (form_at types) (f.is us) ∙ (form_long types f.before us vs le ∙ sym (ap (form_at types) (f.is vs)))

-- The same words lead on, or do not, at each token that may come.
pub leads_may : {opens c : Bool} {stays : List Token → Bool} (types : List (List ℕ)) (ss : List Part) (before rest us : List Token)
    → MayCome opens stays rest us
    → (SameNext rest us → leads types ss (before ++ us) ≡ c) → (opens ≡ true → length ss ≤ length before) → leads types ss (before ++ rest) ≡ c
    → leads types ss (before ++ us) ≡ c
leads_may types ss before rest us (alike n) still long led = still n
leads_may types ss before rest us (other o e) still long led = leads_long types ss before us rest (long o) ∙ led

pub form_may : {opens : Bool} {stays : List Token → Bool} (types : List (List ℕ)) (before rest us : List Token) → MayCome opens stays rest us
    → (SameNext rest us → form_at types (before ++ us) ≡ None) → (opens ≡ true → suc far ≤ length before) → form_at types (before ++ rest) ≡ None
    → form_at types (before ++ us) ≡ None
form_may types before rest us (alike n) still long none = still n
form_may types before rest us (other o e) still long none = form_long types before us rest (long o) ∙ none

-- a statement with others after it
pub lengthened : {types : List (List ℕ)} {s : StmtTree} {ts : List Token} → Statement types s ts [] → (us : List Token) → NoElse us
    → Statement types s (ts ++ us) us
lengthened {types} {s} {ts} x us ne =
    let y = stmt_standing x in
    let all : ts ≡ y.front.before = sym y.here ∙ (y.front.is [] ∙ append-nil y.front.before) in
    let fine : Fine [] us = λ h. let wrong : ◌≡◌ {A = Bool} true false = sym h ∙ ne in absurd cc in
    subst (λ (l : List Token). Statement types s l us) (y.front.is us ∙ ap (λ l. l ++ us) (sym all)) (y.moves us fine)

module _ (Text : ℕ → List Token → Type 0) (b : Input) (x : Token) (vx : IsVariable b.types x) (sx : IsSpelt x) where
  abbrev After : Part → List Part → (List Token → List Token) → Token → Type 0
  After s ss d u = (L : List Token) → Fitting b.types ss L → Text 0 (d (u ∷ L))

  fill : (ss : List Part) (d : List Token → List Token) → ((L : List Token) → Fitting b.types ss L → Text 0 (d L)) → Text 0 (d (map (fitting x) ss))
  fill ss d fin = fin (map (fitting x) ss) (all_fitting b.types x vx sx ss)

  by_sign : {A : Type 0} (m : List ℕ) (ss : List Part) (d : List Token → List Token) → ((L : List Token) → Fitting b.types (spelt m ∷ ss) L → Text 0 (d L))
      → (ts : List Token) (go : ℕ → Unit {0} → Reader A)
      → ((u : Token) (us : List Token) → After (spelt m) ss d u → Viable proper x (suc far) Text b (λ js. d (u ∷ js)) (λ k. go k tt) us)
      → Viable proper x (suc far) Text b d (λ k i. and_then (expect m i) (go k)) ts
  by_sign m ss d fin ts go h = with_good (λ good. by_expect m ts go _ (fill (spelt m ∷ ss) d fin)
      (λ u us e is. h u us (λ L q. fin (u ∷ L) (one_fits (spelt_sign m u is) (first_spelt e good) q))))

  by_this_word : {A : Type 0} (m : List ℕ) (ss : List Part) (d : List Token → List Token)
      → ((L : List Token) → Fitting b.types (spelt m ∷ ss) L → Text 0 (d L))
      → (ts : List Token) (go : ℕ → Unit {0} → Reader A)
      → ((u : Token) (us : List Token) → After (spelt m) ss d u → Viable proper x (suc far) Text b (λ js. d (u ∷ js)) (λ k. go k tt) us)
      → Viable proper x (suc far) Text b d (λ k i. and_then (expect_word m i) (go k)) ts
  by_this_word m ss d fin ts go h = with_good (λ good. by_word m ts go _ (fill (spelt m ∷ ss) d fin)
      (λ u us e is. h u us (λ L q. fin (u ∷ L) (one_fits (spelt_word m u is) (first_spelt e good) q))))

  by_a_variable : {A : Type 0} (ss : List Part) (d : List Token → List Token)
      → ((L : List Token) → Fitting b.types (unspelt slot.Variable ∷ ss) L → Text 0 (d L))
      → (ts : List Token) (go : ℕ → List ℕ → Reader A)
      → ((u : Token) (us : List Token) → After (unspelt slot.Variable) ss d u → Viable proper x (suc far) Text b (λ js. d (u ∷ js)) (λ k. go k u.text) us)
      → Viable proper x (suc far) Text b d (λ k i. and_then (a_variable i) (go k)) ts
  by_a_variable ss d fin ts go h = with_good (λ good. by_variable ts go _ (fill (unspelt slot.Variable ∷ ss) d fin)
      (λ u us e v. h u us (λ L q. fin (u ∷ L) (one_fits v (first_spelt e good) q))))

  by_a_name : {A : Type 0} (ss : List Part) (d : List Token → List Token) → ((L : List Token) → Fitting b.types (unspelt slot.Name ∷ ss) L → Text 0 (d L))
      → (ts : List Token) (go : ℕ → List ℕ → Reader A)
      → ((u : Token) (us : List Token) → After (unspelt slot.Name) ss d u → Viable proper x (suc far) Text b (λ js. d (u ∷ js)) (λ k. go k u.text) us)
      → Viable proper x (suc far) Text b d (λ k i. and_then (a_name i) (go k)) ts
  by_a_name ss d fin ts go h = with_good (λ good. by_name ts go _ (fill (unspelt slot.Name ∷ ss) d fin)
      (λ u us e n. h u us (λ L q. fin (u ∷ L) (one_fits n (first_spelt e good) q))))

  by_the_one : {A : Type 0} (ss : List Part) (d : List Token → List Token) → ((L : List Token) → Fitting b.types (unspelt slot.One ∷ ss) L → Text 0 (d L))
      → (ts : List Token) (go : ℕ → Unit {0} → Reader A)
      → ((u : Token) (us : List Token) → After (unspelt slot.One) ss d u → Viable proper x (suc far) Text b (λ js. d (u ∷ js)) (λ k. go k tt) us)
      → Viable proper x (suc far) Text b d (λ k i. and_then (expect_one i) (go k)) ts
  unfolding expect_one sees_one
  by_the_one ss d fin ts go h = with_good (λ good. by_passed is_one ts go _ (fill (unspelt slot.One ∷ ss) d fin)
      (λ u us e n. h u us (λ L q. fin (u ∷ L) (one_fits n (first_spelt e good) q))))

  -- the next token is taken for what it stands for
  option_ways : {A V : Type 0} (d : List Token → List Token) (o : Input → Option V) (u : Token) (us : List Token)
      → ((js : List Token) → NextTells b o (u ∷ js)) → {go : ℕ → V → Reader A} (more : List Token) → Text 0 (d more)
      → ((v : V) → o (turned b 0 (u ∷ us)) ≡ Some v → Viable proper x (suc far) Text b (λ js. d (u ∷ js)) (λ k. go k v) us)
      → Viable proper x (suc far) Text b d (λ k i. and_then (option_map_or {U = Reader V} (λ v. skip >>= λ w. pure v) (o i) refuse i) (go k)) (u ∷ us)
  unfolding next
  option_ways {A} {V} d o u us tells {go} more text h = by (o (turned b 0 (u ∷ us))) refl
    where
      taken : ℕ → Option V → Input → Outcome A
      taken k v i = and_then (option_map_or {U = Reader V} (λ v. skip >>= λ w. pure v) v refuse i) (go k)

      by : (v : Option V) → o (turned b 0 (u ∷ us)) ≡ v
          → Viable proper x (suc far) Text b d (λ k i. and_then (option_map_or {U = Reader V} (λ v. skip >>= λ w. pure v) (o i) refuse i) (go k)) (u ∷ us)
      by None e = breaks_here more text (λ js k n. ap (λ v. taken k v (turned b k js)) (tells us js k n ∙ e))
      by (Some v) e = after_token u (h v e) (λ js k n g. ap (λ v. taken k v (turned b k (u ∷ js))) (tells us (u ∷ js) k refl ∙ e))

  by_an_int : {A : Type 0} (ss : List Part) (d : List Token → List Token) → ((L : List Token) → Fitting b.types (unspelt slot.Int ∷ ss) L → Text 0 (d L))
      → (ts : List Token) {go : ℕ → Literal → Reader A}
      → ((u : Token) (l : Literal) (us : List Token) → After (unspelt slot.Int) ss d u → Viable proper x (suc far) Text b (λ js. d (u ∷ js)) (λ k. go k l) us)
      → Viable proper x (suc far) Text b d (λ k i. and_then (an_int i) (go k)) ts
  unfolding an_int int_ahead
  by_an_int ss d fin [] h = breaks_at_end _ (fill (unspelt slot.Int ∷ ss) d fin) (λ k. refl)
  by_an_int ss d fin (u ∷ us) h = with_good (λ good. option_ways d int_ahead u us (λ js. int_tells b (u ∷ js)) _ (fill (unspelt slot.Int ∷ ss) d fin)
      (λ l e. h u l us (λ L q. fin (u ∷ L) (one_fits (int_fits l u (int_kind u.kind l e)) (first_spelt {u = u} refl good) q))))

  by_a_text : {A : Type 0} (ss : List Part) (d : List Token → List Token) → ((L : List Token) → Fitting b.types (unspelt slot.Text ∷ ss) L → Text 0 (d L))
      → (ts : List Token) {go : ℕ → List ℕ → Reader A}
      → ((u : Token) (l : List ℕ) (us : List Token) → After (unspelt slot.Text) ss d u → Viable proper x (suc far) Text b (λ js. d (u ∷ js)) (λ k. go k l) us)
      → Viable proper x (suc far) Text b d (λ k i. and_then (a_text i) (go k)) ts
  unfolding a_text text_ahead
  by_a_text ss d fin [] h = breaks_at_end _ (fill (unspelt slot.Text ∷ ss) d fin) (λ k. refl)
  by_a_text ss d fin (u ∷ us) h = with_good (λ good. option_ways d text_ahead u us (λ js. text_tells b (u ∷ js)) _ (fill (unspelt slot.Text ∷ ss) d fin)
      (λ l e. h u l us (λ L q. fin (u ∷ L) (one_fits (text_fits l u (text_kind u.kind l e)) (first_spelt {u = u} refl good) q))))

  new_xs_begins : (keeps : Bool) (d : List Token → List Token) → ((L : List Token) → Fitting b.types (form_slots the.NewXs) L → Text 0 (d L))
      → (ts : List Token) → Viable proper x (suc far) Text b d (λ k. new_xs_rest keeps) ts
  new_xs_begins keeps d fin ts =
      by_sign (codes "(") _ d fin ts _
      (λ u us f1. by_a_text _ (λ js. d (u ∷ js)) f1 us
      (λ v l vs f2. by_sign (codes ",") _ (λ js. d (u ∷ v ∷ js)) f2 vs _
      (λ w ws f3. by_a_variable _ (λ js. d (u ∷ v ∷ w ∷ js)) f3 ws _
      (λ c cs f4. by_sign (codes ")") _ (λ js. d (u ∷ v ∷ w ∷ c ∷ js)) f4 cs _
      (λ e es f5. by_sign (codes ";") _ (λ js. d (u ∷ v ∷ w ∷ c ∷ e ∷ js)) f5 es _ (λ h hs f6. read refl))))))

  rest_begins : (which : Form) (d : List Token → List Token) → ((L : List Token) → Fitting b.types (form_slots which) L → Text 0 (d L))
      → (ts : List Token) → Viable proper x (suc far) Text b d (λ k. form_rest which) ts
  rest_begins (the.Word w) d fin ts = by_sign (codes ";") _ d fin ts _ (λ u us f1. read refl)
  rest_begins the.ResetStack d fin ts =
      by_sign (codes "-=") _ d fin ts _
      (λ u us f1. by_this_word (codes "items") _ (λ js. d (u ∷ js)) f1 us _
      (λ v vs f2. by_sign (codes ";") _ (λ js. d (u ∷ v ∷ js)) f2 vs _ (λ w ws f3. read refl)))
  rest_begins the.SetIndex d fin ts =
      by_sign (codes ".") _ d fin ts _
      (λ u us f1. by_this_word (codes "any_i32") _ (λ js. d (u ∷ js)) f1 us _
      (λ v vs f2. by_sign (codes "=") _ (λ js. d (u ∷ v ∷ js)) f2 vs _
      (λ w ws f3. by_an_int _ (λ js. d (u ∷ v ∷ w ∷ js)) f3 ws
      (λ c l cs f4. by_sign (codes ";") _ (λ js. d (u ∷ v ∷ w ∷ c ∷ js)) f4 cs _ (λ e es f5. read refl)))))
  rest_begins the.NewXs d fin ts = new_xs_begins false d fin ts
  rest_begins the.KeptNewXs d fin ts =
      by_sign (codes "=") _ d fin ts _
      (λ u us f1. by_this_word (codes "newXS_deffile") _ (λ js. d (u ∷ js)) f1 us _
      (λ v vs f2. new_xs_begins true (λ js. d (u ∷ v ∷ js)) f2 vs))
  rest_begins the.NewRecord d fin ts =
      by_sign (codes "(") _ d fin ts _
      (λ u us f1. by_a_variable _ (λ js. d (u ∷ js)) f1 us _
      (λ v vs f2. by_sign (codes ",") _ (λ js. d (u ∷ v ∷ js)) f2 vs _
      (λ w ws f3. by_the_one _ (λ js. d (u ∷ v ∷ w ∷ js)) f3 ws _
      (λ c cs f4. by_sign (codes ",") _ (λ js. d (u ∷ v ∷ w ∷ c ∷ js)) f4 cs _
      (λ e es f5. by_a_name _ (λ js. d (u ∷ v ∷ w ∷ c ∷ e ∷ js)) f5 es _
      (λ h hs f6. by_sign (codes ")") _ (λ js. d (u ∷ v ∷ w ∷ c ∷ e ∷ h ∷ js)) f6 hs _
      (λ k ks f7. by_sign (codes ";") _ (λ js. d (u ∷ v ∷ w ∷ c ∷ e ∷ h ∷ k ∷ js)) f7 ks _ (λ l ls f8. read refl))))))))
  rest_begins the.Unused d fin ts =
      by_sign (codes "(") _ d fin ts _
      (λ u us f1. by_a_variable _ (λ js. d (u ∷ js)) f1 us _
      (λ v vs f2. by_sign (codes ")") _ (λ js. d (u ∷ v ∷ js)) f2 vs _
      (λ w ws f3. by_sign (codes ";") _ (λ js. d (u ∷ v ∷ w ∷ js)) f3 ws _ (λ c cs f4. read refl))))

module _ (Text : ℕ → List Token → Type 0) (b : Input) (x : Token) (vx : IsVariable b.types x) (sx : IsSpelt x) where
  -- a form after its first word
  pub form_rest_begins : (which : Form) (t : Token) (slots : List Part) → form_row t ≡ Some (which, slots) → (d : List Token → List Token) (us : List Token)
      → AreSpelt us
      → NoElse us → ((over : ℕ) (s : StmtTree) (ws : List Token) → Statement b.types s ws us → depth s ≤ 0 + over → tallest_but x.text s ≤ max_nesting + over
      → Text over (d ws))
      → (ts : List Token) → Viable proper x (suc far) Text b (λ js. d (t ∷ js)) (λ k. form_rest which) ts
  form_rest_begins which t slots row d us su ne fin ts =
      retold (rest_begins (λ over L. Text over (d (t ∷ (L ++ us)))) b x vx sx which (λ js. js)
      (λ L q. let s = form_stands b which t slots L row q in
      fin 0 (tree_stmt.Perl t.span.line s.0) (t ∷ (L ++ us)) (lengthened s.1 us ne) (omega arith) (omega arith)) ts)
      (λ w front rest more here over text. (
        more ++ us,
        (λ a. are_join proper more us a su),
        subst (λ (l : List Token). Text over (d (t ∷ l)))
            (regrouped w front more) text,
      ))
      (λ w front rest over u more long here text. (
        more ++ us,
        (λ a. are_join proper more us a su),
        subst (λ (l : List Token). Text over (d (t ∷ l)))
            (regrouped w front (u ∷ more)) text,
      ))
    where
      regrouped : (w : List Token → List Token) (front : IsFront w) (more : List Token) → w more ++ us ≡ w (more ++ us)
      regrouped w front more = ap (λ l. l ++ us) (front.is more) ∙ (append_assoc front.before more us ∙ sym (front.is (more ++ us)))

  -- ---- an expression as a statement

  abbrev stop : Token
  stop = sign x (codes ";")

  -- what begins an expression with a `;` after it begins a statement
  effect_text : form_row x ≡ None → (over : ℕ) (d : List Token → List Token) (us : List Token) → AreSpelt us → NoElse us
      → ((over : ℕ) (s : StmtTree) (ws : List Token) → Statement b.types s ws us → depth s ≤ 0 + over → tallest_but x.text s ≤ max_nesting + over → Text over
      (d ws))
      → (ts : List Token) → form_at b.types ts ≡ None → AreSpelt ts → (w : List Token → List Token) → IsFront w → (rest more : List Token) → w rest ≡ ts
      → (a : ExprTree) → Whole b.types a (w more) (stop ∷ us) → height_but x.text a ≤ max_nesting + over
      → (js : List Token) × (AreSpelt more → AreSpelt js) × Text over (d (w js))
  effect_text nx over d us su ne fin ts none spelt_ts w front rest more here a q low = by (form_at b.types (w more)) refl
    where
      all : front.before ++ rest ≡ ts
      all = sym (front.is rest) ∙ here

      as_effect : form_at b.types (w more) ≡ None → (js : List Token) × (AreSpelt more → AreSpelt js) × Text over (d (w js))
      as_effect n = (more, (λ a. a), fin over (tree_stmt.Effect (r.line_of a) a) (w more) (g.effect n q refl) (omega arith) low)

      -- a name alone
      alone : front.before ≡ [] → (js : List Token) × (AreSpelt more → AreSpelt js) × Text over (d (w js))
      alone e =
          let same : w (x ∷ stop ∷ us) ≡ x ∷ stop ∷ us = front.is (x ∷ stop ∷ us) ∙ ap (λ l. l ++ x ∷ stop ∷ us) e in
          let no_form : form_at b.types (x ∷ stop ∷ us) ≡ None = rw nx refl in
          let name : ExprTree = tree_expr.Var x.span.line x.text in
          let read_name : Whole b.types name (x ∷ stop ∷ us) (stop ∷ us) =
          r.is_choice (r.is_binary (r.is_unary (r.is_operand (r.is_primary (r.name vx))))) in
          let one : Statement b.types (tree_stmt.Effect x.span.line name) (x ∷ stop ∷ us) us = g.effect no_form read_name refl in (
            x ∷ stop ∷ us,
            (λ a. (sx, (sign_spelt x (codes ";") refl, su))),
            fin over (tree_stmt.Effect x.span.line name) (w (x ∷ stop ∷ us))
                (subst (λ (l : List Token). Statement b.types (tree_stmt.Effect x.span.line name) l us) (sym same) one) (omega arith)
                (omega (arith, hole_none x)),
          )

      -- the words of a form
      as_form : (c : Token) (p : List Token) → front.before ≡ c ∷ p → (row : Form × List Part) → form_row c ≡ Some row
          → (is_type b.types c || leads b.types row.1 (p ++ more)) ≡ true → (is_type b.types c || leads b.types row.1 (p ++ rest)) ≡ false
          → AreSpelt p → (js : List Token) × (AreSpelt more → AreSpelt js) × Text over (d (w js))
      as_form c p e row f led_on isnt a =
          let none = or_parts (is_type b.types c) (leads b.types row.1 (p ++ rest)) isnt in
          let led : leads b.types row.1 (p ++ more) ≡ true = rw (← led_on, none.0) refl in
          let m = leads_front b.types x vx sx row.1 p more rest led none.1 a in
          let fit : Fitting b.types (form_slots row.0) (p ++ m.0) = subst (λ (ss : List Part). Fitting b.types ss (p ++ m.0)) (row_facts c row f).slots m.1 in
          let s = form_stands b row.0 c row.1 (p ++ m.0) f fit in
          let one = lengthened s.1 us ne in
          let same : (c ∷ (p ++ m.0)) ++ us ≡ w (m.0 ++ us) =
          append_assoc (c ∷ p) m.0 us ∙ (ap (λ l. l ++ (m.0 ++ us)) (sym e) ∙ sym (front.is (m.0 ++ us))) in (
            m.0 ++ us,
            (λ more_are. are_join proper m.0 us (are_cut p m.0 (fitting_are m.1)) su),
            fin over (tree_stmt.Perl c.span.line s.0) (w (m.0 ++ us))
                (subst (λ (l : List Token). Statement b.types (tree_stmt.Perl c.span.line s.0) l us) same one) (omega arith) (omega arith),
          )

      by_row : (c : Token) (p : List Token) → front.before ≡ c ∷ p → (o : Option (Form × List Part)) → form_row c ≡ o
          → (which : Form) → form_at b.types (w more) ≡ Some which → (js : List Token) × (AreSpelt more → AreSpelt js) × Text over (d (w js))
      by_row c p e None f which is =
          let same : form_at b.types (w more) ≡ form_at b.types (c ∷ (p ++ more)) = ap (form_at b.types) (front.is more ∙ ap (λ l. l ++ more) e) in
          let wrong : ◌≡◌ {A = Option Form} None (Some which) = sym (rw f refl) ∙ (sym same ∙ is) in
          absurd cc
      by_row c p e (Some row) f which is =
          let here_is : w more ≡ c ∷ (p ++ more) = front.is more ∙ ap (λ l. l ++ more) e in
          let there_is : c ∷ (p ++ rest) ≡ ts = ap (λ l. l ++ rest) (sym e) ∙ all in
          let led_on = some_row (is_type b.types c || leads b.types row.1 (p ++ more)) row.0 which
          (sym (row_form b.types c (p ++ more) row f) ∙ (ap (form_at b.types) (sym here_is) ∙ is)) in
          let isnt = none_row (is_type b.types c || leads b.types row.1 (p ++ rest)) row.0
          (sym (row_form b.types c (p ++ rest) row f) ∙ (ap (form_at b.types) there_is ∙ none)) in
          as_form c p e row f led_on isnt (are_front proper p rest (subst AreSpelt (sym there_is) spelt_ts).1)
        where
          some_row : (k : Bool) (one two : Form) → (◌≡◌ {A = Option Form} (if k then Some one else None) (Some two)) → k ≡ true
          some_row true one two e = refl
          some_row false one two e = absurd cc

          none_row : (k : Bool) (one : Form) → (◌≡◌ {A = Option Form} (if k then Some one else None) None) → k ≡ false
          none_row false one e = refl
          none_row true one e = absurd cc

      by_before : (before : List Token) → front.before ≡ before → (which : Form) → form_at b.types (w more) ≡ Some which
          → (js : List Token) × (AreSpelt more → AreSpelt js) × Text over (d (w js))
      by_before [] e which is = alone e
      by_before (c ∷ p) e which is = by_row c p e (form_row c) refl which is

      by : (o : Option Form) → form_at b.types (w more) ≡ o → (js : List Token) × (AreSpelt more → AreSpelt js) × Text over (d (w js))
      by None n = as_effect n
      by (Some which) is = by_before front.before refl which is

  -- the same of a token that may stand where a name would be too deep, after more tokens than a form has
  effect_name : (d : List Token → List Token) (us : List Token) → AreSpelt us
      → ((over : ℕ) (s : StmtTree) (ws : List Token) → Statement b.types s ws us → depth s ≤ 0 + over → tallest_but x.text s ≤ max_nesting + over
      → Text over (d ws))
      → (ts : List Token) → form_at b.types ts ≡ None → (w : List Token → List Token) (f : IsFront w) (rest : List Token) (over : ℕ) (t : Token)
      (more : List Token) → suc far ≤ length f.before
      → w rest ≡ ts → (a : ExprTree) → Whole b.types a (w (t ∷ more)) (stop ∷ us) → height_but x.text a ≤ max_nesting + over
      → (js : List Token) × (AreSpelt more → AreSpelt js) × Text over (d (w (t ∷ js)))
  effect_name d us su fin ts none w f rest over t more long here a q low =
      let still : form_at b.types (w (t ∷ more)) ≡ None = form_front b.types f (t ∷ more) rest long ∙ (ap (form_at b.types) here ∙ none) in
      (more, (λ a. a), fin over (tree_stmt.Effect (r.line_of a) a) (w (t ∷ more)) (g.effect still q refl) (omega arith) low)

  pub an_expr_begins : (d : List Token → List Token) (us : List Token) → AreSpelt us
      → ((over : ℕ) (a : ExprTree) (ws : List Token) → Whole b.types a ws us → height_but x.text a ≤ max_nesting + over → Text over (d ws))
      → (ts : List Token) → Viable proper x (suc far) Text b d (λ k. an_expr) ts
  unfolding an_expr
  an_expr_begins d us su fin ts = finished _ (fewer (omega arith) (expr_begins Text b x vx (sx, tt) max_nesting level.Whole d us su fin ts))

module _ (Text : ℕ → List Token → Type 0) (b : Input) (x : Token) (vx : IsVariable b.types x) (sx : IsSpelt x) (nx : form_row x ≡ None) where
  pub effect_begins : (d : List Token → List Token) (us : List Token) → AreSpelt us → NoElse us
      → ((over : ℕ) (s : StmtTree) (ws : List Token) → Statement b.types s ws us → depth s ≤ 0 + over → tallest_but x.text s ≤ max_nesting + over → Text over
      (d ws))
      → (ts : List Token) → form_at b.types ts ≡ None → Viable proper x (suc far) Text b d (λ k. effect) ts
  unfolding effect
  effect_begins d us su ne fin ts none = with_good (λ good.
      by_here (λ k line. an_expr >>= λ a. expect (codes ";") >>= λ u. pure (tree_stmt.Effect line a)) (step (an_expr_local b ts) (an_expr_yields b ts)
      (retold (an_expr_begins (λ over ws. (a : ExprTree) × Whole b.types a ws (sign x (codes ";") ∷ us) × (height_but x.text a ≤ max_nesting + over)) b x vx
      sx (λ js. js) (sign x (codes ";") ∷ us) (sign_spelt x (codes ";") refl, su)
      (λ over a ws q low. (a, q, low)) ts)
      (λ w front rest more here over y. effect_text Text b x vx sx nx over d us su ne fin ts none good.1 w front rest more here y.0 y.1 y.2)
      (λ w front rest over t more long here y. effect_name Text b x vx sx d us su fin ts none w front rest over t more long here y.0 y.1 y.2))
      (λ a ks q. let h = whole_frame q.0 in
      let z = effect_text Text b x vx sx nx 0 d us su ne fin ts none good.1 h.w h.front ks (sign x (codes ";") ∷ us) h.here a
      (h.moves (sign x (codes ";") ∷ us))
      (omega (arith, but_low x.text a, q.1)) in
      onward h (by_expect (codes ";") ks _ z.0 z.2 (λ u ls e is. read refl)))))
