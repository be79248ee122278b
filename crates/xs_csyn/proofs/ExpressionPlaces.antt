-- Where tokens are not read as an expression, the fault is at one token: those before it begin an expression, and none that is read goes on with it.
use Rattle.std.proofs.Common.{◌≡◌, inr, ℕ, suc, ◌+◌, ◌-◌, ◌<◌, Bool, true, false, if◌then◌else◌, List, [], ◌∷◌, ◌++◌, append_assoc, length, Result, Ok, Err, refl, ap, subst, sym, ◌∙◌, arith}
use Rattle.std.proofs.lemmas.Bool.{both_ways}
use Rattle.xs_base.specs.Reading as reading
use Rattle.xs_base.specs.Reading.{fault_in}
use Rattle.xs_base.specs.Readers.{and_then, tail}
use Rattle.xs_base.specs.declared.fault.Fault.{Fault}
use Rattle.xs_base.specs.declared.fault_codes.TheConstants.{NO_READING_HERE}
use Rattle.xs_base.specs.declared.source.FileOf.{FileOf}
use Rattle.xs_ctok.specs.declared.token.Token.{Token}
use Rattle.xs_csyn.proofs.AnyDepth.{IsRead, bounded, carry, is_read, refused, whole_is_read}
use Rattle.xs_csyn.proofs.Breaks.{Breaks, Cause, MayCome, Viable, alike, as_local, breaks_here, fault_there, onward, operand, other, read, same_fault, sign, step_below}
use Rattle.xs_csyn.proofs.ExpressionsBegin.{expr_begins}
use Rattle.xs_csyn.proofs.ExpressionsComplete.{found_of}
use Rattle.xs_csyn.proofs.ExpressionsLocal.{expr_local}
use Rattle.xs_csyn.proofs.ExpressionsSound.{expr_yields}
use Rattle.xs_csyn.proofs.FilesComplete.{kept_shrinks, other_code}
use Rattle.xs_csyn.proofs.Frames.{whole_frame}
use Rattle.xs_csyn.proofs.HoleHeights.{stood_low}
use Rattle.xs_csyn.proofs.Marks.{variable_name}
use Rattle.xs_csyn.proofs.Local.{Are, Good, Meant, any, next_stays, turned, are_after, are_front, are_join, are_more}
use Rattle.xs_csyn.proofs.Starts.{the_end}
use Rattle.xs_csyn.proofs.Yields.{at}
use Rattle.xs_cexpr.specs.ExpressionReader.{Found, expr}
use Rattle.xs_csyn.specs.FaultPlaces.{ExprFaultLaw, IsExpr, IsExprBut, IsExprWithin, RefusedOn, SameNext, StandsAt, TooDeepThere, code_of, name_too_deep, token_too_deep}
use Rattle.xs_csyn.specs.FileReader.{expr_of, start, whole_of}
use Rattle.xs_csyn.specs.Grammar.{IsVariable}
use Rattle.xs_cstmt.specs.StatementReader.{max_nesting}
use Rattle.xs_cexpr.specs.ExpressionTree.{ExprTree}
use Rattle.xs_cinput.specs.TokenInput.{Input, Outcome, Reader, at_end, fault, is_name, kept, line, line_at, refuse}
use Rattle.xs_cexpr.specs.declared.node.Level.TheVariants as level

-- ---- the place of a fault, where a reader reads all there is

fault_or_not : {A : Type 0} (deep : Bool) (r : Outcome A) (p : A × Input) (file : FileOf) (at_line : ℕ) → IsRead (deep ≡ false) r p
    → r ≡ Err (fault_in file at_line (code_of deep) []) → ⊥
fault_or_not {A} deep r p file at_line (is_read e) h =
    let wrong : ◌≡◌ {A = Outcome A} (Ok p) (Err (fault_in file at_line (code_of deep) [])) = sym e ∙ h in absurd cc
fault_or_not deep r p file at_line (refused unread x) h = other_code r (fault_in file at_line (code_of deep) []) h (ap code_of unread) x

-- The run of the reader where the name stands in the place of what is refused. The texts are completed with any other name.
pub record NamedRun {A : Type 0} (s : Meant) (n : ℕ) (Texts : Token → ℕ → List Token → Type 0) (b : Input) (r : ℕ → Reader A) (ts : List Token) (f : Fault)
    : Type 0 where
  pub filler : Token
  pub run : Breaks s filler n (Texts filler) b (λ js. js) r ts
  pub good : Good s b.turns ts
  pub fails : r b.turns (at b ts) ≡ Err f

-- Where the tokens in front of a fault end, beside others with a name after them: before that name, at it, or after it.
data Meets (x : Token) (p r q : List Token) : Type 0 where
  ends_sooner : (t : Token) (us : List Token) → q ≡ p ++ t ∷ us → r ≡ t ∷ (us ++ x ∷ []) → Meets x p r q
  ends_there : p ≡ q → r ≡ x ∷ [] → Meets x p r q
  ends_later : r ≡ [] → Meets x p r q

abbrev first_or : Token → List Token → Token
first_or v [] = v
first_or v (w ∷ ws) = w

none_left : (p r : List Token) → p ++ r ≡ [] → r ≡ []
none_left [] r e = e
none_left (t ∷ p) r e = absurd cc

meets : (x : Token) (p r q : List Token) → p ++ r ≡ q ++ x ∷ [] → Meets x p r q
meets x [] r [] e = ends_there refl e
meets x [] r (t ∷ q) e = ends_sooner t q refl e
meets x (u ∷ p) r [] e = ends_later (none_left p r (ap tail e))
meets x (u ∷ p) r (t ∷ q) e = by (meets x p r q (ap tail e))
  where
    same : u ≡ t
    same = ap (first_or u) e

    by : Meets x p r q → Meets x (u ∷ p) r (t ∷ q)
    by (ends_sooner v us e' is) = ends_sooner v us (rw (e', same) refl) is
    by (ends_there e' is) = ends_there (rw (e', same) refl) is
    by (ends_later is) = ends_later is

-- a code is that of one kind of fault
too_deep_code : (deep : Bool) → code_of deep ≡ code_of true → deep ≡ true
too_deep_code true e = refl
too_deep_code false e = absurd (omega (arith, e))

pub stands_from : {s : Meant} {A T : Type 0} {x : Token} {n : ℕ} {Names : Type 0} {Within : Type 0 → List Token → Type 0} {Begun Any : List Token → Type 0}
    {Texts : Token → ℕ → List Token → Type 0} {given : List Token → Result T Fault} {whole : Bool} {b : Input} {r : ℕ → Reader A} {ts : List Token} {f : Fault}
    (Asked : List Token → Type 0) → ((us : List Token) → SameNext ts us → Asked us) → ((p us : List Token) (t : Token) → Asked (p ++ t ∷ us))
    → Are s (x ∷ []) → is_name x ≡ true → ((us : List Token) → Texts x 0 us → Begun us) → ((y : Token) (over : ℕ) (us : List Token) → Texts y over us → Any us)
    → ((more : List Token) (h : Fault) → Asked (kept whole more) → r (suc (length more)) (turned b (suc (length more)) (kept whole more)) ≡ Err h
    → given more ≡ Err h)
    → ((Deep : Type 0) (us : List Token) (k : ℕ) → Asked us → length us < k → Within Deep us → (p : A × Input) × IsRead Deep (r k (turned b k us)) p)
    → ((Deep : Type 0) (us : List Token) → Names → Deep → Any us → Within Deep us)
    → ((more : List Token) (h : Fault) → Asked (kept whole more) → Are s (kept whole more) → given more ≡ Err h
    → NamedRun s n Texts (turned b (suc (length more)) (kept whole more)) r (kept whole more) h)
    → (y : Breaks s x n (Texts x) b (λ js. js) r ts) → Good s b.turns ts → r b.turns (at b ts) ≡ Err f
    → StandsAt given whole Names (Are s) Within Begun Any x b.file b.last ts f
unfolding fault line
stands_from {s} {A} {T} {x} {n} {Names} {Within} {Begun} {Any} {Texts} {given} {whole} {b} {r} {ts} {f} Asked asked_next asked_token ax name begun anyhow
    there done
    within runs y good e = record {
      before = y.front.before;
      rest = y.rest;
      deep = y.deep;
      is = is;
      fault = fault_there y good e;
      same = λ more us n k spelt.
          let turns : ℕ = suc (length more) in
          let few : length (y.front.before ++ us) < turns =
          subst (λ (l : List Token). length l < turns) k (omega (arith, kept_shrinks whole false more)) in
          there more (fault_in b.file (line_at b.last us) (code_of y.deep) []) (subst Asked (sym k) (asked_of us n))
          (ap (λ l. r turns (turned b turns l)) k ∙ fails us turns n (few, spelt));
      no_text = λ us n spelt within. no_such us n spelt within;
      more = y.more;
      text = begun (y.front.before ++ y.more) (subst (λ (l : List Token). Texts x 0 l) (y.front.is y.more) y.text);
      cause = λ deep. caused (y.cause deep) deep;
      named = λ names more k early e'. by_run names more k early e';
    }
  where
    is : ts ≡ y.front.before ++ y.rest
    is = sym y.here ∙ y.front.is y.rest

    asked_of : (us : List Token) → SameNext y.rest us → Asked (y.front.before ++ us)
    asked_of us n = asked_next (y.front.before ++ us)
        (subst (λ (l : List Token). SameNext l (y.front.before ++ us)) (sym is) (next_stays y.front.before y.rest us n))

    fails : (us : List Token) (k : ℕ) → SameNext y.rest us → Good s k (y.front.before ++ us)
        → r k (turned b k (y.front.before ++ us)) ≡ Err (fault_in b.file (line_at b.last us) (code_of y.deep) [])
    fails us k n g = (as_local y).same us k n g

    no_such : (us : List Token) → SameNext y.rest us → Are s (y.front.before ++ us) → Within (y.deep ≡ false) (y.front.before ++ us) → ⊥
    no_such us n spelt text =
        let turns : ℕ = suc (length (y.front.before ++ us)) in
        let few : length (y.front.before ++ us) < turns = omega arith in
        let m = done (y.deep ≡ false) (y.front.before ++ us) turns (asked_of us n) few text in
        fault_or_not y.deep (r turns (turned b turns (y.front.before ++ us))) m.0 b.file (line_at b.last us) m.1 (fails us turns n (few, spelt))

    -- The name is refused as too deep, whatever follows, where any operand is.
    name_fails : y.opens ≡ true → y.deep ≡ true → (us : List Token) (k : ℕ) → Good s k (y.front.before ++ x ∷ us)
        → r k (turned b k (y.front.before ++ x ∷ us)) ≡ Err (fault_in b.file x.span.line (code_of true) [])
    name_fails opens deep us k g =
        let same : y.w (x ∷ us) ≡ y.front.before ++ x ∷ us = y.front.is (x ∷ us) in
        ap (λ l. r k (turned b k l)) (sym same)
        ∙ (y.same (x ∷ us) k (other opens ((y.staying opens).named us)) (subst (λ (l : List Token). Good s k l) (sym same) g)
        ∙ ap (λ c. let q : Outcome A = Err (fault_in b.file x.span.line (code_of c) []) in q) deep)

    name_refused : y.opens ≡ true → y.deep ≡ true → (us : List Token) → Are s (y.front.before ++ x ∷ us)
        → RefusedOn given whole b.file x.span.line (y.front.before ++ x ∷ us)
    name_refused opens deep us are more k =
        let turns : ℕ = suc (length more) in
        let few : length (y.front.before ++ x ∷ us) < turns =
        subst (λ (l : List Token). length l < turns) k (omega (arith, kept_shrinks whole false more)) in
        there more (fault_in b.file x.span.line (code_of true) []) (subst Asked (sym k) (asked_token y.front.before us x))
        (ap (λ l. r turns (turned b turns l)) k ∙ name_fails opens deep us turns (few, are))

    no_name : y.opens ≡ true → y.deep ≡ true → (us : List Token) → Are s (y.front.before ++ x ∷ us) → Within ⊥ (y.front.before ++ x ∷ us) → ⊥
    no_name opens deep us are text =
        let turns : ℕ = suc (length (y.front.before ++ x ∷ us)) in
        let few : length (y.front.before ++ x ∷ us) < turns = omega arith in
        let m = done ⊥ (y.front.before ++ x ∷ us) turns (asked_token y.front.before us x) few text in
        fault_or_not true (r turns (turned b turns (y.front.before ++ x ∷ us))) m.0 b.file x.span.line (is_read (bounded m.1))
        (name_fails opens deep us turns (few, are))

    all_are : Are s (y.front.before ++ y.rest)
    all_are = subst (λ (l : List Token). Are s l) is good.1

    caused : Cause x y.opens y.rest (λ over t. (us : List Token) × Are s us × Texts x over (y.w (t ∷ us))) → y.deep ≡ true
        → TooDeepThere (Are s) (Within ⊥) Begun Any (RefusedOn given whole b.file x.span.line) x y.front.before y.rest
    caused (operand opens z) deep =
        name_too_deep z.0 (are_join s y.front.before (x ∷ z.0) (are_front s y.front.before y.rest all_are) (are_more s x z.0 ax z.1))
        (begun (y.front.before ++ x ∷ z.0) (subst (λ (l : List Token). Texts x 0 l) (y.front.is (x ∷ z.0)) z.2)) (no_name opens deep)
        (name_refused opens deep)
    caused (sign over t us is nameless z) deep =
        token_too_deep t us z.0 is (are_after s y.front.before t us z.0 (subst (λ (l : List Token). Are s (y.front.before ++ l)) is all_are) z.1)
        (anyhow x over (y.front.before ++ t ∷ z.0) (subst (λ (l : List Token). Texts x over l) (y.front.is (t ∷ z.0)) z.2))

    -- Where the name stands there, it is refused on its own line as too deep.
    by_run : Names → (more : List Token) → kept whole more ≡ y.front.before ++ x ∷ [] → (x.span.line ≡ b.last → ⊥)
        → given more ≡ Err (fault_in b.file x.span.line (code_of true) []) → y.deep ≡ true
    by_run names more k early e' =
        let are : Are s (y.front.before ++ x ∷ []) = are_join s y.front.before (x ∷ []) (are_front s y.front.before y.rest all_are) ax in
        run_tells (runs more (fault_in b.file x.span.line (code_of true) []) (subst Asked (sym k) (asked_token y.front.before [] x))
        (subst (λ (l : List Token). Are s l) (sym k) are) e')
      where
        run_tells : NamedRun s n Texts (turned b (suc (length more)) (kept whole more)) r (kept whole more) (fault_in b.file x.span.line (code_of true) [])
            → y.deep ≡ true
        run_tells z = by_place (meets x q.front.before q.rest y.front.before (sym (q.front.is q.rest) ∙ (q.here ∙ k)))
          where
            q : Breaks s z.filler n (Texts z.filler) (turned b (suc (length more)) (kept whole more)) (λ js. js) r (kept whole more)
            q = z.run

            at_place : fault_in b.file x.span.line (code_of true) [] ≡ fault_in b.file (line_at b.last q.rest) (code_of q.deep) []
            at_place = fault_there q z.good z.fails

            deep : q.deep ≡ true
            deep = too_deep_code q.deep (sym (ap (λ (m : Fault). m.code) at_place))

            -- what is refused has that fault too
            so_deep : (us : List Token) → q.w us ≡ ts → MayCome q.opens q.stays q.rest us → y.deep ≡ true
            so_deep us w may =
                let g : Good s b.turns (q.w us) = subst (λ (l : List Token). Good s b.turns l) (sym w) good in
                let both : ◌≡◌ {A = Outcome A} (Err f) (Err (fault_in b.file (line_at b.last us) (code_of q.deep) [])) =
                sym e ∙ (ap (λ l. r b.turns (turned b b.turns l)) (sym w) ∙ q.same us b.turns may g) in
                let same : fault_in b.file (line_at b.last us) (code_of q.deep) [] ≡ f =
                same_fault {A = A} f (fault_in b.file (line_at b.last us) (code_of q.deep) []) both in
                too_deep_code y.deep (sym (ap (λ (m : Fault). m.code) (same ∙ fault_there y good e)) ∙ ap code_of deep)

            -- a text goes on with the token that stands there
            goes_on : (t : Token) (js us : List Token) (over : ℕ) → y.rest ≡ t ∷ js → q.front.before ≡ y.front.before → Are s us
                → Texts z.filler over (q.w (t ∷ us)) → (c : Bool) → y.deep ≡ c → y.deep ≡ true
            goes_on t js us over r' p are text true c = c
            goes_on t js us over r' p are text false c =
                let same : q.w (t ∷ us) ≡ y.front.before ++ t ∷ us = q.front.is (t ∷ us) ∙ ap (λ l. l ++ t ∷ us) p in
                let any : Any (y.front.before ++ t ∷ us) =
                anyhow z.filler over (y.front.before ++ t ∷ us) (subst (λ (l : List Token). Texts z.filler over l) same text) in
                absurd (no_such (t ∷ us) (subst (λ (l : List Token). SameNext l (t ∷ us)) (sym r') refl)
                (are_after s y.front.before t js us (subst (λ (l : List Token). Are s (y.front.before ++ l)) r' all_are) are)
                (within (y.deep ≡ false) (y.front.before ++ t ∷ us) names c any))

            by_rest : q.opens ≡ true → q.front.before ≡ y.front.before → (rest : List Token) → y.rest ≡ rest → y.deep ≡ true
            by_rest o p [] r' = so_deep [] (q.front.is [] ∙ (ap (λ l. l ++ []) p ∙ (ap (λ l. y.front.before ++ l) (sym r') ∙ sym is)))
                (other o (q.staying o).ended)
            by_rest o p (t ∷ js) r' = by (q.stays (t ∷ js)) refl
              where
                by : (c : Bool) → q.stays (t ∷ js) ≡ c → y.deep ≡ true
                by true c = so_deep (t ∷ js) (q.front.is (t ∷ js) ∙ (ap (λ l. l ++ t ∷ js) p ∙ (ap (λ l. y.front.before ++ l) (sym r') ∙ sym is))) (other o c)
                by false c = let m = (q.staying o).gone t js c in goes_on t js m.1.0 m.0 r' p m.1.1 m.1.2 y.deep refl

            by_cause : q.front.before ≡ y.front.before → q.rest ≡ x ∷ []
                → Cause z.filler q.opens q.rest (λ over t. (us : List Token) × Are s us × Texts z.filler over (q.w (t ∷ us))) → y.deep ≡ true
            by_cause p r' (operand o m) = by_rest o p y.rest refl
            by_cause p r' (sign over t us is' nameless m) =
                let same : t ≡ x = ap (first_or x) (sym is' ∙ r') in
                absurd (both_ways (is_name t) nameless (ap is_name same ∙ name))

            by_place : Meets x q.front.before q.rest y.front.before → y.deep ≡ true
            by_place (ends_sooner t us p r') =
                so_deep (t ∷ (us ++ y.rest))
                (q.front.is (t ∷ (us ++ y.rest)) ∙ (sym (append_assoc q.front.before (t ∷ us) y.rest) ∙ (ap (λ l. l ++ y.rest) (sym p) ∙ sym is)))
                (alike (subst (λ (l : List Token). SameNext l (t ∷ (us ++ y.rest))) (sym r') refl))
            by_place (ends_there p r') = by_cause p r' (q.cause deep)
            by_place (ends_later r') = absurd (early (ap (λ (m : Fault). m.line) at_place ∙ ap (line_at b.last) r'))

-- ---- expressions

-- nothing may be left
abbrev pub ended : {A : Type 0} → A → Reader A
ended a = λ i. if at_end i then Ok (a, i) else refuse i

-- all that is left as an expression
abbrev whole_expr : ℕ → Reader Found
whole_expr room = λ i. and_then (expr room level.Whole i) ended

abbrev expr_result : Outcome Found → Result ExprTree Fault
expr_result r = reading.◌>>=◌ (whole_of r) (λ found. Ok found.tree)

err_result : (f h : Fault) → ◌≡◌ {A = Result ExprTree Fault} (Err f) (Err h) → h ≡ f
err_result f h e = cc

-- the two ways of saying that nothing is left
given_fault : (r : Outcome Found) (f : Fault) → and_then r ended ≡ Err f → expr_result r ≡ Err f
given_fault (Err h) f e = ap (λ (m : Fault). let q : Result ExprTree Fault = Err m in q) (sym (same_fault {A = Found} h f e))
given_fault (Ok p) f e = by (at_end p.1) e
  where
    by : (c : Bool) → (if c then Ok (p.0, p.1) else refuse p.1) ≡ Err f
        → ◌≡◌ {A = Result ExprTree Fault} (reading.◌>>=◌ (if c then Ok p.0 else Err (fault NO_READING_HERE p.1)) (λ (found : Found). Ok found.tree)) (Err f)
    by true e = absurd cc
    by false e = ap (λ (m : Fault). let q : Result ExprTree Fault = Err m in q) (sym (same_fault {A = Found} (fault NO_READING_HERE p.1) f e))

read_fault : (r : Outcome Found) (f : Fault) → expr_result r ≡ Err f → and_then r ended ≡ Err f
read_fault (Err h) f e = ap (λ (m : Fault). let q : Outcome Found = Err m in q) (sym (err_result h f e))
read_fault (Ok p) f e = by (at_end p.1) e
  where
    by : (c : Bool)
        → ◌≡◌ {A = Result ExprTree Fault} (reading.◌>>=◌ (if c then Ok p.0 else Err (fault NO_READING_HERE p.1)) (λ (found : Found). Ok found.tree)) (Err f)
        → ◌≡◌ {A = Outcome Found} (if c then Ok (p.0, p.1) else refuse p.1) (Err f)
    by true e = absurd cc
    by false e = ap (λ (m : Fault). let q : Outcome Found = Err m in q) (sym (err_result (fault NO_READING_HERE p.1) f e))

module _ (b : Input) where
  -- something is left after what was read
  pub ends : {A : Type 0} {x : Token} {n : ℕ} {Text : ℕ → List Token → Type 0} {d : List Token → List Token} (a : A) (ts : List Token) → Text 0 (d [])
      → Viable any x n Text b d (λ k. ended a) ts
  unfolding at_end
  ends a [] text = read refl
  ends a (u ∷ us) text = breaks_here [] text (λ js k n. left js k n)
    where
      left : (js : List Token) (k : ℕ) → SameNext (u ∷ us) js → ended a (turned b k js) ≡ Err (fault (code_of false) (turned b k js))
      left [] k n = absurd n
      left (v ∷ js) k n = refl

  whole_viable : (x : Token) → IsVariable b.types x → (room : ℕ) (ts : List Token)
      → Viable any x room (λ over. IsExprBut x.text b.types (room + over)) b (λ js. js) (λ k. whole_expr room) ts
  whole_viable x v room ts =
      step_below (expr_local b room level.Whole ts) (expr_yields b room level.Whole ts)
      (expr_begins (λ over. IsExprBut x.text b.types (room + over)) b x v tt room level.Whole (λ js. js) [] tt (λ over a ws q h. (a, q, h)) ts)
      (λ found us y. let h = whole_frame y.stands in onward h (ends found us (found.tree, h.moves [], omega (arith, stood_low x.text y))))

  whole_done : (room : ℕ) (Any : Type 0) (us : List Token) (k : ℕ) → length us < k → IsExprWithin b.types room Any us
      → (p : Found × Input) × IsRead Any (whole_expr room (turned b k us)) p
  unfolding at_end
  whole_done room Any us k few w = (
    (found_of w.0, turned b k []),
    carry (whole_is_read Any (turned b k us) w.1 w.2 room w.3 few the_end) (λ e r. rw r refl) (λ r. is_read (rw r refl)),
  )

pub expr_fault_law : ExprFaultLaw
unfolding expr_of
expr_fault_law file last types around ts f x v h =
    let b : Input = start false ts types file last in
    let good : Good any b.turns (kept false ts) = (omega (arith, kept_shrinks false false ts), tt) in
    let e : whole_expr room (at b (kept false ts)) ≡ Err f = read_fault (expr room level.Whole b) f h in
    stands_from {Any = IsExpr types} {Texts = λ y over. IsExprBut y.text types (room + over)} {r = λ k. whole_expr room} (λ us. Unit {0}) (λ us n. tt)
    (λ p us t. tt) tt (variable_name types x v) (λ us t. (t.0, t.1, omega (arith, t.2))) (λ y over us t. (t.0, t.1))
    (λ more m some. given_fault (expr room level.Whole (start false more types file last)) m) (λ Deep us k some. whole_done b room Deep us k)
    (λ Deep us names d t. (t.0, names, t.1, inr d)) (λ more m some are e'. run more m e')
    ((whole_viable b x v room (kept false ts)).breaks good f e) good e
  where
    room : ℕ
    room = max_nesting - around

    run : (more : List Token) (m : Fault) → expr_of file last types around more ≡ Err m
        → NamedRun any room (λ y over. IsExprBut y.text types (room + over)) (start false more types file last) (λ k. whole_expr room) (kept false more) m
    run more m e' =
        let b : Input = start false more types file last in
        let good : Good any b.turns (kept false more) = (omega (arith, kept_shrinks false false more), tt) in
        let e : whole_expr room (at b (kept false more)) ≡ Err m = read_fault (expr room level.Whole b) m e' in
        record { filler = x; run = (whole_viable b x v room (kept false more)).breaks good m e; good = good; fails = e }
