-- Where reading breaks off, nothing after the next token is looked at, what stands in front can be completed, and a fault of nesting has its cause:
-- all at one place.
use Rattle.std.proofs.Common.{◌≡◌, ◌⊎◌, inl, inr, ℕ, suc, ◌+◌, ◌<◌, ◌≤◌, Bool, true, false, if◌then◌else◌, List, [], ◌∷◌, ◌++◌, length, length-append, Option, Some, None, Result, Ok, Err, refl, ap, subst, sym, ◌∙◌, arith}
use Rattle.std.specs.Option.{option_map_or}
use Rattle.xs_base.proofs.ReaderSteps.{same_outcome}
use Rattle.xs_base.specs.Readers.{and_then, head_is}
use Rattle.xs_base.specs.Reading.{fault_in}
use Rattle.xs_base.specs.declared.fault.Fault.{Fault}
use Rattle.xs_ctok.specs.declared.token.Token.{Token}
use Rattle.xs_cinput.specs.TokenInput.{Input, Outcome, Reader, fault, is_name, line, line_at}
use Rattle.xs_csyn.proofs.Frames.{Frame, IsFront, front_both, front_none, front_one}
use Rattle.xs_csyn.proofs.Local.{Good, Local, Meant, NextTells, comes_to, good_after, next_stays, same_first, same_next, turned, Are}
use Rattle.xs_csyn.proofs.Yields.{Yields, at}
use Rattle.xs_csyn.specs.FaultPlaces.{SameNext, code_of}

-- ---- lists with the same end

same_length : (xs ys zs : List Token) → xs ++ zs ≡ ys ++ zs → length xs ≡ length ys
same_length xs ys zs e =
    let long : length (xs ++ zs) ≡ length (ys ++ zs) = ap (λ (l : List Token). length l) e in
    omega (arith, long, length-append xs zs, length-append ys zs)

pub append_cancel : (xs ys zs : List Token) → xs ++ zs ≡ ys ++ zs → xs ≡ ys
append_cancel xs ys zs e = by xs ys (same_length xs ys zs e) e
  where
    first_or : Token → List Token → Token
    first_or t [] = t
    first_or t (u ∷ us) = u

    others : List Token → List Token
    others [] = []
    others (u ∷ us) = us

    by : (xs ys : List Token) → length xs ≡ length ys → xs ++ zs ≡ ys ++ zs → xs ≡ ys
    by [] [] n e = refl
    by [] (y ∷ ys) n e = absurd (omega (arith, n))
    by (x ∷ xs) [] n e = absurd (omega (arith, n))
    by (x ∷ xs) (y ∷ ys) n e =
        let first : x ≡ y = ap (first_or x) e in
        let more : xs ≡ ys = by xs ys (omega (arith, n)) (ap others e) in
        rw (first, more) refl

pub next_in : {w : List Token → List Token} {ts rest : List Token} → IsFront w → w rest ≡ ts → (us : List Token) → SameNext rest us → SameNext ts (w us)
next_in {w} {ts} {rest} f at_rest us n =
    subst (λ (l : List Token). SameNext l (w us)) (sym (f.is rest) ∙ at_rest)
    (subst (λ (l : List Token). SameNext (f.before ++ rest) l) (sym (f.is us)) (next_stays f.before rest us n))

good_in : (s : Meant) {w : List Token → List Token} → IsFront w → (us : List Token) (k : ℕ) → Good s k (w us) → Good s k us
good_in s {w} f us k g = good_after s f.before us k (subst (λ (l : List Token). Good s k l) (f.is us) g)

-- where some tokens stand in front, the first is the same whatever comes
pub next_long : {w : List Token → List Token} {ts rest : List Token} (f : IsFront w) → 1 ≤ length f.before → w rest ≡ ts → (us : List Token)
    → SameNext ts (w us)
next_long {w} {ts} {rest} f long here us = by f.before refl
  where
    by : (before : List Token) → f.before ≡ before → SameNext ts (w us)
    by [] e = let short : length f.before ≡ 0 = ap (λ (l : List Token). length l) e in absurd (omega (arith, long, short))
    by (t ∷ p) e =
        let first : ts ≡ t ∷ (p ++ rest) = sym here ∙ (f.is rest ∙ ap (λ l. l ++ rest) e) in
        let other : w us ≡ t ∷ (p ++ us) = f.is us ∙ ap (λ l. l ++ us) e in
        subst (λ (l : List Token). SameNext l (w us)) (sym first) (subst (λ (l : List Token). SameNext (t ∷ (p ++ rest)) l) (sym other) refl)

-- ---- what may come next, so that the fault is at the same place

-- The same token, and where any operand is too deep whatever the fault stays at.
pub data MayCome (opens : Bool) (stays : List Token → Bool) (rest us : List Token) : Type 0 where
  alike : SameNext rest us → MayCome opens stays rest us
  other : opens ≡ true → stays us ≡ true → MayCome opens stays rest us

-- Where any operand is too deep, the fault stays at this name, at the end, and at each other token but those that a text goes on with.
pub record Staying (x : Token) (stays : List Token → Bool) (Goes : ℕ → Token → Type 0) : Type 0 where
  pub named : (js : List Token) → stays (x ∷ js) ≡ true
  pub ended : stays [] ≡ true
  pub gone : (t : Token) (js : List Token) → stays (t ∷ js) ≡ false → (over : ℕ) × Goes over t

pub next_may : {w : List Token → List Token} {ts rest : List Token} {n : ℕ} {opens : Bool} {stays : List Token → Bool} (f : IsFront w)
    → (opens ≡ true → suc n ≤ length f.before) → w rest ≡ ts → (us : List Token) → MayCome opens stays rest us → SameNext ts (w us)
next_may f long here us (alike e) = next_in f here us e
next_may f long here us (other o e) = next_long f (omega (arith, long o)) here us

-- the first token is the same whatever comes, or no token stands in front
pub fronted : {w : List Token → List Token} {ts rest : List Token} (f : IsFront w) → w rest ≡ ts
    → ((us : List Token) → SameNext ts (w us)) ⊎ ((us : List Token) → w us ≡ us)
fronted {w} {ts} {rest} f here = by f.before refl
  where
    by : (before : List Token) → f.before ≡ before → ((us : List Token) → SameNext ts (w us)) ⊎ ((us : List Token) → w us ≡ us)
    by [] none = inr (λ us. f.is us ∙ ap (λ l. l ++ us) none)
    by (t ∷ p) some = let long : length f.before ≡ suc (length p) = ap (λ (l : List Token). length l) some in
        inl (λ us. next_long f (omega (arith, long)) here us)

-- ---- a run that succeeds has come to the place that the record has

pub record Came {s : Meant} {A : Type 0} {b : Input} {p : ℕ → Reader A} {ts : List Token} (x : Local s b p ts) (a : A) (us : List Token) : Type 0 where
  pub answer : x.answer ≡ Ok a
  pub rest : x.rest ≡ us

pub local_run : {s : Meant} {A : Type 0} {b : Input} {p : ℕ → Reader A} {ts us : List Token} {a : A} (x : Local s b p ts) → Good s b.turns ts
    → p b.turns (at b ts) ≡ Ok (a, at b us) → Came x a us
local_run {s} {A} {b} {p} {ts} {us} {a} x good e = by x.answer refl
  where
    run : p b.turns (turned b b.turns (x.front ++ x.rest)) ≡ comes_to x.answer (turned b b.turns x.rest)
    run = x.same x.rest b.turns (same_next x.rest) (subst (λ (l : List Token). Good s b.turns l) x.is good)

    both : ◌≡◌ {A = Outcome A} (Ok (a, at b us)) (comes_to x.answer (turned b b.turns x.rest))
    both = sym e ∙ (ap (λ l. p b.turns (turned b b.turns l)) x.is ∙ run)

    by : (o : Result A Bool) → x.answer ≡ o → Came x a us
    by (Ok c) is =
        let s = same_outcome {E = Fault} a c (at b us) (at b x.rest) (both ∙ ap (λ o. comes_to o (turned b b.turns x.rest)) is) in
        record { answer = is ∙ ap (λ (z : A). let r : Result A Bool = Ok z in r) (sym s.0); rest = sym (ap (λ (i : Input). i.rest) s.1) }
    by (Err deep) is =
        let wrong : ◌≡◌ {A = Outcome A} (Ok (a, at b us)) (Err (fault (code_of deep) (at b x.rest))) =
        both ∙ ap (λ o. comes_to o (turned b b.turns x.rest)) is in
        absurd cc

-- ---- the place of a fault

-- Why a node would stand too deep: whatever operand comes, or with the token that comes, which is no name. `Text over` are the texts that stand so
-- many levels over the bounds.
pub data Cause (x : Token) (opens : Bool) (rest : List Token) (Goes : ℕ → Token → Type 0) : Type 0 where
  operand : opens ≡ true → Goes 0 x → Cause x opens rest Goes
  sign : (over : ℕ) (t : Token) (us : List Token) → rest ≡ t ∷ us → is_name t ≡ false → Goes over t → Cause x opens rest Goes

-- The reader has its fault at the rest of these tokens, whatever comes after the next one, and with those in front a text is made that is wanted.
-- Where any operand would be too deep, at least `n` tokens stand in front of it.
pub record Breaks {A : Type 0} (s : Meant) (x : Token) (n : ℕ) (Text : ℕ → List Token → Type 0) (b : Input) (d : List Token → List Token) (r : ℕ → Reader A)
    (ts : List Token) : Type 0 where
  pub rest : List Token
  pub w : List Token → List Token
  pub front : IsFront w
  pub here : w rest ≡ ts
  pub deep : Bool
  pub opens : Bool
  pub stays : List Token → Bool
  pub long : opens ≡ true → n ≤ length front.before
  pub same : (us : List Token) (k : ℕ) → MayCome opens stays rest us → Good s k (w us)
      → r k (turned b k (w us)) ≡ Err (fault (code_of deep) (turned b k us))
  pub staying : opens ≡ true → Staying x stays (λ over t. (us : List Token) × Are s us × Text over (d (w (t ∷ us))))
  pub more : List Token
  pub text : Text 0 (d (w more))
  pub cause : deep ≡ true → Cause x opens rest (λ over t. (us : List Token) × Are s us × Text over (d (w (t ∷ us))))

pub record Viable {A : Type 0} (s : Meant) (x : Token) (n : ℕ) (Text : ℕ → List Token → Type 0) (b : Input) (d : List Token → List Token) (r : ℕ → Reader A)
    (ts : List Token) : Type 0 where
  pub breaks : Good s b.turns ts → (f : Fault) → r b.turns (at b ts) ≡ Err f → Breaks s x n Text b d r ts

-- what is left after some tokens, and what is made of it
pub record Onward {A : Type 0} (s : Meant) (x : Token) (n : ℕ) (Text : ℕ → List Token → Type 0) (b : Input) (d : List Token → List Token) (r : ℕ → Reader A)
    (ts us : List Token) : Type 0 where
  pub w : List Token → List Token
  pub front : IsFront w
  pub here : w us ≡ ts
  pub then_viable : Viable s x n Text b (λ js. d (w js)) r us

-- a place of a fault is one of a reading
abbrev pub as_local : {s : Meant} {A : Type 0} {x : Token} {n : ℕ} {Text : ℕ → List Token → Type 0} {b : Input} {d : List Token → List Token} {r : ℕ → Reader A}
    {ts : List Token} → Breaks s x n Text b d r ts → Local s b r ts
as_local {s = s} {b = b} {r = r} y = record {
  front = y.front.before;
  rest = y.rest;
  is = sym y.here ∙ y.front.is y.rest;
  answer = Err y.deep;
  same = λ us k n g.
      ap (λ l. r k (turned b k l)) (sym (y.front.is us)) ∙ y.same us k (alike n) (subst (λ (l : List Token). Good s k l) (sym (y.front.is us)) g);
}

pub same_fault : {A : Type 0} (f h : Fault) → ◌≡◌ {A = Outcome A} (Err f) (Err h) → h ≡ f
same_fault f h e = cc

-- the fault, by its place
pub fault_there : {s : Meant} {A : Type 0} {x : Token} {n : ℕ} {Text : ℕ → List Token → Type 0} {b : Input} {d : List Token → List Token} {r : ℕ → Reader A}
    {ts : List Token} {f : Fault} (y : Breaks s x n Text b d r ts) → Good s b.turns ts → r b.turns (at b ts) ≡ Err f
    → f ≡ fault_in b.file (line_at b.last y.rest) (code_of y.deep) []
unfolding fault line
fault_there {s} {A} {b = b} {r = r} {f = f} y good e =
    let there : r b.turns (turned b b.turns (y.w y.rest)) ≡ Err f = ap (λ l. r b.turns (turned b b.turns l)) y.here ∙ e in
    let g : Good s b.turns (y.w y.rest) = subst (λ (l : List Token). Good s b.turns l) (sym y.here) good in
    same_fault {A = A} (fault_in b.file (line_at b.last y.rest) (code_of y.deep) []) f (sym (y.same y.rest b.turns (alike (same_next y.rest)) g) ∙ there)

pub less_of : {u : Token} {ts us : List Token} → ts ≡ u ∷ us → length us < length ts
less_of {us = us} e = let long : length _ ≡ suc (length us) = ap (λ (l : List Token). length l) e in omega (arith, long)

-- the same place, with another text
pub retold : {s : Meant} {A : Type 0} {x : Token} {n : ℕ} {Text Told : ℕ → List Token → Type 0} {b : Input} {d e : List Token → List Token} {r : ℕ → Reader A}
    {ts : List Token} → Viable s x n Told b e r ts
    → ((w : List Token → List Token) → IsFront w → (rest more : List Token) → w rest ≡ ts → (over : ℕ) → Told over (e (w more))
    → (js : List Token) × (Are s more → Are s js) × Text over (d (w js)))
    → ((w : List Token → List Token) (f : IsFront w) (rest : List Token) (over : ℕ) (t : Token) (more : List Token) → n ≤ length f.before → w rest ≡ ts
    → Told over (e (w (t ∷ more)))
    → (js : List Token) × (Are s more → Are s js) × Text over (d (w (t ∷ js))))
    → Viable s x n Text b d r ts
retold {s = s} {x = x} {n = n} {Text = Text} {Told = Told} {d = d} {e = e} {ts = ts} v tell tell_far = record {
  breaks = λ good f h.
      let y = v.breaks good f h in
      let z = tell y.w y.front y.rest y.more y.here 0 y.text in
      record {
        rest = y.rest;
        w = y.w;
        front = y.front;
        here = y.here;
        deep = y.deep;
        opens = y.opens;
        stays = y.stays;
        long = y.long;
        same = y.same;
        staying = λ o. still y.w y.front y.rest y.here (y.long o) (y.staying o);
        more = z.0;
        text = z.2;
        cause = λ deep. caused y.w y.front y.rest y.here y.long (y.cause deep);
      };
}
  where
    still : {stays : List Token → Bool} (w : List Token → List Token) (f : IsFront w) (rest : List Token) → w rest ≡ ts → n ≤ length f.before
        → Staying x stays (λ over t. (us : List Token) × Are s us × Told over (e (w (t ∷ us))))
        → Staying x stays (λ over t. (us : List Token) × Are s us × Text over (d (w (t ∷ us))))
    still w f rest here long z = record {
      named = z.named;
      ended = z.ended;
      gone = λ t js e.
          let g = z.gone t js e in
          let q = tell_far w f rest g.0 t g.1.0 long here g.1.2 in (g.0, (q.0, q.1 g.1.1, q.2));
    }

    caused : {opens : Bool} (w : List Token → List Token) (f : IsFront w) (rest : List Token) → w rest ≡ ts → (opens ≡ true → n ≤ length f.before)
        → Cause x opens rest (λ over t. (us : List Token) × Are s us × Told over (e (w (t ∷ us))))
        → Cause x opens rest (λ over t. (us : List Token) × Are s us × Text over (d (w (t ∷ us))))
    caused w f rest here long (operand o g) =
        let z = tell_far w f rest 0 x g.0 (long o) here g.2 in
        operand o (z.0, z.1 g.1, z.2)
    caused w f rest here long (sign over t us is nameless g) =
        let z = tell (λ js. w (t ∷ js)) (front_both f (front_one t front_none)) us g.0 (ap w (sym is) ∙ here) over g.2 in
        sign over t us is nameless (z.0, z.1 g.1, z.2)

module _ {s : Meant} {x : Token} {Text : ℕ → List Token → Type 0} {b : Input} where
  -- a reader that gives something here
  pub read : {A : Type 0} {n : ℕ} {d : List Token → List Token} {ts : List Token} {r : ℕ → Reader A} {p : A × Input} → r b.turns (at b ts) ≡ Ok p
      → Viable s x n Text b d r ts
  read {A} {p = p} e = record { breaks = λ good f h. absurd (let wrong : ◌≡◌ {A = Outcome A} (Ok p) (Err f) = sym e ∙ h in cc) }

  -- no reading here
  pub breaks_here : {A : Type 0} {n : ℕ} {d : List Token → List Token} {ts : List Token} {r : ℕ → Reader A} (more : List Token) → Text 0 (d more)
      → ((us : List Token) (k : ℕ) → SameNext ts us → r k (turned b k us) ≡ Err (fault (code_of false) (turned b k us))) → Viable s x n Text b d r ts
  breaks_here {A} {n} {d} {ts} {r} more text e = record {
    breaks = λ good f h.
        record {
          rest = ts;
          w = λ js. js;
          front = front_none;
          here = refl;
          deep = false;
          opens = false;
          stays = λ us. false;
          long = λ o. absurd cc;
          same = λ us k n' g. e us k (same_only us n');
          staying = λ o. absurd cc;
          more = more;
          text = text;
          cause = λ is. absurd cc;
        };
  }
    where
      same_only : (us : List Token) → MayCome false (λ js. false) ts us → SameNext ts us
      same_only us (alike n) = n
      same_only us (other o e) = absurd cc

  -- an operand would be too deep here, whatever it is
  pub operand_here : {A : Type 0} {d : List Token → List Token} {ts : List Token} {r : ℕ → Reader A} (more : List Token) → Are s more → Text 0 (d (x ∷ more))
      → ((us : List Token) (k : ℕ) → r k (turned b k us) ≡ Err (fault (code_of true) (turned b k us))) → Viable s x 0 Text b d r ts
  operand_here {ts = ts} more are text e = record {
    breaks = λ good f h.
        record {
          rest = ts;
          w = λ js. js;
          front = front_none;
          here = refl;
          deep = true;
          opens = true;
          stays = λ us. true;
          long = λ o. omega arith;
          same = λ us k n g. e us k;
          staying = λ o. record { named = λ js. refl; ended = refl; gone = λ t js nameless. absurd cc };
          more = x ∷ more;
          text = text;
          cause = λ is. operand refl (more, are, text);
        };
  }

  -- what this token goes on with is too deep
  pub sign_here : {A : Type 0} {n : ℕ} {d : List Token → List Token} (t : Token) {ts : List Token} {r : ℕ → Reader A} → is_name t ≡ false
      → (more : List Token) → Text 0 (d more)
      → (over : ℕ) (us : List Token) → Are s us → Text over (d (t ∷ us))
      → ((us : List Token) (k : ℕ) → SameNext (t ∷ ts) us → r k (turned b k us) ≡ Err (fault (code_of true) (turned b k us)))
      → Viable s x n Text b d r (t ∷ ts)
  sign_here t {ts} nameless more text over us are goes e = record {
    breaks = λ good f h.
        record {
          rest = t ∷ ts;
          w = λ js. js;
          front = front_none;
          here = refl;
          deep = true;
          opens = false;
          stays = λ js. false;
          long = λ o. absurd cc;
          same = λ js k n g. e js k (same_only js n);
          staying = λ o. absurd cc;
          more = more;
          text = text;
          cause = λ is. sign over t ts refl nameless (us, are, goes);
        };
  }
    where
      same_only : (us : List Token) → MayCome false (λ js. false) (t ∷ ts) us → SameNext (t ∷ ts) us
      same_only us (alike n) = n
      same_only us (other o e) = absurd cc

  -- fewer tokens in front are enough
  pub fewer : {A : Type 0} {n m : ℕ} {d : List Token → List Token} {ts : List Token} {r : ℕ → Reader A} → n ≤ m → Viable s x m Text b d r ts
      → Viable s x n Text b d r ts
  fewer le v = record {
    breaks = λ good f h.
        let y = v.breaks good f h in
        record {
          rest = y.rest;
          w = y.w;
          front = y.front;
          here = y.here;
          deep = y.deep;
          opens = y.opens;
          stays = y.stays;
          long = λ o. omega (arith, le, y.long o);
          same = y.same;
          staying = y.staying;
          more = y.more;
          text = y.text;
          cause = y.cause;
        };
  }

  -- the same of a reader that reads so, whatever comes
  pub alike_all : {A : Type 0} {n : ℕ} {d : List Token → List Token} {ts : List Token} {p r : ℕ → Reader A} → Viable s x n Text b d p ts
      → ((us : List Token) (k : ℕ) → Good s k us → r k (turned b k us) ≡ p k (turned b k us)) → Viable s x n Text b d r ts
  alike_all {ts = ts} v e = record {
    breaks = λ good f h.
        let y = v.breaks good f (sym (e ts b.turns good) ∙ h) in
        record {
          rest = y.rest;
          w = y.w;
          front = y.front;
          here = y.here;
          deep = y.deep;
          opens = y.opens;
          stays = y.stays;
          long = y.long;
          same = λ us k n g. e (y.w us) k g ∙ y.same us k n g;
          staying = y.staying;
          more = y.more;
          text = y.text;
          cause = y.cause;
        };
  }

  -- The same of a reader that reads so where a test is not passed, as it is by no name, and a text goes on with what passes it.
  pub narrowed : {A : Type 0} {n : ℕ} {d : List Token → List Token} {ts : List Token} {p r : ℕ → Reader A} (test : Token → Bool) → test x ≡ false
      → head_is test ts ≡ false → ((t : Token) → test t ≡ true → (over : ℕ) × ((us : List Token) × Are s us × Text over (d (t ∷ us))))
      → Viable s x n Text b d p ts
      → ((us : List Token) (k : ℕ) → head_is test us ≡ false → r k (turned b k us) ≡ p k (turned b k us)) → Viable s x n Text b d r ts
  narrowed {A} {n} {d} {ts} {p} {r} test no_name next goes v even = record {
    breaks = λ good f h. kept_here (v.breaks good f (sym (even ts b.turns next) ∙ h));
  }
    where
      both : (c e : Bool) → (if c then false else e) ≡ true → (c ≡ false) × (e ≡ true)
      both false e h = (refl, h)
      both true e h = absurd cc

      from_both : (c e : Bool) → c ≡ false → e ≡ true → (if c then false else e) ≡ true
      from_both false e h h' = h'
      from_both true e h h' = absurd cc

      seen : (us : List Token) → SameNext ts us → head_is test us ≡ false
      seen us n = same_first (head_is test) test (λ t js. refl) ts us n ∙ next

      kept_here : Breaks s x n Text b d p ts → Breaks s x n Text b d r ts
      kept_here y = record {
        rest = y.rest;
        w = y.w;
        front = y.front;
        here = y.here;
        deep = y.deep;
        opens = y.opens;
        stays = λ us. if head_is test (y.w us) then false else y.stays us;
        long = y.long;
        same = λ us k c g. even (y.w us) k (missed us c) ∙ y.same us k (wider us c) g;
        staying = λ o.
            let z = y.staying o in
            record {
              named = λ js. from_both (head_is test (y.w (x ∷ js))) (y.stays (x ∷ js)) (unseen (x ∷ js) no_name) (z.named js);
              ended = from_both (head_is test (y.w [])) (y.stays []) (unseen [] refl) z.ended;
              gone = λ t js e. by_seen z t js (head_is test (y.w (t ∷ js))) refl e;
            };
        more = y.more;
        text = y.text;
        cause = y.cause;
      }
        where
          missed : (us : List Token) → MayCome y.opens (λ js. if head_is test (y.w js) then false else y.stays js) y.rest us → head_is test (y.w us) ≡ false
          missed us (alike n) = seen (y.w us) (next_in y.front y.here us n)
          missed us (other o e) = (both (head_is test (y.w us)) (y.stays us) e).0

          wider : (us : List Token) → MayCome y.opens (λ js. if head_is test (y.w js) then false else y.stays js) y.rest us → MayCome y.opens y.stays y.rest us
          wider us (alike n) = alike n
          wider us (other o e) = other o (both (head_is test (y.w us)) (y.stays us) e).1

          unseen : (us : List Token) → head_is test us ≡ false → head_is test (y.w us) ≡ false
          unseen us e = by (fronted y.front y.here)
            where
              by : ((js : List Token) → SameNext ts (y.w js)) ⊎ ((js : List Token) → y.w js ≡ js) → head_is test (y.w us) ≡ false
              by (inl same) = seen (y.w us) (same us)
              by (inr none) = ap (head_is test) (none us) ∙ e

          first_goes : (t : Token) (js : List Token) → head_is test (y.w (t ∷ js)) ≡ true
              → ((us : List Token) → SameNext ts (y.w us)) ⊎ ((us : List Token) → y.w us ≡ us)
              → (over : ℕ) × ((us : List Token) × Are s us × Text over (d (y.w (t ∷ us))))
          first_goes t js e (inl same) = absurd (let wrong : true ≡ false = sym e ∙ seen (y.w (t ∷ js)) (same (t ∷ js)) in cc)
          first_goes t js e (inr none) =
              let q = goes t (ap (head_is test) (sym (none (t ∷ js))) ∙ e) in
              (q.0, (q.1.0, q.1.1, subst (λ (l : List Token). Text q.0 (d l)) (sym (none (t ∷ q.1.0))) q.1.2))

          by_seen : Staying x y.stays (λ over t. (us : List Token) × Are s us × Text over (d (y.w (t ∷ us)))) → (t : Token) (js : List Token) (c : Bool)
              → head_is test (y.w (t ∷ js)) ≡ c → (if head_is test (y.w (t ∷ js)) then false else y.stays (t ∷ js)) ≡ false
              → (over : ℕ) × ((us : List Token) × Are s us × Text over (d (y.w (t ∷ us))))
          by_seen z t js true e h = first_goes t js e (fronted y.front y.here)
          by_seen z t js false e h = z.gone t js (sym (ap (λ c. if c then false else y.stays (t ∷ js)) e) ∙ h)

  -- the same of a reader that reads so
  pub alike_viable : {A : Type 0} {n : ℕ} {d : List Token → List Token} {ts : List Token} {p r : ℕ → Reader A} → Viable s x (suc n) Text b d p ts
      → ((us : List Token) (k : ℕ) → SameNext ts us → Good s k us → r k (turned b k us) ≡ p k (turned b k us)) → Viable s x (suc n) Text b d r ts
  alike_viable {n = n} {ts = ts} v e = record {
    breaks = λ good f h.
        let y = v.breaks good f (sym (e ts b.turns (same_next ts) good) ∙ h) in
        record {
          rest = y.rest;
          w = y.w;
          front = y.front;
          here = y.here;
          deep = y.deep;
          opens = y.opens;
          stays = y.stays;
          long = y.long;
          same = λ us k c g. e (y.w us) k (next_may {n = n} y.front (λ o. omega (arith, y.long o)) y.here us c) g ∙ y.same us k c g;
          staying = y.staying;
          more = y.more;
          text = y.text;
          cause = y.cause;
        };
  }

  -- what is known of the tokens in all runs
  pub with_good : {A : Type 0} {n : ℕ} {d : List Token → List Token} {ts : List Token} {r : ℕ → Reader A}
      → (Good s b.turns ts → Viable s x n Text b d r ts) → Viable s x n Text b d r ts
  with_good v = record { breaks = λ good f e. (v good).breaks good f e }

  pub onward : {A : Type 0} {n : ℕ} {d : List Token → List Token} {r : ℕ → Reader A} {ts us : List Token} {P : List Token → List Token → Type 0}
      (f : Frame P ts us) → Viable s x n Text b (λ js. d (f.w js)) r us → Onward s x n Text b d r ts us
  onward f v = record { w = f.w; front = f.front; here = f.here; then_viable = v }

  -- A fault further on, where the reader goes on so after these tokens. `Near` is what the reader's going on asks for.
  later : {A B : Type 0} {n m : ℕ} {d : List Token → List Token} {ts us : List Token} {r : ℕ → Reader A} {q : ℕ → Reader B} (w : List Token → List Token)
      (front : IsFront w) → w us ≡ ts → (y : Breaks s x m Text b (λ js. d (w js)) q us) → n ≤ length front.before + m → (Near : List Token → Type 0)
      → ((vs : List Token) → MayCome y.opens y.stays y.rest vs → Near (y.w vs))
      → ((js : List Token) (k : ℕ) (deep : Bool) (ks : List Token) → Near js → Good s k (w js)
      → q k (turned b k js) ≡ Err (fault (code_of deep) (turned b k ks)) → r k (turned b k (w js)) ≡ Err (fault (code_of deep) (turned b k ks)))
      → Breaks s x n Text b d r ts
  later w front here y le Near near e = record {
    rest = y.rest;
    w = λ js. w (y.w js);
    front = front_both front y.front;
    here = ap w y.here ∙ here;
    deep = y.deep;
    opens = y.opens;
    stays = y.stays;
    long = λ o. omega (arith, le, y.long o, length-append front.before y.front.before);
    same = λ us k n g. e (y.w us) k y.deep us (near us n) g (y.same us k n (good_in s front (y.w us) k g));
    staying = y.staying;
    more = y.more;
    text = y.text;
    cause = y.cause;
  }

  -- after a token, where the reader reads so whatever comes
  pub after_any : {A : Type 0} {n m : ℕ} {d : List Token → List Token} → n ≤ suc m → (t : Token) {ts : List Token} {p r : ℕ → Reader A}
      → Viable s x m Text b (λ js. d (t ∷ js)) p ts
      → ((us : List Token) (k : ℕ) → Good s k (t ∷ us) → r k (turned b k (t ∷ us)) ≡ p k (turned b k us)) → Viable s x n Text b d r (t ∷ ts)
  after_any le t {ts} v e = record {
    breaks = λ good f h.
        later (λ js. t ∷ js) (front_one t front_none) refl
        (v.breaks (good_after s (t ∷ []) ts b.turns good) f (sym (e ts b.turns good) ∙ h)) (omega (arith, le)) (λ vs. Unit {0}) (λ vs n. tt)
        (λ js k deep ks n g is. e js k g ∙ is);
  }

  -- one token more stands in front
  pub after_deeper : {A : Type 0} {n : ℕ} {d : List Token → List Token} (t : Token) {ts : List Token} {p r : ℕ → Reader A}
      → Viable s x n Text b (λ js. d (t ∷ js)) p ts
      → ((us : List Token) (k : ℕ) → Good s k (t ∷ us) → r k (turned b k (t ∷ us)) ≡ p k (turned b k us)) → Viable s x (suc n) Text b d r (t ∷ ts)
  after_deeper t v e = after_any (omega arith) t v e

  pub after_token : {A : Type 0} {n : ℕ} {d : List Token → List Token} (t : Token) {ts : List Token} {p r : ℕ → Reader A}
      → Viable s x (suc n) Text b (λ js. d (t ∷ js)) p ts
      → ((us : List Token) (k : ℕ) → SameNext ts us → Good s k (t ∷ us) → r k (turned b k (t ∷ us)) ≡ p k (turned b k us))
      → Viable s x (suc n) Text b d r (t ∷ ts)
  after_token {n = n} t {ts} v e = record {
    breaks = λ good f h.
        let y = v.breaks (good_after s (t ∷ []) ts b.turns good) f (sym (e ts b.turns (same_next ts) good) ∙ h) in
        later (λ js. t ∷ js) (front_one t front_none) refl y (omega arith) (λ vs. SameNext ts vs)
        (λ vs c. next_may {n = n} y.front (λ o. omega (arith, y.long o)) y.here vs c) (λ js k deep ks n g is. e js k n g ∙ is);
  }

  pub after_two : {A : Type 0} {n : ℕ} {d : List Token → List Token} (t u : Token) {ts : List Token} {p r : ℕ → Reader A}
      → Viable s x (suc n) Text b (λ js. d (t ∷ u ∷ js)) p ts
      → ((us : List Token) (k : ℕ) → SameNext ts us → Good s k (t ∷ u ∷ us) → r k (turned b k (t ∷ u ∷ us)) ≡ p k (turned b k us))
      → Viable s x (suc n) Text b d r (t ∷ u ∷ ts)
  after_two {n = n} t u {ts} v e = record {
    breaks = λ good f h.
        let y = v.breaks (good_after s (t ∷ u ∷ []) ts b.turns good) f (sym (e ts b.turns (same_next ts) good) ∙ h) in
        later (λ js. t ∷ u ∷ js) (front_one t (front_one u front_none)) refl y (omega arith) (λ vs. SameNext ts vs)
        (λ vs c. next_may {n = n} y.front (λ o. omega (arith, y.long o)) y.here vs c) (λ js k deep ks n g is. e js k n g ∙ is);
  }

  -- the first part has its fault
  failed : {A B : Type 0} {n m : ℕ} {d : List Token → List Token} {ts : List Token} {p : ℕ → Reader A} (go : ℕ → A → Reader B) → n ≤ m
      → Breaks s x m Text b d p ts → Breaks s x n Text b d (λ k i. and_then (p k i) (go k)) ts
  failed go le y = record {
    rest = y.rest;
    w = y.w;
    front = y.front;
    here = y.here;
    deep = y.deep;
    opens = y.opens;
    stays = y.stays;
    long = λ o. omega (arith, le, y.long o);
    same = λ us k n g. ap (λ r. and_then r (go k)) (y.same us k n g);
    staying = y.staying;
    more = y.more;
    text = y.text;
    cause = y.cause;
  }

  step_any : {A B : Type 0} {n m o : ℕ} {d : List Token → List Token} {ts : List Token} {p : ℕ → Reader A} {go : ℕ → A → Reader B}
      {P : A → List Token → Type 0} → n ≤ m → n ≤ suc o → Local s b p ts → Yields b (p b.turns (at b ts)) P → Viable s x m Text b d p ts
      → ((a : A) (us : List Token) → P a us → Onward s x (suc o) Text b d (λ k. go k a) ts us) → Viable s x n Text b d (λ k i. and_then (p k i) (go k)) ts
  step_any {A} {B} {n} {m} {o} {d} {ts} {p} {go} {P} le le' loc y v h = record { breaks = λ good f e. by (p b.turns (at b ts)) refl good f e }
    where
      by : (q : Outcome A) → p b.turns (at b ts) ≡ q → Good s b.turns ts → (f : Fault) → and_then q (go b.turns) ≡ Err f
          → Breaks s x n Text b d (λ k i. and_then (p k i) (go k)) ts
      by (Err e') e good f h' = failed go le (v.breaks good e' e)
      by (Ok q) e good f h' =
          let z = y.gives q.0 q.1 e in
          let on = h q.0 z.0 z.2 in
          let came = local_run loc good (e ∙ ap (λ (j : Input). let r : Outcome A = Ok (q.0, j) in r) z.1) in
          let here : Good s b.turns (on.w z.0) = subst (λ (l : List Token). Good s b.turns l) (sym on.here) good in
          let begins : on.front.before ≡ loc.front =
          append_cancel on.front.before loc.front z.0 (sym (on.front.is z.0) ∙ (on.here ∙ (loc.is ∙ ap (λ l. loc.front ++ l) came.rest))) in
          let last = on.then_viable.breaks (good_in s on.front z.0 b.turns here) f (ap (λ (j : Input). go b.turns q.0 j) (sym z.1) ∙ h') in
          later on.w on.front on.here last (omega (arith, le')) (λ vs. SameNext z.0 vs)
          (λ vs n. next_may {n = o} last.front (λ op. omega (arith, last.long op)) last.here vs n)
          (λ js k deep ks n g is.
          let there : on.w js ≡ loc.front ++ js = on.front.is js ∙ ap (λ l. l ++ js) begins in
          let first : p k (turned b k (on.w js)) ≡ Ok (q.0, turned b k js) =
          ap (λ l. p k (turned b k l)) there
          ∙ (loc.same js k (subst (λ (l : List Token). SameNext l js) (sym came.rest) n) (subst (λ (l : List Token). Good s k l) there g)
          ∙ ap (λ c. comes_to c (turned b k js)) came.answer) in
          ap (λ r. and_then r (go k)) first ∙ is)

  pub step : {A B : Type 0} {n : ℕ} {d : List Token → List Token} {ts : List Token} {p : ℕ → Reader A} {go : ℕ → A → Reader B} {P : A → List Token → Type 0}
      → Local s b p ts → Yields b (p b.turns (at b ts)) P → Viable s x (suc n) Text b d p ts
      → ((a : A) (us : List Token) → P a us → Onward s x (suc n) Text b d (λ k. go k a) ts us) → Viable s x (suc n) Text b d (λ k i. and_then (p k i) (go k)) ts
  step loc y v h = step_any (omega arith) (omega arith) loc y v h

  -- the first part begins a level below
  pub step_below : {A B : Type 0} {n : ℕ} {d : List Token → List Token} {ts : List Token} {p : ℕ → Reader A} {go : ℕ → A → Reader B}
      {P : A → List Token → Type 0} → Local s b p ts → Yields b (p b.turns (at b ts)) P → Viable s x n Text b d p ts
      → ((a : A) (us : List Token) → P a us → Onward s x (suc n) Text b d (λ k. go k a) ts us) → Viable s x n Text b d (λ k i. and_then (p k i) (go k)) ts
  step_below loc y v h = step_any (omega arith) (omega arith) loc y v h

  -- what is made of what was read
  pub finished : {A B : Type 0} {n : ℕ} {d : List Token → List Token} {ts : List Token} {p : ℕ → Reader A} (f : A → Input → B × Input)
      → Viable s x n Text b d p ts → Viable s x n Text b d (λ k i. and_then (p k i) (λ a j. Ok (f a j))) ts
  finished {A} {B} {n} {d} {ts} {p} f v = record { breaks = λ good h e. by (p b.turns (at b ts)) refl good h e }
    where
      by : (o : Outcome A) → p b.turns (at b ts) ≡ o → Good s b.turns ts → (h : Fault) → and_then o (λ a j. Ok (f a j)) ≡ Err h
          → Breaks s x n Text b d (λ k i. and_then (p k i) (λ a j. Ok (f a j))) ts
      by (Err m) e good h h' = failed (λ k a j. Ok (f a j)) (omega arith) (v.breaks good m e)
      by (Ok q) e good h h' = absurd (let wrong : ◌≡◌ {A = Outcome B} (Ok (f q.0 q.1)) (Err h) = h' in cc)

  -- ---- choices

  pub by_bool : {A : Type 0} {n : ℕ} {d : List Token → List Token} {ts : List Token} (c : Bool) {p q : ℕ → Reader A}
      → (c ≡ true → Viable s x n Text b d p ts) → (c ≡ false → Viable s x n Text b d q ts) → Viable s x n Text b d (λ k. if c then p k else q k) ts
  by_bool true y z = y refl
  by_bool false y z = z refl

  pub by_test : {A : Type 0} {n : ℕ} {d : List Token → List Token} {ts : List Token} (test : Input → Bool) {p q : ℕ → Reader A} → NextTells b test ts
      → (test (turned b 0 ts) ≡ true → Viable s x (suc n) Text b d p ts) → (test (turned b 0 ts) ≡ false → Viable s x (suc n) Text b d q ts)
      → Viable s x (suc n) Text b d (λ k i. if test i then p k i else q k i) ts
  by_test {A} {n} {d} {ts} test {p} {q} tells y z = by (test (turned b 0 ts)) refl
    where
      way : ℕ → List Token → Bool → Outcome A
      way k us c = if c then p k (turned b k us) else q k (turned b k us)

      by : (c : Bool) → test (turned b 0 ts) ≡ c → Viable s x (suc n) Text b d (λ k i. if test i then p k i else q k i) ts
      by true e = alike_viable (y e) (λ us k n g. ap (way k us) (tells us k n ∙ e))
      by false e = alike_viable (z e) (λ us k n g. ap (way k us) (tells us k n ∙ e))

  -- a test that no name passes, and a text goes on with what passes it
  pub by_test_no_name : {A : Type 0} {n : ℕ} {d : List Token → List Token} {ts : List Token} (test : Input → Bool) (first : Token → Bool) {p q : ℕ → Reader A}
      → ((us : List Token) (k : ℕ) → test (turned b k us) ≡ head_is first us) → first x ≡ false
      → ((t : Token) → first t ≡ true → (over : ℕ) × ((us : List Token) × Are s us × Text over (d (t ∷ us))))
      → (test (turned b 0 ts) ≡ true → Viable s x (suc n) Text b d p ts)
      → (test (turned b 0 ts) ≡ false → Viable s x n Text b d q ts) → Viable s x n Text b d (λ k i. if test i then p k i else q k i) ts
  by_test_no_name {A} {n} {d} {ts} test first {p} {q} is no_name goes y z = by (test (turned b 0 ts)) refl
    where
      way : ℕ → List Token → Bool → Outcome A
      way k us c = if c then p k (turned b k us) else q k (turned b k us)

      tells : (us : List Token) (k : ℕ) → SameNext ts us → test (turned b k us) ≡ test (turned b 0 ts)
      tells us k n = is us k ∙ (same_first (head_is first) first (λ t js. refl) ts us n ∙ sym (is ts 0))

      by : (c : Bool) → test (turned b 0 ts) ≡ c → Viable s x n Text b d (λ k i. if test i then p k i else q k i) ts
      by true e = fewer (omega arith) (alike_viable (y e) (λ us k n g. ap (way k us) (tells us k n ∙ e)))
      by false e = narrowed first no_name (sym (is ts 0) ∙ e) goes (z e) (λ us k none. ap (way k us) (is us k ∙ none))

  pub by_option : {A V : Type 0} {n : ℕ} {d : List Token → List Token} {ts : List Token} (o : Input → Option V) {f : ℕ → V → Reader A} {e : ℕ → Reader A}
      → NextTells b o ts → ((v : V) → o (turned b 0 ts) ≡ Some v → Viable s x (suc n) Text b d (λ k. f k v) ts)
      → (o (turned b 0 ts) ≡ None → Viable s x (suc n) Text b d e ts) → Viable s x (suc n) Text b d (λ k i. option_map_or {U = Reader A} (f k) (o i) (e k) i) ts
  by_option {A} {V} {n} {d} {ts} o {f} {e} tells y z = by (o (turned b 0 ts)) refl
    where
      way : ℕ → List Token → Option V → Outcome A
      way k us v = option_map_or {U = Reader A} (f k) v (e k) (turned b k us)

      by : (v : Option V) → o (turned b 0 ts) ≡ v → Viable s x (suc n) Text b d (λ k i. option_map_or {U = Reader A} (f k) (o i) (e k) i) ts
      by None is = alike_viable (z is) (λ us k n g. ap (way k us) (tells us k n ∙ is))
      by (Some v) is = alike_viable (y v is) (λ us k n g. ap (way k us) (tells us k n ∙ is))
