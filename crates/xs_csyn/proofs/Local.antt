-- What a reader answers rests on the tokens that it passes and on the next one: nothing further is looked at.
use Rattle.std.proofs.Common.{◌≡◌, ℕ, suc, ◌<◌, ◌≤◌, Bool, true, false, if◌then◌else◌, List, [], ◌∷◌, ◌++◌, length, append_assoc, Option, Some, None, Result, Ok, Err, refl, ap, subst, sym, ◌∙◌, arith}
use Rattle.std.specs.Option.{option_map_or}
use Rattle.xs_base.specs.Readers.{and_then, head_is}
use Rattle.xs_ctok.specs.declared.token.Token.{Token}
use Rattle.xs_csyn.proofs.Yields.{Yields, at, done}
use Rattle.xs_csyn.specs.FaultPlaces.{SameNext, code_of}
use Rattle.xs_cinput.specs.Operators.{a_step, assignment, at_least, assignments, binary_ops, first_in, operator, prefix_op, prefix_ops, sign_in, steps}
use Rattle.xs_csyn.specs.TokenTexts.{AreSpelt}
use Rattle.xs_cinput.specs.TokenInput.{Input, Outcome, Reader, a_name, a_variable, after, at_end, eat, expect, expect_word, fault, here, is_empty, is_name, is_sign, is_type, is_variable, is_word, line, line_at, next, passed, refuse, sees, sees_name, sees_type, sees_variable, sees_word, skip, spelling, consume_token, consumed, too_deep}

-- the input with these tokens left, and so many turns
abbrev pub turned : Input → ℕ → List Token → Input
turned b k ts = record b { rest = ts; turns = k }

-- which tokens are meant: any, or those that are spelt as tokens are
pub data Meant : Type 0 where
  any : Meant
  proper : Meant

abbrev pub Are : Meant → List Token → Type 0
Are any ts = Unit {0}
Are proper ts = AreSpelt ts

are_tail : (s : Meant) (t : Token) (ts : List Token) → Are s (t ∷ ts) → Are s ts
are_tail any t ts a = tt
are_tail proper t ts a = a.1

pub are_more : (s : Meant) (t : Token) (ts : List Token) → Are s (t ∷ []) → Are s ts → Are s (t ∷ ts)
are_more any t ts a as' = tt
are_more proper t ts a as' = (a.0, as')

-- what comes after a token may be exchanged
pub are_after : (s : Meant) (xs : List Token) (t : Token) (us vs : List Token) → Are s (xs ++ t ∷ us) → Are s vs → Are s (xs ++ t ∷ vs)
are_after any xs t us vs a a' = tt
are_after proper [] t us vs a a' = (a.0, a')
are_after proper (u ∷ xs) t us vs a a' = (a.0, are_after proper xs t us vs a.1 a')

-- what stands in front, and what comes after it
pub are_front : (s : Meant) (xs ys : List Token) → Are s (xs ++ ys) → Are s xs
are_front any xs ys a = tt
are_front proper [] ys a = tt
are_front proper (t ∷ xs) ys a = (a.0, are_front proper xs ys a.1)

pub are_join : (s : Meant) (xs ys : List Token) → Are s xs → Are s ys → Are s (xs ++ ys)
are_join any xs ys a a' = tt
are_join proper [] ys a a' = a'
are_join proper (t ∷ xs) ys a a' = (a.0, are_join proper xs ys a.1 a')

pub are_cut : (xs ys : List Token) → AreSpelt (xs ++ ys) → AreSpelt ys
are_cut [] ys a = a
are_cut (t ∷ xs) ys a = are_cut xs ys a.1

-- they are so, and there are turns enough for them
abbrev pub Good : Meant → ℕ → List Token → Type 0
Good s k ts = (length ts < k) × Are s ts

-- what was read, or a fault at the next token
abbrev pub comes_to : {A : Type 0} → Result A Bool → Input → Outcome A
comes_to (Ok a) i = Ok (a, i)
comes_to (Err deep) i = Err (fault (code_of deep) i)

-- The reader passes some tokens and then answers, or has a fault at the next one, whatever comes after the next one.
pub record Local {A : Type 0} (s : Meant) (b : Input) (r : ℕ → Reader A) (ts : List Token) : Type 0 where
  pub front : List Token
  pub rest : List Token
  pub is : ts ≡ front ++ rest
  pub answer : Result A Bool
  pub same : (us : List Token) (k : ℕ) → SameNext rest us → Good s k (front ++ us) → r k (turned b k (front ++ us)) ≡ comes_to answer (turned b k us)

-- ---- lists of tokens

pub same_next : (ts : List Token) → SameNext ts ts
same_next [] = tt
same_next (t ∷ ts) = refl

pub next_stays : (front rest us : List Token) → SameNext rest us → SameNext (front ++ rest) (front ++ us)
next_stays [] rest us e = e
next_stays (t ∷ front) rest us e = refl

pub good_after : (s : Meant) (front us : List Token) (k : ℕ) → Good s k (front ++ us) → Good s k us
good_after s [] us k g = g
good_after s (t ∷ front) us k g = good_after s front us k (omega (arith, g.0), are_tail s t (front ++ us) g.1)

length_after : (front rest : List Token) → length rest ≤ length (front ++ rest)
length_after [] rest = omega arith
length_after (t ∷ front) rest = omega (arith, length_after front rest)

pub no_longer : {s : Meant} {A : Type 0} {b : Input} {r : ℕ → Reader A} {ts : List Token} (x : Local s b r ts) → length x.rest ≤ length ts
no_longer x = rw (x.is) (length_after x.front x.rest)

-- the first token decides
pub same_first : {V : Type 0} (f : List Token → V) (g : Token → V) → ((t : Token) (ts : List Token) → f (t ∷ ts) ≡ g t) → (ts us : List Token)
    → SameNext ts us → f us ≡ f ts
same_first f g h [] [] e = refl
same_first f g h [] (u ∷ us) e = absurd e
same_first f g h (t ∷ ts) [] e = absurd e
same_first f g h (t ∷ ts) (u ∷ us) e = h u us ∙ (ap g (sym e) ∙ sym (h t ts))

-- The next token tells what this is.
abbrev pub NextTells : {V : Type 0} → Input → (Input → V) → List Token → Type 0
NextTells b f ts = (us : List Token) (k : ℕ) → SameNext ts us → f (turned b k us) ≡ f (turned b 0 ts)

-- ---- rules

pub alike : {s : Meant} {A : Type 0} {b : Input} {ts : List Token} {p r : ℕ → Reader A} → Local s b p ts
    → ((us : List Token) (k : ℕ) → SameNext ts us → Good s k us → r k (turned b k us) ≡ p k (turned b k us)) → Local s b r ts
alike {ts = ts} x f = record {
  front = x.front;
  rest = x.rest;
  is = x.is;
  answer = x.answer;
  same = λ us k e g.
      f (x.front ++ us) k (subst (λ (l : List Token). SameNext l (x.front ++ us)) (sym x.is) (next_stays x.front x.rest us e)) g ∙ x.same us k e g;
}

-- the same where the tokens that were passed are known
pub alike_there : {s : Meant} {A : Type 0} {b : Input} {ts : List Token} {p r : ℕ → Reader A} (x : Local s b p ts)
    → ((us : List Token) (k : ℕ) → SameNext x.rest us → Good s k (x.front ++ us) → r k (turned b k (x.front ++ us)) ≡ p k (turned b k (x.front ++ us)))
    → Local s b r ts
alike_there x f = record { front = x.front; rest = x.rest; is = x.is; answer = x.answer; same = λ us k e g. f us k e g ∙ x.same us k e g }

pub after_one : {s : Meant} {A : Type 0} {b : Input} {t : Token} {ts : List Token} {p r : ℕ → Reader A} → Local s b p ts
    → ((us : List Token) (k : ℕ) → SameNext ts us → Good s k (t ∷ us) → r k (turned b k (t ∷ us)) ≡ p k (turned b k us)) → Local s b r (t ∷ ts)
after_one {s = s} {t = t} {ts = ts} x f = record {
  front = t ∷ x.front;
  rest = x.rest;
  is = ap (λ l. t ∷ l) x.is;
  answer = x.answer;
  same = λ us k e g.
      f (x.front ++ us) k (subst (λ (l : List Token). SameNext l (x.front ++ us)) (sym x.is) (next_stays x.front x.rest us e)) g
      ∙ x.same us k e (omega (arith, g.0), are_tail s t (x.front ++ us) g.1);
}

-- what is answered with no token passed
pub at_once : {s : Meant} {A : Type 0} {b : Input} {r : ℕ → Reader A} (ts : List Token) (answer : Result A Bool)
    → ((us : List Token) (k : ℕ) → SameNext ts us → r k (turned b k us) ≡ comes_to answer (turned b k us)) → Local s b r ts
at_once ts answer f = record { front = []; rest = ts; is = refl; answer = answer; same = λ us k e g. f us k e }

bind_ways : {s : Meant} {A B : Type 0} {b : Input} {ts : List Token} {p : ℕ → Reader A} {f : ℕ → A → Reader B} (x : Local s b p ts) (o : Result A Bool)
    → x.answer ≡ o
    → ((a : A) → x.answer ≡ Ok a → Local s b (λ k. f k a) x.rest) → Local s b (λ k i. and_then (p k i) (f k)) ts
bind_ways {b = b} {f = f} x (Err deep) e h = record {
  front = x.front;
  rest = x.rest;
  is = x.is;
  answer = Err deep;
  same = λ us k n g. ap (λ r. and_then r (f k)) (x.same us k n g ∙ ap (λ o. comes_to o (turned b k us)) e);
}
bind_ways {s = s} {b = b} {p = p} {f = f} x (Ok a) e h =
    let y = h a e in
    record {
      front = x.front ++ y.front;
      rest = y.rest;
      is = x.is ∙ (ap (λ l. x.front ++ l) y.is ∙ sym (append_assoc x.front y.front y.rest));
      answer = y.answer;
      same = λ us k n g.
          let split : (x.front ++ y.front) ++ us ≡ x.front ++ (y.front ++ us) = append_assoc x.front y.front us in
          let good : Good s k (x.front ++ (y.front ++ us)) = subst (λ (l : List Token). Good s k l) split g in
          let first : SameNext x.rest (y.front ++ us) =
          subst (λ (l : List Token). SameNext l (y.front ++ us)) (sym y.is) (next_stays y.front y.rest us n) in
          ap (λ l. and_then (p k (turned b k l)) (f k)) split
          ∙ (ap (λ r. and_then r (f k)) (x.same (y.front ++ us) k first good ∙ ap (λ o. comes_to o (turned b k (y.front ++ us))) e)
          ∙ y.same us k n (good_after s x.front (y.front ++ us) k good));
    }

pub bind : {s : Meant} {A B : Type 0} {b : Input} {ts : List Token} {p : ℕ → Reader A} {f : ℕ → A → Reader B} (x : Local s b p ts)
    → ((a : A) → x.answer ≡ Ok a → Local s b (λ k. f k a) x.rest) → Local s b (λ k i. and_then (p k i) (f k)) ts
bind x h = bind_ways x x.answer refl h

pub by_bool : {s : Meant} {A : Type 0} {b : Input} {ts : List Token} (c : Bool) {p q : ℕ → Reader A} → (c ≡ true → Local s b p ts)
    → (c ≡ false → Local s b q ts)
    → Local s b (λ k. if c then p k else q k) ts
by_bool true x y = x refl
by_bool false x y = y refl

pub by_test : {s : Meant} {A : Type 0} {b : Input} {ts : List Token} (test : Input → Bool) {p q : ℕ → Reader A} → NextTells b test ts
    → (test (turned b 0 ts) ≡ true → Local s b p ts) → (test (turned b 0 ts) ≡ false → Local s b q ts)
    → Local s b (λ k i. if test i then p k i else q k i) ts
by_test {s} {A} {b} {ts} test {p} {q} tells x y = by (test (turned b 0 ts)) refl
  where
    same_yes : (c : Bool) (r s : Outcome A) → c ≡ true → (if c then r else s) ≡ r
    same_yes true r s e = refl
    same_yes false r s e = absurd cc

    same_no : (c : Bool) (r s : Outcome A) → c ≡ false → (if c then r else s) ≡ s
    same_no false r s e = refl
    same_no true r s e = absurd cc

    by : (c : Bool) → test (turned b 0 ts) ≡ c → Local s b (λ k i. if test i then p k i else q k i) ts
    by true e = alike (x e) (λ us k n g. same_yes (test (turned b k us)) (p k (turned b k us)) (q k (turned b k us)) (tells us k n ∙ e))
    by false e = alike (y e) (λ us k n g. same_no (test (turned b k us)) (p k (turned b k us)) (q k (turned b k us)) (tells us k n ∙ e))

pub by_option : {s : Meant} {A V : Type 0} {b : Input} {ts : List Token} (o : Input → Option V) {f : ℕ → V → Reader A} {d : ℕ → Reader A} → NextTells b o ts
    → ((v : V) → o (turned b 0 ts) ≡ Some v → Local s b (λ k. f k v) ts) → (o (turned b 0 ts) ≡ None → Local s b d ts)
    → Local s b (λ k i. option_map_or {U = Reader A} (f k) (o i) (d k) i) ts
by_option {s} {A} {V} {b} {ts} o {f} {d} tells x y = by (o (turned b 0 ts)) refl
  where
    by : (v : Option V) → o (turned b 0 ts) ≡ v → Local s b (λ k i. option_map_or {U = Reader A} (f k) (o i) (d k) i) ts
    by None e = alike (y e) (λ us k n g. ap (λ v. option_map_or {U = Reader A} (f k) v (d k) (turned b k us)) (tells us k n ∙ e))
    by (Some v) e = alike (x v e) (λ us k n g. ap (λ w. option_map_or {U = Reader A} (f k) w (d k) (turned b k us)) (tells us k n ∙ e))

-- ---- what the next token tells

pub sees_tells : (b : Input) (text : List ℕ) (ts : List Token) → NextTells b (sees text) ts
unfolding sees
sees_tells b text ts us k e = same_first (head_is (is_sign text)) (is_sign text) (λ t js. refl) ts us e

pub word_tells : (b : Input) (text : List ℕ) (ts : List Token) → NextTells b (sees_word text) ts
unfolding sees_word
word_tells b text ts us k e = same_first (head_is (is_word text)) (is_word text) (λ t js. refl) ts us e

pub type_tells : (b : Input) (ts : List Token) → NextTells b sees_type ts
unfolding sees_type
type_tells b ts us k e = same_first (head_is (is_type b.types)) (is_type b.types) (λ t js. refl) ts us e

pub end_tells : (b : Input) (ts : List Token) → NextTells b at_end ts
unfolding at_end
end_tells b ts us k e = same_first is_empty (λ t. false) (λ t js. refl) ts us e

pub operator_tells : (b : Input) (n : ℕ) (ts : List Token) → NextTells b (operator n) ts
unfolding operator
operator_tells b n ts us k e = ap (at_least n) (same_first (first_in binary_ops) (sign_in binary_ops) (λ t js. refl) ts us e)

pub assignment_tells : (b : Input) (ts : List Token) → NextTells b assignment ts
unfolding assignment
assignment_tells b ts us k e = same_first (first_in assignments) (sign_in assignments) (λ t js. refl) ts us e

pub prefix_tells : (b : Input) (ts : List Token) → NextTells b prefix_op ts
unfolding prefix_op
prefix_tells b ts us k e = same_first (first_in prefix_ops) (sign_in prefix_ops) (λ t js. refl) ts us e

pub step_tells : (b : Input) (ts : List Token) → NextTells b a_step ts
unfolding a_step
step_tells b ts us k e = same_first (first_in steps) (sign_in steps) (λ t js. refl) ts us e

-- ---- steps

module _ {s : Meant} (b : Input) where
  pub gives : {A : Type 0} (a : A) (ts : List Token) → Local s b (λ k i. Ok (a, i)) ts
  gives a ts = at_once ts (Ok a) (λ us k e. refl)

  pub refused : {A : Type 0} (ts : List Token) → Local s b (λ k. refuse {A = A}) ts
  refused ts = at_once ts (Err false) (λ us k e. refl)

  pub deep : {A : Type 0} (ts : List Token) → Local s b (λ k. too_deep {A = A}) ts
  deep ts = at_once ts (Err true) (λ us k e. refl)

  pub here_local : (ts : List Token) → Local s b (λ k. here) ts
  unfolding line
  here_local ts = at_once ts (Ok (line_at b.last ts)) (λ us k e.
      ap (λ n. let r : Outcome ℕ = Ok (n, turned b k us) in r) (same_first (line_at b.last) (λ t. t.span.line) (λ t js. refl) ts us e))

  at_the_end : {A : Type 0} {r : ℕ → Reader A} (answer : Result A Bool) → ((k : ℕ) → r k (turned b k []) ≡ comes_to answer (turned b k [])) → Local s b r []
  at_the_end {A} {r} answer f = at_once [] answer by
    where
      by : (us : List Token) (k : ℕ) → SameNext [] us → r k (turned b k us) ≡ comes_to answer (turned b k us)
      by [] k e = f k
      by (u ∷ us) k e = absurd e

  pub skip_local : (ts : List Token) → Local s b (λ k. skip) ts
  unfolding next
  skip_local [] = at_the_end (Ok tt) (λ k. refl)
  skip_local (t ∷ ts) = after_one (gives tt ts) (λ us k e g. refl)

  pub take_local : (ts : List Token) → Local s b (λ k. consume_token) ts
  unfolding next spelling
  take_local [] = at_the_end (Ok []) (λ k. refl)
  take_local (t ∷ ts) = after_one (gives t.text ts) (λ us k e g. refl)

  -- a token that passes the test is consumed
  pub passed_local : (test : Token → Bool) (ts : List Token) → Local s b (λ k i. passed (head_is test i.rest) i) ts
  unfolding next
  passed_local test [] = at_the_end (Err false) (λ k. refl)
  passed_local test (t ∷ ts) = by (test t) refl
    where
      by : (c : Bool) → test t ≡ c → Local s b (λ k i. passed (head_is test i.rest) i) (t ∷ ts)
      by true e = after_one (gives tt ts) (λ us k n g. ap (λ c. passed c (turned b k (t ∷ us))) e)
      by false e = alike (refused (t ∷ ts)) (λ us k n g. ap (λ c. passed c (turned b k us)) (same_first (head_is test) test (λ t js. refl) (t ∷ ts) us n ∙ e))

  pub taken_local : (test : Token → Bool) (ts : List Token) → Local s b (λ k i. consumed (head_is test i.rest) i) ts
  unfolding next spelling
  taken_local test [] = at_the_end (Err false) (λ k. refl)
  taken_local test (t ∷ ts) = by (test t) refl
    where
      by : (c : Bool) → test t ≡ c → Local s b (λ k i. consumed (head_is test i.rest) i) (t ∷ ts)
      by true e = after_one (gives t.text ts) (λ us k n g. ap (λ c. consumed c (turned b k (t ∷ us))) e)
      by false e = alike (refused (t ∷ ts)) (λ us k n g. ap (λ c. consumed c (turned b k us)) (same_first (head_is test) test (λ t js. refl) (t ∷ ts) us n ∙ e))

  pub eat_local : (text : List ℕ) (ts : List Token) → Local s b (λ k. eat text) ts
  unfolding sees after next
  eat_local text [] = at_the_end (Ok false) (λ k. refl)
  eat_local text (t ∷ ts) = by (is_sign text t) refl
    where
      eaten : Bool → Input → Input → Outcome Bool
      eaten c i j = Ok (c, if c then i else j)

      by : (c : Bool) → is_sign text t ≡ c → Local s b (λ k. eat text) (t ∷ ts)
      by true e = after_one (gives true ts) (λ us k n g. ap (λ c. eaten c (turned b k us) (turned b k (t ∷ us))) e)
      by false e = at_once (t ∷ ts) (Ok false) (λ us k n. not_eaten us k n)
        where
          not_eaten : (us : List Token) (k : ℕ) → SameNext (t ∷ ts) us → eat text (turned b k us) ≡ Ok (false, turned b k us)
          not_eaten [] k n = absurd n
          not_eaten (u ∷ us) k n = ap (λ c. eaten c (turned b k us) (turned b k (u ∷ us))) (ap (is_sign text) (sym n) ∙ e)

  pub expect_local : (text : List ℕ) (ts : List Token) → Local s b (λ k. expect text) ts
  unfolding expect sees
  expect_local text ts = alike (passed_local (is_sign text) ts) (λ us k e g. refl)

  pub expect_word_local : (text : List ℕ) (ts : List Token) → Local s b (λ k. expect_word text) ts
  unfolding expect_word sees_word
  expect_word_local text ts = alike (passed_local (is_word text) ts) (λ us k e g. refl)

  pub name_local : (ts : List Token) → Local s b (λ k. a_name) ts
  unfolding a_name sees_name
  name_local ts = alike (taken_local is_name ts) (λ us k e g. refl)

  pub variable_local : (ts : List Token) → Local s b (λ k. a_variable) ts
  unfolding a_variable sees_variable
  variable_local ts = alike (taken_local (is_variable b.types) ts) (λ us k e g. refl)

-- ---- readings that consume a token

-- a punctuator that is passed
pub eat_yields : (b : Input) (text : List ℕ) (ts : List Token) → Yields b (eat text (at b ts)) (λ c vs. c ≡ true → length vs < length ts)
unfolding sees after next
eat_yields b text [] = done false [] (λ e. absurd cc)
eat_yields b text (t ∷ ts) = by (is_sign text t)
  where
    eaten : Bool → Outcome Bool
    eaten c = Ok (c, if c then at b ts else at b (t ∷ ts))

    by : (c : Bool) → Yields b (eaten c) (λ c vs. c ≡ true → length vs < suc (length ts))
    by true = done true ts (λ e. omega arith)
    by false = done false (t ∷ ts) (λ e. absurd cc)

-- After a reading that consumes a token less is left: what is to be shown of the rest may use that.
pub moving : {s : Meant} {A B : Type 0} {b : Input} {r : ℕ → Reader A} {q : ℕ → Reader B} {ts : List Token} (P : List Token → A → List Token → Type 0)
    (x : Local s b r ts) (a : A) → x.answer ≡ Ok a → ((k : ℕ) (us : List Token) → Yields (turned b k us) (r k (turned b k us)) (P us))
    → ((us vs : List Token) → P us a vs → length vs < length us) → (length x.rest < length ts → Local s b q x.rest) → Local s b q x.rest
moving {s} {A} {B} {b} {r} {q} {ts} P x a e yields shrink go = by x.front refl
  where
    longer : (t : Token) (front rest : List Token) → length rest < length ((t ∷ front) ++ rest)
    longer t front rest = omega (arith, length_after front rest)

    no_reading : (us : List Token) (k : ℕ) → SameNext x.rest us → Good s k us → x.front ≡ [] → ⊥
    no_reading us k n g f =
        let good : Good s k (x.front ++ us) = subst (λ (l : List Token). Good s k (l ++ us)) (sym f) g in
        let read : r k (turned b k us) ≡ Ok (a, turned b k us) =
        ap (λ l. r k (turned b k (l ++ us))) (sym f) ∙ (x.same us k n good ∙ ap (λ o. comes_to o (turned b k us)) e) in
        let y = (yields k us).gives a (turned b k us) read in
        let left : us ≡ y.0 = ap (λ (i : Input). i.rest) y.1 in
        let less : length us < length us = shrink us us (subst (λ (l : List Token). P us a l) (sym left) y.2) in
        omega (arith, less)

    by : (front : List Token) → x.front ≡ front → Local s b q x.rest
    by [] f = record {
      front = [];
      rest = x.rest;
      is = refl;
      answer = Err false;
      same = λ us k n g. absurd (no_reading us k n g f);
    }
    by (t ∷ front) f = go (subst (λ (l : List Token). length x.rest < length l) (sym (x.is ∙ ap (λ l. l ++ x.rest) f)) (longer t front x.rest))
