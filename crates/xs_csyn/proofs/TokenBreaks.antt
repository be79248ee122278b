-- Where reading breaks off at a token that is tested.
use Rattle.std.proofs.Common.{◌≡◌, ℕ, suc, ◌≤◌, Bool, true, false, if◌then◌else◌, List, [], ◌∷◌, Err, refl, ap, subst, ◌∙◌, arith}
use Rattle.xs_base.specs.Readers.{and_then, head_is, tail}
use Rattle.xs_ctok.specs.declared.token.Token.{Token}
use Rattle.xs_cinput.specs.TokenInput.{Input, Outcome, Reader, a_name, a_variable, after, consumed, expect, expect_word, fault, here, is_name, is_sign, is_type, is_variable, is_word, line, line_at, next, passed, sees, sees_name, sees_type, sees_variable, sees_word, spelling}
use Rattle.xs_cinput.specs.TypeReader.{a_type_word}
use Rattle.xs_csyn.proofs.Breaks.{Viable, after_any, alike_all, alike_viable, breaks_here, narrowed}
use Rattle.xs_csyn.proofs.Local.{Are, Meant, same_first, turned}
use Rattle.xs_csyn.specs.FaultPlaces.{SameNext, code_of}

-- a test of the next token that does not pass
unpassed : (test : Token → Bool) (u : Token) (us js : List Token) → test u ≡ false → SameNext (u ∷ us) js → head_is test js ≡ false
unpassed test u us js e n = same_first (head_is test) test (λ t ks. refl) (u ∷ us) js n ∙ e

module _ {s : Meant} {x : Token} {Text : ℕ → List Token → Type 0} {b : Input} where
  -- ---- tokens

  -- the end of the tokens
  pub breaks_at_end : {A : Type 0} {n : ℕ} {d : List Token → List Token} {r : ℕ → Reader A} (more : List Token) → Text 0 (d more)
      → ((k : ℕ) → r k (turned b k []) ≡ Err (fault (code_of false) (turned b k []))) → Viable s x n Text b d r []
  breaks_at_end {A} {n} {d} {r} more text e = breaks_here more text (λ us k n. at_end us k n)
    where
      at_end : (us : List Token) (k : ℕ) → SameNext [] us → r k (turned b k us) ≡ Err (fault (code_of false) (turned b k us))
      at_end [] k n = e k
      at_end (v ∷ us) k n = absurd n

  -- the line of the next token
  pub by_here : {A : Type 0} {n : ℕ} {d : List Token → List Token} {ts : List Token} (go : ℕ → ℕ → Reader A)
      → Viable s x (suc n) Text b d (λ k. go k (line_at b.last ts)) ts → Viable s x (suc n) Text b d (λ k i. and_then (here i) (go k)) ts
  unfolding line
  by_here {ts = ts} go v =
      alike_viable v (λ us k n g. ap (λ l. go k l (turned b k us)) (same_first (line_at b.last) (λ t. t.span.line) (λ t js. refl) ts us n))

  -- a reader that reads so where this token comes next
  pub by_first : {A : Type 0} {n : ℕ} {d : List Token → List Token} {t : Token} {ts : List Token} {p r : ℕ → Reader A}
      → Viable s x (suc n) Text b d p (t ∷ ts)
      → ((us : List Token) (k : ℕ) → r k (turned b k (t ∷ us)) ≡ p k (turned b k (t ∷ us))) → Viable s x (suc n) Text b d r (t ∷ ts)
  by_first {A} {n} {d} {t} {ts} {p} {r} v e = alike_viable v (λ us k n g. by us k n)
    where
      by : (us : List Token) (k : ℕ) → SameNext (t ∷ ts) us → r k (turned b k us) ≡ p k (turned b k us)
      by [] k n = absurd n
      by (u ∷ us) k n = subst (λ (v : Token). r k (turned b k (v ∷ us)) ≡ p k (turned b k (v ∷ us))) n (e us k)

  eat_any : {A : Type 0} {n m : ℕ} {d : List Token → List Token} → n ≤ m → (text : List ℕ) (t : Token) (ts : List Token) {p q : ℕ → Reader A}
      → (is_sign text t ≡ true → Viable s x m Text b (λ js. d (t ∷ js)) p ts) → Viable s x (suc n) Text b d q (t ∷ ts)
      → Viable s x (suc n) Text b d (λ k i. (if sees text i then p k else q k) (after text i)) (t ∷ ts)
  unfolding sees after next
  eat_any {A} {n} {m} {d} le text t ts {p} {q} y z = by (is_sign text t) refl
    where
      eaten : ℕ → Bool → Input → Input → Outcome A
      eaten k c i j = (if c then p k else q k) (if c then i else j)

      by : (c : Bool) → is_sign text t ≡ c → Viable s x (suc n) Text b d (λ k i. (if sees text i then p k else q k) (after text i)) (t ∷ ts)
      by true e = after_any (omega (arith, le)) t (y e) (λ js k g. ap (λ c. eaten k c (turned b k js) (turned b k (t ∷ js))) e)
      by false e = alike_viable z (λ js k n g. ap (λ c. eaten k c (turned b k (tail js)) (turned b k js)) (unpassed (is_sign text) t ts js e n))

  -- after the sign stands something of a level below
  pub by_eat_below : {A : Type 0} {n : ℕ} {d : List Token → List Token} (text : List ℕ) (t : Token) (ts : List Token) {p q : ℕ → Reader A}
      → (is_sign text t ≡ true → Viable s x n Text b (λ js. d (t ∷ js)) p ts) → Viable s x (suc n) Text b d q (t ∷ ts)
      → Viable s x (suc n) Text b d (λ k i. (if sees text i then p k else q k) (after text i)) (t ∷ ts)
  by_eat_below text t ts y z = eat_any (omega arith) text t ts y z

  pub by_eat_here : {A : Type 0} {n : ℕ} {d : List Token → List Token} (text : List ℕ) (t : Token) (ts : List Token) {p q : ℕ → Reader A}
      → (is_sign text t ≡ true → Viable s x (suc n) Text b (λ js. d (t ∷ js)) p ts) → Viable s x (suc n) Text b d q (t ∷ ts)
      → Viable s x (suc n) Text b d (λ k i. (if sees text i then p k else q k) (after text i)) (t ∷ ts)
  by_eat_here text t ts y z = eat_any (omega arith) text t ts y z

  eat_end : {A : Type 0} {n : ℕ} {d : List Token → List Token} (text : List ℕ) (p : ℕ → Reader A) {q : ℕ → Reader A} → Viable s x (suc n) Text b d q []
      → Viable s x (suc n) Text b d (λ k i. (if sees text i then p k else q k) (after text i)) []
  unfolding sees after
  eat_end text p {q} z = alike_viable z (λ us k n g. at_end us k n)
    where
      at_end : (us : List Token) (k : ℕ) → SameNext [] us
          → (if sees text (turned b k us) then p k else q k) (after text (turned b k us)) ≡ q k (turned b k us)
      at_end [] k n = refl
      at_end (v ∷ us) k n = absurd n

  pub by_eat : {A : Type 0} {n : ℕ} {d : List Token → List Token} (text : List ℕ) (ts : List Token) {p q : ℕ → Reader A}
      → ((u : Token) (us : List Token) → ts ≡ u ∷ us → is_sign text u ≡ true → Viable s x (suc n) Text b (λ js. d (u ∷ js)) p us)
      → Viable s x (suc n) Text b d q ts → Viable s x (suc n) Text b d (λ k i. (if sees text i then p k else q k) (after text i)) ts
  by_eat text [] {p} y z = eat_end text p z
  by_eat text (u ∷ us) y z = by_eat_here text u us (λ e. y u us refl e) z

  pub by_eat_then : {A : Type 0} {n : ℕ} {d : List Token → List Token} (text : List ℕ) (ts : List Token) {p q : ℕ → Reader A}
      → ((u : Token) (us : List Token) → ts ≡ u ∷ us → is_sign text u ≡ true → Viable s x n Text b (λ js. d (u ∷ js)) p us)
      → Viable s x (suc n) Text b d q ts → Viable s x (suc n) Text b d (λ k i. (if sees text i then p k else q k) (after text i)) ts
  by_eat_then text [] {p} y z = eat_end text p z
  by_eat_then text (u ∷ us) y z = by_eat_below text u us (λ e. y u us refl e) z

  -- a sign that a text goes on with
  pub by_eat_no_name : {A : Type 0} {n : ℕ} {d : List Token → List Token} (text : List ℕ) (ts : List Token) {p q : ℕ → Reader A} → is_sign text x ≡ false
      → ((t : Token) → is_sign text t ≡ true → (over : ℕ) × ((us : List Token) × Are s us × Text over (d (t ∷ us))))
      → ((u : Token) (us : List Token) → ts ≡ u ∷ us → is_sign text u ≡ true → Viable s x n Text b (λ js. d (u ∷ js)) p us)
      → Viable s x n Text b d q ts → Viable s x n Text b d (λ k i. (if sees text i then p k else q k) (after text i)) ts
  unfolding sees after next
  by_eat_no_name {A} {n} {d} text ts {p} {q} no_name goes y z = by ts refl z
    where
      eaten : ℕ → Bool → Input → Input → Outcome A
      eaten k c i j = (if c then p k else q k) (if c then i else j)

      uneaten : (us : List Token) (k : ℕ) → head_is (is_sign text) us ≡ false
          → (if sees text (turned b k us) then p k else q k) (after text (turned b k us)) ≡ q k (turned b k us)
      uneaten us k none = ap (λ c. eaten k c (turned b k (tail us)) (turned b k us)) none

      first : (u : Token) (us : List Token) → ts ≡ u ∷ us → Viable s x n Text b d q (u ∷ us) → (c : Bool) → is_sign text u ≡ c
          → Viable s x n Text b d (λ k i. (if sees text i then p k else q k) (after text i)) (u ∷ us)
      first u us is z true e = after_any (omega arith) u (y u us is e) (λ js k g. ap (λ c. eaten k c (turned b k js) (turned b k (u ∷ js))) e)
      first u us is z false e = narrowed (is_sign text) no_name e goes z (λ js k none. uneaten js k none)

      by : (vs : List Token) → ts ≡ vs → Viable s x n Text b d q vs → Viable s x n Text b d (λ k i. (if sees text i then p k else q k) (after text i)) vs
      by [] is z = narrowed (is_sign text) no_name refl goes z (λ js k none. uneaten js k none)
      by (u ∷ us) is z = first u us is z (is_sign text u) refl

  passed_any : {A : Type 0} {n m : ℕ} {d : List Token → List Token} → n ≤ suc m → (test : Token → Bool) (t : Token) (ts : List Token)
      (go : ℕ → Unit {0} → Reader A) (more : List Token) → Text 0 (d more) → (test t ≡ true → Viable s x m Text b (λ js. d (t ∷ js)) (λ k. go k tt) ts)
      → Viable s x n Text b d (λ k i. and_then (passed (head_is test i.rest) i) (go k)) (t ∷ ts)
  unfolding next
  passed_any {A} {n} {m} {d} le test t ts go more text y = by (test t) refl
    where
      by : (c : Bool) → test t ≡ c → Viable s x n Text b d (λ k i. and_then (passed (head_is test i.rest) i) (go k)) (t ∷ ts)
      by true e = after_any le t (y e) (λ js k g. ap (λ c. and_then (passed c (turned b k (t ∷ js))) (go k)) e)
      by false e = breaks_here more text (λ js k n. ap (λ c. and_then (passed c (turned b k js)) (go k)) (unpassed test t ts js e n))

  pub by_passed : {A : Type 0} {n : ℕ} {d : List Token → List Token} (test : Token → Bool) (ts : List Token) (go : ℕ → Unit {0} → Reader A)
      (more : List Token) → Text 0 (d more)
      → ((u : Token) (us : List Token) → ts ≡ u ∷ us → test u ≡ true → Viable s x n Text b (λ js. d (u ∷ js)) (λ k. go k tt) us)
      → Viable s x n Text b d (λ k i. and_then (passed (head_is test i.rest) i) (go k)) ts
  by_passed test [] go more text y = breaks_at_end more text (λ k. refl)
  by_passed test (u ∷ us) go more text y = passed_any (omega arith) test u us go more text (λ e. y u us refl e)

  consumed_here : {A : Type 0} {n : ℕ} {d : List Token → List Token} (test : Token → Bool) (t : Token) (ts : List Token) (go : ℕ → List ℕ → Reader A)
      (more : List Token) → Text 0 (d more) → (test t ≡ true → Viable s x n Text b (λ js. d (t ∷ js)) (λ k. go k t.text) ts)
      → Viable s x n Text b d (λ k i. and_then (consumed (head_is test i.rest) i) (go k)) (t ∷ ts)
  unfolding next spelling
  consumed_here {A} {n} {d} test t ts go more text y = by (test t) refl
    where
      by : (c : Bool) → test t ≡ c → Viable s x n Text b d (λ k i. and_then (consumed (head_is test i.rest) i) (go k)) (t ∷ ts)
      by true e = after_any (omega arith) t (y e) (λ js k g. ap (λ c. and_then (consumed c (turned b k (t ∷ js))) (go k)) e)
      by false e = breaks_here more text (λ js k n. ap (λ c. and_then (consumed c (turned b k js)) (go k)) (unpassed test t ts js e n))

  pub by_consumed : {A : Type 0} {n : ℕ} {d : List Token → List Token} (test : Token → Bool) (ts : List Token) (go : ℕ → List ℕ → Reader A)
      (more : List Token) → Text 0 (d more)
      → ((u : Token) (us : List Token) → ts ≡ u ∷ us → test u ≡ true → Viable s x n Text b (λ js. d (u ∷ js)) (λ k. go k u.text) us)
      → Viable s x n Text b d (λ k i. and_then (consumed (head_is test i.rest) i) (go k)) ts
  by_consumed test [] go more text y = breaks_at_end more text (λ k. refl)
  by_consumed test (u ∷ us) go more text y = consumed_here test u us go more text (λ e. y u us refl e)

  pub by_expect : {A : Type 0} {n : ℕ} {d : List Token → List Token} (text : List ℕ) (ts : List Token) (go : ℕ → Unit {0} → Reader A)
      (more : List Token) → Text 0 (d more)
      → ((u : Token) (us : List Token) → ts ≡ u ∷ us → is_sign text u ≡ true → Viable s x n Text b (λ js. d (u ∷ js)) (λ k. go k tt) us)
      → Viable s x n Text b d (λ k i. and_then (expect text i) (go k)) ts
  unfolding expect sees
  by_expect text ts go more t y = by_passed (is_sign text) ts go more t y

  -- after the sign stands something of a level below
  pub by_expect_then : {A : Type 0} {n : ℕ} {d : List Token → List Token} (text : List ℕ) (ts : List Token) (go : ℕ → Unit {0} → Reader A)
      (more : List Token) → Text 0 (d more)
      → ((u : Token) (us : List Token) → ts ≡ u ∷ us → is_sign text u ≡ true → Viable s x n Text b (λ js. d (u ∷ js)) (λ k. go k tt) us)
      → Viable s x (suc n) Text b d (λ k i. and_then (expect text i) (go k)) ts
  unfolding expect sees
  by_expect_then text [] go more t y = breaks_at_end more t (λ k. refl)
  by_expect_then text (u ∷ us) go more t y = passed_any (omega arith) (is_sign text) u us go more t (λ e. y u us refl e)

  pub by_word : {A : Type 0} {n : ℕ} {d : List Token → List Token} (text : List ℕ) (ts : List Token) (go : ℕ → Unit {0} → Reader A)
      (more : List Token) → Text 0 (d more)
      → ((u : Token) (us : List Token) → ts ≡ u ∷ us → is_word text u ≡ true → Viable s x n Text b (λ js. d (u ∷ js)) (λ k. go k tt) us)
      → Viable s x n Text b d (λ k i. and_then (expect_word text i) (go k)) ts
  unfolding expect_word sees_word
  by_word text ts go more t y = by_passed (is_word text) ts go more t y

  pub by_word_here : {A : Type 0} {n : ℕ} {d : List Token → List Token} (text : List ℕ) (t : Token) (ts : List Token) (go : ℕ → Unit {0} → Reader A)
      (more : List Token) → Text 0 (d more) → (is_word text t ≡ true → Viable s x n Text b (λ js. d (t ∷ js)) (λ k. go k tt) ts)
      → Viable s x n Text b d (λ k i. and_then (expect_word text i) (go k)) (t ∷ ts)
  unfolding expect_word sees_word
  by_word_here text t ts go more y z = passed_any (omega arith) (is_word text) t ts go more y z

  pub by_name : {A : Type 0} {n : ℕ} {d : List Token → List Token} (ts : List Token) (go : ℕ → List ℕ → Reader A) (more : List Token) → Text 0 (d more)
      → ((u : Token) (us : List Token) → ts ≡ u ∷ us → is_name u ≡ true → Viable s x n Text b (λ js. d (u ∷ js)) (λ k. go k u.text) us)
      → Viable s x n Text b d (λ k i. and_then (a_name i) (go k)) ts
  unfolding a_name sees_name
  by_name ts go more t y = by_consumed is_name ts go more t y

  -- The types of the input are those of `b`, whatever is left.
  pub by_variable : {A : Type 0} {n : ℕ} {d : List Token → List Token} (ts : List Token) (go : ℕ → List ℕ → Reader A) (more : List Token) → Text 0 (d more)
      → ((u : Token) (us : List Token) → ts ≡ u ∷ us → is_variable b.types u ≡ true → Viable s x n Text b (λ js. d (u ∷ js)) (λ k. go k u.text) us)
      → Viable s x n Text b d (λ k i. and_then (a_variable i) (go k)) ts
  unfolding a_variable sees_variable
  by_variable ts go more t y =
      alike_all {p = λ k i. and_then (consumed (head_is (is_variable b.types) i.rest) i) (go k)} (by_consumed (is_variable b.types) ts _ more t y)
      (λ us k g. refl)

  pub by_variable_here : {A : Type 0} {n : ℕ} {d : List Token → List Token} (t : Token) (ts : List Token) (go : ℕ → List ℕ → Reader A)
      (more : List Token) → Text 0 (d more) → (is_variable b.types t ≡ true → Viable s x n Text b (λ js. d (t ∷ js)) (λ k. go k t.text) ts)
      → Viable s x n Text b d (λ k i. and_then (a_variable i) (go k)) (t ∷ ts)
  unfolding a_variable sees_variable
  by_variable_here t ts go more y z =
      alike_all {p = λ k i. and_then (consumed (head_is (is_variable b.types) i.rest) i) (go k)} (consumed_here (is_variable b.types) t ts _ more y z)
      (λ us k g. refl)

  pub by_type_word : {A : Type 0} {n : ℕ} {d : List Token → List Token} (ts : List Token) (go : ℕ → List ℕ → Reader A) (more : List Token) → Text 0 (d more)
      → ((u : Token) (us : List Token) → ts ≡ u ∷ us → is_type b.types u ≡ true → Viable s x n Text b (λ js. d (u ∷ js)) (λ k. go k u.text) us)
      → Viable s x n Text b d (λ k i. and_then (a_type_word i) (go k)) ts
  unfolding sees_type
  by_type_word ts go more t y =
      alike_all {p = λ k i. and_then (consumed (head_is (is_type b.types) i.rest) i) (go k)} (by_consumed (is_type b.types) ts _ more t y)
      (λ us k g. refl)
