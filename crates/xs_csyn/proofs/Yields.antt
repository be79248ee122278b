-- Soundness of readers step by step: what a step gives has a property, and the steps after it go on from there.
use Rattle.std.proofs.Common.{◌≡◌, ℕ, Bool, true, false, if◌then◌else◌, List, [], ◌∷◌, ◌++◌, append_assoc, append-nil, Option, Some, None, Ok, Err, refl, ap, subst, sym, ◌∙◌}
use Rattle.std.specs.Option.{option_map_or}
use Rattle.xs_base.proofs.ReaderSteps.{bind_ok, same_outcome}
use Rattle.xs_base.specs.Readers.{and_then, head_is}
use Rattle.xs_base.specs.declared.fault.Fault.{Fault}
use Rattle.xs_ctok.specs.declared.token.Token.{Token}
use Rattle.xs_cinput.specs.TokenInput.{Input, Outcome, Reader, a_name, a_variable, after, consumed, expect, expect_word, is_name, is_sign, is_variable, is_word, next, passed, sees, sees_name, sees_variable, sees_word, spelling}

-- the input with these tokens left
abbrev pub at : Input → List Token → Input
at b ts = record b { rest = ts }

-- What the outcome gives has this property, with the tokens that are left, and nothing else of the input has changed.
pub record Yields {A : Type 0} (b : Input) (r : Outcome A) (P : A → List Token → Type 0) : Type 0 where
  pub gives : (a : A) (k : Input) → r ≡ Ok (a, k) → (us : List Token) × (k ≡ at b us) × P a us

pub done : {A : Type 0} {b : Input} {P : A → List Token → Type 0} (a : A) (us : List Token) → P a us → Yields b (Ok (a, at b us)) P
done {A} {b} {P} a us p = record {
  gives = λ x k h. let s = same_outcome {E = Fault} a x (at b us) k h in (us, sym s.1, subst (λ (y : A). P y us) s.0 p);
}

pub fails : {A : Type 0} {b : Input} {P : A → List Token → Type 0} (e : Fault) → Yields b (Err e) P
fails e = record { gives = λ x k h. absurd cc }

pub weaken : {A : Type 0} {b : Input} {P Q : A → List Token → Type 0} {r : Outcome A} → Yields b r P → ((a : A) (us : List Token) → P a us → Q a us)
    → Yields b r Q
weaken x f = record { gives = λ a k h. let q = x.gives a k h in (q.0, q.1, f a q.0 q.2) }

pub step : {A B : Type 0} {b : Input} {P : A → List Token → Type 0} {Q : B → List Token → Type 0} (r : Outcome A) (go : A → Reader B) → Yields b r P
    → ((a : A) (us : List Token) → P a us → Yields b (go a (at b us)) Q) → Yields b (and_then r go) Q
step {A} {B} {b} {P} {Q} r go x f = record {
  gives = λ c k h.
      let p = bind_ok r go (c, k) h in
      let q = x.gives p.0 p.1 p.2 in
      (f p.0 q.0 q.2).gives c k (ap (λ (j : Input). go p.0 j) (sym q.1) ∙ p.3);
}

-- ---- choices

pub by_if : {A : Type 0} {b : Input} {P : A → List Token → Type 0} (test : Bool) (r s : Outcome A) → (test ≡ true → Yields b r P)
    → (test ≡ false → Yields b s P) → Yields b (if test then r else s) P
by_if true r s x y = x refl
by_if false r s x y = y refl

pub by_choice : {A : Type 0} {b : Input} {P : A → List Token → Type 0} (test : Bool) (p q : Reader A) (i : Input) → (test ≡ true → Yields b (p i) P)
    → (test ≡ false → Yields b (q i) P) → Yields b ((if test then p else q) i) P
by_choice true p q i x y = x refl
by_choice false p q i x y = y refl

pub by_option : {A V : Type 0} {b : Input} {P : A → List Token → Type 0} (o : Option V) (f : V → Reader A) (d : Reader A) (i : Input)
    → ((v : V) → o ≡ Some v → Yields b (f v i) P) → (o ≡ None → Yields b (d i) P) → Yields b (option_map_or {U = Reader A} f o d i) P
by_option None f d i x y = y refl
by_option (Some v) f d i x y = x v refl

two_ways : {A : Type 0} {b : Input} {P : A → List Token → Type 0} (c : Bool) (p q : Reader A) (i j : Input) → (c ≡ true → Yields b (p i) P)
    → (c ≡ false → Yields b (q j) P) → Yields b ((if c then p else q) (if c then i else j)) P
two_ways true p q i j x y = x refl
two_ways false p q i j x y = y refl

-- ---- tokens. What is known where reading stands is given as a property of the tokens that are left.

pub by_eat : {A : Type 0} {b : Input} (F : List Token → Type 0) (P : List Token → A → List Token → Type 0) (text : List ℕ) (ts : List Token) (p q : Reader A)
    → F ts → ((u : Token) (us : List Token) → F (u ∷ us) → is_sign text u ≡ true → Yields b (p (at b us)) (P (u ∷ us)))
    → (F ts → head_is (is_sign text) ts ≡ false → Yields b (q (at b ts)) (P ts))
    → Yields b ((if sees text (at b ts) then p else q) (after text (at b ts))) (P ts)
unfolding sees after next
by_eat F P text [] p q f x y = y f refl
by_eat {A} {b} F P text (u ∷ us) p q f x y = two_ways (is_sign text u) p q (at b us) (at b (u ∷ us)) (λ e. x u us f e) (λ e. y f e)

pub by_eat_here : {A : Type 0} {b : Input} {P : A → List Token → Type 0} (text : List ℕ) (t : Token) (ts : List Token) (p q : Reader A)
    → (is_sign text t ≡ true → Yields b (p (at b ts)) P) → (is_sign text t ≡ false → Yields b (q (at b (t ∷ ts))) P)
    → Yields b ((if sees text (at b (t ∷ ts)) then p else q) (after text (at b (t ∷ ts)))) P
unfolding sees after next
by_eat_here {A} {b} text t ts p q x y = two_ways (is_sign text t) p q (at b ts) (at b (t ∷ ts)) x y

passed_ways : {A : Type 0} {b : Input} {P : A → List Token → Type 0} (c : Bool) (i : Input) (go : Unit {0} → Reader A)
    → (c ≡ true → Yields b (go tt (next i)) P) → Yields b (and_then (passed c i) go) P
passed_ways true i go x = x refl
passed_ways false i go x = fails _

taken_ways : {A : Type 0} {b : Input} {P : A → List Token → Type 0} (c : Bool) (i : Input) (go : List ℕ → Reader A)
    → (c ≡ true → Yields b (go (spelling i) (next i)) P) → Yields b (and_then (consumed c i) go) P
taken_ways true i go x = x refl
taken_ways false i go x = fails _

pub by_passed : {A : Type 0} {b : Input} (F : List Token → Type 0) (P : List Token → A → List Token → Type 0) (test : Token → Bool) (ts : List Token)
    (go : Unit {0} → Reader A) → F ts → ((u : Token) (us : List Token) → F (u ∷ us) → test u ≡ true → Yields b (go tt (at b us)) (P (u ∷ us)))
    → Yields b (and_then (passed (head_is test ts) (at b ts)) go) (P ts)
unfolding next
by_passed F P test [] go f x = fails _
by_passed {A} {b} F P test (u ∷ us) go f x = passed_ways (test u) (at b (u ∷ us)) go (λ e. x u us f e)

pub by_taken : {A : Type 0} {b : Input} (F : List Token → Type 0) (P : List Token → A → List Token → Type 0) (test : Token → Bool) (ts : List Token)
    (go : List ℕ → Reader A) → F ts → ((u : Token) (us : List Token) → F (u ∷ us) → test u ≡ true → Yields b (go u.text (at b us)) (P (u ∷ us)))
    → Yields b (and_then (consumed (head_is test ts) (at b ts)) go) (P ts)
unfolding next spelling
by_taken F P test [] go f x = fails _
by_taken {A} {b} F P test (u ∷ us) go f x = taken_ways (test u) (at b (u ∷ us)) go (λ e. x u us f e)

pub by_expect : {A : Type 0} {b : Input} (F : List Token → Type 0) (P : List Token → A → List Token → Type 0) (text : List ℕ) (ts : List Token)
    (go : Unit {0} → Reader A) → F ts
    → ((u : Token) (us : List Token) → F (u ∷ us) → is_sign text u ≡ true → Yields b (go tt (at b us)) (P (u ∷ us)))
    → Yields b (and_then (expect text (at b ts)) go) (P ts)
unfolding expect sees
by_expect F P text ts go f x = by_passed F P (is_sign text) ts go f x

pub by_word : {A : Type 0} {b : Input} (F : List Token → Type 0) (P : List Token → A → List Token → Type 0) (text : List ℕ) (ts : List Token)
    (go : Unit {0} → Reader A) → F ts
    → ((u : Token) (us : List Token) → F (u ∷ us) → is_word text u ≡ true → Yields b (go tt (at b us)) (P (u ∷ us)))
    → Yields b (and_then (expect_word text (at b ts)) go) (P ts)
unfolding expect_word sees_word
by_word F P text ts go f x = by_passed F P (is_word text) ts go f x

pub by_name : {A : Type 0} {b : Input} (F : List Token → Type 0) (P : List Token → A → List Token → Type 0) (ts : List Token) (go : List ℕ → Reader A)
    → F ts → ((u : Token) (us : List Token) → F (u ∷ us) → is_name u ≡ true → Yields b (go u.text (at b us)) (P (u ∷ us)))
    → Yields b (and_then (a_name (at b ts)) go) (P ts)
unfolding a_name sees_name
by_name F P ts go f x = by_taken F P is_name ts go f x

pub by_variable : {A : Type 0} {b : Input} (F : List Token → Type 0) (P : List Token → A → List Token → Type 0) (ts : List Token) (go : List ℕ → Reader A)
    → F ts → ((u : Token) (us : List Token) → F (u ∷ us) → is_variable b.types u ≡ true → Yields b (go u.text (at b us)) (P (u ∷ us)))
    → Yields b (and_then (a_variable (at b ts)) go) (P ts)
unfolding a_variable sees_variable
by_variable {A} {b} F P ts go f x = by_taken F P (is_variable b.types) ts go f x

pub by_variable_here : {A : Type 0} {b : Input} {P : A → List Token → Type 0} (t : Token) (ts : List Token) (go : List ℕ → Reader A)
    → (is_variable b.types t ≡ true → Yields b (go t.text (at b ts)) P) → Yields b (and_then (a_variable (at b (t ∷ ts))) go) P
unfolding a_variable sees_variable next spelling
by_variable_here {A} {b} t ts go x = taken_ways (is_variable b.types t) (at b (t ∷ ts)) go x

pub by_word_here : {A : Type 0} {b : Input} {P : A → List Token → Type 0} (text : List ℕ) (t : Token) (ts : List Token) (go : Unit {0} → Reader A)
    → (is_word text t ≡ true → Yields b (go tt (at b ts)) P) → Yields b (and_then (expect_word text (at b (t ∷ ts))) go) P
unfolding expect_word sees_word next
by_word_here {A} {b} text t ts go x = passed_ways (is_word text t) (at b (t ∷ ts)) go x

-- ---- lists that are read one by one

-- What was found goes on from what was there, and what is added has this property.
pub record Adds {T : Type 0} (S : List T → List Token → List Token → Type 0) (sofar : List T) (ts : List Token) (found : List T) (us
    : List Token) : Type 0 where
  pub added : List T
  pub is : found ≡ sofar ++ added
  pub stands : S added ts us

pub adds_none : {T : Type 0} {S : List T → List Token → List Token → Type 0} (sofar : List T) {ts us : List Token} → S [] ts us → Adds S sofar ts sofar us
adds_none sofar x = record { added = []; is = sym (append-nil sofar); stands = x }

pub adds_last : {T : Type 0} {S : List T → List Token → List Token → Type 0} (sofar : List T) (one : T) {ts us : List Token} → S (one ∷ []) ts us
    → Adds S sofar ts (sofar ++ one ∷ []) us
adds_last sofar one x = record { added = one ∷ []; is = refl; stands = x }

pub adds_more : {T : Type 0} {R S : List T → List Token → List Token → Type 0} (sofar : List T) (one : T) {ts us vs : List Token} {found : List T}
    → Adds R (sofar ++ one ∷ []) us found vs → ((added : List T) → R added us vs → S (one ∷ added) ts vs) → Adds S sofar ts found vs
adds_more sofar one m go = record { added = one ∷ m.added; is = m.is ∙ append_assoc sofar (one ∷ []) m.added; stands = go m.added m.stands }

pub adds_all : {T : Type 0} {S : List T → List Token → List Token → Type 0} {ts us : List Token} {found : List T} → Adds S [] ts found us → S found ts us
adds_all m = rw (m.is) (m.stands)
