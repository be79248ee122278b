-- What is collected of the parts of a node, and then of the node, is the least of its faults. The
-- nodes are any; each form of the language is one use of the lemmas at the end.
use Rattle.std.proofs.Common.{◌≡◌, ◌⊎◌, inl, inr, ℕ, zero, suc, Bool, true, false, cond, List, [], ◌∷◌, Some, None, slice_get, refl, sym, ap, ◌∙◌, subst, arith}
use Rattle.std.proofs.lemmas.Option.{same_Some}
use Rattle.xs_base.specs.declared.fault.Fault.{Fault}
use Rattle.xs_ctypes.specs.Checked.{Checked, Good, Bad, behind, both, is_before, four, lesser, three}
use Rattle.xs_ccheck.specs.FaultSet.{Node, parts, own, IsSound, sound, AreSound, no_more, one_more, IsFault, here, within, IsLeftOf, StandsBefore}
use Rattle.xs_ccheck.proofs.FaultOrder.{before_on, before_trans, told_before, told_behind}

-- ---- faults of nodes that stand from left to right

-- a fault of one of these nodes; the way to it begins with the index of the node
abbrev pub FaultAmong : List Node → List ℕ → Fault → Type 0
FaultAmong [] way f = ⊥
FaultAmong (n ∷ ns) [] f = ⊥
FaultAmong (n ∷ ns) (zero ∷ way) f = IsFault n way f
FaultAmong (n ∷ ns) (suc i ∷ way) f = FaultAmong ns (i ∷ way) f

pub among : (ns : List Node) (i : ℕ) (n : Node) (way : List ℕ) (f : Fault) → slice_get ns i ≡ Some n → IsFault n way f → FaultAmong ns (i ∷ way) f
among [] i n way f e h = absurd cc
among (m ∷ ns) zero n way f e h = subst (λ x. IsFault x way f) (sym (same_Some m n e)) h
among (m ∷ ns) (suc i) n way f e h = among ns i n way f e h

record PartAt (ns : List Node) (i : ℕ) (way : List ℕ) (f : Fault) : Type 0 where
  node : Node
  is_part : slice_get ns i ≡ Some node
  is_fault : IsFault node way f

part_at : (ns : List Node) (i : ℕ) (way : List ℕ) (f : Fault) → FaultAmong ns (i ∷ way) f → PartAt ns i way f
part_at [] i way f h = absurd h
part_at (n ∷ ns) zero way f h = record { node = n; is_part = refl; is_fault = h }
part_at (n ∷ ns) (suc i) way f h = let r = part_at ns i way f h in record { node = r.node; is_part = r.is_part; is_fault = r.is_fault }

no_way : (ns : List Node) (f : Fault) → FaultAmong ns [] f → ⊥
no_way [] f h = h
no_way (n ∷ ns) f h = h

-- a fault of the parts is one of the node
of_parts : (n : Node) (way : List ℕ) (f : Fault) → FaultAmong (parts n) way f → IsFault n way f
of_parts n [] f h = absurd (no_way (parts n) f h)
of_parts n (i ∷ way) f h = let r = part_at (parts n) i way f h in within r.is_part r.is_fault

-- ---- what is sound has no fault

mutual
  pub sound_without : {n : Node} → IsSound n → (way : List ℕ) (f : Fault) → IsFault n way f → ⊥
  sound_without (sound all none) way f (here all1 some) = absurd cc
  sound_without (sound all none) way f (within {i = i} {way = rest} part h) = all_without all way f (among _ i _ rest f part h)

  pub all_without : {ns : List Node} → AreSound ns → (way : List ℕ) (f : Fault) → FaultAmong ns way f → ⊥
  all_without no_more way f h = h
  all_without (one_more s rest) [] f h = h
  all_without (one_more s rest) (zero ∷ way) f h = sound_without s way f h
  all_without (one_more s rest) (suc i ∷ way) f h = all_without rest (i ∷ way) f h

-- ---- the first of some faults

-- a fault is another one, or stands before it
abbrev pub IsUpTo : Fault → List ℕ → Fault → List ℕ → Type 0
IsUpTo f p g q = StandsBefore f p g q ⊎ ((f ≡ g) × (p ≡ q))

pub record IsFirst (Has : List ℕ → Fault → Type 0) (f : Fault) : Type 0 where
  pub way : List ℕ
  pub has : Has way f
  pub others : (q : List ℕ) (g : Fault) → Has q g → IsUpTo f way g q

up_to_on : (f g : Fault) (p q r s : List ℕ) → (IsLeftOf p q → IsLeftOf r s) → (p ≡ q → r ≡ s) → IsUpTo f p g q → IsUpTo f r g s
up_to_on f g p q r s on same (inl a) = inl (before_on f g p q r s on a)
up_to_on f g p q r s on same (inr (e, d)) = inr (e, same d)

after_up_to : (f g h : Fault) (p q r : List ℕ) → StandsBefore f p g q → IsUpTo g q h r → StandsBefore f p h r
after_up_to f g h p q r a (inl b) = before_trans f g h p q r a b
after_up_to f g h p q r a (inr (e, d)) = subst (λ x. StandsBefore f p x r) e (subst (λ x. StandsBefore f p g x) d a)

-- the way to a part of a list, where one node stands before it
later : List ℕ → List ℕ
later [] = []
later (i ∷ way) = suc i ∷ way

has_later : (n : Node) (ns : List Node) (way : List ℕ) (f : Fault) → FaultAmong ns way f → FaultAmong (n ∷ ns) (later way) f
unfolding later
has_later n ns [] f h = no_way ns f h
has_later n ns (i ∷ way) f h = h

later_up_to : (f g : Fault) (p : List ℕ) (i : ℕ) (q : List ℕ) → IsUpTo f p g (i ∷ q) → IsUpTo f (later p) g (suc i ∷ q)
unfolding later
later_up_to f g [] i q h = up_to_on f g [] (i ∷ q) [] (suc i ∷ q) (λ a. a) (λ e. absurd cc) h
later_up_to f g (j ∷ p) i q h = up_to_on f g (j ∷ p) (i ∷ q) (suc j ∷ p) (suc i ∷ q) left (λ e. ap later e) h
  where
    left : IsLeftOf (j ∷ p) (i ∷ q) → IsLeftOf (suc j ∷ p) (suc i ∷ q)
    left (inl a) = inl (omega arith)
    left (inr (e, b)) = inr (ap suc e, b)

-- the left one stands in the first node, the other one behind it
left_later : (p q : List ℕ) (i : ℕ) → IsLeftOf (zero ∷ p) (suc i ∷ q)
left_later p q i = inl (omega arith)

first_up_to : (f g : Fault) (p q : List ℕ) → IsUpTo f p g q → IsUpTo f (zero ∷ p) g (zero ∷ q)
first_up_to f g p q h = up_to_on f g p q (zero ∷ p) (zero ∷ q) (λ a. inr (refl, a)) (λ e. ap (λ x. zero ∷ x) e) h

module _ (n : Node) (ns : List Node) where
  -- the first node alone has a fault
  in_first : (f : Fault) → IsFirst (IsFault n) f → AreSound ns → IsFirst (FaultAmong (n ∷ ns)) f
  in_first f a rest = record { way = zero ∷ a.way; has = a.has; others = others }
    where
      others : (q : List ℕ) (g : Fault) → FaultAmong (n ∷ ns) q g → IsUpTo f (zero ∷ a.way) g q
      others [] g h = absurd h
      others (zero ∷ q) g h = first_up_to f g a.way q (a.others q g h)
      others (suc i ∷ q) g h = absurd (all_without rest (i ∷ q) g h)

  -- the others alone have one
  in_rest : (g : Fault) → IsSound n → IsFirst (FaultAmong ns) g → IsFirst (FaultAmong (n ∷ ns)) g
  in_rest g s b = record { way = later b.way; has = has_later n ns b.way g b.has; others = others }
    where
      others : (q : List ℕ) (h : Fault) → FaultAmong (n ∷ ns) q h → IsUpTo g (later b.way) h q
      others [] h k = absurd k
      others (zero ∷ q) h k = absurd (sound_without s q h k)
      others (suc i ∷ q) h k = later_up_to g h b.way i q (b.others (i ∷ q) h k)

  -- a fault of the first node stands before one of the others that the test does not put first
  head_before : (f g : Fault) → is_before g f ≡ false → (p way : List ℕ) → FaultAmong ns way g → StandsBefore f (zero ∷ p) g (later way)
  unfolding later
  head_before f g not_before p [] has = absurd (no_way ns g has)
  head_before f g not_before p (i ∷ way) has = told_behind g f (suc i ∷ way) (zero ∷ p) not_before (left_later p way i)

  -- both have one, and that of the first node is told
  first_told : (f g : Fault) → is_before g f ≡ false → IsFirst (IsFault n) f → IsFirst (FaultAmong ns) g → IsFirst (FaultAmong (n ∷ ns)) f
  first_told f g not_before a b = record { way = zero ∷ a.way; has = a.has; others = others }
    where
      others : (q : List ℕ) (h : Fault) → FaultAmong (n ∷ ns) q h → IsUpTo f (zero ∷ a.way) h q
      others [] h k = absurd k
      others (zero ∷ q) h k = first_up_to f h a.way q (a.others q h k)
      others (suc i ∷ q) h k =
          inl (after_up_to f g h (zero ∷ a.way) (later b.way) (suc i ∷ q) (head_before f g not_before a.way b.way b.has)
          (later_up_to g h b.way i q (b.others (i ∷ q) h k)))

  -- both have one, and that of the others is told
  rest_told : (f g : Fault) → is_before g f ≡ true → IsFirst (IsFault n) f → IsFirst (FaultAmong ns) g → IsFirst (FaultAmong (n ∷ ns)) g
  rest_told f g before a b = record { way = later b.way; has = has_later n ns b.way g b.has; others = others }
    where
      others : (q : List ℕ) (h : Fault) → FaultAmong (n ∷ ns) q h → IsUpTo g (later b.way) h q
      others [] h k = absurd k
      others (zero ∷ q) h k =
          inl (after_up_to g f h (later b.way) (zero ∷ a.way) (zero ∷ q) (told_before g f (later b.way) (zero ∷ a.way) before)
          (first_up_to f h a.way q (a.others q h k)))
      others (suc i ∷ q) h k = later_up_to g h b.way i q (b.others (i ∷ q) h k)

  both_first : (f g : Fault) → IsFirst (IsFault n) f → IsFirst (FaultAmong ns) g → IsFirst (FaultAmong (n ∷ ns)) (lesser f g)
  both_first f g a b = by (is_before g f) refl
    where
      by : (t : Bool) → is_before g f ≡ t → IsFirst (FaultAmong (n ∷ ns)) (lesser f g)
      by true e = subst (λ x. IsFirst (FaultAmong (n ∷ ns)) (cond x g f)) (sym e) (rest_told f g e a b)
      by false e = subst (λ x. IsFirst (FaultAmong (n ∷ ns)) (cond x g f)) (sym e) (first_told f g e a b)

-- ---- what is said of nodes

-- An answer for a node is right: the node is sound and the answer is as it should be, or its first
-- fault is told.
abbrev SaysOf : {A : Type 0} → Node → (A → Type 0) → Checked A → Type 0
SaysOf n As (Good a) = IsSound n × As a
SaysOf n As (Bad f) = IsFirst (IsFault n) f

pub record Says {A : Type 0} (n : Node) (As : A → Type 0) (r : Checked A) : Type 0 where
  pub says : SaysOf n As r

-- the same of nodes that stand from left to right
abbrev SaysAllOf : {A : Type 0} → List Node → (A → Type 0) → Checked A → Type 0
SaysAllOf ns As (Good a) = AreSound ns × As a
SaysAllOf ns As (Bad f) = IsFirst (FaultAmong ns) f

pub record SaysAll {A : Type 0} (ns : List Node) (As : A → Type 0) (r : Checked A) : Type 0 where
  pub says : SaysAllOf ns As r

-- what a node's rule gives: the node has no fault of its own, or this one
abbrev pub OwnSays : {A : Type 0} → Node → (A → Type 0) → Checked A → Type 0
OwnSays n As (Good a) = (own n ≡ None) × As a
OwnSays n As (Bad f) = own n ≡ Some f

-- ---- lists of nodes

pub says_none : {A : Type 0} (As : A → Type 0) (a : A) → As a → SaysAll [] As (Good a)
says_none As a h = record { says = (no_more, h) }

-- a node before others
pub says_more : {A B C : Type 0} (n : Node) (ns : List Node) (P : A → Type 0) (Q : B → Type 0) (R : C → Type 0) (k : A → B → C) (r : Checked A) (s : Checked B)
    → ((a : A) (b : B) → P a → Q b → R (k a b)) → Says n P r → SaysAll ns Q s → SaysAll (n ∷ ns) R (both r s (λ a b. Good (k a b)))
says_more n ns P Q R k (Good a) (Good b) give h g = record { says = (one_more h.says.0 g.says.0, give a b h.says.1 g.says.1) }
says_more n ns P Q R k (Good a) (Bad e) give h g = record { says = in_rest n ns e h.says.0 g.says }
says_more n ns P Q R k (Bad f) (Good b) give h g = record { says = in_first n ns f h.says g.says.0 }
says_more n ns P Q R k (Bad f) (Bad e) give h g = record { says = both_first n ns f e h.says g.says }

-- one node alone
pub says_alone : {A : Type 0} (n : Node) (P : A → Type 0) (r : Checked A) → Says n P r → SaysAll (n ∷ []) P r
says_alone n P (Good a) h = record { says = (one_more h.says.0 no_more, h.says.1) }
says_alone n P (Bad f) h = record { says = in_first n [] f h.says no_more }

-- ---- a node of parts

own_first : (n : Node) (f : Fault) → AreSound (parts n) → own n ≡ Some f → IsFirst (IsFault n) f
own_first n f all e = record { way = []; has = here all e; others = λ q g h. others q g h all e }
  where
    others : {n : Node} (q : List ℕ) (g : Fault) → IsFault n q g → AreSound (parts n) → own n ≡ Some f → IsUpTo f [] g q
    others q g (here all1 d) all e = inr (same_Some f g (sym e ∙ d), refl)
    others q g (within {i = i} {way = way} part h) all e = absurd (all_without all (i ∷ way) g (among _ i _ way g part h))

parts_first : (n : Node) (f : Fault) → IsFirst (FaultAmong (parts n)) f → IsFirst (IsFault n) f
parts_first n f a = record { way = a.way; has = of_parts n a.way f a.has; others = λ q g h. others q g h a }
  where
    others : {n : Node} (q : List ℕ) (g : Fault) → IsFault n q g → (a : IsFirst (FaultAmong (parts n)) f) → IsUpTo f a.way g q
    others q g (here all d) a = absurd (all_without all a.way f a.has)
    others q g (within {i = i} {way = way} part h) a = a.others (i ∷ way) g (among _ i _ way g part h)

-- THE LEMMA of all forms: what is said of a node by its rule behind what is said of its parts
pub says_node : {A B : Type 0} (n : Node) (P : A → Type 0) (Q : B → Type 0) (r : Checked A) (k : A → Checked B)
    → SaysAll (parts n) P r → ((a : A) → P a → OwnSays n Q (k a)) → Says n Q (behind r k)
says_node {A} {B} n P Q (Bad f) k h rule = record { says = parts_first n f h.says }
says_node {A} {B} n P Q (Good a) k h rule = by (k a) (rule a h.says.1)
  where
    by : (c : Checked B) → OwnSays n Q c → Says n Q c
    by (Good b) o = record { says = (sound h.says.0 o.0, o.1) }
    by (Bad f) o = record { says = own_first n f h.says.0 o }

-- ---- nodes of few parts

pub says_leaf : {B : Type 0} (n : Node) (Q : B → Type 0) (c : Checked B) → parts n ≡ [] → OwnSays n Q c → Says n Q c
says_leaf n Q c e o =
    says_node n (λ (u : Unit {0}). Unit {0}) Q (Good tt) (λ u. c) (subst (λ ns. SaysAll ns (λ (u : Unit {0}). Unit {0}) (Good tt)) (sym e) (says_none _ tt tt))
    (λ u t. o)

pub says_one : {A B : Type 0} (n m : Node) (P : A → Type 0) (Q : B → Type 0) (r : Checked A) (k : A → Checked B) → parts n ≡ m ∷ []
    → Says m P r → ((a : A) → P a → OwnSays n Q (k a)) → Says n Q (behind r k)
says_one n m P Q r k e h rule = says_node n P Q r k (subst (λ ns. SaysAll ns P r) (sym e) (says_alone m P r h)) rule

pub both_behind : {A B C : Type 0} (r : Checked A) (s : Checked B) (k : A → B → Checked C)
    → behind (both {C = A × B} r s (λ a b. Good (a, b))) (λ p. k p.0 p.1) ≡ both r s k
both_behind (Good a) (Good b) k = refl
both_behind (Good a) (Bad g) k = refl
both_behind (Bad f) (Good b) k = refl
both_behind (Bad f) (Bad g) k = refl

pub says_two : {A B C : Type 0} (n m1 m2 : Node) (P : A → Type 0) (Q : B → Type 0) (R : C → Type 0) (r : Checked A) (s : Checked B) (k : A → B → Checked C)
    → parts n ≡ m1 ∷ m2 ∷ [] → Says m1 P r → Says m2 Q s → ((a : A) (b : B) → P a → Q b → OwnSays n R (k a b)) → Says n R (both r s k)
says_two {A} {B} {C} n m1 m2 P Q R r s k e h g rule =
    let pairs : Checked (A × B) = both {C = A × B} r s (λ a b. Good (a, b)) in
    let are : A × B → Type 0 = λ p. P p.0 × Q p.1 in
    subst (λ c. Says n R c) (both_behind r s k)
    (says_node n are R pairs (λ p. k p.0 p.1)
    (subst (λ ns. SaysAll ns are pairs) (sym e) (says_more m1 (m2 ∷ []) P Q are (λ a b. (a, b)) r s (λ a b p q. (p, q)) h (says_alone m2 Q s g)))
    (λ p h. rule p.0 p.1 h.0 h.1))

pub says_three : {A B C D : Type 0} (n m1 m2 m3 : Node) (P : A → Type 0) (Q : B → Type 0) (R : C → Type 0) (T : D → Type 0) (r : Checked A)
    (s : Checked B) (t : Checked C) (k : A → B → C → Checked D) → parts n ≡ m1 ∷ m2 ∷ m3 ∷ [] → Says m1 P r → Says m2 Q s → Says m3 R t
    → ((a : A) (b : B) (c : C) → P a → Q b → R c → OwnSays n T (k a b c)) → Says n T (three r s t k)
says_three {A} {B} {C} {D} n m1 m2 m3 P Q R T r s t k e h g i rule =
    let pairs : Checked (B × C) = both {C = B × C} s t (λ b c. Good (b, c)) in
    let all : Checked (A × (B × C)) = both {C = A × (B × C)} r pairs (λ a p. Good (a, p)) in
    let two : B × C → Type 0 = λ p. Q p.0 × R p.1 in
    let are : A × (B × C) → Type 0 = λ p. P p.0 × two p.1 in
    subst (λ c. Says n T c) (both_behind r pairs (λ a p. k a p.0 p.1))
    (says_node n are T all (λ p. k p.0 p.1.0 p.1.1)
    (subst (λ ns. SaysAll ns are all) (sym e)
    (says_more m1 (m2 ∷ m3 ∷ []) P two are (λ a p. (a, p)) r pairs (λ a p x y. (x, y)) h
    (says_more m2 (m3 ∷ []) Q R two (λ b c. (b, c)) s t (λ b c x y. (x, y)) g (says_alone m3 R t i))))
    (λ p x. rule p.0 p.1.0 p.1.1 x.0 x.1.0 x.1.1))

pub says_four : {A B C D E : Type 0} (n m1 m2 m3 m4 : Node) (P : A → Type 0) (Q : B → Type 0) (R : C → Type 0) (S : D → Type 0) (T : E → Type 0)
    (r : Checked A) (s : Checked B) (t : Checked C) (u : Checked D) (k : A → B → C → D → Checked E) → parts n ≡ m1 ∷ m2 ∷ m3 ∷ m4 ∷ []
    → Says m1 P r → Says m2 Q s → Says m3 R t → Says m4 S u
    → ((a : A) (b : B) (c : C) (d : D) → P a → Q b → R c → S d → OwnSays n T (k a b c d)) → Says n T (four r s t u k)
says_four {A} {B} {C} {D} {E} n m1 m2 m3 m4 P Q R S T r s t u k e h g i j rule =
    let pairs : Checked (C × D) = both {C = C × D} t u (λ c d. Good (c, d)) in
    let triples : Checked (B × (C × D)) = three {D = B × (C × D)} s t u (λ b c d. Good (b, (c, d))) in
    let all : Checked (A × (B × (C × D))) = both {C = A × (B × (C × D))} r triples (λ a p. Good (a, p)) in
    let two : C × D → Type 0 = λ p. R p.0 × S p.1 in
    let last : B × (C × D) → Type 0 = λ p. Q p.0 × two p.1 in
    let are : A × (B × (C × D)) → Type 0 = λ p. P p.0 × last p.1 in
    subst (λ c. Says n T c) (both_behind r triples (λ a p. k a p.0 p.1.0 p.1.1))
    (says_node n are T all (λ p. k p.0 p.1.0 p.1.1.0 p.1.1.1)
    (subst (λ ns. SaysAll ns are all) (sym e)
    (says_more m1 (m2 ∷ m3 ∷ m4 ∷ []) P last are (λ a p. (a, p)) r triples (λ a p x y. (x, y)) h
    (says_more m2 (m3 ∷ m4 ∷ []) Q two last (λ b p. (b, (p.0, p.1))) s pairs (λ b p x y. (x, y)) g
    (says_more m3 (m4 ∷ []) R S two (λ c d. (c, d)) t u (λ c d x y. (x, y)) i (says_alone m4 S u j)))))
    (λ p x. rule p.0 p.1.0 p.1.1.0 p.1.1.1 x.0 x.1.0 x.1.1.0 x.1.1.1))
