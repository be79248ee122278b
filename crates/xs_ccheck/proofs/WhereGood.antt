-- What holds of a part of a file where it is good.
use Rattle.std.proofs.Common.{ℕ, Bool, true, false, cond, List}
use Rattle.xs_ctypes.specs.Checked.{Checked, Good, Bad, behind, both, three, Judged, Fine, Wrong, judged}

abbrev pub OfGood : {A : Type 0} → (A → Type 0) → Checked A → Type 0
OfGood P (Good a) = P a
OfGood P (Bad f) = Unit {0}

pub record WhereGood {A : Type 0} (P : A → Type 0) (r : Checked A) : Type 0 where
  pub good : OfGood P r

abbrev pub WhereFine : {A : Type 0} → (A → Type 0) → Judged A → Type 0
WhereFine P (Fine a) = P a
WhereFine P (Wrong code word) = Unit {0}

pub judged_good : {A : Type 0} (P : A → Type 0) (line : ℕ) (j : Judged A) → WhereFine P j → WhereGood P (judged line j)
judged_good P line (Fine a) h = record { good = h }
judged_good P line (Wrong code word) h = record { good = tt }

pub behind_good : {A B : Type 0} (P : A → Type 0) (Q : B → Type 0) (r : Checked A) (k : A → Checked B) → WhereGood P r → ((a : A) → P a → WhereGood Q (k a))
    → WhereGood Q (behind r k)
behind_good P Q (Good a) k h next = next a h.good
behind_good P Q (Bad f) k h next = record { good = tt }

pub both_good : {A B C : Type 0} (P : A → Type 0) (Q : B → Type 0) (R : C → Type 0) (r : Checked A) (s : Checked B) (k : A → B → Checked C) → WhereGood P r
    → WhereGood Q s → ((a : A) (b : B) → P a → Q b → WhereGood R (k a b)) → WhereGood R (both r s k)
both_good P Q R (Good a) (Good b) k h g next = next a b h.good g.good
both_good P Q R (Good a) (Bad e) k h g next = record { good = tt }
both_good P Q R (Bad f) (Good b) k h g next = record { good = tt }
both_good P Q R (Bad f) (Bad e) k h g next = record { good = tt }

pub three_good : {A B C D : Type 0} (P : A → Type 0) (Q : B → Type 0) (R : C → Type 0) (T : D → Type 0) (r : Checked A) (s : Checked B) (t : Checked C)
    (k : A → B → C → Checked D) → WhereGood P r → WhereGood Q s → WhereGood R t
    → ((a : A) (b : B) (c : C) → P a → Q b → R c → WhereGood T (k a b c)) → WhereGood T (three r s t k)
three_good {A} {B} {C} P Q R T r s t k h g i next =
    both_good P (λ (p : B × C). Q p.0 × R p.1) T r (both {C = B × C} s t (λ b c. Good (b, c))) (λ a p. k a p.0 p.1) h
    (both_good Q R (λ (p : B × C). Q p.0 × R p.1) s t (λ b c. Good (b, c)) g i (λ b c x y. record { good = (x, y) }))
    (λ a p x y. next a p.0 p.1 x y.0 y.1)

-- nothing is asked of a part
pub anything : {A : Type 0} (r : Checked A) → WhereGood (λ (a : A). Unit {0}) r
anything (Good a) = record { good = tt }
anything (Bad f) = record { good = tt }

-- ---- rules that end in a test

pub fine_by : {A : Type 0} (P : A → Type 0) (b : Bool) (j : Judged A) (code : ℕ) (word : List ℕ) → WhereFine P j → WhereFine P (cond b j (Wrong code word))
fine_by P true j code word h = h
fine_by P false j code word h = tt

pub either_fine : {A : Type 0} (P : A → Type 0) (b : Bool) (j k : Judged A) → WhereFine P j → WhereFine P k → WhereFine P (cond b j k)
either_fine P true j k h g = h
either_fine P false j k h g = g

pub fine_unless : {A : Type 0} (P : A → Type 0) (b : Bool) (j : Judged A) (code : ℕ) (word : List ℕ) → WhereFine P j
    → WhereFine P (cond b (Wrong code word) j)
fine_unless P true j code word h = tt
fine_unless P false j code word h = h

pub two_wrongs : {A : Type 0} (P : A → Type 0) (b : Bool) (m n : ℕ) (v w : List ℕ) → WhereFine P (cond b (Wrong m v) (Wrong n w))
two_wrongs P true m n v w = tt
two_wrongs P false m n v w = tt
