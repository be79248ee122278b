-- Of two faults one stands before the other, and the test of the definition tells which.
use Rattle.std.proofs.Common.{◌≡◌, ◌<◌, ◌⊎◌, inl, inr, ℕ, Bool, true, false, List, [], ◌∷◌, sym, ◌∙◌, subst, arith}
use Rattle.std.specs.Prelude.{◌&&◌, ◌||◌, not, nat_eq, nat_lt}
use Rattle.std.proofs.lemmas.Bool.Decides.{nat_tests}
use Rattle.xs_base.specs.declared.fault.Fault.{Fault}
use Rattle.xs_ctypes.specs.Checked.{is_before}
use Rattle.xs_ccheck.specs.FaultSet.{IsEarlier, IsLeftOf, StandsBefore}

-- ---- lines

earlier_trans : (l m n : ℕ) → IsEarlier l m → IsEarlier m n → IsEarlier l n
earlier_trans l m n (h, inl e) (k, d) = absurd (omega arith)
earlier_trans l m n (h, inr a) (k, inl e) = (h, inl e)
earlier_trans l m n (h, inr a) (k, inr b) = (h, inr (omega arith))

earlier_not : (l m : ℕ) → IsEarlier l m → IsEarlier m l → ⊥
earlier_not l m (h, inl e) (k, d) = omega arith
earlier_not l m (h, inr a) (k, inl e) = omega arith
earlier_not l m (h, inr a) (k, inr b) = omega arith

earlier_self : (l : ℕ) → IsEarlier l l → ⊥
earlier_self l h = earlier_not l l h h

-- ---- ways

left_trans : (p q r : List ℕ) → IsLeftOf p q → IsLeftOf q r → IsLeftOf p r
left_trans [] q r h k = absurd h
left_trans (i ∷ p) [] r h k = absurd h
left_trans (i ∷ p) (j ∷ q) [] h k = absurd k
left_trans (i ∷ p) (j ∷ q) (m ∷ r) (inl a) (inl b) = inl (omega arith)
left_trans (i ∷ p) (j ∷ q) (m ∷ r) (inl a) (inr b) = inl (subst (λ x. i < x) b.0 a)
left_trans (i ∷ p) (j ∷ q) (m ∷ r) (inr a) (inl b) = inl (subst (λ x. x < m) (sym a.0) b)
left_trans (i ∷ p) (j ∷ q) (m ∷ r) (inr a) (inr b) = inr (a.0 ∙ b.0, left_trans p q r a.1 b.1)

left_not : (p q : List ℕ) → IsLeftOf p q → IsLeftOf q p → ⊥
left_not [] q h k = h
left_not (i ∷ p) [] h k = h
left_not (i ∷ p) (j ∷ q) (inl a) (inl b) = omega arith
left_not (i ∷ p) (j ∷ q) (inl a) (inr b) = let e = b.0 in omega arith
left_not (i ∷ p) (j ∷ q) (inr a) (inl b) = let e = a.0 in omega arith
left_not (i ∷ p) (j ∷ q) (inr a) (inr b) = left_not p q a.1 b.1

-- ---- faults

pub before_trans : (f g h : Fault) (p q r : List ℕ) → StandsBefore f p g q → StandsBefore g q h r → StandsBefore f p h r
before_trans f g h p q r (inl a) (inl b) = inl (earlier_trans f.line g.line h.line a b)
before_trans f g h p q r (inl a) (inr b) = inl (subst (λ x. IsEarlier f.line x) b.0 a)
before_trans f g h p q r (inr a) (inl b) = inl (subst (λ x. IsEarlier x h.line) (sym a.0) b)
before_trans f g h p q r (inr a) (inr b) = inr (a.0 ∙ b.0, codes a.1 b.1)
  where
    codes : (f.code < g.code) ⊎ ((f.code ≡ g.code) × IsLeftOf p q) → (g.code < h.code) ⊎ ((g.code ≡ h.code) × IsLeftOf q r)
        → (f.code < h.code) ⊎ ((f.code ≡ h.code) × IsLeftOf p r)
    codes (inl c) (inl d) = inl (omega arith)
    codes (inl c) (inr d) = inl (subst (λ x. f.code < x) d.0 c)
    codes (inr c) (inl d) = inl (subst (λ x. x < h.code) (sym c.0) d)
    codes (inr c) (inr d) = inr (c.0 ∙ d.0, left_trans p q r c.1 d.1)

pub before_not : (f g : Fault) (p q : List ℕ) → StandsBefore f p g q → StandsBefore g q f p → ⊥
before_not f g p q (inl a) (inl b) = earlier_not f.line g.line a b
before_not f g p q (inl a) (inr b) = earlier_self f.line (subst (λ x. IsEarlier f.line x) b.0 a)
before_not f g p q (inr a) (inl b) = earlier_self g.line (subst (λ x. IsEarlier g.line x) a.0 b)
before_not f g p q (inr a) (inr b) = codes a.1 b.1
  where
    codes : (f.code < g.code) ⊎ ((f.code ≡ g.code) × IsLeftOf p q) → (g.code < f.code) ⊎ ((g.code ≡ f.code) × IsLeftOf q p) → ⊥
    codes (inl c) (inl d) = omega arith
    codes (inl c) (inr d) = let e = d.0 in omega arith
    codes (inr c) (inl d) = let e = c.0 in omega arith
    codes (inr c) (inr d) = left_not p q c.1 d.1

-- other ways in the same order
pub before_on : (f g : Fault) (p q r s : List ℕ) → (IsLeftOf p q → IsLeftOf r s) → StandsBefore f p g q → StandsBefore f r g s
before_on f g p q r s on (inl a) = inl a
before_on f g p q r s on (inr (e, inl c)) = inr (e, inl c)
before_on f g p q r s on (inr (e, inr (d, left))) = inr (e, inr (d, on left))

-- ---- the test of the definition

-- what a test of lines and codes says
Tells : ℕ → ℕ → ℕ → ℕ → Type 0
Tells l m c d = IsEarlier l m ⊎ ((l ≡ m) × (c < d))

abbrev test : ℕ → ℕ → ℕ → ℕ → Bool
test l m c d = (not (nat_eq l 0) && (nat_eq m 0 || nat_lt l m)) || (nat_eq l m && nat_lt c d)

test_yes : (l m c d : ℕ) → test l m c d ≡ true → Tells l m c d
unfolding Tells
test_yes l m c d h = grind (arith, nat_tests)

test_no : (l m c d : ℕ) → test l m c d ≡ false → IsEarlier m l ⊎ ((m ≡ l) × ((d < c) ⊎ (d ≡ c)))
test_no l m c d h = grind (arith, nat_tests)

pub told_before : (f g : Fault) (p q : List ℕ) → is_before f g ≡ true → StandsBefore f p g q
unfolding Tells
told_before f g p q h = of (test_yes f.line g.line f.code g.code h)
  where
    of : IsEarlier f.line g.line ⊎ ((f.line ≡ g.line) × (f.code < g.code)) → StandsBefore f p g q
    of (inl a) = inl a
    of (inr a) = inr (a.0, inl a.1)

pub told_behind : (f g : Fault) (p q : List ℕ) → is_before f g ≡ false → IsLeftOf q p → StandsBefore g q f p
told_behind f g p q h left = of (test_no f.line g.line f.code g.code h)
  where
    of : IsEarlier g.line f.line ⊎ ((g.line ≡ f.line) × ((g.code < f.code) ⊎ (g.code ≡ f.code))) → StandsBefore g q f p
    of (inl a) = inl a
    of (inr (e, inl c)) = inr (e, inl c)
    of (inr (e, inr d)) = inr (e, inr (d, left))
