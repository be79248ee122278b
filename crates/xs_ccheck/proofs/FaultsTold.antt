-- The answer of the types stage is the least fault of the file, or there is none.
use Rattle.std.proofs.Common.{◌≡◌, ◌<◌, ◌⊎◌, ◌↔◌, inl, inr, ℕ, List, ◌∷◌, Some, Ok, Err, slice_get, refl, sym, ap, ap₂, ◌∙◌, subst, arith}
use Rattle.std.proofs.lemmas.Option.{same_Some}
use Rattle.xs_base.specs.declared.fault.Fault.{Fault}
use Rattle.xs_csyn.specs.FileTree.{FileTree}
use Rattle.xs_ctree.specs.TypedTree.{Code}
use Rattle.xs_ctypes.specs.Checked.{Checked, Good, Bad, answer}
use Rattle.xs_ccheck.specs.FaultSet.{Node, AFile, parts, IsSound, IsFault, here, within, IsEarlier, IsLeftOf, StandsBefore, IsLeast, HasNoFault, AreOrdered}
use Rattle.xs_ccheck.specs.FileTyping.{code_meant, typed_of}
use Rattle.xs_ccheck.proofs.FaultOrder.{before_not}
use Rattle.xs_ccheck.proofs.LeastFaults.{IsFirst, IsUpTo, Says, among, all_without, sound_without}
use Rattle.xs_ccheck.proofs.FormsSay.{Anything, file_says}

-- ---- an answer

none_before : (f g : Fault) (p q : List ℕ) → IsUpTo f p g q → StandsBefore g q f p → ⊥
none_before f g p q (inl a) b = before_not f g p q a b
none_before f g p q (inr (e, d)) b =
    let same : StandsBefore f p f p = subst (λ x. StandsBefore f x f p) (sym d) (subst (λ x. StandsBefore x q f p) (sym e) b) in
    before_not f f p p same same

first_is_least : (n : Node) (f : Fault) → IsFirst (IsFault n) f → IsLeast n f
first_is_least n f a = (a.way, (a.has, λ q g h b. none_before f g a.way q (a.others q g h) b))

module _ {A : Type 0} (n : Node) where
  is_least : (r : Checked A) → Says n Anything r → (f : Fault) → answer r ≡ Err f → IsLeast n f
  is_least (Good a) h f e = absurd cc
  is_least (Bad g) h f e = let same : g ≡ f = cc in first_is_least n f (subst (λ x. IsFirst (IsFault n) x) same h.says)

  least_told : (r : Checked A) → Says n Anything r → (f : Fault) → IsLeast n f → answer r ≡ Err f
  least_told (Good a) h f l = absurd (sound_without h.says.0 l.0 f l.1.0)
  least_told (Bad g) h f l = by (h.says.others l.0 f l.1.0)
    where
      by : IsUpTo g h.says.way f l.0 → answer {A = A} (Bad g) ≡ Err f
      by (inl b) = absurd (l.1.1 h.says.way g h.says.has b)
      by (inr (e, d)) = ap Err e

  without : (r : Checked A) → Says n Anything r → (a : A) → answer r ≡ Ok a → HasNoFault n
  without (Good b) h a e = sound_without h.says.0
  without (Bad g) h a e = absurd cc

  accepted : (r : Checked A) → Says n Anything r → HasNoFault n → (a : A) × (answer r ≡ Ok a)
  accepted (Good a) h none = (a, refl)
  accepted (Bad g) h none = absurd (none h.says.way g h.says.has)

  is_sound : (r : Checked A) → Says n Anything r → HasNoFault n → IsSound n
  is_sound (Good a) h none = h.says.0
  is_sound (Bad g) h none = absurd (none h.says.way g h.says.has)

-- The fault that is told of a file is the least of its faults.
pub least_fault : (t : FileTree) (f : Fault) → (typed_of t ≡ Err f) ↔ IsLeast (AFile t) f
unfolding typed_of
least_fault t f = (is_least (AFile t) (code_meant t) (file_says t) f, least_told (AFile t) (code_meant t) (file_says t) f)

-- A file that is accepted has no fault, and one without a fault is accepted.
pub no_fault : (t : FileTree) → ((c : Code) × (typed_of t ≡ Ok c)) ↔ HasNoFault (AFile t)
unfolding typed_of
no_fault t = (λ c. without (AFile t) (code_meant t) (file_says t) c.0 c.1, accepted (AFile t) (code_meant t) (file_says t))

-- Where a file has no fault, each of its nodes is sound.
pub all_sound : (t : FileTree) → HasNoFault (AFile t) ↔ IsSound (AFile t)
all_sound t = (is_sound (AFile t) (code_meant t) (file_says t), λ s. sound_without s)

-- ---- of two faults one stands before the other

compare : (i j : ℕ) → (i < j) ⊎ ((j < i) ⊎ (i ≡ j))
compare i j = grind arith

compare_lines : (l m : ℕ) → IsEarlier l m ⊎ (IsEarlier m l ⊎ (l ≡ m))
compare_lines l m = grind arith

-- where two faults stand
abbrev Placed : Fault → List ℕ → Fault → List ℕ → Type 0
Placed f p g q = IsLeftOf p q ⊎ (IsLeftOf q p ⊎ ((f ≡ g) × (p ≡ q)))

in_part : (f g : Fault) (i j : ℕ) (p q : List ℕ) → i ≡ j → Placed f p g q → Placed f (i ∷ p) g (j ∷ q)
in_part f g i j p q e (inl a) = inl (inr (e, a))
in_part f g i j p q e (inr (inl a)) = inr (inl (inr (sym e, a)))
in_part f g i j p q e (inr (inr (d, same))) = inr (inr (d, ap₂ (λ x xs. x ∷ xs) e same))

same_part : (ns : List Node) (i j : ℕ) (m n : Node) → slice_get ns i ≡ Some m → slice_get ns j ≡ Some n → i ≡ j → n ≡ m
same_part ns i j m n a b e = same_Some n m (sym b ∙ ap (slice_get ns) (sym e) ∙ a)

by_parts : (f g : Fault) (i j : ℕ) (p q : List ℕ) → (i < j) ⊎ ((j < i) ⊎ (i ≡ j)) → (i ≡ j → Placed f p g q) → Placed f (i ∷ p) g (j ∷ q)
by_parts f g i j p q (inl lt) same = inl (inl lt)
by_parts f g i j p q (inr (inl lt)) same = inr (inl (inl lt))
by_parts f g i j p q (inr (inr e)) same = in_part f g i j p q e (same e)

placed : {n : Node} {p : List ℕ} {f : Fault} → IsFault n p f → {q : List ℕ} {g : Fault} → IsFault n q g → Placed f p g q
placed {n} {p} {f} (here all e) {q} {g} (here all1 d) = inr (inr (same_Some f g (sym e ∙ d), refl))
placed {n} {p} {f} (here all e) {q} {g} (within {i = i} {way = way} part h) = absurd (all_without all (i ∷ way) g (among _ i _ way g part h))
placed {n} {p} {f} (within {i = i} {way = way} part h) {q} {g} (here all e) = absurd (all_without all (i ∷ way) f (among _ i _ way f part h))
placed {n} {p} {f} (within {part = m} {i = i} {way = v} a h) {q} {g} (within {part = k} {i = j} {way = w} b l) =
    by_parts f g i j v w (compare i j) (λ e. placed h (subst (λ x. IsFault x w g) (same_part (parts n) i j m k a b e) l))

ordered_by : (f g : Fault) (p q : List ℕ) → Placed f p g q → IsEarlier f.line g.line ⊎ (IsEarlier g.line f.line ⊎ (f.line ≡ g.line))
    → (f.code < g.code) ⊎ ((g.code < f.code) ⊎ (f.code ≡ g.code)) → AreOrdered f p g q
ordered_by f g p q at (inl a) codes = inl (inl a)
ordered_by f g p q at (inr (inl a)) codes = inr (inl (inl a))
ordered_by f g p q at (inr (inr e)) (inl c) = inl (inr (e, inl c))
ordered_by f g p q at (inr (inr e)) (inr (inl c)) = inr (inl (inr (sym e, inl c)))
ordered_by f g p q (inl a) (inr (inr e)) (inr (inr c)) = inl (inr (e, inr (c, a)))
ordered_by f g p q (inr (inl a)) (inr (inr e)) (inr (inr c)) = inr (inl (inr (sym e, inr (sym c, a))))
ordered_by f g p q (inr (inr same)) (inr (inr e)) (inr (inr c)) = inr (inr same)

-- Two faults of a node are one, or one of them stands before the other.
pub faults_ordered : (n : Node) (p q : List ℕ) (f g : Fault) → IsFault n p f → IsFault n q g → AreOrdered f p g q
faults_ordered n p q f g h k = ordered_by f g p q (placed h k) (compare_lines f.line g.line) (compare f.code g.code)
