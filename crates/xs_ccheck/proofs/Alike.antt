-- Answers that are the same where a view sees them.
use Rattle.std.proofs.Common.{◌≡◌, ℕ, Bool, true, false, cond, List, ◌∷◌, map, Option, None, Some, refl, ap, ap₂, subst}
use Rattle.std.proofs.lemmas.Option.{same_Some}
use Rattle.xs_ctree.specs.declared.value_type.ValueType.{ValueType}
use Rattle.xs_ctree.specs.TypedTree.{Expr, bare_expr, bare_target}
use Rattle.xs_ctypes.specs.Checked.{Bad, Checked, Fine, Good, Judged, Wrong, behind, both, judged, more, three}
use Rattle.xs_ccheck.specs.ExprTyping.{TypedExpr, TypedTarget, as_typed, typed}

abbrev pub seen : {A B : Type 0} → (A → B) → Checked A → Option B
seen view (Good a) = Some (view a)
seen view (Bad f) = None

pub record Alike {A B : Type 0} (view : A → B) (r s : Checked A) : Type 0 where
  pub is : seen view r ≡ seen view s

abbrev pub seen_in : {A B : Type 0} → (A → B) → Judged A → Option B
seen_in view (Fine a) = Some (view a)
seen_in view (Wrong code word) = None

pub record AlikeIn {A B : Type 0} (view : A → B) (j k : Judged A) : Type 0 where
  pub is : seen_in view j ≡ seen_in view k

pub good : {A B : Type 0} (view : A → B) (a b : A) → view a ≡ view b → Alike view (Good a) (Good b)
good view a b e = record { is = ap Some e }

pub fine : {A B : Type 0} (view : A → B) (a b : A) → view a ≡ view b → AlikeIn view (Fine a) (Fine b)
fine view a b e = record { is = ap Some e }

pub wrongs : {A B : Type 0} (view : A → B) (m n : ℕ) (v w : List ℕ) → AlikeIn view (Wrong m v) (Wrong n w)
wrongs view m n v w = record { is = refl }

pub by_test : {A B : Type 0} (view : A → B) (b : Bool) (j k l m : Judged A) → AlikeIn view j k → AlikeIn view l m → AlikeIn view (cond b j l) (cond b k m)
by_test view true j k l m h1 h2 = h1
by_test view false j k l m h1 h2 = h2

pub judged_alike : {A B : Type 0} (view : A → B) (m n : ℕ) (j k : Judged A) → AlikeIn view j k → Alike view (judged m j) (judged n k)
judged_alike view m n (Fine a) (Fine b) h = record { is = h.is }
judged_alike view m n (Wrong d v) (Wrong e w) h = record { is = refl }
judged_alike view m n (Fine a) (Wrong e w) h = let e = h.is in absurd cc
judged_alike view m n (Wrong d v) (Fine b) h = let e = h.is in absurd cc

-- the same judgement at two lines
pub at_lines : {A B : Type 0} (view : A → B) (m n : ℕ) (j : Judged A) → Alike view (judged m j) (judged n j)
at_lines view m n j = judged_alike view m n j j (record { is = refl })

pub after : {A B C D : Type 0} (view : A → B) (shown : C → D) (r s : Checked A) (k l : A → Checked C) → Alike view r s
    → ((a b : A) → view a ≡ view b → Alike shown (k a) (l b)) → Alike shown (behind r k) (behind s l)
after view shown (Good a) (Good b) k l h next = next a b (same_Some (view a) (view b) h.is)
after view shown (Bad f) (Bad g) k l h next = record { is = refl }
after view shown (Good a) (Bad g) k l h next = let e = h.is in absurd cc
after view shown (Bad f) (Good b) k l h next = let e = h.is in absurd cc

pub after_both : {A B C D E F : Type 0} (u : A → B) (v : C → D) (w : E → F) (p q : Checked A) (r s : Checked C) (k l : A → C → Checked E)
    → Alike u p q → Alike v r s → ((a b : A) (x y : C) → u a ≡ u b → v x ≡ v y → Alike w (k a x) (l b y))
    → Alike w (both p r k) (both q s l)
after_both u v w (Good a) (Good b) (Good x) (Good y) k l h g next = next a b x y (same_Some (u a) (u b) h.is) (same_Some (v x) (v y) g.is)
after_both u v w (Good a) (Good b) (Bad f) (Bad d) k l h g next = record { is = refl }
after_both u v w (Bad f) (Bad d) (Good x) (Good y) k l h g next = record { is = refl }
after_both u v w (Bad f) (Bad d) (Bad f1) (Bad d1) k l h g next = record { is = refl }
after_both u v w (Good a) (Bad d) r s k l h g next = let e = h.is in absurd cc
after_both u v w (Bad f) (Good b) r s k l h g next = let e = h.is in absurd cc
after_both u v w (Good a) (Good b) (Good x) (Bad d) k l h g next = let e = g.is in absurd cc
after_both u v w (Good a) (Good b) (Bad f) (Good y) k l h g next = let e = g.is in absurd cc
after_both u v w (Bad f) (Bad d) (Good x) (Bad d1) k l h g next = let e = g.is in absurd cc
after_both u v w (Bad f) (Bad d) (Bad f1) (Good y) k l h g next = let e = g.is in absurd cc

pub after_three : {A B C D : Type 0} (u : A → B) (w : C → D) (p q r s t o : Checked A) (k l : A → A → A → Checked C)
    → Alike u p q → Alike u r s → Alike u t o
    → ((a b x y c d : A) → u a ≡ u b → u x ≡ u y → u c ≡ u d → Alike w (k a x c) (l b y d)) → Alike w (three p r t k) (three q s o l)
after_three {A} {B} u w p q r s t o k l h g i next =
    let pair : A × A → B × B = λ z. (u z.0, u z.1) in
    after_both u pair w p q (both {C = A × A} r t (λ x c. Good (x, c))) (both {C = A × A} s o (λ x c. Good (x, c))) (λ a z. k a z.0 z.1) (λ a z. l a z.0 z.1) h
    (after_both u u pair r s t o (λ x c. Good (x, c)) (λ x c. Good (x, c)) g i (λ a b x y e f. record { is = ap₂ (λ v z. Some (v, z)) e f }))
    (λ a b x y e f. next a b x.0 y.0 x.1 y.1 e (ap (λ (z : B × B). z.0) f) (ap (λ (z : B × B). z.1) f))

pub more_alike : {A B : Type 0} (view : A → B) (p q : Checked A) (r s : Checked (List A)) → Alike view p q → Alike (map view) r s
    → Alike (map view) (more p r) (more q s)
more_alike view p q r s h g = after_both view (map view) (map view) p q r s _ _ h g (λ a b xs ys e k. record { is = ap Some (ap₂ (λ x zs. x ∷ zs) e k) })

-- ---- expressions without their lines

abbrev pub bare_typed : TypedExpr → TypedExpr
bare_typed x = as_typed (bare_expr x.tree) x.of_type

abbrev pub bare_place : TypedTarget → TypedTarget
bare_place p = record { target = bare_target p.target; of_type = p.of_type }

pub same_type : (x y : TypedExpr) → bare_typed x ≡ bare_typed y → x.of_type ≡ y.of_type
same_type x y e = ap (λ (z : TypedExpr). z.of_type) e

pub same_tree : (x y : TypedExpr) → bare_typed x ≡ bare_typed y → bare_expr x.tree ≡ bare_expr y.tree
same_tree x y e = ap (λ (z : TypedExpr). z.tree) e

pub typed_alike : (f g : ValueType → Expr) (j k : Judged ValueType) → ((t : ValueType) → bare_expr (f t) ≡ bare_expr (g t)) → j ≡ k
    → AlikeIn bare_typed (typed f j) (typed g k)
typed_alike f g j k same e = subst (λ l. AlikeIn bare_typed (typed f j) (typed g l)) e (one j)
  where
    one : (l : Judged ValueType) → AlikeIn bare_typed (typed f l) (typed g l)
    one (Fine t) = record { is = ap (λ x. Some (as_typed x t)) (same t) }
    one (Wrong code word) = record { is = refl }

pub when_alike : {A B : Type 0} (view : A → B) (b d : Bool) (x y : A) (code : ℕ) (word : List ℕ) → b ≡ d → view x ≡ view y
    → AlikeIn view (cond b (Fine x) (Wrong code word)) (cond d (Fine y) (Wrong code word))
when_alike view b d x y code word e same =
    subst (λ t. AlikeIn view (cond b (Fine x) (Wrong code word)) (cond t (Fine y) (Wrong code word))) e
    (by_test view b _ _ _ _ (fine view x y same) (wrongs view code code word word))
