-- Operators over operands that are the same but for lines.
use Rattle.std.proofs.Common.{◌≡◌, ◌∙◌, ℕ, Bool, cond, Option, None, Some, refl, ap, ap₂, subst}
use Rattle.std.specs.Prelude.{◌&&◌}
use Rattle.xs_values.specs.declared.kind.Kind.TheVariants.{I8, I32}
use Rattle.xs_values.specs.declared.operator.Op.{Op}
use Rattle.xs_values.specs.declared.unary_operator.UnOp.{UnOp}
use Rattle.xs_values.specs.declared.unary_operator.UnOp.TheVariants as unary
use Rattle.xs_cinput.specs.declared.tree.BinaryOp.{BinaryOp}
use Rattle.xs_cinput.specs.declared.tree.BinaryOp.TheVariants as c
use Rattle.xs_ctree.specs.declared.node.StepOp.{StepOp}
use Rattle.xs_ctree.specs.declared.value_type.ValueType.{ValueType}
use Rattle.xs_ctree.specs.declared.value_type.ValueType.TheVariants as type_of
use Rattle.xs_ctree.specs.TypedTree.{Expr, ByteAt, Not, Unary, Binary, Same, And, Or, Choice, Cast, Pointed, StepOf, Assign, Compound, bare_expr, bare_target}
use Rattle.xs_ccheck.specs.ExprTyping.{TypedExpr, TypedTarget, as_typed, assigned, calculated, cast, chosen, combined, compared, compounded, converted, element, is_equal, is_text_type, operated, pointed, prefixed, promoting, set_to, stepped, truth}
use Rattle.xs_ctypes.specs.ValueTypes.{are_conditions, are_numbers, compares, goes_into, is_condition, is_element, is_equality, is_number, of_cast, of_choice, of_numbers, of_pointed, of_promoted}
use Rattle.xs_ccheck.proofs.Alike.{AlikeIn, bare_place, bare_typed, by_test, same_tree, same_type, typed_alike, when_alike}

pub truth_alike : (b d : Bool) (e f : Expr) → b ≡ d → bare_expr e ≡ bare_expr f → AlikeIn bare_typed (truth b e) (truth d f)
truth_alike b d e f same g = when_alike bare_typed b d _ _ _ _ same (ap (λ z. as_typed z (type_of.Number I32)) g)

pub calculated_alike : (op : Op) (x y a b : TypedExpr) → bare_typed x ≡ bare_typed y → bare_typed a ≡ bare_typed b
    → AlikeIn bare_typed (calculated op x a) (calculated op y b)
calculated_alike op x y a b e g =
    typed_alike _ _ _ _ (λ t. ap₂ (Binary op) (same_tree x y e) (same_tree a b g)) (ap₂ (of_numbers op) (same_type x y e) (same_type a b g))

pub compared_alike : (op : Op) (x y a b : TypedExpr) → bare_typed x ≡ bare_typed y → bare_typed a ≡ bare_typed b
    → AlikeIn bare_typed (compared op x a) (compared op y b)
compared_alike op x y a b e g =
    truth_alike _ _ (Same (is_equal op) x.tree a.tree) (Same (is_equal op) y.tree b.tree)
    (ap₂ (λ s t. compares s t && is_equality op) (same_type x y e) (same_type a b g))
    (ap₂ (Same (is_equal op)) (same_tree x y e) (same_tree a b g))

pub operated_alike : (op : Op) (x y a b : TypedExpr) → bare_typed x ≡ bare_typed y → bare_typed a ≡ bare_typed b
    → AlikeIn bare_typed (operated op x a) (operated op y b)
operated_alike op x y a b e g =
    subst (λ d. AlikeIn bare_typed (operated op x a) (cond d (calculated op y b) (compared op y b)))
    (ap₂ are_numbers (same_type x y e) (same_type a b g))
    (by_test bare_typed (are_numbers x.of_type a.of_type) _ _ _ _ (calculated_alike op x y a b e g) (compared_alike op x y a b e g))

-- a choice at two lines
pub chosen_alike : (line : ℕ) (t u x y a b : TypedExpr) → bare_typed t ≡ bare_typed u → bare_typed x ≡ bare_typed y → bare_typed a ≡ bare_typed b
    → AlikeIn bare_typed (chosen line t x a) (chosen 0 u y b)
chosen_alike line t u x y a b d e g =
    typed_alike _ _ _ _
    (λ ty. ap (λ z. Choice 0 ty z (bare_expr x.tree) (bare_expr a.tree)) (same_tree t u d)
    ∙ ap₂ (Choice 0 ty (bare_expr u.tree)) (same_tree x y e) (same_tree a b g))
    (ap (λ z. of_choice z x.of_type a.of_type) (same_type t u d) ∙ ap₂ (of_choice u.of_type) (same_type x y e) (same_type a b g))

pub promoting_alike : (op : UnOp) (x y : TypedExpr) → bare_typed x ≡ bare_typed y → AlikeIn bare_typed (promoting op x) (promoting op y)
promoting_alike op x y e = typed_alike _ _ _ _ (λ t. ap (Unary op) (same_tree x y e)) (ap (of_promoted op) (same_type x y e))

pub prefixed_alike : (op : UnOp) (x y : TypedExpr) → bare_typed x ≡ bare_typed y → AlikeIn bare_typed (prefixed op x) (prefixed op y)
prefixed_alike unary.Not x y e = truth_alike _ _ (Not x.tree) (Not y.tree) (ap is_condition (same_type x y e)) (ap Not (same_tree x y e))
prefixed_alike unary.Plus x y e = promoting_alike unary.Plus x y e
prefixed_alike unary.Minus x y e = promoting_alike unary.Minus x y e
prefixed_alike unary.Complement x y e = promoting_alike unary.Complement x y e

pub combined_alike : (op : BinaryOp) (x y a b : TypedExpr) → bare_typed x ≡ bare_typed y → bare_typed a ≡ bare_typed b
    → AlikeIn bare_typed (combined op x a) (combined op y b)
combined_alike (c.On op) x y a b e g = operated_alike op x y a b e g
combined_alike c.Or x y a b e g =
    truth_alike _ _ (Or x.tree a.tree) (Or y.tree b.tree) (ap₂ are_conditions (same_type x y e) (same_type a b g))
    (ap₂ Or (same_tree x y e) (same_tree a b g))
combined_alike c.And x y a b e g =
    truth_alike _ _ (And x.tree a.tree) (And y.tree b.tree) (ap₂ are_conditions (same_type x y e) (same_type a b g))
    (ap₂ And (same_tree x y e) (same_tree a b g))

converted_alike : (to : Option ValueType) (x y : TypedExpr) → bare_typed x ≡ bare_typed y → AlikeIn bare_typed (converted to x) (converted to y)
converted_alike to x y e = typed_alike _ _ _ _ (λ t. ap (Cast t) (same_tree x y e)) (ap (of_cast to) (same_type x y e))

pub cast_alike : (letter other : Option ℕ) (to : Option ValueType) (x y : TypedExpr) → letter ≡ other → bare_typed x ≡ bare_typed y
    → AlikeIn bare_typed (cast letter to x) (cast other to y)
cast_alike letter other to x y same e = subst (λ l. AlikeIn bare_typed (cast letter to x) (cast l to y)) same (one letter)
  where
    one : (l : Option ℕ) → AlikeIn bare_typed (cast l to x) (cast l to y)
    one None = converted_alike to x y e
    one (Some slot) = by_test bare_typed (is_text_type to) _ _ _ _ (record { is = refl }) (converted_alike to x y e)

pub pointed_alike : (line : ℕ) (x y : TypedExpr) → bare_typed x ≡ bare_typed y → AlikeIn bare_typed (pointed line x) (pointed 0 y)
pointed_alike line x y e = typed_alike _ _ _ _ (λ t. ap (Pointed 0 t) (same_tree x y e)) (ap of_pointed (same_type x y e))

pub element_alike : (x y a b : TypedExpr) → bare_typed x ≡ bare_typed y → bare_typed a ≡ bare_typed b → AlikeIn bare_typed (element x a) (element y b)
element_alike x y a b e g =
    when_alike bare_typed _ _ _ _ _ _ (ap₂ is_element (same_type x y e) (same_type a b g))
    (ap₂ (λ u v. as_typed (ByteAt u v) (type_of.Number I8)) (same_tree x y e) (same_tree a b g))

-- ---- what is assigned to

same_place : (p q : TypedTarget) → bare_place p ≡ bare_place q → p.of_type ≡ q.of_type
same_place p q e = ap (λ (z : TypedTarget). z.of_type) e

same_target : (p q : TypedTarget) → bare_place p ≡ bare_place q → bare_target p.target ≡ bare_target q.target
same_target p q e = ap (λ (z : TypedTarget). z.target) e

pub assigned_alike : (line : ℕ) (p q : TypedTarget) (x y : TypedExpr) → bare_place p ≡ bare_place q → bare_typed x ≡ bare_typed y
    → AlikeIn bare_typed (assigned line p x) (assigned 0 q y)
assigned_alike line p q x y e g =
    when_alike bare_typed _ _ _ _ _ _ (ap₂ goes_into (same_type x y g) (same_place p q e))
    (ap₂ as_typed (ap₂ (Assign 0) (same_target p q e) (same_tree x y g)) (same_place p q e))

compounded_alike : (line : ℕ) (op : Op) (p q : TypedTarget) (x y : TypedExpr) → bare_place p ≡ bare_place q → bare_typed x ≡ bare_typed y
    → AlikeIn bare_typed (compounded line op p x) (compounded 0 op q y)
compounded_alike line op p q x y e g =
    when_alike bare_typed _ _ _ _ _ _ (ap₂ are_numbers (same_place p q e) (same_type x y g))
    (ap₂ as_typed (ap₂ (λ t v. Compound 0 t op v) (same_target p q e) (same_tree x y g)) (same_place p q e))

pub set_alike : (line : ℕ) (op : Option Op) (p q : TypedTarget) (x y : TypedExpr) → bare_place p ≡ bare_place q → bare_typed x ≡ bare_typed y
    → AlikeIn bare_typed (set_to line op p x) (set_to 0 op q y)
set_alike line None p q x y e g = assigned_alike line p q x y e g
set_alike line (Some op) p q x y e g = compounded_alike line op p q x y e g

pub stepped_alike : (line : ℕ) (op : StepOp) (p q : TypedTarget) → bare_place p ≡ bare_place q → AlikeIn bare_typed (stepped line op p) (stepped 0 op q)
stepped_alike line op p q e =
    when_alike bare_typed _ _ _ _ _ _ (ap is_number (same_place p q e)) (ap₂ as_typed (ap (StepOf 0 op) (same_target p q e)) (same_place p q e))
