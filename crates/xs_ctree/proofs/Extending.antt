-- An arena that extends another: what the first names is in the second as it was.
use Rattle.std.proofs.Common.{◌≡◌, ℕ, zero, suc, ◌+◌, ◌<◌, ◌≤◌, true, List, [], ◌∷◌, ◌++◌, length, take, drop, Some, refl, sym, ap, ◌∙◌, subst, arith, length-append, length-drop}
use Rattle.std.specs.List.{list_all}
use Rattle.std.specs.Prelude.{◌-◌, nat_lt, slice_get, slice_index_or, Option, None}
use Rattle.std.proofs.lemmas.Bool.{and_parts, and_from}
use Rattle.std.proofs.lemmas.Bool.Decides.{nat_tests}
use Rattle.std.proofs.lemmas.List.{get_or_append_left, take-append-le, drop-append-le, drop_at, take_all}
use Rattle.std.proofs.lemmas.Option.{same_Some}
use Rattle.xs_ctree.specs.declared.node.ExprNode.{ExprNode}
use Rattle.xs_ctree.specs.declared.node.ExprNode.TheVariants as expr_node
use Rattle.xs_ctree.specs.declared.node.GroupNode.{GroupNode}
use Rattle.xs_ctree.specs.declared.node.Range.{Range}
use Rattle.xs_ctree.specs.declared.node.StmtNode.{StmtNode}
use Rattle.xs_ctree.specs.declared.node.StmtNode.TheVariants as stmt_node
use Rattle.xs_ctree.specs.declared.node.TestNode.{TestNode}
use Rattle.xs_ctree.specs.declared.node.TestNode.TheVariants as test_node
use Rattle.xs_ctree.specs.Arena.{Arena, ranged, is_within, all_below, parts_fit, group_fits, groups_fit, option_below, test_fits, expr_fits, stmt_fits}

-- a list has another at its front
pub record Begins {X : Type 0} (xs ys : List X) : Type 0 where
  pub get : (i : ℕ) → i < length xs → slice_get ys i ≡ slice_get xs i
  pub value : (i : ℕ) (d : X) → i < length xs → slice_index_or ys i d ≡ slice_index_or xs i d
  pub range : (r : Range) → is_within xs r ≡ true → ranged ys r ≡ ranged xs r
  pub longer : length xs ≤ length ys

pub record Extends (a b : Arena) : Type 0 where
  pub texts : Begins a.texts b.texts
  pub parts : Begins a.parts b.parts
  pub slots : Begins a.slots b.slots
  pub labels : Begins a.labels b.labels
  pub groups : Begins a.groups b.groups
  pub exprs : Begins a.exprs b.exprs
  pub stmts : Begins a.stmts b.stmts

-- ---- lists with more at the end

pub get_left : {X : Type 0} (xs ys : List X) (i : ℕ) → i < length xs → slice_get (xs ++ ys) i ≡ slice_get xs i
get_left [] ys i h = absurd (omega (arith, h))
get_left (x ∷ xs) ys zero h = refl
get_left (x ∷ xs) ys (suc i) h = get_left xs ys i (omega (arith, h))

pub get_last : {X : Type 0} (xs : List X) (y : X) → slice_get (xs ++ y ∷ []) (length xs) ≡ Some y
get_last [] y = refl
get_last (x ∷ xs) y = get_last xs y

within_le : {X : Type 0} (xs : List X) (r : Range) → is_within xs r ≡ true → r.start + r.count ≤ length xs
within_le xs r h = grind (arith, nat_tests)

pub range_left : {X : Type 0} (xs ys : List X) (r : Range) → is_within xs r ≡ true → ranged (xs ++ ys) r ≡ ranged xs r
range_left xs ys r h =
    let le : r.start + r.count ≤ length xs = within_le xs r h in
    ap (λ s. take r.count s) (drop-append-le r.start xs ys (omega (arith, le)))
    ∙ take-append-le r.count (drop r.start xs) ys (omega (arith, le, length-drop r.start xs))

-- a range that begins with an element
first_of : {X : Type 0} (xs : List X) (start count : ℕ) (x : X) → Some x ≡ slice_get xs start
    → take (suc count) (drop start xs) ≡ x ∷ take count (drop (start + 1) xs)
first_of [] zero count x e = absurd cc
first_of [] (suc start) count x e = absurd cc
first_of (y ∷ xs) zero count x e = ap (λ z. z ∷ take count xs) (sym (same_Some x y e))
first_of (y ∷ xs) (suc start) count x e = let next : suc start + 1 ≡ suc (start + 1) = omega arith in rw next (first_of xs start count x e)

one_and_more : (n : ℕ) → (n ≡ 0 → ⊥) → n ≡ suc (n - 1)
one_and_more zero h = absurd (h refl)
one_and_more (suc n) h = omega arith

pub first_ranged : {X : Type 0} (xs : List X) (r : Range) (x : X) → Some x ≡ slice_get xs r.start → (r.count ≡ 0 → ⊥)
    → ranged xs r ≡ x ∷ ranged xs (record { start = r.start + 1; count = r.count - 1 })
first_ranged xs r x e some =
    ap (λ n. take n (drop r.start xs)) (one_and_more r.count some) ∙ first_of xs r.start (r.count - 1) x e

-- the range of what was added
pub range_added : {X : Type 0} (xs ys : List X) (r : Range) → r.start ≡ length xs → r.count ≡ length ys → ranged (xs ++ ys) r ≡ ys
range_added xs ys r s c =
    ap (λ zs. take r.count zs) (drop_at xs ys r.start (sym s)) ∙ take_all r.count ys (omega (arith, c))

pub within_added : {X : Type 0} (xs ys : List X) (r : Range) → r.start ≡ length xs → r.count ≡ length ys → is_within (xs ++ ys) r ≡ true
within_added xs ys r s c = let l = length-append xs ys in grind (arith, nat_tests)

pub same : {X : Type 0} (xs : List X) → Begins xs xs
same xs = record { get = λ i h. refl; value = λ i d h. refl; range = λ r h. refl; longer = omega arith }

pub grows : {X : Type 0} (xs ys : List X) → Begins xs (xs ++ ys)
grows xs ys = record {
  get = get_left xs ys;
  value = λ i d h. get_or_append_left xs ys d i h;
  range = range_left xs ys;
  longer = omega (arith, length-append xs ys);
}

-- ---- what fits an arena fits one that extends it

lt_le : (i m n : ℕ) → m ≤ n → nat_lt i m ≡ true → nat_lt i n ≡ true
lt_le i m n le h = grind (arith, nat_tests)

within_longer : {X : Type 0} (xs ys : List X) (r : Range) → length xs ≤ length ys → is_within xs r ≡ true → is_within ys r ≡ true
within_longer xs ys r le h = grind (arith, nat_tests)

test_still : (m n : ℕ) (t : TestNode) → m ≤ n → test_fits m t ≡ true → test_fits n t ≡ true
test_still m n test_node.Always le h = refl
test_still m n (test_node.When e) le h = lt_le e m n le h

option_still : (m n : ℕ) (o : Option ℕ) → m ≤ n → option_below m o ≡ true → option_below n o ≡ true
option_still m n None le h = refl
option_still m n (Some e) le h = lt_le e m n le h

module _ (a b : Arena) (i : ℕ) (parts : Begins a.parts b.parts) where
  parts_still : (r : Range) → parts_fit a i r ≡ true → parts_fit b i r ≡ true
  parts_still r h =
      let d = and_parts _ _ h in
      and_from _ _ (within_longer a.parts b.parts r parts.longer d.0) (subst (λ ps. all_below i ps ≡ true) (sym (parts.range r d.0)) d.1)

  module _ (labels : Begins a.labels b.labels) where
    group_still : (g : GroupNode) → group_fits a i g ≡ true → group_fits b i g ≡ true
    group_still g h = let d = and_parts _ _ h in and_from _ _ (within_longer a.labels b.labels g.labels labels.longer d.0) (parts_still g.body d.1)

    pub all_still : (gs : List GroupNode) → list_all (group_fits a i) gs ≡ true → list_all (group_fits b i) gs ≡ true
    all_still [] h = refl
    all_still (g ∷ gs) h = let d = and_parts _ _ h in and_from _ _ (group_still g d.0) (all_still gs d.1)

module _ (a b : Arena) (ext : Extends a b) (i : ℕ) where
  list_still : (r : Range) → parts_fit a i r ≡ true → parts_fit b i r ≡ true
  list_still r h = parts_still a b i ext.parts r h

  groups_still : (r : Range) → groups_fit a i r ≡ true → groups_fit b i r ≡ true
  groups_still r h =
      let d = and_parts _ _ h in
      and_from _ _ (within_longer a.groups b.groups r ext.groups.longer d.0)
      (subst (λ gs. list_all (group_fits b i) gs ≡ true) (sym (ext.groups.range r d.0)) (all_still a b i ext.parts ext.labels (ranged a.groups r) d.1))

  pub expr_fits_still : (n : ExprNode) → expr_fits a i n ≡ true → expr_fits b i n ≡ true
  expr_fits_still (expr_node.Letters t) h = lt_le t _ _ ext.texts.longer h
  expr_fits_still (expr_node.Api at r es) h = list_still es h
  expr_fits_still (expr_node.Croak at t es) h = let d = and_parts _ _ h in and_from _ _ (lt_le t _ _ ext.texts.longer d.0) (list_still es d.1)
  expr_fits_still (expr_node.Usage at t) h = lt_le t _ _ ext.texts.longer h
  expr_fits_still (expr_node.Call at f es) h = list_still es h
  expr_fits_still _ h = h

  pub stmt_fits_still : (n : StmtNode) → stmt_fits a i n ≡ true → stmt_fits b i n ≡ true
  stmt_fits_still (stmt_node.Block slots ss) h =
      let d = and_parts _ _ h in and_from _ _ (within_longer a.slots b.slots slots ext.slots.longer d.0) (list_still ss d.1)
  stmt_fits_still (stmt_node.Effect e) h = lt_le e _ _ ext.exprs.longer h
  stmt_fits_still (stmt_node.If at e s t) h = let d = and_parts _ _ h in and_from _ _ (lt_le e _ _ ext.exprs.longer d.0) d.1
  stmt_fits_still (stmt_node.Loop at first test each s) h =
      let d = and_parts _ _ h in
      let d1 = and_parts _ _ d.1 in
      and_from _ _ (test_still _ _ test ext.exprs.longer d.0) (and_from _ _ (option_still _ _ each ext.exprs.longer d1.0) d1.1)
  stmt_fits_still (stmt_node.Switch at k e gs) h = let d = and_parts _ _ h in and_from _ _ (lt_le e _ _ ext.exprs.longer d.0) (groups_still gs d.1)
  stmt_fits_still (stmt_node.Give at e) h = lt_le e _ _ ext.exprs.longer h
  stmt_fits_still (stmt_node.Quit at e) h = lt_le e _ _ ext.exprs.longer h
  stmt_fits_still (stmt_node.Register t f keeps) h = lt_le t _ _ ext.texts.longer h
  stmt_fits_still _ h = h
