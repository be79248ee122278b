-- A tree opens into the trees of its parts, and is the same in an arena that extends its own.
use Rattle.std.proofs.Common.{◌≡◌, ℕ, zero, suc, ◌<◌, true, List, [], ◌∷◌, length, map, Option, Some, None, refl, ap, ap₂, ◌∙◌, arith}
use Rattle.std.specs.List.{list_all}
use Rattle.std.specs.Option.{option_map}
use Rattle.std.specs.Prelude.{slice_get, nat_lt}
use Rattle.std.proofs.lemmas.Bool.{and_parts, ltb-true}
use Rattle.xs_ctree.specs.declared.node.ExprNode.{ExprNode}
use Rattle.xs_ctree.specs.declared.node.ExprNode.TheVariants as expr_node
use Rattle.xs_ctree.specs.declared.node.FunctionNode.{FunctionNode}
use Rattle.xs_ctree.specs.declared.node.GroupNode.{GroupNode}
use Rattle.xs_ctree.specs.declared.node.Range.{Range}
use Rattle.xs_ctree.specs.declared.node.StmtNode.{StmtNode}
use Rattle.xs_ctree.specs.declared.node.StmtNode.TheVariants as stmt_node
use Rattle.xs_ctree.specs.declared.node.TargetNode.{TargetNode}
use Rattle.xs_ctree.specs.declared.node.TargetNode.TheVariants as target_node
use Rattle.xs_ctree.specs.declared.node.TestNode.{TestNode}
use Rattle.xs_ctree.specs.declared.node.TestNode.TheVariants as test_node
use Rattle.xs_ctree.specs.Arena.{Arena, Fits, all_below, expr_at, expr_fits, expr_from, expr_to, exprs_from, function_of, group_fits, group_parts, groups_fit, option_below, parts_fit, ranged, stmt_at, stmt_fits, stmt_from, stmt_to, target_fits, target_from, test_fits, test_from, text_at}
use Rattle.xs_ctree.specs.TypedTree as tree
use Rattle.xs_ctree.specs.TypedTree.{Expr, Stmt, exprs_of, groups_from, stmts_of}
use Rattle.xs_ctree.proofs.Extending.{Extends}

-- ---- nodes whose parts have the same trees

pub map_same : {A : Type 0} (i : ℕ) (f g : ℕ → A) → ((j : ℕ) → j < i → f j ≡ g j) → (js : List ℕ) → all_below i js ≡ true → map f js ≡ map g js
map_same i f g h [] e = refl
map_same i f g h (j ∷ js) e =
    let d = and_parts _ _ e in
    ap (λ t. t ∷ map f js) (h j (ltb-true j i d.0)) ∙ ap (λ ts. g j ∷ ts) (map_same i f g h js d.1)

module _ (a b : Arena) (ext : Extends a b) (i : ℕ) (f g : ℕ → Expr) (here : (j : ℕ) → j < i → f j ≡ g j) where
  part : (j : ℕ) → nat_lt j i ≡ true → f j ≡ g j
  part j e = here j (ltb-true j i e)

  pub same_exprs : (r : Range) → parts_fit a i r ≡ true → exprs_from b r f ≡ exprs_from a r g
  same_exprs r h =
      let d = and_parts _ _ h in
      ap (λ js. exprs_of (map f js)) (ext.parts.range r d.0) ∙ ap exprs_of (map_same i f g here (ranged a.parts r) d.1)

  same_target : (to : TargetNode) → target_fits i to ≡ true → target_from to f ≡ target_from to g
  same_target (target_node.Variable x t) h = refl
  same_target (target_node.Pointed x k) h = refl
  same_target (target_node.Field x r c k) h = refl
  same_target (target_node.Item at) h = ap tree.ToItem (part at h)

  same_text : (t : ℕ) → nat_lt t (length a.texts) ≡ true → text_at b t ≡ text_at a t
  same_text t h = ext.texts.value t [] (ltb-true t (length a.texts) h)

  pub same_expr : (n : ExprNode) → expr_fits a i n ≡ true → expr_from b (Some n) f ≡ expr_from a (Some n) g
  same_expr (expr_node.Literal n) h = refl
  same_expr (expr_node.Letters t) h = ap tree.Letters (same_text t h)
  same_expr (expr_node.Null t) h = refl
  same_expr (expr_node.Variable x) h = refl
  same_expr expr_node.ItemCount h = refl
  same_expr expr_node.AliasIndex h = refl
  same_expr (expr_node.Passed e) h = ap tree.Passed (part e h)
  same_expr (expr_node.Read e) h = ap tree.Read (part e h)
  same_expr (expr_node.Cast t e) h = ap (tree.Cast t) (part e h)
  same_expr (expr_node.RecordOf r e) h = ap (tree.RecordOf r) (part e h)
  same_expr (expr_node.ByteAt x y) h = let d = and_parts _ _ h in ap₂ tree.ByteAt (part x d.0) (part y d.1)
  same_expr (expr_node.Field at x r c) h = refl
  same_expr (expr_node.Not e) h = ap tree.Not (part e h)
  same_expr (expr_node.Unary op e) h = ap (tree.Unary op) (part e h)
  same_expr (expr_node.Binary op x y) h = let d = and_parts _ _ h in ap₂ (tree.Binary op) (part x d.0) (part y d.1)
  same_expr (expr_node.Same equal x y) h = let d = and_parts _ _ h in ap₂ (tree.Same equal) (part x d.0) (part y d.1)
  same_expr (expr_node.And x y) h = let d = and_parts _ _ h in ap₂ tree.And (part x d.0) (part y d.1)
  same_expr (expr_node.Or x y) h = let d = and_parts _ _ h in ap₂ tree.Or (part x d.0) (part y d.1)
  same_expr (expr_node.Choice at t e x y) h =
      let d = and_parts _ _ h in
      let d1 = and_parts _ _ d.1 in
      ap (λ c. tree.Choice at t c (f x) (f y)) (part e d.0) ∙ ap₂ (tree.Choice at t (g e)) (part x d1.0) (part y d1.1)
  same_expr (expr_node.Address x) h = refl
  same_expr (expr_node.Letter x) h = refl
  same_expr (expr_node.Pointed at t e) h = ap (tree.Pointed at t) (part e h)
  same_expr (expr_node.StepOf at op to) h = ap (tree.StepOf at op) (same_target to h)
  same_expr (expr_node.Assign at to e) h = let d = and_parts _ _ h in ap₂ (tree.Assign at) (same_target to d.0) (part e d.1)
  same_expr (expr_node.Compound at to op e) h =
      let d = and_parts _ _ h in ap₂ (λ x y. tree.Compound at x op y) (same_target to d.0) (part e d.1)
  same_expr (expr_node.Api at r es) h = ap (tree.Api at r) (same_exprs es h)
  same_expr (expr_node.TextWithLength at x e) h = ap (tree.TextWithLength at x) (part e h)
  same_expr (expr_node.Croak at t es) h = let d = and_parts _ _ h in ap₂ (tree.Croak at) (same_text t d.0) (same_exprs es d.1)
  same_expr (expr_node.Usage at t) h = ap (tree.Usage at) (same_text t h)
  same_expr (expr_node.Call at c es) h = ap (tree.Call at c) (same_exprs es h)

  opens_expr : (o : Option ExprNode) → ((n : ExprNode) → o ≡ Some n → expr_fits a i n ≡ true) → expr_from b o f ≡ expr_from a o g
  opens_expr None h = refl
  opens_expr (Some n) h = same_expr n (h n refl)

module _ (a b : Arena) (ext : Extends a b) (f g : ℕ → Expr) (exprs : (j : ℕ) → j < length a.exprs → f j ≡ g j)
    (i : ℕ) (h k : ℕ → Stmt) (stmts : (j : ℕ) → j < i → h j ≡ k j) where
  value : (j : ℕ) → nat_lt j (length a.exprs) ≡ true → f j ≡ g j
  value j e = exprs j (ltb-true j (length a.exprs) e)

  done : (j : ℕ) → nat_lt j i ≡ true → h j ≡ k j
  done j e = stmts j (ltb-true j i e)

  same_test : (t : TestNode) → test_fits (length a.exprs) t ≡ true → test_from t f ≡ test_from t g
  same_test test_node.Always fit = refl
  same_test (test_node.When e) fit = ap tree.When (value e fit)

  same_option : (o : Option ℕ) → option_below (length a.exprs) o ≡ true → option_map f o ≡ option_map g o
  same_option None fit = refl
  same_option (Some e) fit = ap Some (value e fit)

  pub same_stmts : (r : Range) → parts_fit a i r ≡ true → stmts_of (map h (ranged b.parts r)) ≡ stmts_of (map k (ranged a.parts r))
  same_stmts r fit =
      let d = and_parts _ _ fit in
      ap (λ js. stmts_of (map h js)) (ext.parts.range r d.0) ∙ ap stmts_of (map_same i h k stmts (ranged a.parts r) d.1)

  same_labels : (c : GroupNode) → group_fits a i c ≡ true → ranged b.labels c.labels ≡ ranged a.labels c.labels
  same_labels c fit = ext.labels.range c.labels (and_parts _ _ fit).0

  same_groups : (gs : List GroupNode) → list_all (group_fits a i) gs ≡ true
      → groups_from h (map (group_parts b) gs) ≡ groups_from k (map (group_parts a) gs)
  same_groups [] fit = refl
  same_groups (c ∷ gs) fit =
      let d = and_parts _ _ fit in
      ap (λ ls. tree.MoreGroups ls (stmts_of (map h (ranged b.parts c.body))) (groups_from h (map (group_parts b) gs))) (same_labels c d.0)
      ∙ ap₂ (tree.MoreGroups (ranged a.labels c.labels)) (same_stmts c.body (and_parts _ _ d.0).1) (same_groups gs d.1)

  same_switch : (r : Range) → groups_fit a i r ≡ true
      → groups_from h (map (group_parts b) (ranged b.groups r)) ≡ groups_from k (map (group_parts a) (ranged a.groups r))
  same_switch r fit =
      let d = and_parts _ _ fit in
      ap (λ gs. groups_from h (map (group_parts b) gs)) (ext.groups.range r d.0) ∙ same_groups (ranged a.groups r) d.1

  pub same_stmt : (n : StmtNode) → stmt_fits a i n ≡ true → stmt_from b (Some n) f h ≡ stmt_from a (Some n) g k
  same_stmt (stmt_node.Block slots ss) fit = let d = and_parts _ _ fit in ap₂ tree.Block (ext.slots.range slots d.0) (same_stmts ss d.1)
  same_stmt (stmt_node.Effect e) fit = ap tree.Effect (value e fit)
  same_stmt (stmt_node.Declare at x) fit = refl
  same_stmt (stmt_node.If at e s t) fit =
      let d = and_parts _ _ fit in
      let d1 = and_parts _ _ d.1 in
      ap (λ x. tree.If at x (h s) (h t)) (value e d.0) ∙ ap₂ (tree.If at (g e)) (done s d1.0) (done t d1.1)
  same_stmt (stmt_node.Loop at first test each s) fit =
      let d = and_parts _ _ fit in
      let d1 = and_parts _ _ d.1 in
      ap (λ x. tree.Loop at first x (option_map f each) (h s)) (same_test test d.0)
      ∙ ap₂ (tree.Loop at first (test_from test g)) (same_option each d1.0) (done s d1.1)
  same_stmt (stmt_node.Switch at c e gs) fit = let d = and_parts _ _ fit in ap₂ (tree.Switch at c) (value e d.0) (same_switch gs d.1)
  same_stmt (stmt_node.Break at) fit = refl
  same_stmt (stmt_node.Continue at) fit = refl
  same_stmt (stmt_node.Return at) fit = refl
  same_stmt (stmt_node.Give at e) fit = ap (tree.Give at) (value e fit)
  same_stmt (stmt_node.Quit at e) fit = ap (tree.Quit at) (value e fit)
  same_stmt (stmt_node.Register t n keeps) fit = ap (λ x. tree.Register x n keeps) (ext.texts.value t [] (ltb-true t (length a.texts) fit))
  same_stmt (stmt_node.SetIndex n) fit = refl
  same_stmt (stmt_node.NewRecord at x r) fit = refl

  opens_stmt : (o : Option StmtNode) → ((n : StmtNode) → o ≡ Some n → stmt_fits a i n ≡ true) → stmt_from b o f h ≡ stmt_from a o g k
  opens_stmt None fit = refl
  opens_stmt (Some n) fit = same_stmt n (fit n refl)

-- ---- enough levels are as good as more, also where the arena is extended

module _ (a b : Arena) (ext : Extends a b) (all : List FunctionNode) (fits : Fits a all) (limit : ℕ)
    (exprs : (i : ℕ) → i < limit → slice_get b.exprs i ≡ slice_get a.exprs i) where
  exprs_agree : (k m i : ℕ) → i < limit → i < k → i < m → expr_to k b i ≡ expr_to m a i
  unfolding expr_to
  exprs_agree zero m i l h1 h2 = absurd (omega (arith, h1))
  exprs_agree (suc k) zero i l h1 h2 = absurd (omega (arith, h2))
  exprs_agree (suc k) (suc m) i l h1 h2 =
      ap (λ o. expr_from b o (expr_to k b)) (exprs i l)
      ∙ opens_expr a b ext i (expr_to k b) (expr_to m a)
      (λ j lt. exprs_agree k m j (omega (arith, lt, l)) (omega (arith, lt, h1)) (omega (arith, lt, h2))) (slice_get a.exprs i) (fits.expr i)

module _ (a b : Arena) (ext : Extends a b) (all : List FunctionNode) (fits : Fits a all) (limit : ℕ)
    (exprs : (i : ℕ) → i < length a.exprs → expr_at b i ≡ expr_at a i) (stmts : (i : ℕ) → i < limit → slice_get b.stmts i ≡ slice_get a.stmts i) where
  stmts_agree : (k m i : ℕ) → i < limit → i < k → i < m → stmt_to k b i ≡ stmt_to m a i
  unfolding stmt_to
  stmts_agree zero m i l h1 h2 = absurd (omega (arith, h1))
  stmts_agree (suc k) zero i l h1 h2 = absurd (omega (arith, h2))
  stmts_agree (suc k) (suc m) i l h1 h2 =
      ap (λ o. stmt_from b o (expr_at b) (stmt_to k b)) (stmts i l)
      ∙ opens_stmt a b ext (expr_at b) (expr_at a) exprs i (stmt_to k b) (stmt_to m a)
      (λ j lt. stmts_agree k m j (omega (arith, lt, l)) (omega (arith, lt, h1)) (omega (arith, lt, h2))) (slice_get a.stmts i) (fits.stmt i)

-- ---- what stays in an arena that extends another

module _ (a b : Arena) (ext : Extends a b) (all : List FunctionNode) (fits : Fits a all) where
  pub expr_stays : (i : ℕ) → i < length a.exprs → expr_at b i ≡ expr_at a i
  unfolding expr_at
  expr_stays i h = exprs_agree a b ext all fits (length a.exprs) ext.exprs.get (suc i) (suc i) i h (omega arith) (omega arith)

  pub stmt_stays : (i : ℕ) → i < length a.stmts → stmt_at b i ≡ stmt_at a i
  unfolding stmt_at
  stmt_stays i h = stmts_agree a b ext all fits (length a.stmts) expr_stays ext.stmts.get (suc i) (suc i) i h (omega arith) (omega arith)

  stay : (fs : List FunctionNode) → ((i : ℕ) (f : FunctionNode) → slice_get fs i ≡ Some f → f.body < length a.stmts)
      → map (function_of b) fs ≡ map (function_of a) fs
  stay [] h = refl
  stay (f ∷ fs) h =
      ap (λ t. record { name = f.name; sort = f.sort; slots = f.slots.items; body = t } ∷ map (function_of b) fs) (stmt_stays f.body (h 0 f refl))
      ∙ ap (λ gs. function_of a f ∷ gs) (stay fs (λ i g. h (suc i) g))

  pub functions_stay : map (function_of b) all ≡ map (function_of a) all
  functions_stay = stay all fits.body

-- ---- a tree opens

module _ (a : Arena) (all : List FunctionNode) (fits : Fits a all) (itself : Extends a a) where
  pub expr_opens : (i : ℕ) → expr_at a i ≡ expr_from a (slice_get a.exprs i) (expr_at a)
  unfolding expr_at expr_to
  expr_opens i =
      opens_expr a a itself i (expr_to i a) (expr_at a)
      (λ j lt. exprs_agree a a itself all fits i (λ k l. refl) i (suc j) j lt lt (omega arith)) (slice_get a.exprs i) (fits.expr i)

  pub stmt_opens : (i : ℕ) → stmt_at a i ≡ stmt_from a (slice_get a.stmts i) (expr_at a) (stmt_at a)
  unfolding stmt_at stmt_to
  stmt_opens i =
      opens_stmt a a itself (expr_at a) (expr_at a) (λ j lt. refl) i (stmt_to i a) (stmt_at a)
      (λ j lt. stmts_agree a a itself all fits i (λ k l. refl) (λ k l. refl) i (suc j) j lt lt (omega arith)) (slice_get a.stmts i) (fits.stmt i)
