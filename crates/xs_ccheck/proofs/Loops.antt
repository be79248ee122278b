-- The loops over arguments, statements and functions, and nodes of two parts.
use Rattle.std.proofs.Common.{◌≡◌, ℕ, cond, ◌+◌, ◌<◌, ◌≤◌, true, List, [], ◌∷◌, map, length, drop, Option, Some, None, Result, Ok, Err, refl, sym, ap, ap₂, ◌∙◌, subst, append-nil, get_or}
use Rattle.std.proofs.lemmas.Bool.{ltb-true}
use Rattle.std.proofs.lemmas.List.{drop_more, drop_all}
use Rattle.xs_base.specs.declared.fault.Fault.{Fault}
use Rattle.xs_base.specs.declared.fault.Refuse.{Refuse}
use Rattle.xs_base.specs.declared.fault.Refuse.TheVariants as refuse
use Rattle.xs_base.specs.declared.fault_codes.TheConstants.{TYPES_DIFFER}
use Rattle.xs_base.specs.declared.source.FileOf.TheVariants as file
use Rattle.xs_base.specs.Reading.{not_built_in}
use Rattle.xs_csyn.specs.declared.tree.Define.{Define}
use Rattle.xs_perlapi.specs.Table.{RowCall}
use Rattle.xs_ctree.specs.declared.value_type.ValueType.{ValueType}
use Rattle.xs_ctypes.specs.ValueTypes.{result_type}
use Rattle.xs_cinput.specs.declared.tree.BinaryOp.{BinaryOp}
use Rattle.xs_values.specs.declared.operator.Op.{Op}
use Rattle.xs_cexpr.specs.declared.tree.Expr.{Expr}
use Rattle.xs_cexpr.specs.ExpressionTree.{ExprTree, PlaceTree, Index, Set, Two, exprs_of}
use Rattle.xs_cexpr.specs.ExpressionViews.{expr_tree}
use Rattle.xs_cstmt.specs.declared.tree.Declarator.{Declarator}
use Rattle.xs_cstmt.specs.declared.tree.Group.{Group}
use Rattle.xs_cstmt.specs.declared.tree.Label.{Label}
use Rattle.xs_cstmt.specs.declared.tree.Stmt.{Stmt}
use Rattle.xs_cstmt.specs.StatementTree.{groups_of, stmts_of}
use Rattle.xs_cstmt.specs.StatementViews.{declarator_tree, group_tree, stmt_tree}
use Rattle.xs_csyn.specs.declared.tree.FileItem.{FileItem}
use Rattle.xs_csyn.specs.FileViews.{item_tree}
use Rattle.xs_ctree.specs.declared.node.TargetNode.{TargetNode}
use Rattle.xs_ctree.specs.declared.node.TargetNode.TheVariants as target_node
use Rattle.xs_ctree.specs.declared.typed.Typed.{Typed}
use Rattle.xs_ctree.specs.Arena.{target_fits, target_from}
use Rattle.xs_ctree.specs.Functions.{expr_in, functions_in, records_in}
use Rattle.xs_ctree.specs.Growth.{AddsExpr, Keeps}
use Rattle.xs_ctree.specs.TypedTree.{Api, ToItem}
use Rattle.xs_ctree.specs.TypedTree as tree
use Rattle.xs_ctree.proofs.Additions.{keeps_on}
use Rattle.xs_ccheck.specs.declared.exprs.PlaceNode.{PlaceNode}
use Rattle.xs_ccheck.specs.declared.exprs.TypedNode.{TypedNode}
use Rattle.xs_ccheck.specs.declared.enclosing.Where.{Where}
use Rattle.xs_ctypes.specs.Checked.{Checked, Good, Bad, both, Fine, Wrong, judged, more}
use Rattle.xs_ccheck.specs.ExprTyping.{TypedExpr, all_fit, as_typed, combined, element, expr, exprs, place_in, row_called, row_judged, set_to}
use Rattle.xs_ccheck.specs.FileTyping.{defines, functions, item}
use Rattle.xs_ctypes.specs.Joining.{Notes, TakesUp, joined, settled}
use Rattle.xs_ccheck.specs.Resolving.{GivesExpr, GivesFunction, GivesFunctions, GivesTarget, HasTarget, HasTyped, all_typed_in, nodes_of, Resolved, UnlessMemory, target_in, typed_in}
use Rattle.xs_ctypes.specs.Scopes.{Local, Scope, declarators_behind, groups_behind, name_behind, scope_behind, scopes_behind}
use Rattle.xs_ccheck.specs.StmtTyping.{declarator, declarators, group, groups, label_number, labels, line_of_label, stmt, stmts}
use Rattle.xs_ctypes.specs.FileNames.{FileNames}
use Rattle.xs_ccheck.proofs.Collecting.{joined_first, joined_second, on, on_first, on_good, on_two, resolves_on}

-- ---- nodes of two parts

module _ (old new : Typed) (k : Keeps old new) where
  target_kept : (t : TargetNode) → target_fits (length old.exprs.items) t ≡ true → target_from t (expr_in new) ≡ target_from t (expr_in old)
  target_kept (target_node.Variable x t) h = refl
  target_kept (target_node.Pointed x kind) h = refl
  target_kept (target_node.Field x r field kind) h = refl
  target_kept (target_node.Item at) h = ap ToItem (k.expr at (ltb-true at (length old.exprs.items) h))

  place_kept : (p : PlaceNode) → HasTarget old p → target_in new p ≡ target_in old p
  place_kept p h = ap (λ t. record { target = t; of_type = p.of_type }) (target_kept p.target h)

  typed_kept : (x : TypedNode) → HasTyped old x → typed_in new x ≡ typed_in old x
  typed_kept x h = ap (λ e. record { tree = e; of_type = x.of_type }) (k.expr x.node h)

module _ (vs : List Local) (line : ℕ) (old one two new : Typed) (res : Result TypedNode Refuse) (x : TypedNode) (v : Result TypedNode Refuse) where
  pub assignment : (op : Option Op) (place : PlaceTree) (value : ExprTree) (p : PlaceNode) (to : Result PlaceNode Refuse)
      → GivesTarget to old one (place_in vs place) → GivesExpr v one two (expr vs value) → joined to v ≡ Ok (p, x)
      → GivesExpr res two new (judged line (set_to line op (target_in two p) (typed_in two x))) → GivesExpr res old new (expr vs (Set line place op value))
  unfolding expr
  assignment op place value p to h g e r =
      let first : Resolved target_in HasTarget p old one (place_in vs place) =
      subst (λ z. GivesTarget z old one (place_in vs place)) (joined_first to v p x e) h in
      let second : Resolved typed_in HasTyped x one two (expr vs value) = subst (λ z. GivesExpr z one two (expr vs value)) (joined_second to v p x e) g in
      let read : expr vs (Set line place op value) ≡ judged line (set_to line op (target_in two p) (typed_in two x)) =
      ap₂ (λ a b. both a b (λ q y. judged line (set_to line op q y))) first.means second.means
      ∙ ap (λ q. judged line (set_to line op q (typed_in two x))) (sym (place_kept one two second.keeps p first.there_is)) in
      resolves_on typed_in HasTyped res old two new _ (keeps_on old one two first.keeps second.keeps) (subst (λ z. GivesExpr res two new z) (sym read) r)

  pub operation : (op : BinaryOp) (a b : ExprTree) (y : TypedNode) (w : Result TypedNode Refuse)
      → GivesExpr w old one (expr vs a) → GivesExpr v one two (expr vs b) → joined w v ≡ Ok (y, x)
      → GivesExpr res two new (judged line (combined op (typed_in two y) (typed_in two x))) → GivesExpr res old new (expr vs (Two line op a b))
  unfolding expr
  operation op a b y w h g e r =
      let first : Resolved typed_in HasTyped y old one (expr vs a) = subst (λ z. GivesExpr z old one (expr vs a)) (joined_first w v y x e) h in
      let second : Resolved typed_in HasTyped x one two (expr vs b) = subst (λ z. GivesExpr z one two (expr vs b)) (joined_second w v y x e) g in
      let read : expr vs (Two line op a b) ≡ judged line (combined op (typed_in two y) (typed_in two x)) =
      ap₂ (λ c d. both c d (λ q z. judged line (combined op q z))) first.means second.means
      ∙ ap (λ q. judged line (combined op q (typed_in two x))) (sym (typed_kept one two second.keeps y first.there_is)) in
      resolves_on typed_in HasTyped res old two new _ (keeps_on old one two first.keeps second.keeps) (subst (λ z. GivesExpr res two new z) (sym read) r)

  pub indexing : (a b : ExprTree) (y : TypedNode) (w : Result TypedNode Refuse)
      → GivesExpr w old one (expr vs a) → GivesExpr v one two (expr vs b) → joined w v ≡ Ok (y, x)
      → GivesExpr res two new (judged line (element (typed_in two y) (typed_in two x))) → GivesExpr res old new (expr vs (Index line a b))
  unfolding expr
  indexing a b y w h g e r =
      let first : Resolved typed_in HasTyped y old one (expr vs a) = subst (λ z. GivesExpr z old one (expr vs a)) (joined_first w v y x e) h in
      let second : Resolved typed_in HasTyped x one two (expr vs b) = subst (λ z. GivesExpr z one two (expr vs b)) (joined_second w v y x e) g in
      let read : expr vs (Index line a b) ≡ judged line (element (typed_in two y) (typed_in two x)) =
      ap₂ (λ c d. both c d (λ q z. judged line (element q z))) first.means second.means
      ∙ ap (λ q. judged line (element q (typed_in two x))) (sym (typed_kept one two second.keeps y first.there_is)) in
      resolves_on typed_in HasTyped res old two new _ (keeps_on old one two first.keeps second.keeps) (subst (λ z. GivesExpr res two new z) (sym read) r)

-- ---- rows

trees_of : (t : Typed) (xs : List TypedNode) → map (λ (y : TypedExpr). y.tree) (map (typed_in t) xs) ≡ map (expr_in t) (nodes_of xs)
trees_of t [] = refl
trees_of t (x ∷ xs) = ap (λ ts. expr_in t x.node ∷ ts) (trees_of t xs)

pub row_typed : (line : ℕ) (r : RowCall) (old new : Typed) (xs : List TypedNode) (ns : List ℕ) (i : ℕ) (t : ValueType) → ns ≡ nodes_of xs
    → t ≡ result_type r.result → all_fit r.operands (all_typed_in old xs) ≡ true
    → AddsExpr old (Api line r.row (tree.exprs_of (map (expr_in old) ns))) i new
    → Resolved typed_in HasTyped (record { node = i; of_type = t }) old new (judged line (row_judged line r (all_typed_in old xs)))
row_typed line r old new xs ns i t e same fit a =
    record {
      means = ap (λ b. judged line (cond b (Fine (row_called line r (all_typed_in old xs))) (Wrong TYPES_DIFFER []))) fit
          ∙ ap (λ ts. Good (as_typed (Api line r.row (tree.exprs_of ts)) (result_type r.result))) (trees_of old xs ∙ ap (map (expr_in old)) (sym e))
          ∙ ap₂ (λ x ty. Good (as_typed x ty)) (sym a.is) (sym same);
      there_is = a.there;
      keeps = a.keeps;
    }

-- ---- what is left of a list

pub rest_of : {X : Type 0} (xs : List X) (i : ℕ) (x : X) → i < length xs → x ≡ get_or xs i x → drop i xs ≡ x ∷ drop (i + 1) xs
rest_of xs i x lt is = drop_more xs i x lt ∙ ap (λ z. z ∷ drop (i + 1) xs) (sym is)

pub exprs_next : (vs : List Local) (args : List Expr) (i : ℕ) (a : Expr) → i < length args → a ≡ get_or args i a
    → exprs vs (exprs_of (map expr_tree (drop i args))) ≡ more (expr vs (expr_tree a)) (exprs vs (exprs_of (map expr_tree (drop (i + 1) args))))
unfolding expr
exprs_next vs args i a lt is = ap (λ xs. exprs vs (exprs_of (map expr_tree xs))) (rest_of args i a lt is)

pub exprs_end : (vs : List Local) (args : List Expr) (i : ℕ) → length args ≤ i → exprs vs (exprs_of (map expr_tree (drop i args))) ≡ Good []
unfolding expr
exprs_end vs args i le = ap (λ xs. exprs vs (exprs_of (map expr_tree xs))) (drop_all i args le)

module _ (names : FileNames) (w : Where) where
  pub stmts_next : (scope : Scope) (body : List Stmt) (i : ℕ) (s : Stmt) → i < length body → s ≡ get_or body i s
      → stmts names w scope (stmts_of (map stmt_tree (drop i body)))
      ≡ more (stmt names w scope (stmt_tree s)) (stmts names w (scope_behind scope (stmt_tree s)) (stmts_of (map stmt_tree (drop (i + 1) body))))
  unfolding stmt
  stmts_next scope body i s lt is = ap (λ xs. stmts names w scope (stmts_of (map stmt_tree xs))) (rest_of body i s lt is)

  pub stmts_end : (scope : Scope) (body : List Stmt) (i : ℕ) → length body ≤ i → stmts names w scope (stmts_of (map stmt_tree (drop i body))) ≡ Good []
  unfolding stmt
  stmts_end scope body i le = ap (λ xs. stmts names w scope (stmts_of (map stmt_tree xs))) (drop_all i body le)

  pub groups_next : (scope : Scope) (all : List Group) (i : ℕ) (g : Group) → i < length all → g ≡ get_or all i g
      → groups names w scope (groups_of (map group_tree (drop i all)))
      ≡ more (group names w scope (group_tree g).labels (group_tree g).body)
      (groups names w (scopes_behind scope (group_tree g).body) (groups_of (map group_tree (drop (i + 1) all))))
  unfolding stmt
  groups_next scope all i g lt is = ap (λ xs. groups names w scope (groups_of (map group_tree xs))) (rest_of all i g lt is)

  pub groups_end : (scope : Scope) (all : List Group) (i : ℕ) → length all ≤ i → groups names w scope (groups_of (map group_tree (drop i all))) ≡ Good []
  unfolding stmt
  groups_end scope all i le = ap (λ xs. groups names w scope (groups_of (map group_tree xs))) (drop_all i all le)

pub scopes_next : (scope : Scope) (body : List Stmt) (i : ℕ) (s : Stmt) → i < length body → s ≡ get_or body i s
    → scopes_behind scope (stmts_of (map stmt_tree (drop i body)))
    ≡ scopes_behind (scope_behind scope (stmt_tree s)) (stmts_of (map stmt_tree (drop (i + 1) body)))
unfolding scope_behind
scopes_next scope body i s lt is = ap (λ xs. scopes_behind scope (stmts_of (map stmt_tree xs))) (rest_of body i s lt is)

pub scopes_end : (scope : Scope) (body : List Stmt) (i : ℕ) → length body ≤ i → scopes_behind scope (stmts_of (map stmt_tree (drop i body))) ≡ scope
unfolding scope_behind
scopes_end scope body i le = ap (λ xs. scopes_behind scope (stmts_of (map stmt_tree xs))) (drop_all i body le)

pub groups_behind_next : (scope : Scope) (all : List Group) (i : ℕ) (g : Group) → i < length all → g ≡ get_or all i g
    → groups_behind scope (groups_of (map group_tree (drop i all)))
    ≡ groups_behind (scopes_behind scope (group_tree g).body) (groups_of (map group_tree (drop (i + 1) all)))
unfolding scope_behind
groups_behind_next scope all i g lt is = ap (λ xs. groups_behind scope (groups_of (map group_tree xs))) (rest_of all i g lt is)

pub groups_behind_end : (scope : Scope) (all : List Group) (i : ℕ) → length all ≤ i → groups_behind scope (groups_of (map group_tree (drop i all))) ≡ scope
unfolding scope_behind
groups_behind_end scope all i le = ap (λ xs. groups_behind scope (groups_of (map group_tree xs))) (drop_all i all le)

pub labels_next : (vs : List Local) (all : List Label) (i : ℕ) (l : Label) → i < length all → l ≡ get_or all i l
    → labels vs (drop i all) ≡ more (judged (line_of_label l) (label_number vs l)) (labels vs (drop (i + 1) all))
labels_next vs all i l lt is = ap (labels vs) (rest_of all i l lt is)

pub declarators_next : (base : List ℕ) (scope : Scope) (ds : List Declarator) (i : ℕ) (d : Declarator) → i < length ds → d ≡ get_or ds i d
    → declarators base scope (map declarator_tree (drop i ds))
    ≡ more (declarator base scope (declarator_tree d) (declarator_tree d).value)
    (declarators base (name_behind base scope (declarator_tree d)) (map declarator_tree (drop (i + 1) ds)))
declarators_next base scope ds i d lt is = ap (λ xs. declarators base scope (map declarator_tree xs)) (rest_of ds i d lt is)

pub names_next : (base : List ℕ) (scope : Scope) (ds : List Declarator) (i : ℕ) (d : Declarator) → i < length ds → d ≡ get_or ds i d
    → declarators_behind base scope (map declarator_tree (drop i ds))
    ≡ declarators_behind base (name_behind base scope (declarator_tree d)) (map declarator_tree (drop (i + 1) ds))
names_next base scope ds i d lt is = ap (λ xs. declarators_behind base scope (map declarator_tree xs)) (rest_of ds i d lt is)

-- what holds unless memory ran out holds of a part that was taken up
pub taken : {X : Type 0} (P : Type 0) (part : Result X Refuse) (good good1 : List X) (least least1 : Option Fault)
    → TakesUp good least part good1 (Ok least1) → UnlessMemory part P → P
taken P (Ok x) good good1 least least1 u h = h
taken P (Err (refuse.Fault f)) good good1 least least1 u h = h
taken P (Err refuse.Memory) good good1 least least1 u h = absurd u

pub unless_memory : {X : Type 0} (P : Type 0) (good : X) (least : Option Fault) → P → UnlessMemory (settled good least) P
unless_memory P good None h = h
unless_memory P good (Some f) h = h

pub defines_next : (ds : List Define) (i : ℕ) (d : Define) (f : Fault) → i < length ds → d ≡ get_or ds i d → f ≡ not_built_in file.Text d.line
    → defines (drop i ds) ≡ more (Bad f) (defines (drop (i + 1) ds))
defines_next ds i d f lt is e = ap defines (rest_of ds i d lt is) ∙ ap (λ g. more (Bad g) (defines (drop (i + 1) ds))) (sym e)

-- ---- functions

pub functions_next : (names : FileNames) (items : List FileItem) (i : ℕ) (x : FileItem) → i < length items → x ≡ get_or items i x
    → functions names i (map item_tree (drop i items)) ≡ more (item names i (item_tree x)) (functions names (i + 1) (map item_tree (drop (i + 1) items)))
functions_next names items i x lt is = ap (λ xs. functions names i (map item_tree xs)) (rest_of items i x lt is)

abbrev pub FunctionsSoFar : Option Fault → Typed → Checked (List tree.Function) → Checked (List tree.Function) → Type 0
FunctionsSoFar None t whole rest = (whole ≡ on (Good (functions_in t)) rest) × (records_in t ≡ [])
FunctionsSoFar (Some f) t whole rest = whole ≡ on (Bad f) rest

later_on : (g : Fault) (f : tree.Function) (rest : Checked (List tree.Function)) → on (Bad g) (more (Good f) rest) ≡ on (Bad g) rest
later_on g f (Good fs) = refl
later_on g f (Bad h) = refl

pub function_noted : (least least1 : Option Fault) (part : Result (Unit {0}) Refuse) (t new : Typed) (read : Checked tree.Function)
    (whole now rest : Checked (List tree.Function)) → now ≡ more read rest → FunctionsSoFar least t whole now → GivesFunction part t new read
    → Notes least part (Ok least1) → FunctionsSoFar least1 new whole rest
function_noted None least1 (Ok u) t new read whole now rest e h r n =
    subst (λ l. FunctionsSoFar l new whole rest) (sym n) (
      h.0 ∙ ap (on (Good (functions_in t))) (e ∙ ap (λ z. more z rest) r.means) ∙ on_good (functions_in t) r.here rest
          ∙ ap (λ fs. on (Good fs) rest) (sym r.functions),
      r.records ∙ h.1,
    )
function_noted None least1 (Err (refuse.Fault f)) t new read whole now rest e h r n =
    subst (λ l. FunctionsSoFar l new whole rest) (sym n)
    (h.0 ∙ ap (on (Good (functions_in t))) (e ∙ ap (λ z. more z rest) r) ∙ on_first (functions_in t) f rest)
function_noted (Some g) least1 (Ok u) t new read whole now rest e h r n =
    subst (λ l. FunctionsSoFar l new whole rest) (sym n) (h ∙ ap (on (Bad g)) (e ∙ ap (λ z. more z rest) r.means) ∙ later_on g r.here rest)
function_noted (Some g) least1 (Err (refuse.Fault f)) t new read whole now rest e h r n =
    subst (λ l. FunctionsSoFar l new whole rest) (sym n) (h ∙ ap (on (Bad g)) (e ∙ ap (λ z. more z rest) r) ∙ on_two g f rest)
function_noted None least1 (Err refuse.Memory) t new read whole now rest e h r n = absurd n
function_noted (Some g) least1 (Err refuse.Memory) t new read whole now rest e h r n = absurd n

pub functions_end : (least : Option Fault) (t : Typed) (whole now : Checked (List tree.Function)) → now ≡ Good [] → FunctionsSoFar least t whole now
    → GivesFunctions (settled t least) whole
functions_end None t whole now e h = (h.0 ∙ ap (on (Good (functions_in t))) e ∙ ap Good (append-nil (functions_in t)), h.1)
functions_end (Some f) t whole now e h = h ∙ ap (on (Bad f)) e
