-- Files that are equal but for lines have the same code but for places, or none has code.
use Rattle.std.proofs.Common.{◌≡◌, ℕ, ◌+◌, codes, subst, Bool, true, false, cond, List, [], ◌∷◌, length, map, drop, Option, None, Some, Result, Ok, Err, refl, sym, ap, ap₂, ◌∙◌}
use Rattle.std.specs.Option.{option_map, is_some}
use Rattle.std.specs.Str.{bytes_eq}
use Rattle.std.specs.Prelude.{◌&&◌, ◌||◌, nat_eq}
use Rattle.std.proofs.lemmas.List.{map-id, take-map, drop-map, length-map, map-append}
use Rattle.std.proofs.lemmas.Option.{same_Some}
use Rattle.xs_base.specs.declared.fault.Fault.{Fault}
use Rattle.xs_base.specs.declared.fault_codes.TheConstants.{DECLARED_TWICE, TYPES_DIFFER, WRONG_NUMBER_OF_ARGUMENTS, UNKNOWN_NAME}
use Rattle.xs_cexpr.specs.ExpressionTree as syntax_expr
use Rattle.xs_cexpr.specs.ExpressionTree.{ExprTree, ExprTrees, PlaceTree, VarPlace, TargetPlace, StPlace, unlined_expr, unlined_exprs, unlined_place}
use Rattle.xs_cstmt.specs.StatementTree as syntax_stmt
use Rattle.xs_cstmt.specs.StatementTree.{DeclaratorTree, FirstTree, StmtTree, StmtTrees, GroupTrees, unlined_declarator, unlined_first, unlined_groups, unlined_label, unlined_stmt, unlined_stmts}
use Rattle.xs_cstmt.specs.declared.tree.Label.{Label}
use Rattle.xs_cstmt.specs.declared.tree.Label.TheVariants as label
use Rattle.xs_cstmt.specs.declared.tree.PerlForm.{PerlForm}
use Rattle.xs_cstmt.specs.declared.tree.PerlForm.TheVariants as form
use Rattle.xs_cstmt.specs.declared.tree.PerlWord.{PerlWord}
use Rattle.xs_cstmt.specs.declared.tree.PerlWord.TheVariants as word
use Rattle.xs_csyn.specs.declared.tree.Define.{Define}
use Rattle.xs_csyn.specs.FileTree.{XsFunTree, ItemTree, XsFunItem, FileTree, unlined, unlined_define, unlined_item}
use Rattle.xs_values.specs.Kinds.{promoted}
use Rattle.xs_values.specs.Numbers.{Number}
use Rattle.xs_perlapi.specs.declared.row.ApiType.{ApiType}
use Rattle.xs_perlapi.specs.Table.{RowCall, row_named}
use Rattle.xs_ctree.specs.declared.value_type.Slot.{Slot}
use Rattle.xs_ctree.specs.declared.value_type.ValueType.{ValueType}
use Rattle.xs_ctree.specs.declared.value_type.ValueType.TheVariants as type_of
use Rattle.xs_perlapi.specs.declared.row.Row.TheVariants.{Entry}
use Rattle.xs_ctree.specs.TypedTree.{Expr, NoExprs, MoreExprs, Passed, Cast, Assign, Api, ToItem, When, Stmt, NoStmts, MoreStmts, MoreGroups, Block, Effect, Declare, If, Loop, Switch, Break, Continue, Return, Give, Quit, nothing, Code, exprs_of, stmts_of, bare, bare_expr, bare_exprs, bare_function, bare_groups, bare_slot, bare_stmt, bare_stmts, bare_target, bare_test}
use Rattle.xs_ccheck.specs.declared.enclosing.Where.{Where}
use Rattle.xs_ctypes.specs.Checked.{Bad, Checked, Fine, Good, Judged, Wrong, answer, behind, four, judged, unbuilt, unknown}
use Rattle.xs_ccheck.specs.ExprTyping.{TypedExpr, TypedTarget, address_meant, all_fit, as_typed, back_step, called, char_slot, expr, exprs, front_step, is_cv, item_place, letter_in, name_meant, option_expr, place_in, row_judged, target_place, text_in, usage, usage_of, usage_word, variable_place}
use Rattle.xs_ccheck.specs.FileTyping.{behind_entry, code_meant, defines, entry_form, entry_line, entry_of, entry_word, function, function_done, function_from, function_judged, functions, item, sort_of, typed_of, where_in, with_entry}
use Rattle.xs_ctypes.specs.FileNames.{FileNames, index_of, is_boot_name, is_earlier, item_name, names_of}
use Rattle.xs_ctypes.specs.Scopes.{Local, Scope, beginning, declared_in, declarators_behind, first_behind, groups_behind, is_in_use, knowing, name_behind, new_variable, next_slot, scope_behind, scopes_behind, variable_of, with_variable}
use Rattle.xs_ccheck.specs.StmtTyping.{TypedGroup, begun, conditional, declaration, declarator, declarators, declared, effect, first_part, for_loop, function_end, groups, groups_of, in_group, in_order, in_turn, is_given, is_test, label_number, labelled, labels, line_of_label, may_return, perl, perl_word, quits, stated, stmt, stmts, switched, test_of, typed_group, unset, unused}
use Rattle.xs_ctypes.specs.TypeNames.{cast_named, declared_type, type_named}
use Rattle.xs_ctypes.specs.ValueTypes.{goes_into, is_condition, is_number, is_operand, result_type}
use Rattle.xs_ccheck.proofs.Alike.{Alike, AlikeIn, seen, seen_in, fine, wrongs, by_test, judged_alike, after, after_both, after_three, more_alike, bare_typed, bare_place, same_type, same_tree, when_alike}
use Rattle.xs_ccheck.proofs.OperatorsAlike.{cast_alike, chosen_alike, combined_alike, element_alike, pointed_alike, prefixed_alike, set_alike, stepped_alike}

-- ---- variables

abbrev bare_local : Local → Local
bare_local v = record { name = v.name; slot = bare_slot v.slot }

abbrev bare_locals : List Local → List Local
bare_locals vs = map bare_local vs

abbrev bare_scope : Scope → Scope
bare_scope s = record { variables = bare_locals s.variables; slots = map bare_slot s.slots }

by_name : (b : Bool) (s : Slot) (x y : Option Slot) → x ≡ option_map bare_slot y → cond b (Some (bare_slot s)) x ≡ option_map bare_slot (cond b (Some s) y)
by_name true s x y e = refl
by_name false s x y e = e

found_bare : (vs : List Local) (name : List ℕ) → variable_of (bare_locals vs) name ≡ option_map bare_slot (variable_of vs name)
unfolding variable_of
found_bare [] name = refl
found_bare (v ∷ vs) name = by_name (bytes_eq v.name name) v.slot _ _ (found_bare vs name)

some_bare : (o : Option Slot) → is_some (option_map bare_slot o) ≡ is_some o
some_bare None = refl
some_bare (Some v) = refl

use_bare : (vs : List Local) (name : List ℕ) → is_in_use (bare_locals vs) name ≡ is_in_use vs name
unfolding is_in_use
use_bare vs name = rw (found_bare vs name, some_bare (variable_of vs name)) refl

-- ---- expressions

meant_alike : (name : List ℕ) (o : Option Slot) → AlikeIn bare_typed (name_meant name o) (name_meant name (option_map bare_slot o))
meant_alike name None = record { is = refl }
meant_alike name (Some v) = record { is = refl }

variable_alike : (name : List ℕ) (o : Option Slot) → AlikeIn bare_place (variable_place name o) (variable_place name (option_map bare_slot o))
variable_alike name None = record { is = refl }
variable_alike name (Some v) = when_alike bare_place _ _ _ _ _ _ refl refl

target_alike : (name : List ℕ) (o : Option Slot) → AlikeIn bare_place (target_place name o) (target_place name (option_map bare_slot o))
target_alike name None = record { is = refl }
target_alike name (Some v) = record { is = refl }

address_alike : (name : List ℕ) (o : Option Slot) → AlikeIn bare_typed (address_meant name o) (address_meant name (option_map bare_slot o))
address_alike name None = record { is = refl }
address_alike name (Some v) = record { is = refl }

char_bare : (o : Option Slot) → char_slot o ≡ char_slot (option_map bare_slot o)
char_bare None = refl
char_bare (Some v) = refl

letter_bare : (vs : List Local) (a : ExprTree) → letter_in vs a ≡ letter_in (bare_locals vs) (unlined_expr a)
letter_bare vs (syntax_expr.Address line name) = char_bare (variable_of vs name) ∙ ap char_slot (sym (found_bare vs name))
letter_bare vs _ = refl

item_alike : (x y : TypedExpr) → bare_typed x ≡ bare_typed y → AlikeIn bare_place (item_place x) (item_place y)
item_alike x y e =
    when_alike bare_place _ _ _ _ _ _ (ap is_number (same_type x y e)) (ap (λ t. record { target = ToItem t; of_type = type_of.Scalar }) (same_tree x y e))

-- ---- calls

fit_bare : (wanted : List ApiType) (xs : List TypedExpr) → all_fit wanted (map bare_typed xs) ≡ all_fit wanted xs
fit_bare [] xs = refl
fit_bare (w ∷ ws) [] = refl
fit_bare (w ∷ ws) (x ∷ xs) = ap (λ b. is_operand w x.of_type && b) (fit_bare ws xs)

exprs_bare : (es : List Expr) → bare_exprs (exprs_of es) ≡ exprs_of (map bare_expr es)
exprs_bare [] = refl
exprs_bare (e ∷ es) = ap (MoreExprs (bare_expr e)) (exprs_bare es)

trees_bare : (xs : List TypedExpr) → map bare_expr (map (λ x. x.tree) xs) ≡ map (λ x. x.tree) (map bare_typed xs)
trees_bare [] = refl
trees_bare (x ∷ xs) = ap (λ ts. bare_expr x.tree ∷ ts) (trees_bare xs)

row_alike : (line : ℕ) (r : RowCall) (xs ys : List TypedExpr) → map bare_typed xs ≡ map bare_typed ys
    → AlikeIn bare_typed (row_judged line r xs) (row_judged 0 r ys)
row_alike line r xs ys e =
    let trees : bare_exprs (exprs_of (map (λ x. x.tree) xs)) ≡ bare_exprs (exprs_of (map (λ x. x.tree) ys)) =
    exprs_bare _ ∙ ap exprs_of (trees_bare xs) ∙ ap (λ zs. exprs_of (map (λ x. x.tree) zs)) e ∙ sym (ap exprs_of (trees_bare ys)) ∙ sym (exprs_bare _) in
    when_alike bare_typed _ _ _ _ _ _ (sym (fit_bare r.operands xs) ∙ ap (all_fit r.operands) e ∙ fit_bare r.operands ys)
    (ap (λ ts. as_typed (Api 0 r.row ts) (result_type r.result)) trees)

called_alike : (line : ℕ) (name : List ℕ) (r : Option RowCall) (xs ys : List TypedExpr) → map bare_typed xs ≡ map bare_typed ys
    → AlikeIn bare_typed (called line name r xs) (called 0 name r ys)
called_alike line name None xs ys e = record { is = refl }
called_alike line name (Some r) xs ys e =
    let same : length xs ≡ length ys = sym (length-map xs bare_typed) ∙ ap length e ∙ length-map ys bare_typed in
    subst (λ n. AlikeIn bare_typed (called line name (Some r) xs)
    (cond (nat_eq n (length r.operands)) (row_judged 0 r ys) (Wrong WRONG_NUMBER_OF_ARGUMENTS name))) same
    (by_test bare_typed (nat_eq (length xs) (length r.operands)) _ _ _ _ (row_alike line r xs ys e) (wrongs bare_typed _ _ _ _))

cv_alike : (a : ExprTree) → is_cv a ≡ is_cv (unlined_expr a)
cv_alike (syntax_expr.Var line name) = refl
cv_alike _ = refl

text_alike : (a : ExprTree) → text_in a ≡ text_in (unlined_expr a)
text_alike (syntax_expr.Str line text) = refl
text_alike _ = refl

usage_of_alike : (line : ℕ) (cv : Bool) (text : Option (List ℕ)) → AlikeIn bare_typed (usage_of line cv text) (usage_of 0 cv text)
usage_of_alike line true (Some text) = record { is = refl }
usage_of_alike line true None = record { is = refl }
usage_of_alike line false text = record { is = refl }

usage_alike : (line : ℕ) (args : ExprTrees) → AlikeIn bare_typed (usage line args) (usage 0 (unlined_exprs args))
usage_alike line syntax_expr.NoExprs = record { is = refl }
usage_alike line (syntax_expr.MoreExprs a syntax_expr.NoExprs) = record { is = refl }
usage_alike line (syntax_expr.MoreExprs a (syntax_expr.MoreExprs b syntax_expr.NoExprs)) =
    record {
      is = (usage_of_alike line (is_cv a) (text_in b)).is ∙ ap (λ v. seen_in bare_typed (usage_of 0 v (text_in b))) (cv_alike a)
          ∙ ap (λ t. seen_in bare_typed (usage_of 0 (is_cv (unlined_expr a)) t)) (text_alike b);
    }
usage_alike line (syntax_expr.MoreExprs a (syntax_expr.MoreExprs b (syntax_expr.MoreExprs d rest))) = record { is = refl }

by_word : {A B : Type 0} (view : A → B) (b : Bool) (p q r s : Checked A) → Alike view p q → Alike view r s → Alike view (cond b p r) (cond b q s)
by_word view true p q r s h g = h
by_word view false p q r s h g = g

module _ (vs : List Local) where
  mutual
    unfolding expr

    expr_alike : (e : ExprTree) → Alike bare_typed (expr vs e) (expr (bare_locals vs) (unlined_expr e))
    expr_alike (syntax_expr.Var line name) =
        judged_alike bare_typed line 0 _ _
        (subst (λ o. AlikeIn bare_typed (name_meant name (variable_of vs name)) (name_meant name o)) (sym (found_bare vs name))
        (meant_alike name (variable_of vs name)))
    expr_alike (syntax_expr.Num line value) = record { is = refl }
    expr_alike (syntax_expr.Chr line byte) = record { is = refl }
    expr_alike (syntax_expr.Str line text) = record { is = refl }
    expr_alike (syntax_expr.Paren line a) =
        after bare_typed bare_typed _ _ _ _ (expr_alike a)
        (λ x y e. record { is = ap Some (ap₂ as_typed (ap Passed (same_tree x y e)) (same_type x y e)) })
    expr_alike (syntax_expr.One line op a) =
        after bare_typed bare_typed _ _ _ _ (expr_alike a) (λ x y e. judged_alike bare_typed line 0 _ _ (prefixed_alike op x y e))
    expr_alike (syntax_expr.Call line name args) =
        by_word bare_typed (bytes_eq name usage_word) _ _ _ _ (judged_alike bare_typed line 0 _ _ (usage_alike line args))
        (after (map bare_typed) bare_typed _ _ _ _ (exprs_alike args)
        (λ xs ys e. judged_alike bare_typed line 0 _ _ (called_alike line name (row_named name) xs ys e)))
    expr_alike (syntax_expr.Index line a at) =
        after_both bare_typed bare_typed bare_typed _ _ _ _ _ _ (expr_alike a) (expr_alike at)
        (λ x y z w e g. judged_alike bare_typed line 0 _ _ (element_alike x y z w e g))
    expr_alike (syntax_expr.Deref line a) =
        after bare_typed bare_typed _ _ _ _ (expr_alike a) (λ x y e. judged_alike bare_typed line 0 _ _ (pointed_alike line x y e))
    expr_alike (syntax_expr.Address line name) =
        judged_alike bare_typed line 0 _ _
        (subst (λ o. AlikeIn bare_typed (address_meant name (variable_of vs name)) (address_meant name o)) (sym (found_bare vs name))
        (address_alike name (variable_of vs name)))
    expr_alike (syntax_expr.Before line step place) =
        after bare_place bare_typed _ _ _ _ (place_in_alike place)
        (λ p q e. judged_alike bare_typed line 0 _ _ (stepped_alike line (front_step step) p q e))
    expr_alike (syntax_expr.After line place step) =
        after bare_place bare_typed _ _ _ _ (place_in_alike place)
        (λ p q e. judged_alike bare_typed line 0 _ _ (stepped_alike line (back_step step) p q e))
    expr_alike (syntax_expr.Set line place op value) =
        after_both bare_place bare_typed bare_typed _ _ _ _ _ _ (place_in_alike place) (expr_alike value)
        (λ p q x y e g. judged_alike bare_typed line 0 _ _ (set_alike line op p q x y e g))
    expr_alike (syntax_expr.Two line op a b) =
        after_both bare_typed bare_typed bare_typed _ _ _ _ _ _ (expr_alike a) (expr_alike b)
        (λ x y z w e g. judged_alike bare_typed line 0 _ _ (combined_alike op x y z w e g))
    expr_alike (syntax_expr.Choice line test a b) =
        after_three bare_typed bare_typed _ _ _ _ _ _ _ _ (expr_alike test) (expr_alike a) (expr_alike b)
        (λ t u x y z w d e g. judged_alike bare_typed line 0 _ _ (chosen_alike line t u x y z w d e g))
    expr_alike (syntax_expr.Cast line to a) =
        after bare_typed bare_typed _ _ _ _ (expr_alike a)
        (λ x y e. judged_alike bare_typed line 0 _ _ (cast_alike _ _ (cast_named to.name to.stars) x y (letter_bare vs a) e))
    expr_alike _ = record { is = refl }

    exprs_alike : (es : ExprTrees) → Alike (map bare_typed) (exprs vs es) (exprs (bare_locals vs) (unlined_exprs es))
    exprs_alike syntax_expr.NoExprs = record { is = refl }
    exprs_alike (syntax_expr.MoreExprs a rest) = more_alike bare_typed _ _ _ _ (expr_alike a) (exprs_alike rest)

    place_in_alike : (p : PlaceTree) → Alike bare_place (place_in vs p) (place_in (bare_locals vs) (unlined_place p))
    place_in_alike (VarPlace line name) =
        judged_alike bare_place line 0 _ _
        (subst (λ o. AlikeIn bare_place (variable_place name (variable_of vs name)) (variable_place name o)) (sym (found_bare vs name))
        (variable_alike name (variable_of vs name)))
    place_in_alike (TargetPlace line name) =
        judged_alike bare_place line 0 _ _
        (subst (λ o. AlikeIn bare_place (target_place name (variable_of vs name)) (target_place name o)) (sym (found_bare vs name))
        (target_alike name (variable_of vs name)))
    place_in_alike (StPlace line at) =
        after bare_typed bare_place _ _ _ _ (expr_alike at) (λ x y e. judged_alike bare_place line 0 _ _ (item_alike x y e))
    place_in_alike _ = record { is = refl }

-- ---- scopes

with_bare : (scope : Scope) (line : ℕ) (name : List ℕ) (t : ValueType)
    → with_variable (bare_scope scope) 0 name t ≡ bare_scope (with_variable scope line name t)
with_bare scope line name t =
    ap (λ b. cond b (bare_scope scope) (new_variable (bare_scope scope) name (next_slot (bare_scope scope) 0 t))) (use_bare scope.variables name)
    ∙ by_use (is_in_use scope.variables name)
  where
    added : new_variable (bare_scope scope) name (next_slot (bare_scope scope) 0 t) ≡ bare_scope (new_variable scope name (next_slot scope line t))
    added =
        ap (λ n. new_variable (bare_scope scope) name (record { number = n; of_type = t; line = 0 })) (length-map scope.slots bare_slot)
        ∙ ap₂ (λ vs ss. record { variables = vs; slots = ss }) (sym (map-append bare_local scope.variables _)) (sym (map-append bare_slot scope.slots _))

    by_use : (b : Bool) → cond b (bare_scope scope) (new_variable (bare_scope scope) name (next_slot (bare_scope scope) 0 t))
        ≡ bare_scope (cond b scope (new_variable scope name (next_slot scope line t)))
    by_use true = refl
    by_use false = added

declarators_bare : (base : List ℕ) (scope : Scope) (ds : List DeclaratorTree)
    → declarators_behind base (bare_scope scope) (map unlined_declarator ds) ≡ bare_scope (declarators_behind base scope ds)
declarators_bare base scope [] = refl
declarators_bare base scope (d ∷ ds) =
    ap (λ s. declarators_behind base s (map unlined_declarator ds)) (with_bare scope d.line d.name (declared_type base d.stars))
    ∙ declarators_bare base (with_variable scope d.line d.name (declared_type base d.stars)) ds

outside_bare : (scope inner : Scope) → knowing (length (bare_scope scope).variables) (bare_scope inner)
    ≡ bare_scope (knowing (length scope.variables) inner)
outside_bare scope inner =
    ap (λ n. knowing n (bare_scope inner)) (length-map scope.variables bare_local)
    ∙ ap (λ vs. record { variables = vs; slots = map bare_slot inner.slots }) (take-map bare_local (length scope.variables) inner.variables)

first_bare : (scope : Scope) (first : FirstTree) → first_behind (bare_scope scope) (unlined_first first) ≡ bare_scope (first_behind scope first)
first_bare scope syntax_stmt.NoFirst = refl
first_bare scope (syntax_stmt.FirstDeclare d) = declarators_bare d.base scope d.names
first_bare scope (syntax_stmt.FirstEffect e) = refl

mutual
  unfolding scope_behind

  behind_bare : (scope : Scope) (s : StmtTree) → scope_behind (bare_scope scope) (unlined_stmt s) ≡ bare_scope (scope_behind scope s)
  behind_bare scope (syntax_stmt.Block line body) =
      ap (knowing (length (bare_scope scope).variables)) (all_behind_bare scope body) ∙ outside_bare scope (scopes_behind scope body)
  behind_bare scope (syntax_stmt.Declare d) = declarators_bare d.base scope d.names
  behind_bare scope (syntax_stmt.If line test s) = behind_bare scope s
  behind_bare scope (syntax_stmt.IfElse line test s other) =
      ap (λ z. scope_behind z (unlined_stmt other)) (behind_bare scope s) ∙ behind_bare (scope_behind scope s) other
  behind_bare scope (syntax_stmt.While line test s) = behind_bare scope s
  behind_bare scope (syntax_stmt.DoWhile line s test) = behind_bare scope s
  behind_bare scope (syntax_stmt.For line head s) =
      let inner : Scope = first_behind scope head.first in
      ap (knowing (length (bare_scope scope).variables))
      (ap (λ z. scope_behind z (unlined_stmt s)) (first_bare scope head.first) ∙ behind_bare inner s)
      ∙ outside_bare scope (scope_behind inner s)
  behind_bare scope (syntax_stmt.Switch line e all) = groups_bare scope all
  behind_bare scope _ = refl

  all_behind_bare : (scope : Scope) (body : StmtTrees) → scopes_behind (bare_scope scope) (unlined_stmts body) ≡ bare_scope (scopes_behind scope body)
  all_behind_bare scope syntax_stmt.NoStmts = refl
  all_behind_bare scope (syntax_stmt.MoreStmts s rest) =
      ap (λ z. scopes_behind z (unlined_stmts rest)) (behind_bare scope s) ∙ all_behind_bare (scope_behind scope s) rest

  groups_bare : (scope : Scope) (all : GroupTrees) → groups_behind (bare_scope scope) (unlined_groups all) ≡ bare_scope (groups_behind scope all)
  groups_bare scope syntax_stmt.NoGroups = refl
  groups_bare scope (syntax_stmt.MoreGroups line labels body rest) =
      ap (λ z. groups_behind z (unlined_groups rest)) (all_behind_bare scope body) ∙ groups_bare (scopes_behind scope body) rest

-- ---- statements

quits_bare : (e : Expr) → quits (bare_expr e) ≡ quits e
quits_bare (Api at r es) = refl
quits_bare _ = refl

by_quits : (line : ℕ) (e : Expr) (b : Bool) → bare_stmt (cond b (Quit line e) (Effect e)) ≡ cond b (Quit 0 (bare_expr e)) (Effect (bare_expr e))
by_quits line e true = refl
by_quits line e false = refl

pub effect_bare : (line : ℕ) (e : Expr) → bare_stmt (effect line e) ≡ effect 0 (bare_expr e)
effect_bare line e = by_quits line e (quits e) ∙ ap (λ b. cond b (Quit 0 (bare_expr e)) (Effect (bare_expr e))) (sym (quits_bare e))

effect_alike : (line : ℕ) (x y : TypedExpr) → bare_typed x ≡ bare_typed y → bare_stmt (effect line x.tree) ≡ bare_stmt (effect 0 y.tree)
effect_alike line x y e = effect_bare line x.tree ∙ ap (effect 0) (same_tree x y e) ∙ sym (effect_bare 0 y.tree)

pub stmts_bare : (ss : List Stmt) → bare_stmts (stmts_of ss) ≡ stmts_of (map bare_stmt ss)
stmts_bare [] = refl
stmts_bare (s ∷ ss) = ap (MoreStmts (bare_stmt s)) (stmts_bare ss)

slots_bare : (scope inner : Scope) → map bare_slot (map (λ v. v.slot) (drop (length scope.variables) inner.variables))
    ≡ map bare_slot (map (λ v. v.slot) (drop (length (bare_scope scope).variables) (bare_scope inner).variables))
slots_bare scope inner =
    twice (drop (length scope.variables) inner.variables)
    ∙ ap (λ vs. map bare_slot (map (λ v. v.slot) vs)) (sym (drop-map bare_local (length scope.variables) inner.variables))
    ∙ ap (λ n. map bare_slot (map (λ v. v.slot) (drop n (bare_scope inner).variables))) (sym (length-map scope.variables bare_local))
  where
    twice : (vs : List Local) → map bare_slot (map (λ v. v.slot) vs) ≡ map bare_slot (map (λ v. v.slot) (bare_locals vs))
    twice [] = refl
    twice (v ∷ vs) = ap (λ ss. bare_slot v.slot ∷ ss) (twice vs)

conditional_alike : (x y : TypedExpr) (s t : Stmt) → bare_typed x ≡ bare_typed y → bare_stmt s ≡ bare_stmt t
    → AlikeIn bare_stmt (conditional x s) (conditional y t)
conditional_alike x y s t e g = when_alike bare_stmt _ _ s t _ _ (ap is_condition (same_type x y e)) g

end_alike : (w : Where) (scope : Scope) (line : ℕ) (value : Option ExprTree)
    → Alike bare_stmt (function_end w scope line value) (function_end w (bare_scope scope) 0 (option_map unlined_expr value))
end_alike w scope line None =
    judged_alike bare_stmt line 0 _ _ (when_alike bare_stmt (may_return w.result None) _ (Return line) (Return 0) _ _ refl refl)
end_alike w scope line (Some value) =
    after bare_typed bare_stmt _ _ _ _ (expr_alike scope.variables value)
    (λ x y e. judged_alike bare_stmt line 0 _ _
    (when_alike bare_stmt _ _ (Give line x.tree) (Give 0 y.tree) _ _ (ap (λ t. may_return w.result (Some t)) (same_type x y e))
    (ap (Give 0) (same_tree x y e))))

-- two statements
abbrev bare_two : Stmt × Stmt → Stmt × Stmt
bare_two p = (bare_stmt p.0, bare_stmt p.1)

declared_bare : (scope : Scope) (name : List ℕ) (o given : Option ValueType) → declared (bare_scope scope) name o given ≡ declared scope name o given
declared_bare scope name None given = refl
declared_bare scope name (Some t) given =
    ap (λ b. cond (is_given given t) (cond b (Wrong DECLARED_TWICE name) (Fine t)) (Wrong TYPES_DIFFER [])) (use_bare scope.variables name)

stated_alike : (f g : ValueType → Stmt) (j k : Judged ValueType) → ((t : ValueType) → bare_stmt (f t) ≡ bare_stmt (g t)) → j ≡ k
    → AlikeIn bare_stmt (stated f j) (stated g k)
stated_alike f g j k same e = subst (λ l. AlikeIn bare_stmt (stated f j) (stated g l)) e (one j)
  where
    one : (l : Judged ValueType) → AlikeIn bare_stmt (stated f l) (stated g l)
    one (Fine t) = record { is = ap Some (same t) }
    one (Wrong code word) = record { is = refl }

declarator_alike : (base : List ℕ) (scope : Scope) (d : DeclaratorTree) (value : Option ExprTree)
    → Alike bare_stmt (declarator base scope d value) (declarator base (bare_scope scope) (unlined_declarator d) (option_map unlined_expr value))
declarator_alike base scope d None =
    judged_alike bare_stmt d.line 0 _ _
    (stated_alike (unset d.line (length scope.slots)) (unset 0 (length (bare_scope scope).slots)) _ _
    (λ t. ap (Declare 0) (sym (length-map scope.slots bare_slot))) (sym (declared_bare scope d.name (type_named base d.stars) None)))
declarator_alike base scope d (Some value) =
    after bare_typed bare_stmt _ _ _ _ (expr_alike scope.variables value)
    (λ x y e. judged_alike bare_stmt d.line 0 _ _
    (stated_alike (begun d.line (length scope.slots) x.tree) (begun 0 (length (bare_scope scope).slots) y.tree) _ _
    (λ t. ap₂ (λ n z. begun 0 n z t) (sym (length-map scope.slots bare_slot)) (same_tree x y e))
    (ap (λ u. declared scope d.name (type_named base d.stars) (Some u)) (same_type x y e)
    ∙ sym (declared_bare scope d.name (type_named base d.stars) (Some y.of_type)))))

declarators_alike : (base : List ℕ) (scope : Scope) (ds : List DeclaratorTree)
    → Alike (map bare_stmt) (declarators base scope ds) (declarators base (bare_scope scope) (map unlined_declarator ds))
declarators_alike base scope [] = record { is = refl }
declarators_alike base scope (d ∷ ds) =
    more_alike bare_stmt _ _ _ _ (declarator_alike base scope d d.value)
    (subst (λ z. Alike (map bare_stmt) (declarators base (name_behind base scope d) ds) (declarators base z (map unlined_declarator ds)))
    (sym (with_bare scope d.line d.name (declared_type base d.stars))) (declarators_alike base (name_behind base scope d) ds))

in_order_bare : (ts : List Stmt) → bare_stmt (in_order ts) ≡ in_order (map bare_stmt ts)
in_order_bare [] = refl
in_order_bare (t ∷ []) = refl
in_order_bare (t ∷ u ∷ ts) = ap (Block []) (stmts_bare (t ∷ u ∷ ts))

in_order_alike : (ss ts : List Stmt) → map bare_stmt ss ≡ map bare_stmt ts → Alike bare_stmt (Good (in_order ss)) (Good (in_order ts))
in_order_alike ss ts e = record { is = ap Some (in_order_bare ss ∙ ap in_order e ∙ sym (in_order_bare ts)) }

declaration_alike : (base : List ℕ) (scope : Scope) (ds : List DeclaratorTree)
    → Alike bare_stmt (declaration base scope ds) (declaration base (bare_scope scope) (map unlined_declarator ds))
declaration_alike base scope ds =
    after (map bare_stmt) bare_stmt _ _ _ _ (declarators_alike base scope ds) (λ ss ts e. in_order_alike ss ts e)

-- ---- heads of `for`

first_alike : (scope : Scope) (first : FirstTree)
    → Alike bare_stmt (first_part scope first) (first_part (bare_scope scope) (unlined_first first))
first_alike scope syntax_stmt.NoFirst = record { is = refl }
first_alike scope (syntax_stmt.FirstDeclare d) = declaration_alike d.base scope d.names
first_alike scope (syntax_stmt.FirstEffect e) =
    after bare_typed bare_stmt _ _ _ _ (expr_alike scope.variables e) (λ x y h. record { is = ap (λ z. Some (Effect z)) (same_tree x y h) })

abbrev bare_option : Option TypedExpr → Option TypedExpr
bare_option o = option_map bare_typed o

option_alike : (vs : List Local) (e : Option ExprTree)
    → Alike bare_option (option_expr vs e) (option_expr (bare_locals vs) (option_map unlined_expr e))
option_alike vs None = record { is = refl }
option_alike vs (Some e) =
    after bare_typed bare_option _ _ _ _ (expr_alike vs e) (λ x y h. record { is = ap (λ z. Some (Some z)) h })

types_bare : (x : Option TypedExpr) → option_map (λ z. z.of_type) (bare_option x) ≡ option_map (λ z. z.of_type) x
types_bare None = refl
types_bare (Some x) = refl

test_bare : (x : Option TypedExpr) → bare_test (test_of x) ≡ test_of (bare_option x)
test_bare None = refl
test_bare (Some x) = refl

each_bare : (x : Option TypedExpr) → option_map bare_expr (option_map (λ z. z.tree) x) ≡ option_map (λ z. z.tree) (bare_option x)
each_bare None = refl
each_bare (Some x) = refl

abbrev bare_turns : Option TypedExpr × Stmt → Option TypedExpr × Stmt
bare_turns p = (bare_option p.0, bare_stmt p.1)

abbrev bare_rest : Option TypedExpr × (Option TypedExpr × Stmt) → Option TypedExpr × (Option TypedExpr × Stmt)
bare_rest p = (bare_option p.0, bare_turns p.1)

for_alike : (line : ℕ) (own other : List Slot) (s t : Stmt) (p q : Option TypedExpr × (Option TypedExpr × Stmt)) → map bare_slot own ≡ map bare_slot other
    → bare_stmt s ≡ bare_stmt t → bare_rest p ≡ bare_rest q
    → AlikeIn bare_stmt (for_loop line own s p.0 p.1.0 p.1.1) (for_loop 0 other t q.0 q.1.0 q.1.1)
for_alike line own other s t p q slots first rest =
    let test : bare_option p.0 ≡ bare_option q.0 = ap (λ z. z.0) rest in
    let each : bare_option p.1.0 ≡ bare_option q.1.0 = ap (λ z. z.1.0) rest in
    let body : bare_stmt p.1.1 ≡ bare_stmt q.1.1 = ap (λ z. z.1.1) rest in
    let tests : bare_test (test_of p.0) ≡ bare_test (test_of q.0) = test_bare p.0 ∙ ap test_of test ∙ sym (test_bare q.0) in
    let steps : option_map bare_expr (option_map (λ z. z.tree) p.1.0) ≡ option_map bare_expr (option_map (λ z. z.tree) q.1.0) =
    each_bare p.1.0 ∙ ap (option_map (λ z. z.tree)) each ∙ sym (each_bare q.1.0) in
    when_alike bare_stmt _ _
    (Block own (stmts_of (s ∷ Loop line true (test_of p.0) (option_map (λ z. z.tree) p.1.0) p.1.1 ∷ [])))
    (Block other (stmts_of (t ∷ Loop 0 true (test_of q.0) (option_map (λ z. z.tree) q.1.0) q.1.1 ∷ []))) _ _
    (ap is_test (sym (types_bare p.0) ∙ ap (option_map (λ z. z.of_type)) test ∙ types_bare q.0))
    (ap₂ Block slots (ap₂ MoreStmts first
    (ap (λ l. MoreStmts l NoStmts) (ap₂ (λ f z. f z) (ap₂ (λ u v. Loop 0 true u v) tests steps) body))))

-- ---- groups of `switch`

label_alike : (vs : List Local) (l : Label)
    → AlikeIn (λ (n : Option Number). n) (label_number vs l) (label_number (bare_locals vs) (unlined_label l))
label_alike vs (label.Int line value) = record { is = refl }
label_alike vs (label.Name line name) =
    subst (λ o. AlikeIn (λ (n : Option Number). n) (labelled (name_meant name (variable_of vs name))) (labelled (name_meant name o))) (sym (found_bare vs name))
    (by (variable_of vs name))
  where
    by : (o : Option Slot) → AlikeIn (λ (n : Option Number). n) (labelled (name_meant name o)) (labelled (name_meant name (option_map bare_slot o)))
    by None = record { is = refl }
    by (Some v) = record { is = refl }
label_alike vs (label.Default line) = record { is = refl }

labels_alike : (vs : List Local) (all : List Label)
    → Alike (map (λ (n : Option Number). n)) (labels vs all) (labels (bare_locals vs) (map unlined_label all))
labels_alike vs [] = record { is = refl }
labels_alike vs (l ∷ rest) =
    more_alike (λ (n : Option Number). n) _ _ _ _ (judged_alike (λ (n : Option Number). n) (line_of_label l) _ _ _ (label_alike vs l)) (labels_alike vs rest)

abbrev bare_group : TypedGroup → TypedGroup
bare_group g = typed_group g.labels (map bare_stmt g.body)

all_groups_bare : (gs : List TypedGroup) → bare_groups (groups_of gs) ≡ groups_of (map bare_group gs)
all_groups_bare [] = refl
all_groups_bare (g ∷ gs) = ap₂ (MoreGroups g.labels) (stmts_bare g.body) (all_groups_bare gs)

switched_alike : (line : ℕ) (t : ValueType) (e d : Expr) (gs hs : List TypedGroup) → bare_expr e ≡ bare_expr d → map bare_group gs ≡ map bare_group hs
    → AlikeIn bare_stmt (switched line t e gs) (switched 0 t d hs)
switched_alike line (type_of.Number kind) e d gs hs same all =
    record { is = ap Some (ap₂ (Switch 0 (promoted kind)) same (all_groups_bare gs ∙ ap groups_of all ∙ sym (all_groups_bare hs))) }
switched_alike line _ e d gs hs same all = record { is = refl }

perl_word_alike : (line : ℕ) (w : PerlWord) → AlikeIn bare_stmt (perl_word line w) (perl_word 0 w)
perl_word_alike line word.XsReturnYes = record { is = refl }
perl_word_alike line _ = record { is = refl }

module _ (names : FileNames) where
  perl_alike : (w : Where) (vs : List Local) (line : ℕ) (f : PerlForm) → AlikeIn bare_stmt (perl names w vs line f) (perl names w (bare_locals vs) 0 f)
  perl_alike w vs line (form.Word word) = perl_word_alike line word
  perl_alike w vs line (form.Unused name) =
      subst (λ b. AlikeIn bare_stmt (unused vs name)
      (cond (bytes_eq name (codes "items") || bytes_eq name (codes "cv") || b) (Fine nothing) (unknown UNKNOWN_NAME name)))
      (sym (ap is_some (found_bare vs name) ∙ some_bare (variable_of vs name))) (record { is = refl })
  perl_alike w vs line _ = record { is = refl }

  mutual
    unfolding stmt

    stmt_alike : (w : Where) (scope : Scope) (s : StmtTree) → Alike bare_stmt (stmt names w scope s) (stmt names w (bare_scope scope) (unlined_stmt s))
    stmt_alike w scope (syntax_stmt.Block line body) =
        after (map bare_stmt) bare_stmt _ _ _ _ (stmts_alike w scope body)
        (λ ss ts e. record {
          is = ap Some
              (ap₂ Block (slots_bare scope (scopes_behind scope body)
              ∙ ap (λ z. map bare_slot (map (λ v. v.slot) (drop (length (bare_scope scope).variables) z.variables))) (sym (all_behind_bare scope body)))
              (stmts_bare ss ∙ ap stmts_of e ∙ sym (stmts_bare ts)));
        })
    stmt_alike w scope (syntax_stmt.Empty line) = record { is = refl }
    stmt_alike w scope (syntax_stmt.Declare d) = declaration_alike d.base scope d.names
    stmt_alike w scope (syntax_stmt.Effect line e) =
        after bare_typed bare_stmt _ _ _ _ (expr_alike scope.variables e) (λ x y h. record { is = ap Some (effect_alike line x y h) })
    stmt_alike w scope (syntax_stmt.If line test s) =
        after_both bare_typed bare_stmt bare_stmt _ _ _ _ _ _ (expr_alike scope.variables test) (stmt_alike w scope s)
        (λ x y s1 t1 h g. judged_alike bare_stmt line 0 _ _
        (conditional_alike x y (If line x.tree s1 nothing) (If 0 y.tree t1 nothing) h (ap₂ (λ z v. If 0 z v nothing) (same_tree x y h) g)))
    stmt_alike w scope (syntax_stmt.IfElse line test s other) =
        after_both bare_typed bare_two bare_stmt _ _ _ _ _ _ (expr_alike scope.variables test)
        (after_both bare_stmt bare_stmt bare_two _ _ _ _ _ _ (stmt_alike w scope s)
        (subst (λ z. Alike bare_stmt (stmt names w (scope_behind scope s) other) (stmt names w z (unlined_stmt other))) (sym (behind_bare scope s))
        (stmt_alike w (scope_behind scope s) other))
        (λ a b c d h g. record { is = ap Some (ap₂ (λ y z. (y, z)) h g) }))
        (λ x y p q h g. judged_alike bare_stmt line 0 _ _
        (conditional_alike x y (If line x.tree p.0 p.1) (If 0 y.tree q.0 q.1) h (ap₂ (λ z v. If 0 z v.0 v.1) (same_tree x y h) g)))
    stmt_alike w scope (syntax_stmt.While line test s) =
        after_both bare_typed bare_stmt bare_stmt _ _ _ _ _ _ (expr_alike scope.variables test) (stmt_alike (in_turn w) scope s)
        (λ x y s1 t1 h g. judged_alike bare_stmt line 0 _ _
        (conditional_alike x y (Loop line true (When x.tree) None s1) (Loop 0 true (When y.tree) None t1) h
        (ap₂ (λ z v. Loop 0 true (When z) None v) (same_tree x y h) g)))
    stmt_alike w scope (syntax_stmt.DoWhile line s test) =
        after_both bare_stmt bare_typed bare_stmt _ _ _ _ _ _ (stmt_alike (in_turn w) scope s)
        (subst (λ z. Alike bare_typed (expr (scope_behind scope s).variables test) (expr z.variables (unlined_expr test))) (sym (behind_bare scope s))
        (expr_alike (scope_behind scope s).variables test))
        (λ s1 t1 x y g h. judged_alike bare_stmt line 0 _ _
        (conditional_alike x y (Loop line false (When x.tree) None s1) (Loop 0 false (When y.tree) None t1) h
        (ap₂ (λ z v. Loop 0 false (When z) None v) (same_tree x y h) g)))
    stmt_alike w scope (syntax_stmt.Break line) =
        judged_alike bare_stmt line 0 _ _ (when_alike bare_stmt (w.in_loop || w.in_switch) _ (Break line) (Break 0) _ _ refl refl)
    stmt_alike w scope (syntax_stmt.Continue line) =
        judged_alike bare_stmt line 0 _ _ (when_alike bare_stmt w.in_loop _ (Continue line) (Continue 0) _ _ refl refl)
    stmt_alike w scope (syntax_stmt.Return line value) = end_alike w scope line value
    stmt_alike w scope (syntax_stmt.Perl line f) = judged_alike bare_stmt line 0 _ _ (perl_alike w scope.variables line f)
    stmt_alike w scope (syntax_stmt.For line head s) =
        let inner : Scope = first_behind scope head.first in
        subst (λ z. Alike bare_stmt (stmt names w scope (syntax_stmt.For line head s))
        (four (first_part (bare_scope scope) (unlined_first head.first)) (option_expr z.variables (option_map unlined_expr head.test))
        (option_expr z.variables (option_map unlined_expr head.step)) (stmt names (in_turn w) z (unlined_stmt s))
        (λ f x y t. judged 0 (for_loop 0 (declared_in (bare_scope scope) (scope_behind z (unlined_stmt s))) f x y t)))) (sym (first_bare scope head.first))
        (after_both bare_stmt bare_rest bare_stmt _ _ _ _ _ _ (first_alike scope head.first)
        (after_both bare_option bare_turns bare_rest _ _ _ _ _ _ (option_alike inner.variables head.test)
        (after_both bare_option bare_stmt bare_turns _ _ _ _ _ _ (option_alike inner.variables head.step) (stmt_alike (in_turn w) inner s)
        (λ a b c d h g. record { is = ap Some (ap₂ (λ y z. (y, z)) h g) }))
        (λ a b c d h g. record { is = ap Some (ap₂ (λ y z. (y, z)) h g) }))
        (λ a b p q h g. judged_alike bare_stmt line 0 _ _
        (for_alike line (declared_in scope (scope_behind inner s)) (declared_in (bare_scope scope) (scope_behind (bare_scope inner) (unlined_stmt s))) a b p q
        (slots_bare scope (scope_behind inner s)
        ∙ ap (λ z. map bare_slot (map (λ v. v.slot) (drop (length (bare_scope scope).variables) z.variables))) (sym (behind_bare inner s))) h g)))
    stmt_alike w scope (syntax_stmt.Switch line e all) =
        after_both bare_typed (map bare_group) bare_stmt _ _ _ _ _ _ (expr_alike scope.variables e) (groups_alike (in_group w) scope all)
        (λ x y gs hs h g. judged_alike bare_stmt line 0 _ _
        (subst (λ t. AlikeIn bare_stmt (switched line x.of_type x.tree gs) (switched 0 t y.tree hs)) (same_type x y h)
        (switched_alike line x.of_type x.tree y.tree gs hs (same_tree x y h) g)))

    stmts_alike : (w : Where) (scope : Scope) (all : StmtTrees)
        → Alike (map bare_stmt) (stmts names w scope all) (stmts names w (bare_scope scope) (unlined_stmts all))
    stmts_alike w scope syntax_stmt.NoStmts = record { is = refl }
    stmts_alike w scope (syntax_stmt.MoreStmts s rest) =
        more_alike bare_stmt _ _ _ _ (stmt_alike w scope s)
        (subst (λ z. Alike (map bare_stmt) (stmts names w (scope_behind scope s) rest) (stmts names w z (unlined_stmts rest)))
        (sym (behind_bare scope s)) (stmts_alike w (scope_behind scope s) rest))

    groups_alike : (w : Where) (scope : Scope) (all : GroupTrees)
        → Alike (map bare_group) (groups names w scope all) (groups names w (bare_scope scope) (unlined_groups all))
    groups_alike w scope syntax_stmt.NoGroups = record { is = refl }
    groups_alike w scope (syntax_stmt.MoreGroups line ls body rest) =
        more_alike bare_group _ _ _ _
        (after_both (map (λ (n : Option Number). n)) (map bare_stmt) bare_group _ _ _ _ _ _ (labels_alike scope.variables ls) (stmts_alike w scope body)
        (λ ns ms ss ts h g. record { is = ap Some (ap₂ typed_group (sym (map-id ns) ∙ h ∙ map-id ms) g) }))
        (subst (λ z. Alike (map bare_group) (groups names w (scopes_behind scope body) rest) (groups names w z (unlined_groups rest)))
        (sym (all_behind_bare scope body)) (groups_alike w (scopes_behind scope body) rest))

-- ---- files

abbrev unlined_entry : Option ℕ → Option ℕ
unlined_entry = option_map (λ n. 0)

entry_word_alike : (line : ℕ) (w : PerlWord) → entry_word 0 w ≡ unlined_entry (entry_word line w)
entry_word_alike line word.DXsArgs = refl
entry_word_alike line _ = refl

entry_form_alike : (line : ℕ) (f : PerlForm) → entry_form 0 f ≡ unlined_entry (entry_form line f)
entry_form_alike line (form.Word w) = entry_word_alike line w
entry_form_alike line _ = refl

entry_line_alike : (s : StmtTree) → entry_line (unlined_stmt s) ≡ unlined_entry (entry_line s)
entry_line_alike (syntax_stmt.Perl line f) = entry_form_alike line f
entry_line_alike _ = refl

entry_alike : (body : StmtTrees) → entry_of (unlined_stmts body) ≡ unlined_entry (entry_of body)
entry_alike syntax_stmt.NoStmts = refl
entry_alike (syntax_stmt.MoreStmts s rest) = entry_line_alike s

behind_entry_alike : (entry : Option ℕ) (body : StmtTrees)
    → behind_entry (unlined_entry entry) (unlined_stmts body) ≡ unlined_stmts (behind_entry entry body)
behind_entry_alike None body = refl
behind_entry_alike (Some line) syntax_stmt.NoStmts = refl
behind_entry_alike (Some line) (syntax_stmt.MoreStmts s rest) = refl

with_entry_alike : (entry : Option ℕ) (ss ts : List Stmt) → map bare_stmt ss ≡ map bare_stmt ts
    → map bare_stmt (with_entry entry ss) ≡ map bare_stmt (with_entry (unlined_entry entry) ts)
with_entry_alike None ss ts e = e
with_entry_alike (Some line) ss ts e = ap (λ zs. Effect (Api 0 Entry NoExprs) ∷ zs) e

done_alike : (name : List ℕ) (is_boot : Bool) (inner : Scope) (ss ts : List Stmt) → map bare_stmt ss ≡ map bare_stmt ts
    → bare_function (function_done name is_boot inner ss) ≡ bare_function (function_done name is_boot (bare_scope inner) ts)
done_alike name is_boot inner ss ts e =
    ap₂ (λ ls b. record { name = name; sort = sort_of is_boot; slots = ls; body = b }) (slots_twice inner.slots)
    (ap₂ Block (slots_bare beginning inner) (stmts_bare ss ∙ ap stmts_of e ∙ sym (stmts_bare ts)))
  where
    slots_twice : (ls : List Slot) → map bare_slot ls ≡ map bare_slot (map bare_slot ls)
    slots_twice [] = refl
    slots_twice (l ∷ ls) = ap (λ ms. bare_slot l ∷ ms) (slots_twice ls)

module _ (names : FileNames) where
  function_alike : (at : ℕ) (f : XsFunTree)
      → Alike bare_function (function names at f) (function names at (record { line = 0; name = f.name; body = unlined_stmts f.body }))
  unfolding function
  function_alike at f =
      let entry = entry_of f.body in
      let body = behind_entry entry f.body in
      subst (λ o. Alike bare_function (function_from names at f.line f.name entry f.body) (function_from names at 0 f.name o (unlined_stmts f.body)))
      (sym (entry_alike f.body))
      (subst (λ b. Alike bare_function (function_from names at f.line f.name entry f.body)
      (behind (stmts names (where_in f.name) beginning b) (λ ts. judged 0 (function_judged names at f.name
      (function_done f.name (is_boot_name f.name) (scopes_behind beginning b) (with_entry (unlined_entry entry) ts))))))
      (sym (behind_entry_alike entry f.body))
      (after (map bare_stmt) bare_function _ _ _ _ (stmts_alike names (where_in f.name) beginning body)
      (λ ss ts e. judged_alike bare_function f.line 0 _ _
      (by_test bare_function (is_earlier (index_of names.functions f.name) at) _ _ _ _ (wrongs bare_function _ _ _ _)
      (fine bare_function _ _
      (done_alike f.name (is_boot_name f.name) (scopes_behind beginning body) (with_entry entry ss) (with_entry (unlined_entry entry) ts)
      (with_entry_alike entry ss ts e)
      ∙ ap (λ z. bare_function (function_done f.name (is_boot_name f.name) z (with_entry (unlined_entry entry) ts)))
      (sym (all_behind_bare beginning body))))))))

  item_alike_at : (at : ℕ) (i : ItemTree) → Alike bare_function (item names at i) (item names at (unlined_item i))
  item_alike_at at (XsFunItem f) = function_alike at f
  item_alike_at at _ = record { is = refl }

  functions_alike : (at : ℕ) (items : List ItemTree) → Alike (map bare_function) (functions names at items) (functions names at (map unlined_item items))
  functions_alike at [] = record { is = refl }
  functions_alike at (i ∷ items) = more_alike bare_function _ _ _ _ (item_alike_at at i) (functions_alike (at + 1) items)

name_alike : (i : ItemTree) → item_name i ≡ item_name (unlined_item i)
name_alike (XsFunItem f) = refl
name_alike _ = refl

names_alike : (items : List ItemTree) → map item_name items ≡ map item_name (map unlined_item items)
names_alike [] = refl
names_alike (i ∷ items) = ap₂ (λ n ns. n ∷ ns) (name_alike i) (names_alike items)

defines_alike : (ds : List Define) → Alike (map (λ (u : Unit {0}). u)) (defines ds) (defines (map unlined_define ds))
defines_alike [] = record { is = refl }
defines_alike (d ∷ ds) =
    more_alike (λ (u : Unit {0}). u) (judged d.line unbuilt) (judged 0 unbuilt) (defines ds) (defines (map unlined_define ds)) (record { is = refl })
    (defines_alike ds)

file_alike : (t : FileTree) → Alike bare (code_meant t) (code_meant (unlined t))
unfolding code_meant
file_alike t =
    after_both (map (λ (u : Unit {0}). u)) (map bare_function) bare _ _ _ _ _ _ (defines_alike t.defines)
    (subst (λ ns. Alike (map bare_function) (functions (names_of t.items) 0 t.items) (functions (record { functions = ns }) 0 (map unlined_item t.items)))
    (names_alike t.items) (functions_alike (names_of t.items) 0 t.items))
    (λ us vs fs gs e g. record { is = ap (λ xs. Some (record { records = []; functions = xs })) g })

abbrev bare_answer : Result Code Fault → Option Code
bare_answer (Ok c) = Some (bare c)
bare_answer (Err f) = None

told : (r : Checked Code) (c : Code) → answer r ≡ Ok c → seen bare r ≡ Some (bare c)
told (Good a) c e = ap bare_answer e
told (Bad f) c e = absurd cc

found : (r : Checked Code) (x : Code) → seen bare r ≡ Some x → (d : Code) × ((answer r ≡ Ok d) × (x ≡ bare d))
found (Good a) x e = (a, (refl, sym (same_Some (bare a) x e)))
found (Bad f) x e = absurd cc

-- A tree that is equal to another but for lines has the other's code but for places.
pub types_without_lines : (t u : FileTree) (c : Code) → typed_of t ≡ Ok c → unlined t ≡ unlined u
    → (d : Code) × ((typed_of u ≡ Ok d) × (bare c ≡ bare d))
unfolding typed_of
types_without_lines t u c e same =
    found (code_meant u) (bare c)
    ((file_alike u).is ∙ sym (ap (λ z. seen bare (code_meant z)) same) ∙ sym (file_alike t).is ∙ told (code_meant t) c e)
