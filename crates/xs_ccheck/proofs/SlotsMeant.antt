-- The slots of the code of a function are those that its text means.
use Rattle.std.proofs.Common.{◌≡◌, ℕ, ◌+◌, Bool, true, false, cond, List, [], ◌∷◌, ◌++◌, map, length, codes, Option, None, Some, Ok, slice_get, refl, sym, ap, ap₂, ◌∙◌, subst, append_assoc, append-nil}
use Rattle.std.specs.Option.{option_map, is_some}
use Rattle.std.specs.Prelude.{◌&&◌, ◌||◌, nat_eq, not}
use Rattle.std.specs.Str.{bytes_eq}
use Rattle.std.proofs.lemmas.Bool.{or_parts}
use Rattle.std.proofs.lemmas.List.{length-append, map-append}
use Rattle.std.proofs.lemmas.Slice.Eq.{bytes_eq-Decides}
use Rattle.xs_base.specs.declared.fault_codes.TheConstants.{DECLARED_TWICE, TYPES_DIFFER, WORD_NOT_ALLOWED}
use Rattle.xs_values.specs.declared.operator.Op.{Op}
use Rattle.xs_values.specs.declared.unary_operator.UnOp.{UnOp}
use Rattle.xs_values.specs.declared.unary_operator.UnOp.TheVariants as unary
use Rattle.xs_cinput.specs.declared.tree.BinaryOp.{BinaryOp}
use Rattle.xs_cinput.specs.declared.tree.BinaryOp.TheVariants as c
use Rattle.xs_cexpr.specs.ExpressionTree as syntax
use Rattle.xs_cexpr.specs.ExpressionTree.{ExprTree, ExprTrees, PlaceTree, VarPlace, TargetPlace, StPlace}
use Rattle.xs_cstmt.specs.StatementTree as statement
use Rattle.xs_cstmt.specs.StatementTree.{DeclaratorTree, FirstTree, StmtTree, StmtTrees, GroupTrees}
use Rattle.xs_cstmt.specs.declared.tree.Label.{Label}
use Rattle.xs_cstmt.specs.declared.tree.PerlForm.{PerlForm}
use Rattle.xs_cstmt.specs.declared.tree.PerlForm.TheVariants as form
use Rattle.xs_cstmt.specs.declared.tree.PerlWord.{PerlWord}
use Rattle.xs_cstmt.specs.declared.tree.PerlWord.TheVariants as word
use Rattle.xs_csyn.specs.FileTree.{XsFunTree, FileTree}
use Rattle.xs_perlapi.specs.declared.row.Written.TheVariants as written
use Rattle.xs_perlapi.specs.Table.{RowCall, is_interface_word, row_named, word_written}
use Rattle.xs_ctree.specs.declared.value_type.Slot.{Slot}
use Rattle.xs_ctree.specs.declared.value_type.ValueType.{ValueType}
use Rattle.xs_ctree.specs.declared.value_type.ValueType.TheVariants as type_of
use Rattle.xs_values.specs.Numbers.{Number}
use Rattle.xs_ctree.specs.TypedTree.{Code, Expr, Exprs, NoExprs, MoreExprs, Literal, Variable, ItemCount, Cast, Binary, Assign, Api, Usage, Target, ToVariable, ToItem, Function, Stmt, Stmts, exprs_of, nothing, stmts_of}
use Rattle.xs_ctree.specs.TypedTree as typed_tree
use Rattle.xs_ccheck.specs.declared.enclosing.Where.{Where}
use Rattle.xs_ctypes.specs.Checked.{Checked, Good, Bad, behind, both, Judged, Fine, Wrong, judged}
use Rattle.xs_ccheck.specs.ExprTyping.{TypedExpr, TypedTarget, address_meant, all_fit, back_step, calculated, called, cast, char_slot, combined, compared, converted, expr, exprs, front_step, is_text_type, letter_in, name_meant, option_expr, other_address, place_in, prefixed, set_to, target_of, target_place, typed, usage, usage_of, usage_word, is_cv, text_in, variable_place}
use Rattle.xs_ccheck.specs.FileTyping.{behind_entry, entry_form, entry_of, function_done, typed_of, where_in, with_entry}
use Rattle.xs_ctypes.specs.FileNames.{FileNames, index_of, is_boot_name}
use Rattle.xs_ctypes.specs.Scopes.{Local, Scope, beginning, declared_in, declarators_behind, first_behind, groups_behind, is_in_use, name_behind, new_variable, next_slot, outside, scope_behind, scopes_behind, variable_of, with_variable}
use Rattle.xs_ccheck.specs.StmtTyping.{TypedGroup, begun, conditional, declaration, declarator, declarators, declared, first_part, for_loop, function_end, groups, groups_of, in_group, in_order, in_turn, is_given, is_test, labels, may_return, perl, perl_word, quits, registered, returned, stated, stmt, stmts, switched, test_of, unset}
use Rattle.xs_ctypes.specs.TypeNames.{cast_named, declared_type, type_named}
use Rattle.xs_ctypes.specs.ValueTypes.{are_conditions, are_numbers, compares, is_address, is_char, is_condition, is_element, is_equality, is_number, goes_into, of_address, of_cast, of_choice, of_numbers, of_pointed, of_promoted}
use Rattle.xs_ccheck.proofs.GoodFunctions.{OfItem, each_function, function_of, statements_of}
use Rattle.xs_ctypes.proofs.ScopesGrow.{Grown, Numbered, block_end, first_grown, found_last, grown_trans, is_none_of, scope_grown, scopes_grown}
use Rattle.xs_ccheck.proofs.WhereGood.{WhereFine, WhereGood, behind_good, both_good, either_fine, fine_by, fine_unless, judged_good, three_good, two_wrongs}
use Rattle.xs_ccheck.specs.SlotUses.{SlotUse, Declares, Uses, slots_declared, in_expr, in_exprs, in_target, in_test, in_each, in_stmt, in_stmts, in_groups, Named, Known, nothing_known, last_declared, knowing_also, known_behind, known_behind_all, known_behind_names, known_behind_groups, known_first, known_outside, use_of, meant_in_expr, meant_in_exprs, meant_in_place, meant_in_value, meant_in_name, meant_in_names, meant_in_first, meant_in_stmt, meant_in_stmts, meant_in_groups, HasItsSlots}

-- ---- expressions

-- the names in scope are the variables that are known
abbrev Agree : List Local → List Named → Type 0
Agree vs ns = (name : List ℕ) → option_map (λ s. s.number) (variable_of vs name) ≡ last_declared ns name

-- what is done with slots
abbrev Doing : {A : Type 0} → (A → List SlotUse) → List SlotUse → A → Type 0
Doing view uses a = view a ≡ uses

abbrev Does : {A : Type 0} → (A → List SlotUse) → List SlotUse → Checked A → Type 0
Does view uses r = WhereGood (Doing view uses) r

abbrev in_typed : TypedExpr → List SlotUse
in_typed x = in_expr x.tree

abbrev in_all : List TypedExpr → List SlotUse
in_all xs = in_exprs (exprs_of (map (λ x. x.tree) xs))

abbrev in_place : TypedTarget → List SlotUse
in_place p = in_target p.target

other_does : (b : Bool) (t : ValueType) (code : ℕ) (word : List ℕ)
    → WhereFine (Doing in_typed []) (cond b (Fine (record { tree = ItemCount; of_type = t })) (Wrong code word))
other_does true t code word = refl
other_does false t code word = tt

name_does : (name : List ℕ) (o : Option Slot) (m : Option ℕ) → option_map (λ s. s.number) o ≡ m → WhereFine (Doing in_typed (use_of m)) (name_meant name o)
name_does name None m e = subst (λ x. WhereFine (Doing in_typed (use_of x)) (name_meant name None)) e (other_does (bytes_eq name (codes "items")) _ _ _)
name_does name (Some v) m e = ap use_of e

variable_does : (name : List ℕ) (o : Option Slot) (m : Option ℕ) → option_map (λ s. s.number) o ≡ m
    → WhereFine (Doing in_place (use_of m)) (variable_place name o)
variable_does name None m e = two_wrongs (Doing in_place (use_of m)) (bytes_eq name (codes "items")) _ _ _ _
variable_does name (Some v) m e = fine_by (Doing in_place (use_of m)) (not (is_address v.of_type)) (Fine _) _ _ (ap use_of e)

target_of_does : (slot : ℕ) (t : ValueType) (uses : List SlotUse) → Uses slot ∷ [] ≡ uses → WhereFine (Doing in_place uses) (target_of slot t)
target_of_does slot (type_of.Address kind) uses e = e
target_of_does slot type_of.Text uses e = tt
target_of_does slot type_of.Place uses e = tt
target_of_does slot _ uses e = tt

target_does : (name : List ℕ) (o : Option Slot) (m : Option ℕ) → option_map (λ s. s.number) o ≡ m → WhereFine (Doing in_place (use_of m)) (target_place name o)
target_does name None m e = two_wrongs (Doing in_place (use_of m)) (bytes_eq name (codes "items")) _ _ _ _
target_does name (Some v) m e = target_of_does v.number v.of_type (use_of m) (ap use_of e)

typed_does : (f : ValueType → Expr) (j : Judged ValueType) (uses : List SlotUse) → ((t : ValueType) → in_expr (f t) ≡ uses)
    → WhereFine (Doing in_typed uses) (typed f j)
typed_does f (Fine t) uses h = h t
typed_does f (Wrong code word) uses h = tt

prefixed_does : (op : UnOp) (x : TypedExpr) (uses : List SlotUse) → in_typed x ≡ uses → WhereFine (Doing in_typed uses) (prefixed op x)
prefixed_does unary.Not x uses e = fine_by (Doing in_typed uses) (is_condition x.of_type) (Fine _) _ _ e
prefixed_does unary.Plus x uses e = typed_does _ (of_promoted unary.Plus x.of_type) uses (λ t. e)
prefixed_does unary.Minus x uses e = typed_does _ (of_promoted unary.Minus x.of_type) uses (λ t. e)
prefixed_does unary.Complement x uses e = typed_does _ (of_promoted unary.Complement x.of_type) uses (λ t. e)

combined_does : (op : BinaryOp) (x y : TypedExpr) (uses : List SlotUse) → in_typed x ++ in_typed y ≡ uses
    → WhereFine (Doing in_typed uses) (combined op x y)
combined_does (c.On op) x y uses e =
    either_fine (Doing in_typed uses) (are_numbers x.of_type y.of_type) (calculated op x y) (compared op x y)
    (typed_does _ (of_numbers op x.of_type y.of_type) uses (λ t. e))
    (fine_by (Doing in_typed uses) (compares x.of_type y.of_type && is_equality op) (Fine _) _ _ e)
combined_does c.Or x y uses e = fine_by (Doing in_typed uses) (are_conditions x.of_type y.of_type) (Fine _) _ _ e
combined_does c.And x y uses e = fine_by (Doing in_typed uses) (are_conditions x.of_type y.of_type) (Fine _) _ _ e

other_does_nothing : (name : List ℕ) (uses : List SlotUse) → WhereFine (Doing in_typed uses) (other_address name)
other_does_nothing name uses =
    fine_unless (Doing in_typed uses) (is_some (word_written written.Address name)) _ _ _
    (two_wrongs (Doing in_typed uses) (bytes_eq name (codes "items")) _ _ _ _)

address_does : (name : List ℕ) (o : Option Slot) (m : Option ℕ) → option_map (λ s. s.number) o ≡ m
    → WhereFine (Doing in_typed (use_of m)) (address_meant name o)
address_does name None m e = other_does_nothing name (use_of m)
address_does name (Some v) m e = typed_does _ (of_address v.of_type) (use_of m) (λ t. ap use_of e)

set_does : (line : ℕ) (op : Option Op) (to : TypedTarget) (x : TypedExpr) (uses : List SlotUse) → in_place to ++ in_typed x ≡ uses
    → WhereFine (Doing in_typed uses) (set_to line op to x)
set_does line None to x uses e = fine_by (Doing in_typed uses) (goes_into x.of_type to.of_type) (Fine _) _ _ e
set_does line (Some op) to x uses e = fine_by (Doing in_typed uses) (are_numbers to.of_type x.of_type) (Fine _) _ _ e

cast_does : (letter : Option ℕ) (to : Option ValueType) (x : TypedExpr) (uses : List SlotUse) → in_typed x ≡ uses
    → ((slot : ℕ) → letter ≡ Some slot → Uses slot ∷ [] ≡ uses) → WhereFine (Doing in_typed uses) (cast letter to x)
cast_does None to x uses e h = typed_does _ (of_cast to x.of_type) uses (λ t. e)
cast_does (Some slot) to x uses e h =
    either_fine (Doing in_typed uses) (is_text_type to) (Fine _) (converted to x) (h slot refl) (typed_does _ (of_cast to x.of_type) uses (λ t. e))

char_does : (o : Option Slot) (m : Option ℕ) (slot : ℕ) → option_map (λ s. s.number) o ≡ m → char_slot o ≡ Some slot → Uses slot ∷ [] ≡ use_of m
char_does None m slot e h = absurd cc
char_does (Some v) m slot e h = by (is_char v.of_type) h
  where
    by : (b : Bool) → cond b (Some v.number) None ≡ Some slot → Uses slot ∷ [] ≡ use_of m
    by true g = ap use_of (sym g ∙ e)
    by false g = absurd cc

called_does : (line : ℕ) (name : List ℕ) (o : Option RowCall) (xs : List TypedExpr) (uses : List SlotUse) → in_all xs ≡ uses
    → WhereFine (Doing in_typed uses) (called line name o xs)
called_does line name None xs uses e = tt
called_does line name (Some r) xs uses e =
    fine_by (Doing in_typed uses) (nat_eq (length xs) (length r.operands)) _ _ _ (fine_by (Doing in_typed uses) (all_fit r.operands xs) (Fine _) _ _ e)

usage_of_does : (line : ℕ) (cv : Bool) (text : Option (List ℕ)) → WhereFine (Doing in_typed []) (usage_of line cv text)
usage_of_does line true (Some text) = refl
usage_of_does line true None = tt
usage_of_does line false text = tt

usage_does : (line : ℕ) (args : ExprTrees) → WhereFine (Doing in_typed []) (usage line args)
usage_does line syntax.NoExprs = tt
usage_does line (syntax.MoreExprs a syntax.NoExprs) = tt
usage_does line (syntax.MoreExprs a (syntax.MoreExprs b syntax.NoExprs)) = usage_of_does line (is_cv a) (text_in b)
usage_does line (syntax.MoreExprs a (syntax.MoreExprs b (syntax.MoreExprs d rest))) = tt

by_word : {A : Type 0} (view : A → List SlotUse) (u v : List SlotUse) (b : Bool) (r s : Checked A) → Does view u r → Does view v s
    → Does view (cond b u v) (cond b r s)
by_word view u v true r s h g = h
by_word view u v false r s h g = g

module _ (vs : List Local) (ns : List Named) (agree : Agree vs ns) where
  letter_does : (a : ExprTree) (slot : ℕ) → letter_in vs a ≡ Some slot → Uses slot ∷ [] ≡ meant_in_expr ns a
  letter_does (syntax.Address line name) slot e = char_does (variable_of vs name) (last_declared ns name) slot (agree name) e
  letter_does _ slot e = absurd cc

  mutual
    unfolding expr

    expr_does : (e : ExprTree) → Does in_typed (meant_in_expr ns e) (expr vs e)
    expr_does (syntax.Var line name) = judged_good (Doing in_typed _) line _ (name_does name (variable_of vs name) (last_declared ns name) (agree name))
    expr_does (syntax.Num line value) = record { good = refl }
    expr_does (syntax.Chr line byte) = record { good = refl }
    expr_does (syntax.Str line text) = record { good = refl }
    expr_does (syntax.Paren line a) =
        behind_good (Doing in_typed (meant_in_expr ns a)) (Doing in_typed _) (expr vs a) _ (expr_does a) (λ x e. record { good = e })
    expr_does (syntax.One line op a) =
        behind_good (Doing in_typed (meant_in_expr ns a)) (Doing in_typed _) (expr vs a) _ (expr_does a)
        (λ x e. judged_good (Doing in_typed _) line _ (prefixed_does op x _ e))
    expr_does (syntax.Call line name args) =
        by_word in_typed [] (meant_in_exprs ns args) (bytes_eq name usage_word) _ _ (judged_good (Doing in_typed []) line _ (usage_does line args))
        (behind_good (Doing in_all (meant_in_exprs ns args)) (Doing in_typed (meant_in_exprs ns args)) (exprs vs args) _ (exprs_do args)
        (λ xs e. judged_good (Doing in_typed _) line _ (called_does line name (row_named name) xs _ e)))
    expr_does (syntax.Index line a at) =
        both_good (Doing in_typed (meant_in_expr ns a)) (Doing in_typed (meant_in_expr ns at)) (Doing in_typed _) (expr vs a) (expr vs at) _
        (expr_does a) (expr_does at)
        (λ x i d e. judged_good (Doing in_typed _) line _
        (fine_by (Doing in_typed _) (is_element x.of_type i.of_type) (Fine _) _ _ (ap₂ (λ u v. u ++ v) d e)))
    expr_does (syntax.Deref line a) =
        behind_good (Doing in_typed (meant_in_expr ns a)) (Doing in_typed _) (expr vs a) _ (expr_does a)
        (λ x e. judged_good (Doing in_typed _) line _ (typed_does _ (of_pointed x.of_type) _ (λ t. e)))
    expr_does (syntax.Address line name) =
        judged_good (Doing in_typed _) line _ (address_does name (variable_of vs name) (last_declared ns name) (agree name))
    expr_does (syntax.Before line step place) =
        behind_good (Doing in_place (meant_in_place ns place)) (Doing in_typed _) (place_in vs place) _ (place_does place)
        (λ to e. judged_good (Doing in_typed _) line _ (fine_by (Doing in_typed _) (is_number to.of_type) (Fine _) _ _ e))
    expr_does (syntax.After line place step) =
        behind_good (Doing in_place (meant_in_place ns place)) (Doing in_typed _) (place_in vs place) _ (place_does place)
        (λ to e. judged_good (Doing in_typed _) line _ (fine_by (Doing in_typed _) (is_number to.of_type) (Fine _) _ _ e))
    expr_does (syntax.Set line place op value) =
        both_good (Doing in_place (meant_in_place ns place)) (Doing in_typed (meant_in_expr ns value)) (Doing in_typed _) (place_in vs place) (expr vs value) _
        (place_does place)
        (expr_does value)
        (λ to x d e. judged_good (Doing in_typed _) line _ (set_does line op to x _ (ap₂ (λ u v. u ++ v) d e)))
    expr_does (syntax.Two line op a b) =
        both_good (Doing in_typed (meant_in_expr ns a)) (Doing in_typed (meant_in_expr ns b)) (Doing in_typed _) (expr vs a) (expr vs b) _
        (expr_does a) (expr_does b)
        (λ x y d e. judged_good (Doing in_typed _) line _ (combined_does op x y _ (ap₂ (λ u v. u ++ v) d e)))
    expr_does (syntax.Choice line test a b) =
        three_good (Doing in_typed (meant_in_expr ns test)) (Doing in_typed (meant_in_expr ns a)) (Doing in_typed (meant_in_expr ns b)) (Doing in_typed _)
        (expr vs test) (expr vs a) (expr vs b) _ (expr_does test) (expr_does a) (expr_does b)
        (λ t x y d e f. judged_good (Doing in_typed _) line _
        (typed_does _ (of_choice t.of_type x.of_type y.of_type) _ (λ ty. ap₂ (λ u v. u ++ v) d (ap₂ (λ u v. u ++ v) e f))))
    expr_does (syntax.Cast line to a) =
        behind_good (Doing in_typed (meant_in_expr ns a)) (Doing in_typed _) (expr vs a) _ (expr_does a)
        (λ x e. judged_good (Doing in_typed _) line _ (cast_does (letter_in vs a) (cast_named to.name to.stars) x _ e (letter_does a)))
    -- not built yet
    expr_does _ = record { good = tt }

    exprs_do : (all : ExprTrees) → Does in_all (meant_in_exprs ns all) (exprs vs all)
    exprs_do syntax.NoExprs = record { good = refl }
    exprs_do (syntax.MoreExprs a rest) =
        both_good (Doing in_typed (meant_in_expr ns a)) (Doing in_all (meant_in_exprs ns rest)) (Doing in_all _) (expr vs a) (exprs vs rest) _
        (expr_does a) (exprs_do rest)
        (λ x xs d e. record { good = ap₂ (λ u v. u ++ v) d e })

    place_does : (p : PlaceTree) → Does in_place (meant_in_place ns p) (place_in vs p)
    place_does (VarPlace line name) = judged_good (Doing in_place _) line _ (variable_does name (variable_of vs name) (last_declared ns name) (agree name))
    place_does (TargetPlace line name) = judged_good (Doing in_place _) line _ (target_does name (variable_of vs name) (last_declared ns name) (agree name))
    place_does (StPlace line at) =
        behind_good (Doing in_typed (meant_in_expr ns at)) (Doing in_place _) (expr vs at) _ (expr_does at)
        (λ x e. judged_good (Doing in_place _) line _ (fine_by (Doing in_place _) (is_number x.of_type) (Fine _) _ _ e))
    -- not built yet
    place_does _ = record { good = tt }

-- ---- what is declared

declared_append : (u v : List SlotUse) → slots_declared (u ++ v) ≡ slots_declared u ++ slots_declared v
declared_append [] v = refl
declared_append (Declares x ∷ u) v = ap (λ xs. x ∷ xs) (declared_append u v)
declared_append (Uses x ∷ u) v = declared_append u v

none_and_none : (u v : List SlotUse) → slots_declared u ≡ [] → slots_declared v ≡ [] → slots_declared (u ++ v) ≡ []
none_and_none u v d e = declared_append u v ∙ ap₂ (λ x y. x ++ y) d e

-- nothing is declared in an expression
mutual
  expr_declares : (e : Expr) → slots_declared (in_expr e) ≡ []
  expr_declares (typed_tree.Passed e) = expr_declares e
  expr_declares (typed_tree.Read e) = expr_declares e
  expr_declares (typed_tree.Cast t e) = expr_declares e
  expr_declares (typed_tree.RecordOf r e) = expr_declares e
  expr_declares (typed_tree.ByteAt a b) = none_and_none (in_expr a) (in_expr b) (expr_declares a) (expr_declares b)
  expr_declares (typed_tree.Not e) = expr_declares e
  expr_declares (typed_tree.Unary op e) = expr_declares e
  expr_declares (typed_tree.Binary op a b) = none_and_none (in_expr a) (in_expr b) (expr_declares a) (expr_declares b)
  expr_declares (typed_tree.Same equal a b) = none_and_none (in_expr a) (in_expr b) (expr_declares a) (expr_declares b)
  expr_declares (typed_tree.And a b) = none_and_none (in_expr a) (in_expr b) (expr_declares a) (expr_declares b)
  expr_declares (typed_tree.Or a b) = none_and_none (in_expr a) (in_expr b) (expr_declares a) (expr_declares b)
  expr_declares (typed_tree.Choice at t e a b) =
      none_and_none (in_expr e) (in_expr a ++ in_expr b) (expr_declares e) (none_and_none (in_expr a) (in_expr b) (expr_declares a) (expr_declares b))
  expr_declares (typed_tree.Pointed at t e) = expr_declares e
  expr_declares (typed_tree.StepOf at op to) = target_declares to
  expr_declares (typed_tree.Assign at to e) = none_and_none (in_target to) (in_expr e) (target_declares to) (expr_declares e)
  expr_declares (typed_tree.Compound at to op e) = none_and_none (in_target to) (in_expr e) (target_declares to) (expr_declares e)
  expr_declares (typed_tree.Api at r es) = exprs_declare es
  expr_declares (typed_tree.TextWithLength at x e) = none_and_none (in_expr e) (Uses x ∷ []) (expr_declares e) refl
  expr_declares (typed_tree.Croak at format es) = exprs_declare es
  expr_declares (typed_tree.Call at f es) = exprs_declare es
  expr_declares _ = refl

  exprs_declare : (es : Exprs) → slots_declared (in_exprs es) ≡ []
  exprs_declare NoExprs = refl
  exprs_declare (MoreExprs e es) = none_and_none (in_expr e) (in_exprs es) (expr_declares e) (exprs_declare es)

  target_declares : (t : Target) → slots_declared (in_target t) ≡ []
  target_declares (ToItem e) = expr_declares e
  target_declares _ = refl

-- ---- scopes

abbrev numbers : Scope → List ℕ
numbers s = map (λ z. z.number) s.slots

-- a scope and the names that the text knows
record Follows (s : Scope) (k : Known) : Type 0 where
  agree : Agree s.variables k.names
  count : length s.slots ≡ k.count

-- Good code between two scopes: what it does with slots, and what it declares.
record Between {A : Type 0} (view : A → List SlotUse) (meant : List SlotUse) (before after : Scope) (k : Known) (a : A) : Type 0 where
  are : view a ≡ meant
  follows : Follows after k
  declares : numbers after ≡ numbers before ++ slots_declared (view a)

abbrev Stands : {A : Type 0} → (A → List SlotUse) → List SlotUse → Scope → Scope → Known → Checked A → Type 0
Stands view meant before after k r = WhereGood (Between view meant before after k) r

abbrev in_list : List Stmt → List SlotUse
in_list ts = in_stmts (stmts_of ts)

-- ---- a variable more

abbrev slot_number : Option Slot → Option ℕ
slot_number o = option_map (λ s. s.number) o

or_none : (o : Option Slot) → slot_number (cond (is_some o) o None) ≡ slot_number o
or_none None = refl
or_none (Some s) = refl

free_name : (vs : List Local) (name : List ℕ) → is_in_use vs name ≡ false → variable_of vs name ≡ None
unfolding is_in_use
free_name vs name e = is_none_of (variable_of vs name) (or_parts (is_interface_word name) (is_some (variable_of vs name)) e).1

agree_by : (vs : List Local) (ns : List Named) (v : Local) → Agree vs ns → variable_of vs v.name ≡ None → (name : List ℕ) (b : Bool) → bytes_eq v.name name ≡ b
    → slot_number (cond (is_some (variable_of vs name)) (variable_of vs name) (cond b (Some v.slot) None))
    ≡ cond b (Some v.slot.number) (last_declared ns name)
agree_by vs ns v agree free name true e =
    ap (λ o. slot_number (cond (is_some o) o (Some v.slot))) (subst (λ n. variable_of vs n ≡ None) ((bytes_eq-Decides v.name name).0 e) free)
agree_by vs ns v agree free name false e = or_none (variable_of vs name) ∙ agree name

agree_more : (vs : List Local) (ns : List Named) (v : Local) (n : ℕ) → Agree vs ns → variable_of vs v.name ≡ None → v.slot.number ≡ n
    → Agree (vs ++ v ∷ []) (record { name = v.name; number = n } ∷ ns)
agree_more vs ns v n agree free e name =
    ap slot_number (found_last vs v name) ∙ agree_by vs ns v agree free name (bytes_eq v.name name) refl
    ∙ ap (λ x. cond (bytes_eq v.name name) (Some x) (last_declared ns name)) e

-- ---- statements

-- a statement that declares nothing
same_scope : {A : Type 0} (view : A → List SlotUse) (u : List SlotUse) (s : Scope) (k : Known) (a : A) → Follows s k → view a ≡ u → slots_declared (view a) ≡ []
    → Between view u s s k a
same_scope view u s k a f e d = record { are = e; follows = f; declares = sym (append-nil (numbers s)) ∙ ap (λ xs. numbers s ++ xs) (sym d) }

-- ---- nodes of one part and of two, one behind the other

-- a node that does with slots what its part does
module _ {A B : Type 0} (view : A → List SlotUse) (shown : B → List SlotUse) (u : List SlotUse) (s after : Scope) (k : Known) where
  as_part : (a : A) → Between view u s after k a → (c : Checked B) → WhereGood (λ b. shown b ≡ view a) c → Stands shown u s after k c
  as_part a h (Bad e) w = record { good = tt }
  as_part a h (Good b) w = record {
    good = record {
      are = w.good ∙ h.are;
      follows = h.follows;
      declares = h.declares ∙ ap (λ v. numbers s ++ slots_declared v) (sym w.good);
    };
  }

  one_stands : (r : Checked A) (node : A → Checked B) → Stands view u s after k r → ((a : A) → WhereGood (λ b. shown b ≡ view a) (node a))
      → Stands shown u s after k (behind r node)
  one_stands (Bad e) node h is = record { good = tt }
  one_stands (Good a) node h is = as_part a h.good (node a) (is a)

module _ {A B C : Type 0} (front : A → List SlotUse) (back : B → List SlotUse) (shown : C → List SlotUse) (s mid after : Scope) (k1 k2 : Known)
    (u v : List SlotUse) where
  joined_stand : (a : A) (b : B) → Between front u s mid k1 a → Between back v mid after k2 b → (c : Checked C)
      → WhereGood (λ z. shown z ≡ front a ++ back b) c → Stands shown (u ++ v) s after k2 c
  joined_stand a b h g (Bad e) w = record { good = tt }
  joined_stand a b h g (Good c) w = record {
    good = record {
      are = w.good ∙ ap₂ (λ x y. x ++ y) h.are g.are;
      follows = g.follows;
      declares = g.declares ∙ ap (λ xs. xs ++ slots_declared (back b)) h.declares
          ∙ append_assoc (numbers s) (slots_declared (front a)) (slots_declared (back b))
          ∙ ap (λ xs. numbers s ++ xs) (sym (declared_append (front a) (back b)) ∙ sym (ap slots_declared w.good));
    };
  }

  both_stand : (r : Checked A) (t : Checked B) (node : A → B → Checked C) → Stands front u s mid k1 r → (Follows mid k1 → Stands back v mid after k2 t)
      → ((a : A) (b : B) → WhereGood (λ z. shown z ≡ front a ++ back b) (node a b)) → Stands shown (u ++ v) s after k2 (both r t node)
  both_stand (Bad e) (Good b) node h next is = record { good = tt }
  both_stand (Bad e) (Bad d) node h next is = record { good = tt }
  both_stand (Good a) (Bad d) node h next is = record { good = tt }
  both_stand (Good a) (Good b) node h next is = joined_stand a b h.good (next h.good.follows).good (node a b) (is a b)

-- ---- declarations

module _ (s : Scope) (k : Known) (f : Follows s k) where
  -- what is declared with a type
  declared_stands : (line : ℕ) (name : List ℕ) (t : ValueType) (o given : Option ValueType) (u : List SlotUse) (made : ValueType → Stmt)
      → ((v : ValueType) → in_stmt (made v) ≡ Declares (length s.slots) ∷ u) → slots_declared u ≡ []
      → Stands in_stmt (Declares k.count ∷ u) s (with_variable s line name t) (knowing_also k name) (judged line (stated made (declared s name o given)))
  declared_stands line name t None given u made are none = record { good = tt }
  declared_stands line name t (Some v) given u made are none = by_given (is_given given v)
    where
      by : (b : Bool) → is_in_use s.variables name ≡ b
          → Stands in_stmt (Declares k.count ∷ u) s (cond b s (new_variable s name (next_slot s line t))) (knowing_also k name)
          (judged line (stated made (cond b (Wrong DECLARED_TWICE name) (Fine v))))
      by true e = record { good = tt }
      by false e = record {
        good = record {
          are = are v ∙ ap (λ n. Declares n ∷ u) f.count;
          follows = record {
            agree = agree_more s.variables k.names (record { name = name; slot = next_slot s line t }) k.count f.agree (free_name s.variables name e) f.count;
            count = length-append s.slots (next_slot s line t ∷ []) ∙ ap (λ n. n + 1) f.count;
          };
          declares = map-append (λ (z : Slot). z.number) s.slots (next_slot s line t ∷ []) ∙ ap (λ xs. numbers s ++ (length s.slots ∷ xs)) (sym none)
              ∙ ap (λ z. numbers s ++ slots_declared z) (sym (are v));
        };
      }

      by_given : (g : Bool) → Stands in_stmt (Declares k.count ∷ u) s (with_variable s line name t) (knowing_also k name)
          (judged line (stated made (cond g (cond (is_in_use s.variables name) (Wrong DECLARED_TWICE name) (Fine v)) (Wrong TYPES_DIFFER []))))
      by_given true = by (is_in_use s.variables name) refl
      by_given false = record { good = tt }

  begun_in : (line slot : ℕ) (e : Expr) (t : ValueType) → in_stmt (begun line slot e t) ≡ Declares slot ∷ Uses slot ∷ in_expr e
  begun_in line slot e t = ap (λ u. Declares slot ∷ Uses slot ∷ u) (append-nil (in_expr e))

  valued_stands : (base : List ℕ) (d : DeclaratorTree) (u : List SlotUse) (r : Checked TypedExpr) → Does in_typed u r
      → Stands in_stmt (Declares k.count ∷ Uses k.count ∷ u) s (name_behind base s d) (knowing_also k d.name)
      (behind r (λ x. judged d.line (stated (begun d.line (length s.slots) x.tree) (declared s d.name (type_named base d.stars) (Some x.of_type)))))
  valued_stands base d u (Bad e) h = record { good = tt }
  valued_stands base d u (Good x) h =
      subst (λ z. Stands in_stmt z s (name_behind base s d) (knowing_also k d.name)
      (judged d.line (stated (begun d.line (length s.slots) x.tree) (declared s d.name (type_named base d.stars) (Some x.of_type)))))
      (ap₂ (λ n v. Declares k.count ∷ Uses n ∷ v) f.count h.good)
      (declared_stands d.line d.name (declared_type base d.stars) (type_named base d.stars) (Some x.of_type) (Uses (length s.slots) ∷ in_expr x.tree)
      (begun d.line (length s.slots) x.tree) (begun_in d.line (length s.slots) x.tree) (expr_declares x.tree))

  declarator_stands : (base : List ℕ) (d : DeclaratorTree) (value : Option ExprTree)
      → Stands in_stmt (meant_in_name k value) s (name_behind base s d) (knowing_also k d.name) (declarator base s d value)
  declarator_stands base d None =
      declared_stands d.line d.name (declared_type base d.stars) (type_named base d.stars) None [] (unset d.line (length s.slots)) (λ v. refl) refl
  declarator_stands base d (Some value) =
      valued_stands base d (meant_in_expr k.names value) (expr s.variables value) (expr_does s.variables k.names f.agree value)

  -- an expression
  expr_stands : (u : List SlotUse) (r : Checked TypedExpr) → Does in_typed u r → Stands in_typed u s s k r
  expr_stands u (Bad e) h = record { good = tt }
  expr_stands u (Good x) h = record { good = same_scope in_typed u s k x f h.good (expr_declares x.tree) }

  -- what does nothing with slots
  still_stands : (line : ℕ) (j : Judged Stmt) → WhereFine (Doing in_stmt []) j → Stands in_stmt [] s s k (judged line j)
  still_stands line (Fine t) h = record { good = same_scope in_stmt [] s k t f h (ap slots_declared h) }
  still_stands line (Wrong code word) h = record { good = tt }

  -- what was declared inside is known no more
  outside_stands : {A : Type 0} (view : A → List SlotUse) (inner : Scope) (k1 : Known) (u : List SlotUse) (r : Checked A) → Grown s inner
      → Stands view u s inner k1 r → Stands view u s (outside s inner) (known_outside k k1) r
  outside_stands view inner k1 u (Bad e) g h = record { good = tt }
  outside_stands view inner k1 u (Good a) g h = record {
    good = record {
      are = h.good.are;
      follows = record { agree = subst (λ vs. Agree vs k.names) (sym (block_end s inner g)) f.agree; count = h.good.follows.count };
      declares = h.good.declares;
    };
  }

-- ---- forms

declarators_stand : (base : List ℕ) (s : Scope) (k : Known) → Follows s k → (ds : List DeclaratorTree)
    → Stands in_list (meant_in_names k ds) s (declarators_behind base s ds) (known_behind_names k ds) (declarators base s ds)
declarators_stand base s k f [] = record { good = same_scope in_list [] s k [] f refl refl }
declarators_stand base s k f (d ∷ ds) =
    let mid : Scope = name_behind base s d in
    let knows : Known = knowing_also k d.name in
    both_stand in_stmt in_list in_list s mid (declarators_behind base mid ds) knows (known_behind_names knows ds) _ _ (declarator base s d d.value)
    (declarators base mid ds) _ (declarator_stands s k f base d d.value) (λ g. declarators_stand base mid knows g ds) (λ x xs. record { good = refl })

in_order_does : (ts : List Stmt) → in_stmt (in_order ts) ≡ in_list ts
in_order_does [] = refl
in_order_does (t ∷ []) = sym (append-nil (in_stmt t))
in_order_does (t ∷ u ∷ ts) = refl

effect_in : (line : ℕ) (e : Expr) (b : Bool) → in_stmt (cond b (typed_tree.Quit line e) (typed_tree.Effect e)) ≡ in_expr e
effect_in line e true = refl
effect_in line e false = refl

-- a statement with a condition does what it does
condition_does : (line : ℕ) (x : TypedExpr) (t : Stmt) (uses : List SlotUse) → in_stmt t ≡ uses
    → WhereGood (λ z. in_stmt z ≡ uses) (judged line (conditional x t))
condition_does line x t uses e = judged_good _ line _ (fine_by (λ z. in_stmt z ≡ uses) (is_condition x.of_type) (Fine t) TYPES_DIFFER [] e)

-- an expression of a statement
test_stands : (s : Scope) (k : Known) → Follows s k → (e : ExprTree) → Stands in_typed (meant_in_expr k.names e) s s k (expr s.variables e)
test_stands s k f e = expr_stands s k f (meant_in_expr k.names e) (expr s.variables e) (expr_does s.variables k.names f.agree e)

-- two statements
abbrev in_two : Stmt × Stmt → List SlotUse
in_two p = in_stmt p.0 ++ in_stmt p.1

end_stands : (w : Where) (s : Scope) (k : Known) → Follows s k → (line : ℕ) (value : Option ExprTree)
    → Stands in_stmt (meant_in_value k.names value) s s k (function_end w s line value)
end_stands w s k f line None =
    still_stands s k f line (returned w line None) (fine_by (Doing in_stmt []) (may_return w.result None) (Fine (typed_tree.Return line)) TYPES_DIFFER [] refl)
end_stands w s k f line (Some value) =
    one_stands in_typed in_stmt (meant_in_expr k.names value) s s k (expr s.variables value) _
    (test_stands s k f value)
    (λ x. judged_good _ line _
    (fine_by (λ z. in_stmt z ≡ in_expr x.tree) (may_return w.result (Some x.of_type)) (Fine (typed_tree.Give line x.tree)) TYPES_DIFFER [] refl))

declaration_stands : (s : Scope) (k : Known) → Follows s k → (base : List ℕ) (ds : List DeclaratorTree)
    → Stands in_stmt (meant_in_names k ds) s (declarators_behind base s ds) (known_behind_names k ds) (declaration base s ds)
declaration_stands s k f base ds =
    one_stands in_list in_stmt (meant_in_names k ds) s (declarators_behind base s ds) (known_behind_names k ds) (declarators base s ds) _
    (declarators_stand base s k f ds) (λ ts. record { good = in_order_does ts })

-- ---- heads of `for`

first_stands : (s : Scope) (k : Known) → Follows s k → (first : FirstTree)
    → Stands in_stmt (meant_in_first k first) s (first_behind s first) (known_first k first) (first_part s first)
first_stands s k f statement.NoFirst = record { good = same_scope in_stmt [] s k nothing f refl refl }
first_stands s k f (statement.FirstDeclare d) = declaration_stands s k f d.base d.names
first_stands s k f (statement.FirstEffect e) =
    one_stands in_typed in_stmt (meant_in_expr k.names e) s s k (expr s.variables e) _ (test_stands s k f e) (λ x. record { good = refl })

abbrev in_option : Option TypedExpr → List SlotUse
in_option None = []
in_option (Some x) = in_expr x.tree

option_stands : (s : Scope) (k : Known) → Follows s k → (e : Option ExprTree)
    → Stands in_option (meant_in_value k.names e) s s k (option_expr s.variables e)
option_stands s k f None = record { good = same_scope in_option [] s k None f refl refl }
option_stands s k f (Some e) =
    one_stands in_typed in_option (meant_in_expr k.names e) s s k (expr s.variables e) _ (test_stands s k f e) (λ x. record { good = refl })

-- the expression after each turn and the body; with the test before them
abbrev in_turns : Option TypedExpr × Stmt → List SlotUse
in_turns p = in_option p.0 ++ in_stmt p.1

abbrev in_rest : Option TypedExpr × (Option TypedExpr × Stmt) → List SlotUse
in_rest p = in_option p.0 ++ in_turns p.1

test_in : (x : Option TypedExpr) → in_test (test_of x) ≡ in_option x
test_in None = refl
test_in (Some x) = refl

each_in : (x : Option TypedExpr) → in_each (option_map (λ z. z.tree) x) ≡ in_option x
each_in None = refl
each_in (Some x) = refl

for_does : (line : ℕ) (slots : List Slot) (t : Stmt) (x y : Option TypedExpr) (b : Stmt)
    → WhereGood (λ z. in_stmt z ≡ in_stmt t ++ in_rest (x, (y, b))) (judged line (for_loop line slots t x y b))
for_does line slots t x y b =
    let uses : List SlotUse = in_stmt t ++ in_rest (x, (y, b)) in
    judged_good (λ z. in_stmt z ≡ uses) line _
    (fine_by (λ z. in_stmt z ≡ uses) (is_test (option_map (λ z. z.of_type) x)) (Fine _) TYPES_DIFFER []
    (ap (λ u. in_stmt t ++ u) (append-nil _ ∙ ap₂ (λ v w. v ++ (w ++ in_stmt b)) (test_in x) (each_in y))))

-- ---- groups of `switch`

abbrev in_labels : List (Option Number) → List SlotUse
in_labels ns = []

labels_stand : (s : Scope) (k : Known) → Follows s k → (all : List Label) → Stands in_labels [] s s k (labels s.variables all)
labels_stand s k f all = by (labels s.variables all)
  where
    by : (r : Checked (List (Option Number))) → Stands in_labels [] s s k r
    by (Good ns) = record { good = same_scope in_labels [] s k ns f refl refl }
    by (Bad e) = record { good = tt }

abbrev in_one_group : TypedGroup → List SlotUse
in_one_group g = in_list g.body

abbrev in_all_groups : List TypedGroup → List SlotUse
in_all_groups gs = in_groups (groups_of gs)

switched_does : (line : ℕ) (t : ValueType) (e : Expr) (gs : List TypedGroup)
    → WhereFine (λ z. in_stmt z ≡ in_expr e ++ in_all_groups gs) (switched line t e gs)
switched_does line (type_of.Number kind) e gs = refl
switched_does line _ e gs = tt

perl_word_does : (line : ℕ) (w : PerlWord) → WhereFine (Doing in_stmt []) (perl_word line w)
perl_word_does line word.XsReturnYes = refl
perl_word_does line _ = tt

registered_does : (w : Where) (full name : List ℕ) (keeps : Bool) (o : Option ℕ) → WhereFine (Doing in_stmt []) (registered w full name keeps o)
registered_does w full name keeps None = tt
registered_does w full name keeps (Some i) = fine_by (Doing in_stmt []) w.in_boot (Fine _) _ _ refl

unused_does : (b : Bool) (code : ℕ) (name : List ℕ) → WhereFine (Doing in_stmt []) (cond b (Fine nothing) (Wrong code name))
unused_does true code name = refl
unused_does false code name = tt

module _ (names : FileNames) where
  perl_does : (w : Where) (vs : List Local) (line : ℕ) (p : PerlForm) → WhereFine (Doing in_stmt []) (perl names w vs line p)
  perl_does w vs line (form.Word v) = perl_word_does line v
  perl_does w vs line (form.NewXs keeps full name) = registered_does w full name keeps (index_of names.functions name)
  perl_does w vs line (form.SetIndex literal) = fine_by (Doing in_stmt []) w.in_boot (Fine _) _ _ refl
  perl_does w vs line (form.Unused name) = unused_does _ _ name
  perl_does w vs line _ = tt

  mutual
    unfolding stmt scope_behind

    stmt_stands : (w : Where) (s : Scope) (k : Known) → Follows s k → (t : StmtTree)
        → Stands in_stmt (meant_in_stmt k t) s (scope_behind s t) (known_behind k t) (stmt names w s t)
    stmt_stands w s k f (statement.Block line body) =
        let inner : Scope = scopes_behind s body in
        outside_stands s k f in_stmt inner (known_behind_all k body) _ _ (scopes_grown s body)
        (one_stands in_list in_stmt (meant_in_stmts k body) s inner (known_behind_all k body) (stmts names w s body) _ (stmts_stand w s k f body)
        (λ ts. record { good = refl }))
    stmt_stands w s k f (statement.Empty line) = record { good = same_scope in_stmt [] s k _ f refl refl }
    stmt_stands w s k f (statement.Declare d) = declaration_stands s k f d.base d.names
    stmt_stands w s k f (statement.Effect line e) =
        one_stands in_typed in_stmt (meant_in_expr k.names e) s s k (expr s.variables e) _ (test_stands s k f e)
        (λ x. record { good = effect_in line x.tree (quits x.tree) })
    stmt_stands w s k f (statement.If line test t) =
        both_stand in_typed in_stmt in_stmt s s (scope_behind s t) k (known_behind k t) _ _ (expr s.variables test) (stmt names w s t) _
        (test_stands s k f test) (λ g. stmt_stands w s k g t)
        (λ x y. condition_does line x _ _ (ap (λ u. in_expr x.tree ++ u) (append-nil (in_stmt y))))
    stmt_stands w s k f (statement.IfElse line test t other) =
        let mid : Scope = scope_behind s t in
        let after : Scope = scope_behind mid other in
        let knows : Known = known_behind k t in
        both_stand in_typed in_two in_stmt s s after k (known_behind knows other) _ _ (expr s.variables test) _ _ (test_stands s k f test)
        (λ g. both_stand in_stmt in_stmt in_two s mid after knows (known_behind knows other) _ _ (stmt names w s t) (stmt names w mid other) _
        (stmt_stands w s k g t) (λ h. stmt_stands w mid knows h other) (λ a b. record { good = refl }))
        (λ x p. condition_does line x _ _ refl)
    stmt_stands w s k f (statement.While line test t) =
        both_stand in_typed in_stmt in_stmt s s (scope_behind s t) k (known_behind k t) _ _ (expr s.variables test) (stmt names (in_turn w) s t) _
        (test_stands s k f test) (λ g. stmt_stands (in_turn w) s k g t) (λ x y. condition_does line x _ _ refl)
    stmt_stands w s k f (statement.DoWhile line t test) =
        let mid : Scope = scope_behind s t in
        let knows : Known = known_behind k t in
        both_stand in_stmt in_typed in_stmt s mid mid knows knows _ _ (stmt names (in_turn w) s t) (expr mid.variables test) _ (stmt_stands (in_turn w) s k f t)
        (λ g. test_stands mid knows g test) (λ y x. condition_does line x _ _ (ap (λ u. in_stmt y ++ u) (append-nil (in_expr x.tree))))
    stmt_stands w s k f (statement.Break line) =
        still_stands s k f line _ (fine_by (Doing in_stmt []) (w.in_loop || w.in_switch) (Fine (typed_tree.Break line)) WORD_NOT_ALLOWED _ refl)
    stmt_stands w s k f (statement.Continue line) =
        still_stands s k f line _ (fine_by (Doing in_stmt []) w.in_loop (Fine (typed_tree.Continue line)) WORD_NOT_ALLOWED _ refl)
    stmt_stands w s k f (statement.Return line value) = end_stands w s k f line value
    stmt_stands w s k f (statement.Perl line p) = still_stands s k f line (perl names w s.variables line p) (perl_does w s.variables line p)
    stmt_stands w s k f (statement.For line head t) =
        let inner : Scope = first_behind s head.first in
        let after : Scope = scope_behind inner t in
        let k1 : Known = known_first k head.first in
        let k2 : Known = known_behind k1 t in
        outside_stands s k f in_stmt after k2 _ _ (grown_trans s inner after (first_grown s head.first) (scope_grown inner t))
        (both_stand in_stmt in_rest in_stmt s inner after k1 k2 _ _ (first_part s head.first) _ _ (first_stands s k f head.first)
        (λ g. both_stand in_option in_turns in_rest inner inner after k1 k2 _ _ (option_expr inner.variables head.test) _ _ (option_stands inner k1 g head.test)
        (λ h. both_stand in_option in_stmt in_turns inner inner after k1 k2 _ _ (option_expr inner.variables head.step) (stmt names (in_turn w) inner t) _
        (option_stands inner k1 h head.step) (λ i. stmt_stands (in_turn w) inner k1 i t) (λ a b. record { good = refl }))
        (λ a b. record { good = refl }))
        (λ a p. for_does line (declared_in s after) a p.0 p.1.0 p.1.1))
    stmt_stands w s k f (statement.Switch line e all) =
        both_stand in_typed in_all_groups in_stmt s s (groups_behind s all) k (known_behind_groups k all) _ _ (expr s.variables e)
        (groups names (in_group w) s all) _ (test_stands s k f e) (λ g. groups_stand (in_group w) s k g all)
        (λ x gs. judged_good _ line _ (switched_does line x.of_type x.tree gs))

    stmts_stand : (w : Where) (s : Scope) (k : Known) → Follows s k → (all : StmtTrees)
        → Stands in_list (meant_in_stmts k all) s (scopes_behind s all) (known_behind_all k all) (stmts names w s all)
    stmts_stand w s k f statement.NoStmts = record { good = same_scope in_list [] s k [] f refl refl }
    stmts_stand w s k f (statement.MoreStmts t rest) =
        both_stand in_stmt in_list in_list s (scope_behind s t) (scopes_behind (scope_behind s t) rest) (known_behind k t)
        (known_behind_all (known_behind k t) rest) _ _ (stmt names w s t) (stmts names w (scope_behind s t) rest) _ (stmt_stands w s k f t)
        (λ g. stmts_stand w (scope_behind s t) (known_behind k t) g rest) (λ x xs. record { good = refl })

    groups_stand : (w : Where) (s : Scope) (k : Known) → Follows s k → (all : GroupTrees)
        → Stands in_all_groups (meant_in_groups k all) s (groups_behind s all) (known_behind_groups k all) (groups names w s all)
    groups_stand w s k f statement.NoGroups = record { good = same_scope in_all_groups [] s k [] f refl refl }
    groups_stand w s k f (statement.MoreGroups line ls body rest) =
        let mid : Scope = scopes_behind s body in
        let knows : Known = known_behind_all k body in
        both_stand in_one_group in_all_groups in_all_groups s mid (groups_behind mid rest) knows (known_behind_groups knows rest) _ _ _
        (groups names w mid rest) _
        (both_stand in_labels in_list in_one_group s s mid k knows [] _ (labels s.variables ls) (stmts names w s body) _ (labels_stand s k f ls)
        (λ g. stmts_stand w s k g body) (λ ns ts. record { good = refl }))
        (λ g. groups_stand w mid knows g rest) (λ x xs. record { good = refl })

-- ---- functions

entry_in : (entry : Option ℕ) (ts : List Stmt) → in_list (with_entry entry ts) ≡ in_list ts
entry_in None ts = refl
entry_in (Some line) ts = refl

behind_perl : (o : Option ℕ) (k : Known) (line : ℕ) (p : PerlForm) (rest : StmtTrees)
    → meant_in_stmts k (statement.MoreStmts (statement.Perl line p) rest) ≡ meant_in_stmts k (behind_entry o (statement.MoreStmts (statement.Perl line p) rest))
behind_perl None k line p rest = refl
behind_perl (Some at) k line p rest = refl

entry_meant : (k : Known) (body : StmtTrees) → meant_in_stmts k body ≡ meant_in_stmts k (behind_entry (entry_of body) body)
entry_meant k statement.NoStmts = refl
entry_meant k (statement.MoreStmts (statement.Perl line p) rest) = behind_perl (entry_form line p) k line p rest
entry_meant k (statement.MoreStmts _ rest) = refl

-- the function of good statements
done_slots : (name : List ℕ) (boot : Bool) (inner : Scope) (k : Known) (entry : Option ℕ) (body : StmtTrees) (ts : List Stmt) → Numbered inner.slots
    → meant_in_stmts nothing_known body ≡ meant_in_stmts nothing_known (behind_entry entry body)
    → Between in_list (meant_in_stmts nothing_known (behind_entry entry body)) beginning inner k ts
    → HasItsSlots body (function_done name boot inner (with_entry entry ts))
done_slots name boot inner k entry body ts n same h = record {
  numbered = n;
  once = ap slots_declared (entry_in entry ts) ∙ sym h.declares;
  meant = entry_in entry ts ∙ h.are ∙ sym same;
}

nothing_numbered : Numbered []
nothing_numbered i s e = absurd cc

nothing_follows : Follows beginning nothing_known
unfolding variable_of
nothing_follows = record { agree = λ name. refl; count = refl }

-- the function that these statements are
function_slots : (names : FileNames) (x : XsFunTree) (ts : List Stmt)
    → stmts names (where_in x.name) beginning (statements_of x) ≡ Good ts → HasItsSlots x.body (function_of x ts)
function_slots names x ts e =
    let h : Stands in_list (meant_in_stmts nothing_known (statements_of x)) beginning (scopes_behind beginning (statements_of x))
    (known_behind_all nothing_known (statements_of x)) (Good ts) =
    subst (Stands in_list (meant_in_stmts nothing_known (statements_of x)) beginning (scopes_behind beginning (statements_of x))
    (known_behind_all nothing_known (statements_of x))) e (stmts_stand names (where_in x.name) beginning nothing_known nothing_follows (statements_of x)) in
    done_slots x.name (is_boot_name x.name) (scopes_behind beginning (statements_of x)) (known_behind_all nothing_known (statements_of x))
    (entry_of x.body) x.body ts
    ((scopes_grown beginning (statements_of x)).numbered nothing_numbered) (entry_meant nothing_known x.body) h.good

pub slots_once : (t : FileTree) (c : Code) (i : ℕ) (f : Function) → typed_of t ≡ Ok c → slice_get c.functions i ≡ Some f
    → OfItem (λ x g. HasItsSlots x.body g) t.items i f
slots_once = each_function (λ x g. HasItsSlots x.body g) function_slots
