-- What the definition tells of each form is right: one entry for a form.
use Rattle.std.proofs.Common.{◌≡◌, ℕ, ◌+◌, Bool, true, false, cond, List, [], ◌∷◌, map, length, codes, Option, Some, None, refl, sym, ap, ap₂, ◌∙◌, subst}
use Rattle.std.specs.Prelude.{◌&&◌, ◌||◌, nat_eq, not}
use Rattle.std.specs.Option.{is_some, option_map}
use Rattle.std.specs.Str.{bytes_eq}
use Rattle.std.proofs.lemmas.List.{length-map}
use Rattle.xs_base.specs.declared.fault_codes.TheConstants.{TYPES_DIFFER, WRONG_NUMBER_OF_ARGUMENTS}
use Rattle.xs_values.specs.declared.operator.Op.{Op}
use Rattle.xs_values.specs.declared.unary_operator.UnOp.{UnOp}
use Rattle.xs_values.specs.declared.unary_operator.UnOp.TheVariants as unary
use Rattle.xs_cinput.specs.declared.tree.BinaryOp.{BinaryOp}
use Rattle.xs_cinput.specs.declared.tree.BinaryOp.TheVariants as c
use Rattle.xs_cexpr.specs.ExpressionTree as syntax
use Rattle.xs_cexpr.specs.ExpressionTree.{ExprTree, ExprTrees, PlaceTree, VarPlace, TargetPlace, StPlace}
use Rattle.xs_cstmt.specs.StatementTree as statement
use Rattle.xs_cstmt.specs.StatementTree.{DeclaratorTree, FirstTree, StmtTree, StmtTrees, GroupTrees}
use Rattle.xs_cstmt.specs.declared.tree.Label.{Label}
use Rattle.xs_csyn.specs.declared.tree.Define.{Define}
use Rattle.xs_csyn.specs.FileTree.{XsFunTree, ItemTree, XsFunItem, FileTree}
use Rattle.xs_csyn.specs.Grammar.{line_of, line_of_place}
use Rattle.xs_perlapi.specs.declared.row.ApiType.{ApiType}
use Rattle.xs_perlapi.specs.declared.row.Written.TheVariants as written
use Rattle.xs_perlapi.specs.Table.{RowCall, row_named, word_written}
use Rattle.xs_ctree.specs.declared.value_type.Slot.{Slot}
use Rattle.xs_ctree.specs.declared.value_type.ValueType.{ValueType}
use Rattle.xs_ctree.specs.declared.value_type.ValueType.TheVariants as type_of
use Rattle.xs_ctree.specs.TypedTree.{Expr, Stmt, Return, Give}
use Rattle.xs_ccheck.specs.declared.enclosing.Where.{Where}
use Rattle.xs_ctypes.specs.Checked.{Checked, Good, Bad, behind, Judged, Fine, Wrong, judged, unbuilt}
use Rattle.xs_ccheck.specs.ExprTyping.{TypedExpr, TypedTarget, address_meant, all_fit, back_step, calculated, called, cast, chosen, combined, compared, converted, element, expr, exprs, front_step, is_cv, is_equal, is_text_type, item_place, letter_in, name_meant, operated, option_expr, other_address, passed, place_in, pointed, prefixed, row_called, row_judged, set_to, stepped, target_of, target_place, text_in, typed, usage, usage_of, usage_word, variable_place, variable_target}
use Rattle.xs_ccheck.specs.FileTyping.{behind_entry, code_meant, defines, entry_of, function, functions, item, where_in}
use Rattle.xs_ctypes.specs.FileNames.{FileNames, index_of, is_earlier, names_of}
use Rattle.xs_ccheck.specs.FormTypes.{address_type, call_type, cast_type, combined_type, element_type, expr_rule, expr_type, expr_types, fit, item_type, name_type, place_rule, set_type, step_type, target_type, type_by, usage_type, variable_type, written_type}
use Rattle.xs_ctypes.specs.Scopes.{Local, Scope, beginning, first_behind, name_behind, scope_behind, scopes_behind, variable_of}
use Rattle.xs_ccheck.specs.StmtTyping.{TypedGroup, begun, conditional, declarator, declarators, declared, first_part, function_end, groups, in_group, in_turn, is_test, label_number, labels, line_of_label, may_return, stated, stmt, stmts, switched, unset}
use Rattle.xs_ctypes.specs.TypeNames.{cast_named, type_named}
use Rattle.xs_ctypes.specs.ValueTypes.{are_conditions, are_numbers, compares, goes_into, is_address, is_condition, is_equality, is_number, is_operand, of_address, of_cast, of_choice, of_numbers, of_one, of_pointed, of_promoted, of_truth, of_two, result_type}
use Rattle.xs_ccheck.specs.FaultSet.{Node, AFile, TheDefines, TheItems, ADefine, AnItem, AStmt, TheStmts, ADeclarator, AFirst, TheGroups, AGroup, TheLabels, ALabel, AnOption, AnExpr, APlace, parts, own, refused, refused_unless, no_condition, exprs_at, value_at, stmts_at, declarators_at, labels_at, groups_at, defines_at, items_at}
use Rattle.xs_ccheck.proofs.LeastFaults.{OwnSays, Says, SaysAll, says_leaf, says_more, says_four, says_node, says_none, says_one, says_three, says_two}

-- ---- the type that a rule of the definition gives

abbrev type_in : Judged TypedExpr → Judged ValueType
type_in (Fine x) = Fine x.of_type
type_in (Wrong code word) = Wrong code word

abbrev place_type_in : Judged TypedTarget → Judged ValueType
place_type_in (Fine p) = Fine p.of_type
place_type_in (Wrong code word) = Wrong code word

abbrev HasType : List Local → ExprTree → TypedExpr → Type 0
HasType vs e x = x.of_type ≡ expr_type vs e

abbrev HaveTypes : List Local → ExprTrees → List TypedExpr → Type 0
HaveTypes vs all xs = map (λ x. x.of_type) xs ≡ expr_types vs all

abbrev PlaceHasType : List Local → PlaceTree → TypedTarget → Type 0
PlaceHasType vs p x = x.of_type ≡ type_by (place_rule vs p)

abbrev pub Anything : {A : Type 0} → A → Type 0
Anything a = Unit {0}

-- an expression at its line, whose rule gives a type
expr_own : (vs : List Local) (e : ExprTree) (j : Judged TypedExpr) → type_in j ≡ expr_rule vs e
    → OwnSays (AnExpr vs e) (HasType vs e) (judged (line_of e) j)
expr_own vs e (Fine x) t = (ap (refused (line_of e)) (sym t), ap type_by t)
expr_own vs e (Wrong code word) t = ap (refused (line_of e)) (sym t)

place_own : (vs : List Local) (p : PlaceTree) (j : Judged TypedTarget) → place_type_in j ≡ place_rule vs p
    → OwnSays (APlace vs p) (PlaceHasType vs p) (judged (line_of_place p) j)
place_own vs p (Fine x) t = (ap (refused (line_of_place p)) (sym t), ap type_by t)
place_own vs p (Wrong code word) t = ap (refused (line_of_place p)) (sym t)

-- ---- the rules of expressions

typed_types : (f : ValueType → Expr) (j : Judged ValueType) → type_in (typed f j) ≡ j
typed_types f (Fine t) = refl
typed_types f (Wrong code word) = refl

type_of_test : (b : Bool) (x : TypedExpr) (code : ℕ) (word : List ℕ)
    → type_in (cond b (Fine x) (Wrong code word)) ≡ cond b (Fine x.of_type) (Wrong code word)
type_of_test true x code word = refl
type_of_test false x code word = refl

type_of_place : (b : Bool) (x : TypedTarget) (code : ℕ) (word : List ℕ)
    → place_type_in (cond b (Fine x) (Wrong code word)) ≡ cond b (Fine x.of_type) (Wrong code word)
type_of_place true x code word = refl
type_of_place false x code word = refl

type_of_branch : (b : Bool) (j k : Judged TypedExpr) → type_in (cond b j k) ≡ cond b (type_in j) (type_in k)
type_of_branch true j k = refl
type_of_branch false j k = refl

place_of_branch : (b : Bool) (j k : Judged TypedTarget) → place_type_in (cond b j k) ≡ cond b (place_type_in j) (place_type_in k)
place_of_branch true j k = refl
place_of_branch false j k = refl

prefixed_types : (op : UnOp) (x : TypedExpr) → type_in (prefixed op x) ≡ of_one op x.of_type
prefixed_types unary.Not x = type_of_test (is_condition x.of_type) _ _ _
prefixed_types unary.Plus x = typed_types _ (of_promoted unary.Plus x.of_type)
prefixed_types unary.Minus x = typed_types _ (of_promoted unary.Minus x.of_type)
prefixed_types unary.Complement x = typed_types _ (of_promoted unary.Complement x.of_type)

operated_types : (op : Op) (x y : TypedExpr) → type_in (operated op x y) ≡ of_two op x.of_type y.of_type
operated_types op x y =
    type_of_branch (are_numbers x.of_type y.of_type) (calculated op x y) (compared op x y)
    ∙ ap₂ (cond (are_numbers x.of_type y.of_type)) (typed_types _ (of_numbers op x.of_type y.of_type))
    (type_of_test (compares x.of_type y.of_type && is_equality op) _ _ _)

combined_types : (op : BinaryOp) (x y : TypedExpr) → type_in (combined op x y) ≡ combined_type op x.of_type y.of_type
combined_types (c.On op) x y = operated_types op x y
combined_types c.Or x y = type_of_test (are_conditions x.of_type y.of_type) _ _ _
combined_types c.And x y = type_of_test (are_conditions x.of_type y.of_type) _ _ _

name_types : (name : List ℕ) (o : Option Slot) → type_in (name_meant name o) ≡ name_type name o
name_types name (Some v) = refl
name_types name None = type_of_branch (bytes_eq name (codes "items")) _ _

variable_types : (name : List ℕ) (o : Option Slot) → place_type_in (variable_place name o) ≡ variable_type name o
variable_types name (Some v) = type_of_place (not (is_address v.of_type)) (variable_target v) _ _
variable_types name None = place_of_branch (bytes_eq name (codes "items")) _ _

written_types : (slot : ℕ) (t : ValueType) → place_type_in (target_of slot t) ≡ written_type t
written_types slot (type_of.Address kind) = refl
written_types slot type_of.Text = refl
written_types slot type_of.Place = refl
written_types slot _ = refl

target_types : (name : List ℕ) (o : Option Slot) → place_type_in (target_place name o) ≡ target_type name o
target_types name (Some v) = written_types v.number v.of_type
target_types name None = place_of_branch (bytes_eq name (codes "items")) _ _

other_types : (name : List ℕ) → type_in (other_address name) ≡ other_address name
other_types name =
    type_of_branch (is_some (word_written written.Address name)) _ _
    ∙ ap (cond (is_some (word_written written.Address name)) unbuilt) (type_of_branch (bytes_eq name (codes "items")) _ _)

address_types : (name : List ℕ) (o : Option Slot) → type_in (address_meant name o) ≡ address_type name o
address_types name (Some v) = typed_types _ (of_address v.of_type)
address_types name None = other_types name

cast_types : (letter : Option ℕ) (to : Option ValueType) (x : TypedExpr) → type_in (cast letter to x) ≡ cast_type letter to x.of_type
cast_types None to x = typed_types _ (of_cast to x.of_type)
cast_types (Some slot) to x =
    type_of_branch (is_text_type to) _ (converted to x) ∙ ap (cond (is_text_type to) (Fine type_of.Text)) (typed_types _ (of_cast to x.of_type))

set_types : (line : ℕ) (op : Option Op) (to : TypedTarget) (x : TypedExpr) → type_in (set_to line op to x) ≡ set_type op to.of_type x.of_type
set_types line None to x = type_of_test (goes_into x.of_type to.of_type) _ _ _
set_types line (Some op) to x = type_of_test (are_numbers to.of_type x.of_type) _ _ _

fit_types : (wanted : List ApiType) (xs : List TypedExpr) → all_fit wanted xs ≡ fit wanted (map (λ x. x.of_type) xs)
fit_types [] xs = refl
fit_types (w ∷ ws) [] = refl
fit_types (w ∷ ws) (x ∷ xs) = ap (λ b. is_operand w x.of_type && b) (fit_types ws xs)

row_types : (line : ℕ) (r : RowCall) (xs : List TypedExpr)
    → type_in (row_judged line r xs) ≡ cond (fit r.operands (map (λ x. x.of_type) xs)) (Fine (result_type r.result)) (Wrong TYPES_DIFFER [])
row_types line r xs =
    type_of_test (all_fit r.operands xs) (row_called line r xs) TYPES_DIFFER []
    ∙ ap (λ b. cond b (Fine (result_type r.result)) (Wrong TYPES_DIFFER [])) (fit_types r.operands xs)

call_types : (line : ℕ) (name : List ℕ) (o : Option RowCall) (xs : List TypedExpr) (ts : List ValueType) → map (λ x. x.of_type) xs ≡ ts
    → type_in (called line name o xs) ≡ call_type name o ts
call_types line name None xs ts e = refl
call_types line name (Some r) xs ts e =
    let types : List ValueType = map (λ (x : TypedExpr). x.of_type) xs in
    let wrong : Judged ValueType = Wrong WRONG_NUMBER_OF_ARGUMENTS name in
    subst (λ zs. type_in (called line name (Some r) xs) ≡ call_type name (Some r) zs) e
    (type_of_branch (nat_eq (length xs) (length r.operands)) (row_judged line r xs) (Wrong WRONG_NUMBER_OF_ARGUMENTS name)
    ∙ ap (λ n. cond (nat_eq n (length r.operands)) (type_in (row_judged line r xs)) wrong) (sym (length-map xs (λ (x : TypedExpr). x.of_type)))
    ∙ ap (λ j. cond (nat_eq (length types) (length r.operands)) j wrong) (row_types line r xs))

usage_of_types : (line : ℕ) (cv : Bool) (text : Option (List ℕ))
    → type_in (usage_of line cv text) ≡ cond (cv && is_some text) (Fine type_of.Void) (Wrong TYPES_DIFFER [])
usage_of_types line true (Some text) = refl
usage_of_types line true None = refl
usage_of_types line false text = refl

usage_types : (line : ℕ) (args : ExprTrees) → type_in (usage line args) ≡ usage_type args
usage_types line syntax.NoExprs = refl
usage_types line (syntax.MoreExprs a syntax.NoExprs) = refl
usage_types line (syntax.MoreExprs a (syntax.MoreExprs b syntax.NoExprs)) = usage_of_types line (is_cv a) (text_in b)
usage_types line (syntax.MoreExprs a (syntax.MoreExprs b (syntax.MoreExprs d rest))) = refl

-- ---- expressions

module _ (vs : List Local) where
  -- a call is one of two forms, by its word
  call_says : (e : ExprTree) (name : List ℕ) (args : ExprTrees) (b : Bool) → parts (AnExpr vs e) ≡ cond b [] (exprs_at vs args)
      → expr_rule vs e ≡ cond b (usage_type args) (call_type name (row_named name) (expr_types vs args))
      → SaysAll (exprs_at vs args) (HaveTypes vs args) (exprs vs args)
      → Says (AnExpr vs e) (HasType vs e)
      (cond b (judged (line_of e) (usage (line_of e) args))
      (behind (exprs vs args) (λ xs. judged (line_of e) (called (line_of e) name (row_named name) xs))))
  call_says e name args true p q h = says_leaf (AnExpr vs e) (HasType vs e) _ p (expr_own vs e (usage (line_of e) args) (usage_types (line_of e) args ∙ sym q))
  call_says e name args false p q h =
      says_node (AnExpr vs e) (HaveTypes vs args) (HasType vs e) (exprs vs args) _ (subst (λ ns. SaysAll ns (HaveTypes vs args) (exprs vs args)) (sym p) h)
      (λ xs t. expr_own vs e (called (line_of e) name (row_named name) xs) (call_types (line_of e) name (row_named name) xs (expr_types vs args) t ∙ sym q))

  mutual
    unfolding expr expr_rule

    expr_says : (e : ExprTree) → Says (AnExpr vs e) (HasType vs e) (expr vs e)
    expr_says (syntax.Var line name) =
        says_leaf _ _ _ refl (expr_own vs (syntax.Var line name) (name_meant name (variable_of vs name)) (name_types name (variable_of vs name)))
    expr_says (syntax.Num line value) = says_leaf _ _ _ refl (refl, refl)
    expr_says (syntax.Chr line byte) = says_leaf _ _ _ refl (refl, refl)
    expr_says (syntax.Str line text) = says_leaf _ _ _ refl (refl, refl)
    expr_says (syntax.Paren line a) = says_one _ _ _ _ _ _ refl (expr_says a) (λ x t. expr_own vs (syntax.Paren line a) (Fine (passed x)) (ap Fine t))
    expr_says (syntax.One line op a) =
        says_one _ _ _ _ _ _ refl (expr_says a) (λ x t. expr_own vs (syntax.One line op a) (prefixed op x) (prefixed_types op x ∙ ap (of_one op) t))
    expr_says (syntax.Call line name args) = call_says (syntax.Call line name args) name args (bytes_eq name usage_word) refl refl (exprs_say args)
    expr_says (syntax.Index line a at) =
        says_two _ _ _ _ _ _ _ _ _ refl (expr_says a) (expr_says at)
        (λ x i t u. expr_own vs (syntax.Index line a at) (element x i) (type_of_test _ _ _ _ ∙ ap₂ element_type t u))
    expr_says (syntax.Deref line a) =
        says_one _ _ _ _ _ _ refl (expr_says a) (λ x t. expr_own vs (syntax.Deref line a) (pointed line x) (typed_types _ _ ∙ ap of_pointed t))
    expr_says (syntax.Address line name) =
        says_leaf _ _ _ refl (expr_own vs (syntax.Address line name) (address_meant name (variable_of vs name)) (address_types name (variable_of vs name)))
    expr_says (syntax.Before line step place) =
        says_one _ _ _ _ _ _ refl (place_says place)
        (λ to t. expr_own vs (syntax.Before line step place) (stepped line (front_step step) to) (type_of_test _ _ _ _ ∙ ap step_type t))
    expr_says (syntax.After line place step) =
        says_one _ _ _ _ _ _ refl (place_says place)
        (λ to t. expr_own vs (syntax.After line place step) (stepped line (back_step step) to) (type_of_test _ _ _ _ ∙ ap step_type t))
    expr_says (syntax.Set line place op value) =
        says_two _ _ _ _ _ _ _ _ _ refl (place_says place) (expr_says value)
        (λ to x t u. expr_own vs (syntax.Set line place op value) (set_to line op to x) (set_types line op to x ∙ ap₂ (set_type op) t u))
    expr_says (syntax.Two line op a b) =
        says_two _ _ _ _ _ _ _ _ _ refl (expr_says a) (expr_says b)
        (λ x y t u. expr_own vs (syntax.Two line op a b) (combined op x y) (combined_types op x y ∙ ap₂ (combined_type op) t u))
    expr_says (syntax.Choice line test a b) =
        says_three _ _ _ _ _ _ _ _ _ _ _ _ refl (expr_says test) (expr_says a) (expr_says b)
        (λ t x y d e f. expr_own vs (syntax.Choice line test a b) (chosen line t x y)
        (typed_types _ _ ∙ ap (λ z. of_choice z x.of_type y.of_type) d ∙ ap₂ (of_choice (expr_type vs test)) e f))
    expr_says (syntax.Cast line to a) =
        says_one _ _ _ _ _ _ refl (expr_says a)
        (λ x t. expr_own vs (syntax.Cast line to a) (cast (letter_in vs a) (cast_named to.name to.stars) x)
        (cast_types (letter_in vs a) (cast_named to.name to.stars) x ∙ ap (cast_type (letter_in vs a) (cast_named to.name to.stars)) t))
    -- not built yet
    expr_says _ = says_leaf _ _ _ refl refl

    exprs_say : (all : ExprTrees) → SaysAll (exprs_at vs all) (HaveTypes vs all) (exprs vs all)
    exprs_say syntax.NoExprs = says_none _ [] refl
    exprs_say (syntax.MoreExprs a rest) =
        says_more _ _ _ _ _ (λ x xs. x ∷ xs) _ _ (λ x xs t ts. ap₂ (λ y ys. y ∷ ys) t ts) (expr_says a) (exprs_say rest)

    place_says : (p : PlaceTree) → Says (APlace vs p) (PlaceHasType vs p) (place_in vs p)
    place_says (VarPlace line name) =
        says_leaf _ _ _ refl (place_own vs (VarPlace line name) (variable_place name (variable_of vs name)) (variable_types name (variable_of vs name)))
    place_says (StPlace line at) =
        says_one _ _ _ _ _ _ refl (expr_says at) (λ x t. place_own vs (StPlace line at) (item_place x) (type_of_place _ _ _ _ ∙ ap item_type t))
    place_says (TargetPlace line name) =
        says_leaf _ _ _ refl (place_own vs (TargetPlace line name) (target_place name (variable_of vs name)) (target_types name (variable_of vs name)))
    -- not built yet
    place_says _ = says_leaf _ _ _ refl refl

-- ---- declarations

-- a rule whose value is nothing to the law
rule_own : {A : Type 0} (n : Node) (line : ℕ) (j : Judged A) → own n ≡ refused line j → OwnSays n Anything (judged line j)
rule_own n line (Fine a) o = (o, tt)
rule_own n line (Wrong code word) o = o

-- the same where the law has the test alone
test_own : {A : Type 0} (n : Node) (line : ℕ) (b : Bool) (x : A) (code : ℕ) (word : List ℕ) → own n ≡ refused_unless line b code word
    → OwnSays n Anything (judged line (cond b (Fine x) (Wrong code word)))
test_own n line true x code word o = (o, tt)
test_own n line false x code word o = o

-- the same where the definition refuses by the opposite test
against_own : {A : Type 0} (n : Node) (line : ℕ) (b : Bool) (x : A) (code : ℕ) (word : List ℕ) → own n ≡ refused_unless line (not b) code word
    → OwnSays n Anything (judged line (cond b (Wrong code word) (Fine x)))
against_own n line true x code word o = o
against_own n line false x code word o = (o, tt)

stated_own : (n : Node) (line : ℕ) (f : ValueType → Stmt) (j : Judged ValueType) → own n ≡ refused line j → OwnSays n Anything (judged line (stated f j))
stated_own n line f (Fine t) o = (o, tt)
stated_own n line f (Wrong code word) o = o

declarator_says : (n : Node) (base : List ℕ) (scope : Scope) (d : DeclaratorTree) (value : Option ExprTree) → parts n ≡ value_at scope.variables value
    → own n ≡ refused d.line (declared scope d.name (type_named base d.stars) (option_map (expr_type scope.variables) value))
    → Says n Anything (declarator base scope d value)
declarator_says n base scope d None p o = says_leaf n Anything _ p (stated_own n d.line (unset d.line (length scope.slots)) _ o)
declarator_says n base scope d (Some value) p o =
    let named : Option ValueType = type_named base d.stars in
    says_one n _ _ Anything _ _ p (expr_says scope.variables value)
    (λ x e. stated_own n d.line (begun d.line (length scope.slots) x.tree) (declared scope d.name named (Some x.of_type))
    (o ∙ ap (λ a. refused d.line (declared scope d.name named (Some a))) (sym e)))

declarators_say : (base : List ℕ) (scope : Scope) (ds : List DeclaratorTree)
    → SaysAll (declarators_at scope base ds) Anything (declarators base scope ds)
declarators_say base scope [] = says_none _ [] tt
declarators_say base scope (d ∷ ds) =
    says_more _ _ Anything Anything _ (λ t ts. t ∷ ts) _ _ (λ t ts u v. tt) (declarator_says (ADeclarator scope base d) base scope d d.value refl refl)
    (declarators_say base (name_behind base scope d) ds)

-- ---- heads of `for` and groups of `switch`

-- a node of parts that has no rule of its own
says_list : {A : Type 0} (n : Node) (r : Checked A) → own n ≡ None → SaysAll (parts n) Anything r → Says n Anything r
says_list n (Good a) o h = says_node n Anything Anything (Good a) (λ b. Good b) h (λ b t. (o, tt))
says_list n (Bad f) o h = says_node n Anything Anything (Bad f) (λ b. Good b) h (λ b t. (o, tt))

abbrev HasOptionType : List Local → Option ExprTree → Option TypedExpr → Type 0
HasOptionType vs e o = option_map (λ x. x.of_type) o ≡ option_map (expr_type vs) e

option_says : (vs : List Local) (e : Option ExprTree) → Says (AnOption vs e) (HasOptionType vs e) (option_expr vs e)
option_says vs None = says_leaf _ _ _ refl (refl, refl)
option_says vs (Some e) = says_one _ _ _ _ _ _ refl (expr_says vs e) (λ x t. (refl, ap Some t))

first_says : (scope : Scope) (first : FirstTree) → Says (AFirst scope first) Anything (first_part scope first)
first_says scope statement.NoFirst = says_leaf _ _ _ refl (refl, tt)
first_says scope (statement.FirstDeclare d) = says_node _ Anything _ _ _ (declarators_say d.base scope d.names) (λ ts t. (refl, tt))
first_says scope (statement.FirstEffect e) = says_one _ _ _ _ _ _ refl (expr_says scope.variables e) (λ x t. (refl, tt))

labels_say : (vs : List Local) (all : List Label) → SaysAll (labels_at vs all) Anything (labels vs all)
labels_say vs [] = says_none _ [] tt
labels_say vs (l ∷ rest) =
    says_more (ALabel vs l) _ Anything Anything _ (λ n ns. n ∷ ns) _ _ (λ n ns u v. tt)
    (says_leaf _ _ _ refl (rule_own (ALabel vs l) (line_of_label l) (label_number vs l) refl)) (labels_say vs rest)

switched_own : (n : Node) (line : ℕ) (t : ValueType) (e : Expr) (gs : List TypedGroup) → own n ≡ refused_unless line (is_number t) TYPES_DIFFER []
    → OwnSays n Anything (judged line (switched line t e gs))
switched_own n line (type_of.Number kind) e gs o = (o, tt)
switched_own n line _ e gs o = o

-- ---- statements

-- a condition whose type has no truth
condition_own : (n : Node) (line : ℕ) (scope : Scope) (test : ExprTree) (x : TypedExpr) (s : Stmt) → own n ≡ no_condition line scope test
    → HasType scope.variables test x → OwnSays n Anything (judged line (conditional x s))
condition_own n line scope test x s o e =
    test_own n line (is_condition x.of_type) s TYPES_DIFFER [] (o ∙ ap (λ a. refused_unless line (is_condition a) TYPES_DIFFER []) (sym e))

end_says : (n : Node) (w : Where) (scope : Scope) (line : ℕ) (value : Option ExprTree) → parts n ≡ value_at scope.variables value
    → own n ≡ refused_unless line (may_return w.result (option_map (expr_type scope.variables) value)) TYPES_DIFFER []
    → Says n Anything (function_end w scope line value)
end_says n w scope line None p o = says_leaf n Anything _ p (test_own n line (may_return w.result None) (Return line) TYPES_DIFFER [] o)
end_says n w scope line (Some value) p o =
    says_one n _ _ Anything _ _ p (expr_says scope.variables value)
    (λ x e. test_own n line (may_return w.result (Some x.of_type)) (Give line x.tree) TYPES_DIFFER []
    (o ∙ ap (λ a. refused_unless line (may_return w.result (Some a)) TYPES_DIFFER []) (sym e)))

module _ (names : FileNames) where
  mutual
    unfolding stmt

    stmt_says : (w : Where) (scope : Scope) (s : StmtTree) → Says (AStmt names w scope s) Anything (stmt names w scope s)
    stmt_says w scope (statement.Block line body) = says_node _ Anything _ _ _ (stmts_say w scope body) (λ ts t. (refl, tt))
    stmt_says w scope (statement.Empty line) = says_leaf _ _ _ refl (refl, tt)
    stmt_says w scope (statement.Declare d) = says_node _ Anything _ _ _ (declarators_say d.base scope d.names) (λ ts t. (refl, tt))
    stmt_says w scope (statement.Effect line e) = says_one _ _ _ _ _ _ refl (expr_says scope.variables e) (λ x t. (refl, tt))
    stmt_says w scope (statement.If line test s) =
        says_two _ _ _ _ Anything _ _ _ _ refl (expr_says scope.variables test) (stmt_says w scope s)
        (λ x t e u. condition_own (AStmt names w scope (statement.If line test s)) line scope test x _ refl e)
    stmt_says w scope (statement.IfElse line test s other) =
        says_three _ _ _ _ _ Anything Anything _ _ _ _ _ refl (expr_says scope.variables test) (stmt_says w scope s)
        (stmt_says w (scope_behind scope s) other)
        (λ x t u e v z. condition_own (AStmt names w scope (statement.IfElse line test s other)) line scope test x _ refl e)
    stmt_says w scope (statement.While line test s) =
        says_two _ _ _ _ Anything _ _ _ _ refl (expr_says scope.variables test) (stmt_says (in_turn w) scope s)
        (λ x t e u. condition_own (AStmt names w scope (statement.While line test s)) line scope test x _ refl e)
    stmt_says w scope (statement.DoWhile line s test) =
        says_two _ _ _ Anything _ _ _ _ _ refl (stmt_says (in_turn w) scope s) (expr_says (scope_behind scope s).variables test)
        (λ t x u e. condition_own (AStmt names w scope (statement.DoWhile line s test)) line (scope_behind scope s) test x _ refl e)
    stmt_says w scope (statement.Break line) =
        says_leaf _ _ _ refl (test_own (AStmt names w scope (statement.Break line)) line (w.in_loop || w.in_switch) _ _ _ refl)
    stmt_says w scope (statement.Continue line) =
        says_leaf _ _ _ refl (test_own (AStmt names w scope (statement.Continue line)) line w.in_loop _ _ _ refl)
    stmt_says w scope (statement.Return line value) = end_says (AStmt names w scope (statement.Return line value)) w scope line value refl refl
    stmt_says w scope (statement.Perl line form) =
        says_leaf _ _ _ refl (rule_own (AStmt names w scope (statement.Perl line form)) line _ refl)
    stmt_says w scope (statement.For line head s) =
        let inner : Scope = first_behind scope head.first in
        says_four _ _ _ _ _ Anything _ _ Anything Anything _ _ _ _ _ refl (first_says scope head.first) (option_says inner.variables head.test)
        (option_says inner.variables head.step) (stmt_says (in_turn w) inner s)
        (λ f x y t a e b c. test_own (AStmt names w scope (statement.For line head s)) line (is_test (option_map (λ z. z.of_type) x)) _ _ _
        (ap (λ o. refused_unless line (is_test o) TYPES_DIFFER []) (sym e)))
    stmt_says w scope (statement.Switch line e all) =
        says_two _ _ _ _ Anything _ _ _ _ refl (expr_says scope.variables e)
        (says_list (TheGroups names (in_group w) scope all) (groups names (in_group w) scope all) refl (groups_say (in_group w) scope all))
        (λ x gs t u. switched_own (AStmt names w scope (statement.Switch line e all)) line x.of_type x.tree gs
        (ap (λ a. refused_unless line (is_number a) TYPES_DIFFER []) (sym t)))

    stmts_say : (w : Where) (scope : Scope) (all : StmtTrees) → SaysAll (stmts_at names w scope all) Anything (stmts names w scope all)
    stmts_say w scope statement.NoStmts = says_none _ [] tt
    stmts_say w scope (statement.MoreStmts s rest) =
        says_more _ _ Anything Anything _ (λ t ts. t ∷ ts) _ _ (λ t ts u v. tt) (stmt_says w scope s) (stmts_say w (scope_behind scope s) rest)

    groups_say : (w : Where) (scope : Scope) (all : GroupTrees) → SaysAll (groups_at names w scope all) Anything (groups names w scope all)
    groups_say w scope statement.NoGroups = says_none _ [] tt
    groups_say w scope (statement.MoreGroups line ls body rest) =
        says_more _ _ Anything Anything _ (λ g gs. g ∷ gs) _ _ (λ g gs u v. tt)
        (says_two (AGroup names w scope ls body) _ _ Anything Anything Anything _ _ _ refl
        (says_list (TheLabels scope.variables ls) (labels scope.variables ls) refl (labels_say scope.variables ls))
        (says_list (TheStmts names w scope body) (stmts names w scope body) refl (stmts_say w scope body)) (λ ns ts u v. (refl, tt)))
        (groups_say w (scopes_behind scope body) rest)

-- ---- files

module _ (names : FileNames) where
  function_says : (at : ℕ) (f : XsFunTree) → Says (AnItem names at (XsFunItem f)) Anything (function names at f)
  unfolding function
  function_says at f =
      says_node (AnItem names at (XsFunItem f)) Anything Anything _ _ (stmts_say names (where_in f.name) beginning (behind_entry (entry_of f.body) f.body))
      (λ ts t. against_own (AnItem names at (XsFunItem f)) f.line (is_earlier (index_of names.functions f.name) at) _ _ _ refl)

  item_says : (at : ℕ) (i : ItemTree) → Says (AnItem names at i) Anything (item names at i)
  item_says at (XsFunItem f) = function_says at f
  -- not built yet
  item_says at _ = says_leaf _ _ _ refl refl

  functions_say : (at : ℕ) (items : List ItemTree) → SaysAll (items_at names at items) Anything (functions names at items)
  functions_say at [] = says_none _ [] tt
  functions_say at (i ∷ items) =
      says_more _ _ Anything Anything _ (λ f fs. f ∷ fs) _ _ (λ f fs u v. tt) (item_says at i) (functions_say (at + 1) items)

defines_say : (ds : List Define) → SaysAll (defines_at ds) Anything (defines ds)
defines_say [] = says_none _ [] tt
defines_say (d ∷ ds) =
    says_more (ADefine d) (defines_at ds) Anything Anything Anything (λ u us. u ∷ us) (judged d.line unbuilt) (defines ds) (λ u us s t. tt)
    (says_leaf (ADefine d) Anything _ refl refl) (defines_say ds)

-- the definition of a file is right of it
pub file_says : (t : FileTree) → Says (AFile t) Anything (code_meant t)
unfolding code_meant
file_says t =
    says_two (AFile t) (TheDefines t.defines) (TheItems (names_of t.items) t.items) Anything Anything Anything _ _ _ refl
    (says_list (TheDefines t.defines) (defines t.defines) refl (defines_say t.defines))
    (says_list (TheItems (names_of t.items) t.items) (functions (names_of t.items) 0 t.items) refl (functions_say (names_of t.items) 0 t.items))
    (λ ds fs u v. (refl, tt))
