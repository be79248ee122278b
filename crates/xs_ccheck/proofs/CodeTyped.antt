-- The code of a file has the types that the rules of its forms give.
use Rattle.std.proofs.Common.{◌≡◌, ℕ, Bool, true, false, cond, List, [], ◌∷◌, map, length, codes, Option, None, Some, Ok, slice_get, refl, subst, arith}
use Rattle.std.specs.Prelude.{◌&&◌, ◌||◌, nat_eq, not, unwrap_or}
use Rattle.std.specs.Option.{option_map, is_some}
use Rattle.std.proofs.lemmas.Option.{same_Some}
use Rattle.std.specs.Str.{bytes_eq}
use Rattle.std.proofs.lemmas.Bool.{and_parts}
use Rattle.std.proofs.lemmas.Bool.Decides.{nat_tests}
use Rattle.xs_base.specs.declared.fault_codes.TheConstants.{DECLARED_TWICE, TYPES_DIFFER, WORD_NOT_ALLOWED, WRONG_NUMBER_OF_ARGUMENTS}
use Rattle.xs_values.specs.declared.kind.Kind.TheVariants.{I8, I32}
use Rattle.xs_values.specs.declared.operator.Op.{Op}
use Rattle.xs_values.specs.declared.unary_operator.UnOp.{UnOp}
use Rattle.xs_values.specs.declared.unary_operator.UnOp.TheVariants as unary
use Rattle.xs_cinput.specs.declared.tree.BinaryOp.{BinaryOp}
use Rattle.xs_cinput.specs.declared.tree.BinaryOp.TheVariants as c
use Rattle.xs_cexpr.specs.ExpressionTree as syntax
use Rattle.xs_cexpr.specs.ExpressionTree.{ExprTree, ExprTrees, PlaceTree, VarPlace, TargetPlace, StPlace}
use Rattle.xs_cstmt.specs.StatementTree as statement
use Rattle.xs_cstmt.specs.StatementTree.{DeclaratorTree, FirstTree, StmtTree, StmtTrees, GroupTrees}
use Rattle.xs_cstmt.specs.declared.tree.PerlForm.{PerlForm}
use Rattle.xs_cstmt.specs.declared.tree.PerlForm.TheVariants as form
use Rattle.xs_cstmt.specs.declared.tree.PerlWord.{PerlWord}
use Rattle.xs_cstmt.specs.declared.tree.PerlWord.TheVariants as word
use Rattle.xs_csyn.specs.FileTree.{XsFunTree, FileTree}
use Rattle.xs_perlapi.specs.declared.row.ApiType.{ApiType}
use Rattle.xs_perlapi.specs.declared.row.Written.TheVariants as written
use Rattle.xs_perlapi.specs.Table.{RowCall, row_named, word_written}
use Rattle.xs_ctree.specs.declared.node.StepOp.{StepOp}
use Rattle.xs_ctree.specs.declared.value_type.Slot.{Slot}
use Rattle.xs_ctree.specs.declared.value_type.ValueType.{ValueType}
use Rattle.xs_ctree.specs.declared.value_type.ValueType.TheVariants as type_of
use Rattle.xs_ctree.specs.TypedTree as tree
use Rattle.xs_ctree.specs.TypedTree.{Code, Expr, Function, Stmt, exprs_of, nothing, stmts_of}
use Rattle.xs_ccheck.specs.declared.enclosing.Where.{Where}
use Rattle.xs_ctypes.specs.Checked.{Checked, Good, Fine, Judged, Wrong}
use Rattle.xs_ccheck.specs.CodeTypes as typing
use Rattle.xs_ccheck.specs.CodeTypes.{HasType, AreOperands, IsTarget, IsTest, IsEach, IsTyped, AreTyped, AreGroups, result_of}
use Rattle.xs_ccheck.specs.ExprTyping.{TypedExpr, TypedTarget, address_meant, all_fit, as_typed, back_step, calculated, called, cast, char_slot, combined, compared, converted, element, expr, exprs, front_step, is_cv, is_equal, is_text_type, letter_in, name_meant, option_expr, other_address, place_in, pointed, prefixed, row_called, set_to, stepped, target_of, target_place, text_in, truth, typed, usage, usage_of, usage_word, variable_place}
use Rattle.xs_ccheck.specs.FileTyping.{entry_of, sort_of, typed_of, where_in, with_entry}
use Rattle.xs_ctypes.specs.FileNames.{FileNames, index_of, is_boot_name}
use Rattle.xs_ctypes.specs.Scopes.{Local, Scope, beginning, declared_in, declarators_behind, first_behind, groups_behind, is_in_use, name_behind, new_variable, next_slot, scope_behind, scopes_behind, variable_of, with_variable}
use Rattle.xs_ccheck.specs.StmtTyping.{TypedGroup, begun, conditional, declaration, declarator, declarators, declared, first_part, for_loop, function_end, groups, groups_of, in_group, in_order, in_turn, is_given, is_test, labels, may_return, perl, perl_word, quits, registered, stated, stmt, stmts, switched, test_of, unset}
use Rattle.xs_ctypes.specs.TypeNames.{cast_named, type_named}
use Rattle.xs_ctypes.specs.ValueTypes.{are_conditions, are_numbers, casts, compares, goes_into, is_address, is_char, is_condition, is_element, is_equality, is_number, is_operand, of_address, of_choice, of_numbers, of_pointed, of_promoted}
use Rattle.xs_ccheck.proofs.GoodFunctions.{OfItem, each_function, function_of, statements_of}
use Rattle.xs_ctypes.proofs.ScopesGrow.{Grown, Held, first_grown, groups_grown, name_grown, names_grown, scope_grown, scopes_grown, slot_last}
use Rattle.xs_ccheck.proofs.WhereGood.{WhereFine, WhereGood, anything, behind_good, both_good, either_fine, fine_by, fine_unless, judged_good, three_good, two_wrongs}

module _ (slots : List Slot) where
  abbrev IsExpr : TypedExpr → Type 0
  IsExpr x = HasType slots x.tree x.of_type

  abbrev AreExprs : List TypedExpr → Type 0
  AreExprs [] = Unit {0}
  AreExprs (x ∷ xs) = HasType slots x.tree x.of_type × AreExprs xs

  abbrev IsPlace : TypedTarget → Type 0
  IsPlace p = IsTarget slots p.target p.of_type

  -- ---- the rules

  other_typed : (b : Bool) (code : ℕ) (word : List ℕ) → WhereFine IsExpr (cond b (Fine (as_typed tree.ItemCount (type_of.Number I32))) (Wrong code word))
  other_typed true code word = typing.item_count
  other_typed false code word = tt

  name_typed : (name : List ℕ) (o : Option Slot) → ((z : Slot) → o ≡ Some z → slice_get slots z.number ≡ Some z) → WhereFine IsExpr (name_meant name o)
  name_typed name None h = other_typed (bytes_eq name (codes "items")) _ _
  name_typed name (Some z) h = typing.variable (h z refl)

  variable_typed : (name : List ℕ) (o : Option Slot) → ((z : Slot) → o ≡ Some z → slice_get slots z.number ≡ Some z)
      → WhereFine IsPlace (variable_place name o)
  variable_typed name None h = two_wrongs IsPlace (bytes_eq name (codes "items")) _ _ _ _
  variable_typed name (Some z) h = fine_by IsPlace (not (is_address z.of_type)) (Fine _) _ _ (typing.to_variable (h z refl))

  target_of_typed : (z : Slot) (t : ValueType) → z.of_type ≡ t → slice_get slots z.number ≡ Some z → WhereFine IsPlace (target_of z.number t)
  target_of_typed z (type_of.Address kind) e h = typing.to_pointed h e
  target_of_typed z type_of.Text e h = tt
  target_of_typed z type_of.Place e h = tt
  target_of_typed z _ e h = tt

  target_typed : (name : List ℕ) (o : Option Slot) → ((z : Slot) → o ≡ Some z → slice_get slots z.number ≡ Some z) → WhereFine IsPlace (target_place name o)
  target_typed name None h = two_wrongs IsPlace (bytes_eq name (codes "items")) _ _ _ _
  target_typed name (Some z) h = target_of_typed z z.of_type refl (h z refl)

  address_by : (z : Slot) (j : Judged ValueType) → of_address z.of_type ≡ j → slice_get slots z.number ≡ Some z
      → WhereFine IsExpr (typed (λ u. tree.Address z.number) j)
  address_by z (Fine t) e h = typing.address h e
  address_by z (Wrong code word) e h = tt

  other_address_typed : (name : List ℕ) → WhereFine IsExpr (other_address name)
  other_address_typed name =
      fine_unless IsExpr (is_some (word_written written.Address name)) _ _ _ (two_wrongs IsExpr (bytes_eq name (codes "items")) _ _ _ _)

  address_typed : (name : List ℕ) (o : Option Slot) → ((z : Slot) → o ≡ Some z → slice_get slots z.number ≡ Some z) → WhereFine IsExpr (address_meant name o)
  address_typed name None h = other_address_typed name
  address_typed name (Some z) h = address_by z (of_address z.of_type) refl (h z refl)

  pointed_typed : (line : ℕ) (x : TypedExpr) (j : Judged ValueType) → of_pointed x.of_type ≡ j → IsExpr x
      → WhereFine IsExpr (typed (λ u. tree.Pointed line u x.tree) j)
  pointed_typed line x (Fine t) e h = typing.pointed h e
  pointed_typed line x (Wrong code word) e h = tt

  element_typed : (x i : TypedExpr) (b : Bool) → is_element x.of_type i.of_type ≡ b → IsExpr x → IsExpr i
      → WhereFine IsExpr (cond b (Fine (as_typed (tree.ByteAt x.tree i.tree) (type_of.Number I8))) (Wrong TYPES_DIFFER []))
  element_typed x i true e h g = typing.element h g e
  element_typed x i false e h g = tt

  step_typed : (line : ℕ) (op : StepOp) (to : TypedTarget) (b : Bool) → is_number to.of_type ≡ b → IsPlace to
      → WhereFine IsExpr (cond b (Fine (as_typed (tree.StepOf line op to.target) to.of_type)) (Wrong TYPES_DIFFER []))
  step_typed line op to true e h = typing.step h e
  step_typed line op to false e h = tt

  two_typed : (op : Op) (a b : Expr) (s t : ValueType) → HasType slots a s → HasType slots b t
      → WhereFine IsExpr (typed (λ u. tree.Binary op a b) (of_numbers op s t))
  two_typed op a b (type_of.Number j) (type_of.Number k) h g = typing.operator h g
  two_typed op a b _ _ h g = tt

  promoted_typed : (op : UnOp) (e : Expr) (t : ValueType) → HasType slots e t → WhereFine IsExpr (typed (λ u. tree.Unary op e) (of_promoted op t))
  promoted_typed op e (type_of.Number k) h = typing.promotion h
  promoted_typed op e _ h = tt

  truth_typed : (e : Expr) (b : Bool) → (b ≡ true → HasType slots e (type_of.Number I32)) → WhereFine IsExpr (truth b e)
  truth_typed e true h = h refl
  truth_typed e false h = tt

  prefixed_typed : (op : UnOp) (x : TypedExpr) → IsExpr x → WhereFine IsExpr (prefixed op x)
  prefixed_typed unary.Not x h = truth_typed (tree.Not x.tree) (is_condition x.of_type) (λ e. typing.negation h e)
  prefixed_typed unary.Plus x h = promoted_typed unary.Plus x.tree x.of_type h
  prefixed_typed unary.Minus x h = promoted_typed unary.Minus x.tree x.of_type h
  prefixed_typed unary.Complement x h = promoted_typed unary.Complement x.tree x.of_type h

  combined_typed : (op : BinaryOp) (x y : TypedExpr) → IsExpr x → IsExpr y → WhereFine IsExpr (combined op x y)
  combined_typed (c.On op) x y h g =
      either_fine IsExpr (are_numbers x.of_type y.of_type) (calculated op x y) (compared op x y) (two_typed op x.tree y.tree x.of_type y.of_type h g)
      (truth_typed (tree.Same (is_equal op) x.tree y.tree) (compares x.of_type y.of_type && is_equality op)
      (λ e. typing.comparison h g (and_parts (compares x.of_type y.of_type) (is_equality op) e).0))
  combined_typed c.Or x y h g = truth_typed (tree.Or x.tree y.tree) (are_conditions x.of_type y.of_type) (λ e. typing.disjunction h g e)
  combined_typed c.And x y h g = truth_typed (tree.And x.tree y.tree) (are_conditions x.of_type y.of_type) (λ e. typing.conjunction h g e)

  chosen_typed : (line : ℕ) (t x y : TypedExpr) (j : Judged ValueType) → of_choice t.of_type x.of_type y.of_type ≡ j → IsExpr t → IsExpr x → IsExpr y
      → WhereFine IsExpr (typed (λ u. tree.Choice line u t.tree x.tree y.tree) j)
  chosen_typed line t x y (Fine u) e h g i = typing.chosen h g i e
  chosen_typed line t x y (Wrong code word) e h g i = tt

  cast_by : (x : TypedExpr) (t : ValueType) (b : Bool) → casts x.of_type t ≡ b → IsExpr x
      → WhereFine IsExpr (typed (λ u. tree.Cast u x.tree) (cond b (Fine t) (Wrong TYPES_DIFFER [])))
  cast_by x t true e h = typing.cast h e
  cast_by x t false e h = tt

  converted_typed : (to : Option ValueType) (x : TypedExpr) → IsExpr x → WhereFine IsExpr (converted to x)
  converted_typed None x h = tt
  converted_typed (Some t) x h = cast_by x t (casts x.of_type t) refl h

  cast_typed : (letter : Option ℕ) (to : Option ValueType) (x : TypedExpr) → IsExpr x
      → ((slot : ℕ) → letter ≡ Some slot → HasType slots (tree.Letter slot) type_of.Text) → WhereFine IsExpr (cast letter to x)
  cast_typed None to x h is = converted_typed to x h
  cast_typed (Some slot) to x h is = either_fine IsExpr (is_text_type to) (Fine _) (converted to x) (is slot refl) (converted_typed to x h)

  char_typed : (o : Option Slot) (slot : ℕ) → ((z : Slot) → o ≡ Some z → slice_get slots z.number ≡ Some z) → char_slot o ≡ Some slot
      → HasType slots (tree.Letter slot) type_of.Text
  char_typed None slot h e = absurd cc
  char_typed (Some z) slot h e = by (is_char z.of_type) refl e
    where
      by : (b : Bool) → is_char z.of_type ≡ b → cond b (Some z.number) None ≡ Some slot → HasType slots (tree.Letter slot) type_of.Text
      by true is g = subst (λ n. HasType slots (tree.Letter n) type_of.Text) (same_Some z.number slot g) (typing.letter (h z refl) is)
      by false is g = absurd cc

  assigned_typed : (line : ℕ) (to : TypedTarget) (x : TypedExpr) (b : Bool) → goes_into x.of_type to.of_type ≡ b → IsPlace to → IsExpr x
      → WhereFine IsExpr (cond b (Fine (as_typed (tree.Assign line to.target x.tree) to.of_type)) (Wrong TYPES_DIFFER []))
  assigned_typed line to x true e h g = typing.assignment h g e
  assigned_typed line to x false e h g = tt

  compounded_typed : (line : ℕ) (op : Op) (to : TypedTarget) (x : TypedExpr) (b : Bool) → are_numbers to.of_type x.of_type ≡ b → IsPlace to → IsExpr x
      → WhereFine IsExpr (cond b (Fine (as_typed (tree.Compound line to.target op x.tree) to.of_type)) (Wrong TYPES_DIFFER []))
  compounded_typed line op to x true e h g = typing.compound h g e
  compounded_typed line op to x false e h g = tt

  set_typed : (line : ℕ) (op : Option Op) (to : TypedTarget) (x : TypedExpr) → IsPlace to → IsExpr x → WhereFine IsExpr (set_to line op to x)
  set_typed line None to x h g = assigned_typed line to x (goes_into x.of_type to.of_type) refl h g
  set_typed line (Some op) to x h g = compounded_typed line op to x (are_numbers to.of_type x.of_type) refl h g

  item_typed : (x : TypedExpr) (b : Bool) → is_number x.of_type ≡ b → IsExpr x
      → WhereFine IsPlace (cond b (Fine (record { target = tree.ToItem x.tree; of_type = type_of.Scalar })) (Wrong TYPES_DIFFER []))
  item_typed x true e h = typing.to_item h e
  item_typed x false e h = tt

  operands : (wanted : List ApiType) (xs : List TypedExpr) → length xs ≡ length wanted → all_fit wanted xs ≡ true → AreExprs xs
      → AreOperands slots wanted (exprs_of (map (λ x. x.tree) xs))
  operands [] [] e fits h = typing.no_operand
  operands [] (x ∷ xs) e fits h = absurd (omega arith)
  operands (w ∷ ws) [] e fits h = absurd (omega arith)
  operands (w ∷ ws) (x ∷ xs) e fits h =
      let both_fit : (is_operand w x.of_type ≡ true) × (all_fit ws xs ≡ true) = and_parts (is_operand w x.of_type) (all_fit ws xs) fits in
      typing.one_operand h.0 both_fit.0 (operands ws xs (omega arith) both_fit.1 h.1)

  row_typed : (line : ℕ) (name : List ℕ) (r : RowCall) (xs : List TypedExpr) → row_named name ≡ Some r → AreExprs xs → (b d : Bool)
      → nat_eq (length xs) (length r.operands) ≡ b → all_fit r.operands xs ≡ d
      → WhereFine IsExpr (cond b (cond d (Fine (row_called line r xs)) (Wrong TYPES_DIFFER [])) (Wrong WRONG_NUMBER_OF_ARGUMENTS name))
  row_typed line name r xs is h true true e fits =
      let same : length xs ≡ length r.operands = grind (arith, nat_tests) in
      typing.row name is (operands r.operands xs same fits h)
  row_typed line name r xs is h true false e fits = tt
  row_typed line name r xs is h false d e fits = tt

  called_typed : (line : ℕ) (name : List ℕ) (o : Option RowCall) (xs : List TypedExpr) → row_named name ≡ o → AreExprs xs
      → WhereFine IsExpr (called line name o xs)
  called_typed line name None xs is h = tt
  called_typed line name (Some r) xs is h = row_typed line name r xs is h (nat_eq (length xs) (length r.operands)) (all_fit r.operands xs) refl refl

  usage_of_typed : (line : ℕ) (cv : Bool) (text : Option (List ℕ)) → WhereFine IsExpr (usage_of line cv text)
  usage_of_typed line true (Some text) = typing.usage
  usage_of_typed line true None = tt
  usage_of_typed line false text = tt

  usage_typed : (line : ℕ) (args : ExprTrees) → WhereFine IsExpr (usage line args)
  usage_typed line syntax.NoExprs = tt
  usage_typed line (syntax.MoreExprs a syntax.NoExprs) = tt
  usage_typed line (syntax.MoreExprs a (syntax.MoreExprs b syntax.NoExprs)) = usage_of_typed line (is_cv a) (text_in b)
  usage_typed line (syntax.MoreExprs a (syntax.MoreExprs b (syntax.MoreExprs d rest))) = tt

  by_word : (b : Bool) (r s : Checked TypedExpr) → WhereGood IsExpr r → WhereGood IsExpr s → WhereGood IsExpr (cond b r s)
  by_word true r s h g = h
  by_word false r s h g = g

  -- ---- expressions

  module _ (vs : List Local) (held : Held slots vs) where
    letter_typed : (a : ExprTree) (slot : ℕ) → letter_in vs a ≡ Some slot → HasType slots (tree.Letter slot) type_of.Text
    letter_typed (syntax.Address line name) slot e = char_typed (variable_of vs name) slot (held name) e
    letter_typed _ slot e = absurd cc

    mutual
      unfolding expr

      expr_typed : (e : ExprTree) → WhereGood IsExpr (expr vs e)
      expr_typed (syntax.Var line name) = judged_good IsExpr line _ (name_typed name (variable_of vs name) (held name))
      expr_typed (syntax.Num line value) = record { good = typing.number }
      expr_typed (syntax.Chr line byte) = record { good = typing.number }
      expr_typed (syntax.Str line text) = record { good = typing.letters }
      expr_typed (syntax.Paren line a) = behind_good IsExpr IsExpr (expr vs a) _ (expr_typed a) (λ x h. record { good = typing.parentheses h })
      expr_typed (syntax.One line op a) = behind_good IsExpr IsExpr (expr vs a) _ (expr_typed a) (λ x h. judged_good IsExpr line _ (prefixed_typed op x h))
      expr_typed (syntax.Call line name args) =
          by_word (bytes_eq name usage_word) _ _ (judged_good IsExpr line _ (usage_typed line args))
          (behind_good AreExprs IsExpr (exprs vs args) _ (exprs_typed args)
          (λ xs h. judged_good IsExpr line _ (called_typed line name (row_named name) xs refl h)))
      expr_typed (syntax.Index line a at) =
          both_good IsExpr IsExpr IsExpr (expr vs a) (expr vs at) _ (expr_typed a) (expr_typed at)
          (λ x i h g. judged_good IsExpr line _ (element_typed x i (is_element x.of_type i.of_type) refl h g))
      expr_typed (syntax.Deref line a) =
          behind_good IsExpr IsExpr (expr vs a) _ (expr_typed a) (λ x h. judged_good IsExpr line _ (pointed_typed line x (of_pointed x.of_type) refl h))
      expr_typed (syntax.Address line name) = judged_good IsExpr line _ (address_typed name (variable_of vs name) (held name))
      expr_typed (syntax.Before line step place) =
          behind_good IsPlace IsExpr (place_in vs place) _ (place_typed place)
          (λ to h. judged_good IsExpr line _ (step_typed line (front_step step) to (is_number to.of_type) refl h))
      expr_typed (syntax.After line place step) =
          behind_good IsPlace IsExpr (place_in vs place) _ (place_typed place)
          (λ to h. judged_good IsExpr line _ (step_typed line (back_step step) to (is_number to.of_type) refl h))
      expr_typed (syntax.Set line place op value) =
          both_good IsPlace IsExpr IsExpr (place_in vs place) (expr vs value) _ (place_typed place) (expr_typed value)
          (λ to x h g. judged_good IsExpr line _ (set_typed line op to x h g))
      expr_typed (syntax.Two line op a b) =
          both_good IsExpr IsExpr IsExpr (expr vs a) (expr vs b) _ (expr_typed a) (expr_typed b)
          (λ x y h g. judged_good IsExpr line _ (combined_typed op x y h g))
      expr_typed (syntax.Choice line test a b) =
          three_good IsExpr IsExpr IsExpr IsExpr (expr vs test) (expr vs a) (expr vs b) _ (expr_typed test) (expr_typed a) (expr_typed b)
          (λ t x y h g i. judged_good IsExpr line _ (chosen_typed line t x y (of_choice t.of_type x.of_type y.of_type) refl h g i))
      expr_typed (syntax.Cast line to a) =
          behind_good IsExpr IsExpr (expr vs a) _ (expr_typed a)
          (λ x h. judged_good IsExpr line _ (cast_typed (letter_in vs a) (cast_named to.name to.stars) x h (letter_typed a)))
      -- not built yet
      expr_typed _ = record { good = tt }

      exprs_typed : (all : ExprTrees) → WhereGood AreExprs (exprs vs all)
      exprs_typed syntax.NoExprs = record { good = tt }
      exprs_typed (syntax.MoreExprs a rest) =
          both_good IsExpr AreExprs AreExprs (expr vs a) (exprs vs rest) _ (expr_typed a) (exprs_typed rest) (λ x xs h g. record { good = (h, g) })

      place_typed : (p : PlaceTree) → WhereGood IsPlace (place_in vs p)
      place_typed (VarPlace line name) = judged_good IsPlace line _ (variable_typed name (variable_of vs name) (held name))
      place_typed (TargetPlace line name) = judged_good IsPlace line _ (target_typed name (variable_of vs name) (held name))
      place_typed (StPlace line at) =
          behind_good IsExpr IsPlace (expr vs at) _ (expr_typed at) (λ x h. judged_good IsPlace line _ (item_typed x (is_number x.of_type) refl h))
      -- not built yet
      place_typed _ = record { good = tt }

  -- ---- statements

  -- the slots so far are those of the function
  abbrev Within : Scope → Type 0
  Within s = (i : ℕ) (z : Slot) → slice_get s.slots i ≡ Some z → slice_get slots i ≡ Some z

  abbrev IsOption : Option TypedExpr → Type 0
  IsOption None = Unit {0}
  IsOption (Some x) = IsExpr x

  option_typed : (vs : List Local) → Held slots vs → (e : Option ExprTree) → WhereGood IsOption (option_expr vs e)
  option_typed vs held None = record { good = tt }
  option_typed vs held (Some e) = behind_good IsExpr IsOption (expr vs e) _ (expr_typed vs held e) (λ x h. record { good = h })

  held_within : (s : Scope) → Held s.slots s.variables → Within s → Held slots s.variables
  held_within s held w name z e = w z.number z (held name z e)

  before : (s t : Scope) → Grown s t → Within t → Within s
  before s t g w i z e = w i z (g.kept i z e)

  -- the statements of a function that gives a result of a type
  module _ (result : ValueType) where
    abbrev IsStmt : Stmt → Type 0
    IsStmt t = IsTyped slots result t

    abbrev AllTyped : List Stmt → Type 0
    AllTyped ts = AreTyped slots result (stmts_of ts)

    -- what is declared with a type
    declared_typed : (s : Scope) (line : ℕ) (name : List ℕ) (o given : Option ValueType) (made : ValueType → Stmt)
        → ((v : ValueType) → is_given given v ≡ true → slice_get slots (length s.slots) ≡ Some (next_slot s line v) → IsStmt (made v))
        → Within (with_variable s line name (unwrap_or o type_of.Faulty)) → WhereFine IsStmt (stated made (declared s name o given))
    declared_typed s line name None given made h w = tt
    declared_typed s line name (Some v) given made h w = by_given (is_given given v) refl
      where
        by : (b : Bool) → is_given given v ≡ true → Within (cond b s (new_variable s name (next_slot s line v)))
            → WhereFine IsStmt (stated made (cond b (Wrong DECLARED_TWICE name) (Fine v)))
        by true e w = tt
        by false e w = h v e (w (length s.slots) (next_slot s line v) (slot_last s.slots (next_slot s line v)))

        by_given : (g : Bool) → is_given given v ≡ g
            → WhereFine IsStmt (stated made (cond g (cond (is_in_use s.variables name) (Wrong DECLARED_TWICE name) (Fine v)) (Wrong TYPES_DIFFER [])))
        by_given true e = by (is_in_use s.variables name) e w
        by_given false e = tt

    one_typed : (base : List ℕ) (s : Scope) → Held slots s.variables → (d : DeclaratorTree) (value : Option ExprTree) → Within (name_behind base s d)
        → WhereGood IsStmt (declarator base s d value)
    one_typed base s held d None w =
        judged_good IsStmt d.line _
        (declared_typed s d.line d.name (type_named base d.stars) None (unset d.line (length s.slots)) (λ v e g. typing.declaration g) w)
    one_typed base s held d (Some value) w =
        behind_good IsExpr IsStmt (expr s.variables value) _ (expr_typed s.variables held value)
        (λ x h. judged_good IsStmt d.line _
        (declared_typed s d.line d.name (type_named base d.stars) (Some x.of_type) (begun d.line (length s.slots) x.tree)
        (λ v e g. typing.block (typing.one_more (typing.declaration g)
        (typing.one_more (typing.effect (typing.assignment (typing.to_variable g) h e)) typing.no_more))) w))

    declarators_typed : (base : List ℕ) (s : Scope) → Held s.slots s.variables → (ds : List DeclaratorTree) → Within (declarators_behind base s ds)
        → WhereGood AllTyped (declarators base s ds)
    declarators_typed base s held [] w = record { good = typing.no_more }
    declarators_typed base s held (d ∷ ds) w =
        let mid : Scope = name_behind base s d in
        let inner : Within mid = before mid (declarators_behind base mid ds) (names_grown base mid ds) w in
        both_good IsStmt AllTyped AllTyped (declarator base s d d.value) (declarators base mid ds) _
        (one_typed base s (held_within s held (before s mid (name_grown base s d) inner)) d d.value inner)
        (declarators_typed base mid ((name_grown base s d).held held) ds w) (λ x xs h g. record { good = typing.one_more h g })

    in_order_typed : (ts : List Stmt) → AllTyped ts → IsStmt (in_order ts)
    in_order_typed [] h = typing.block typing.no_more
    in_order_typed (t ∷ []) (typing.one_more h g) = h
    in_order_typed (t ∷ u ∷ ts) h = typing.block h

    declaration_typed : (base : List ℕ) (s : Scope) → Held s.slots s.variables → (ds : List DeclaratorTree) → Within (declarators_behind base s ds)
        → WhereGood IsStmt (declaration base s ds)
    declaration_typed base s held ds w =
        behind_good AllTyped IsStmt (declarators base s ds) _ (declarators_typed base s held ds w) (λ ts h. record { good = in_order_typed ts h })

    -- ---- heads of `for`

    first_typed : (s : Scope) → Held s.slots s.variables → (first : FirstTree) → Within (first_behind s first) → WhereGood IsStmt (first_part s first)
    first_typed s held statement.NoFirst w = record { good = typing.block typing.no_more }
    first_typed s held (statement.FirstDeclare d) w = declaration_typed d.base s held d.names w
    first_typed s held (statement.FirstEffect e) w =
        behind_good IsExpr IsStmt (expr s.variables e) _ (expr_typed s.variables (held_within s held w) e) (λ x h. record { good = typing.effect h })

    test_is : (x : Option TypedExpr) → IsOption x → is_test (option_map (λ z. z.of_type) x) ≡ true → IsTest slots (test_of x)
    test_is None h e = typing.no_test
    test_is (Some x) h e = typing.test h e

    each_is : (x : Option TypedExpr) → IsOption x → IsEach slots (option_map (λ z. z.tree) x)
    each_is None h = typing.no_each
    each_is (Some x) h = typing.each h

    for_typed : (line : ℕ) (own : List Slot) (t : Stmt) (x y : Option TypedExpr) (b : Stmt) → IsStmt t → IsOption x → IsOption y → IsStmt b
        → WhereFine IsStmt (for_loop line own t x y b)
    for_typed line own t x y b h g i j = by (is_test (option_map (λ z. z.of_type) x)) refl
      where
        made : Stmt
        made = tree.Block own (stmts_of (t ∷ tree.Loop line true (test_of x) (option_map (λ z. z.tree) y) b ∷ []))

        by : (d : Bool) → is_test (option_map (λ z. z.of_type) x) ≡ d → WhereFine IsStmt (cond d (Fine made) (Wrong TYPES_DIFFER []))
        by true e = typing.block (typing.one_more h (typing.one_more (typing.loop (test_is x g e) (each_is y i) j) typing.no_more))
        by false e = tt

    -- ---- groups of `switch`

    abbrev AllGroups : List TypedGroup → Type 0
    AllGroups gs = AreGroups slots result (groups_of gs)

    switched_typed : (line : ℕ) (t : ValueType) (e : Expr) (gs : List TypedGroup) → HasType slots e t → AllGroups gs
        → WhereFine IsStmt (switched line t e gs)
    switched_typed line (type_of.Number kind) e gs h g = typing.switch h g
    switched_typed line _ e gs h g = tt

    -- ---- other forms

    effect_typed : (line : ℕ) (x : TypedExpr) (b : Bool) → IsExpr x → IsStmt (cond b (tree.Quit line x.tree) (tree.Effect x.tree))
    effect_typed line x true h = typing.quit h
    effect_typed line x false h = typing.effect h

    -- a statement with a condition
    condition_typed : (x : TypedExpr) (t : Stmt) → (is_condition x.of_type ≡ true → IsStmt t)
        → WhereFine IsStmt (conditional x t)
    condition_typed x t h = by (is_condition x.of_type) refl
      where
        by : (b : Bool) → is_condition x.of_type ≡ b → WhereFine IsStmt (cond b (Fine t) (Wrong TYPES_DIFFER []))
        by true e = h e
        by false e = tt

    end_by : (o : Option ValueType) (s : Stmt) (b : Bool) → may_return result o ≡ b → (may_return result o ≡ true → IsStmt s)
        → WhereFine IsStmt (cond b (Fine s) (Wrong TYPES_DIFFER []))
    end_by o s true e h = h e
    end_by o s false e h = tt

    word_typed : (line : ℕ) (w : PerlWord) → WhereFine IsStmt (perl_word line w)
    word_typed line word.XsReturnYes = typing.return_yes
    word_typed line _ = tt

    registered_typed : (w : Where) (full name : List ℕ) (keeps : Bool) (o : Option ℕ) → WhereFine IsStmt (registered w full name keeps o)
    registered_typed w full name keeps None = tt
    registered_typed w full name keeps (Some i) = fine_by IsStmt w.in_boot (Fine _) _ _ typing.register

    perl_typed : (names : FileNames) (w : Where) (vs : List Local) (line : ℕ) (p : PerlForm) → WhereFine IsStmt (perl names w vs line p)
    perl_typed names w vs line (form.Word v) = word_typed line v
    perl_typed names w vs line (form.NewXs keeps full name) = registered_typed w full name keeps (index_of names.functions name)
    perl_typed names w vs line (form.SetIndex literal) = fine_by IsStmt w.in_boot (Fine _) _ _ typing.set_index
    perl_typed names w vs line (form.Unused name) = fine_by IsStmt _ (Fine nothing) _ name (typing.block typing.no_more)
    perl_typed names w vs line _ = tt

    with_entry_typed : (entry : Option ℕ) (ts : List Stmt) → AllTyped ts → AllTyped (with_entry entry ts)
    with_entry_typed None ts h = h
    with_entry_typed (Some line) ts h = typing.one_more typing.entry h

  end_typed : (w : Where) (s : Scope) → Held slots s.variables → (line : ℕ) (value : Option ExprTree)
      → WhereGood (IsTyped slots w.result) (function_end w s line value)
  end_typed w s held line None =
      judged_good (IsTyped slots w.result) line _ (end_by w.result None (tree.Return line) (may_return w.result None) refl (λ e. typing.function_end e))
  end_typed w s held line (Some value) =
      behind_good IsExpr (IsTyped slots w.result) (expr s.variables value) _ (expr_typed s.variables held value)
      (λ x h. judged_good (IsTyped slots w.result) line _
      (end_by w.result (Some x.of_type) (tree.Give line x.tree) (may_return w.result (Some x.of_type)) refl (λ e. typing.gives h e)))

  -- the test of a statement, in the scope before its body
  test_typed : (s : Scope) → Held s.slots s.variables → (t : StmtTree) (e : ExprTree) → Within (scope_behind s t) → WhereGood IsExpr (expr s.variables e)
  test_typed s held t e v = expr_typed s.variables (held_within s held (before s (scope_behind s t) (scope_grown s t) v)) e

  abbrev IsTurns : ValueType → Option TypedExpr × Stmt → Type 0
  IsTurns result p = IsOption p.0 × IsStmt result p.1

  abbrev IsRest : ValueType → Option TypedExpr × (Option TypedExpr × Stmt) → Type 0
  IsRest result p = IsOption p.0 × IsTurns result p.1

  module _ (names : FileNames) where
    mutual
      unfolding stmt scope_behind

      stmt_typed : (w : Where) (s : Scope) → Held s.slots s.variables → (t : StmtTree) → Within (scope_behind s t)
          → WhereGood (IsStmt w.result) (stmt names w s t)
      stmt_typed w s held (statement.Block line body) v =
          behind_good (AllTyped w.result) (IsStmt w.result) (stmts names w s body) _ (stmts_typed w s held body v) (λ ts h. record { good = typing.block h })
      stmt_typed w s held (statement.Empty line) v = record { good = typing.block typing.no_more }
      stmt_typed w s held (statement.Declare d) v = declaration_typed w.result d.base s held d.names v
      stmt_typed w s held (statement.Effect line e) v =
          behind_good IsExpr (IsStmt w.result) (expr s.variables e) _ (expr_typed s.variables (held_within s held v) e)
          (λ x h. record { good = effect_typed w.result line x (quits x.tree) h })
      stmt_typed w s held (statement.If line test t) v =
          both_good IsExpr (IsStmt w.result) (IsStmt w.result) (expr s.variables test) (stmt names w s t) _ (test_typed s held t test v)
          (stmt_typed w s held t v)
          (λ x y h g. judged_good (IsStmt w.result) line _
          (condition_typed w.result x (tree.If line x.tree y nothing) (λ e. typing.choice h e g (typing.block typing.no_more))))
      stmt_typed w s held (statement.IfElse line test t other) v =
          let mid : Scope = scope_behind s t in
          let inner : Within mid = before mid (scope_behind mid other) (scope_grown mid other) v in
          both_good IsExpr (λ p. IsStmt w.result p.0 × IsStmt w.result p.1) (IsStmt w.result) (expr s.variables test) _ _ (test_typed s held t test inner)
          (both_good (IsStmt w.result) (IsStmt w.result) (λ p. IsStmt w.result p.0 × IsStmt w.result p.1) (stmt names w s t) (stmt names w mid other) _
          (stmt_typed w s held t inner) (stmt_typed w mid ((scope_grown s t).held held) other v) (λ a b h g. record { good = (h, g) }))
          (λ x p h g. judged_good (IsStmt w.result) line _
          (condition_typed w.result x (tree.If line x.tree p.0 p.1) (λ e. typing.choice h e g.0 g.1)))
      stmt_typed w s held (statement.While line test t) v =
          both_good IsExpr (IsStmt w.result) (IsStmt w.result) (expr s.variables test) (stmt names (in_turn w) s t) _ (test_typed s held t test v)
          (stmt_typed (in_turn w) s held t v)
          (λ x y h g. judged_good (IsStmt w.result) line _
          (condition_typed w.result x (tree.Loop line true (tree.When x.tree) None y) (λ e. typing.loop (typing.test h e) typing.no_each g)))
      stmt_typed w s held (statement.DoWhile line t test) v =
          let mid : Scope = scope_behind s t in
          both_good (IsStmt w.result) IsExpr (IsStmt w.result) (stmt names (in_turn w) s t) (expr mid.variables test) _ (stmt_typed (in_turn w) s held t v)
          (expr_typed mid.variables (held_within mid ((scope_grown s t).held held) v) test)
          (λ y x g h. judged_good (IsStmt w.result) line _
          (condition_typed w.result x (tree.Loop line false (tree.When x.tree) None y) (λ e. typing.loop (typing.test h e) typing.no_each g)))
      stmt_typed w s held (statement.Break line) v =
          judged_good (IsStmt w.result) line _
          (fine_by (IsStmt w.result) (w.in_loop || w.in_switch) (Fine (tree.Break line)) WORD_NOT_ALLOWED _ typing.break_out)
      stmt_typed w s held (statement.Continue line) v =
          judged_good (IsStmt w.result) line _ (fine_by (IsStmt w.result) w.in_loop (Fine (tree.Continue line)) WORD_NOT_ALLOWED _ typing.next_turn)
      stmt_typed w s held (statement.Return line value) v = end_typed w s (held_within s held v) line value
      stmt_typed w s held (statement.Perl line p) v = judged_good (IsStmt w.result) line _ (perl_typed w.result names w s.variables line p)
      stmt_typed w s held (statement.For line head t) v =
          let inner : Scope = first_behind s head.first in
          let after : Scope = scope_behind inner t in
          let mid : Within inner = before inner after (scope_grown inner t) v in
          let kept : Held inner.slots inner.variables = (first_grown s head.first).held held in
          let known : Held slots inner.variables = held_within inner kept mid in
          both_good (IsStmt w.result) (IsRest w.result) (IsStmt w.result) (first_part s head.first) _ _ (first_typed w.result s held head.first mid)
          (both_good IsOption (IsTurns w.result) (IsRest w.result) (option_expr inner.variables head.test) _ _ (option_typed inner.variables known head.test)
          (both_good IsOption (IsStmt w.result) (IsTurns w.result) (option_expr inner.variables head.step) (stmt names (in_turn w) inner t) _
          (option_typed inner.variables known head.step) (stmt_typed (in_turn w) inner kept t v) (λ a b h g. record { good = (h, g) }))
          (λ a p h g. record { good = (h, g) }))
          (λ a p h g. judged_good (IsStmt w.result) line _ (for_typed w.result line (declared_in s after) a p.0 p.1.0 p.1.1 h g.0 g.1.0 g.1.1))
      stmt_typed w s held (statement.Switch line e all) v =
          both_good IsExpr (AllGroups w.result) (IsStmt w.result) (expr s.variables e) (groups names (in_group w) s all) _
          (expr_typed s.variables (held_within s held (before s (groups_behind s all) (groups_grown s all) v)) e) (groups_typed (in_group w) s held all v)
          (λ x gs h g. judged_good (IsStmt w.result) line _ (switched_typed w.result line x.of_type x.tree gs h g))

      stmts_typed : (w : Where) (s : Scope) → Held s.slots s.variables → (all : StmtTrees) → Within (scopes_behind s all)
          → WhereGood (AllTyped w.result) (stmts names w s all)
      stmts_typed w s held statement.NoStmts v = record { good = typing.no_more }
      stmts_typed w s held (statement.MoreStmts t rest) v =
          both_good (IsStmt w.result) (AllTyped w.result) (AllTyped w.result) (stmt names w s t) (stmts names w (scope_behind s t) rest) _
          (stmt_typed w s held t (before (scope_behind s t) (scopes_behind (scope_behind s t) rest) (scopes_grown (scope_behind s t) rest) v))
          (stmts_typed w (scope_behind s t) ((scope_grown s t).held held) rest v) (λ x xs h g. record { good = typing.one_more h g })

      groups_typed : (w : Where) (s : Scope) → Held s.slots s.variables → (all : GroupTrees) → Within (groups_behind s all)
          → WhereGood (AllGroups w.result) (groups names w s all)
      groups_typed w s held statement.NoGroups v = record { good = typing.no_group }
      groups_typed w s held (statement.MoreGroups line ls body rest) v =
          let mid : Scope = scopes_behind s body in
          let inner : Within mid = before mid (groups_behind mid rest) (groups_grown mid rest) v in
          both_good (λ g. AllTyped w.result g.body) (AllGroups w.result) (AllGroups w.result) _ (groups names w mid rest) _
          (both_good (λ ns. Unit {0}) (AllTyped w.result) (λ g. AllTyped w.result g.body) (labels s.variables ls) (stmts names w s body) _
          (anything (labels s.variables ls)) (stmts_typed w s held body inner) (λ ns ts h g. record { good = g }))
          (groups_typed w mid ((scopes_grown s body).held held) rest v) (λ x xs h g. record { good = typing.one_group h g })

-- ---- functions

nothing_held : Held [] []
unfolding variable_of
nothing_held name z e = absurd cc

-- an XS function gives no value
void_result : (name : List ℕ) (slots : List Slot) (t : Stmt) → IsTyped slots type_of.Void t → IsTyped slots (result_of (sort_of (is_boot_name name))) t
void_result name slots t h = by (is_boot_name name)
  where
    by : (b : Bool) → IsTyped slots (result_of (sort_of b)) t
    by true = h
    by false = h

function_typed : (names : FileNames) (x : XsFunTree) (ts : List Stmt) → stmts names (where_in x.name) beginning (statements_of x) ≡ Good ts
    → IsTyped (function_of x ts).slots (result_of (function_of x ts).sort) (function_of x ts).body
function_typed names x ts e =
    let slots : List Slot = (scopes_behind beginning (statements_of x)).slots in
    let h : WhereGood (AllTyped slots type_of.Void) (Good ts) =
    subst (WhereGood (AllTyped slots type_of.Void)) e (stmts_typed slots names (where_in x.name) beginning nothing_held (statements_of x) (λ i z e. e)) in
    void_result x.name slots (tree.Block (declared_in beginning (scopes_behind beginning (statements_of x))) (stmts_of (with_entry (entry_of x.body) ts)))
    (typing.block (with_entry_typed slots type_of.Void (entry_of x.body) ts h.good))

types_of_item : (t : FileTree) (c : Code) (i : ℕ) (f : Function) → typed_of t ≡ Ok c → slice_get c.functions i ≡ Some f
    → OfItem (λ x g. IsTyped g.slots (result_of g.sort) g.body) t.items i f
types_of_item = each_function (λ x g. IsTyped g.slots (result_of g.sort) g.body) function_typed

-- Each function of a file's code is typed.
pub types_of_forms : (t : FileTree) (c : Code) (i : ℕ) (f : Function) → typed_of t ≡ Ok c → slice_get c.functions i ≡ Some f
    → IsTyped f.slots (result_of f.sort) f.body
types_of_forms t c i f good g = (types_of_item t c i f good g).1.1
