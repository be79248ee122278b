-- The statements of the intended tree, list by list: each becomes the code that it is meant to be.
use Rattle.std.proofs.Common.{◌≡◌, ℕ, ◌+◌, ◌≤◌, true, false, List, [], ◌∷◌, ◌++◌, codes, map, length, fold, pos, slice_get, Option, Some, None, refl, sym, ap, ap₂, subst, append_assoc, append-nil, ◌∙◌, arith}
use Rattle.std.proofs.lemmas.List.{length-map, length_push, map-append}
use Rattle.std.proofs.lemmas.Bool.Decides.{nat_tests}
use Rattle.std.proofs.lemmas.Int.{ints}
use Rattle.std.specs.Int.RustNames.{int_le}
use Rattle.xs_cinput.specs.declared.tree.BinaryOp.TheVariants as binary
use Rattle.xs_cexpr.specs.ExpressionTree as syntax_expr
use Rattle.xs_cstmt.specs.StatementTree as syntax_stmt
use Rattle.xs_cexpr.specs.ExpressionTree.{ExprTree}
use Rattle.xs_cstmt.specs.StatementTree.{StmtTree, stmts_of}
use Rattle.xs_iface.specs.Paragraph.{greatest_int}
use Rattle.xs_iface.specs.declared.xsub.Param.{Param}
use Rattle.xs_iface.specs.declared.xsub.Term.{Term}
use Rattle.xs_iface.specs.declared.xsub.Term.TheVariants.{Literal, Parameter}
use Rattle.xs_iface.specs.declared.xsub.Xsub.{Xsub}
use Rattle.std.specs.List.{AllByRecursion as All}
use Rattle.xs_iface.specs.SumForm.{Differ, IsTermOf}
use Rattle.xs_iface.specs.ReservedWords.{is_free}
use Rattle.xs_ctree.specs.declared.value_type.Slot.{Slot}
use Rattle.xs_ctree.specs.declared.value_type.ValueType.{ValueType}
use Rattle.xs_ctree.specs.declared.value_type.ValueType.TheVariants.{Number, Scalar, Void}
use Rattle.xs_ctree.specs.TypedTree as code
use Rattle.xs_ctree.specs.TypedTree.{Expr, Variable, ItemCount, Assign, Binary, Cast, Api, Usage, ToVariable, ToItem, Stmt, Effect, Quit, Register, nothing, bare_expr, bare_slot, bare_stmt}
use Rattle.xs_perlapi.specs.declared.row.Row.TheVariants.{StRead, SvIv, SvNewMortal, SvSetIv, XsReturn, XsReturnYes}
use Rattle.xs_ccheck.specs.declared.enclosing.Where.{Where}
use Rattle.xs_ctypes.specs.Checked.{Good, behind, judged, more}
use Rattle.xs_ccheck.specs.ExprTyping.{TypedExpr, as_typed, cast, converted, expr, exprs, is_text_type, letter_in, literal}
use Rattle.xs_ctypes.specs.Scopes.{Local, Scope, declared_in, is_in_use, knowing, new_variable, next_slot, outside, scope_behind, scopes_behind, variable_of}
use Rattle.xs_ccheck.specs.StmtTyping.{effect, stmt, stmts}
use Rattle.xs_ctypes.specs.FileNames.{FileNames, index_from, index_of}
use Rattle.xs_ctypes.specs.TypeNames.{cast_named, type_meant, type_named}
use Rattle.xs_values.specs.Types.{number_types}
use Rattle.xs_ccheck.proofs.Unlined.{effect_bare, stmts_bare}
use Rattle.xs_perlapi.specs.Table.{is_interface_word}
use Rattle.xs_perlapi.specs.Table.{api_words, row_named}
use Rattle.xs_stub.specs.Intended as intended
use Rattle.xs_stub.specs.Intended.{call_of, declared, declared_int, declared_param, int_argument, int_type, inputs_from, iv_type, no_suffix, number, registration, return_one, return_yes, returned_value, sum_of, usage_test}
use Rattle.xs_stub.specs.Stub.{joined_names, name_or_nothing}
use Rattle.xs_values.proofs.Wrapping.{wrapped_value-held}
use Rattle.xs_values.specs.declared.kind.Kind.TheVariants.{I32, I64}
use Rattle.xs_values.specs.declared.literal.Base.{Base}
use Rattle.xs_values.specs.declared.literal.Base.TheVariants.{Decimal}
use Rattle.xs_values.specs.declared.model.DataModel.TheVariants.{Lp64}
use Rattle.xs_values.specs.declared.operator.Op.TheVariants as op
use Rattle.xs_values.specs.Literals.{literal_kind_of}
use Rattle.xs_values.specs.Numbers.{is_held, wrapped}
use Rattle.xs_call.specs.GlueCode.{declarations, inputs, registrations, sum_on, sum_tree, term_tree}
use Rattle.xs_sim.specs.TreeBuilders.{assign_int, assign_item, assign_scalar, block_of, int_literal, row_done, row_of, row_quits}
use Rattle.xs_sim.proofs.IntNumbers.{in_range}
use Rattle.xs_call.proofs.TypedNames.{Known, IndexedFrom, Unknown, int_at, int_local, known_at, locals_from, scalar_at, scalar_local, no_interface_word, not_reserved, unknown_after}

-- ---- numbers

small_held : (v : ℕ) → v ≤ greatest_int → is_held I32 (pos v) ≡ true
small_held v h = let small : int_le (pos v) (pos 2147483647) ≡ true = grind (arith, ints, nat_tests) in rw small refl

int_kind : (base : Base) (v : ℕ) → v ≤ greatest_int → literal_kind_of Lp64 base no_suffix v ≡ I32
int_kind base v h = rw (small_held v h) refl

literal_typed : (base : Base) (v : ℕ) → v ≤ greatest_int → literal base no_suffix v ≡ as_typed (int_literal v) (Number I32)
literal_typed base v h =
    ap (λ k. as_typed (code.Literal (wrapped k (pos v))) (Number k)) (int_kind base v h)
    ∙ ap (λ z. as_typed (code.Literal (record { kind = I32; value = z })) (Number I32)) (wrapped_value-held I32 (pos v) (in_range v h))

-- ---- expressions

-- An expression of C is this code but for places, and has this type.
pub record Is (variables : List Local) (a : ExprTree) (t : Expr) (ty : ValueType) : Type 0 where
  pub tree : Expr
  pub is : expr variables a ≡ Good (as_typed tree ty)
  pub same : bare_expr tree ≡ t

-- a cast to a type that is no text
cast_plain : (letter : Option ℕ) (to : Option ValueType) (x : TypedExpr) → is_text_type to ≡ false → cast letter to x ≡ converted to x
cast_plain None to x h = refl
cast_plain (Some slot) to x h = rw h refl

module _ (variables : List Local) where
  number_typed : (line v : ℕ) → v ≤ greatest_int → Is variables (number line v) (int_literal v) (Number I32)
  unfolding expr
  number_typed line v h = record { tree = int_literal v; is = ap Good (literal_typed Decimal v h); same = refl }

  name_typed : (line : ℕ) (name : List ℕ) (v : Slot) → variable_of variables name ≡ Some v
      → Is variables (syntax_expr.Var line name) (Variable v.number) v.of_type
  unfolding expr
  name_typed line name v h = record { tree = Variable v.number; is = rw h refl; same = refl }

  items_typed : (line : ℕ) → variable_of variables (codes "items") ≡ None → Is variables (syntax_expr.Var line (codes "items")) ItemCount (Number I32)
  unfolding expr
  items_typed line h = record { tree = ItemCount; is = rw h refl; same = refl }

  sum_typed : (line : ℕ) (a b : ExprTree) (t u : Expr) → Is variables a t (Number I32) → Is variables b u (Number I32)
      → Is variables (syntax_expr.Two line (binary.On op.Add) a b) (Binary op.Add t u) (Number I32)
  unfolding expr
  sum_typed line a b t u h k = record { tree = Binary op.Add h.tree k.tree; is = rw (h.is, k.is) refl; same = ap₂ (Binary op.Add) h.same k.same }

  differ_typed : (line : ℕ) (a b : ExprTree) (t u : Expr) → Is variables a t (Number I32) → Is variables b u (Number I32)
      → Is variables (syntax_expr.Two line (binary.On op.NotEqual) a b) (Binary op.NotEqual t u) (Number I32)
  unfolding expr
  differ_typed line a b t u h k =
      record { tree = Binary op.NotEqual h.tree k.tree; is = rw (h.is, k.is) refl; same = ap₂ (Binary op.NotEqual) h.same k.same }

  item_typed : (line : ℕ) (a : ExprTree) (t : Expr) → Is variables a t (Number I32)
      → Is variables (call_of line (codes "ST") (a ∷ [])) (row_of StRead (t ∷ [])) Scalar
  unfolding expr row_named api_words
  item_typed line a t h = record {
    tree = Api line StRead (code.exprs_of (h.tree ∷ []));
    is = rw h.is refl;
    same = ap (λ x. row_of StRead (x ∷ [])) h.same;
  }

  number_of_typed : (line : ℕ) (a : ExprTree) (t : Expr) → Is variables a t Scalar
      → Is variables (call_of line (codes "SvIV") (a ∷ [])) (row_of SvIv (t ∷ [])) (Number I64)
  unfolding expr row_named api_words
  number_of_typed line a t h = record {
    tree = Api line SvIv (code.exprs_of (h.tree ∷ []));
    is = rw h.is refl;
    same = ap (λ x. row_of SvIv (x ∷ [])) h.same;
  }

  as_int_typed : (line : ℕ) (a : ExprTree) (t : Expr) → Is variables a t (Number I64)
      → Is variables (syntax_expr.Cast line (int_type line) a) (Cast (Number I32) t) (Number I32)
  unfolding expr cast_named type_meant number_types
  as_int_typed line a t h = record {
    tree = Cast (Number I32) h.tree;
    is = ap (λ c. behind c (λ x. judged line (cast (letter_in variables a) (Some (Number I32)) x))) h.is
        ∙ ap (judged line) (cast_plain (letter_in variables a) (Some (Number I32)) (as_typed h.tree (Number I64)) refl);
    same = ap (Cast (Number I32)) h.same;
  }

  as_iv_typed : (line : ℕ) (a : ExprTree) (t : Expr) → Is variables a t (Number I32)
      → Is variables (syntax_expr.Cast line (iv_type line) a) (Cast (Number I64) t) (Number I64)
  unfolding expr cast_named type_meant number_types
  as_iv_typed line a t h = record {
    tree = Cast (Number I64) h.tree;
    is = ap (λ c. behind c (λ x. judged line (cast (letter_in variables a) (Some (Number I64)) x))) h.is
        ∙ ap (judged line) (cast_plain (letter_in variables a) (Some (Number I64)) (as_typed h.tree (Number I32)) refl);
    same = ap (Cast (Number I64)) h.same;
  }

  argument_typed : (line place : ℕ) → place ≤ greatest_int
      → Is variables (int_argument line place) (Cast (Number I32) (row_of SvIv (row_of StRead (int_literal place ∷ []) ∷ []))) (Number I32)
  argument_typed line place h = as_int_typed line _ _ (number_of_typed line _ _ (item_typed line _ _ (number_typed line place h)))

  int_set : (line at : ℕ) (name : List ℕ) (slot : ℕ) (a : ExprTree) (t : Expr) → variable_of variables name ≡ Some (int_at at slot)
      → Is variables a t (Number I32)
      → Is variables (syntax_expr.Set line (syntax_expr.VarPlace line name) None a) (Assign 0 (ToVariable slot (Number I32)) t) (Number I32)
  unfolding expr
  int_set line at name slot a t h k = record {
    tree = Assign line (ToVariable slot (Number I32)) k.tree;
    is = rw (h, k.is) refl;
    same = ap (Assign 0 (ToVariable slot (Number I32))) k.same;
  }

  scalar_set : (line at : ℕ) (name : List ℕ) (slot : ℕ) (a : ExprTree) (t : Expr) → variable_of variables name ≡ Some (scalar_at at slot)
      → Is variables a t Scalar → Is variables (syntax_expr.Set line (syntax_expr.VarPlace line name) None a) (Assign 0 (ToVariable slot Scalar) t) Scalar
  unfolding expr
  scalar_set line at name slot a t h k = record {
    tree = Assign line (ToVariable slot Scalar) k.tree;
    is = rw (h, k.is) refl;
    same = ap (Assign 0 (ToVariable slot Scalar)) k.same;
  }

  mortal_typed : (line : ℕ) → Is variables (call_of line (codes "sv_newmortal") []) (row_of SvNewMortal []) Scalar
  unfolding expr row_named api_words
  mortal_typed line = record { tree = Api line SvNewMortal code.NoExprs; is = refl; same = refl }

  number_put : (line : ℕ) (a b : ExprTree) (t u : Expr) → Is variables a t Scalar → Is variables b u (Number I64)
      → Is variables (call_of line (codes "sv_setiv") (a ∷ b ∷ [])) (row_of SvSetIv (t ∷ u ∷ [])) Void
  unfolding expr row_named api_words
  number_put line a b t u h k = record {
    tree = Api line SvSetIv (code.exprs_of (h.tree ∷ k.tree ∷ []));
    is = rw (h.is, k.is) refl;
    same = ap₂ (λ x y. row_of SvSetIv (x ∷ y ∷ [])) h.same k.same;
  }

  item_put : (line : ℕ) (a b : ExprTree) (t u : Expr) → Is variables a t (Number I32) → Is variables b u Scalar
      → Is variables (syntax_expr.Set line (syntax_expr.StPlace line a) None b) (Assign 0 (ToItem t) u) Scalar
  unfolding expr
  item_put line a b t u h k = record {
    tree = Assign line (ToItem h.tree) k.tree;
    is = rw (h.is, k.is) refl;
    same = ap₂ (λ x y. Assign 0 (ToItem x) y) h.same k.same;
  }

  return_typed : (line : ℕ) (a : ExprTree) (t : Expr) → Is variables a t (Number I32)
      → Is variables (call_of line (codes "XSRETURN") (a ∷ [])) (row_of XsReturn (t ∷ [])) Void
  unfolding expr row_named api_words
  return_typed line a t h = record {
    tree = Api line XsReturn (code.exprs_of (h.tree ∷ []));
    is = rw h.is refl;
    same = ap (λ x. row_of XsReturn (x ∷ [])) h.same;
  }

  usage_typed : (line : ℕ) (text : List ℕ)
      → Is variables (call_of line (codes "croak_xs_usage") (syntax_expr.Var line (codes "cv") ∷ syntax_expr.Str line text ∷ [])) (Usage 0 text) Void
  unfolding expr
  usage_typed line text = record { tree = Usage line text; is = refl; same = refl }

  -- ---- sums

  term_typed : (ps : List Param) (line at : ℕ) (t : Term) → Known at variables 0 ps → IsTermOf (length ps) t
      → Is variables (intended.term_tree ps line t) (term_tree t) (Number I32)
  term_typed ps line at (Parameter i) k h =
      name_typed line (name_or_nothing (slice_get ps i)) (int_at at i) (known_at at variables 0 i ps k h ∙ ap (λ n. Some (int_at at n)) (omega arith))
  term_typed ps line at (Literal v) k h = number_typed line v h

  terms_typed : (ps : List Param) (line at : ℕ) (a : ExprTree) (so_far : Expr) (ts : List Term) → Known at variables 0 ps → All (IsTermOf (length ps)) ts
      → Is variables a so_far (Number I32)
      → Is variables (fold (λ sum term. syntax_expr.Two line (binary.On op.Add) sum (intended.term_tree ps line term)) a ts) (sum_on so_far ts) (Number I32)
  terms_typed ps line at a so_far [] k hs h = h
  terms_typed ps line at a so_far (t ∷ ts) k hs h =
      let term = intended.term_tree ps line t in
      terms_typed ps line at (syntax_expr.Two line (binary.On op.Add) a term) (Binary op.Add so_far (term_tree t)) ts k hs.1
      (sum_typed line a term so_far (term_tree t) h (term_typed ps line at t k hs.0))

-- ---- lists of statements

-- a scope whose variables are these, each at the slot of its number
abbrev pub within : List Local → Scope
within variables = record { variables = variables; slots = map (λ v. v.slot) variables }

-- In a scope a statement is this code but for places, and this scope stands behind it.
pub record IsStmt (names : FileNames) (w : Where) (at next : Scope) (s : StmtTree) (u : Stmt) : Type 0 where
  pub tree : Stmt
  pub is : stmt names w at s ≡ Good tree
  pub same : bare_stmt tree ≡ u
  pub moves : scope_behind at s ≡ next

-- From a scope on these statements become this code, and the scope behind them is this.
pub data Becomes (names : FileNames) (w : Where) : Scope → List StmtTree → List Stmt → Scope → Type 0 where
  Nothing : {at : Scope} → Becomes names w at [] [] at
  Then : {at next end : Scope} {s : StmtTree} {u : Stmt} {rest : List StmtTree} {us : List Stmt} → IsStmt names w at next s u
      → Becomes names w next rest us end → Becomes names w at (s ∷ rest) (u ∷ us) end

-- all statements of a list
pub record AreStmts (names : FileNames) (w : Where) (at end : Scope) (all : List StmtTree) (us : List Stmt) : Type 0 where
  pub trees : List Stmt
  pub is : stmts names w at (stmts_of all) ≡ Good trees
  pub same : map bare_stmt trees ≡ us
  pub moves : scopes_behind at (stmts_of all) ≡ end

pub not_in_use : (variables : List Local) (name : List ℕ) → is_interface_word name ≡ false → variable_of variables name ≡ None
    → is_in_use variables name ≡ false
unfolding is_in_use
not_in_use variables name h k = rw (h, k) refl

module _ (names : FileNames) (w : Where) where
  pub become : {at end : Scope} {all : List StmtTree} {us : List Stmt} → Becomes names w at all us end → AreStmts names w at end all us
  unfolding stmt scope_behind
  become Nothing = record { trees = []; is = refl; same = refl; moves = refl }
  become (Then first rest) =
      let after = become rest in
      record {
        trees = first.tree ∷ after.trees;
        is = rw (first.is, first.moves, after.is) refl;
        same = ap₂ (λ t ts. t ∷ ts) first.same after.same;
        moves = rw first.moves after.moves;
      }

  pub joined : {at next end : Scope} {all rest : List StmtTree} {ts us : List Stmt} → Becomes names w at all ts next → Becomes names w next rest us end
      → Becomes names w at (all ++ rest) (ts ++ us) end
  joined Nothing b = b
  joined (Then first a) b = Then first (joined a b)

  effect_becomes : (at : Scope) (line : ℕ) (a : ExprTree) (t : Expr) (ty : ValueType) → Is at.variables a t ty
      → IsStmt names w at at (syntax_stmt.Effect line a) (effect 0 t)
  unfolding stmt scope_behind
  effect_becomes at line a t ty h = record {
    tree = effect line h.tree;
    is = rw h.is refl;
    same = effect_bare line h.tree ∙ ap (effect 0) h.same;
    moves = refl;
  }

  pub block : (at end : Scope) (line : ℕ) (all : List StmtTree) (us : List Stmt) → Becomes names w at all us end
      → IsStmt names w at (outside at end) (syntax_stmt.Block line (stmts_of all)) (block_of (map bare_slot (declared_in at end)) us)
  unfolding stmt scope_behind
  block at end line all us b =
      let after = become b in
      record {
        tree = code.Block (declared_in at (scopes_behind at (stmts_of all))) (code.stmts_of after.trees);
        is = rw after.is refl;
        same = ap₂ code.Block (ap (λ z. map bare_slot (declared_in at z)) after.moves) (stmts_bare after.trees ∙ ap code.stmts_of after.same);
        moves = ap (outside at) after.moves;
      }

  -- ---- declarations

  -- a new variable of a scope whose slots are those of its variables
  grown : (variables : List Local) (line : ℕ) (name : List ℕ) (t : ValueType)
      → new_variable (within variables) name (next_slot (within variables) line t)
      ≡ within (variables ++ record { name = name; slot = record { number = length variables; of_type = t; line = line } } ∷ [])
  grown variables line name t =
      ap (λ n. new_variable (within variables) name (record { number = n; of_type = t; line = line })) (length-map variables (λ v. v.slot))
      ∙ ap (λ ss. record {
        variables = variables ++ record { name = name; slot = record { number = length variables; of_type = t; line = line } }
            ∷ [];
        slots = ss;
      })
      (sym (map-append (λ v. v.slot) variables _))

  pub int_declared : (variables : List Local) (line : ℕ) (name : List ℕ) → is_in_use variables name ≡ false
      → IsStmt names w (within variables) (within (variables ++ int_local line name (length variables) ∷ [])) (declared_int line name)
      (code.Declare 0 (length variables))
  unfolding stmt scope_behind type_named type_meant number_types
  int_declared variables line name h = record {
    tree = code.Declare line (length (within variables).slots);
    is = rw h refl;
    same = ap (code.Declare 0) (length-map variables (λ v. v.slot));
    moves = rw h (grown variables line name (Number I32));
  }

  pub scalar_declared : (variables : List Local) (line : ℕ) (name : List ℕ) → is_in_use variables name ≡ false
      → IsStmt names w (within variables) (within (variables ++ scalar_local line name (length variables) ∷ [])) (declared line (codes "SV") 1 name)
      (code.Declare 0 (length variables))
  unfolding stmt scope_behind type_named type_meant number_types
  scalar_declared variables line name h = record {
    tree = code.Declare line (length (within variables).slots);
    is = rw h refl;
    same = ap (code.Declare 0) (length-map variables (λ v. v.slot));
    moves = rw h (grown variables line name Scalar);
  }

  pub params_declared : (variables : List Local) (line : ℕ) (ps : List Param) → All (λ p. is_free p.name ≡ true) ps → Differ (map (λ p. p.name) ps)
      → Unknown variables ps
      → Becomes names w (within variables) (map (declared_param line) ps) (declarations (length variables) ps)
      (within (variables ++ locals_from line (length variables) ps))
  params_declared variables line [] free differ unknown =
      subst (λ vs. Becomes names w (within variables) [] [] (within vs)) (sym (append-nil variables)) Nothing
  params_declared variables line (p ∷ ps) free differ unknown =
      let one = int_local line p.name (length variables) in
      let size : length (variables ++ one ∷ []) ≡ length variables + 1 = length_push variables one in
      let rest = params_declared (variables ++ one ∷ []) line ps free.1 differ.1 (unknown_after variables one ps differ.0 unknown.1) in
      Then (int_declared variables line p.name (not_in_use variables p.name (no_interface_word p.name (not_reserved p.name free.0)) unknown.0))
      (subst (λ vs. Becomes names w (within (variables ++ one ∷ [])) (map (declared_param line) ps) (declarations (length variables + 1) ps) (within vs))
      (append_assoc variables (one ∷ []) (locals_from line (length variables + 1) ps))
      (subst (λ n. Becomes names w (within (variables ++ one ∷ [])) (map (declared_param line) ps) (declarations n ps)
      (within ((variables ++ one ∷ []) ++ locals_from line n ps))) size rest))

  -- ---- inputs

  pub inputs_become : (at : Scope) (line place : ℕ) (ps : List Param) → Known line at.variables place ps → place + length ps ≤ greatest_int
      → Becomes names w at (inputs_from place ps) (inputs place ps) at
  inputs_become at line place [] known few = Nothing
  inputs_become at line place (p ∷ ps) known few =
      Then (effect_becomes at p.line _ _ _ (int_set at.variables p.line line p.name place _ _ known.0 (argument_typed at.variables p.line place (omega arith))))
      (inputs_become at line (place + 1) ps known.1 (omega arith))

  -- ---- the argument test, the sum and the result

  tested : (at : Scope) (line : ℕ) (test : ExprTree) (then_do : StmtTree) (t : Expr) (u : Stmt) → Is at.variables test t (Number I32)
      → IsStmt names w at at then_do u → IsStmt names w at at (syntax_stmt.If line test then_do) (code.If 0 t u nothing)
  unfolding stmt scope_behind
  tested at line test then_do t u h k = record {
    tree = code.If line h.tree k.tree nothing;
    is = rw (h.is, k.is) refl;
    same = ap₂ (λ x y. code.If 0 x y nothing) h.same k.same;
    moves = k.moves;
  }

  pub usage_becomes : (at : Scope) (line : ℕ) (ps : List Param) → variable_of at.variables (codes "items") ≡ None → length ps ≤ greatest_int
      → IsStmt names w at at (usage_test line ps)
      (code.If 0 (Binary op.NotEqual ItemCount (int_literal (length ps))) (Quit 0 (Usage 0 (joined_names ps))) nothing)
  usage_becomes at line ps none few =
      tested at line _ _ _ _
      (differ_typed at.variables line _ _ _ _ (items_typed at.variables line none) (number_typed at.variables line (length ps) few))
      (effect_becomes at line _ _ _ (usage_typed at.variables line (joined_names ps)))

  -- RETVAL at a slot gets the sum.
  pub sum_becomes : (at : Scope) (line declared_at slot : ℕ) (ps : List Param) (sum : List Term) (first : Term) (rest : List Term)
      → variable_of at.variables (codes "RETVAL") ≡ Some (int_at declared_at slot) → Known declared_at at.variables 0 ps
      → sum ≡ first ∷ rest → All (IsTermOf (length ps)) sum → Becomes names w at (sum_of ps line sum) (assign_int slot (sum_tree sum) ∷ []) at
  sum_becomes at line declared_at slot ps [] first rest retval known e terms = absurd cc
  sum_becomes at line declared_at slot ps (t ∷ ts) first rest retval known e terms =
      Then (effect_becomes at line _ _ _
      (int_set at.variables line declared_at (codes "RETVAL") slot _ _ retval
      (terms_typed at.variables ps line declared_at _ _ ts known terms.1 (term_typed at.variables ps line declared_at t known terms.0)))) Nothing

  pub value_becomes : (at : Scope) (line declared_at slot scalar : ℕ) → variable_of at.variables (codes "RETVAL") ≡ Some (int_at declared_at slot)
      → variable_of at.variables (codes "RETVALSV") ≡ Some (scalar_at declared_at scalar)
      → Becomes names w at (returned_value line) (assign_scalar scalar (row_of SvNewMortal [])
      ∷ row_done SvSetIv (Variable scalar ∷ Cast (Number I64) (Variable slot) ∷ []) ∷ []) at
  value_becomes at line declared_at slot scalar h k =
      Then (effect_becomes at line _ _ _ (scalar_set at.variables line declared_at (codes "RETVALSV") scalar _ _ k (mortal_typed at.variables line)))
      (Then (effect_becomes at line _ _ _ (number_put at.variables line _ _ _ _
      (name_typed at.variables line (codes "RETVALSV") (scalar_at declared_at scalar) k)
      (as_iv_typed at.variables line _ _ (name_typed at.variables line (codes "RETVAL") (int_at declared_at slot) h)))) Nothing)

  pub return_becomes : (at : Scope) (line declared_at scalar : ℕ) → variable_of at.variables (codes "RETVALSV") ≡ Some (scalar_at declared_at scalar)
      → Becomes names w at (return_one line) (assign_item (int_literal 0) (Variable scalar) ∷ row_quits XsReturn (int_literal 1 ∷ []) ∷ []) at
  return_becomes at line declared_at scalar k =
      Then (effect_becomes at line _ _ _ (item_put at.variables line _ _ _ _ (number_typed at.variables line 0 (omega arith))
      (name_typed at.variables line (codes "RETVALSV") (scalar_at declared_at scalar) k)))
      (Then (effect_becomes at line _ _ _ (return_typed at.variables line _ _ (number_typed at.variables line 1 (omega arith)))) Nothing)

  -- ---- the boot function

  registered : (at : Scope) (line place : ℕ) (x : Xsub) → w.in_boot ≡ true → index_of names.functions x.glue ≡ Some place
      → IsStmt names w at at (registration line x) (Register x.full place false)
  unfolding stmt scope_behind
  registered at line place x h k = record { tree = Register x.full place false; is = rw (k, h) refl; same = refl; moves = refl }

  returned_yes : (at : Scope) (line : ℕ) → IsStmt names w at at (syntax_stmt.Perl line return_yes) (row_quits XsReturnYes [])
  unfolding stmt scope_behind
  returned_yes at line = record { tree = Quit line (Api line XsReturnYes code.NoExprs); is = refl; same = refl; moves = refl }

  pub indexed : (name : List ℕ) (at : ℕ) → index_from 0 names.functions name ≡ Some at → index_of names.functions name ≡ Some at
  unfolding index_of
  indexed name at h = h

  pub registrations_become : (at : Scope) (line place : ℕ) (xs : List Xsub) → w.in_boot ≡ true → IndexedFrom 0 names.functions place (map (λ x. x.glue) xs)
      → Becomes names w at (map (registration line) xs ++ syntax_stmt.Perl line return_yes ∷ []) (registrations place xs) at
  registrations_become at line place [] boot all = Then (returned_yes at line) Nothing
  registrations_become at line place (x ∷ xs) boot all =
      Then (registered at line place x boot (indexed x.glue place all.0)) (registrations_become at line (place + 1) xs boot all.1)
