-- Each step leaves less to be done, so a run ends, and all runs from one state end in one.
use Rattle.std.proofs.Common.{◌≡◌, ℕ, zero, suc, ◌+◌, ◌*◌, ◌<◌, ◌≤◌, Bool, true, false, cond, List, [], ◌∷◌, refl, sym, ap, ◌∙◌, arith, Option, Some, None}
use Rattle.std.specs.Prelude.{slice_index_or, slice_get, nat_lt, length}
use Rattle.std.proofs.Math.Nat.{mul-le-mul_right}
use Rattle.std.specs.Prelude.{Result, Ok, Err}
use Rattle.xs_values.specs.Numbers.{Number, calculated}
use Rattle.xs_values.specs.declared.operator.Op.{Op}
use Rattle.xs_values.specs.declared.trap.Trap.{Trap}
use Rattle.xs_values.specs.declared.trap.Trap.TheVariants as trap
use Rattle.xs_api.specs.declared.api.Abrupt.{Abrupt}
use Rattle.xs_api.specs.declared.api.Abrupt.TheVariants.{Croaks, Traps, Spent}
use Rattle.xs_api.specs.declared.api.Operand.{Operand}
use Rattle.xs_api.specs.declared.api.Operand.TheVariants.{Unset, Num, Scalar, Void}
use Rattle.xs_api.specs.declared.stacks.Depths.{Depths}
use Rattle.xs_perlapi.specs.declared.row.Row.TheVariants.{StSet, XsEnd}
use Rattle.xs_ctree.specs.Functions.{function_at}
use Rattle.xs_ctree.specs.TypedTree as tree
use Rattle.xs_ctree.specs.TypedTree.{Expr, Literal, Variable, ItemCount, Passed, Read, Not, Unary, Cast, Binary, And, Or, Choice, Assign, Api, Usage, Target, ToVariable, ToItem, NoExprs, MoreExprs, Stmt, Block, Declare, If, Quit, Register, NoStmts, MoreStmts, expr_count, Function, Code}
use Rattle.xs_api.specs.World.{World, Swept, Clean, Dirty, depths_of}
use Rattle.xs_api.specs.Effects.{Effect, Gives, Ends}
use Rattle.xs_machine.specs.Dispatch.{Prims}
use Rattle.xs_machine.specs.MachineState.{State, Out, Done, Stop, tick, lift, read_value, assigned, write_var, assign_as, given, calculate, given_or, alone_value, item_count, operate, convert, truth_number, truth_of, unbuilt}
use Rattle.xs_api.specs.Limits.{most_items}
use Rattle.xs_machine.specs.declared.machine.Alone.TheVariants as alone_of
use Rattle.xs_machine.specs.Dispatch.{counted_rows}
use Rattle.xs_machine.specs.Cmean.{dropped, exec}
use Rattle.xs_machine.specs.Machine.{Work, DoExpr, DoExprs, DoStmt, DoStmts, SetVar, OnTop, Operate, ToType, DoRow, Branch, AndThen, OrThen, Pick, DropTop, Enter, Leave, Mach, passed, popped, undefined_text, run_on, halt, on_top, unwind, at_leave, swept_to, land, fall_off, branch_on, entered, enter, act_assign, act_expr, act_stmt, act, step_at, step, steps, stmt_size, all_size, entry_size, left, run, call_meaning, call_over, is_over, begun_state, unless_barred}
use Rattle.xs_machine.specs.declared.machine.Outcome.TheVariants as outcome
use Rattle.xs_machine.specs.Laws.{CallMeans, RunEnds}
use Rattle.xs_machine.proofs.Follows.{Comes, comes_on, comes_by, comes_at, stmt_follows}

-- how much the entry of a function brings
abbrev option_size : Option Function → ℕ
option_size None = 1
option_size (Some f) = stmt_size f.body + 1

-- the entry of a function of the file brings no more than the entry of any
function_size : (all : List Function) (f : ℕ) → option_size (slice_get all f) ≤ entry_size all
function_size [] f = omega arith
function_size (h ∷ all) zero = omega arith
function_size (h ∷ all) (suc f) = omega (arith, function_size all f)

entry_size-pos : (all : List Function) → 1 ≤ entry_size all
entry_size-pos [] = omega arith
entry_size-pos (f ∷ all) = omega (arith, entry_size-pos all)

callee_size : (code : Code) (f : Option ℕ) → option_size (function_at code f) ≤ entry_size code.functions
callee_size code None = entry_size-pos code.functions
callee_size code (Some f) = function_size code.functions f

-- a product that falls, with what is added to it
falls : (t u b s r : ℕ) → u ≤ t → r < s → u * b + r < t * b + s
falls t u b s r h less = omega (arith, mul-le-mul_right b h, less)

falls_turn : (t b s r : ℕ) → r < b + s → t * b + r < suc t * b + s
falls_turn t b s r less = omega (arith, less)

abbrev turns_of : {S : Type 0} {A : Type 0} → Out S A → ℕ
turns_of (Done a σ) = σ.turns
turns_of (Stop a σ) = σ.turns

module _ {S : Type 0} (P : Prims S) (code : Code) where
  -- no more turns than these, and no more work than this
  record Below (m : Mach S) (t s : ℕ) : Type 0 where
    turns : m.state.turns ≤ t
    size : all_size m.pending ≤ s

  abbrev most : ℕ
  most = entry_size code.functions

  less_left : (m : Mach S) (t s size : ℕ) → Below m t s → s < size → left code m < t * most + size
  less_left m t s size b h = falls t m.state.turns most size (all_size m.pending) b.turns (omega (arith, b.size, h))

  swept_ended : (text : List ℕ) (w : Swept S) (σ : State S) → (swept_to text w σ).pending ≡ []
  swept_ended text (Clean s) σ = refl
  swept_ended text (Dirty t s) σ = refl

  leave_ended : (a : Abrupt) (d : Depths) (σ : State S) → (at_leave P a d σ).pending ≡ []
  leave_ended (Croaks text) d σ = swept_ended text (P.cut d σ.store) σ
  leave_ended a d σ = refl

  swept_turns : (text : List ℕ) (w : Swept S) (σ : State S) → (swept_to text w σ).state.turns ≤ σ.turns
  swept_turns text (Clean s) σ = omega arith
  swept_turns text (Dirty t s) σ = omega arith

  leave_turns : (a : Abrupt) (d : Depths) (σ : State S) → (at_leave P a d σ).state.turns ≤ σ.turns
  leave_turns (Croaks text) d σ = swept_turns text (P.cut d σ.store) σ
  leave_turns a d σ = omega arith

  leave_below : (a : Abrupt) (d : Depths) (σ : State S) → Below (at_leave P a d σ) σ.turns 0
  leave_below a d σ = record { turns = leave_turns a d σ; size = omega (arith, ap all_size (leave_ended a d σ)) }

  unwind_below : (a : Abrupt) (k : List Work) (σ : State S) → Below (unwind P a k σ) σ.turns 0
  unwind_below a [] σ = record { turns = omega arith; size = omega arith }
  unwind_below a (Leave d ∷ k) σ = leave_below a d σ
  unwind_below a (DoExpr e ∷ k) σ = unwind_below a k σ
  unwind_below a (DoExprs es ∷ k) σ = unwind_below a k σ
  unwind_below a (DoStmt s ∷ k) σ = unwind_below a k σ
  unwind_below a (DoStmts ss ∷ k) σ = unwind_below a k σ
  unwind_below a (SetVar x t ∷ k) σ = unwind_below a k σ
  unwind_below a (OnTop op ∷ k) σ = unwind_below a k σ
  unwind_below a (Operate op ∷ k) σ = unwind_below a k σ
  unwind_below a (ToType t ∷ k) σ = unwind_below a k σ
  unwind_below a (DoRow r n ∷ k) σ = unwind_below a k σ
  unwind_below a (Branch s t ∷ k) σ = unwind_below a k σ
  unwind_below a (AndThen e ∷ k) σ = unwind_below a k σ
  unwind_below a (OrThen e ∷ k) σ = unwind_below a k σ
  unwind_below a (Pick x y ∷ k) σ = unwind_below a k σ
  unwind_below a (DropTop ∷ k) σ = unwind_below a k σ
  unwind_below a (Enter f ∷ k) σ = unwind_below a k σ

  -- less is left once all work is over
  over_left : (m : Mach S) (t size : ℕ) → Below m t 0 → 0 < size → left code m < t * most + size
  over_left m t size b h = less_left m t 0 size b h

  -- an outcome of a part, with the work after it
  land_left : {A : Type 0} (put : A → List Operand → List Operand) (k : List Work) (vs : List Operand) (o : Out S A) (t size : ℕ) → turns_of o ≤ t
      → all_size k < size → left code (land P put k vs o) < t * most + size
  land_left put k vs (Done v σ) t size h less =
      less_left (run_on k (put v vs) σ) t (all_size k) size (record { turns = h; size = omega arith }) less
  land_left put k vs (Stop a σ) t size h less = let b =
      unwind_below a k σ in over_left (unwind P a k σ) t size (record { turns = omega (arith, b.turns, h); size = b.size }) (omega (arith, less))

  simple : (k k1 : List Work) (vs : List Operand) (σ σ1 : State S) → σ1.turns ≤ σ.turns → all_size k1 < all_size k
      → left code (run_on k1 vs σ1) < σ.turns * most + all_size k
  simple k k1 vs σ σ1 ht hs = less_left (run_on k1 vs σ1) σ.turns (all_size k1) (all_size k) (record { turns = ht; size = omega arith }) hs

  top_left : (vs : List Operand) (σ : State S) (go : Operand → List Operand → Mach S) (size : ℕ) → 0 < size
      → ((v : Operand) (rest : List Operand) → left code (go v rest) < σ.turns * most + size) → left code (on_top vs σ go) < σ.turns * most + size
  top_left [] σ go size h f = over_left (on_top [] σ go) σ.turns size (record { turns = omega arith; size = omega arith }) h
  top_left (v ∷ vs) σ go size h f = f v vs

  lift_turns : (e : Effect S) (σ : State S) → turns_of (lift e σ) ≤ σ.turns
  lift_turns (Gives v f s) σ = omega arith
  lift_turns (Ends a f s) σ = omega arith

  drop_turns : (e : Effect S) (σ : State S) → turns_of (dropped (lift e σ)) ≤ σ.turns
  drop_turns (Gives v f s) σ = omega arith
  drop_turns (Ends a f s) σ = omega arith

  read_turns : (v : Operand) (σ : State S) → turns_of (read_value v σ) ≤ σ.turns
  read_turns Unset σ = omega arith
  read_turns (Num n) σ = omega arith
  read_turns (Scalar p) σ = omega arith
  read_turns Void σ = omega arith

  assign_turns : (v : Option Operand) (x : ℕ) (σ : State S) → turns_of (assign_as v x σ) ≤ σ.turns
  assign_turns None x σ = omega arith
  assign_turns (Some v) x σ = omega arith

  given_turns : (v : Option Operand) (σ : State S) → turns_of (given v σ) ≤ σ.turns
  given_turns None σ = omega arith
  given_turns (Some v) σ = omega arith

  calculate_turns : (r : Result Number Trap) (σ : State S) → turns_of (calculate r σ) ≤ σ.turns
  calculate_turns (Ok n) σ = omega arith
  calculate_turns (Err t) σ = omega arith

  value_turns : (r : Result Operand Trap) (σ : State S) → turns_of (given_or r σ) ≤ σ.turns
  value_turns (Ok v) σ = omega arith
  value_turns (Err t) σ = omega arith

  operate_turns : (op : Op) (v u : Operand) (σ : State S) → turns_of (operate op v u σ) ≤ σ.turns
  operate_turns op (Num a) (Num b) σ = calculate_turns (calculated op a b) σ
  operate_turns op (Num a) Unset σ = omega arith
  operate_turns op (Num a) (Scalar p) σ = omega arith
  operate_turns op (Num a) Void σ = omega arith
  operate_turns op Unset v σ = omega arith
  operate_turns op (Scalar p) v σ = omega arith
  operate_turns op Void v σ = omega arith

  branch_left : (b : Option Bool) (held failed : Mach S) (k : List Work) (σ : State S) (size : ℕ) → 0 < size
      → left code held < σ.turns * most + size → left code failed < σ.turns * most + size
      → left code (branch_on P b held failed k σ) < σ.turns * most + size
  branch_left None held failed k σ size h f g = over_left _ σ.turns size (unwind_below (Traps trap.Kind) k σ) h
  branch_left (Some true) held failed k σ size h f g = f
  branch_left (Some false) held failed k σ size h f g = g

  enter_turn : (turns : ℕ) (f : Function) (k : List Work) (σ : State S) (size : ℕ) → σ.turns ≡ turns → stmt_size f.body + 1 ≤ most → all_size k < size
      → left code (tick turns (unwind P Spent k σ) (λ t. run_on (DoStmt f.body ∷ k) [] (entered f t σ))) < turns * most + size
  enter_turn zero f k σ size e h less = let b =
      unwind_below Spent k σ in over_left (unwind P Spent k σ) zero size (record { turns = omega (arith, b.turns, e); size = b.size }) (omega (arith, less))
  enter_turn (suc t) f k σ size e h less = falls_turn t most size (all_size (DoStmt f.body ∷ k)) (omega (arith, h, less))

  enter_left : (f : Option Function) (k : List Work) (σ : State S) (size : ℕ) → option_size f ≤ most → all_size k < size
      → left code (enter P f k σ) < σ.turns * most + size
  enter_left None k σ size h less = over_left _ σ.turns size (unwind_below (Croaks (undefined_text σ.frame.called)) k σ) (omega (arith, less))
  enter_left (Some f) k σ size h less = enter_turn σ.turns f k σ size refl h less

  fall_left : (d : Depths) (o : Out S Operand) (t size : ℕ) → turns_of o ≤ t → 0 < size → left code (fall_off P d o) < t * most + size
  fall_left d (Done v σ) t size h less = over_left (fall_off P d (Done v σ)) t size (record { turns = h; size = omega arith }) less
  fall_left d (Stop a σ) t size h less = let b =
      leave_below a d σ in over_left (at_leave P a d σ) t size (record { turns = omega (arith, b.turns, h); size = b.size }) less

  assign_left : (at : ℕ) (to : Target) (e : Expr) (k : List Work) (vs : List Operand) (σ : State S)
      → left code (act_assign P to e k vs σ) < σ.turns * most + all_size (DoExpr (Assign at to e) ∷ k)
  assign_left at (ToVariable x t) e k vs σ = simple (DoExpr (Assign at (ToVariable x t) e) ∷ k) (DoExpr e ∷ SetVar x t ∷ k) vs σ σ (omega arith) (omega arith)
  assign_left at (ToItem i) e k vs σ =
      simple (DoExpr (Assign at (ToItem i) e) ∷ k) (DoExpr e ∷ DoExpr i ∷ DoRow StSet 2 ∷ k) vs σ σ (omega arith) (omega arith)
  assign_left at to e k vs σ = land_left ◌∷◌ k vs (unbuilt {A = Operand} σ) σ.turns (all_size (DoExpr (Assign at to e) ∷ k)) (omega arith) (omega arith)

  expr_left : (e : Expr) (k : List Work) (vs : List Operand) (σ : State S) → left code (act_expr P e k vs σ) < σ.turns * most + all_size (DoExpr e ∷ k)
  expr_left (Literal n) k vs σ = simple (DoExpr (Literal n) ∷ k) k (Num n ∷ vs) σ σ (omega arith) (omega arith)
  expr_left (Variable x) k vs σ = land_left ◌∷◌ k vs (read_value (slice_index_or σ.vars x Unset) σ) σ.turns (all_size (DoExpr (Variable x) ∷ k))
      (read_turns _ σ)
      (omega arith)
  expr_left ItemCount k vs σ = simple (DoExpr ItemCount ∷ k) k (item_count σ ∷ vs) σ σ (omega arith) (omega arith)
  expr_left (Passed e) k vs σ = simple (DoExpr (Passed e) ∷ k) (DoExpr e ∷ k) vs σ σ (omega arith) (omega arith)
  expr_left (Read e) k vs σ = simple (DoExpr (Read e) ∷ k) (DoExpr e ∷ OnTop alone_of.Read ∷ k) vs σ σ (omega arith) (omega arith)
  expr_left (Not e) k vs σ = simple (DoExpr (Not e) ∷ k) (DoExpr e ∷ OnTop alone_of.Not ∷ k) vs σ σ (omega arith) (omega arith)
  expr_left (Unary op e) k vs σ = simple (DoExpr (Unary op e) ∷ k) (DoExpr e ∷ OnTop (alone_of.Sign op) ∷ k) vs σ σ (omega arith) (omega arith)
  expr_left (Cast t e) k vs σ = simple (DoExpr (Cast t e) ∷ k) (DoExpr e ∷ ToType t ∷ k) vs σ σ (omega arith) (omega arith)
  expr_left (Binary op a b) k vs σ = simple (DoExpr (Binary op a b) ∷ k) (DoExpr a ∷ DoExpr b ∷ Operate op ∷ k) vs σ σ (omega arith) (omega arith)
  expr_left (And a b) k vs σ = simple (DoExpr (And a b) ∷ k) (DoExpr a ∷ AndThen b ∷ k) vs σ σ (omega arith) (omega arith)
  expr_left (Or a b) k vs σ = simple (DoExpr (Or a b) ∷ k) (DoExpr a ∷ OrThen b ∷ k) vs σ σ (omega arith) (omega arith)
  expr_left (Choice at t e a b) k vs σ =
      simple (DoExpr (Choice at t e a b) ∷ k) (DoExpr e ∷ Pick a b ∷ ToType t ∷ k) vs σ σ (omega arith) (omega arith)
  expr_left (Assign at to e) k vs σ = assign_left at to e k vs σ
  expr_left (Api at r es) k vs σ = simple (DoExpr (Api at r es) ∷ k) (DoExprs es ∷ DoRow r (expr_count es) ∷ k) vs σ σ (omega arith) (omega arith)
  expr_left (Usage at text) k vs σ = land_left ◌∷◌ k vs (lift (P.croak_usage text σ.frame σ.store) σ) σ.turns (all_size (DoExpr (Usage at text) ∷ k))
      (lift_turns (P.croak_usage text σ.frame σ.store) σ) (omega arith)
  expr_left e k vs σ = land_left ◌∷◌ k vs (unbuilt {A = Operand} σ) σ.turns (all_size (DoExpr e ∷ k)) (omega arith) (omega arith)

  stmt_left : (s : Stmt) (k : List Work) (vs : List Operand) (σ : State S) → left code (act_stmt P s k vs σ) < σ.turns * most + all_size (DoStmt s ∷ k)
  stmt_left (Block slots ss) k vs σ = simple (DoStmt (Block slots ss) ∷ k) (DoStmts ss ∷ k) vs σ σ (omega arith) (omega arith)
  stmt_left (tree.Effect e) k vs σ = simple (DoStmt (tree.Effect e) ∷ k) (DoExpr e ∷ DropTop ∷ k) vs σ σ (omega arith) (omega arith)
  stmt_left (Declare at x) k vs σ = simple (DoStmt (Declare at x) ∷ k) k vs σ (write_var x Unset σ) (omega arith) (omega arith)
  stmt_left (If at e a b) k vs σ = simple (DoStmt (If at e a b) ∷ k) (DoExpr e ∷ Branch a b ∷ k) vs σ σ (omega arith) (omega arith)
  stmt_left (Quit at e) k vs σ = simple (DoStmt (Quit at e) ∷ k) (DoExpr e ∷ DropTop ∷ k) vs σ σ (omega arith) (omega arith)
  stmt_left (Register name f false) k vs σ = land_left passed k vs (dropped (lift (P.register name f σ.frame σ.store) σ)) σ.turns
      (all_size (DoStmt (Register name f false) ∷ k))
      (drop_turns (P.register name f σ.frame σ.store) σ) (omega arith)
  stmt_left s k vs σ = land_left passed k vs (unbuilt {A = Unit {0}} σ) σ.turns (all_size (DoStmt s ∷ k)) (omega arith) (omega arith)

  act_left : (w : Work) (k : List Work) (vs : List Operand) (σ : State S) → left code (act P code w k vs σ) < σ.turns * most + all_size (w ∷ k)
  act_left (DoExpr e) k vs σ = expr_left e k vs σ
  act_left (DoExprs NoExprs) k vs σ = simple (DoExprs NoExprs ∷ k) k vs σ σ (omega arith) (omega arith)
  act_left (DoExprs (MoreExprs e es)) k vs σ = simple (DoExprs (MoreExprs e es) ∷ k) (DoExpr e ∷ DoExprs es ∷ k) vs σ σ (omega arith) (omega arith)
  act_left (DoStmt s) k vs σ = stmt_left s k vs σ
  act_left (DoStmts NoStmts) k vs σ = simple (DoStmts NoStmts ∷ k) k vs σ σ (omega arith) (omega arith)
  act_left (DoStmts (MoreStmts s ss)) k vs σ = simple (DoStmts (MoreStmts s ss) ∷ k) (DoStmt s ∷ DoStmts ss ∷ k) vs σ σ (omega arith) (omega arith)
  act_left (SetVar x t) k vs σ =
      top_left vs σ _ (all_size (SetVar x t ∷ k)) (omega arith)
      (λ v rest. land_left ◌∷◌ k rest (assign_as (assigned t v) x σ) σ.turns (all_size (SetVar x t ∷ k))
      (assign_turns (assigned t v) x σ) (omega arith))
  act_left (Operate op) k vs σ =
      top_left vs σ _ (all_size (Operate op ∷ k)) (omega arith) (λ u rest.
      top_left rest σ _ (all_size (Operate op ∷ k)) (omega arith) (λ v rest1. land_left ◌∷◌ k rest1 (operate op v u σ) σ.turns (all_size (Operate op ∷ k))
      (operate_turns op v u σ) (omega arith)))
  act_left (OnTop op) k vs σ =
      top_left vs σ _ (all_size (OnTop op ∷ k)) (omega arith) (λ v rest. land_left ◌∷◌ k rest (given_or (alone_value op v) σ) σ.turns (all_size (OnTop op ∷ k))
      (value_turns (alone_value op v) σ) (omega arith))
  act_left (ToType t) k vs σ =
      top_left vs σ _ (all_size (ToType t ∷ k)) (omega arith) (λ v rest. land_left ◌∷◌ k rest (convert t v σ) σ.turns (all_size (ToType t ∷ k))
      (given_turns _ σ) (omega arith))
  act_left (DoRow r n) k vs σ = land_left ◌∷◌ k (popped n [] vs).1 (lift (P.row r (popped n [] vs).0 σ.frame σ.store) σ) σ.turns (all_size (DoRow r n ∷ k))
      (lift_turns (P.row r (popped n [] vs).0 σ.frame σ.store) σ) (omega arith)
  act_left (Branch a b) k vs σ =
      top_left vs σ _ (all_size (Branch a b ∷ k)) (omega arith) (λ v rest. branch_left (truth_of v)
      (run_on (DoStmt a ∷ k) rest σ) (run_on (DoStmt b ∷ k) rest σ) k σ (all_size (Branch a b ∷ k)) (omega arith)
      (simple (Branch a b ∷ k) (DoStmt a ∷ k) rest σ σ (omega arith) (omega arith))
      (simple (Branch a b ∷ k) (DoStmt b ∷ k) rest σ σ (omega arith) (omega arith)))
  act_left (AndThen e) k vs σ =
      top_left vs σ _ (all_size (AndThen e ∷ k)) (omega arith) (λ v rest. branch_left (truth_of v)
      (run_on (DoExpr e ∷ OnTop alone_of.Truth ∷ k) rest σ) (run_on k (truth_number false ∷ rest) σ) k σ (all_size (AndThen e ∷ k)) (omega arith)
      (simple (AndThen e ∷ k) (DoExpr e ∷ OnTop alone_of.Truth ∷ k) rest σ σ (omega arith) (omega arith))
      (simple (AndThen e ∷ k) k (truth_number false ∷ rest) σ σ (omega arith) (omega arith)))
  act_left (OrThen e) k vs σ =
      top_left vs σ _ (all_size (OrThen e ∷ k)) (omega arith) (λ v rest. branch_left (truth_of v)
      (run_on k (truth_number true ∷ rest) σ) (run_on (DoExpr e ∷ OnTop alone_of.Truth ∷ k) rest σ) k σ (all_size (OrThen e ∷ k)) (omega arith)
      (simple (OrThen e ∷ k) k (truth_number true ∷ rest) σ σ (omega arith) (omega arith))
      (simple (OrThen e ∷ k) (DoExpr e ∷ OnTop alone_of.Truth ∷ k) rest σ σ (omega arith) (omega arith)))
  act_left (Pick a b) k vs σ =
      top_left vs σ _ (all_size (Pick a b ∷ k)) (omega arith) (λ v rest. branch_left (truth_of v)
      (run_on (DoExpr a ∷ k) rest σ) (run_on (DoExpr b ∷ k) rest σ) k σ (all_size (Pick a b ∷ k)) (omega arith)
      (simple (Pick a b ∷ k) (DoExpr a ∷ k) rest σ σ (omega arith) (omega arith))
      (simple (Pick a b ∷ k) (DoExpr b ∷ k) rest σ σ (omega arith) (omega arith)))
  act_left DropTop k vs σ = top_left vs σ _ (all_size (DropTop ∷ k)) (omega arith) (λ v rest. simple (DropTop ∷ k) k rest σ σ (omega arith) (omega arith))
  act_left (Enter f) k vs σ = enter_left (function_at code f) k σ (all_size (Enter f ∷ k)) (callee_size code f) (omega arith)
  act_left (Leave d) k vs σ =
      fall_left d (lift (P.row XsEnd [] σ.frame σ.store) σ) σ.turns (all_size (Leave d ∷ k)) (lift_turns (P.row XsEnd [] σ.frame σ.store) σ) (omega arith)

  step_of_pending : (k : List Work) (m : Mach S) → m.pending ≡ k → (k ≡ [] → ⊥) → left code (step P code m) < left code m
  step_of_pending [] m e h = absurd (h refl)
  step_of_pending (w ∷ k) m e h =
      let goes : step P code m ≡ act P code w k m.operands m.state = ap (λ l. step_at P code l m) e in
      let now : left code m ≡ m.state.turns * most + all_size (w ∷ k) = ap (λ l. m.state.turns * most + all_size l) e in
      omega (arith, act_left w k m.operands m.state, ap (left code) goes, now)

  -- a step leaves less
  pub step_left : (m : Mach S) → (m.pending ≡ [] → ⊥) → left code (step P code m) < left code m
  step_left m h = step_of_pending m.pending m refl h

  -- one step more
  pub steps_more : (j : ℕ) (m : Mach S) → steps P code (suc j) m ≡ step P code (steps P code j m)
  steps_more zero m = refl
  steps_more (suc j) m = steps_more j (step P code m)

  -- a run that is over stays over
  pub stays : (j : ℕ) (m : Mach S) → m.pending ≡ [] → steps P code j m ≡ m
  stays zero m e = refl
  stays (suc j) m e = let same : step P code m ≡ m = ap (λ l. step_at P code l m) e in ap (steps P code j) same ∙ stays j m e

  -- so two ends of one run are the same
  pub one_end : (i j : ℕ) (m : Mach S) → (steps P code i m).pending ≡ [] → (steps P code j m).pending ≡ [] → steps P code i m ≡ steps P code j m
  one_end zero j m e f = sym (stays j m e)
  one_end (suc i) zero m e f = stays (suc i) m f
  one_end (suc i) (suc j) m e f = one_end i j (step P code m) e f

  ends_pending : (k : List Work) (n : ℕ) (m : Mach S) → m.pending ≡ k → left code m ≤ n → (steps P code n m).pending ≡ []
  ends_pending [] n m e h = ap (λ (x : Mach S). x.pending) (stays n m e) ∙ e
  ends_pending (w ∷ k) zero m e h = let less = step_of_pending (w ∷ k) m e (λ q. cc) in absurd (omega (arith, h, less))
  ends_pending (w ∷ k) (suc n) m e h = let less =
      step_of_pending (w ∷ k) m e (λ q. cc) in ends_pending (step P code m).pending n (step P code m) refl (omega (arith, h, less))

  -- as many steps as are left end a run
  pub ends : (m : Mach S) → (steps P code (left code m) m).pending ≡ []
  ends m = ends_pending m.pending (left code m) m refl (omega arith)

  -- ---- the steps of a loop

  pub smaller : (code1 : Code) (m m1 : Mach S) → code1 ≡ code → m1 ≡ step P code m → (m.pending ≡ [] → ⊥) → left code1 m1 < left code m
  smaller code1 m m1 e goes h =
      let same : left code1 m1 ≡ left code (step P code m) = ap (λ f. left f m1) e ∙ ap (left code) goes in
      omega (arith, step_left m h, same)

  pub one_more : (code1 : Code) (j : ℕ) (m0 m m1 : Mach S) → code1 ≡ code → m ≡ steps P code j m0 → m1 ≡ step P code1 m → (x : ℕ) × (m1 ≡ steps P code x m0)
  one_more code1 j m0 m m1 e runs goes = (suc j, goes ∙ ap (λ f. step P f m) e ∙ ap (step P code) runs ∙ sym (steps_more j m0))

  -- a run that is over has come as far as it can
  pub run_reached : (m0 m : Mach S) (j : ℕ) → m ≡ steps P code j m0 → m.pending ≡ [] → m ≡ steps P code (left code m0) m0
  run_reached m0 m j e over = e ∙ one_end j (left code m0) m0 (ap (λ (x : Mach S). x.pending) (sym e) ∙ over) (ends m0)

  -- ---- a call

  fall_ended : (d : Depths) (o : Out S Operand) → (fall_off P d o).pending ≡ []
  fall_ended d (Done v σ) = refl
  fall_ended d (Stop a σ) = leave_ended a d σ

  over_ended : (d : Depths) (o : Out S (Unit {0})) → (call_over P code d o).pending ≡ []
  over_ended d (Done u σ) = fall_ended d (lift (P.row XsEnd [] σ.frame σ.store) σ)
  over_ended d (Stop a σ) = leave_ended a d σ

  -- after a function's body
  body_over : (m : Mach S) (d : Depths) (o : Out S (Unit {0})) → Comes P code m (land P passed (Leave d ∷ []) [] o) → Comes P code m (call_over P code d o)
  body_over m d (Done u σ) c = comes_by P code m _ _ c (comes_on P code _ _ (comes_at P code _ _ refl))
  body_over m d (Stop a σ) c = c

  ticks : (turns : ℕ) (f : Function) (d : Depths) (σ : State S)
      → Comes P code (tick turns (unwind P Spent (Leave d ∷ []) σ) (λ t. run_on (DoStmt f.body ∷ Leave d ∷ []) [] (entered f t σ)))
      (call_over P code d (tick turns (Stop Spent σ) (λ t. exec P f.body (entered f t σ))))
  ticks zero f d σ = comes_at P code _ _ refl
  ticks (suc t) f d σ = body_over _ d (exec P f.body (entered f t σ)) (stmt_follows P code f.body (Leave d ∷ []) [] (entered f t σ))

  enters : (f : Option Function) (d : Depths) (σ : State S) → Comes P code (enter P f (Leave d ∷ []) σ) (call_over P code d (call_meaning P code f σ))
  enters None d σ = comes_at P code _ _ refl
  enters (Some f) d σ = ticks σ.turns f d σ

  -- the steps of a call come to where its meaning says
  pub call_comes : (f : Option ℕ) (d : Depths) (σ : State S)
      → Comes P code (run_on (Enter f ∷ Leave d ∷ []) [] σ) (call_over P code d (call_meaning P code (function_at code f) σ))
  call_comes f d σ = comes_on P code _ _ (enters (function_at code f) d σ)

  -- a run that is over stands where it comes
  pub run_is : (m m1 : Mach S) → Comes P code m m1 → m1.pending ≡ [] → steps P code (left code m) m ≡ m1
  run_is m m1 c e =
      let at = c.by 0 in
      one_end (left code m) at.0 m (ends m) (ap (λ (x : Mach S). x.pending) at.1 ∙ e) ∙ at.1

  pub run_over : (f : Option ℕ) (d : Depths) (σ : State S)
      → steps P code (left code (run_on (Enter f ∷ Leave d ∷ []) [] σ)) (run_on (Enter f ∷ Leave d ∷ []) [] σ)
      ≡ call_over P code d (call_meaning P code (function_at code f) σ)
  run_over f d σ = run_is _ _ (call_comes f d σ) (over_ended d (call_meaning P code (function_at code f) σ))

at_end : (code : Code) (over : Bool) (m begun met : Mach World) → m.pending ≡ [] → run code begun ≡ met → run code (cond over m begun) ≡ cond over m met
at_end code true m begun met idle e = stays counted_rows code (left code m) m idle
at_end code false m begun met idle e = e

-- what bars a call bars its run
unless_barred_run : (code : Code) (args : List ℕ) (m begun met : Mach World) → m.pending ≡ [] → run code begun ≡ met
    → run code (unless_barred args m begun) ≡ unless_barred args m met
unless_barred_run code args m begun met idle e =
    at_end code (is_over m.stopped) m _ _ idle
    (at_end code (nat_lt most_items (m.state.store.top + length args)) (halt (outcome.Trapped trap.Large) m.state) begun met refl e)

pub call_means : (code : Code) → CallMeans code
call_means code sub f args turns m idle =
    unless_barred_run code args m _ _ idle (run_over counted_rows code f (depths_of m.state.store) (begun_state sub args turns m.state))

pub run_ends : (code : Code) → RunEnds code
run_ends code m = ends counted_rows code m
