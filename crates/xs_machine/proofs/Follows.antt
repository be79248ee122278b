-- The machine follows the meaning: inductions on expressions and on statements.
use Rattle.std.proofs.Common.{◌≡◌, ℕ, suc, Bool, true, false, List, [], ◌∷◌, length, refl, ap, ◌∙◌, arith, Option, Some, None}
use mathlib.Core.List.{reverse_aux}
use Rattle.xs_api.specs.declared.api.Abrupt.{Abrupt}
use Rattle.xs_api.specs.declared.api.Operand.{Operand}
use Rattle.xs_perlapi.specs.declared.row.Row.TheVariants.{StSet}
use Rattle.xs_ctree.specs.TypedTree.{Expr, Passed, Read, Not, Unary, Cast, Binary, And, Or, Choice, Assign, Api, ToVariable, ToItem, Exprs, NoExprs, MoreExprs, Stmt, Block, Effect, If, Quit, Register, Stmts, NoStmts, MoreStmts, expr_count, Code}
use Rattle.xs_machine.specs.Dispatch.{Prims}
use Rattle.xs_machine.specs.MachineState.{State, Out, Done, Stop, ◌>>=◌, lift, assigned, assign_as, alone, operate, convert, truth_number, truth_of}
use Rattle.xs_machine.specs.declared.machine.Alone.{Alone}
use Rattle.xs_machine.specs.declared.machine.Alone.TheVariants as alone_of
use Rattle.xs_machine.specs.Cmean.{choose, dropped, eval, evals, exec, exec_all}
use Rattle.xs_machine.specs.Machine.{Work, DoExpr, DoExprs, DoStmt, DoStmts, SetVar, OnTop, Operate, ToType, DoRow, Branch, AndThen, OrThen, Pick, DropTop, Mach, passed, popped, run_on, unwind, land, branch_on, step, steps}
use Rattle.xs_machine.specs.Laws.{ExprFollows, MachineFollows}
use Rattle.xs_machine.proofs.Tops.{popped_all}

module _ {S : Type 0} (P : Prims S) (code : Code) where
  -- the machine comes from one state to another
  pub record Comes (m m' : Mach S) : Type 0 where
    pub by : (k : ℕ) → (j : ℕ) × (steps P code j m ≡ steps P code k m')

  -- a step and then more
  pub comes_on : (m m' : Mach S) → Comes (step P code m) m' → Comes m m'
  comes_on m m' c = record { by = λ k. let b = c.by k in (suc b.0, b.1) }

  pub comes_by : (m m1 m2 : Mach S) → Comes m m1 → Comes m1 m2 → Comes m m2
  comes_by m m1 m2 c d = record { by = λ k. let b = d.by k in let a = c.by b.0 in (a.0, a.1 ∙ b.1) }

  pub comes_at : (m m' : Mach S) → m ≡ m' → Comes m m'
  comes_at m m' e = record { by = λ k. (k, ap (steps P code k) e) }

  -- a part, and what goes on after it
  then_on : {A B : Type 0} (puta : A → List Operand → List Operand) (putb : B → List Operand
      → List Operand) (m : Mach S) (k1 k : List Work) (vs vs1 : List Operand) (o : Out S A) (go : A → State S → Out S B) → Comes m (land P puta k1 vs o)
      → ((a : Abrupt) (σ : State S) → unwind P a k1 σ ≡ unwind P a k σ) → ((a : A) (σ : State S) → Comes (run_on k1 (puta a vs) σ) (land P putb k vs1 (go a σ)))
      → Comes m (land P putb k vs1 (o >>= go))
  then_on puta putb m k1 k vs vs1 (Done a σ) go f skip next = comes_by m _ _ f (next a σ)
  then_on puta putb m k1 k vs vs1 (Stop a σ) go f skip next = comes_by m _ _ f (comes_at _ _ (skip a σ))

  -- as many values as operands
  abbrev Sized : ℕ → Out S (List Operand) → Type 0
  Sized n (Done l σ) = length l ≡ n
  Sized n (Stop a σ) = Unit {0}

  sized_cons : (n : ℕ) (v : Operand) (o : Out S (List Operand)) → Sized n o → Sized (suc n) (o >>= λ l σ. Done (v ∷ l) σ)
  sized_cons n v (Done l σ) h = omega (arith, h)
  sized_cons n v (Stop a σ) h = tt

  sized_more : (n : ℕ) (o : Out S Operand) (go : State S → Out S (List Operand)) → ((σ : State S) → Sized n (go σ))
      → Sized (suc n) (o >>= λ v σ1. go σ1 >>= λ l σ2. Done (v ∷ l) σ2)
  sized_more n (Done v σ) go h = sized_cons n v (go σ) (h σ)
  sized_more n (Stop a σ) go h = tt

  operands_sized : (es : Exprs) (σ : State S) → Sized (expr_count es) (evals P es σ)
  operands_sized NoExprs σ = refl
  operands_sized (MoreExprs e es) σ = sized_more (expr_count es) (eval P e σ) (evals P es) (operands_sized es)

  then_row : (m : Mach S) (n : ℕ) (w : Work) (k : List Work) (vs : List Operand) (o : Out S (List Operand)) (go : List Operand → State S → Out S Operand)
      → Sized n o → Comes m (land P reverse_aux (w ∷ k) vs o) → ((a : Abrupt) (σ : State S) → unwind P a (w ∷ k) σ ≡ unwind P a k σ)
      → ((l : List Operand) (σ : State S) → popped n [] (reverse_aux l vs) ≡ (l, vs) → Comes (run_on (w ∷ k) (reverse_aux l vs) σ) (land P ◌∷◌ k vs (go l σ)))
      → Comes m (land P ◌∷◌ k vs (o >>= go))
  then_row m n w k vs (Done l σ) go s f skip next = comes_by m _ _ f (next l σ (popped_all l vs n s))
  then_row m n w k vs (Stop a σ) go s f skip next = comes_by m _ _ f (comes_at _ _ (skip a σ))

  -- one more operand in front
  cons_operands : (m : Mach S) (k : List Work) (vs : List Operand) (v : Operand) (o : Out S (List Operand)) → Comes m (land P reverse_aux k (v ∷ vs) o)
      → Comes m (land P reverse_aux k vs (o >>= λ l σ. Done (v ∷ l) σ))
  cons_operands m k vs v (Done l σ) f = f
  cons_operands m k vs v (Stop a σ) f = f

  -- one of two runs, by a condition
  choose_follows : {A : Type 0} (put : A → List Operand → List Operand) (b : Option Bool) (held failed : Mach S) (k : List Work) (vs : List Operand)
      (σ : State S) (x y : Out S A) → Comes held (land P put k vs x) → Comes failed (land P put k vs y)
      → Comes (branch_on P b held failed k σ) (land P put k vs (choose b σ x y))
  choose_follows put None held failed k vs σ x y f g = comes_at _ _ refl
  choose_follows put (Some true) held failed k vs σ x y f g = f
  choose_follows put (Some false) held failed k vs σ x y f g = g

  -- an operation on the value of an expression
  one_follows : (e : Expr) (op : Alone) (k : List Work) (vs : List Operand) (σ : State S)
      → Comes (run_on (DoExpr e ∷ OnTop op ∷ k) vs σ) (land P ◌∷◌ (OnTop op ∷ k) vs (eval P e σ))
      → Comes (run_on (DoExpr e ∷ OnTop op ∷ k) vs σ) (land P ◌∷◌ k vs (eval P e σ >>= λ v σ1. alone op v σ1))
  one_follows e op k vs σ c =
      then_on ◌∷◌ ◌∷◌ _ (OnTop op ∷ k) k vs vs (eval P e σ) (λ v σ1. alone op v σ1) c (λ a σ1. refl)
      (λ v σ1. comes_on _ _ (comes_at _ _ refl))

  mutual
    pub expr_follows : (e : Expr) (k : List Work) (vs : List Operand) (σ : State S) → Comes (run_on (DoExpr e ∷ k) vs σ) (land P ◌∷◌ k vs (eval P e σ))
    expr_follows (Passed e) k vs σ = comes_on _ _ (expr_follows e k vs σ)
    expr_follows (Read e) k vs σ = comes_on _ _ (one_follows e alone_of.Read k vs σ (expr_follows e (OnTop alone_of.Read ∷ k) vs σ))
    expr_follows (Not e) k vs σ = comes_on _ _ (one_follows e alone_of.Not k vs σ (expr_follows e (OnTop alone_of.Not ∷ k) vs σ))
    expr_follows (Unary op e) k vs σ = comes_on _ _ (one_follows e (alone_of.Sign op) k vs σ (expr_follows e (OnTop (alone_of.Sign op) ∷ k) vs σ))
    expr_follows (Cast t e) k vs σ =
        comes_on _ _ (then_on ◌∷◌ ◌∷◌ _ (ToType t ∷ k) k vs vs (eval P e σ) (λ v σ1. convert t v σ1)
        (expr_follows e (ToType t ∷ k) vs σ) (λ a σ1. refl)
        (λ v σ1. comes_on _ _ (comes_at _ _ refl)))
    expr_follows (Binary op a b) k vs σ =
        comes_on _ _ (then_on ◌∷◌ ◌∷◌ _ (DoExpr b ∷ Operate op ∷ k) k vs vs (eval P a σ) (λ v σ1. eval P b σ1 >>= λ u σ2. operate op v u σ2)
        (expr_follows a (DoExpr b ∷ Operate op ∷ k) vs σ) (λ x σ1. refl)
        (λ v σ1. then_on ◌∷◌ ◌∷◌ _ (Operate op ∷ k) k (v ∷ vs) vs (eval P b σ1) (λ u σ2. operate op v u σ2)
        (expr_follows b (Operate op ∷ k) (v ∷ vs) σ1) (λ x σ2. refl)
        (λ u σ2. comes_on _ _ (comes_at _ _ refl))))
    expr_follows (And a b) k vs σ =
        comes_on _ _ (then_on ◌∷◌ ◌∷◌ _ (AndThen b ∷ k) k vs vs (eval P a σ)
        (λ v σ1. choose (truth_of v) σ1 (eval P b σ1 >>= λ u σ2. alone alone_of.Truth u σ2) (Done (truth_number false) σ1))
        (expr_follows a (AndThen b ∷ k) vs σ) (λ x σ1. refl)
        (λ v σ1. comes_on _ _ (choose_follows ◌∷◌ (truth_of v) (run_on (DoExpr b ∷ OnTop alone_of.Truth ∷ k) vs σ1) (run_on k (truth_number false ∷ vs) σ1)
        k vs σ1 (eval P b σ1 >>= λ u σ2. alone alone_of.Truth u σ2) (Done (truth_number false) σ1)
        (one_follows b alone_of.Truth k vs σ1 (expr_follows b (OnTop alone_of.Truth ∷ k) vs σ1)) (comes_at _ _ refl))))
    expr_follows (Or a b) k vs σ =
        comes_on _ _ (then_on ◌∷◌ ◌∷◌ _ (OrThen b ∷ k) k vs vs (eval P a σ)
        (λ v σ1. choose (truth_of v) σ1 (Done (truth_number true) σ1) (eval P b σ1 >>= λ u σ2. alone alone_of.Truth u σ2))
        (expr_follows a (OrThen b ∷ k) vs σ) (λ x σ1. refl)
        (λ v σ1. comes_on _ _ (choose_follows ◌∷◌ (truth_of v) (run_on k (truth_number true ∷ vs) σ1) (run_on (DoExpr b ∷ OnTop alone_of.Truth ∷ k) vs σ1)
        k vs σ1 (Done (truth_number true) σ1) (eval P b σ1 >>= λ u σ2. alone alone_of.Truth u σ2) (comes_at _ _ refl)
        (one_follows b alone_of.Truth k vs σ1 (expr_follows b (OnTop alone_of.Truth ∷ k) vs σ1)))))
    expr_follows (Choice at t e a b) k vs σ =
        comes_on _ _ (then_on ◌∷◌ ◌∷◌ _ (ToType t ∷ k) k vs vs (eval P e σ >>= λ v σ1. choose (truth_of v) σ1 (eval P a σ1) (eval P b σ1))
        (λ u σ2. convert t u σ2)
        (then_on ◌∷◌ ◌∷◌ _ (Pick a b ∷ ToType t ∷ k) (ToType t ∷ k) vs vs (eval P e σ) (λ v σ1. choose (truth_of v) σ1 (eval P a σ1) (eval P b σ1))
        (expr_follows e (Pick a b ∷ ToType t ∷ k) vs σ) (λ x σ1. refl)
        (λ v σ1. comes_on _ _ (choose_follows ◌∷◌ (truth_of v) (run_on (DoExpr a ∷ ToType t ∷ k) vs σ1) (run_on (DoExpr b ∷ ToType t ∷ k) vs σ1)
        (ToType t ∷ k) vs σ1 (eval P a σ1) (eval P b σ1) (expr_follows a (ToType t ∷ k) vs σ1) (expr_follows b (ToType t ∷ k) vs σ1))))
        (λ x σ1. refl)
        (λ u σ2. comes_on _ _ (comes_at _ _ refl)))
    expr_follows (Assign at (ToVariable x t) e) k vs σ =
        comes_on _ _ (then_on ◌∷◌ ◌∷◌ _ (SetVar x t ∷ k) k vs vs (eval P e σ) (λ v σ1. assign_as (assigned t v) x σ1)
        (expr_follows e (SetVar x t ∷ k) vs σ) (λ a σ1. refl)
        (λ v σ1. comes_on _ _ (comes_at _ _ refl)))
    expr_follows (Assign at (ToItem i) e) k vs σ =
        comes_on _ _ (then_on ◌∷◌ ◌∷◌ _ (DoExpr i ∷ DoRow StSet 2 ∷ k) k vs vs (eval P e σ)
        (λ v σ1. eval P i σ1 >>= λ u σ2. lift (P.row StSet (v ∷ u ∷ []) σ2.frame σ2.store) σ2)
        (expr_follows e (DoExpr i ∷ DoRow StSet 2 ∷ k) vs σ) (λ x σ1. refl)
        (λ v σ1. then_on ◌∷◌ ◌∷◌ _ (DoRow StSet 2 ∷ k) k (v ∷ vs) vs (eval P i σ1)
        (λ u σ2. lift (P.row StSet (v ∷ u ∷ []) σ2.frame σ2.store) σ2)
        (expr_follows i (DoRow StSet 2 ∷ k) (v ∷ vs) σ1) (λ x σ2. refl)
        (λ u σ2. comes_on _ _ (comes_at _ _ refl))))
    expr_follows (Api at r es) k vs σ =
        comes_on _ _ (then_row _ (expr_count es) (DoRow r (expr_count es)) k vs (evals P es σ) (λ l σ1. lift (P.row r l σ1.frame σ1.store) σ1)
        (operands_sized es σ) (exprs_follow es (DoRow r (expr_count es) ∷ k) vs σ) (λ a σ1. refl)
        (λ l σ1 e. comes_on _ _ (comes_at _ _ (ap (λ (x : List Operand × List Operand). land P ◌∷◌ k x.1 (lift (P.row r x.0 σ1.frame σ1.store) σ1)) e))))
    expr_follows e k vs σ = comes_on _ _ (comes_at _ _ refl)

    exprs_follow : (es : Exprs) (k : List Work) (vs : List Operand) (σ : State S)
        → Comes (run_on (DoExprs es ∷ k) vs σ) (land P reverse_aux k vs (evals P es σ))
    exprs_follow NoExprs k vs σ = comes_on _ _ (comes_at _ _ refl)
    exprs_follow (MoreExprs e es) k vs σ =
        comes_on _ _ (then_on ◌∷◌ reverse_aux _ (DoExprs es ∷ k) k vs vs (eval P e σ) (λ v σ1. evals P es σ1 >>= λ l σ2. Done (v ∷ l) σ2)
        (expr_follows e (DoExprs es ∷ k) vs σ) (λ a σ1. refl)
        (λ v σ1. cons_operands _ k vs v (evals P es σ1) (exprs_follow es k (v ∷ vs) σ1)))

  -- an expression whose value is dropped
  dropped_follows : (e : Expr) (k : List Work) (vs : List Operand) (σ : State S)
      → Comes (run_on (DoExpr e ∷ DropTop ∷ k) vs σ) (land P passed k vs (dropped (eval P e σ)))
  dropped_follows e k vs σ =
      then_on ◌∷◌ passed _ (DropTop ∷ k) k vs vs (eval P e σ) (λ v σ1. Done tt σ1)
      (expr_follows e (DropTop ∷ k) vs σ) (λ a σ1. refl)
      (λ v σ1. comes_on _ _ (comes_at _ _ refl))

  mutual
    pub stmt_follows : (s : Stmt) (k : List Work) (vs : List Operand) (σ : State S) → Comes (run_on (DoStmt s ∷ k) vs σ) (land P passed k vs (exec P s σ))
    stmt_follows (Block slots ss) k vs σ = comes_on _ _ (stmts_follow ss k vs σ)
    stmt_follows (Effect e) k vs σ = comes_on _ _ (dropped_follows e k vs σ)
    stmt_follows (If at e a b) k vs σ =
        comes_on _ _ (then_on ◌∷◌ passed _ (Branch a b ∷ k) k vs vs (eval P e σ) (λ v σ1. choose (truth_of v) σ1 (exec P a σ1) (exec P b σ1))
        (expr_follows e (Branch a b ∷ k) vs σ) (λ x σ1. refl)
        (λ v σ1. comes_on _ _ (choose_follows passed (truth_of v) (run_on (DoStmt a ∷ k) vs σ1) (run_on (DoStmt b ∷ k) vs σ1) k vs σ1
        (exec P a σ1) (exec P b σ1) (stmt_follows a k vs σ1) (stmt_follows b k vs σ1))))
    stmt_follows (Quit at e) k vs σ = comes_on _ _ (dropped_follows e k vs σ)
    stmt_follows (Register name f false) k vs σ = comes_on _ _ (comes_at _ _ refl)
    stmt_follows s k vs σ = comes_on _ _ (comes_at _ _ refl)

    stmts_follow : (ss : Stmts) (k : List Work) (vs : List Operand) (σ : State S) → Comes (run_on (DoStmts ss ∷ k) vs σ) (land P passed k vs (exec_all P ss σ))
    stmts_follow NoStmts k vs σ = comes_on _ _ (comes_at _ _ refl)
    stmts_follow (MoreStmts s ss) k vs σ =
        comes_on _ _ (then_on passed passed _ (DoStmts ss ∷ k) k vs vs (exec P s σ) (λ u σ1. exec_all P ss σ1)
        (stmt_follows s (DoStmts ss ∷ k) vs σ) (λ a σ1. refl)
        (λ u σ1. stmts_follow ss k vs σ1))

pub exprs_run : {S : Type 0} (P : Prims S) (code : Code) → ExprFollows P code
exprs_run P code e k vs σ = (expr_follows P code e k vs σ).by 0

pub follows : {S : Type 0} (P : Prims S) (code : Code) → MachineFollows P code
follows P code s k vs σ = (stmt_follows P code s k vs σ).by 0
