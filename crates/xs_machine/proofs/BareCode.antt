-- Code runs as it does without its places.
use Rattle.std.proofs.Common.{◌≡◌, ℕ, zero, suc, List, Option, Some, None, refl, sym, ap, ap₂, ◌∙◌}
use Rattle.std.specs.Option.{option_map}
use Rattle.std.specs.Prelude.{Bool, true, false, replicate}
use Rattle.std.proofs.lemmas.List.{length-map}
use Rattle.std.proofs.lemmas.Option.{slice_get-map}
use Rattle.xs_api.specs.declared.api.Operand.{Operand}
use Rattle.xs_api.specs.declared.api.Operand.TheVariants.{Unset}
use Rattle.xs_api.specs.World.{World, depths_of}
use Rattle.xs_ctree.specs.Functions.{function_at}
use Rattle.xs_ctree.specs.TypedTree.{Expr, Passed, Read, Not, Unary, Cast, Binary, And, Or, Choice, Assign, Api, ToVariable, ToItem, Exprs, NoExprs, MoreExprs, Stmt, Block, Effect, If, Quit, Register, Stmts, NoStmts, MoreStmts, Function, Code, bare, bare_expr, bare_exprs, bare_function, bare_slot, bare_stmt, bare_stmts}
use Rattle.xs_machine.specs.Dispatch.{Prims, counted_rows}
use Rattle.xs_machine.specs.MachineState.{State, Out, Done, Stop, ◌>>=◌, tick, alone, convert, truth_number, truth_of}
use Rattle.xs_machine.specs.declared.machine.Alone.TheVariants as alone_of
use Rattle.xs_machine.specs.Cmean.{choose, eval, evals, exec, exec_all}
use Rattle.xs_machine.specs.Machine.{Mach, begun_state, call_meaning, call_over, entered, unless_barred}
use Rattle.xs_machine.specs.Laws.{called_by_meaning, PlacesDoNotMatter}
use Rattle.xs_machine.proofs.Ends.{call_means}

-- two runs that go on alike
on_one : {S A B : Type 0} (o : Out S A) (go go1 : A → State S → Out S B) → ((a : A) (σ : State S) → go a σ ≡ go1 a σ) → (o >>= go) ≡ (o >>= go1)
on_one (Done a σ) go go1 h = h a σ
on_one (Stop w σ) go go1 h = refl

goes_alike : {S A B : Type 0} (o p : Out S A) (go go1 : A → State S → Out S B) → o ≡ p → ((a : A) (σ : State S) → go a σ ≡ go1 a σ) → (o >>= go) ≡ (p >>= go1)
goes_alike o p go go1 e h = on_one o go go1 h ∙ ap (λ q. q >>= go1) e

chosen_alike : {S A : Type 0} (b : Option Bool) (σ : State S) (o p q r : Out S A) → o ≡ p → q ≡ r → choose b σ o q ≡ choose b σ p r
chosen_alike b σ o p q r e g = ap₂ (choose b σ) e g

module _ {S : Type 0} (P : Prims S) where
  -- the second operand of `&&` and `||`
  abbrev second : Expr → State S → Out S Operand
  second b σ = eval P b σ >>= λ u σ1. alone alone_of.Truth u σ1

  second_bare : (b : Expr) (σ : State S) → eval P (bare_expr b) σ ≡ eval P b σ → second (bare_expr b) σ ≡ second b σ
  second_bare b σ e = goes_alike (eval P (bare_expr b) σ) (eval P b σ) (λ u σ1. alone alone_of.Truth u σ1) (λ u σ1. alone alone_of.Truth u σ1) e (λ u σ1. refl)

  mutual
    eval_bare : (e : Expr) (σ : State S) → eval P (bare_expr e) σ ≡ eval P e σ
    eval_bare (Passed e) σ = eval_bare e σ
    eval_bare (Read e) σ = goes_alike _ _ _ _ (eval_bare e σ) (λ v σ1. refl)
    eval_bare (Not e) σ = goes_alike _ _ _ _ (eval_bare e σ) (λ v σ1. refl)
    eval_bare (Unary op e) σ = goes_alike _ _ _ _ (eval_bare e σ) (λ v σ1. refl)
    eval_bare (Cast t e) σ = goes_alike _ _ _ _ (eval_bare e σ) (λ v σ1. refl)
    eval_bare (Binary op a b) σ = goes_alike _ _ _ _ (eval_bare a σ) (λ v σ1. goes_alike _ _ _ _ (eval_bare b σ1) (λ u σ2. refl))
    eval_bare (And a b) σ =
        goes_alike _ _ _ _ (eval_bare a σ) (λ v σ1. chosen_alike (truth_of v) σ1 (second (bare_expr b) σ1) (second b σ1) _ (Done (truth_number false) σ1)
        (second_bare b σ1 (eval_bare b σ1)) refl)
    eval_bare (Or a b) σ =
        goes_alike _ _ _ _ (eval_bare a σ) (λ v σ1. chosen_alike (truth_of v) σ1 _ (Done (truth_number true) σ1) (second (bare_expr b) σ1) (second b σ1) refl
        (second_bare b σ1 (eval_bare b σ1)))
    eval_bare (Choice at t e a b) σ =
        goes_alike (eval P (bare_expr e) σ >>= λ v σ1. choose (truth_of v) σ1 (eval P (bare_expr a) σ1) (eval P (bare_expr b) σ1))
        (eval P e σ >>= λ v σ1. choose (truth_of v) σ1 (eval P a σ1) (eval P b σ1)) (λ u σ2. convert t u σ2) (λ u σ2. convert t u σ2)
        (goes_alike _ _ _ _ (eval_bare e σ) (λ v σ1. chosen_alike (truth_of v) σ1 _ _ _ _ (eval_bare a σ1) (eval_bare b σ1)))
        (λ u σ2. refl)
    eval_bare (Assign at (ToVariable x t) e) σ = goes_alike _ _ _ _ (eval_bare e σ) (λ v σ1. refl)
    eval_bare (Assign at (ToItem i) e) σ = goes_alike _ _ _ _ (eval_bare e σ) (λ v σ1. goes_alike _ _ _ _ (eval_bare i σ1) (λ u σ2. refl))
    eval_bare (Api at r es) σ = goes_alike _ _ _ _ (evals_bare es σ) (λ vs σ1. refl)
    eval_bare e σ = refl

    evals_bare : (es : Exprs) (σ : State S) → evals P (bare_exprs es) σ ≡ evals P es σ
    evals_bare NoExprs σ = refl
    evals_bare (MoreExprs e es) σ = goes_alike _ _ _ _ (eval_bare e σ) (λ v σ1. goes_alike _ _ _ _ (evals_bare es σ1) (λ vs σ2. refl))

  mutual
    pub exec_bare : (s : Stmt) (σ : State S) → exec P (bare_stmt s) σ ≡ exec P s σ
    exec_bare (Block slots ss) σ = exec_all_bare ss σ
    exec_bare (Effect e) σ = goes_alike _ _ _ _ (eval_bare e σ) (λ v σ1. refl)
    exec_bare (If at e a b) σ =
        goes_alike _ _ _ _ (eval_bare e σ) (λ v σ1. chosen_alike (truth_of v) σ1 _ _ _ _ (exec_bare a σ1) (exec_bare b σ1))
    exec_bare (Quit at e) σ = goes_alike _ _ _ _ (eval_bare e σ) (λ v σ1. refl)
    exec_bare (Register name f false) σ = refl
    exec_bare s σ = refl

    exec_all_bare : (ss : Stmts) (σ : State S) → exec_all P (bare_stmts ss) σ ≡ exec_all P ss σ
    exec_all_bare NoStmts σ = refl
    exec_all_bare (MoreStmts s ss) σ = goes_alike _ _ _ _ (exec_bare s σ) (λ u σ1. exec_all_bare ss σ1)

  entered_bare : (f : Function) (t : ℕ) (σ : State S) → entered (bare_function f) t σ ≡ entered f t σ
  entered_bare f t σ = ap (λ n. record σ { vars = replicate n Unset; turns = t }) (length-map f.slots bare_slot)

  turn_bare : (turns : ℕ) (f : Function) (σ : State S) (spent : Out S (Unit {0}))
      → tick turns spent (λ t. exec P (bare_stmt f.body) (entered (bare_function f) t σ)) ≡ tick turns spent (λ t. exec P f.body (entered f t σ))
  turn_bare zero f σ spent = refl
  turn_bare (suc t) f σ spent = exec_bare f.body (entered (bare_function f) t σ) ∙ ap (exec P f.body) (entered_bare f t σ)

  meaning_bare : (code code1 : Code) (f : Option Function) (σ : State S) → call_meaning P code1 (option_map bare_function f) σ ≡ call_meaning P code f σ
  meaning_bare code code1 None σ = refl
  meaning_bare code code1 (Some f) σ = turn_bare σ.turns f σ _

-- the function of a number
pub function_bare : (code : Code) (f : Option ℕ) → function_at (bare code) f ≡ option_map bare_function (function_at code f)
function_bare code None = refl
function_bare code (Some f) = slice_get-map bare_function code.functions f

meant_bare : (code : Code) (sub : List ℕ) (f : Option ℕ) (args : List ℕ) (turns : ℕ) (m : Mach World)
    → called_by_meaning (bare code) sub f args turns m ≡ called_by_meaning code sub f args turns m
meant_bare code sub f args turns m =
    ap (λ o. unless_barred args m (over (call_meaning counted_rows (bare code) o (begun_state sub args turns m.state)))) (function_bare code f)
    ∙ ap (λ o. unless_barred args m (over o)) (meaning_bare counted_rows code (bare code) (function_at code f) (begun_state sub args turns m.state))
  where
    over : Out World (Unit {0}) → Mach World
    over o = call_over counted_rows code (depths_of m.state.store) o

pub places_do_not_matter : (code : Code) → PlacesDoNotMatter code
places_do_not_matter code sub f args turns m idle =
    call_means (bare code) sub f args turns m idle ∙ meant_bare code sub f args turns m ∙ sym (call_means code sub f args turns m idle)
