-- What code means, without the machine.
use Rattle.std.specs.Prelude.{Bool, true, false, List, [], ◌∷◌, Option, Some, None}
use Rattle.xs_values.specs.declared.trap.Trap.TheVariants as trap
use Rattle.xs_perlapi.specs.declared.row.Row.TheVariants.{StSet}
use Rattle.xs_api.specs.declared.api.Abrupt.TheVariants.{Traps}
use Rattle.xs_api.specs.declared.api.Operand.{Operand}
use Rattle.xs_api.specs.declared.api.Operand.TheVariants.{Unset, Num}
use Rattle.xs_ctree.specs.TypedTree.{Expr, Literal, Variable, ItemCount, Passed, Read, Not, Unary, Cast, Binary, And, Or, Choice, Assign, Api, Usage, ToVariable, ToItem, Exprs, NoExprs, MoreExprs, Stmt, Block, Effect, Declare, If, Quit, Register, Stmts, NoStmts, MoreStmts}
use Rattle.xs_machine.specs.Dispatch.{Prims}
use Rattle.xs_machine.specs.MachineState.{State, Out, Done, Stop, ◌>>=◌, lift, read_var, write_var, assigned, assign_as, item_count, alone, operate, convert, truth_number, truth_of, unbuilt}
use Rattle.xs_machine.specs.declared.machine.Alone.TheVariants as alone_of

-- one of two runs, by a condition
abbrev pub choose : {S A : Type 0} → Option Bool → State S → Out S A → Out S A → Out S A
choose None σ a b = Stop (Traps trap.Kind) σ
choose (Some true) σ a b = a
choose (Some false) σ a b = b

-- a run whose value is dropped
abbrev pub dropped : {S A : Type 0} → Out S A → Out S (Unit {0})
dropped o = o >>= λ v σ. Done tt σ

module _ {S : Type 0} (P : Prims S) where
  abbrev mutual
    -- The value of an expression. An assignment evaluates its right side first. The second operand
    -- of `&&` and of `||` is evaluated only where the first asks for it, and one of the two behind
    -- `?`; that one's value is converted to the type of both (C11 6.5.13p4, 6.5.14p4, 6.5.15p4).
    pub eval : Expr → State S → Out S Operand
    eval (Literal n) σ = Done (Num n) σ
    eval (Variable x) σ = read_var x σ
    eval ItemCount σ = Done (item_count σ) σ
    eval (Passed e) σ = eval e σ
    eval (Read e) σ = eval e σ >>= λ v σ1. alone alone_of.Read v σ1
    eval (Not e) σ = eval e σ >>= λ v σ1. alone alone_of.Not v σ1
    eval (Unary op e) σ = eval e σ >>= λ v σ1. alone (alone_of.Sign op) v σ1
    eval (Cast t e) σ = eval e σ >>= λ v σ1. convert t v σ1
    eval (Binary op a b) σ = eval a σ >>= λ v σ1. eval b σ1 >>= λ u σ2. operate op v u σ2
    eval (And a b) σ =
        eval a σ >>= λ v σ1. choose (truth_of v) σ1
        (eval b σ1 >>= λ u σ2. alone alone_of.Truth u σ2) (Done (truth_number false) σ1)
    eval (Or a b) σ =
        eval a σ >>= λ v σ1. choose (truth_of v) σ1 (Done (truth_number true) σ1)
        (eval b σ1 >>= λ u σ2. alone alone_of.Truth u σ2)
    eval (Choice at t e a b) σ =
        (eval e σ >>= λ v σ1. choose (truth_of v) σ1 (eval a σ1) (eval b σ1))
        >>= λ u σ2. convert t u σ2
    eval (Assign at (ToVariable x t) e) σ = eval e σ >>= λ v σ1. assign_as (assigned t v) x σ1
    eval (Assign at (ToItem i) e) σ =
        eval e σ >>= λ v σ1. eval i σ1
        >>= λ u σ2. lift (P.row StSet (v ∷ u ∷ []) σ2.frame σ2.store) σ2
    eval (Api at r es) σ = evals es σ >>= λ vs σ1. lift (P.row r vs σ1.frame σ1.store) σ1
    eval (Usage at text) σ = lift (P.croak_usage text σ.frame σ.store) σ
    eval _ σ = unbuilt σ

    -- the values of operands, from left to right
    pub evals : Exprs → State S → Out S (List Operand)
    evals NoExprs σ = Done [] σ
    evals (MoreExprs e es) σ =
        eval e σ >>= λ v σ1. evals es σ1 >>= λ vs σ2. Done (v ∷ vs) σ2

  abbrev mutual
    pub exec : Stmt → State S → Out S (Unit {0})
    exec (Block slots ss) σ = exec_all ss σ
    exec (Effect e) σ = dropped (eval e σ)
    exec (Declare at x) σ = Done tt (write_var x Unset σ)
    exec (If at e a b) σ =
        eval e σ >>= λ v σ1. choose (truth_of v) σ1 (exec a σ1) (exec b σ1)
    exec (Quit at e) σ = dropped (eval e σ)
    exec (Register name f false) σ = dropped (lift (P.register name f σ.frame σ.store) σ)
    exec _ σ = unbuilt σ

    -- statements in order
    pub exec_all : Stmts → State S → Out S (Unit {0})
    exec_all NoStmts σ = Done tt σ
    exec_all (MoreStmts s ss) σ = exec s σ >>= λ u σ1. exec_all ss σ1
