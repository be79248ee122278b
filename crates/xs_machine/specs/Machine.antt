-- The machine, which works through a list of pending work one step at a time.
use Rattle.std.specs.Prelude.{ℕ, zero, suc, ◌+◌, ◌*◌, max, Bool, true, false, if◌then◌else◌, nat_lt, List, [], ◌∷◌, ◌++◌, length, take, replicate, Option, Some, None, codes}
use Rattle.xs_values.specs.declared.operator.Op.{Op}
use Rattle.xs_values.specs.declared.trap.Trap.TheVariants as trap
use Rattle.xs_api.specs.declared.api.Abrupt.{Abrupt}
use Rattle.xs_api.specs.declared.api.Abrupt.TheVariants.{Returns, Croaks, Traps, Spent}
use Rattle.xs_api.specs.declared.api.Frame.{Frame}
use Rattle.xs_api.specs.declared.api.Operand.{Operand}
use Rattle.xs_api.specs.declared.api.Operand.TheVariants.{Unset, Num}
use Rattle.xs_perlapi.specs.declared.row.Row.{Row}
use Rattle.xs_perlapi.specs.declared.row.Row.TheVariants.{StSet, XsEnd}
use Rattle.xs_ctree.specs.declared.value_type.ValueType.{ValueType}
use Rattle.xs_machine.specs.declared.machine.Outcome.{Outcome}
use Rattle.xs_machine.specs.declared.machine.Outcome.TheVariants as outcome
use Rattle.xs_api.specs.declared.stacks.Depths.{Depths}
use Rattle.xs_ctree.specs.Functions.{function_at, boot_at, name_of}
use Rattle.xs_ctree.specs.TypedTree.{Expr, Literal, Variable, ItemCount, Passed, Read, Not, Unary, Cast, Binary, And, Or, Choice, Assign, Api, Usage, Target, ToVariable, ToItem, Exprs, NoExprs, MoreExprs, Stmt, Block, Effect, Declare, If, Quit, Register, Stmts, NoStmts, MoreStmts, expr_count, Function, Code}
use Rattle.xs_api.specs.World.{World, Swept, Clean, Dirty, depths_of, new_cells, registered, sweep}
use Rattle.xs_machine.specs.Dispatch.{Prims}
use Rattle.xs_machine.specs.MachineState.{State, Out, Done, Stop, tick, lift, with_store, read_var, write_var, assigned, assign_as, item_count, alone, operate, convert, truth_number, truth_of, unbuilt}
use Rattle.xs_machine.specs.declared.machine.Alone.{Alone}
use Rattle.xs_machine.specs.declared.machine.Alone.TheVariants as alone_of
use Rattle.xs_api.specs.Limits.{most_items}
use Rattle.xs_machine.specs.Dispatch.{counted_rows}
use Rattle.xs_machine.specs.Cmean.{dropped, exec}

-- A piece of pending work: an expression; operands; a statement; statements; what is done with the
-- topmost operands; what goes on by a condition, which is one of two statements, the second operand
-- of `&&` or of `||`, or one of the two expressions of `?:`; the entry of a function by its number,
-- None where no function has the name; and the end of an XS function, with the heights of the
-- stacks at its entry.
pub data Work : Type 0 where
  DoExpr : Expr → Work
  DoExprs : Exprs → Work
  DoStmt : Stmt → Work
  DoStmts : Stmts → Work
  SetVar : ℕ → ValueType → Work
  OnTop : Alone → Work
  Operate : Op → Work
  ToType : ValueType → Work
  DoRow : Row → ℕ → Work
  Branch : Stmt → Stmt → Work
  AndThen : Expr → Work
  OrThen : Expr → Work
  Pick : Expr → Expr → Work
  DropTop : Work
  Enter : Option ℕ → Work
  Leave : Depths → Work

-- The state of a run: the pending work with what is next at the front, the operands with the
-- topmost at the front, what the run works on, and how the work that ended last came to its end.
pub record Mach (S : Type 0) : Type 0 where
  pub pending : List Work
  pub operands : List Operand
  pub state : State S
  pub stopped : Outcome

abbrev pub outcome_of : Abrupt → Outcome
outcome_of (Returns names) = outcome.Returned names
outcome_of (Croaks text) = outcome.Croaked text
outcome_of (Traps t) = outcome.Trapped t
outcome_of Spent = outcome.Spent

-- the n topmost operands in the order in which they came, and the others
abbrev pub popped : ℕ → List Operand → List Operand → List Operand × List Operand
popped zero acc vs = (acc, vs)
popped (suc n) acc [] = (acc, [])
popped (suc n) acc (v ∷ vs) = popped n (v ∷ acc) vs

-- the croak for a name that no function has
abbrev pub undefined_text : List ℕ → List ℕ
undefined_text name = codes "Undefined subroutine &" ++ name ++ codes " called"

module _ {S : Type 0} where
  abbrev pub run_on : List Work → List Operand → State S → Mach S
  run_on k vs σ = record { pending = k; operands = vs; state = σ; stopped = outcome.Returned [] }

  -- the end of all work
  abbrev pub halt : Outcome → State S → Mach S
  halt o σ = record { pending = []; operands = []; state = σ; stopped = o }

  -- the variables and the turns at the entry of a function
  abbrev pub entered : Function → ℕ → State S → State S
  entered f turns σ = record σ { vars = replicate (length f.slots) Unset; turns = turns }

  -- where operands are missing
  abbrev pub short_of : State S → Mach S
  short_of σ = halt (outcome.Trapped trap.Kind) σ

  abbrev pub on_top : List Operand → State S → (Operand → List Operand → Mach S) → Mach S
  on_top [] σ go = short_of σ
  on_top (v ∷ vs) σ go = go v vs

  -- the end of a sweep, after a croak
  abbrev pub swept_to : List ℕ → Swept S → State S → Mach S
  swept_to text (Clean s) σ = halt (outcome.Croaked text) (with_store s σ)
  swept_to text (Dirty t s) σ = halt (outcome.Trapped t) (with_store s σ)

-- what a statement leaves on the operands
abbrev pub passed : {A : Type 0} → A → List Operand → List Operand
passed a vs = vs

module _ {S : Type 0} (P : Prims S) where
  -- A run leaves an XS function: a croak frees the temporaries that were made since its entry and
  -- cuts the stacks.
  abbrev pub at_leave : Abrupt → Depths → State S → Mach S
  at_leave (Croaks text) d σ = swept_to text (P.cut d σ.store) σ
  at_leave a d σ = halt (outcome_of a) σ

  -- drops pending work up to where the exit leads
  abbrev pub unwind : Abrupt → List Work → State S → Mach S
  unwind a [] σ = halt (outcome_of a) σ
  unwind a (Leave d ∷ k) σ = at_leave a d σ
  unwind a (DoExpr e ∷ k) σ = unwind a k σ
  unwind a (DoExprs es ∷ k) σ = unwind a k σ
  unwind a (DoStmt s ∷ k) σ = unwind a k σ
  unwind a (DoStmts ss ∷ k) σ = unwind a k σ
  unwind a (SetVar x t ∷ k) σ = unwind a k σ
  unwind a (OnTop op ∷ k) σ = unwind a k σ
  unwind a (Operate op ∷ k) σ = unwind a k σ
  unwind a (ToType t ∷ k) σ = unwind a k σ
  unwind a (DoRow r n ∷ k) σ = unwind a k σ
  unwind a (Branch s t ∷ k) σ = unwind a k σ
  unwind a (AndThen e ∷ k) σ = unwind a k σ
  unwind a (OrThen e ∷ k) σ = unwind a k σ
  unwind a (Pick x y ∷ k) σ = unwind a k σ
  unwind a (DropTop ∷ k) σ = unwind a k σ
  unwind a (Enter f ∷ k) σ = unwind a k σ

  -- where a run stands once its part is over: put says what the part leaves on the operands
  abbrev pub land : {A : Type 0} → (A → List Operand → List Operand) → List Work → List Operand
      → Out S A → Mach S
  land put k vs (Done a σ) = run_on k (put a vs) σ
  land put k vs (Stop a σ) = unwind a k σ

  -- the end of a function's body
  abbrev pub fall_off : Depths → Out S Operand → Mach S
  fall_off d (Done v σ) = halt (outcome.Returned []) σ
  fall_off d (Stop a σ) = at_leave a d σ

  -- where a run goes on by a condition
  abbrev pub branch_on : Option Bool → Mach S → Mach S → List Work → State S → Mach S
  branch_on None held failed k σ = unwind (Traps trap.Kind) k σ
  branch_on (Some true) held failed k σ = held
  branch_on (Some false) held failed k σ = failed

  -- the entry of a function, which uses a turn; a name that no function has uses none
  abbrev pub enter : Option Function → List Work → State S → Mach S
  enter None k σ = unwind (Croaks (undefined_text σ.frame.called)) k σ
  enter (Some f) k σ =
      tick σ.turns (unwind Spent k σ) (λ turns. run_on (DoStmt f.body ∷ k) []
      (entered f turns σ))

  -- an assignment to a place, of an expression
  abbrev pub act_assign : Target → Expr → List Work → List Operand → State S → Mach S
  act_assign (ToVariable x t) e k vs σ = run_on (DoExpr e ∷ SetVar x t ∷ k) vs σ
  act_assign (ToItem i) e k vs σ = run_on (DoExpr e ∷ DoExpr i ∷ DoRow StSet 2 ∷ k) vs σ
  act_assign _ e k vs σ = land ◌∷◌ k vs (unbuilt {A = Operand} σ)

  -- one expression
  abbrev pub act_expr : Expr → List Work → List Operand → State S → Mach S
  act_expr (Literal n) k vs σ = run_on k (Num n ∷ vs) σ
  act_expr (Variable x) k vs σ = land ◌∷◌ k vs (read_var x σ)
  act_expr ItemCount k vs σ = run_on k (item_count σ ∷ vs) σ
  act_expr (Passed e) k vs σ = run_on (DoExpr e ∷ k) vs σ
  act_expr (Read e) k vs σ = run_on (DoExpr e ∷ OnTop alone_of.Read ∷ k) vs σ
  act_expr (Not e) k vs σ = run_on (DoExpr e ∷ OnTop alone_of.Not ∷ k) vs σ
  act_expr (Unary op e) k vs σ = run_on (DoExpr e ∷ OnTop (alone_of.Sign op) ∷ k) vs σ
  act_expr (Cast t e) k vs σ = run_on (DoExpr e ∷ ToType t ∷ k) vs σ
  act_expr (Binary op a b) k vs σ = run_on (DoExpr a ∷ DoExpr b ∷ Operate op ∷ k) vs σ
  act_expr (And a b) k vs σ = run_on (DoExpr a ∷ AndThen b ∷ k) vs σ
  act_expr (Or a b) k vs σ = run_on (DoExpr a ∷ OrThen b ∷ k) vs σ
  act_expr (Choice at t e a b) k vs σ = run_on (DoExpr e ∷ Pick a b ∷ ToType t ∷ k) vs σ
  act_expr (Assign at to e) k vs σ = act_assign to e k vs σ
  act_expr (Api at r es) k vs σ = run_on (DoExprs es ∷ DoRow r (expr_count es) ∷ k) vs σ
  act_expr (Usage at text) k vs σ =
      land ◌∷◌ k vs (lift (P.croak_usage text σ.frame σ.store) σ)
  act_expr _ k vs σ = land ◌∷◌ k vs (unbuilt {A = Operand} σ)

  -- one statement
  abbrev pub act_stmt : Stmt → List Work → List Operand → State S → Mach S
  act_stmt (Block slots ss) k vs σ = run_on (DoStmts ss ∷ k) vs σ
  act_stmt (Effect e) k vs σ = run_on (DoExpr e ∷ DropTop ∷ k) vs σ
  act_stmt (Declare at x) k vs σ = run_on k vs (write_var x Unset σ)
  act_stmt (If at e a b) k vs σ = run_on (DoExpr e ∷ Branch a b ∷ k) vs σ
  act_stmt (Quit at e) k vs σ = run_on (DoExpr e ∷ DropTop ∷ k) vs σ
  act_stmt (Register name f false) k vs σ =
      land passed k vs (dropped (lift (P.register name f σ.frame σ.store) σ))
  act_stmt _ k vs σ = land passed k vs (unbuilt {A = Unit {0}} σ)

  module _ (code : Code) where
    -- one piece of work
    abbrev pub act : Work → List Work → List Operand → State S → Mach S
    act (DoExpr e) k vs σ = act_expr e k vs σ
    act (DoExprs NoExprs) k vs σ = run_on k vs σ
    act (DoExprs (MoreExprs e es)) k vs σ = run_on (DoExpr e ∷ DoExprs es ∷ k) vs σ
    act (DoStmt s) k vs σ = act_stmt s k vs σ
    act (DoStmts NoStmts) k vs σ = run_on k vs σ
    act (DoStmts (MoreStmts s ss)) k vs σ = run_on (DoStmt s ∷ DoStmts ss ∷ k) vs σ
    act (SetVar x t) k vs σ =
        on_top vs σ (λ v rest. land ◌∷◌ k rest (assign_as (assigned t v) x σ))
    act (Operate op) k vs σ =
        on_top vs σ (λ u rest. on_top rest σ (λ v rest2. land ◌∷◌ k rest2 (operate op v u σ)))
    act (OnTop op) k vs σ = on_top vs σ (λ v rest. land ◌∷◌ k rest (alone op v σ))
    act (ToType t) k vs σ = on_top vs σ (λ v rest. land ◌∷◌ k rest (convert t v σ))
    act (DoRow r n) k vs σ =
        land ◌∷◌ k (popped n [] vs).1 (lift (P.row r (popped n [] vs).0 σ.frame σ.store) σ)
    act (Branch a b) k vs σ =
        on_top vs σ (λ v rest. branch_on (truth_of v) (run_on (DoStmt a ∷ k) rest σ)
        (run_on (DoStmt b ∷ k) rest σ) k σ)
    act (AndThen e) k vs σ =
        on_top vs σ (λ v rest. branch_on (truth_of v)
        (run_on (DoExpr e ∷ OnTop alone_of.Truth ∷ k) rest σ)
        (run_on k (truth_number false ∷ rest) σ) k σ)
    act (OrThen e) k vs σ =
        on_top vs σ (λ v rest. branch_on (truth_of v) (run_on k (truth_number true ∷ rest) σ)
        (run_on (DoExpr e ∷ OnTop alone_of.Truth ∷ k) rest σ) k σ)
    act (Pick a b) k vs σ =
        on_top vs σ (λ v rest. branch_on (truth_of v) (run_on (DoExpr a ∷ k) rest σ)
        (run_on (DoExpr b ∷ k) rest σ) k σ)
    act DropTop k vs σ = on_top vs σ (λ v rest. run_on k rest σ)
    act (Enter f) k vs σ = enter (function_at code f) k σ
    act (Leave d) k vs σ = fall_off d (lift (P.row XsEnd [] σ.frame σ.store) σ)

    abbrev pub step_at : List Work → Mach S → Mach S
    step_at [] m = m
    step_at (w ∷ k) m = act w k m.operands m.state

    -- One step. It changes nothing where no work is pending.
    abbrev pub step : Mach S → Mach S
    step m = step_at m.pending m

    abbrev pub steps : ℕ → Mach S → Mach S
    steps zero m = m
    steps (suc n) m = steps n (step m)

    -- What the call of a function means: its body's meaning, after the turn that its entry uses.
    abbrev pub call_meaning : Option Function → State S → Out S (Unit {0})
    call_meaning None σ = Stop (Croaks (undefined_text σ.frame.called)) σ
    call_meaning (Some f) σ =
        tick σ.turns (Stop Spent σ) (λ turns. exec P f.body (entered f turns σ))

    -- where the machine stands once a call is over
    abbrev pub call_over : Depths → Out S (Unit {0}) → Mach S
    call_over d (Done v σ) = fall_off d (lift (P.row XsEnd [] σ.frame σ.store) σ)
    call_over d (Stop a σ) = at_leave a d σ

-- ---- how much work there is at most

abbrev mutual
  pub expr_size : Expr → ℕ
  expr_size (Literal n) = 1
  expr_size (Variable x) = 1
  expr_size ItemCount = 1
  expr_size (Passed e) = expr_size e + 1
  expr_size (Read e) = expr_size e + 2
  expr_size (Not e) = expr_size e + 2
  expr_size (Unary op e) = expr_size e + 2
  expr_size (Cast t e) = expr_size e + 2
  expr_size (Binary op a b) = expr_size a + expr_size b + 2
  expr_size (And a b) = expr_size a + expr_size b + 3
  expr_size (Or a b) = expr_size a + expr_size b + 3
  expr_size (Choice at t e a b) = expr_size e + (expr_size a + expr_size b) + 3
  expr_size (Assign at to e) = target_size to + expr_size e + 2
  expr_size (Api at r es) = exprs_size es + 2
  expr_size (Usage at text) = 1
  expr_size _ = 1

  pub exprs_size : Exprs → ℕ
  exprs_size NoExprs = 1
  exprs_size (MoreExprs e es) = expr_size e + exprs_size es + 1

  pub target_size : Target → ℕ
  target_size (ToVariable x t) = 0
  target_size (ToItem e) = expr_size e
  target_size _ = 0

abbrev mutual
  pub stmt_size : Stmt → ℕ
  stmt_size (Block slots ss) = stmts_size ss + 1
  stmt_size (Effect e) = expr_size e + 2
  stmt_size (Declare at x) = 1
  stmt_size (If at e a b) = expr_size e + (stmt_size a + stmt_size b) + 2
  stmt_size (Quit at e) = expr_size e + 2
  stmt_size _ = 1

  pub stmts_size : Stmts → ℕ
  stmts_size NoStmts = 1
  stmts_size (MoreStmts s ss) = stmt_size s + stmts_size ss + 1

abbrev pub work_size : Work → ℕ
work_size (DoExpr e) = expr_size e
work_size (DoExprs es) = exprs_size es
work_size (DoStmt s) = stmt_size s
work_size (DoStmts ss) = stmts_size ss
work_size (SetVar x t) = 1
work_size (OnTop op) = 1
work_size (Operate op) = 1
work_size (ToType t) = 1
work_size (DoRow r n) = 1
work_size (Branch a b) = stmt_size a + stmt_size b + 1
work_size (AndThen e) = expr_size e + 2
work_size (OrThen e) = expr_size e + 2
work_size (Pick a b) = expr_size a + expr_size b + 1
work_size DropTop = 1
work_size (Enter f) = 1
work_size (Leave d) = 1

abbrev pub all_size : List Work → ℕ
all_size [] = 0
all_size (w ∷ k) = work_size w + all_size k

-- the most work that the entry of a function brings
abbrev pub entry_size : List Function → ℕ
entry_size [] = 1
entry_size (f ∷ all) = max (stmt_size f.body + 1) (entry_size all)

-- more than the steps that are left
abbrev pub left : {S : Type 0} → Code → Mach S → ℕ
left code m = m.state.turns * entry_size code.functions + all_size m.pending

-- ---- runs on counted scalars

-- the runner's world: the immortals alone, empty stacks and no name registered
abbrev pub new_world : World
new_world = record {
  cells = new_cells;
  args = [];
  top = 0;
  marks = [];
  temps = [];
  scopes = [];
  names = [];
}

-- the frame of a function that is called under a name, before its entry
abbrev pub frame_of : List ℕ → Frame
frame_of called = record { called = called; base = 0; items = 0 }

-- a machine that has run nothing
abbrev pub loaded : Mach World
loaded = record {
  pending = [];
  operands = [];
  state = record { vars = []; frame = frame_of []; store = new_world; turns = 0 };
  stopped =
      outcome.Returned [];
}

abbrev pub step_of : Code → Mach World → Mach World
step_of code m = step counted_rows code m

-- steps until no work is pending
abbrev pub run : Code → Mach World → Mach World
run code m = steps counted_rows code (left code m) m

-- whether a run came to an end after which nothing is run any more
abbrev pub is_over : Outcome → Bool
is_over (outcome.Returned names) = false
is_over (outcome.Croaked text) = false
is_over (outcome.Trapped t) = true
is_over outcome.Spent = true
is_over outcome.Memory = true

-- the world with a mark and the arguments above it
abbrev pub with_call : List ℕ → World → World
with_call args w =
    record w {
      args = take w.top w.args ++ args;
      top = w.top + length args;
      marks = w.top ∷ w.marks;
    }

-- the state at the beginning of a call
abbrev pub begun_state : List ℕ → List ℕ → ℕ → State World → State World
begun_state sub args turns σ =
    record { vars = []; frame = frame_of sub; store = with_call args σ.store; turns = turns }

abbrev pub begun_with : List ℕ → Option ℕ → List ℕ → ℕ → State World → Mach World
begun_with sub f args turns σ =
    run_on (Enter f ∷ Leave (depths_of σ.store) ∷ []) [] (begun_state sub args turns σ)

-- What a call with these arguments comes to, where nothing bars it: after a run that was over for
-- good nothing is run, and more items than the argument list may have trap Large.
abbrev pub unless_barred : List ℕ → Mach World → Mach World → Mach World
unless_barred args m goes =
    if is_over m.stopped then m
    else if nat_lt most_items (m.state.store.top + length args)
    then halt (outcome.Trapped trap.Large) m.state
    else goes

-- The entry of a function under a name is made the pending work.
abbrev pub begun_at : List ℕ → Option ℕ → List ℕ → ℕ → Mach World → Mach World
begun_at sub f args turns m = unless_barred args m (begun_with sub f args turns m.state)

-- the entry of the function that is registered under a name
abbrev pub begun : List ℕ → List ℕ → ℕ → Mach World → Mach World
begun sub args turns m = begun_at sub (registered sub m.state.store.names) args turns m

-- the entry of the boot function under its own name
abbrev pub boot_begun : Code → ℕ → Mach World → Mach World
boot_begun code turns m =
    begun_at (name_of (function_at code (boot_at code))) (boot_at code) [] turns m

-- a call, and the boot, run to the end
abbrev pub called : Code → List ℕ → List ℕ → ℕ → Mach World → Mach World
called code sub args turns m = run code (begun sub args turns m)

abbrev pub booted : Code → ℕ → Mach World → Mach World
booted code turns m = run code (boot_begun code turns m)

-- ---- the end of a call

-- the runner's stacks, which are empty
abbrev pub runner_depths : Depths
runner_depths = record { args = 0; marks = 0; temps = 0; scopes = 0 }

-- the machine with another world
abbrev pub with_world : World → Mach World → Mach World
with_world w m = record m { state = with_store w m.state }

abbrev pub settled_to : Swept World → Mach World → Mach World
settled_to (Clean w) m = with_world w m
settled_to (Dirty t w) m = record (with_world w m) { stopped = outcome.Trapped t }

-- Frees the temporaries of the last call and cuts all stacks to the runner's. Nothing is done where
-- a run was over for good.
abbrev pub settled : Mach World → Mach World
settled m =
    if is_over m.stopped then m else settled_to (sweep runner_depths m.state.store) m

abbrev pub or_returned : Outcome → Outcome
or_returned o = if is_over o then o else outcome.Returned []

-- what the settling answers: no items, or why a run was over for good
abbrev pub settle_answer : Mach World → Outcome
settle_answer m = or_returned (settled m).stopped
