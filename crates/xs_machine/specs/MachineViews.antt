-- The machine of the program, seen as the machine of the definitions.
use Rattle.std.specs.Prelude.{◌≡◌, ℕ, List, [], ◌∷◌, map, reverse, Result}
use Rattle.xs_values.specs.declared.trap.Trap.{Trap}
use Rattle.xs_api.specs.declared.api.Operand.{Operand}
use Rattle.xs_ctree.specs.declared.typed.Typed.{Typed}
use Rattle.xs_machine.specs.declared.machine.Machine.{Machine}
use Rattle.xs_machine.specs.declared.machine.Outcome.TheVariants as outcome
use Rattle.xs_machine.specs.declared.machine.Task.{Task}
use Rattle.xs_machine.specs.declared.machine.Task.TheVariants as task
use Rattle.xs_ctree.specs.Arena.{ranged}
use Rattle.xs_ctree.specs.Functions.{code_of, expr_in, stmt_in}
use Rattle.xs_machine.specs.Machine.{Mach, Work, short_of, with_world, DoExpr, DoExprs, DoStmt, DoStmts, SetVar, OnTop, Operate, ToType, DoRow, Branch, AndThen, OrThen, Pick, DropTop, Enter, Leave}
use Rattle.xs_machine.specs.MachineState.{State, given_or, operate}
use Rattle.xs_api.specs.declared.api.Stop.{Stop}
use Rattle.xs_values.specs.declared.plain.Plain.{Plain}
use Rattle.xs_values.specs.declared.operator.Op.{Op}
use Rattle.xs_ctree.specs.TypedTree.{Code, exprs_of, stmts_of}
use Rattle.xs_api.specs.PerlViews.{MakesTemporary, world_of}
use Rattle.xs_api.specs.World.{World}

abbrev pub task_of : Typed → Task → Work
task_of t (task.DoExpr i) = DoExpr (expr_in t i)
task_of t (task.DoExprs r) = DoExprs (exprs_of (map (expr_in t) (ranged t.parts.items r)))
task_of t (task.DoStmt i) = DoStmt (stmt_in t i)
task_of t (task.DoStmts r) = DoStmts (stmts_of (map (stmt_in t) (ranged t.parts.items r)))
task_of t (task.SetVar x ty) = SetVar x ty
task_of t (task.OnTop op) = OnTop op
task_of t (task.Operate op) = Operate op
task_of t (task.ToType ty) = ToType ty
task_of t (task.DoRow r n) = DoRow r n
task_of t (task.Branch a b) = Branch (stmt_in t a) (stmt_in t b)
task_of t (task.AndThen e) = AndThen (expr_in t e)
task_of t (task.OrThen e) = OrThen (expr_in t e)
task_of t (task.Pick a b) = Pick (expr_in t a) (expr_in t b)
task_of t task.DropTop = DropTop
task_of t (task.Enter f) = Enter f
task_of t (task.Leave d) = Leave d

abbrev pub pending_of : Machine → List Work
pending_of m = map (task_of m.typed) (reverse m.pending.items)

abbrev pub operands_of : Machine → List Operand
operands_of m = reverse m.operands.items

abbrev pub state_of : Machine → State World
state_of m = record {
  vars = m.vars.items;
  frame = m.frame;
  store = world_of m.perl;
  turns = m.turns;
}

abbrev pub mach_of : Machine → Mach World
mach_of m = record {
  pending = pending_of m;
  operands = operands_of m;
  state = state_of m;
  stopped = m.stopped;
}

-- the file that a machine runs
abbrev pub code_in : Machine → Code
code_in m = code_of m.typed

-- a machine that is short of an operand ends all work
abbrev pub IsShort : Machine → Machine → Type 0
IsShort old new = (operands_of old ≡ []) × (mach_of new ≡ short_of (state_of old))

-- the topmost operand of a machine, which goes on with the others
abbrev pub HasTop : Operand → Machine → Machine → Type 0
HasTop v old new = (operands_of old ≡ v ∷ operands_of new) × (pending_of new ≡ pending_of old)
    × (state_of new ≡ state_of old) × (new.stopped ≡ old.stopped)

-- what an operator gave
abbrev pub Operates : Op → Operand → Operand → Result Operand Trap → Type 0
Operates op a b r = (σ : State World) → operate op a b σ ≡ given_or r σ

-- an argument is made as a temporary, and the machine is else as it was
abbrev pub MakesArgument : Plain → Mach World → Result ℕ Stop → Mach World → Type 0
MakesArgument p old made new = MakesTemporary p old.state.store made new.state.store
    × (new ≡ with_world new.state.store old)

-- where memory runs out nothing is run any more
abbrev pub IsFailed : Mach World → Type 0
IsFailed m = (m.stopped ≡ outcome.Memory) × (m.pending ≡ [])
