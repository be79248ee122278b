-- The laws: the machine does what the trees mean.
use Rattle.std.specs.Prelude.{◌≡◌, ℕ, List, [], ◌∷◌, Option}
use Rattle.xs_api.specs.declared.api.Operand.{Operand}
use Rattle.xs_ctree.specs.Functions.{function_at}
use Rattle.xs_ctree.specs.TypedTree.{Code, Expr, Stmt, bare}
use Rattle.xs_api.specs.World.{World, depths_of}
use Rattle.xs_machine.specs.Dispatch.{Prims}
use Rattle.xs_machine.specs.MachineState.{State}
use Rattle.xs_machine.specs.Cmean.{eval, exec}
use Rattle.xs_machine.specs.Dispatch.{counted_rows}
use Rattle.xs_machine.specs.Machine.{Work, DoExpr, DoStmt, Mach, run_on, land, passed, steps, run, begun_at, begun_state, call_meaning, call_over, unless_barred}

-- From an expression with any work after it the machine comes to where the meaning says.
abbrev pub ExprFollows : {S : Type 0} → Prims S → Code → Type 0
ExprFollows {S} P code = (e : Expr) (k : List Work) (vs : List Operand) (σ : State S)
    → (j : ℕ) × (steps P code j (run_on (DoExpr e ∷ k) vs σ) ≡ land P ◌∷◌ k vs (eval P e σ))

-- So it does from a statement, which leaves the operands as they were.
abbrev pub MachineFollows : {S : Type 0} → Prims S → Code → Type 0
MachineFollows {S} P code = (s : Stmt) (k : List Work) (vs : List Operand) (σ : State S)
    → (j : ℕ) × (steps P code j (run_on (DoStmt s ∷ k) vs σ) ≡ land P passed k vs (exec P s σ))

-- what a call of a function under a name comes to, by the meaning of its body
abbrev pub called_by_meaning : Code → List ℕ → Option ℕ → List ℕ → ℕ → Mach World → Mach World
called_by_meaning code sub f args turns m =
    unless_barred args m (call_over counted_rows code (depths_of m.state.store)
    (call_meaning counted_rows code (function_at code f) (begun_state sub args turns m.state)))

-- The run of a call comes to where the meaning of the function's body says.
abbrev pub CallMeans : Code → Type 0
CallMeans code = (sub : List ℕ) (f : Option ℕ) (args : List ℕ) (turns : ℕ) (m : Mach World)
    → m.pending ≡ [] → run code (begun_at sub f args turns m)
    ≡ called_by_meaning code sub f args turns m

-- A run ends: no work is pending after it.
abbrev pub RunEnds : Code → Type 0
RunEnds code = (m : Mach World) → (run code m).pending ≡ []

-- Code runs as it does without the places that it tells.
abbrev pub PlacesDoNotMatter : Code → Type 0
PlacesDoNotMatter code = (sub : List ℕ) (f : Option ℕ) (args : List ℕ) (turns : ℕ)
    (m : Mach World) → m.pending ≡ []
    → run (bare code) (begun_at sub f args turns m) ≡ run code (begun_at sub f args turns m)
