-- What single statements mean on counted scalars, each over any state that fits it.
use Rattle.std.proofs.Common.{◌≡◌, ℕ, suc, ℤ, ◌+◌, arith, true, false, List, [], ◌∷◌, length, Some, refl, ap}
use Rattle.std.proofs.lemmas.Bool.Decides.{nat_tests}
use Rattle.std.specs.Prelude.{nat_le, nat_lt, slice_get, slice_index_or, slice_set}
use Rattle.xs_api.specs.declared.api.Abrupt.{Abrupt}
use Rattle.xs_api.specs.declared.api.Abrupt.TheVariants.{Returns, Traps}
use Rattle.xs_api.specs.declared.api.Frame.{Frame}
use Rattle.xs_api.specs.declared.api.Operand.{Operand}
use Rattle.xs_api.specs.declared.api.Operand.TheVariants.{Unset, Num, Scalar}
use Rattle.xs_api.specs.declared.api.Registered.{Registered}
use Rattle.xs_api.specs.declared.heap.Cell.{Cell}
use Rattle.xs_machine.specs.Cmean.{eval, exec, exec_all}
use Rattle.xs_api.specs.Rows.{with_mortal}
use Rattle.xs_machine.specs.Dispatch.{counted_rows}
use Rattle.xs_machine.specs.MachineState.{State, Done, Stop}
use Rattle.xs_perlapi.specs.declared.row.Row.TheVariants.{SvNewMortal, SvSetIv, XsReturn}
use Rattle.xs_ctree.specs.declared.value_type.ValueType.TheVariants.{Number}
use Rattle.xs_ctree.specs.TypedTree.{Expr, Variable, Cast, Stmt, Stmts, MoreStmts}
use Rattle.xs_api.specs.World.{Cells, World, cell_at, is_read_only, may_make, with_cells, with_value}
use Rattle.xs_values.specs.declared.kind.Kind.TheVariants.{I32, I64}
use Rattle.xs_values.specs.declared.plain.Plain.TheVariants.{Undef, Int}
use Rattle.xs_values.specs.declared.trap.Trap.{Trap}
use Rattle.xs_values.specs.declared.trap.Trap.TheVariants.{Large}
use Rattle.xs_values.specs.Numbers as numbers
use Rattle.xs_values.specs.Numbers.{wrapped, wrapped_value}
use Rattle.xs_sim.specs.TreeBuilders.{assign_int, assign_item, assign_scalar, int_literal, item_as_int, row_done, row_of, row_quits}
use Rattle.xs_sim.specs.RunnerStates.{frame, state, world}
use Rattle.xs_sim.proofs.IntNumbers.{wrapped_twice}

-- one statement, and then the others
pub then_on : (s : Stmt) (ss : Stmts) (σ σ1 : State World) → exec counted_rows s σ ≡ Done tt σ1 → exec_all counted_rows (MoreStmts s ss) σ
    ≡ exec_all counted_rows ss σ1
then_on s ss σ σ1 e = rw e refl

-- a statement after which nothing is run
pub then_out : (s : Stmt) (ss : Stmts) (σ σ1 : State World) (way : Abrupt) → exec counted_rows s σ ≡ Stop way σ1
    → exec_all counted_rows (MoreStmts s ss) σ ≡ Stop way σ1
then_out s ss σ σ1 way e = rw e refl

pub input_done : (k n count : ℕ) (z : ℤ) (vars : List Operand) (f : Frame) (w : World) (turns : ℕ)
    → slice_get w.args (f.base + k) ≡ Some n → cell_at n w.cells ≡ Some (record { value = Int z; count = count })
    → exec counted_rows (assign_int k (item_as_int k)) (state vars f w turns)
    ≡ Done tt (state (slice_set vars k (Num (wrapped I32 z))) f w turns)
input_done k n count z vars f w turns e g =
    rw (e, g) (ap (λ v. Done tt (state (slice_set vars k (Num (record { kind = I32; value = v }))) f w turns)) (wrapped_twice z))

-- a variable of type `int` gets a number, or the expression traps
pub int_done : (slot : ℕ) (e : Expr) (n : numbers.Number) (vars : List Operand) (f : Frame) (w : World) (turns : ℕ)
    → eval counted_rows e (state vars f w turns) ≡ Done (Num n) (state vars f w turns)
    → exec counted_rows (assign_int slot e) (state vars f w turns)
    ≡ Done tt (state (slice_set vars slot (Num (wrapped I32 n.value))) f w turns)
int_done slot e n vars f w turns h = rw h refl

pub int_trapped : (slot : ℕ) (e : Expr) (trap : Trap) (vars : List Operand) (f : Frame) (w : World) (turns : ℕ)
    → eval counted_rows e (state vars f w turns) ≡ Stop (Traps trap) (state vars f w turns)
    → exec counted_rows (assign_int slot e) (state vars f w turns) ≡ Stop (Traps trap) (state vars f w turns)
int_trapped slot e trap vars f w turns h = rw h refl

pub mortal_done : (slot : ℕ) (vars : List Operand) (f : Frame) (w : World) (turns : ℕ)
    → may_make w.cells ≡ true
    → exec counted_rows (assign_scalar slot (row_of SvNewMortal [])) (state vars f w turns)
    ≡ Done tt (state (slice_set vars slot (Scalar (Some (length w.cells)))) f (with_mortal Undef w) turns)
mortal_done slot vars f w turns e = rw e refl

pub mortal_large : (slot : ℕ) (vars : List Operand) (f : Frame) (w : World) (turns : ℕ)
    → may_make w.cells ≡ false
    → exec counted_rows (assign_scalar slot (row_of SvNewMortal [])) (state vars f w turns)
    ≡ Stop (Traps Large) (state vars f w turns)
mortal_large slot vars f w turns e = rw e refl

-- the result scalar, which one variable names, gets the number of another
pub setiv_done : (scalar number : ℕ) (vars : List Operand) (n : numbers.Number) (r : ℕ) (c : Cell) (f : Frame) (w : World) (turns : ℕ)
    → slice_index_or vars scalar Unset ≡ Scalar (Some r) → slice_index_or vars number Unset ≡ Num n
    → cell_at r w.cells ≡ Some c → is_read_only r ≡ false
    → exec counted_rows (row_done SvSetIv (Variable scalar ∷ Cast (Number I64) (Variable number) ∷ [])) (state vars f w turns)
    ≡ Done tt (state vars f (with_cells (with_value r c (Int (wrapped_value I64 (wrapped_value I64 n.value))) w.cells) w) turns)
setiv_done scalar number vars n r c f w turns a b e g = rw (a, b, e, g) refl

-- ---- the one item

above_none : (n : ℕ) → nat_lt 0 (suc n) ≡ true
above_none n = grind (arith, nat_tests)

holds_one : (n : ℕ) → nat_le 1 (suc n) ≡ true
holds_one n = grind (arith, nat_tests)

-- the list with this as its first item
abbrev pub with_first : ℕ → List ℕ → List ℕ
with_first r [] = r ∷ []
with_first r (n ∷ ns) = r ∷ ns

pub item_done : (args : List ℕ) (scalar : ℕ) (vars : List Operand) (r : ℕ) (c : Cell) (called : List ℕ) (items : ℕ) (cells : Cells) (top : ℕ)
    (marks temps : List ℕ) (names : List Registered) (turns : ℕ)
    → slice_index_or vars scalar Unset ≡ Scalar (Some r) → cell_at r cells ≡ Some c
    → exec counted_rows (assign_item (int_literal 0) (Variable scalar))
    (state vars (frame called items) (world cells args top marks temps names) turns)
    ≡ Done tt (state vars (frame called items) (world cells (with_first r args) top marks temps names) turns)
item_done [] scalar vars r c called items cells top marks temps names turns a e = rw (a, e) refl
item_done (n ∷ ns) scalar vars r c called items cells top marks temps names turns a e = rw (a, e, above_none (length ns)) refl

pub item_returned : (args : List ℕ) (vars : List Operand) (r : ℕ) (called : List ℕ) (items : ℕ) (cells : Cells) (top : ℕ) (marks temps : List ℕ)
    (names : List Registered) (turns : ℕ)
    → exec counted_rows (row_quits XsReturn (int_literal 1 ∷ []))
    (state vars (frame called items) (world cells (with_first r args) top marks temps names) turns)
    ≡ Stop (Returns (r ∷ [])) (state vars (frame called items) (world cells (r ∷ []) 1 marks temps names) turns)
item_returned [] vars r called items cells top marks temps names turns = refl
item_returned (n ∷ ns) vars r called items cells top marks temps names turns = rw (holds_one (length ns)) refl
