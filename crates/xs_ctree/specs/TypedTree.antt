-- The typed code of a file: a variable is a slot, never a name, and each node has its type. A line
-- is the one that faults of a later stage tell of the node; `bare` puts 0 in its place.
use Rattle.std.specs.Option.{option_map}
use Rattle.std.specs.Prelude.{ℕ, zero, suc, Bool, true, false, List, [], ◌∷◌, map, Option}
use Rattle.xs_values.specs.Numbers.{Number}
use Rattle.xs_values.specs.declared.kind.Kind.{Kind}
use Rattle.xs_values.specs.declared.operator.Op.{Op}
use Rattle.xs_values.specs.declared.unary_operator.UnOp.{UnOp}
use Rattle.xs_perlapi.specs.declared.row.Row.{Row}
use Rattle.xs_ctree.specs.declared.node.Sort.{Sort}
use Rattle.xs_ctree.specs.declared.node.Sort.TheVariants.{Helper, XsFunction, Boot}
use Rattle.xs_ctree.specs.declared.node.StepOp.{StepOp}
use Rattle.xs_ctree.specs.declared.value_type.RecordType.{RecordType}
use Rattle.xs_ctree.specs.declared.value_type.Slot.{Slot}
use Rattle.xs_ctree.specs.declared.value_type.ValueType.{ValueType}

abbrev pub Line : Type 0
Line = ℕ

mutual
  -- Leaves: a number; a text literal; NULL as a pointer of a type; a variable; items; ix; a field,
  -- by the slot of its pointer, its record and its number; the address of a variable; the one byte
  -- of a variable as a text; croak_xs_usage with the text of the parameters.
  -- With one operand: parentheses; a helper's result that is read; a cast; the pointer to a record
  -- that a number is; `!`; an operator; what a pointer points to, with its type; SvPV with the slot
  -- of the length.
  -- With two: a byte of a text; an operator; `==` of pointers (true) or `!=`; `&&`; `||`.
  -- `?:` with the type of its value; `++` and `--`; an assignment, whose value is converted to the
  -- type of what is assigned to; an assignment with an operator.
  -- With operands evaluated from left to right: a row of Perl's API; croak with its format; the
  -- call of a helper, by the number of the function.
  pub data Expr : Type 0 where
    Literal : Number → Expr
    Letters : List ℕ → Expr
    Null : ValueType → Expr
    Variable : ℕ → Expr
    ItemCount : Expr
    AliasIndex : Expr
    Passed : Expr → Expr
    Read : Expr → Expr
    Cast : ValueType → Expr → Expr
    RecordOf : ℕ → Expr → Expr
    ByteAt : Expr → Expr → Expr
    Field : Line → ℕ → ℕ → ℕ → Expr
    Not : Expr → Expr
    Unary : UnOp → Expr → Expr
    Binary : Op → Expr → Expr → Expr
    Same : Bool → Expr → Expr → Expr
    And : Expr → Expr → Expr
    Or : Expr → Expr → Expr
    Choice : Line → ValueType → Expr → Expr → Expr → Expr
    Address : ℕ → Expr
    Letter : ℕ → Expr
    Pointed : Line → ValueType → Expr → Expr
    StepOf : Line → StepOp → Target → Expr
    Assign : Line → Target → Expr → Expr
    Compound : Line → Target → Op → Expr → Expr
    Api : Line → Row → Exprs → Expr
    TextWithLength : Line → ℕ → Expr → Expr
    Croak : Line → List ℕ → Exprs → Expr
    Usage : Line → List ℕ → Expr
    Call : Line → ℕ → Exprs → Expr

  pub data Exprs : Type 0 where
    NoExprs : Exprs
    MoreExprs : Expr → Exprs → Exprs

  -- what is assigned to: a variable with its type; what the address in a slot points to, with its
  -- kind; a field, by the slot of its pointer, its record, its number and its kind; an item of the
  -- argument stack
  pub data Target : Type 0 where
    ToVariable : ℕ → ValueType → Target
    ToPointed : ℕ → Kind → Target
    ToField : ℕ → ℕ → ℕ → Kind → Target
    ToItem : Expr → Target

-- when a loop goes on
pub data Test : Type 0 where
  Always : Test
  When : Expr → Test

mutual
  -- a block with the slots that it declares; an expression whose value is dropped; the declaration
  -- of a slot, which is unset from there on; an if with what is run where the condition holds and
  -- where not; while, do and for: whether the test comes before the first turn, the test, the
  -- expression after each turn, and the body; switch with the kind in which the labels are
  -- compared; break; continue; return without and with a value; an expression after which nothing
  -- of the function is run; newXS_deffile with the Perl name and the number of the function in the
  -- file's order, and whether `cv` keeps what was registered; the value of ix under the name that
  -- `cv` keeps; a new record, to which the pointer in a slot points
  pub data Stmt : Type 0 where
    Block : List Slot → Stmts → Stmt
    Effect : Expr → Stmt
    Declare : Line → ℕ → Stmt
    If : Line → Expr → Stmt → Stmt → Stmt
    Loop : Line → Bool → Test → Option Expr → Stmt → Stmt
    Switch : Line → Kind → Expr → Groups → Stmt
    Break : Line → Stmt
    Continue : Line → Stmt
    Return : Line → Stmt
    Give : Line → Expr → Stmt
    Quit : Line → Expr → Stmt
    Register : List ℕ → ℕ → Bool → Stmt
    SetIndex : Number → Stmt
    NewRecord : Line → ℕ → ℕ → Stmt

  pub data Stmts : Type 0 where
    NoStmts : Stmts
    MoreStmts : Stmt → Stmts → Stmts

  -- groups of a switch: labels, where None is `default`, and the statements after them
  pub data Groups : Type 0 where
    NoGroups : Groups
    MoreGroups : List (Option Number) → Stmts → Groups → Groups

abbrev pub exprs_of : List Expr → Exprs
exprs_of [] = NoExprs
exprs_of (e ∷ all) = MoreExprs e (exprs_of all)

abbrev pub stmts_of : List Stmt → Stmts
stmts_of [] = NoStmts
stmts_of (s ∷ all) = MoreStmts s (stmts_of all)

-- groups by their labels and the indices of their statements
abbrev pub groups_from : (ℕ → Stmt) → List (List (Option Number) × List ℕ) → Groups
groups_from stmt [] = NoGroups
groups_from stmt (g ∷ all) =
    MoreGroups g.0 (stmts_of (map stmt g.1)) (groups_from stmt all)

abbrev pub expr_count : Exprs → ℕ
expr_count NoExprs = zero
expr_count (MoreExprs e es) = suc (expr_count es)

-- what is run where an `if` without `else` has a condition that does not hold
abbrev pub nothing : Stmt
nothing = Block [] NoStmts

-- whether a function is the boot function
abbrev pub is_boot : Sort → Bool
is_boot (Helper count result) = false
is_boot XsFunction = false
is_boot Boot = true

-- A function: its C name, what it is, its variables in the order of their slots (those of a
-- helper's parameters first), and its body.
pub record Function : Type 0 where
  pub name : List ℕ
  pub sort : Sort
  pub slots : List Slot
  pub body : Stmt

-- A file whose names are resolved and whose types are right: its records and its functions, each in
-- their order.
pub record Code : Type 0 where
  pub records : List RecordType
  pub functions : List Function

-- ---- code with 0 in the place of each line

abbrev pub bare_slot : Slot → Slot
bare_slot s = record { number = s.number; of_type = s.of_type; line = 0 }

abbrev mutual
  pub bare_expr : Expr → Expr
  bare_expr (Literal n) = Literal n
  bare_expr (Letters text) = Letters text
  bare_expr (Null t) = Null t
  bare_expr (Variable x) = Variable x
  bare_expr ItemCount = ItemCount
  bare_expr AliasIndex = AliasIndex
  bare_expr (Passed e) = Passed (bare_expr e)
  bare_expr (Read e) = Read (bare_expr e)
  bare_expr (Cast t e) = Cast t (bare_expr e)
  bare_expr (RecordOf r e) = RecordOf r (bare_expr e)
  bare_expr (ByteAt e i) = ByteAt (bare_expr e) (bare_expr i)
  bare_expr (Field at x r f) = Field 0 x r f
  bare_expr (Not e) = Not (bare_expr e)
  bare_expr (Unary op e) = Unary op (bare_expr e)
  bare_expr (Binary op a b) = Binary op (bare_expr a) (bare_expr b)
  bare_expr (Same equal a b) = Same equal (bare_expr a) (bare_expr b)
  bare_expr (And a b) = And (bare_expr a) (bare_expr b)
  bare_expr (Or a b) = Or (bare_expr a) (bare_expr b)
  bare_expr (Choice at t e a b) = Choice 0 t (bare_expr e) (bare_expr a) (bare_expr b)
  bare_expr (Address x) = Address x
  bare_expr (Letter x) = Letter x
  bare_expr (Pointed at t e) = Pointed 0 t (bare_expr e)
  bare_expr (StepOf at op to) = StepOf 0 op (bare_target to)
  bare_expr (Assign at to e) = Assign 0 (bare_target to) (bare_expr e)
  bare_expr (Compound at to op e) = Compound 0 (bare_target to) op (bare_expr e)
  bare_expr (Api at r es) = Api 0 r (bare_exprs es)
  bare_expr (TextWithLength at x e) = TextWithLength 0 x (bare_expr e)
  bare_expr (Croak at format es) = Croak 0 format (bare_exprs es)
  bare_expr (Usage at text) = Usage 0 text
  bare_expr (Call at f es) = Call 0 f (bare_exprs es)

  pub bare_exprs : Exprs → Exprs
  bare_exprs NoExprs = NoExprs
  bare_exprs (MoreExprs e es) = MoreExprs (bare_expr e) (bare_exprs es)

  pub bare_target : Target → Target
  bare_target (ToVariable x t) = ToVariable x t
  bare_target (ToPointed x k) = ToPointed x k
  bare_target (ToField x r f k) = ToField x r f k
  bare_target (ToItem e) = ToItem (bare_expr e)

abbrev pub bare_test : Test → Test
bare_test Always = Always
bare_test (When e) = When (bare_expr e)

abbrev mutual
  pub bare_stmt : Stmt → Stmt
  bare_stmt (Block slots ss) = Block (map bare_slot slots) (bare_stmts ss)
  bare_stmt (Effect e) = Effect (bare_expr e)
  bare_stmt (Declare at x) = Declare 0 x
  bare_stmt (If at e a b) = If 0 (bare_expr e) (bare_stmt a) (bare_stmt b)
  bare_stmt (Loop at first test each s) =
      Loop 0 first (bare_test test) (option_map bare_expr each) (bare_stmt s)
  bare_stmt (Switch at k e gs) = Switch 0 k (bare_expr e) (bare_groups gs)
  bare_stmt (Break at) = Break 0
  bare_stmt (Continue at) = Continue 0
  bare_stmt (Return at) = Return 0
  bare_stmt (Give at e) = Give 0 (bare_expr e)
  bare_stmt (Quit at e) = Quit 0 (bare_expr e)
  bare_stmt (Register name f keeps) = Register name f keeps
  bare_stmt (SetIndex n) = SetIndex n
  bare_stmt (NewRecord at x r) = NewRecord 0 x r

  pub bare_stmts : Stmts → Stmts
  bare_stmts NoStmts = NoStmts
  bare_stmts (MoreStmts s ss) = MoreStmts (bare_stmt s) (bare_stmts ss)

  pub bare_groups : Groups → Groups
  bare_groups NoGroups = NoGroups
  bare_groups (MoreGroups labels ss gs) = MoreGroups labels (bare_stmts ss) (bare_groups gs)

abbrev pub bare_function : Function → Function
bare_function f = record {
  name = f.name;
  sort = f.sort;
  slots = map bare_slot f.slots;
  body = bare_stmt f.body;
}

-- the code without its lines
abbrev pub bare : Code → Code
bare c = record { records = c.records; functions = map bare_function c.functions }
