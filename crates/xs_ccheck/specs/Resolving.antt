-- What the checking of expressions, statements and functions gives: nodes whose trees are those of
-- the definition, or the fault that it tells.
use Rattle.std.specs.Prelude.{◌≡◌, ℕ, true, List, [], ◌∷◌, ◌++◌, length, map, Option, None, Some, Result, Ok, Err}
use Rattle.std.specs.List.{list_all}
use Rattle.std.specs.Option.{option_map}
use Rattle.std.specs.declared.alloc.Global.{Global}
use Rattle.std.specs.declared.vec.Vec.{Vec}
use Rattle.xs_base.specs.declared.fault.Refuse.{Refuse}
use Rattle.xs_base.specs.declared.fault.Refuse.TheVariants as refuse
use Rattle.xs_values.specs.Numbers.{Number}
use Rattle.xs_ctree.specs.declared.node.Group.{Group}
use Rattle.xs_ctree.specs.declared.typed.Typed.{Typed}
use Rattle.xs_ctree.specs.Arena.{all_below, target_fits, target_from}
use Rattle.xs_ctree.specs.Functions.{expr_in, functions_in, records_in, stmt_in}
use Rattle.xs_ctree.specs.Growth.{HasExpr, HasStmt, Keeps, has_stmts}
use Rattle.xs_ctree.specs.declared.value_type.Slot.{Slot}
use Rattle.xs_ctree.specs.declared.value_type.ValueType.{ValueType}
use Rattle.xs_ctree.specs.TypedTree.{Block, Function, Stmt, stmts_of}
use Rattle.xs_ccheck.specs.declared.exprs.TypedNode.{TypedNode}
use Rattle.xs_ccheck.specs.declared.exprs.PlaceNode.{PlaceNode}
use Rattle.xs_ctypes.specs.Checked.{Checked, Good, Bad, judged}
use Rattle.xs_ccheck.specs.ExprTyping.{TypedExpr, TypedTarget}
use Rattle.xs_ccheck.specs.StmtTyping.{TypedGroup, for_loop, typed_group}

-- A call refuses with the fault that the definition tells, or where memory runs out.
abbrev pub Refuses : {A : Type 0} → Refuse → Checked A → Type 0
Refuses refuse.Memory read = Unit {0}
Refuses (refuse.Fault f) read = read ≡ Bad f

-- What was checked is what the definition tells, where `view` sees it among the nodes; its nodes
-- are there, and what was there is kept.
pub record Resolved {X A : Type 0} (view : Typed → X → A) (there : Typed → X
    → Type 0) (x : X) (old new : Typed) (read : Checked A) : Type 0 where
  pub means : read ≡ Good (view new x)
  pub there_is : there new x
  pub keeps : Keeps old new

abbrev pub Resolves : {X A : Type 0} → (Typed → X → A) → (Typed → X → Type 0) → Result X Refuse
    → Typed → Typed → Checked A → Type 0
Resolves view there (Ok x) old new read = Resolved view there x old new read
Resolves view there (Err e) old new read = Refuses e read

-- what holds unless memory ran out
abbrev pub UnlessMemory : {X : Type 0} → Result X Refuse → Type 0 → Type 0
UnlessMemory (Ok x) P = P
UnlessMemory (Err (refuse.Fault f)) P = P
UnlessMemory (Err refuse.Memory) P = Unit {0}

-- ---- expressions

abbrev pub typed_in : Typed → TypedNode → TypedExpr
typed_in t x = record { tree = expr_in t x.node; of_type = x.of_type }

abbrev pub HasTyped : Typed → TypedNode → Type 0
HasTyped t x = HasExpr t x.node

abbrev pub GivesExpr : Result TypedNode Refuse → Typed → Typed → Checked TypedExpr → Type 0
GivesExpr result old new read = Resolves typed_in HasTyped result old new read

abbrev pub nodes_of : List TypedNode → List ℕ
nodes_of xs = map (λ x. x.node) xs

abbrev pub all_typed_in : Typed → List TypedNode → List TypedExpr
all_typed_in t xs = map (typed_in t) xs

abbrev pub HaveTyped : Typed → List TypedNode → Type 0
HaveTyped t xs = all_below (length t.exprs.items) (nodes_of xs) ≡ true

abbrev pub GivesExprs : Result (Vec TypedNode Global) Refuse → Typed → Typed
    → Checked (List TypedExpr) → Type 0
GivesExprs result old new read =
    Resolves (λ t v. all_typed_in t v.items) (λ t v. HaveTyped t v.items) result old new read

-- a type
abbrev pub GivesType : Result ValueType Refuse → Checked ValueType → Type 0
GivesType (Ok t) read = read ≡ Good t
GivesType (Err e) read = Refuses e read

-- what is assigned to
abbrev pub target_in : Typed → PlaceNode → TypedTarget
target_in t p = record { target = target_from p.target (expr_in t); of_type = p.of_type }

abbrev pub HasTarget : Typed → PlaceNode → Type 0
HasTarget t p = target_fits (length t.exprs.items) p.target ≡ true

abbrev pub GivesTarget : Result PlaceNode Refuse → Typed → Typed → Checked TypedTarget → Type 0
GivesTarget result old new read = Resolves target_in HasTarget result old new read

-- an expression, where there is one
abbrev pub option_in : Typed → Option TypedNode → Option TypedExpr
option_in t o = option_map (typed_in t) o

abbrev pub HasOption : Typed → Option TypedNode → Type 0
HasOption t None = Unit {0}
HasOption t (Some x) = HasTyped t x

abbrev pub GivesOption : Result (Option TypedNode) Refuse → Typed → Typed
    → Checked (Option TypedExpr) → Type 0
GivesOption result old new read = Resolves option_in HasOption result old new read

-- ---- labels, which are no nodes

abbrev pub label_in : Typed → Option Number → Option Number
label_in t n = n

abbrev pub HasLabel : Typed → Option Number → Type 0
HasLabel t n = Unit {0}

abbrev pub GivesLabel : Result (Option Number) Refuse → Typed → Typed → Checked (Option Number)
    → Type 0
GivesLabel result old new read = Resolves label_in HasLabel result old new read

abbrev pub HaveLabels : Typed → List (Option Number) → Type 0
HaveLabels t ns = Unit {0}

abbrev pub GivesLabels : Result (Vec (Option Number) Global) Refuse → Typed → Typed
    → Checked (List (Option Number)) → Type 0
GivesLabels result old new read =
    Resolves (λ t v. map (label_in t) v.items) (λ t v. HaveLabels t v.items) result old new read

-- ---- statements

abbrev pub GivesStmt : Result ℕ Refuse → Typed → Typed → Checked Stmt → Type 0
GivesStmt result old new read = Resolves stmt_in HasStmt result old new read

abbrev pub all_stmts_in : Typed → List ℕ → List Stmt
all_stmts_in t xs = map (stmt_in t) xs

abbrev pub HaveStmts : Typed → List ℕ → Type 0
HaveStmts t xs = all_below (length t.stmts.items) xs ≡ true

abbrev pub GivesStmts : Result (Vec ℕ Global) Refuse → Typed → Typed → Checked (List Stmt) → Type 0
GivesStmts result old new read =
    Resolves (λ t v. all_stmts_in t v.items) (λ t v. HaveStmts t v.items) result old new read

-- the groups of a switch
abbrev pub group_in : Typed → Group → TypedGroup
group_in t g = typed_group (map (label_in t) g.labels.items) (all_stmts_in t g.body.items)

abbrev pub HasGroup : Typed → Group → Type 0
HasGroup t g = HaveStmts t g.body.items

abbrev pub GivesGroup : Result Group Refuse → Typed → Typed → Checked TypedGroup → Type 0
GivesGroup result old new read = Resolves group_in HasGroup result old new read

-- a group of these labels and statements
abbrev pub group_made : Result (Vec (Option Number) Global × Vec ℕ Global) Refuse
    → Result Group Refuse
group_made (Ok p) = Ok (record { labels = p.0; body = p.1 })
group_made (Err e) = Err e

abbrev pub HaveGroups : Typed → List Group → Type 0
HaveGroups t gs = list_all (has_stmts t) gs ≡ true

abbrev pub GivesGroups : Result (Vec Group Global) Refuse → Typed → Typed
    → Checked (List TypedGroup) → Type 0
GivesGroups result old new read =
    Resolves (λ t v. map (group_in t) v.items) (λ t v. HaveGroups t v.items) result old new read

-- the parts of a `for`: what stands first, its test, its step and its body
abbrev pub ForParts : Type 0
ForParts = ℕ × (Option TypedNode × (Option TypedNode × ℕ))

abbrev pub HasForParts : Typed → ForParts → Type 0
HasForParts t p =
    HasStmt t p.0 × (HasOption t p.1.0 × (HasOption t p.1.1.0 × HasStmt t p.1.1.1))

-- the end of a `for` at a line with these slots, where this is what its parts came to
abbrev pub ForEnds : ℕ → Result ForParts Refuse → List Slot → Typed → Result ℕ Refuse → Typed
    → Type 0
ForEnds line (Ok p) slots old result new =
    GivesStmt result old new
    (judged line (for_loop line slots (stmt_in old p.0) (option_in old p.1.0)
    (option_in old p.1.1.0) (stmt_in old p.1.1.1)))
ForEnds line (Err e) slots old result new = result ≡ Err e

-- the end of a block with these slots, where this is what its statements came to
abbrev pub BlockEnds : Result (Vec ℕ Global) Refuse → List Slot → Typed → Result ℕ Refuse → Typed
    → Type 0
BlockEnds (Ok body) slots old result new =
    GivesStmt result old new (Good (Block slots (stmts_of (all_stmts_in old body.items))))
BlockEnds (Err e) slots old result new = result ≡ Err e

-- statements stand at these indices
pub record Stand (old : Typed) (ss : List Stmt) (xs : List ℕ) (new : Typed) : Type 0 where
  pub keeps : Keeps old new
  pub there : HaveStmts new xs
  pub are : all_stmts_in new xs ≡ ss

-- ---- functions

-- parts that are nothing but checked
abbrev pub GivesNone : Result (Unit {0}) Refuse → Checked (List (Unit {0})) → Type 0
GivesNone (Ok u) read = (us : List (Unit {0})) × (read ≡ Good us)
GivesNone (Err e) read = Refuses e read

-- a function stands after the others
pub record IsFunction (old new : Typed) (read : Checked Function) : Type 0 where
  pub here : Function
  pub means : read ≡ Good here
  pub functions : functions_in new ≡ functions_in old ++ here ∷ []
  pub records : records_in new ≡ records_in old

abbrev pub GivesFunction : Result (Unit {0}) Refuse → Typed → Typed → Checked Function → Type 0
GivesFunction (Ok u) old new read = IsFunction old new read
GivesFunction (Err e) old new read = Refuses e read

-- all functions stand there, and no record
abbrev pub GivesFunctions : Result Typed Refuse → Checked (List Function) → Type 0
GivesFunctions (Ok t) read = (read ≡ Good (functions_in t)) × (records_in t ≡ [])
GivesFunctions (Err e) read = Refuses e read
