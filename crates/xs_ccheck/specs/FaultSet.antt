-- The faults of a file as a finite set, node by node, and the least of them. A node has its own
-- fault where its parts are sound and its rule refuses it. Nothing here collects faults or says in
-- which order they are found.
use Rattle.std.specs.Prelude.{◌≡◌, ◌<◌, ◌⊎◌, ℕ, ◌+◌, Bool, not, ◌||◌, if◌then◌else◌, List, [], ◌∷◌, Option, Some, None, codes, slice_get}
use Rattle.std.specs.Option.{option_map}
use Rattle.std.specs.Str.{bytes_eq}
use Rattle.xs_base.specs.declared.fault.Fault.{Fault}
use Rattle.xs_base.specs.declared.fault_codes.TheConstants.{TYPES_DIFFER, DECLARED_TWICE, WORD_NOT_ALLOWED, NOT_BUILT}
use Rattle.xs_cexpr.specs.ExpressionTree as syntax
use Rattle.xs_cexpr.specs.ExpressionTree.{ExprTree, ExprTrees, PlaceTree, VarPlace, StPlace}
use Rattle.xs_cstmt.specs.StatementTree as statement
use Rattle.xs_cstmt.specs.StatementTree.{DeclaratorTree, FirstTree, StmtTree, StmtTrees, GroupTrees}
use Rattle.xs_cstmt.specs.declared.tree.Label.{Label}
use Rattle.xs_csyn.specs.declared.tree.Define.{Define}
use Rattle.xs_csyn.specs.FileTree.{XsFunTree, ItemTree, TypedefItem, RecordItem, PrototypeItem, FunctionItem, XsFunItem, FileTree}
use Rattle.xs_csyn.specs.Grammar.{line_of, line_of_place}
use Rattle.xs_ccheck.specs.declared.enclosing.Where.{Where}
use Rattle.xs_ctypes.specs.Checked.{Judged, Fine, Wrong, fault}
use Rattle.xs_ccheck.specs.ExprTyping.{usage_word}
use Rattle.xs_ccheck.specs.FileTyping.{behind_entry, entry_of, where_in}
use Rattle.xs_ctypes.specs.FileNames.{FileNames, index_of, is_earlier, names_of}
use Rattle.xs_ccheck.specs.FormTypes.{expr_rule, expr_type, place_rule}
use Rattle.xs_ctypes.specs.Scopes.{Local, Scope, beginning, first_behind, name_behind, scope_behind, scopes_behind}
use Rattle.xs_ccheck.specs.StmtTyping.{declared, in_group, in_turn, is_test, label_number, line_of_label, may_return, perl}
use Rattle.xs_ctypes.specs.TypeNames.{type_named}
use Rattle.xs_ctypes.specs.ValueTypes.{is_condition, is_number}

-- ---- nodes

-- A node of a file, with what its names mean where it stands.
pub data Node : Type 0 where
  AFile : FileTree → Node
  TheDefines : List Define → Node
  TheItems : FileNames → List ItemTree → Node
  ADefine : Define → Node
  AnItem : FileNames → ℕ → ItemTree → Node
  AStmt : FileNames → Where → Scope → StmtTree → Node
  TheStmts : FileNames → Where → Scope → StmtTrees → Node
  ADeclarator : Scope → List ℕ → DeclaratorTree → Node
  AFirst : Scope → FirstTree → Node
  TheGroups : FileNames → Where → Scope → GroupTrees → Node
  AGroup : FileNames → Where → Scope → List Label → StmtTrees → Node
  TheLabels : List Local → List Label → Node
  ALabel : List Local → Label → Node
  AnOption : List Local → Option ExprTree → Node
  AnExpr : List Local → ExprTree → Node
  APlace : List Local → PlaceTree → Node

-- ---- the parts of a node, from left to right, each where it stands

abbrev pub exprs_at : List Local → ExprTrees → List Node
exprs_at variables syntax.NoExprs = []
exprs_at variables (syntax.MoreExprs a rest) = AnExpr variables a ∷ exprs_at variables rest

-- a value, where there is one
abbrev pub value_at : List Local → Option ExprTree → List Node
value_at variables None = []
value_at variables (Some value) = AnExpr variables value ∷ []

-- statements, each behind those before it
abbrev pub stmts_at : FileNames → Where → Scope → StmtTrees → List Node
stmts_at names w scope statement.NoStmts = []
stmts_at names w scope (statement.MoreStmts s rest) =
    AStmt names w scope s ∷ stmts_at names w (scope_behind scope s) rest

-- declarators, each behind those before it
abbrev pub declarators_at : Scope → List ℕ → List DeclaratorTree → List Node
declarators_at scope base [] = []
declarators_at scope base (d ∷ rest) =
    ADeclarator scope base d ∷ declarators_at (name_behind base scope d) base rest

abbrev pub first_at : Scope → FirstTree → List Node
first_at scope statement.NoFirst = []
first_at scope (statement.FirstDeclare d) = declarators_at scope d.base d.names
first_at scope (statement.FirstEffect e) = AnExpr scope.variables e ∷ []

abbrev pub labels_at : List Local → List Label → List Node
labels_at variables [] = []
labels_at variables (l ∷ rest) = ALabel variables l ∷ labels_at variables rest

-- groups, each behind those before it
abbrev pub groups_at : FileNames → Where → Scope → GroupTrees → List Node
groups_at names w scope statement.NoGroups = []
groups_at names w scope (statement.MoreGroups line labels body rest) =
    AGroup names w scope labels body ∷ groups_at names w (scopes_behind scope body) rest

abbrev pub defines_at : List Define → List Node
defines_at [] = []
defines_at (d ∷ rest) = ADefine d ∷ defines_at rest

-- items, each with its index
abbrev pub items_at : FileNames → ℕ → List ItemTree → List Node
items_at names at [] = []
items_at names at (i ∷ rest) = AnItem names at i ∷ items_at names (at + 1) rest

abbrev pub parts_of_expr : List Local → ExprTree → List Node
parts_of_expr variables (syntax.Call line name args) =
    if bytes_eq name usage_word then [] else exprs_at variables args
parts_of_expr variables (syntax.Index line a at) =
    AnExpr variables a ∷ AnExpr variables at ∷ []
parts_of_expr variables (syntax.Deref line a) = AnExpr variables a ∷ []
parts_of_expr variables (syntax.Before line step place) = APlace variables place ∷ []
parts_of_expr variables (syntax.After line place step) = APlace variables place ∷ []
parts_of_expr variables (syntax.Set line place op value) =
    APlace variables place ∷ AnExpr variables value ∷ []
parts_of_expr variables (syntax.Paren line a) = AnExpr variables a ∷ []
parts_of_expr variables (syntax.One line op a) = AnExpr variables a ∷ []
parts_of_expr variables (syntax.Two line op a b) =
    AnExpr variables a ∷ AnExpr variables b ∷ []
parts_of_expr variables (syntax.Choice line test a b) =
    AnExpr variables test ∷ AnExpr variables a ∷ AnExpr variables b ∷ []
parts_of_expr variables (syntax.Cast line to a) = AnExpr variables a ∷ []
parts_of_expr variables _ = []

abbrev pub parts_of_place : List Local → PlaceTree → List Node
parts_of_place variables (StPlace line at) = AnExpr variables at ∷ []
parts_of_place variables _ = []

abbrev pub parts_of_stmt : FileNames → Where → Scope → StmtTree → List Node
parts_of_stmt names w scope (statement.Block line body) = stmts_at names w scope body
parts_of_stmt names w scope (statement.Declare d) =
    declarators_at scope d.base d.names
parts_of_stmt names w scope (statement.Effect line e) = AnExpr scope.variables e ∷ []
parts_of_stmt names w scope (statement.If line test s) =
    AnExpr scope.variables test ∷ AStmt names w scope s ∷ []
parts_of_stmt names w scope (statement.IfElse line test s other) =
    AnExpr scope.variables test ∷ AStmt names w scope s
    ∷ AStmt names w (scope_behind scope s) other ∷ []
parts_of_stmt names w scope (statement.While line test s) =
    AnExpr scope.variables test ∷ AStmt names (in_turn w) scope s ∷ []
parts_of_stmt names w scope (statement.DoWhile line s test) =
    AStmt names (in_turn w) scope s ∷ AnExpr (scope_behind scope s).variables test ∷ []
parts_of_stmt names w scope (statement.Return line value) = value_at scope.variables value
parts_of_stmt names w scope (statement.For line head s) =
    AFirst scope head.first ∷ AnOption (first_behind scope head.first).variables head.test
    ∷ AnOption (first_behind scope head.first).variables head.step
    ∷ AStmt names (in_turn w) (first_behind scope head.first) s ∷ []
parts_of_stmt names w scope (statement.Switch line e all) =
    AnExpr scope.variables e ∷ TheGroups names (in_group w) scope all ∷ []
parts_of_stmt names w scope _ = []

-- the statements of a function, behind its dXSARGS
abbrev pub parts_of_function : FileNames → XsFunTree → List Node
parts_of_function names f =
    stmts_at names (where_in f.name) beginning (behind_entry (entry_of f.body) f.body)

abbrev pub parts_of_item : FileNames → ItemTree → List Node
parts_of_item names (XsFunItem f) = parts_of_function names f
parts_of_item names _ = []

abbrev pub parts : Node → List Node
parts (AFile f) = TheDefines f.defines ∷ TheItems (names_of f.items) f.items ∷ []
parts (TheDefines all) = defines_at all
parts (TheItems names items) = items_at names 0 items
parts (ADefine d) = []
parts (AnItem names at i) = parts_of_item names i
parts (AStmt names w scope s) = parts_of_stmt names w scope s
parts (TheStmts names w scope all) = stmts_at names w scope all
parts (AFirst scope first) = first_at scope first
parts (TheGroups names w scope all) = groups_at names w scope all
parts (AGroup names w scope labels body) =
    TheLabels scope.variables labels ∷ TheStmts names w scope body ∷ []
parts (TheLabels variables all) = labels_at variables all
parts (ALabel variables l) = []
parts (AnOption variables e) = value_at variables e
parts (ADeclarator scope base d) = value_at scope.variables d.value
parts (AnExpr variables e) = parts_of_expr variables e
parts (APlace variables p) = parts_of_place variables p

-- ---- a node's own fault, where its parts are sound

-- the fault of a node at a line, where its rule refuses it
abbrev pub refused : {A : Type 0} → ℕ → Judged A → Option Fault
refused line (Fine a) = None
refused line (Wrong code word) = Some (fault line code word)

-- the fault of a node at a line, unless a test holds
abbrev pub refused_unless : ℕ → Bool → ℕ → List ℕ → Option Fault
refused_unless line test code word = if test then None else Some (fault line code word)

abbrev pub not_built : ℕ → Option Fault
not_built line = Some (fault line NOT_BUILT [])

-- a statement whose condition has a type without truth
abbrev pub no_condition : ℕ → Scope → ExprTree → Option Fault
no_condition line scope test =
    refused_unless line (is_condition (expr_type scope.variables test)) TYPES_DIFFER []

abbrev pub own_of_stmt : FileNames → Where → Scope → StmtTree → Option Fault
own_of_stmt names w scope (statement.Block line body) = None
own_of_stmt names w scope (statement.Empty line) = None
own_of_stmt names w scope (statement.Declare d) = None
own_of_stmt names w scope (statement.Effect line e) = None
own_of_stmt names w scope (statement.If line test s) = no_condition line scope test
own_of_stmt names w scope (statement.IfElse line test s other) = no_condition line scope test
own_of_stmt names w scope (statement.While line test s) = no_condition line scope test
own_of_stmt names w scope (statement.DoWhile line s test) =
    no_condition line (scope_behind scope s) test
own_of_stmt names w scope (statement.Break line) =
    refused_unless line (w.in_loop || w.in_switch) WORD_NOT_ALLOWED (codes "break")
own_of_stmt names w scope (statement.Continue line) =
    refused_unless line w.in_loop WORD_NOT_ALLOWED (codes "continue")
own_of_stmt names w scope (statement.Return line value) =
    refused_unless line (may_return w.result (option_map (expr_type scope.variables) value))
    TYPES_DIFFER []
own_of_stmt names w scope (statement.Perl line form) =
    refused line (perl names w scope.variables line form)
own_of_stmt names w scope (statement.For line head s) =
    refused_unless line
    (is_test (option_map (expr_type (first_behind scope head.first).variables) head.test))
    TYPES_DIFFER []
own_of_stmt names w scope (statement.Switch line e all) =
    refused_unless line (is_number (expr_type scope.variables e)) TYPES_DIFFER []

-- no function before another has its name
abbrev pub own_of_function : FileNames → ℕ → XsFunTree → Option Fault
own_of_function names at f =
    refused_unless f.line (not (is_earlier (index_of names.functions f.name) at)) DECLARED_TWICE
    f.name

abbrev pub own_of_item : FileNames → ℕ → ItemTree → Option Fault
own_of_item names at (XsFunItem f) = own_of_function names at f
own_of_item names at (TypedefItem t) = not_built t.line
own_of_item names at (RecordItem r) = not_built r.line
own_of_item names at (PrototypeItem h) = not_built h.line
own_of_item names at (FunctionItem f) = not_built f.head.line

abbrev pub own : Node → Option Fault
own (AFile f) = None
own (TheDefines all) = None
own (TheItems names items) = None
own (ADefine d) = not_built d.line
own (AnItem names at i) = own_of_item names at i
own (AStmt names w scope s) = own_of_stmt names w scope s
own (TheStmts names w scope all) = None
own (AFirst scope first) = None
own (TheGroups names w scope all) = None
own (AGroup names w scope labels body) = None
own (TheLabels variables all) = None
own (ALabel variables l) = refused (line_of_label l) (label_number variables l)
own (AnOption variables e) = None
own (ADeclarator scope base d) =
    refused d.line (declared scope d.name (type_named base d.stars)
    (option_map (expr_type scope.variables) d.value))
own (AnExpr variables e) = refused (line_of e) (expr_rule variables e)
own (APlace variables p) = refused (line_of_place p) (place_rule variables p)

-- ---- the set of faults

mutual
  -- a node is sound where its parts are and its rule does not refuse it
  pub data IsSound : Node → Type 0 where
    sound : {n : Node} → AreSound (parts n) → own n ≡ None → IsSound n

  pub data AreSound : List Node → Type 0 where
    no_more : AreSound []
    one_more : {n : Node} {rest : List Node} → IsSound n → AreSound rest → AreSound (n ∷ rest)

-- A fault of a node, and the way to where it stands: the indices of the parts from the node on.
-- It is the node's own, or one of a part.
pub data IsFault : Node → List ℕ → Fault → Type 0 where
  here : {n : Node} {f : Fault} → AreSound (parts n) → own n ≡ Some f → IsFault n [] f
  within : {n part : Node} {i : ℕ} {way : List ℕ} {f : Fault} → slice_get (parts n) i ≡ Some part
      → IsFault part way f → IsFault n (i ∷ way) f

-- ---- their order

-- a line before another one; line 0, which is no line of a text, stands behind all
abbrev pub IsEarlier : ℕ → ℕ → Type 0
IsEarlier m n = (0 < m) × ((n ≡ 0) ⊎ (m < n))

-- the left one of two, by the ways to them; no fault stands within the node of another
abbrev pub IsLeftOf : List ℕ → List ℕ → Type 0
IsLeftOf [] q = ⊥
IsLeftOf (i ∷ p) [] = ⊥
IsLeftOf (i ∷ p) (j ∷ q) = (i < j) ⊎ ((i ≡ j) × IsLeftOf p q)

-- of two faults the one that is told: by the line, then by the code, then from left to right
abbrev pub StandsBefore : Fault → List ℕ → Fault → List ℕ → Type 0
StandsBefore f p g q =
    IsEarlier f.line g.line
    ⊎ ((f.line ≡ g.line) × ((f.code < g.code) ⊎ ((f.code ≡ g.code) × IsLeftOf p q)))

-- one of two faults stands before the other, or they are one
abbrev pub AreOrdered : Fault → List ℕ → Fault → List ℕ → Type 0
AreOrdered f p g q = StandsBefore f p g q ⊎ (StandsBefore g q f p ⊎ ((f ≡ g) × (p ≡ q)))

-- the fault of a node before which none of its faults stands
abbrev pub IsLeast : Node → Fault → Type 0
IsLeast n f =
    (p : List ℕ) × (IsFault n p f × ((q : List ℕ) (g : Fault) → IsFault n q g
    → StandsBefore g q f p → ⊥))

abbrev pub HasNoFault : Node → Type 0
HasNoFault n = (p : List ℕ) (f : Fault) → IsFault n p f → ⊥
