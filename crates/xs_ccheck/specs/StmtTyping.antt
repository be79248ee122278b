-- What a statement is where it stands. The scope of each part is a function of the syntax before
-- it.
use Rattle.std.specs.Prelude.{ℕ, Bool, true, false, ◌||◌, if◌then◌else◌, List, [], ◌∷◌, length, Option, Some, None, codes, pos}
use Rattle.std.specs.Option.{is_none, is_some, option_map}
use Rattle.std.specs.Str.{bytes_eq}
use Rattle.xs_base.specs.declared.fault_codes.TheConstants.{UNKNOWN_FUNCTION, TYPES_DIFFER, DECLARED_TWICE, WORD_NOT_ALLOWED, UNKNOWN_NAME}
use Rattle.xs_cexpr.specs.ExpressionTree.{ExprTree}
use Rattle.xs_cstmt.specs.StatementTree as syntax
use Rattle.xs_cstmt.specs.StatementTree.{DeclaratorTree, FirstTree, StmtTree, StmtTrees, GroupTrees}
use Rattle.xs_cstmt.specs.declared.tree.Label.{Label}
use Rattle.xs_cstmt.specs.declared.tree.Label.TheVariants as label
use Rattle.xs_cstmt.specs.declared.tree.PerlForm.{PerlForm}
use Rattle.xs_cstmt.specs.declared.tree.PerlForm.TheVariants as form
use Rattle.xs_cstmt.specs.declared.tree.PerlWord.{PerlWord}
use Rattle.xs_cstmt.specs.declared.tree.PerlWord.TheVariants as word
use Rattle.xs_values.specs.Kinds.{promoted}
use Rattle.xs_values.specs.declared.kind.Kind.TheVariants.{I32}
use Rattle.xs_values.specs.Numbers.{Number, wrapped}
use Rattle.xs_perlapi.specs.declared.row.Row.{Row}
use Rattle.xs_perlapi.specs.declared.row.Row.TheVariants as row
use Rattle.xs_ctree.specs.declared.value_type.Slot.{Slot}
use Rattle.xs_ctree.specs.declared.value_type.ValueType.{ValueType}
use Rattle.xs_ctree.specs.declared.value_type.ValueType.TheVariants as type_of
use Rattle.xs_ctree.specs.TypedTree.{Expr, Literal, Assign, Api, Usage, NoExprs, ToVariable, Test, Always, When, Stmt, Block, Effect, Declare, If, Loop, Switch, Break, Continue, Return, Give, Quit, Register, Groups, NoGroups, MoreGroups, nothing, stmts_of, SetIndex}
use Rattle.xs_ccheck.specs.declared.enclosing.Where.{Where}
use Rattle.xs_ctypes.specs.Checked.{Checked, Fine, Good, Judged, Wrong, behind, both, four, judged, more, three, unbuilt, unknown, when}
use Rattle.xs_ccheck.specs.ExprTyping.{TypedExpr, expr, literal, name_meant, option_expr}
use Rattle.xs_ctypes.specs.Scopes.{Local, Scope, declared_in, first_behind, is_in_use, name_behind, scope_behind, scopes_behind, variable_of}
use Rattle.xs_ctypes.specs.TypeNames.{type_named}
use Rattle.xs_ctypes.specs.ValueTypes.{differ, goes_into, is_condition}
use Rattle.xs_ctypes.specs.FileNames.{FileNames, index_of}

-- ---- expressions as statements

-- whether a row ends the run of the function that calls it
abbrev pub ends : Row → Bool
ends row.XsReturn = true
ends row.XsReturnYes = true
ends row.XsEnd = true
ends _ = false

-- whether nothing of the function is run after an expression
abbrev pub quits : Expr → Bool
quits (Api at r es) = ends r
quits (Usage at text) = true
quits _ = false

abbrev pub effect : ℕ → Expr → Stmt
effect line e = if quits e then Quit line e else Effect e

-- a statement with a condition
abbrev pub conditional : TypedExpr → Stmt → Judged Stmt
conditional x s = when (is_condition x.of_type) s TYPES_DIFFER []

-- the body of a loop
abbrev pub in_turn : Where → Where
in_turn w = record w { in_loop = true }

-- a word that leaves something is allowed inside of it
abbrev pub leaving : Bool → Stmt → List ℕ → Judged Stmt
leaving test s word = when test s WORD_NOT_ALLOWED word

-- `break` leaves a loop or a `switch`, and `continue` goes on with the next turn of a loop
abbrev pub break_out : Where → ℕ → Judged Stmt
break_out w line = leaving (w.in_loop || w.in_switch) (Break line) (codes "break")

abbrev pub next_turn : Where → ℕ → Judged Stmt
next_turn w line = leaving w.in_loop (Continue line) (codes "continue")

-- whether a function that gives a result of a type may return with a value of this type, or
-- without one
abbrev pub may_return : ValueType → Option ValueType → Bool
may_return type_of.Void given = is_none given
may_return type_of.Faulty given = true
may_return result None = false
may_return result (Some t) = goes_into t result

abbrev pub returned : Where → ℕ → Option TypedExpr → Judged Stmt
returned w line None = when (may_return w.result None) (Return line) TYPES_DIFFER []
returned w line (Some x) =
    when (may_return w.result (Some x.of_type)) (Give line x.tree) TYPES_DIFFER []

-- the end of a function
abbrev pub function_end : Where → Scope → ℕ → Option ExprTree → Checked Stmt
function_end w scope line None = judged line (returned w line None)
function_end w scope line (Some value) =
    behind (expr scope.variables value) (λ x. judged line (returned w line (Some x)))

-- ---- declarations

-- whether a first value of a type, where there is one, goes into a variable of a type
abbrev pub is_given : Option ValueType → ValueType → Bool
is_given None t = true
is_given (Some from) t = goes_into from t

-- the type of a name that is declared with a type and with a first value of a type
abbrev pub declared : Scope → List ℕ → Option ValueType → Option ValueType → Judged ValueType
declared scope name None given = differ
declared scope name (Some t) given =
    if is_given given t then
    (if is_in_use scope.variables name then Wrong DECLARED_TWICE name else Fine t)
    else differ

-- the statement of a variable of a type
abbrev pub stated : (ValueType → Stmt) → Judged ValueType → Judged Stmt
stated s (Fine t) = Fine (s t)
stated s (Wrong code word) = Wrong code word

-- the declaration of a slot that has no value, or that its first value is assigned to
abbrev pub unset : ℕ → ℕ → ValueType → Stmt
unset line slot t = Declare line slot

abbrev pub begun : ℕ → ℕ → Expr → ValueType → Stmt
begun line slot e t =
    Block [] (stmts_of (Declare line slot
    ∷ Effect (Assign line (ToVariable slot t) e) ∷ []))

-- a name that is declared with a type word; it is known behind its own first value
abbrev pub declarator : List ℕ → Scope → DeclaratorTree → Option ExprTree → Checked Stmt
declarator base scope d None =
    judged d.line (stated (unset d.line (length scope.slots))
    (declared scope d.name (type_named base d.stars) None))
declarator base scope d (Some value) =
    behind (expr scope.variables value)
    (λ x. judged d.line (stated (begun d.line (length scope.slots) x.tree)
    (declared scope d.name (type_named base d.stars) (Some x.of_type))))

-- names that are declared one after another
abbrev pub declarators : List ℕ → Scope → List DeclaratorTree → Checked (List Stmt)
declarators base scope [] = Good []
declarators base scope (d ∷ rest) =
    more (declarator base scope d d.value) (declarators base (name_behind base scope d) rest)

-- statements in order, as one
abbrev pub in_order : List Stmt → Stmt
in_order [] = nothing
in_order (t ∷ []) = t
in_order (t ∷ u ∷ ts) = Block [] (stmts_of (t ∷ u ∷ ts))

abbrev pub declaration : List ℕ → Scope → List DeclaratorTree → Checked Stmt
declaration base scope names =
    behind (declarators base scope names) (λ ts. Good (in_order ts))

-- ---- the head of a `for`

-- what stands first there
abbrev pub first_part : Scope → FirstTree → Checked Stmt
first_part scope syntax.NoFirst = Good nothing
first_part scope (syntax.FirstDeclare d) = declaration d.base scope d.names
first_part scope (syntax.FirstEffect e) =
    behind (expr scope.variables e) (λ x. Good (Effect x.tree))

-- the test of a loop, which goes on where there is none
abbrev pub test_of : Option TypedExpr → Test
test_of None = Always
test_of (Some x) = When x.tree

-- whether a type, where there is one, is that of a condition
abbrev pub is_test : Option ValueType → Bool
is_test None = true
is_test (Some t) = is_condition t

-- a `for`, which declares these slots
abbrev pub for_loop : ℕ → List Slot → Stmt → Option TypedExpr → Option TypedExpr → Stmt
    → Judged Stmt
for_loop line slots first test step s =
    when (is_test (option_map (λ x. x.of_type) test))
    (Block slots (stmts_of (first
    ∷ Loop line true (test_of test) (option_map (λ x. x.tree) step) s ∷ [])))
    TYPES_DIFFER []

-- ---- the groups of a `switch`

-- a label is a constant
abbrev pub constant : Expr → Judged (Option Number)
constant (Literal n) = Fine (Some n)
constant _ = differ

abbrev pub labelled : Judged TypedExpr → Judged (Option Number)
labelled (Fine x) = constant x.tree
labelled (Wrong code word) = Wrong code word

-- the number of a label, and None for `default`
abbrev pub label_number : List Local → Label → Judged (Option Number)
label_number variables (label.Int line l) = labelled (Fine (literal l.base l.suffix l.value))
label_number variables (label.Name line name) =
    labelled (name_meant name (variable_of variables name))
label_number variables (label.Default line) = Fine None

abbrev pub line_of_label : Label → ℕ
line_of_label (label.Int line l) = line
line_of_label (label.Name line name) = line
line_of_label (label.Default line) = line

abbrev pub labels : List Local → List Label → Checked (List (Option Number))
labels variables [] = Good []
labels variables (l ∷ rest) =
    more (judged (line_of_label l) (label_number variables l)) (labels variables rest)

-- the labels and the statements of a group
pub record TypedGroup : Type 0 where
  pub labels : List (Option Number)
  pub body : List Stmt

abbrev pub typed_group : List (Option Number) → List Stmt → TypedGroup
typed_group ns ts = record { labels = ns; body = ts }

abbrev pub groups_of : List TypedGroup → Groups
groups_of [] = NoGroups
groups_of (g ∷ all) = MoreGroups g.labels (stmts_of g.body) (groups_of all)

-- the groups of a switch
abbrev pub in_group : Where → Where
in_group w = record w { in_switch = true }

-- the value of a switch is a number; its labels are compared in the kind that promotion gives
abbrev pub switched : ℕ → ValueType → Expr → List TypedGroup → Judged Stmt
switched line (type_of.Number kind) e gs = Fine (Switch line (promoted kind) e (groups_of gs))
switched line _ e gs = differ

-- ---- the XS interface

-- dXSARGS stands at the front of a function alone
abbrev pub perl_word : ℕ → PerlWord → Judged Stmt
perl_word line word.DXsArgs = Wrong WORD_NOT_ALLOWED (codes "dXSARGS")
perl_word line word.XsReturnYes = Fine (Quit line (Api line row.XsReturnYes NoExprs))
perl_word line _ = unbuilt

abbrev pub registered : Where → List ℕ → List ℕ → Bool → Option ℕ → Judged Stmt
registered w full function keeps None = Wrong UNKNOWN_FUNCTION function
registered w full function keeps (Some f) =
    when w.in_boot (Register full f keeps) WORD_NOT_ALLOWED (codes "newXS_deffile")

-- XSANY stands in the boot function alone; `ix` is an int
abbrev pub set_index : Where → ℕ → Judged Stmt
set_index w value =
    when w.in_boot (SetIndex (wrapped I32 (pos value))) WORD_NOT_ALLOWED (codes "XSANY")

-- PERL_UNUSED_VAR does nothing; its operand is known
abbrev pub unused : List Local → List ℕ → Judged Stmt
unused variables name =
    if bytes_eq name (codes "items") || bytes_eq name (codes "cv")
    || is_some (variable_of variables name) then Fine nothing
    else unknown UNKNOWN_NAME name

module _ (names : FileNames) where
  abbrev pub perl : Where → List Local → ℕ → PerlForm → Judged Stmt
  perl w variables line (form.Word word) = perl_word line word
  perl w variables line (form.NewXs keeps full function) =
      registered w full function keeps (index_of names.functions function)
  perl w variables line (form.SetIndex literal) = set_index w literal.value
  perl w variables line (form.Unused name) = unused variables name
  -- not built yet
  perl w variables line form.ResetStack = unbuilt
  perl w variables line (form.NewRecord pointer name) = unbuilt

  -- ---- any statement

  unfoldable mutual
    pub stmt : Where → Scope → StmtTree → Checked Stmt
    stmt w scope (syntax.Block line body) =
        behind (stmts w scope body)
        (λ ts. Good (Block (declared_in scope (scopes_behind scope body)) (stmts_of ts)))
    stmt w scope (syntax.Empty line) = Good nothing
    stmt w scope (syntax.Declare d) = declaration d.base scope d.names
    stmt w scope (syntax.Effect line e) =
        behind (expr scope.variables e) (λ x. Good (effect line x.tree))
    stmt w scope (syntax.If line test s) =
        both (expr scope.variables test) (stmt w scope s)
        (λ x t. judged line (conditional x (If line x.tree t nothing)))
    stmt w scope (syntax.IfElse line test s other) =
        three (expr scope.variables test) (stmt w scope s) (stmt w (scope_behind scope s) other)
        (λ x t u. judged line (conditional x (If line x.tree t u)))
    stmt w scope (syntax.While line test s) =
        both (expr scope.variables test) (stmt (in_turn w) scope s)
        (λ x t. judged line (conditional x (Loop line true (When x.tree) None t)))
    stmt w scope (syntax.DoWhile line s test) =
        both (stmt (in_turn w) scope s) (expr (scope_behind scope s).variables test)
        (λ t x. judged line (conditional x (Loop line false (When x.tree) None t)))
    stmt w scope (syntax.Break line) = judged line (break_out w line)
    stmt w scope (syntax.Continue line) = judged line (next_turn w line)
    stmt w scope (syntax.Return line value) = function_end w scope line value
    stmt w scope (syntax.Perl line form) = judged line (perl w scope.variables line form)
    stmt w scope (syntax.For line head s) =
        four (first_part scope head.first)
        (option_expr (first_behind scope head.first).variables head.test)
        (option_expr (first_behind scope head.first).variables head.step)
        (stmt (in_turn w) (first_behind scope head.first) s)
        (λ f x y t. judged line
        (for_loop line
        (declared_in scope (scope_behind (first_behind scope head.first) s)) f x y t))
    stmt w scope (syntax.Switch line e all) =
        both (expr scope.variables e) (groups (in_group w) scope all)
        (λ x gs. judged line (switched line x.of_type x.tree gs))

    pub stmts : Where → Scope → StmtTrees → Checked (List Stmt)
    stmts w scope syntax.NoStmts = Good []
    stmts w scope (syntax.MoreStmts s rest) =
        more (stmt w scope s) (stmts w (scope_behind scope s) rest)

    pub groups : Where → Scope → GroupTrees → Checked (List TypedGroup)
    groups w scope syntax.NoGroups = Good []
    groups w scope (syntax.MoreGroups line ls body rest) =
        more
        (both (labels scope.variables ls) (stmts w scope body) (λ ns ts. Good (typed_group ns ts)))
        (groups w (scopes_behind scope body) rest)

  -- one group
  abbrev pub group : Where → Scope → List Label → StmtTrees → Checked TypedGroup
  group w scope ls body =
      both (labels scope.variables ls) (stmts w scope body) (λ ns ts. Good (typed_group ns ts))
