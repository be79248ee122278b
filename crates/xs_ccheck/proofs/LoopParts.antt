-- Loops whose parts are resolved one after the other, each in the scope behind those before it.
use Rattle.std.proofs.Common.{◌≡◌, ℕ, false, List, length, Option, None, Result, Ok, Err, sym, ap, ◌∙◌, subst}
use Rattle.std.specs.Prelude.{IfOk}
use Rattle.xs_base.specs.declared.fault.Refuse.{Refuse}
use Rattle.xs_base.specs.declared.fault.Refuse.TheVariants as refuse
use Rattle.xs_cexpr.specs.ExpressionTree.{ExprTree}
use Rattle.xs_cstmt.specs.StatementTree.{ForTree, StmtTree, DoWhile, For}
use Rattle.xs_ctree.specs.declared.typed.Typed.{Typed}
use Rattle.xs_ctree.specs.Functions.{expr_in, stmt_in}
use Rattle.xs_ctree.specs.Growth.{HasStmt}
use Rattle.xs_ctree.specs.declared.value_type.Slot.{Slot}
use Rattle.xs_ctree.specs.TypedTree.{Loop, Stmt, When}
use Rattle.xs_ccheck.specs.declared.exprs.TypedNode.{TypedNode}
use Rattle.xs_ccheck.specs.declared.enclosing.Where.{Where}
use Rattle.xs_ctypes.specs.Checked.{Checked, Good, behind, both, four, judged}
use Rattle.xs_ccheck.specs.ExprTyping.{TypedExpr, expr, option_expr}
use Rattle.xs_ctypes.specs.Joining.{joined}
use Rattle.xs_ccheck.specs.Resolving.{ForEnds, ForParts, GivesExpr, GivesOption, GivesStmt, HasOption, HasTyped, Resolves, UnlessMemory, option_in, typed_in}
use Rattle.xs_ctypes.specs.Scopes.{Scope, declared_in, first_behind, knowing, outside, scope_behind}
use Rattle.xs_ccheck.specs.StmtTyping.{conditional, first_part, for_loop, in_turn, stmt}
use Rattle.xs_ctypes.specs.FileNames.{FileNames}
use Rattle.xs_ccheck.proofs.Collecting.{joined_first}
use Rattle.xs_ccheck.proofs.JoinedParts.{HasPair, joined_resolves, node_refuses, node_resolves, option_stays, pair_in, stmt_stays}
use Rattle.xs_ccheck.proofs.LeastFaults.{both_behind}

-- ---- what holds unless memory ran out

pub unless_map : {X : Type 0} (P Q : Type 0) (r : Result X Refuse) → UnlessMemory r P → (P → Q) → UnlessMemory r Q
unless_map P Q (Ok x) h f = f h
unless_map P Q (Err (refuse.Fault e)) h f = f h
unless_map P Q (Err refuse.Memory) h f = tt

pub unless_first : {X Y : Type 0} (P : Type 0) (x : Result X Refuse) (y : Result Y Refuse) → UnlessMemory x P → UnlessMemory (joined x y) P
unless_first P (Ok a) (Ok b) h = h
unless_first P (Ok a) (Err (refuse.Fault e)) h = h
unless_first P (Ok a) (Err refuse.Memory) h = tt
unless_first P (Err (refuse.Fault e)) (Ok b) h = h
unless_first P (Err (refuse.Fault e)) (Err (refuse.Fault f)) h = h
unless_first P (Err (refuse.Fault e)) (Err refuse.Memory) h = tt
unless_first P (Err refuse.Memory) (Ok b) h = tt
unless_first P (Err refuse.Memory) (Err e) h = tt

pub unless_second : {X Y : Type 0} (P : Type 0) (x : Result X Refuse) (y : Result Y Refuse) → UnlessMemory y P → UnlessMemory (joined x y) P
unless_second P (Ok a) (Ok b) h = h
unless_second P (Ok a) (Err (refuse.Fault e)) h = h
unless_second P (Ok a) (Err refuse.Memory) h = tt
unless_second P (Err (refuse.Fault e)) (Ok b) h = h
unless_second P (Err (refuse.Fault e)) (Err (refuse.Fault f)) h = h
unless_second P (Err (refuse.Fault e)) (Err refuse.Memory) h = tt
unless_second P (Err refuse.Memory) (Ok b) h = tt
unless_second P (Err refuse.Memory) (Err e) h = tt

-- ---- do

module _ (names : FileNames) (w : Where) (scope mid : Scope) (line : ℕ) (s : StmtTree) (test : ExprTree) (old one two new : Typed) where
  pub do_resolves : (body : Result ℕ Refuse) (x : Result TypedNode Refuse) (b : ℕ) (y : TypedNode) (res : Result ℕ Refuse)
      → GivesStmt body old one (stmt names (in_turn w) scope s) → UnlessMemory body (mid ≡ scope_behind scope s)
      → GivesExpr x one two (expr mid.variables test) → joined body x ≡ Ok (b, y)
      → GivesStmt res two new (judged line (conditional (typed_in two y) (Loop line false (When (expr_in two y.node)) None (stmt_in two b))))
      → GivesStmt res old new (stmt names w scope (DoWhile line s test))
  unfolding stmt
  do_resolves body x b y res h moved g are last =
      let at : mid ≡ scope_behind scope s = subst (λ r. UnlessMemory r (mid ≡ scope_behind scope s)) (joined_first body x b y are) moved in
      let node : Stmt → TypedExpr → Checked Stmt = λ t z. judged line (conditional z (Loop line false (When z.tree) None t)) in
      let front : Checked Stmt = stmt names (in_turn w) scope s in
      node_resolves (pair_in stmt_in HasStmt typed_in HasTyped) (HasPair stmt_in HasStmt typed_in HasTyped) stmt_in HasStmt old two new
      (both {C = Stmt × TypedExpr} front (expr mid.variables test) (λ t z. Good (t, z))) (λ p. node p.0 p.1) (b, y)
      (both front (expr (scope_behind scope s).variables test) node) res
      (subst (λ r. Resolves (pair_in stmt_in HasStmt typed_in HasTyped) (HasPair stmt_in HasStmt typed_in HasTyped) r old two
      (both {C = Stmt × TypedExpr} front (expr mid.variables test) (λ t z. Good (t, z)))) are
      (joined_resolves stmt_in HasStmt typed_in HasTyped stmt_stays old one two body x front (expr mid.variables test) h g))
      (both_behind front (expr mid.variables test) node ∙ ap (λ z. both front (expr z.variables test) node) at) last

-- ---- for

abbrev turns_in : Typed → Option TypedNode × ℕ → Option TypedExpr × Stmt
turns_in = pair_in option_in HasOption stmt_in HasStmt

abbrev HasTurns : Typed → Option TypedNode × ℕ → Type 0
HasTurns = HasPair option_in HasOption stmt_in HasStmt

abbrev rest_in : Typed → Option TypedNode × (Option TypedNode × ℕ) → Option TypedExpr × (Option TypedExpr × Stmt)
rest_in = pair_in option_in HasOption turns_in HasTurns

abbrev HasRest : Typed → Option TypedNode × (Option TypedNode × ℕ) → Type 0
HasRest = HasPair option_in HasOption turns_in HasTurns

abbrev pub parts_in : Typed → ForParts → Stmt × (Option TypedExpr × (Option TypedExpr × Stmt))
parts_in = pair_in stmt_in HasStmt rest_in HasRest

abbrev pub HasParts : Typed → ForParts → Type 0
HasParts = HasPair stmt_in HasStmt rest_in HasRest

pub there_if : {X A : Type 0} (view : Typed → X → A) (there : Typed → X → Type 0) (r : Result X Refuse) (old new : Typed) (read : Checked A)
    → Resolves view there r old new read → IfOk r (λ x. there new x)
there_if view there (Ok x) old new read h = h.there_is
there_if view there (Err e) old new read h = tt

module _ (names : FileNames) (w : Where) (scope mid after : Scope) (line : ℕ) (head : ForTree) (s : StmtTree) where
  abbrev turns_read : Checked (Option TypedExpr × Stmt)
  turns_read = both {C = Option TypedExpr × Stmt} (option_expr mid.variables head.step) (stmt names (in_turn w) mid s) (λ a b. Good (a, b))

  abbrev rest_read : Checked (Option TypedExpr × (Option TypedExpr × Stmt))
  rest_read = both {C = Option TypedExpr × (Option TypedExpr × Stmt)} (option_expr mid.variables head.test) turns_read (λ a b. Good (a, b))

  -- what the parts of the loop come to
  abbrev pub parts_read : Checked (Stmt × (Option TypedExpr × (Option TypedExpr × Stmt)))
  parts_read = both {C = Stmt × (Option TypedExpr × (Option TypedExpr × Stmt))} (first_part scope head.first) rest_read (λ a b. Good (a, b))

  abbrev node : List Slot → Stmt × (Option TypedExpr × (Option TypedExpr × Stmt)) → Checked Stmt
  node slots p = judged line (for_loop line slots p.0 p.1.0 p.1.1.0 p.1.1.1)

  module _ (first : Result ℕ Refuse) (test step : Result (Option TypedNode) Refuse) (body : Result ℕ Refuse) (old one two three four_ new : Typed) where
    pub parts_resolve : GivesStmt first old one (first_part scope head.first) → GivesOption test one two (option_expr mid.variables head.test)
        → GivesOption step two three (option_expr mid.variables head.step) → GivesStmt body three four_ (stmt names (in_turn w) mid s)
        → Resolves parts_in HasParts (joined first (joined test (joined step body))) old four_ parts_read
    parts_resolve h g i j =
        joined_resolves stmt_in HasStmt rest_in HasRest stmt_stays old one four_ first (joined test (joined step body)) _ _ h
        (joined_resolves option_in HasOption turns_in HasTurns option_stays one two four_ test (joined step body) _ _ g
        (joined_resolves option_in HasOption stmt_in HasStmt option_stays two three four_ step body _ _ i j))

    pub moved_first : UnlessMemory first (mid ≡ first_behind scope head.first)
        → UnlessMemory (joined first (joined test (joined step body))) (mid ≡ first_behind scope head.first)
    moved_first h = unless_first (mid ≡ first_behind scope head.first) first (joined test (joined step body)) h

    pub moved_body : UnlessMemory body (after ≡ scope_behind mid s)
        → UnlessMemory (joined first (joined test (joined step body))) (after ≡ scope_behind mid s)
    moved_body h =
        let P : Type 0 = after ≡ scope_behind mid s in
        unless_second P first (joined test (joined step body)) (unless_second P test (joined step body) (unless_second P step body h))

  whole : mid ≡ first_behind scope head.first → after ≡ scope_behind mid s
      → behind parts_read (node (declared_in scope after)) ≡ stmt names w scope (For line head s)
  unfolding stmt
  whole at to =
      both_behind (first_part scope head.first) rest_read (λ a p. node (declared_in scope after) (a, p))
      ∙ ap (λ z. both (first_part scope head.first) rest_read (λ a p. node (declared_in scope z) (a, p))) to
      ∙ ap (λ m. four (first_part scope head.first) (option_expr m.variables head.test) (option_expr m.variables head.step) (stmt names (in_turn w) m s)
      (λ f x y t. judged line (for_loop line (declared_in scope (scope_behind m s)) f x y t))) at

  moved_end : (end : Scope) → mid ≡ first_behind scope head.first → after ≡ scope_behind mid s → (r : Result ℕ Refuse)
      → UnlessMemory r (end ≡ knowing (length scope.variables) after) → UnlessMemory r (end ≡ scope_behind scope (For line head s))
  unfolding scope_behind
  moved_end end at to r h =
      unless_map (end ≡ knowing (length scope.variables) after) (end ≡ outside scope (scope_behind (first_behind scope head.first) s)) r h
      (λ e. e ∙ ap (knowing (length scope.variables)) (to ∙ ap (λ m. scope_behind m s) at))

  module _ (old four_ new : Typed) (res : Result ℕ Refuse) where
    pub for_resolves : (parts : Result ForParts Refuse) → UnlessMemory parts (mid ≡ first_behind scope head.first)
        → UnlessMemory parts (after ≡ scope_behind mid s) → Resolves parts_in HasParts parts old four_ parts_read
        → ForEnds line parts (declared_in scope after) four_ res new → GivesStmt res old new (stmt names w scope (For line head s))
    for_resolves (Ok p) at to h last =
        node_resolves parts_in HasParts stmt_in HasStmt old four_ new parts_read (node (declared_in scope after)) p
        (stmt names w scope (For line head s)) res h (whole at to) last
    for_resolves (Err (refuse.Fault f)) at to h last =
        subst (λ r. GivesStmt r old new (stmt names w scope (For line head s))) (sym last)
        (node_refuses parts_in HasParts stmt_in HasStmt old four_ new parts_read (node (declared_in scope after)) (refuse.Fault f)
        (stmt names w scope (For line head s)) h (whole at to))
    for_resolves (Err refuse.Memory) at to h last = subst (λ r. GivesStmt r old new (stmt names w scope (For line head s))) (sym last) tt

    pub for_scope : (end : Scope) (parts : Result ForParts Refuse) → UnlessMemory parts (mid ≡ first_behind scope head.first)
        → UnlessMemory parts (after ≡ scope_behind mid s) → ForEnds line parts (declared_in scope after) four_ res new
        → UnlessMemory res (end ≡ knowing (length scope.variables) after) → UnlessMemory res (end ≡ scope_behind scope (For line head s))
    for_scope end (Ok p) at to last h = moved_end end at to res h
    for_scope end (Err (refuse.Fault f)) at to last h = moved_end end at to res h
    for_scope end (Err refuse.Memory) at to last h = subst (λ r. UnlessMemory r (end ≡ scope_behind scope (For line head s))) (sym last) tt
