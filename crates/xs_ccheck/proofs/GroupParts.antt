-- Groups of a switch whose labels and statements are resolved one after the other.
use Rattle.std.proofs.Common.{◌≡◌, ℕ, ◌+◌, ◌<◌, ◌∙◌, List, map, Option, Result, Ok, Err, refl, sym, ap, ap₂, arith}
use Rattle.std.specs.declared.alloc.Global.{Global}
use Rattle.std.specs.declared.vec.Vec.{Vec}
use Rattle.xs_base.specs.declared.fault.Refuse.{Refuse}
use Rattle.xs_base.specs.declared.fault.Refuse.TheVariants as refuse
use Rattle.xs_values.specs.Kinds.{promoted}
use Rattle.xs_values.specs.Numbers.{Number}
use Rattle.xs_values.specs.declared.kind.Kind.{Kind}
use Rattle.xs_cstmt.specs.StatementTree.{StmtTrees, stmts_of}
use Rattle.xs_cstmt.specs.StatementViews.{group_tree, stmt_tree}
use Rattle.xs_cstmt.specs.declared.tree.Group.{Group, out-Group}
use Rattle.xs_cstmt.specs.declared.tree.Label.{Label}
use Rattle.xs_cstmt.specs.declared.tree.Stmt.{Stmt as SyntaxStmt}
use Rattle.xs_cstmt.proofs.ViewsCompute.{group_tree-out}
use Rattle.xs_ctree.specs.declared.typed.Typed.{Typed}
use Rattle.xs_ctree.specs.declared.node.Group.{Group as CodeGroup}
use Rattle.xs_ctree.specs.declared.value_type.ValueType.{ValueType}
use Rattle.xs_ctree.specs.declared.value_type.ValueType.TheVariants as type_of
use Rattle.xs_ctree.specs.Functions.{stmt_in}
use Rattle.xs_ctree.specs.Growth.{AddsStmt, HasStmt, groups_in}
use Rattle.xs_ctree.specs.TypedTree.{Expr, Stmt, Switch}
use Rattle.xs_ctree.proofs.Additions.{keeps_all}
use Rattle.xs_ccheck.specs.declared.enclosing.Where.{Where}
use Rattle.xs_ctypes.specs.Checked.{Checked, Good, both, judged}
use Rattle.xs_ctypes.specs.Joining.{joined}
use Rattle.xs_ccheck.specs.Resolving.{GivesGroup, GivesLabels, GivesStmts, HasGroup, HaveLabels, HaveStmts, Resolved, Resolves, UnlessMemory, all_stmts_in, group_in, group_made, label_in}
use Rattle.xs_ctypes.specs.Scopes.{Scope}
use Rattle.xs_ccheck.specs.StmtTyping.{group, labels, stmts, switched, typed_group}
use Rattle.xs_ctypes.specs.FileNames.{FileNames}
use Rattle.xs_ccheck.proofs.Lists.{groups_are}
use Rattle.xs_ccheck.proofs.JoinedParts.{HasPair, Stays, joined_resolves, node_refuses, node_resolves, pair_in}
use Rattle.xs_ccheck.proofs.LeastFaults.{both_behind}
use Rattle.xs_ccheck.proofs.StmtSizes.{stmts_size}

abbrev numbers_in : Typed → Vec (Option Number) Global → List (Option Number)
numbers_in t v = map (label_in t) v.items

abbrev HaveNumbers : Typed → Vec (Option Number) Global → Type 0
HaveNumbers t v = HaveLabels t v.items

numbers_stay : Stays numbers_in HaveNumbers
numbers_stay = record { still = λ old new x k h. tt; same = λ old new x k h. refl }

abbrev body_in : Typed → Vec ℕ Global → List Stmt
body_in t v = all_stmts_in t v.items

abbrev HasBody : Typed → Vec ℕ Global → Type 0
HasBody t v = HaveStmts t v.items

abbrev both_in : Typed → Vec (Option Number) Global × Vec ℕ Global → List (Option Number) × List Stmt
both_in = pair_in numbers_in HaveNumbers body_in HasBody

abbrev HasBoth : Typed → Vec (Option Number) Global × Vec ℕ Global → Type 0
HasBoth = HasPair numbers_in HaveNumbers body_in HasBody

module _ (names : FileNames) (w : Where) (scope : Scope) (ls : List Label) (body : StmtTrees) (old one new : Typed) where
  abbrev read : Checked (List (Option Number) × List Stmt)
  read = both {C = List (Option Number) × List Stmt} (labels scope.variables ls) (stmts names w scope body) (λ a b. Good (a, b))

  made : (r : Result (Vec (Option Number) Global × Vec ℕ Global) Refuse) → Resolves both_in HasBoth r old new read
      → GivesGroup (group_made r) old new (group names w scope ls body)
  made (Ok p) h =
      node_resolves both_in HasBoth group_in HasGroup old new new read (λ z. Good (typed_group z.0 z.1)) p (group names w scope ls body)
      (Ok (record { labels = p.0; body = p.1 })) h
      (both_behind (labels scope.variables ls) (stmts names w scope body) (λ ns ts. Good (typed_group ns ts)))
      (record { means = refl; there_is = h.there_is.1; keeps = keeps_all new })
  made (Err e) h =
      node_refuses both_in HasBoth group_in HasGroup old new new read (λ z. Good (typed_group z.0 z.1)) e (group names w scope ls body) h
      (both_behind (labels scope.variables ls) (stmts names w scope body) (λ ns ts. Good (typed_group ns ts)))

  pub group_given : (x : Result (Vec (Option Number) Global) Refuse) (y : Result (Vec ℕ Global) Refuse)
      → GivesLabels x old one (labels scope.variables ls) → GivesStmts y one new (stmts names w scope body)
      → GivesGroup (group_made (joined x y)) old new (group names w scope ls body)
  group_given x y h g = made (joined x y) (joined_resolves numbers_in HaveNumbers body_in HasBody numbers_stay old one new x y _ _ h g)

pub group_unless : (P : Type 0) (x : Result (Vec (Option Number) Global) Refuse) (y : Result (Vec ℕ Global) Refuse) → UnlessMemory y P
    → UnlessMemory (group_made (joined x y)) P
group_unless P (Ok a) (Ok b) h = h
group_unless P (Ok a) (Err (refuse.Fault e)) h = h
group_unless P (Ok a) (Err refuse.Memory) h = tt
group_unless P (Err (refuse.Fault e)) (Ok b) h = h
group_unless P (Err (refuse.Fault e)) (Err (refuse.Fault f)) h = h
group_unless P (Err (refuse.Fault e)) (Err refuse.Memory) h = tt
group_unless P (Err refuse.Memory) (Ok b) h = tt
group_unless P (Err refuse.Memory) (Err e) h = tt

-- the statements of a group, as its tree has them
pub group_body : (g : Group) (body : List SyntaxStmt) → body ≡ (out-Group g).body.items → stmts_of (map stmt_tree body) ≡ (group_tree g).body
group_body g body e = ap (λ xs. stmts_of (map stmt_tree xs)) e ∙ ap (λ z. z.body) (sym (group_tree-out g))

pub group_labels : (g : Group) → (out-Group g).labels ≡ (group_tree g).labels
group_labels g = ap (λ z. z.labels) (sym (group_tree-out g))

pub body_smaller : (g : Group) (body : List SyntaxStmt) → body ≡ (out-Group g).body.items
    → stmts_size (stmts_of (map stmt_tree body)) < stmts_size (group_tree g).body + 1
body_smaller g body e = omega (arith, ap stmts_size (group_body g body e))

-- a switch over a number
pub switch_given : (line : ℕ) (kind k : Kind) (t : ValueType) (e : Expr) (old new : Typed) (gs : List CodeGroup) (i : ℕ) → t ≡ type_of.Number kind
    → k ≡ promoted kind → AddsStmt old (Switch line k e (groups_in old gs)) i new
    → Resolved stmt_in HasStmt i old new (judged line (switched line t e (map (group_in old) gs)))
switch_given line kind k t e old new gs i is by a = record {
  means = ap (λ u. judged line (switched line u e (map (group_in old) gs))) is
      ∙ ap Good (ap₂ (λ j all. Switch line j e all) (sym by) (groups_are old gs) ∙ sym a.is);
  there_is = a.there;
  keeps = a.keeps;
}
