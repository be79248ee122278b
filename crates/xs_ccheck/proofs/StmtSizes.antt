-- How far a walk down a statement goes. A statement whose parts are taken up by a rule of its own counts for two.
use Rattle.std.proofs.Common.{◌≡◌, ℕ, zero, suc, ◌+◌, ◌<◌, List, [], ◌∷◌, length, map, ap, arith, get_or}
use Rattle.xs_cstmt.specs.StatementTree.{StmtTree, Block, If, IfElse, While, DoWhile, For, Switch, StmtTrees, NoStmts, MoreStmts, GroupTrees, NoGroups, MoreGroups, stmts_of, groups_of}
use Rattle.xs_cstmt.specs.StatementViews.{group_tree, stmt_tree}
use Rattle.xs_cstmt.specs.declared.tree.Group.{Group}
use Rattle.xs_cstmt.specs.declared.tree.Stmt.{Stmt}

abbrev mutual
  pub stmt_size : StmtTree → ℕ
  stmt_size (Block line body) = stmts_size body + 1
  stmt_size (If line test s) = stmt_size s + 2
  stmt_size (IfElse line test s other) = stmt_size s + stmt_size other + 2
  stmt_size (While line test s) = stmt_size s + 2
  stmt_size (DoWhile line s test) = stmt_size s + 2
  stmt_size (For line head s) = stmt_size s + 2
  stmt_size (Switch line e all) = groups_size all + 2
  stmt_size _ = 1

  pub stmts_size : StmtTrees → ℕ
  stmts_size NoStmts = 0
  stmts_size (MoreStmts s all) = stmt_size s + stmts_size all + 1

  pub groups_size : GroupTrees → ℕ
  groups_size NoGroups = 0
  groups_size (MoreGroups line labels body all) = stmts_size body + groups_size all + 2

-- a statement is smaller than all
pub stmt_smaller : (body : List Stmt) (i : ℕ) (s : Stmt) → i < length body → s ≡ get_or body i s
    → stmt_size (stmt_tree s) < stmts_size (stmts_of (map stmt_tree body))
stmt_smaller [] i s lt e = absurd (omega (arith, lt))
stmt_smaller (t ∷ rest) zero s lt e = omega (arith, ap (λ z. stmt_size (stmt_tree z)) e)
stmt_smaller (t ∷ rest) (suc i) s lt e = omega (arith, stmt_smaller rest i s (omega (arith, lt)) e)

-- the statements of a group are smaller than all groups
pub group_smaller : (all : List Group) (i : ℕ) (g : Group) → i < length all → g ≡ get_or all i g
    → stmts_size (group_tree g).body + 1 < groups_size (groups_of (map group_tree all))
group_smaller [] i g lt e = absurd (omega (arith, lt))
group_smaller (h ∷ rest) zero g lt e = omega (arith, ap (λ z. stmts_size (group_tree z).body) e)
group_smaller (h ∷ rest) (suc i) g lt e = omega (arith, group_smaller rest i g (omega (arith, lt)) e)
