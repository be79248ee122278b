use Rattle.std.proofs.Common.{◌≡◌, ◌+◌, drop, map}
use Rattle.xs_cstmt.specs.StatementTree.{groups_of, stmts_of}
use Rattle.xs_cstmt.specs.StatementViews.{group_tree, stmt_tree}
use Rattle.xs_ctree.specs.Functions.{stmt_in}
use Rattle.xs_ccheck.specs.Resolving.{HaveGroups, HaveStmts, group_in}
use Rattle.xs_ctypes.specs.Scopes.{groups_behind, scopes_behind}
use Rattle.xs_ccheck.specs.StmtTyping.{groups, stmts}
use Rattle.xs_ccheck.proofs.Collecting.{Gathers}
use Rattle.xs_ccheck.proofs.StmtSizes.{groups_size, stmt_size, stmts_size}
use Rattle.xs_ccheck.proofs.stmts.+stmt.Given as goal

abbrev pub decreases-stmt : goal.decreases-stmt
decreases-stmt l = stmt_size (stmt_tree l.s.now)

abbrev pub decreases-one_branch : goal.decreases-one_branch
decreases-one_branch l = stmt_size (stmt_tree l.then_do.now) + 1

abbrev pub decreases-two_branches : goal.decreases-two_branches
decreases-two_branches l = stmt_size (stmt_tree l.then_do.now) + stmt_size (stmt_tree l.other.now) + 1

abbrev pub decreases-while_loop : goal.decreases-while_loop
decreases-while_loop l = stmt_size (stmt_tree l.body.now) + 1

abbrev pub decreases-do_loop : goal.decreases-do_loop
decreases-do_loop l = stmt_size (stmt_tree l.body.now) + 1

abbrev pub decreases-for_loop : goal.decreases-for_loop
decreases-for_loop l = stmt_size (stmt_tree l.body.now) + 1

abbrev pub decreases-switch : goal.decreases-switch
decreases-switch l = groups_size (groups_of (map group_tree l.all.now.items)) + 1

abbrev pub decreases-groups : goal.decreases-groups
decreases-groups l = groups_size (groups_of (map group_tree l.all.now))

abbrev pub decreases-group : goal.decreases-group
decreases-group l = stmts_size (group_tree l.g.now).body + 1

abbrev pub decreases-stmts : goal.decreases-stmts
decreases-stmts l = stmts_size (stmts_of (map stmt_tree l.body.now))

abbrev pub invariant-stmts-loop-s : goal.invariant-stmts-loop-s
invariant-stmts-loop-s l = record {
  stmts : Gathers stmt_in HaveStmts l.fn.typed l.good.items l.least l.typed (stmts l.names l.place l.fn.scope (stmts_of (map stmt_tree l.body)))
      (stmts l.names l.place l.scope (stmts_of (map stmt_tree (drop l.s-index l.body))));
  scope : scopes_behind l.fn.scope (stmts_of (map stmt_tree l.body)) ≡ scopes_behind l.scope (stmts_of (map stmt_tree (drop l.s-index l.body)));
}

abbrev pub invariant-groups-loop-g : goal.invariant-groups-loop-g
invariant-groups-loop-g l = record {
  groups : Gathers group_in HaveGroups l.fn.typed l.good.items l.least l.typed (groups l.names l.place l.fn.scope (groups_of (map group_tree l.all)))
      (groups l.names l.place l.scope (groups_of (map group_tree (drop l.g-index l.all))));
  scope : groups_behind l.fn.scope (groups_of (map group_tree l.all)) ≡ groups_behind l.scope (groups_of (map group_tree (drop l.g-index l.all)));
}
