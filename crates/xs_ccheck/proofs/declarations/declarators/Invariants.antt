use Rattle.std.proofs.Common.{◌≡◌, drop, map}
use Rattle.xs_cstmt.specs.StatementViews.{declarator_tree}
use Rattle.xs_ctree.specs.Functions.{stmt_in}
use Rattle.xs_ccheck.specs.Resolving.{HaveStmts}
use Rattle.xs_ctypes.specs.Scopes.{declarators_behind}
use Rattle.xs_ccheck.specs.StmtTyping.{declarators}
use Rattle.xs_ccheck.proofs.Collecting.{Gathers}
use Rattle.xs_ccheck.proofs.declarations.declarators.Given as goal

abbrev pub invariant-loop-d : goal.invariant-loop-d
invariant-loop-d l = record {
  stmts : Gathers stmt_in HaveStmts l.fn.typed l.good.items l.least l.typed (declarators l.base l.fn.scope (map declarator_tree l.names))
      (declarators l.base l.scope (map declarator_tree (drop l.d-index l.names)));
  scope : declarators_behind l.base l.fn.scope (map declarator_tree l.names)
      ≡ declarators_behind l.base l.scope (map declarator_tree (drop l.d-index l.names));
}
