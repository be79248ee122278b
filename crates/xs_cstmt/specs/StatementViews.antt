-- The trees of statements as plain data.
use Rattle.std.specs.Option.{option_map}
use Rattle.std.specs.Prelude.{List, map}
use Rattle.std.specs.declared.alloc.Global.{Global}
use Rattle.std.specs.declared.vec.Vec.{Vec}
use Rattle.xs_cstmt.specs.StatementTree.{DeclaratorTree, DeclaredTree, FirstTree, NoFirst, FirstDeclare, FirstEffect, ForTree, StmtTree, Block, Empty, Declare, Effect, If, IfElse, While, DoWhile, For, Switch, Break, Continue, Return, Perl, GroupTree, stmts_of, groups_of}
use Rattle.xs_cstmt.specs.declared.tree.Declarator.{Declarator}
use Rattle.xs_cstmt.specs.declared.tree.Declared.{Declared}
use Rattle.xs_cstmt.specs.declared.tree.First.{First}
use Rattle.xs_cstmt.specs.declared.tree.First.TheVariants as first
use Rattle.xs_cstmt.specs.declared.tree.ForHead.{ForHead}
use Rattle.xs_cstmt.specs.declared.tree.Group.{Group}
use Rattle.xs_cstmt.specs.declared.tree.Stmt.{Stmt}
use Rattle.xs_cstmt.specs.declared.tree.Stmt.TheOpen.{Stmt-F, Group-F}
use Rattle.xs_cstmt.specs.declared.tree.Stmt.TheFolds.{fold-Stmt, fold-Group}
use Rattle.xs_cexpr.specs.ExpressionViews.{expr_tree}

abbrev pub declarator_tree : Declarator → DeclaratorTree
declarator_tree d = record {
  line = d.line;
  stars = d.stars;
  name = d.name;
  value = option_map expr_tree d.value;
}

abbrev pub declared_tree : Declared → DeclaredTree
declared_tree d =
    record { line = d.line; base = d.base; names = map declarator_tree d.names }

abbrev pub first_tree : First → FirstTree
first_tree first.Nothing = NoFirst
first_tree (first.Declare d) = FirstDeclare (declared_tree d)
first_tree (first.Effect a) = FirstEffect (expr_tree a)

abbrev pub for_tree : ForHead → ForTree
for_tree head = record {
  first = first_tree head.first;
  test = option_map expr_tree head.test;
  step = option_map expr_tree head.step;
}

abbrev pub stmt_step : Stmt-F StmtTree GroupTree → StmtTree
stmt_step (Stmt-F.Block line body) = Block line (stmts_of body.items)
stmt_step (Stmt-F.Empty line) = Empty line
stmt_step (Stmt-F.Declare d) = Declare (declared_tree d)
stmt_step (Stmt-F.Effect line a) = Effect line (expr_tree a)
stmt_step (Stmt-F.If line test s) = If line (expr_tree test) s.value
stmt_step (Stmt-F.IfElse line test s other) = IfElse line (expr_tree test) s.value other.value
stmt_step (Stmt-F.While line test s) = While line (expr_tree test) s.value
stmt_step (Stmt-F.DoWhile line s test) = DoWhile line s.value (expr_tree test)
stmt_step (Stmt-F.For line head s) = For line (for_tree head) s.value
stmt_step (Stmt-F.Switch line a groups) = Switch line (expr_tree a) (groups_of groups.items)
stmt_step (Stmt-F.Break line) = Break line
stmt_step (Stmt-F.Continue line) = Continue line
stmt_step (Stmt-F.Return line value) = Return line (option_map expr_tree value)
stmt_step (Stmt-F.Perl line form) = Perl line form

abbrev pub group_step : Group-F StmtTree GroupTree → GroupTree
group_step g = record { line = g.line; labels = g.labels; body = stmts_of g.body.items }

unfoldable pub stmt_tree : Stmt → StmtTree
stmt_tree = fold-Stmt StmtTree GroupTree stmt_step group_step

unfoldable pub group_tree : Group → GroupTree
group_tree = fold-Group StmtTree GroupTree stmt_step group_step

-- statements in order
abbrev pub stmt_trees : Vec Stmt Global → List StmtTree
stmt_trees all = map stmt_tree all.items

abbrev pub group_trees : Vec Group Global → List GroupTree
group_trees all = map group_tree all.items
