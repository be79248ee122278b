-- The plain data of each kind of statement.
use Rattle.std.proofs.Common.{◌≡◌, ℕ, List, Option, map, option_map, ap, sym, ◌∙◌}
use Rattle.std.specs.declared.alloc.Global.{Global}
use Rattle.std.specs.declared.boxed.Box.{Box}
use Rattle.std.specs.declared.vec.Vec.{Vec}
use Rattle.xs_cexpr.proofs.ViewsCompute as exprs
use Rattle.xs_cstmt.specs.declared.tree.Declared.{Declared}
use Rattle.xs_cstmt.specs.declared.tree.ForHead.{ForHead}
use Rattle.xs_cstmt.specs.declared.tree.Group.{Group, out-Group, roll-Group}
use Rattle.xs_cstmt.specs.declared.tree.Label.{Label}
use Rattle.xs_cstmt.specs.declared.tree.PerlForm.{PerlForm}
use Rattle.xs_cexpr.specs.declared.tree.Expr.{Expr}
use Rattle.xs_cstmt.specs.declared.tree.Stmt.{Stmt}
use Rattle.xs_cstmt.specs.declared.tree.Stmt.TheVariants as s
use Rattle.xs_cstmt.specs.declared.tree.Stmt.TheVariants.{rolls-Block, rolls-Empty, rolls-Declare, rolls-Effect, rolls-If, rolls-IfElse, rolls-While, rolls-DoWhile, rolls-For, rolls-Switch, rolls-Break, rolls-Continue, rolls-Return, rolls-Perl}
use Rattle.xs_cstmt.specs.declared.tree.Stmt.TheOpen.{Stmt-F}
use Rattle.xs_cstmt.specs.declared.tree.Stmt.TheFolds.{fold-roll-Stmt, fold-roll-Group, fold_out-Group}
use Rattle.xs_cstmt.specs.StatementTree as t
use Rattle.xs_cstmt.specs.StatementTree.{StmtTree, GroupTree, stmts_of, groups_of}
use Rattle.xs_cexpr.specs.ExpressionViews.{expr_tree}
use Rattle.xs_cstmt.specs.StatementViews.{stmt_tree, group_tree, declared_tree, for_tree, stmt_step, group_step}

pub stmt_tree-Block : (line : ℕ) (body : Vec Stmt Global)
    → stmt_tree (s.Block line body) ≡ t.Block line (stmts_of (map stmt_tree body.items))
unfolding stmt_tree
stmt_tree-Block line body = ap stmt_tree (sym (rolls-Block line body))
    ∙ fold-roll-Stmt StmtTree GroupTree stmt_step group_step (Stmt-F.Block line body)

pub stmt_tree-Empty : (line : ℕ)
    → stmt_tree (s.Empty line) ≡ t.Empty line
unfolding stmt_tree
stmt_tree-Empty line = ap stmt_tree (sym (rolls-Empty line))
    ∙ fold-roll-Stmt StmtTree GroupTree stmt_step group_step (Stmt-F.Empty line)

pub stmt_tree-Declare : (d : Declared)
    → stmt_tree (s.Declare d) ≡ t.Declare (declared_tree d)
unfolding stmt_tree
stmt_tree-Declare d = ap stmt_tree (sym (rolls-Declare d))
    ∙ fold-roll-Stmt StmtTree GroupTree stmt_step group_step (Stmt-F.Declare d)

pub stmt_tree-Effect : (line : ℕ) (a : Expr)
    → stmt_tree (s.Effect line a) ≡ t.Effect line (expr_tree a)
unfolding stmt_tree
stmt_tree-Effect line a = ap stmt_tree (sym (rolls-Effect line a))
    ∙ fold-roll-Stmt StmtTree GroupTree stmt_step group_step (Stmt-F.Effect line a)

pub stmt_tree-If : (line : ℕ) (test : Expr) (then_do : Box Stmt Global)
    → stmt_tree (s.If line test then_do) ≡ t.If line (expr_tree test) (stmt_tree then_do.value)
unfolding stmt_tree
stmt_tree-If line test then_do = ap stmt_tree (sym (rolls-If line test then_do))
    ∙ fold-roll-Stmt StmtTree GroupTree stmt_step group_step (Stmt-F.If line test then_do)

pub stmt_tree-IfElse : (line : ℕ) (test : Expr) (then_do else_do : Box Stmt Global)
    → stmt_tree (s.IfElse line test then_do else_do) ≡ t.IfElse line (expr_tree test) (stmt_tree then_do.value) (stmt_tree else_do.value)
unfolding stmt_tree
stmt_tree-IfElse line test then_do else_do = ap stmt_tree (sym (rolls-IfElse line test then_do else_do))
    ∙ fold-roll-Stmt StmtTree GroupTree stmt_step group_step (Stmt-F.IfElse line test then_do else_do)

pub stmt_tree-While : (line : ℕ) (test : Expr) (body : Box Stmt Global)
    → stmt_tree (s.While line test body) ≡ t.While line (expr_tree test) (stmt_tree body.value)
unfolding stmt_tree
stmt_tree-While line test body = ap stmt_tree (sym (rolls-While line test body))
    ∙ fold-roll-Stmt StmtTree GroupTree stmt_step group_step (Stmt-F.While line test body)

pub stmt_tree-DoWhile : (line : ℕ) (body : Box Stmt Global) (test : Expr)
    → stmt_tree (s.DoWhile line body test) ≡ t.DoWhile line (stmt_tree body.value) (expr_tree test)
unfolding stmt_tree
stmt_tree-DoWhile line body test = ap stmt_tree (sym (rolls-DoWhile line body test))
    ∙ fold-roll-Stmt StmtTree GroupTree stmt_step group_step (Stmt-F.DoWhile line body test)

pub stmt_tree-For : (line : ℕ) (head : ForHead) (body : Box Stmt Global)
    → stmt_tree (s.For line head body) ≡ t.For line (for_tree head) (stmt_tree body.value)
unfolding stmt_tree
stmt_tree-For line head body = ap stmt_tree (sym (rolls-For line head body))
    ∙ fold-roll-Stmt StmtTree GroupTree stmt_step group_step (Stmt-F.For line head body)

pub stmt_tree-Switch : (line : ℕ) (a : Expr) (groups : Vec Group Global)
    → stmt_tree (s.Switch line a groups) ≡ t.Switch line (expr_tree a) (groups_of (map group_tree groups.items))
unfolding stmt_tree group_tree
stmt_tree-Switch line a groups = ap stmt_tree (sym (rolls-Switch line a groups))
    ∙ fold-roll-Stmt StmtTree GroupTree stmt_step group_step (Stmt-F.Switch line a groups)

pub stmt_tree-Break : (line : ℕ)
    → stmt_tree (s.Break line) ≡ t.Break line
unfolding stmt_tree
stmt_tree-Break line = ap stmt_tree (sym (rolls-Break line))
    ∙ fold-roll-Stmt StmtTree GroupTree stmt_step group_step (Stmt-F.Break line)

pub stmt_tree-Continue : (line : ℕ)
    → stmt_tree (s.Continue line) ≡ t.Continue line
unfolding stmt_tree
stmt_tree-Continue line = ap stmt_tree (sym (rolls-Continue line))
    ∙ fold-roll-Stmt StmtTree GroupTree stmt_step group_step (Stmt-F.Continue line)

pub stmt_tree-Return : (line : ℕ) (value : Option Expr)
    → stmt_tree (s.Return line value) ≡ t.Return line (option_map expr_tree value)
unfolding stmt_tree
stmt_tree-Return line value = ap stmt_tree (sym (rolls-Return line value))
    ∙ fold-roll-Stmt StmtTree GroupTree stmt_step group_step (Stmt-F.Return line value)

pub stmt_tree-Perl : (line : ℕ) (form : PerlForm)
    → stmt_tree (s.Perl line form) ≡ t.Perl line form
unfolding stmt_tree
stmt_tree-Perl line form = ap stmt_tree (sym (rolls-Perl line form))
    ∙ fold-roll-Stmt StmtTree GroupTree stmt_step group_step (Stmt-F.Perl line form)

pub group_tree-Group : (line : ℕ) (labels : List Label) (body : Vec Stmt Global)
    → group_tree (roll-Group (record { line = line; labels = labels; body = body }))
    ≡ record { line = line; labels = labels; body = stmts_of (map stmt_tree body.items) }
unfolding stmt_tree group_tree
group_tree-Group line labels body =
    fold-roll-Group StmtTree GroupTree stmt_step group_step (record { line = line; labels = labels; body = body })

pub group_tree-out : (g : Group) → group_tree g
    ≡ record { line = (out-Group g).line; labels = (out-Group g).labels; body = stmts_of (map stmt_tree (out-Group g).body.items) }
unfolding stmt_tree group_tree
group_tree-out g = fold_out-Group StmtTree GroupTree stmt_step group_step g

pub ruleset views = (
  exprs.views,
  stmt_tree-Block,
  stmt_tree-Empty,
  stmt_tree-Declare,
  stmt_tree-Effect,
  stmt_tree-If,
  stmt_tree-IfElse,
  stmt_tree-While,
  stmt_tree-DoWhile,
  stmt_tree-For,
  stmt_tree-Switch,
  stmt_tree-Break,
  stmt_tree-Continue,
  stmt_tree-Return,
  stmt_tree-Perl,
)

pub ruleset group_views = (
  group_tree-Group,
  group_tree-out,
)
