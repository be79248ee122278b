-- The trees of statements as plain data. The first number of a node is the line of its first
-- token.
use Rattle.std.specs.Prelude.{ℕ, List, [], ◌∷◌, Option, map}
use Rattle.std.specs.Option.{option_map}
use Rattle.xs_cstmt.specs.declared.tree.Label.{Label}
use Rattle.xs_cstmt.specs.declared.tree.Label.TheVariants as label
use Rattle.xs_cstmt.specs.declared.tree.PerlForm.{PerlForm}
use Rattle.xs_cexpr.specs.ExpressionTree.{ExprTree, unlined_expr}

-- a name that is declared, with the number of `*` before it and the value after `=`
pub record DeclaratorTree : Type 0 where
  pub line : ℕ
  pub stars : ℕ
  pub name : List ℕ
  pub value : Option ExprTree

-- names that are declared with the type before them
pub record DeclaredTree : Type 0 where
  pub line : ℕ
  pub base : List ℕ
  pub names : List DeclaratorTree

-- what stands first in the head of a `for`
pub data FirstTree : Type 0 where
  NoFirst : FirstTree
  FirstDeclare : DeclaredTree → FirstTree
  FirstEffect : ExprTree → FirstTree

-- the head of a `for`
pub record ForTree : Type 0 where
  pub first : FirstTree
  pub test : Option ExprTree
  pub step : Option ExprTree

mutual
  -- a block, an empty statement, a declaration, an expression for its effect, an `if` without and
  -- with `else`, the three loops, a switch, leaving a loop or a switch, the next turn, the end of
  -- the function, a statement of the XS interface
  pub data StmtTree : Type 0 where
    Block : ℕ → StmtTrees → StmtTree
    Empty : ℕ → StmtTree
    Declare : DeclaredTree → StmtTree
    Effect : ℕ → ExprTree → StmtTree
    If : ℕ → ExprTree → StmtTree → StmtTree
    IfElse : ℕ → ExprTree → StmtTree → StmtTree → StmtTree
    While : ℕ → ExprTree → StmtTree → StmtTree
    DoWhile : ℕ → StmtTree → ExprTree → StmtTree
    For : ℕ → ForTree → StmtTree → StmtTree
    Switch : ℕ → ExprTree → GroupTrees → StmtTree
    Break : ℕ → StmtTree
    Continue : ℕ → StmtTree
    Return : ℕ → Option ExprTree → StmtTree
    Perl : ℕ → PerlForm → StmtTree

  pub data StmtTrees : Type 0 where
    NoStmts : StmtTrees
    MoreStmts : StmtTree → StmtTrees → StmtTrees

  -- groups of a switch: the line, the labels, and the statements after them
  pub data GroupTrees : Type 0 where
    NoGroups : GroupTrees
    MoreGroups : ℕ → List Label → StmtTrees → GroupTrees → GroupTrees

abbrev pub stmts_of : List StmtTree → StmtTrees
stmts_of [] = NoStmts
stmts_of (s ∷ all) = MoreStmts s (stmts_of all)

-- labels of a switch and the statements after them
pub record GroupTree : Type 0 where
  pub line : ℕ
  pub labels : List Label
  pub body : StmtTrees

abbrev pub groups_of : List GroupTree → GroupTrees
groups_of [] = NoGroups
groups_of (g ∷ all) = MoreGroups g.line g.labels g.body (groups_of all)

-- ---- a tree with 0 in the place of each line

abbrev pub unlined_declarator : DeclaratorTree → DeclaratorTree
unlined_declarator d = record {
  line = 0;
  stars = d.stars;
  name = d.name;
  value = option_map unlined_expr d.value;
}

abbrev pub unlined_declared : DeclaredTree → DeclaredTree
unlined_declared d =
    record { line = 0; base = d.base; names = map unlined_declarator d.names }

abbrev pub unlined_first : FirstTree → FirstTree
unlined_first NoFirst = NoFirst
unlined_first (FirstDeclare d) = FirstDeclare (unlined_declared d)
unlined_first (FirstEffect a) = FirstEffect (unlined_expr a)

abbrev pub unlined_for : ForTree → ForTree
unlined_for head = record {
  first = unlined_first head.first;
  test = option_map unlined_expr head.test;
  step = option_map unlined_expr head.step;
}

abbrev pub unlined_label : Label → Label
unlined_label (label.Int line literal) = label.Int 0 literal
unlined_label (label.Name line name) = label.Name 0 name
unlined_label (label.Default line) = label.Default 0

abbrev mutual
  pub unlined_stmt : StmtTree → StmtTree
  unlined_stmt (Block line body) = Block 0 (unlined_stmts body)
  unlined_stmt (Empty line) = Empty 0
  unlined_stmt (Declare d) = Declare (unlined_declared d)
  unlined_stmt (Effect line a) = Effect 0 (unlined_expr a)
  unlined_stmt (If line test s) = If 0 (unlined_expr test) (unlined_stmt s)
  unlined_stmt (IfElse line test s other) =
      IfElse 0 (unlined_expr test) (unlined_stmt s) (unlined_stmt other)
  unlined_stmt (While line test s) = While 0 (unlined_expr test) (unlined_stmt s)
  unlined_stmt (DoWhile line s test) = DoWhile 0 (unlined_stmt s) (unlined_expr test)
  unlined_stmt (For line head s) = For 0 (unlined_for head) (unlined_stmt s)
  unlined_stmt (Switch line a groups) = Switch 0 (unlined_expr a) (unlined_groups groups)
  unlined_stmt (Break line) = Break 0
  unlined_stmt (Continue line) = Continue 0
  unlined_stmt (Return line value) = Return 0 (option_map unlined_expr value)
  unlined_stmt (Perl line form) = Perl 0 form

  pub unlined_stmts : StmtTrees → StmtTrees
  unlined_stmts NoStmts = NoStmts
  unlined_stmts (MoreStmts s all) = MoreStmts (unlined_stmt s) (unlined_stmts all)

  pub unlined_groups : GroupTrees → GroupTrees
  unlined_groups NoGroups = NoGroups
  unlined_groups (MoreGroups line labels body all) =
      MoreGroups 0 (map unlined_label labels) (unlined_stmts body) (unlined_groups all)
