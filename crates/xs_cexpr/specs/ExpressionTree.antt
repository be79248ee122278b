-- The trees of expressions as plain data. The first number of a node is the line of its first
-- token.
use Rattle.std.specs.Prelude.{ℕ, List, [], ◌∷◌, Option}
use Rattle.xs_ctok.specs.declared.token.Literal.{Literal}
use Rattle.xs_values.specs.declared.operator.Op.{Op}
use Rattle.xs_values.specs.declared.unary_operator.UnOp.{UnOp}
use Rattle.xs_cinput.specs.declared.tree.BinaryOp.{BinaryOp}
use Rattle.xs_cinput.specs.declared.tree.CType.{CType}
use Rattle.xs_cinput.specs.declared.tree.Step.{Step}

mutual
  -- a name, an integer, a character by its byte, a text by its bytes, a call with its arguments, an
  -- expression in parentheses, INT2PTR of a type and a number, an element, a field, an operator
  -- before its operand, a cast, what a pointer points to, the address of a name, a step before and
  -- after a place, two operands, a choice of two, an assignment
  pub data ExprTree : Type 0 where
    Var : ℕ → List ℕ → ExprTree
    Num : ℕ → Literal → ExprTree
    Chr : ℕ → ℕ → ExprTree
    Str : ℕ → List ℕ → ExprTree
    Call : ℕ → List ℕ → ExprTrees → ExprTree
    Paren : ℕ → ExprTree → ExprTree
    Int2Ptr : ℕ → CType → ExprTree → ExprTree
    Index : ℕ → ExprTree → ExprTree → ExprTree
    Arrow : ℕ → List ℕ → List ℕ → ExprTree
    One : ℕ → UnOp → ExprTree → ExprTree
    Cast : ℕ → CType → ExprTree → ExprTree
    Deref : ℕ → ExprTree → ExprTree
    Address : ℕ → List ℕ → ExprTree
    Before : ℕ → Step → PlaceTree → ExprTree
    After : ℕ → PlaceTree → Step → ExprTree
    Two : ℕ → BinaryOp → ExprTree → ExprTree → ExprTree
    Choice : ℕ → ExprTree → ExprTree → ExprTree → ExprTree
    Set : ℕ → PlaceTree → Option Op → ExprTree → ExprTree

  pub data ExprTrees : Type 0 where
    NoExprs : ExprTrees
    MoreExprs : ExprTree → ExprTrees → ExprTrees

  -- a variable, what a variable points to, a field, a place of the argument list
  pub data PlaceTree : Type 0 where
    VarPlace : ℕ → List ℕ → PlaceTree
    TargetPlace : ℕ → List ℕ → PlaceTree
    FieldPlace : ℕ → List ℕ → List ℕ → PlaceTree
    StPlace : ℕ → ExprTree → PlaceTree

abbrev pub exprs_of : List ExprTree → ExprTrees
exprs_of [] = NoExprs
exprs_of (a ∷ all) = MoreExprs a (exprs_of all)

-- ---- a tree with 0 in the place of each line

abbrev pub unlined_type : CType → CType
unlined_type t = record t { line = 0 }

abbrev mutual
  pub unlined_expr : ExprTree → ExprTree
  unlined_expr (Var line name) = Var 0 name
  unlined_expr (Num line literal) = Num 0 literal
  unlined_expr (Chr line byte) = Chr 0 byte
  unlined_expr (Str line text) = Str 0 text
  unlined_expr (Call line name args) = Call 0 name (unlined_exprs args)
  unlined_expr (Paren line a) = Paren 0 (unlined_expr a)
  unlined_expr (Int2Ptr line to a) = Int2Ptr 0 (unlined_type to) (unlined_expr a)
  unlined_expr (Index line a at) = Index 0 (unlined_expr a) (unlined_expr at)
  unlined_expr (Arrow line name field) = Arrow 0 name field
  unlined_expr (One line op a) = One 0 op (unlined_expr a)
  unlined_expr (Cast line to a) = Cast 0 (unlined_type to) (unlined_expr a)
  unlined_expr (Deref line a) = Deref 0 (unlined_expr a)
  unlined_expr (Address line name) = Address 0 name
  unlined_expr (Before line step place) = Before 0 step (unlined_place place)
  unlined_expr (After line place step) = After 0 (unlined_place place) step
  unlined_expr (Two line op a b) = Two 0 op (unlined_expr a) (unlined_expr b)
  unlined_expr (Choice line test a b) =
      Choice 0 (unlined_expr test) (unlined_expr a) (unlined_expr b)
  unlined_expr (Set line place op a) = Set 0 (unlined_place place) op (unlined_expr a)

  pub unlined_exprs : ExprTrees → ExprTrees
  unlined_exprs NoExprs = NoExprs
  unlined_exprs (MoreExprs a all) = MoreExprs (unlined_expr a) (unlined_exprs all)

  pub unlined_place : PlaceTree → PlaceTree
  unlined_place (VarPlace line name) = VarPlace 0 name
  unlined_place (TargetPlace line name) = TargetPlace 0 name
  unlined_place (FieldPlace line name field) = FieldPlace 0 name field
  unlined_place (StPlace line at) = StPlace 0 (unlined_expr at)
