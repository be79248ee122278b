-- The commands of a script as plain data.
use Rattle.std.specs.Prelude.{ℕ, List, [], ◌∷◌}
use Rattle.xs_script.specs.declared.command.Number.{Number}

mutual
  -- an expression whose value a command makes or passes
  pub data Expr : Type 0 where
    Undef : Expr
    Num : Number → Expr
    Text : List ℕ → Expr
    Variable : List ℕ → Expr
    Reference : List ℕ → Expr
    ListOf : Exprs → Expr
    HashOf : Entries → Expr
    Argument : ℕ → Expr

  pub data Exprs : Type 0 where
    NoMore : Exprs
    More : Expr → Exprs → Exprs

  pub data Entries : Type 0 where
    NoEntry : Entries
    Entry : List ℕ → Expr → Entries → Entries

abbrev pub exprs_of : List Expr → Exprs
exprs_of [] = NoMore
exprs_of (e ∷ es) = More e (exprs_of es)

abbrev pub entries_of : List (List ℕ × Expr) → Entries
entries_of [] = NoEntry
entries_of (p ∷ ps) = Entry p.0 p.1 (entries_of ps)

-- what a sub does
pub data Act : Type 0 where
  Push : Expr → Act
  Set : ℕ → Expr → Act
  Call : List ℕ → List Expr → Act
  Die : List ℕ → Act

-- a command with its line
pub data CommandView : Type 0 where
  My : ℕ → List ℕ → Expr → CommandView
  MyCall : ℕ → List ℕ → List ℕ → List Expr → CommandView
  Ro : ℕ → List ℕ → CommandView
  CallSub : ℕ → List ℕ → List Expr → CommandView
  Show : ℕ → List ℕ → CommandView
  Drop : ℕ → List ℕ → CommandView
  Isa : ℕ → List ℕ → List ℕ → CommandView
  Sub : ℕ → List ℕ → List Act → CommandView
