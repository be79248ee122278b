-- The commands of a script as they are written.
use Rattle.std.specs.Prelude.{ℕ, List}

mutual
  -- an expression as it is written, with its numbers as they stand
  pub data Form : Type 0 where
    Undef : Form
    Number : List ℕ → Form
    Text : List ℕ → Form
    Variable : List ℕ → Form
    Reference : List ℕ → Form
    ListOf : Forms → Form
    HashOf : Pairs → Form
    Argument : List ℕ → Form

  pub data Forms : Type 0 where
    NoForm : Forms
    MoreForms : Form → Forms → Forms

  pub data Pairs : Type 0 where
    NoPair : Pairs
    MorePairs : List ℕ → Form → Pairs → Pairs

-- an action of a sub
pub data Deed : Type 0 where
  Push : Form → Deed
  Set : List ℕ → Form → Deed
  Call : List ℕ → Forms → Deed
  Die : List ℕ → Deed

-- a command
pub data Written : Type 0 where
  My : List ℕ → Form → Written
  MyCall : List ℕ → List ℕ → Forms → Written
  Ro : List ℕ → Written
  CallSub : List ℕ → Forms → Written
  Show : List ℕ → Written
  Drop : List ℕ → Written
  Isa : List ℕ → List ℕ → Written
  Sub : List ℕ → List Deed → Written
