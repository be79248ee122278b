-- How deep what is read may be.
use Rattle.std.specs.Prelude.{ℕ, ◌+◌, ◌≤◌, List, [], ◌∷◌}
use Rattle.xs_cstmt.specs.StatementHeights.{depths, tallest_of}
use Rattle.xs_cstmt.specs.StatementReader.{max_nesting}
use Rattle.xs_cstmt.specs.StatementTree.{StmtTrees}
use Rattle.xs_csyn.specs.FileTree as tree
use Rattle.xs_csyn.specs.FileTree.{ItemTree}

-- These statements have at most so many levels, and no expression in them is too deep.
abbrev pub Fit : ℕ → StmtTrees → Type 0
Fit room all = (depths all ≤ room) × (tallest_of all ≤ max_nesting)

-- The body of a function is a level of its own.
abbrev pub FitsItem : ItemTree → Type 0
FitsItem (tree.TypedefItem t) = Unit {0}
FitsItem (tree.RecordItem r) = Unit {0}
FitsItem (tree.PrototypeItem h) = Unit {0}
FitsItem (tree.FunctionItem f) = (depths f.body + 1 ≤ max_nesting)
    × (tallest_of f.body ≤ max_nesting)
FitsItem (tree.XsFunItem f) = (depths f.body + 1 ≤ max_nesting) × (tallest_of f.body ≤ max_nesting)

-- No statement and no expression of the functions is too deep.
abbrev pub FitItems : List ItemTree → Type 0
FitItems [] = Unit {0}
FitItems (one ∷ all) = FitsItem one × FitItems all
