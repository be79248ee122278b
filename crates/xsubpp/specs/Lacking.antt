-- Where a file that a command names is not there.
use Rattle.std.specs.Prelude.{◌≡◌, ◌⊎◌, ℕ, ◌≤◌, List, [], ◌∷◌, length, Option, None, Some}
use Rattle.xs_base.specs.declared.source.FileOf.{FileOf}
use Rattle.xs_base.specs.Desks.{Files}
use Rattle.xsubpp.specs.Answers.{file_limit, files_of, name_of}
use Rattle.xsubpp.specs.CommandLine.{Command}

-- a file that is there and not longer than the limit
abbrev pub IsWithin : Option (List ℕ) → Type 0
IsWithin None = ⊥
IsWithin (Some bytes) = length bytes ≤ file_limit

-- one of these files is lacking, and those before it are there and not longer than the limit
abbrev pub OneLacks : Files → Command → List FileOf → Type 0
OneLacks files command [] = ⊥
OneLacks files command (file ∷ more) = (files (name_of command file) ≡ None)
    ⊎ (IsWithin (files (name_of command file)) × OneLacks files command more)

-- A file that the command names is lacking, and no earlier one is longer than the limit.
abbrev pub LacksFile : Option Command → Files → Type 0
LacksFile None files = ⊥
LacksFile (Some command) files = OneLacks files command (files_of command)
