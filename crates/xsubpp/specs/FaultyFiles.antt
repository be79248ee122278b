-- Where a file that a command names is too long, or what it reads has a fault.
use Rattle.std.specs.Prelude.{◌≡◌, ◌⊎◌, ℕ, ◌<◌, List, [], ◌∷◌, length, Option, None, Some, Err}
use Rattle.xs_base.specs.declared.fault.Fault.{Fault}
use Rattle.xs_base.specs.declared.source.FileOf.{FileOf}
use Rattle.xs_base.specs.declared.source.FileOf.TheVariants.{Xs, Script}
use Rattle.xs_base.specs.Desks.{Files}
use Rattle.xs_call.specs.Jobs.{calls_in, module_in}
use Rattle.xsubpp.specs.Answers.{file_limit, files_of, name_of}
use Rattle.xsubpp.specs.CommandLine.{Command, Compile, Call, Check}
use Rattle.xsubpp.specs.Lacking.{IsWithin}
use Rattle.xsubpp.specs.Written.{AreHeld, HasModule}

-- a file that is there and longer than the limit
abbrev pub IsTooLong : Option (List ℕ) → Type 0
IsTooLong None = ⊥
IsTooLong (Some bytes) = file_limit < length bytes

-- one of these files is too long, and those before it are there and not longer than the limit
abbrev pub OneIsTooLong : Files → Command → List FileOf → Type 0
OneIsTooLong files command [] = ⊥
OneIsTooLong files command (file ∷ more) = IsTooLong (files (name_of command file))
    ⊎ (IsWithin (files (name_of command file)) × OneIsTooLong files command more)

-- This is the first fault of what a command reads: the XS file has it, or the XS file is accepted
-- and the script has it.
abbrev pub IsFirstFault : Command → (FileOf → List ℕ) → Fault → Type 0
IsFirstFault (Compile file) bytes fault = module_in (bytes Xs) ≡ Err fault
IsFirstFault (Call file script) bytes fault = (module_in (bytes Xs) ≡ Err fault)
    ⊎ (HasModule (bytes Xs) × (calls_in (bytes Script) ≡ Err fault))
IsFirstFault (Check file) bytes fault = module_in (bytes Xs) ≡ Err fault

-- The files of a command are there within the limit, and what is read of them has this first fault.
pub record HasFirstFault (files : Files) (command : Command) : Type 0 where
  pub bytes : FileOf → List ℕ
  pub fault : Fault
  pub held : AreHeld files command bytes (files_of command)
  pub is_first : IsFirstFault command bytes fault

-- A file that the command names is too long, and no earlier one is lacking or too long; or all are
-- there within the limit, and what is read has a fault.
abbrev pub HasFaultyFile : Option Command → Files → Type 0
HasFaultyFile None files = ⊥
HasFaultyFile (Some command) files = OneIsTooLong files command (files_of command)
    ⊎ HasFirstFault files command
