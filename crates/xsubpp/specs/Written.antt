-- What a command writes on `out`, in terms of the interface that its XS file declares.
use Rattle.std.specs.Prelude.{◌≡◌, ℕ, ◌≤◌, List, [], ◌∷◌, length, Option, Some, Ok}
use Rattle.xs_base.specs.declared.source.FileOf.{FileOf}
use Rattle.xs_base.specs.declared.source.FileOf.TheVariants.{Xs, Script}
use Rattle.xs_base.specs.Desks.{Files}
use Rattle.xs_base.specs.Sinks.{appended}
use Rattle.xs_meaning.specs.declared.call_command.CallCommand.{CallCommand}
use Rattle.xs_call.specs.Jobs.{calls_in, module_in}
use Rattle.xs_call.specs.Laws.{LeavesNothing, TextRunsAsDeclared}
use Rattle.xs_meaning.specs.DeclaredMeaning.{declared_transcript}
use Rattle.xs_iface.specs.declared.xsub.Module.{Module}
use Rattle.xs_stub.specs.Stub.{glue_text}
use Rattle.xsubpp.specs.Answers.{file_limit, accepted, files_of, name_of}
use Rattle.xsubpp.specs.CommandLine.{Command, Compile, Call, Check, command_of}

-- ---- what is accepted

-- An XS file is accepted where it has a module.
pub record HasModule (xs : List ℕ) : Type 0 where
  pub m : Module
  pub is_module : module_in xs ≡ Ok m

-- A script is accepted where its commands are calls.
pub record HasCalls (script : List ℕ) : Type 0 where
  pub cs : List CallCommand
  pub are_calls : calls_in script ≡ Ok cs

-- All that a command reads is accepted.
abbrev pub IsAccepted : Command → (FileOf → List ℕ) → Type 0
IsAccepted (Compile file) bytes = HasModule (bytes Xs)
IsAccepted (Call file script) bytes = HasModule (bytes Xs) × HasCalls (bytes Script)
IsAccepted (Check file) bytes = HasModule (bytes Xs)

-- ---- what is written

-- The glue text of an XS file. For each list of calls the text, read and run, gives the declared
-- transcript and leaves nothing after.
pub record IsGlueOf (xs text : List ℕ) : Type 0 where
  pub found : HasModule xs
  pub text_is : text ≡ glue_text found.m
  pub runs : (cs : List CallCommand) → TextRunsAsDeclared found.m cs
  pub exact : (cs : List CallCommand) → LeavesNothing found.m cs

-- The declared transcript of a script. The glue text, read and run, gives the same and leaves
-- nothing after.
pub record IsTranscriptOf (xs script text : List ℕ) : Type 0 where
  pub found : HasModule xs
  pub calls : HasCalls script
  pub text_is : text ≡ declared_transcript found.m calls.cs
  pub runs : TextRunsAsDeclared found.m calls.cs
  pub exact : LeavesNothing found.m calls.cs

-- That an XS file is accepted.
pub record IsAcceptance (xs text : List ℕ) : Type 0 where
  pub found : HasModule xs
  pub text_is : text ≡ accepted

-- The text that a command writes, by the bytes of its files.
abbrev pub IsWritten : Command → (FileOf → List ℕ) → List ℕ → Type 0
IsWritten (Compile file) bytes text = IsGlueOf (bytes Xs) text
IsWritten (Call file script) bytes text = IsTranscriptOf (bytes Xs) (bytes Script) text
IsWritten (Check file) bytes text = IsAcceptance (bytes Xs) text

-- ---- a desk whose files are known

-- the desk holds these files with these bytes, within the limit
abbrev pub AreHeld : Files → Command → (FileOf → List ℕ) → List FileOf → Type 0
AreHeld files command bytes [] = Unit {0}
AreHeld files command bytes (file ∷ more) = (files (name_of command file) ≡ Some (bytes file))
    × (length (bytes file) ≤ file_limit) × AreHeld files command bytes more

-- The words are a command, its files are there within the limit, and all that it reads is accepted.
pub record IsGranted (words : List (List ℕ)) (files : Files) : Type 0 where
  pub command : Command
  pub bytes : FileOf → List ℕ
  pub is_command : command_of words ≡ Some command
  pub held : AreHeld files command bytes (files_of command)
  pub found : IsAccepted command bytes

-- What was written on `out`, by some bytes that were read.
pub record WroteByReads (words : List (List ℕ)) (out out' : Option (List ℕ)) : Type 0 where
  pub command : Command
  pub bytes : FileOf → List ℕ
  pub text : List ℕ
  pub is_command : command_of words ≡ Some command
  pub is_written : IsWritten command bytes text
  pub out_is : out' ≡ appended out text

-- What was written on `out`, by the files of the desk.
pub record Wrote (words : List (List ℕ)) (files : Files) (out out' : Option (List ℕ)) : Type 0 where
  pub by_reads : WroteByReads words out out'
  pub held : AreHeld files by_reads.command by_reads.bytes (files_of by_reads.command)
