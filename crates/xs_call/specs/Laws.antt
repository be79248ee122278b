-- Laws of the jobs: what is owed to the C text that is written for an XS file.
use Rattle.std.specs.Prelude.{◌≡◌, ℕ, List, Ok}
use Rattle.xs_ctree.specs.TypedTree.{Code, bare}
use Rattle.xs_ccheck.specs.FileTyping.{typed_of}
use Rattle.xs_call.specs.GlueCode.{glue_code}
use Rattle.xs_call.specs.Headline.{ExactAfter}
use Rattle.xs_call.specs.Jobs.{code_of, module_in, text_transcript}
use Rattle.xs_csyn.specs.FileTree.{FileTree, unlined}
use Rattle.xs_iface.specs.declared.xsub.Module.{Module}
use Rattle.xs_iface.specs.SumForm.{IsSumModule}
use Rattle.xs_meaning.specs.declared.call_command.CallCommand.{CallCommand}
use Rattle.xs_meaning.specs.DeclaredMeaning.{declared_transcript}
use Rattle.xs_stub.specs.Intended.{glue_tree}
use Rattle.xs_stub.specs.Stub.{glue_text}

-- Each tree that is the intended one but for lines has the code of the glue, but for places.
abbrev pub TextResolves : Type 0
TextResolves = (m : Module) → IsSumModule m → (t : FileTree) → unlined t ≡ unlined (glue_tree m)
    → (code : Code) × ((typed_of t ≡ Ok code) × (bare code ≡ glue_code m))

-- The C text that is written for a module, read and run, gives each call its declared meaning.
abbrev pub TextRunsAsDeclared : Module → List CallCommand → Type 0
TextRunsAsDeclared m cs = text_transcript (glue_text m) cs ≡ Ok (declared_transcript m cs)

-- So it is for each XS file that is read, and for each script of calls.
abbrev pub EachTextRunsAsDeclared : Type 0
EachTextRunsAsDeclared = (xs : List ℕ) (m : Module) (cs : List CallCommand) → module_in xs ≡ Ok m
    → TextRunsAsDeclared m cs

-- The code that is read from the written text leaves nothing after the boot, and after each command
-- that goes on: no pending work, no argument, mark, temporary or scope, and no counted scalar.
pub record LeavesNothing (m : Module) (cs : List CallCommand) : Type 0 where
  pub code : Code
  pub read : code_of (glue_text m) ≡ Ok code
  pub exact : ExactAfter m code cs

abbrev pub EachTextLeavesNothing : Type 0
EachTextLeavesNothing = (xs : List ℕ) (m : Module) (cs : List CallCommand) → module_in xs ≡ Ok m
    → LeavesNothing m cs

-- Each XS file that is read gives a module whose XSUBs are sums.
abbrev pub EachFileGivesSums : Type 0
EachFileGivesSums = (xs : List ℕ) (m : Module) → module_in xs ≡ Ok m → IsSumModule m
