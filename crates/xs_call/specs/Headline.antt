-- The headline: the glue of a module, run by the counted machine, does what the module's interface
-- declares, and it leaves nothing after.
use Rattle.std.specs.Prelude.{◌≡◌, ⊤, List, [], ◌∷◌, length, Option, None, Some}
use Rattle.xs_meaning.specs.declared.call_command.CallCommand.{CallCommand}
use Rattle.xs_call.specs.MachineTranscript.{most_turns, boot_report, end_of, machine_transcript}
use Rattle.xs_call.specs.GlueCode.{glue_code}
use Rattle.xs_meaning.specs.DeclaredMeaning as declared
use Rattle.xs_meaning.specs.DeclaredMeaning.{Store, declared_transcript, new_store}
use Rattle.xs_call.specs.MachineTranscript as running
use Rattle.xs_meaning.specs.Transcript.{Report}
use Rattle.xs_iface.specs.SumForm.{IsSumModule}
use Rattle.xs_iface.specs.declared.xsub.Module.{Module}
use Rattle.xs_machine.specs.Machine.{Mach, booted, loaded}
use Rattle.xs_ctree.specs.TypedTree.{Code}
use Rattle.xs_api.specs.World.{World, live_of}

-- ---- the machine

-- What holds of the machine between two commands: no work is pending, all stacks are empty, no
-- counted scalar lives, and the next name is the one that the declared store gives next.
pub record IsExact (m : Mach World) (store : Store) : Type 0 where
  pub no_work : m.pending ≡ []
  pub no_arguments : m.state.store.args ≡ []
  pub at_bottom : m.state.store.top ≡ 0
  pub no_marks : m.state.store.marks ≡ []
  pub no_temporaries : m.state.store.temps ≡ []
  pub no_scopes : m.state.store.scopes ≡ []
  pub none_lives : live_of m.state.store.cells ≡ 0
  pub same_next : length m.state.store.cells ≡ length store

-- both runs go on, and this holds of what they go on with; or both end
abbrev pub BothGoOn : (Mach World → Store → Type 0) → Option (Mach World) → Option Store → Type 0
BothGoOn holds None None = ⊤
BothGoOn holds (Some m) (Some store) = holds m store
BothGoOn holds None (Some store) = ⊥
BothGoOn holds (Some m) None = ⊥

-- both runs go on, the machine exact, and what follows holds; or both end
abbrev pub exact_after : Option (Mach World) → Option Store → (Mach World → Store → Type 0) → Type 0
exact_after machine store after = BothGoOn (λ m s. IsExact m s × after m s) machine store

-- the machine is exact after each command that goes on
abbrev pub exact_along : Module → Code → Mach World → Store → List CallCommand → Type 0
exact_along m code machine store [] = ⊤
exact_along m code machine store (c ∷ cs) =
    exact_after (running.call_report code machine c).next (declared.call_report m store c).next
    (λ machine1 store1. exact_along m code machine1 store1 cs)

-- the report of the boot
abbrev pub booted_report : Code → Report (Mach World)
booted_report code =
    boot_report (end_of (booted code most_turns loaded).stopped) (booted code most_turns loaded)

-- the machine is exact after the boot, and after each command that goes on
unfoldable pub ExactAfter : Module → Code → List CallCommand → Type 0
ExactAfter m code cs =
    exact_after (booted_report code).next (Some new_store)
    (λ machine store. exact_along m code machine store cs)

-- ---- the laws

-- The glue, as typed code, does what the interface declares.
abbrev pub RunsAsDeclared : Type 0
RunsAsDeclared = (m : Module) → IsSumModule m → (cs : List CallCommand)
    → machine_transcript (glue_code m) loaded cs ≡ declared_transcript m cs

-- The machine that runs the glue leaves nothing after a command.
abbrev pub StaysExact : Type 0
StaysExact = (m : Module) → IsSumModule m → (cs : List CallCommand) → ExactAfter m (glue_code m) cs
