-- What the runner's functions owe to the definition of the transcript.
use Rattle.std.specs.Prelude.{◌≡◌, ℤ, ℕ, List, None, Some, Result, Ok, Err, if◌then◌else◌}
use Rattle.xs_sim.specs.MadeArguments.{AllMade, NotMade, args_made}
use Rattle.xs_meaning.specs.Transcript.{Report}
use Rattle.xs_call.specs.declared.running.Reported.{Reported}
use Rattle.xs_machine.specs.Machine.{Mach, with_world}
use Rattle.xs_api.specs.World.{World}
use Rattle.xs_api.specs.declared.api.Stop.{Stop}
use Rattle.xs_api.specs.declared.api.Stop.TheVariants as stop

-- The arguments were made, or a limit was reached; running out of memory promises nothing.
abbrev pub MakesArguments : List ℤ → Mach World → Result (List ℕ) Stop → Mach World → Type 0
MakesArguments values old (Ok names) new =
    (args_made values old.state.store ≡ AllMade names new.state.store)
    × (new ≡ with_world new.state.store old)
MakesArguments values old (Err (stop.Trap trap)) new =
    (args_made values old.state.store ≡ NotMade trap) × (new.pending ≡ old.pending)
MakesArguments values old (Err stop.Memory) new = Unit {0}

-- This was reported, and the machine stands where the script goes on, if it does.
pub record IsReported (reported : Report (Mach World)) (reporting : Reported)
    (machine : Mach World) : Type 0 where
  pub text_is : reporting.text ≡ reported.text
  pub next_is : reported.next ≡ (if reporting.goes_on then Some machine else None)
