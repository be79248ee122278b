-- Perl's state of the program, seen as the world of the definitions, and what its calls did.
use Rattle.std.specs.Prelude.{◌≡◌, ℕ, reverse, Option, Some, Result, Ok, Err}
use Rattle.xs_values.specs.declared.plain.Plain.{Plain}
use Rattle.xs_values.specs.declared.trap.Trap.{Trap}
use Rattle.xs_api.specs.declared.api.Frame.{Frame}
use Rattle.xs_api.specs.declared.heap.Cell.{Cell}
use Rattle.xs_api.specs.declared.api.Halt.{Halt}
use Rattle.xs_api.specs.declared.api.Halt.TheVariants.{Way, Memory}
use Rattle.xs_api.specs.declared.api.Operand.{Operand}
use Rattle.xs_api.specs.declared.api.Operand.TheVariants.{Scalar}
use Rattle.xs_api.specs.declared.api.Abrupt.TheVariants.{Traps}
use Rattle.xs_api.specs.declared.api.Perl.{Perl}
use Rattle.xs_api.specs.declared.api.Stop.{Stop}
use Rattle.xs_api.specs.declared.api.Stop.TheVariants as stop
use Rattle.xs_api.specs.Effects.{Effect, Gives, Ends}
use Rattle.xs_api.specs.Heaps.{value_at}
use Rattle.xs_api.specs.Rows.{needs, new_mortal, trapped}
use Rattle.xs_api.specs.World.{Swept, Clean, Dirty, World}

abbrev pub world_of : Perl → World
world_of p =
    record {
      cells = p.heap;
      args = p.stacks.args.items;
      top = p.stacks.top;
      marks = reverse p.stacks.marks.items;
      temps = reverse p.stacks.temps.items;
      scopes = reverse p.stacks.scopes.items;
      names = reverse p.names.items;
    }

-- how a row stops where a call of the runner does
abbrev pub halt_of : Stop → Halt
halt_of (stop.Trap t) = Way (Traps t)
halt_of stop.Memory = Memory

-- what a call of a row did is what the row does; running out of memory says nothing
abbrev pub Does : Effect World → Result Operand Halt → Frame → World → Type 0
Does e (Ok v) f w = e ≡ Gives v f w
Does e (Err (Way a)) f w = e ≡ Ends a f w
Does e (Err Memory) f w = Unit {0}

-- a scalar that a row needs is there, with its value
abbrev pub Finds : Option ℕ → World → ℕ → Plain → Type 0
Finds s w n p = (s ≡ Some n) × (value_at n w.cells ≡ Some p)

-- a scalar that a row needs is not there, so that each row traps
abbrev pub Lacks : Option ℕ → World → Trap → Type 0
Lacks s w t = (f : Frame) (go : ℕ → Cell → Effect World) → needs s f w go ≡ trapped t f w

-- a new scalar is made a temporary, the limit is reached, or memory is not found
abbrev pub MakesTemporary : Plain → World → Result ℕ Stop → World → Type 0
MakesTemporary p old (Ok n) new = (f : Frame) → new_mortal p f old ≡ Gives (Scalar (Some n)) f new
MakesTemporary p old (Err (stop.Trap t)) new =
    ((f : Frame) → new_mortal p f old ≡ Ends (Traps t) f old) × (new ≡ old)
MakesTemporary p old (Err stop.Memory) new = Unit {0}

-- what a sweep did
abbrev pub Sweeps : Swept World → Result (Unit {0}) Trap → World → Type 0
Sweeps e (Ok u) w = e ≡ Clean w
Sweeps e (Err t) w = e ≡ Dirty t w
