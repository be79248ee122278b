-- States of a run and of the world, written by their parts.
use Rattle.std.specs.Prelude.{◌≡◌, ℤ, ℕ, ◌+◌, List, [], ◌∷◌, map, Option, None, Some}
use Rattle.xs_api.specs.declared.api.Frame.{Frame}
use Rattle.xs_api.specs.declared.api.Operand.{Operand}
use Rattle.xs_api.specs.declared.api.Registered.{Registered}
use Rattle.xs_api.specs.declared.heap.Cell.{Cell}
use Rattle.xs_api.specs.World.{Cells, World}
use Rattle.xs_machine.specs.declared.machine.Outcome.{Outcome}
use Rattle.xs_machine.specs.Machine.{Mach, halt}
use Rattle.xs_machine.specs.MachineState.{State}
use Rattle.xs_values.specs.declared.plain.Plain.TheVariants.{Int}

abbrev pub state : List Operand → Frame → World → ℕ → State World
state vars f w turns = record { vars = vars; frame = f; store = w; turns = turns }

-- a world without scopes, and what a call knows whose arguments are the whole list
abbrev pub world : Cells → List ℕ → ℕ → List ℕ → List ℕ → List Registered → World
world cells args top marks temps names = record {
  cells = cells;
  args = args;
  top = top;
  marks = marks;
  temps = temps;
  scopes = [];
  names = names;
}

-- a world between the calls of one run: no argument, no mark
abbrev pub idle : Cells → List ℕ → List Registered → World
idle cells temps names = world cells [] 0 [] temps names

abbrev pub frame : List ℕ → ℕ → Frame
frame called items = record { called = called; base = 0; items = items }

-- the cell of a temporary that holds a number
abbrev pub holds : ℤ → Option Cell
holds z = Some (record { value = Int z; count = 1 })

-- the cells of arguments, and the same cells once they are gone
abbrev pub made : List ℤ → Cells
made zs = map holds zs

abbrev pub gone : List ℤ → Cells
gone zs = map (λ z. None) zs

-- the names from this one on, the newest first, above others
abbrev pub newest : ℕ → List ℤ → List ℕ → List ℕ
newest n [] temps = temps
newest n (z ∷ zs) temps = newest (n + 1) zs (n ∷ temps)

-- the machine between the calls
abbrev pub resting : Outcome → List Operand → Frame → World → ℕ → Mach World
resting o vars f w turns = halt o (state vars f w turns)

-- a machine whose work ended in this way, over this world
pub record EndsAs (m : Mach World) (o : Outcome) (w : World) : Type 0 where
  pub vars : List Operand
  pub frame : Frame
  pub turns : ℕ
  pub is : m ≡ resting o vars frame w turns
