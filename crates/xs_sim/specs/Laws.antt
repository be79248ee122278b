-- Laws of runs of the machine that hold for every C text.
use Rattle.std.specs.Prelude.{◌≡◌, ℤ, ℕ, ◌+◌, ◌<◌, ◌≤◌, false, List, [], ◌++◌, length, None}
use Rattle.xs_api.specs.declared.api.Frame.{Frame}
use Rattle.xs_api.specs.declared.api.Operand.{Operand}
use Rattle.xs_api.specs.declared.api.Registered.{Registered}
use Rattle.xs_api.specs.World.{Cells, Clean, live_of, registered, sweep}
use Rattle.xs_ctree.specs.TypedTree.{Code}
use Rattle.xs_machine.specs.declared.machine.Outcome.{Outcome}
use Rattle.xs_machine.specs.declared.machine.Outcome.TheVariants as outcome
use Rattle.xs_machine.specs.Machine.{called, is_over, runner_depths, undefined_text}
use Rattle.xs_meaning.specs.DeclaredMeaning.{names_from}
use Rattle.xs_sim.specs.MadeArguments.{AllMade, args_made}
use Rattle.xs_sim.specs.RunnerStates.{EndsAs, gone, idle, made, newest, resting, world}
use Rattle.xs_values.specs.declared.trap.Trap.TheVariants.{Large}

-- ---- the arguments of a call

-- Where there is room for all, each argument is a new temporary that holds its number, and the
-- arguments have the next names in their order.
abbrev pub ArgumentsAreMade : Type 0
ArgumentsAreMade = (zs : List ℤ) (cells : Cells) (n : ℕ) (temps : List ℕ)
    (names : List Registered) → length cells ≡ n → n + length zs ≤ 4000005
    → args_made zs (world cells [] 0 [] temps names)
    ≡ AllMade (names_from n zs) (world (cells ++ made zs) [] 0 [] (newest n zs temps) names)

-- The end of the temporaries frees all of them, and empties the argument list.
abbrev pub ArgumentsAreFreed : Type 0
ArgumentsAreFreed = (zs : List ℤ) (h : Cells) (n : ℕ) (args : List ℕ) (top : ℕ)
    (names : List Registered) → length h ≡ n → 5 ≤ n
    → sweep runner_depths (world (h ++ made zs) args top [] (newest n zs []) names)
    ≡ Clean (world (h ++ gone zs) [] 0 [] [] names)

-- After that no more counted scalars live than before the call.
abbrev pub NoneIsLeft : Type 0
NoneIsLeft = (h : Cells) (zs : List ℤ) → 5 ≤ length h → live_of h ≡ 0 → live_of (h ++ gone zs) ≡ 0

-- ---- calls that run no function

-- A call with more arguments than the list holds traps, and changes nothing.
abbrev pub TooManyTrap : Type 0
TooManyTrap = (code : Code) (sub args temps : List ℕ) (cells : Cells) (names : List Registered)
    (o : Outcome) (vars : List Operand) (f : Frame) (t0 : ℕ) → is_over o ≡ false
    → (turns : ℕ) → 1000000 < length args
    → EndsAs (called code sub args turns (resting o vars f (idle cells temps names) t0))
    (outcome.Trapped Large) (idle cells temps names)

-- A call of a name that no function has croaks, and leaves the stacks as they were.
abbrev pub UnknownCroaks : Type 0
UnknownCroaks = (code : Code) (sub args temps : List ℕ) (cells : Cells) (names : List Registered)
    (o : Outcome) (vars : List Operand) (f : Frame) (t0 : ℕ) → is_over o ≡ false
    → (turns : ℕ) → length args ≤ 1000000 → registered sub names ≡ None
    → EndsAs (called code sub args turns (resting o vars f (idle cells temps names) t0))
    (outcome.Croaked (undefined_text sub)) (idle cells temps names)
