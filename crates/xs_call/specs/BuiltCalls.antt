-- The commands of a script that can be run so far: calls in list form with whole numbers that an IV
-- holds.
use Rattle.std.specs.Option.{option_map}
use Rattle.std.specs.Prelude.{ℤ, ℕ, List, [], ◌∷◌, Option, None, Some, option_and_then, Result, Ok, Err}
use Rattle.xs_base.specs.declared.fault.Fault.{Fault}
use Rattle.xs_base.specs.declared.source.FileOf.TheVariants.{Script}
use Rattle.xs_meaning.specs.declared.call_command.CallCommand.{CallCommand}
use Rattle.xs_base.specs.Reading.{collect, not_built_in}
use Rattle.xs_script.specs.CommandTree.{Expr, Num, CommandView, My, MyCall, Ro, CallSub, Show, Drop, Isa, Sub}
use Rattle.xs_script.specs.declared.command.Number.TheVariants.{Int}

-- the number that an expression is, if it is one that an IV holds
abbrev pub int_of : Expr → Option ℤ
int_of (Num (Int n)) = Some n
int_of _ = None

abbrev pub ints_of : List Expr → Option (List ℤ)
ints_of [] = Some []
ints_of (e ∷ es) = option_and_then (λ n. option_map (λ ns. n ∷ ns) (ints_of es)) (int_of e)

-- the fault of a command of a form that is not built yet
abbrev pub not_built_at : ℕ → Fault
not_built_at line = not_built_in Script line

abbrev pub call_with : ℕ → List ℕ → Option (List ℤ) → Result CallCommand Fault
call_with line sub None = Err (not_built_at line)
call_with line sub (Some numbers) = Ok (record { line = line; sub = sub; args = numbers })

abbrev pub call_of_command : CommandView → Result CallCommand Fault
call_of_command (My line name e) = Err (not_built_at line)
call_of_command (MyCall line name sub args) = Err (not_built_at line)
call_of_command (Ro line name) = Err (not_built_at line)
call_of_command (CallSub line sub args) = call_with line sub (ints_of args)
call_of_command (Show line name) = Err (not_built_at line)
call_of_command (Drop line name) = Err (not_built_at line)
call_of_command (Isa line class parent) = Err (not_built_at line)
call_of_command (Sub line sub actions) = Err (not_built_at line)

-- the calls of a script, or the fault of its first command that is none
abbrev pub calls_of_commands : List CommandView → Result (List CallCommand) Fault
calls_of_commands commands = collect call_of_command commands
