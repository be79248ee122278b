-- Lines and scripts, with their first faults.
use Rattle.std.specs.Prelude.{◌≡◌, ℕ, ◌+◌, Bool, false, ◌||◌, if◌then◌else◌, nat_lt, nat_le, List, [], ◌∷◌, ◌++◌, length, Option, None, Some, Result, Ok, Err}
use Rattle.std.specs.Bool.{then_some}
use Rattle.xs_base.specs.Lines.{lines_of}
use Rattle.xs_base.specs.Reading.{◌>>=◌, fault_in, with_front}
use Rattle.xs_base.specs.declared.fault.Fault.{Fault}
use Rattle.xs_base.specs.declared.source.FileOf.TheVariants as file
use Rattle.xs_base.specs.declared.source.Line.{Line}
use Rattle.xs_script.specs.declared.cursor.Met.{Met}
use Rattle.xs_script.specs.declared.scope.Scope.{Scope}
use Rattle.xs_script.specs.declared.command.Command.{Command}
use Rattle.xs_script.specs.declared.line_part.Stop.{Stop}
use Rattle.xs_script.specs.declared.line_part.Token.{Token}
use Rattle.xs_script.specs.CommandViews.{command_view}
use Rattle.xs_script.specs.CommandTree as p
use Rattle.xs_script.specs.CommandTree.{CommandView}
use Rattle.xs_script.specs.PartInput.{Input, Outcome, start_of, met}
use Rattle.xs_script.specs.LineOutcomes.{NoReading, Stops}
use Rattle.xs_base.specs.Names.{is_among}
use Rattle.xs_base.specs.ByteRuns.{is_remark}
use Rattle.xs_base.specs.Scanning.{is_blank_line}
use Rattle.xs_script.specs.Lex.{tokens_of}
use Rattle.xs_script.specs.Rules.{command}
use Rattle.xs_script.specs.Value.{max_nesting}
use Rattle.xs_base.specs.declared.fault_codes.TheConstants.{BAD_SCRIPT_LINE, UNKNOWN_VARIABLE, NAMED_TWICE_IN_SCRIPT, NUMBER_OUT_OF_RANGE, VALUE_TOO_DEEP, TOO_MANY_IN_SCRIPT}

-- ---- limits

abbrev pub max_commands : ℕ
max_commands = 10000

abbrev pub max_variables : ℕ
max_variables = 256

abbrev pub max_subs : ℕ
max_subs = 256

-- ---- what a command does to the scope

abbrev pub empty_scope : Scope
empty_scope = record { variables = []; dropped = []; subs = []; commands = 0 }

abbrev pub one_more : Scope → Scope
one_more scope = record scope { commands = scope.commands + 1 }

abbrev pub with_variable : List ℕ → Scope → Scope
with_variable name scope = record scope { variables = scope.variables ++ name ∷ [] }

abbrev pub with_sub : List ℕ → Scope → Scope
with_sub name scope = record scope { subs = scope.subs ++ name ∷ [] }

abbrev pub without : List ℕ → Scope → Scope
without name scope = record scope { dropped = scope.dropped ++ name ∷ [] }

abbrev pub scope_after : CommandView → Scope → Scope
scope_after (p.My line name e) scope = one_more (with_variable name scope)
scope_after (p.MyCall line name sub args) scope = one_more (with_variable name scope)
scope_after (p.Ro line name) scope = one_more scope
scope_after (p.CallSub line sub args) scope = one_more scope
scope_after (p.Show line name) scope = one_more scope
scope_after (p.Drop line name) scope = one_more (without name scope)
scope_after (p.Isa line class parent) scope = one_more scope
scope_after (p.Sub line sub actions) scope = one_more (with_sub sub scope)

-- ---- faults of a line that has a reading

abbrev pub if_held : List (List ℕ) → List ℕ → Option (List ℕ)
if_held names name = then_some (is_among names name) name

-- A variable or a sub that was declared before. The two have names apart.
abbrev pub twice : Scope → CommandView → Option (List ℕ)
twice scope (p.My line name e) = if_held scope.variables name
twice scope (p.MyCall line name sub args) = if_held scope.variables name
twice scope (p.Ro line name) = None
twice scope (p.CallSub line sub args) = None
twice scope (p.Show line name) = None
twice scope (p.Drop line name) = None
twice scope (p.Isa line class parent) = None
twice scope (p.Sub line sub actions) = if_held scope.subs sub

-- a declaration that goes over its own limit
abbrev pub is_over : Scope → CommandView → Bool
is_over scope (p.My line name e) = nat_le max_variables (length scope.variables)
is_over scope (p.MyCall line name sub args) = nat_le max_variables (length scope.variables)
is_over scope (p.Ro line name) = false
is_over scope (p.CallSub line sub args) = false
is_over scope (p.Show line name) = false
is_over scope (p.Drop line name) = false
is_over scope (p.Isa line class parent) = false
is_over scope (p.Sub line sub actions) = nat_le max_subs (length scope.subs)

abbrev pub is_full : Scope → CommandView → Bool
is_full scope command_view = is_over scope command_view || nat_le max_commands scope.commands

-- a fault of the script
abbrev pub fault : ℕ → ℕ → List ℕ → Fault
fault = fault_in file.Script

-- a fault with its word, or what comes where there is none
abbrev pub word_or : ℕ → ℕ → Option (List ℕ) → Option Fault → Option Fault
word_or line code (Some word) rest = Some (fault line code word)
word_or line code None rest = rest

-- a fault without a word, or what comes where there is none
abbrev pub bare_or : ℕ → ℕ → Bool → Option Fault → Option Fault
bare_or line code b rest = if b then Some (fault line code []) else rest

-- The fault of a line that has a reading: the one of the least code, and of these the leftmost.
unfoldable pub first_fault : Scope → ℕ → CommandView → Met → Option Fault
first_fault scope line command_view met =
    word_or line UNKNOWN_VARIABLE met.unknown
    (word_or line NAMED_TWICE_IN_SCRIPT (twice scope command_view)
    (word_or line NUMBER_OUT_OF_RANGE met.beyond
    (bare_or line VALUE_TOO_DEEP (nat_lt max_nesting met.deepest)
    (bare_or line TOO_MANY_IN_SCRIPT (is_full scope command_view) None))))

-- ---- lines

-- a line without a command: empty but for blanks, or with a `#` after its blanks
abbrev pub is_skipped : List ℕ → Bool
is_skipped text = is_blank_line text || is_remark text

abbrev pub faulty : Option Fault → CommandView → Result (Option CommandView) Fault
faulty (Some f) command_view = Err f
faulty None command_view = Ok (Some command_view)

abbrev pub judged : Scope → ℕ → Outcome CommandView → Result (Option CommandView) Fault
judged scope line (Ok read) = faulty (first_fault scope line read.0 (met read.1)) read.0
judged scope line (Err _) = Err (fault line BAD_SCRIPT_LINE [])

abbrev pub read_parts : Scope → ℕ → Result (List Token) NoReading → Outcome CommandView
read_parts scope line (Ok parts) = command line (start_of scope parts)
read_parts scope line (Err _) = Err tt

unfoldable pub reading_of : Scope → Line → Outcome CommandView
reading_of scope line = read_parts scope line.number (tokens_of line.text)

-- What a call that reads a line ensures: the command and what was met, or that there is no reading.
abbrev pub ReadsLine : Result (Command × Met) Stop → Outcome CommandView → Type 0
ReadsLine (Ok read) outcome = (i : Input) × (outcome ≡ Ok (command_view read.0, i))
    × (met i ≡ read.1)
ReadsLine (Err why) outcome = Stops why outcome

-- the command of a line, if it has one, or its first fault
unfoldable pub line_of : Scope → Line → Result (Option CommandView) Fault
line_of scope line =
    if is_skipped line.text then Ok None else judged scope line.number (reading_of scope line)

-- ---- scripts

abbrev pub go_on : Option CommandView → Scope → (Scope → Result (List CommandView) Fault)
    → Result (List CommandView) Fault
go_on None scope rest = rest scope
go_on (Some command_view) scope rest =
    with_front (command_view ∷ []) (rest (scope_after command_view scope))

-- the commands of lines that follow these declarations
unfoldable pub commands_from : List Line → Scope → Result (List CommandView) Fault
commands_from [] scope = Ok []
commands_from (line ∷ lines) scope =
    line_of scope line >>= λ command_view. go_on command_view scope (commands_from lines)

-- the commands of a script, or the first fault
abbrev pub script_of : List ℕ → Result (List CommandView) Fault
script_of src = commands_from (lines_of src) empty_scope
