-- What the commands as they are written mean, and what is at fault in them.
use Rattle.std.specs.List.{slice_get}
use Rattle.std.specs.Prelude.{◌≡◌, ℕ, suc, ◌+◌, true, false, if◌then◌else◌, nat_lt, max, List, [], ◌∷◌, ◌++◌, map, Option, None, Some, Result, Ok, Err, unwrap_or, pos}
use Rattle.xs_base.specs.declared.fault.Fault.{Fault}
use Rattle.std.specs.declared.alloc.Global.{Global}
use Rattle.std.specs.declared.vec.Vec.{Vec}
use Rattle.xs_base.specs.Lines.{lines_of}
use Rattle.xs_base.specs.declared.fault.Refuse.{Refuse}
use Rattle.xs_base.specs.declared.fault.Refuse.TheVariants as refuse
use Rattle.xs_base.specs.declared.source.Line.{Line}
use Rattle.xs_script.specs.declared.command.Command.{Command}
use Rattle.xs_script.specs.declared.command.Number.TheVariants as number
use Rattle.xs_script.specs.declared.cursor.Met.{Met}
use Rattle.xs_script.specs.declared.scope.Scope.{Scope}
use Rattle.xs_script.specs.declared.line_part.Token.{Token}
use Rattle.xs_script.specs.CommandTree as p
use Rattle.xs_script.specs.CommandTree.{Expr, Act, CommandView, exprs_of, entries_of}
use Rattle.xs_script.specs.Form as f
use Rattle.xs_script.specs.Form.{Form, Forms, Pairs, Deed, Written}
use Rattle.xs_script.specs.ScriptGrammar as g
use Rattle.xs_script.specs.ScriptNumbers.{number_of, argument_of}
use Rattle.xs_script.specs.Scope.{first_unknown}
use Rattle.xs_script.specs.Script.{first_fault, faulty, is_skipped, fault, scope_after, empty_scope}
use Rattle.xs_base.specs.Reading.{with_front}
use Rattle.xs_script.specs.Spelling.{Spelled}
use Rattle.xs_script.specs.Value.{max_nesting}
use Rattle.xs_script.specs.CommandViews.{command_views}
use Rattle.xs_base.specs.declared.fault_codes.TheConstants.{BAD_SCRIPT_LINE}

-- ---- meaning

-- What an expression means, which stands in so many brackets. A number out of its range and what is
-- nested too deep have a stand-in, since the line is at fault then.
abbrev mutual
  pub made : ℕ → Form → Expr
  made d f.Undef = p.Undef
  made d (f.Number n) = p.Num (unwrap_or (number_of n) (number.Int (pos 0)))
  made d (f.Text content) = p.Text content
  made d (f.Variable n) = p.Variable n
  made d (f.Reference n) = p.Reference n
  made d (f.ListOf fs) = if nat_lt d max_nesting then p.ListOf (exprs_of (made_list (suc d) fs))
      else p.Undef
  made d (f.HashOf ps) = if nat_lt d max_nesting then p.HashOf (entries_of (made_pairs (suc d) ps))
      else p.Undef
  made d (f.Argument k) = p.Argument (unwrap_or (argument_of k) 0)

  pub made_list : ℕ → Forms → List Expr
  made_list d f.NoForm = []
  made_list d (f.MoreForms e fs) = made d e ∷ made_list d fs

  pub made_pairs : ℕ → Pairs → List (List ℕ × Expr)
  made_pairs d f.NoPair = []
  made_pairs d (f.MorePairs k e ps) = (k, made d e) ∷ made_pairs d ps

abbrev pub act_of : Deed → Act
act_of (f.Push e) = p.Push (made 0 e)
act_of (f.Set k e) = p.Set (unwrap_or (argument_of k) 0) (made 0 e)
act_of (f.Call n es) = p.Call n (made_list 0 es)
act_of (f.Die content) = p.Die content

-- what a command on a line means
abbrev pub view_of_written : ℕ → Written → CommandView
view_of_written line (f.My n e) = p.My line n (made 0 e)
view_of_written line (f.MyCall n m es) = p.MyCall line n m (made_list 0 es)
view_of_written line (f.Ro n) = p.Ro line n
view_of_written line (f.CallSub n es) = p.CallSub line n (made_list 0 es)
view_of_written line (f.Show n) = p.Show line n
view_of_written line (f.Drop n) = p.Drop line n
view_of_written line (f.Isa n m) = p.Isa line n m
view_of_written line (f.Sub n ds) = p.Sub line n (map act_of ds)

-- ---- what may be at fault

-- The variables that are named and the numbers out of their range, both from left to right, and how
-- many brackets are open at once.
pub record Contents : Type 0 where
  pub variables : List (List ℕ)
  pub excess : List (List ℕ)
  pub reach : ℕ

abbrev pub nothing : Contents
nothing = record { variables = []; excess = []; reach = 0 }

abbrev pub one_variable : List ℕ → Contents
one_variable name = record { variables = name ∷ []; excess = []; reach = 0 }

-- a number as it stands, with its value if it is in its range
abbrev pub one_number : {A : Type 0} → Option A → List ℕ → Contents
one_number (Some a) text = nothing
one_number None text = record { variables = []; excess = text ∷ []; reach = 0 }

abbrev pub brackets : ℕ → Contents
brackets n = record { variables = []; excess = []; reach = n }

abbrev pub both : Contents → Contents → Contents
both a b = record {
  variables = a.variables ++ b.variables;
  excess = a.excess ++ b.excess;
  reach = max a.reach b.reach;
}

abbrev pub in_all : {X : Type 0} → (X → Contents) → List X → Contents
in_all has [] = nothing
in_all has (x ∷ xs) = both (has x) (in_all has xs)

-- what an expression has that stands in so many brackets
abbrev mutual
  pub contents : ℕ → Form → Contents
  contents d f.Undef = nothing
  contents d (f.Number n) = one_number (number_of n) n
  contents d (f.Text content) = nothing
  contents d (f.Variable n) = one_variable n
  contents d (f.Reference n) = one_variable n
  contents d (f.ListOf fs) = both (brackets (d + 1)) (contents_list (suc d) fs)
  contents d (f.HashOf ps) = both (brackets (d + 1)) (contents_pairs (suc d) ps)
  contents d (f.Argument k) = one_number (argument_of k) k

  pub contents_list : ℕ → Forms → Contents
  contents_list d f.NoForm = nothing
  contents_list d (f.MoreForms e fs) = both (contents d e) (contents_list d fs)

  pub contents_pairs : ℕ → Pairs → Contents
  contents_pairs d f.NoPair = nothing
  contents_pairs d (f.MorePairs k e ps) = both (contents d e) (contents_pairs d ps)

abbrev pub contents_deed : Deed → Contents
contents_deed (f.Push e) = contents 0 e
contents_deed (f.Set k e) = both (one_number (argument_of k) k) (contents 0 e)
contents_deed (f.Call n es) = contents_list 0 es
contents_deed (f.Die content) = nothing

abbrev pub contents_of : Written → Contents
contents_of (f.My n e) = contents 0 e
contents_of (f.MyCall n m es) = contents_list 0 es
contents_of (f.Ro n) = one_variable n
contents_of (f.CallSub n es) = contents_list 0 es
contents_of (f.Show n) = one_variable n
contents_of (f.Drop n) = one_variable n
contents_of (f.Isa n m) = nothing
contents_of (f.Sub n ds) = in_all contents_deed ds

-- ---- lines and scripts

-- what is at fault in a command although it has a reading
abbrev pub met_in : Scope → Written → Met
met_in scope c =
    record {
      unknown = first_unknown scope (contents_of c).variables;
      beyond = slice_get (contents_of c).excess 0;
      deepest = (contents_of c).reach;
    }

-- a command that is written on a line, or its first fault
abbrev pub judge : Scope → ℕ → Written → Result (Option CommandView) Fault
judge scope line c = faulty (first_fault scope line (view_of_written line c) (met_in scope c))
    (view_of_written line c)

-- The command stands in these bytes: they spell parts, and the parts are the command's.
abbrev pub IsWritten : Written → List ℕ → Type 0
IsWritten c text = (ts : List Token) × Spelled ts text × g.Command c ts

-- What a line means after these declarations: nothing where it is skipped, a fault where no command
-- stands in it, and else the command that stands in it or the command's first fault.
pub data LineMeans : Scope → Line → Result (Option CommandView) Fault → Type 0 where
  skipped : {scope : Scope} {line : Line} → is_skipped line.text ≡ true
      → LineMeans scope line (Ok None)
  unread : {scope : Scope} {line : Line} → is_skipped line.text ≡ false
      → ((c : Written) → IsWritten c line.text → ⊥)
      → LineMeans scope line (Err (fault line.number BAD_SCRIPT_LINE []))
  written : {scope : Scope} {line : Line} {c : Written} → is_skipped line.text ≡ false
      → IsWritten c line.text → LineMeans scope line (judge scope line.number c)

-- What lines mean after these declarations: their commands, or the fault of the first line that has
-- one.
pub data LinesMean : Scope → List Line → Result (List CommandView) Fault → Type 0 where
  no_line : {scope : Scope} → LinesMean scope [] (Ok [])
  faulty_line : {scope : Scope} {line : Line} {lines : List Line} {why : Fault}
      → LineMeans scope line (Err why) → LinesMean scope (line ∷ lines) (Err why)
  silent_line : {scope : Scope} {line : Line} {lines : List Line} {r : Result
      (List CommandView) Fault} → LineMeans scope line (Ok None) → LinesMean scope lines r
      → LinesMean scope (line ∷ lines) r
  command_line : {scope : Scope} {line : Line} {lines : List Line} {command_view : CommandView}
      {r : Result (List CommandView) Fault} → LineMeans scope line (Ok (Some command_view))
      → LinesMean (scope_after command_view scope) lines r
      → LinesMean scope (line ∷ lines) (with_front (command_view ∷ []) r)

-- What is given for a file is what its lines mean. Out of memory is the one answer that no meaning
-- gives.
abbrev pub Means : Result (Vec Command Global) Refuse → List ℕ → Type 0
Means (Ok commands) src = LinesMean empty_scope (lines_of src) (Ok (command_views commands))
Means (Err (refuse.Fault why)) src = LinesMean empty_scope (lines_of src) (Err why)
Means (Err refuse.Memory) src = Unit {0}
