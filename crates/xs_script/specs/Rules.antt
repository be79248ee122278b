-- Commands and actions.
use Rattle.std.specs.Prelude.{ℕ, zero, suc, Bool, true, false, if◌then◌else◌, List, [], ◌∷◌, ◌++◌, ◌&&◌}
use Rattle.xs_script.specs.declared.line_part.Kind.TheVariants as kind
use Rattle.xs_script.specs.declared.line_part.Mark.{Mark}
use Rattle.xs_script.specs.declared.line_part.Mark.TheVariants as mark
use Rattle.xs_script.specs.CommandTree as p
use Rattle.xs_script.specs.CommandTree.{Expr, Act, CommandView}
use Rattle.xs_script.specs.PartInput as i
use Rattle.xs_base.specs.Readers.{◌>>=◌, ◌>>◌, ◌<$>◌, pure}
use Rattle.xs_script.specs.PartInput.{Input, Reader, refuse, eat, eat_word, expect, sees_word, kind_of, next, left, names_sub}
use Rattle.xs_script.specs.Value.{value, variable, argument}
use Rattle.xs_script.specs.declared.command_words.TheConstants.{CALL, DIE, DROP, ISA, MY, PUSH, RO, SET, SHOW, SUB}

-- one or more with a mark between them, and what follows the last; each consumes a part, so that
-- the count of the parts is enough
unfoldable pub listed : {A : Type 0} → Reader A → Mark → Reader (Unit {0}) → ℕ → List A
    → Reader (List A)
listed one between end zero all = refuse
listed one between end (suc n) all = do
  a ← one
  more ← eat between
  if more then listed one between end n (all ++ a ∷ []) else (end >> pure (all ++ a ∷ []))

-- the arguments of a call after the opening parenthesis
abbrev pub arguments_from : Bool → ℕ → List Expr → Reader (List Expr)
arguments_from in_sub = listed (value in_sub) mark.Comma (expect mark.CloseRound)

unfoldable pub some_arguments : Bool → Reader (List Expr)
some_arguments in_sub = λ input. arguments_from in_sub (left input) [] input

-- the arguments of a call, with their parentheses
unfoldable pub arguments : Bool → Reader (List Expr)
arguments in_sub = do
  expect mark.OpenRound
  is_empty ← eat mark.CloseRound
  if is_empty then pure [] else some_arguments in_sub

abbrev pub called : List ℕ → List Expr → List ℕ × List Expr
called sub args = (sub, args)

-- a sub and the arguments of its call
unfoldable pub call : Bool → Reader (List ℕ × List Expr)
call in_sub = do
  sub ← i.sub_name
  called sub <$> arguments in_sub

unfoldable pub set_action : Reader Act
set_action = do
  k ← argument
  expect mark.Equals
  p.Set k <$> value true

unfoldable pub action : Reader Act
action = do
  is_push ← eat_word PUSH.now
  if is_push then p.Push <$> value true else (do
    is_set ← eat_word SET.now
    if is_set then set_action else (do
      is_call ← eat_word CALL.now
      if is_call then (λ (c : List ℕ × List Expr). p.Call c.0 c.1) <$> call true else (do
        is_die ← eat_word DIE.now
        if is_die then p.Die <$> i.part kind.Text else refuse)))

-- the actions of a sub
abbrev pub actions_from : ℕ → List Act → Reader (List Act)
actions_from = listed action mark.Semicolon (pure tt)

unfoldable pub actions : Reader (List Act)
actions = λ input. actions_from (left input) [] input

-- A call comes next: the word `call` and the name of a sub. The word alone may be a variable.
unfoldable pub sees_call : Input → Bool
sees_call input = sees_word CALL.now input && names_sub (kind_of (next input))

unfoldable pub my_command : ℕ → Reader CommandView
my_command line = do
  name ← i.part kind.Name
  expect mark.Equals
  is_call ← (λ input. pure (sees_call input) input)
  if is_call then
      (eat_word CALL.now >>
      ((λ (c : List ℕ × List Expr). p.MyCall line name c.0 c.1) <$> call false))
      else p.My line name <$> value false

unfoldable pub isa_command : ℕ → Reader CommandView
isa_command line = do
  class ← i.part kind.Name
  parent ← i.part kind.Name
  pure (p.Isa line class parent)

unfoldable pub sub_command : ℕ → Reader CommandView
sub_command line = do
  sub ← i.sub_name
  expect mark.Equals
  p.Sub line sub <$> actions

-- the commands whose one part is a variable
unfoldable pub variable_command : ℕ → Reader CommandView
variable_command line = do
  is_ro ← eat_word RO.now
  if is_ro then p.Ro line <$> variable else (do
    is_show ← eat_word SHOW.now
    if is_show then p.Show line <$> variable else (do
      is_drop ← eat_word DROP.now
      if is_drop then p.Drop line <$> variable else refuse))

unfoldable pub by_word : ℕ → Reader CommandView
by_word line = do
  is_my ← eat_word MY.now
  if is_my then my_command line else (do
    is_call ← eat_word CALL.now
    if is_call then (λ (c : List ℕ × List Expr). p.CallSub line c.0 c.1) <$> call false else (do
      is_isa ← eat_word ISA.now
      if is_isa then isa_command line else (do
        is_sub ← eat_word SUB.now
        if is_sub then sub_command line else variable_command line)))

unfoldable pub at_end : Reader (Unit {0})
at_end = λ input. i.ended (kind_of input) input

-- a whole line
unfoldable pub command : ℕ → Reader CommandView
command line = do
  command_view ← by_word line
  at_end
  pure command_view
