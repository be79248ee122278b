-- Expressions. What stands in brackets is read with the list of the brackets that are open, the
-- innermost first.
use Rattle.std.specs.Prelude.{ℕ, zero, suc, ◌+◌, Bool, if◌then◌else◌, nat_lt, List, [], ◌∷◌, ◌++◌, length, Option, Some, None}
use Rattle.xs_script.specs.declared.command.Number.{Number}
use Rattle.xs_script.specs.declared.command.Number.TheVariants as number
use Rattle.xs_script.specs.declared.line_part.Kind.{Kind}
use Rattle.xs_script.specs.declared.line_part.Kind.TheVariants as kind
use Rattle.xs_script.specs.declared.line_part.Mark.{Mark}
use Rattle.xs_script.specs.declared.line_part.Mark.TheVariants as mark
use Rattle.xs_script.specs.CommandTree as p
use Rattle.xs_script.specs.CommandTree.{Expr, exprs_of, entries_of}
use Rattle.xs_script.specs.PartInput as i
use Rattle.xs_base.specs.Readers.{◌>>=◌, ◌>>◌, ◌<$>◌, pure}
use Rattle.xs_script.specs.PartInput.{Reader, refuse, peek, eat, eat_word, expect, noted, named, exceeded, opened, left}
use Rattle.xs_script.specs.ScriptNumbers.{number_of, argument_of}
use Rattle.std.specs.Prelude.{pos}
use Rattle.xs_script.specs.declared.command_words.TheConstants.{ARG, UNDEF}

abbrev pub max_nesting : ℕ
max_nesting = 16

-- a variable, known or not
unfoldable pub variable : Reader (List ℕ)
variable = do
  name ← i.part kind.Name
  noted (named name)
  pure name

-- what a number as it stands means, or a stand-in where it is out of its range
abbrev pub ranged : {A : Type 0} → Option A → A → List ℕ → Reader A
ranged (Some a) stand_in text = pure a
ranged None stand_in text = noted (exceeded text) >> pure stand_in

unfoldable pub whole_number : Reader Number
whole_number = do
  text ← i.part kind.Number
  ranged (number_of text) (number.Int (pos 0)) text

-- `arg K`
unfoldable pub argument : Reader ℕ
argument = do
  is_arg ← eat_word ARG.now
  if is_arg then (do text ← i.part kind.Number; ranged (argument_of text) 0 text) else refuse

-- an expression that begins with a name: outside subs a variable, in subs an argument
unfoldable pub by_name : Bool → Reader Expr
by_name in_sub = do
  is_undef ← eat_word UNDEF.now
  if is_undef then pure p.Undef
      else (if in_sub then p.Argument <$> argument else p.Variable <$> variable)

-- a reference to a variable, outside subs
unfoldable pub reference : Bool → Reader Expr
reference in_sub = if in_sub then refuse else (expect mark.Backslash >> (p.Reference <$> variable))

abbrev pub simple_by : Bool → Kind → Reader Expr
simple_by in_sub kind.Name = by_name in_sub
simple_by in_sub kind.Number = p.Num <$> whole_number
simple_by in_sub kind.Text = p.Text <$> i.part kind.Text
simple_by in_sub kind.Mark = reference in_sub
simple_by in_sub kind.End = refuse

-- an expression without brackets
unfoldable pub simple : Bool → Reader Expr
simple in_sub = do
  kind ← peek
  simple_by in_sub kind

-- an open bracket, with what was read in it; in a hash the key whose value comes next is after the
-- entries
pub data Bracket : Type 0 where
  InList : List Expr → Bracket
  InHash : List (List ℕ × Expr) → List ℕ → Bracket

-- the open brackets, and the expression that has ended right here, if one has
pub record Partial : Type 0 where
  pub around : List Bracket
  pub ended : Option Expr

-- an expression begins here
abbrev pub begins : List Bracket → Partial
begins around = record { around = around; ended = None }

-- an expression has ended here
abbrev pub ends : List Bracket → Expr → Partial
ends around e = record { around = around; ended = Some e }

-- What a bracket that closes has made. What is nested too deep is not kept.
abbrev pub kept : List Bracket → Expr → Expr
kept around e = if nat_lt (length around) max_nesting then e else p.Undef

abbrev pub finished : List Bracket → Expr → Partial
finished around e = ends around (kept around e)

abbrev pub inside : Bracket → List Bracket → Partial
inside bracket around = begins (bracket ∷ around)

-- a key and its arrow
unfoldable pub key : Reader (List ℕ)
key = do
  name ← i.part kind.Text
  expect mark.Arrow
  pure name

-- a key of a hash, whose value begins after the arrow
abbrev pub keyed : List (List ℕ × Expr) → List Bracket → Reader Partial
keyed entries around = do
  name ← key
  pure (inside (InHash entries name) around)

-- after an opening bracket: it closes again, or the first of what stands in it begins
abbrev pub in_bracket : Mark → Expr → Reader Partial → List Bracket → Reader Partial
in_bracket closing empty first around = do
  noted (opened (length around + 1))
  is_empty ← eat closing
  if is_empty then pure (finished around empty) else first

-- after `[`
unfoldable pub in_square : List Bracket → Reader Partial
in_square around =
    in_bracket mark.CloseSquare (p.ListOf p.NoMore) (pure (inside (InList []) around)) around

-- after `{`
unfoldable pub in_curly : List Bracket → Reader Partial
in_curly around = in_bracket mark.CloseCurly (p.HashOf p.NoEntry) (keyed [] around) around

-- where an expression begins that is no list
abbrev pub begin_other : Bool → List Bracket → Reader Partial
begin_other in_sub around = do
  is_hash ← eat mark.OpenCurly
  if is_hash then in_curly around else (ends around <$> simple in_sub)

-- where an expression begins
unfoldable pub begin : Bool → List Bracket → Reader Partial
begin in_sub around = do
  is_list ← eat mark.OpenSquare
  if is_list then in_square around else begin_other in_sub around

-- where an expression has ended in a bracket: the next begins, or the bracket closes
abbrev pub goes_on : Mark → Reader Partial → Expr → List Bracket → Reader Partial
goes_on closing again whole around = do
  more ← eat mark.Comma
  if more then again else (expect closing >> pure (finished around whole))

-- where an expression has ended in a list
unfoldable pub follow_list : List Expr → List Bracket → Reader Partial
follow_list items around =
    goes_on mark.CloseSquare (pure (inside (InList items) around))
    (p.ListOf (exprs_of items)) around

-- where an expression has ended in a hash
unfoldable pub follow_hash : List (List ℕ × Expr) → List Bracket → Reader Partial
follow_hash entries around =
    goes_on mark.CloseCurly (keyed entries around) (p.HashOf (entries_of entries)) around

-- where an expression has ended in this bracket
abbrev pub follow : Bracket → Expr → List Bracket → Reader Partial
follow (InList items) e around = follow_list (items ++ e ∷ []) around
follow (InHash entries name) e around = follow_hash (entries ++ (name, e) ∷ []) around

abbrev pub step : Bool → Option Expr → List Bracket → (Partial → Reader Expr) → Reader Expr
step in_sub None around go = begin in_sub around >>= go
step in_sub (Some e) [] go = pure e
step in_sub (Some e) (bracket ∷ around) go = follow bracket e around >>= go

-- The rest of an expression. Each turn but the last consumes a part, so that the count of the
-- parts is enough.
unfoldable pub turns : Bool → ℕ → Partial → Reader Expr
turns in_sub zero partial = refuse
turns in_sub (suc n) partial = step in_sub partial.ended partial.around (turns in_sub n)

-- an expression, in a sub or outside
unfoldable pub value : Bool → Reader Expr
value in_sub = λ input. turns in_sub (left input + 1) (begins []) input
