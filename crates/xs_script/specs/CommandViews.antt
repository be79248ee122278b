-- The program's commands as plain data.
use Rattle.std.specs.Prelude.{ℕ, List, map}
use Rattle.std.specs.declared.alloc.Global.{Global}
use Rattle.std.specs.declared.vec.Vec.{Vec}
use Rattle.xs_script.specs.declared.command.E.{E}
use Rattle.xs_script.specs.declared.command.E.TheOpen.{E-F}
use Rattle.xs_script.specs.declared.command.E.TheFolds.{fold-E}
use Rattle.xs_script.specs.declared.command.Action.{Action}
use Rattle.xs_script.specs.declared.command.Action.TheVariants as action
use Rattle.xs_script.specs.declared.command.Command.{Command}
use Rattle.xs_script.specs.declared.command.Command.TheVariants as command
use Rattle.xs_script.specs.CommandTree as p
use Rattle.xs_script.specs.CommandTree.{Expr, Act, CommandView, exprs_of, entries_of}

-- one expression, with plain data in the place of its parts
abbrev pub expr_view_step : E-F Expr → Expr
expr_view_step E-F.Undef = p.Undef
expr_view_step (E-F.Number n) = p.Num n
expr_view_step (E-F.Text text) = p.Text text
expr_view_step (E-F.Variable name) = p.Variable name
expr_view_step (E-F.Reference name) = p.Reference name
expr_view_step (E-F.List items) = p.ListOf (exprs_of items.items)
expr_view_step (E-F.Hash entries) = p.HashOf (entries_of entries.items)
expr_view_step (E-F.Argument k) = p.Argument k

unfoldable pub expr_view : E → Expr
expr_view = fold-E Expr expr_view_step

-- a key of a hash with its value
abbrev pub entry : List ℕ × E → List ℕ × Expr
entry p = (p.0, expr_view p.1)

abbrev pub exprs_in : Vec E Global → List Expr
exprs_in es = map expr_view es.items

abbrev pub act : Action → Act
act (action.Push e) = p.Push (expr_view e)
act (action.Set k e) = p.Set k (expr_view e)
act (action.Call sub args) = p.Call sub (exprs_in args)
act (action.Die text) = p.Die text

abbrev pub call_of : List ℕ × Vec E Global → List ℕ × List Expr
call_of c = (c.0, exprs_in c.1)

abbrev pub acts_of : Vec Action Global → List Act
acts_of actions = map act actions.items

abbrev pub command_view : Command → CommandView
command_view (command.My line name e) = p.My line name (expr_view e)
command_view (command.MyCall line name sub args) = p.MyCall line name sub (exprs_in args)
command_view (command.Ro line name) = p.Ro line name
command_view (command.Call line sub args) = p.CallSub line sub (exprs_in args)
command_view (command.Show line name) = p.Show line name
command_view (command.Drop line name) = p.Drop line name
command_view (command.Isa line class parent) = p.Isa line class parent
command_view (command.Sub line sub actions) = p.Sub line sub (acts_of actions)

abbrev pub command_views : Vec Command Global → List CommandView
command_views commands = map command_view commands.items
