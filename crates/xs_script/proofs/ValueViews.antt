-- The plain data of each kind of expression.
use Rattle.std.proofs.Common.{◌≡◌, ℕ, List, map, ap, sym, ◌∙◌}
use Rattle.std.specs.declared.alloc.Global.{Global}
use Rattle.std.specs.declared.vec.Vec.{Vec}
use Rattle.xs_script.specs.declared.command.Number.{Number}
use Rattle.xs_script.specs.declared.command.E.{E}
use Rattle.xs_script.specs.declared.command.E.TheVariants as e
use Rattle.xs_script.specs.declared.command.E.TheVariants.{rolls-Undef, rolls-Number, rolls-Text, rolls-Variable, rolls-Reference, rolls-List, rolls-Hash, rolls-Argument}
use Rattle.xs_script.specs.declared.command.E.TheOpen.{E-F}
use Rattle.xs_script.specs.declared.command.E.TheFolds.{fold-roll-E}
use Rattle.xs_script.specs.CommandTree as p
use Rattle.xs_script.specs.CommandTree.{Expr, exprs_of, entries_of}
use Rattle.xs_script.specs.CommandViews.{expr_view, entry, expr_view_step}

pub expr_view-Undef : expr_view e.Undef ≡ p.Undef
unfolding expr_view
expr_view-Undef = ap expr_view (sym rolls-Undef) ∙ fold-roll-E Expr expr_view_step E-F.Undef

pub expr_view-Number : (n : Number) → expr_view (e.Number n) ≡ p.Num n
unfolding expr_view
expr_view-Number n = ap expr_view (sym (rolls-Number n)) ∙ fold-roll-E Expr expr_view_step (E-F.Number n)

pub expr_view-Text : (text : List ℕ) → expr_view (e.Text text) ≡ p.Text text
unfolding expr_view
expr_view-Text text = ap expr_view (sym (rolls-Text text)) ∙ fold-roll-E Expr expr_view_step (E-F.Text text)

pub expr_view-Variable : (name : List ℕ) → expr_view (e.Variable name) ≡ p.Variable name
unfolding expr_view
expr_view-Variable name = ap expr_view (sym (rolls-Variable name)) ∙ fold-roll-E Expr expr_view_step (E-F.Variable name)

pub expr_view-Reference : (name : List ℕ) → expr_view (e.Reference name) ≡ p.Reference name
unfolding expr_view
expr_view-Reference name = ap expr_view (sym (rolls-Reference name)) ∙ fold-roll-E Expr expr_view_step (E-F.Reference name)

pub expr_view-List : (items : Vec E Global) → expr_view (e.List items) ≡ p.ListOf (exprs_of (map expr_view items.items))
unfolding expr_view
expr_view-List items = ap expr_view (sym (rolls-List items)) ∙ fold-roll-E Expr expr_view_step (E-F.List items)

pub expr_view-Hash : (entries : Vec (List ℕ × E) Global) → expr_view (e.Hash entries) ≡ p.HashOf (entries_of (map entry entries.items))
unfolding expr_view
expr_view-Hash entries = ap expr_view (sym (rolls-Hash entries)) ∙ fold-roll-E Expr expr_view_step (E-F.Hash entries)

pub expr_view-Argument : (k : ℕ) → expr_view (e.Argument k) ≡ p.Argument k
unfolding expr_view
expr_view-Argument k = ap expr_view (sym (rolls-Argument k)) ∙ fold-roll-E Expr expr_view_step (E-F.Argument k)

pub ruleset views = (
  expr_view-Undef,
  expr_view-Number,
  expr_view-Text,
  expr_view-Variable,
  expr_view-Reference,
  expr_view-List,
  expr_view-Hash,
  expr_view-Argument,
)
