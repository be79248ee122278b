-- The program's open brackets as plain data.
use Rattle.std.specs.Prelude.{List, map, reverse}
use Rattle.xs_script.specs.declared.around.Open.{Open}
use Rattle.xs_script.specs.declared.around.Open.TheVariants as o
use Rattle.xs_script.specs.CommandViews.{expr_view, entry}
use Rattle.xs_script.specs.Value.{Bracket, InList, InHash}

abbrev pub bracket : Open → Bracket
bracket (o.List items) = InList (map expr_view items.items)
bracket (o.Hash entries name) = InHash (map entry entries.items) name

-- the brackets from the innermost on, of a list whose last is the innermost
abbrev pub around_of : List Open → List Bracket
around_of opens = reverse (map bracket opens)
