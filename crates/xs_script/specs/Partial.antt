-- The program's half-read expression as plain data.
use Rattle.std.specs.Option.{option_map}
use Rattle.xs_script.specs.declared.value.Partial.{Partial}
use Rattle.xs_script.specs.Brackets.{around_of}
use Rattle.xs_script.specs.CommandViews.{expr_view}
use Rattle.xs_script.specs.Value as v

abbrev pub partial_of : Partial → v.Partial
partial_of p = record { around = around_of p.around.items; ended = option_map expr_view p.ended }
