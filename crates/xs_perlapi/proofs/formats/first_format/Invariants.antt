use Rattle.std.proofs.Common.{◌≡◌, drop, map}
use Rattle.xs_perlapi.specs.Formats.{entry_view, first_format}
use Rattle.xs_perlapi.proofs.formats.first_format.Given as goal

abbrev pub invariant-loop-format : goal.invariant-loop-format
invariant-loop-format l =
    first_format (map entry_view l.formats) l.text ≡ first_format (map entry_view (drop l.format-index l.formats)) l.text
