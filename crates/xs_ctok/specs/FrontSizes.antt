-- What stands at the front of a text lies within the text.
use Rattle.std.specs.Prelude.{ℕ, ◌<◌, ◌≤◌}
use Rattle.xs_ctok.specs.declared.front.Front.{Front}
use Rattle.xs_ctok.specs.declared.front.Front.TheVariants as front

abbrev pub Fits : Front → ℕ → Type 0
Fits front.Blank size = Unit {0}
Fits front.LineComment size = Unit {0}
Fits front.Comment size = 2 ≤ size
Fits (front.Piece kind len) size = (0 < len) × (len ≤ size)
Fits (front.Refused code) size = Unit {0}
