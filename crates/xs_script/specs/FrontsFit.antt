-- What stands at the front of a line lies within the line, and a digit that waits for its second is
-- below 16.
use Rattle.std.specs.Prelude.{ℕ, ◌<◌, ◌≤◌}
use Rattle.xs_script.specs.declared.line_part.Front.{Front}
use Rattle.xs_script.specs.declared.line_part.Front.TheVariants as front
use Rattle.xs_script.specs.declared.line_parts.TextState.{TextState}
use Rattle.xs_script.specs.declared.line_parts.TextState.TheVariants as text

abbrev pub Fits : Front → ℕ → Type 0
Fits front.Blank size = Unit {0}
Fits (front.Piece token len) size = (0 < len) × (len ≤ size)
Fits front.Nothing size = Unit {0}

abbrev pub IsHexState : TextState → Type 0
IsHexState (text.Low high) = high < 16
IsHexState text.Plain = Unit {0}
IsHexState text.Escape = Unit {0}
IsHexState text.High = Unit {0}
