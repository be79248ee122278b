use Rattle.std.proofs.Common.{◌≡◌, ◌++◌, drop}
use Rattle.std.specs.List.{flat_map}
use Rattle.xs_stub.specs.Stub.{c_line_text}
use Rattle.xs_stub.proofs.writer.write_c_part.Given as goal

-- the text so far, and that of what is left
abbrev pub invariant-loop-line : goal.invariant-loop-line
invariant-loop-line l = l.text ++ flat_map c_line_text (drop l.line-index l.lines) ≡ flat_map c_line_text l.lines
