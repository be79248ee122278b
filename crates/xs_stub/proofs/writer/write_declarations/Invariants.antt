use Rattle.std.proofs.Common.{◌≡◌, ◌++◌, drop}
use Rattle.std.specs.List.{flat_map}
use Rattle.xs_stub.specs.Stub.{declaration_text}
use Rattle.xs_stub.proofs.writer.write_declarations.Given as goal

-- the text so far, and that of what is left
abbrev pub invariant-loop-param : goal.invariant-loop-param
invariant-loop-param l = l.text ++ flat_map declaration_text (drop l.param-index l.params) ≡ flat_map declaration_text l.params
