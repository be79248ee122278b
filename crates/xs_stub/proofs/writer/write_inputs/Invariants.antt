use Rattle.std.proofs.Common.{◌≡◌, ◌++◌, drop}
use Rattle.xs_stub.specs.Stub.{inputs_text}
use Rattle.xs_stub.proofs.writer.write_inputs.Given as goal

-- the text so far, and the inputs that are left
abbrev pub invariant-loop-param : goal.invariant-loop-param
invariant-loop-param l =
    record {
      text : l.text ++ inputs_text l.index (drop l.param-index l.params) ≡ inputs_text 0 l.params;
      index : l.index ≡ l.param-index;
    }
