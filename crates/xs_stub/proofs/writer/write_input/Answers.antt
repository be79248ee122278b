use Rattle.std.proofs.lemmas.Result.{IfOk-weaker}
use Rattle.xs_stub.specs.Stub.{input_text}
use Rattle.xs_stub.proofs.writer.write_input.Goals as goal

pub returns : goal.returns
unfolding input_text
returns c = IfOk-weaker c.together.result _ _ (λ text e. cc (
  e,
  c.as_slice-begin.ensures,
  c.as_slice.ensures,
  c.as_slice-read.ensures,
  c.as_slice-2.ensures,
  c.in_ok-at.ensures,
  c.as_slice-end.ensures,
)) c.together.ensures
