use Rattle.std.proofs.Common.{◌∙◌, ap}
use Rattle.std.proofs.lemmas.Result.{IfOk-weaker}
use Rattle.std.specs.Fmt.{decimal}
use Rattle.xs_stub.specs.Stub.{head_text, joined_names}
use Rattle.xs_stub.proofs.Joining.{◌then◌, all_joined, no_more}
use Rattle.xs_stub.proofs.writer.write_head.Goals as goal

pub returns : goal.returns
unfolding head_text
returns c =
    IfOk-weaker c.together.result _ _
    (λ text e. all_joined (c.as_slice-begin.ensures then c.as_slice-2.ensures then c.as_slice-test.ensures then (c.as_slice-3.ensures ∙ c.in_ok-count.ensures
    ∙ ap decimal c.len.ensures)
    then c.as_slice-croak.ensures then (c.as_slice-4.ensures ∙ c.in_ok-names.ensures
    ∙ ap joined_names c.as_slice.ensures) then c.as_slice-block.ensures then no_more) e)
    c.together.ensures
