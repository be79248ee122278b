use Rattle.std.proofs.Common.{◌∙◌, ap}
use Rattle.std.proofs.lemmas.Result.{IfOk-weaker}
use Rattle.std.specs.List.{flat_map}
use Rattle.xs_stub.specs.Stub.{declaration_text, inputs_text, sum_text, work_text}
use Rattle.xs_stub.proofs.Joining.{◌then◌, all_joined, no_more}
use Rattle.xs_stub.proofs.writer.write_work.Goals as goal

pub returns : goal.returns
unfolding work_text
returns c =
    IfOk-weaker c.together.result _ _
    (λ text e. all_joined ((c.as_slice-2.ensures ∙ c.in_ok-declarations.ensures
    ∙ ap (flat_map declaration_text) c.as_slice-params.ensures) then c.as_slice-result.ensures
    then (c.as_slice-3.ensures ∙ c.in_ok-inputs.ensures ∙ ap (inputs_text 0) c.as_slice-params.ensures) then c.as_slice-4.ensures then c.as_slice-assign.ensures
    then (c.as_slice-5.ensures ∙ c.in_ok-sum.ensures ∙ ap (λ ps. sum_text ps c.as_slice.result.now) c.as_slice-params.ensures
    ∙ ap (sum_text c.args.x.now.params) c.as_slice.ensures) then c.as_slice-end.ensures then no_more) e)
    c.together.ensures
