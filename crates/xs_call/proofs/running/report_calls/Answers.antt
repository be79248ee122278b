use Rattle.std.proofs.Common.{rules, ◌≡◌, ◌∷◌, ◌++◌, ◌<◌, ◌+◌, length, drop, sym, ap, ◌∙◌, subst, append_assoc}
use Rattle.std.proofs.lemmas.List.{drop_more}
use Rattle.xs_call.specs.MachineTranscript.{call_report}
use Rattle.xs_call.specs.Reports.{IsReported}
use Rattle.xs_meaning.specs.Transcript.{calls_report}
use Rattle.xs_machine.specs.MachineViews.{code_in, mach_of}
use Rattle.xs_call.proofs.Arguments.{call_ends, call_goes_on}
use Rattle.xs_call.proofs.running.report_calls.Goals as goal

pub loop-call-preserved : goal.loop-call-preserved
loop-call-preserved c =
    let calls = c.args.calls.now in
    let i = c.loop-call.call-index in
    let code = code_in c.args.machine.now in
    let m = mach_of c.loop-call.machine in
    let new = mach_of c.report_call.new.machine in
    let t = c.in_ok-reported.reported in
    let rest = drop (i + 1) calls in
    let here : i < length calls = search rules in
    let more : drop i calls ≡ c.call-item.result ∷ rest = drop_more calls i c.call-item.result here ∙ ap (λ x. x ∷ rest) (sym c.call-item.is) in
    let reported = c.in_ok-reported.ensures.reported in
    let step = call_goes_on code m new c.call-item.result rest t
    (subst (λ k. IsReported (call_report k m c.call-item.result) t new) c.loop-call.invariant.code reported) c.if-not-reported.false in
    record {
      reported =
          ap (λ x. x ++ calls_report (call_report code) new rest) (c.in_ok-append.ensures.ok ∙ ap (λ y. c.loop-call.text ++ y) c.as_slice.ensures)
          ∙ append_assoc c.loop-call.text t.text (calls_report (call_report code) new rest)
          ∙ ap (λ x. c.loop-call.text ++ x) (sym step)
          ∙ ap (λ l. c.loop-call.text ++ calls_report (call_report code) m l) (sym more)
          ∙ c.loop-call.invariant.reported;
      idle = c.in_ok-reported.ensures.idle;
      code = c.in_ok-reported.ensures.code ∙ c.loop-call.invariant.code;
    }

pub returns-then-not-reported : goal.returns-then-not-reported
returns-then-not-reported c =
    let calls = c.args.calls.now in
    let i = c.loop-call.call-index in
    let code = code_in c.args.machine.now in
    let m = mach_of c.loop-call.machine in
    let new = mach_of c.report_call.new.machine in
    let t = c.in_ok-reported.reported in
    let rest = drop (i + 1) calls in
    let here : i < length calls = search rules in
    let more : drop i calls ≡ c.call-item.result ∷ rest = drop_more calls i c.call-item.result here ∙ ap (λ x. x ∷ rest) (sym c.call-item.is) in
    let reported = c.in_ok-reported.ensures.reported in
    let step = call_ends code m new c.call-item.result rest t
    (subst (λ k. IsReported (call_report k m c.call-item.result) t new) c.loop-call.invariant.code reported) c.if-not-reported.true in
    record {
      reported =
          c.in_ok-append.ensures.ok ∙ ap (λ y. c.loop-call.text ++ y) (c.as_slice.ensures ∙ sym step)
          ∙ ap (λ l. c.loop-call.text ++ calls_report (call_report code) m l) (sym more)
          ∙ c.loop-call.invariant.reported;
    }
