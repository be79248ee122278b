use Rattle.std.proofs.Common.{◌≡◌, Result, length, refl, ap, sym, subst, ◌∙◌}
use Rattle.std.proofs.lemmas.Iterator.Adapters.{YieldsList-from_vec}
use Rattle.std.proofs.lemmas.Iterator.Consumers.{YieldsList-turn, YieldsList-end}
use Rattle.std.proofs.lemmas.List.{length_push}
use Rattle.xs_base.specs.declared.fault.Fault.{Fault}
use Rattle.xs_base.specs.Lines.{lines_of}
use Rattle.xs_base.specs.Reading.{Gives}
use Rattle.xs_sections.specs.Steps.{finished}
use Rattle.xs_sections.specs.Cut.{split_of}
use Rattle.xs_sections.specs.declared.sections.Sections.{Sections}
use Rattle.xs_sections.proofs.SplitExact.{whole, run_more, run_all}
use Rattle.xs_sections.proofs.splitting.read.Goals as goal

pub loop-line-preserved : goal.loop-line-preserved
loop-line-preserved c =
    let i = c.into_iter-line-iterator.ensures.into_iter_gives in
    let is = c.into_vec-line-items.ensures ∙ c.in_ok-lines.ensures.exact in
    let t = YieldsList-turn (YieldsList-from_vec (lines_of c.args.src.now) (i.0 ∙ is) (i.1 ∙ c.into_vec-line-items.result.ok.0 ∙ ap length is))
    c.loop-line.yielded _ c.loop-line.yielded_by c.next.result c.next.new.self c.in-Some.line c.in-Some.is c.next.ensures.steps in
    c.loop-line.invariant ∙ run_more (lines_of c.args.src.now) (length c.loop-line.yielded) c.in-Some.line c.loop-line.reading t.0 t.1
    ∙ rw (← c.in_ok-take.ensures, ← length_push c.loop-line.yielded c.in-Some.line) refl

pub returns : goal.returns
returns c =
    let i = c.into_iter-line-iterator.ensures.into_iter_gives in
    let is = c.into_vec-line-items.ensures ∙ c.in_ok-lines.ensures.exact in
    let t = YieldsList-end (YieldsList-from_vec (lines_of c.args.src.now) (i.0 ∙ is) (i.1 ∙ c.into_vec-line-items.result.ok.0 ∙ ap length is))
    c.loop-line.yielded _ c.loop-line.yielded_by c.next.result c.next.new.self c.in-None.is c.next.ensures.steps in
    let read : finished c.loop-line.reading ≡ split_of c.args.src.now =
    ap finished (sym (run_all (lines_of c.args.src.now) (length c.loop-line.yielded) c.loop-line.reading t.1)) ∙ ap finished (sym c.loop-line.invariant)
    ∙ whole (lines_of c.args.src.now) in
    let P : Result Sections Fault → Type 0 = λ r. Gives c.finish.result r in subst P read c.finish.ensures
