use Rattle.std.proofs.Common.{◌≡◌, true, List, ℕ, ◌∙◌, sym, ap, subst, ◌++◌, ◌∷◌, [], ◌+◌, length, arith, length-drop}
use Rattle.std.proofs.lemmas.List.Quantifiers.{position-Some}
use Rattle.xs_base.specs.declared.source.Line.{Line}
use Rattle.xs_base.specs.Lines.{have_no_end}
use Rattle.xs_base.proofs.LineBytes.{no_end_in_lines}
use Rattle.xs_base.proofs.LineSteps.{is_end, line_reported, last_reported, none_reported}
use Rattle.xs_base.proofs.cutting.lines.Goals as goal
use Rattle.xs_base.proofs.cutting.lines.Goals.{then-not-is_empty+in_ok-text-2+in_ok-push-2, else-not-is_empty}

pub loop-end-preserved : goal.loop-end-preserved
loop-end-preserved c =
    let within = (position-Some is_end c.loop-end.rest.now c.in-Some.end 0 (sym c.in-Some.ensures)).0 in
    let shorter = ap length c.after-rest.ensures ∙ length-drop (c.in-Some.end + 1) c.loop-end.rest.now in
    record {
      reported =
          rw c.in_ok-push.ensures.ok (line_reported c.loop-end.all c.loop-end.number c.loop-end.rest.now c.in_ok-text.text c.after-rest.result.now c.in-Some.end
          (sym c.in-Some.ensures) (c.in_ok-text.ensures ∙ c.without_carriage_return.ensures) c.after-rest.ensures ∙ c.loop-end.invariant.reported);
      room = omega (arith, within, shorter, c.loop-end.invariant.room);
    }

pub returns-clause-exact : goal.returns-clause-exact
returns-clause-exact c =
    let at = sym c.in_default.ensures in
    elim c.if-not-is_empty.branch [
      | then-not-is_empty+in_ok-text-2+in_ok-push-2 w ↦
          w.all-is ∙ w.in_ok-push-2.ensures.ok
          ∙ ap (λ (text : List ℕ). c.loop-end.all ++ record { number = c.loop-end.number; text = text } ∷ []) w.in_ok-text-2.ensures
          ∙ last_reported c.loop-end.all c.loop-end.number c.loop-end.rest.now at (sym w.if-not-is_empty.ensures) ∙ c.loop-end.invariant.reported
      | else-not-is_empty w ↦
          w.all-is ∙ none_reported c.loop-end.all c.loop-end.number c.loop-end.rest.now at (sym w.if-not-is_empty.ensures) ∙ c.loop-end.invariant.reported
    ]

pub returns-clause-no_end : goal.returns-clause-no_end
returns-clause-no_end c = subst (λ (all : List Line). have_no_end all ≡ true) (sym (returns-clause-exact c)) (no_end_in_lines c.args.src.now)
