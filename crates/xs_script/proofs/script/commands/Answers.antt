use Rattle.std.proofs.Common.{◌≡◌, ◌∙◌, ◌∷◌, ◌++◌, [], Ok, Some, None, map, ap, subst, rules, refl}
use Rattle.std.proofs.lemmas.List.{map-append}
use Rattle.std.proofs.lemmas.Result.{err_from_is_err_and}
use Rattle.xs_base.specs.declared.source.Line.{Line}
use Rattle.xs_base.specs.Reading.{Fails}
use Rattle.xs_script.specs.Script.{line_of, scope_after}
use Rattle.xs_script.specs.CommandViews.{command_view, command_views}
use Rattle.xs_script.proofs.CommandLines.{some_command, no_command, line_fails, all_lines}
use Rattle.xs_script.proofs.script.commands.Goals as goal
use Rattle.xs_script.proofs.script.commands.Goals.{in-Some+in_ok-enter+in_ok-push, in_default}

pub returns-in_err-found : goal.returns-in_err-found
returns-in_err-found c =
    let p = err_from_is_err_and c.from_residual-in_err-found.result c.from_residual-in_err-found.ensures.1 in
    let lines = c.as_slice-line-items.result.now in
    let fails = subst (λ (l : Line). Fails c.in_err-found.field-0.0 (line_of c.loop-line.scope l)) c.line-item.is c.in_err-found.ensures.exact in
    rw (p.1, p.2, c.loop-line.invariant)
    (line_fails _ (command_views c.loop-line.out) lines c.loop-line.line-index c.line-item.result c.loop-line.scope c.loop-line-test.true fails)

pub loop-line-preserved : goal.loop-line-preserved
loop-line-preserved c =
    let lines = c.as_slice-line-items.result.now in
    elim c.match-branch-3.branch [
      | in-Some+in_ok-enter+in_ok-push w ↦
          let e : line_of c.loop-line.scope c.line-item.result ≡ Ok (Some (command_view w.in-Some.found)) = search rules in
          let e' = subst (λ (l : Line). line_of c.loop-line.scope l ≡ Ok (Some (command_view w.in-Some.found))) c.line-item.is e in
          let step = some_command (command_views c.loop-line.out) lines c.loop-line.line-index c.line-item.result c.loop-line.scope
          (command_view w.in-Some.found) c.loop-line-test.true e' in
          let items : command_views c.match-branch-3.out ≡ command_views c.loop-line.out ++ command_view w.in-Some.found ∷ [] = ap command_views w.out-is
          ∙ ap (map command_view) w.in_ok-push.ensures.items ∙ map-append command_view c.loop-line.out.items (w.in-Some.found ∷ []) in
          let scope : c.match-branch-3.scope ≡ scope_after (command_view w.in-Some.found) c.loop-line.scope = w.scope-is ∙ w.in_ok-enter.ensures in
          c.loop-line.invariant ∙ step ∙ rw (items, scope) refl
      | in_default w ↦
          let e : line_of c.loop-line.scope c.line-item.result ≡ Ok None = search rules in
          let e' = subst (λ (l : Line). line_of c.loop-line.scope l ≡ Ok None) c.line-item.is e in
          let step = no_command (command_views c.loop-line.out) lines c.loop-line.line-index c.line-item.result c.loop-line.scope c.loop-line-test.true e' in
          c.loop-line.invariant ∙ step ∙ rw (w.out-is, w.scope-is) refl
    ]

pub returns : goal.returns
returns c = c.loop-line.invariant
    ∙ all_lines (command_views c.loop-line.out) c.as_slice-line-items.result.now c.loop-line.line-index c.loop-line.scope c.loop-line-test.false
