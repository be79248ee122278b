use Rattle.std.proofs.Common.{◌≡◌, ◌∙◌, ◌+◌, ◌<◌, ap, sym, subst, length, map, drop, arith}
use Rattle.std.specs.Prelude.{IfOk}
use Rattle.xs_cexpr.specs.ExpressionViews.{expr_tree}
use Rattle.xs_cstmt.specs.StatementTree.{groups_of, stmts_of}
use Rattle.xs_cstmt.specs.StatementViews.{for_tree, group_tree, stmt_tree}
use Rattle.xs_ctree.specs.Functions.{stmt_in}
use Rattle.xs_ctree.specs.Growth.{HasStmt}
use Rattle.xs_ctypes.specs.Checked.{more}
use Rattle.xs_ctypes.specs.Joining.{joined}
use Rattle.xs_ccheck.specs.Resolving.{ForEnds, GivesGroup, GivesLabels, GivesStmt, GivesStmts, HasGroup, HaveGroups, HaveStmts, UnlessMemory, group_in}
use Rattle.xs_ctypes.specs.Scopes.{declared_in, groups_behind, knowing, scope_behind, scopes_behind}
use Rattle.xs_ccheck.specs.StmtTyping.{group, groups, labels, stmt, stmts}
use Rattle.xs_ccheck.proofs.Collecting.{step}
use Rattle.xs_ccheck.proofs.GroupParts.{body_smaller, group_body, group_given, group_labels, group_unless}
use Rattle.xs_ccheck.proofs.Lists.{groups_last, stmts_last}
use Rattle.xs_ccheck.proofs.LoopParts.{HasParts, do_resolves, for_resolves, for_scope, moved_body, moved_first, parts_in, parts_read, parts_resolve, there_if}
use Rattle.xs_ccheck.proofs.Loops.{groups_behind_next, groups_next, scopes_next, stmts_next, taken}
use Rattle.xs_ccheck.proofs.StmtSizes.{group_smaller, stmt_smaller}
use Rattle.xs_ccheck.proofs.stmts.+stmt.Goals as goal

pub do_loop-returns-clause-stmt : goal.do_loop-returns-clause-stmt
do_loop-returns-clause-stmt t c =
    let names = c.args.names.now in
    let scope = c.args.scope.now in
    let s = stmt_tree c.args.body.now in
    let given = c.in_ok-body in
    do_resolves names c.args.place scope c.stmt-body.new.scope c.args.line s (expr_tree c.args.test.now) c.args.typed.now c.stmt-body.new.typed
    c.expr-x.new.typed c.conditional.new.typed c.stmt-body.result c.expr-x.result given.body given.x c.conditional.result
    (subst (λ p. GivesStmt c.stmt-body.result c.args.typed.now c.stmt-body.new.typed (stmt names p scope s)) c.in_turn.ensures c.stmt-body.ensures.stmt)
    c.stmt-body.ensures.scope c.expr-x.ensures (sym c.both.ensures ∙ given.was) c.conditional.ensures

pub for_loop-for_end-requires : goal.for_loop-for_end-requires
for_loop-for_end-requires t c =
    let names = c.args.names.now in
    let scope = c.args.scope.now in
    let mid = c.first_part-first.new.scope in
    let after = c.stmt-body.new.scope in
    let head = for_tree c.args.head.now in
    let s = stmt_tree c.args.body.now in
    let first = c.first_part-first.result in
    let test = c.option_expr-test.result in
    let step = c.option_expr-step.result in
    let body = c.stmt-body.result in
    let are : c.both-parts.result ≡ joined first (joined test (joined step body)) =
    c.both-parts.ensures ∙ ap (joined first) (c.both-rest.ensures ∙ ap (joined test) c.both-turns.ensures) in
    subst (λ r. IfOk r (λ p. HasParts c.stmt-body.new.typed p)) (sym are)
    (there_if parts_in HasParts (joined first (joined test (joined step body))) c.args.typed.now c.stmt-body.new.typed
    (parts_read names c.args.place scope mid after c.args.line head s)
    (parts_resolve names c.args.place scope mid after c.args.line head s first test step body c.args.typed.now c.first_part-first.new.typed
    c.option_expr-test.new.typed c.option_expr-step.new.typed c.stmt-body.new.typed c.stmt-body.new.typed c.first_part-first.ensures.stmt
    c.option_expr-test.ensures c.option_expr-step.ensures
    (subst (λ p. GivesStmt body c.option_expr-step.new.typed c.stmt-body.new.typed (stmt names p mid s)) c.in_turn.ensures c.stmt-body.ensures.stmt)))

pub for_loop-returns-clause-stmt : goal.for_loop-returns-clause-stmt
for_loop-returns-clause-stmt t c =
    let names = c.args.names.now in
    let w = c.args.place in
    let line = c.args.line in
    let scope = c.args.scope.now in
    let mid = c.first_part-first.new.scope in
    let after = c.stmt-body.new.scope in
    let head = for_tree c.args.head.now in
    let s = stmt_tree c.args.body.now in
    let first = c.first_part-first.result in
    let test = c.option_expr-test.result in
    let step = c.option_expr-step.result in
    let body = c.stmt-body.result in
    let old = c.args.typed.now in
    let one = c.first_part-first.new.typed in
    let two = c.option_expr-test.new.typed in
    let three = c.option_expr-step.new.typed in
    let four = c.stmt-body.new.typed in
    let are : c.both-parts.result ≡ joined first (joined test (joined step body)) =
    c.both-parts.ensures ∙ ap (joined first) (c.both-rest.ensures ∙ ap (joined test) c.both-turns.ensures) in
    for_resolves names w scope mid after line head s old four c.for_end.new.typed c.for_end.result (joined first (joined test (joined step body)))
    (moved_first names w scope mid after line head s first test step body old one two three four four c.first_part-first.ensures.scope)
    (moved_body names w scope mid after line head s first test step body old one two three four four c.stmt-body.ensures.scope)
    (parts_resolve names w scope mid after line head s first test step body old one two three four four c.first_part-first.ensures.stmt
    c.option_expr-test.ensures c.option_expr-step.ensures
    (subst (λ p. GivesStmt body three four (stmt names p mid s)) c.in_turn.ensures c.stmt-body.ensures.stmt))
    (subst (λ r. ForEnds line r (declared_in scope after) four c.for_end.result c.for_end.new.typed) are
    (subst (λ n. ForEnds line c.both-parts.result (map (λ v. v.slot) (drop n after.variables)) four c.for_end.result c.for_end.new.typed)
    c.known_count-known.ensures c.for_end.ensures.turns))

pub for_loop-returns-clause-scope : goal.for_loop-returns-clause-scope
for_loop-returns-clause-scope t c =
    let names = c.args.names.now in
    let w = c.args.place in
    let line = c.args.line in
    let scope = c.args.scope.now in
    let mid = c.first_part-first.new.scope in
    let after = c.stmt-body.new.scope in
    let head = for_tree c.args.head.now in
    let s = stmt_tree c.args.body.now in
    let first = c.first_part-first.result in
    let test = c.option_expr-test.result in
    let step = c.option_expr-step.result in
    let body = c.stmt-body.result in
    let old = c.args.typed.now in
    let one = c.first_part-first.new.typed in
    let two = c.option_expr-test.new.typed in
    let three = c.option_expr-step.new.typed in
    let four = c.stmt-body.new.typed in
    let are : c.both-parts.result ≡ joined first (joined test (joined step body)) =
    c.both-parts.ensures ∙ ap (joined first) (c.both-rest.ensures ∙ ap (joined test) c.both-turns.ensures) in
    for_scope names w scope mid after line head s old four c.for_end.new.typed c.for_end.result c.for_end.new.scope
    (joined first (joined test (joined step body)))
    (moved_first names w scope mid after line head s first test step body old one two three four four c.first_part-first.ensures.scope)
    (moved_body names w scope mid after line head s first test step body old one two three four four c.stmt-body.ensures.scope)
    (subst (λ r. ForEnds line r (declared_in scope after) four c.for_end.result c.for_end.new.typed) are
    (subst (λ n. ForEnds line c.both-parts.result (map (λ v. v.slot) (drop n after.variables)) four c.for_end.result c.for_end.new.typed)
    c.known_count-known.ensures c.for_end.ensures.turns))
    (subst (λ n. UnlessMemory c.for_end.result (c.for_end.new.scope ≡ knowing n after)) c.known_count-known.ensures c.for_end.ensures.scope)

pub group-stmts-body-requires : goal.group-stmts-body-requires
group-stmts-body-requires t c =
    let small = body_smaller c.args.g.now c.as_slice-2.result.now c.as_slice-2.ensures.value in
    (omega (arith, small, c.decreases), tt)

pub group-returns-clause-group : goal.group-returns-clause-group
group-returns-clause-group t c =
    let names = c.args.names.now in
    let w = c.args.place in
    let scope = c.args.scope.now in
    let g = c.args.g.now in
    subst (λ r. GivesGroup r c.args.typed.now c.stmts-body.new.typed (group names w scope (group_tree g).labels (group_tree g).body)) (sym c.group_of.ensures)
    (group_given names w scope (group_tree g).labels (group_tree g).body c.args.typed.now c.labels-labels.new.typed c.stmts-body.new.typed
    c.labels-labels.result c.stmts-body.result
    (subst (λ ls. GivesLabels c.labels-labels.result c.args.typed.now c.labels-labels.new.typed (labels scope.variables ls))
    (c.as_slice.ensures ∙ group_labels g) c.labels-labels.ensures)
    (subst (λ b. GivesStmts c.stmts-body.result c.labels-labels.new.typed c.stmts-body.new.typed (stmts names w scope b))
    (group_body g c.as_slice-2.result.now c.as_slice-2.ensures.value) c.stmts-body.ensures.stmts))

pub group-returns-clause-scope : goal.group-returns-clause-scope
group-returns-clause-scope t c =
    let scope = c.args.scope.now in
    let g = c.args.g.now in
    subst (λ r. UnlessMemory r (c.stmts-body.new.scope ≡ scopes_behind scope (group_tree g).body)) (sym c.group_of.ensures)
    (group_unless (c.stmts-body.new.scope ≡ scopes_behind scope (group_tree g).body) c.labels-labels.result c.stmts-body.result
    (subst (λ b. UnlessMemory c.stmts-body.result (c.stmts-body.new.scope ≡ scopes_behind scope b))
    (group_body g c.as_slice-2.result.now c.as_slice-2.ensures.value) c.stmts-body.ensures.scope))

pub groups-group-x-requires : goal.groups-group-x-requires
groups-group-x-requires t c =
    let small = group_smaller c.args.all.now c.loop-g.g-index c.g-item.result (omega (arith, c.loop-g-test.true)) c.g-item.is in
    (omega (arith, small, c.decreases), tt)

pub groups-loop-g-preserved : goal.groups-loop-g-preserved
groups-loop-g-preserved t c =
    let names = c.args.names.now in
    let place = c.args.place in
    let all = c.args.all.now in
    let i = c.loop-g.g-index in
    let g = c.g-item.result in
    let scope = c.loop-g.scope in
    let within : i < length all = omega (arith, c.loop-g-test.true) in
    let rest = groups_of (map group_tree (drop (i + 1) all)) in
    let read = group names place scope (group_tree g).labels (group_tree g).body in
    let moved : c.group-x.new.scope ≡ scopes_behind scope (group_tree g).body =
    taken (c.group-x.new.scope ≡ scopes_behind scope (group_tree g).body) c.group-x.result c.loop-g.good.items c.take_up.new.good.items c.loop-g.least
    c.in_ok-least.least c.in_ok-least.ensures c.group-x.ensures.scope in
    record {
      groups = step group_in HasGroup HaveGroups groups_last c.args.typed.now c.loop-g.typed c.group-x.new.typed
          (groups names place c.args.scope.now (groups_of (map group_tree all))) (groups names place c.group-x.new.scope rest) c.loop-g.good.items
          c.take_up.new.good.items c.loop-g.least c.in_ok-least.least c.group-x.result read
          (groups names place scope (groups_of (map group_tree (drop i all))))
          (groups_next names place scope all i g within c.g-item.is ∙ ap (λ z. more read (groups names place z rest)) (sym moved))
          c.loop-g.invariant.groups c.group-x.ensures.group c.in_ok-least.ensures;
      scope = c.loop-g.invariant.scope ∙ groups_behind_next scope all i g within c.g-item.is ∙ ap (λ z. groups_behind z rest) (sym moved);
    }

pub stmts-stmt-x-requires : goal.stmts-stmt-x-requires
stmts-stmt-x-requires t c =
    let small = stmt_smaller c.args.body.now c.loop-s.s-index c.s-item.result (omega (arith, c.loop-s-test.true)) c.s-item.is in
    (omega (arith, small, c.decreases), tt)

pub stmts-loop-s-preserved : goal.stmts-loop-s-preserved
stmts-loop-s-preserved t c =
    let names = c.args.names.now in
    let place = c.args.place in
    let body = c.args.body.now in
    let i = c.loop-s.s-index in
    let s = c.s-item.result in
    let scope = c.loop-s.scope in
    let within : i < length body = omega (arith, c.loop-s-test.true) in
    let rest = stmts_of (map stmt_tree (drop (i + 1) body)) in
    let read = stmt names place scope (stmt_tree s) in
    let moved : c.stmt-x.new.scope ≡ scope_behind scope (stmt_tree s) =
    taken (c.stmt-x.new.scope ≡ scope_behind scope (stmt_tree s)) c.stmt-x.result c.loop-s.good.items c.take_up.new.good.items c.loop-s.least
    c.in_ok-least.least c.in_ok-least.ensures c.stmt-x.ensures.scope in
    record {
      stmts = step stmt_in HasStmt HaveStmts stmts_last c.args.typed.now c.loop-s.typed c.stmt-x.new.typed
          (stmts names place c.args.scope.now (stmts_of (map stmt_tree body))) (stmts names place c.stmt-x.new.scope rest) c.loop-s.good.items
          c.take_up.new.good.items c.loop-s.least c.in_ok-least.least c.stmt-x.result read
          (stmts names place scope (stmts_of (map stmt_tree (drop i body))))
          (stmts_next names place scope body i s within c.s-item.is ∙ ap (λ z. more read (stmts names place z rest)) (sym moved))
          c.loop-s.invariant.stmts c.stmt-x.ensures.stmt c.in_ok-least.ensures;
      scope = c.loop-s.invariant.scope ∙ scopes_next scope body i s within c.s-item.is ∙ ap (λ z. scopes_behind z rest) (sym moved);
    }
