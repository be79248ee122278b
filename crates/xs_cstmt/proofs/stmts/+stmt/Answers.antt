use Rattle.std.proofs.Common.{◌≡◌, ◌∙◌, ◌+◌, ◌-◌, arith, rules, sym}
use Rattle.std.proofs.lemmas.Grind.{common_steps}
use Rattle.xs_base.proofs.Turns.{one_more}
use Rattle.xs_base.specs.Reading.{Fails}
use Rattle.xs_cinput.specs.TokenInput.{refuse}
use Rattle.xs_cstmt.specs.StatementReader.{body_from, group_body, groups, groups_from, parts, parts_from, stmt}
use Rattle.xs_cstmt.specs.StatementViews.{group_tree, group_trees, stmt_tree, stmt_trees}
use Rattle.xs_cstmt.proofs.LoopTurns.{body_goes_on, body_over, body_refuses, group_barred, group_refuses, groups_given, groups_go_on, map_more, part_refuses, parts_given, parts_go_on}
use Rattle.xs_cstmt.proofs.stmts.+stmt.Goals as goal

pub parts-returns-then-eat : goal.parts-returns-then-eat
parts-returns-then-eat t c =
    let left = c.turns-turn-end.result - (c.loop-turn._turn + 1) in
    let done = stmt_trees c.loop-turn.all in
    let begun = one_more (λ n. parts_from (stmt c.args.below) n done c.loop-turn.cursor) c.turns-turn-end.result c.loop-turn._turn
    c.loop-turn-test.true c.loop-turn.invariant in
    parts_given c.args.below left done c.loop-turn.cursor c.eat.new.self _ begun (sym c.eat.ensures.found ∙ c.if-eat.true) c.eat.ensures.after

pub parts-returns-in_err-one : goal.parts-returns-in_err-one
parts-returns-in_err-one t c =
    let left = c.turns-turn-end.result - (c.loop-turn._turn + 1) in
    let done = stmt_trees c.loop-turn.all in
    let begun = one_more (λ n. parts_from (stmt c.args.below) n done c.loop-turn.cursor) c.turns-turn-end.result c.loop-turn._turn
    c.loop-turn-test.true c.loop-turn.invariant in
    let fails : Fails c.in_err-one.field-0.0 (parts (stmt c.args.below) c.args.cursor.now) =
    part_refuses c.args.below left done c.loop-turn.cursor c.eat.new.self _ c.in_err-one.field-0.0 begun
    (sym c.eat.ensures.found ∙ c.if-eat.false) c.eat.ensures.after
    c.in_err-one.ensures in
    search rules

pub parts-loop-turn-preserved : goal.parts-loop-turn-preserved
parts-loop-turn-preserved t c =
    let left = c.turns-turn-end.result - (c.loop-turn._turn + 1) in
    let done = stmt_trees c.loop-turn.all in
    let begun = one_more (λ n. parts_from (stmt c.args.below) n done c.loop-turn.cursor) c.turns-turn-end.result c.loop-turn._turn
    c.loop-turn-test.true c.loop-turn.invariant in
    parts_go_on c.args.below left done _ c.loop-turn.cursor c.eat.new.self c.part.new.cursor (stmt_tree c.in_ok-one.one) _ begun
    (sym c.eat.ensures.found ∙ c.if-eat.false) c.eat.ensures.after
    c.in_ok-one.ensures (map_more stmt_tree c.loop-turn.all.items _ c.in_ok-one.one c.in_ok-all.ensures)

pub group_body-returns-then-ends_body : goal.group_body-returns-then-ends_body
group_body-returns-then-ends_body t c =
    let left = c.turns-turn-end.result - (c.loop-turn._turn + 1) in
    let done = stmt_trees c.loop-turn.all in
    let begun = one_more (λ n. body_from (stmt c.args.below) n done c.loop-turn.cursor) c.turns-turn-end.result c.loop-turn._turn
    c.loop-turn-test.true c.loop-turn.invariant in
    begun ∙ body_over c.args.below left done c.loop-turn.cursor (sym c.ends_body.ensures ∙ c.if-ends_body.true)

pub group_body-returns-in_err-one : goal.group_body-returns-in_err-one
group_body-returns-in_err-one t c =
    let left = c.turns-turn-end.result - (c.loop-turn._turn + 1) in
    let done = stmt_trees c.loop-turn.all in
    let begun = one_more (λ n. body_from (stmt c.args.below) n done c.loop-turn.cursor) c.turns-turn-end.result c.loop-turn._turn
    c.loop-turn-test.true c.loop-turn.invariant in
    let fails : Fails c.in_err-one.field-0.0 (group_body (stmt c.args.below) c.args.cursor.now) =
    body_refuses c.args.below left done c.loop-turn.cursor _ c.in_err-one.field-0.0 begun (sym c.ends_body.ensures ∙ c.if-ends_body.false)
    c.in_err-one.ensures in
    search rules

pub group_body-loop-turn-preserved : goal.group_body-loop-turn-preserved
group_body-loop-turn-preserved t c =
    let left = c.turns-turn-end.result - (c.loop-turn._turn + 1) in
    let done = stmt_trees c.loop-turn.all in
    let begun = one_more (λ n. body_from (stmt c.args.below) n done c.loop-turn.cursor) c.turns-turn-end.result c.loop-turn._turn
    c.loop-turn-test.true c.loop-turn.invariant in
    body_goes_on c.args.below left done _ c.loop-turn.cursor c.stmt.new.cursor (stmt_tree c.in_ok-one.one) _ begun
    (sym c.ends_body.ensures ∙ c.if-ends_body.false)
    c.in_ok-one.ensures (map_more stmt_tree c.loop-turn.all.items _ c.in_ok-one.one c.in_ok-all.ensures)

pub groups-returns-then-eat : goal.groups-returns-then-eat
groups-returns-then-eat t c =
    let left = c.turns-turn-end.result - (c.loop-turn._turn + 1) in
    let done = group_trees c.loop-turn.all in
    let begun = one_more (λ n. groups_from (stmt c.args.below) n c.loop-turn.may done c.loop-turn.cursor) c.turns-turn-end.result c.loop-turn._turn
    c.loop-turn-test.true c.loop-turn.invariant in
    groups_given c.args.below left c.loop-turn.may done c.loop-turn.cursor c.eat.new.self _ begun (sym c.eat.ensures.found ∙ c.if-eat.true) c.eat.ensures.after

pub groups-returns-then-not-may : goal.groups-returns-then-not-may
groups-returns-then-not-may t c =
    let left = c.turns-turn-end.result - (c.loop-turn._turn + 1) in
    let done = group_trees c.loop-turn.all in
    let begun = one_more (λ n. groups_from (stmt c.args.below) n c.loop-turn.may done c.loop-turn.cursor) c.turns-turn-end.result c.loop-turn._turn
    c.loop-turn-test.true c.loop-turn.invariant in
    let read : groups (stmt c.args.below) c.args.cursor.now ≡ refuse c.eat.new.self =
    group_barred c.args.below left c.loop-turn.may done c.loop-turn.cursor c.eat.new.self _ begun
    (sym c.eat.ensures.found ∙ c.if-eat.false) c.eat.ensures.after c.if-not-may.true in
    first_of (search rules, grind (arith, common_steps))

pub groups-returns-in_err-one : goal.groups-returns-in_err-one
groups-returns-in_err-one t c =
    let left = c.turns-turn-end.result - (c.loop-turn._turn + 1) in
    let done = group_trees c.loop-turn.all in
    let begun = one_more (λ n. groups_from (stmt c.args.below) n c.loop-turn.may done c.loop-turn.cursor) c.turns-turn-end.result c.loop-turn._turn
    c.loop-turn-test.true c.loop-turn.invariant in
    let fails : Fails c.in_err-one.field-0.0 (groups (stmt c.args.below) c.args.cursor.now) =
    group_refuses c.args.below left c.loop-turn.may done c.loop-turn.cursor c.eat.new.self _ c.in_err-one.field-0.0 begun
    (sym c.eat.ensures.found ∙ c.if-eat.false) c.eat.ensures.after
    c.if-not-may.false c.in_err-one.ensures in
    search rules

pub groups-loop-turn-preserved : goal.groups-loop-turn-preserved
groups-loop-turn-preserved t c =
    let left = c.turns-turn-end.result - (c.loop-turn._turn + 1) in
    let done = group_trees c.loop-turn.all in
    let begun = one_more (λ n. groups_from (stmt c.args.below) n c.loop-turn.may done c.loop-turn.cursor) c.turns-turn-end.result c.loop-turn._turn
    c.loop-turn-test.true c.loop-turn.invariant in
    groups_go_on c.args.below left c.loop-turn.may _ done _ c.loop-turn.cursor c.eat.new.self c.group.new.cursor (group_tree c.in_ok-one.one) _ begun
    (sym c.eat.ensures.found ∙ c.if-eat.false) c.eat.ensures.after c.if-not-may.false c.in_ok-one.ensures c.is_left-may.ensures
    (map_more group_tree c.loop-turn.all.items _ c.in_ok-one.one c.in_ok-all.ensures)
