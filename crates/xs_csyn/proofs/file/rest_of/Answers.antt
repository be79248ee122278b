use Rattle.std.proofs.Common.{◌≡◌, ◌∙◌, ◌+◌, ◌-◌, List, suc, rules, ap, sym, subst}
use Rattle.xs_base.proofs.Turns.{one_more}
use Rattle.xs_base.specs.Reading.{Fails}
use Rattle.xs_cinput.specs.TokenInput.{Outcome}
use Rattle.xs_cstmt.specs.StatementReader.{stmt}
use Rattle.xs_cstmt.specs.StatementTree.{StmtTree}
use Rattle.xs_cstmt.specs.StatementViews.{stmt_tree, stmt_trees}
use Rattle.xs_cstmt.proofs.LoopTurns.{map_more}
use Rattle.xs_csyn.proofs.LoopTurns.{part_fails, part_more, rest_over}
use Rattle.xs_csyn.proofs.file.rest_of.Goals as goal
use Rattle.xs_csyn.specs.FileReader.{rest_from, rest_of}

pub returns-then-at_end : goal.returns-then-at_end
returns-then-at_end c =
    let left = c.turns-turn-end.result - (c.loop-turn._turn + 1) in
    one_more (λ n. rest_from (stmt c.args.room) n (stmt_trees c.loop-turn.all) c.loop-turn.cursor) c.turns-turn-end.result c.loop-turn._turn
    c.loop-turn-test.true c.loop-turn.invariant
    ∙ rest_over c.args.room left (stmt_trees c.loop-turn.all) c.loop-turn.cursor (sym c.at_end.ensures ∙ c.if-at_end.true)

pub returns-in_err-one : goal.returns-in_err-one
returns-in_err-one c =
    let left = c.turns-turn-end.result - (c.loop-turn._turn + 1) in
    let done = stmt_trees c.loop-turn.all in
    let e = c.in_err-one.field-0.0 in
    let turn : rest_of c.args.room c.args.cursor.now ≡ rest_from (stmt c.args.room) (suc left) done c.loop-turn.cursor =
    one_more (λ n. rest_from (stmt c.args.room) n done c.loop-turn.cursor) c.turns-turn-end.result c.loop-turn._turn c.loop-turn-test.true
    c.loop-turn.invariant in
    let fails : Fails e (rest_of c.args.room c.args.cursor.now) =
    subst (λ (o : Outcome (List StmtTree)). Fails e o) (sym turn)
    (part_fails c.args.room left done c.loop-turn.cursor e (sym c.at_end.ensures ∙ c.if-at_end.false) c.in_err-one.ensures) in
    search rules

pub loop-turn-preserved : goal.loop-turn-preserved
loop-turn-preserved c =
    let left = c.turns-turn-end.result - (c.loop-turn._turn + 1) in
    one_more (λ n. rest_from (stmt c.args.room) n (stmt_trees c.loop-turn.all) c.loop-turn.cursor) c.turns-turn-end.result c.loop-turn._turn
    c.loop-turn-test.true c.loop-turn.invariant
    ∙ part_more c.args.room left (stmt_trees c.loop-turn.all) c.loop-turn.cursor c.part.new.cursor (stmt_tree c.in_ok-one.one)
    (sym c.at_end.ensures ∙ c.if-at_end.false) c.in_ok-one.ensures
    ∙ ap (λ (all : List StmtTree). rest_from (stmt c.args.room) left all c.part.new.cursor)
    (map_more stmt_tree c.loop-turn.all.items c.in_ok-all.all.items c.in_ok-one.one c.in_ok-all.ensures)
