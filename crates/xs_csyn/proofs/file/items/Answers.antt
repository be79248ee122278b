use Rattle.std.proofs.Common.{◌∙◌, ◌+◌, ◌-◌, [], rules, sym}
use Rattle.xs_base.proofs.Turns.{one_more}
use Rattle.xs_base.specs.Reading.{Fails}
use Rattle.xs_cinput.specs.TokenInput.{Input}
use Rattle.xs_cstmt.proofs.LoopTurns.{map_more}
use Rattle.xs_csyn.proofs.LoopTurns.{item_fails, item_more, items_over}
use Rattle.xs_csyn.proofs.file.items.Goals as goal
use Rattle.xs_csyn.specs.FileReader.{items_from, items_of}
use Rattle.xs_csyn.specs.FileViews.{item_tree, item_trees}

pub returns-then-at_end : goal.returns-then-at_end
returns-then-at_end c =
    let left = c.args.turns - (c.loop-turn._turn + 1) in
    let done = item_trees c.loop-turn.all in
    let i : Input = record { rest = c.loop-turn.rest; types = c.loop-turn.types; file = c.args.file; last = c.args.last; turns = c.args.turns } in
    items_over left done i c.new-cursor.result _
    (one_more (λ n. items_from n done i) c.args.turns c.loop-turn._turn c.loop-turn-test.true c.loop-turn.invariant) c.new-cursor.ensures
    (sym c.at_end.ensures ∙ c.if-at_end.true)

pub returns-in_err-one : goal.returns-in_err-one
returns-in_err-one c =
    let left = c.args.turns - (c.loop-turn._turn + 1) in
    let done = item_trees c.loop-turn.all in
    let e = c.in_err-one.field-0.0 in
    let i : Input = record { rest = c.loop-turn.rest; types = c.loop-turn.types; file = c.args.file; last = c.args.last; turns = c.args.turns } in
    let fails : Fails e (items_of (record { rest = c.args.tokens; types = []; file = c.args.file; last = c.args.last; turns = c.args.turns })) =
    item_fails left done i c.new-cursor.result _ e
    (one_more (λ n. items_from n done i) c.args.turns c.loop-turn._turn c.loop-turn-test.true c.loop-turn.invariant) c.new-cursor.ensures
    (sym c.at_end.ensures ∙ c.if-at_end.false) c.in_err-one.ensures in
    search rules

pub loop-turn-preserved : goal.loop-turn-preserved
loop-turn-preserved c =
    let left = c.args.turns - (c.loop-turn._turn + 1) in
    let done = item_trees c.loop-turn.all in
    let i : Input = record { rest = c.loop-turn.rest; types = c.loop-turn.types; file = c.args.file; last = c.args.last; turns = c.args.turns } in
    one_more (λ n. items_from n done i) c.args.turns c.loop-turn._turn c.loop-turn-test.true c.loop-turn.invariant
    ∙ item_more left done (item_trees c.push.new.self) i c.new-cursor.result c.item.new.cursor (item_tree c.in_ok-one.one) c.into_rest-rest.result
    c.note.new.names c.new-cursor.ensures (sym c.at_end.ensures ∙ c.if-at_end.false) c.in_ok-one.ensures c.into_rest-rest.ensures c.in_ok-note.ensures
    (map_more item_tree c.loop-turn.all c.push.new.self c.in_ok-one.one c.in_ok-push.ensures.ok)
