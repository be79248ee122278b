use Rattle.std.proofs.Common.{◌≡◌, ◌∙◌, ◌+◌, ◌-◌, ◌++◌, ◌∷◌, [], List, Ok, suc, rules, ap, map, sym, subst}
use Rattle.xs_base.proofs.Turns.{one_more}
use Rattle.xs_base.specs.Reading.{Fails}
use Rattle.xs_cexpr.specs.ExpressionTree.{ExprTree}
use Rattle.xs_cexpr.specs.ExpressionViews.{expr_tree, found}
use Rattle.xs_cinput.specs.TokenInput.{Outcome}
use Rattle.xs_cstmt.proofs.LoopTurns.{map_more}
use Rattle.xs_csyn.proofs.LoopTurns.{argument_fails, argument_last, argument_more}
use Rattle.xs_csyn.proofs.file.some_args.Goals as goal
use Rattle.xs_csyn.specs.FileReader.{args_from, some_args}

pub returns-in_err-tree : goal.returns-in_err-tree
unfolding some_args
returns-in_err-tree c =
    let left = c.turns-turn-end.result - (c.loop-turn._turn + 1) in
    let done = map expr_tree c.loop-turn.all.items in
    let e = c.in_err-tree.field-0.0 in
    let turn : some_args c.args.room c.args.cursor.now ≡ args_from c.args.room (suc left) done c.loop-turn.cursor =
    one_more (λ n. args_from c.args.room n done c.loop-turn.cursor) c.turns-turn-end.result c.loop-turn._turn c.loop-turn-test.true c.loop-turn.invariant in
    let fails : Fails e (some_args c.args.room c.args.cursor.now) =
    subst (λ (o : Outcome (List ExprTree)). Fails e o) (sym turn) (argument_fails c.args.room left done c.loop-turn.cursor e c.in_err-tree.ensures.read) in
    search rules

pub returns-then-not-more : goal.returns-then-not-more
returns-then-not-more c =
    let left = c.turns-turn-end.result - (c.loop-turn._turn + 1) in
    let done = map expr_tree c.loop-turn.all.items in
    let longer : done ++ expr_tree c.in_ok-tree.field-0.tree ∷ [] ≡ map expr_tree c.in_ok-all.all.items =
    map_more expr_tree c.loop-turn.all.items c.in_ok-all.all.items c.in_ok-tree.field-0.tree c.in_ok-all.ensures in
    one_more (λ n. args_from c.args.room n done c.loop-turn.cursor) c.turns-turn-end.result c.loop-turn._turn c.loop-turn-test.true c.loop-turn.invariant
    ∙ argument_last c.args.room left done c.loop-turn.cursor c.expr.new.cursor c.eat-more.new.self (found c.in_ok-tree.field-0) c.in_ok-tree.ensures.read
    (sym c.eat-more.ensures.found ∙ c.if-not-more.true) c.eat-more.ensures.after
    ∙ ap (λ (all : List ExprTree). let o : Outcome (List ExprTree) = Ok (all, c.eat-more.new.self) in o) longer

pub loop-turn-preserved : goal.loop-turn-preserved
loop-turn-preserved c =
    let left = c.turns-turn-end.result - (c.loop-turn._turn + 1) in
    let done = map expr_tree c.loop-turn.all.items in
    let longer : done ++ expr_tree c.in_ok-tree.field-0.tree ∷ [] ≡ map expr_tree c.in_ok-all.all.items =
    map_more expr_tree c.loop-turn.all.items c.in_ok-all.all.items c.in_ok-tree.field-0.tree c.in_ok-all.ensures in
    one_more (λ n. args_from c.args.room n done c.loop-turn.cursor) c.turns-turn-end.result c.loop-turn._turn c.loop-turn-test.true c.loop-turn.invariant
    ∙ argument_more c.args.room left done c.loop-turn.cursor c.expr.new.cursor c.eat-more.new.self (found c.in_ok-tree.field-0) c.in_ok-tree.ensures.read
    (sym c.eat-more.ensures.found ∙ c.if-not-more.false) c.eat-more.ensures.after
    ∙ ap (λ (all : List ExprTree). args_from c.args.room left all c.eat-more.new.self) longer
