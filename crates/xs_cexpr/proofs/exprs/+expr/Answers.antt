use Rattle.std.proofs.Common.{◌≡◌, ◌∙◌, ◌+◌, ◌-◌, ◌≤◌, ℕ, suc, max, Ok, rules, ap, ap₂, sym, subst, arith}
use Rattle.std.proofs.Math.Nat.{max-le}
use Rattle.std.proofs.lemmas.Bool.{le-ltb}
use Rattle.xs_base.proofs.Turns.{one_more}
use Rattle.xs_base.specs.Reading.{Fails}
use Rattle.xs_cexpr.proofs.BindingLevels.{binds_few}
use Rattle.xs_cexpr.proofs.ExpressionTurns.{climb_more, end_fails, expr_below, index_more, item_fails, item_more, list_ends, step_more}
use Rattle.xs_cexpr.proofs.exprs.+expr.Goals as goal
use Rattle.xs_cexpr.proofs.exprs.+expr.Goals.{suffixes-then-sees+in_ok-left, suffixes-else-sees+in-Some+in_ok-other+in-Ok+else-p-below}
use Rattle.xs_cexpr.specs.ExpressionReader.{Found, FoundAll, at_level, climb, expr, list, list_from, place_of, suffixes}
use Rattle.xs_cexpr.specs.ExpressionViews.{found, found_all, found_place, placed_view}
use Rattle.xs_cinput.specs.TokenInput.{Outcome, Reader, Reads}

pub climb-overflow_add-binds : goal.climb-overflow_add-binds
climb-overflow_add-binds t c =
    let few = binds_few c.args.tight c.loop-turn.cursor (c.in-Some.op, c.in-Some.binds) (sym c.operator.ensures ∙ c.in-Some.is) in
    search (rules, few)

pub climb-loop-turn-preserved : goal.climb-loop-turn-preserved
climb-loop-turn-preserved t c =
    let inner = expr c.args.below in
    let place = place_of c.args.below in
    let left = c.args.below - (c.loop-turn._turn + 1) in
    record {
      read = one_more (λ n. climb inner place c.args.below c.args.tight c.args.line n (found c.loop-turn.left) c.loop-turn.cursor) c.args.below
          c.loop-turn._turn c.loop-turn-test.true c.loop-turn.invariant.read
          ∙ climb_more inner place c.args.below c.args.tight c.args.line left (found c.loop-turn.left) (found c.in_ok-right.right)
          (c.in-Some.op, c.in-Some.binds) c.loop-turn.cursor c.skip.new.self c.expr.new.cursor (sym c.operator.ensures ∙ c.in-Some.is)
          (le-ltb c.args.below c.loop-turn.left.height c.if-left-below.false) c.skip.ensures c.in_ok-right.ensures.read
          ∙ ap (λ (n : Found). climb inner place c.args.below c.args.tight c.args.line left n c.expr.new.cursor) (sym c.in_ok-left.ensures);
      within =
          let tall : c.in_ok-left.left.height ≡ max c.loop-turn.left.height c.in_ok-right.right.height + 1 =
          ap (λ (n : Found). n.height) c.in_ok-left.ensures in
          let most : max c.loop-turn.left.height c.in_ok-right.right.height ≤ c.args.below = max-le c.if-left-below.false c.in_ok-right.ensures.within in
          omega (arith, tall, most);
    }

pub expr-returns-in-Whole-clause-read : goal.expr-returns-in-Whole-clause-read
expr-returns-in-Whole-clause-read t c =
    subst (λ (f : Reader Found). Reads found (f c.args.cursor.now) c.whole.result c.whole.new.cursor)
    (sym (expr_below c.args.room c.args.level c.if-room-eq0.false
    ∙ ap (at_level (expr (c.args.room - 1)) (place_of (c.args.room - 1)) (c.args.room - 1)) c.in-Whole.is)) c.whole.ensures.read

pub expr-returns-in-Choice-clause-read : goal.expr-returns-in-Choice-clause-read
expr-returns-in-Choice-clause-read t c =
    subst (λ (f : Reader Found). Reads found (f c.args.cursor.now) c.choice.result c.choice.new.cursor)
    (sym (expr_below c.args.room c.args.level c.if-room-eq0.false
    ∙ ap (at_level (expr (c.args.room - 1)) (place_of (c.args.room - 1)) (c.args.room - 1)) c.in-Choice.is)) c.choice.ensures.read

pub expr-returns-in-Binary-clause-read : goal.expr-returns-in-Binary-clause-read
expr-returns-in-Binary-clause-read t c =
    subst (λ (f : Reader Found). Reads found (f c.args.cursor.now) c.binary.result c.binary.new.cursor)
    (sym (expr_below c.args.room c.args.level c.if-room-eq0.false
    ∙ ap (at_level (expr (c.args.room - 1)) (place_of (c.args.room - 1)) (c.args.room - 1)) c.in-Binary.is)) c.binary.ensures.read

pub expr-returns-in-Unary-clause-read : goal.expr-returns-in-Unary-clause-read
expr-returns-in-Unary-clause-read t c =
    subst (λ (f : Reader Found). Reads found (f c.args.cursor.now) c.unary.result c.unary.new.cursor)
    (sym (expr_below c.args.room c.args.level c.if-room-eq0.false
    ∙ ap (at_level (expr (c.args.room - 1)) (place_of (c.args.room - 1)) (c.args.room - 1)) c.in-Unary.is)) c.unary.ensures.read

pub list-returns-in_err-one-clause-read : goal.list-returns-in_err-one-clause-read
list-returns-in_err-one-clause-read t c =
    let inner = expr c.args.below in
    let left = c.turns-turn-end.result - (c.loop-turn._turn + 1) in
    let done = found_all c.loop-turn.all in
    let e = c.in_err-one.field-0.0 in
    let turn : list inner c.args.cursor.now ≡ list_from inner (suc left) done c.loop-turn.cursor =
    one_more (λ n. list_from inner n done c.loop-turn.cursor) c.turns-turn-end.result c.loop-turn._turn c.loop-turn-test.true c.loop-turn.invariant.read in
    let fails : Fails e (list inner c.args.cursor.now) =
    subst (λ (o : Outcome FoundAll). Fails e o) (sym turn) (item_fails inner left done c.loop-turn.cursor e c.in_err-one.ensures.read) in
    search rules

pub list-returns-in_err-expect-clause-read : goal.list-returns-in_err-expect-clause-read
list-returns-in_err-expect-clause-read t c =
    let inner = expr c.args.below in
    let left = c.turns-turn-end.result - (c.loop-turn._turn + 1) in
    let done = found_all c.loop-turn.all in
    let e = c.in_err-expect.field-0.0 in
    let turn : list inner c.args.cursor.now ≡ list_from inner (suc left) done c.loop-turn.cursor =
    one_more (λ n. list_from inner n done c.loop-turn.cursor) c.turns-turn-end.result c.loop-turn._turn c.loop-turn-test.true c.loop-turn.invariant.read in
    let fails : Fails e (list inner c.args.cursor.now) =
    subst (λ (o : Outcome FoundAll). Fails e o) (sym turn)
    (end_fails inner left done c.loop-turn.cursor c.expr.new.cursor c.eat-more.new.self (found c.in_ok-one.one) e c.in_ok-one.ensures.read
    (sym c.eat-more.ensures.found ∙ c.if-not-more.true) c.eat-more.ensures.after c.in_err-expect.ensures) in
    search rules

pub list-returns-then-not-more-clause-read : goal.list-returns-then-not-more-clause-read
list-returns-then-not-more-clause-read t c =
    let inner = expr c.args.below in
    let left = c.turns-turn-end.result - (c.loop-turn._turn + 1) in
    let done = found_all c.loop-turn.all in
    one_more (λ n. list_from inner n done c.loop-turn.cursor) c.turns-turn-end.result c.loop-turn._turn c.loop-turn-test.true c.loop-turn.invariant.read
    ∙ list_ends inner left done c.loop-turn.cursor c.expr.new.cursor c.eat-more.new.self c.expect.new.self (found c.in_ok-one.one) c.in_ok-expect.field-0
    c.in_ok-one.ensures.read (sym c.eat-more.ensures.found ∙ c.if-not-more.true) c.eat-more.ensures.after c.in_ok-expect.ensures
    ∙ ap (λ (all : FoundAll). let o : Outcome FoundAll = Ok (all, c.expect.new.self) in o) (sym c.in_ok-all.ensures)

pub list-loop-turn-preserved : goal.list-loop-turn-preserved
list-loop-turn-preserved t c =
    let inner = expr c.args.below in
    let left = c.turns-turn-end.result - (c.loop-turn._turn + 1) in
    let done = found_all c.loop-turn.all in
    record {
      read = one_more (λ n. list_from inner n done c.loop-turn.cursor) c.turns-turn-end.result c.loop-turn._turn c.loop-turn-test.true
          c.loop-turn.invariant.read
          ∙ item_more inner left done c.loop-turn.cursor c.expr.new.cursor c.eat-more.new.self (found c.in_ok-one.one) c.in_ok-one.ensures.read
          (sym c.eat-more.ensures.found ∙ c.if-not-more.false) c.eat-more.ensures.after
          ∙ ap (λ (all : FoundAll). list_from inner left all c.eat-more.new.self) (sym c.in_ok-all.ensures);
      within =
          let tall : c.in_ok-all.all.height ≡ max c.loop-turn.all.height c.in_ok-one.one.height = ap (λ (all : FoundAll). all.height) c.in_ok-all.ensures in
          subst (λ h. h ≤ c.args.below) (sym tall) (max-le c.loop-turn.invariant.within c.in_ok-one.ensures.within);
    }

pub suffixes-loop-turn-preserved : goal.suffixes-loop-turn-preserved
suffixes-loop-turn-preserved t c =
    let inner = expr c.args.below in
    let place = place_of c.args.below in
    let left = c.args.below - (c.loop-turn._turn + 1) in
    let turn = one_more (λ n. suffixes inner place c.args.below c.args.line n (found c.loop-turn.left) c.loop-turn.cursor) c.args.below c.loop-turn._turn
    c.loop-turn-test.true c.loop-turn.invariant.read in
    elim c.if-sees.branch [
      | suffixes-then-sees+in_ok-left w ↦ record {
        read = turn
            ∙ index_more inner place c.args.below c.args.line left (found c.loop-turn.left) (found w.in_ok-left.left) c.loop-turn.cursor w.index.new.cursor
            (sym c.sees.ensures ∙ w.if-sees.true) w.in_ok-left.ensures.read
            ∙ ap₂ (λ n i. suffixes inner place c.args.below c.args.line left (found n) i) (sym w.left-is) (sym w.cursor-is);
        within = subst (λ n. n.height ≤ c.args.below + 1) (sym w.left-is) w.in_ok-left.ensures.within;
      }
      | suffixes-else-sees+in-Some+in_ok-other+in-Ok+else-p-below w ↦ record {
        read = turn
            ∙ step_more inner place c.args.below c.args.line left (found c.loop-turn.left) (found_place w.in-Ok.p) w.in-Some.step c.loop-turn.cursor
            w.skip.new.self (sym c.sees.ensures ∙ w.if-sees.false) (sym w.a_step.ensures ∙ w.in-Some.is)
            (sym w.in_ok-other.ensures ∙ ap placed_view w.in-Ok.is) (le-ltb c.args.below w.in-Ok.p.height w.if-p-below.false) w.skip.ensures
            ∙ ap (λ (n : Found). suffixes inner place c.args.below c.args.line left n w.skip.new.self) (sym w.step_after-left.ensures)
            ∙ ap₂ (λ n i. suffixes inner place c.args.below c.args.line left (found n) i) (sym w.left-is) (sym w.cursor-is);
        within =
            let tall : w.step_after-left.result.height ≡ w.in-Ok.p.height + 1 = ap (λ (n : Found). n.height) w.step_after-left.ensures in
            let most : w.step_after-left.result.height ≤ c.args.below + 1 = omega (arith, tall, w.if-p-below.false) in
            subst (λ n. n.height ≤ c.args.below + 1) (sym w.left-is) most;
      }
    ]
