use Rattle.std.proofs.Common.{◌≡◌, ◌∷◌, Some, true, map, subst, sym}
use Rattle.std.specs.Prelude.{OnOk}
use Rattle.std.proofs.lemmas.Bool.{and_parts}
use Rattle.xs_ctree.specs.Arena.{expr_fits, expr_from, is_within, ranged}
use Rattle.xs_ctree.specs.Functions.{arena_of, expr_in}
use Rattle.xs_ctree.specs.TypedTree.{exprs_of}
use Rattle.xs_machine.specs.Dispatch.{counted_rows}
use Rattle.xs_machine.specs.Machine.{DoExprs, DoRow, act_expr, run_on}
use Rattle.xs_machine.specs.MachineViews.{mach_of, operands_of, pending_of, state_of}
use Rattle.xs_machine.proofs.Operands.{counted}
use Rattle.xs_machine.proofs.work.act_on_expr_node.Goals as goal

pub returns-in-Api-clause-acts : goal.returns-in-Api-clause-acts
returns-in-Api-clause-acts c =
    let m = c.args.m.now in
    let t = m.typed in
    let r = c.in-Api.operands in
    let es = exprs_of (map (expr_in t) (ranged t.parts.items r)) in
    let fits = subst (λ n. expr_fits (arena_of t) c.requires.fits.0 n ≡ true) c.in-Api.is c.requires.fits.1 in
    let within : is_within t.parts.items r ≡ true = (and_parts _ _ fits).0 in
    subst (λ n. OnOk c.begin_row.result (mach_of c.begin_row.new.m
    ≡ act_expr counted_rows (expr_from (arena_of t) (Some n) (expr_in t)) (pending_of m) (operands_of m) (state_of m))) (sym c.in-Api.is)
    (subst (λ n. OnOk c.begin_row.result (mach_of c.begin_row.new.m
    ≡ run_on (DoExprs es ∷ DoRow c.in-Api.row n ∷ pending_of m) (operands_of m) (state_of m))) (sym (counted (expr_in t) t.parts.items r within))
    c.begin_row.ensures.acts)
