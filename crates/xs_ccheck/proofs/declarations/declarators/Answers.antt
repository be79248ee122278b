use Rattle.std.proofs.Common.{◌≡◌, ◌∙◌, ◌+◌, ◌<◌, ap, sym, length, map, drop, arith}
use Rattle.xs_cstmt.specs.StatementViews.{declarator_tree}
use Rattle.xs_ctree.specs.Functions.{stmt_in}
use Rattle.xs_ctree.specs.Growth.{HasStmt}
use Rattle.xs_ctypes.specs.Checked.{more}
use Rattle.xs_ccheck.specs.Resolving.{HaveStmts}
use Rattle.xs_ctypes.specs.Scopes.{declarators_behind, name_behind}
use Rattle.xs_ccheck.specs.StmtTyping.{declarator, declarators}
use Rattle.xs_ccheck.proofs.Collecting.{step}
use Rattle.xs_ccheck.proofs.Lists.{stmts_last}
use Rattle.xs_ccheck.proofs.Loops.{declarators_next, names_next}
use Rattle.xs_ccheck.proofs.declarations.declarators.Goals as goal

pub loop-d-preserved : goal.loop-d-preserved
loop-d-preserved c =
    let base = c.args.base.now in
    let ds = c.args.names.now in
    let i = c.loop-d.d-index in
    let d = c.d-item.result in
    let scope = c.loop-d.scope in
    let within : i < length ds = omega (arith, c.loop-d-test.true) in
    let rest = map declarator_tree (drop (i + 1) ds) in
    let read = declarator base scope (declarator_tree d) (declarator_tree d).value in
    let moved : c.declare.new.self ≡ name_behind base scope (declarator_tree d) = c.in_ok-declare.ensures in
    record {
      stmts = step stmt_in HasStmt HaveStmts stmts_last c.args.typed.now c.loop-d.typed c.declarator-x.new.typed
          (declarators base c.args.scope.now (map declarator_tree ds)) (declarators base c.declare.new.self rest) c.loop-d.good.items
          c.take_up.new.good.items c.loop-d.least c.in_ok-least.least c.declarator-x.result read
          (declarators base scope (map declarator_tree (drop i ds)))
          (declarators_next base scope ds i d within c.d-item.is ∙ ap (λ z. more read (declarators base z rest)) (sym moved))
          c.loop-d.invariant.stmts c.declarator-x.ensures c.in_ok-least.ensures;
      scope = c.loop-d.invariant.scope ∙ names_next base scope ds i d within c.d-item.is ∙ ap (λ z. declarators_behind base z rest) (sym moved);
    }
