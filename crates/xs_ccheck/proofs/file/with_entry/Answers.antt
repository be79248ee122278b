use Rattle.std.proofs.Common.{◌≡◌, ◌∷◌, subst, sym}
use Rattle.std.specs.Prelude.{IfOk}
use Rattle.xs_perlapi.specs.declared.row.Row.TheVariants.{Entry}
use Rattle.xs_ctree.specs.TypedTree.{Api, Effect, NoExprs}
use Rattle.xs_ccheck.specs.FileTyping.{with_entry}
use Rattle.xs_ccheck.specs.Resolving.{Stand, all_stmts_in}
use Rattle.xs_ccheck.proofs.Lists.{stood}
use Rattle.xs_ccheck.proofs.file.with_entry.Goals as goal

pub returns-in_ok-first-in-Some : goal.returns-in_ok-first-in-Some
returns-in_ok-first-in-Some c =
    let old = c.args.typed.now in
    let new = c.entry.new.typed in
    let first = c.in_ok-first-in-Some.first in
    let body = c.args.body.items in
    let front : IfOk c.in_front.result (λ all. all.items ≡ first ∷ body) =
    subst (λ xs. IfOk c.in_front.result (λ all. all.items ≡ first ∷ xs)) c.as_slice.ensures.value c.in_front.ensures in
    subst (λ l. IfOk c.in_front.result (λ all. Stand old (with_entry l (all_stmts_in old body)) all.items new)) (sym c.in-Some.is)
    (stood old new first body (Effect (Api c.in-Some.line Entry NoExprs)) c.in_front.result c.in_ok-first-in-Some.ensures c.requires front)
