use Rattle.std.proofs.Common.{Some, ap, ◌∙◌, refl, arith}
use Rattle.xs_ctree.specs.Arena.{function_of}
use Rattle.xs_ctree.specs.Functions.{arena_of, code_of, function_at}
use Rattle.xs_ctree.proofs.Callees.{callee_is}
use Rattle.xs_ctree.proofs.typed.Typed.callee.Goals as goal

pub returns-in-Some-function_in : goal.returns-in-Some-function_in
returns-in-Some-function_in c =
    let t = c.args.self.now in
    let f = c.in-Some-function_in.function.now in (
      function_of (arena_of t) f,
      ap (function_at (code_of t)) c.in-Some.is ∙ callee_is t c.in-Some.f (Some f) c.in-Some-function_in.ensures,
      (omega (arith, c.len.ensures, f.slots.ok.0), refl),
    )
