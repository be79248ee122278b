use Rattle.std.proofs.Common.{◌+◌, Some, drop, subst, sym, arith}
use Rattle.xs_ccheck.specs.FileTyping.{defines}
use Rattle.xs_ccheck.proofs.Lists.{DefinesSoFar, define_noted}
use Rattle.xs_ccheck.proofs.Loops.{defines_next}
use Rattle.xs_ccheck.proofs.file.defines.Goals as goal

pub loop-d-preserved : goal.loop-d-preserved
loop-d-preserved c =
    let ds = c.args.defines.now in
    let i = c.loop-d.d-index in
    let f = c.not_built-fault.result in
    let rest = defines (drop (i + 1) ds) in
    subst (λ g. DefinesSoFar (Some g) (defines ds) rest) (sym c.first_of.ensures)
    (define_noted c.loop-d.least f (defines ds) (defines (drop i ds)) rest
    (defines_next ds i c.d-item.result f (omega (arith, c.loop-d-test.true)) c.d-item.is c.not_built-fault.ensures) c.loop-d.invariant)
