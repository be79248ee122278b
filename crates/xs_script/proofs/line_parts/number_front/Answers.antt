use Rattle.std.proofs.Common.{rules, ◌≡◌, ◌++◌, ◌<◌, length, arith}
use Rattle.std.proofs.lemmas.List.{length-append}
use Rattle.xs_script.proofs.LexSteps.{number_within}
use Rattle.xs_script.proofs.line_parts.number_front.Goals as goal

pub returns-clause-within : goal.returns-clause-within
returns-clause-within c =
    let digits = c.cut_run.result.0.now in
    let size : c.len-len.result ≡ length (c.args.sign.now ++ digits) = search rules in
    let some : 0 < length digits = search rules in (
      omega (arith, size, some, length-append c.args.sign.now digits),
      omega (arith, size, number_within c.args.sign.now digits c.args.after.now c.cut_run.ensures.front),
    )
