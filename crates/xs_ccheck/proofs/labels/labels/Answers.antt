use Rattle.std.proofs.Common.{◌+◌, ◌<◌, length, drop, arith}
use Rattle.xs_ctypes.specs.Checked.{judged}
use Rattle.xs_ccheck.specs.Resolving.{HasLabel, HaveLabels, label_in}
use Rattle.xs_ccheck.specs.StmtTyping.{label_number, labels, line_of_label}
use Rattle.xs_ccheck.proofs.Collecting.{step}
use Rattle.xs_ccheck.proofs.Lists.{labels_last}
use Rattle.xs_ccheck.proofs.Loops.{labels_next}
use Rattle.xs_ccheck.proofs.labels.labels.Goals as goal

pub loop-l-preserved : goal.loop-l-preserved
loop-l-preserved c =
    let vs = c.args.scope.now.variables in
    let all = c.args.all.now in
    let i = c.loop-l.l-index in
    let l = c.l-item.result in
    let within : i < length all = omega (arith, c.loop-l-test.true) in
    step label_in HasLabel HaveLabels labels_last c.args.typed.now c.loop-l.typed c.label-x.new.typed (labels vs all) (labels vs (drop (i + 1) all))
    c.loop-l.good.items c.take_up.new.good.items c.loop-l.least c.in_ok-least.least c.label-x.result (judged (line_of_label l) (label_number vs l))
    (labels vs (drop i all)) (labels_next vs all i l within c.l-item.is) c.loop-l.invariant c.label-x.ensures c.in_ok-least.ensures
