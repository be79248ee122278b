use Rattle.std.proofs.Common.{drop}
use Rattle.xs_ccheck.specs.Resolving.{HaveLabels, label_in}
use Rattle.xs_ccheck.specs.StmtTyping.{labels}
use Rattle.xs_ccheck.proofs.Collecting.{Gathers}
use Rattle.xs_ccheck.proofs.labels.labels.Given as goal

abbrev pub invariant-loop-l : goal.invariant-loop-l
invariant-loop-l l =
    Gathers label_in HaveLabels l.fn.typed l.good.items l.least l.typed (labels l.scope.variables l.all) (labels l.scope.variables (drop l.l-index l.all))
