use Rattle.xs_ctree.specs.Functions.{expr_in}
use Rattle.xs_ccheck.proofs.GroupParts.{switch_given}
use Rattle.xs_ccheck.proofs.labels.switched.Goals as goal

pub returns-in_ok-index-in-Number : goal.returns-in_ok-index-in-Number
returns-in_ok-index-in-Number c =
    switch_given c.args.line c.in-Number.kind c.promote.result c.args.value.of_type (expr_in c.args.typed.now c.args.value.node) c.args.typed.now
    c.add_switch.new.self c.args.groups.now c.in_ok-index-in-Number.index c.in-Number.is c.promote.ensures c.in_ok-index-in-Number.ensures
