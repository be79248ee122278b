use Rattle.xs_ctree.proofs.Additions.{switch_added}
use Rattle.xs_ctree.proofs.typed.Typed.add_switch.Goals as goal

pub returns : goal.returns
returns c =
    switch_added c.args.self.now c.add_groups.new.self c.add_stmt.new.self c.args.line c.args.kind c.args.value c.args.groups.now
    c.in_ok-range.range c.add_stmt.result c.in_ok-range.ensures c.requires.value c.requires.groups c.add_stmt.ensures
