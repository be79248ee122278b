use Rattle.std.proofs.Common.{◌∙◌, false, sym}
use Rattle.xs_cstmt.proofs.Leaving.{block_leaves, last_decides, none_leaves, stays}
use Rattle.xs_cstmt.proofs.stmts.+leaves.Goals as goal

pub returns-in-None : goal.returns-in-None
returns-in-None t c =
    block_leaves c.args.s.now c.in-Block.field-0 c.in-Block.body c.deref.result.now false c.in-Block.is c.deref.ensures.value
    (none_leaves c.deref.result.now c.in-None.ensures.value)

pub returns-in-Some : goal.returns-in-Some
returns-in-Some t c =
    block_leaves c.args.s.now c.in-Block.field-0 c.in-Block.body c.deref.result.now c.leaves.result c.in-Block.is c.deref.ensures.value
    (c.leaves.ensures ∙ last_decides false c.deref.result.now c.in-Some.last.now c.in-Some.ensures.value)

pub returns-in_default : goal.returns-in_default
returns-in_default t c =
    sym (stays c.args.s.now c.in_default.not-Block c.in_default.not-Break c.in_default.not-Return c.in_default.not-Effect c.in_default.not-Perl)
