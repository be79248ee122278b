use Rattle.std.proofs.Common.{◌∙◌}
use Rattle.xs_cexpr.proofs.PlaceViews.{target_is_expression}
use Rattle.xs_cexpr.proofs.places.placed_target.Goals as goal

pub returns-in_ok-new-in_default : goal.returns-in_ok-new-in_default
returns-in_ok-new-in_default c =
    rw c.into_inner.ensures at
    (target_is_expression c.args.line c.args.height c.in_ok-new-in_default.field-0 c.into_inner.result c.in_ok-new-in_default.ensures.ok c.in_default.not-Name)
