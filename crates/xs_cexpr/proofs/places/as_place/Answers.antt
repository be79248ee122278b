use Rattle.xs_cexpr.proofs.PlaceViews.{other_is_expression}
use Rattle.xs_cexpr.proofs.places.as_place.Goals as goal

pub returns-in_default : goal.returns-in_default
returns-in_default c =
    other_is_expression c.args.n c.in_default.not-Name c.in_default.not-Call c.in_default.not-Arrow c.in_default.not-Deref
