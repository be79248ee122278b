use Rattle.std.proofs.Common.{refl, arith}
use Rattle.xs_ctree.proofs.Additions.{added_parts, parts_fit}
use Rattle.xs_ctree.proofs.typed.Typed.add_parts.Goals as goal

pub invariant_of-self-clause-fits : goal.invariant_of-self-clause-fits
invariant_of-self-clause-fits c =
    rw c.extend_from_slice.ensures.items (parts_fit _ _ _ _ _ _ _ _ c.args.self.now.fits _ c.args.parts.now)

pub returns : goal.returns
returns c =
    added_parts c.args.self.now _ refl refl refl refl c.args.parts.now c.in_ok-range.range
    (omega (arith, c.in_ok-range.ensures.start, c.len.ensures, c.args.self.now.parts.ok.0)) c.in_ok-range.ensures.count
    c.in_ok-extend_from_slice.ensures.items refl refl refl refl
