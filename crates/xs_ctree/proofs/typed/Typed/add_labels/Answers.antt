use Rattle.std.proofs.Common.{refl, arith}
use Rattle.xs_ctree.proofs.Additions.{added_labels, labels_fit}
use Rattle.xs_ctree.proofs.typed.Typed.add_labels.Goals as goal

pub invariant_of-self-clause-fits : goal.invariant_of-self-clause-fits
invariant_of-self-clause-fits c =
    rw c.extend_from_slice.ensures.items (labels_fit _ _ _ _ _ _ _ _ c.args.self.now.fits _ c.args.labels.now)

pub returns : goal.returns
returns c =
    added_labels c.args.self.now _ refl refl refl refl c.args.labels.now c.in_ok-range.range
    (omega (arith, c.in_ok-range.ensures.start, c.len.ensures, c.args.self.now.labels.ok.0)) c.in_ok-range.ensures.count refl refl
    c.in_ok-extend_from_slice.ensures.items refl refl
