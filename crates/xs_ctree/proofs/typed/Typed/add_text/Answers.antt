use Rattle.std.proofs.Common.{refl, arith, ◌∷◌, []}
use Rattle.xs_ctree.proofs.Additions.{added_text, text_fits}
use Rattle.xs_ctree.proofs.typed.Typed.add_text.Goals as goal

pub invariant_of-self-clause-fits : goal.invariant_of-self-clause-fits
invariant_of-self-clause-fits c =
    rw c.push.ensures.items (text_fits _ _ _ _ _ _ _ _ c.args.self.now.fits _ (c.args.text ∷ []))

pub returns : goal.returns
returns c =
    added_text c.args.self.now _ refl refl refl refl c.args.text c.in_ok-index.index
    (omega (arith, c.in_ok-index.ensures, c.len.ensures, c.args.self.now.texts.ok.0)) refl refl refl refl c.in_ok-push.ensures.items
