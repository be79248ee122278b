use Rattle.std.proofs.Common.{List, ◌∙◌, ap}
use Rattle.xs_base.specs.Readers.{tail}
use Rattle.xs_cinput.proofs.KeptTokens.{settled_tail}
use Rattle.xs_cinput.proofs.kept.Kept.skip.Goals as goal
use Rattle.xs_ctok.specs.declared.token.Token.{Token}

pub returns-in-len1-up : goal.returns-in-len1-up
returns-in-len1-up c =
    c.settled-self-inside.ensures.same
    ∙ settled_tail c.self.inside.whole c.self.inside.rest.now c.self.invariant
    ∙ ap (λ (ts : List Token). tail ts) c.self.view_is
