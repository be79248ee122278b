use Rattle.std.proofs.Common.{◌≡◌, ◌++◌, codes, drop}
use Rattle.std.specs.List.{flat_map}
use Rattle.xs_stub.specs.Stub.{term_text}
use Rattle.xs_stub.proofs.writer.write_more_terms.Given as goal

-- the text so far, and that of what is left
abbrev pub invariant-loop-term : goal.invariant-loop-term
invariant-loop-term l = l.text ++ flat_map (λ term. codes " + " ++ term_text l.params term) (drop l.term-index l.terms)
    ≡ flat_map (λ term. codes " + " ++ term_text l.params term) l.terms
