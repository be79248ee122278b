use Rattle.std.proofs.Common.{◌≡◌, ℕ, ◌+◌, [], ◌∷◌, ◌++◌, reverse, MatchOption, List, length, Option, Some, None, ap, sym, ◌∙◌}
use Rattle.std.proofs.lemmas.List.{nil_from_length, reverse-append}
use Rattle.std.specs.Prelude.{option_to_list}
use Rattle.xs_api.proofs.stacks.pop_top.Goals as goal

-- the last item of the vector is the first of the reversed list
top : {T : Type 0} (r : Option T) (old new : List T) (m n : ℕ) → m ≡ length old → n ≡ length new → old ≡ new ++ option_to_list r
    → MatchOption r ((m ≡ 0) × (n ≡ 0)) (λ x. n + 1 ≡ m) → MatchOption r ((reverse old ≡ []) × (reverse new ≡ [])) (λ x. reverse old ≡ x ∷ reverse new)
top None old new m n p q e v = (ap reverse (nil_from_length old (sym p ∙ v.0)), ap reverse (nil_from_length new (sym q ∙ v.1)))
top (Some x) old new m n p q e v = ap reverse e ∙ reverse-append new (x ∷ [])

pub returns-clause-top : goal.returns-clause-top
returns-clause-top g c = top c.pop.result _ _ _ _ c.args.stack.now.ok.0 c.pop.new.self.ok.0 c.pop.ensures.items c.pop.ensures.cases
