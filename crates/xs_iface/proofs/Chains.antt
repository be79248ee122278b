-- Words with a divider between them.
use Rattle.std.proofs.Common.{◌≡◌, ℕ, suc, List, [], ◌∷◌, ◌++◌, Some, sym, ap, ◌∙◌, append_assoc}
use Rattle.xs_base.specs.declared.byte_runs.ByteClass.TheVariants.{Word}
use Rattle.xs_base.specs.Scanning.{strip_prefix}
use Rattle.xs_base.specs.ByteRuns.{after_run, front_of}
use Rattle.xs_iface.specs.Scan.{Chain, chain_within, linked}

-- a chain with words in front
abbrev pub after_words : List (List ℕ) → Chain → Chain
after_words words chain = (words ++ chain.0, chain.1)

-- a chain of one word more, where the divider stands after it
pub one_more : (n m : ℕ) (divider text part after next : List ℕ) (words more : List (List ℕ)) → m ≡ suc n → part ≡ front_of Word text
    → after ≡ after_run Word text
    → strip_prefix divider after ≡ Some next → more ≡ words ++ part ∷ []
    → after_words words (chain_within m divider text) ≡ after_words more (chain_within n divider next)
one_more n m divider text part after next words more is_more is_part is_after found all =
    ap (λ k. after_words words (chain_within k divider text)) is_more
    ∙ ap (λ o. after_words words (linked (chain_within n divider) (front_of Word text) (after_run Word text) o)) (ap (strip_prefix divider) (sym is_after)
    ∙ found)
    ∙ ap (λ p. after_words words (linked (chain_within n divider) p (after_run Word text) (Some next))) (sym is_part)
    ∙ ap (λ (ws : List (List ℕ)). (ws, (chain_within n divider next).1)) (sym (append_assoc words (part ∷ []) (chain_within n divider next).0))
    ∙ ap (λ ws. after_words ws (chain_within n divider next)) (sym all)
