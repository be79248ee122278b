-- Words with a divider between them.
use Rattle.std.specs.Prelude.{ℕ, zero, suc, length, List, [], ◌∷◌, Option, Some, None}
use Rattle.xs_base.specs.ByteRuns.{after_run, front_of}
use Rattle.xs_base.specs.Scanning.{strip_prefix}
use Rattle.xs_base.specs.declared.byte_runs.ByteClass.TheVariants.{Word}

-- words with a divider between them, and what stands after the last
abbrev pub Chain : Type 0
Chain = List (List ℕ) × List ℕ

-- a word in front of the chain that the divider leads to
abbrev pub linked : (List ℕ → Chain) → List ℕ → List ℕ → Option (List ℕ) → Chain
linked more word rest None = (word ∷ [], rest)
linked more word rest (Some next) = (word ∷ (more next).0, (more next).1)

-- a chain of at most so many words
abbrev pub chain_within : ℕ → List ℕ → List ℕ → Chain
chain_within zero divider text = ([], text)
chain_within (suc n) divider text =
    linked (chain_within n divider) (front_of Word text) (after_run Word text)
    (strip_prefix divider (after_run Word text))

-- The words in front of a text, as far as the divider stands between them; there are no more than
-- bytes.
unfoldable pub chain_of : List ℕ → List ℕ → Chain
chain_of divider text = chain_within (length text) divider text
