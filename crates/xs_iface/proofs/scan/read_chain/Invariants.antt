use Rattle.std.proofs.Common.{◌≡◌, ◌-◌, length}
use Rattle.xs_iface.specs.Scan.{chain_within}
use Rattle.xs_iface.proofs.Chains.{after_words}
use Rattle.xs_iface.proofs.scan.read_chain.Given as goal

-- the words so far, and the chain that is left
abbrev pub invariant-loop-turn : goal.invariant-loop-turn
invariant-loop-turn l = chain_within (length l.fn.text) l.divider l.fn.text ≡ after_words l.words (chain_within (l._turn-end - l._turn) l.divider l.rest)
