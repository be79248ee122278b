use Rattle.std.proofs.Common.{◌≡◌, map, take}
use Rattle.xs_iface.specs.Paragraph.{term_of}
use Rattle.xs_iface.proofs.terms.read_terms.Given as goal

-- the terms so far
abbrev pub invariant-loop-word : goal.invariant-loop-word
invariant-loop-word l = l.terms ≡ map (term_of l.params) (take l.word-index l.words)
