use Rattle.std.proofs.Common.{◌≡◌, None, drop}
use Rattle.xs_base.specs.Reading.{with_front}
use Rattle.xs_ctok.specs.Tokens.{tokens_from}
use Rattle.xs_ctok.proofs.lexing.tokens.Given as goal

abbrev pub invariant-loop-line : goal.invariant-loop-line
invariant-loop-line l = tokens_from l.file None l.src ≡ with_front l.out (tokens_from l.file l.opened (drop l.line-index l.src))
