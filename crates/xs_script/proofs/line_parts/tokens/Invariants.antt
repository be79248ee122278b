use Rattle.std.proofs.Common.{◌≡◌, ◌≤◌, length}
use Rattle.xs_base.specs.Reading.{with_front}
use Rattle.xs_script.specs.Lex.{tokens_from}
use Rattle.xs_script.proofs.line_parts.tokens.Given as goal

abbrev pub invariant-loop-rest : goal.invariant-loop-rest
invariant-loop-rest l = record {
  read : tokens_from 0 l.fn.line ≡ with_front l.out (tokens_from 0 l.rest);
  within : length l.rest ≤ length l.line;
}

abbrev pub decreases-loop-rest : goal.decreases-loop-rest
decreases-loop-rest l = length l.rest
