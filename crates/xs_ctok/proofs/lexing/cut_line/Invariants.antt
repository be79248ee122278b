use Rattle.std.proofs.Common.{◌≡◌, ◌+◌, length}
use Rattle.xs_ctok.specs.Tokens.{cut_of, line_from, with_tokens}
use Rattle.xs_ctok.proofs.lexing.cut_line.Given as goal

abbrev pub invariant-loop-rest : goal.invariant-loop-rest
invariant-loop-rest l = record {
  read : with_tokens l.fn.out (cut_of l.file l.fn.opened l.line) ≡ with_tokens l.out (line_from l.file l.line.number l.mode 0 l.col l.rest);
  place : l.col + length l.rest ≡ length l.line.text + 1;
}

abbrev pub decreases-loop-rest : goal.decreases-loop-rest
decreases-loop-rest l = length l.rest
