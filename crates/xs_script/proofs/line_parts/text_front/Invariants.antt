use Rattle.std.proofs.Common.{◌≡◌, ◌+◌, [], drop}
use Rattle.xs_script.specs.FrontsFit.{IsHexState}
use Rattle.xs_script.specs.Lex.{text_front}
use Rattle.xs_script.specs.declared.line_parts.TextState.TheVariants as text
use Rattle.xs_script.proofs.line_parts.text_front.Given as goal

abbrev pub invariant-loop-b : goal.invariant-loop-b
invariant-loop-b l = record {
  all : text_front text.Plain [] 1 l.after ≡ text_front l.text_state l.out l.n (drop l.b-index l.after);
  so_far : l.n ≡ l.b-index + 1;
  digit : IsHexState l.text_state;
}
