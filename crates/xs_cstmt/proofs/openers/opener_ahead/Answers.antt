use Rattle.std.proofs.Common.{◌∙◌, sym}
use Rattle.xs_cstmt.specs.StatementReader.{openers}
use Rattle.xs_cstmt.proofs.FirstWord.{opener_listed}
use Rattle.xs_cstmt.proofs.openers.opener_ahead.Goals as goal

pub returns-then-is_word_kind : goal.returns-then-is_word_kind
unfolding openers
returns-then-is_word_kind c =
    c.listed.ensures
    ∙ sym (opener_listed c.args.cursor.now c.in_ok-first.first.now c.as_slice.result.now c.in_ok-first.ensures
    (sym c.is_word_kind.ensures ∙ c.if-is_word_kind.true) c.as_slice.ensures)
