use Rattle.std.proofs.Common.{◌∙◌, sym}
use Rattle.xs_cstmt.proofs.FormRows.{row_listed}
use Rattle.xs_cstmt.proofs.forms.row_in.Goals as goal

pub returns-then-is_word_kind : goal.returns-then-is_word_kind
returns-then-is_word_kind c =
    row_listed c.args.table.now c.args.t.now c.as_slice.result.now c.listed.result (sym c.is_word_kind.ensures ∙ c.if-is_word_kind.true)
    c.as_slice.ensures c.listed.ensures
