use Rattle.std.proofs.Common.{◌≡◌, ◌&&◌, ◌∙◌, ap, sym}
use Rattle.xs_cinput.specs.TypeReader.{is_joined_by, joins, join_table, sees_join}
use Rattle.xs_cinput.proofs.FirstTokens.{head_by}
use Rattle.xs_cinput.proofs.types.sees_join.Goals as goal

pub returns-then-is_word_kind : goal.returns-then-is_word_kind
unfolding sees_join join_table
returns-then-is_word_kind c =
    c.is_joined_by.ensures
    ∙ ap (is_joined_by join_table c.args.name.now) c.as_slice.ensures
    ∙ ap (λ b. b && is_joined_by join_table c.args.name.now c.in-Some.first.now.text) c.if-is_word_kind.ensures
    ∙ sym (head_by (joins c.args.name.now) c.args.cursor.now.rest c.in-Some.first.now c.in-Some.ensures)
