use Rattle.std.proofs.Common.{◌≡◌, ◌+◌, ◌-◌, ◌*◌}
use Rattle.xs_cstmt.specs.StatementReader as spec
use Rattle.xs_cstmt.specs.StatementViews.{group_trees, stmt_trees}
use Rattle.xs_cstmt.proofs.stmts.+stmt.Given as goal

abbrev pub decreases-stmt : goal.decreases-stmt
decreases-stmt l = 8 * l.room

abbrev pub decreases-part : goal.decreases-part
decreases-part l = 8 * l.below + 1

abbrev pub decreases-parts : goal.decreases-parts
decreases-parts l = 8 * l.below + 2

abbrev pub decreases-block : goal.decreases-block
decreases-block l = 8 * l.below + 3

abbrev pub decreases-with_else : goal.decreases-with_else
decreases-with_else l = 8 * l.below + 1

abbrev pub decreases-else_branch : goal.decreases-else_branch
decreases-else_branch l = 8 * l.below + 2

abbrev pub decreases-an_if : goal.decreases-an_if
decreases-an_if l = 8 * l.below + 4

abbrev pub decreases-a_while : goal.decreases-a_while
decreases-a_while l = 8 * l.below + 4

abbrev pub decreases-a_do : goal.decreases-a_do
decreases-a_do l = 8 * l.below + 4

abbrev pub decreases-a_for : goal.decreases-a_for
decreases-a_for l = 8 * l.below + 4

abbrev pub decreases-group_body : goal.decreases-group_body
decreases-group_body l = 8 * l.below + 1

abbrev pub decreases-group : goal.decreases-group
decreases-group l = 8 * l.below + 2

abbrev pub decreases-groups : goal.decreases-groups
decreases-groups l = 8 * l.below + 3

abbrev pub decreases-a_switch : goal.decreases-a_switch
decreases-a_switch l = 8 * l.below + 4

abbrev pub decreases-opened_by : goal.decreases-opened_by
decreases-opened_by l = 8 * l.below + 5

abbrev pub invariant-parts-loop-turn : goal.invariant-parts-loop-turn
invariant-parts-loop-turn l = spec.parts (spec.stmt l.below) l.fn.cursor
    ≡ spec.parts_from (spec.stmt l.below) (l._turn-end - l._turn) (stmt_trees l.all) l.cursor

abbrev pub invariant-group_body-loop-turn : goal.invariant-group_body-loop-turn
invariant-group_body-loop-turn l = spec.group_body (spec.stmt l.below) l.fn.cursor
    ≡ spec.body_from (spec.stmt l.below) (l._turn-end - l._turn) (stmt_trees l.all) l.cursor

abbrev pub invariant-groups-loop-turn : goal.invariant-groups-loop-turn
invariant-groups-loop-turn l = spec.groups (spec.stmt l.below) l.fn.cursor
    ≡ spec.groups_from (spec.stmt l.below) (l._turn-end - l._turn) l.may (group_trees l.all) l.cursor
