use Rattle.std.proofs.Common.{◌≡◌, ◌+◌, ◌-◌, ◌*◌, ◌≤◌}
use Rattle.xs_cexpr.specs.ExpressionReader as spec
use Rattle.xs_cexpr.specs.ExpressionViews.{found, found_all}
use Rattle.xs_cexpr.proofs.exprs.+expr.Given as goal

abbrev pub decreases-expr : goal.decreases-expr
decreases-expr l = 16 * l.room

abbrev pub decreases-place : goal.decreases-place
decreases-place l = 16 * l.room

abbrev pub decreases-named_place : goal.decreases-named_place
decreases-named_place l = 16 * l.below + 1

abbrev pub decreases-list : goal.decreases-list
decreases-list l = 16 * l.below + 1

abbrev pub decreases-arguments : goal.decreases-arguments
decreases-arguments l = 16 * l.below + 2

abbrev pub decreases-named : goal.decreases-named
decreases-named l = 16 * l.below + 3

abbrev pub decreases-int2ptr : goal.decreases-int2ptr
decreases-int2ptr l = 16 * l.below + 1

abbrev pub decreases-primary : goal.decreases-primary
decreases-primary l = 16 * l.below + 4

abbrev pub decreases-index : goal.decreases-index
decreases-index l = 16 * l.below + 1

abbrev pub decreases-suffixes : goal.decreases-suffixes
decreases-suffixes l = 16 * l.below + 2

abbrev pub decreases-cast : goal.decreases-cast
decreases-cast l = 16 * l.below + 1

abbrev pub decreases-opened : goal.decreases-opened
decreases-opened l = 16 * l.below + 3

abbrev pub decreases-operand : goal.decreases-operand
decreases-operand l = 16 * l.below + 5

abbrev pub decreases-prefixed : goal.decreases-prefixed
decreases-prefixed l = 16 * l.below + 1

abbrev pub decreases-dereferenced : goal.decreases-dereferenced
decreases-dereferenced l = 16 * l.below + 1

abbrev pub decreases-stepped : goal.decreases-stepped
decreases-stepped l = 16 * l.below + 1

abbrev pub decreases-unary : goal.decreases-unary
decreases-unary l = 16 * l.below + 6

abbrev pub decreases-climb : goal.decreases-climb
decreases-climb l = 16 * l.below + 1

abbrev pub decreases-binary : goal.decreases-binary
decreases-binary l = 16 * l.below + 7

abbrev pub decreases-other_choice : goal.decreases-other_choice
decreases-other_choice l = 16 * l.below + 1

abbrev pub decreases-choose : goal.decreases-choose
decreases-choose l = 16 * l.below + 2

abbrev pub decreases-choice : goal.decreases-choice
decreases-choice l = 16 * l.below + 8

abbrev pub decreases-assign : goal.decreases-assign
decreases-assign l = 16 * l.below + 1

abbrev pub decreases-whole : goal.decreases-whole
decreases-whole l = 16 * l.below + 9

abbrev pub invariant-climb-loop-turn : goal.invariant-climb-loop-turn
invariant-climb-loop-turn l = record {
  read : spec.climb (spec.expr l.below) (spec.place_of l.below) l.below l.tight l.line l.below (found l.fn.left) l.fn.cursor
      ≡ spec.climb (spec.expr l.below) (spec.place_of l.below) l.below l.tight l.line (l.below - l._turn) (found l.left) l.cursor;
  within : l.left.height ≤ l.below + 1;
}

abbrev pub invariant-suffixes-loop-turn : goal.invariant-suffixes-loop-turn
invariant-suffixes-loop-turn l = record {
  read : spec.suffixes (spec.expr l.below) (spec.place_of l.below) l.below l.line l.below (found l.fn.left) l.fn.cursor
      ≡ spec.suffixes (spec.expr l.below) (spec.place_of l.below) l.below l.line (l.below - l._turn) (found l.left) l.cursor;
  within : l.left.height ≤ l.below + 1;
}

abbrev pub invariant-list-loop-turn : goal.invariant-list-loop-turn
invariant-list-loop-turn l = record {
  read : spec.list (spec.expr l.below) l.fn.cursor ≡ spec.list_from (spec.expr l.below) (l._turn-end - l._turn) (found_all l.all) l.cursor;
  within : l.all.height ≤ l.below;
}
