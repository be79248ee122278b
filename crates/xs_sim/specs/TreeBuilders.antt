-- Typed code that occurs again and again, written short and without places.
use Rattle.xs_perlapi.specs.declared.row.Row.TheVariants.{StRead, SvIv}
use Rattle.xs_perlapi.specs.declared.row.Row.{Row}
use Rattle.std.specs.Prelude.{pos, ℕ, List, [], ◌∷◌}
use Rattle.xs_ctree.specs.declared.value_type.Slot.{Slot}
use Rattle.xs_ctree.specs.declared.value_type.ValueType.{ValueType}
use Rattle.xs_ctree.specs.declared.value_type.ValueType.TheVariants.{Number, Scalar}
use Rattle.xs_ctree.specs.TypedTree.{Expr, Literal, Assign, Cast, Api, ToVariable, ToItem, Stmt, Block, Effect, Quit, exprs_of, stmts_of}
use Rattle.xs_values.specs.declared.kind.Kind.TheVariants.{I32}

-- a slot, and a block with the slots that it declares
abbrev pub slot_of : ℕ → ValueType → Slot
slot_of number t = record { number = number; of_type = t; line = 0 }

abbrev pub block_of : List Slot → List Stmt → Stmt
block_of slots statements = Block slots (stmts_of statements)

-- a row with its operands, the same as a statement, and the same where nothing is run after it
abbrev pub row_of : Row → List Expr → Expr
row_of r operands = Api 0 r (exprs_of operands)

abbrev pub row_done : Row → List Expr → Stmt
row_done r operands = Effect (row_of r operands)

abbrev pub row_quits : Row → List Expr → Stmt
row_quits r operands = Quit 0 (row_of r operands)

-- a literal of type `int`
abbrev pub int_literal : ℕ → Expr
int_literal n = Literal (record { kind = I32; value = pos n })

-- An assignment to a variable of type `int`, to one of type `SV *`, and to an item.
abbrev pub assign_int : ℕ → Expr → Stmt
assign_int slot e = Effect (Assign 0 (ToVariable slot (Number I32)) e)

abbrev pub assign_scalar : ℕ → Expr → Stmt
assign_scalar slot e = Effect (Assign 0 (ToVariable slot Scalar) e)

abbrev pub assign_item : Expr → Expr → Stmt
assign_item at e = Effect (Assign 0 (ToItem at) e)

-- `(int)SvIV(ST(place))`
abbrev pub item_as_int : ℕ → Expr
item_as_int place = Cast (Number I32) (row_of SvIv (row_of StRead (int_literal place ∷ []) ∷ []))
