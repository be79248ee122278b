-- The rows of the API on counted scalars and Perl's stacks. Each is a function of its operands.
use Rattle.std.specs.Prelude.{ℕ, suc, ◌+◌, ◌-◌, ℤ, pos, negsuc, if◌then◌else◌, nat_le, nat_lt, nat_eq, List, [], ◌∷◌, ◌++◌, length, take, drop, Option, Some, None, slice_get, slice_set, codes}
use Rattle.xs_values.specs.declared.kind.Kind.TheVariants.{I64}
use Rattle.xs_values.specs.declared.plain.Plain.{Plain}
use Rattle.xs_values.specs.declared.plain.Plain.TheVariants as plain
use Rattle.xs_values.specs.declared.trap.Trap.{Trap}
use Rattle.xs_values.specs.declared.trap.Trap.TheVariants as trap
use Rattle.xs_values.specs.Numbers.{Number, wrapped_value}
use Rattle.xs_values.specs.Plains.{iv_of}
use Rattle.xs_api.specs.declared.api.Abrupt.TheVariants.{Returns, Croaks, Traps}
use Rattle.xs_api.specs.declared.api.Frame.{Frame}
use Rattle.xs_api.specs.declared.api.Operand.{Operand}
use Rattle.xs_api.specs.declared.api.Operand.TheVariants.{Num, Scalar, Void}
use Rattle.xs_api.specs.declared.heap.Cell.{Cell}
use Rattle.xs_api.specs.Limits.{most_items}
use Rattle.xs_api.specs.Effects.{Effect, Gives, Ends}
use Rattle.xs_api.specs.World.{World, cell_at, cut_args, gone, is_read_only, may_make, with_cells, with_new, with_temps, with_value}

abbrev pub trapped : Trap → Frame → World → Effect World
trapped t f w = Ends (Traps t) f w

-- ---- scalars

abbrev pub on_cell : Option Cell → ℕ → Frame → World → (ℕ → Cell → Effect World) → Effect World
on_cell None n f w go = trapped (gone n w.cells) f w
on_cell (Some c) n f w go = go n c

-- a scalar that a row needs: NULL traps Null, and one that is gone traps Gone
abbrev pub needs : Option ℕ → Frame → World → (ℕ → Cell → Effect World) → Effect World
needs None f w go = trapped trap.Null f w
needs (Some n) f w go = on_cell (cell_at n w.cells) n f w go

abbrev pub sv_iv : Option ℕ → Frame → World → Effect World
sv_iv s f w = needs s f w (λ n c. Gives (Num (record { kind = I64; value = iv_of c.value })) f w)

-- the world with a new scalar, which is a temporary
abbrev pub with_mortal : Plain → World → World
with_mortal p w = with_temps (length w.cells ∷ w.temps) (with_cells (with_new p w.cells) w)

-- a new scalar with a value that is a temporary
abbrev pub new_mortal : Plain → Frame → World → Effect World
new_mortal p f w =
    if may_make w.cells then Gives (Scalar (Some (length w.cells))) f (with_mortal p w)
    else trapped trap.Large f w

abbrev pub read_only_croak : List ℕ
read_only_croak = codes "Modification of a read-only value attempted"

abbrev pub sv_setiv : Option ℕ → Number → Frame → World → Effect World
sv_setiv s v f w =
    needs s f w (λ n c. if is_read_only n then Ends (Croaks read_only_croak) f w
    else Gives Void f
    (with_cells (with_value n c (plain.Int (wrapped_value I64 v.value)) w.cells) w))

-- ---- the argument list

abbrev pub with_args : List ℕ → World → World
with_args args w = record w { args = args }

abbrev pub read_item_at : Option ℕ → Frame → World → Effect World
read_item_at None f w = trapped trap.Bounds f w
read_item_at (Some n) f w = Gives (Scalar (Some n)) f w

-- the item at an index counted from the base
abbrev pub st_read : ℤ → Frame → World → Effect World
st_read (pos i) f w = read_item_at (slice_get w.args (f.base + i)) f w
st_read (negsuc i) f w = trapped trap.Bounds f w

-- Writes an item at an index of the list. One past the list appends, and further is out of bounds.
abbrev pub put_item_at : ℕ → ℕ → Frame → World → (World → Effect World) → Effect World
put_item_at at n f w go =
    if nat_lt at (length w.args) then go (with_args (slice_set w.args at n) w)
    else if nat_eq at (length w.args)
    then if nat_lt at most_items then go (with_args (w.args ++ n ∷ []) w)
    else trapped trap.Large f w
    else trapped trap.Bounds f w

abbrev pub st_write : ℤ → ℕ → Frame → World → Effect World
st_write (pos i) n f w = put_item_at (f.base + i) n f w (λ w1. Gives (Scalar (Some n)) f w1)
st_write (negsuc i) n f w = trapped trap.Bounds f w

abbrev pub st_set : Option ℕ → ℤ → Frame → World → Effect World
st_set s i f w = needs s f w (λ n c. st_write i n f w)

-- ---- the entry and the end of an XS function

abbrev pub pop_mark : List ℕ → Frame → World → Effect World
pop_mark [] f w = trapped trap.Scope f w
pop_mark (mark ∷ marks) f w =
    Gives Void (record f { base = mark; items = w.top - mark }) (record w { marks = marks })

-- returns what stands from the base up to a top
abbrev pub returned_to : ℕ → Frame → World → Effect World
returned_to top f w = Ends (Returns (take (top - f.base) (drop f.base w.args))) f (cut_args top w)

abbrev pub xsreturn : ℤ → Frame → World → Effect World
xsreturn (pos n) f w =
    if nat_le (f.base + n) (length w.args) then returned_to (f.base + n) f w
    else trapped trap.Bounds f w
xsreturn (negsuc n) f w = trapped trap.Bounds f w

-- puts one item at the base and returns it
abbrev pub return_one : ℕ → Frame → World → Effect World
return_one n f w = put_item_at f.base n f w (λ w1. returned_to (suc f.base) f w1)

-- the name of yes
abbrev pub yes : ℕ
yes = 2

abbrev pub usage_text : List ℕ → List ℕ → List ℕ
usage_text called text = codes "Usage: " ++ called ++ codes "(" ++ text ++ codes ")"

abbrev pub register : List ℕ → ℕ → Frame → World → Effect World
register name function f w =
    Gives Void f (record w { names = record { name = name; function = function } ∷ w.names })

-- the croak of a call with the wrong number of arguments
abbrev pub croak_usage : List ℕ → Frame → World → Effect World
croak_usage text f w = Ends (Croaks (usage_text f.called text)) f w
