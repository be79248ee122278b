-- The code of a file of nodes, and its functions by their numbers.
use Rattle.std.specs.Prelude.{◌≡◌, ℕ, List, [], length, map, Option, Some, None, slice_get}
use Rattle.std.specs.List.{position_from}
use Rattle.xs_ctree.specs.declared.node.Callable.{Callable}
use Rattle.xs_ctree.specs.declared.typed.Typed.{Typed}
use Rattle.xs_ctree.specs.declared.value_type.RecordType.{RecordType}
use Rattle.xs_ctree.specs.Arena.{Arena, arena, expr_at, function_of, stmt_at}
use Rattle.xs_ctree.specs.TypedTree.{Code, Expr, Function, Stmt, is_boot}

-- what the nodes of a file are read from
abbrev pub arena_of : Typed → Arena
arena_of t =
    arena t.texts.items t.parts.items t.slots.items t.labels.items t.groups.items t.exprs.items
    t.stmts.items

-- the expression and the statement at an index
abbrev pub expr_in : Typed → ℕ → Expr
expr_in t i = expr_at (arena_of t) i

abbrev pub stmt_in : Typed → ℕ → Stmt
stmt_in t i = stmt_at (arena_of t) i

abbrev pub functions_in : Typed → List Function
functions_in t = map (function_of (arena_of t)) t.functions.items

abbrev pub records_in : Typed → List RecordType
records_in t = t.records.items

-- the code that a file of nodes stands for
abbrev pub code_of : Typed → Code
code_of t = record { records = records_in t; functions = functions_in t }

-- the function of a number
abbrev pub function_at : Code → Option ℕ → Option Function
function_at code None = None
function_at code (Some f) = slice_get code.functions f

-- the number of the boot function
abbrev pub boot_from : ℕ → List Function → Option ℕ
boot_from n all = position_from (λ f. is_boot f.sort) n all

abbrev pub boot_at : Code → Option ℕ
boot_at code = boot_from 0 code.functions

-- the name of a function, which is empty where there is none
abbrev pub name_of : Option Function → List ℕ
name_of None = []
name_of (Some f) = f.name

-- the function of a number, as the machine enters it: how many slots it has, and its body
abbrev pub Callee : Typed → Option ℕ → Option Callable → Type 0
Callee t f None = function_at (code_of t) f ≡ None
Callee t f (Some e) = (g : Function) × (function_at (code_of t) f ≡ Some g)
    × ((length g.slots ≡ e.slots) × (g.body ≡ stmt_in t e.body))
