-- The typed code of a module's glue: what its glue text is once names are slots and each node has
-- its type, without the places that it tells.
use Rattle.xs_perlapi.specs.declared.row.Row.TheVariants.{Entry, SvNewMortal, SvSetIv, XsReturn, XsReturnYes}
use Rattle.std.specs.Prelude.{ℕ, ◌+◌, false, List, [], ◌∷◌, ◌++◌, fold, length, map, codes}
use Rattle.xs_iface.specs.Iface.{underscored}
use Rattle.xs_iface.specs.declared.xsub.Module.{Module}
use Rattle.xs_iface.specs.declared.xsub.Param.{Param}
use Rattle.xs_iface.specs.declared.xsub.Term.{Term}
use Rattle.xs_iface.specs.declared.xsub.Term.TheVariants as term
use Rattle.xs_iface.specs.declared.xsub.Xsub.{Xsub}
use Rattle.xs_ctree.specs.declared.node.Sort.TheVariants.{Boot, XsFunction}
use Rattle.xs_ctree.specs.declared.value_type.Slot.{Slot}
use Rattle.xs_ctree.specs.declared.value_type.ValueType.TheVariants as type_of
use Rattle.xs_ctree.specs.TypedTree.{Expr, Variable, ItemCount, Cast, Binary, Usage, Stmt, Declare, If, Quit, Register, nothing, Function, Code}
use Rattle.xs_sim.specs.TreeBuilders.{block_of, row_done, row_quits, int_literal, assign_int, assign_item, assign_scalar, slot_of, row_of, item_as_int}
use Rattle.xs_stub.specs.Stub.{joined_names}
use Rattle.xs_values.specs.declared.kind.Kind.TheVariants.{I32, I64}
use Rattle.xs_values.specs.declared.operator.Op.TheVariants.{Add, NotEqual}

-- ---- the glue function of an XSUB: its parameters have the first slots in their order, then
-- RETVAL and RETVALSV

abbrev pub retval : Xsub → ℕ
retval x = length x.params

abbrev pub retval_scalar : Xsub → ℕ
retval_scalar x = length x.params + 1

-- the argument test
abbrev pub argument_test : Xsub → Stmt
argument_test x =
    If 0 (Binary NotEqual ItemCount (int_literal (length x.params)))
    (Quit 0 (Usage 0 (joined_names x.params))) nothing

-- the slots of the parameters, counted from one, and a declaration of each
abbrev pub param_slots : ℕ → List Param → List Slot
param_slots slot [] = []
param_slots slot (p ∷ ps) = slot_of slot (type_of.Number I32) ∷ param_slots (slot + 1) ps

abbrev pub declarations : ℕ → List Param → List Stmt
declarations slot [] = []
declarations slot (p ∷ ps) = Declare 0 slot ∷ declarations (slot + 1) ps

-- all slots of an XSUB
abbrev pub slots_of : Xsub → List Slot
slots_of x =
    param_slots 0 x.params
    ++ slot_of (retval x) (type_of.Number I32) ∷ slot_of (retval_scalar x) type_of.Scalar ∷ []

-- `(int)SvIV(ST(place))` is assigned to the parameter's variable
abbrev pub input : ℕ → Stmt
input place = assign_int place (item_as_int place)

abbrev pub inputs : ℕ → List Param → List Stmt
inputs place [] = []
inputs place (p ∷ ps) = input place ∷ inputs (place + 1) ps

abbrev pub term_tree : Term → Expr
term_tree (term.Parameter at) = Variable at
term_tree (term.Literal value) = int_literal value

-- a sum, which C groups from the left
abbrev pub sum_on : Expr → List Term → Expr
sum_on = fold (λ so_far t. Binary Add so_far (term_tree t))

abbrev pub sum_tree : List Term → Expr
sum_tree [] = int_literal 0
sum_tree (t ∷ ts) = sum_on (term_tree t) ts

-- RETVAL becomes a new temporary, which is the one item that is returned.
abbrev pub end : Xsub → List Stmt
end x =
    assign_scalar (retval_scalar x) (row_of SvNewMortal [])
    ∷ row_done SvSetIv
    (Variable (retval_scalar x) ∷ Cast (type_of.Number I64) (Variable (retval x)) ∷ [])
    ∷ assign_item (int_literal 0) (Variable (retval_scalar x))
    ∷ row_quits XsReturn (int_literal 1 ∷ [])
    ∷ []

abbrev pub work : Xsub → List Stmt
work x = declarations 0 x.params ++ Declare 0 (retval x) ∷ Declare 0 (retval_scalar x)
    ∷ inputs 0 x.params ++ assign_int (retval x) (sum_tree x.sum) ∷ end x

abbrev pub xsub_body : Xsub → Stmt
xsub_body x =
    block_of [] (row_done Entry [] ∷ argument_test x ∷ block_of (slots_of x) (work x) ∷ [])

abbrev pub xsub_function : Xsub → Function
xsub_function x =
    record { name = x.glue; sort = XsFunction; slots = slots_of x; body = xsub_body x }

-- ---- the boot function: it registers the functions of the XSUBs, which come in order, under their
-- full names

abbrev pub registrations : ℕ → List Xsub → List Stmt
registrations function [] = row_quits XsReturnYes [] ∷ []
registrations function (x ∷ xs) =
    Register x.full function false ∷ registrations (function + 1) xs

abbrev pub boot_body : List Xsub → Stmt
boot_body xs = block_of [] (row_done Entry [] ∷ registrations 0 xs)

abbrev pub boot_function : Module → Function
boot_function m = record {
  name = codes "boot_" ++ underscored m.boot;
  sort = Boot;
  slots = [];
  body = boot_body m.xsubs;
}

abbrev pub functions_on : Function → List Xsub → List Function
functions_on last xs = map xsub_function xs ++ last ∷ []

-- the glue of a module: a function for each XSUB, in order, and the boot function
unfoldable pub glue_code : Module → Code
glue_code m = record { records = []; functions = functions_on (boot_function m) m.xsubs }
