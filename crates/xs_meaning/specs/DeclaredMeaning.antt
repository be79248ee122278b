-- The declared meaning: what each command of a script does, by the interface alone. No glue text is
-- read here, nothing is counted, and there are no temporaries.
use Rattle.std.specs.Prelude.{ℤ, pos, ℕ, ◌+◌, ◌==◌, nat_le, Bool, List, [], ◌∷◌, ◌++◌, map, length, slice_index_or, codes, Option, None, Some, Result, Ok, Err, if◌then◌else◌}
use Rattle.std.specs.List.{find}
use Rattle.std.specs.Str.{bytes_eq}
use Rattle.xs_meaning.specs.declared.call_command.CallCommand.{CallCommand}
use Rattle.xs_meaning.specs.Transcript.{CallEnd, Returned, Croaked, Trapped, Report, call_text, end_report, in_front, live_line, own_trap_text, script_report}
use Rattle.xs_iface.specs.declared.xsub.Module.{Module}
use Rattle.xs_iface.specs.declared.xsub.Param.{Param}
use Rattle.xs_iface.specs.declared.xsub.Term.{Term}
use Rattle.xs_iface.specs.declared.xsub.Term.TheVariants.{Literal, Parameter}
use Rattle.xs_iface.specs.declared.xsub.Xsub.{Xsub}
use Rattle.xs_script.specs.ValueText.{value_text_of}
use Rattle.xs_values.specs.declared.kind.Kind.TheVariants.{I32, I64}
use Rattle.xs_values.specs.declared.operator.Op.TheVariants.{Add}
use Rattle.xs_values.specs.declared.plain.Plain.{Plain}
use Rattle.xs_values.specs.declared.plain.Plain.TheVariants.{Undef, Int, Text}
use Rattle.xs_values.specs.declared.trap.Trap.{Trap}
use Rattle.xs_values.specs.declared.trap.Trap.TheVariants.{Large}
use Rattle.xs_values.specs.Numbers.{Number, calculated, wrapped, wrapped_value}
use Rattle.xs_values.specs.Plains.{iv_of}

-- The values of all scalars that were made, by their names. Nothing is ever removed, and the next
-- name is the length. The name 0 is given to none; 1 to 4 are undef, yes, no and the scalar of $@.
abbrev pub Store : Type 0
Store = List Plain

abbrev pub new_store : Store
new_store = Undef ∷ Undef ∷ Int (pos 1) ∷ Text [] ∷ Text [] ∷ []

abbrev pub value_at : Store → ℕ → Plain
value_at store name = slice_index_or store name Undef

-- A call has up to so many arguments.
abbrev pub most_arguments : ℕ
most_arguments = 1000000

-- The names of scalars end here: a run may make 4,000,000 scalars beside the names 0 to 4.
abbrev pub most_scalars : ℕ
most_scalars = 4000005

-- whether a run may make so many scalars more
abbrev pub may_make : ℕ → Store → Bool
may_make n store = nat_le (length store + n) most_scalars

-- so many names from this one on
abbrev pub names_from : ℕ → List ℤ → List ℕ
names_from n [] = []
names_from n (z ∷ zs) = n ∷ names_from (n + 1) zs

-- ---- the call of an XSUB, step by step

-- The usage names the parameters in the order of the list, with a comma and a blank between two.
abbrev pub further_names : List Param → List ℕ
further_names [] = []
further_names (p ∷ ps) = codes ", " ++ p.name ++ further_names ps

abbrev pub usage_names : List Param → List ℕ
usage_names [] = []
usage_names (p ∷ ps) = p.name ++ further_names ps

-- 1. The argument test: the croak has the name under which the call was made, and the parameters.
abbrev pub usage_croak : List ℕ → Xsub → List ℕ
usage_croak called x = codes "Usage: " ++ called ++ codes "(" ++ usage_names x.params ++ codes ")"

-- 4. Each parameter of type `int` gets the IV of its argument, converted.
abbrev pub input_of : Plain → Number
input_of p = wrapped I32 (iv_of p)

abbrev pub inputs_of : Store → List ℕ → List Number
inputs_of store args = map (λ name. input_of (value_at store name)) args

-- 6. The author's code gives RETVAL the sum of its terms, from left to right. A sum that an `int`
-- does not hold traps Overflow.
abbrev pub zero_int : Number
zero_int = record { kind = I32; value = pos 0 }

abbrev pub term_value : List Number → Term → Number
term_value inputs (Parameter at) = slice_index_or inputs at zero_int
term_value inputs (Literal value) = record { kind = I32; value = pos value }

abbrev pub sum_on : List Number → Result Number Trap → List Term → Result Number Trap
sum_on inputs (Err trap) terms = Err trap
sum_on inputs (Ok so_far) [] = Ok so_far
sum_on inputs (Ok so_far) (t ∷ ts) = sum_on inputs (calculated Add so_far (term_value inputs t)) ts

abbrev pub sum_of : List Number → List Term → Result Number Trap
sum_of inputs [] = Ok zero_int
sum_of inputs (t ∷ ts) = sum_on inputs (Ok (term_value inputs t)) ts

-- how a call ends, and the store after it
pub record Ended : Type 0 where
  pub how : CallEnd
  pub store : Store

-- 8. and 10. RETVAL becomes a new scalar that holds the number as an IV, and this is the one item.
abbrev pub result_of : Store → Result Number Trap → Ended
result_of store (Err trap) = record { how = Trapped trap; store = store }
result_of store (Ok number) =
    if may_make 1 store then record {
      how = Returned (length store ∷ []);
      store = store ++ Int (wrapped_value I64 number.value) ∷ [];
    }
    else record { how = Trapped Large; store = store }

abbrev pub xsub_ended : List ℕ → Xsub → Store → List ℕ → Ended
xsub_ended called x store args =
    if length args == length x.params then result_of store (sum_of (inputs_of store args) x.sum)
    else record { how = Croaked (usage_croak called x); store = store }

-- the XSUB of a name
abbrev pub xsub_named : List ℕ → List Xsub → Option Xsub
xsub_named name xs = find (λ (x : Xsub). bytes_eq x.full name) xs

-- A name that no XSUB has croaks.
abbrev pub undefined_croak : List ℕ → List ℕ
undefined_croak called = codes "Undefined subroutine &" ++ called ++ codes " called"

abbrev pub call_ended : List ℕ → Option Xsub → Store → List ℕ → Ended
call_ended called None store args = record { how = Croaked (undefined_croak called); store = store }
call_ended called (Some x) store args = xsub_ended called x store args

-- a call with the scalars of its arguments, which the argument list holds up to a limit
abbrev pub called : Module → List ℕ → Store → List ℕ → Ended
called m name store args =
    if nat_le (length args) most_arguments then call_ended name (xsub_named name m.xsubs) store args
    else record { how = Trapped Large; store = store }

-- ---- the transcript

-- Nothing here refers to a scalar, and a script has no variables so far: no scalar lives between
-- the commands.
abbrev pub settled_report : Store → Report Store
settled_report store = record { text = live_line 0 0 0; next = Some store }

abbrev pub show_in : Store → ℕ → List ℕ
show_in store name = value_text_of (value_at store name)

abbrev pub report_at_end : CallCommand → List ℕ → CallEnd → Store → Report Store
report_at_end c args end store = end_report show_in settled_report (call_text c) args end store

abbrev pub ended_report : CallCommand → List ℕ → Ended → Report Store
ended_report c args e = report_at_end c args e.how e.store

-- A call: its arguments are made, each a new scalar, and then the XSUB is called.
abbrev pub call_report : Module → Store → CallCommand → Report Store
call_report m store c =
    if may_make (length c.args) store
    then ended_report c (names_from (length store) c.args)
    (called m c.sub (store ++ map Int c.args) (names_from (length store) c.args))
    else record { text = own_trap_text Large; next = None }

-- The boot registers the XSUBs and returns. Then each command is reported in order.
unfoldable pub declared_transcript : Module → List CallCommand → List ℕ
declared_transcript m cs =
    script_report (call_report m) (in_front (codes "boot returned\n") (settled_report new_store)) cs
