-- The store after a declared call is the store before it, with scalars after.
use Rattle.std.proofs.Common.{◌≡◌, ℕ, Bool, true, false, List, [], ◌∷◌, Option, Some, None, refl, sym, append-nil}
use Rattle.std.specs.Prelude.{◌==◌, nat_le, length, if◌then◌else◌, Result, Ok, Err}
use Rattle.xs_iface.specs.declared.xsub.Module.{Module}
use Rattle.xs_iface.specs.declared.xsub.Xsub.{Xsub}
use Rattle.xs_meaning.specs.DeclaredMeaning.{Ended, Store, call_ended, called, inputs_of, may_make, most_arguments, result_of, sum_of, xsub_ended, xsub_named}
use Rattle.xs_meaning.specs.Laws.{IsGrown}
use Rattle.xs_values.specs.declared.plain.Plain.TheVariants.{Int}
use Rattle.xs_values.specs.declared.kind.Kind.TheVariants.{I64}
use Rattle.xs_values.specs.declared.trap.Trap.{Trap}
use Rattle.xs_values.specs.Numbers.{Number, wrapped_value}

same : (store : Store) → IsGrown store store
same store = record { more = []; is = sym (append-nil store) }

-- one of two ends, by a test
by_test : (b : Bool) (store : Store) (e f : Ended) → IsGrown store e.store → IsGrown store f.store → IsGrown store (if b then e else f).store
by_test true store e f h g = h
by_test false store e f h g = g

result_grows : (store : Store) (r : Result Number Trap) → IsGrown store (result_of store r).store
result_grows store (Err trap) = same store
result_grows store (Ok number) =
    by_test (may_make 1 store) store _ _ (record { more = Int (wrapped_value I64 number.value) ∷ []; is = refl }) (same store)

xsub_grows : (name : List ℕ) (x : Xsub) (store : Store) (args : List ℕ) → IsGrown store (xsub_ended name x store args).store
xsub_grows name x store args =
    by_test (length args == length x.params) store _ _ (result_grows store (sum_of (inputs_of store args) x.sum)) (same store)

found_grows : (name : List ℕ) (x : Option Xsub) (store : Store) (args : List ℕ) → IsGrown store (call_ended name x store args).store
found_grows name None store args = same store
found_grows name (Some x) store args = xsub_grows name x store args

pub calls_only_add : (m : Module) (name : List ℕ) (store : Store) (args : List ℕ) → IsGrown store (called m name store args).store
calls_only_add m name store args =
    by_test (nat_le (length args) most_arguments) store _ _ (found_grows name (xsub_named name m.xsubs) store args) (same store)
