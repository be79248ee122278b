-- A sum of terms: what its tree means is what is declared of it, and its number is one that an `int` holds.
use Rattle.std.proofs.Common.{◌≡◌, ℕ, ℤ, pos, ◌<◌, arith, List, [], ◌∷◌, ◌++◌, map, length, get_or, refl, sym, ◌∙◌, subst}
use Rattle.std.proofs.lemmas.List.{get_or-map, get_or_append_left, length-map}
use Rattle.std.proofs.lemmas.Int.{ints}
use Rattle.std.specs.Prelude.{slice_index_or, Result, Ok, Err}
use Rattle.xs_api.specs.declared.api.Frame.{Frame}
use Rattle.xs_api.specs.declared.api.Operand.{Operand}
use Rattle.xs_api.specs.declared.api.Operand.TheVariants.{Unset, Num}
use Rattle.xs_machine.specs.Cmean.{eval}
use Rattle.xs_machine.specs.Dispatch.{counted_rows}
use Rattle.xs_machine.specs.MachineState.{State, Done, calculate}
use Rattle.xs_ctree.specs.TypedTree.{Expr, Binary}
use Rattle.xs_api.specs.World.{World}
use Rattle.xs_values.specs.declared.kind.Kind.TheVariants.{I32}
use Rattle.xs_values.specs.declared.operator.Op.TheVariants.{Add}
use Rattle.xs_values.specs.declared.trap.Trap.{Trap}
use Rattle.xs_values.specs.Numbers.{Number, calculated, wrapped}
use Rattle.xs_iface.specs.declared.xsub.Term.{Term}
use Rattle.xs_iface.specs.declared.xsub.Term.TheVariants as term
use Rattle.std.specs.List.{AllByRecursion as All}
use Rattle.xs_iface.specs.SumForm.{IsTermOf}
use Rattle.xs_call.specs.GlueCode as glue
use Rattle.xs_call.specs.GlueCode.{sum_tree, term_tree}
use Rattle.xs_meaning.specs.DeclaredMeaning as declared
use Rattle.xs_meaning.specs.DeclaredMeaning.{sum_of, term_value, zero_int}
use Rattle.xs_sim.proofs.IntNumbers.{IsInt, IsIntOrTrap, in_range, sum_of_two, wrapped_in_range}
use Rattle.xs_sim.specs.RunnerStates.{state}

-- ---- the tree

-- what a variable has that an input went into
variable_is : (inputs : List Number) (others : List Operand) (at : ℕ) → at < length inputs → slice_index_or (map Num inputs ++ others) at Unset
    ≡ Num (slice_index_or inputs at zero_int)
variable_is inputs others at h =
    get_or_append_left (map Num inputs) others Unset at (omega (arith, h, length-map inputs Num)) ∙ get_or-map Num inputs at zero_int Unset h

module _ (inputs : List Number) (others : List Operand) (f : Frame) (w : World) (turns : ℕ) where
  -- the state after the inputs
  abbrev over : State World
  over = state (map Num inputs ++ others) f w turns

  term_means : (t : Term) → IsTermOf (length inputs) t → eval counted_rows (term_tree t) over ≡ Done (Num (term_value inputs t)) over
  term_means (term.Parameter at) h = rw (variable_is inputs others at h) refl
  term_means (term.Literal value) h = refl

  -- a sum that goes on from what was summed so far
  more_means : (ts : List Term) (tree : Expr) (r : Result Number Trap) → All (IsTermOf (length inputs)) ts → eval counted_rows tree over ≡ calculate r over
      → eval counted_rows (glue.sum_on tree ts) over ≡ calculate (declared.sum_on inputs r ts) over
  more_means [] tree (Ok n) h e = e
  more_means [] tree (Err trap) h e = e
  more_means (t ∷ ts) tree (Ok n) h e =
      more_means ts (Binary Add tree (term_tree t)) (calculated Add n (term_value inputs t)) h.1 (rw (e, term_means t h.0) refl)
  more_means (t ∷ ts) tree (Err trap) h e = more_means ts (Binary Add tree (term_tree t)) (Err trap) h.1 (rw e refl)

  pub sum_means : (ts : List Term) → All (IsTermOf (length inputs)) ts → eval counted_rows (sum_tree ts) over ≡ calculate (sum_of inputs ts) over
  sum_means [] h = refl
  sum_means (t ∷ ts) h = more_means ts (term_tree t) (Ok (term_value inputs t)) h.1 (term_means t h.0)

-- ---- the number

input_is_int : (zs : List ℤ) (at : ℕ) → at < length (map (wrapped I32) zs) → IsInt (slice_index_or (map (wrapped I32) zs) at zero_int)
input_is_int zs at h =
    subst IsInt (sym (get_or-map (wrapped I32) zs at (pos 0) zero_int (omega (arith, h, length-map zs (wrapped I32)))))
    (refl, wrapped_in_range (get_or zs at (pos 0)))

term_is_int : (zs : List ℤ) (t : Term) → IsTermOf (length (map (wrapped I32) zs)) t → IsInt (term_value (map (wrapped I32) zs) t)
term_is_int zs (term.Parameter at) h = input_is_int zs at h
term_is_int zs (term.Literal value) h = (refl, in_range value h)

more_is_int : (zs : List ℤ) (ts : List Term) (r : Result Number Trap) → All (IsTermOf (length (map (wrapped I32) zs))) ts → IsIntOrTrap r
    → IsIntOrTrap (declared.sum_on (map (wrapped I32) zs) r ts)
more_is_int zs ts (Err trap) h r = r
more_is_int zs [] (Ok n) h r = r
more_is_int zs (t ∷ ts) (Ok n) h r =
    more_is_int zs ts (calculated Add n (term_value (map (wrapped I32) zs) t)) h.1 (sum_of_two n (term_value (map (wrapped I32) zs) t) r (term_is_int zs t h.0))

-- the sum of converted numbers is one that an `int` holds, or it traps
pub sum_is_int : (zs : List ℤ) (ts : List Term) → All (IsTermOf (length (map (wrapped I32) zs))) ts → IsIntOrTrap (sum_of (map (wrapped I32) zs) ts)
sum_is_int zs [] h = (refl, record { low = omega (arith, ints); high = omega (arith, ints) })
sum_is_int zs (t ∷ ts) h = more_is_int zs ts (Ok (term_value (map (wrapped I32) zs) t)) h.1 (term_is_int zs t h.0)
