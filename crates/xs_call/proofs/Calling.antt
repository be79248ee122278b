-- Where the machine stands after a call of an XSUB, by the ways out.
use Rattle.xs_machine.specs.Dispatch.{counted_rows}
use Rattle.std.proofs.Common.{◌≡◌, ℕ, suc, ℤ, ◌+◌, ◌-◌, ◌≤◌, arith, true, false, List, [], ◌∷◌, ◌++◌, map, length, replicate, Some, refl, ap, ◌∙◌}
use Rattle.std.specs.Prelude.{◌==◌, Ok, Err}
use Rattle.xs_api.specs.declared.api.Frame.{Frame}
use Rattle.xs_api.specs.declared.api.Operand.{Operand}
use Rattle.xs_api.specs.declared.api.Operand.TheVariants.{Unset, Num, Scalar}
use Rattle.xs_api.specs.declared.api.Registered.{Registered}
use Rattle.xs_machine.specs.declared.machine.Outcome.{Outcome}
use Rattle.xs_machine.specs.declared.machine.Outcome.TheVariants as outcome
use Rattle.xs_machine.specs.Cmean.{exec}
use Rattle.xs_ctree.specs.Functions.{function_at}
use Rattle.xs_machine.specs.Machine.{Mach, called, call_over, is_over}
use Rattle.xs_api.specs.Rows.{usage_text}
use Rattle.xs_machine.specs.MachineState.{State}
use Rattle.xs_ctree.specs.TypedTree.{Code}
use Rattle.xs_api.specs.World.{Cells, World, depths_of, is_read_only, may_make, registered}
use Rattle.xs_values.specs.declared.kind.Kind.TheVariants.{I32, I64}
use Rattle.xs_values.specs.declared.trap.Trap.{Trap}
use Rattle.xs_values.specs.declared.trap.Trap.TheVariants.{Large}
use Rattle.xs_values.specs.Numbers.{Number, wrapped, wrapped_value}
use Rattle.xs_iface.specs.declared.xsub.Xsub.{Xsub}
use Rattle.std.specs.List.{AllByRecursion as All}
use Rattle.xs_iface.specs.SumForm.{IsTermOf}
use Rattle.xs_stub.specs.Stub.{joined_names}
use Rattle.xs_call.specs.GlueCode.{slots_of, xsub_body, xsub_function}
use Rattle.xs_meaning.specs.DeclaredMeaning.{sum_of}
use Rattle.xs_sim.specs.RunnerStates.{state, world, frame, holds, EndsAs, resting, idle}
use Rattle.xs_call.proofs.Bodies.{HoldAll, inputs_from, usage_means, work_means, trapped_means, large_means, returned_means}
use Rattle.xs_sim.proofs.CallEnds.{over, cut_entered}

module _ (code : Code) (sub args temps : List ℕ) (cells : Cells) (names : List Registered) (o : Outcome) (vars : List Operand) (f : Frame) (t0 : ℕ)
    (goes : is_over o ≡ false) where
  abbrev before : World
  before = idle cells temps names

  -- ---- a name that a function has

  module _ (x : Xsub) (i : ℕ) (known : registered sub names ≡ Some i) (here : function_at code (Some i) ≡ Some (xsub_function x))
      (few : length x.params ≤ 1000000) (turns : ℕ) (held : length args ≤ 1000000) where
    abbrev end : Mach World
    end = called code sub args (suc turns) (resting o vars f before t0)

    abbrev unset : List Operand
    unset = replicate (length (slots_of x)) Unset

    -- the state at the entry of the function
    abbrev entry : State World
    entry = state unset (frame sub 0) (world cells args (0 + length args) (0 ∷ []) temps names) turns

    enters : end ≡ call_over counted_rows code (depths_of before) (exec counted_rows (xsub_body x) entry)
    enters = over code sub args temps cells names o vars f t0 goes (suc turns) held ∙ rw (known, here) refl

    -- another number of arguments
    pub usage_called : (length args == length x.params) ≡ false → EndsAs end (outcome.Croaked (usage_text sub (joined_names x.params))) before
    usage_called d = record {
      vars = unset;
      frame = frame sub (0 + length args - 0);
      turns = turns;
      is = enters ∙ ap (call_over counted_rows code (depths_of before))
          (usage_means x unset sub args temps cells names (0 + length args) turns (omega arith) held few d)
          ∙ rw (cut_entered code sub args temps cells names o vars f t0 goes (0 + length args)) refl;
    }

    -- as many arguments as parameters
    module _ (many : (length args == length x.params) ≡ true) (zs : List ℤ) (h : HoldAll cells x.params args zs)
        (terms : All (IsTermOf (length (inputs_from zs))) x.sum) where
      abbrev numbers : List Operand
      numbers = map Num (inputs_from zs)

      pub trapped_called : (trap : Trap) → sum_of (inputs_from zs) x.sum ≡ Err trap
          → EndsAs end (outcome.Trapped trap) (world cells args (0 + length args) [] temps names)
      trapped_called trap e = record {
        vars = numbers ++ Unset ∷ Unset ∷ [];
        frame = frame sub (0 + length args - 0);
        turns = turns;
        is = enters ∙ ap (call_over counted_rows code (depths_of before))
            (work_means x unset sub args temps cells names (0 + length args) turns (omega arith) held few many _ _
            (trapped_means x zs sub args temps cells names (0 + length args - 0) (0 + length args) turns h terms trap e));
      }

      pub large_called : (n : Number) → sum_of (inputs_from zs) x.sum ≡ Ok n → may_make cells ≡ false
          → EndsAs end (outcome.Trapped Large) (world cells args (0 + length args) [] temps names)
      large_called n e full = record {
        vars = numbers ++ Num (wrapped I32 n.value) ∷ Unset ∷ [];
        frame = frame sub (0 + length args - 0);
        turns = turns;
        is = enters ∙ ap (call_over counted_rows code (depths_of before))
            (work_means x unset sub args temps cells names (0 + length args) turns (omega arith) held few many _ _
            (large_means x zs sub args temps cells names (0 + length args - 0) (0 + length args) turns h terms n e full));
      }

      abbrev stored : Number → ℤ
      stored n = wrapped_value I64 (wrapped_value I64 (wrapped_value I32 n.value))

      pub returned_called : (n : Number) → sum_of (inputs_from zs) x.sum ≡ Ok n → may_make cells ≡ true → is_read_only (length cells) ≡ false
          → EndsAs end (outcome.Returned (length cells ∷ [])) (world (cells ++ holds (stored n) ∷ []) (length cells ∷ []) 1 [] (length cells ∷ temps) names)
      returned_called n e room writable = record {
        vars = numbers ++ Num (wrapped I32 n.value) ∷ Scalar (Some (length cells)) ∷ [];
        frame = frame sub (0 + length args - 0);
        turns = turns;
        is = enters ∙ ap (call_over counted_rows code (depths_of before))
            (work_means x unset sub args temps cells names (0 + length args) turns (omega arith) held few many _ _
            (returned_means x zs sub args temps cells names (0 + length args - 0) (0 + length args) turns h terms n e room writable));
      }
