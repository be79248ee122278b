-- Where the machine stands after a call, whatever the function is that is called.
use Rattle.xs_machine.specs.Dispatch.{counted_rows}
use Rattle.std.proofs.Common.{◌≡◌, ℕ, ◌+◌, ◌-◌, ◌<◌, ◌≤◌, arith, false, List, [], ◌∷◌, length, None, refl, ap, ◌∙◌}
use Rattle.std.proofs.lemmas.Bool.{le-ltb, lt-ltb}
use Rattle.xs_machine.proofs.Ends.{run_over, stays}
use Rattle.xs_api.specs.declared.api.Frame.{Frame}
use Rattle.xs_api.specs.declared.api.Operand.{Operand}
use Rattle.xs_api.specs.declared.api.Registered.{Registered}
use Rattle.xs_machine.specs.declared.machine.Outcome.{Outcome}
use Rattle.xs_machine.specs.declared.machine.Outcome.TheVariants as outcome
use Rattle.xs_ctree.specs.Functions.{function_at}
use Rattle.xs_machine.specs.Machine.{run, run_on, Enter, Leave, begun_at, called, call_meaning, call_over, is_over, left, undefined_text, with_call}
use Rattle.xs_machine.specs.MachineState.{State}
use Rattle.xs_ctree.specs.TypedTree.{Code}
use Rattle.xs_api.specs.World.{Cells, World, Clean, depths_of, registered, sweep}
use Rattle.xs_values.specs.declared.trap.Trap.TheVariants.{Large}
use Rattle.xs_sim.specs.RunnerStates.{state, world, frame, EndsAs, resting, idle}

module _ (code : Code) (sub args temps : List ℕ) (cells : Cells) (names : List Registered) (o : Outcome) (vars : List Operand) (f : Frame) (t0 : ℕ)
    (goes : is_over o ≡ false) where
  abbrev before : World
  before = idle cells temps names

  -- more arguments than the list holds
  pub too_many_called : (turns : ℕ) → 1000000 < length args → EndsAs (called code sub args turns (resting o vars f before t0)) (outcome.Trapped Large) before
  too_many_called turns h =
      let begins : begun_at sub (registered sub names) args turns (resting o vars f before t0) ≡ resting (outcome.Trapped Large) vars f before t0 =
      rw (goes, lt-ltb 1000000 (0 + length args) (omega (arith, h))) refl in
      record {
        vars = vars;
        frame = f;
        turns = t0;
        is = ap (run code) begins
            ∙ stays counted_rows code (left code (resting (outcome.Trapped Large) vars f before t0)) (resting (outcome.Trapped Large) vars f before t0) refl;
      }

  -- a call is what its function means
  pub over : (turns : ℕ) → length args ≤ 1000000 → called code sub args turns (resting o vars f before t0)
      ≡ call_over counted_rows code (depths_of before)
      (call_meaning counted_rows code (function_at code (registered sub names)) (state [] (frame sub 0) (with_call args before) turns))
  over turns h =
      let begins : begun_at sub (registered sub names) args turns (resting o vars f before t0)
      ≡ run_on (Enter (registered sub names) ∷ Leave (depths_of before) ∷ []) [] (state [] (frame sub 0) (with_call args before) turns) =
      rw (goes, le-ltb 1000000 (0 + length args) (omega (arith, h))) refl in
      ap (run code) begins ∙ run_over counted_rows code (registered sub names) (depths_of before) (state [] (frame sub 0) (with_call args before) turns)

  none_above : length temps - length temps ≡ 0
  none_above = omega arith

  -- a croak cuts the stacks to where they stood
  cut_called : (top : ℕ) → sweep (depths_of before) (world cells args top (0 ∷ []) temps names) ≡ Clean before
  cut_called top = rw none_above refl

  pub cut_entered : (top : ℕ) → sweep (depths_of before) (world cells args top [] temps names) ≡ Clean before
  cut_entered top = rw none_above refl

  -- a name that no function has
  pub unknown_called : (turns : ℕ) → length args ≤ 1000000 → registered sub names ≡ None
      → EndsAs (called code sub args turns (resting o vars f before t0)) (outcome.Croaked (undefined_text sub)) before
  unknown_called turns h e = record { vars = []; frame = frame sub 0; turns = turns; is = over turns h ∙ rw (e, cut_called (0 + length args)) refl }
