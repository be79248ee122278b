-- The boot, and all commands: the two transcripts are one.
use Rattle.std.proofs.Common.{◌≡◌, ℕ, ◌+◌, arith, cond, List, [], ◌∷◌, ◌++◌, length, map, Option, Some, None, refl, sym, ap, subst, ◌∙◌}
use Rattle.std.specs.Prelude.{codes, slice_get}
use Rattle.std.specs.Option.{option_map}
use Rattle.xs_machine.proofs.BareCode.{function_bare, places_do_not_matter}
use Rattle.xs_machine.proofs.Ends.{run_over}
use Rattle.xs_api.specs.declared.api.Abrupt.TheVariants.{Returns}
use Rattle.xs_api.specs.declared.api.Registered.{Registered}
use Rattle.xs_machine.specs.declared.machine.Outcome.TheVariants as outcome
use Rattle.xs_machine.specs.Cmean.{exec_all}
use Rattle.xs_ctree.specs.Functions.{boot_at, boot_from, function_at, name_of}
use Rattle.xs_machine.specs.Machine.{Mach, Enter, Leave, begun_at, boot_begun, booted, call_meaning, call_over, loaded, new_world, run, run_on, with_call, with_world}
use Rattle.xs_machine.specs.Dispatch.{counted_rows}
use Rattle.xs_machine.specs.MachineState.{State, Stop}
use Rattle.xs_ctree.specs.TypedTree.{Code, Function, bare, bare_function, is_boot, stmts_of}
use Rattle.xs_api.specs.World.{World, depths_of, new_cells, registered}
use Rattle.xs_iface.specs.declared.xsub.Module.{Module}
use Rattle.xs_iface.specs.declared.xsub.Xsub.{Xsub}
use Rattle.xs_iface.specs.SumForm.{IsSumModule}
use Rattle.xs_meaning.specs.declared.call_command.CallCommand.{CallCommand}
use Rattle.xs_call.specs.MachineTranscript.{most_turns, boot_report, end_of, machine_transcript}
use Rattle.xs_call.specs.GlueCode.{boot_function, functions_on, glue_code, registrations}
use Rattle.xs_call.specs.Headline.{ExactAfter, IsExact, RunsAsDeclared, StaysExact, booted_report, exact_along, exact_after}
use Rattle.xs_meaning.specs.DeclaredMeaning as declared
use Rattle.xs_meaning.specs.DeclaredMeaning.{Store, declared_transcript, new_store}
use Rattle.xs_call.specs.MachineTranscript as running
use Rattle.xs_meaning.specs.Transcript.{Report, call_text, calls_report, go_on, live_line, script_report}
use Rattle.xs_sim.specs.MadeArguments.{AllMade, Made, NotMade, args_made}
use Rattle.xs_sim.specs.RunnerStates.{resting, state, world, frame}
use Rattle.xs_call.proofs.Commands.{AtRest, SameNext, SameReport}
use Rattle.xs_call.proofs.EveryCommand.{command_same, registered_names}
use Rattle.xs_call.proofs.CalledNames.{boot_index, last_function, registered_on}

module _ (names : List Registered) where
  -- what goes on after a command
  goes_on : (a : Option (Mach World)) (b : Option Store) (f : Mach World → List ℕ) (g : Store → List ℕ) → SameNext names a b
      → ((r : Mach World) (s : Store) → AtRest names r s → f r ≡ g s) → go_on a f ≡ go_on b g
  goes_on None None f g n h = refl
  goes_on (Some r) (Some s) f g n h = h r s n
  goes_on None (Some s) f g n h = absurd n
  goes_on (Some r) None f g n h = absurd n

  -- the machine at rest is exact
  exact : (r : Mach World) (s : Store) → AtRest names r s → IsExact r s
  exact r s a =
      let P : Mach World → Type 0 = λ y. IsExact y s in
      subst P (sym a.is) (record {
        no_work = refl;
        no_arguments = refl;
        at_bottom = refl;
        no_marks = refl;
        no_temporaries = refl;
        no_scopes = refl;
        none_lives = a.none;
        same_next = a.same;
      })

  stays_exact : (a : Option (Mach World)) (b : Option Store) (after : Mach World → Store → Type 0) → SameNext names a b
      → ((r : Mach World) (s : Store) → AtRest names r s → after r s) → exact_after a b after
  stays_exact None None after n h = tt
  stays_exact (Some r) (Some s) after n h = (exact r s n, h r s n)
  stays_exact None (Some s) after n h = absurd n
  stays_exact (Some r) None after n h = absurd n

-- The registrations of a boot function, from this function on: each name is registered, and yes is returned.
registers : (n : ℕ) (xs : List Xsub) (names : List Registered) (called : List ℕ) (turns : ℕ)
    → exec_all counted_rows (stmts_of (registrations n xs)) (state [] (frame called 0) (world new_cells [] 0 [] [] names) turns)
    ≡ Stop (Returns (2 ∷ [])) (state [] (frame called 0) (world new_cells (2 ∷ []) 1 [] [] (registered_on n xs names)) turns)
registers n [] names called turns = refl
registers n (x ∷ xs) names called turns = registers (n + 1) xs (record { name = x.full; function = n } ∷ names) called turns

-- Code that differs from other code in its places alone reports the same of a command, and boots to the same.
report_typed : (typed : Code) (r : Mach World) (c : CallCommand) → r.pending ≡ [] → running.call_report typed r c ≡ running.call_report (bare typed) r c
report_typed typed r c idle = by (args_made c.args r.state.store)
  where
    by : (made : Made) → running.call_report_with typed c r made ≡ running.call_report_with (bare typed) c r made
    by (AllMade args w) =
        ap (λ (x : Mach World). running.report_at_end (call_text c) args (end_of x.stopped) x)
        (sym (places_do_not_matter typed c.sub (registered c.sub w.names) args most_turns (with_world w r) idle))
    by (NotMade trap) = refl

boot_bare : (n : ℕ) (fs : List Function) → boot_from n (map bare_function fs) ≡ boot_from n fs
boot_bare n [] = refl
boot_bare n (f ∷ fs) = ap (λ place. cond (is_boot f.sort) (Some n) place) (boot_bare (n + 1) fs)

name_bare : (f : Option Function) → name_of (option_map bare_function f) ≡ name_of f
name_bare None = refl
name_bare (Some f) = refl

boots_typed : (typed : Code) → booted typed most_turns loaded ≡ booted (bare typed) most_turns loaded
boots_typed typed =
    let boot : boot_at (bare typed) ≡ boot_at typed = boot_bare 0 typed.functions in
    let name : name_of (function_at (bare typed) (boot_at typed)) ≡ name_of (function_at typed (boot_at typed)) =
    ap name_of (function_bare typed (boot_at typed)) ∙ name_bare (function_at typed (boot_at typed)) in
    sym (ap (λ f. run (bare typed) (begun_at (name_of (function_at (bare typed) f)) f [] most_turns loaded)) boot
    ∙ ap (λ n. run (bare typed) (begun_at n (boot_at typed) [] most_turns loaded)) name
    ∙ places_do_not_matter typed (name_of (function_at typed (boot_at typed))) (boot_at typed) [] most_turns loaded refl)

module _ (typed code : Code) (m : Module) (good : IsSumModule m) (glue : code.functions ≡ functions_on (boot_function m) m.xsubs)
    (reports : (r : Mach World) (c : CallCommand) → r.pending ≡ [] → running.call_report typed r c ≡ running.call_report code r c)
    (boots : booted typed most_turns loaded ≡ booted code most_turns loaded) where
  abbrev names : List Registered
  names = registered_names m

  command : (r : Mach World) (s : Store) (c : CallCommand) → AtRest names r s
      → SameReport names (running.call_report typed r c) (declared.call_report m s c)
  command r s c a =
      let P : Report (Mach World) → Type 0 = λ x. SameReport names x (declared.call_report m s c) in
      subst P (sym (reports r c (ap (λ (y : Mach World). y.pending) a.is))) (command_same code m good glue r s c a)

  calls_same : (cs : List CallCommand) (r : Mach World) (s : Store) → AtRest names r s → calls_report (running.call_report typed) r cs
      ≡ calls_report (declared.call_report m) s cs
  calls_same [] r s a = refl
  calls_same (c ∷ cs) r s a =
      let one = command r s c a in
      ap (λ l. l ++ go_on (running.call_report typed r c).next (λ next. calls_report (running.call_report typed) next cs)) one.text
      ∙ ap (λ l. (declared.call_report m s c).text ++ l) (goes_on names (running.call_report typed r c).next (declared.call_report m s c).next
      (λ next. calls_report (running.call_report typed) next cs) (λ next. calls_report (declared.call_report m) next cs) one.next (calls_same cs))

  calls_exact : (cs : List CallCommand) (r : Mach World) (s : Store) → AtRest names r s → exact_along m typed r s cs
  calls_exact [] r s a = tt
  calls_exact (c ∷ cs) r s a =
      stays_exact names (running.call_report typed r c).next (declared.call_report m s c).next (λ machine1 store1. exact_along m typed machine1 store1 cs)
      (command r s c a).next (calls_exact cs)

  -- ---- the boot

  abbrev boot : ℕ
  boot = length m.xsubs

  boot_at_end : boot_at code ≡ Some boot
  boot_at_end =
      let front : 0 + length m.xsubs ≡ length m.xsubs = omega arith in
      ap (λ fs. boot_at (record { records = []; functions = fs })) glue ∙ boot_index (boot_function m) 0 m.xsubs refl ∙ ap Some front

  boot_is : function_at code (Some boot) ≡ Some (boot_function m)
  boot_is = ap (λ fs. slice_get fs boot) glue ∙ last_function (boot_function m) m.xsubs

  abbrev boot_name : List ℕ
  boot_name = (boot_function m).name

  abbrev boot_state : State World
  boot_state = state [] (frame boot_name 0) (with_call [] new_world) most_turns

  boot_over : booted code most_turns loaded
      ≡ call_over counted_rows code (depths_of new_world) (call_meaning counted_rows code (function_at code (Some boot)) boot_state)
  boot_over =
      let begins : boot_begun code most_turns loaded ≡ run_on (Enter (Some boot) ∷ Leave (depths_of new_world) ∷ []) [] boot_state =
      rw (boot_at_end, boot_is) refl in
      ap (run code) begins ∙ run_over counted_rows code (Some boot) (depths_of new_world) boot_state

  abbrev boot_end : Mach World
  boot_end = resting (outcome.Returned (2 ∷ [])) [] (frame boot_name 0) (world new_cells (2 ∷ []) 1 [] [] names) 999999

  boot_ends : booted typed most_turns loaded ≡ boot_end
  boot_ends = boots ∙ boot_over ∙ rw (boot_is, registers 0 m.xsubs [] boot_name 999999) refl

  abbrev boot_rest : Mach World
  boot_rest = resting (outcome.Returned (2 ∷ [])) [] (frame boot_name 0) (world new_cells [] 0 [] [] names) 999999

  boot_reports : booted_report typed ≡ record { text = codes "boot returned\n" ++ live_line 0 0 0; next = Some boot_rest }
  boot_reports = ap (λ (r : Mach World). boot_report (end_of r.stopped) r) boot_ends

  at_rest : AtRest names boot_rest new_store
  at_rest = record {
    how = outcome.Returned (2 ∷ []);
    vars = [];
    frame = frame boot_name 0;
    turns = 999999;
    cells = new_cells;
    is = refl;
    goes = refl;
    long = omega arith;
    none = refl;
    same = refl;
    few = omega arith;
  }

  transcripts_same : (cs : List CallCommand) → machine_transcript typed loaded cs ≡ declared_transcript m cs
  unfolding machine_transcript declared_transcript
  transcripts_same cs =
      ap (λ b. script_report (running.call_report typed) b cs) boot_reports
      ∙ ap (λ l. codes "boot returned\n" ++ live_line 0 0 0 ++ l) (calls_same cs boot_rest new_store at_rest)

  exact_same : (cs : List CallCommand) → ExactAfter m typed cs
  unfolding ExactAfter
  exact_same cs =
      let P : Report (Mach World) → Type 0 = λ b. exact_after b.next (Some new_store) (λ machine store. exact_along m typed machine store cs) in
      subst P (sym boot_reports) (exact names boot_rest new_store at_rest, calls_exact cs boot_rest new_store at_rest)

-- ---- the laws

-- the functions of a module's glue
glue_functions : (m : Module) → (glue_code m).functions ≡ functions_on (boot_function m) m.xsubs
unfolding glue_code
glue_functions m = refl

pub runs_as_declared : RunsAsDeclared
runs_as_declared m good cs = transcripts_same (glue_code m) (glue_code m) m good (glue_functions m) (λ r c idle. refl) refl cs

pub stays_exact_after : StaysExact
stays_exact_after m good cs = exact_same (glue_code m) (glue_code m) m good (glue_functions m) (λ r c idle. refl) refl cs

-- Both hold of all code that differs from the glue code in its places alone.
module _ (m : Module) (good : IsSumModule m) (typed : Code) (same : bare typed ≡ glue_code m) (cs : List CallCommand) where
  reports_typed : (r : Mach World) (c : CallCommand) → r.pending ≡ [] → running.call_report typed r c ≡ running.call_report (glue_code m) r c
  reports_typed r c idle = report_typed typed r c idle ∙ ap (λ x. running.call_report x r c) same

  boots_glue : booted typed most_turns loaded ≡ booted (glue_code m) most_turns loaded
  boots_glue = boots_typed typed ∙ ap (λ x. booted x most_turns loaded) same

  pub typed_runs : machine_transcript typed loaded cs ≡ declared_transcript m cs
  typed_runs = transcripts_same typed (glue_code m) m good (glue_functions m) reports_typed boots_glue cs

  pub typed_exact : ExactAfter m typed cs
  typed_exact = exact_same typed (glue_code m) m good (glue_functions m) reports_typed boots_glue cs
