-- A call with as many arguments as the XSUB has parameters: both definitions report the same.
use Rattle.std.proofs.Common.{◌≡◌, ℕ, suc, ℤ, ◌+◌, ◌≤◌, arith, Bool, true, false, List, [], ◌∷◌, ◌++◌, map, length, Some, None, refl, sym, ap, subst, ◌∙◌, append_assoc, append-nil, length-append}
use Rattle.std.proofs.lemmas.Bool.{eqb-true}
use Rattle.std.proofs.lemmas.Bool.Decides.{nat_tests}
use Rattle.std.proofs.lemmas.List.{length-map, map-append}
use Rattle.std.specs.Prelude.{◌==◌, Result, Ok, Err}
use Rattle.xs_api.specs.declared.api.Frame.{Frame}
use Rattle.xs_api.specs.declared.api.Operand.{Operand}
use Rattle.xs_api.specs.declared.api.Registered.{Registered}
use Rattle.xs_machine.specs.declared.machine.Outcome.{Outcome}
use Rattle.xs_machine.specs.declared.machine.Outcome.TheVariants as outcome
use Rattle.xs_ctree.specs.Functions.{function_at}
use Rattle.xs_machine.specs.Machine.{Mach, called, is_over}
use Rattle.xs_ctree.specs.TypedTree.{Code}
use Rattle.xs_api.specs.World.{Cells, World, live_of, registered}
use Rattle.xs_api.specs.World as machine
use Rattle.xs_values.proofs.Wrapping.{wrapped_value-held}
use Rattle.xs_values.specs.declared.kind.Kind.TheVariants.{I32, I64}
use Rattle.xs_values.specs.declared.plain.Plain.TheVariants.{Undef, Int}
use Rattle.xs_values.specs.declared.trap.Trap.{Trap}
use Rattle.xs_values.specs.declared.trap.Trap.TheVariants.{Large}
use Rattle.xs_values.specs.Numbers.{Number, wrapped, wrapped_value}
use Rattle.xs_iface.specs.declared.xsub.Param.{Param}
use Rattle.xs_iface.specs.declared.xsub.Xsub.{Xsub}
use Rattle.std.specs.List.{AllByRecursion as All}
use Rattle.xs_iface.specs.SumForm.{IsSumXsub, IsTermOf}
use Rattle.xs_meaning.specs.declared.call_command.CallCommand.{CallCommand}
use Rattle.xs_call.specs.GlueCode.{xsub_function}
use Rattle.xs_meaning.specs.DeclaredMeaning as declared
use Rattle.xs_meaning.specs.DeclaredMeaning.{Store, Ended, input_of, inputs_of, names_from, show_in, sum_of}
use Rattle.xs_call.specs.MachineTranscript as running
use Rattle.xs_call.specs.MachineTranscript.{end_of, show_cell}
use Rattle.xs_meaning.specs.Transcript.{Returned, call_text, end_lines, arg_lines, item_line, returned_text}
use Rattle.xs_call.proofs.Bodies.{HoldAll, inputs_from}
use Rattle.xs_sim.specs.RunnerStates.{holds, EndsAs, resting, world, made, newest}
use Rattle.xs_call.proofs.Calling.{trapped_called, large_called, returned_called}
use Rattle.xs_call.proofs.Commands.{SameReport, Leaves, returned_reported, report_after, trapped_after}
use Rattle.xs_sim.proofs.IntNumbers.{IsInt, IsIntOrTrap, in_iv}
use Rattle.xs_sim.proofs.ListPositions.{get_at, one_longer}
use Rattle.xs_call.proofs.Shown.{arg_lines-same, item_line-same, shown_same}
use Rattle.xs_call.proofs.SumMeanings.{sum_is_int}
use Rattle.xs_sim.proofs.Temporaries.{writable}

-- there is room for one scalar more, or there is none
same_room : (cells : Cells) (store : Store) (b : Bool) → length cells ≡ length store → declared.may_make 1 store ≡ b → machine.may_make cells ≡ b
same_room cells store true e h = grind (arith, nat_tests)
same_room cells store false e h = grind (arith, nat_tests)

room_for : (store : Store) → declared.may_make 1 store ≡ true → length store + 1 ≤ 4000005
room_for store h = grind (arith, nat_tests)

-- ---- the arguments

length_names : (n : ℕ) (zs : List ℤ) → length (names_from n zs) ≡ length zs
length_names n [] = refl
length_names n (z ∷ zs) = ap suc (length_names (n + 1) zs)

all_hold : (ps : List Param) (zs : List ℤ) (h t : Cells) (n : ℕ) → length ps ≡ length zs → length h ≡ n → HoldAll (h ++ (made zs ++ t)) ps (names_from n zs) zs
all_hold [] [] h t n e g = tt
all_hold [] (z ∷ zs) h t n e g = absurd (omega (arith, e))
all_hold (p ∷ ps) [] h t n e g = absurd (omega (arith, e))
all_hold (p ∷ ps) (z ∷ zs) h t n e g = (
  get_at h (made zs ++ t) (holds z) None n g,
  subst (λ c. HoldAll c ps (names_from (n + 1) zs) zs) (append_assoc h (holds z ∷ []) (made zs ++ t))
      (all_hold ps zs (h ++ holds z ∷ []) t (n + 1) (omega (arith, e)) (one_longer h (holds z) n g)),
)

-- the same where nothing stands after the arguments
hold_made : (ps : List Param) (zs : List ℤ) (h : Cells) → length ps ≡ length zs → HoldAll (h ++ made zs) ps (names_from (length h) zs) zs
hold_made ps zs h e = subst (λ c. HoldAll (h ++ c) ps (names_from (length h) zs) zs) (append-nil (made zs)) (all_hold ps zs h [] (length h) e refl)

inputs_same : (zs : List ℤ) (s u : Store) (n : ℕ) → length s ≡ n → inputs_of (s ++ (map Int zs ++ u)) (names_from n zs) ≡ inputs_from zs
inputs_same [] s u n e = refl
inputs_same (z ∷ zs) s u n e =
    ap (λ v. input_of v ∷ inputs_of (s ++ (Int z ∷ (map Int zs ++ u))) (names_from (n + 1) zs)) (get_at s (map Int zs ++ u) (Int z) Undef n e)
    ∙ ap (λ l. input_of (Int z) ∷ inputs_of l (names_from (n + 1) zs)) (sym (append_assoc s (Int z ∷ []) (map Int zs ++ u)))
    ∙ ap (λ l. input_of (Int z) ∷ l) (inputs_same zs (s ++ Int z ∷ []) u (n + 1) (one_longer s (Int z) n e))

inputs_made : (zs : List ℤ) (s : Store) (n : ℕ) → length s ≡ n → inputs_of (s ++ map Int zs) (names_from n zs) ≡ inputs_from zs
inputs_made zs s n e = ap (λ l. inputs_of (s ++ l) (names_from n zs)) (sym (append-nil (map Int zs))) ∙ inputs_same zs s [] n e

-- ---- one scalar more

newest_last : (zs : List ℤ) (v : ℤ) (n : ℕ) (temps : List ℕ) → newest n (zs ++ v ∷ []) temps ≡ (n + length zs) ∷ newest n zs temps
newest_last [] v n temps = let at : n ≡ n + 0 = omega arith in ap (λ k. k ∷ temps) at
newest_last (z ∷ zs) v n temps =
    let at : n + 1 + length zs ≡ n + suc (length zs) = omega arith in
    newest_last zs v (n + 1) (n ∷ temps) ∙ ap (λ k. k ∷ newest (n + 1) zs (n ∷ temps)) at

module _ (code : Code) (names : List Registered) (x : Xsub) (ok : IsSumXsub x) (i : ℕ) (c : CallCommand) (known : registered c.sub names
    ≡ Some i) (here : function_at code (Some i) ≡ Some (xsub_function x)) (o : Outcome) (vars : List Operand) (f : Frame) (t0 turns : ℕ) (goes : is_over o
    ≡ false) (h : Cells) (s : Store) (long : 5 ≤ length h) (none : live_of h ≡ 0) (same : length h ≡ length s) (zs : List ℤ)
    (held : length (names_from (length h) zs) ≤ 1000000) (many : (length (names_from (length h) zs) == length x.params) ≡ true) where
  abbrev args : List ℕ
  args = names_from (length h) zs

  abbrev cells : Cells
  cells = h ++ made zs

  abbrev store : Store
  store = s ++ map Int zs

  abbrev temps : List ℕ
  temps = newest (length h) zs []

  abbrev sum : Result Number Trap
  sum = sum_of (inputs_from zs) x.sum

  abbrev end : Mach World
  end = called code c.sub args (suc turns) (resting o vars f (world cells [] 0 [] temps names) t0)

  few : length x.params ≤ 1000000
  few = omega (arith, ok.few_params)

  as_many : length x.params ≡ length zs
  as_many = sym (eqb-true (length args) (length x.params) many) ∙ length_names (length h) zs

  hold : HoldAll cells x.params args zs
  hold = hold_made x.params zs h as_many

  terms : All (IsTermOf (length (inputs_from zs))) x.sum
  terms = subst (λ n. All (IsTermOf n) x.sum) (as_many ∙ sym (length-map zs (wrapped I32))) ok.terms

  -- what is declared of the call
  abbrev declared_end : Ended
  declared_end = declared.xsub_ended c.sub x store args

  declared_result : declared_end ≡ declared.result_of store sum
  declared_result = rw (many, inputs_made zs s (length h) (sym same)) refl

  abbrev Same : Ended → Type 0
  Same d = SameReport names (running.report_at_end (call_text c) args (end_of end.stopped) end) (declared.ended_report c args d)

  trap_same : (trap : Trap) → sum ≡ Err trap → Same (declared.result_of store (Err trap))
  trap_same trap e =
      trapped_after names c args end trap _ store
      (trapped_called code c.sub args temps cells names o vars f t0 goes x i known here few turns held many zs hold terms trap e)

  same_lengths : length cells ≡ length store
  same_lengths = omega (arith, same, length-append h (made zs), length-append s (map Int zs), length-map zs holds, length-map zs Int)

  large_same : (n : Number) → sum ≡ Ok n → declared.may_make 1 store ≡ false → Same (declared.result_of store (Ok n))
  large_same n e full =
      let runs = large_called code c.sub args temps cells names o vars f t0 goes x i known here few turns held many zs hold terms n e
      (same_room cells store false same_lengths full) in
      rw full (trapped_after names c args end Large _ store runs)

  -- the result is a number that an `int` holds
  result_held : (n : Number) → sum ≡ Ok n → IsInt n
  result_held n e = subst IsIntOrTrap e (sum_is_int zs x.sum terms)

  as_iv : (n : Number) → sum ≡ Ok n → wrapped_value I64 n.value ≡ n.value
  as_iv n e = wrapped_value-held I64 n.value (in_iv n.value (result_held n e).1)

  stored : (n : Number) → sum ≡ Ok n → wrapped_value I64 (wrapped_value I64 (wrapped_value I32 n.value)) ≡ n.value
  stored n e = ap (λ z. wrapped_value I64 (wrapped_value I64 z)) (wrapped_value-held I32 n.value (result_held n e).1) ∙ ap (wrapped_value I64) (as_iv n e)
      ∙ as_iv n e

  -- the result scalar's name
  abbrev name : ℕ
  name = length h + length zs

  next_cell : length cells ≡ name
  next_cell = omega (arith, length-append h (made zs), length-map zs holds)

  next_value : length store ≡ name
  next_value = omega (arith, same, length-append s (map Int zs), length-map zs Int)

  -- the cells, the world and the store after the call
  abbrev end_cells : ℤ → Cells
  end_cells v = h ++ (made zs ++ holds v ∷ [])

  abbrev end_world : ℤ → World
  end_world v = world (h ++ made (zs ++ v ∷ [])) (name ∷ []) 1 [] (newest (length h) (zs ++ v ∷ []) []) names

  abbrev end_store : ℤ → Store
  end_store v = s ++ (map Int zs ++ Int v ∷ [])

  runs_to : (n : Number) → sum ≡ Ok n → declared.may_make 1 store ≡ true → EndsAs end (outcome.Returned (name ∷ [])) (end_world n.value)
  runs_to n e room =
      let W : ℕ → ℤ → World = λ r v. world (cells ++ holds v ∷ []) (r ∷ []) 1 [] (r ∷ temps) names in
      let runs = returned_called code c.sub args temps cells names o vars f t0 goes x i known here few turns held many zs hold terms n e
      (same_room cells store true same_lengths room) (writable (length cells) (omega (arith, next_cell, long))) in
      let at_name : EndsAs end (outcome.Returned (name ∷ [])) (W name (wrapped_value I64 (wrapped_value I64 (wrapped_value I32 n.value)))) =
      subst (λ r. EndsAs end (outcome.Returned (r ∷ [])) (W r (wrapped_value I64 (wrapped_value I64 (wrapped_value I32 n.value))))) next_cell runs in
      let at_value : EndsAs end (outcome.Returned (name ∷ [])) (W name n.value) =
      subst (λ v. EndsAs end (outcome.Returned (name ∷ [])) (W name v)) (stored n e) at_name in
      let with_cells : EndsAs end (outcome.Returned (name ∷ [])) (world (h ++ made (zs ++ n.value ∷ [])) (name ∷ []) 1 [] (name ∷ temps) names) =
      subst (λ cs. EndsAs end (outcome.Returned (name ∷ [])) (world cs (name ∷ []) 1 [] (name ∷ temps) names)) (append_assoc h (made zs) (holds n.value ∷ [])
      ∙ ap (λ l. h ++ l) (sym (map-append holds zs (n.value ∷ [])))) at_value in
      subst (λ ts. EndsAs end (outcome.Returned (name ∷ [])) (world (h ++ made (zs ++ n.value ∷ [])) (name ∷ []) 1 [] ts names))
      (sym (newest_last zs n.value (length h) [])) with_cells

  declared_returns : (n : Number) → sum ≡ Ok n → declared.may_make 1 store ≡ true
      → declared.result_of store (Ok n) ≡ record { how = Returned (name ∷ []); store = end_store n.value }
  declared_returns n e room =
      let made_one : declared.result_of store (Ok n) ≡ record { how = Returned (length store ∷ []); store = store ++ Int (wrapped_value I64 n.value) ∷ [] } =
      rw room refl in
      let E : ℕ → Store → Ended = λ r l. record { how = Returned (r ∷ []); store = l } in
      made_one
      ∙ ap (λ r. E r (store ++ Int (wrapped_value I64 n.value) ∷ [])) next_value
      ∙ ap (λ v. E name (store ++ Int v ∷ [])) (as_iv n e)
      ∙ ap (E name) (append_assoc s (map Int zs) (Int n.value ∷ []))

  -- the lines of the item and of the arguments
  item_shown : (v : ℤ) → show_cell (end_cells v) name ≡ show_in (end_store v) name
  item_shown v =
      ap (λ l. show_cell l name) (sym (append_assoc h (made zs) (holds v ∷ [])))
      ∙ shown_same cells [] store [] v name next_cell next_value
      ∙ ap (λ l. show_in l name) (append_assoc s (map Int zs) (Int v ∷ []))

  lines_at : (v : ℤ) → end_lines (show_cell (end_cells v)) args (Returned (name ∷ [])) ≡ end_lines (show_in (end_store v)) args (Returned (name ∷ []))
  lines_at v =
      ap (λ l. returned_text 1 ++ ((l ++ []) ++ arg_lines (show_cell (end_cells v)) 0 args))
      (item_line-same (show_cell (end_cells v)) (show_in (end_store v)) args 0 name (item_shown v))
      ∙ ap (λ l. returned_text 1 ++ ((item_line (show_in (end_store v)) args 0 name ++ []) ++ l))
      (arg_lines-same zs h (holds v ∷ []) s (Int v ∷ []) (length h) 0 refl (sym same))

  lines_same : (v : ℤ) → end_lines (show_cell (h ++ made (zs ++ v ∷ []))) args (Returned (name ∷ []))
      ≡ end_lines (show_in (end_store v)) args (Returned (name ∷ []))
  lines_same v = ap (λ l. end_lines (show_cell (h ++ l)) args (Returned (name ∷ []))) (map-append holds zs (v ∷ [])) ∙ lines_at v

  leaves : (v : ℤ) → declared.may_make 1 store ≡ true → Leaves (end_store v) h (zs ++ v ∷ [])
  leaves v room =
      let fits : length store + 1 ≤ 4000005 = room_for store room in
      record {
        long = long;
        none = none;
        same = omega (
          arith,
          same,
          length-append s (map Int zs ++ Int v ∷ []),
          length-append (map Int zs) (Int v ∷ []),
          length-map zs Int,
          length-append zs (v ∷ []),
        );
        few = omega (arith, fits, next_value, length-append zs (v ∷ []));
      }

  return_same : (n : Number) → sum ≡ Ok n → declared.may_make 1 store ≡ true → Same (declared.result_of store (Ok n))
  return_same n e room =
      subst Same (sym (declared_returns n e room))
      (report_after names c args end (outcome.Returned (name ∷ [])) (end_world n.value)
      (declared.report_at_end c args (Returned (name ∷ [])) (end_store n.value))
      (runs_to n e room)
      (λ vs g k. returned_reported names c args vs g k (name ∷ []) 1 h (zs ++ n.value ∷ []) (end_store n.value) (leaves n.value room) (name ∷ [])
      (lines_same n.value)))

  made_same : (n : Number) → sum ≡ Ok n → (room : Bool) → declared.may_make 1 store ≡ room → Same (declared.result_of store (Ok n))
  made_same n e true room = return_same n e room
  made_same n e false room = large_same n e room

  by_sum : (r : Result Number Trap) → sum ≡ r → Same (declared.result_of store r)
  by_sum (Ok n) e = made_same n e (declared.may_make 1 store) refl
  by_sum (Err trap) e = trap_same trap e

  pub accepted_same : Same declared_end
  accepted_same = subst Same (sym declared_result) (by_sum sum refl)
