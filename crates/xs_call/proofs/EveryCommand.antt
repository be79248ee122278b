-- Every call and every command: both definitions report the same.
use Rattle.std.proofs.Common.{◌≡◌, ℕ, suc, ℤ, ◌+◌, ◌<◌, ◌≤◌, arith, Bool, true, false, List, [], ◌++◌, map, length, Option, Some, None, refl, sym, ap, subst, length-append}
use Rattle.std.proofs.lemmas.Bool.{leb-false, leb-true}
use Rattle.std.proofs.lemmas.Bool.Decides.{nat_tests}
use Rattle.std.specs.Prelude.{◌==◌, nat_le, slice_get}
use Rattle.xs_api.specs.declared.api.Frame.{Frame}
use Rattle.xs_api.specs.declared.api.Operand.{Operand}
use Rattle.xs_api.specs.declared.api.Registered.{Registered}
use Rattle.xs_machine.specs.declared.machine.Outcome.{Outcome}
use Rattle.xs_machine.specs.declared.machine.Outcome.TheVariants as outcome
use Rattle.xs_machine.specs.Machine.{Mach, called, is_over, undefined_text}
use Rattle.xs_api.specs.Rows.{usage_text}
use Rattle.xs_ctree.specs.TypedTree.{Code}
use Rattle.xs_api.specs.World.{Cells, World, live_of, registered}
use Rattle.xs_values.specs.declared.plain.Plain.TheVariants.{Int}
use Rattle.xs_values.specs.declared.trap.Trap.TheVariants.{Large}
use Rattle.xs_iface.specs.declared.xsub.Module.{Module}
use Rattle.xs_iface.specs.declared.xsub.Xsub.{Xsub}
use Rattle.xs_iface.specs.SumForm.{IsSumModule, IsSumXsub}
use Rattle.xs_stub.specs.Stub.{joined_names}
use Rattle.xs_meaning.specs.declared.call_command.CallCommand.{CallCommand}
use Rattle.xs_call.specs.GlueCode.{boot_function, functions_on, xsub_function}
use Rattle.xs_meaning.specs.DeclaredMeaning as declared
use Rattle.xs_meaning.specs.DeclaredMeaning.{Store, Ended, names_from, show_in, xsub_named}
use Rattle.xs_call.specs.MachineTranscript as running
use Rattle.xs_call.specs.MachineTranscript.{end_of, show_cell}
use Rattle.xs_meaning.specs.Transcript.{Croaked, call_text, croaked_text, end_lines}
use Rattle.std.proofs.lemmas.List.{length-map}
use Rattle.xs_call.proofs.UsageNames.{usage_names_same}
use Rattle.xs_call.proofs.Accepted.{accepted_same}
use Rattle.xs_call.proofs.Calling.{usage_called}
use Rattle.xs_sim.proofs.CallEnds.{too_many_called, unknown_called}
use Rattle.xs_sim.specs.RunnerStates.{EndsAs, resting, world, made, newest}
use Rattle.xs_call.proofs.Commands.{AtRest, SameReport, Leaves, croaked_reported, report_after, trapped_after}
use Rattle.xs_call.proofs.CalledNames.{found, registered_on}
use Rattle.xs_call.proofs.Shown.{arg_lines-all}
use Rattle.xs_sim.proofs.Temporaries.{all_made, not_made}

-- the names that the boot of a module registers
abbrev pub registered_names : Module → List Registered
registered_names m = registered_on 0 m.xsubs []

module _ (code : Code) (m : Module) (good : IsSumModule m) (glue : code.functions ≡ functions_on (boot_function m) m.xsubs) where
  abbrev names : List Registered
  names = registered_names m

  module _ (c : CallCommand) (o : Outcome) (vars : List Operand) (f : Frame) (t0 turns : ℕ) (goes : is_over o ≡ false) (h : Cells) (s : Store)
      (long : 5 ≤ length h) (none : live_of h ≡ 0) (same : length h ≡ length s) (zs : List ℤ) (fits : length h + length zs ≤ 4000005) where
    abbrev args : List ℕ
    args = names_from (length h) zs

    abbrev store : Store
    store = s ++ map Int zs

    abbrev temps : List ℕ
    temps = newest (length h) zs []

    abbrev end : Mach World
    end = called code c.sub args (suc turns) (resting o vars f (world (h ++ made zs) [] 0 [] temps names) t0)

    abbrev Same : Ended → Type 0
    Same d = SameReport names (running.report_at_end (call_text c) args (end_of end.stopped) end) (declared.ended_report c args d)

    left : Leaves store h zs
    left = record { long = long; none = none; same = omega (arith, same, length-append s (map Int zs), length-map zs Int); few = fits }

    lines : (text : List ℕ) → end_lines (show_cell (h ++ made zs)) args (Croaked text) ≡ end_lines (show_in store) args (Croaked text)
    lines text = ap (λ l. croaked_text text ++ l) (arg_lines-all zs h s (length h) refl (sym same))

    croak_same : (text : List ℕ) → EndsAs end (outcome.Croaked text) (world (h ++ made zs) [] 0 [] temps names)
        → Same (record { how = Croaked text; store = store })
    croak_same text e =
        report_after names c args end (outcome.Croaked text) _ (declared.report_at_end c args (Croaked text) store) e
        (λ vs g k. croaked_reported names c args vs g k [] 0 h zs store left text (lines text))

    many_same : nat_le (length args) 1000000 ≡ false → Same (declared.called m c.sub store args)
    many_same e =
        rw e (trapped_after names c args end Large _ store (too_many_called code c.sub args temps (h ++ made zs) names o vars f t0 goes (suc turns)
        (leb-false (length args) 1000000 e)))

    module _ (held : length args ≤ 1000000) where
      -- what is to be shown of a name that finds these
      abbrev NameSame : Option ℕ → Option Xsub → Type 0
      NameSame place xsub = registered c.sub names ≡ place → Same (declared.call_ended c.sub xsub store args)

      unknown_same : NameSame None None
      unknown_same e = croak_same (undefined_text c.sub) (unknown_called code c.sub args temps (h ++ made zs) names o vars f t0 goes (suc turns) held e)

      usage_same : (x : Xsub) (i : ℕ) → IsSumXsub x → slice_get code.functions i ≡ Some (xsub_function x) → registered c.sub names ≡ Some i
          → (length args == length x.params) ≡ false → Same (declared.xsub_ended c.sub x store args)
      usage_same x i ok here e d =
          let is_croak : declared.xsub_ended c.sub x store args ≡ record { how = Croaked (usage_text c.sub (joined_names x.params)); store = store } =
          rw (d, usage_names_same x.params) refl in
          subst Same (sym is_croak)
          (croak_same (usage_text c.sub (joined_names x.params)) (usage_called code c.sub args temps (h ++ made zs) names o vars f t0 goes x i e here
          (omega (arith, ok.few_params)) turns held d))

      by_arguments : (x : Xsub) (i : ℕ) → IsSumXsub x → slice_get code.functions i ≡ Some (xsub_function x) → registered c.sub names ≡ Some i → (b : Bool)
          → (length args == length x.params) ≡ b → Same (declared.xsub_ended c.sub x store args)
      by_arguments x i ok here e true d = accepted_same code names x ok i c e here o vars f t0 turns goes h s long none same zs held d
      by_arguments x i ok here e false d = usage_same x i ok here e d

      known_same : (x : Xsub) (i : ℕ) → IsSumXsub x → slice_get code.functions i ≡ Some (xsub_function x) → NameSame (Some i) (Some x)
      known_same x i ok here e = by_arguments x i ok here e (length args == length x.params) refl

      name_same : Same (declared.call_ended c.sub (xsub_named c.sub m.xsubs) store args)
      name_same = found c.sub code.functions (boot_function m) NameSame unknown_same known_same m.xsubs good.xsubs good.names_differ glue refl

    by_count : (b : Bool) → nat_le (length args) 1000000 ≡ b → Same (declared.called m c.sub store args)
    by_count true e = rw e (name_same (leb-true (length args) 1000000 e))
    by_count false e = many_same e

    -- a call with any arguments
    pub call_same : Same (declared.called m c.sub store args)
    call_same = by_count (nat_le (length args) 1000000) refl

  -- ---- a command

  held : (n k : ℕ) (s : Store) → n ≡ length s → declared.may_make k s ≡ true → n + k ≤ 4000005
  held n k s e h = grind (arith, nat_tests)

  not_held : (n k : ℕ) (s : Store) → n ≡ length s → declared.may_make k s ≡ false → 4000005 < n + k
  not_held n k s e h = grind (arith, nat_tests)

  module _ (c : CallCommand) (o : Outcome) (vars : List Operand) (f : Frame) (t0 : ℕ) (goes : is_over o ≡ false) (h : Cells) (s : Store) (long : 5 ≤ length h)
      (none : live_of h ≡ 0) (same : length h ≡ length s) (few : length h ≤ 4000005) where
    abbrev rest : Mach World
    rest = resting o vars f (world h [] 0 [] [] names) t0

    abbrev SameCommand : Type 0
    SameCommand = SameReport names (running.call_report code rest c) (declared.call_report m s c)

    room_same : declared.may_make (length c.args) s ≡ true → SameCommand
    room_same e =
        let fits = held (length h) (length c.args) s same e in
        let called_so : SameReport names (running.call_report code rest c)
        (declared.ended_report c (names_from (length h) c.args) (declared.called m c.sub (s ++ map Int c.args) (names_from (length h) c.args))) =
        rw (all_made c.args h (length h) [] names refl fits) (call_same c o vars f t0 999999 goes h s long none same c.args fits) in
        let P : ℕ → Type 0 =
        λ n. SameReport names (running.call_report code rest c)
        (declared.ended_report c (names_from n c.args) (declared.called m c.sub (s ++ map Int c.args) (names_from n c.args))) in
        rw e (subst P same called_so)

    full_same : declared.may_make (length c.args) s ≡ false → SameCommand
    full_same e = rw (e, not_made c.args h (length h) [] names refl few (not_held (length h) (length c.args) s same e)) (record { text = refl; next = tt })

    by_room : (e : Bool) → declared.may_make (length c.args) s ≡ e → SameCommand
    by_room true e = room_same e
    by_room false e = full_same e

  -- both definitions report the same of a command
  pub command_same : (r : Mach World) (s : Store) (c : CallCommand) → AtRest names r s
      → SameReport names (running.call_report code r c) (declared.call_report m s c)
  command_same r s c a =
      let P : Mach World → Type 0 = λ y. SameReport names (running.call_report code y c) (declared.call_report m s c) in
      subst P (sym a.is) (by_room c a.how a.vars a.frame a.turns a.goes a.cells s a.long a.none a.same a.few (declared.may_make (length c.args) s) refl)
