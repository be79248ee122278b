-- The arguments of a call, made one after the other.
use Rattle.std.proofs.Common.{◌≡◌, ◌≢◌, ℤ, pos, ℕ, ◌+◌, ◌<◌, Bool, true, false, cond, List, [], ◌∷◌, ◌++◌, drop, length, None, Some, Result, Ok, Err, IfOk, OnOk, refl, sym, ap, ◌∙◌, subst, append-nil}
use Rattle.std.proofs.Math.ListN.{get_or}
use Rattle.std.proofs.lemmas.List.{drop_more}
use Rattle.std.specs.Prelude.{if◌then◌else◌}
use Rattle.xs_call.specs.MachineTranscript.{end_of, call_report, call_report_with, report_at_end, most_turns}
use Rattle.xs_sim.specs.MadeArguments.{Made, AllMade, NotMade, args_made, with_name}
use Rattle.xs_api.specs.Rows.{with_mortal, new_mortal, trapped}
use Rattle.xs_api.specs.declared.api.Operand.TheVariants.{Scalar}
use Rattle.xs_api.specs.declared.api.Frame.{Frame}
use Rattle.xs_api.specs.declared.api.Abrupt.TheVariants.{Traps}
use Rattle.xs_api.specs.Effects.{Gives, Ends}
use Rattle.xs_api.specs.World.{World, may_make}
use Rattle.xs_machine.specs.Machine.{Mach, called, with_world}
use Rattle.xs_machine.specs.MachineViews.{MakesArgument}
use Rattle.xs_api.specs.declared.api.Stop.{Stop}
use Rattle.xs_api.specs.declared.api.Stop.TheVariants as stop
use Rattle.xs_call.specs.Reports.{IsReported, MakesArguments}
use Rattle.xs_meaning.specs.Transcript.{call_text, calls_report, go_on}
use Rattle.xs_meaning.specs.declared.call_command.CallCommand.{CallCommand}
use Rattle.xs_call.specs.declared.running.Reported.{Reported}
use Rattle.xs_machine.specs.declared.machine.Outcome.{Outcome}
use Rattle.xs_machine.specs.declared.machine.Outcome.TheVariants as outcome
use Rattle.xs_ctree.specs.TypedTree.{Code}
use Rattle.xs_base.specs.declared.memory.Memory.{Memory}
use Rattle.xs_values.specs.declared.plain.Plain.TheVariants.{Int}
use Rattle.xs_values.specs.declared.trap.Trap.{Trap}
use Rattle.xs_values.specs.declared.trap.Trap.TheVariants.{Large}

-- names that were made before others
abbrev pub before : List ℕ → Made → Made
before [] made = made
before (n ∷ names) made = with_name n (before names made)

pub before_last : (names : List ℕ) (n : ℕ) (made : Made) → before (names ++ n ∷ []) made ≡ before names (with_name n made)
before_last [] n made = refl
before_last (k ∷ names) n made = ap (with_name k) (before_last names n made)

pub before_all : (names : List ℕ) (w : World) → before names (AllMade [] w) ≡ AllMade names w
before_all [] w = refl
before_all (k ∷ names) w = ap (with_name k) (before_all names w)

pub before_none : (names : List ℕ) (trap : Trap) → before names (NotMade trap) ≡ NotMade trap
before_none [] trap = refl
before_none (k ∷ names) trap = ap (with_name k) (before_none names trap)

made_by : (b : Bool) (zs : List ℤ) (k n : ℕ) (f : Frame) (w w' w1 : World) → cond b (Gives (Scalar (Some k)) f w') (trapped Large f w)
    ≡ Gives (Scalar (Some n)) f w1 → cond b (with_name k (args_made zs w')) (NotMade Large) ≡ with_name n (args_made zs w1)
made_by true zs k n f w w' w1 e = cc
made_by false zs k n f w w' w1 e = cc

-- one argument is made, and then the others
pub one_made : (z : ℤ) (zs : List ℤ) (f : Frame) (w w1 : World) (n : ℕ) → new_mortal (Int z) f w ≡ Gives (Scalar (Some n)) f w1
    → args_made (z ∷ zs) w ≡ with_name n (args_made zs w1)
one_made z zs f w w1 n e = made_by (may_make w.cells) zs (length w.cells) n f w (with_mortal (Int z) w) w1 e

stopped_by : (b : Bool) (made : Made) (k : ℕ) (f : Frame) (w w' : World) (t : Trap) → cond b (Gives (Scalar (Some k)) f w') (trapped Large f w)
    ≡ Ends (Traps t) f w → cond b made (NotMade Large) ≡ NotMade t
stopped_by true made k f w w' t e = cc
stopped_by false made k f w w' t e = cc

-- an argument is not made, so none is
pub none_made : (z : ℤ) (zs : List ℤ) (f : Frame) (w : World) (t : Trap) → new_mortal (Int z) f w ≡ Ends (Traps t) f w → args_made (z ∷ zs) w ≡ NotMade t
none_made z zs f w t e = stopped_by (may_make w.cells) (with_name (length w.cells) (args_made zs (with_mortal (Int z) w))) (length w.cells) f w
    (with_mortal (Int z) w) t e

-- ---- the turns of the loop

-- the next value in front of those after it
pub next_is_reported : (values : List ℤ) (i : ℕ) (names : List ℕ) (w : World) (start : Made) → i < length values → before names (args_made (drop i values) w)
    ≡ start → before names (args_made (get_or values i (pos 0) ∷ drop (i + 1) values) w) ≡ start
next_is_reported values i names w start here e = ap (λ zs. before names (args_made zs w)) (sym (drop_more values i (pos 0) here)) ∙ e

pub more_is_reported : (values zs : List ℤ) (z : ℤ) (names : List ℕ) (n : ℕ) (start old new : Mach World) → before names (args_made (z ∷ zs) old.state.store)
    ≡ args_made values start.state.store → MakesArgument (Int z) old (Ok n) new → before (names ++ n ∷ []) (args_made zs new.state.store)
    ≡ args_made values start.state.store
more_is_reported values zs z names n start old new e m =
    before_last names n (args_made zs new.state.store)
    ∙ ap (before names) (sym (one_made z zs old.state.frame old.state.store new.state.store n (m.0 old.state.frame))) ∙ e

pub same_but_world : (start old new : Mach World) (z : ℤ) (n : ℕ) → old ≡ with_world old.state.store start → MakesArgument (Int z) old (Ok n) new
    → new ≡ with_world new.state.store start
same_but_world start old new z n e m = m.1 ∙ ap (with_world new.state.store) e

pub stop_is_reported : (values zs : List ℤ) (z : ℤ) (names : List ℕ) (s : Stop) (start old new : Mach World) → before names (args_made (z ∷ zs) old.state.store)
    ≡ args_made values start.state.store → old ≡ with_world old.state.store start → MakesArgument (Int z) old (Err s) new
    → MakesArguments values start (Err s) new
stop_is_reported values zs z names (stop.Trap t) start old new e w m = (
  sym e ∙ ap (before names) (none_made z zs old.state.frame old.state.store t (m.0.0 old.state.frame)) ∙ before_none names t,
  ap (λ k. k.pending) m.1
      ∙ ap (λ k. k.pending) w,
)
stop_is_reported values zs z names stop.Memory start old new e w m = record {}

pub end_report : (values : List ℤ) (names : List ℕ) (start now : Mach World) → before names (args_made [] now.state.store) ≡ args_made values start.state.store
    → args_made values start.state.store ≡ AllMade names now.state.store
end_report values names start now e = sym e ∙ before_all names now.state.store

-- ---- a call

pub call_is_reported :
    (r : Result Reported Memory) (code : Code) (c : CallCommand) (names head : List ℕ) (o : Outcome) (start made at_end new : Mach World)
    → MakesArguments c.args start (Ok names) made
    → (o ≢ outcome.Memory → (at_end ≡ called code c.sub names most_turns made) × (o ≡ at_end.stopped))
    → head ≡ call_text c
    → IfOk r (λ t. IsReported (report_at_end head names (end_of o) at_end) t new)
    → OnOk r (o ≢ outcome.Memory)
    → IfOk r (λ t. IsReported (call_report code start c) t new)
call_is_reported (Err e) code c names head o start made at_end new ma ca he reported some = record {}
call_is_reported (Ok t) code c names head o start made at_end new ma ca he reported some =
    let ran = ca some in
    let world = made.state.store in
    let front : call_report code start c ≡ call_report_with code c start (AllMade names world) = ap (call_report_with code c start) ma.0 in
    let same : called code c.sub names most_turns made ≡ called code c.sub names most_turns (with_world world start) =
    ap (called code c.sub names most_turns) ma.1 in
    let whole = ran.0 ∙ same in
    let end : report_at_end head names (end_of o) at_end ≡ call_report_with code c start (AllMade names world) =
    ap (λ h. report_at_end h names (end_of o) at_end) he ∙ ap (λ x. report_at_end (call_text c) names (end_of x) at_end) ran.1
    ∙ ap (λ m. report_at_end (call_text c) names (end_of m.stopped) m) whole in
    subst (λ x. IsReported x t new) (end ∙ sym front) reported

-- ---- the calls of a script

pub call_goes_on : (code : Code) (m new : Mach World) (c : CallCommand) (cs : List CallCommand) (t : Reported) → IsReported (call_report code m c) t new
    → t.goes_on ≡ true → calls_report (call_report code) m (c ∷ cs) ≡ t.text ++ calls_report (call_report code) new cs
call_goes_on code m new c cs t h g =
    ap (λ x. x ++ go_on (call_report code m c).next (λ next. calls_report (call_report code) next cs)) (sym h.text_is)
    ∙ ap (λ n. t.text ++ go_on n (λ next. calls_report (call_report code) next cs)) (h.next_is ∙ ap (λ b. if b then Some new else None) g)

-- A call that ends the script: nothing is reported after it.
pub call_ends : (code : Code) (m new : Mach World) (c : CallCommand) (cs : List CallCommand) (t : Reported) → IsReported (call_report code m c) t new
    → t.goes_on ≡ false → calls_report (call_report code) m (c ∷ cs) ≡ t.text
call_ends code m new c cs t h g =
    ap (λ x. x ++ go_on (call_report code m c).next (λ next. calls_report (call_report code) next cs)) (sym h.text_is)
    ∙ ap (λ n. t.text ++ go_on n (λ next. calls_report (call_report code) next cs)) (h.next_is ∙ ap (λ b. if b then Some new else None) g)
    ∙ append-nil t.text
