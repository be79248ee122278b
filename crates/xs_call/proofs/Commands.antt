-- One command: both definitions report the same of it, and leave what fits together.
use Rattle.std.proofs.Common.{◌≡◌, ℕ, ℤ, ◌+◌, ◌≤◌, arith, false, List, [], ◌++◌, length, Option, refl, sym, ap, subst, ◌∙◌, length-append}
use Rattle.xs_api.specs.declared.api.Frame.{Frame}
use Rattle.xs_api.specs.declared.api.Operand.{Operand}
use Rattle.xs_api.specs.declared.api.Registered.{Registered}
use Rattle.xs_machine.specs.declared.machine.Outcome.{Outcome}
use Rattle.xs_machine.specs.declared.machine.Outcome.TheVariants as outcome
use Rattle.xs_machine.specs.Machine.{Mach, is_over}
use Rattle.xs_api.specs.World.{Cells, World, live_of}
use Rattle.xs_values.specs.declared.trap.Trap.{Trap}
use Rattle.xs_call.specs.Headline.{BothGoOn}
use Rattle.xs_meaning.specs.declared.call_command.CallCommand.{CallCommand}
use Rattle.xs_meaning.specs.DeclaredMeaning as declared
use Rattle.xs_meaning.specs.DeclaredMeaning.{Store, show_in}
use Rattle.xs_call.specs.MachineTranscript as running
use Rattle.xs_call.specs.MachineTranscript.{end_of, show_cell}
use Rattle.xs_meaning.specs.Transcript.{Returned, Croaked, Trapped, Report, call_text, end_lines, live_line}
use Rattle.xs_sim.specs.RunnerStates.{EndsAs, resting, world, made, gone, newest}
use Rattle.xs_sim.proofs.Temporaries.{all_swept, length-gone, none_left}

-- the machine between two commands, over names, beside the declared store
pub record AtRest (names : List Registered) (m : Mach World) (s : Store) : Type 0 where
  pub how : Outcome
  pub vars : List Operand
  pub frame : Frame
  pub turns : ℕ
  pub cells : Cells
  pub is : m ≡ resting how vars frame (world cells [] 0 [] [] names) turns
  pub goes : is_over how ≡ false
  pub long : 5 ≤ length cells
  pub none : live_of cells ≡ 0
  pub same : length cells ≡ length s
  pub few : length cells ≤ 4000005

abbrev pub SameNext : List Registered → Option (Mach World) → Option Store → Type 0
SameNext names = BothGoOn (AtRest names)

-- both report the same, and both go on or neither does
pub record SameReport (names : List Registered) (a : Report (Mach World)) (b : Report Store) : Type 0 where
  pub text : a.text ≡ b.text
  pub next : SameNext names a.next b.next

-- what is reported of a command after a call that ended so
pub report_after : (names : List Registered) (c : CallCommand) (args : List ℕ) (m : Mach World) (o : Outcome) (w : World) (b : Report Store) → EndsAs m o w
    → ((vars : List Operand) (f : Frame) (turns : ℕ) → SameReport names (running.report_at_end (call_text c) args (end_of o) (resting o vars f w turns)) b)
    → SameReport names (running.report_at_end (call_text c) args (end_of m.stopped) m) b
report_after names c args m o w b e f =
    let P : Mach World → Type 0 = λ x. SameReport names (running.report_at_end (call_text c) args (end_of x.stopped) x) b in
    subst P (sym e.is) (f e.vars e.frame e.turns)

pub trapped_after : (names : List Registered) (c : CallCommand) (args : List ℕ) (m : Mach World) (trap : Trap) (w : World) (s : Store)
    → EndsAs m (outcome.Trapped trap) w
    → SameReport names (running.report_at_end (call_text c) args (end_of m.stopped) m) (declared.report_at_end c args (Trapped trap) s)
trapped_after names c args m trap w s e =
    report_after names c args m (outcome.Trapped trap) w (declared.report_at_end c args (Trapped trap) s) e (λ vars f turns. record { text = refl; next = tt })

-- ---- after a call that goes on

-- what a call that goes on leaves: its temporaries are numbers that all were made since the rest
pub record Leaves (s : Store) (h : Cells) (zs : List ℤ) : Type 0 where
  pub long : 5 ≤ length h
  pub none : live_of h ≡ 0
  pub same : length s ≡ length h + length zs
  pub few : length h + length zs ≤ 4000005

module _ (names : List Registered) (c : CallCommand) (args : List ℕ) (vars : List Operand) (f : Frame) (turns : ℕ) (held : List ℕ) (top : ℕ) (h : Cells)
    (zs : List ℤ) (s : Store) (left : Leaves s h zs) where
  abbrev after : World
  after = world (h ++ made zs) held top [] (newest (length h) zs []) names

  abbrev settled : World
  settled = world (h ++ gone zs) [] 0 [] [] names

  rests : (o : Outcome) → is_over o ≡ false → AtRest names (resting o vars f settled turns) s
  rests o goes = record {
    how = o;
    vars = vars;
    frame = f;
    turns = turns;
    cells = h ++ gone zs;
    is = refl;
    goes = goes;
    long = omega (arith, left.long, length-append h (gone zs));
    none = none_left h zs left.long left.none;
    same = omega (arith, left.same, length-append h (gone zs), length-gone zs);
    few = omega (arith, left.few, length-append h (gone zs), length-gone zs);
  }

  text_same : (lines others : List ℕ) → lines ≡ others → (call_text c ++ lines) ++ live_line (live_of (h ++ gone zs)) 0 0
      ≡ (call_text c ++ others) ++ live_line 0 0 0
  text_same lines others e =
      ap (λ n. (call_text c ++ lines) ++ live_line n 0 0) (none_left h zs left.long left.none) ∙ ap (λ l. (call_text c ++ l) ++ live_line 0 0 0) e

  pub returned_reported : (items : List ℕ) → end_lines (show_cell (h ++ made zs)) args (Returned items) ≡ end_lines (show_in s) args (Returned items)
      → SameReport names (running.report_at_end (call_text c) args (Returned items) (resting (outcome.Returned items) vars f after turns))
      (declared.report_at_end c args (Returned items) s)
  returned_reported items e =
      rw (all_swept zs h (length h) held top names refl left.long)
      (record {
        text = text_same (end_lines (show_cell (h ++ made zs)) args (Returned items)) (end_lines (show_in s) args (Returned items)) e;
        next = rests (outcome.Returned items) refl;
      })

  pub croaked_reported : (text : List ℕ) → end_lines (show_cell (h ++ made zs)) args (Croaked text) ≡ end_lines (show_in s) args (Croaked text)
      → SameReport names (running.report_at_end (call_text c) args (Croaked text) (resting (outcome.Croaked text) vars f after turns))
      (declared.report_at_end c args (Croaked text) s)
  croaked_reported text e =
      rw (all_swept zs h (length h) held top names refl left.long)
      (record {
        text = text_same (end_lines (show_cell (h ++ made zs)) args (Croaked text)) (end_lines (show_in s) args (Croaked text)) e;
        next = rests (outcome.Croaked text) refl;
      })
