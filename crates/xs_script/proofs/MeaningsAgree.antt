-- What is read is what the lines mean, and they mean nothing else.
use Rattle.std.proofs.Common.{◌≡◌, ℕ, Bool, true, false, List, [], ◌∷◌, Option, Some, None, Result, Ok, Err, refl, ap, sym, ◌∙◌, subst, if◌then◌else◌}
use Rattle.std.specs.declared.alloc.Global.{Global}
use Rattle.std.specs.declared.vec.Vec.{Vec}
use Rattle.xs_base.specs.declared.fault.Fault.{Fault}
use Rattle.xs_base.specs.declared.fault.Refuse.{Refuse}
use Rattle.xs_base.specs.declared.fault.Refuse.TheVariants as refuse
use Rattle.xs_base.specs.declared.source.Line.{Line}
use Rattle.xs_base.specs.Lines.{lines_of}
use Rattle.xs_base.specs.Reading.{GivesBy, ◌>>=◌}
use Rattle.xs_script.specs.declared.command.Command.{Command}
use Rattle.xs_script.specs.declared.scope.Scope.{Scope}
use Rattle.xs_script.specs.declared.line_part.Token.{Token}
use Rattle.xs_script.specs.CommandTree.{CommandView}
use Rattle.xs_script.specs.Form.{Written}
use Rattle.xs_script.specs.PartInput.{Input, Outcome, start_of}
use Rattle.xs_script.specs.LineOutcomes.{NoReading}
use Rattle.xs_base.specs.Reading.{with_front}
use Rattle.xs_script.specs.Lex.{tokens_of}
use Rattle.xs_script.specs.GrammarMeaning as m
use Rattle.xs_script.specs.GrammarMeaning.{IsWritten, LineMeans, LinesMean, Means, judge}
use Rattle.xs_script.specs.Script.{line_of, reading_of, read_parts, judged, fault, is_skipped, commands_from, script_of, go_on, scope_after, empty_scope}
use Rattle.xs_script.specs.CommandViews.{command_views}
use Rattle.xs_script.proofs.LinesComplete.{reading_done, line_done}
use Rattle.xs_script.proofs.LinesSound.{command_sound}
use Rattle.xs_script.proofs.SpellingSound.{spelled_sound}
use Rattle.xs_base.specs.declared.fault_codes.TheConstants.{BAD_SCRIPT_LINE}

reading_written : (scope : Scope) (line : Line) (c : CommandView) (i : Input) → reading_of scope line ≡ Ok (c, i) → (w : Written) × IsWritten w line.text
unfolding reading_of
reading_written scope line c i h = by_parts (tokens_of line.text) refl h
  where
    by_parts : (parts : Result (List Token) NoReading) → tokens_of line.text ≡ parts → read_parts scope line.number parts ≡ Ok (c, i)
        → (w : Written) × IsWritten w line.text
    by_parts (Err x) e h = absurd cc
    by_parts (Ok ts) e h = let x = command_sound line.number (start_of scope ts) i c h in (x.0, (ts, spelled_sound line.text ts e, x.1))

err_ok : {A E : Type 0} (e : E) (a : A) → ◌≡◌ {A = Result A E} (Err e) (Ok a) → ⊥
err_ok e a h = cc

-- each line means what is read in it
line_means : (scope : Scope) (line : Line) → LineMeans scope line (line_of scope line)
unfolding line_of
line_means scope line = by_skipped (is_skipped line.text) refl
  where
    by_reading : is_skipped line.text ≡ false → (o : Outcome CommandView) → reading_of scope line ≡ o → LineMeans scope line (judged scope line.number o)
    by_reading s (Err x) e = m.unread s (λ c w. err_ok x _ (sym e ∙ reading_done scope line c w))
    by_reading s (Ok q) e =
        let w = reading_written scope line q.0 q.1 e in
        let same : judge scope line.number w.0 ≡ judged scope line.number (Ok q) = sym (line_done scope line w.0 s w.1) ∙ rw (s, e) refl in
        subst (λ r. LineMeans scope line r) same (m.written s w.1)

    by_skipped : (b : Bool) → is_skipped line.text ≡ b → LineMeans scope line (if b then Ok None else judged scope line.number (reading_of scope line))
    by_skipped true s = m.skipped s
    by_skipped false s = by_reading s (reading_of scope line) refl

-- a line means one thing
line_is : {scope : Scope} {line : Line} {r : Result (Option CommandView) Fault} → LineMeans scope line r → r ≡ line_of scope line
unfolding line_of
line_is (m.skipped s) = rw s refl
line_is (m.unread {scope = scope} {line = line} s none) = rw s (by_reading (reading_of scope line) refl)
  where
    by_reading : (o : Outcome CommandView) → reading_of scope line ≡ o → Err (fault line.number BAD_SCRIPT_LINE []) ≡ judged scope line.number o
    by_reading (Err x) e = refl
    by_reading (Ok q) e = let w = reading_written scope line q.0 q.1 e in absurd (none w.0 w.1)
line_is (m.written {scope = scope} {line = line} {c = c} s w) = sym (line_done scope line c s w)

lines_mean : (lines : List Line) (scope : Scope) → LinesMean scope lines (commands_from lines scope)
unfolding commands_from
lines_mean [] scope = m.no_line
lines_mean (line ∷ lines) scope = by_line (line_of scope line) (line_means scope line) (lines_mean lines)
  where
    by_line : (r : Result (Option CommandView) Fault) → LineMeans scope line r → ((scope' : Scope) → LinesMean scope' lines (commands_from lines scope'))
        → LinesMean scope (line ∷ lines) (r >>= λ command_view. go_on command_view scope (commands_from lines))
    by_line (Err why) x rest = m.faulty_line x
    by_line (Ok None) x rest = m.silent_line x (rest scope)
    by_line (Ok (Some command_view)) x rest = m.command_line x (rest (scope_after command_view scope))

lines_are : {scope : Scope} {lines : List Line} {r : Result (List CommandView) Fault} → LinesMean scope lines r → r ≡ commands_from lines scope
unfolding commands_from
lines_are m.no_line = refl
lines_are (m.faulty_line x) = rw (← line_is x) refl
lines_are (m.silent_line x y) = rw (← line_is x) (lines_are y)
lines_are (m.command_line {command_view = command_view} x y) = rw (← line_is x) (ap (with_front (command_view ∷ [])) (lines_are y))

pub script_means : (result : Result (Vec Command Global) Refuse) (src : List ℕ) → GivesBy command_views result (script_of src) → Means result src
script_means (Ok commands) src e = subst (λ r. LinesMean empty_scope (lines_of src) r) e (lines_mean (lines_of src) empty_scope)
script_means (Err (refuse.Fault why)) src e = subst (λ r. LinesMean empty_scope (lines_of src) r) e (lines_mean (lines_of src) empty_scope)
script_means (Err refuse.Memory) src e = tt

pub script_is : (result : Result (Vec Command Global) Refuse) (src : List ℕ) → GivesBy command_views result (script_of src)
    → (r : Result (List CommandView) Fault) → LinesMean empty_scope (lines_of src) r → GivesBy command_views result r
script_is result src e r x = rw (lines_are x) e
