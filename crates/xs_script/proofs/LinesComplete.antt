-- A command that stands on a line by the grammar is read as that.
use Rattle.std.proofs.Common.{◌≡◌, ℕ, zero, suc, ◌+◌, ◌-◌, ◌<◌, ◌≤◌, Bool, true, false, ◌&&◌, List, [], ◌∷◌, ◌++◌, length, map, append_assoc, refl, ap, ◌∙◌, arith, Ok}
use Rattle.std.specs.Prelude.{codes}
use Rattle.std.proofs.Math.Nat.{zero-max}
use Rattle.std.proofs.lemmas.Bool.{and_right}
use Rattle.std.specs.Str.{bytes_eq}
use Rattle.xs_base.specs.declared.source.Line.{Line}
use Rattle.xs_script.specs.declared.scope.Scope.{Scope}
use Rattle.xs_script.specs.declared.line_part.Token.{Token}
use Rattle.xs_script.specs.declared.line_part.Token.TheVariants as token
use Rattle.xs_script.specs.declared.line_part.Mark.{Mark}
use Rattle.xs_script.specs.declared.line_part.Mark.TheVariants as mark
use Rattle.xs_script.specs.CommandTree.{Expr, Act}
use Rattle.xs_script.specs.Form.{Form, Forms, Pairs, Deed, Written}
use Rattle.xs_script.specs.ScriptGrammar as g
use Rattle.xs_script.specs.ScriptGrammar.{Stands, Elements, Entries, NamesSub, Arguments, Does, AllDo, Command}
use Rattle.xs_base.specs.Readers.{head_is, tail}
use Rattle.xs_script.specs.PartInput.{Input, Outcome, is_word, kind_at, sees, sees_word, next, kind_of, left, after, after_word, expect, sub_name, named, start_of, met, part, names_sub}
use Rattle.xs_script.specs.GrammarMeaning.{made, made_list, act_of, view_of_written, contents_of, met_in, judge, IsWritten}
use Rattle.xs_script.specs.ScriptNumbers.{argument_of}
use Rattle.xs_script.specs.Rules.{listed, arguments_from, some_arguments, arguments, set_action, call, action, actions_from, actions, sees_call, my_command, isa_command, sub_command, variable_command, by_word, at_end, command}
use Rattle.xs_script.specs.Script.{line_of, reading_of, is_skipped}
use Rattle.xs_script.specs.Value.{value, variable, argument, turns}
use Rattle.xs_script.proofs.Forms.{at, out_of_range, met_form, met_list, met_deed, met_deeds, steps, steps_list, steps_pairs, ranged_done}
use Rattle.xs_script.proofs.MarkTotals.{met_written, written_marks}
use Rattle.xs_script.proofs.SpellingComplete.{spelled_done}
use Rattle.xs_script.proofs.PartsComplete.{form_done, not_in_front}
use Rattle.xs_script.specs.declared.command_words.TheConstants.{CALL}

mutual
  pub form_shrinks : {s : Bool} {e : Form} {ts us : List Token} → Stands s e ts us → steps e + length us ≤ length ts
  form_shrinks g.undef = omega arith
  form_shrinks g.number = omega arith
  form_shrinks g.text = omega arith
  form_shrinks (g.variable u) = omega arith
  form_shrinks g.reference = omega arith
  form_shrinks g.argument = omega arith
  form_shrinks (g.array g.nothing_in) = omega arith
  form_shrinks (g.array (g.elements_in x)) = omega (arith, elements_shrink x)
  form_shrinks g.no_pairs = omega arith
  form_shrinks (g.pairs x) = omega (arith, entries_shrink x)

  elements_shrink : {closing : Mark} {s : Bool} {fs : Forms} {ts us : List Token} → Elements closing s fs ts us → steps_list fs + length us ≤ length ts
  elements_shrink (g.last_element x) = omega (arith, form_shrinks x)
  elements_shrink (g.more_elements x y) = omega (arith, form_shrinks x, elements_shrink y)

  entries_shrink : {s : Bool} {ps : Pairs} {ts us : List Token} → Entries s ps ts us → steps_pairs ps + length us ≤ length ts
  entries_shrink (g.last_pair x) = omega (arith, form_shrinks x)
  entries_shrink (g.more_pairs x y) = omega (arith, form_shrinks x, entries_shrink y)

-- an expression that stands is read
pub value_done : {s : Bool} {e : Form} {ts us : List Token} → Stands s e ts us → (i : Input) → value s (at ts i) ≡ Ok (made 0 e, at us (met_form 0 e i))
unfolding value left turns
value_done {s} {e} {ts} {us} x i = form_done x (length ts + 1) (suc (length ts - steps e)) (omega (arith, form_shrinks x)) [] i

some_shrink : {closing : Mark} {s : Bool} {es : Forms} {ts us : List Token} → Elements closing s es ts us → length us < length ts
some_shrink (g.last_element x) = omega (arith, form_shrinks x)
some_shrink (g.more_elements x y) = omega (arith, form_shrinks x, elements_shrink y)

some_done : {s : Bool} {es : Forms} {ts us : List Token} → Elements mark.CloseRound s es ts us → (n : ℕ) → length ts ≤ n → (all : List Expr) (i : Input)
    → arguments_from s n all (at ts i) ≡ Ok (all ++ made_list 0 es, at us (met_list 0 es i))
unfolding listed sees next after expect
some_done x zero few all i = absurd (omega (arith, some_shrink x))
some_done (g.last_element x) (suc n) few all i = rw (value_done x i) refl
some_done (g.more_elements {e = e} {fs = es} {us = us} {vs = vs} x y) (suc n) few all i =
    rw (value_done x i) (some_done y n (omega (arith, form_shrinks x)) (all ++ made 0 e ∷ []) (met_form 0 e i)
    ∙ ap (λ (l : List Expr). let o : Outcome (List Expr) = Ok (l, at vs (met_list 0 es (met_form 0 e i))) in o)
    (append_assoc all (made 0 e ∷ []) (made_list 0 es)))

arguments_done : {s : Bool} {es : Forms} {ts us : List Token} → Arguments s es ts us → (i : Input)
    → arguments s (at ts i) ≡ Ok (made_list 0 es, at us (met_list 0 es i))
unfolding arguments some_arguments sees next after expect left
arguments_done g.nothing_in i = refl
arguments_done (g.elements_in {ts = ts} x) i = rw (not_in_front mark.CloseRound refl refl refl x) (some_done x (length ts) (omega arith) [] i)

arguments_shrink : {s : Bool} {es : Forms} {ts us : List Token} → Arguments s es ts us → length us < length ts
arguments_shrink g.nothing_in = omega arith
arguments_shrink (g.elements_in x) = omega (arith, some_shrink x)

sub_done : {n : List ℕ} {t : Token} → NamesSub n t → (ts : List Token) (i : Input) → sub_name (at (t ∷ ts) i) ≡ Ok (n, at ts i)
unfolding sub_name part kind_of next
sub_done g.bare ts i = refl
sub_done g.in_quotes ts i = refl

sub_kind : {n : List ℕ} {t : Token} → NamesSub n t → (ts : List Token) → names_sub (kind_at (t ∷ ts)) ≡ true
sub_kind g.bare ts = refl
sub_kind g.in_quotes ts = refl

deed_done : {d : Deed} {ts us : List Token} → Does d ts us → (i : Input) → action (at ts i) ≡ Ok (act_of d, at us (met_deed d i))
unfolding action set_action call argument part sees_word after_word sees next after expect
deed_done (g.push x) i = rw (value_done x i) refl
deed_done (g.set {k = k} {ts = ts} x) i =
    rw (ranged_done (argument_of k) 0 k (token.Mark mark.Equals ∷ ts) i, value_done x (out_of_range (argument_of k) k i)) refl
deed_done (g.call {ts = ts} nm x) i = rw (sub_done nm ts i, arguments_done x i) refl
deed_done g.die i = refl

deed_shrinks : {d : Deed} {ts us : List Token} → Does d ts us → length us < length ts
deed_shrinks (g.push x) = omega (arith, form_shrinks x)
deed_shrinks (g.set x) = omega (arith, form_shrinks x)
deed_shrinks (g.call nm x) = omega (arith, arguments_shrink x)
deed_shrinks g.die = omega arith

deeds_done : {ds : List Deed} {ts : List Token} → AllDo ds ts → (n : ℕ) → length ts ≤ n → (all : List Act) (i : Input)
    → actions_from n all (at ts i) ≡ Ok (all ++ map act_of ds, at [] (met_deeds ds i))
unfolding listed sees next after
deeds_done (g.last_deed x) zero few all i = absurd (omega (arith, deed_shrinks x))
deeds_done (g.more_deeds x y) zero few all i = absurd (omega (arith, deed_shrinks x))
deeds_done (g.last_deed x) (suc n) few all i = rw (deed_done x i) refl
deeds_done (g.more_deeds {d = d} {ds = ds} x y) (suc n) few all i =
    rw (deed_done x i) (deeds_done y n (omega (arith, deed_shrinks x)) (all ++ act_of d ∷ []) (met_deed d i)
    ∙ ap (λ (l : List Act). let o : Outcome (List Act) = Ok (l, at [] (met_deeds ds (met_deed d i))) in o) (append_assoc all (act_of d ∷ []) (map act_of ds)))

-- an expression that nothing follows is no call
no_call : {s : Bool} {e : Form} {ts us : List Token} → Stands s e ts us → names_sub (kind_at us) ≡ false
    → (head_is (is_word CALL.now) ts && names_sub (kind_at (tail ts))) ≡ false
no_call g.undef h = refl
no_call g.number h = refl
no_call g.text h = refl
no_call (g.variable {n = n} {ts = us} u) h = and_right (bytes_eq n CALL.now) (names_sub (kind_at us)) h
no_call g.reference h = refl
no_call g.argument h = refl
no_call (g.array g.nothing_in) h = refl
no_call (g.array (g.elements_in x)) h = refl
no_call g.no_pairs h = refl
no_call (g.pairs x) h = refl

pub command_done : {c : Written} {ts : List Token} → Command c ts → (line : ℕ) (i : Input)
    → command line (at ts i) ≡ Ok (view_of_written line c, at [] (met_written c i))
unfolding command at_end by_word my_command call isa_command sub_command variable_command actions sees_call part variable named sees_word after_word sees next
    after expect kind_of left
command_done (g.my x) line i = rw (no_call x refl, value_done x i) refl
command_done (g.my_call {ts = ts} nm x) line i = rw (sub_kind nm ts, sub_done nm ts i, arguments_done x i) refl
command_done g.ro line i = refl
command_done (g.call_sub {ts = ts} nm x) line i = rw (sub_done nm ts i, arguments_done x i) refl
command_done g.show line i = refl
command_done g.drop line i = refl
command_done g.isa line i = refl
command_done (g.sub {ts = ts} nm x) line i = rw (sub_done nm (token.Mark mark.Equals ∷ ts) i, deeds_done x (length ts) (omega arith) [] i) refl

met_done : (c : Written) (scope : Scope) (ts : List Token) → met (at [] (met_written c (start_of scope ts))) ≡ met_in scope c
met_done c scope ts = rw (written_marks c (start_of scope ts), zero-max (contents_of c).reach) refl

pub reading_done : (scope : Scope) (line : Line) (c : Written) (w : IsWritten c line.text)
    → reading_of scope line ≡ Ok (view_of_written line.number c, at [] (met_written c (start_of scope w.0)))
unfolding reading_of
reading_done scope line c w = rw (spelled_done w.1) (command_done w.2 line.number (start_of scope w.0))

-- a command that stands on a line is what the line means
pub line_done : (scope : Scope) (line : Line) (c : Written) → is_skipped line.text ≡ false → IsWritten c line.text
    → line_of scope line ≡ judge scope line.number c
unfolding line_of
line_done scope line c some w = rw (some, reading_done scope line c w, met_done c scope w.0) refl
