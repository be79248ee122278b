-- How the commands of lines go on.
use Rattle.std.proofs.Common.{◌≡◌, ℕ, suc, ◌+◌, ◌<◌, ◌≤◌, List, [], ◌∷◌, ◌++◌, length, get_or, drop, Some, None, Result, Ok, refl, ap, ◌∙◌, arith}
use Rattle.std.proofs.lemmas.List.{append-nil}
use Rattle.std.proofs.Math.Seq.{drop-cons}
use Rattle.std.proofs.Math.ListN.{drop_of_length-le}
use Rattle.xs_base.specs.declared.fault.Fault.{Fault}
use Rattle.xs_base.specs.declared.fault.Refuse.{Refuse}
use Rattle.xs_base.specs.declared.source.Line.{Line}
use Rattle.xs_base.specs.Reading.{Fails, ◌>>=◌, with_front}
use Rattle.xs_script.specs.declared.scope.Scope.{Scope}
use Rattle.xs_script.specs.CommandTree.{CommandView}
use Rattle.xs_script.specs.Script.{line_of, commands_from, go_on, scope_after}
use Rattle.xs_base.proofs.Collecting.{fails_then, with_front-with_front}

commands_from-drop : (lines : List Line) (i : ℕ) (d : Line) (scope : Scope) → i < length lines
    → commands_from (drop i lines) scope ≡ (line_of scope (get_or lines i d) >>= λ command_view. go_on command_view scope (commands_from (drop (i + 1) lines)))
unfolding commands_from
commands_from-drop lines i d scope h =
    let s : suc i ≡ i + 1 = omega arith in
    ap (λ (l : List Line). commands_from l scope) (drop-cons lines i d h)
    ∙ ap (λ n. line_of scope (get_or lines i d) >>= λ command_view. go_on command_view scope (commands_from (drop n lines))) s

pub some_command : (before : List CommandView) (lines : List Line) (i : ℕ) (d : Line) (scope : Scope) (command_view : CommandView) → i < length lines
    → line_of scope (get_or lines i d) ≡ Ok (Some command_view)
    → with_front before (commands_from (drop i lines) scope)
    ≡ with_front (before ++ command_view ∷ []) (commands_from (drop (i + 1) lines) (scope_after command_view scope))
some_command before lines i d scope command_view h e =
    rw (commands_from-drop lines i d scope h, e)
    (with_front-with_front before (command_view ∷ []) (commands_from (drop (i + 1) lines) (scope_after command_view scope)))

pub no_command : (before : List CommandView) (lines : List Line) (i : ℕ) (d : Line) (scope : Scope) → i < length lines
    → line_of scope (get_or lines i d) ≡ Ok None
    → with_front before (commands_from (drop i lines) scope) ≡ with_front before (commands_from (drop (i + 1) lines) scope)
no_command before lines i d scope h e = rw (commands_from-drop lines i d scope h, e) refl

pub line_fails : (e : Refuse) (before : List CommandView) (lines : List Line) (i : ℕ) (d : Line) (scope : Scope) → i < length lines
    → Fails e (line_of scope (get_or lines i d))
    → Fails e (with_front before (commands_from (drop i lines) scope))
line_fails e before lines i d scope h fails =
    rw (commands_from-drop lines i d scope h)
    (fails_then e before (line_of scope (get_or lines i d)) (λ command_view. go_on command_view scope (commands_from (drop (i + 1) lines))) fails)

pub all_lines : (before : List CommandView) (lines : List Line) (i : ℕ) (scope : Scope) → length lines ≤ i
    → with_front before (commands_from (drop i lines) scope) ≡ Ok before
unfolding commands_from
all_lines before lines i scope h =
    rw (drop_of_length-le lines h) (ap (λ (l : List CommandView). let r : Result (List CommandView) Fault = Ok l in r) (append-nil before))
