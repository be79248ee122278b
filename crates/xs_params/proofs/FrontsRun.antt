-- What stands in front of a token brings reading to that token.
use Rattle.std.proofs.Common.{◌≡◌, ◌<◌, true, false, fold, length, arith, List, [], ◌∷◌, ◌++◌, None, Some, refl, ap, sym, ◌∙◌, subst, append_assoc}
use Rattle.std.proofs.lemmas.Bool.{and_parts}
use Rattle.std.specs.Prelude.{codes}
use Rattle.xs_base.specs.declared.source.Line.{Line}
use Rattle.xs_ctok.specs.declared.token.Token.{Token}
use Rattle.xs_params.specs.ListFronts as lf
use Rattle.xs_params.specs.ListFronts.{AreNaming, AreOpen, EndsIn, IsAddress, IsDirection, IsEllipsis, IsLength, IsLengthName, IsLengthOpen, IsMarked, IsPending, IsStarred, Stands, extent_in}
use Rattle.xs_params.specs.ListTokens.{closed_by, is_sign, is_word}
use Rattle.xs_params.specs.ParamGrammar as g
use Rattle.xs_params.specs.ParamGrammar.{AreClosed, AreParams, IsSign, IsWord, are_words, extent_of, words_text}
use Rattle.xs_params.specs.ParamSteps.{bare_head, defaulted, extended, head_of, named, step_of}
use Rattle.xs_params.specs.declared.opens.Bracket.{Bracket}
use Rattle.xs_params.specs.declared.param.Dir.{Dir}
use Rattle.xs_params.specs.declared.param.Param.{Param}
use Rattle.xs_params.specs.declared.states.Due.{Due}
use Rattle.xs_params.specs.declared.states.Due.TheVariants as due
use Rattle.xs_params.specs.declared.states.Head.{Head}
use Rattle.xs_params.specs.declared.states.Named.{Named}
use Rattle.xs_params.specs.declared.states.Pending.{Pending}
use Rattle.xs_params.specs.declared.states.Step.TheVariants as step
use Rattle.xs_params.specs.declared.states.Typed.{Typed}
use Rattle.xs_params.proofs.ListComplete as lc
use Rattle.xs_params.proofs.ListComplete.{NameRuns, ParamsRun, Runs, Start, address_word, begun_word, bracket_after, by_ended, by_on, closed_run, comma_after, default_step, direction_word, dots_begin, equals_after, extent_over, extent_over_after, extent_over_some, first_word, length_close, length_word, name_runs, next_word, no_tokens, none_of, param_runs, params_run, pending, run_then, sign_ends, starred_run, stars_word, type_runs, words_run, words_typed, words_word}
use Rattle.xs_params.proofs.TokenFacts.{opening, opening_no_end, sign_is, word_no_sign}

-- parameters with `,` after each, and a part of one
ends_in_run : {src : List Line} {d : Due} {ps : List Param} {ts : List Token} {P : List Token → Type 0} (e : EndsIn src ps ts P)
    → ((at : Due) → Start src at → Runs src at ps e.here d ps) → Runs src due.First [] ts d ps
ends_in_run {src} {d} {ps} e go =
    let b = params_run e.params in
    subst (λ us. Runs src due.First [] us d ps) (sym e.stand) (run_then b.runs (go b.at b.start))

direction_run : {src : List Line} {at : Due} {ps : List Param} {us : List Token} {direction : Dir} {n : Named} → Start src at → IsDirection direction n us
    → Runs src at ps us (due.Direction direction n) ps
direction_run {src} {at} {ps} {us} {direction} {n} start x =
    subst (λ vs. Runs src at ps vs (due.Direction direction n) ps) (sym x.stand)
    (subst (λ m. Runs src at ps (x.word ∷ []) (due.Direction direction m) ps) (sym x.named_so)
    (by_on (start.begins x.word (word_no_sign (codes ")") x.word x.is) ∙ begun_word x.word x.is (Some direction) x.says)))

naming_run : {src : List Line} {at : Due} {ps : List Param} {us : List Token} {n : Named} → Start src at → AreNaming us n → Runs src at ps us (due.Words n) ps
naming_run start (lf.first directed word) = first_word start directed word
naming_run {src} {at} {ps} start (lf.further {ds} {direction} {w} more n directed words word) =
    let head : Named = named (bare_head direction w.span.line) false w in
    let m = fold next_word head more in
    let p = words_parts w more words in
    let all : Runs src at ps (((ds ++ w ∷ []) ++ more) ++ n ∷ []) (due.Words (next_word m n)) ps =
    run_then (run_then (first_word start directed p.0) (words_run more p.1 head)) (by_on (words_word src m n word)) in
    let is : next_word m n ≡ named (record { dir = direction; ctype = Some (words_text w more); type_line = w.span.line }) false n =
    ap (λ typed. named (head_of typed) false n) (words_typed more head) in
    let whole : ((ds ++ w ∷ []) ++ more) ++ n ∷ [] ≡ ds ++ ((w ∷ more) ++ n ∷ []) =
    ap (λ us. us ++ n ∷ []) (append_assoc ds (w ∷ []) more) ∙ append_assoc ds (w ∷ more) (n ∷ []) in
    subst (λ us. Runs src at ps us (due.Words (named (record { dir = direction; ctype = Some (words_text w more); type_line = w.span.line }) false n)) ps) whole
    (subst (λ x. Runs src at ps (((ds ++ w ∷ []) ++ more) ++ n ∷ []) (due.Words x) ps) is all)
  where
    words_parts : (w : Token) (more : List Token) → are_words (w ∷ more) ≡ true → IsWord w × (are_words more ≡ true)
    words_parts w more h = and_parts (is_word w) (are_words more) h

address_run : {src : List Line} {at : Due} {ps : List Param} {us : List Token} {typed : Typed} → Start src at → IsAddress typed us
    → Runs src at ps us (due.Address typed) ps
address_run {src} {at} {ps} {us} {typed} start x =
    let y = type_runs start x.is in
    subst (λ vs. Runs src at ps vs (due.Address typed) ps) (sym x.stand) (run_then y.runs (by_on (y.address x.sign x.address)))

marked_run : {src : List Line} {at : Due} {ps : List Param} {us : List Token} {n : Named} → Start src at → IsMarked us n → Runs src at ps us (due.Name n) ps
marked_run {src} start (lf.starred {typed = typed} n starred word) = run_then (starred_run start starred) (by_on (stars_word src typed n word))
marked_run {src} start (lf.addressed {typed = typed} n address word) = run_then (address_run start address) (by_on (address_word src typed n word))

length_open_run : {src : List Line} {at : Due} {ps : List Param} {us : List Token} {head : Head} → Start src at → IsLengthOpen head us
    → Runs src at ps us (due.LengthOpen head) ps
length_open_run {src} {at} {ps} {us} {head} start x =
    let m = name_runs start x.is in
    let o = x.sign in
    subst (λ vs. Runs src at ps vs (due.LengthOpen head) ps) (sym x.stand)
    (subst (λ h. Runs src at ps (x.before ++ o ∷ []) (due.LengthOpen h) ps) (sym x.head_is)
    (run_then m.runs (by_on (m.follows o (sign_ends (codes "(") o x.bracket refl refl) ∙ bracket_after x.n o x.bracket x.word))))

length_name_run : {src : List Line} {at : Due} {ps : List Param} {us : List Token} {m : Named} → Start src at → IsLengthName m us
    → Runs src at ps us (due.LengthName m) ps
length_name_run {src} {at} {ps} {us} {m} start x =
    subst (λ vs. Runs src at ps vs (due.LengthName m) ps) (sym x.stand)
    (subst (λ n. Runs src at ps (x.before ++ x.name ∷ []) (due.LengthName n) ps) (sym x.named_so)
    (run_then (length_open_run start x.opens) (by_on (length_word src x.head x.name x.is))))

length_run : {src : List Line} {at : Due} {ps : List Param} {us : List Token} {p : Param} → Start src at → IsLength p us → Runs src at ps us (due.Length p) ps
length_run {src} {at} {ps} {us} {p} start x =
    subst (λ vs. Runs src at ps vs (due.Length p) ps) (sym x.stand)
    (subst (λ q. Runs src at ps (x.before ++ x.sign ∷ []) (due.Length q) ps) (sym x.param_is)
    (run_then (length_name_run start x.is) (by_on (length_close src x.name x.sign x.bracket))))

-- ---- defaults

opened_run : {src : List Line} {ps : List Param} (opens : List Bracket) {ts : List Token} → AreOpen opens ts → (p : Param)
    → Runs src (pending p [] None) ps ts (pending p opens (extent_over None ts)) ps
opened_run [] closed p = closed_run closed p [] refl None
opened_run {src} {ps} (b ∷ outer) {ts} h p =
    let before = h.0 in
    let t = h.1 in
    let inner = h.2 in
    let x = extent_over None before in
    let no_end = opening_no_end t b (opening t b h.5) in
    let opens_it : step_of src (pending p outer x) t ≡ step.On (pending p (b ∷ outer) (Some (extended x t))) =
    default_step src p outer x t (none_of outer (is_sign (codes ",") t) (is_sign (codes ")") t) no_end.no_comma no_end.no_close) no_end.no_directive (Some b)
    (closed_by t) h.5 refl in
    let all : Runs src (pending p [] None) ps (before ++ t ∷ inner) (pending p (b ∷ outer) (extent_over (Some (extended x t)) inner)) ps =
    run_then (opened_run outer h.4 p) (run_then (by_on opens_it) (closed_run h.6 p (b ∷ outer) refl (Some (extended x t)))) in
    subst (λ us. Runs src (pending p [] None) ps us (pending p (b ∷ outer) (extent_over None us)) ps) (sym h.3)
    (subst (λ y. Runs src (pending p [] None) ps (before ++ t ∷ inner) (pending p (b ∷ outer) y) ps) (extent_over_after None before (t ∷ inner)) all)

extent_over_in : (ts : List Token) → extent_over None ts ≡ extent_in ts
extent_over_in [] = refl
extent_over_in (t ∷ ts) = extent_over_some (extended None t) ts

pending_run : {src : List Line} {at : Due} {ps : List Param} {us : List Token} (d : Pending) → Start src at → IsPending d us
    → Runs src at ps us (due.Default d) ps
pending_run {src} {at} {ps} {us} d start x =
    let m = name_runs start x.is in
    let e = x.sign in
    let begun_so = by_on (m.follows e (sign_ends (codes "=") e x.equals refl refl) ∙ equals_after x.n e x.equals x.may) in
    let all : Runs src at ps (x.before ++ e ∷ x.tokens) (pending (defaulted x.n) d.opens (extent_over None x.tokens)) ps =
    run_then m.runs (run_then begun_so (opened_run d.opens x.are_open (defaulted x.n))) in
    subst (λ vs. Runs src at ps vs (due.Default d) ps) (sym x.stand)
    (subst (λ y. Runs src at ps (x.before ++ e ∷ x.tokens) (pending d.param d.opens y) ps) (extent_over_in x.tokens ∙ sym x.extent_is)
    (subst (λ q. Runs src at ps (x.before ++ e ∷ x.tokens) (pending q d.opens (extent_over None x.tokens)) ps) (sym x.param_is) all))

ellipsis_run : {src : List Line} {ps : List Param} {ts : List Token} → IsEllipsis src ps ts → Runs src due.First [] ts due.Ellipsis ps
ellipsis_run {src} {ps} x =
    let b = params_run x.params in
    subst (λ us. Runs src due.First [] us due.Ellipsis ps) (sym x.stand)
    (run_then b.runs (by_on (b.start.begins x.sign (sign_is (codes ")") (codes "...") x.sign x.is) ∙ dots_begin x.sign x.is)))

first_run : {src : List Line} {ps : List Param} {ts : List Token} → (ts ≡ []) × (ps ≡ []) → Runs src due.First [] ts due.First ps
first_run {src} {ps} {ts} h = subst (λ us. Runs src due.First [] us due.First ps) (sym h.0)
    (subst (λ qs. Runs src due.First [] [] due.First qs) (sym h.1) no_tokens)

next_run : {src : List Line} {ps : List Param} {ts : List Token} → AreParams src ts ps → 0 < length ps → Runs src due.First [] ts due.Next ps
next_run g.nothing some = absurd (omega (arith, some))
next_run (g.more {p = p} c params is h) some =
    let b = params_run params in
    let m = param_runs b.start is in
    run_then b.runs (run_then m.runs (by_ended (m.follows c (lc.comma h) ∙ comma_after p c h)))

pub front_run : (src : List Line) (d : Due) (ps : List Param) (ts : List Token) → Stands src d ps ts → Runs src due.First [] ts d ps
front_run src due.First ps ts h = first_run h
front_run src due.Next ps ts h = next_run h.0 h.1
front_run src (due.Direction direction n) ps ts h = ends_in_run h (λ at start. direction_run start h.part)
front_run src (due.Words n) ps ts h = ends_in_run h (λ at start. naming_run start h.part)
front_run src (due.Stars typed) ps ts h = ends_in_run h (λ at start. starred_run start h.part)
front_run src (due.Address typed) ps ts h = ends_in_run h (λ at start. address_run start h.part)
front_run src (due.Name n) ps ts h = ends_in_run h (λ at start. marked_run start h.part)
front_run src (due.LengthOpen head) ps ts h = ends_in_run h (λ at start. length_open_run start h.part)
front_run src (due.LengthName m) ps ts h = ends_in_run h (λ at start. length_name_run start h.part)
front_run src (due.Length p) ps ts h = ends_in_run h (λ at start. length_run start h.part)
front_run src (due.Default d) ps ts h = ends_in_run h (λ at start. pending_run d start h.part)
front_run src due.Ellipsis ps ts h = ellipsis_run h
