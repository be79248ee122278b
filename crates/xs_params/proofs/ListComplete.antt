-- Each list of the grammar is read.
use Rattle.std.proofs.Common.{◌≡◌, ℕ, ◌<◌, Bool, true, false, not, ◌&&◌, ◌||◌, fold, List, [], ◌∷◌, ◌++◌, length, map, Option, None, Some, refl, ap, ap₂, sym, ◌∙◌, subst, arith, append_assoc, append-nil}
use Rattle.std.proofs.lemmas.Bool.{and_parts}
use Rattle.std.specs.Prelude.{codes}
use Rattle.std.specs.Str.{bytes_eq}
use Rattle.xs_base.specs.declared.source.Line.{Line}
use Rattle.xs_ctok.specs.declared.token.Token.{Token}
use Rattle.xs_params.specs.ListFronts.{IsStarred}
use Rattle.xs_params.specs.ListTokens.{closed_by, direction_of, is_directive, is_sign, is_word, opened_by}
use Rattle.xs_params.specs.ParamGrammar as g
use Rattle.xs_params.specs.ParamGrammar.{AreClosed, AreParams, IsDirected, IsList, IsNamed, IsParam, IsSign, IsTyped, IsWord, are_stars, are_words, extent_of, is_plain, stars_text, words_text}
use Rattle.xs_params.specs.ParamLists.{by_step, form_from, form_of, formed}
use Rattle.xs_params.specs.ParamSteps.{after_address, after_direction, after_ellipsis, after_length_name, after_name, after_param, after_stars, after_words, are_none, bare_head, begun, begun_by, begun_first, by_brackets, closed_in, default_token, defaulted, dir_or_in, extended, head_of, in_default, in_length, is_length_word, length_of, may_have_default, named, param_of, same_bracket, step_of, typed_of, with_default, with_stars}
use Rattle.xs_params.specs.declared.form.Ending.TheVariants as ending
use Rattle.xs_params.specs.declared.opens.Bracket.{Bracket}
use Rattle.xs_params.specs.declared.opens.Bracket.TheVariants as bracket
use Rattle.xs_params.specs.declared.param.Dir.{Dir}
use Rattle.xs_params.specs.declared.param.Param.{Param}
use Rattle.xs_params.specs.declared.states.Due.{Due}
use Rattle.xs_params.specs.declared.states.Due.TheVariants as due
use Rattle.xs_params.specs.declared.states.Extent.{Extent}
use Rattle.xs_params.specs.declared.states.Head.{Head}
use Rattle.xs_params.specs.declared.states.Named.{Named}
use Rattle.xs_params.specs.declared.states.Step.{Step}
use Rattle.xs_params.specs.declared.states.Step.TheVariants as step
use Rattle.xs_params.specs.declared.states.Typed.{Typed}
use Rattle.xs_params.proofs.ListSteps.{is_inside}
use Rattle.xs_params.proofs.TokenFacts.{closing, closing_closes, no_close, opening, opening_no_end, sign_is, sign_no_word, word_no_sign}

-- ---- reading over tokens

-- Reading goes from a state over these tokens to another, and these parameters become those.
pub record Runs (src : List Line) (d : Due) (ps : List Param) (us : List Token) (e : Due) (qs : List Param) : Type 0 where
  pub goes : (more : List Token) → form_from src d ps (us ++ more) ≡ form_from src e qs more

pub by_result : (src : List Line) (d : Due) (ps : List Param) (t : Token) (us : List Token) (s : Step) → step_of src d t ≡ s → form_from src d ps (t ∷ us)
    ≡ by_step ps t (λ e qs. form_from src e qs us) s
unfolding form_from
by_result src d ps t us s is = ap (by_step ps t (λ e qs. form_from src e qs us)) is

pub by_on : {src : List Line} {d e : Due} {ps : List Param} {t : Token} → step_of src d t ≡ step.On e → Runs src d ps (t ∷ []) e ps
by_on {src} {d} {e} {ps} {t} h = record { goes = λ more. by_result src d ps t more (step.On e) h }

pub by_ended : {src : List Line} {d : Due} {ps : List Param} {p : Param} {t : Token} → step_of src d t ≡ step.Ended p
    → Runs src d ps (t ∷ []) due.Next (ps ++ p ∷ [])
by_ended {src} {d} {ps} {p} {t} h = record { goes = λ more. by_result src d ps t more (step.Ended p) h }

pub run_then : {src : List Line} {d e f : Due} {ps qs rs : List Param} {us vs : List Token} → Runs src d ps us e qs → Runs src e qs vs f rs
    → Runs src d ps (us ++ vs) f rs
run_then {src} {d} {ps = ps} {us = us} {vs = vs} p q =
    record { goes = λ more. ap (form_from src d ps) (append_assoc us vs more) ∙ (p.goes (vs ++ more) ∙ q.goes more) }

pub no_tokens : {src : List Line} {d : Due} {ps : List Param} → Runs src d ps [] d ps
no_tokens = record { goes = λ more. refl }

-- ---- the begin of a parameter

-- A parameter may begin here.
pub record Start (src : List Line) (d : Due) : Type 0 where
  pub begins : (t : Token) → is_sign (codes ")") t ≡ false → step_of src d t ≡ begun t

pub at_next : (src : List Line) → Start src due.Next
unfolding step_of
at_next src = record { begins = λ t h. refl }

pub at_first : (src : List Line) → Start src due.First
unfolding step_of begun_first
at_first src = record { begins = λ t h. rw h refl }

pub begun_word : (t : Token) → IsWord t → (o : Option Dir) → direction_of t.text ≡ o → begun t ≡ step.On (begun_by o t)
unfolding begun
begun_word t word o says = rw (word, says) refl

pub direction_word : (src : List Line) (direction : Dir) (n : Named) (t : Token) → IsWord t → step_of src (due.Direction direction n) t
    ≡ step.On (due.Words (named (bare_head (Some direction) t.span.line) false t))
unfolding step_of after_direction
direction_word src direction n t word = rw word refl

pub first_word : {src : List Line} {d : Due} {ps : List Param} {before : List Token} {o : Option Dir} {t : Token} → Start src d → IsDirected before o t
    → IsWord t
    → Runs src d ps (before ++ t ∷ []) (due.Words (named (bare_head o t.span.line) false t)) ps
first_word {t = t} start (g.without none) word = by_on (start.begins t (word_no_sign (codes ")") t word) ∙ begun_word t word None none)
first_word {src} {t = t} start (g.with_direction {d = w} {direction = direction} is says) word =
    run_then (by_on (start.begins w (word_no_sign (codes ")") w is) ∙ begun_word w is (Some direction) says))
    (by_on (direction_word src direction (named (bare_head None w.span.line) false w) t word))

-- ---- words and stars

abbrev pub next_word : Named → Token → Named
next_word n t = named (head_of (typed_of n)) false t

pub words_word : (src : List Line) (n : Named) (t : Token) → IsWord t → step_of src (due.Words n) t ≡ step.On (due.Words (next_word n t))
unfolding step_of after_words
words_word src n t word = rw word refl

pub words_run : {src : List Line} {ps : List Param} (more : List Token) → are_words more ≡ true → (n : Named)
    → Runs src (due.Words n) ps more (due.Words (fold next_word n more)) ps
words_run [] words n = no_tokens
words_run {src} (t ∷ ts) words n =
    let p = and_parts (is_word t) (are_words ts) words in
    run_then (by_on (words_word src n t p.0)) (words_run ts p.1 (next_word n t))

-- the type of words
pub words_typed : (more : List Token) (n : Named) → typed_of (fold next_word n more)
    ≡ record { dir = n.head.dir; ctype = fold (λ text (t : Token). text ++ 32 ∷ t.text) (typed_of n).ctype more; type_line = n.head.type_line }
words_typed [] n = refl
words_typed (t ∷ ts) n = words_typed ts (next_word n t)

pub stars_star : (src : List Line) (typed : Typed) (t : Token) → IsSign (codes "*") t → step_of src (due.Stars typed) t
    ≡ step.On (due.Stars (with_stars (codes "*") typed))
unfolding step_of after_stars
stars_star src typed t star = rw star refl

abbrev pub one_starred : Typed → Token → Typed
one_starred typed t = with_stars (codes "*") typed

pub stars_run : {src : List Line} {ps : List Param} (ss : List Token) → are_stars ss ≡ true → (typed : Typed)
    → Runs src (due.Stars typed) ps ss (due.Stars (fold one_starred typed ss)) ps
stars_run [] stars typed = no_tokens
stars_run {src} (s ∷ ss) stars typed =
    let p = and_parts (is_sign (codes "*") s) (are_stars ss) stars in
    run_then (by_on (stars_star src typed s p.0)) (stars_run ss p.1 (one_starred typed s))

pub stars_typed : (ss : List Token) (typed : Typed) → fold one_starred typed ss
    ≡ record { dir = typed.dir; ctype = typed.ctype ++ map (λ (_ : Token). 42) ss; type_line = typed.type_line }
stars_typed [] typed = ap (λ text. record { dir = typed.dir; ctype = text; type_line = typed.type_line }) (sym (append-nil typed.ctype))
stars_typed (s ∷ ss) typed =
    stars_typed ss (one_starred typed s)
    ∙ ap (λ text. record { dir = typed.dir; ctype = text; type_line = typed.type_line }) (append_assoc typed.ctype (42 ∷ []) (map (λ (_ : Token). 42) ss))

-- ---- names

-- no token that stands in a type or before a name
pub record Ends (t : Token) : Type 0 where
  pub no_word : is_word t ≡ false
  pub no_star : is_sign (codes "*") t ≡ false
  pub no_address : is_sign (codes "&") t ≡ false

-- Reading comes over these tokens to what is the name of a parameter.
pub record NameRuns (src : List Line) (d : Due) (ps : List Param) (us : List Token) (n : Named) : Type 0 where
  pub at : Due
  pub runs : Runs src d ps us at ps
  pub follows : (t : Token) → Ends t → step_of src at t ≡ after_name n t

pub words_end : (src : List Line) (n : Named) (t : Token) → Ends t → step_of src (due.Words n) t ≡ after_name n t
unfolding step_of after_words
words_end src n t e = rw (e.no_word, e.no_star, e.no_address) refl

pub name_end : (src : List Line) (n : Named) (t : Token) → Ends t → step_of src (due.Name n) t ≡ after_name n t
unfolding step_of
name_end src n t e = refl

pub direction_end : (src : List Line) (direction : Dir) (n : Named) (t : Token) → Ends t → step_of src (due.Direction direction n) t ≡ after_name n t
unfolding step_of after_direction
direction_end src direction n t e = rw e.no_word refl

-- Reading comes over these tokens to a type, after which a name stands.
pub record TypeRuns (src : List Line) (d : Due) (ps : List Param) (us : List Token) (typed : Typed) : Type 0 where
  pub at : Due
  pub runs : Runs src d ps us at ps
  pub name : (t : Token) → IsWord t → NameRuns src at ps (t ∷ []) (named (head_of typed) false t)
  pub address : (t : Token) → IsSign (codes "&") t → step_of src at t ≡ step.On (due.Address typed)

pub words_address : (src : List Line) (n : Named) (t : Token) → IsSign (codes "&") t → step_of src (due.Words n) t ≡ step.On (due.Address (typed_of n))
unfolding step_of after_words
words_address src n t address = rw (sign_no_word (codes "&") t address, sign_is (codes "*") (codes "&") t address, address) refl

pub stars_address : (src : List Line) (typed : Typed) (t : Token) → IsSign (codes "&") t → step_of src (due.Stars typed) t ≡ step.On (due.Address typed)
unfolding step_of after_stars
stars_address src typed t address = rw (sign_is (codes "*") (codes "&") t address, address) refl

pub stars_word : (src : List Line) (typed : Typed) (t : Token) → IsWord t → step_of src (due.Stars typed) t ≡ step.On (due.Name (named (head_of typed) false t))
unfolding step_of after_stars
stars_word src typed t word = rw (word_no_sign (codes "*") t word, word_no_sign (codes "&") t word, word) refl

pub words_star : (src : List Line) (n : Named) (t : Token) → IsSign (codes "*") t → step_of src (due.Words n) t
    ≡ step.On (due.Stars (with_stars (codes " *") (typed_of n)))
unfolding step_of after_words
words_star src n t star = rw (sign_no_word (codes "*") t star, star) refl

-- a type of words alone
pub word_type : {src : List Line} {d : Due} {ps : List Param} {us : List Token} (n : Named) → Runs src d ps us (due.Words n) ps
    → TypeRuns src d ps us (typed_of n)
word_type {src} n runs =
    record {
      at = due.Words n;
      runs = runs;
      name = λ t word. record { at = due.Words (next_word n t); runs = by_on (words_word src n t word); follows = words_end src (next_word n t) };
      address = words_address src n;
    }

pub star_type : {src : List Line} {d : Due} {ps : List Param} {us : List Token} (typed : Typed) → Runs src d ps us (due.Stars typed) ps
    → TypeRuns src d ps us typed
star_type {src} typed runs =
    record {
      at = due.Stars typed;
      runs = runs;
      name = λ t word. record {
        at = due.Name (named (head_of typed) false t);
        runs = by_on (stars_word src typed t word);
        follows = name_end src
            (named (head_of typed) false t);
      };
      address = stars_address src typed;
    }

abbrev pub typed_with : Named → List Token → Typed
typed_with n ss = record { dir = n.head.dir; ctype = (typed_of n).ctype ++ stars_text ss; type_line = n.head.type_line }

-- stars after words
pub stars_so : {src : List Line} {d : Due} {ps : List Param} {us : List Token} (n : Named) → Runs src d ps us (due.Words n) ps
    → (s : Token) (ss : List Token) → are_stars (s ∷ ss) ≡ true
    → Runs src d ps (us ++ s ∷ ss) (due.Stars (typed_with n (s ∷ ss))) ps
stars_so {src} {d} {ps} {us} n runs s ss stars =
    let p = and_parts (is_sign (codes "*") s) (are_stars ss) stars in
    let first : Typed = with_stars (codes " *") (typed_of n) in
    let all : Runs src d ps (us ++ s ∷ ss) (due.Stars (fold one_starred first ss)) ps =
    run_then runs (run_then (by_on (words_star src n s p.0)) (stars_run ss p.1 first)) in
    let is : fold one_starred first ss ≡ typed_with n (s ∷ ss) =
    stars_typed ss first
    ∙ ap (λ text. record { dir = n.head.dir; ctype = text; type_line = n.head.type_line })
    (append_assoc (typed_of n).ctype (codes " *") (map (λ (_ : Token). 42) ss)) in
    subst (λ x. Runs src d ps (us ++ s ∷ ss) (due.Stars x) ps) is all

-- words and stars after a direction or none
pub typed_so : {src : List Line} {d : Due} {ps : List Param} {us : List Token} (n : Named) → Runs src d ps us (due.Words n) ps → (ss : List Token)
    → are_stars ss ≡ true
    → TypeRuns src d ps (us ++ ss) (typed_with n ss)
typed_so {src} {d} {ps} {us} n runs [] stars =
    subst (λ vs. TypeRuns src d ps vs (typed_with n [])) (sym (append-nil us))
    (subst (λ text. TypeRuns src d ps us (record { dir = n.head.dir; ctype = text; type_line = n.head.type_line })) (sym (append-nil (typed_of n).ctype))
    (word_type n runs))
typed_so n runs (s ∷ ss) stars = star_type (typed_with n (s ∷ ss)) (stars_so n runs s ss stars)

-- Reading comes over the words of a type.
pub record WordsRun (src : List Line) (d : Due) (ps : List Param) (ts stars : List Token) (typed : Typed) : Type 0 where
  pub over : List Token
  pub n : Named
  pub runs : Runs src d ps over (due.Words n) ps
  pub stand : over ++ stars ≡ ts
  pub is : typed_with n stars ≡ typed

pub words_of : {src : List Line} {d : Due} {ps : List Param} {ts : List Token} {typed : Typed} → Start src d → (y : IsTyped ts typed)
    → WordsRun src d ps ts y.stars typed
words_of {src} {d} {ps} {ts} {typed} start y =
    let p = and_parts (is_word y.first) (are_words y.more) y.words in
    let head : Named = named (bare_head typed.dir y.first.span.line) false y.first in
    let says = words_typed y.more head in
    record {
      over = (y.before ++ y.first ∷ []) ++ y.more;
      n = fold next_word head y.more;
      runs = run_then (first_word start y.directed p.0) (words_run y.more p.1 head);
      stand = ap (λ us. us ++ y.stars) (append_assoc y.before (y.first ∷ []) y.more) ∙ append_assoc y.before (y.first ∷ y.more) y.stars ∙ sym y.stand;
      is =
          ap (λ (x : Typed). record { dir = x.dir; ctype = x.ctype ++ stars_text y.stars; type_line = x.type_line }) says
          ∙ ap₂ (λ text line. record { dir = typed.dir; ctype = text; type_line = line }) (sym y.text) (sym y.line);
    }

pub type_runs : {src : List Line} {d : Due} {ps : List Param} {ts : List Token} {typed : Typed} → Start src d → IsTyped ts typed → TypeRuns src d ps ts typed
type_runs {src} {d} {ps} {ts} {typed} start y =
    let w : WordsRun src d ps ts y.stars typed = words_of start y in
    subst (λ us. TypeRuns src d ps us typed) w.stand (subst (TypeRuns src d ps (w.over ++ y.stars)) w.is (typed_so w.n w.runs y.stars y.are_stars))

pub starred_run : {src : List Line} {d : Due} {ps : List Param} {ts : List Token} {typed : Typed} → Start src d → IsStarred ts typed
    → Runs src d ps ts (due.Stars typed) ps
starred_run {src} {d} {ps} {ts} {typed} start x =
    let y = x.is in
    let w : WordsRun src d ps ts y.stars typed = words_of start y in
    subst (λ us. Runs src d ps us (due.Stars typed) ps) w.stand
    (subst (λ z. Runs src d ps (w.over ++ y.stars) (due.Stars z) ps) w.is (some y.stars x.some y.are_stars w.n w.runs))
  where
    some : (ss : List Token) → 0 < length ss → are_stars ss ≡ true → {us : List Token} (n : Named) → Runs src d ps us (due.Words n) ps
        → Runs src d ps (us ++ ss) (due.Stars (typed_with n ss)) ps
    some [] h stars n runs = absurd (omega (arith, h))
    some (s ∷ ss) h stars n runs = stars_so n runs s ss stars

pub address_word : (src : List Line) (typed : Typed) (t : Token) → IsWord t → step_of src (due.Address typed) t
    ≡ step.On (due.Name (named (head_of typed) true t))
unfolding step_of after_address
address_word src typed t word = rw word refl

pub name_runs : {src : List Line} {d : Due} {ps : List Param} {ts : List Token} {n : Named} → Start src d → IsNamed ts n → NameRuns src d ps ts n
name_runs {src} {d} {ps} start (g.alone {n} word) = alone (direction_of n.text) refl
  where
    alone : (o : Option Dir) → direction_of n.text ≡ o → NameRuns src d ps (n ∷ []) (named (bare_head None n.span.line) false n)
    alone None says = record {
      at = due.Words (named (bare_head None n.span.line) false n);
      runs = by_on (start.begins n (word_no_sign (codes ")") n word) ∙ begun_word n word None says);
      follows = words_end src (named (bare_head None n.span.line) false n);
    }
    alone (Some direction) says = record {
      at = due.Direction direction (named (bare_head None n.span.line) false n);
      runs = by_on (start.begins n (word_no_sign (codes ")") n word) ∙ begun_word n word (Some direction) says);
      follows = direction_end src direction (named (bare_head None n.span.line) false n);
    }
name_runs {src} start (g.directed {n = n} {direction = direction} is says word) =
    record {
      at = due.Words (named (bare_head (Some direction) n.span.line) false n);
      runs = first_word start (g.with_direction is says) word;
      follows = words_end src (named (bare_head (Some direction) n.span.line) false n);
    }
name_runs start (g.typed n typed word) =
    let y = type_runs start typed in
    let m = y.name n word in
    record { at = m.at; runs = run_then y.runs m.runs; follows = m.follows }
name_runs {src} start (g.by_address {type = type} a n typed address word) =
    let y = type_runs start typed in
    record {
      at = due.Name (named (head_of type) true n);
      runs = run_then y.runs (run_then (by_on (y.address a address)) (by_on (address_word src type n word)));
      follows = name_end src (named (head_of type) true n);
    }

-- ---- defaults

abbrev pub extent_over : Option Extent → List Token → Option Extent
extent_over x ts = fold (λ y t. Some (extended y t)) x ts

pub extent_over_some : (x : Extent) (ts : List Token) → extent_over (Some x) ts ≡ Some (fold (λ y t. extended (Some y) t) x ts)
extent_over_some x [] = refl
extent_over_some x (t ∷ ts) = extent_over_some (extended (Some x) t) ts

pub extent_over_after : (x : Option Extent) (ts us : List Token) → extent_over (extent_over x ts) us ≡ extent_over x (ts ++ us)
extent_over_after x [] us = refl
extent_over_after x (t ∷ ts) us = extent_over_after (Some (extended x t)) ts us

abbrev pub pending : Param → List Bracket → Option Extent → Due
pending p opens x = due.Default (record { param = p; opens = opens; extent = x })

pub default_step : (src : List Line) (p : Param) (opens : List Bracket) (x : Option Extent) (t : Token)
    → (are_none opens && (is_sign (codes ",") t || is_sign (codes ")") t)) ≡ false → is_directive t ≡ false
    → (o c : Option Bracket) → opened_by t ≡ o → closed_by t ≡ c → step_of src (pending p opens x) t
    ≡ by_brackets (record { param = p; opens = opens; extent = x }) o c t
unfolding step_of in_default default_token
default_step src p opens x t goes_on no_directive o c opens_it closes_it = rw (goes_on, no_directive, opens_it, closes_it) refl

pub none_of : (opens : List Bracket) (a b : Bool) → a ≡ false → b ≡ false → (are_none opens && (a || b)) ≡ false
none_of [] a b x y = rw (x, y) refl
none_of (o ∷ os) a b x y = refl

pub plain_no_directive : (inside : Bool) (t : Token) → is_plain inside t ≡ true → is_directive t ≡ false
plain_no_directive inside t h = no (is_directive t) refl (and_parts (not (is_directive t)) (not (is_sign (codes ",") t && not inside)) h).0
  where
    no : (b : Bool) → is_directive t ≡ b → not b ≡ true → b ≡ false
    no true e f = absurd cc
    no false e f = refl

pub plain_goes_on : (opens : List Bracket) (t : Token) → is_plain (is_inside opens) t ≡ true → closed_by t ≡ None
    → (are_none opens && (is_sign (codes ",") t || is_sign (codes ")") t)) ≡ false
plain_goes_on (b ∷ bs) t h closes = refl
plain_goes_on [] t h closes = rw (
  no_comma (is_sign (codes ",") t) (and_parts (not (is_directive t)) (not (is_sign (codes ",") t && true)) h).1,
  no_close t
      closes,
) refl
  where
    no_comma : (a : Bool) → not (a && true) ≡ true → a ≡ false
    no_comma true e = absurd cc
    no_comma false e = refl

pub same_self : (b : Bracket) → same_bracket b b ≡ true
same_self bracket.Round = refl
same_self bracket.Square = refl
same_self bracket.Curly = refl

pub closes_itself : (p : Param) (b : Bracket) (outer : List Bracket) (x : Option Extent) (t : Token)
    → closed_in (record { param = p; opens = b ∷ outer; extent = x }) (b ∷ outer) b t ≡ step.On (pending p outer (Some (extended x t)))
closes_itself p b outer x t = rw (same_self b) refl

pub closed_run : {src : List Line} {ps : List Param} {inside : Bool} {ts : List Token} → AreClosed inside ts → (p : Param) (opens : List Bracket)
    → is_inside opens ≡ inside → (x : Option Extent)
    → Runs src (pending p opens x) ps ts (pending p opens (extent_over x ts)) ps
closed_run g.nothing p opens is x = no_tokens
closed_run {src} {inside = inside} (g.plain {t = t} {ts = ts} plain opens_none closes_none rest) p opens is x =
    let there : is_plain (is_inside opens) t ≡ true = subst (λ b. is_plain b t ≡ true) (sym is) plain in
    run_then (by_on (default_step src p opens x t (plain_goes_on opens t there closes_none) (plain_no_directive (is_inside opens) t there) None None
    opens_none closes_none ∙ on_plain))
    (closed_run rest p opens is (Some (extended x t)))
  where
    on_plain : by_brackets (record { param = p; opens = opens; extent = x }) None None t ≡ step.On (pending p opens (Some (extended x t)))
    on_plain = refl
closed_run {src} {ps} (g.bracket {t = t} {b = b} {ts = ts} {us = us} u opens_it inner closes_it rest) p opens is x =
    let no_end = opening_no_end t b (opening t b opens_it) in
    let closes = closing_closes u b (closing u b closes_it) in
    let y : Option Extent = extent_over (Some (extended x t)) ts in
    let first : Runs src (pending p opens x) ps (t ∷ []) (pending p (b ∷ opens) (Some (extended x t))) ps =
    by_on (default_step src p opens x t (none_of opens (is_sign (codes ",") t) (is_sign (codes ")") t) no_end.no_comma no_end.no_close) no_end.no_directive
    (Some b) (closed_by t) opens_it refl ∙ on_open) in
    let last : Runs src (pending p (b ∷ opens) y) ps (u ∷ []) (pending p opens (Some (extended y u))) ps =
    by_on (default_step src p (b ∷ opens) y u refl closes.no_directive None (Some b) closes.no_open closes_it ∙ closes_itself p b opens y u) in
    let all : Runs src (pending p opens x) ps (t ∷ (ts ++ u ∷ us)) (pending p opens (extent_over (Some (extended y u)) us)) ps =
    run_then first (run_then (closed_run inner p (b ∷ opens) refl (Some (extended x t))) (run_then last (closed_run rest p opens is (Some (extended y u))))) in
    subst (λ z. Runs src (pending p opens x) ps (t ∷ (ts ++ u ∷ us)) (pending p opens z) ps) (extent_over_after (Some (extended x t)) ts (u ∷ us)) all
  where
    on_open : by_brackets (record { param = p; opens = opens; extent = x }) (Some b) (closed_by t) t ≡ step.On (pending p (b ∷ opens) (Some (extended x t)))
    on_open = refl

-- ---- parameters

-- what ends a parameter
pub data EndsParam (t : Token) : Type 0 where
  comma : IsSign (codes ",") t → EndsParam t
  close : IsSign (codes ")") t → EndsParam t

pub sign_ends : (b : List ℕ) (t : Token) → IsSign b t → bytes_eq b (codes "*") ≡ false → bytes_eq b (codes "&") ≡ false → Ends t
sign_ends b t h star address =
    record { no_word = sign_no_word b t h; no_star = sign_is (codes "*") b t h ∙ star; no_address = sign_is (codes "&") b t h ∙ address }

pub ends_name : (t : Token) → EndsParam t → Ends t
ends_name t (comma h) = sign_ends (codes ",") t h refl refl
ends_name t (close h) = sign_ends (codes ")") t h refl refl

-- Reading comes over these tokens to the end of a parameter.
pub record ParamRuns (src : List Line) (d : Due) (ps : List Param) (us : List Token) (p : Param) : Type 0 where
  pub at : Due
  pub runs : Runs src d ps us at ps
  pub follows : (t : Token) → EndsParam t → step_of src at t ≡ after_param p t

pub name_param : (n : Named) (t : Token) → EndsParam t → after_name n t ≡ after_param (param_of n) t
unfolding after_name after_param
name_param n t (comma h) = rw h refl
name_param n t (close h) = rw (sign_is (codes ",") (codes ")") t h, h) refl

pub equals_after : (n : Named) (t : Token) → IsSign (codes "=") t → may_have_default (dir_or_in n.head.dir) ≡ true → after_name n t
    ≡ step.On (pending (defaulted n) [] None)
unfolding after_name
equals_after n t h may = rw (sign_is (codes ",") (codes "=") t h, sign_is (codes ")") (codes "=") t h, h, may) refl

pub bracket_after : (n : Named) (t : Token) → IsSign (codes "(") t → is_length_word n ≡ true → after_name n t ≡ step.On (due.LengthOpen n.head)
unfolding after_name
bracket_after n t h word = rw (sign_is (codes ",") (codes "(") t h, sign_is (codes ")") (codes "(") t h, sign_is (codes "=") (codes "(") t h, h, word) refl

pub default_then : (src : List Line) (p : Param) (x : Extent) (t : Token) → EndsParam t → step_of src (pending p [] (Some x)) t
    ≡ after_param (with_default src p x) t
unfolding step_of in_default
default_then src p x t (comma h) = rw h refl
default_then src p x t (close h) = rw (sign_is (codes ",") (codes ")") t h, h) refl

pub length_word : (src : List Line) (head : Head) (t : Token) → IsWord t → step_of src (due.LengthOpen head) t ≡ step.On (due.LengthName (named head false t))
unfolding step_of in_length
length_word src head t word = rw word refl

pub length_close : (src : List Line) (m : Named) (t : Token) → IsSign (codes ")") t → step_of src (due.LengthName m) t ≡ step.On (due.Length (length_of m))
unfolding step_of after_length_name
length_close src m t h = rw h refl

pub length_then : (src : List Line) (p : Param) (t : Token) → EndsParam t → step_of src (due.Length p) t ≡ after_param p t
unfolding step_of
length_then src p t e = refl

pub param_runs : {src : List Line} {d : Due} {ps : List Param} {ts : List Token} {p : Param} → Start src d → IsParam src ts p → ParamRuns src d ps ts p
param_runs start (g.plain {n = n} is) =
    let m = name_runs start is in
    record { at = m.at; runs = m.runs; follows = λ t e. m.follows t (ends_name t e) ∙ name_param n t e }
param_runs {src} start (g.preset {us = us} {n = n} {t = t} e is may equals closed) =
    let m = name_runs start is in
    let p = defaulted n in
    let begun_so = by_on (m.follows e (sign_ends (codes "=") e equals refl refl) ∙ equals_after n e equals may) in
    record {
      at = pending p [] (extent_over None (t ∷ us));
      runs = run_then m.runs (run_then begun_so (closed_run closed p [] refl None));
      follows = λ u ends. ap (λ x. step_of src (pending p [] x) u) (over t us) ∙ default_then src p (extent_of t us) u ends;
    }
  where
    over : (t : Token) (us : List Token) → extent_over None (t ∷ us) ≡ Some (extent_of t us)
    over t us = extent_over_some (extended None t) us
param_runs {src} start (g.length {n = n} o w c is word bracket name close_it) =
    let m = name_runs start is in
    let opens = by_on (m.follows o (sign_ends (codes "(") o bracket refl refl) ∙ bracket_after n o bracket word) in
    record {
      at = due.Length (length_of (named n.head false w));
      runs = run_then m.runs (run_then opens (run_then (by_on (length_word src n.head w name)) (by_on (length_close src (named n.head false w) c close_it))));
      follows = length_then src (length_of (named n.head false w));
    }

-- ---- lists

pub comma_after : (p : Param) (t : Token) → IsSign (codes ",") t → after_param p t ≡ step.Ended p
unfolding after_param
comma_after p t h = rw h refl

pub close_after : (p : Param) (t : Token) → IsSign (codes ")") t → after_param p t ≡ step.Closed (Some p) false
unfolding after_param
close_after p t h = rw (sign_is (codes ",") (codes ")") t h, h) refl

-- Reading comes over parameters that each have `,` after them to where a parameter may begin.
pub record ParamsRun (src : List Line) (ts : List Token) (ps : List Param) : Type 0 where
  pub at : Due
  pub start : Start src at
  pub runs : Runs src due.First [] ts at ps

pub params_run : {src : List Line} {ts : List Token} {ps : List Param} → AreParams src ts ps → ParamsRun src ts ps
params_run {src} g.nothing = record { at = due.First; start = at_first src; runs = no_tokens }
params_run {src} (g.more {p = p} c params is h) =
    let before = params_run params in
    let m = param_runs before.start is in
    record {
      at = due.Next;
      start = at_next src;
      runs = run_then before.runs (run_then m.runs (by_ended (m.follows c (comma h) ∙ comma_after p c h)));
    }

pub dots_begin : (t : Token) → IsSign (codes "...") t → begun t ≡ step.On due.Ellipsis
unfolding begun
dots_begin t h = rw (sign_no_word (codes "...") t h, h) refl

pub ellipsis_close : (src : List Line) (t : Token) → IsSign (codes ")") t → step_of src due.Ellipsis t ≡ step.Closed None true
unfolding step_of after_ellipsis
ellipsis_close src t h = rw h refl

pub first_close : (src : List Line) (t : Token) → IsSign (codes ")") t → step_of src due.First t ≡ step.Closed None false
unfolding step_of begun_first
first_close src t h = rw h refl

-- Reading comes to a state in which the last token closes the list.
pub closes_there : {src : List Line} {d e : Due} {ps qs : List Param} {us : List Token} {last : Option Param} {ellipsis : Bool} (c : Token) (more : List Token)
    → Runs src d ps us e qs → step_of src e c ≡ step.Closed last ellipsis → form_from src d ps ((us ++ c ∷ []) ++ more)
    ≡ formed qs last (ending.Closed ellipsis c.span)
closes_there {src} {d} {e} {ps} {qs} {us} {last} {ellipsis} c more runs h = ap (form_from src d ps) (append_assoc us (c ∷ []) more)
    ∙ (runs.goes (c ∷ more) ∙ by_result src e qs c more (step.Closed last ellipsis) h)

pub list_complete : (src : List Line) (front rest : List Token) (params : List Param) (ellipsis : Bool) (c : Token) → IsList src c front params ellipsis
    → form_of src (front ++ rest) ≡ record { named = params; ending = ending.Closed ellipsis c.span }
list_complete src _ rest _ _ c (g.empty h) = by_result src due.First [] c rest (step.Closed None false) (first_close src c h)
list_complete src _ rest _ _ c (g.params {ts = ts} {us = us} {p = p} params is h) =
    let before = params_run params in
    let m = param_runs before.start is in
    ap (λ vs. form_of src (vs ++ rest)) (sym (append_assoc ts us (c ∷ [])))
    ∙ closes_there c rest (run_then before.runs m.runs) (m.follows c (close h) ∙ close_after p c h)
list_complete src _ rest _ _ c (g.ellipsis {ts = ts} {ps = ps} e params dots h) =
    let before = params_run params in
    let on = by_on (before.start.begins e (sign_is (codes ")") (codes "...") e dots) ∙ dots_begin e dots) in
    ap (λ vs. form_of src (vs ++ rest)) (sym (append_assoc ts (e ∷ []) (c ∷ [])))
    ∙ closes_there c rest (run_then before.runs on) (ellipsis_close src c h)
    ∙ ap (λ qs. record { named = qs; ending = ending.Closed true c.span }) (append-nil ps)
