-- A token that has a reading goes on with what stands in front of it, or ends the list.
use Rattle.std.proofs.Common.{◌≡◌, ◌<◌, Bool, true, false, not, ◌&&◌, ◌||◌, List, [], ◌∷◌, ◌++◌, length, Option, None, Some, refl, ap, sym, ◌∙◌, subst, arith, append_assoc, append-nil}
use Rattle.std.proofs.lemmas.Bool.{and_parts, cond_both}
use Rattle.std.proofs.lemmas.List.{map-append, length-append}
use Rattle.std.proofs.lemmas.List.Sums.{fold-append}
use Rattle.std.specs.Option.{option_to_list}
use Rattle.std.specs.Prelude.{codes, if◌then◌else◌}
use Rattle.xs_base.proofs.AllPass.{all-append}
use Rattle.xs_base.specs.declared.source.Line.{Line}
use Rattle.xs_ctok.specs.declared.token.Token.{Token}
use Rattle.xs_params.specs.ListFronts as lf
use Rattle.xs_params.specs.ListFronts.{AreNaming, AreOpen, EndsIn, IsAddress, IsDirection, IsEllipsis, IsLength, IsLengthName, IsLengthOpen, IsMarked, IsPending, IsStarred, Stands, extent_in}
use Rattle.xs_params.specs.ListTokens.{closed_by, direction_of, is_directive, is_sign, is_word, opened_by}
use Rattle.xs_params.specs.ParamGrammar as g
use Rattle.xs_params.specs.ParamGrammar.{AreClosed, AreParams, IsDirected, IsList, IsNamed, IsParam, IsSign, IsTyped, IsWord, are_stars, are_words, extent_of, is_plain, stars_text, words_text}
use Rattle.xs_params.specs.ParamSteps.{after_address, after_direction, after_ellipsis, after_length_name, after_name, after_param, after_stars, after_words, are_none, bare_head, begun, begun_by, begun_first, by_brackets, closed_in, default_ended, default_token, defaulted, ends_default, extended, head_of, in_default, in_length, is_length_word, length_of, may_have_default, named, param_of, same_bracket, step_of, typed_of, with_default, with_stars, with_word}
use Rattle.xs_params.specs.declared.opens.Bracket.{Bracket}
use Rattle.xs_params.specs.declared.opens.Bracket.TheVariants as bracket
use Rattle.xs_params.specs.declared.param.Dir.{Dir}
use Rattle.xs_params.specs.declared.param.Param.{Param}
use Rattle.xs_params.specs.declared.states.Due.{Due}
use Rattle.xs_params.specs.declared.states.Due.TheVariants as due
use Rattle.xs_params.specs.declared.states.Head.{Head}
use Rattle.xs_params.specs.declared.states.Named.{Named}
use Rattle.xs_params.specs.declared.states.Pending.{Pending}
use Rattle.xs_params.specs.declared.states.Step.{Step}
use Rattle.xs_params.specs.declared.states.Step.TheVariants as step
use Rattle.xs_params.specs.declared.states.Typed.{Typed}

-- ---- what a step comes to

-- What holds of tokens of which the last is this one, by what that does after the others.
abbrev pub StepStands : List Line → List Param → Token → List Token → Step → Type 0
StepStands src ps t ts (step.On next) = Stands src next ps ts
StepStands src ps t ts (step.Ended p) = AreParams src ts (ps ++ p ∷ [])
StepStands src ps t ts (step.Closed last ellipsis) = IsList src t ts (ps ++ option_to_list last) ellipsis
StepStands src ps t ts (step.Stray last) = Unit {0}

by_test : {A : Type 0} (P : A → Type 0) (b : Bool) {x y : A} → (b ≡ true → P x) → (b ≡ false → P y) → P (if b then x else y)
by_test P b {x} {y} p q = cond_both b x y P p q

-- the part grows by a token
pub grown : {src : List Line} {ps : List Param} {ts : List Token} {P Q : List Token → Type 0} (t : Token) (e : EndsIn src ps ts P) → Q (e.here ++ t ∷ [])
    → EndsIn src ps (ts ++ t ∷ []) Q
grown t e q =
    record {
      before = e.before;
      here = e.here ++ t ∷ [];
      stand = ap (λ us. us ++ t ∷ []) e.stand ∙ append_assoc e.before e.here (t ∷ []);
      params = e.params;
      part = q;
    }

-- the part is another one
told : {src : List Line} {ps : List Param} {ts : List Token} {P Q : List Token → Type 0} (e : EndsIn src ps ts P) → Q e.here → EndsIn src ps ts Q
told e q = record { before = e.before; here = e.here; stand = e.stand; params = e.params; part = q }

-- a part begins
begins : {src : List Line} {ps : List Param} {ts : List Token} {Q : List Token → Type 0} (t : Token) → AreParams src ts ps → Q (t ∷ [])
    → EndsIn src ps (ts ++ t ∷ []) Q
begins {ts = ts} t params q = record { before = ts; here = t ∷ []; stand = refl; params = params; part = q }

-- ---- the ends of a parameter

at_comma : {src : List Line} {ps : List Param} {ts : List Token} {p : Param} (t : Token) → EndsIn src ps ts (λ us. IsParam src us p) → IsSign (codes ",") t
    → AreParams src (ts ++ t ∷ []) (ps ++ p ∷ [])
at_comma {src} {ps} {ts} {p} t e comma =
    subst (λ us. AreParams src us (ps ++ p ∷ [])) (sym (ap (λ us. us ++ t ∷ []) e.stand ∙ append_assoc e.before e.here (t ∷ [])))
    (g.more t e.params e.part comma)

at_close : {src : List Line} {ps : List Param} {ts : List Token} {p : Param} (t : Token) → EndsIn src ps ts (λ us. IsParam src us p) → IsSign (codes ")") t
    → IsList src t (ts ++ t ∷ []) (ps ++ p ∷ []) false
at_close {src} {ps} {ts} {p} t e close =
    subst (λ us. IsList src t us (ps ++ p ∷ []) false) (sym (ap (λ us. us ++ t ∷ []) e.stand ∙ append_assoc e.before e.here (t ∷ [])))
    (g.params e.params e.part close)

param_ends : {src : List Line} {ps : List Param} {ts : List Token} (p : Param) (t : Token) → EndsIn src ps ts (λ us. IsParam src us p)
    → StepStands src ps t (ts ++ t ∷ []) (after_param p t)
unfolding after_param
param_ends {src} {ps} {ts} p t e =
    let P : Step → Type 0 = StepStands src ps t (ts ++ t ∷ []) in
    by_test P (is_sign (codes ",") t) (at_comma t e)
    (λ _. by_test P (is_sign (codes ")") t) (at_close t e) (λ _. tt))

name_ends : {src : List Line} {ps : List Param} {ts : List Token} (n : Named) (t : Token) → EndsIn src ps ts (λ us. IsNamed us n)
    → StepStands src ps t (ts ++ t ∷ []) (after_name n t)
unfolding after_name
name_ends {src} {ps} {ts} n t e =
    let P : Step → Type 0 = StepStands src ps t (ts ++ t ∷ []) in
    let plain : EndsIn src ps ts (λ us. IsParam src us (param_of n)) = told e (g.plain e.part) in
    by_test P (is_sign (codes ",") t) (at_comma t plain)
    (λ _. by_test P (is_sign (codes ")") t) (at_close t plain)
    (λ _. by_test P (is_sign (codes "=") t)
    (λ equals. by_test P (may_have_default (defaulted n).dir)
    (λ may. grown t e (record {
      before = e.here;
      n = n;
      sign = t;
      tokens = [];
      stand = refl;
      is = e.part;
      may = may;
      equals = equals;
      param_is = refl;
      are_open = g.nothing;
      extent_is = refl;
    })) (λ _. tt))
    (λ _. by_test P (is_sign (codes "(") t)
    (λ bracket. by_test P (is_length_word n)
    (λ word. grown t e (record {
      before = e.here;
      n = n;
      sign = t;
      stand = refl;
      is = e.part;
      word = word;
      bracket = bracket;
      head_is = refl;
    })) (λ _. tt))
    (λ _. tt))))

-- ---- the begin of a parameter

begun_as : {src : List Line} {ps : List Param} {ts : List Token} (t : Token) → AreParams src ts ps → IsWord t → (o : Option Dir) → direction_of t.text ≡ o
    → Stands src (begun_by o t) ps (ts ++ t ∷ [])
begun_as t params word None none = begins t params (lf.first (g.without none) word)
begun_as t params word (Some direction) says =
    begins t params (record { word = t; stand = refl; is = word; says = says; named_so = refl })

param_begins : {src : List Line} {ps : List Param} {ts : List Token} (t : Token) → AreParams src ts ps → StepStands src ps t (ts ++ t ∷ []) (begun t)
unfolding begun
param_begins {src} {ps} {ts} t params =
    let P : Step → Type 0 = StepStands src ps t (ts ++ t ∷ []) in
    by_test P (is_word t) (λ word. begun_as t params word (direction_of t.text) refl)
    (λ _. by_test P (is_sign (codes "...") t)
    (λ ellipsis. record { before = ts; sign = t; stand = refl; params = params; is = ellipsis }) (λ _. tt))

list_begins : (src : List Line) (t : Token) → StepStands src [] t (t ∷ []) (begun_first t)
unfolding begun_first
list_begins src t =
    by_test (StepStands src [] t (t ∷ [])) (is_sign (codes ")") t) (λ close. g.empty close) (λ _. param_begins t g.nothing)

at_first : (src : List Line) (ps : List Param) (ts : List Token) (t : Token) → (ts ≡ []) × (ps ≡ []) → StepStands src ps t (ts ++ t ∷ []) (begun_first t)
at_first src ps ts t h =
    subst (λ qs. StepStands src qs t (ts ++ t ∷ []) (begun_first t)) (sym h.1)
    (subst (λ us. StepStands src [] t (us ++ t ∷ []) (begun_first t)) (sym h.0) (list_begins src t))

-- ---- words and stars

direction_goes_on : {src : List Line} {ps : List Param} {ts : List Token} (direction : Dir) (n : Named) (t : Token)
    → EndsIn src ps ts (IsDirection direction n) → StepStands src ps t (ts ++ t ∷ []) (after_direction direction n t)
unfolding after_direction
direction_goes_on {src} {ps} {ts} direction n t e =
    let d = e.part in
    by_test (StepStands src ps t (ts ++ t ∷ [])) (is_word t)
    (λ word. grown t e (subst (λ us. AreNaming (us ++ t ∷ []) (named (bare_head (Some direction) t.span.line) false t)) (sym d.stand)
    (lf.first (g.with_direction d.is d.says) word)))
    (λ _. name_ends n t (told e (subst (λ us. IsNamed us n) (sym d.stand) (subst (λ m. IsNamed (d.word ∷ []) m) (sym d.named_so) (g.alone d.is)))))

-- the words of a type with one more
words_text-more : (first : Token) (more : List Token) (t : Token) → words_text first (more ++ t ∷ []) ≡ words_text first more ++ 32 ∷ t.text
words_text-more first more t = fold-append (λ text (u : Token). text ++ 32 ∷ u.text) first.text more (t ∷ [])

one_word : (n : Token) → IsWord n → are_words (n ∷ []) ≡ true
one_word n word = rw word refl

more_words : (w : Token) (more : List Token) (t : Token) → are_words (w ∷ more) ≡ true → IsWord t → are_words (w ∷ (more ++ t ∷ [])) ≡ true
more_words w more t words word = all-append is_word (w ∷ more) (t ∷ []) words (one_word t word)

-- the name was a word of the type
naming_goes_on : {us : List Token} {n : Named} (t : Token) → AreNaming us n → IsWord t → AreNaming (us ++ t ∷ []) (named (head_of (typed_of n)) false t)
naming_goes_on t (lf.first {ds} {direction} {n} directed word) next =
    subst (λ us. AreNaming us (named (record { dir = direction; ctype = Some n.text; type_line = n.span.line }) false t))
    (sym (append_assoc ds (n ∷ []) (t ∷ []))) (lf.further [] t directed (one_word n word) next)
naming_goes_on t (lf.further {ds} {direction} {w} more n directed words word) next =
    subst (λ us. AreNaming us (named (record { dir = direction; ctype = Some (words_text w more ++ 32 ∷ n.text); type_line = w.span.line }) false t))
    (sym (append_assoc ds ((w ∷ more) ++ n ∷ []) (t ∷ [])))
    (subst (λ text. AreNaming (ds ++ ((w ∷ (more ++ n ∷ [])) ++ t ∷ []))
    (named (record { dir = direction; ctype = Some text; type_line = w.span.line }) false t))
    (words_text-more w more n) (lf.further (more ++ n ∷ []) t directed (more_words w more n words word) next))

-- a direction, words and these stars
record TypedWith (ts ss : List Token) (typed : Typed) : Type 0 where
  is : IsTyped ts typed
  stars : is.stars ≡ ss

-- and these are all its words, with these stars after them
naming_typed : {us : List Token} {n : Named} → AreNaming us n → (ss : List Token) → are_stars ss ≡ true → (typed : Typed)
    → typed.dir ≡ n.head.dir → typed.type_line ≡ n.head.type_line → typed.ctype ≡ with_word n.head.ctype n.name ++ stars_text ss → TypedWith (us ++ ss) ss typed
naming_typed (lf.first {ds} {direction} {n} directed word) ss stars typed dir line text =
    record {
      is = record {
        before = ds;
        first = n;
        more = [];
        stars = ss;
        stand = append_assoc ds (n ∷ []) ss;
        directed = subst (λ o. IsDirected ds o n) (sym dir) directed;
        words = one_word n word;
        are_stars = stars;
        text = text;
        line = line;
      };
      stars = refl;
    }
naming_typed (lf.further {ds} {direction} {w} more n directed words word) ss stars typed dir line text =
    record {
      is = record {
        before = ds;
        first = w;
        more = more ++ n ∷ [];
        stars = ss;
        stand = append_assoc ds ((w ∷ more) ++ n ∷ []) ss;
        directed = subst (λ o. IsDirected ds o w) (sym dir) directed;
        words = more_words w more n words word;
        are_stars = stars;
        text = text ∙ ap (λ u. u ++ stars_text ss) (sym (words_text-more w more n));
        line = line;
      };
      stars = refl;
    }

one_star : (t : Token) → IsSign (codes "*") t → are_stars (t ∷ []) ≡ true
one_star t star = rw star refl

first_starred : {us : List Token} {n : Named} (t : Token) → AreNaming us n → IsSign (codes "*") t
    → IsStarred (us ++ t ∷ []) (with_stars (codes " *") (typed_of n))
first_starred {us} {n} t naming star =
    let y = naming_typed naming (t ∷ []) (one_star t star) (with_stars (codes " *") (typed_of n)) refl refl refl in
    record { is = y.is; some = subst (λ ss. 0 < length ss) (sym y.stars) (omega arith) }

-- a type without stars
all_words : {us : List Token} {n : Named} → AreNaming us n → IsTyped us (typed_of n)
all_words {us} {n} naming =
    let y = naming_typed naming [] refl (typed_of n) refl refl (sym (append-nil (with_word n.head.ctype n.name))) in
    subst (λ ts. IsTyped ts (typed_of n)) (append-nil us) y.is

naming_named : {us : List Token} {n : Named} → AreNaming us n → IsNamed us n
naming_named (lf.first (g.without none) word) = g.alone word
naming_named (lf.first (g.with_direction is says) word) = g.directed is says word
naming_named (lf.further {ds} {direction} {w} more n directed words word) =
    let type : Typed = record { dir = direction; ctype = words_text w more; type_line = w.span.line } in
    let typed : IsTyped (ds ++ (w ∷ more)) type =
    record {
      before = ds;
      first = w;
      more = more;
      stars = [];
      stand = ap (λ us. ds ++ us) (sym (append-nil (w ∷ more)));
      directed = directed;
      words = words;
      are_stars = refl;
      text = sym (append-nil (words_text w more));
      line = refl;
    } in
    subst (λ us. IsNamed us (named (head_of type) false n)) (append_assoc ds (w ∷ more) (n ∷ [])) (g.typed n typed word)

words_go_on : {src : List Line} {ps : List Param} {ts : List Token} (n : Named) (t : Token) → EndsIn src ps ts (λ us. AreNaming us n)
    → StepStands src ps t (ts ++ t ∷ []) (after_words n t)
unfolding after_words
words_go_on {src} {ps} {ts} n t e =
    let P : Step → Type 0 = StepStands src ps t (ts ++ t ∷ []) in
    by_test P (is_word t) (λ word. grown t e (naming_goes_on t e.part word))
    (λ _. by_test P (is_sign (codes "*") t) (λ star. grown t e (first_starred t e.part star))
    (λ _. by_test P (is_sign (codes "&") t)
    (λ address. grown t e (record { before = e.here; sign = t; stand = refl; is = all_words e.part; address = address }))
    (λ _. name_ends n t (told e (naming_named e.part)))))

stars_text-more : (ss : List Token) (t : Token) → 0 < length ss → stars_text (ss ++ t ∷ []) ≡ stars_text ss ++ 42 ∷ []
stars_text-more [] t some = absurd (omega (arith, some))
stars_text-more (s ∷ ss) t some = ap (λ stars. 32 ∷ stars) (map-append (λ (_ : Token). 42) (s ∷ ss) (t ∷ []))

more_starred : {us : List Token} {typed : Typed} (t : Token) → IsStarred us typed → IsSign (codes "*") t
    → IsStarred (us ++ t ∷ []) (with_stars (codes "*") typed)
more_starred {us} {typed} t starred star =
    let y = starred.is in
    record {
      is = record {
        before = y.before;
        first = y.first;
        more = y.more;
        stars = y.stars ++ t ∷ [];
        stand =
            ap (λ ts. ts ++ t ∷ []) y.stand ∙ append_assoc y.before ((y.first ∷ y.more) ++ y.stars) (t ∷ [])
            ∙ ap (λ ts. y.before ++ ts) (append_assoc (y.first ∷ y.more) y.stars (t ∷ []));
        directed = y.directed;
        words = y.words;
        are_stars = all-append (is_sign (codes "*")) y.stars (t ∷ []) y.are_stars (one_star t star);
        text =
            ap (λ text. text ++ 42 ∷ []) y.text ∙ append_assoc (words_text y.first y.more) (stars_text y.stars) (42 ∷ [])
            ∙ ap (λ stars. words_text y.first y.more ++ stars) (sym (stars_text-more y.stars t starred.some));
        line = y.line;
      };
      some = omega (arith, starred.some, length-append y.stars (t ∷ []));
    }

stars_go_on : {src : List Line} {ps : List Param} {ts : List Token} (typed : Typed) (t : Token) → EndsIn src ps ts (λ us. IsStarred us typed)
    → StepStands src ps t (ts ++ t ∷ []) (after_stars typed t)
unfolding after_stars
stars_go_on {src} {ps} {ts} typed t e =
    let P : Step → Type 0 = StepStands src ps t (ts ++ t ∷ []) in
    by_test P (is_sign (codes "*") t) (λ star. grown t e (more_starred t e.part star))
    (λ _. by_test P (is_sign (codes "&") t)
    (λ address. grown t e (record { before = e.here; sign = t; stand = refl; is = e.part.is; address = address }))
    (λ _. by_test P (is_word t) (λ word. grown t e (lf.starred t e.part word)) (λ _. tt)))

address_goes_on : {src : List Line} {ps : List Param} {ts : List Token} (typed : Typed) (t : Token) → EndsIn src ps ts (IsAddress typed)
    → StepStands src ps t (ts ++ t ∷ []) (after_address typed t)
unfolding after_address
address_goes_on {src} {ps} {ts} typed t e =
    by_test (StepStands src ps t (ts ++ t ∷ [])) (is_word t) (λ word. grown t e (lf.addressed t e.part word)) (λ _. tt)

marked_named : {us : List Token} {n : Named} → IsMarked us n → IsNamed us n
marked_named (lf.starred n starred word) = g.typed n starred.is word
marked_named (lf.addressed {ts = ts} {typed = typed} n a word) =
    subst (λ us. IsNamed us (named (head_of typed) true n)) (sym (ap (λ us. us ++ n ∷ []) a.stand ∙ append_assoc a.before (a.sign ∷ []) (n ∷ [])))
    (g.by_address a.sign n a.is a.address word)

-- ---- lengths

length_goes_on : {src : List Line} {ps : List Param} {ts : List Token} (head : Head) (t : Token) → EndsIn src ps ts (IsLengthOpen head)
    → StepStands src ps t (ts ++ t ∷ []) (in_length head t)
unfolding in_length
length_goes_on {src} {ps} {ts} head t e =
    by_test (StepStands src ps t (ts ++ t ∷ [])) (is_word t)
    (λ word. grown t e (record { before = e.here; head = head; name = t; stand = refl; opens = e.part; is = word; named_so = refl })) (λ _. tt)

length_param : {src : List Line} {us : List Token} {p : Param} → IsLength p us → IsParam src us p
length_param {src} {us} {p} x =
    let l = x.is in
    let o = l.opens in
    let t = x.sign in
    let whole : us ≡ o.before ++ o.sign ∷ l.name ∷ t ∷ [] =
    x.stand ∙ ap (λ ts. ts ++ t ∷ []) (l.stand ∙ ap (λ ts. ts ++ l.name ∷ []) o.stand)
    ∙ append_assoc (o.before ++ o.sign ∷ []) (l.name ∷ []) (t ∷ []) ∙ append_assoc o.before (o.sign ∷ []) (l.name ∷ t ∷ []) in
    subst (λ ts. IsParam src ts p) (sym whole)
    (subst (λ q. IsParam src (o.before ++ o.sign ∷ l.name ∷ t ∷ []) q) (sym (x.param_is ∙ ap length_of (l.named_so ∙ ap (λ h. named h false l.name) o.head_is)))
    (g.length o.sign l.name t o.is o.word o.bracket l.is x.bracket))

length_ends : {src : List Line} {ps : List Param} {ts : List Token} (m : Named) (t : Token) → EndsIn src ps ts (IsLengthName m)
    → StepStands src ps t (ts ++ t ∷ []) (after_length_name m t)
unfolding after_length_name
length_ends {src} {ps} {ts} m t e =
    by_test (StepStands src ps t (ts ++ t ∷ [])) (is_sign (codes ")") t)
    (λ close. grown t e (record { before = e.here; name = m; sign = t; stand = refl; is = e.part; bracket = close; param_is = refl })) (λ _. tt)

-- ---- defaults

pub closed_after : (inside : Bool) {xs ys : List Token} → AreClosed inside xs → AreClosed inside ys → AreClosed inside (xs ++ ys)
closed_after inside g.nothing more = more
closed_after inside (g.plain plain no_open no_close rest) more = g.plain plain no_open no_close (closed_after inside rest more)
closed_after inside {ys = ys} (g.bracket {t = t} {ts = ts} {us = us} u opens inner closes rest) more =
    subst (λ vs. AreClosed inside (t ∷ vs)) (sym (append_assoc ts (u ∷ us) ys)) (g.bracket u opens inner closes (closed_after inside rest more))

abbrev pub is_inside : List Bracket → Bool
is_inside [] = false
is_inside (b ∷ bs) = true

pub open_after : (opens : List Bracket) (xs : List Token) {ys : List Token} → AreOpen opens xs → AreClosed (is_inside opens) ys → AreOpen opens (xs ++ ys)
open_after [] xs closed more = closed_after false closed more
open_after (b ∷ outer) xs {ys} h more =
    (h.0, h.1, h.2 ++ ys, ap (λ ts. ts ++ ys) h.3 ∙ append_assoc h.0 (h.1 ∷ h.2) ys, h.4, h.5, closed_after true h.6 more)

extent_in-more : (ts : List Token) (t : Token) → Some (extended (extent_in ts) t) ≡ extent_in (ts ++ t ∷ [])
extent_in-more [] t = refl
extent_in-more (u ∷ us) t = ap Some (sym (fold-append (λ x v. extended (Some x) v) (extended None u) us (t ∷ [])))

-- one token more in a default
pub pending_on : {us : List Token} {d : Pending} (opens : List Bracket) (t : Token) (p : IsPending d us) → AreOpen opens (p.tokens ++ t ∷ [])
    → IsPending (record { param = d.param; opens = opens; extent = Some (extended d.extent t) }) (us ++ t ∷ [])
pending_on {us} {d} opens t p opened =
    record {
      before = p.before;
      n = p.n;
      sign = p.sign;
      tokens = p.tokens ++ t ∷ [];
      stand = ap (λ ts. ts ++ t ∷ []) p.stand ∙ append_assoc p.before (p.sign ∷ p.tokens) (t ∷ []);
      is = p.is;
      may = p.may;
      equals = p.equals;
      param_is = p.param_is;
      are_open = opened;
      extent_is = ap (λ x. Some (extended x t)) p.extent_is ∙ extent_in-more p.tokens t;
    }

same_is : (a b : Bracket) → same_bracket a b ≡ true → b ≡ a
same_is bracket.Round bracket.Round e = refl
same_is bracket.Round bracket.Square e = absurd cc
same_is bracket.Round bracket.Curly e = absurd cc
same_is bracket.Square bracket.Round e = absurd cc
same_is bracket.Square bracket.Square e = refl
same_is bracket.Square bracket.Curly e = absurd cc
same_is bracket.Curly bracket.Round e = absurd cc
same_is bracket.Curly bracket.Square e = absurd cc
same_is bracket.Curly bracket.Curly e = refl

pub closes_to : (inner b : Bracket) (outer : List Bracket) {ts : List Token} (t : Token) → AreOpen (inner ∷ outer) ts → same_bracket inner b ≡ true
    → closed_by t ≡ Some b → AreOpen outer (ts ++ t ∷ [])
closes_to inner b outer {ts} t h same closes =
    let o = h.1 in
    subst (AreOpen outer) (sym (ap (λ us. us ++ t ∷ []) h.3 ∙ append_assoc h.0 (o ∷ h.2) (t ∷ [])))
    (open_after outer h.0 h.4 (g.bracket t h.5 h.6 (closes ∙ ap Some (same_is inner b same)) g.nothing))

closing_token : {src : List Line} {ps : List Param} {ts : List Token} (d : Pending) (opens : List Bracket) (b : Bracket) (t : Token)
    (e : EndsIn src ps ts (IsPending d))
    → AreOpen opens e.part.tokens → closed_by t ≡ Some b → StepStands src ps t (ts ++ t ∷ []) (closed_in d opens b t)
closing_token d [] b t e opened closes = tt
closing_token {src} {ps} {ts} d (inner ∷ outer) b t e opened closes =
    by_test (StepStands src ps t (ts ++ t ∷ [])) (same_bracket inner b)
    (λ same. grown t e (pending_on outer t e.part (closes_to inner b outer t opened same closes))) (λ _. tt)

-- a token that neither opens nor closes nor ends the default
plain_there : (opens : List Bracket) (t : Token) → is_directive t ≡ false → (are_none opens && (is_sign (codes ",") t || is_sign (codes ")") t)) ≡ false
    → is_plain (is_inside opens) t ≡ true
plain_there [] t no_directive goes_on = rw no_directive (no_comma (is_sign (codes ",") t) (is_sign (codes ")") t) goes_on)
  where
    no_comma : (a b : Bool) → (a || b) ≡ false → not (a && true) ≡ true
    no_comma true b e = absurd cc
    no_comma false b e = refl
plain_there (b ∷ bs) t no_directive goes_on = rw no_directive (any (is_sign (codes ",") t))
  where
    any : (a : Bool) → not (a && false) ≡ true
    any true = refl
    any false = refl

by_bracket : {src : List Line} {ps : List Param} {ts : List Token} (d : Pending) (t : Token) (e : EndsIn src ps ts (IsPending d)) → is_directive t ≡ false
    → ends_default d t ≡ false
    → (o c : Option Bracket) → opened_by t ≡ o → closed_by t ≡ c → StepStands src ps t (ts ++ t ∷ []) (by_brackets d o c t)
by_bracket d t e no_directive goes_on (Some b) c opens closes =
    grown t e (pending_on (b ∷ d.opens) t e.part (e.part.tokens, t, [], refl, e.part.are_open, opens, g.nothing))
by_bracket d t e no_directive goes_on None (Some b) opens closes = closing_token d d.opens b t e e.part.are_open closes
by_bracket d t e no_directive goes_on None None opens closes =
    grown t e (pending_on d.opens t e.part (open_after d.opens e.part.tokens e.part.are_open
    (g.plain (plain_there d.opens t no_directive goes_on) opens closes g.nothing)))

token_stands : {src : List Line} {ps : List Param} {ts : List Token} (d : Pending) (t : Token) (e : EndsIn src ps ts (IsPending d)) → ends_default d t
    ≡ false → StepStands src ps t (ts ++ t ∷ []) (default_token d t)
unfolding default_token
token_stands {src} {ps} {ts} d t e goes_on =
    by_test (StepStands src ps t (ts ++ t ∷ [])) (is_directive t) (λ _. tt)
    (λ no_directive. by_bracket d t e no_directive goes_on (opened_by t) (closed_by t) refl refl)

none_open : (opens : List Bracket) {ts : List Token} → are_none opens ≡ true → AreOpen opens ts → AreClosed false ts
none_open [] e opened = opened
none_open (b ∷ bs) e opened = absurd cc

default_ends : {src : List Line} {ps : List Param} {ts : List Token} (d : Pending) (t : Token) (e : EndsIn src ps ts (IsPending d)) → are_none d.opens ≡ true
    → (us : List Token) → e.part.tokens ≡ us
    → StepStands src ps t (ts ++ t ∷ []) (default_ended src d (extent_in us) t)
default_ends d t e none [] is = tt
default_ends {src} d t e none (u ∷ us) is =
    let p = e.part in
    let x = extent_of u us in
    let closed : AreClosed false (u ∷ us) = subst (AreClosed false) is (none_open d.opens none p.are_open) in
    let whole : IsParam src (p.before ++ p.sign ∷ u ∷ us) (with_default src (defaulted p.n) x) = g.preset p.sign p.is p.may p.equals closed in
    param_ends (with_default src d.param x) t
    (told e (subst (λ vs. IsParam src vs (with_default src d.param x)) (sym (p.stand ∙ ap (λ vs. p.before ++ p.sign ∷ vs) is))
    (subst (λ q. IsParam src (p.before ++ p.sign ∷ u ∷ us) (with_default src q x)) (sym p.param_is) whole)))

pending_goes_on : {src : List Line} {ps : List Param} {ts : List Token} (d : Pending) (t : Token) → EndsIn src ps ts (IsPending d)
    → StepStands src ps t (ts ++ t ∷ []) (in_default src d t)
unfolding in_default
pending_goes_on {src} {ps} {ts} d t e =
    let P : Step → Type 0 = StepStands src ps t (ts ++ t ∷ []) in
    by_test P (ends_default d t)
    (λ ends. subst (λ x. P (default_ended src d x t)) (sym e.part.extent_is)
    (default_ends d t e (and_parts (are_none d.opens) (is_sign (codes ",") t || is_sign (codes ")") t) ends).0 e.part.tokens refl))
    (λ goes_on. token_stands d t e goes_on)

-- ---- any step

ellipsis_ends : {src : List Line} {ps : List Param} {ts : List Token} (t : Token) → IsEllipsis src ps ts → StepStands src ps t (ts ++ t ∷ []) (after_ellipsis t)
unfolding after_ellipsis
ellipsis_ends {src} {ps} {ts} t e =
    by_test (StepStands src ps t (ts ++ t ∷ [])) (is_sign (codes ")") t)
    (λ close. subst (λ qs. IsList src t (ts ++ t ∷ []) qs true) (sym (append-nil ps))
    (subst (λ us. IsList src t us ps true) (sym (ap (λ us. us ++ t ∷ []) e.stand ∙ append_assoc e.before (e.sign ∷ []) (t ∷ [])))
    (g.ellipsis e.sign e.params e.is close)))
    (λ _. tt)

pub step_stands : (src : List Line) (d : Due) (ps : List Param) (ts : List Token) (t : Token) → Stands src d ps ts
    → StepStands src ps t (ts ++ t ∷ []) (step_of src d t)
unfolding step_of
step_stands src due.First ps ts t h = at_first src ps ts t h
step_stands src due.Next ps ts t h = param_begins t h.0
step_stands src (due.Direction direction n) ps ts t h = direction_goes_on direction n t h
step_stands src (due.Words n) ps ts t h = words_go_on n t h
step_stands src (due.Stars typed) ps ts t h = stars_go_on typed t h
step_stands src (due.Address typed) ps ts t h = address_goes_on typed t h
step_stands src (due.Name n) ps ts t h = name_ends n t (told h (marked_named h.part))
step_stands src (due.LengthOpen head) ps ts t h = length_goes_on head t h
step_stands src (due.LengthName m) ps ts t h = length_ends m t h
step_stands src (due.Length p) ps ts t h = param_ends p t (told h (length_param h.part))
step_stands src (due.Default d) ps ts t h = pending_goes_on d t h
step_stands src due.Ellipsis ps ts t h = ellipsis_ends t h
