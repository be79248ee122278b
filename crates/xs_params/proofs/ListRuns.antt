-- What reading a list comes to, in the words of the grammar.
use Rattle.std.proofs.Common.{◌≡◌, ℕ, ◌<◌, length, arith, length-append, Bool, true, false, List, [], ◌∷◌, ◌++◌, Option, None, Some, refl, ap, sym, ◌∙◌, subst, append_assoc, append-nil}
use Rattle.std.specs.Option.{option_to_list}
use Rattle.std.specs.Prelude.{codes}
use Rattle.xs_base.specs.declared.source.Line.{Line}
use Rattle.xs_base.specs.declared.source.Span.{Span}
use Rattle.xs_ctok.specs.declared.token.TokKind.TheVariants as kind
use Rattle.xs_ctok.specs.declared.token.Token.{Token}
use Rattle.xs_params.specs.Laws.{Begins, BeginsNone, EndsWith, FormLaw}
use Rattle.xs_params.specs.ListFronts.{EndsIn, IsPending, Stands}
use Rattle.xs_params.specs.ListTokens.{closed_by, opened_by}
use Rattle.xs_params.specs.ParamGrammar as g
use Rattle.xs_params.specs.ParamGrammar.{AreClosed, IsList}
use Rattle.xs_params.specs.ParamLists.{by_step, form_from, form_of}
use Rattle.xs_params.specs.ParamSteps.{after_address, after_direction, after_ellipsis, after_length_name, after_name, after_param, after_stars, after_words, begun, begun_first, extended, head_of, in_default, in_length, length_of, named, same_bracket, step_of}
use Rattle.xs_params.specs.declared.form.Ending.{Ending}
use Rattle.xs_params.specs.declared.form.Ending.TheVariants as ending
use Rattle.xs_params.specs.declared.form.Form.{Form}
use Rattle.xs_params.specs.declared.opens.Bracket.{Bracket}
use Rattle.xs_params.specs.declared.opens.Bracket.TheVariants as bracket
use Rattle.xs_params.specs.declared.param.Dir.{Dir}
use Rattle.xs_params.specs.declared.param.Param.{Param}
use Rattle.xs_params.specs.declared.states.Due.{Due}
use Rattle.xs_params.specs.declared.states.Due.TheVariants as due
use Rattle.xs_params.specs.declared.states.Extent.{Extent}
use Rattle.xs_params.specs.declared.states.Head.{Head}
use Rattle.xs_params.specs.declared.states.Named.{Named}
use Rattle.xs_params.specs.declared.states.Pending.{Pending}
use Rattle.xs_params.specs.declared.states.Step.{Step}
use Rattle.xs_params.specs.declared.states.Step.TheVariants as step
use Rattle.xs_params.specs.declared.states.Typed.{Typed}
use Rattle.xs_params.proofs.ListSteps.{StepStands, closes_to, grown, open_after, pending_on, step_stands}
use Rattle.xs_params.proofs.ListComplete.{by_result, list_complete}
use Rattle.xs_params.proofs.FrontsRun.{front_run}

-- ---- each begin of a list can be completed

abbrev some_place : Span
some_place = record { line = 1; col = 1 }

abbrev sign_of : List ℕ → Token
sign_of text = record { kind = kind.Punct; text = text; span = some_place }

abbrev closer : Token
closer = sign_of (codes ")")

abbrev dots : Token
dots = sign_of (codes "...")

abbrev some_word : Token
some_word = record { kind = kind.Word; text = codes "x"; span = some_place }

listed : {src : List Line} {front : List Token} {params : List Param} {ellipsis : Bool} (t : Token) → IsList src t (front ++ t ∷ []) params ellipsis
    → Begins src front
listed {params = params} {ellipsis = ellipsis} t list = record { more = t ∷ []; close = t; params = params; ellipsis = ellipsis; list = list }

one_more : {src : List Line} {front : List Token} (t : Token) → Begins src (front ++ t ∷ []) → Begins src front
one_more {src} {front} t b =
    record {
      more = t ∷ b.more;
      close = b.close;
      params = b.params;
      ellipsis = b.ellipsis;
      list = subst (λ us. IsList src b.close us b.params b.ellipsis) (append_assoc front (t ∷ []) b.more) b.list;
    }

first_begins : (src : List Line) (ps : List Param) (front : List Token) → Stands src due.First ps front → Begins src front
unfolding step_of begun_first
first_begins src ps front h = listed closer (step_stands src due.First ps front closer h)

ellipsis_begins : (src : List Line) (ps : List Param) (front : List Token) → Stands src due.Ellipsis ps front → Begins src front
unfolding step_of after_ellipsis
ellipsis_begins src ps front h = listed closer (step_stands src due.Ellipsis ps front closer h)

next_begins : (src : List Line) (ps : List Param) (front : List Token) → Stands src due.Next ps front → Begins src front
unfolding step_of begun
next_begins src ps front h = one_more dots (ellipsis_begins src ps (front ++ dots ∷ []) (step_stands src due.Next ps front dots h))

direction_begins : (src : List Line) (direction : Dir) (n : Named) (ps : List Param) (front : List Token) → Stands src (due.Direction direction n) ps front
    → Begins src front
unfolding step_of after_direction after_name
direction_begins src direction n ps front h = listed closer (step_stands src (due.Direction direction n) ps front closer h)

words_begin : (src : List Line) (n : Named) (ps : List Param) (front : List Token) → Stands src (due.Words n) ps front → Begins src front
unfolding step_of after_words after_name
words_begin src n ps front h = listed closer (step_stands src (due.Words n) ps front closer h)

name_begins : (src : List Line) (n : Named) (ps : List Param) (front : List Token) → Stands src (due.Name n) ps front → Begins src front
unfolding step_of after_name
name_begins src n ps front h = listed closer (step_stands src (due.Name n) ps front closer h)

param_begins : (src : List Line) (p : Param) (ps : List Param) (front : List Token) → Stands src (due.Length p) ps front → Begins src front
unfolding step_of after_param
param_begins src p ps front h = listed closer (step_stands src (due.Length p) ps front closer h)

stars_begin : (src : List Line) (typed : Typed) (ps : List Param) (front : List Token) → Stands src (due.Stars typed) ps front → Begins src front
unfolding step_of after_stars
stars_begin src typed ps front h =
    one_more some_word (name_begins src (named (head_of typed) false some_word) ps (front ++ some_word ∷ [])
    (step_stands src (due.Stars typed) ps front some_word h))

address_begins : (src : List Line) (typed : Typed) (ps : List Param) (front : List Token) → Stands src (due.Address typed) ps front → Begins src front
unfolding step_of after_address
address_begins src typed ps front h =
    one_more some_word (name_begins src (named (head_of typed) true some_word) ps (front ++ some_word ∷ [])
    (step_stands src (due.Address typed) ps front some_word h))

length_name_begins : (src : List Line) (m : Named) (ps : List Param) (front : List Token) → Stands src (due.LengthName m) ps front → Begins src front
unfolding step_of after_length_name
length_name_begins src m ps front h =
    one_more closer (param_begins src (length_of m) ps (front ++ closer ∷ []) (step_stands src (due.LengthName m) ps front closer h))

length_begins : (src : List Line) (head : Head) (ps : List Param) (front : List Token) → Stands src (due.LengthOpen head) ps front → Begins src front
unfolding step_of in_length
length_begins src head ps front h =
    one_more some_word (length_name_begins src (named head false some_word) ps (front ++ some_word ∷ [])
    (step_stands src (due.LengthOpen head) ps front some_word h))

-- the sign that closes a bracket
abbrev closer_of : Bracket → Token
closer_of bracket.Round = sign_of (codes ")")
closer_of bracket.Square = sign_of (codes "]")
closer_of bracket.Curly = sign_of (codes "}")

closer_closes : (b : Bracket) → closed_by (closer_of b) ≡ Some b
unfolding closed_by
closer_closes bracket.Round = refl
closer_closes bracket.Square = refl
closer_closes bracket.Curly = refl

same_self : (b : Bracket) → same_bracket b b ≡ true
same_self bracket.Round = refl
same_self bracket.Square = refl
same_self bracket.Curly = refl

abbrev pending_at : Param → List Bracket → Option Extent → Pending
pending_at p opens x = record { param = p; opens = opens; extent = x }

-- a default of one token at least ends where its brackets are closed
open_begins : (src : List Line) (ps : List Param) (opens : List Bracket) (p : Param) (x : Extent) (front : List Token)
    → EndsIn src ps front (IsPending (pending_at p opens (Some x))) → Begins src front
unfolding step_of in_default after_param
open_begins src ps [] p x front e = listed closer (step_stands src (due.Default (pending_at p [] (Some x))) ps front closer e)
open_begins src ps (b ∷ outer) p x front e =
    let t = closer_of b in
    one_more t (open_begins src ps outer p (extended (Some x) t) (front ++ t ∷ [])
    (grown t e (pending_on outer t e.part (closes_to b b outer t e.part.are_open (same_self b) (closer_closes b)))))

word_closes_none : opened_by some_word ≡ None
unfolding opened_by
word_closes_none = refl

word_opens_none : closed_by some_word ≡ None
unfolding closed_by
word_opens_none = refl

default_begins : (src : List Line) (d : Pending) (ps : List Param) (front : List Token) → Stands src (due.Default d) ps front → Begins src front
default_begins src d ps front e =
    one_more some_word (open_begins src ps d.opens d.param (extended d.extent some_word) (front ++ some_word ∷ [])
    (grown some_word e (pending_on d.opens some_word e.part (open_after d.opens e.part.tokens e.part.are_open
    (g.plain refl word_closes_none word_opens_none g.nothing)))))

pub begins : (src : List Line) (d : Due) (ps : List Param) (front : List Token) → Stands src d ps front → Begins src front
begins src due.First ps front h = first_begins src ps front h
begins src due.Next ps front h = next_begins src ps front h
begins src (due.Direction direction n) ps front h = direction_begins src direction n ps front h
begins src (due.Words n) ps front h = words_begin src n ps front h
begins src (due.Stars typed) ps front h = stars_begin src typed ps front h
begins src (due.Address typed) ps front h = address_begins src typed ps front h
begins src (due.Name n) ps front h = name_begins src n ps front h
begins src (due.LengthOpen head) ps front h = length_begins src head ps front h
begins src (due.LengthName m) ps front h = length_name_begins src m ps front h
begins src (due.Length p) ps front h = param_begins src p ps front h
begins src (due.Default d) ps front h = default_begins src d ps front h
begins src due.Ellipsis ps front h = ellipsis_begins src ps front h

-- ---- reading

-- Reading has come over these tokens to this, whatever stands after them.
record Reached (src : List Line) (d : Due) (ps : List Param) (front : List Token) : Type 0 where
  stands : Stands src d ps front
  goes : (us : List Token) → form_of src (front ++ us) ≡ form_from src d ps us

abbrev IsClosing : Ending → Type 0
IsClosing (ending.Closed e a) = Unit {0}
IsClosing (ending.Stray l) = ⊥
IsClosing ending.Open = ⊥

abbrev closed_form : List Param → Bool → Span → Form
closed_form params ellipsis at = record { named = params; ending = ending.Closed ellipsis at }

abbrev stray_form : List Param → ℕ → Form
stray_form params line = record { named = params; ending = ending.Stray line }

abbrev open_form : List Param → Form
open_form params = record { named = params; ending = ending.Open }

no_closing : (ps qs : List Param) (ellipsis : Bool) (at : Span) (line : ℕ) → closed_form ps ellipsis at ≡ stray_form qs line → ⊥
no_closing ps qs ellipsis at line e = subst (λ (form : Form). IsClosing form.ending) e tt

step_on : {src : List Line} {d e : Due} {ps qs : List Param} {front : List Token} (t : Token) → Reached src d ps front → Stands src e qs (front ++ t ∷ [])
    → ((us : List Token) → form_from src d ps (t ∷ us) ≡ form_from src e qs us) → Reached src e qs (front ++ t ∷ [])
step_on {src} {front = front} t r stands goes =
    record { stands = stands; goes = λ us. ap (form_of src) (append_assoc front (t ∷ []) us) ∙ (r.goes (t ∷ us) ∙ goes us) }

stray_there : (src : List Line) (d : Due) (ps : List Param) (front : List Token) (t : Token) (last : Option Param) → Reached src d ps front → step_of src d t
    ≡ step.Stray last → BeginsNone src (front ++ t ∷ [])
stray_there src d ps front t last r is more close params ellipsis list =
    let whole : (front ++ t ∷ []) ++ more ≡ front ++ t ∷ more = append_assoc front (t ∷ []) more in
    let read = list_complete src ((front ++ t ∷ []) ++ more) [] params ellipsis close list in
    let stray = r.goes (t ∷ more) ∙ by_result src d ps t more (step.Stray last) is in
    no_closing params (ps ++ option_to_list last) ellipsis close.span t.span.line
    (sym read ∙ ap (form_of src) (append-nil ((front ++ t ∷ []) ++ more) ∙ whole) ∙ stray)

abbrev Comes : List Line → List Token → Form → Type 0
Comes src ts form = EndsWith src ts form.named form.ending

some_param : (ps : List Param) (p : Param) → 0 < length (ps ++ p ∷ [])
some_param ps p = omega (arith, length-append ps (p ∷ []))

after_step : (src : List Line) (d : Due) (ps : List Param) (front : List Token) (t : Token) (ts whole : List Token) → Reached src d ps front → whole ≡ front
    ++ t ∷ ts
    → ((e : Due) (qs : List Param) → Reached src e qs (front ++ t ∷ []) → Comes src whole (form_from src e qs ts))
    → (s : Step) → step_of src d t ≡ s → StepStands src ps t (front ++ t ∷ []) s → Comes src whole (by_step ps t (λ e qs. form_from src e qs ts) s)
after_step src d ps front t ts whole r stand go (step.On e) is h = go e ps (step_on t r h (λ us. by_result src d ps t us (step.On e) is))
after_step src d ps front t ts whole r stand go (step.Ended p) is h = go due.Next (ps ++ p ∷ [])
    (step_on t r (h, some_param ps p) (λ us. by_result src d ps t us (step.Ended p) is))
after_step src d ps front t ts whole r stand go (step.Closed last ellipsis) is h =
    (t, refl, record { front = front ++ t ∷ []; rest = ts; stand = stand ∙ sym (append_assoc front (t ∷ []) ts); list = h })
after_step src d ps front t ts whole r stand go (step.Stray last) is h = (
  t,
  refl,
  record {
    front = front;
    rest = ts;
    stand = stand;
    begins = begins src d ps front r.stands;
    none = stray_there src d ps front t last r is;
    due = d;
    ended = ps;
    last = last;
    stands = r.stands;
    says = is;
    named = refl;
  },
)

comes : (src : List Line) (ts : List Token) (d : Due) (ps : List Param) (front whole : List Token) → Reached src d ps front → whole ≡ front ++ ts
    → Comes src whole (form_from src d ps ts)
unfolding form_from
comes src [] d ps front whole r stand =
    let all = subst (Stands src d ps) (sym (stand ∙ append-nil front)) r.stands in
    record { begins = begins src d ps whole all; due = d; ended = ps; stands = all; named = refl }
comes src (t ∷ ts) d ps front whole r stand =
    after_step src d ps front t ts whole r stand (λ e qs reached. comes src ts e qs (front ++ t ∷ []) whole reached
    (stand ∙ sym (append_assoc front (t ∷ []) ts)))
    (step_of src d t) refl (step_stands src d ps front t r.stands)

ended : (src : List Line) (ts : List Token) (params : List Param) (end : Ending) → EndsWith src ts params end → form_of src ts
    ≡ record { named = params; ending = end }
unfolding form_from
ended src ts params ending.Open x =
    ap (form_of src) (sym (append-nil ts)) ∙ ((front_run src x.due x.ended ts x.stands).goes []
    ∙ ap (λ ps. open_form ps) (sym x.named))
ended src ts params (ending.Closed ellipsis at) (close, is, x) =
    ap (form_of src) x.stand ∙ (list_complete src x.front x.rest params ellipsis close x.list ∙ ap (closed_form params ellipsis) (sym is))
ended src ts params (ending.Stray line) (t, is, x) =
    ap (form_of src) x.stand ∙ ((front_run src x.due x.ended x.front x.stands).goes (t ∷ x.rest)
    ∙ (by_result src x.due x.ended t x.rest (step.Stray x.last) x.says
    ∙ (ap (λ ps. stray_form ps t.span.line) (sym x.named) ∙ ap (stray_form params) (sym is))))

pub form_law : FormLaw
form_law = record { sound = λ src ts. comes src ts due.First [] [] ts (record { stands = (refl, refl); goes = λ us. refl }) refl; complete = ended }
