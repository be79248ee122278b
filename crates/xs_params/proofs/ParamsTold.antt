-- Which lists are accepted, and which fault of a list is the first.
use Rattle.std.proofs.Common.{◌≡◌, ℕ, Bool, true, false, List, [], ◌∷◌, ◌++◌, length, Option, None, Some, Result, Ok, Err, refl, ap, sym, ◌∙◌, subst, append_assoc, append-nil}
use Rattle.std.proofs.lemmas.Bool.{cond_both, le-leb, leb-false, leb-true, lt-leb}
use Rattle.std.specs.Option.{option_or}
use Rattle.std.specs.Prelude.{if◌then◌else◌, nat_le}
use Rattle.xs_base.specs.Faults.{first_fault}
use Rattle.xs_base.specs.declared.fault.Fault.{Fault}
use Rattle.xs_base.specs.declared.source.Line.{Line}
use Rattle.xs_base.specs.declared.source.Span.{Span}
use Rattle.xs_ctok.specs.declared.token.Token.{Token}
use Rattle.xs_params.specs.DefaultTexts.{is_clear, rest_after}
use Rattle.xs_params.specs.Laws as law
use Rattle.xs_params.specs.Laws.{AreGood, EndsWith, IsAccepted, IsClosed, IsFaulty, IsOpen, IsRefused, IsStray, ParamsLaw}
use Rattle.xs_params.specs.ParamLists.{bad_list, ended_list, form_of, is_plain_after, is_repeated, list_of, list_with, param_fault, parameter_limit, params_of, unless_param}
use Rattle.xs_params.specs.declared.form.Ending.{Ending}
use Rattle.xs_params.specs.declared.form.Ending.TheVariants as ending
use Rattle.xs_params.specs.declared.param.Param.{Param}
use Rattle.xs_params.specs.declared.param.ParamList.{ParamList}
use Rattle.xs_params.proofs.ListRuns.{form_law}

by_test : {A : Type 0} (P : A → Type 0) (b : Bool) {x y : A} → (b ≡ true → P x) → (b ≡ false → P y) → P (if b then x else y)
by_test P b {x} {y} p q = cond_both b x y P p q

-- ---- a parameter after others

abbrev Told : List Param → Param → Option Fault → Type 0
Told before p None = AreGood before → AreGood (before ++ p ∷ [])
Told before p (Some fault) = (rest : List Param) → AreGood before → IsFaulty (before ++ p ∷ rest) fault

param_told : (before : List Param) (p : Param) → Told before p (param_fault before p)
param_told before p =
    let P : Option Fault → Type 0 = Told before p in
    let n = length before in
    by_test P (is_repeated before p) (λ again rest good. law.repeated p rest good again)
    (λ fresh. by_test P (nat_le parameter_limit n) (λ many rest good. law.too_many p rest good fresh (leb-true parameter_limit n many))
    (λ few. by_test P (is_plain_after before p) (λ bare rest good. law.plain p rest good fresh (leb-false parameter_limit n few) bare)
    (λ held good. law.more p good fresh (leb-false parameter_limit n few) held)))

-- ---- all parameters

abbrev AllTold : List Param → Option Fault → Type 0
AllTold params None = AreGood params
AllTold params (Some fault) = IsFaulty params fault

first_told : (xs before : List Param) → AreGood before → AllTold (before ++ xs) (first_fault param_fault before xs)
first_told [] before good = subst AreGood (sym (append-nil before)) good
first_told (x ∷ xs) before good = by_first (param_fault before x) (param_told before x) (λ more. first_told xs (before ++ x ∷ []) more)
  where
    by_first : (o : Option Fault) → Told before x o → (AreGood (before ++ x ∷ [])
        → AllTold ((before ++ x ∷ []) ++ xs) (first_fault param_fault (before ++ x ∷ []) xs))
        → AllTold (before ++ x ∷ xs) (option_or o (first_fault param_fault (before ++ x ∷ []) xs))
    by_first (Some fault) told go = told xs good
    by_first None told go = subst (λ ps. AllTold ps (first_fault param_fault (before ++ x ∷ []) xs)) (append_assoc before (x ∷ []) xs) (go (told good))

-- parameters that are good are passed over
good_passed : {params : List Param} → AreGood params → (xs : List Param) → first_fault param_fault [] (params ++ xs) ≡ first_fault param_fault params xs
good_passed law.nothing xs = refl
good_passed (law.more {before} p good fresh few held) xs =
    ap (first_fault param_fault []) (append_assoc before (p ∷ []) xs) ∙ (good_passed good (p ∷ xs)
    ∙ rw (fresh, lt-leb parameter_limit (length before) few, held) refl)

good_none : {params : List Param} → AreGood params → first_fault param_fault [] params ≡ None
good_none {params} good = ap (first_fault param_fault []) (sym (append-nil params)) ∙ good_passed good []

faulty_some : {params : List Param} {fault : Fault} → IsFaulty params fault → first_fault param_fault [] params ≡ Some fault
faulty_some (law.repeated p rest good again) = good_passed good (p ∷ rest) ∙ rw again refl
faulty_some (law.too_many {before} p rest good fresh many) = good_passed good (p ∷ rest) ∙ rw (fresh, le-leb parameter_limit (length before) many) refl
faulty_some (law.plain {before} p rest good fresh few bare) = good_passed good (p ∷ rest)
    ∙ rw (fresh, lt-leb parameter_limit (length before) few, bare) refl

-- ---- lists

abbrev ListTold : List Line → List Token → Result ParamList Fault → Type 0
ListTold src ts (Ok list) = IsAccepted src ts list
ListTold src ts (Err fault) = IsRefused src ts fault

good_told : (src : List Line) (ts : List Token) (params : List Param) (end : Ending) → EndsWith src ts params end → AreGood params
    → ListTold src ts (ended_list src params end)
good_told src ts params ending.Open x good = law.early x good
good_told src ts params (ending.Stray line) (t, is, x) good = subst (λ n. IsRefused src ts (bad_list n)) (sym is) (law.by_token t x good)
good_told src ts params (ending.Closed ellipsis at) (close, is, x) good =
    subst (λ (place : Span). ListTold src ts (ended_list src params (ending.Closed ellipsis place))) (sym is)
    (by_test (ListTold src ts) (is_clear (rest_after src close.span)) (λ clear. record { close = close; closed = x; line = refl; good = good; clear = clear })
    (λ more. law.after_it close x good more))

list_told : (src : List Line) (ts : List Token) (params : List Param) (end : Ending) → EndsWith src ts params end → (o : Option Fault) → AllTold params o
    → ListTold src ts (unless_param o (ended_list src params end))
list_told src ts params end ends None good = good_told src ts params end ends good
list_told src ts params end ends (Some fault) faulty = law.by_param end ends faulty

params_told : (src : List Line) (ts : List Token) → ListTold src ts (params_of src ts)
unfolding params_of
params_told src ts =
    let form = form_of src ts in
    list_told src ts form.named form.ending (form_law.sound src ts) (first_fault param_fault [] form.named) (first_told form.named [] law.nothing)

-- what a form that ends so comes to
by_form : (src : List Line) (ts : List Token) (params : List Param) (end : Ending) → EndsWith src ts params end → params_of src ts
    ≡ unless_param (first_fault param_fault [] params) (ended_list src params end)
unfolding params_of
by_form src ts params end ends = ap (list_of src) (form_law.complete src ts params end ends)

abbrev given : ParamList → ℕ → Result ParamList Fault
given list n = Ok (list_with list.params list.ellipsis n)

accepted : (src : List Line) (ts : List Token) (list : ParamList) → IsAccepted src ts list → params_of src ts ≡ Ok list
accepted src ts list x =
    by_form src ts list.params (ending.Closed list.ellipsis x.close.span) (x.close, refl, x.closed)
    ∙ rw (good_none x.good, x.clear) (ap (given list) (sym x.line))

refused : (src : List Line) (ts : List Token) (fault : Fault) → IsRefused src ts fault → params_of src ts ≡ Err fault
refused src ts fault (law.by_param {params = params} end ends faulty) = by_form src ts params end ends ∙ rw (faulty_some faulty) refl
refused src ts _ (law.by_token {params = params} t x good) = by_form src ts params (ending.Stray t.span.line) (t, refl, x) ∙ rw (good_none good) refl
refused src ts _ (law.early {params = params} x good) = by_form src ts params ending.Open x ∙ rw (good_none good) refl
refused src ts _ (law.after_it {params = params} {ellipsis = ellipsis} close x good more) =
    by_form src ts params (ending.Closed ellipsis close.span) (close, refl, x) ∙ rw (good_none good, more) refl

pub params_law : ParamsLaw
params_law =
    record {
      sound = λ src ts list is. subst (ListTold src ts) is (params_told src ts);
      complete = accepted;
      first_fault = λ src ts fault is. subst (ListTold src ts) is (params_told src ts);
      faulty = refused;
    }
