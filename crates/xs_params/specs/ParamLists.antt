-- The parameters of a list, or its first fault (perlxs).
use Rattle.std.specs.List.{list_any}
use Rattle.std.specs.Option.{option_to_list}
use Rattle.std.specs.Prelude.{ℕ, Bool, true, false, ◌&&◌, not, nat_le, if◌then◌else◌, List, [], ◌∷◌, ◌++◌, length, Option, Some, None, is_some, Result, Ok, Err}
use Rattle.std.specs.Str.{bytes_eq}
use Rattle.xs_base.specs.Faults.{first_fault}
use Rattle.xs_base.specs.Lines.{last_filled}
use Rattle.xs_base.specs.Reading.{fault_in}
use Rattle.xs_base.specs.declared.fault.Fault.{Fault}
use Rattle.xs_base.specs.declared.fault_codes.TheConstants.{BAD_PARAMETER_LIST, DEFAULT_BEFORE_PLAIN, PARAMETER_TWICE, TOO_MANY_PARAMETERS}
use Rattle.xs_base.specs.declared.source.FileOf.TheVariants.{Xs}
use Rattle.xs_base.specs.declared.source.Line.{Line}
use Rattle.xs_ctok.specs.declared.token.Token.{Token}
use Rattle.xs_params.specs.DefaultTexts.{is_clear, rest_after}
use Rattle.xs_params.specs.ParamSteps.{step_of}
use Rattle.xs_params.specs.declared.form.Ending.{Ending}
use Rattle.xs_params.specs.declared.form.Ending.TheVariants as ending
use Rattle.xs_params.specs.declared.form.Form.{Form}
use Rattle.xs_params.specs.declared.param.Dir.{Dir}
use Rattle.xs_params.specs.declared.param.Dir.TheVariants as dir
use Rattle.xs_params.specs.declared.param.Param.{Param}
use Rattle.xs_params.specs.declared.param.ParamList.{ParamList}
use Rattle.xs_params.specs.declared.states.Due.{Due}
use Rattle.xs_params.specs.declared.states.Due.TheVariants as due
use Rattle.xs_params.specs.declared.states.Step.{Step}
use Rattle.xs_params.specs.declared.states.Step.TheVariants as step

-- ---- the form of a list

-- the parameter that is named, and not at its end
abbrev pub pending : Due → Option Param
pending (due.Length p) = Some p
pending (due.Default d) = Some d.param
pending _ = None

-- these parameters, and one more if there is one
abbrev pub formed : List Param → Option Param → Ending → Form
formed params last end = record { named = params ++ option_to_list last; ending = end }

-- what a step of this token comes to, where reading goes on so
abbrev pub by_step : List Param → Token → (Due → List Param → Form) → Step → Form
by_step params t go (step.On next) = go next params
by_step params t go (step.Ended p) = go due.Next (params ++ p ∷ [])
by_step params t go (step.Closed last ellipsis) =
    formed params last (ending.Closed ellipsis t.span)
by_step params t go (step.Stray last) = formed params last (ending.Stray t.span.line)

-- The parameters of a list that are named before it ends or a token has no reading, where these
-- stand in front.
unfoldable pub form_from : List Line → Due → List Param → List Token → Form
form_from src d params [] = formed params (pending d) ending.Open
form_from src d params (t ∷ ts) =
    by_step params t (λ e ps. form_from src e ps ts) (step_of src d t)

-- the form of a list, by the tokens after its `(`
abbrev pub form_of : List Line → List Token → Form
form_of src ts = form_from src due.First [] ts

-- ---- faults of parameters

-- how many parameters an XSUB may have
abbrev pub parameter_limit : ℕ
parameter_limit = 64

abbrev pub fault_at : ℕ → ℕ → List ℕ → Fault
fault_at line code word = fault_in Xs line code word

abbrev pub same_text : List ℕ → List ℕ → Bool
same_text a b = bytes_eq a b

-- Two parameters have one name: `NAME` and `length(NAME)` differ.
abbrev pub same_name : Param → Param → Bool
same_name p q =
    if p.is_length then q.is_length && same_text p.name q.name
    else not q.is_length && same_text p.name q.name

abbrev pub is_repeated : List Param → Param → Bool
is_repeated before p = list_any (λ q. same_name q p) before

abbrev pub is_out_list : Dir → Bool
is_out_list dir.OutList = true
is_out_list _ = false

-- An argument stands for the parameter.
abbrev pub in_signature : Param → Bool
in_signature p = not p.is_length && not (is_out_list p.dir)

abbrev pub has_default : Param → Bool
has_default p = is_some p.default

abbrev pub have_default : List Param → Bool
have_default before = list_any has_default before

-- An argument stands for it and it has no default, where one before it has one.
abbrev pub is_plain_after : List Param → Param → Bool
is_plain_after before p = in_signature p && (not (has_default p) && have_default before)

-- the fault of a parameter after others
abbrev pub param_fault : List Param → Param → Option Fault
param_fault before p =
    if is_repeated before p then Some (fault_at p.line PARAMETER_TWICE p.name)
    else if nat_le parameter_limit (length before) then Some
    (fault_at p.line TOO_MANY_PARAMETERS [])
    else if is_plain_after before p then Some (fault_at p.line DEFAULT_BEFORE_PLAIN p.name)
    else None

-- ---- lists

abbrev pub bad_list : ℕ → Fault
bad_list line = fault_at line BAD_PARAMETER_LIST []

abbrev pub list_with : List Param → Bool → ℕ → ParamList
list_with params ellipsis last_line =
    record { params = params; ellipsis = ellipsis; last_line = last_line }

-- a list of these parameters, by what ends it
abbrev pub ended_list : List Line → List Param → Ending → Result ParamList Fault
ended_list src params ending.Open = Err (bad_list (last_filled 1 src))
ended_list src params (ending.Stray line) = Err (bad_list line)
ended_list src params (ending.Closed ellipsis at) =
    if is_clear (rest_after src at) then Ok (list_with params ellipsis at.line)
    else Err (bad_list at.line)

-- the first fault of a parameter comes before what ends the list
abbrev pub unless_param : Option Fault → Result ParamList Fault → Result ParamList Fault
unless_param None list = list
unless_param (Some fault) list = Err fault

abbrev pub list_of : List Line → Form → Result ParamList Fault
list_of src form = unless_param (first_fault param_fault [] form.named)
    (ended_list src form.named form.ending)

-- The parameters of a list, by the lines of its paragraph and the tokens after its `(`.
unfoldable pub params_of : List Line → List Token → Result ParamList Fault
params_of src ts = list_of src (form_of src ts)
