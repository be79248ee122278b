-- The statements of the laws of this crate.
use Rattle.std.specs.List.{flat_map}
use Rattle.std.specs.Option.{option_to_list}
use Rattle.std.specs.Prelude.{◌≡◌, ℕ, ◌-◌, ◌<◌, ◌≤◌, Bool, true, false, ◌&&◌, nat_lt, drop, take, List, [], ◌∷◌, ◌++◌, length, Option, Ok, Err}
use Rattle.xs_base.specs.Lines.{last_filled}
use Rattle.xs_base.specs.declared.fault.Fault.{Fault}
use Rattle.xs_base.specs.declared.fault_codes.TheConstants.{DEFAULT_BEFORE_PLAIN, PARAMETER_TWICE, TOO_MANY_PARAMETERS}
use Rattle.xs_base.specs.declared.source.Line.{Line}
use Rattle.xs_ctok.specs.declared.token.Token.{Token}
use Rattle.xs_ctok.specs.TokenSpelling.{IsGap}
use Rattle.xs_params.specs.DefaultTexts.{is_clear, rest_after, text_of}
use Rattle.xs_params.specs.ListFronts.{Stands}
use Rattle.xs_params.specs.ParamGrammar.{IsList}
use Rattle.xs_params.specs.ParamLists.{bad_list, fault_at, form_of, is_plain_after, is_repeated, parameter_limit, params_of, pending}
use Rattle.xs_params.specs.ParamSteps.{step_of}
use Rattle.xs_params.specs.declared.form.Ending.{Ending}
use Rattle.xs_params.specs.declared.form.Ending.TheVariants as ending
use Rattle.xs_params.specs.declared.param.Param.{Param}
use Rattle.xs_params.specs.declared.param.ParamList.{ParamList}
use Rattle.xs_params.specs.declared.states.Due.{Due}
use Rattle.xs_params.specs.declared.states.Extent.{Extent}
use Rattle.xs_params.specs.declared.states.Step.TheVariants as step

-- ---- the form of a list

-- These tokens begin a list.
pub record Begins (src : List Line) (front : List Token) : Type 0 where
  pub more : List Token
  pub close : Token
  pub params : List Param
  pub ellipsis : Bool
  pub list : IsList src close (front ++ more) params ellipsis

-- No list begins with these tokens.
abbrev pub BeginsNone : List Line → List Token → Type 0
BeginsNone src front =
    (more : List Token) (close : Token) (params : List Param) (ellipsis : Bool)
    → IsList src close (front ++ more) params ellipsis → ⊥

-- The list is these tokens, and others stand after it.
pub record IsClosed (src : List Line) (ts : List Token) (params : List Param) (ellipsis : Bool)
    (close : Token) : Type 0 where
  pub front : List Token
  pub rest : List Token
  pub stand : ts ≡ front ++ rest
  pub list : IsList src close front params ellipsis

-- The tokens before this one begin a list, and none begins with it; these parameters are named.
pub record IsStray (src : List Line) (ts : List Token) (params : List Param)
    (t : Token) : Type 0 where
  pub front : List Token
  pub rest : List Token
  pub stand : ts ≡ front ++ t ∷ rest
  pub begins : Begins src front
  pub none : BeginsNone src (front ++ t ∷ [])
  pub due : Due
  pub ended : List Param
  pub last : Option Param
  pub stands : Stands src due ended front
  pub says : step_of src due t ≡ step.Stray last
  pub named : params ≡ ended ++ option_to_list last

-- The tokens begin a list that goes on; these parameters are named.
pub record IsOpen (src : List Line) (ts : List Token) (params : List Param) : Type 0 where
  pub begins : Begins src ts
  pub due : Due
  pub ended : List Param
  pub stands : Stands src due ended ts
  pub named : params ≡ ended ++ option_to_list (pending due)

-- What ends a list, in the words of the grammar.
abbrev pub EndsWith : List Line → List Token → List Param → Ending → Type 0
EndsWith src ts params ending.Open = IsOpen src ts params
EndsWith src ts params (ending.Closed ellipsis at) =
    (close : Token) × (at ≡ close.span) × IsClosed src ts params ellipsis close
EndsWith src ts params (ending.Stray line) =
    (t : Token) × (line ≡ t.span.line) × IsStray src ts params t

-- The form of a list is the list of the grammar that stands in front; or else it has the first
-- token with which no list begins, or all tokens begin one that goes on.
pub record FormLaw : Type 0 where
  pub sound : (src : List Line) (ts : List Token)
      → EndsWith src ts (form_of src ts).named (form_of src ts).ending
  pub complete : (src : List Line) (ts : List Token) (params : List Param) (end : Ending)
      → EndsWith src ts params end → form_of src ts ≡ record { named = params; ending = end }

-- ---- faults of parameters

-- Each parameter is held against those before it: its name is a new one, fewer than 64 stand before
-- it, and it has a default where one before it has, or no argument stands for it.
pub data AreGood : List Param → Type 0 where
  nothing : AreGood []
  more : {before : List Param} (p : Param) → AreGood before → is_repeated before p ≡ false
      → length before < parameter_limit → is_plain_after before p ≡ false
      → AreGood (before ++ p ∷ [])

-- the first parameter that is not so, and its fault
pub data IsFaulty : List Param → Fault → Type 0 where
  repeated : {before : List Param} (p : Param) (rest : List Param) → AreGood before
      → is_repeated before p ≡ true
      → IsFaulty (before ++ p ∷ rest) (fault_at p.line PARAMETER_TWICE p.name)
  too_many : {before : List Param} (p : Param) (rest : List Param) → AreGood before
      → is_repeated before p ≡ false → parameter_limit ≤ length before
      → IsFaulty (before ++ p ∷ rest) (fault_at p.line TOO_MANY_PARAMETERS [])
  plain : {before : List Param} (p : Param) (rest : List Param) → AreGood before
      → is_repeated before p ≡ false → length before < parameter_limit
      → is_plain_after before p ≡ true
      → IsFaulty (before ++ p ∷ rest) (fault_at p.line DEFAULT_BEFORE_PLAIN p.name)

-- ---- texts of defaults

-- the number of each line is greater than that of the line before it
abbrev pub rises : List Line → Bool
rises [] = true
rises (l ∷ []) = true
rises (l ∷ m ∷ rest) = nat_lt l.number m.number && rises (m ∷ rest)

-- whole lines, each with byte 10 at its end
abbrev pub whole_lines : List Line → List ℕ
whole_lines lines = flat_map (λ (l : Line). l.text ++ 10 ∷ []) lines

-- The text of a default is the bytes of its line between its columns; or else those of its first
-- line from its column on, the lines between, and those of its last line up to its column, with
-- byte 10 between two lines.
pub record TextLaw : Type 0 where
  pub one : (before more : List Line) (line : Line) (x : Extent)
      → rises (before ++ line ∷ more) ≡ true → x.from.line ≡ line.number
      → x.to_line ≡ line.number
      → text_of (before ++ line ∷ more) x
      ≡ drop (x.from.col - 1) (take (x.to_col - 1) line.text)
  pub several : (before between more : List Line) (first last : Line) (x : Extent)
      → rises (before ++ first ∷ (between ++ last ∷ more)) ≡ true
      → x.from.line ≡ first.number → x.to_line ≡ last.number
      → text_of (before ++ first ∷ (between ++ last ∷ more)) x
      ≡ drop (x.from.col - 1) first.text
      ++ (10 ∷ (whole_lines between ++ take (x.to_col - 1) last.text))

-- ---- what stands after a list

-- blanks and whole comments, and a comment up to the end of the line, if one (C11 6.4.9)
pub data IsClear : List ℕ → Type 0 where
  gap_alone : {g : List ℕ} → IsGap g → IsClear g
  line_comment : (g more : List ℕ) → IsGap g → IsClear (g ++ 47 ∷ 47 ∷ more)

-- The rest of a line is clear just where it is that.
pub record ClearLaw : Type 0 where
  pub sound : (text : List ℕ) → is_clear text ≡ true → IsClear text
  pub complete : (text : List ℕ) → IsClear text → is_clear text ≡ true

-- ---- lists

-- A list that is accepted: no parameter is at fault, and only blanks and comments stand after the
-- `)` on its line.
pub record IsAccepted (src : List Line) (ts : List Token) (list : ParamList) : Type 0 where
  pub close : Token
  pub closed : IsClosed src ts list.params list.ellipsis close
  pub line : list.last_line ≡ close.span.line
  pub good : AreGood list.params
  pub clear : is_clear (rest_after src close.span) ≡ true

-- The first fault of a list. A parameter that is named is at fault before the token that has no
-- reading, and before what stands after the list.
pub data IsRefused (src : List Line) (ts : List Token) : Fault → Type 0 where
  by_param : {params : List Param} {fault : Fault} (end : Ending) → EndsWith src ts params end
      → IsFaulty params fault → IsRefused src ts fault
  by_token : {params : List Param} (t : Token) → IsStray src ts params t → AreGood params
      → IsRefused src ts (bad_list t.span.line)
  early : {params : List Param} → IsOpen src ts params → AreGood params
      → IsRefused src ts (bad_list (last_filled 1 src))
  after_it : {params : List Param} {ellipsis : Bool} (close : Token)
      → IsClosed src ts params ellipsis close → AreGood params
      → is_clear (rest_after src close.span) ≡ false → IsRefused src ts (bad_list close.span.line)

-- A list has these parameters just where it is accepted with them, and this fault just where that
-- is its first.
pub record ParamsLaw : Type 0 where
  pub sound : (src : List Line) (ts : List Token) (list : ParamList)
      → params_of src ts ≡ Ok list → IsAccepted src ts list
  pub complete : (src : List Line) (ts : List Token) (list : ParamList)
      → IsAccepted src ts list → params_of src ts ≡ Ok list
  pub first_fault : (src : List Line) (ts : List Token) (fault : Fault)
      → params_of src ts ≡ Err fault → IsRefused src ts fault
  pub faulty : (src : List Line) (ts : List Token) (fault : Fault)
      → IsRefused src ts fault → params_of src ts ≡ Err fault
