-- What becomes of the text of a template, by its rules alone.
use Rattle.std.specs.List.{list_all}
use Rattle.std.specs.Prelude.{◌≡◌, ℕ, not, ◌==◌, ◌&&◌, Bool, true, false, List, [], ◌∷◌, ◌++◌, None, Some, Result, Ok, Err}
use Rattle.xs_base.specs.Readers.{head_is}
use Rattle.xs_base.specs.Reading.{fault_in}
use Rattle.xs_base.specs.Scanning.{is_word_byte}
use Rattle.xs_base.specs.declared.fault.Fault.{Fault}
use Rattle.xs_base.specs.declared.fault.Refuse.{Refuse}
use Rattle.xs_base.specs.declared.fault.Refuse.TheVariants as refuse
use Rattle.xs_base.specs.declared.fault_codes.TheConstants.{TEMPLATE_NOT_TAKEN}
use Rattle.xs_template.specs.TemplatePieces.{expanded, value_of}
use Rattle.xs_template.specs.TemplateSteps.{is_escaped, text_of}
use Rattle.xs_template.specs.Variables.{variable_named}
use Rattle.xs_template.specs.declared.template.Names.{Names}
use Rattle.xs_template.specs.declared.template.Piece.{Piece}
use Rattle.xs_template.specs.declared.variables.Variable.{Variable}
use Rattle.xs_typemap.specs.declared.typemap.Code.{Code}

-- A byte that stays: no `$`, and no backslash that is lost.
abbrev pub stays : ℕ → List ℕ → Bool
stays b after = not (b == 36) && not (b == 92 && head_is is_escaped after)

-- A whole name: no further letter, digit or `_` stands after it.
abbrev pub IsWhole : List ℕ → Type 0
IsWhole after = head_is is_word_byte after ≡ false

-- The text of a template, and what it expands to: whole names are replaced, and a backslash before
-- `"`, `\` or `$` is lost. All else stays, byte by byte.
pub data Expands (names : Names) : List ℕ → List ℕ → Type 0 where
  done : Expands names [] []
  keeps : {text out : List ℕ} (b : ℕ) → stays b text ≡ true → Expands names text out
      → Expands names (b ∷ text) (b ∷ out)
  loses : {text out : List ℕ} (b : ℕ) → is_escaped b ≡ true
      → Expands names text out → Expands names (92 ∷ b ∷ text) (b ∷ out)
  replaces : {text out : List ℕ} (name : List ℕ) (variable : Variable)
      → variable_named name ≡ Some variable → IsWhole text → Expands names text out
      → Expands names (36 ∷ (name ++ text)) (value_of names variable ++ out)
  replaces_braced : {text out : List ℕ} (name : List ℕ) (variable : Variable)
      → variable_named name ≡ Some variable → Expands names text out
      → Expands names (36 ∷ 123 ∷ (name ++ 125 ∷ text)) (value_of names variable ++ out)

-- a name that is no variable, and is not the start of a name in braces
abbrev pub is_left_brace : List ℕ → List ℕ → Bool
is_left_brace [] after = head_is (λ b. b == 123) after
is_left_brace (b ∷ bs) after = false

-- A text that is no template, and the word at the first `$` that names no variable.
pub data Stops : List ℕ → List ℕ → Type 0 where
  no_variable : (name text : List ℕ) → list_all is_word_byte name ≡ true
      → IsWhole text → is_left_brace name text ≡ false → variable_named name ≡ None
      → Stops (36 ∷ (name ++ text)) (36 ∷ name)
  no_braced : {text : List ℕ}
      → ((name rest : List ℕ) → text ≡ name ++ 125 ∷ rest → variable_named name ≡ None)
      → Stops (36 ∷ 123 ∷ text) (36 ∷ 123 ∷ [])
  after_kept : {text word : List ℕ} (b : ℕ) → stays b text ≡ true → Stops text word
      → Stops (b ∷ text) word
  after_lost : {text word : List ℕ} (b : ℕ) → is_escaped b ≡ true
      → Stops text word → Stops (92 ∷ b ∷ text) word
  after_name : {text word : List ℕ} (name : List ℕ) (variable : Variable)
      → variable_named name ≡ Some variable → IsWhole text → Stops text word
      → Stops (36 ∷ (name ++ text)) word
  after_braced : {text word : List ℕ} (name : List ℕ) (variable : Variable)
      → variable_named name ≡ Some variable → Stops text word
      → Stops (36 ∷ 123 ∷ (name ++ 125 ∷ text)) word

-- These pieces expand to what the rules say, whatever the names stand for, and to nothing else.
pub record IsTemplate (text : List ℕ) (pieces : List Piece) : Type 0 where
  pub expands : (names : Names) → Expands names text (expanded names pieces)
  pub only : (names : Names) (out : List ℕ) → Expands names text out → out ≡ expanded names pieces
  pub taken : (word : List ℕ) → Stops text word → ⊥

-- The text is no template: this is the word at fault, and no other.
pub record IsNoTemplate (text word : List ℕ) : Type 0 where
  pub stops : Stops text word
  pub only : (other : List ℕ) → Stops text other → other ≡ word
  pub refused : (names : Names) (out : List ℕ) → Expands names text out → ⊥

-- a fault on the line of the kind's name
pub record IsRefused (code : Code) (fault : Fault) : Type 0 where
  pub is : fault ≡ fault_in code.file code.line TEMPLATE_NOT_TAKEN fault.word
  pub word : IsNoTemplate (text_of code.lines) fault.word

-- What the rules say of code.
abbrev pub FollowsRules : Code → Result (List Piece) Refuse → Type 0
FollowsRules code (Ok pieces) = IsTemplate (text_of code.lines) pieces
FollowsRules code (Err (refuse.Fault fault)) = IsRefused code fault
FollowsRules code (Err refuse.Memory) = Unit {0}
