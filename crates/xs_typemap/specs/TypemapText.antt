-- What a typemap says, by the format alone.
use Rattle.std.specs.List.{list_all}
use Rattle.std.specs.Prelude.{◌≡◌, ℕ, ◌||◌, Bool, true, false, fold, if◌then◌else◌, List, [], ◌∷◌, ◌++◌, None, Some, Result, Ok, Err}
use Rattle.xs_base.specs.ByteRuns.{belongs}
use Rattle.xs_base.specs.Readers.{head_is}
use Rattle.xs_base.specs.Reading.{fault_in}
use Rattle.xs_base.specs.Scanning.{is_identifier}
use Rattle.xs_base.specs.declared.byte_runs.ByteClass.TheVariants.{Blank}
use Rattle.xs_base.specs.declared.fault.Fault.{Fault}
use Rattle.xs_base.specs.declared.fault.Refuse.{Refuse}
use Rattle.xs_base.specs.declared.fault.Refuse.TheVariants as refuse
use Rattle.xs_base.specs.declared.fault_codes.TheConstants.{BAD_TYPEMAP_LINE, CODE_BEFORE_KIND}
use Rattle.xs_base.specs.declared.source.FileOf.{FileOf}
use Rattle.xs_base.specs.declared.source.Line.{Line}
use Rattle.xs_typemap.specs.TypemapEntries.{Entries, no_entries, with_code, with_type}
use Rattle.xs_typemap.specs.TypemapLines.{entry_of, heading_of, is_passed_over, without_end_blanks}
use Rattle.xs_typemap.specs.declared.lines.Section.{Section}
use Rattle.xs_typemap.specs.declared.lines.Section.TheVariants.{Types, Input, Output}
use Rattle.xs_typemap.specs.declared.lines.TypeEntry.{TypeEntry}
use Rattle.xs_typemap.specs.declared.typemap.Code.{Code}

-- One thing that a typemap says: that a type has a kind, or what the code of a kind is.
pub data Saying : Type 0 where
  has_kind : TypeEntry → Saying
  has_code : (input : Bool) (kind : List ℕ) → Code → Saying

abbrev pub with_saying : Entries → Saying → Entries
with_saying held (has_kind entry) = with_type entry.ctype entry.kind held
with_saying held (has_code input kind code) = with_code input kind code held

-- what a typemap holds that says this: a later saying replaces an earlier one of its type or kind
abbrev pub held_by : List Saying → Entries
held_by said = fold with_saying no_entries said

-- a line that is neither passed over nor a heading
pub record IsPlain (line : Line) : Type 0 where
  pub shown : is_passed_over line.text ≡ false
  pub no_heading : heading_of line.text ≡ None

abbrev pub is_indented : Line → Bool
is_indented line = head_is (belongs Blank) line.text

-- the section of the code for a direction
abbrev pub section_of : Bool → Section
section_of input = if input then Input else Output

-- the lines that belong to the code of a kind: code is indented
abbrev pub is_of_code : Line → Bool
is_of_code line = is_passed_over line.text || is_indented line

-- the code in these lines
abbrev pub code_in : List Line → List (List ℕ)
code_in [] = []
code_in (line ∷ lines) =
    if is_passed_over line.text then code_in lines else line.text ∷ code_in lines

abbrev pub IsName : Line → Type 0
IsName line = is_identifier (without_end_blanks line.text) ≡ true

abbrev pub code_at : FileOf → Line → List Line → Code
code_at file line block = record { file = file; line = line.number; lines = code_in block }

-- Lines of a section, and what they say. The code of a kind goes on up to the next line that is
-- not indented.
pub data Says (file : FileOf) : Section → List Line → List Saying → Type 0 where
  done : {section : Section} → Says file section [] []
  passed : {section : Section} {lines : List Line} {said : List Saying} (line : Line)
      → is_passed_over line.text ≡ true → Says file section lines said
      → Says file section (line ∷ lines) said
  heading : {section : Section} {lines : List Line} {said : List Saying} (line : Line)
      (new : Section) → is_passed_over line.text ≡ false → heading_of line.text ≡ Some new
      → Says file new lines said → Says file section (line ∷ lines) said
  entry : {lines : List Line} {said : List Saying} (line : Line) (e : TypeEntry) → IsPlain line
      → entry_of line.text ≡ Some e → Says file Types lines said
      → Says file Types (line ∷ lines) (has_kind e ∷ said)
  code : {lines : List Line} {said : List Saying} (input : Bool) (line : Line)
      (block : List Line) → IsPlain line → is_indented line ≡ false → IsName line
      → list_all is_of_code block ≡ true → head_is is_of_code lines ≡ false
      → Says file (section_of input) lines said
      → Says file (section_of input) (line ∷ (block ++ lines))
      (has_code input (without_end_blanks line.text) (code_at file line block) ∷ said)

-- Lines of a section of which one, with this number, has no reading, and the code of its fault.
pub data Breaks (file : FileOf) : Section → List Line → ℕ → ℕ → Type 0 where
  no_entry : {lines : List Line} (line : Line) → IsPlain line → entry_of line.text ≡ None
      → Breaks file Types (line ∷ lines) line.number BAD_TYPEMAP_LINE
  no_kind : {lines : List Line} (input : Bool) (line : Line) → IsPlain line
      → is_indented line ≡ false → is_identifier (without_end_blanks line.text) ≡ false
      → Breaks file (section_of input) (line ∷ lines) line.number BAD_TYPEMAP_LINE
  before_kind : {lines : List Line} (input : Bool) (line : Line) → IsPlain line
      → is_indented line ≡ true
      → Breaks file (section_of input) (line ∷ lines) line.number CODE_BEFORE_KIND
  after_passed : {section : Section} {lines : List Line} {number fault : ℕ} (line : Line)
      → is_passed_over line.text ≡ true → Breaks file section lines number fault
      → Breaks file section (line ∷ lines) number fault
  after_heading : {section : Section} {lines : List Line} {number fault : ℕ} (line : Line)
      (new : Section) → is_passed_over line.text ≡ false → heading_of line.text ≡ Some new
      → Breaks file new lines number fault → Breaks file section (line ∷ lines) number fault
  after_entry : {lines : List Line} {number fault : ℕ} (line : Line) (e : TypeEntry)
      → IsPlain line → entry_of line.text ≡ Some e → Breaks file Types lines number fault
      → Breaks file Types (line ∷ lines) number fault
  after_code : {lines : List Line} {number fault : ℕ} (input : Bool) (line : Line)
      (block : List Line) → IsPlain line → is_indented line ≡ false → IsName line
      → list_all is_of_code block ≡ true → head_is is_of_code lines ≡ false
      → Breaks file (section_of input) lines number fault
      → Breaks file (section_of input) (line ∷ (block ++ lines)) number fault

-- This is what the lines say, and a typemap of all that they say.
pub record Holds (file : FileOf) (lines : List Line) (held : Entries) : Type 0 where
  pub said : List Saying
  pub says : Says file Types lines said
  pub only : (other : List Saying) → Says file Types lines other → held_by other ≡ held
  pub whole : (number fault : ℕ) → Breaks file Types lines number fault → ⊥

-- The lines say nothing: one of them has no reading, and its number and its code are told.
pub record IsBroken (file : FileOf) (lines : List Line) (fault : Fault) : Type 0 where
  pub is : fault ≡ fault_in file fault.line fault.code []
  pub breaks : Breaks file Types lines fault.line fault.code
  pub nothing : (said : List Saying) → Says file Types lines said → ⊥

-- What the format says of the lines of a typemap.
abbrev pub FollowsFormat : FileOf → List Line → Result Entries Refuse → Type 0
FollowsFormat file lines (Ok held) = Holds file lines held
FollowsFormat file lines (Err (refuse.Fault fault)) = IsBroken file lines fault
FollowsFormat file lines (Err refuse.Memory) = Unit {0}
