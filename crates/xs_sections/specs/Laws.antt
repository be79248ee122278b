-- What holds of the sections of a file, in the words of the format.
use Rattle.std.specs.Prelude.{◌≡◌, ℕ, ◌+◌, ◌≤◌, length, Bool, true, false, if◌then◌else◌, List, [], ◌∷◌, ◌++◌, map, ◌⊎◌, All, Contains, Option, None, Some, Result, Ok, Err}
use Rattle.std.specs.List.{AllByRecursion, flat_map}
use Rattle.std.specs.Str.{bytes_eq}
use Rattle.xs_base.specs.Faults.{is_before}
use Rattle.xs_base.specs.declared.fault.Fault.{Fault}
use Rattle.xs_base.specs.declared.fault.Refuse.{Refuse}
use Rattle.xs_base.specs.declared.fault.Refuse.TheVariants as refuse
use Rattle.xs_base.specs.declared.source.Line.{Line}
use Rattle.xs_base.specs.Scanning.{starts_with, is_blank_line}
use Rattle.xs_base.specs.ByteRuns.{is_remark}
use Rattle.xs_sections.specs.LineForms.{begins_pod, ends_pod, is_flush_left, is_directive, is_module_line}
use Rattle.xs_sections.specs.ModuleLine.{module_names}
use Rattle.xs_sections.specs.Keywords.{head_class}
use Rattle.xs_sections.specs.Classes.{Tag, tags_of, heads_of}
use Rattle.xs_sections.specs.Cut.{lines_in, is_c, last_names, paragraph_of, map_of}
use Rattle.xs_sections.specs.SectionFaults.{is_module, some_line}
use Rattle.xs_sections.specs.declared.words.TheConstants.{BOOT}
use Rattle.xs_sections.specs.declared.class.LineClass.{LineClass}
use Rattle.xs_sections.specs.declared.class.LineClass.TheVariants as class
use Rattle.xs_sections.specs.declared.sections.ModuleNames.{ModuleNames}
use Rattle.xs_sections.specs.declared.sections.Part.{Part}
use Rattle.xs_sections.specs.declared.sections.PartBody.{PartBody}
use Rattle.xs_sections.specs.declared.sections.PartBody.TheVariants.{Para, Map}
use Rattle.xs_sections.specs.declared.sections.Sections.{Sections}

-- ---- each line has one class

-- a line that is neither POD nor a comment nor a MODULE line
pub record IsPlain (text : List ℕ) : Type 0 where
  pub no_pod : begins_pod text ≡ false
  pub no_comment : is_remark text ≡ false
  pub no_module : is_module_line text ≡ false

abbrev pub IsPlainLine : Line → Type 0
IsPlainLine line = IsPlain line.text

pub record IsComment (text : List ℕ) (directive : Bool) : Type 0 where
  pub no_pod : begins_pod text ≡ false
  pub comment : is_remark text ≡ true
  pub directive_is : is_directive text ≡ directive

pub record IsModule (text : List ℕ) (names : Option ModuleNames) : Type 0 where
  pub no_pod : begins_pod text ≡ false
  pub first_word : is_module_line text ≡ true
  pub names_are : module_names text ≡ names

-- A typemap block holds no POD and no comment. It may hold a MODULE line.
pub record IsInMap (text : List ℕ) : Type 0 where
  pub no_pod : begins_pod text ≡ false
  pub no_comment : is_remark text ≡ false

abbrev pub IsMapLine : Line → Type 0
IsMapLine line = IsInMap line.text

pub record IsLine (text : List ℕ) (empty : Bool) : Type 0 where
  pub plain : IsPlain text
  pub empty_is : is_blank_line text ≡ empty

-- a line that stands at the head of a paragraph, and reads as this there
pub record IsHeadLine (text : List ℕ) (class : LineClass) : Type 0 where
  pub line : IsLine text false
  pub reads : head_class text ≡ class

-- what a line of a class is by its own text
abbrev pub IsOf : List ℕ → LineClass → Type 0
IsOf text class.PodBegin = begins_pod text ≡ true
IsOf text class.PodLine = ends_pod text ≡ false
IsOf text class.PodEnd = ends_pod text ≡ true
IsOf text class.C = (begins_pod text ≡ false) × (is_module_line text ≡ false)
IsOf text class.Comment = IsComment text false
IsOf text class.Directive = IsComment text true
IsOf text (class.Module names) = IsModule text (Some names)
IsOf text class.BadModule = IsModule text None
IsOf text class.Outside = IsLine text true
IsOf text class.Keyword = IsHeadLine text class.Keyword
IsOf text class.BadValue = IsHeadLine text class.BadValue
IsOf text (class.LeftOut word) = IsHeadLine text (class.LeftOut word)
IsOf text (class.MapBegin end) = IsHeadLine text (class.MapBegin end)
IsOf text class.MapLine = IsInMap text
IsOf text class.MapEnd = begins_pod text ≡ false
IsOf text class.First = IsHeadLine text class.First
IsOf text class.FirstOfBoot = IsHeadLine text class.FirstOfBoot
IsOf text class.Further = IsLine text false
IsOf text class.Blank = IsLine text true

abbrev pub body_lines : PartBody → List Line
body_lines (Para lines) = lines
body_lines (Map lines) = lines

-- the classes of the lines that parts hold
abbrev pub is_in_part : LineClass → Bool
is_in_part class.MapLine = true
is_in_part class.First = true
is_in_part class.FirstOfBoot = true
is_in_part class.Further = true
is_in_part class.Blank = true
is_in_part _ = false

-- the last MODULE line of tags, with the names that it sets and its number
pub record IsLast (ts : List Tag) (names : ModuleNames) (number : ℕ) : Type 0 where
  pub before : List Tag
  pub last : Tag
  pub after : List Tag
  pub stands : ts ≡ before ++ last ∷ after
  pub sets : last.class ≡ class.Module names
  pub line_is : last.line.number ≡ number
  pub no_later : some_line is_module after ≡ false

-- The last names and their line are those of the last MODULE line.
abbrev pub IsLastModule : List Tag → Sections → Type 0
IsLastModule ts s = IsLast ts (last_names s) s.module_line

-- Each line of the file, in order and with its number, has one class. The C part has the lines of
-- its class, and the parts have the lines of paragraphs and typemap blocks, each line once and in
-- order. What is left is POD, a comment, a MODULE line, a file keyword, the line that begins or
-- ends a typemap block, or an empty line outside of all.
pub record HoldsEachLine (lines : List Line) (s : Sections) : Type 0 where
  pub each : map (λ (t : Tag). t.line) (tags_of lines) ≡ lines
  pub read : All (λ (t : Tag). IsOf t.line.text t.class) (tags_of lines)
  pub c_part : s.c_part ≡ lines_in is_c (tags_of lines)
  pub parts : flat_map (λ (p : Part). body_lines p.body) s.parts
      ≡ lines_in is_in_part (tags_of lines)
  pub last_module : IsLastModule (tags_of lines) s

-- ---- POD

abbrev pub is_no_pod : LineClass → Bool
is_no_pod class.PodBegin = false
is_no_pod class.PodLine = false
is_no_pod class.PodEnd = false
is_no_pod _ = true

-- A file without its POD: a stretch of POD begins at its first line and goes through the next line
-- that ends it.
pub data WithoutPod : List Line → List Line → Type 0 where
  done : WithoutPod [] []
  keeps : {line : Line} {lines rest : List Line} → begins_pod line.text ≡ false
      → WithoutPod lines rest → WithoutPod (line ∷ lines) (line ∷ rest)
  skips : {first : Line} (inner : List Line) (last : Line) {lines rest : List Line}
      → begins_pod first.text ≡ true → All (λ (l : Line). ends_pod l.text ≡ false) inner
      → ends_pod last.text ≡ true
      → WithoutPod lines rest → WithoutPod (first ∷ inner ++ last ∷ lines) rest

-- the lines before the first MODULE line
abbrev pub before_module : List Line → List Line
before_module [] = []
before_module (line ∷ lines) = if is_module_line line.text then [] else line ∷ before_module lines

-- the lines from the first MODULE line on
abbrev pub from_module : List Line → List Line
from_module [] = []
from_module (line ∷ lines) = if is_module_line line.text then line ∷ lines else from_module lines

abbrev pub without_comments : List Line → List Line
without_comments [] = []
without_comments (line ∷ lines) = if is_remark line.text then without_comments lines else line
    ∷ without_comments lines

-- ---- paragraphs

-- No empty line is followed by a line that begins with a byte that is no blank.
abbrev pub HoldsTogether : Line → List Line → Type 0
HoldsTogether line [] = Unit {0}
HoldsTogether line (next ∷ lines) = (is_blank_line line.text ≡ true
    → is_flush_left next.text ≡ false) × HoldsTogether next lines

-- An empty line is the last.
abbrev pub EndsAtGap : List Line → Type 0
EndsAtGap [] = Unit {0}
EndsAtGap (line ∷ lines) = (is_blank_line line.text ≡ true → lines ≡ []) × EndsAtGap lines

-- A paragraph begins with a line that is not empty, and holds no POD, no comment and no MODULE
-- line.
pub record IsParagraph (first : Line) (further : List Line) : Type 0 where
  pub some : is_blank_line first.text ≡ false
  pub plain : All IsPlainLine (first ∷ further)
  pub together : HoldsTogether first further
  pub boot : starts_with BOOT.now first.text ≡ true → EndsAtGap further

abbrev pub IsBody : PartBody → Type 0
IsBody (Para []) = ⊥
IsBody (Para (first ∷ further)) = IsParagraph first further
IsBody (Map lines) = All IsMapLine lines

-- A paragraph begins on its first line.
abbrev pub BeginsOn : ℕ → PartBody → Type 0
BeginsOn line (Para []) = ⊥
BeginsOn line (Para (first ∷ further)) = line ≡ first.number
BeginsOn line (Map lines) = Unit {0}

-- A part has the lines of its form, and begins on its line.
pub record IsPart (p : Part) : Type 0 where
  pub body : IsBody p.body
  pub line : BeginsOn p.line p.body

-- ---- the XS part

-- a line that is no file keyword
pub record IsParagraphHead (text : List ℕ) : Type 0 where
  pub line : IsLine text false
  pub reads : (head_class text ≡ class.First) ⊎ (head_class text ≡ class.FirstOfBoot)

abbrev pub last_line : Line → List Line → Line
last_line line [] = line
last_line line (next ∷ lines) = last_line next lines

-- A paragraph ends at the end of the file, before a MODULE line, and where an empty line is
-- followed by a line that begins with a byte that is no blank; a BOOT paragraph ends after any
-- empty line.
abbrev pub EndsBefore : Line → Line → List Line → Type 0
EndsBefore first last [] = Unit {0}
EndsBefore first last (next ∷ rest) =
    (is_module_line next.text ≡ true)
    ⊎ ((is_blank_line last.text ≡ true) × ((starts_with BOOT.now first.text ≡ true)
    ⊎ (is_flush_left next.text ≡ true)))

-- What stands open before a line at which a paragraph may begin.
pub data Before : Type 0 where
  -- no paragraph
  nothing : Before
  -- the head of a paragraph: the line before is a file keyword or ends a typemap block
  head : Before
  -- such a head, with an empty line after it
  head_gap : Before

abbrev pub after_gap : Before → Before
after_gap nothing = nothing
after_gap head = head_gap
after_gap head_gap = head_gap

-- Whether a paragraph begins at a line that is not empty: one that stands open goes on up to an
-- empty line that is followed by a line that begins with a byte that is no blank.
abbrev pub begins : Before → List ℕ → Bool
begins nothing text = true
begins head text = false
begins head_gap text = is_flush_left text

-- What the XS part holds: the names that its MODULE lines set, the lines at which its paragraphs
-- begin, those of file keywords alone among them, and its parts.
pub record Contents : Type 0 where
  pub modules : List ModuleNames
  pub heads : List Line
  pub parts : List Part

abbrev pub no_contents : Contents
no_contents = record { modules = []; heads = []; parts = [] }

abbrev pub with_module : ModuleNames → Contents → Contents
with_module names c = record c { modules = names ∷ c.modules }

-- a line that is not empty in front: a paragraph may begin at it
abbrev pub with_head : Before → Line → Contents → Contents
with_head before line c =
    record c { heads = if begins before line.text then line ∷ c.heads else c.heads }

abbrev pub with_part : Part → Contents → Contents
with_part part c = record c { parts = part ∷ c.parts }

-- The lines of the XS part, without POD and comments, and what they hold: empty lines, MODULE
-- lines, file keywords, typemap blocks and paragraphs stand there in a row. So many MODULE lines
-- stand before, and a part belongs to the last of them.
pub data XsPart : ℕ → Before → List Line → Contents → Type 0 where
  done : {count : ℕ} {before : Before} → XsPart count before [] no_contents
  gap : {count : ℕ} {before : Before} {line : Line} {lines : List Line} {held : Contents}
      → is_blank_line line.text ≡ true → XsPart count (after_gap before) lines held
      → XsPart count before (line ∷ lines) held
  sets : {count : ℕ} {before : Before} (new : ModuleNames) {line : Line} {lines : List Line}
      {held : Contents} → is_module_line line.text ≡ true → module_names line.text ≡ Some new
      → XsPart (count + 1) nothing lines held
      → XsPart count before (line ∷ lines) (with_module new held)
  keyword : {count : ℕ} {before : Before} {line : Line} {lines : List Line} {held : Contents}
      → IsHeadLine line.text class.Keyword → XsPart count head lines held
      → XsPart count before (line ∷ lines) (with_head before line held)
  block : {count : ℕ} {before : Before} (end : List ℕ) {first : Line} (inner : List Line)
      (last : Line) {lines : List Line} {held : Contents}
      → IsHeadLine first.text (class.MapBegin end)
      → All (λ (l : Line). bytes_eq l.text end ≡ false) inner → bytes_eq last.text end ≡ true
      → XsPart count head lines held
      → XsPart count before (first ∷ inner ++ last ∷ lines)
      (with_head before first (with_part (map_of count first.number inner) held))
  paragraph : {count : ℕ} {before : Before} {first : Line} (further lines : List Line)
      {held : Contents} → IsParagraphHead first.text → IsParagraph first further
      → EndsBefore first (last_line first further) lines
      → XsPart count nothing lines held
      → XsPart count before (first ∷ further ++ lines)
      (with_head before first (with_part (paragraph_of count first further) held))

-- A file, split: POD goes out, the C part is what stands before the first MODULE line, and in
-- the XS part, which begins with that line, comments go out first. There are 4,096
-- paragraphs at most.
pub record IsSplit (lines : List Line) (s : Sections) : Type 0 where
  pub rest : List Line
  pub without_pod : WithoutPod lines rest
  pub c_part : s.c_part ≡ before_module rest
  -- the lines at which paragraphs begin
  pub heads : List Line
  pub xs_part : XsPart 0 nothing (without_comments (from_module rest))
      (record { modules = s.modules; heads = heads; parts = s.parts })
  pub few : length heads ≤ 4096
  pub counted : heads ≡ heads_of (tags_of lines)

-- There is no other way to split a file so.
pub record IsOnlySplit (lines : List Line) (s : Sections) : Type 0 where
  pub split : IsSplit lines s
  pub same_c_part : (t : Sections) → IsSplit lines t → t.c_part ≡ s.c_part
  pub same_modules : (t : Sections) → IsSplit lines t → t.modules ≡ s.modules
  pub same_parts : (t : Sections) → IsSplit lines t → t.parts ≡ s.parts

-- ---- the lines of the file

-- the number of one of these lines
abbrev pub IsLineOf : List Line → ℕ → Type 0
IsLineOf [] number = ⊥
IsLineOf (line ∷ lines) number = (number ≡ line.number) ⊎ IsLineOf lines number

-- The lines of the C part, and those at which the parts begin, are lines of the file.
pub record StandsIn (lines : List Line) (s : Sections) : Type 0 where
  pub c_part : AllByRecursion (λ (line : Line). IsLineOf lines line.number) s.c_part
  pub parts : AllByRecursion (λ (part : Part). IsLineOf lines part.line) s.parts

-- ---- the first fault

-- A fault of the list before which none of them is reported.
pub record IsFirst (faults : List Fault) (f : Fault) : Type 0 where
  pub one : Contains faults f
  pub first : All (λ (g : Fault). is_before g f ≡ false) faults

abbrev pub ReportsFirst : {A : Type 0} → List Fault → Result A Refuse → Type 0
ReportsFirst faults (Ok a) = Unit {0}
ReportsFirst faults (Err (refuse.Fault f)) = IsFirst faults f
ReportsFirst faults (Err refuse.Memory) = Unit {0}
