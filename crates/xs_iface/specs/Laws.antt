-- What holds of the forms that are built: a file has a module only where each of its forms is
-- built, and the refusal of one that is not stands on a line of the file.
use Rattle.std.specs.List.{AllByRecursion}
use Rattle.std.specs.Prelude.{◌≡◌, ℕ, true, false, List, ◌∷◌, ◌++◌, ◌⊎◌}
use Rattle.xs_base.specs.declared.source.Line.{Line}
use Rattle.xs_iface.specs.PassedLines.{is_passed_line}
use Rattle.xs_iface.specs.Paragraph.{is_sum_paragraph}
use Rattle.xs_sections.specs.Laws.{IsLineOf}
use Rattle.xs_sections.specs.declared.sections.Part.{Part}
use Rattle.xs_sections.specs.declared.sections.PartBody.{PartBody}
use Rattle.xs_sections.specs.declared.sections.PartBody.TheVariants.{Para, Map}
use Rattle.xs_sections.specs.declared.sections.Sections.{Sections}

-- a line of the C part that gives C nothing but an `#include` or PERL_NO_GET_CONTEXT
abbrev pub IsBuiltLine : Line → Type 0
IsBuiltLine line = is_passed_line line.text ≡ true

-- a paragraph of the form; a typemap block is of no form that is built
abbrev pub IsBuiltBody : PartBody → Type 0
IsBuiltBody (Para lines) = is_sum_paragraph lines ≡ true
IsBuiltBody (Map lines) = ⊥

abbrev pub IsBuiltPart : Part → Type 0
IsBuiltPart part = IsBuiltBody part.body

-- a file of the forms that are built
pub record IsOfBuiltForms (s : Sections) : Type 0 where
  pub c_part : AllByRecursion IsBuiltLine s.c_part
  pub parts : AllByRecursion IsBuiltPart s.parts

-- a paragraph of another form, or a typemap block
abbrev pub IsUnbuiltBody : PartBody → Type 0
IsUnbuiltBody (Para lines) = is_sum_paragraph lines ≡ false
IsUnbuiltBody (Map lines) = Unit {0}

-- the first line of the C part that is of no form that is built
pub record IsUnbuiltLine (lines : List Line) (number : ℕ) : Type 0 where
  pub before : List Line
  pub line : Line
  pub after : List Line
  pub stands : lines ≡ before ++ line ∷ after
  pub built_before : AllByRecursion IsBuiltLine before
  pub unbuilt : is_passed_line line.text ≡ false
  pub line_is : number ≡ line.number

-- the first part that is of no form that is built
pub record IsUnbuiltPart (parts : List Part) (number : ℕ) : Type 0 where
  pub before : List Part
  pub part : Part
  pub after : List Part
  pub stands : parts ≡ before ++ part ∷ after
  pub built_before : AllByRecursion IsBuiltPart before
  pub unbuilt : IsUnbuiltBody part.body
  pub line_is : number ≡ part.line

-- where the C part is built and the parts are not
pub record HasUnbuiltPart (s : Sections) (number : ℕ) : Type 0 where
  pub c_part : AllByRecursion IsBuiltLine s.c_part
  pub part : IsUnbuiltPart s.parts number

-- The first form that is not built stands on a line of the file; the C part stands before the
-- parts.
pub record IsUnbuiltOn (lines : List Line) (s : Sections) (number : ℕ) : Type 0 where
  pub form : IsUnbuiltLine s.c_part number ⊎ HasUnbuiltPart s number
  pub on : IsLineOf lines number
