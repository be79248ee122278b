-- An XS file is split.
use Rattle.std.specs.Prelude.{ℕ, ◌+◌, ◌-◌, Bool, true, false, if◌then◌else◌, List, [], ◌∷◌, ◌++◌, length, slice_get, Result}
use Rattle.std.specs.Option.{unwrap_or}
use Rattle.xs_base.specs.Faults.{first_of, unless_fault}
use Rattle.xs_base.specs.declared.fault.Fault.{Fault}
use Rattle.xs_base.specs.declared.source.Line.{Line}
use Rattle.xs_base.specs.Lines.{lines_of}
use Rattle.xs_sections.specs.Classes.{Tag, tags_of}
use Rattle.xs_sections.specs.SectionFaults.{faults_of}
use Rattle.xs_sections.specs.declared.class.LineClass.{LineClass}
use Rattle.xs_sections.specs.declared.class.LineClass.TheVariants as class
use Rattle.xs_sections.specs.declared.sections.ModuleNames.{ModuleNames}
use Rattle.xs_sections.specs.declared.sections.Part.{Part}
use Rattle.xs_sections.specs.declared.sections.PartBody.{PartBody}
use Rattle.xs_sections.specs.declared.sections.PartBody.TheVariants.{Para, Map}
use Rattle.xs_sections.specs.declared.sections.Sections.{Sections}

-- Comments, directives and POD are passed over in paragraphs and in typemap blocks.
abbrev pub is_passed : LineClass → Bool
is_passed class.PodBegin = true
is_passed class.PodLine = true
is_passed class.PodEnd = true
is_passed class.C = true
is_passed class.Comment = true
is_passed class.Directive = true
is_passed _ = false

abbrev pub is_further : LineClass → Bool
is_further class.Further = true
is_further class.Blank = true
is_further _ = false

abbrev pub is_map_line : LineClass → Bool
is_map_line class.MapLine = true
is_map_line _ = false

-- the lines of such classes at the front, but for those that are passed over
abbrev pub lines_while : (LineClass → Bool) → List Tag → List Line
lines_while is [] = []
lines_while is (t ∷ ts) =
    if is t.class then t.line ∷ lines_while is ts
    else (if is_passed t.class then lines_while is ts else [])

-- the further lines of a paragraph, after its first line
abbrev pub paragraph_lines : List Tag → List Line
paragraph_lines ts = lines_while is_further ts

-- the lines of a typemap block, after the line that begins it
abbrev pub map_lines : List Tag → List Line
map_lines ts = lines_while is_map_line ts

-- the lines of the C part
abbrev pub is_c : LineClass → Bool
is_c class.C = true
is_c _ = false

-- the lines of such classes
abbrev pub lines_in : (LineClass → Bool) → List Tag → List Line
lines_in is [] = []
lines_in is (t ∷ ts) = if is t.class then t.line ∷ lines_in is ts else lines_in is ts

abbrev pub c_lines : List Tag → List Line
c_lines ts = lines_in is_c ts

-- the names that the MODULE lines set, in order
abbrev pub names_in : LineClass → List ModuleNames
names_in (class.Module names) = names ∷ []
names_in _ = []

abbrev pub modules_of : List Tag → List ModuleNames
modules_of [] = []
modules_of (t ∷ ts) = names_in t.class ++ modules_of ts

-- how many MODULE lines there are up to a line
abbrev pub count_after : ℕ → LineClass → ℕ
count_after count (class.Module names) = count + 1
count_after count _ = count

-- the number of the last MODULE line
abbrev pub line_after : ℕ → ℕ → LineClass → ℕ
line_after before number (class.Module names) = number
line_after before number class.BadModule = number
line_after before number _ = before

abbrev pub last_module_line : ℕ → List Tag → ℕ
last_module_line line [] = line
last_module_line line (t ∷ ts) = last_module_line (line_after line t.line.number t.class) ts

-- a part after so many MODULE lines: it has the names of the last of them
abbrev pub part_of : ℕ → ℕ → PartBody → Part
part_of count line body = record { «module» = count - 1; line = line; body = body }

abbrev pub paragraph_of : ℕ → Line → List Line → Part
paragraph_of count first further = part_of count first.number (Para (first ∷ further))

-- a typemap block, with the line that begins it
abbrev pub map_of : ℕ → ℕ → List Line → Part
map_of count line lines = part_of count line (Map lines)

-- the part that begins at a line
abbrev pub part_at : ℕ → LineClass → Line → List Tag → List Part
part_at count class.First line ts = paragraph_of count line (paragraph_lines ts) ∷ []
part_at count class.FirstOfBoot line ts = paragraph_of count line (paragraph_lines ts) ∷ []
part_at count (class.MapBegin end) line ts = map_of count line.number (map_lines ts) ∷ []
part_at count _ line ts = []

-- the paragraphs and typemap blocks, after so many MODULE lines
unfoldable pub parts_of : ℕ → List Tag → List Part
parts_of count [] = []
parts_of count (t ∷ ts) = part_at count t.class t.line ts ++ parts_of (count_after count t.class) ts

abbrev pub sections_of : List Tag → Sections
sections_of ts =
    record {
      c_part = c_lines ts;
      modules = modules_of ts;
      module_line = last_module_line 0 ts;
      parts = parts_of 0 ts;
    }

-- ---- the names of a part

abbrev pub no_names : ModuleNames
no_names = record { «module» = []; «package» = []; prefix = [] }

-- the names of the MODULE line at a place, counted from 0
abbrev pub names_at : List ModuleNames → ℕ → ModuleNames
names_at modules place = unwrap_or (slice_get modules place) no_names

-- the names of the MODULE line before a part
abbrev pub names_of : Sections → Part → ModuleNames
names_of s part = names_at s.modules part.module

-- the names of the last MODULE line
abbrev pub last_names : Sections → ModuleNames
last_names s = names_at s.modules (length s.modules - 1)

-- the sections of a file, or its first fault
abbrev pub split_of : List ℕ → Result Sections Fault
split_of bytes =
    unless_fault (first_of (faults_of (tags_of (lines_of bytes))))
    (sections_of (tags_of (lines_of bytes)))
