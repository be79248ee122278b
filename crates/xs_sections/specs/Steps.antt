-- What the reader of an XS file keeps, and how it goes on by a line.
use Rattle.std.specs.Prelude.{ℕ, ◌-◌, Bool, true, false, ◌==◌, if◌then◌else◌, List, [], ◌∷◌, ◌++◌, length, Option, None, Some, is_some, Result}
use Rattle.xs_base.specs.Faults.{earlier, unless_fault}
use Rattle.xs_base.specs.declared.fault.Fault.{Fault}
use Rattle.xs_base.specs.declared.fault_codes.TheConstants.{BAD_KEYWORD_VALUE, BAD_MODULE_LINE, KEYWORD_LEFT_OUT, NO_MODULE_LINE, OPEN_POD, OPEN_TYPEMAP, PREPROCESSOR_LINE, TOO_MANY_PARAGRAPHS}
use Rattle.xs_base.specs.declared.source.Line.{Line}
use Rattle.xs_sections.specs.Classes.{class_of, starts_paragraph, gap_after, further_after, blank_after}
use Rattle.xs_sections.specs.SectionFaults.{fault_at, paragraph_limit}
use Rattle.xs_sections.specs.Cut.{part_of}
use Rattle.xs_sections.specs.declared.class.LineClass.{LineClass}
use Rattle.xs_sections.specs.declared.class.LineClass.TheVariants as class
use Rattle.xs_sections.specs.declared.sections.ModuleNames.{ModuleNames}
use Rattle.xs_sections.specs.declared.class.Region.{Region}
use Rattle.xs_sections.specs.declared.class.Region.TheVariants as region
use Rattle.xs_sections.specs.declared.section_reading.Reading.{Reading}
use Rattle.xs_sections.specs.declared.sections.PartBody.{PartBody}
use Rattle.xs_sections.specs.declared.sections.PartBody.TheVariants.{Para, Map}
use Rattle.xs_sections.specs.declared.sections.Sections.{Sections}

-- before the first line
abbrev pub begun : Reading
begun =
    record {
      c_part = [];
      parts = [];
      modules = [];
      module_line = 0;
      lines = [];
      at = region.CPart;
      pod = None;
      map_line = 0;
      room = paragraph_limit;
      fault = None;
    }

abbrev pub noted : Reading → Fault → Reading
noted s fault = record s { fault = earlier s.fault fault }

abbrev pub counted : Bool → ℕ → Reading → Reading
counted starts line s =
    if starts then (if s.room == 0 then noted s (fault_at line TOO_MANY_PARAGRAPHS [])
    else record s { room = s.room - 1 }) else s

abbrev pub put_in : ℕ → PartBody → Reading → Reading
put_in line body s = record s { parts = s.parts ++ part_of (length s.modules) line body ∷ [] }

abbrev pub closed_with : List Line → Reading → Reading
closed_with [] s = s
closed_with (line ∷ lines) s =
    record (put_in line.number (Para (line ∷ lines)) s) { lines = [] }

-- The paragraph that stands open ends.
abbrev pub closed : Reading → Reading
closed s = closed_with s.lines s

abbrev pub module_begun : ModuleNames → ℕ → Reading → Reading
module_begun names line s =
    record (closed s)
    { modules = (closed s).modules ++ names ∷ []; module_line = line; at = region.Between }

abbrev pub module_refused : ℕ → Reading → Reading
module_refused line s =
    record (closed (noted s (fault_at line BAD_MODULE_LINE [])))
    { module_line = line; at = region.Between }

abbrev pub gap_left : Reading → Reading
gap_left s = record (closed s) { at = gap_after s.at }

abbrev pub at_head : Reading → Reading
at_head s = record (closed s) { at = region.Head }

abbrev pub map_begun : List ℕ → ℕ → Reading → Reading
map_begun end line s = record (closed s) { map_line = line; at = region.Map end }

abbrev pub map_ended : Reading → Reading
map_ended s = record (put_in s.map_line (Map s.lines) s) { lines = []; at = region.Head }

abbrev pub paragraph_begun : Line → Region → Reading → Reading
paragraph_begun line at s = record (closed s) { lines = (closed s).lines ++ line ∷ []; at = at }

abbrev pub gone_on : Line → Reading → Reading
gone_on line s = record s { lines = s.lines ++ line ∷ []; at = further_after s.at }

abbrev pub gone_on_empty : Line → Reading → Reading
gone_on_empty line s = record s { lines = s.lines ++ line ∷ []; at = blank_after s.at }

-- by a line of a class
unfoldable pub acted : LineClass → Line → Reading → Reading
acted class.PodBegin line s = record s { pod = Some line.number }
acted class.PodLine line s = s
acted class.PodEnd line s = record s { pod = None }
acted class.C line s = record s { c_part = s.c_part ++ line ∷ [] }
acted class.Comment line s = s
acted class.Directive line s = noted s (fault_at line.number PREPROCESSOR_LINE [])
acted (class.Module names) line s = module_begun names line.number s
acted class.BadModule line s = module_refused line.number s
acted class.Outside line s = gap_left s
acted class.Keyword line s = at_head s
acted class.BadValue line s = at_head (noted s (fault_at line.number BAD_KEYWORD_VALUE []))
acted (class.LeftOut word) line s = at_head (noted s (fault_at line.number KEYWORD_LEFT_OUT word))
acted (class.MapBegin end) line s = map_begun end line.number s
acted class.MapLine line s = record s { lines = s.lines ++ line ∷ [] }
acted class.MapEnd line s = map_ended s
acted class.First line s = paragraph_begun line region.Body s
acted class.FirstOfBoot line s = paragraph_begun line region.Boot s
acted class.Further line s = gone_on line s
acted class.Blank line s = gone_on_empty line s

abbrev pub class_after : Reading → Line → LineClass
class_after s line = class_of (is_some s.pod) s.at line.text

abbrev pub starts_at : Reading → Line → Bool
starts_at s line = starts_paragraph s.at (class_after s line) line.text

unfoldable pub step : Reading → Line → Reading
step s line = acted (class_after s line) line (counted (starts_at s line) line.number s)

-- by lines, one after the other
unfoldable pub run : Reading → List Line → Reading
run s [] = s
run s (line ∷ lines) = run (step s line) lines

abbrev pub is_c_part : Region → Bool
is_c_part region.CPart = true
is_c_part _ = false

abbrev pub is_map : Region → Bool
is_map (region.Map end) = true
is_map _ = false

abbrev pub module_noted : Reading → Reading
module_noted s = if is_c_part s.at then noted s (fault_at 1 NO_MODULE_LINE []) else s

abbrev pub pod_noted_at : Option ℕ → Reading → Reading
pod_noted_at None s = s
pod_noted_at (Some line) s = noted s (fault_at line OPEN_POD [])

abbrev pub pod_noted : Reading → Reading
pod_noted s = pod_noted_at s.pod s

abbrev pub map_noted : Reading → Reading
map_noted s = if is_map s.at then noted s (fault_at s.map_line OPEN_TYPEMAP []) else s

-- with the faults of what is missing or open at the end of the file
abbrev pub open_noted : Reading → Reading
open_noted s = map_noted (pod_noted (module_noted s))

abbrev pub gathered : Reading → Sections
gathered s = record {
  c_part = s.c_part;
  modules = s.modules;
  module_line = s.module_line;
  parts = s.parts;
}

-- at the end of the file
abbrev pub finished : Reading → Result Sections Fault
finished s = unless_fault (open_noted s).fault (gathered (closed (open_noted s)))
