-- What each line of an XS file is.
use Rattle.std.specs.Prelude.{ℕ, Bool, true, false, not, ◌&&◌, if◌then◌else◌, List, [], ◌∷◌}
use Rattle.std.specs.Str.{bytes_eq}
use Rattle.xs_base.specs.declared.source.Line.{Line}
use Rattle.xs_base.specs.Scanning.{is_blank_line}
use Rattle.xs_base.specs.ByteRuns.{is_remark}
use Rattle.xs_sections.specs.LineForms.{begins_pod, ends_pod, is_flush_left, is_directive, is_module_line}
use Rattle.xs_sections.specs.ModuleLine.{module_class}
use Rattle.xs_sections.specs.Keywords.{head_class}
use Rattle.xs_sections.specs.declared.class.LineClass.{LineClass}
use Rattle.xs_sections.specs.declared.class.LineClass.TheVariants as class
use Rattle.xs_sections.specs.declared.class.Region.{Region}
use Rattle.xs_sections.specs.declared.class.Region.TheVariants as region

-- whether a paragraph stands open of which lines after its keywords came
abbrev pub is_in_text : Region → Bool
is_in_text region.Body = true
is_in_text region.BodyGap = true
is_in_text region.Boot = true
is_in_text _ = false

-- A paragraph ends where an empty line is followed by a line that begins with a byte that is no
-- blank. So a new one begins at a line that is not empty where none stands open, and where such an
-- end is.
abbrev pub opens_paragraph : Region → List ℕ → Bool
opens_paragraph region.Between text = true
opens_paragraph region.HeadGap text = is_flush_left text
opens_paragraph region.BodyGap text = is_flush_left text
opens_paragraph _ text = false

-- A line whose first byte that is no blank is `#` is a comment. Directives are among them.
abbrev pub comment_class : List ℕ → LineClass
comment_class text = if is_directive text then class.Directive else class.Comment

-- a line between MODULE lines: an empty line belongs to the paragraph whose lines stand before it,
-- if there is one; any other line goes on with that paragraph, or stands at the head of one
abbrev pub paragraph_class : Region → List ℕ → LineClass
paragraph_class at text =
    if is_blank_line text then (if is_in_text at then class.Blank else class.Outside)
    else (if is_in_text at && not (opens_paragraph at text) then class.Further else head_class text)

-- a line of the XS part that is in no typemap block
abbrev pub xs_class : Region → List ℕ → LineClass
xs_class at text =
    if is_remark text then comment_class text
    else (if is_module_line text then module_class text else paragraph_class at text)

-- a line before which no MODULE line stands: the C part ends before the first MODULE line
abbrev pub c_class : List ℕ → LineClass
c_class text = if is_module_line text then module_class text else class.C

-- a line of a typemap block, which ends at its end word
abbrev pub map_line_class : List ℕ → List ℕ → LineClass
map_line_class end text =
    if bytes_eq text end then class.MapEnd
    else (if is_remark text then comment_class text else class.MapLine)

-- a line that is no POD
unfoldable pub class_at : Region → List ℕ → LineClass
class_at region.CPart text = c_class text
class_at (region.Map end) text = map_line_class end text
class_at at text = xs_class at text

abbrev pub pod_class : List ℕ → LineClass
pod_class text = if ends_pod text then class.PodEnd else class.PodLine

-- a line of a file, after open POD or not
abbrev pub class_of : Bool → Region → List ℕ → LineClass
class_of true at text = pod_class text
class_of false at text = if begins_pod text then class.PodBegin else class_at at text

-- POD stands open after its first line, up to its end.
abbrev pub pod_after : Bool → LineClass → Bool
pod_after pod class.PodBegin = true
pod_after pod class.PodEnd = false
pod_after pod _ = pod

-- what an empty line leaves open
abbrev pub gap_after : Region → Region
gap_after region.Head = region.HeadGap
gap_after at = at

-- A BOOT paragraph goes on up to its first empty line.
abbrev pub further_after : Region → Region
further_after region.Boot = region.Boot
further_after at = region.Body

abbrev pub blank_after : Region → Region
blank_after region.Boot = region.Between
blank_after at = region.BodyGap

-- what a line leaves open
abbrev pub region_after : Region → LineClass → Region
region_after at (class.Module names) = region.Between
region_after at class.BadModule = region.Between
region_after at class.Outside = gap_after at
region_after at class.Keyword = region.Head
region_after at class.BadValue = region.Head
region_after at (class.LeftOut word) = region.Head
region_after at (class.MapBegin end) = region.Map end
region_after at class.MapEnd = region.Head
region_after at class.First = region.Body
region_after at class.FirstOfBoot = region.Boot
region_after at class.Further = further_after at
region_after at class.Blank = blank_after at
region_after at _ = at

-- the lines of which a paragraph can begin
abbrev pub is_head : LineClass → Bool
is_head class.Keyword = true
is_head class.BadValue = true
is_head (class.LeftOut word) = true
is_head (class.MapBegin end) = true
is_head class.First = true
is_head class.FirstOfBoot = true
is_head _ = false

-- whether a paragraph begins at a line of a class
abbrev pub starts_paragraph : Region → LineClass → List ℕ → Bool
starts_paragraph at class text = is_head class && opens_paragraph at text

-- A line, what it is, and whether a paragraph begins at it.
pub record Tag : Type 0 where
  pub line : Line
  pub class : LineClass
  pub starts : Bool

abbrev pub tag_of : Bool → Region → Line → Tag
tag_of pod at line =
    record {
      line = line;
      class = class_of pod at line.text;
      starts = starts_paragraph at (class_of pod at line.text) line.text;
    }

-- each line with what it is, by what the lines before it leave open
unfoldable pub tags_from : Bool → Region → List Line → List Tag
tags_from pod at [] = []
tags_from pod at (line ∷ lines) =
    tag_of pod at line ∷ tags_from (pod_after pod (class_of pod at line.text))
    (region_after at (class_of pod at line.text)) lines

abbrev pub tags_of : List Line → List Tag
tags_of lines = tags_from false region.CPart lines

-- the lines at which paragraphs begin
abbrev pub heads_of : List Tag → List Line
heads_of [] = []
heads_of (t ∷ ts) = if t.starts then t.line ∷ heads_of ts else heads_of ts
