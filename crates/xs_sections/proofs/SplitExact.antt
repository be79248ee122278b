-- Reading line by line comes to the sections and the first fault of the file.
use Rattle.std.proofs.Common.{◌≡◌, ℕ, suc, ◌+◌, ◌-◌, ◌<◌, ◌≤◌, length, drop, get_or, Bool, true, false, ◌==◌, if◌then◌else◌, List, [], ◌∷◌, ◌++◌, Option, None, Some, is_some, Result, fold, refl, ap, sym, ◌∙◌, subst, append_assoc, append-nil, arith}
use Rattle.std.proofs.lemmas.Bool.{false≢true}
use Rattle.std.proofs.lemmas.Bool.Decides.{nat_tests}
use Rattle.std.proofs.lemmas.List.{length_push}
use Rattle.std.proofs.lemmas.List.Sums.{fold-append}
use Rattle.std.proofs.Math.ListN.{drop_of_length-le}
use Rattle.std.proofs.Math.Seq.{drop-cons}
use Rattle.xs_base.specs.Faults.{earlier, first_of, is_before, unless_fault}
use Rattle.xs_base.specs.declared.fault.Fault.{Fault}
use Rattle.xs_base.specs.declared.fault_codes.TheConstants.{BAD_KEYWORD_VALUE, BAD_MODULE_LINE, KEYWORD_LEFT_OUT, NO_MODULE_LINE, OPEN_POD, OPEN_TYPEMAP, PREPROCESSOR_LINE, TOO_MANY_PARAGRAPHS}
use Rattle.xs_base.specs.declared.source.Line.{Line}
use Rattle.xs_sections.specs.Classes.{Tag, class_of, is_in_text, region_after, pod_after, gap_after, further_after, blank_after, tag_of, tags_from, tags_of}
use Rattle.xs_sections.specs.Cut.{paragraph_lines, map_lines, c_lines, modules_of, last_module_line, paragraph_of, map_of, parts_of, sections_of}
use Rattle.xs_sections.specs.SectionFaults.{fault_at, line_fault, room_fault, room_after, line_faults, is_module, is_pod_begin, is_pod_end, is_map_end, unless_after, pod_fault, map_fault, faults_of}
use Rattle.xs_sections.specs.LineForms as mark
use Rattle.xs_sections.specs.Steps.{begun, noted, counted, closed_with, closed, acted, starts_at, step, run, is_c_part, is_map, module_noted, pod_noted_at, pod_noted, map_noted, open_noted, gathered, finished, class_after}
use Rattle.xs_sections.specs.declared.class.LineClass.{LineClass}
use Rattle.xs_sections.specs.declared.class.LineClass.TheVariants as class
use Rattle.xs_sections.specs.declared.sections.ModuleNames.{ModuleNames}
use Rattle.xs_sections.specs.declared.class.Region.{Region}
use Rattle.xs_sections.specs.declared.class.Region.TheVariants as region
use Rattle.xs_sections.specs.declared.section_reading.Reading.{Reading}
use Rattle.xs_sections.specs.declared.sections.Part.{Part}
use Rattle.xs_sections.specs.declared.sections.Sections.{Sections}
use Rattle.xs_sections.proofs.RegionFacts.{same_cond, tag, no_map_after, no_c_after, no_map_blank, no_c_blank, gap_map, gap_c, gap_text}
use Rattle.xs_sections.proofs.ClassesFit.{HasLine, HasLine-push, Good, Fits, Can, class_of_fits}

-- ---- what the lines that are left add to what was read

abbrev rest_module : Region → List Tag → List Fault
rest_module at ts = if is_c_part at then unless_after is_module 1 NO_MODULE_LINE ts else []

abbrev open_pod : Option ℕ → List Tag → List Fault
open_pod None ts = []
open_pod (Some line) ts = unless_after is_pod_end line OPEN_POD ts

abbrev rest_pod : Option ℕ → List Tag → List Fault
rest_pod pod ts = open_pod pod ts ++ pod_fault ts

abbrev rest_map : Region → ℕ → List Tag → List Fault
rest_map at line ts = (if is_map at then unless_after is_map_end line OPEN_TYPEMAP ts else []) ++ map_fault ts

-- the part that stands open, if one does
abbrev open_part : ℕ → List Line → List Part
open_part count [] = []
open_part count (line ∷ lines) = paragraph_of count line lines ∷ []

abbrev rest_of_paragraph : ℕ → List Line → List Tag → List Part
rest_of_paragraph count [] ts = parts_of count ts
rest_of_paragraph count (line ∷ lines) ts = paragraph_of count line (lines ++ paragraph_lines ts) ∷ parts_of count ts

abbrev rest_parts : Region → ℕ → ℕ → List Line → List Tag → List Part
rest_parts at count start lines ts =
    if is_map at then map_of count start (lines ++ map_lines ts) ∷ parts_of count ts else rest_of_paragraph count lines ts

abbrev rest_sections : Reading → List Tag → Sections
rest_sections s ts =
    record {
      c_part = s.c_part ++ c_lines ts;
      modules = s.modules ++ modules_of ts;
      module_line = last_module_line s.module_line ts;
      parts = s.parts ++ rest_parts s.at (length s.modules) s.map_line s.lines ts;
    }

abbrev rest_faults : Reading → List Tag → List Fault
rest_faults s ts = line_faults s.room ts ++ rest_module s.at ts ++ rest_pod s.pod ts ++ rest_map s.at s.map_line ts

abbrev rest_of : Reading → List Tag → Result Sections Fault
rest_of s ts = unless_fault (fold earlier s.fault (rest_faults s ts)) (rest_sections s ts)

-- ---- closing a paragraph

abbrev tidied : Reading → Reading
tidied s = record s { parts = s.parts ++ open_part (length s.modules) s.lines; lines = [] }

closed_is : (s : Reading) → closed s ≡ tidied s
closed_is s = by_lines s.lines refl
  where
    by_lines : (lines : List Line) → s.lines ≡ lines → closed_with lines s ≡ record s { parts = s.parts ++ open_part (length s.modules) lines; lines = [] }
    by_lines [] e = ap (λ (ps : List Part). record s { parts = ps; lines = s.lines }) (sym (append-nil s.parts))
        ∙ ap (λ (ls : List Line). record s { parts = s.parts ++ []; lines = ls }) e
    by_lines (line ∷ lines) e = refl

-- The tag ends the paragraph that stands open.
closing : (parts : List Part) (at : Region) (count start : ℕ) (lines : List Line) (t : Tag) (ts : List Tag) (tail : List Part)
    → is_map at ≡ false → paragraph_lines (t ∷ ts) ≡ [] → parts_of count (t ∷ ts) ≡ tail
    → (parts ++ open_part count lines) ++ tail ≡ parts ++ rest_parts at count start lines (t ∷ ts)
closing parts at count start lines t ts tail no_map none gathered =
    append_assoc parts (open_part count lines) tail ∙ ap (λ (ps : List Part). parts ++ ps) (rw no_map (by_lines lines))
  where
    by_lines : (lines : List Line) → open_part count lines ++ tail ≡ rest_of_paragraph count lines (t ∷ ts)
    by_lines [] = sym gathered
    by_lines (line ∷ lines) =
        rw (none, append-nil lines, gathered) refl

-- ---- a line of a class

-- What a line does to what was read, against what its tag adds.
record Goes (s new : Reading) (t : Tag) (ts : List Tag) : Type 0 where
  at : new.at ≡ region_after s.at t.class
  pod : is_some new.pod ≡ pod_after (is_some s.pod) t.class
  fault : new.fault ≡ fold earlier s.fault (line_fault t.line.number t.class)
  room : new.room ≡ s.room
  c_part : new.c_part ++ c_lines ts ≡ s.c_part ++ c_lines (t ∷ ts)
  modules : new.modules ++ modules_of ts ≡ s.modules ++ modules_of (t ∷ ts)
  module_line : last_module_line new.module_line ts ≡ last_module_line s.module_line (t ∷ ts)
  parts : new.parts ++ rest_parts new.at (length new.modules) new.map_line new.lines ts
      ≡ s.parts ++ rest_parts s.at (length s.modules) s.map_line s.lines (t ∷ ts)
  no_module : rest_module new.at ts ≡ rest_module s.at (t ∷ ts)
  no_cut : rest_pod new.pod ts ≡ rest_pod s.pod (t ∷ ts)
  no_end : rest_map new.at new.map_line ts ≡ rest_map s.at s.map_line (t ∷ ts)
  good : Good new.at new.lines

no_text : (at : Region) (lines : List Line) → is_in_text at ≡ false → Good at lines
no_text at lines e h = absurd (false≢true (sym e ∙ h))

-- No POD begins where POD stands open.
abbrev FitsPod : Option ℕ → LineClass → Type 0
FitsPod pod class.PodBegin = pod ≡ None
FitsPod pod _ = Unit {0}

no_pod_fits : (c : LineClass) → FitsPod None c
no_pod_fits class.PodBegin = refl
no_pod_fits _ = tt

pod_fits : (pod : Option ℕ) (at : Region) (text : List ℕ) → FitsPod pod (class_of (is_some pod) at text)
pod_fits None at text = no_pod_fits (class_of false at text)
pod_fits (Some line) at text = elim (mark.ends_pod text) as (λ b. FitsPod (Some line) (if b then class.PodEnd else class.PodLine)) [ true ↦ tt | false ↦ tt ]

pod_goes_on : (pod : Option ℕ) (c : LineClass) (l : Line) (starts : Bool) (ts : List Tag) → is_pod_begin c ≡ false → is_pod_end c ≡ false
    → rest_pod pod ts ≡ rest_pod pod (tag c l starts ∷ ts)
pod_goes_on None c l starts ts b e = rw b refl
pod_goes_on (Some line) c l starts ts b e = rw (b, e) refl

pod_begins : (pod : Option ℕ) (l : Line) (starts : Bool) (ts : List Tag) → pod ≡ None
    → rest_pod (Some l.number) ts ≡ rest_pod pod (tag class.PodBegin l starts ∷ ts)
pod_begins None l starts ts e = refl
pod_begins (Some line) l starts ts e = absurd cc

pod_ends : (pod : Option ℕ) (l : Line) (starts : Bool) (ts : List Tag) → rest_pod None ts ≡ rest_pod pod (tag class.PodEnd l starts ∷ ts)
pod_ends None l starts ts = refl
pod_ends (Some line) l starts ts = refl

-- The tag is passed over by the part that stands open.
passed_parts : (at : Region) (count start : ℕ) (lines : List Line) (t : Tag) (ts : List Tag)
    → paragraph_lines (t ∷ ts) ≡ paragraph_lines ts → map_lines (t ∷ ts) ≡ map_lines ts → parts_of count (t ∷ ts) ≡ parts_of count ts
    → rest_parts at count start lines ts ≡ rest_parts at count start lines (t ∷ ts)
passed_parts at count start lines t ts p m q = by_map (is_map at)
  where
    by_lines : (lines : List Line) → rest_of_paragraph count lines ts ≡ rest_of_paragraph count lines (t ∷ ts)
    by_lines [] = sym q
    by_lines (line ∷ lines) = rw (p, q) refl

    by_map : (b : Bool)
        → (if b then map_of count start (lines ++ map_lines ts) ∷ parts_of count ts else rest_of_paragraph count lines ts)
        ≡ (if b then map_of count start (lines ++ map_lines (t ∷ ts)) ∷ parts_of count (t ∷ ts) else rest_of_paragraph count lines (t ∷ ts))
    by_map true = rw (m, q) refl
    by_map false = by_lines lines

-- A line goes on with a paragraph.
further_parts : (at new : Region) (count start : ℕ) (lines : List Line) (line : Line) (t : Tag) (ts : List Tag)
    → is_map at ≡ false → is_map new ≡ false → HasLine lines → paragraph_lines (t ∷ ts) ≡ line ∷ paragraph_lines ts
    → parts_of count (t ∷ ts) ≡ parts_of count ts
    → rest_parts new count start (lines ++ line ∷ []) ts ≡ rest_parts at count start lines (t ∷ ts)
further_parts at new count start [] line t ts a b some p q = absurd some
further_parts at new count start (first ∷ lines) line t ts a b some p q = rw (a, b, p, q, append_assoc lines (line ∷ []) (paragraph_lines ts)) refl

-- A line goes on with a typemap block.
map_line_parts : (at : Region) (count start : ℕ) (lines : List Line) (line : Line) (t : Tag) (ts : List Tag)
    → is_map at ≡ true → map_lines (t ∷ ts) ≡ line ∷ map_lines ts → parts_of count (t ∷ ts) ≡ parts_of count ts
    → rest_parts at count start (lines ++ line ∷ []) ts ≡ rest_parts at count start lines (t ∷ ts)
map_line_parts at count start lines line t ts a p q = rw (a, p, q, append_assoc lines (line ∷ []) (map_lines ts)) refl

-- A typemap block ends.
map_end_parts : (parts : List Part) (at : Region) (count start : ℕ) (lines : List Line) (t : Tag) (ts : List Tag)
    → is_map at ≡ true → map_lines (t ∷ ts) ≡ [] → parts_of count (t ∷ ts) ≡ parts_of count ts
    → (parts ++ map_of count start lines ∷ []) ++ parts_of count ts ≡ parts ++ rest_parts at count start lines (t ∷ ts)
map_end_parts parts at count start lines t ts a p q =
    rw (a, p, q, append-nil lines, append_assoc parts (map_of count start lines ∷ []) (parts_of count ts)) refl

no_c_in_map : (at : Region) → is_map at ≡ true → is_c_part at ≡ false
no_c_in_map region.CPart h = absurd (false≢true h)
no_c_in_map _ h = refl

goes : (c : LineClass) (l : Line) (s : Reading) (starts : Bool) (ts : List Tag) → Good s.at s.lines → Fits s.at s.lines c → FitsPod s.pod c
    → Goes s (acted c l s) (tag c l starts) ts
unfolding acted parts_of
goes class.PodBegin l s starts ts good fits fits_pod =
    record {
      at = refl;
      pod = refl;
      fault = refl;
      room = refl;
      c_part = refl;
      modules = refl;
      module_line = refl;
      parts = ap (λ (ps : List Part). s.parts ++ ps) (passed_parts s.at (length s.modules) s.map_line s.lines (tag class.PodBegin l starts) ts refl refl refl);
      no_module = refl;
      no_cut = pod_begins s.pod l starts ts fits_pod;
      no_end = refl;
      good = good;
    }
goes class.PodLine l s starts ts good fits fits_pod =
    record {
      at = refl;
      pod = refl;
      fault = refl;
      room = refl;
      c_part = refl;
      modules = refl;
      module_line = refl;
      parts = ap (λ (ps : List Part). s.parts ++ ps) (passed_parts s.at (length s.modules) s.map_line s.lines (tag class.PodLine l starts) ts refl refl refl);
      no_module = refl;
      no_cut = pod_goes_on s.pod class.PodLine l starts ts refl refl;
      no_end = refl;
      good = good;
    }
goes class.PodEnd l s starts ts good fits fits_pod =
    record {
      at = refl;
      pod = refl;
      fault = refl;
      room = refl;
      c_part = refl;
      modules = refl;
      module_line = refl;
      parts = ap (λ (ps : List Part). s.parts ++ ps) (passed_parts s.at (length s.modules) s.map_line s.lines (tag class.PodEnd l starts) ts refl refl refl);
      no_module = refl;
      no_cut = pod_ends s.pod l starts ts;
      no_end = refl;
      good = good;
    }
goes class.C l s starts ts good fits fits_pod =
    record {
      at = refl;
      pod = refl;
      fault = refl;
      room = refl;
      c_part = append_assoc s.c_part (l ∷ []) (c_lines ts);
      modules = refl;
      module_line = refl;
      parts = ap (λ (ps : List Part). s.parts ++ ps) (passed_parts s.at (length s.modules) s.map_line s.lines (tag class.C l starts) ts refl refl refl);
      no_module = refl;
      no_cut = pod_goes_on s.pod class.C l starts ts refl refl;
      no_end = refl;
      good = good;
    }
goes class.Comment l s starts ts good fits fits_pod =
    record {
      at = refl;
      pod = refl;
      fault = refl;
      room = refl;
      c_part = refl;
      modules = refl;
      module_line = refl;
      parts = ap (λ (ps : List Part). s.parts ++ ps) (passed_parts s.at (length s.modules) s.map_line s.lines (tag class.Comment l starts) ts refl refl refl);
      no_module = refl;
      no_cut = pod_goes_on s.pod class.Comment l starts ts refl refl;
      no_end = refl;
      good = good;
    }
goes class.Directive l s starts ts good fits fits_pod =
    record {
      at = refl;
      pod = refl;
      fault = refl;
      room = refl;
      c_part = refl;
      modules = refl;
      module_line = refl;
      parts = ap (λ (ps : List Part). s.parts ++ ps) (passed_parts s.at (length s.modules) s.map_line s.lines (tag class.Directive l starts) ts refl refl refl);
      no_module = refl;
      no_cut = pod_goes_on s.pod class.Directive l starts ts refl refl;
      no_end = refl;
      good = good;
    }
goes (class.Module names) l s starts ts good fits fits_pod =
    subst (λ (r : Reading). Goes s (record r { modules = r.modules ++ names ∷ []; module_line = l.number; at = region.Between })
    (tag (class.Module names) l starts) ts) (sym (closed_is s))
    (record {
      at = refl;
      pod = refl;
      fault = refl;
      room = refl;
      c_part = refl;
      modules = append_assoc s.modules (names ∷ []) (modules_of ts);
      module_line = refl;
      parts = rw (length_push s.modules names) (closing s.parts s.at (length s.modules) s.map_line s.lines (tag (class.Module names) l starts) ts
          (parts_of (length s.modules + 1) ts) fits refl refl);
      no_module = sym (same_cond (is_c_part s.at) []);
      no_cut = pod_goes_on s.pod (class.Module names) l starts ts refl refl;
      no_end = rw fits refl;
      good = (λ e. absurd (false≢true e));
    })
goes class.BadModule l s starts ts good fits fits_pod =
    subst (λ (r : Reading). Goes s (record r { module_line = l.number; at = region.Between }) (tag class.BadModule l starts) ts)
    (sym (closed_is (noted s (fault_at l.number BAD_MODULE_LINE []))))
    (record {
      at = refl;
      pod = refl;
      fault = refl;
      room = refl;
      c_part = refl;
      modules = refl;
      module_line = refl;
      parts = closing s.parts s.at (length s.modules) s.map_line s.lines (tag class.BadModule l starts) ts (parts_of (length s.modules) ts) fits refl refl;
      no_module = sym (same_cond (is_c_part s.at) []);
      no_cut = pod_goes_on s.pod class.BadModule l starts ts refl refl;
      no_end = rw fits refl;
      good = (λ e. absurd (false≢true e));
    })
goes class.Outside l s starts ts good fits fits_pod =
    subst (λ (r : Reading). Goes s (record r { at = gap_after s.at }) (tag class.Outside l starts) ts) (sym (closed_is s))
    (record {
      at = refl;
      pod = refl;
      fault = refl;
      room = refl;
      c_part = refl;
      modules = refl;
      module_line = refl;
      parts = rw (gap_map s.at
          ∙ fits.no_map) (closing s.parts s.at (length s.modules) s.map_line s.lines (tag class.Outside l starts) ts
          (parts_of (length s.modules) ts) fits.no_map refl refl);
      no_module = rw (gap_c s.at, fits.no_c) refl;
      no_cut = pod_goes_on s.pod class.Outside l starts ts refl refl;
      no_end = rw (gap_map s.at, fits.no_map) refl;
      good = no_text (gap_after s.at) [] (gap_text s.at ∙ fits.no_text);
    })
goes class.Keyword l s starts ts good fits fits_pod =
    subst (λ (r : Reading). Goes s (record r { at = region.Head }) (tag class.Keyword l starts) ts) (sym (closed_is s))
    (record {
      at = refl;
      pod = refl;
      fault = refl;
      room = refl;
      c_part = refl;
      modules = refl;
      module_line = refl;
      parts = closing s.parts s.at (length s.modules) s.map_line s.lines (tag class.Keyword l starts) ts (parts_of (length s.modules) ts) fits.no_map refl refl;
      no_module = rw fits.no_c refl;
      no_cut = pod_goes_on s.pod class.Keyword l starts ts refl refl;
      no_end = rw fits.no_map refl;
      good = (λ e. absurd (false≢true e));
    })
goes class.BadValue l s starts ts good fits fits_pod =
    subst (λ (r : Reading). Goes s (record r { at = region.Head }) (tag class.BadValue l starts) ts)
    (sym (closed_is (noted s (fault_at l.number BAD_KEYWORD_VALUE []))))
    (record {
      at = refl;
      pod = refl;
      fault = refl;
      room = refl;
      c_part = refl;
      modules = refl;
      module_line = refl;
      parts = closing s.parts s.at (length s.modules) s.map_line s.lines (tag class.BadValue l starts) ts
          (parts_of (length s.modules) ts) fits.no_map refl refl;
      no_module = rw fits.no_c refl;
      no_cut = pod_goes_on s.pod class.BadValue l starts ts refl refl;
      no_end = rw fits.no_map refl;
      good = (λ e. absurd (false≢true e));
    })
goes (class.LeftOut word) l s starts ts good fits fits_pod =
    subst (λ (r : Reading). Goes s (record r { at = region.Head }) (tag (class.LeftOut word) l starts) ts)
    (sym (closed_is (noted s (fault_at l.number KEYWORD_LEFT_OUT word))))
    (record {
      at = refl;
      pod = refl;
      fault = refl;
      room = refl;
      c_part = refl;
      modules = refl;
      module_line = refl;
      parts = closing s.parts s.at (length s.modules) s.map_line s.lines (tag (class.LeftOut word) l starts) ts
          (parts_of (length s.modules) ts) fits.no_map refl refl;
      no_module = rw fits.no_c refl;
      no_cut = pod_goes_on s.pod (class.LeftOut word) l starts ts refl refl;
      no_end = rw fits.no_map refl;
      good = (λ e. absurd (false≢true e));
    })
goes (class.MapBegin end) l s starts ts good fits fits_pod =
    subst (λ (r : Reading). Goes s (record r { map_line = l.number; at = region.Map end }) (tag (class.MapBegin end) l starts) ts) (sym (closed_is s))
    (record {
      at = refl;
      pod = refl;
      fault = refl;
      room = refl;
      c_part = refl;
      modules = refl;
      module_line = refl;
      parts = closing s.parts s.at (length s.modules) s.map_line s.lines (tag (class.MapBegin end) l starts) ts
          (map_of (length s.modules) l.number (map_lines ts) ∷ parts_of (length s.modules) ts) fits.no_map refl refl;
      no_module = rw fits.no_c refl;
      no_cut = pod_goes_on s.pod (class.MapBegin end) l starts ts refl refl;
      no_end = rw fits.no_map refl;
      good = (λ e. absurd (false≢true e));
    })
goes class.MapLine l s starts ts good fits fits_pod =
    record {
      at = refl;
      pod = refl;
      fault = refl;
      room = refl;
      c_part = refl;
      modules = refl;
      module_line = refl;
      parts = ap (λ (ps : List Part). s.parts ++ ps)
          (map_line_parts s.at (length s.modules) s.map_line s.lines l (tag class.MapLine l starts) ts fits refl refl);
      no_module = refl;
      no_cut = pod_goes_on s.pod class.MapLine l starts ts refl refl;
      no_end = refl;
      good = (λ e. HasLine-push s.lines l);
    }
goes class.MapEnd l s starts ts good fits fits_pod =
    record {
      at = refl;
      pod = refl;
      fault = refl;
      room = refl;
      c_part = refl;
      modules = refl;
      module_line = refl;
      parts = map_end_parts s.parts s.at (length s.modules) s.map_line s.lines (tag class.MapEnd l starts) ts fits refl refl;
      no_module = rw (no_c_in_map s.at fits) refl;
      no_cut = pod_goes_on s.pod class.MapEnd l starts ts refl refl;
      no_end = rw fits refl;
      good = (λ e. absurd (false≢true e));
    }
goes class.First l s starts ts good fits fits_pod =
    subst (λ (r : Reading). Goes s (record r { lines = r.lines ++ l ∷ []; at = region.Body }) (tag class.First l starts) ts) (sym (closed_is s))
    (record {
      at = refl;
      pod = refl;
      fault = refl;
      room = refl;
      c_part = refl;
      modules = refl;
      module_line = refl;
      parts = closing s.parts s.at (length s.modules) s.map_line s.lines (tag class.First l starts) ts (paragraph_of (length s.modules) l (paragraph_lines ts)
          ∷ parts_of (length s.modules) ts) fits.no_map refl refl;
      no_module = rw fits.no_c refl;
      no_cut = pod_goes_on s.pod class.First l starts ts refl refl;
      no_end = rw fits.no_map refl;
      good = (λ e. tt);
    })
goes class.FirstOfBoot l s starts ts good fits fits_pod =
    subst (λ (r : Reading). Goes s (record r { lines = r.lines ++ l ∷ []; at = region.Boot }) (tag class.FirstOfBoot l starts) ts) (sym (closed_is s))
    (record {
      at = refl;
      pod = refl;
      fault = refl;
      room = refl;
      c_part = refl;
      modules = refl;
      module_line = refl;
      parts = closing s.parts s.at (length s.modules) s.map_line s.lines (tag class.FirstOfBoot l starts) ts
          (paragraph_of (length s.modules) l (paragraph_lines ts)
          ∷ parts_of (length s.modules) ts) fits.no_map refl refl;
      no_module = rw fits.no_c refl;
      no_cut = pod_goes_on s.pod class.FirstOfBoot l starts ts refl refl;
      no_end = rw fits.no_map refl;
      good = (λ e. tt);
    })
goes class.Further l s starts ts good fits fits_pod =
    record {
      at = refl;
      pod = refl;
      fault = refl;
      room = refl;
      c_part = refl;
      modules = refl;
      module_line = refl;
      parts = ap (λ (ps : List Part). s.parts ++ ps) (further_parts s.at (further_after s.at) (length s.modules) s.map_line s.lines l
          (tag class.Further l starts) ts fits.no_map
          (no_map_after s.at fits.no_map) fits.some refl refl);
      no_module = rw (no_c_after s.at, fits.no_c) refl;
      no_cut = pod_goes_on s.pod class.Further l starts ts refl refl;
      no_end = rw (no_map_after s.at fits.no_map, fits.no_map) refl;
      good = (λ e. HasLine-push s.lines l);
    }
goes class.Blank l s starts ts good fits fits_pod =
    record {
      at = refl;
      pod = refl;
      fault = refl;
      room = refl;
      c_part = refl;
      modules = refl;
      module_line = refl;
      parts = ap (λ (ps : List Part). s.parts ++ ps)
          (further_parts s.at (blank_after s.at) (length s.modules) s.map_line s.lines l (tag class.Blank l starts) ts fits.no_map
          (no_map_blank s.at) fits.some refl refl);
      no_module = rw (no_c_blank s.at, fits.no_c) refl;
      no_cut = pod_goes_on s.pod class.Blank l starts ts refl refl;
      no_end = rw (no_map_blank s.at, fits.no_map) refl;
      good = (λ e. HasLine-push s.lines l);
    }

-- ---- the paragraph that a line begins is counted

none_less : (n : ℕ) → (n == 0) ≡ true → n ≡ n - 1
none_less n e = grind (arith, nat_tests)

counted_is : (starts : Bool) (line : ℕ) (s : Reading)
    → counted starts line s ≡ record s { fault = fold earlier s.fault (room_fault line starts s.room); room = room_after starts s.room }
counted_is false line s = refl
counted_is true line s = by_test (s.room == 0) refl
  where
    by_test : (b : Bool) → (s.room == 0) ≡ b
        → (if b then noted s (fault_at line TOO_MANY_PARAGRAPHS []) else record s { room = s.room - 1 })
        ≡ record s { fault = fold earlier s.fault (if b then fault_at line TOO_MANY_PARAGRAPHS [] ∷ [] else []); room = s.room - 1 }
    by_test true e = ap (λ (n : ℕ). record s { fault = earlier s.fault (fault_at line TOO_MANY_PARAGRAPHS []); room = n }) (none_less s.room e)
    by_test false e = refl

-- ---- a line more

abbrev counted_at : Reading → Line → Reading
counted_at s l = record s { fault = fold earlier s.fault (room_fault l.number (starts_at s l) s.room); room = room_after (starts_at s l) s.room }

abbrev stepped : Reading → Line → Reading
stepped s l = acted (class_after s l) l (counted_at s l)

step_is : (s : Reading) (l : Line) → step s l ≡ stepped s l
unfolding step
step_is s l = ap (λ (r : Reading). acted (class_after s l) l r) (counted_is (starts_at s l) l.number s)

goes_here : (s : Reading) (l : Line) (ts : List Tag) → Good s.at s.lines → Goes (counted_at s l) (stepped s l) (tag (class_after s l) l (starts_at s l)) ts
goes_here s l ts good =
    let fits : Can s.at s.lines (class_after s l) = class_of_fits (is_some s.pod) s.at s.lines good l.text in
    goes (class_after s l) l (counted_at s l) (starts_at s l) ts good fits.fits (pod_fits s.pod s.at l.text)

folds : (x : Option Fault) (a b c d e f : List Fault)
    → fold earlier (fold earlier (fold earlier x a) b) (c ++ d ++ e ++ f) ≡ fold earlier x (a ++ b ++ c ++ d ++ e ++ f)
folds x a b c d e f = simp fold-append

rest_step : (s : Reading) (l : Line) (ts : List Tag) → Good s.at s.lines → rest_of (stepped s l) ts ≡ rest_of s (tag_of (is_some s.pod) s.at l ∷ ts)
unfolding line_faults
rest_step s l ts good =
    let g : Goes (counted_at s l) (stepped s l) (tag (class_after s l) l (starts_at s l)) ts = goes_here s l ts good in
    let t : Tag = tag (class_after s l) l (starts_at s l) in
    let n : Reading = stepped s l in
    let faults : fold earlier n.fault (rest_faults n ts) ≡ fold earlier s.fault (rest_faults s (t ∷ ts)) =
    rw (g.fault, g.room, g.no_module, g.no_cut, g.no_end)
    (folds s.fault (room_fault l.number (starts_at s l) s.room) (line_fault l.number (class_after s l)) (line_faults (room_after (starts_at s l) s.room) ts)
    (rest_module s.at (t ∷ ts)) (rest_pod s.pod (t ∷ ts)) (rest_map s.at s.map_line (t ∷ ts))) in
    let sections : rest_sections n ts ≡ rest_sections s (t ∷ ts) = rw (g.c_part, g.modules, g.module_line, g.parts) refl in
    ap (λ (f : Option Fault). unless_fault f (rest_sections n ts)) faults ∙ ap (unless_fault (fold earlier s.fault (rest_faults s (t ∷ ts)))) sections

-- ---- the end of the file

refused : (first : Option Fault) (f : Fault) (a b : Sections) → unless_fault (earlier first f) a ≡ unless_fault (earlier first f) b
refused None f a b = refl
refused (Some g) f a b =
    elim (is_before f g) as (λ c. unless_fault (if c then Some f else Some g) a
    ≡ unless_fault (if c then Some f else Some g) b) [ true ↦ refl | false ↦ refl ]

module_noted_is : (s : Reading) → module_noted s ≡ record s { fault = fold earlier s.fault (rest_module s.at []) }
module_noted_is s =
    elim (is_c_part s.at) as (λ b. (if b then noted s (fault_at 1 NO_MODULE_LINE []) else s)
    ≡ record s { fault = fold earlier s.fault (if b then fault_at 1 NO_MODULE_LINE [] ∷ [] else []) }) [ true ↦ refl | false ↦ refl ]

pod_noted_is : (s : Reading) → pod_noted s ≡ record s { fault = fold earlier s.fault (open_pod s.pod []) }
pod_noted_is s = by_pod s.pod
  where
    by_pod : (pod : Option ℕ) → pod_noted_at pod s ≡ record s { fault = fold earlier s.fault (open_pod pod []) }
    by_pod None = refl
    by_pod (Some line) = refl

abbrev end_fault : Region → ℕ → List Fault
end_fault at line = if is_map at then fault_at line OPEN_TYPEMAP [] ∷ [] else []

map_noted_is : (s : Reading) → map_noted s ≡ record s { fault = fold earlier s.fault (end_fault s.at s.map_line) }
map_noted_is s =
    elim (is_map s.at) as (λ b. (if b then noted s (fault_at s.map_line OPEN_TYPEMAP []) else s)
    ≡ record s { fault = fold earlier s.fault (if b then fault_at s.map_line OPEN_TYPEMAP [] ∷ [] else []) }) [ true ↦ refl | false ↦ refl ]

abbrev pod_fault_of : Reading → Option Fault
pod_fault_of s = fold earlier (fold earlier s.fault (rest_module s.at [])) (open_pod s.pod [])

open_noted_is : (s : Reading) → open_noted s ≡ record s { fault = fold earlier (pod_fault_of s) (end_fault s.at s.map_line) }
open_noted_is s =
    ap (λ (r : Reading). map_noted (pod_noted r)) (module_noted_is s)
    ∙ ap map_noted (pod_noted_is (record s { fault = fold earlier s.fault (rest_module s.at []) }))
    ∙ map_noted_is (record s { fault = pod_fault_of s })

open_part_is : (count : ℕ) (lines : List Line) → open_part count lines ≡ rest_of_paragraph count lines []
unfolding parts_of
open_part_is count [] = refl
open_part_is count (line ∷ lines) = rw (append-nil lines) refl

ends : (s : Reading) → finished s ≡ rest_of s []
unfolding line_faults
ends s =
    let noted_fault : Option Fault = fold earlier (pod_fault_of s) (end_fault s.at s.map_line) in
    let faults : noted_fault ≡ fold earlier s.fault (rest_faults s []) = simp (fold-append, append-nil) in
    let whole_reading : Reading = record s { fault = noted_fault } in
    ap (λ (r : Reading). unless_fault r.fault (gathered (closed r))) (open_noted_is s)
    ∙ ap (λ (r : Reading). unless_fault noted_fault (gathered r)) (closed_is whole_reading)
    ∙ by_map (is_map s.at)
    ∙ ap (λ (f : Option Fault). unless_fault f (rest_sections s [])) faults
  where
    by_map : (b : Bool)
        → unless_fault (fold earlier (pod_fault_of s) (if b then fault_at s.map_line OPEN_TYPEMAP [] ∷ [] else [])) (gathered (tidied s))
        ≡ unless_fault (fold earlier (pod_fault_of s) (if b then fault_at s.map_line OPEN_TYPEMAP [] ∷ [] else []))
        (record {
          c_part = s.c_part ++ [];
          modules = s.modules ++ [];
          module_line = s.module_line;
          parts = s.parts
              ++ (if b then map_of (length s.modules) s.map_line (s.lines ++ []) ∷ parts_of (length s.modules) []
              else rest_of_paragraph (length s.modules) s.lines []);
        })
    by_map true = refused (pod_fault_of s) (fault_at s.map_line OPEN_TYPEMAP []) _ _
    by_map false = rw (append-nil s.c_part, append-nil s.modules, ← open_part_is (length s.modules) s.lines) refl

-- ---- a whole file

runs : (lines : List Line) (s : Reading) → Good s.at s.lines → finished (run s lines) ≡ rest_of s (tags_from (is_some s.pod) s.at lines)
unfolding run tags_from
runs [] s good = ends s
runs (l ∷ lines) s good =
    let g : Goes (counted_at s l) (stepped s l) (tag (class_after s l) l (starts_at s l)) [] = goes_here s l [] good in
    ap (λ (n : Reading). finished (run n lines)) (step_is s l)
    ∙ runs lines (stepped s l) g.good
    ∙ ap (λ (pod : Bool). rest_of (stepped s l) (tags_from pod (stepped s l).at lines)) g.pod
    ∙ ap (λ (at : Region). rest_of (stepped s l) (tags_from (pod_after (is_some s.pod) (class_after s l)) at lines)) g.at
    ∙ rest_step s l (tags_from (pod_after (is_some s.pod) (class_after s l)) (region_after s.at (class_after s l)) lines) good

-- Reading all lines of a file gives its sections, or its first fault.
pub whole : (lines : List Line) → finished (run begun lines) ≡ unless_fault (first_of (faults_of (tags_of lines))) (sections_of (tags_of lines))
whole lines = runs lines begun (λ e. absurd (false≢true e))

-- ---- lines in turn

pub run_more : (all : List Line) (n : ℕ) (l : Line) (s : Reading) → n < length all → l ≡ get_or all n l → run s (drop n all) ≡ run (step s l) (drop (n + 1) all)
unfolding run
run_more all n l s within is =
    let e : suc n ≡ n + 1 = omega arith in
    ap (run s) (drop-cons all n l within) ∙ rw (← is, e) refl

pub run_all : (all : List Line) (n : ℕ) (s : Reading) → n ≡ length all → run s (drop n all) ≡ s
unfolding run
run_all all n s e =
    let past : length all ≤ n = omega arith in
    ap (run s) (drop_of_length-le all past)
