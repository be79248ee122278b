-- The module that an XS file describes.
use Rattle.std.specs.Option.{unwrap_or}
use Rattle.std.specs.Prelude.{ℕ, ◌==◌, ◌||◌, nat_le, List, [], ◌∷◌, ◌++◌, length, map, codes, Option, None, Some, Result, Ok, Err, if◌then◌else◌}
use Rattle.xs_base.specs.Faults.{first_fault, unless_fault}
use Rattle.xs_base.specs.declared.fault.Fault.{Fault}
use Rattle.xs_base.specs.declared.fault_codes.TheConstants.{NAME_TWICE, PARAMETER_TWICE, TOO_MANY_PARAMETERS}
use Rattle.xs_base.specs.declared.source.FileOf.TheVariants.{Xs}
use Rattle.xs_base.specs.declared.source.Line.{Line}
use Rattle.xs_base.specs.Reading.{◌>>=◌, collect, not_built_in}
use Rattle.xs_iface.specs.declared.drafts.Draft.{Draft}
use Rattle.xs_iface.specs.declared.paragraph.Paragraph.{Paragraph}
use Rattle.xs_iface.specs.declared.xsub.Module.{Module}
use Rattle.xs_iface.specs.declared.xsub.Param.{Param}
use Rattle.xs_iface.specs.declared.xsub.Xsub.{Xsub}
use Rattle.xs_iface.specs.Paragraph.{paragraph_of, term_of}
use Rattle.xs_base.specs.Names.{is_among}
use Rattle.xs_base.specs.Scanning.{strip_prefix}
use Rattle.xs_iface.specs.PassedLines.{is_passed_line}
use Rattle.xs_sections.specs.Cut.{last_names, names_of}
use Rattle.xs_sections.specs.SectionFaults.{fault_at}
use Rattle.xs_sections.specs.declared.sections.Part.{Part}
use Rattle.xs_sections.specs.declared.sections.PartBody.{PartBody}
use Rattle.xs_sections.specs.declared.sections.PartBody.TheVariants.{Para, Map}
use Rattle.xs_sections.specs.declared.sections.Sections.{Sections}

-- ---- names

-- the name for Perl, which is the name in C without the prefix
abbrev pub perl_name : List ℕ → List ℕ → List ℕ
perl_name prefix function = unwrap_or (strip_prefix prefix function) function

-- a package name as a part of a C name: each `:` is written `_`
abbrev pub underscored : List ℕ → List ℕ
underscored name = map (λ b. if b == 58 then 95 else b) name

-- the name under which Perl calls a function: without a package it is the name alone
abbrev pub full_name : List ℕ → List ℕ → List ℕ
full_name [] name = name
full_name (b ∷ bs) name = (b ∷ bs) ++ codes "::" ++ name

abbrev pub glue_name : List ℕ → List ℕ → List ℕ
glue_name package_name name = codes "XS_" ++ underscored package_name ++ codes "_" ++ name

-- ---- parts

-- the fault of the first line of the C part that gives C more than an `#include` or
-- PERL_NO_GET_CONTEXT
abbrev pub c_part_fault : List Line → Option Fault
c_part_fault [] = None
c_part_fault (line ∷ lines) =
    if is_passed_line line.text then c_part_fault lines else Some (not_built_in Xs line.number)

-- a paragraph with the names of its function
abbrev pub draft_from : Sections → Part → Paragraph → Draft
draft_from s part paragraph =
    record {
      full =
          full_name (names_of s part).package
          (perl_name (names_of s part).prefix paragraph.function);
      glue =
          glue_name (names_of s part).package
          (perl_name (names_of s part).prefix paragraph.function);
      paragraph = paragraph;
    }

abbrev pub draft_or_fault : Sections → Part → Option Paragraph → Result Draft Fault
draft_or_fault s part None = Err (not_built_in Xs part.line)
draft_or_fault s part (Some paragraph) = Ok (draft_from s part paragraph)

-- what a part says, where it is of the form: a typemap block is not
abbrev pub body_paragraph : PartBody → Option Paragraph
body_paragraph (Para lines) = paragraph_of lines
body_paragraph (Map lines) = None

-- a part, or the fault of one that is not of the form
abbrev pub draft_of : Sections → Part → Result Draft Fault
draft_of s part = draft_or_fault s part (body_paragraph part.body)

abbrev pub drafts_unless : Sections → Option Fault → Result (List Draft) Fault
drafts_unless s None = collect (draft_of s) s.parts
drafts_unless s (Some fault) = Err fault

-- all parts, or the fault of the first form that is not built: the C part stands before the parts
unfoldable pub drafts_of : Sections → Result (List Draft) Fault
drafts_of s = drafts_unless s (c_part_fault s.c_part)

-- ---- interfaces

-- how many parameters an XSUB may have
abbrev pub parameter_limit : ℕ
parameter_limit = 64

-- A parameter has the name of an earlier one, or there are as many before it as there may be.
abbrev pub param_fault : ℕ → List (List ℕ) → List ℕ → Option Fault
param_fault line before name =
    if is_among before name then Some (fault_at line PARAMETER_TWICE name)
    else (if nat_le parameter_limit (length before)
    then Some (fault_at line TOO_MANY_PARAMETERS []) else None)

abbrev pub interface_fault : Paragraph → Option Fault
interface_fault paragraph = first_fault (param_fault paragraph.line) [] paragraph.params

abbrev pub param_at : ℕ → List ℕ → Param
param_at line name = record { name = name; line = line }

abbrev pub xsub_from : Draft → Xsub
xsub_from draft =
    record {
      line = draft.paragraph.line;
      full = draft.full;
      c_name = draft.paragraph.function;
      glue = draft.glue;
      params = map (param_at draft.paragraph.line) draft.paragraph.params;
      code_line = draft.paragraph.code_line;
      indent = draft.paragraph.indent;
      sum = map (term_of draft.paragraph.params) draft.paragraph.words;
      output_line = draft.paragraph.output_line;
    }

abbrev pub xsub_of : Draft → Result Xsub Fault
xsub_of draft = unless_fault (interface_fault draft.paragraph) (xsub_from draft)

-- ---- the module

-- An XSUB has the name for Perl or the glue name of an earlier one.
abbrev pub name_fault : List Xsub → Xsub → Option Fault
name_fault before x =
    if is_among (map (λ (e : Xsub). e.full) before) x.full
    || is_among (map (λ (e : Xsub). e.glue) before) x.glue
    then Some (fault_at x.line NAME_TWICE x.full) else None

abbrev pub module_from : Sections → List Xsub → Module
module_from s xsubs =
    record {
      boot = (last_names s).module;
      boot_line = s.module_line;
      c_part = s.c_part;
      xsubs = xsubs;
    }

-- the module of XSUBs whose names differ
abbrev pub module_with : Sections → List Xsub → Result Module Fault
module_with s xsubs = unless_fault (first_fault name_fault [] xsubs) (module_from s xsubs)

-- The module of an XS file that was split. A form that is not built comes before each other fault,
-- and a fault of an interface before a name that stands twice.
unfoldable pub module_of : Sections → Result Module Fault
module_of s = drafts_of s >>= collect xsub_of >>= module_with s
