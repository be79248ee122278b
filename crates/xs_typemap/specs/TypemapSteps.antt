-- What is read of a typemap, line by line.
use Rattle.std.specs.Prelude.{ℕ, Bool, true, false, if◌then◌else◌, List, [], ◌∷◌, ◌++◌, Option, None, Some, Result, Ok, Err}
use Rattle.xs_base.specs.ByteRuns.{belongs}
use Rattle.xs_base.specs.Reading.{◌>>=◌, fault_in}
use Rattle.xs_base.specs.Readers.{head_is}
use Rattle.xs_base.specs.Scanning.{is_identifier}
use Rattle.xs_base.specs.declared.byte_runs.ByteClass.TheVariants.{Blank}
use Rattle.xs_base.specs.declared.fault.Fault.{Fault}
use Rattle.xs_base.specs.declared.fault_codes.TheConstants.{BAD_TYPEMAP_LINE, CODE_BEFORE_KIND}
use Rattle.xs_base.specs.declared.source.FileOf.{FileOf}
use Rattle.xs_base.specs.declared.source.Line.{Line}
use Rattle.xs_typemap.specs.TypemapEntries.{Entries, no_entries, with_code, with_type}
use Rattle.xs_typemap.specs.TypemapLines.{entry_of, heading_of, is_passed_over, without_end_blanks}
use Rattle.xs_typemap.specs.declared.lines.Section.{Section}
use Rattle.xs_typemap.specs.declared.lines.Section.TheVariants.{Types, Input, Output}
use Rattle.xs_typemap.specs.declared.lines.TypeEntry.{TypeEntry}
use Rattle.xs_typemap.specs.declared.reading.OpenKind.{OpenKind}
use Rattle.xs_typemap.specs.declared.reading.Reading.{Reading}

-- before the first line: the types stand first
abbrev pub begun : Reading
begun = record { held = no_entries; section = Types; kind = None }

-- with the code of the kind that stands open
abbrev pub held_with : Option OpenKind → Entries → Entries
held_with None held = held
held_with (Some k) held = with_code k.input k.name k.code held

-- The kind that stands open ends.
abbrev pub closed : Reading → Reading
closed r = record { held = held_with r.kind r.held; section = r.section; kind = None }

abbrev pub refused : FileOf → Line → ℕ → Result Reading Fault
refused file line code = Err (fault_in file line.number code [])

-- a line of the types
abbrev pub entry_read : FileOf → Line → Reading → Option TypeEntry → Result Reading Fault
entry_read file line r None = refused file line BAD_TYPEMAP_LINE
entry_read file line r (Some entry) =
    Ok (record r { held = with_type entry.ctype entry.kind r.held })

abbrev pub entry_line : FileOf → Reading → Line → Result Reading Fault
entry_line file r line = entry_read file line r (entry_of line.text)

-- a kind with one line of code more
abbrev pub with_line : List ℕ → OpenKind → OpenKind
with_line text k = record k { code = record k.code { lines = k.code.lines ++ text ∷ [] } }

-- a line that begins with a blank is one more line of the open kind's code
abbrev pub code_read : FileOf → Line → Reading → Option OpenKind → Result Reading Fault
code_read file line r None = refused file line CODE_BEFORE_KIND
code_read file line r (Some k) = Ok (record r { kind = Some (with_line line.text k) })

-- a kind at the line of its name, without code so far
abbrev pub opened : FileOf → Bool → ℕ → List ℕ → OpenKind
opened file input line name =
    record {
      input = input;
      name = name;
      code = record { file = file; line = line; lines = [] };
    }

abbrev pub kind_begun : OpenKind → Reading → Reading
kind_begun kind r = record (closed r) { kind = Some kind }

-- the name of a kind, whose code stands on the lines after it
abbrev pub kind_line : FileOf → Bool → Reading → Line → Result Reading Fault
kind_line file input r line =
    if is_identifier (without_end_blanks line.text) then
    Ok (kind_begun (opened file input line.number (without_end_blanks line.text)) r)
    else refused file line BAD_TYPEMAP_LINE

-- a line of code for one direction
unfoldable pub code_line : FileOf → Bool → Reading → Line → Result Reading Fault
code_line file input r line =
    if head_is (belongs Blank) line.text then code_read file line r r.kind
    else kind_line file input r line

abbrev pub in_section : FileOf → Section → Reading → Line → Result Reading Fault
in_section file Types r line = entry_line file r line
in_section file Input r line = code_line file true r line
in_section file Output r line = code_line file false r line

-- a heading
abbrev pub under_heading : Section → Reading → Result Reading Fault
under_heading section r = Ok (record (closed r) { section = section })

-- a heading, or a line of the section that it stands in
abbrev pub heading_read : FileOf → Reading → Line → Option Section → Result Reading Fault
heading_read file r line (Some section) = under_heading section r
heading_read file r line None = in_section file r.section r line

-- a line more
unfoldable pub step : FileOf → Reading → Line → Result Reading Fault
step file r line =
    if is_passed_over line.text then Ok r else heading_read file r line (heading_of line.text)

-- lines, one after the other
abbrev pub read_from : FileOf → Reading → List Line → Result Reading Fault
read_from file r [] = Ok r
read_from file r (line ∷ lines) = step file r line >>= (λ next. read_from file next lines)

-- what a text of these lines says, or the first line that it cannot have
abbrev pub typemap_of : FileOf → List Line → Result Entries Fault
typemap_of file lines = read_from file begun lines >>= (λ r. Ok (closed r).held)
