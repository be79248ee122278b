-- How the reading of a typemap goes on by each form of a line.
use Rattle.std.proofs.Common.{◌≡◌, ℕ, zero, suc, ◌==◌, ◌||◌, ◌-◌, Bool, true, false, if◌then◌else◌, List, [], ◌∷◌, ◌++◌, take, length, Option, None, Some, Result, Ok, Err, refl, sym, ap, subst, ◌∙◌, append_assoc}
use Rattle.std.proofs.lemmas.Bool.{and_parts, eqb-true}
use Rattle.std.proofs.lemmas.List.{append-nil}
use Rattle.std.specs.List.{list_all, suffix_len}
use Rattle.xs_base.specs.ByteRuns.{belongs}
use Rattle.xs_base.specs.Readers.{head_is}
use Rattle.xs_base.specs.Reading.{◌>>=◌, fault_in}
use Rattle.xs_base.specs.Scanning.{is_blank, is_identifier}
use Rattle.xs_base.specs.declared.byte_runs.ByteClass.TheVariants.{Blank}
use Rattle.xs_base.specs.declared.fault.Fault.{Fault}
use Rattle.xs_base.specs.declared.fault_codes.TheConstants.{BAD_TYPEMAP_LINE, CODE_BEFORE_KIND}
use Rattle.xs_base.specs.declared.source.FileOf.{FileOf}
use Rattle.xs_base.specs.declared.source.Line.{Line}
use Rattle.xs_typemap.specs.TypemapEntries.{Entries, with_type}
use Rattle.xs_typemap.specs.TypemapLines.{entry_of, heading_named, heading_of, is_passed_over, without_end_blanks}
use Rattle.xs_typemap.specs.TypemapSteps.{closed, code_line, held_with, opened, read_from, step, with_line}
use Rattle.xs_typemap.specs.TypemapText.{IsPlain, code_in, is_indented, is_of_code, section_of}
use Rattle.xs_typemap.specs.declared.lines.Section.{Section}
use Rattle.xs_typemap.specs.declared.lines.Section.TheVariants.{Types}
use Rattle.xs_typemap.specs.declared.lines.TypeEntry.{TypeEntry}
use Rattle.xs_typemap.specs.declared.reading.OpenKind.{OpenKind}
use Rattle.xs_typemap.specs.declared.reading.Reading.{Reading}

abbrev pub at : Entries → Section → Option OpenKind → Reading
at held section kind = record { held = held; section = section; kind = kind }

-- what is held at the end of the lines
abbrev pub ending : FileOf → Reading → List Line → Result Entries Fault
ending file r lines = read_from file r lines >>= (λ n. Ok (closed n).held)

-- a line that was read
pub goes_on : (file : FileOf) (r next : Reading) (line : Line) (lines : List Line) → step file r line ≡ Ok next
    → ending file r (line ∷ lines) ≡ ending file next lines
goes_on file r next line lines e =
    ap (λ (o : Result Reading Fault). (o >>= (λ n. read_from file n lines)) >>= (λ n. Ok (closed n).held)) e

-- a line that was refused
pub breaks_off : (file : FileOf) (r : Reading) (fault : Fault) (line : Line) (lines : List Line) → step file r line ≡ Err fault
    → ending file r (line ∷ lines) ≡ Err fault
breaks_off file r fault line lines e =
    ap (λ (o : Result Reading Fault). (o >>= (λ n. read_from file n lines)) >>= (λ n. Ok (closed n).held)) e

pub step_passed : (file : FileOf) (r : Reading) (line : Line) → is_passed_over line.text ≡ true → step file r line ≡ Ok r
unfolding step
step_passed file r line h = rw h refl

pub step_heading : (file : FileOf) (held : Entries) (section new : Section) (kind : Option OpenKind) (line : Line) → is_passed_over line.text ≡ false
    → heading_of line.text ≡ Some new → step file (at held section kind) line ≡ Ok (at (held_with kind held) new None)
unfolding step
step_heading file held section new kind line h e = rw (h, e) refl

pub step_entry : (file : FileOf) (held : Entries) (kind : Option OpenKind) (line : Line) (e : TypeEntry) → IsPlain line → entry_of line.text ≡ Some e
    → step file (at held Types kind) line ≡ Ok (at (with_type e.ctype e.kind held) Types kind)
unfolding step
step_entry file held kind line e plain is = rw (plain.shown, plain.no_heading, is) refl

pub step_no_entry : (file : FileOf) (held : Entries) (kind : Option OpenKind) (line : Line) → IsPlain line → entry_of line.text ≡ None
    → step file (at held Types kind) line ≡ Err (fault_in file line.number BAD_TYPEMAP_LINE [])
unfolding step
step_no_entry file held kind line plain is = rw (plain.shown, plain.no_heading, is) refl

-- ---- lines of code

-- a line of the code for a direction
step_code : (file : FileOf) (held : Entries) (input : Bool) (kind : Option OpenKind) (line : Line) → IsPlain line
    → step file (at held (section_of input) kind) line ≡ code_line file input (at held (section_of input) kind) line
unfolding step
step_code file held true kind line plain = rw (plain.shown, plain.no_heading) refl
step_code file held false kind line plain = rw (plain.shown, plain.no_heading) refl

line_names : (file : FileOf) (held : Entries) (input : Bool) (kind : Option OpenKind) (line : Line) → is_indented line ≡ false
    → is_identifier (without_end_blanks line.text) ≡ true → code_line file input (at held (section_of input) kind) line
    ≡ Ok (at (held_with kind held) (section_of input) (Some (opened file input line.number (without_end_blanks line.text))))
unfolding code_line
line_names file held input kind line flush name = rw (flush, name) refl

line_names_none : (file : FileOf) (held : Entries) (input : Bool) (kind : Option OpenKind) (line : Line) → is_indented line ≡ false
    → is_identifier (without_end_blanks line.text) ≡ false
    → code_line file input (at held (section_of input) kind) line ≡ Err (fault_in file line.number BAD_TYPEMAP_LINE [])
unfolding code_line
line_names_none file held input kind line flush name = rw (flush, name) refl

line_adds : (file : FileOf) (held : Entries) (input : Bool) (k : OpenKind) (line : Line) → is_indented line ≡ true
    → code_line file input (at held (section_of input) (Some k)) line ≡ Ok (at held (section_of input) (Some (with_line line.text k)))
unfolding code_line
line_adds file held input k line h = rw h refl

line_adds_to_none : (file : FileOf) (held : Entries) (input : Bool) (line : Line) → is_indented line ≡ true
    → code_line file input (at held (section_of input) None) line ≡ Err (fault_in file line.number CODE_BEFORE_KIND [])
unfolding code_line
line_adds_to_none file held input line h = rw h refl

pub step_kind : (file : FileOf) (held : Entries) (input : Bool) (kind : Option OpenKind) (line : Line) → IsPlain line → is_indented line ≡ false
    → is_identifier (without_end_blanks line.text) ≡ true → step file (at held (section_of input) kind) line
    ≡ Ok (at (held_with kind held) (section_of input) (Some (opened file input line.number (without_end_blanks line.text))))
step_kind file held input kind line plain flush name = step_code file held input kind line plain ∙ line_names file held input kind line flush name

pub step_no_kind : (file : FileOf) (held : Entries) (input : Bool) (kind : Option OpenKind) (line : Line) → IsPlain line → is_indented line ≡ false
    → is_identifier (without_end_blanks line.text) ≡ false
    → step file (at held (section_of input) kind) line ≡ Err (fault_in file line.number BAD_TYPEMAP_LINE [])
step_no_kind file held input kind line plain flush name = step_code file held input kind line plain ∙ line_names_none file held input kind line flush name

pub step_before_kind : (file : FileOf) (held : Entries) (input : Bool) (line : Line) → IsPlain line → is_indented line ≡ true
    → step file (at held (section_of input) None) line ≡ Err (fault_in file line.number CODE_BEFORE_KIND [])
step_before_kind file held input line plain h = step_code file held input None line plain ∙ line_adds_to_none file held input line h

-- ---- an indented line is no heading

blank_first : (b : ℕ) (bs : List ℕ) (n : ℕ) → is_blank b ≡ true → heading_named (take n (b ∷ bs)) ≡ None
blank_first b bs zero h = refl
blank_first b bs (suc n) h = by (b == 32) (b == 9) refl refl h
  where
    by : (p q : Bool) → b == 32 ≡ p → b == 9 ≡ q → (p || q) ≡ true → heading_named (b ∷ take n bs) ≡ None
    by true q e f g = subst (λ (c : ℕ). heading_named (c ∷ take n bs) ≡ None) (sym (eqb-true b 32 e)) refl
    by false true e f g = subst (λ (c : ℕ). heading_named (c ∷ take n bs) ≡ None) (sym (eqb-true b 9 f)) refl
    by false false e f g = absurd cc

indented_text : (text : List ℕ) (n : ℕ) → head_is (belongs Blank) text ≡ true → heading_named (take n text) ≡ None
indented_text [] n h = absurd cc
indented_text (b ∷ bs) n h = blank_first b bs n h

indented_plain : (line : Line) → is_passed_over line.text ≡ false → is_indented line ≡ true → IsPlain line
indented_plain line shown h =
    record { shown = shown; no_heading = indented_text line.text (length line.text - suffix_len is_blank line.text) h }

-- ---- the code of a kind

-- a kind with lines of code more
abbrev pub with_lines : List (List ℕ) → OpenKind → OpenKind
with_lines texts k = record k { code = record k.code { lines = k.code.lines ++ texts } }

no_more : (file : FileOf) (held : Entries) (input : Bool) (k : OpenKind) (lines : List Line)
    → ending file (at held (section_of input) (Some k)) lines ≡ ending file (at held (section_of input) (Some (with_lines [] k))) lines
no_more file held input k lines =
    ap (λ (ls : List (List ℕ)). ending file (at held (section_of input) (Some (record k { code = record k.code { lines = ls } }))) lines)
    (sym (append-nil k.code.lines))

line_more : (file : FileOf) (held : Entries) (input : Bool) (k : OpenKind) (text : List ℕ) (texts : List (List ℕ)) (lines : List Line)
    → ending file (at held (section_of input) (Some (with_lines texts (with_line text k)))) lines
    ≡ ending file (at held (section_of input) (Some (with_lines (text ∷ texts) k))) lines
line_more file held input k text texts lines =
    ap (λ (ls : List (List ℕ)). ending file (at held (section_of input) (Some (record k { code = record k.code { lines = ls } }))) lines)
    (append_assoc k.code.lines (text ∷ []) texts)

pub block_read : (file : FileOf) (held : Entries) (input : Bool) (k : OpenKind) (block lines : List Line) → list_all is_of_code block ≡ true
    → ending file (at held (section_of input) (Some k)) (block ++ lines)
    ≡ ending file (at held (section_of input) (Some (with_lines (code_in block) k))) lines
block_read file held input k [] lines all = no_more file held input k lines
block_read file held input k (line ∷ block) lines all =
    by (is_passed_over line.text) refl parts.0 (block_read file held input k block lines parts.1)
    (block_read file held input (with_line line.text k) block lines parts.1)
  where
    parts : (is_of_code line ≡ true) × (list_all is_of_code block ≡ true)
    parts = and_parts (is_of_code line) (list_all is_of_code block) all

    by : (t : Bool) → is_passed_over line.text ≡ t → (t || is_indented line) ≡ true
        → ending file (at held (section_of input) (Some k)) (block ++ lines)
        ≡ ending file (at held (section_of input) (Some (with_lines (code_in block) k))) lines
        → ending file (at held (section_of input) (Some (with_line line.text k))) (block ++ lines)
        ≡ ending file (at held (section_of input) (Some (with_lines (code_in block) (with_line line.text k)))) lines
        → ending file (at held (section_of input) (Some k)) (line ∷ (block ++ lines))
        ≡ ending file (at held (section_of input) (Some (with_lines (if t then code_in block else line.text ∷ code_in block) k))) lines
    by true e h same more =
        goes_on file (at held (section_of input) (Some k)) (at held (section_of input) (Some k)) line (block ++ lines)
        (step_passed file (at held (section_of input) (Some k)) line e) ∙ same
    by false e h same more =
        goes_on file (at held (section_of input) (Some k)) (at held (section_of input) (Some (with_line line.text k))) line (block ++ lines)
        (step_code file held input (Some k) line (indented_plain line e h) ∙ line_adds file held input k line h)
        ∙ more ∙ line_more file held input k line.text (code_in block) lines
