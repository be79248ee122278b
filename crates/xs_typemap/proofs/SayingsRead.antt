-- Lines that say something are read as that, and lines that break are refused.
use Rattle.std.proofs.Common.{◌≡◌, ℕ, ◌||◌, Bool, true, false, fold, List, [], ◌∷◌, ◌++◌, Option, None, Some, Ok, Err, refl, ◌∙◌}
use Rattle.std.specs.List.{list_all}
use Rattle.xs_base.specs.Readers.{head_is}
use Rattle.xs_base.specs.Reading.{fault_in}
use Rattle.xs_base.specs.declared.source.FileOf.{FileOf}
use Rattle.xs_base.specs.declared.source.Line.{Line}
use Rattle.xs_typemap.proofs.ReadLines.{at, block_read, breaks_off, ending, goes_on, step_before_kind, step_entry, step_heading, step_kind, step_no_entry, step_no_kind, step_passed, with_lines}
use Rattle.xs_typemap.specs.TypemapEntries.{Entries, with_type}
use Rattle.xs_typemap.specs.TypemapLines.{is_passed_over, without_end_blanks}
use Rattle.xs_typemap.specs.TypemapSteps.{held_with, opened}
use Rattle.xs_typemap.specs.TypemapText.{Breaks, no_entry, no_kind, before_kind, after_passed, after_heading, after_entry, after_code, IsName, IsPlain, Saying, Says, done, passed, heading, entry, code, code_in, is_indented, is_of_code, section_of, with_saying}
use Rattle.xs_typemap.specs.declared.lines.Section.{Section}
use Rattle.xs_typemap.specs.declared.lines.Section.TheVariants.{Types, Input, Output}
use Rattle.xs_typemap.specs.declared.reading.OpenKind.{OpenKind}

abbrev pub is_types : Section → Bool
is_types Types = true
is_types Input = false
is_types Output = false

-- where a kind stands open, its code does not go on with these lines
abbrev pub Ready : Section → Option OpenKind → List Line → Type 0
Ready section None lines = Unit {0}
Ready section (Some k) lines = (head_is is_of_code lines ≡ false) × (is_types section ≡ false)

-- before a line that belongs to code no kind stands open
none_open : (section : Section) (kind : Option OpenKind) (line : Line) (lines : List Line) → is_of_code line ≡ true → Ready section kind (line ∷ lines)
    → kind ≡ None
none_open section None line lines h ready = refl
none_open section (Some k) line lines h ready = let r = ready.0 in absurd cc

none_in_types : (kind : Option OpenKind) (lines : List Line) → Ready Types kind lines → kind ≡ None
none_in_types None lines ready = refl
none_in_types (Some k) lines ready = let r = ready.1 in absurd cc

of_code : (line : Line) → is_passed_over line.text ≡ true → is_of_code line ≡ true
of_code line h = rw h refl

indented_of_code : (line : Line) → is_indented line ≡ true → is_of_code line ≡ true
indented_of_code line h = rw h (by (is_passed_over line.text))
  where
    by : (t : Bool) → (t || true) ≡ true
    by true = refl
    by false = refl

no_types : (input : Bool) → is_types (section_of input) ≡ false
no_types true = refl
no_types false = refl

-- one kind and its code
code_read : (file : FileOf) (held : Entries) (kind : Option OpenKind) (input : Bool) (line : Line) (block lines : List Line) → IsPlain line
    → is_indented line ≡ false → IsName line → list_all is_of_code block ≡ true → ending file (at held (section_of input) kind) (line ∷ (block ++ lines))
    ≡ ending file (at (held_with kind held) (section_of input)
    (Some (with_lines (code_in block) (opened file input line.number (without_end_blanks line.text))))) lines
code_read file held kind input line block lines plain flush name all =
    goes_on file (at held (section_of input) kind)
    (at (held_with kind held) (section_of input) (Some (opened file input line.number (without_end_blanks line.text)))) line (block ++ lines)
    (step_kind file held input kind line plain flush name)
    ∙ block_read file (held_with kind held) input (opened file input line.number (without_end_blanks line.text)) block lines all

pub says_read : (file : FileOf) (section : Section) (lines : List Line) (said : List Saying) → Says file section lines said
    → (held : Entries) (kind : Option OpenKind) → Ready section kind lines
    → ending file (at held section kind) lines ≡ Ok (fold with_saying (held_with kind held) said)
says_read file section lines said done held kind ready = refl
says_read file section lines said (passed {lines = rest} {said = more} line h d) held kind ready =
    goes_on file (at held section kind) (at held section kind) line rest (step_passed file (at held section kind) line h)
    ∙ on_passed kind (none_open section kind line rest (of_code line h) ready) (says_read file section rest more d held None tt)
  where
    on_passed : (k : Option OpenKind) → k ≡ None → ending file (at held section None) rest ≡ Ok (fold with_saying held more)
        → ending file (at held section k) rest ≡ Ok (fold with_saying (held_with k held) more)
    on_passed None e r = r
    on_passed (Some k) e r = absurd cc
says_read file section lines said (heading {lines = rest} {said = more} line new h e d) held kind ready =
    goes_on file (at held section kind) (at (held_with kind held) new None) line rest (step_heading file held section new kind line h e)
    ∙ says_read file new rest more d (held_with kind held) None tt
says_read file section lines said (entry {lines = rest} {said = more} line e plain is d) held None ready =
    goes_on file (at held Types None) (at (with_type e.ctype e.kind held) Types None) line rest (step_entry file held None line e plain is)
    ∙ says_read file Types rest more d (with_type e.ctype e.kind held) None tt
says_read file section lines said (entry {lines = rest} {said = more} line e plain is d) held (Some k) ready = let r = ready.1 in absurd cc
says_read file section lines said (code {lines = rest} {said = more} input line block plain flush name all stop d) held kind ready =
    code_read file held kind input line block rest plain flush name all
    ∙ says_read file (section_of input) rest more d (held_with kind held)
    (Some (with_lines (code_in block) (opened file input line.number (without_end_blanks line.text)))) (stop, no_types input)

pub breaks_read : (file : FileOf) (section : Section) (lines : List Line) (number fault : ℕ) → Breaks file section lines number fault
    → (held : Entries) (kind : Option OpenKind) → Ready section kind lines
    → ending file (at held section kind) lines ≡ Err (fault_in file number fault [])
breaks_read file section lines number fault (no_entry {lines = rest} line plain is) held kind ready =
    breaks_off file (at held Types kind) _ line rest (step_no_entry file held kind line plain is)
breaks_read file section lines number fault (no_kind {lines = rest} input line plain flush is) held kind ready =
    breaks_off file (at held (section_of input) kind) _ line rest (step_no_kind file held input kind line plain flush is)
breaks_read file section lines number fault (before_kind {lines = rest} input line plain h) held None ready =
    breaks_off file (at held (section_of input) None) _ line rest (step_before_kind file held input line plain h)
breaks_read file section lines number fault (before_kind {lines = rest} input line plain h) held (Some k) ready =
    let none = none_open (section_of input) (Some k) line rest (indented_of_code line h) ready in absurd cc
breaks_read file section lines number fault (after_passed {lines = rest} line h d) held None ready =
    goes_on file (at held section None) (at held section None) line rest (step_passed file (at held section None) line h)
    ∙ breaks_read file section rest number fault d held None tt
breaks_read file section lines number fault (after_passed {lines = rest} line h d) held (Some k) ready =
    let none = none_open section (Some k) line rest (of_code line h) ready in absurd cc
breaks_read file section lines number fault (after_heading {lines = rest} line new h e d) held kind ready =
    goes_on file (at held section kind) (at (held_with kind held) new None) line rest (step_heading file held section new kind line h e)
    ∙ breaks_read file new rest number fault d (held_with kind held) None tt
breaks_read file section lines number fault (after_entry {lines = rest} line e plain is d) held None ready =
    goes_on file (at held Types None) (at (with_type e.ctype e.kind held) Types None) line rest (step_entry file held None line e plain is)
    ∙ breaks_read file Types rest number fault d (with_type e.ctype e.kind held) None tt
breaks_read file section lines number fault (after_entry {lines = rest} line e plain is d) held (Some k) ready = let r = ready.1 in absurd cc
breaks_read file section lines number fault (after_code {lines = rest} input line block plain flush name all stop d) held kind ready =
    code_read file held kind input line block rest plain flush name all
    ∙ breaks_read file (section_of input) rest number fault d (held_with kind held)
    (Some (with_lines (code_in block) (opened file input line.number (without_end_blanks line.text)))) (stop, no_types input)
