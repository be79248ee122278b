-- Lines of a typemap say something, or one of them breaks.
use Rattle.std.proofs.Common.{◌≡◌, ℕ, zero, suc, ◌≤◌, Bool, true, false, if◌then◌else◌, List, [], ◌∷◌, ◌++◌, length, Option, None, Some, ◌⊎◌, inl, inr, refl, ap, subst, arith, length-append}
use Rattle.std.proofs.lemmas.Bool.{and_from}
use Rattle.std.specs.List.{list_all}
use Rattle.xs_base.specs.Readers.{head_is}
use Rattle.xs_base.specs.Scanning.{is_identifier}
use Rattle.xs_base.specs.declared.fault_codes.TheConstants.{BAD_TYPEMAP_LINE, CODE_BEFORE_KIND}
use Rattle.xs_base.specs.declared.source.FileOf.{FileOf}
use Rattle.xs_base.specs.declared.source.Line.{Line}
use Rattle.xs_typemap.specs.TypemapLines.{entry_of, heading_of, is_passed_over, without_end_blanks}
use Rattle.xs_typemap.specs.TypemapText.{Breaks, no_entry, no_kind, before_kind, after_passed, after_heading, after_entry, after_code, IsName, IsPlain, Saying, has_kind, has_code, Says, done, passed, heading, entry, code, code_at, is_indented, is_of_code, section_of}
use Rattle.xs_typemap.specs.declared.lines.Section.{Section}
use Rattle.xs_typemap.specs.declared.lines.Section.TheVariants.{Types, Input, Output}
use Rattle.xs_typemap.specs.declared.lines.TypeEntry.{TypeEntry}

abbrev pub Reads : FileOf → Section → List Line → Type 0
Reads file section lines = ((said : List Saying) × Says file section lines said) ⊎ ((number : ℕ) × ((fault : ℕ) × Breaks file section lines number fault))

-- the lines in front that belong to code, and what stands after them
abbrev block_of : List Line → List Line
block_of [] = []
block_of (line ∷ lines) = if is_of_code line then line ∷ block_of lines else []

abbrev after_block : List Line → List Line
after_block [] = []
after_block (line ∷ lines) = if is_of_code line then after_block lines else line ∷ lines

whole_block : (lines : List Line) → block_of lines ++ after_block lines ≡ lines
whole_block [] = refl
whole_block (line ∷ lines) = by (is_of_code line) (whole_block lines)
  where
    by : (t : Bool) → block_of lines ++ after_block lines ≡ lines
        → (if t then line ∷ block_of lines else []) ++ (if t then after_block lines else line ∷ lines) ≡ line ∷ lines
    by true ih = ap (λ (ls : List Line). line ∷ ls) ih
    by false ih = refl

block_belongs : (lines : List Line) → list_all is_of_code (block_of lines) ≡ true
block_belongs [] = refl
block_belongs (line ∷ lines) = by (is_of_code line) refl (block_belongs lines)
  where
    by : (t : Bool) → is_of_code line ≡ t → list_all is_of_code (block_of lines) ≡ true → list_all is_of_code (if t then line ∷ block_of lines else []) ≡ true
    by true e ih = and_from (is_of_code line) (list_all is_of_code (block_of lines)) e ih
    by false e ih = refl

block_stops : (lines : List Line) → head_is is_of_code (after_block lines) ≡ false
block_stops [] = refl
block_stops (line ∷ lines) = by (is_of_code line) refl (block_stops lines)
  where
    by : (t : Bool) → is_of_code line ≡ t → head_is is_of_code (after_block lines) ≡ false
        → head_is is_of_code (if t then after_block lines else line ∷ lines) ≡ false
    by true e ih = ih
    by false e ih = e

after_shorter : (lines : List Line) → length (after_block lines) ≤ length lines
after_shorter lines =
    let e = ap (λ (l : List Line). length l) (whole_block lines) in omega (arith, e, length-append (block_of lines) (after_block lines))

module _ (file : FileOf) where
  with_passed : (section : Section) (line : Line) (lines : List Line) → is_passed_over line.text ≡ true → Reads file section lines
      → Reads file section (line ∷ lines)
  with_passed section line lines h (inl p) = inl (p.0, passed line h p.1)
  with_passed section line lines h (inr p) = inr (p.0, (p.1.0, after_passed line h p.1.1))

  with_heading : (section new : Section) (line : Line) (lines : List Line) → is_passed_over line.text ≡ false → heading_of line.text ≡ Some new
      → Reads file new lines → Reads file section (line ∷ lines)
  with_heading section new line lines h e (inl p) = inl (p.0, heading line new h e p.1)
  with_heading section new line lines h e (inr p) = inr (p.0, (p.1.0, after_heading line new h e p.1.1))

  with_entry : (line : Line) (lines : List Line) (e : TypeEntry) → IsPlain line → entry_of line.text ≡ Some e → Reads file Types lines
      → Reads file Types (line ∷ lines)
  with_entry line lines e plain is (inl p) = inl (has_kind e ∷ p.0, entry line e plain is p.1)
  with_entry line lines e plain is (inr p) = inr (p.0, (p.1.0, after_entry line e plain is p.1.1))

  with_kind : (input : Bool) (line : Line) (block lines : List Line) → IsPlain line → is_indented line ≡ false → IsName line
      → list_all is_of_code block ≡ true → head_is is_of_code lines ≡ false → Reads file (section_of input) lines
      → Reads file (section_of input) (line ∷ (block ++ lines))
  with_kind input line block lines plain flush name all stop (inl p) =
      inl (has_code input (without_end_blanks line.text) (code_at file line block) ∷ p.0, code input line block plain flush name all stop p.1)
  with_kind input line block lines plain flush name all stop (inr p) =
      inr (p.0, (p.1.0, after_code input line block plain flush name all stop p.1.1))

  -- lines that are at most so many
  abbrev Shorter : ℕ → Type 0
  Shorter k = (section : Section) (lines : List Line) → length lines ≤ k → Reads file section lines

at_type : (file : FileOf) (k : ℕ) (line : Line) (lines : List Line) → length lines ≤ k → Shorter file k → IsPlain line → Reads file Types (line ∷ lines)
at_type file k line lines short more plain = by (entry_of line.text) refl
  where
    by : (o : Option TypeEntry) → entry_of line.text ≡ o → Reads file Types (line ∷ lines)
    by None e = inr (line.number, (BAD_TYPEMAP_LINE, no_entry line plain e))
    by (Some found) e = with_entry file line lines found plain e (more Types lines short)

at_code : (file : FileOf) (k : ℕ) (input : Bool) (line : Line) (lines : List Line) → length lines ≤ k → Shorter file k → IsPlain line
    → Reads file (section_of input) (line ∷ lines)
at_code file k input line lines short more plain = by (is_indented line) (is_identifier (without_end_blanks line.text)) refl refl
  where
    named : is_indented line ≡ false → IsName line → Reads file (section_of input) (line ∷ lines)
    named flush name =
        subst (λ (ls : List Line). Reads file (section_of input) (line ∷ ls)) (whole_block lines)
        (with_kind file input line (block_of lines) (after_block lines) plain flush name (block_belongs lines) (block_stops lines)
        (more (section_of input) (after_block lines) (let s = after_shorter lines in omega arith)))

    by : (p q : Bool) → is_indented line ≡ p → is_identifier (without_end_blanks line.text) ≡ q → Reads file (section_of input) (line ∷ lines)
    by true q e f = inr (line.number, (CODE_BEFORE_KIND, before_kind input line plain e))
    by false true e f = named e f
    by false false e f = inr (line.number, (BAD_TYPEMAP_LINE, no_kind input line plain e f))

at_plain : (file : FileOf) (k : ℕ) (section : Section) (line : Line) (lines : List Line) → length lines ≤ k → Shorter file k → IsPlain line
    → Reads file section (line ∷ lines)
at_plain file k Types line lines short more plain = at_type file k line lines short more plain
at_plain file k Input line lines short more plain = at_code file k true line lines short more plain
at_plain file k Output line lines short more plain = at_code file k false line lines short more plain

at_line : (file : FileOf) (k : ℕ) (section : Section) (line : Line) (lines : List Line) → length lines ≤ k → Shorter file k
    → Reads file section (line ∷ lines)
at_line file k section line lines short more = by (is_passed_over line.text) (heading_of line.text) refl refl
  where
    by : (p : Bool) (o : Option Section) → is_passed_over line.text ≡ p → heading_of line.text ≡ o → Reads file section (line ∷ lines)
    by true o e f = with_passed file section line lines e (more section lines short)
    by false (Some new) e f = with_heading file section new line lines e f (more new lines short)
    by false None e f = at_plain file k section line lines short more (record { shown = e; no_heading = f })

within : (file : FileOf) (k : ℕ) (section : Section) (lines : List Line) → length lines ≤ k → Reads file section lines
within file k section [] short = inl ([], done)
within file zero section (line ∷ lines) short = absurd (omega arith)
within file (suc k) section (line ∷ lines) short = at_line file k section line lines (omega arith) (λ s ls h. within file k s ls h)

pub each_line : (file : FileOf) (section : Section) (lines : List Line) → Reads file section lines
each_line file section lines = within file (length lines) section lines (omega arith)
