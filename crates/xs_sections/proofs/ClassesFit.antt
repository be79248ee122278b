-- Which classes a line can have in a region.
use Rattle.std.proofs.Common.{◌≡◌, ℕ, Bool, true, false, not, ◌&&◌, ◌||◌, ◌==◌, if◌then◌else◌, List, [], ◌∷◌, ◌++◌, Option, None, Some, refl, sym}
use Rattle.std.specs.Prelude.{codes, map}
use Rattle.std.specs.Str.{bytes_eq}
use Rattle.std.proofs.lemmas.Bool.{cond_both}
use Rattle.xs_base.specs.declared.source.Line.{Line}
use Rattle.xs_base.specs.Scanning.{starts_with, is_blank_line}
use Rattle.xs_base.specs.ByteRuns.{after_run, after_blanks, front_of, is_remark}
use Rattle.xs_base.specs.declared.byte_runs.ByteClass.TheVariants.{Capital}
use Rattle.xs_base.specs.Names.{is_among}
use Rattle.xs_sections.specs.declared.words.TheConstants.{BOOT, FALLBACK, REQUIRE, SWITCHES, TYPEMAP}
use Rattle.xs_sections.specs.LineForms.{begins_pod, ends_pod, is_directive, is_module_line}
use Rattle.xs_sections.specs.ModuleLine.{module_class, class_by_names, module_names}
use Rattle.xs_sections.specs.Keywords as keyword
use Rattle.xs_sections.specs.Classes.{is_in_text, opens_paragraph, comment_class, paragraph_class, xs_class, class_at, class_of}
use Rattle.xs_sections.specs.Steps.{is_map, is_c_part}
use Rattle.xs_sections.specs.declared.class.LineClass.{LineClass}
use Rattle.xs_sections.specs.declared.class.LineClass.TheVariants as class
use Rattle.xs_sections.specs.declared.sections.ModuleNames.{ModuleNames}
use Rattle.xs_sections.specs.declared.class.Region.{Region}
use Rattle.xs_sections.specs.declared.class.Region.TheVariants as region

-- there is a line
abbrev pub HasLine : List Line → Type 0
HasLine [] = ⊥
HasLine (line ∷ lines) = Unit {0}

pub HasLine-push : (lines : List Line) (line : Line) → HasLine (lines ++ line ∷ [])
HasLine-push [] line = tt
HasLine-push (first ∷ lines) line = tt

-- a paragraph that stands open has a line
abbrev pub Good : Region → List Line → Type 0
Good at lines = is_in_text at ≡ true → HasLine lines

pub record IsHead (at : Region) : Type 0 where
  pub no_map : is_map at ≡ false
  pub no_c : is_c_part at ≡ false

pub record IsGoing (at : Region) (lines : List Line) : Type 0 where
  pub no_map : is_map at ≡ false
  pub no_c : is_c_part at ≡ false
  pub some : HasLine lines

pub record IsOutside (at : Region) : Type 0 where
  pub no_map : is_map at ≡ false
  pub no_c : is_c_part at ≡ false
  pub no_text : is_in_text at ≡ false

abbrev pub Fits : Region → List Line → LineClass → Type 0
Fits at lines class.PodBegin = Unit {0}
Fits at lines class.PodLine = Unit {0}
Fits at lines class.PodEnd = Unit {0}
Fits at lines class.C = Unit {0}
Fits at lines class.Comment = is_c_part at ≡ false
Fits at lines class.Directive = is_c_part at ≡ false
Fits at lines (class.Module names) = is_map at ≡ false
Fits at lines class.BadModule = is_map at ≡ false
Fits at lines class.Outside = IsOutside at
Fits at lines class.Keyword = IsHead at
Fits at lines class.BadValue = IsHead at
Fits at lines (class.LeftOut word) = IsHead at
Fits at lines (class.MapBegin end) = IsHead at
Fits at lines class.MapLine = is_map at ≡ true
Fits at lines class.MapEnd = is_map at ≡ true
Fits at lines class.First = IsHead at
Fits at lines class.FirstOfBoot = IsHead at
Fits at lines class.Further = IsGoing at lines
Fits at lines class.Blank = IsGoing at lines

-- the classes of the lines of the C part, and of the line that ends it
abbrev pub is_in_c : LineClass → Bool
is_in_c class.PodBegin = true
is_in_c class.PodLine = true
is_in_c class.PodEnd = true
is_in_c class.C = true
is_in_c (class.Module names) = true
is_in_c class.BadModule = true
is_in_c _ = false

-- A line of another class does not stand in the C part.
pub c_part_fits : (c : LineClass) (lines : List Line) → Fits region.CPart lines c → is_in_c c ≡ true
c_part_fits class.PodBegin lines fits = refl
c_part_fits class.PodLine lines fits = refl
c_part_fits class.PodEnd lines fits = refl
c_part_fits class.C lines fits = refl
c_part_fits class.Comment lines fits = sym fits
c_part_fits class.Directive lines fits = sym fits
c_part_fits (class.Module names) lines fits = refl
c_part_fits class.BadModule lines fits = refl
c_part_fits class.Outside lines fits = sym fits.no_c
c_part_fits class.Keyword lines fits = sym fits.no_c
c_part_fits class.BadValue lines fits = sym fits.no_c
c_part_fits (class.LeftOut word) lines fits = sym fits.no_c
c_part_fits (class.MapBegin end) lines fits = sym fits.no_c
c_part_fits class.MapLine lines fits = fits
c_part_fits class.MapEnd lines fits = fits
c_part_fits class.First lines fits = sym fits.no_c
c_part_fits class.FirstOfBoot lines fits = sym fits.no_c
c_part_fits class.Further lines fits = sym fits.no_c
c_part_fits class.Blank lines fits = sym fits.no_c

-- the same as a record, so that the class can be read from it
pub record Can (at : Region) (lines : List Line) (class : LineClass) : Type 0 where
  pub fits : Fits at lines class

-- what holds of both classes holds of the one that a test chooses
pub by_if : (P : LineClass → Type 0) (b : Bool) {c d : LineClass} → P c → P d → P (if b then c else d)
by_if P b {c = c} {d = d} p q = cond_both b c d P (λ e. p) (λ e. q)

module _ (at : Region) (lines : List Line) where
  abbrev F : LineClass → Type 0
  F = Can at lines

  can : (c : LineClass) → Fits at lines c → F c
  can c h = record { fits = h }

  comment_fits : is_c_part at ≡ false → (text : List ℕ) → F (comment_class text)
  comment_fits h text = by_if F (is_directive text) (can class.Directive h) (can class.Comment h)

  module_fits : is_map at ≡ false → (text : List ℕ) → F (module_class text)
  module_fits h text = by_names (module_names text)
    where
      by_names : (names : Option ModuleNames) → F (class_by_names names)
      by_names None = can class.BadModule h
      by_names (Some names) = can (class.Module names) h

  module _ (h : IsHead at) where
    text_fits : (line : List ℕ) → F (keyword.text_class line)
    text_fits line = by_if F (starts_with BOOT.now line) (can class.FirstOfBoot h) (can class.First h)

    value_fits : (b : Bool) → F (keyword.value_class b)
    value_fits b = by_if F b (can class.Keyword h) (can class.BadValue h)

    map_fits : (word : Option (List ℕ)) → F (keyword.map_class word)
    map_fits None = can class.BadValue h
    map_fits (Some word) = can (class.MapBegin word) h

    word_fits : (word value line : List ℕ) → F (keyword.word_class word value line)
    unfolding keyword.word_class keyword.left_out_class
    word_fits word value line =
        by_if F (is_among (map (λ keyword. keyword.now) SWITCHES) word) (value_fits (keyword.is_switch (keyword.only_word value)))
        (by_if F (bytes_eq word REQUIRE.now) (value_fits (keyword.is_some_word (keyword.only_word value)))
        (by_if F (bytes_eq word FALLBACK.now) (value_fits (keyword.is_fallback (keyword.only_word value)))
        (by_if F (bytes_eq word TYPEMAP.now) (map_fits (keyword.block_end (keyword.only_word value)))
        (by_if F (is_among keyword.left_out_words word && not (starts_with (codes ":") value)) (can (class.LeftOut word) h) (text_fits line)))))

    after_word_fits : (word more line : List ℕ) → F (keyword.class_after_word word more line)
    after_word_fits word [] line = text_fits line
    after_word_fits word (b ∷ value) line = by_if F (b == 58) (word_fits word value line) (text_fits line)

    head_fits : (line : List ℕ) → F (keyword.head_class line)
    head_fits line = after_word_fits (front_of Capital line) (after_blanks (after_run Capital line)) line

  paragraph_fits : IsHead at → Good at lines → (text : List ℕ) → F (paragraph_class at text)
  paragraph_fits h good text = by_text (is_in_text at) refl
    where
      by_text : (b : Bool) → is_in_text at ≡ b
          → F (if is_blank_line text then (if b then class.Blank else class.Outside)
          else (if b && not (opens_paragraph at text) then class.Further else keyword.head_class text))
      by_text true e =
          let going : IsGoing at lines = record { no_map = h.no_map; no_c = h.no_c; some = good e } in
          by_if F (is_blank_line text) (can class.Blank going) (by_if F (not (opens_paragraph at text)) (can class.Further going) (head_fits h text))
      by_text false e =
          by_if F (is_blank_line text) (can class.Outside (record { no_map = h.no_map; no_c = h.no_c; no_text = e })) (head_fits h text)

  xs_fits : IsHead at → Good at lines → (text : List ℕ) → F (xs_class at text)
  xs_fits h good text =
      by_if F (is_remark text) (comment_fits h.no_c text) (by_if F (is_module_line text) (module_fits h.no_map text) (paragraph_fits h good text))

class_at_fits : (at : Region) (lines : List Line) → Good at lines → (text : List ℕ) → Can at lines (class_at at text)
unfolding class_at
class_at_fits region.CPart lines good text =
    by_if (Can region.CPart lines) (is_module_line text) (module_fits region.CPart lines refl text) (can region.CPart lines class.C tt)
class_at_fits (region.Map end) lines good text =
    by_if (Can (region.Map end) lines) (bytes_eq text end) (can (region.Map end) lines class.MapEnd refl)
    (by_if (Can (region.Map end) lines) (is_remark text) (comment_fits (region.Map end) lines refl text) (can (region.Map end) lines class.MapLine refl))
class_at_fits region.Between lines good text = xs_fits region.Between lines (record { no_map = refl; no_c = refl }) good text
class_at_fits region.Head lines good text = xs_fits region.Head lines (record { no_map = refl; no_c = refl }) good text
class_at_fits region.HeadGap lines good text = xs_fits region.HeadGap lines (record { no_map = refl; no_c = refl }) good text
class_at_fits region.Body lines good text = xs_fits region.Body lines (record { no_map = refl; no_c = refl }) good text
class_at_fits region.BodyGap lines good text = xs_fits region.BodyGap lines (record { no_map = refl; no_c = refl }) good text
class_at_fits region.Boot lines good text = xs_fits region.Boot lines (record { no_map = refl; no_c = refl }) good text

pub class_of_fits : (pod : Bool) (at : Region) (lines : List Line) → Good at lines → (text : List ℕ) → Can at lines (class_of pod at text)
class_of_fits true at lines good text = by_if (Can at lines) (ends_pod text) (can at lines class.PodEnd tt) (can at lines class.PodLine tt)
class_of_fits false at lines good text = by_if (Can at lines) (begins_pod text) (can at lines class.PodBegin tt) (class_at_fits at lines good text)
