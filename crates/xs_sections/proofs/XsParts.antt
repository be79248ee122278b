-- The XS part is a row of empty lines, MODULE lines, file keywords, typemap blocks and paragraphs.
use Rattle.std.proofs.Common.{◌≡◌, ℕ, ◌+◌, ◌-◌, ◌<◌, ◌≤◌, ◌==◌, ◌&&◌, length, Bool, true, false, not, if◌then◌else◌, List, [], ◌∷◌, ◌++◌, inl, inr, All, refl, ap, sym, subst, ◌∙◌, append_assoc, append-nil, arith}
use Rattle.std.specs.Prelude.{codes}
use Rattle.std.specs.Str.{bytes_eq}
use Rattle.std.proofs.lemmas.Bool.{false≢true}
use Rattle.std.proofs.lemmas.Bool.Decides.{nat_tests}
use Rattle.std.proofs.lemmas.List.Elements.{All-nil, All-cons, All-append}
use Rattle.xs_base.specs.declared.fault.Fault.{Fault}
use Rattle.xs_base.specs.declared.fault_codes.TheConstants.{OPEN_TYPEMAP}
use Rattle.xs_base.specs.declared.source.Line.{Line}
use Rattle.xs_base.specs.Scanning.{starts_with, is_blank_line}
use Rattle.xs_sections.specs.declared.words.TheConstants.{BOOT}
use Rattle.xs_sections.specs.LineForms.{is_flush_left}
use Rattle.xs_sections.specs.Classes.{Tag, class_of, is_in_text, is_head, region_after, pod_after, gap_after, further_after, blank_after, tag_of, tags_from, tags_of, heads_of, opens_paragraph, starts_paragraph}
use Rattle.xs_sections.specs.Cut.{paragraph_lines, map_lines, lines_in, is_passed, paragraph_of, map_of, parts_of, modules_of}
use Rattle.xs_sections.specs.SectionFaults.{line_fault, room_after, room_fault, line_faults, is_map_begin, is_map_end, some_line, unless_after, map_fault}
use Rattle.xs_sections.specs.Laws.{IsOf, IsHeadLine, IsParagraphHead, IsParagraph, EndsBefore, last_line, Before, after_gap, begins, Contents, with_head, with_part, XsPart}
use Rattle.xs_sections.specs.Laws as law
use Rattle.xs_sections.specs.Steps.{is_map, is_c_part}
use Rattle.xs_sections.specs.declared.class.LineClass.{LineClass}
use Rattle.xs_sections.specs.declared.class.LineClass.TheVariants as class
use Rattle.xs_sections.specs.declared.sections.ModuleNames.{ModuleNames}
use Rattle.xs_sections.specs.declared.class.Region.{Region}
use Rattle.xs_sections.specs.declared.class.Region.TheVariants as region
use Rattle.xs_sections.specs.declared.sections.Part.{Part}
use Rattle.xs_sections.proofs.CPart.{no_faults, no_fault_after, own_fault}
use Rattle.xs_sections.proofs.ClassesFit.{Fits, Can, class_of_fits}
use Rattle.xs_sections.proofs.RegionFacts.{tag, gap_c, gap_map, gap_text}
use Rattle.xs_sections.proofs.ClassesMean.{Means, StandsAt, EndsHere, IsEnd, class_of_means, boot_begins}
use Rattle.xs_sections.proofs.Parts.{stops, first_paragraph, boot_paragraph}

-- the classes of the lines of the XS part that are no comments
abbrev pub is_bare : LineClass → Bool
is_bare c = not (is_passed c)

abbrev pub bare : List Tag → List Line
bare ts = lines_in is_bare ts

-- ---- no faults

pub record Clean (room : ℕ) (ts : List Tag) : Type 0 where
  pub lines : line_faults room ts ≡ []
  pub blocks : map_fault ts ≡ []

record CleanStep (room : ℕ) (t : Tag) (ts : List Tag) : Type 0 where
  line : line_fault t.line.number t.class ≡ []
  block : is_map_begin t.class ≡ true → some_line is_map_end ts ≡ true
  rest : Clean (room_after t.starts room) ts

clean_step : (room : ℕ) (t : Tag) (ts : List Tag) → Clean room (t ∷ ts) → CleanStep room t ts
clean_step room t ts c =
    let own = own_fault room t ts c.lines in
    let d = no_faults (if is_map_begin t.class then unless_after is_map_end t.line.number OPEN_TYPEMAP ts else []) (map_fault ts) c.blocks in
    record {
      line = own.0;
      block = λ e. no_fault_after (some_line is_map_end ts) _ (rw e at d.0);
      rest = record { lines = own.1; blocks = d.1 };
    }

-- ---- the last line of a paragraph

last_push : (first : Line) (further : List Line) (l : Line) → last_line first (further ++ l ∷ []) ≡ l
last_push first [] l = refl
last_push first (next ∷ further) l = last_push next further l

abbrev LastAt : Region → Line → List Line → Type 0
LastAt region.BodyGap first further = is_blank_line (last_line first further).text ≡ true
LastAt region.Boot first further = starts_with BOOT.now first.text ≡ true
LastAt _ first further = Unit {0}

record IsGap (first : Line) (further : List Line) (text : List ℕ) : Type 0 where
  empty : is_blank_line (last_line first further).text ≡ true
  flush : is_flush_left text ≡ true

-- A paragraph ends before a line at which a new one begins.
ends_here : (at : Region) (first : Line) (further : List Line) (text : List ℕ) → is_in_text at ≡ true → EndsHere at text → LastAt at first further
    → IsGap first further text
ends_here region.BodyGap first further text t e last = record { empty = last; flush = e t }
ends_here region.Body first further text t e last = absurd (false≢true (e t))
ends_here region.Boot first further text t e last = absurd (false≢true (e t))
ends_here _ first further text t e last = absurd (false≢true t)

-- ---- regions

no_c_in_text : (at : Region) → is_in_text at ≡ true → is_c_part at ≡ false
no_c_in_text region.CPart t = absurd (false≢true t)
no_c_in_text _ t = refl

no_map_in_text : (at : Region) → is_in_text at ≡ true → is_map at ≡ false
no_map_in_text (region.Map end) t = absurd (false≢true t)
no_map_in_text _ t = refl

is_end_in_map : (at : Region) (text : List ℕ) (b : Bool) → IsEnd at text b → is_map at ≡ true
is_end_in_map (region.Map end) text b e = refl
is_end_in_map _ text b e = absurd e

-- What stands open where neither a paragraph's text nor a typemap block does, as the law has it.
abbrev OpenAs : Region → Before → Type 0
OpenAs region.Between law.nothing = Unit {0}
OpenAs region.Head law.head = Unit {0}
OpenAs region.HeadGap law.head_gap = Unit {0}
OpenAs _ _ = ⊥

-- a region in which neither a paragraph's text nor a typemap block stands open
record IsFree (at : Region) (before : Before) : Type 0 where
  text : is_in_text at ≡ false
  map : is_map at ≡ false
  c : is_c_part at ≡ false
  open_as : OpenAs at before

gap_open : (at : Region) (before : Before) → OpenAs at before → OpenAs (gap_after at) (after_gap before)
gap_open region.Between law.nothing o = tt
gap_open region.Head law.head o = tt
gap_open region.HeadGap law.head_gap o = tt
gap_open _ _ o = absurd o

free_gap : (at : Region) (before : Before) → IsFree at before → IsFree (gap_after at) (after_gap before)
free_gap at before f =
    record { text = gap_text at ∙ f.text; map = gap_map at ∙ f.map; c = gap_c at ∙ f.c; open_as = gap_open at before f.open_as }

free_between : IsFree region.Between law.nothing
free_between = record { text = refl; map = refl; c = refl; open_as = tt }

free_head : IsFree region.Head law.head
free_head = record { text = refl; map = refl; c = refl; open_as = tt }

same_begins : (at : Region) (before : Before) (text : List ℕ) → OpenAs at before → opens_paragraph at text ≡ begins before text
same_begins region.Between law.nothing text o = refl
same_begins region.Head law.head text o = refl
same_begins region.HeadGap law.head_gap text o = refl
same_begins _ _ text o = absurd o

-- ---- what is left of the file, where nothing, a paragraph or a typemap block stands open

-- what tags add to what the XS part holds
abbrev pub held_of : ℕ → List Tag → Contents
held_of count ts = record { modules = modules_of ts; heads = heads_of ts; parts = parts_of count ts }

abbrev Free : Bool → List Line → Type 0
Free pod ls =
    (at : Region) (before : Before) (count : ℕ) (room : ℕ) → IsFree at before → Clean room (tags_from pod at ls)
    → XsPart count before (bare (tags_from pod at ls)) (held_of count (tags_from pod at ls))

abbrev InText : Bool → List Line → Type 0
InText pod ls =
    (at : Region) (before : Before) (count : ℕ) (room : ℕ) (first : Line) (further all : List Line) → is_in_text at ≡ true
    → further ++ paragraph_lines (tags_from pod at ls) ≡ all → IsParagraphHead first.text → IsParagraph first all → LastAt at first further
    → Clean room (tags_from pod at ls)
    → XsPart count before (first ∷ further ++ bare (tags_from pod at ls))
    (with_head before first (with_part (paragraph_of count first all) (held_of count (tags_from pod at ls))))

abbrev NotEnd : List ℕ → Line → Type 0
NotEnd end l = bytes_eq l.text end ≡ false

abbrev InMap : Bool → List Line → Type 0
InMap pod ls =
    (end : List ℕ) (before : Before) (count : ℕ) (room : ℕ) (first : Line) (inner : List Line) → IsHeadLine first.text (class.MapBegin end)
    → All (NotEnd end) inner → some_line is_map_end (tags_from pod (region.Map end) ls) ≡ true → Clean room (tags_from pod (region.Map end) ls)
    → XsPart count before (first ∷ inner ++ bare (tags_from pod (region.Map end) ls))
    (with_head before first (with_part (map_of count first.number (inner ++ map_lines (tags_from pod (region.Map end) ls)))
    (held_of count (tags_from pod (region.Map end) ls))))

record Rest (ls : List Line) : Type 0 where
  free : (pod : Bool) → Free pod ls
  text : (pod : Bool) → InText pod ls
  map : (pod : Bool) → InMap pod ls

-- a paragraph that ends before the rest
ends_before : (before : Before) (count : ℕ) (first : Line) (further all : List Line) (rest : List Line) (held : Contents)
    → further ++ [] ≡ all → IsParagraphHead first.text → IsParagraph first all → EndsBefore first (last_line first further) rest
    → XsPart count law.nothing rest held
    → XsPart count before (first ∷ further ++ rest) (with_head before first (with_part (paragraph_of count first all) held))
ends_before before count first further all rest held e head para ends more =
    let same : all ≡ further = sym e ∙ append-nil further in
    let P : List Line → Type 0 = λ x. XsPart count before (first ∷ further ++ rest) (with_head before first (with_part (paragraph_of count first x) held)) in
    let Q : List Line → Type 0 = λ x. IsParagraph first x in
    subst P (sym same) (law.paragraph further rest head (subst Q same para) ends more)

-- ---- a line where nothing stands open, by its class

module _ (l : Line) (ls : List Line) (pod : Bool) (ih : Rest ls) where
  abbrev ts : Region → List Tag
  ts at = tags_from pod at ls

  -- the line's tag, after what stands open
  abbrev here : Region → LineClass → Tag
  here at c = tag c l (starts_paragraph at c l.text)

  -- a line of which a paragraph can begin
  at_head : (at : Region) (before : Before) (c : LineClass) (count : ℕ) (room : ℕ) → is_head c ≡ true → IsOf l.text c → line_fault l.number c ≡ []
      → (is_map_begin c ≡ true → some_line is_map_end (ts (region_after at c)) ≡ true) → Clean room (ts (region_after at c))
      → XsPart count before (bare (tag c l (begins before l.text) ∷ ts (region_after at c)))
      (held_of count (tag c l (begins before l.text) ∷ ts (region_after at c)))
  unfolding parts_of
  at_head at before class.Keyword count room h is none some clean = law.keyword is (ih.free pod region.Head law.head count room free_head clean)
  at_head at before class.BadValue count room h is none some clean = absurd cc
  at_head at before (class.LeftOut word) count room h is none some clean = absurd cc
  at_head at before (class.MapBegin end) count room h is none some clean =
      ih.map pod end before count room l [] is (All-nil (NotEnd end)) (some refl) clean
  at_head at before class.First count room h is none some clean =
      ih.text pod region.Body before count room l [] (paragraph_lines (ts region.Body)) refl refl (record { line = is.line; reads = inl is.reads })
      (first_paragraph ls pod l is) tt clean
  at_head at before class.FirstOfBoot count room h is none some clean =
      ih.text pod region.Boot before count room l [] (paragraph_lines (ts region.Boot)) refl refl (record { line = is.line; reads = inr is.reads })
      (boot_paragraph ls pod l is) (boot_begins l.text is.reads) clean
  at_head at before class.PodBegin count room h is none some clean = absurd (false≢true h)
  at_head at before class.PodLine count room h is none some clean = absurd (false≢true h)
  at_head at before class.PodEnd count room h is none some clean = absurd (false≢true h)
  at_head at before class.C count room h is none some clean = absurd (false≢true h)
  at_head at before class.Comment count room h is none some clean = absurd (false≢true h)
  at_head at before class.Directive count room h is none some clean = absurd (false≢true h)
  at_head at before (class.Module new) count room h is none some clean = absurd (false≢true h)
  at_head at before class.BadModule count room h is none some clean = absurd (false≢true h)
  at_head at before class.Outside count room h is none some clean = absurd (false≢true h)
  at_head at before class.MapLine count room h is none some clean = absurd (false≢true h)
  at_head at before class.MapEnd count room h is none some clean = absurd (false≢true h)
  at_head at before class.Further count room h is none some clean = absurd (false≢true h)
  at_head at before class.Blank count room h is none some clean = absurd (false≢true h)

  head_free : (at : Region) (before : Before) (c : LineClass) (count : ℕ) (room : ℕ) → OpenAs at before
      → XsPart count before (bare (tag c l (begins before l.text) ∷ ts (region_after at c)))
      (held_of count (tag c l (begins before l.text) ∷ ts (region_after at c)))
      → XsPart count before (bare (tag c l (opens_paragraph at l.text) ∷ ts (region_after at c)))
      (held_of count (tag c l (opens_paragraph at l.text) ∷ ts (region_after at c)))
  head_free at before c count room o x =
      let P : Bool
      → Type 0 = λ b. XsPart count before (bare (tag c l b ∷ ts (region_after at c))) (held_of count (tag c l b ∷ ts (region_after at c))) in
      subst P (sym (same_begins at before l.text o)) x

  by_free : (at : Region) (before : Before) (c : LineClass) (count : ℕ) (room : ℕ) → IsFree at before → IsOf l.text c → StandsAt at l.text c
      → Fits at (l ∷ []) c
      → line_fault l.number c ≡ []
      → (is_map_begin c ≡ true → some_line is_map_end (ts (region_after at c)) ≡ true) → Clean room (ts (region_after at c))
      → XsPart count before (bare (here at c ∷ ts (region_after at c))) (held_of count (here at c ∷ ts (region_after at c)))
  unfolding parts_of
  by_free at before class.PodBegin count room f is s fits none some clean = ih.free pod at before count room f clean
  by_free at before class.PodLine count room f is s fits none some clean = ih.free pod at before count room f clean
  by_free at before class.PodEnd count room f is s fits none some clean = ih.free pod at before count room f clean
  by_free at before class.C count room f is s fits none some clean = absurd (false≢true (sym f.c ∙ s))
  by_free at before class.Comment count room f is s fits none some clean = ih.free pod at before count room f clean
  by_free at before class.Directive count room f is s fits none some clean = absurd cc
  by_free at before (class.Module new) count room f is s fits none some clean =
      law.sets new is.first_word is.names_are (ih.free pod region.Between law.nothing (count + 1) room free_between clean)
  by_free at before class.BadModule count room f is s fits none some clean = absurd cc
  by_free at before class.Outside count room f is s fits none some clean =
      law.gap is.empty_is (ih.free pod (gap_after at) (after_gap before) count room (free_gap at before f) clean)
  by_free at before class.MapLine count room f is s fits none some clean = absurd (false≢true (sym f.map ∙ fits))
  by_free at before class.MapEnd count room f is s fits none some clean = absurd (false≢true (sym f.map ∙ fits))
  by_free at before class.Further count room f is s fits none some clean = absurd (false≢true (sym f.text ∙ s.in_text))
  by_free at before class.Blank count room f is s fits none some clean = absurd (false≢true (sym f.text ∙ s))
  by_free at before class.Keyword count room f is s fits none some clean =
      head_free at before class.Keyword count room f.open_as (at_head at before class.Keyword count room refl is none some clean)
  by_free at before class.BadValue count room f is s fits none some clean = absurd cc
  by_free at before (class.LeftOut word) count room f is s fits none some clean = absurd cc
  by_free at before (class.MapBegin end) count room f is s fits none some clean =
      head_free at before (class.MapBegin end) count room f.open_as (at_head at before (class.MapBegin end) count room refl is none some clean)
  by_free at before class.First count room f is s fits none some clean =
      head_free at before class.First count room f.open_as (at_head at before class.First count room refl is none some clean)
  by_free at before class.FirstOfBoot count room f is s fits none some clean =
      head_free at before class.FirstOfBoot count room f.open_as (at_head at before class.FirstOfBoot count room refl is none some clean)

  text_head : (at : Region) (before : Before) (c : LineClass) (count : ℕ) (room : ℕ) (first : Line) (further all : List Line) → is_in_text at ≡ true
      → is_head c ≡ true → EndsHere at l.text
      → further ++ [] ≡ all → IsParagraphHead first.text → IsParagraph first all → LastAt at first further
      → IsOf l.text c → line_fault l.number c ≡ [] → (is_map_begin c ≡ true → some_line is_map_end (ts (region_after at c)) ≡ true)
      → Clean room (ts (region_after at c))
      → XsPart count before (first ∷ further ++ l ∷ bare (ts (region_after at c)))
      (with_head before first (with_part (paragraph_of count first all) (held_of count (here at c ∷ ts (region_after at c)))))
  text_head at before c count room first further all t h s e head para last is none some clean =
      let gap : IsGap first further l.text = ends_here at first further l.text t s last in
      let begun : Tag = tag c l true in
      let is_line : bare (begun ∷ ts (region_after at c)) ≡ l ∷ bare (ts (region_after at c)) = heads_bare c h (ts (region_after at c)) in
      let Q : List Line → Type 0 = λ x. XsPart count law.nothing x (held_of count (begun ∷ ts (region_after at c))) in
      let R : Bool → Type 0 = λ b.
      XsPart count before (first ∷ further ++ l ∷ bare (ts (region_after at c)))
      (with_head before first (with_part (paragraph_of count first all) (held_of count (tag c l b ∷ ts (region_after at c))))) in
      subst R (sym (head_starts c h)) (ends_before before count first further all (l ∷ bare (ts (region_after at c))) _ e head para
      (inr (gap.empty, inr gap.flush)) (subst Q is_line (at_head at law.nothing c count room h is none some clean)))
    where
      heads_bare : (c : LineClass) → is_head c ≡ true → (ts : List Tag) → bare (tag c l true ∷ ts) ≡ l ∷ bare ts
      heads_bare class.Keyword h ts = refl
      heads_bare class.BadValue h ts = refl
      heads_bare (class.LeftOut word) h ts = refl
      heads_bare (class.MapBegin end) h ts = refl
      heads_bare class.First h ts = refl
      heads_bare class.FirstOfBoot h ts = refl
      heads_bare _ h ts = absurd (false≢true h)

      head_starts : (c : LineClass) → is_head c ≡ true → starts_paragraph at c l.text ≡ true
      head_starts c h = rw h (s t)

  moved : (before : Before) (count : ℕ) (first : Line) (further rest : List Line) (held : Contents)
      → XsPart count before (first ∷ (further ++ l ∷ []) ++ rest) held → XsPart count before (first ∷ further ++ l ∷ rest) held
  moved before count first further rest held x =
      let P : List Line → Type 0 = λ y. XsPart count before (first ∷ y) held in subst P (append_assoc further (l ∷ []) rest) x

  empty_last : (first : Line) (further : List Line) → is_blank_line l.text ≡ true → is_blank_line (last_line first (further ++ l ∷ [])).text ≡ true
  empty_last first further e = let P : Line → Type 0 = λ x. is_blank_line x.text ≡ true in subst P (sym (last_push first further l)) e

  further_at : (at : Region) (first : Line) (further : List Line) → is_in_text at ≡ true → LastAt at first further
      → (is_in_text (further_after at) ≡ true) × LastAt (further_after at) first (further ++ l ∷ [])
  further_at region.Boot first further t last = (refl, last)
  further_at region.CPart first further t last = absurd (false≢true t)
  further_at region.Between first further t last = absurd (false≢true t)
  further_at region.Head first further t last = absurd (false≢true t)
  further_at region.HeadGap first further t last = absurd (false≢true t)
  further_at region.Body first further t last = (refl, tt)
  further_at region.BodyGap first further t last = (refl, tt)
  further_at (region.Map end) first further t last = absurd (false≢true t)

  -- an empty line of a paragraph
  by_blank : (at : Region) (before : Before) (count : ℕ) (room : ℕ) (first : Line) (further all : List Line) → is_in_text at ≡ true
      → is_blank_line l.text ≡ true
      → further ++ l ∷ paragraph_lines (ts (blank_after at)) ≡ all → IsParagraphHead first.text → IsParagraph first all → LastAt at first further
      → Clean room (ts (blank_after at))
      → XsPart count before (first ∷ further ++ l ∷ bare (ts (blank_after at)))
      (with_head before first (with_part (paragraph_of count first all) (held_of count (ts (blank_after at)))))
  by_blank region.Body before count room first further all t e gathered head para last clean =
      moved before count first further _ _ (ih.text pod region.BodyGap before count room first (further ++ l ∷ []) all refl (append_assoc further (l ∷ []) _
      ∙ gathered) head para (empty_last first further e) clean)
  by_blank region.BodyGap before count room first further all t e gathered head para last clean =
      moved before count first further _ _ (ih.text pod region.BodyGap before count room first (further ++ l ∷ []) all refl (append_assoc further (l ∷ []) _
      ∙ gathered) head para (empty_last first further e) clean)
  by_blank region.Boot before count room first further all t e gathered head para last clean =
      let none : paragraph_lines (ts region.Between) ≡ [] = stops ls pod region.Between refl in
      let end_report : (further ++ l ∷ []) ++ [] ≡ all = append-nil (further ++ l ∷ []) ∙ ap (λ (x : List Line). further ++ l ∷ x) (sym none) ∙ gathered in
      moved before count first further _ _ (ends_before before count first (further ++ l ∷ []) all (bare (ts region.Between)) _ end_report head para
      (after_boot (bare (ts region.Between))) (ih.free pod region.Between law.nothing count room free_between clean))
    where
      after_boot : (rest : List Line) → EndsBefore first (last_line first (further ++ l ∷ [])) rest
      after_boot [] = tt
      after_boot (next ∷ rest) = inr (empty_last first further e, inl last)
  by_blank region.CPart before count room first further all t e gathered head para last clean = absurd (false≢true t)
  by_blank region.Between before count room first further all t e gathered head para last clean = absurd (false≢true t)
  by_blank region.Head before count room first further all t e gathered head para last clean = absurd (false≢true t)
  by_blank region.HeadGap before count room first further all t e gathered head para last clean = absurd (false≢true t)
  by_blank (region.Map end) before count room first further all t e gathered head para last clean = absurd (false≢true t)

  by_text : (at : Region) (before : Before) (c : LineClass) (count : ℕ) (room : ℕ) (first : Line) (further all : List Line) → is_in_text at ≡ true
      → further ++ paragraph_lines (here at c ∷ ts (region_after at c)) ≡ all → IsParagraphHead first.text → IsParagraph first all
      → LastAt at first further
      → IsOf l.text c → StandsAt at l.text c → Fits at (l ∷ []) c → line_fault l.number c ≡ []
      → (is_map_begin c ≡ true → some_line is_map_end (ts (region_after at c)) ≡ true) → Clean room (ts (region_after at c))
      → XsPart count before (first ∷ further ++ bare (here at c ∷ ts (region_after at c)))
      (with_head before first (with_part (paragraph_of count first all) (held_of count (here at c ∷ ts (region_after at c)))))
  unfolding parts_of
  by_text at before class.PodBegin count room first further all t e head para last is s fits none some clean =
      ih.text pod at before count room first further all t e head para last clean
  by_text at before class.PodLine count room first further all t e head para last is s fits none some clean =
      ih.text pod at before count room first further all t e head para last clean
  by_text at before class.PodEnd count room first further all t e head para last is s fits none some clean =
      ih.text pod at before count room first further all t e head para last clean
  by_text at before class.C count room first further all t e head para last is s fits none some clean = absurd (false≢true (sym (no_c_in_text at t) ∙ s))
  by_text at before class.Comment count room first further all t e head para last is s fits none some clean =
      ih.text pod at before count room first further all t e head para last clean
  by_text at before class.Directive count room first further all t e head para last is s fits none some clean = absurd cc
  by_text at before (class.Module new) count room first further all t e head para last is s fits none some clean =
      ends_before before count first further all (l ∷ bare (ts region.Between)) _ e head para (inl is.first_word)
      (law.sets new is.first_word is.names_are (ih.free pod region.Between law.nothing (count + 1) room free_between clean))
  by_text at before class.BadModule count room first further all t e head para last is s fits none some clean = absurd cc
  by_text at before class.Outside count room first further all t e head para last is s fits none some clean = absurd (false≢true (sym s ∙ t))
  by_text at before class.MapLine count room first further all t e head para last is s fits none some clean =
      absurd (false≢true (sym (no_map_in_text at t) ∙ fits))
  by_text at before class.MapEnd count room first further all t e head para last is s fits none some clean =
      absurd (false≢true (sym (no_map_in_text at t) ∙ fits))
  by_text at before class.Further count room first further all t e head para last is s fits none some clean =
      let next = further_at at first further t last in
      moved before count first further _ _ (ih.text pod (further_after at) before count room first (further ++ l ∷ []) all next.0
      (append_assoc further (l ∷ []) _
      ∙ e) head para next.1 clean)
  by_text at before class.Blank count room first further all t e head para last is s fits none some clean =
      by_blank at before count room first further all t is.empty_is e head para last clean
  by_text at before class.Keyword count room first further all t e head para last is s fits none some clean =
      text_head at before class.Keyword count room first further all t refl s e head para last is none some clean
  by_text at before class.BadValue count room first further all t e head para last is s fits none some clean = absurd cc
  by_text at before (class.LeftOut word) count room first further all t e head para last is s fits none some clean = absurd cc
  by_text at before (class.MapBegin end) count room first further all t e head para last is s fits none some clean =
      text_head at before (class.MapBegin end) count room first further all t refl s e head para last is none some clean
  by_text at before class.First count room first further all t e head para last is s fits none some clean =
      text_head at before class.First count room first further all t refl s e head para last is none some clean
  by_text at before class.FirstOfBoot count room first further all t e head para last is s fits none some clean =
      text_head at before class.FirstOfBoot count room first further all t refl s e head para last is none some clean

  by_map : (end : List ℕ) (before : Before) (c : LineClass) (count : ℕ) (room : ℕ) (first : Line) (inner : List Line)
      → IsHeadLine first.text (class.MapBegin end)
      → All (NotEnd end) inner
      → some_line is_map_end (here (region.Map end) c ∷ ts (region_after (region.Map end) c)) ≡ true
      → IsOf l.text c → StandsAt (region.Map end) l.text c → Fits (region.Map end) (l ∷ []) c → line_fault l.number c ≡ []
      → Clean room (ts (region_after (region.Map end) c))
      → XsPart count before (first ∷ inner ++ bare (here (region.Map end) c ∷ ts (region_after (region.Map end) c)))
      (with_head before first (with_part
      (map_of count first.number (inner ++ map_lines (here (region.Map end) c ∷ ts (region_after (region.Map end) c))))
      (held_of count (here (region.Map end) c ∷ ts (region_after (region.Map end) c)))))
  unfolding parts_of
  by_map end before class.PodBegin count room first inner head not_end some is s fits none clean =
      ih.map pod end before count room first inner head not_end some clean
  by_map end before class.PodLine count room first inner head not_end some is s fits none clean =
      ih.map pod end before count room first inner head not_end some clean
  by_map end before class.PodEnd count room first inner head not_end some is s fits none clean =
      ih.map pod end before count room first inner head not_end some clean
  by_map end before class.C count room first inner head not_end some is s fits none clean = absurd (false≢true s)
  by_map end before class.Comment count room first inner head not_end some is s fits none clean =
      ih.map pod end before count room first inner head not_end some clean
  by_map end before class.Directive count room first inner head not_end some is s fits none clean = absurd cc
  by_map end before (class.Module new) count room first inner head not_end some is s fits none clean = absurd (false≢true (sym fits))
  by_map end before class.BadModule count room first inner head not_end some is s fits none clean = absurd cc
  by_map end before class.Outside count room first inner head not_end some is s fits none clean = absurd (false≢true (sym fits.no_map))
  by_map end before class.Keyword count room first inner head not_end some is s fits none clean = absurd (false≢true (sym fits.no_map))
  by_map end before class.BadValue count room first inner head not_end some is s fits none clean = absurd cc
  by_map end before (class.LeftOut word) count room first inner head not_end some is s fits none clean = absurd cc
  by_map end before (class.MapBegin word) count room first inner head not_end some is s fits none clean = absurd (false≢true (sym fits.no_map))
  by_map end before class.First count room first inner head not_end some is s fits none clean = absurd (false≢true (sym fits.no_map))
  by_map end before class.FirstOfBoot count room first inner head not_end some is s fits none clean = absurd (false≢true (sym fits.no_map))
  by_map end before class.Further count room first inner head not_end some is s fits none clean = absurd (false≢true (sym fits.no_map))
  by_map end before class.Blank count room first inner head not_end some is s fits none clean = absurd (false≢true (sym fits.no_map))
  by_map end before class.MapLine count room first inner head not_end some is s fits none clean =
      let more : All (NotEnd end) (inner ++ l ∷ []) = All-append (NotEnd end) inner (l ∷ []) not_end (All-cons (NotEnd end) l [] s (All-nil (NotEnd end))) in
      let P : List Line
      → Type 0 = λ x. XsPart count before (first ∷ inner ++ l ∷ bare (ts (region.Map end)))
      (with_head before first (with_part (map_of count first.number x) (held_of count (ts (region.Map end))))) in
      subst P (append_assoc inner (l ∷ []) (map_lines (ts (region.Map end))))
      (moved before count first inner _ _ (ih.map pod end before count room first (inner ++ l ∷ []) head more some clean))
  by_map end before class.MapEnd count room first inner head not_end some is s fits none clean =
      let P : List Line
      → Type 0 = λ x. XsPart count before (first ∷ inner ++ l ∷ bare (ts region.Head))
      (with_head before first (with_part (map_of count first.number x) (held_of count (ts region.Head)))) in
      subst P (sym (append-nil inner)) (law.block end inner l head not_end s (ih.free pod region.Head law.head count room free_head clean))

-- ---- the whole rest

xs : (ls : List Line) → Rest ls
unfolding tags_from parts_of
xs [] =
    record {
      free = λ pod at before count room f clean. law.done;
      text = λ pod at before count room first further all t e head para last clean. ends_before before count first further all [] law.no_contents e head para tt
          law.done;
      map = λ pod end before count room first inner head not_end some clean. absurd (false≢true some);
    }
xs (l ∷ ls) =
    let ih : Rest ls = xs ls in
    record {
      free = λ pod at before count room f clean.
          let c : LineClass = class_of pod at l.text in
          let t : Tag = tag_of pod at l in
          let m : Means at l.text c = class_of_means pod at l.text in
          let fit : Can at (l ∷ []) c = class_of_fits pod at (l ∷ []) (λ e. tt) l.text in
          let st : CleanStep room t (tags_from (pod_after pod c) (region_after at c) ls) =
          clean_step room t (tags_from (pod_after pod c) (region_after at c) ls) clean in
          by_free l ls (pod_after pod c) ih at before c count (room_after t.starts room) f m.is_of m.stands fit.fits st.line st.block st.rest;
      text = λ pod at before count room first further all t e head para last clean.
          let c : LineClass = class_of pod at l.text in
          let u : Tag = tag_of pod at l in
          let m : Means at l.text c = class_of_means pod at l.text in
          let fit : Can at (l ∷ []) c = class_of_fits pod at (l ∷ []) (λ e. tt) l.text in
          let st : CleanStep room u (tags_from (pod_after pod c) (region_after at c) ls) =
          clean_step room u (tags_from (pod_after pod c) (region_after at c) ls) clean in
          by_text l ls (pod_after pod c) ih at before c count (room_after u.starts room) first further all t e head para last m.is_of m.stands fit.fits
          st.line st.block st.rest;
      map = λ pod end before count room first inner head not_end some clean.
          let c : LineClass = class_of pod (region.Map end) l.text in
          let u : Tag = tag_of pod (region.Map end) l in
          let m : Means (region.Map end) l.text c = class_of_means pod (region.Map end) l.text in
          let fit : Can (region.Map end) (l ∷ []) c = class_of_fits pod (region.Map end) (l ∷ []) (λ e. tt) l.text in
          let st : CleanStep room u (tags_from (pod_after pod c) (region_after (region.Map end) c) ls) =
          clean_step room u (tags_from (pod_after pod c) (region_after (region.Map end) c) ls) clean in
          by_map l ls (pod_after pod c) ih end before c count (room_after u.starts room) first inner head not_end some m.is_of m.stands fit.fits st.line
          st.rest;
    }

-- ---- from the C part on

c_line : (l : Line) (ls : List Line) (pod : Bool) (c : LineClass) (count : ℕ) (room : ℕ) → IsOf l.text c → Fits region.CPart (l ∷ []) c
    → line_fault l.number c ≡ []
    → (region_after region.CPart c ≡ region.CPart
    → XsPart count law.nothing (bare (tags_from pod region.CPart ls)) (held_of count (tags_from pod region.CPart ls)))
    → Clean room (tags_from pod (region_after region.CPart c) ls)
    → XsPart count law.nothing (bare (tag c l (starts_paragraph region.CPart c l.text) ∷ tags_from pod (region_after region.CPart c) ls))
    (held_of count (tag c l (starts_paragraph region.CPart c l.text) ∷ tags_from pod (region_after region.CPart c) ls))
unfolding parts_of
c_line l ls pod class.PodBegin count room is fits none ih clean = ih refl
c_line l ls pod class.PodLine count room is fits none ih clean = ih refl
c_line l ls pod class.PodEnd count room is fits none ih clean = ih refl
c_line l ls pod class.C count room is fits none ih clean = ih refl
c_line l ls pod class.Comment count room is fits none ih clean = absurd (false≢true (sym fits))
c_line l ls pod class.Directive count room is fits none ih clean = absurd cc
c_line l ls pod (class.Module new) count room is fits none ih clean =
    let rest : Rest ls = xs ls in law.sets new is.first_word is.names_are (rest.free pod region.Between law.nothing (count + 1) room free_between clean)
c_line l ls pod class.BadModule count room is fits none ih clean = absurd cc
c_line l ls pod class.Outside count room is fits none ih clean = absurd (false≢true (sym fits.no_c))
c_line l ls pod class.Keyword count room is fits none ih clean = absurd (false≢true (sym fits.no_c))
c_line l ls pod class.BadValue count room is fits none ih clean = absurd cc
c_line l ls pod (class.LeftOut word) count room is fits none ih clean = absurd cc
c_line l ls pod (class.MapBegin end) count room is fits none ih clean = absurd (false≢true (sym fits.no_c))
c_line l ls pod class.MapLine count room is fits none ih clean = absurd (false≢true fits)
c_line l ls pod class.MapEnd count room is fits none ih clean = absurd (false≢true fits)
c_line l ls pod class.First count room is fits none ih clean = absurd (false≢true (sym fits.no_c))
c_line l ls pod class.FirstOfBoot count room is fits none ih clean = absurd (false≢true (sym fits.no_c))
c_line l ls pod class.Further count room is fits none ih clean = absurd (false≢true (sym fits.no_c))
c_line l ls pod class.Blank count room is fits none ih clean = absurd (false≢true (sym fits.no_c))

from_c : (ls : List Line) (pod : Bool) (count : ℕ) (room : ℕ) → Clean room (tags_from pod region.CPart ls)
    → XsPart count law.nothing (bare (tags_from pod region.CPart ls)) (held_of count (tags_from pod region.CPart ls))
unfolding tags_from parts_of
from_c [] pod count room clean = law.done
from_c (l ∷ ls) pod count room clean =
    let c : LineClass = class_of pod region.CPart l.text in
    let t : Tag = tag_of pod region.CPart l in
    let m : Means region.CPart l.text c = class_of_means pod region.CPart l.text in
    let fit : Can region.CPart (l ∷ []) c = class_of_fits pod region.CPart (l ∷ []) (λ e. tt) l.text in
    let st : CleanStep room t (tags_from (pod_after pod c) (region_after region.CPart c) ls) =
    clean_step room t (tags_from (pod_after pod c) (region_after region.CPart c) ls) clean in
    let P : Region → Type 0 = λ at. Clean (room_after t.starts room) (tags_from (pod_after pod c) at ls) in
    c_line l ls (pod_after pod c) c count (room_after t.starts room) m.is_of fit.fits st.line
    (λ e. from_c ls (pod_after pod c) count (room_after t.starts room) (subst P e st.rest)) st.rest

pub xs_part : (ls : List Line) (room : ℕ) → Clean room (tags_of ls) → XsPart 0 law.nothing (bare (tags_of ls)) (held_of 0 (tags_of ls))
xs_part ls room clean = from_c ls false 0 room clean

-- ---- the room for paragraphs

none_where : (b : Bool) (f : Fault) → (if b then f ∷ [] else []) ≡ [] → b ≡ false
none_where true f e = absurd cc
none_where false f e = refl

no_room : (room : ℕ) (t : Tag) (ts : List Tag) → line_faults room (t ∷ ts) ≡ [] → (t.starts && room == 0) ≡ false
unfolding line_faults
no_room room t ts e =
    let a = no_faults (room_fault t.line.number t.starts room ++ line_fault t.line.number t.class) (line_faults (room_after t.starts room) ts) e in
    let b = no_faults (room_fault t.line.number t.starts room) (line_fault t.line.number t.class) a.0 in none_where (t.starts && room == 0) _ b.0

-- Where no paragraph is too many there are no more than there is room for.
pub few_heads : (ts : List Tag) (room : ℕ) → line_faults room ts ≡ [] → length (heads_of ts) ≤ room
unfolding line_faults
few_heads [] room e = omega arith
few_heads (t ∷ ts) room e = by_start t.starts (no_room room t ts e) (few_heads ts (room_after t.starts room) (own_fault room t ts e).1)
  where
    by_start : (b : Bool) → (b && room == 0) ≡ false → length (heads_of ts) ≤ room_after b room
        → length (if b then t.line ∷ heads_of ts else heads_of ts) ≤ room
    by_start true left more =
        let least : 0 < room = grind (arith, nat_tests, left) in omega (arith, more, least)
    by_start false left more = more
