-- The sections hold each line of the file once.
use Rattle.std.proofs.Common.{◌&&◌, ◌≡◌, ℕ, Bool, true, false, not, cond, if◌then◌else◌, List, [], ◌∷◌, ◌++◌, map, All, refl, ap, sym, subst, ◌∙◌}
use Rattle.std.specs.List.{flat_map}
use Rattle.std.proofs.lemmas.Bool.{cond_both, false≢true}
use Rattle.std.proofs.lemmas.List.Elements.{All-nil, All-cons, All-append}
use Rattle.std.specs.Prelude.{codes}
use Rattle.xs_base.specs.declared.source.Line.{Line}
use Rattle.xs_base.specs.Scanning.{starts_with, is_blank, is_blank_line}
use Rattle.xs_sections.specs.declared.words.TheConstants.{BOOT}
use Rattle.xs_sections.specs.LineForms.{is_flush_left}
use Rattle.xs_sections.specs.Classes.{Tag, class_of, is_in_text, opens_paragraph, region_after, pod_after, gap_after, further_after, blank_after, tag_of, tags_from, tags_of}
use Rattle.xs_sections.specs.Cut.{paragraph_lines, map_lines, lines_in, count_after, paragraph_of, map_of, part_at, parts_of}
use Rattle.xs_sections.specs.Laws.{IsOf, IsPlainLine, IsHeadLine, body_lines, is_in_part, HoldsTogether, EndsAtGap, IsParagraph, IsMapLine, IsBody, IsPart}
use Rattle.xs_sections.specs.Steps.{is_map}
use Rattle.xs_sections.specs.declared.class.LineClass.{LineClass}
use Rattle.xs_sections.specs.declared.class.LineClass.TheVariants as class
use Rattle.xs_sections.specs.declared.sections.ModuleNames.{ModuleNames}
use Rattle.xs_sections.specs.declared.class.Region.{Region}
use Rattle.xs_sections.specs.declared.class.Region.TheVariants as region
use Rattle.xs_sections.specs.declared.sections.Part.{Part}
use Rattle.xs_sections.proofs.RegionFacts.{same_cond, tag}
use Rattle.xs_sections.proofs.ClassesFit.{Fits, Can, class_of_fits}
use Rattle.xs_sections.proofs.ClassesMean.{Means, StandsAt, class_of_means, first_no_boot}

-- ---- each line has its class

pub each_line : (ls : List Line) (pod : Bool) (at : Region) → map (λ (t : Tag). t.line) (tags_from pod at ls) ≡ ls
unfolding tags_from
each_line [] pod at = refl
each_line (l ∷ ls) pod at =
    ap (λ (rest : List Line). l ∷ rest) (each_line ls (pod_after pod (class_of pod at l.text)) (region_after at (class_of pod at l.text)))

pub each_read : (ls : List Line) (pod : Bool) (at : Region) → All (λ (t : Tag). IsOf t.line.text t.class) (tags_from pod at ls)
unfolding tags_from
each_read [] pod at = All-nil (λ (t : Tag). IsOf t.line.text t.class)
each_read (l ∷ ls) pod at =
    let m : Means at l.text (class_of pod at l.text) = class_of_means pod at l.text in
    All-cons (λ (t : Tag). IsOf t.line.text t.class) (tag_of pod at l) _ m.is_of
    (each_read ls (pod_after pod (class_of pod at l.text)) (region_after at (class_of pod at l.text)))

-- ---- no paragraph goes on where none stands open

stop_step : (c : LineClass) (l : Line) (starts : Bool) (at : Region) (ts : List Tag) → StandsAt at l.text c → is_in_text at ≡ false
    → (is_in_text (region_after at c) ≡ false → paragraph_lines ts ≡ []) → paragraph_lines (tag c l starts ∷ ts) ≡ []
stop_step class.PodBegin l starts at ts stands none ih = ih none
stop_step class.PodLine l starts at ts stands none ih = ih none
stop_step class.PodEnd l starts at ts stands none ih = ih none
stop_step class.C l starts at ts stands none ih = ih none
stop_step class.Comment l starts at ts stands none ih = ih none
stop_step class.Directive l starts at ts stands none ih = ih none
stop_step class.Further l starts at ts stands none ih = absurd (false≢true (sym none ∙ stands.in_text))
stop_step class.Blank l starts at ts stands none ih = absurd (false≢true (sym none ∙ stands))
stop_step _ l starts at ts stands none ih = refl

pub stops : (ls : List Line) (pod : Bool) (at : Region) → is_in_text at ≡ false → paragraph_lines (tags_from pod at ls) ≡ []
unfolding tags_from
stops [] pod at none = refl
stops (l ∷ ls) pod at none =
    let m : Means at l.text (class_of pod at l.text) = class_of_means pod at l.text in
    let t : Tag = tag_of pod at l in
    stop_step (class_of pod at l.text) l t.starts at (tags_from (pod_after pod (class_of pod at l.text)) (region_after at (class_of pod at l.text)) ls) m.stands
    none
    (λ n. stops ls (pod_after pod (class_of pod at l.text)) (region_after at (class_of pod at l.text)) n)

-- ---- the parts hold each line of paragraphs and typemap blocks

abbrev lines_of_parts : ℕ → List Tag → List Line
lines_of_parts count ts = flat_map (λ (p : Part). body_lines p.body) (parts_of count ts)

-- the lines that go on with what stands open
abbrev open_lines : Region → List Tag → List Line
open_lines at ts = if is_map at then map_lines ts else (if is_in_text at then paragraph_lines ts else [])

none_open : (a b : Bool) → cond a [] (cond b [] []) ≡ (let none : List Line = [] in none)
none_open a b = ap (λ (rest : List Line). cond a [] rest) (same_cond b []) ∙ same_cond a []

gap_open : (at : Region) (ts : List Tag) → is_map at ≡ false → is_in_text at ≡ false → open_lines (gap_after at) ts ≡ []
gap_open region.Head ts a b = refl
gap_open region.CPart ts a b = refl
gap_open region.Between ts a b = refl
gap_open region.HeadGap ts a b = refl
gap_open region.Body ts a b = absurd (false≢true (sym b))
gap_open region.BodyGap ts a b = absurd (false≢true (sym b))
gap_open region.Boot ts a b = absurd (false≢true (sym b))
gap_open (region.Map end) ts a b = absurd (false≢true (sym a))

further_open : (at : Region) (ts : List Tag) → open_lines (further_after at) ts ≡ paragraph_lines ts
further_open region.Boot ts = refl
further_open _ ts = refl

blank_open : (at : Region) (ts : List Tag) → (is_in_text (blank_after at) ≡ false → paragraph_lines ts ≡ [])
    → open_lines (blank_after at) ts ≡ paragraph_lines ts
blank_open region.Boot ts none = sym (none refl)
blank_open _ ts none = refl

-- an equation whose right side has nothing in front
part_step : (c : LineClass) (l : Line) (starts : Bool) (at : Region) (count : ℕ) (ts : List Tag)
    → Fits at (l ∷ []) c → StandsAt at l.text c → (is_in_text (region_after at c) ≡ false → paragraph_lines ts ≡ [])
    → lines_in is_in_part ts ≡ open_lines (region_after at c) ts ++ lines_of_parts (count_after count c) ts
    → lines_in is_in_part (tag c l starts ∷ ts) ≡ open_lines at (tag c l starts ∷ ts) ++ lines_of_parts count (tag c l starts ∷ ts)
unfolding parts_of
part_step class.PodBegin l starts at count ts fits stands none ih = ih
part_step class.PodLine l starts at count ts fits stands none ih = ih
part_step class.PodEnd l starts at count ts fits stands none ih = ih
part_step class.C l starts at count ts fits stands none ih = ih
part_step class.Comment l starts at count ts fits stands none ih = ih
part_step class.Directive l starts at count ts fits stands none ih = ih
part_step (class.Module new) l starts at count ts fits stands none ih = rw (none_open (is_map at) (is_in_text at)) ih
part_step class.BadModule l starts at count ts fits stands none ih = rw (none_open (is_map at) (is_in_text at)) ih
part_step class.Outside l starts at count ts fits stands none ih =
    rw (none_open (is_map at) (is_in_text at)) (ih ∙ rw (gap_open at ts fits.no_map fits.no_text) refl)
part_step class.Keyword l starts at count ts fits stands none ih = rw (none_open (is_map at) (is_in_text at)) ih
part_step class.BadValue l starts at count ts fits stands none ih = rw (none_open (is_map at) (is_in_text at)) ih
part_step (class.LeftOut word) l starts at count ts fits stands none ih = rw (none_open (is_map at) (is_in_text at)) ih
part_step (class.MapBegin end) l starts at count ts fits stands none ih = rw (none_open (is_map at) (is_in_text at)) ih
part_step class.MapLine l starts at count ts fits stands none ih =
    rw fits (ap (λ (ls : List Line). l ∷ ls) (ih ∙ rw fits refl))
part_step class.MapEnd l starts at count ts fits stands none ih = rw (none_open (is_map at) (is_in_text at)) ih
part_step class.First l starts at count ts fits stands none ih =
    rw (none_open (is_map at) (is_in_text at)) (ap (λ (ls : List Line). l ∷ ls) ih)
part_step class.FirstOfBoot l starts at count ts fits stands none ih =
    rw (none_open (is_map at) (is_in_text at)) (ap (λ (ls : List Line). l ∷ ls) ih)
part_step class.Further l starts at count ts fits stands none ih =
    rw (fits.no_map, stands.in_text) (ap (λ (ls : List Line). l ∷ ls) (ih ∙ ap (λ (ls : List Line). ls ++ lines_of_parts count ts) (further_open at ts)))
part_step class.Blank l starts at count ts fits stands none ih =
    rw (fits.no_map, stands) (ap (λ (ls : List Line). l ∷ ls) (ih ∙ ap (λ (ls : List Line). ls ++ lines_of_parts count ts) (blank_open at ts none)))

parts_from : (ls : List Line) (pod : Bool) (at : Region) (count : ℕ)
    → lines_in is_in_part (tags_from pod at ls) ≡ open_lines at (tags_from pod at ls) ++ lines_of_parts count (tags_from pod at ls)
unfolding tags_from parts_of
parts_from [] pod at count = rw (none_open (is_map at) (is_in_text at)) refl
parts_from (l ∷ ls) pod at count =
    let c : LineClass = class_of pod at l.text in
    let m : Means at l.text c = class_of_means pod at l.text in
    let f : Can at (l ∷ []) c = class_of_fits pod at (l ∷ []) (λ e. tt) l.text in
    let t : Tag = tag_of pod at l in
    part_step c l t.starts at count (tags_from (pod_after pod c) (region_after at c) ls) f.fits m.stands
    (λ n. stops ls (pod_after pod c) (region_after at c) n)
    (parts_from ls (pod_after pod c) (region_after at c) (count_after count c))

pub parts_hold : (ls : List Line) (count : ℕ) → lines_of_parts count (tags_of ls) ≡ lines_in is_in_part (tags_of ls)
parts_hold ls count = sym (parts_from ls false region.CPart count)

-- ---- what parts are

-- what goes on after a line of a paragraph
record GoesOnWell (last : Line) (ls : List Line) : Type 0 where
  plain : All IsPlainLine ls
  together : HoldsTogether last ls

nothing : (last : Line) (ls : List Line) → ls ≡ [] → GoesOnWell last ls
nothing last [] e = record { plain = All-nil IsPlainLine; together = tt }
nothing last (l ∷ ls) e = absurd cc

-- The last line of a paragraph may be empty after a gap alone.
abbrev Follows : Region → Line → Type 0
Follows region.BodyGap last = Unit {0}
Follows _ last = is_blank_line last.text ≡ false

empty_not_flush : (bytes : List ℕ) → is_blank_line bytes ≡ true → is_flush_left bytes ≡ false
empty_not_flush [] e = refl
empty_not_flush (b ∷ bs) e = by_blank (is_blank b) refl e
  where
    by_blank : (c : Bool) → is_blank b ≡ c → (c && is_blank_line bs) ≡ true → not (is_blank b) ≡ false
    by_blank true f e = rw f refl
    by_blank false f e = absurd (false≢true e)

follows_further : (at : Region) (l : Line) → is_blank_line l.text ≡ false → Follows (further_after at) l
follows_further region.Boot l e = e
follows_further _ l e = e

follows_blank : (at : Region) (l : Line) → is_in_text (blank_after at) ≡ true → Follows (blank_after at) l
follows_blank region.Boot l e = absurd (false≢true e)
follows_blank _ l e = tt

no_break : (at : Region) (last next : Line) → Follows at last → opens_paragraph at next.text ≡ false → is_blank_line last.text ≡ true
    → is_flush_left next.text ≡ false
no_break region.BodyGap last next f o e = o
no_break region.CPart last next f o e = absurd (false≢true (sym f ∙ e))
no_break region.Between last next f o e = absurd (false≢true (sym f ∙ e))
no_break region.Head last next f o e = absurd (false≢true (sym f ∙ e))
no_break region.HeadGap last next f o e = absurd (false≢true (sym f ∙ e))
no_break region.Body last next f o e = absurd (false≢true (sym f ∙ e))
no_break region.Boot last next f o e = absurd (false≢true (sym f ∙ e))
no_break (region.Map end) last next f o e = absurd (false≢true (sym f ∙ e))

well_step : (c : LineClass) (l last : Line) (starts : Bool) (at : Region) (ts : List Tag)
    → IsOf l.text c → StandsAt at l.text c → is_in_text at ≡ true → Follows at last
    → ((next : Line) → is_in_text (region_after at c) ≡ true → Follows (region_after at c) next → GoesOnWell next (paragraph_lines ts))
    → (is_in_text (region_after at c) ≡ false → paragraph_lines ts ≡ [])
    → GoesOnWell last (paragraph_lines (tag c l starts ∷ ts))
well_step class.PodBegin l last starts at ts is stands inside follows ih none = ih last inside follows
well_step class.PodLine l last starts at ts is stands inside follows ih none = ih last inside follows
well_step class.PodEnd l last starts at ts is stands inside follows ih none = ih last inside follows
well_step class.C l last starts at ts is stands inside follows ih none = ih last inside follows
well_step class.Comment l last starts at ts is stands inside follows ih none = ih last inside follows
well_step class.Directive l last starts at ts is stands inside follows ih none = ih last inside follows
well_step class.Further l last starts at ts is stands inside follows ih none =
    let more : GoesOnWell l (paragraph_lines ts) =
    cond_both (is_in_text (further_after at)) true false (λ u. GoesOnWell l (paragraph_lines ts)) (λ e. ih l e (follows_further at l is.empty_is))
    (λ e. nothing l _ (none e)) in
    record {
      plain = All-cons IsPlainLine l _ is.plain more.plain;
      together = (no_break at last l follows stands.no_end, more.together);
    }
well_step class.Blank l last starts at ts is stands inside follows ih none =
    let more : GoesOnWell l (paragraph_lines ts) =
    cond_both (is_in_text (blank_after at)) true false (λ u. GoesOnWell l (paragraph_lines ts)) (λ e. ih l e (follows_blank at l e))
    (λ e. nothing l _ (none e)) in
    record {
      plain = All-cons IsPlainLine l _ is.plain more.plain;
      together = ((λ e. empty_not_flush l.text is.empty_is), more.together);
    }
well_step _ l last starts at ts is stands inside follows ih none = nothing last _ refl

goes_well : (ls : List Line) (pod : Bool) (at : Region) (last : Line) → is_in_text at ≡ true → Follows at last
    → GoesOnWell last (paragraph_lines (tags_from pod at ls))
unfolding tags_from
goes_well [] pod at last inside follows = nothing last [] refl
goes_well (l ∷ ls) pod at last inside follows =
    let c : LineClass = class_of pod at l.text in
    let m : Means at l.text c = class_of_means pod at l.text in
    let t : Tag = tag_of pod at l in
    well_step c l last t.starts at (tags_from (pod_after pod c) (region_after at c) ls) m.is_of m.stands inside follows
    (λ next e f. goes_well ls (pod_after pod c) (region_after at c) next e f)
    (λ n. stops ls (pod_after pod c) (region_after at c) n)

-- a BOOT paragraph ends at its first empty line
none_ends : (ls : List Line) → ls ≡ [] → EndsAtGap ls
none_ends [] e = tt
none_ends (l ∷ ls) e = absurd cc

boot_step : (c : LineClass) (l : Line) (starts : Bool) (ts : List Tag)
    → IsOf l.text c → (region_after region.Boot c ≡ region.Boot → EndsAtGap (paragraph_lines ts))
    → (is_in_text (region_after region.Boot c) ≡ false → paragraph_lines ts ≡ [])
    → EndsAtGap (paragraph_lines (tag c l starts ∷ ts))
boot_step class.PodBegin l starts ts is ih none = ih refl
boot_step class.PodLine l starts ts is ih none = ih refl
boot_step class.PodEnd l starts ts is ih none = ih refl
boot_step class.C l starts ts is ih none = ih refl
boot_step class.Comment l starts ts is ih none = ih refl
boot_step class.Directive l starts ts is ih none = ih refl
boot_step class.Further l starts ts is ih none = ((λ e. absurd (false≢true (sym is.empty_is ∙ e))), ih refl)
boot_step class.Blank l starts ts is ih none = ((λ e. none refl), none_ends _ (none refl))
boot_step _ l starts ts is ih none = tt

boots : (ls : List Line) (pod : Bool) → EndsAtGap (paragraph_lines (tags_from pod region.Boot ls))
unfolding tags_from
boots [] pod = tt
boots (l ∷ ls) pod =
    let c : LineClass = class_of pod region.Boot l.text in
    let m : Means region.Boot l.text c = class_of_means pod region.Boot l.text in
    let t : Tag = tag_of pod region.Boot l in
    let P : Region → Type 0 = λ at. EndsAtGap (paragraph_lines (tags_from (pod_after pod c) at ls)) in
    boot_step c l t.starts (tags_from (pod_after pod c) (region_after region.Boot c) ls) m.is_of
    (λ e. subst P (sym e) (boots ls (pod_after pod c)))
    (λ n. stops ls (pod_after pod c) (region_after region.Boot c) n)

-- a typemap block
map_step : (c : LineClass) (l : Line) (starts : Bool) (ts : List Tag) → IsOf l.text c → All IsMapLine (map_lines ts)
    → All IsMapLine (map_lines (tag c l starts ∷ ts))
map_step class.PodBegin l starts ts is ih = ih
map_step class.PodLine l starts ts is ih = ih
map_step class.PodEnd l starts ts is ih = ih
map_step class.C l starts ts is ih = ih
map_step class.Comment l starts ts is ih = ih
map_step class.Directive l starts ts is ih = ih
map_step class.MapLine l starts ts is ih = All-cons IsMapLine l _ is ih
map_step _ l starts ts is ih = All-nil IsMapLine

maps : (ls : List Line) (pod : Bool) (at : Region) → All IsMapLine (map_lines (tags_from pod at ls))
unfolding tags_from
maps [] pod at = All-nil IsMapLine
maps (l ∷ ls) pod at =
    let c : LineClass = class_of pod at l.text in
    let m : Means at l.text c = class_of_means pod at l.text in
    let t : Tag = tag_of pod at l in
    map_step c l t.starts (tags_from (pod_after pod c) (region_after at c) ls) m.is_of (maps ls (pod_after pod c) (region_after at c))

one_part : (p : Part) → IsPart p → All IsPart (p ∷ [])
one_part p h = All-cons IsPart p [] h (All-nil IsPart)

-- a paragraph from its first line on, after which a paragraph's text stands open
paragraph_at : (ls : List Line) (pod : Bool) (l : Line) (c : LineClass) (at : Region) → IsHeadLine l.text c → is_in_text at ≡ true → Follows at l
    → (starts_with BOOT.now l.text ≡ true → EndsAtGap (paragraph_lines (tags_from pod at ls))) → IsParagraph l (paragraph_lines (tags_from pod at ls))
paragraph_at ls pod l c at is t follows boot =
    let w : GoesOnWell l (paragraph_lines (tags_from pod at ls)) = goes_well ls pod at l t follows in
    record { some = is.line.empty_is; plain = All-cons IsPlainLine l _ is.line.plain w.plain; together = w.together; boot = boot }

pub first_paragraph : (ls : List Line) (pod : Bool) (l : Line) → IsHeadLine l.text class.First → IsParagraph l (paragraph_lines (tags_from pod region.Body ls))
first_paragraph ls pod l is =
    paragraph_at ls pod l class.First region.Body is refl is.line.empty_is (λ h. absurd (false≢true (sym (first_no_boot l.text is.reads) ∙ h)))

pub boot_paragraph : (ls : List Line) (pod : Bool) (l : Line) → IsHeadLine l.text class.FirstOfBoot
    → IsParagraph l (paragraph_lines (tags_from pod region.Boot ls))
boot_paragraph ls pod l is = paragraph_at ls pod l class.FirstOfBoot region.Boot is refl is.line.empty_is (λ h. boots ls pod)

pub parts_are : (ls : List Line) (pod : Bool) (at : Region) (count : ℕ) → All IsPart (parts_of count (tags_from pod at ls))
unfolding tags_from parts_of
parts_are [] pod at count = All-nil IsPart
parts_are (l ∷ ls) pod at count =
    let c : LineClass = class_of pod at l.text in
    let m : Means at l.text c = class_of_means pod at l.text in
    let more : List Tag = tags_from (pod_after pod c) (region_after at c) ls in
    All-append IsPart (part_at count c l more) (parts_of (count_after count c) more)
    (by_class c refl m.is_of)
    (parts_are ls (pod_after pod c) (region_after at c) (count_after count c))
  where
    here : LineClass → List Tag
    here d = tags_from (pod_after pod (class_of pod at l.text)) (region_after at d) ls

    by_class : (d : LineClass) → class_of pod at l.text ≡ d → IsOf l.text d → All IsPart (part_at count d l (here d))
    by_class class.First e is =
        one_part (paragraph_of count l (paragraph_lines (here class.First)))
        (record { body = first_paragraph ls (pod_after pod (class_of pod at l.text)) l is; line = refl })
    by_class class.FirstOfBoot e is =
        one_part (paragraph_of count l (paragraph_lines (here class.FirstOfBoot)))
        (record { body = boot_paragraph ls (pod_after pod (class_of pod at l.text)) l is; line = refl })
    by_class (class.MapBegin end) e is =
        one_part (map_of count l.number (map_lines (here (class.MapBegin end))))
        (record { body = maps ls (pod_after pod (class_of pod at l.text)) (region.Map end); line = tt })
    by_class _ e is = All-nil IsPart
