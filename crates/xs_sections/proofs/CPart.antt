-- The C part is what stands before the first MODULE line, POD aside.
use Rattle.std.proofs.Common.{◌≡◌, ℕ, Bool, true, false, if◌then◌else◌, List, [], ◌∷◌, ◌++◌, All, refl, ap, sym, subst, ◌∙◌, append_assoc}
use Rattle.std.proofs.lemmas.Bool.{false≢true}
use Rattle.std.proofs.lemmas.List.Elements.{All-nil, All-cons, All-append}
use Rattle.xs_base.specs.declared.fault.Fault.{Fault}
use Rattle.xs_base.specs.declared.fault_codes.TheConstants.{OPEN_POD}
use Rattle.xs_base.specs.declared.source.Line.{Line}
use Rattle.xs_sections.specs.LineForms.{begins_pod, ends_pod}
use Rattle.xs_sections.specs.Classes.{Tag, class_of, class_at, starts_paragraph, region_after, pod_after, tag_of, tags_from, tags_of}
use Rattle.xs_sections.specs.Cut.{lines_in, c_lines}
use Rattle.xs_sections.specs.SectionFaults.{is_pod_begin, is_pod_end, line_fault, line_faults, pod_fault, room_after, room_fault, some_line, unless_after}
use Rattle.xs_sections.specs.Laws.{IsOf, WithoutPod, is_no_pod, before_module}
use Rattle.xs_sections.specs.Laws as law
use Rattle.xs_sections.specs.Steps.{is_c_part}
use Rattle.xs_sections.specs.declared.class.LineClass.{LineClass}
use Rattle.xs_sections.specs.declared.class.LineClass.TheVariants as class
use Rattle.xs_sections.specs.declared.class.Region.{Region}
use Rattle.xs_sections.specs.declared.class.Region.TheVariants as region
use Rattle.xs_sections.proofs.ClassesFit.{Fits, Can, c_part_fits, class_of_fits}
use Rattle.xs_sections.proofs.RegionFacts.{tag, gap_c, no_c_after, no_c_blank}
use Rattle.xs_sections.proofs.ClassesMean.{Means, MeansOutside, StandsAt, class_of_means, class_at_means}

abbrev pub kept : List Tag → List Line
kept ts = lines_in is_no_pod ts

-- ---- the C part, against the lines that are no POD

no_c_step : (c : LineClass) (l : Line) (starts : Bool) (at : Region) (ts : List Tag) → StandsAt at l.text c → Fits at (l ∷ []) c → is_c_part at ≡ false
    → (is_c_part (region_after at c) ≡ false → c_lines ts ≡ []) → c_lines (tag c l starts ∷ ts) ≡ []
no_c_step class.PodBegin l starts at ts stands fits gone ih = ih gone
no_c_step class.PodLine l starts at ts stands fits gone ih = ih gone
no_c_step class.PodEnd l starts at ts stands fits gone ih = ih gone
no_c_step class.C l starts at ts stands fits gone ih = absurd (false≢true (sym gone ∙ stands))
no_c_step class.Comment l starts at ts stands fits gone ih = ih gone
no_c_step class.Directive l starts at ts stands fits gone ih = ih gone
no_c_step (class.Module names) l starts at ts stands fits gone ih = ih refl
no_c_step class.BadModule l starts at ts stands fits gone ih = ih refl
no_c_step class.Outside l starts at ts stands fits gone ih = ih (gap_c at ∙ gone)
no_c_step class.Keyword l starts at ts stands fits gone ih = ih refl
no_c_step class.BadValue l starts at ts stands fits gone ih = ih refl
no_c_step (class.LeftOut word) l starts at ts stands fits gone ih = ih refl
no_c_step (class.MapBegin end) l starts at ts stands fits gone ih = ih refl
no_c_step class.MapLine l starts at ts stands fits gone ih = ih gone
no_c_step class.MapEnd l starts at ts stands fits gone ih = ih refl
no_c_step class.First l starts at ts stands fits gone ih = ih refl
no_c_step class.FirstOfBoot l starts at ts stands fits gone ih = ih refl
no_c_step class.Further l starts at ts stands fits gone ih = ih (no_c_after at)
no_c_step class.Blank l starts at ts stands fits gone ih = ih (no_c_blank at)

no_c : (ls : List Line) (pod : Bool) (at : Region) → is_c_part at ≡ false → c_lines (tags_from pod at ls) ≡ []
unfolding tags_from
no_c [] pod at gone = refl
no_c (l ∷ ls) pod at gone =
    let c : LineClass = class_of pod at l.text in
    let m : Means at l.text c = class_of_means pod at l.text in
    let f : Can at (l ∷ []) c = class_of_fits pod at (l ∷ []) (λ e. tt) l.text in
    let t : Tag = tag_of pod at l in
    no_c_step c l t.starts at (tags_from (pod_after pod c) (region_after at c) ls) m.stands f.fits gone (λ n. no_c ls (pod_after pod c) (region_after at c) n)

c_step : (c : LineClass) (l : Line) (starts : Bool) (ts : List Tag) → IsOf l.text c → Fits region.CPart (l ∷ []) c
    → (region_after region.CPart c ≡ region.CPart → c_lines ts ≡ before_module (kept ts)) → (is_c_part (region_after region.CPart c) ≡ false → c_lines ts ≡ [])
    → c_lines (tag c l starts ∷ ts) ≡ before_module (kept (tag c l starts ∷ ts))
c_step class.PodBegin l starts ts is fits ih none = ih refl
c_step class.PodLine l starts ts is fits ih none = ih refl
c_step class.PodEnd l starts ts is fits ih none = ih refl
c_step class.C l starts ts is fits ih none = rw is.1 (ap (λ (ls : List Line). l ∷ ls) (ih refl))
c_step (class.Module names) l starts ts is fits ih none = rw is.first_word (none refl)
c_step class.BadModule l starts ts is fits ih none = rw is.first_word (none refl)
c_step c l starts ts is fits ih none = absurd (false≢true (c_part_fits c (l ∷ []) fits))

pub c_part_is : (ls : List Line) (pod : Bool) → c_lines (tags_from pod region.CPart ls) ≡ before_module (kept (tags_from pod region.CPart ls))
unfolding tags_from
c_part_is [] pod = refl
c_part_is (l ∷ ls) pod =
    let c : LineClass = class_of pod region.CPart l.text in
    let m : Means region.CPart l.text c = class_of_means pod region.CPart l.text in
    let f : Can region.CPart (l ∷ []) c = class_of_fits pod region.CPart (l ∷ []) (λ e. tt) l.text in
    let t : Tag = tag_of pod region.CPart l in
    let P : Region → Type 0 = λ at. c_lines (tags_from (pod_after pod c) at ls) ≡ before_module (kept (tags_from (pod_after pod c) at ls)) in
    c_step c l t.starts (tags_from (pod_after pod c) (region_after region.CPart c) ls) m.is_of f.fits
    (λ e. subst P (sym e) (c_part_is ls (pod_after pod c)))
    (λ n. no_c ls (pod_after pod c) (region_after region.CPart c) n)

-- ---- POD

pub no_faults : (xs ys : List Fault) → xs ++ ys ≡ [] → (xs ≡ []) × (ys ≡ [])
no_faults [] ys e = (refl, e)
no_faults (x ∷ xs) ys e = absurd cc

-- a line by itself has no fault, and neither have those after it
pub own_fault : (room : ℕ) (t : Tag) (ts : List Tag) → line_faults room (t ∷ ts) ≡ []
    → (line_fault t.line.number t.class ≡ []) × (line_faults (room_after t.starts room) ts ≡ [])
unfolding line_faults
own_fault room t ts e =
    let a = no_faults (room_fault t.line.number t.starts room ++ line_fault t.line.number t.class) (line_faults (room_after t.starts room) ts) e in
    let b = no_faults (room_fault t.line.number t.starts room) (line_fault t.line.number t.class) a.0 in (b.1, a.1)

pub no_fault_after : (b : Bool) (f : Fault) → (if b then [] else f ∷ []) ≡ [] → b ≡ true
no_fault_after true f e = refl
no_fault_after false f e = absurd cc

abbrev IsInner : Line → Type 0
IsInner l = ends_pod l.text ≡ false

-- A class of a line that is no POD leaves the POD as it is.
outside_pod : (c : LineClass) → is_no_pod c ≡ true → (is_pod_begin c ≡ false) × (pod_after false c ≡ false)
outside_pod class.PodBegin e = absurd (false≢true e)
outside_pod class.PodLine e = absurd (false≢true e)
outside_pod class.PodEnd e = absurd (false≢true e)
outside_pod _ e = (refl, refl)

abbrev Kept : Region → List Line → Type 0
Kept at ls = pod_fault (tags_from false at ls) ≡ [] → WithoutPod ls (kept (tags_from false at ls))

-- after the first line of POD and further ones
abbrev Skipped : Region → List Line → Type 0
Skipped at ls =
    (first : Line) (inner : List Line) → begins_pod first.text ≡ true → All IsInner inner
    → some_line is_pod_end (tags_from true at ls) ≡ true → pod_fault (tags_from true at ls) ≡ []
    → WithoutPod (first ∷ inner ++ ls) (kept (tags_from true at ls))

abbrev tags_as : Bool → Region → LineClass → Bool → Line → List Line → List Tag
tags_as pod at c starts l ls = tag c l starts ∷ tags_from (pod_after pod c) (region_after at c) ls

-- a line that is no POD
keeps_line : (c : LineClass) (starts : Bool) (at : Region) (l : Line) (ls : List Line) → is_no_pod c ≡ true → begins_pod l.text ≡ false
    → Kept (region_after at c) ls
    → pod_fault (tags_as false at c starts l ls) ≡ [] → WithoutPod (l ∷ ls) (kept (tags_as false at c starts l ls))
keeps_line c starts at l ls no_pod no_begin ih e =
    let o = outside_pod c no_pod in
    let none : pod_fault (tags_from false (region_after at c) ls) ≡ [] = rw (o.0) at e in
    rw (no_pod, o.1) (law.keeps no_begin (ih none))

pods : (ls : List Line) (at : Region) → Kept at ls × Skipped at ls
unfolding tags_from
pods [] at = ((λ e. law.done), λ first inner b i some e. absurd (false≢true some))
pods (l ∷ ls) at = (by_begin (λ to. pods ls to) (begins_pod l.text) refl, by_end (λ to. pods ls to) (ends_pod l.text) refl)
  where
    by_begin : ((to : Region) → Kept to ls × Skipped to ls) → (b : Bool) → begins_pod l.text ≡ b
        → pod_fault (tags_as false at (if b then class.PodBegin else class_at at l.text)
        (starts_paragraph at (if b then class.PodBegin else class_at at l.text) l.text) l ls) ≡ []
        → WithoutPod (l ∷ ls)
        (kept (tags_as false at (if b then class.PodBegin else class_at at l.text)
        (starts_paragraph at (if b then class.PodBegin else class_at at l.text) l.text) l ls))
    by_begin ih true b e =
        let n = no_faults (unless_after is_pod_end l.number OPEN_POD (tags_from true at ls)) (pod_fault (tags_from true at ls)) e in
        let some : some_line is_pod_end (tags_from true at ls) ≡ true = no_fault_after (some_line is_pod_end (tags_from true at ls)) _ n.0 in
        (ih at).1 l [] b (All-nil IsInner) some n.1
    by_begin ih false b e =
        let m : MeansOutside at l.text (class_at at l.text) = class_at_means at l.text b in
        keeps_line (class_at at l.text) (starts_paragraph at (class_at at l.text) l.text) at l ls m.no_pod b (ih (region_after at (class_at at l.text))).0 e

    by_end : ((to : Region) → Kept to ls × Skipped to ls) → (b : Bool) → ends_pod l.text ≡ b → (first : Line) (inner : List Line) → begins_pod first.text ≡ true
        → All IsInner inner
        → some_line is_pod_end
        (tags_as true at (if b then class.PodEnd else class.PodLine) (starts_paragraph at (if b then class.PodEnd else class.PodLine) l.text) l ls) ≡ true
        → pod_fault (tags_as true at (if b then class.PodEnd else class.PodLine) (starts_paragraph at (if b then class.PodEnd else class.PodLine) l.text) l ls)
        ≡ []
        → WithoutPod (first ∷ inner ++ l ∷ ls)
        (kept (tags_as true at (if b then class.PodEnd else class.PodLine) (starts_paragraph at (if b then class.PodEnd else class.PodLine) l.text) l ls))
    by_end ih true b first inner begins i some e = law.skips inner l begins i b ((ih at).0 e)
    by_end ih false b first inner begins i some e =
        let more : All IsInner (inner ++ l ∷ []) = All-append IsInner inner (l ∷ []) i (All-cons IsInner l [] b (All-nil IsInner)) in
        let P : List Line → Type 0 = λ all. WithoutPod (first ∷ all) (kept (tags_from true at ls)) in
        subst P (append_assoc inner (l ∷ []) ls) ((ih at).1 first (inner ++ l ∷ []) begins more some e)

pub without_pod : (ls : List Line) → pod_fault (tags_of ls) ≡ [] → WithoutPod ls (kept (tags_of ls))
without_pod ls e = (pods ls region.CPart).0 e
