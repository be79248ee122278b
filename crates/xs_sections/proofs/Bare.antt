-- The lines of the XS part that are no comments, from the first MODULE line on.
use Rattle.std.proofs.Common.{◌≡◌, ℕ, Bool, true, false, ◌==◌, List, [], ◌∷◌, refl, ap, sym, subst, ◌∙◌, arith}
use Rattle.std.specs.List.{list_all}
use Rattle.std.specs.Prelude.{codes, if◌then◌else◌, is_some, None, option_and_then, Some}
use Rattle.std.specs.Str.{bytes_eq}
use Rattle.std.proofs.lemmas.Bool.{and_parts, false≢true, or_left}
use Rattle.std.proofs.lemmas.Bool.Decides.{nat_tests}
use Rattle.std.proofs.lemmas.Slice.Eq.{bytes_eq-Decides}
use Rattle.xs_base.proofs.WordBytes.{not_this, word_not_blank}
use Rattle.xs_base.specs.declared.source.Line.{Line}
use Rattle.xs_base.specs.Scanning.{strip_prefix, starts_with, begins_word, is_ascii_digit, is_identifier, is_word_byte}
use Rattle.xs_base.specs.ByteRuns.{after_blanks, front_of, is_remark}
use Rattle.xs_base.specs.declared.byte_runs.ByteClass.TheVariants.{Word}
use Rattle.xs_sections.specs.declared.words.TheConstants.{MODULE}
use Rattle.xs_sections.specs.LineForms.{is_module_line}
use Rattle.xs_sections.specs.Classes.{Tag, class_of, region_after, pod_after, gap_after, further_after, blank_after, tag_of, tags_from, tags_of}
use Rattle.xs_sections.specs.Laws.{IsOf, from_module, without_comments}
use Rattle.xs_sections.specs.Steps.{is_c_part}
use Rattle.xs_sections.specs.declared.class.LineClass.{LineClass}
use Rattle.xs_sections.specs.declared.class.LineClass.TheVariants as class
use Rattle.xs_sections.specs.declared.class.Region.{Region}
use Rattle.xs_sections.specs.declared.class.Region.TheVariants as region
use Rattle.xs_sections.proofs.CPart.{kept}
use Rattle.xs_sections.proofs.ClassesFit.{Fits, Can, c_part_fits, class_of_fits}
use Rattle.xs_sections.proofs.RegionFacts.{tag, gap_c}
use Rattle.xs_sections.proofs.ClassesMean.{Means, StandsAt, IsEnd, class_of_means, end_identifier}
use Rattle.xs_sections.proofs.XsParts.{bare}

-- ---- what is no comment

-- a line whose first word is MODULE
module_no_comment : (text : List ℕ) → is_module_line text ≡ true → is_remark text ≡ false
module_no_comment text h = by_text (after_blanks text) h
  where
    by_byte : (c : Bool) (b : ℕ) (bs : List ℕ) → (b == 35) ≡ c → bytes_eq (front_of Word (b ∷ bs)) MODULE.now ≡ true
        → is_some (option_and_then (strip_prefix []) (if c then Some bs else None)) ≡ false
    by_byte true b bs e m =
        let at : is_word_byte b ≡ false = grind (arith, nat_tests) in
        let none : bytes_eq (front_of Word (b ∷ bs)) MODULE.now ≡ false = rw at refl in absurd (false≢true (sym none ∙ m))
    by_byte false b bs e m = refl

    by_text : (rest : List ℕ) → bytes_eq (front_of Word rest) MODULE.now ≡ true → starts_with (codes "#") rest ≡ false
    by_text [] m = refl
    by_text (b ∷ bs) m = by_byte (b == 35) b bs refl m

-- an identifier
word_no_comment : (b : ℕ) (bs : List ℕ) → begins_word b ≡ true → is_remark (b ∷ bs) ≡ false
word_no_comment b bs h =
    rw (word_not_blank b (or_left (begins_word b) (is_ascii_digit b) h), not_this begins_word 35 refl b h) refl

identifier_no_comment : (text : List ℕ) → is_identifier text ≡ true → is_remark text ≡ false
identifier_no_comment [] h = refl
identifier_no_comment (b ∷ bs) h = word_no_comment b bs (and_parts (begins_word b) (list_all is_word_byte bs) h).0

-- the end word of the block that stands open is an identifier
abbrev HasWord : Region → Type 0
HasWord (region.Map end) = is_identifier end ≡ true
HasWord _ = Unit {0}

end_no_comment : (at : Region) (text : List ℕ) → HasWord at → IsEnd at text true → is_remark text ≡ false
end_no_comment (region.Map end) text w e =
    let same : text ≡ end = (bytes_eq-Decides text end).0 e in rw same (identifier_no_comment end w)
end_no_comment _ text w e = absurd e

-- a region of the XS part
record InXs (at : Region) : Type 0 where
  no_c : is_c_part at ≡ false
  word : HasWord at

gap_word : (at : Region) → HasWord at → HasWord (gap_after at)
gap_word region.Head w = tt
gap_word _ w = w

gap_xs : (at : Region) → InXs at → InXs (gap_after at)
gap_xs at x = record { no_c = gap_c at ∙ x.no_c; word = gap_word at x.word }

further_xs : (at : Region) → InXs (further_after at)
further_xs region.Boot = record { no_c = refl; word = tt }
further_xs _ = record { no_c = refl; word = tt }

blank_xs : (at : Region) → InXs (blank_after at)
blank_xs region.Boot = record { no_c = refl; word = tt }
blank_xs _ = record { no_c = refl; word = tt }

-- ---- the lines of the XS part

abbrev Same : List Tag → Type 0
Same ts = bare ts ≡ without_comments (kept ts)

takes : (l : Line) (ts : List Tag) → is_remark l.text ≡ false → Same ts → l ∷ bare ts ≡ without_comments (l ∷ kept ts)
takes l ts e ih = rw e (ap (λ (ls : List Line). l ∷ ls) ih)

bare_step : (c : LineClass) (l : Line) (starts : Bool) (at : Region) (ts : List Tag) → IsOf l.text c → StandsAt at l.text c → InXs at
    → (InXs (region_after at c) → Same ts) → Same (tag c l starts ∷ ts)
bare_step class.PodBegin l starts at ts is s x ih = ih x
bare_step class.PodLine l starts at ts is s x ih = ih x
bare_step class.PodEnd l starts at ts is s x ih = ih x
bare_step class.C l starts at ts is s x ih = absurd (false≢true (sym x.no_c ∙ s))
bare_step class.Comment l starts at ts is s x ih = rw is.comment (ih x)
bare_step class.Directive l starts at ts is s x ih = rw is.comment (ih x)
bare_step (class.Module new) l starts at ts is s x ih = takes l ts (module_no_comment l.text is.first_word) (ih (record { no_c = refl; word = tt }))
bare_step class.BadModule l starts at ts is s x ih = takes l ts (module_no_comment l.text is.first_word) (ih (record { no_c = refl; word = tt }))
bare_step class.Outside l starts at ts is s x ih = takes l ts is.plain.no_comment (ih (gap_xs at x))
bare_step class.Keyword l starts at ts is s x ih = takes l ts is.line.plain.no_comment (ih (record { no_c = refl; word = tt }))
bare_step class.BadValue l starts at ts is s x ih = takes l ts is.line.plain.no_comment (ih (record { no_c = refl; word = tt }))
bare_step (class.LeftOut word) l starts at ts is s x ih = takes l ts is.line.plain.no_comment (ih (record { no_c = refl; word = tt }))
bare_step (class.MapBegin end) l starts at ts is s x ih =
    takes l ts is.line.plain.no_comment (ih (record { no_c = refl; word = end_identifier l.text end is.reads }))
bare_step class.MapLine l starts at ts is s x ih = takes l ts is.no_comment (ih x)
bare_step class.MapEnd l starts at ts is s x ih = takes l ts (end_no_comment at l.text x.word s) (ih (record { no_c = refl; word = tt }))
bare_step class.First l starts at ts is s x ih = takes l ts is.line.plain.no_comment (ih (record { no_c = refl; word = tt }))
bare_step class.FirstOfBoot l starts at ts is s x ih = takes l ts is.line.plain.no_comment (ih (record { no_c = refl; word = tt }))
bare_step class.Further l starts at ts is s x ih = takes l ts is.plain.no_comment (ih (further_xs at))
bare_step class.Blank l starts at ts is s x ih = takes l ts is.plain.no_comment (ih (blank_xs at))

bare_xs : (ls : List Line) (pod : Bool) (at : Region) → InXs at → Same (tags_from pod at ls)
unfolding tags_from
bare_xs [] pod at x = refl
bare_xs (l ∷ ls) pod at x =
    let c : LineClass = class_of pod at l.text in
    let m : Means at l.text c = class_of_means pod at l.text in
    let t : Tag = tag_of pod at l in
    bare_step c l t.starts at (tags_from (pod_after pod c) (region_after at c) ls) m.is_of m.stands x
    (λ y. bare_xs ls (pod_after pod c) (region_after at c) y)

-- ---- from the C part on

abbrev FromModule : List Tag → Type 0
FromModule ts = bare ts ≡ without_comments (from_module (kept ts))

from_step : (c : LineClass) (l : Line) (starts : Bool) (ts : List Tag) → IsOf l.text c → Fits region.CPart (l ∷ []) c
    → (region_after region.CPart c ≡ region.CPart → FromModule ts) → (InXs (region_after region.CPart c) → Same ts) → FromModule (tag c l starts ∷ ts)
from_step class.PodBegin l starts ts is fits ih xs = ih refl
from_step class.PodLine l starts ts is fits ih xs = ih refl
from_step class.PodEnd l starts ts is fits ih xs = ih refl
from_step class.C l starts ts is fits ih xs = rw is.1 (ih refl)
from_step (class.Module names) l starts ts is fits ih xs =
    rw is.first_word (takes l ts (module_no_comment l.text is.first_word) (xs (record { no_c = refl; word = tt })))
from_step class.BadModule l starts ts is fits ih xs =
    rw is.first_word (takes l ts (module_no_comment l.text is.first_word) (xs (record { no_c = refl; word = tt })))
from_step c l starts ts is fits ih xs = absurd (false≢true (c_part_fits c (l ∷ []) fits))

from_c : (ls : List Line) (pod : Bool) → FromModule (tags_from pod region.CPart ls)
unfolding tags_from
from_c [] pod = refl
from_c (l ∷ ls) pod =
    let c : LineClass = class_of pod region.CPart l.text in
    let m : Means region.CPart l.text c = class_of_means pod region.CPart l.text in
    let f : Can region.CPart (l ∷ []) c = class_of_fits pod region.CPart (l ∷ []) (λ e. tt) l.text in
    let t : Tag = tag_of pod region.CPart l in
    let P : Region → Type 0 = λ at. FromModule (tags_from (pod_after pod c) at ls) in
    from_step c l t.starts (tags_from (pod_after pod c) (region_after region.CPart c) ls) m.is_of f.fits
    (λ e. subst P (sym e) (from_c ls (pod_after pod c)))
    (λ y. bare_xs ls (pod_after pod c) (region_after region.CPart c) y)

pub bare_is : (ls : List Line) → bare (tags_of ls) ≡ without_comments (from_module (kept (tags_of ls)))
bare_is ls = from_c ls false
