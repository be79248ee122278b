-- The lines of the C part, and those at which the parts begin, are lines of the file.
use Rattle.std.proofs.Common.{◌≡◌, ℕ, Bool, true, false, if◌then◌else◌, List, [], ◌∷◌, ◌++◌, inl, inr, refl, sym, subst}
use Rattle.std.specs.List.{AllByRecursion}
use Rattle.xs_base.specs.declared.source.Line.{Line}
use Rattle.xs_base.specs.ByteRuns.{is_remark}
use Rattle.xs_sections.specs.LineForms.{is_module_line}
use Rattle.xs_sections.specs.Laws.{Before, Contents, IsLineOf, IsSplit, StandsIn, WithoutPod, XsPart, before_module, from_module, without_comments}
use Rattle.xs_sections.specs.Laws as law
use Rattle.xs_sections.specs.declared.sections.Part.{Part}
use Rattle.xs_sections.specs.declared.sections.Sections.{Sections}

in_right : (xs ys : List Line) (n : ℕ) → IsLineOf ys n → IsLineOf (xs ++ ys) n
in_right [] ys n h = h
in_right (x ∷ xs) ys n h = inr (in_right xs ys n h)

pod_stands : {ls rest : List Line} → WithoutPod ls rest → (n : ℕ) → IsLineOf rest n → IsLineOf ls n
pod_stands law.done n h = h
pod_stands (law.keeps e w) n (inl is) = inl is
pod_stands (law.keeps e w) n (inr h) = inr (pod_stands w n h)
pod_stands (law.skips inner last {lines = lines} b i p w) n h = inr (in_right inner (last ∷ lines) n (inr (pod_stands w n h)))

from_stands : (ls : List Line) (n : ℕ) → IsLineOf (from_module ls) n → IsLineOf ls n
from_stands [] n h = h
from_stands (l ∷ ls) n h = by_module (is_module_line l.text) h (λ g. from_stands ls n g)
  where
    by_module : (b : Bool) → IsLineOf (if b then l ∷ ls else from_module ls) n → (IsLineOf (from_module ls) n → IsLineOf ls n)
        → IsLineOf (l ∷ ls) n
    by_module true g ih = g
    by_module false g ih = inr (ih g)

comments_stand : (ls : List Line) (n : ℕ) → IsLineOf (without_comments ls) n → IsLineOf ls n
comments_stand [] n h = h
comments_stand (l ∷ ls) n h = by_comment (is_remark l.text) h (λ g. comments_stand ls n g)
  where
    by_comment : (b : Bool) → IsLineOf (if b then without_comments ls else l ∷ without_comments ls) n
        → (IsLineOf (without_comments ls) n → IsLineOf ls n) → IsLineOf (l ∷ ls) n
    by_comment true g ih = inr (ih g)
    by_comment false (inl is) ih = inl is
    by_comment false (inr g) ih = inr (ih g)

-- the lines in front of the first MODULE line, among all
c_part_stands : (ls all : List Line) → ((n : ℕ) → IsLineOf ls n → IsLineOf all n) → AllByRecursion (λ (l : Line). IsLineOf all l.number) (before_module ls)
c_part_stands [] all among = tt
c_part_stands (l ∷ ls) all among = by_module (is_module_line l.text) (c_part_stands ls all (λ n h. among n (inr h)))
  where
    by_module : (b : Bool) → AllByRecursion (λ (l : Line). IsLineOf all l.number) (before_module ls)
        → AllByRecursion (λ (l : Line). IsLineOf all l.number) (if b then [] else l ∷ before_module ls)
    by_module true ih = tt
    by_module false ih = (among l.number (inl refl), ih)

parts_stand : {count : ℕ} {before : Before} {ls : List Line} {held : Contents} → XsPart count before ls held → (all : List Line)
    → ((n : ℕ) → IsLineOf ls n → IsLineOf all n) → AllByRecursion (λ (p : Part). IsLineOf all p.line) held.parts
parts_stand law.done all among = tt
parts_stand (law.gap e r) all among = parts_stand r all (λ n h. among n (inr h))
parts_stand (law.sets new e m r) all among = parts_stand r all (λ n h. among n (inr h))
parts_stand (law.keyword h r) all among = parts_stand r all (λ n h. among n (inr h))
parts_stand (law.block end {first = first} inner last {lines = lines} h a e r) all among =
    (among first.number (inl refl), parts_stand r all (λ n h. among n (inr (in_right inner (last ∷ lines) n (inr h)))))
parts_stand (law.paragraph {first = first} further lines h p e r) all among =
    (among first.number (inl refl), parts_stand r all (λ n h. among n (inr (in_right further lines n h))))

pub stands_in : (lines : List Line) (s : Sections) → IsSplit lines s → StandsIn lines s
stands_in lines s split =
    let P : List Line → Type 0 = λ c. AllByRecursion (λ (l : Line). IsLineOf lines l.number) c in
    record {
      c_part = subst P (sym split.c_part) (c_part_stands split.rest lines (λ n h. pod_stands split.without_pod n h));
      parts = parts_stand split.xs_part lines
          (λ n h. pod_stands split.without_pod n (from_stands split.rest n (comments_stand (from_module split.rest) n h)));
    }
