-- What is clear after a list is blanks and comments.
use Rattle.std.proofs.Common.{◌≡◌, ℕ, Bool, true, false, ◌&&◌, ◌||◌, ◌==◌, fold, List, [], ◌∷◌, ◌++◌, refl, ap, sym, ◌∙◌, subst, append_assoc, append-nil}
use Rattle.std.proofs.lemmas.Bool.{eqb-true}
use Rattle.std.specs.Prelude.{if◌then◌else◌}
use Rattle.xs_base.specs.Readers.{head_is}
use Rattle.xs_base.specs.Scanning.{is_blank}
use Rattle.xs_ctok.specs.TokenSpelling as sp
use Rattle.xs_ctok.specs.TokenSpelling.{IsGap, has_close}
use Rattle.xs_params.specs.DefaultTexts.{after_star, is_clear, is_over, passed_by}
use Rattle.xs_params.specs.Laws as law
use Rattle.xs_params.specs.Laws.{ClearLaw, IsClear}
use Rattle.xs_params.specs.declared.source_text.Passed.{Passed}
use Rattle.xs_params.specs.declared.source_text.Passed.TheVariants as passed

or_none : (x y : Bool) → (x || y) ≡ false → (x ≡ false) × (y ≡ false)
or_none true y h = absurd cc
or_none false y h = (refl, h)

-- ---- what is spelled so is clear

blank_passed : (b : ℕ) (bs : List ℕ) → is_blank b ≡ true → fold passed_by passed.Blanks (b ∷ bs) ≡ fold passed_by passed.Blanks bs
blank_passed b bs e = ap (λ p. fold passed_by p bs) (rw e refl)

mutual
  inside_done : (text more : List ℕ) → has_close (text ++ 42 ∷ []) ≡ false → fold passed_by passed.Comment (text ++ 42 ∷ 47 ∷ more)
      ≡ fold passed_by passed.Blanks more
  inside_done [] more h = refl
  inside_done (b ∷ text) more h =
      by (b == 42) refl (star_done text more)
      (inside_done text more (or_none (b == 42 && head_is (λ c. c == 47) (text ++ 42 ∷ [])) (has_close (text ++ 42 ∷ [])) h).1)
    where
      by : (t : Bool) → (b == 42) ≡ t
          → (has_close (42 ∷ (text ++ 42 ∷ [])) ≡ false → fold passed_by passed.Star (text ++ 42 ∷ 47 ∷ more) ≡ fold passed_by passed.Blanks more)
          → fold passed_by passed.Comment (text ++ 42 ∷ 47 ∷ more) ≡ fold passed_by passed.Blanks more
          → fold passed_by (if t then passed.Star else passed.Comment) (text ++ 42 ∷ 47 ∷ more) ≡ fold passed_by passed.Blanks more
      by true e star inside = star (subst (λ k. has_close (k ∷ (text ++ 42 ∷ [])) ≡ false) (eqb-true b 42 e) h)
      by false e star inside = inside

  star_done : (text more : List ℕ) → has_close (42 ∷ (text ++ 42 ∷ [])) ≡ false → fold passed_by passed.Star (text ++ 42 ∷ 47 ∷ more)
      ≡ fold passed_by passed.Blanks more
  star_done [] more h = refl
  star_done (b ∷ text) more h =
      let p = or_none (b == 47) (has_close (b ∷ (text ++ 42 ∷ []))) h in
      by p.0 p.1 (b == 42) refl (star_done text more)
      (inside_done text more (or_none (b == 42 && head_is (λ c. c == 47) (text ++ 42 ∷ [])) (has_close (text ++ 42 ∷ [])) p.1).1)
    where
      by : (b == 47) ≡ false → has_close (b ∷ (text ++ 42 ∷ [])) ≡ false → (t : Bool) → (b == 42) ≡ t
          → (has_close (42 ∷ (text ++ 42 ∷ [])) ≡ false → fold passed_by passed.Star (text ++ 42 ∷ 47 ∷ more) ≡ fold passed_by passed.Blanks more)
          → fold passed_by passed.Comment (text ++ 42 ∷ 47 ∷ more) ≡ fold passed_by passed.Blanks more
          → fold passed_by (after_star b) (text ++ 42 ∷ 47 ∷ more) ≡ fold passed_by passed.Blanks more
      by close opens true e star inside = rw (close, e) (star (subst (λ k. has_close (k ∷ (text ++ 42 ∷ [])) ≡ false) (eqb-true b 42 e) opens))
      by close opens false e star inside = rw (close, e) inside

gap_done : {g : List ℕ} → IsGap g → (more : List ℕ) → fold passed_by passed.Blanks (g ++ more) ≡ fold passed_by passed.Blanks more
gap_done sp.nothing more = refl
gap_done (sp.blank {b = b} {rest = rest} e x) more = blank_passed b (rest ++ more) e ∙ gap_done x more
gap_done (sp.comment text {rest = rest} c x) more =
    ap (fold passed_by passed.Comment) (append_assoc text (42 ∷ 47 ∷ rest) more) ∙ (inside_done text (rest ++ more) c ∙ gap_done x more)

line_passed : (text : List ℕ) → fold passed_by passed.LineComment text ≡ passed.LineComment
line_passed [] = refl
line_passed (b ∷ bs) = line_passed bs

clear_done : (text : List ℕ) → IsClear text → is_clear text ≡ true
clear_done text (law.gap_alone x) = ap is_over (ap (fold passed_by passed.Blanks) (sym (append-nil text)) ∙ gap_done x [])
clear_done _ (law.line_comment g more x) = ap is_over (gap_done x (47 ∷ 47 ∷ more) ∙ line_passed more)

-- ---- what is clear is spelled so

-- a comment that ends, and what is clear after it
data Ended (text : List ℕ) : Type 0 where
  closes : (t rest : List ℕ) → text ≡ t ++ 42 ∷ 47 ∷ rest → has_close (t ++ 42 ∷ []) ≡ false → IsClear rest → Ended text

abbrev WalkAt : Passed → List ℕ → Type 0
WalkAt passed.Blanks text = IsClear text
WalkAt passed.Slash text = IsClear (47 ∷ text)
WalkAt passed.Comment text = Ended text
WalkAt passed.Star text = Ended (42 ∷ text)
WalkAt passed.LineComment text = Unit {0}
WalkAt passed.Other text = ⊥

head_same : (p : ℕ → Bool) (t a b : List ℕ) (x : ℕ) → head_is p (t ++ x ∷ a) ≡ head_is p (t ++ x ∷ b)
head_same p [] a b x = refl
head_same p (c ∷ t) a b x = refl

clear_blank : (b : ℕ) (bs : List ℕ) → is_blank b ≡ true → IsClear bs → IsClear (b ∷ bs)
clear_blank b bs e (law.gap_alone x) = law.gap_alone (sp.blank e x)
clear_blank b _ e (law.line_comment g more x) = law.line_comment (b ∷ g) more (sp.blank e x)

clear_comment : (bs : List ℕ) → Ended bs → IsClear (47 ∷ 42 ∷ bs)
clear_comment bs (closes t rest e c clear) = subst (λ k. IsClear (47 ∷ 42 ∷ k)) (sym e) (by rest clear)
  where
    by : (rest : List ℕ) → IsClear rest → IsClear (47 ∷ 42 ∷ (t ++ 42 ∷ 47 ∷ rest))
    by rest (law.gap_alone x) = law.gap_alone (sp.comment t c x)
    by _ (law.line_comment g more x) =
        subst (λ k. IsClear (47 ∷ 42 ∷ k)) (append_assoc t (42 ∷ 47 ∷ g) (47 ∷ 47 ∷ more))
        (law.line_comment (47 ∷ 42 ∷ (t ++ 42 ∷ 47 ∷ g)) more (sp.comment t c x))

ended_more : (b : ℕ) (bs : List ℕ) → (b == 42) ≡ false → Ended bs → Ended (b ∷ bs)
ended_more b bs e (closes t rest h c x) = closes (b ∷ t) rest (ap (λ (k : List ℕ). b ∷ k) h) (rw (e, c) refl) x

ended_star : (bs : List ℕ) → Ended (42 ∷ bs) → Ended (42 ∷ 42 ∷ bs)
ended_star bs (closes t rest h c x) =
    let at : head_is (λ k. k == 47) (t ++ 42 ∷ []) ≡ false = head_same (λ k. k == 47) t [] (47 ∷ rest) 42 ∙ ap (head_is (λ k. k == 47)) (sym h) in
    closes (42 ∷ t) rest (ap (λ (k : List ℕ). 42 ∷ k) h) (rw (at, c) refl) x

ended_after : (b : ℕ) (bs : List ℕ) → (b == 47) ≡ false → (b == 42) ≡ false → Ended bs → Ended (42 ∷ b ∷ bs)
ended_after b bs f e (closes t rest h c x) = closes (42 ∷ b ∷ t) rest (ap (λ (k : List ℕ). 42 ∷ b ∷ k) h) (rw (f, e, c) refl) x

from_blanks : (b : ℕ) (bs : List ℕ) (x y : Bool) → is_blank b ≡ x → (b == 47) ≡ y
    → WalkAt (if x then passed.Blanks else if y then passed.Slash else passed.Other) bs → IsClear (b ∷ bs)
from_blanks b bs true y e f clear = clear_blank b bs e clear
from_blanks b bs false true e f clear = subst (λ k. IsClear (k ∷ bs)) (sym (eqb-true b 47 f)) clear
from_blanks b bs false false e f never = absurd never

from_slash : (b : ℕ) (bs : List ℕ) (x y : Bool) → (b == 47) ≡ x → (b == 42) ≡ y
    → WalkAt (if x then passed.LineComment else if y then passed.Comment else passed.Other) bs → IsClear (47 ∷ b ∷ bs)
from_slash b bs true y e f any = subst (λ k. IsClear (47 ∷ k ∷ bs)) (sym (eqb-true b 47 e)) (law.line_comment [] bs sp.nothing)
from_slash b bs false true e f comment = subst (λ k. IsClear (47 ∷ k ∷ bs)) (sym (eqb-true b 42 f)) (clear_comment bs comment)
from_slash b bs false false e f never = absurd never

from_comment : (b : ℕ) (bs : List ℕ) (x : Bool) → (b == 42) ≡ x → WalkAt (if x then passed.Star else passed.Comment) bs → Ended (b ∷ bs)
from_comment b bs true e star = subst (λ k. Ended (k ∷ bs)) (sym (eqb-true b 42 e)) star
from_comment b bs false e comment = ended_more b bs e comment

from_star : (b : ℕ) (bs : List ℕ) (x y : Bool) → (b == 47) ≡ x → (b == 42) ≡ y
    → WalkAt (if x then passed.Blanks else if y then passed.Star else passed.Comment) bs → Ended (42 ∷ b ∷ bs)
from_star b bs true y e f clear = closes [] bs (ap (λ (k : ℕ). 42 ∷ k ∷ bs) (eqb-true b 47 e)) refl clear
from_star b bs false true e f star = subst (λ k. Ended (42 ∷ k ∷ bs)) (sym (eqb-true b 42 f)) (ended_star bs star)
from_star b bs false false e f comment = ended_after b bs e f comment

onward : (p : Passed) (b : ℕ) (bs : List ℕ) → WalkAt (passed_by p b) bs → WalkAt p (b ∷ bs)
onward passed.Blanks b bs h = from_blanks b bs (is_blank b) (b == 47) refl refl h
onward passed.Slash b bs h = from_slash b bs (b == 47) (b == 42) refl refl h
onward passed.Comment b bs h = from_comment b bs (b == 42) refl h
onward passed.Star b bs h = from_star b bs (b == 47) (b == 42) refl refl h
onward passed.LineComment b bs h = tt
onward passed.Other b bs h = h

walk : (text : List ℕ) (p : Passed) → is_over (fold passed_by p text) ≡ true → WalkAt p text
walk [] passed.Blanks e = law.gap_alone sp.nothing
walk [] passed.Slash e = absurd cc
walk [] passed.Comment e = absurd cc
walk [] passed.Star e = absurd cc
walk [] passed.LineComment e = tt
walk [] passed.Other e = absurd cc
walk (b ∷ bs) p e = onward p b bs (walk bs (passed_by p b) e)

pub clear_law : ClearLaw
clear_law = record { sound = λ text e. walk text passed.Blanks e; complete = clear_done }
