-- Blanks and comments on a line, as the rules have them.
use Rattle.std.proofs.Common.{◌≡◌, ℕ, ◌<◌, ◌==◌, ◌&&◌, Bool, true, false, List, [], ◌∷◌, ◌++◌, length, Option, None, Some, refl, ap, sym, ◌∙◌, subst, arith, append_assoc, append-nil}
use Rattle.std.proofs.lemmas.Bool.{and_parts, eqb-true}
use Rattle.std.proofs.lemmas.Bool.Decides.{nat_tests}
use Rattle.std.specs.Prelude.{codes, if◌then◌else◌, is_some}
use Rattle.xs_base.specs.Readers.{head_is}
use Rattle.xs_base.specs.Scanning.{is_ascii_digit, is_blank, starts_with, strip_prefix}
use Rattle.xs_base.proofs.FrontRuns.{word_in_front}
use Rattle.xs_ctok.specs.Directives.{after_gap, ends_line, is_over, on_gap}
use Rattle.xs_ctok.specs.TokenSpelling as sp
use Rattle.xs_ctok.specs.TokenSpelling.{IsGap, IsOver, has_close}
use Rattle.xs_ctok.specs.declared.directives.Gap.{Gap}
use Rattle.xs_ctok.specs.declared.directives.Gap.TheVariants as gap
use Rattle.xs_ctok.proofs.Facts.{or_none}

-- ---- comments that are spelled are passed

mutual
  inside_done : (text more : List ℕ) → has_close (text ++ 42 ∷ []) ≡ false → after_gap gap.Inside (text ++ 42 ∷ 47 ∷ more) ≡ after_gap gap.Between more
  inside_done [] more h = refl
  inside_done (b ∷ text) more h =
      by (b == 42) refl (star_done text more)
      (inside_done text more (or_none (b == 42 && head_is (λ c. c == 47) (text ++ 42 ∷ [])) (has_close (text ++ 42 ∷ [])) h).1)
    where
      by : (t : Bool) → (b == 42) ≡ t
          → (has_close (42 ∷ (text ++ 42 ∷ [])) ≡ false → after_gap gap.Star (text ++ 42 ∷ 47 ∷ more) ≡ after_gap gap.Between more)
          → after_gap gap.Inside (text ++ 42 ∷ 47 ∷ more) ≡ after_gap gap.Between more
          → on_gap (if t then Some gap.Star else Some gap.Inside) (b ∷ (text ++ 42 ∷ 47 ∷ more)) (λ next. after_gap next (text ++ 42 ∷ 47 ∷ more))
          ≡ after_gap gap.Between more
      by true e star inside = star (subst (λ k. has_close (k ∷ (text ++ 42 ∷ [])) ≡ false) (eqb-true b 42 e) h)
      by false e star inside = inside

  star_done : (text more : List ℕ) → has_close (42 ∷ (text ++ 42 ∷ [])) ≡ false → after_gap gap.Star (text ++ 42 ∷ 47 ∷ more) ≡ after_gap gap.Between more
  star_done [] more h = refl
  star_done (b ∷ text) more h =
      let p = or_none (b == 47) (has_close (b ∷ (text ++ 42 ∷ []))) h in
      by p.0 p.1 (b == 42) refl (star_done text more)
      (inside_done text more (or_none (b == 42 && head_is (λ c. c == 47) (text ++ 42 ∷ [])) (has_close (text ++ 42 ∷ [])) p.1).1)
    where
      by : (b == 47) ≡ false → has_close (b ∷ (text ++ 42 ∷ [])) ≡ false → (t : Bool) → (b == 42) ≡ t
          → (has_close (42 ∷ (text ++ 42 ∷ [])) ≡ false → after_gap gap.Star (text ++ 42 ∷ 47 ∷ more) ≡ after_gap gap.Between more)
          → after_gap gap.Inside (text ++ 42 ∷ 47 ∷ more) ≡ after_gap gap.Between more
          → after_gap gap.Star (b ∷ (text ++ 42 ∷ 47 ∷ more)) ≡ after_gap gap.Between more
      by close opens true e star inside = rw (close, e) (star (subst (λ k. has_close (k ∷ (text ++ 42 ∷ [])) ≡ false) (eqb-true b 42 e) opens))
      by close opens false e star inside = rw (close, e) inside

-- what follows blanks and comments
pub gap_done : {g : List ℕ} → IsGap g → (next : List ℕ) → after_gap gap.Between (g ++ next) ≡ after_gap gap.Between next
gap_done sp.nothing next = refl
gap_done (sp.blank {b = b} {rest = rest} e x) next = rw e (gap_done x next)
gap_done (sp.comment text {rest = rest} c x) next =
    ap (after_gap gap.Inside) (append_assoc text (42 ∷ 47 ∷ rest) next) ∙ inside_done text (rest ++ next) c ∙ gap_done x next

mutual
  -- a comment that stays open
  inside_open : (text : List ℕ) → has_close text ≡ false → after_gap gap.Inside text ≡ []
  inside_open [] h = refl
  inside_open (b ∷ text) h =
      by (b == 42) refl (star_open text) (inside_open text (or_none (b == 42 && head_is (λ c. c == 47) text) (has_close text) h).1)
    where
      by : (t : Bool) → (b == 42) ≡ t → (has_close (42 ∷ text) ≡ false → after_gap gap.Star text ≡ []) → after_gap gap.Inside text ≡ []
          → on_gap (if t then Some gap.Star else Some gap.Inside) (b ∷ text) (λ next. after_gap next text) ≡ []
      by true e star inside = star (subst (λ k. has_close (k ∷ text) ≡ false) (eqb-true b 42 e) h)
      by false e star inside = inside

  star_open : (text : List ℕ) → has_close (42 ∷ text) ≡ false → after_gap gap.Star text ≡ []
  star_open [] h = refl
  star_open (b ∷ text) h =
      let p = or_none (b == 47) (has_close (b ∷ text)) h in
      by p.0 p.1 (b == 42) refl (star_open text) (inside_open text (or_none (b == 42 && head_is (λ c. c == 47) text) (has_close text) p.1).1)
    where
      by : (b == 47) ≡ false → has_close (b ∷ text) ≡ false → (t : Bool) → (b == 42) ≡ t
          → (has_close (42 ∷ text) ≡ false → after_gap gap.Star text ≡ []) → after_gap gap.Inside text ≡ [] → after_gap gap.Star (b ∷ text) ≡ []
      by close more true e star inside = rw (close, e) (star (subst (λ k. has_close (k ∷ text) ≡ false) (eqb-true b 42 e) more))
      by close more false e star inside = rw (close, e) inside

pub over_done : {text : List ℕ} → IsOver text → is_over text ≡ true
unfolding is_over
over_done (sp.gap_alone {g = g} x) = ap (λ k. ends_line (after_gap gap.Between k)) (sym (append-nil g)) ∙ ap ends_line (gap_done x [])
over_done (sp.line_comment g more x) = ap ends_line (gap_done x (47 ∷ 47 ∷ more))
over_done (sp.open_comment g text x h) = ap ends_line (gap_done x (47 ∷ 42 ∷ text) ∙ inside_open text h)

digit_stops : (d : ℕ) → is_ascii_digit d ≡ true → (is_blank d ≡ false) × ((d == 47) ≡ false)
digit_stops d h = (grind (arith, nat_tests), grind (arith, nat_tests))

pub digit_is_next : (text : List ℕ) → head_is is_ascii_digit text ≡ true → after_gap gap.Between text ≡ text
digit_is_next [] h = absurd cc
digit_is_next (d ∷ ds) h = let p = digit_stops d h in rw (p.0, p.1) refl

-- ---- what is passed is spelled

-- blanks and comments up to a place, or a comment that stays open
data Passed (text next : List ℕ) : Type 0 where
  reached : (g : List ℕ) → IsGap g → text ≡ g ++ next → Passed text next
  stays : (g t : List ℕ) → IsGap g → text ≡ g ++ 47 ∷ 42 ∷ t → has_close t ≡ false → next ≡ [] → Passed text next

-- the same from a place in a comment
data Ended (text next : List ℕ) : Type 0 where
  closes : (t rest : List ℕ) → text ≡ t ++ 42 ∷ 47 ∷ rest → has_close (t ++ 42 ∷ []) ≡ false → Passed rest next → Ended text next
  never : has_close text ≡ false → next ≡ [] → Ended text next

abbrev WalkAt : Gap → List ℕ → List ℕ → Type 0
WalkAt gap.Between text next = Passed text next
WalkAt gap.Opening [] next = Unit {0}
WalkAt gap.Opening (b ∷ bs) next = Ended bs next
WalkAt gap.Inside text next = Ended text next
WalkAt gap.Star text next = Ended (42 ∷ text) next

head_same : (p : ℕ → Bool) (t a b : List ℕ) (x : ℕ) → head_is p (t ++ x ∷ a) ≡ head_is p (t ++ x ∷ b)
head_same p [] a b x = refl
head_same p (c ∷ t) a b x = refl

passed_blank : (b : ℕ) (bs next : List ℕ) → is_blank b ≡ true → Passed bs next → Passed (b ∷ bs) next
passed_blank b bs next e (reached g x h) = reached (b ∷ g) (sp.blank e x) (ap (λ (k : List ℕ). b ∷ k) h)
passed_blank b bs next e (stays g t x h c z) = stays (b ∷ g) t (sp.blank e x) (ap (λ (k : List ℕ). b ∷ k) h) c z

passed_comment : (bs next : List ℕ) → Ended bs next → Passed (47 ∷ 42 ∷ bs) next
passed_comment bs next (closes t rest e c (reached g x h)) =
    reached (47 ∷ 42 ∷ (t ++ 42 ∷ 47 ∷ g)) (sp.comment t c x)
    (ap (λ (k : List ℕ). 47 ∷ 42 ∷ k) (e ∙ ap (λ (k : List ℕ). t ++ 42 ∷ 47 ∷ k) h ∙ sym (append_assoc t (42 ∷ 47 ∷ g) next)))
passed_comment bs next (closes t rest e c (stays g u x h d z)) =
    stays (47 ∷ 42 ∷ (t ++ 42 ∷ 47 ∷ g)) u (sp.comment t c x)
    (ap (λ (k : List ℕ). 47 ∷ 42 ∷ k) (e ∙ ap (λ (k : List ℕ). t ++ 42 ∷ 47 ∷ k) h ∙ sym (append_assoc t (42 ∷ 47 ∷ g) (47 ∷ 42 ∷ u)))) d z
passed_comment bs next (never c z) = stays [] bs sp.nothing refl c z

ended_more : (b : ℕ) (bs next : List ℕ) → (b == 42) ≡ false → Ended bs next → Ended (b ∷ bs) next
ended_more b bs next e (closes t rest h c x) = closes (b ∷ t) rest (ap (λ (k : List ℕ). b ∷ k) h) (rw (e, c) refl) x
ended_more b bs next e (never c z) = never (rw (e, c) refl) z

ended_star : (bs next : List ℕ) → Ended (42 ∷ bs) next → Ended (42 ∷ 42 ∷ bs) next
ended_star bs next (closes t rest h c x) =
    let at : head_is (λ k. k == 47) (t ++ 42 ∷ []) ≡ false = head_same (λ k. k == 47) t [] (47 ∷ rest) 42 ∙ ap (head_is (λ k. k == 47)) (sym h) in
    closes (42 ∷ t) rest (ap (λ (k : List ℕ). 42 ∷ k) h) (rw (at, c) refl) x
ended_star bs next (never c z) = never c z

ended_after : (b : ℕ) (bs next : List ℕ) → (b == 47) ≡ false → (b == 42) ≡ false → Ended bs next → Ended (42 ∷ b ∷ bs) next
ended_after b bs next f e (closes t rest h c x) = closes (42 ∷ b ∷ t) rest (ap (λ (k : List ℕ). 42 ∷ b ∷ k) h) (rw (f, e, c) refl) x
ended_after b bs next f e (never c z) = never (rw (f, e, c) refl) z

walk : (state : Gap) (text next : List ℕ) → after_gap state text ≡ next → WalkAt state text next
walk gap.Between [] next h = reached [] sp.nothing h
walk gap.Opening [] next h = tt
walk gap.Inside [] next h = never refl (sym h)
walk gap.Star [] next h = never refl (sym h)
walk gap.Between (b ∷ bs) next h = by_blank (walk gap.Between bs next) (walk gap.Opening bs next) (is_blank b) refl h
  where
    by_star : (o : Option (List ℕ)) → strip_prefix (codes "*") bs ≡ o → is_some o ≡ true → b ≡ 47 → WalkAt gap.Opening bs next → Passed (b ∷ bs) next
    by_star None e there slash x = absurd cc
    by_star (Some more) e there slash x =
        let is : bs ≡ 42 ∷ more = word_in_front (codes "*") bs more e in
        let c : Ended more next = subst (λ k. WalkAt gap.Opening k next) is x in
        let whole : b ∷ bs ≡ 47 ∷ 42 ∷ more = ap (λ (k : ℕ). k ∷ bs) slash ∙ ap (λ (k : List ℕ). 47 ∷ k) is in
        subst (λ k. Passed k next) (sym whole) (passed_comment more next c)

    by_slash : (after_gap gap.Opening bs ≡ next → WalkAt gap.Opening bs next) → (t : Bool) → (b == 47 && starts_with (codes "*") bs) ≡ t
        → on_gap (if t then Some gap.Opening else None) (b ∷ bs) (λ n. after_gap n bs) ≡ next → Passed (b ∷ bs) next
    by_slash opened true e h =
        let p = and_parts (b == 47) (starts_with (codes "*") bs) e in
        by_star (strip_prefix (codes "*") bs) refl p.1 (eqb-true b 47 p.0) (opened h)
    by_slash opened false e h = reached [] sp.nothing h

    by_blank : (after_gap gap.Between bs ≡ next → Passed bs next) → (after_gap gap.Opening bs ≡ next → WalkAt gap.Opening bs next)
        → (t : Bool) → is_blank b ≡ t
        → on_gap (if t then Some gap.Between else (if b == 47 && starts_with (codes "*") bs then Some gap.Opening else None)) (b ∷ bs) (λ n. after_gap n bs)
        ≡ next → Passed (b ∷ bs) next
    by_blank again opened true e h = passed_blank b bs next e (again h)
    by_blank again opened false e h = by_slash opened (b == 47 && starts_with (codes "*") bs) refl h
walk gap.Opening (b ∷ bs) next h = walk gap.Inside bs next h
walk gap.Inside (b ∷ bs) next h = by (walk gap.Star bs next) (walk gap.Inside bs next) (b == 42) refl h
  where
    by : (after_gap gap.Star bs ≡ next → Ended (42 ∷ bs) next) → (after_gap gap.Inside bs ≡ next → Ended bs next) → (t : Bool) → (b == 42) ≡ t
        → on_gap (if t then Some gap.Star else Some gap.Inside) (b ∷ bs) (λ n. after_gap n bs) ≡ next → Ended (b ∷ bs) next
    by star inside true e h = subst (λ k. Ended (k ∷ bs) next) (sym (eqb-true b 42 e)) (star h)
    by star inside false e h = ended_more b bs next e (inside h)
walk gap.Star (b ∷ bs) next h = by_close (walk gap.Between bs next) (walk gap.Star bs next) (walk gap.Inside bs next) (b == 47) refl h
  where
    by_star : (after_gap gap.Star bs ≡ next → Ended (42 ∷ bs) next) → (after_gap gap.Inside bs ≡ next → Ended bs next) → (b == 47) ≡ false
        → (t : Bool) → (b == 42) ≡ t → after_gap (if t then gap.Star else gap.Inside) bs ≡ next → Ended (42 ∷ b ∷ bs) next
    by_star star inside f true e h = subst (λ k. Ended (42 ∷ k ∷ bs) next) (sym (eqb-true b 42 e)) (ended_star bs next (star h))
    by_star star inside f false e h = ended_after b bs next f e (inside h)

    by_close : (after_gap gap.Between bs ≡ next → Passed bs next) → (after_gap gap.Star bs ≡ next → Ended (42 ∷ bs) next)
        → (after_gap gap.Inside bs ≡ next → Ended bs next) → (t : Bool) → (b == 47) ≡ t
        → after_gap (if t then gap.Between else (if b == 42 then gap.Star else gap.Inside)) bs ≡ next → Ended (42 ∷ b ∷ bs) next
    by_close again star inside true e h = closes [] bs (ap (λ (k : ℕ). 42 ∷ k ∷ bs) (eqb-true b 47 e)) refl (again h)
    by_close again star inside false e h = by_star star inside e (b == 42) refl h

-- what is passed in front of something is blanks and comments
pub gap_split : (text next : List ℕ) → after_gap gap.Between text ≡ next → 0 < length next → (g : List ℕ) × (text ≡ g ++ next) × IsGap g
gap_split text next h some = by (walk gap.Between text next h)
  where
    by : Passed text next → (g : List ℕ) × (text ≡ g ++ next) × IsGap g
    by (reached g x e) = (g, e, x)
    by (stays g t x e c z) = absurd (omega (arith, some, ap length z))

pub over_sound : (text : List ℕ) → is_over text ≡ true → IsOver text
unfolding is_over
over_sound text h = by (after_gap gap.Between text) (walk gap.Between text (after_gap gap.Between text) refl) h
  where
    by_line : (g : List ℕ) (b : ℕ) (bs : List ℕ) → IsGap g → text ≡ g ++ b ∷ bs → (o : Option (List ℕ)) → strip_prefix (codes "//") (b ∷ bs) ≡ o
        → is_some o ≡ true → IsOver text
    by_line g b bs x e None f there = absurd cc
    by_line g b bs x e (Some more) f there =
        let whole : text ≡ g ++ 47 ∷ 47 ∷ more = e ∙ ap (λ (k : List ℕ). g ++ k) (word_in_front (codes "//") (b ∷ bs) more f) in
        subst IsOver (sym whole) (sp.line_comment g more x)

    by : (next : List ℕ) → Passed text next → ends_line next ≡ true → IsOver text
    by next (stays g t x e c z) h = subst IsOver (sym e) (sp.open_comment g t x c)
    by [] (reached g x e) h = subst IsOver (sym (e ∙ append-nil g)) (sp.gap_alone x)
    by (b ∷ bs) (reached g x e) h = by_line g b bs x e (strip_prefix (codes "//") (b ∷ bs)) refl h
