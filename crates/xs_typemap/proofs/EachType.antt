-- The text of each type has parts.
use Rattle.std.proofs.Common.{◌≡◌, ℕ, zero, suc, ◌≤◌, ◌==◌, ◌||◌, Bool, true, false, if◌then◌else◌, List, [], ◌∷◌, ◌++◌, length, refl, sym, ap, subst, ◌∙◌, arith}
use Rattle.std.proofs.lemmas.Bool.{and_from, eqb-true}
use Rattle.std.proofs.lemmas.List.{append-nil}
use Rattle.std.specs.List.{list_all}
use Rattle.xs_base.specs.ByteRuns.{after_blanks}
use Rattle.xs_base.specs.Readers.{head_is}
use Rattle.xs_base.specs.Scanning.{is_blank, is_blank_line}
use Rattle.xs_typemap.specs.TypemapLaws.{HasParts, none, word, stars, is_letter, is_star_or_blank, without_blanks}

abbrev pub Parted : List ℕ → Type 0
Parted text = (parts : List (List ℕ)) × HasParts text parts

-- ---- the longest run in front of which all bytes pass a test

record Run (p : ℕ → Bool) (text : List ℕ) : Type 0 where
  run : List ℕ
  after : List ℕ
  stands : run ++ after ≡ text
  all : list_all p run ≡ true
  stop : head_is p after ≡ false
  short : length after ≤ length text

run_of : (p : ℕ → Bool) (text : List ℕ) → Run p text
run_of p [] = record { run = []; after = []; stands = refl; all = refl; stop = refl; short = omega arith }
run_of p (b ∷ bs) = by (p b) refl (run_of p bs)
  where
    by : (t : Bool) → p b ≡ t → Run p bs → Run p (b ∷ bs)
    by true e r =
        let s = r.short in
        record {
          run = b ∷ r.run;
          after = r.after;
          stands = ap (λ (l : List ℕ). b ∷ l) r.stands;
          all = and_from (p b) (list_all p r.run) e r.all;
          stop = r.stop;
          short = omega arith;
        }
    by false e r = record { run = []; after = b ∷ bs; stands = refl; all = refl; stop = e; short = omega arith }

-- ---- what stands after a run of stars and blanks

no_star : (text : List ℕ) → head_is is_star_or_blank text ≡ false → head_is (λ b. b == 42) (after_blanks text) ≡ false
no_star [] h = refl
no_star (b ∷ bs) h = by (is_blank b) (b == 42) refl refl h
  where
    by : (p q : Bool) → is_blank b ≡ p → b == 42 ≡ q → (p || q) ≡ false
        → head_is (λ c. c == 42) (if p then after_blanks bs else b ∷ bs) ≡ false
    by true q e f g = absurd cc
    by false true e f g = absurd cc
    by false false e f g = f

letter : (b : ℕ) → is_blank b ≡ false → b == 42 ≡ false → is_letter b ≡ true
letter b e f = rw (e, f) refl

-- ---- all parts

Shorter : ℕ → Type 0
Shorter k = (text : List ℕ) → length text ≤ k → Parted text

with_word : (k : ℕ) (blanks : List ℕ) (b : ℕ) (bs : List ℕ) → is_blank_line blanks ≡ true → is_letter b ≡ true → length bs ≤ k → Shorter k
    → Parted (blanks ++ b ∷ bs)
unfolding Shorter
with_word k blanks b bs h l short more =
    let r = run_of is_letter bs in
    let s = r.short in
    let rest = more r.after (omega arith) in
    subst (λ (t : List ℕ). Parted (blanks ++ b ∷ t)) r.stands
    ((b ∷ r.run) ∷ rest.0, word blanks b r.run h (and_from (is_letter b) (list_all is_letter r.run) l r.all) r.stop rest.1)

with_stars : (k : ℕ) (blanks bs : List ℕ) → is_blank_line blanks ≡ true → length bs ≤ k → Shorter k → Parted (blanks ++ 42 ∷ bs)
unfolding Shorter
with_stars k blanks bs h short more =
    let r = run_of is_star_or_blank bs in
    let s = r.short in
    let rest = more r.after (omega arith) in
    subst (λ (t : List ℕ). Parted (blanks ++ 42 ∷ t)) r.stands
    ((42 ∷ without_blanks r.run) ∷ rest.0, stars blanks r.run h r.all (no_star r.after r.stop) rest.1)

at_part : (k : ℕ) (blanks : List ℕ) (b : ℕ) (bs : List ℕ) → is_blank_line blanks ≡ true → is_blank b ≡ false → length bs ≤ k → Shorter k
    → Parted (blanks ++ b ∷ bs)
at_part k blanks b bs h e short more = by (b == 42) refl
  where
    by : (t : Bool) → b == 42 ≡ t → Parted (blanks ++ b ∷ bs)
    by true f = subst (λ (c : ℕ). Parted (blanks ++ c ∷ bs)) (sym (eqb-true b 42 f)) (with_stars k blanks bs h short more)
    by false f = with_word k blanks b bs h (letter b e f) short more

at_text : (k : ℕ) (text : List ℕ) → length text ≤ suc k → Shorter k → Parted text
at_text k text short more = by (run_of is_blank text)
  where
    split : (blanks after : List ℕ) → blanks ++ after ≡ text → is_blank_line blanks ≡ true → head_is is_blank after ≡ false
        → length after ≤ length text → Parted text
    split blanks [] e h stop s = ([], none text (ap is_blank_line (sym e ∙ append-nil blanks) ∙ h))
    split blanks (b ∷ bs) e h stop s = subst Parted e (at_part k blanks b bs h stop (omega arith) more)

    by : Run is_blank text → Parted text
    by r = split r.run r.after r.stands r.all r.stop r.short

within : (k : ℕ) (text : List ℕ) → length text ≤ k → Parted text
unfolding Shorter
within zero [] short = ([], none [] refl)
within zero (b ∷ bs) short = absurd (omega arith)
within (suc k) text short = at_text k text short (λ t s. within k t s)

pub each_type : (text : List ℕ) → Parted text
each_type text = within (length text) text (omega arith)
