-- Types are tidied once for all.
use Rattle.std.proofs.Common.{◌≡◌, ℕ, ◌==◌, Bool, true, false, fold, if◌then◌else◌, List, [], ◌∷◌, ◌++◌, refl, sym, ap, ◌∙◌, append_assoc}
use Rattle.std.proofs.lemmas.Bool.{eqb-true}
use Rattle.std.proofs.lemmas.List.{append-nil}
use Rattle.xs_base.specs.Scanning.{is_blank}
use Rattle.xs_typemap.specs.TidiedTypes.{after_blank, before_letter, before_star, tidied, tidy_step}
use Rattle.xs_typemap.specs.TypemapLaws.{without_blanks}
use Rattle.xs_typemap.specs.declared.tidying.Last.{Last}
use Rattle.xs_typemap.specs.declared.tidying.Last.TheVariants.{Nothing, Word, Gap, Stars}

-- what the bytes that are left add
abbrev pub added : Last → List ℕ → List ℕ
added last [] = []
added last (b ∷ bs) = if is_blank b then added (after_blank last) bs
    else (if b == 42 then before_star last ++ b ∷ added Stars bs else before_letter last ++ b ∷ added Word bs)

all_added : (text : List ℕ) (last : Last) (bs : List ℕ) → (fold tidy_step (record { text = text; last = last }) bs).text ≡ text ++ added last bs
all_added text last [] = sym (append-nil text)
all_added text last (b ∷ bs) = by (is_blank b) (b == 42) (all_added text (after_blank last) bs)
    (all_added (text ++ before_star last ++ b ∷ []) Stars bs) (all_added (text ++ before_letter last ++ b ∷ []) Word bs)
  where
    by : (p q : Bool) → (fold tidy_step (record { text = text; last = after_blank last }) bs).text ≡ text ++ added (after_blank last) bs
        → (fold tidy_step (record { text = text ++ before_star last ++ b ∷ []; last = Stars }) bs).text ≡ (text ++ before_star last ++ b ∷ []) ++ added Stars bs
        → (fold tidy_step (record { text = text ++ before_letter last ++ b ∷ []; last = Word }) bs).text
        ≡ (text ++ before_letter last ++ b ∷ []) ++ added Word bs
        → (fold tidy_step (if p then record { text = text; last = after_blank last }
        else (if q then record { text = text ++ before_star last ++ b ∷ []; last = Stars }
        else record { text = text ++ before_letter last ++ b ∷ []; last = Word })) bs).text
        ≡ text ++ (if p then added (after_blank last) bs else (if q then before_star last ++ b ∷ added Stars bs else before_letter last ++ b ∷ added Word bs))
    by true q f g h = f
    by false true f g h = g ∙ simp append_assoc
    by false false f g h = h ∙ simp append_assoc

pub tidied_is : (text : List ℕ) → tidied text ≡ added Nothing text
tidied_is text = all_added [] Nothing text

-- what stands last in what was added
abbrev shown : Last → Last
shown Nothing = Nothing
shown Word = Word
shown Gap = Word
shown Stars = Stars

star_again : (last : Last) (rest : List ℕ) → added (shown last) (before_star last ++ 42 ∷ rest) ≡ before_star last ++ 42 ∷ added Stars rest
star_again Nothing rest = refl
star_again Word rest = refl
star_again Gap rest = refl
star_again Stars rest = refl

letter_again : (last : Last) (b : ℕ) (rest : List ℕ) → is_blank b ≡ false → b == 42 ≡ false
    → added (shown last) (before_letter last ++ b ∷ rest) ≡ before_letter last ++ b ∷ added Word rest
letter_again Nothing b rest e f = rw (e, f) refl
letter_again Word b rest e f = rw (e, f) refl
letter_again Gap b rest e f = rw (e, f) refl
letter_again Stars b rest e f = rw (e, f) refl

after_shown : (last : Last) → shown (after_blank last) ≡ shown last
after_shown Nothing = refl
after_shown Word = refl
after_shown Gap = refl
after_shown Stars = refl

added_again : (last : Last) (bs : List ℕ) → added (shown last) (added last bs) ≡ added last bs
added_again last [] = refl
added_again last (b ∷ bs) = by (is_blank b) (b == 42) refl refl (added_again (after_blank last) bs) (added_again Stars bs) (added_again Word bs)
  where
    starred : b == 42 ≡ true → added Stars (added Stars bs) ≡ added Stars bs
        → added (shown last) (before_star last ++ b ∷ added Stars bs) ≡ before_star last ++ b ∷ added Stars bs
    starred e ih =
        let is : b ≡ 42 = eqb-true b 42 e in
        ap (λ (c : ℕ). added (shown last) (before_star last ++ c ∷ added Stars bs)) is
        ∙ star_again last (added Stars bs)
        ∙ ap (λ (c : ℕ). before_star last ++ c ∷ added Stars (added Stars bs)) (sym is)
        ∙ ap (λ (l : List ℕ). before_star last ++ b ∷ l) ih

    by : (p q : Bool) → is_blank b ≡ p → b == 42 ≡ q → added (shown (after_blank last)) (added (after_blank last) bs) ≡ added (after_blank last) bs
        → added Stars (added Stars bs) ≡ added Stars bs → added Word (added Word bs) ≡ added Word bs
        → added (shown last) (if p then added (after_blank last) bs
        else (if q then before_star last ++ b ∷ added Stars bs else before_letter last ++ b ∷ added Word bs))
        ≡ (if p then added (after_blank last) bs else (if q then before_star last ++ b ∷ added Stars bs else before_letter last ++ b ∷ added Word bs))
    by true q e f g h k = ap (λ (l : Last). added l (added (after_blank last) bs)) (sym (after_shown last)) ∙ g
    by false true e f g h k = starred f h
    by false false e f g h k =
        letter_again last b (added Word bs) e f ∙ ap (λ (l : List ℕ). before_letter last ++ b ∷ l) k

pub once : (text : List ℕ) → tidied (tidied text) ≡ tidied text
once text =
    ap tidied (tidied_is text) ∙ tidied_is (added Nothing text) ∙ added_again Nothing text ∙ sym (tidied_is text)

-- ---- nothing but blanks

star_kept : (last : Last) (rest : List ℕ) → without_blanks (before_star last ++ 42 ∷ rest) ≡ 42 ∷ without_blanks rest
star_kept Nothing rest = refl
star_kept Word rest = refl
star_kept Gap rest = refl
star_kept Stars rest = refl

letter_kept : (last : Last) (b : ℕ) (rest : List ℕ) → is_blank b ≡ false → without_blanks (before_letter last ++ b ∷ rest) ≡ b ∷ without_blanks rest
letter_kept Nothing b rest e = rw e refl
letter_kept Word b rest e = rw e refl
letter_kept Gap b rest e = rw e refl
letter_kept Stars b rest e = rw e refl

added_keeps : (last : Last) (bs : List ℕ) → without_blanks (added last bs) ≡ without_blanks bs
added_keeps last [] = refl
added_keeps last (b ∷ bs) = by (is_blank b) (b == 42) refl refl (added_keeps (after_blank last) bs) (added_keeps Stars bs) (added_keeps Word bs)
  where
    by : (p q : Bool) → is_blank b ≡ p → b == 42 ≡ q → without_blanks (added (after_blank last) bs) ≡ without_blanks bs
        → without_blanks (added Stars bs) ≡ without_blanks bs → without_blanks (added Word bs) ≡ without_blanks bs
        → without_blanks (if p then added (after_blank last) bs
        else (if q then before_star last ++ b ∷ added Stars bs else before_letter last ++ b ∷ added Word bs))
        ≡ without_blanks (b ∷ bs)
    by true q e f g h k = g ∙ rw e refl
    by false true e f g h k =
        let is : b ≡ 42 = eqb-true b 42 f in
        ap (λ (c : ℕ). without_blanks (before_star last ++ c ∷ added Stars bs)) is
        ∙ star_kept last (added Stars bs)
        ∙ ap (λ (l : List ℕ). 42 ∷ l) h
        ∙ ap (λ (c : ℕ). without_blanks (c ∷ bs)) (sym is)
    by false false e f g h k = letter_kept last b (added Word bs) e ∙ ap (λ (l : List ℕ). b ∷ l) k ∙ rw e refl

pub bytes_kept : (text : List ℕ) → without_blanks (tidied text) ≡ without_blanks text
bytes_kept text = ap without_blanks (tidied_is text) ∙ added_keeps Nothing text
