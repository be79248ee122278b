-- A type is tidied to its parts with one space between each two.
use Rattle.std.proofs.Common.{◌≡◌, ℕ, ◌==◌, ◌&&◌, ◌||◌, not, Bool, true, false, if◌then◌else◌, List, [], ◌∷◌, ◌++◌, refl, ap, ◌∙◌}
use Rattle.std.proofs.lemmas.Bool.{and_parts}
use Rattle.std.specs.List.{list_all}
use Rattle.xs_base.specs.ByteRuns.{after_blanks}
use Rattle.xs_base.specs.Readers.{head_is}
use Rattle.xs_base.specs.Scanning.{is_blank, is_blank_line}
use Rattle.xs_typemap.proofs.EachType.{each_type}
use Rattle.xs_typemap.proofs.TidiedOnce.{added, bytes_kept, once, tidied_is}
use Rattle.xs_typemap.specs.TidiedTypes.{after_blank, before_letter, before_star, tidied}
use Rattle.xs_typemap.specs.TypemapLaws.{HasParts, none, word, stars, TidyLaw, after_spaces, is_letter, is_star_or_blank, with_spaces, without_blanks}
use Rattle.xs_typemap.specs.declared.tidying.Last.{Last}
use Rattle.xs_typemap.specs.declared.tidying.Last.TheVariants.{Nothing, Word, Gap, Stars}

-- what parts add, by what stands before them
abbrev spelt : Last → List (List ℕ) → List ℕ
spelt Nothing parts = with_spaces parts
spelt Word parts = after_spaces parts
spelt Gap parts = after_spaces parts
spelt Stars parts = after_spaces parts

-- no part goes on with these bytes
abbrev Apart : Last → List ℕ → Type 0
Apart Nothing text = Unit {0}
Apart Word text = head_is is_letter text ≡ false
Apart Gap text = Unit {0}
Apart Stars text = head_is (λ b. b == 42) (after_blanks text) ≡ false

-- after blanks
abbrev past : Last → List ℕ → Last
past last [] = last
past last (b ∷ bs) = past (after_blank last) bs

blanks_passed : (last : Last) (blanks text : List ℕ) → is_blank_line blanks ≡ true → added last (blanks ++ text) ≡ added (past last blanks) text
blanks_passed last [] text h = refl
blanks_passed last (b ∷ bs) text h =
    let g = and_parts (is_blank b) (is_blank_line bs) h in rw g.0 (blanks_passed (after_blank last) bs text g.1)

nothing_left : (last : Last) (text : List ℕ) → is_blank_line text ≡ true → added last text ≡ []
nothing_left last [] h = refl
nothing_left last (b ∷ bs) h =
    let g = and_parts (is_blank b) (is_blank_line bs) h in rw g.0 (nothing_left (after_blank last) bs g.1)

past_nothing : (blanks : List ℕ) → past Nothing blanks ≡ Nothing
past_nothing [] = refl
past_nothing (b ∷ bs) = past_nothing bs

past_gap : (blanks : List ℕ) → past Gap blanks ≡ Gap
past_gap [] = refl
past_gap (b ∷ bs) = past_gap bs

past_stars : (blanks : List ℕ) → past Stars blanks ≡ Stars
past_stars [] = refl
past_stars (b ∷ bs) = past_stars bs

-- ---- words

not_blank : (b : ℕ) → is_letter b ≡ true → (is_blank b ≡ false) × (b == 42 ≡ false)
not_blank b h = by (is_blank b) (b == 42) h
  where
    by : (p q : Bool) → (not p && not q) ≡ true → (p ≡ false) × (q ≡ false)
    by true q g = absurd cc
    by false true g = absurd cc
    by false false g = (refl, refl)

letters_added : (bs text : List ℕ) → list_all is_letter bs ≡ true → added Word (bs ++ text) ≡ bs ++ added Word text
letters_added [] text h = refl
letters_added (b ∷ bs) text h =
    let g = and_parts (is_letter b) (list_all is_letter bs) h in
    let n = not_blank b g.0 in
    rw (n.0, n.1) (ap (λ (l : List ℕ). b ∷ l) (letters_added bs text g.1))

letter_first : (last : Last) (b : ℕ) (text : List ℕ) → is_letter b ≡ true → added last (b ∷ text) ≡ before_letter last ++ b ∷ added Word text
letter_first last b text h = let n = not_blank b h in rw (n.0, n.1) refl

-- the space before a word
word_spaced : (last : Last) (blanks : List ℕ) (b : ℕ) (rest : List ℕ) (bs : List ℕ) (parts : List (List ℕ)) → is_blank_line blanks ≡ true
    → is_letter b ≡ true → Apart last (blanks ++ b ∷ rest) → before_letter (past last blanks) ++ b ∷ (bs ++ after_spaces parts) ≡ spelt last ((b ∷ bs) ∷ parts)
word_spaced Nothing blanks b rest bs parts h l apart = rw (past_nothing blanks) refl
word_spaced Gap blanks b rest bs parts h l apart = rw (past_gap blanks) refl
word_spaced Stars blanks b rest bs parts h l apart = rw (past_stars blanks) refl
word_spaced Word [] b rest bs parts h l apart = absurd cc
word_spaced Word (c ∷ cs) b rest bs parts h l apart = rw (past_gap cs) refl

-- ---- stars

stars_added : (run text : List ℕ) → list_all is_star_or_blank run ≡ true → added Stars (run ++ text) ≡ without_blanks run ++ added Stars text
stars_added [] text h = refl
stars_added (b ∷ bs) text h =
    by (is_blank b) (b == 42) refl refl (and_parts (is_star_or_blank b) (list_all is_star_or_blank bs) h).0
    (stars_added bs text (and_parts (is_star_or_blank b) (list_all is_star_or_blank bs) h).1)
  where
    by : (p q : Bool) → is_blank b ≡ p → b == 42 ≡ q → (p || q) ≡ true → added Stars (bs ++ text) ≡ without_blanks bs ++ added Stars text
        → (if p then added Stars (bs ++ text) else (if q then b ∷ added Stars (bs ++ text) else 32 ∷ b ∷ added Word (bs ++ text)))
        ≡ without_blanks (b ∷ bs) ++ added Stars text
    by true q e f g ih = ih ∙ rw e refl
    by false true e f g ih = ap (λ (l : List ℕ). b ∷ l) ih ∙ rw e refl
    by false false e f g ih = absurd cc

star_next : (blanks rest : List ℕ) → is_blank_line blanks ≡ true → head_is (λ b. b == 42) (after_blanks (blanks ++ 42 ∷ rest)) ≡ true
star_next [] rest h = refl
star_next (b ∷ bs) rest h = let g = and_parts (is_blank b) (is_blank_line bs) h in rw g.0 (star_next bs rest g.1)

stars_spaced : (last : Last) (blanks rest run : List ℕ) (parts : List (List ℕ)) → is_blank_line blanks ≡ true → Apart last (blanks ++ 42 ∷ rest)
    → before_star (past last blanks) ++ 42 ∷ (run ++ after_spaces parts) ≡ spelt last ((42 ∷ run) ∷ parts)
stars_spaced Nothing blanks rest run parts h apart = rw (past_nothing blanks) refl
stars_spaced Gap blanks rest run parts h apart = rw (past_gap blanks) refl
stars_spaced Word [] rest run parts h apart = refl
stars_spaced Word (c ∷ cs) rest run parts h apart = rw (past_gap cs) refl
stars_spaced Stars blanks rest run parts h apart = let n = star_next blanks rest h in absurd cc

-- ---- all parts

parts_added : (text : List ℕ) (parts : List (List ℕ)) → HasParts text parts → (last : Last) → Apart last text → added last text ≡ spelt last parts
parts_added text parts (none given h) last apart = nothing_left last given h ∙ by last
  where
    by : (l : Last) → [] ≡ spelt l []
    by Nothing = refl
    by Word = refl
    by Gap = refl
    by Stars = refl
parts_added text parts (word blanks b bs {text = rest} {parts = others} h all stop d) last apart =
    let g = and_parts (is_letter b) (list_all is_letter bs) all in
    blanks_passed last blanks (b ∷ (bs ++ rest)) h
    ∙ letter_first (past last blanks) b (bs ++ rest) g.0
    ∙ ap (λ (l : List ℕ). before_letter (past last blanks) ++ b ∷ l) (letters_added bs rest g.1)
    ∙ ap (λ (l : List ℕ). before_letter (past last blanks) ++ b ∷ (bs ++ l)) (parts_added rest others d Word stop)
    ∙ word_spaced last blanks b (bs ++ rest) bs others h g.0 apart
parts_added text parts (stars blanks run {text = rest} {parts = others} h all stop d) last apart =
    blanks_passed last blanks (42 ∷ (run ++ rest)) h
    ∙ ap (λ (l : List ℕ). before_star (past last blanks) ++ 42 ∷ l) (stars_added run rest all)
    ∙ ap (λ (l : List ℕ). before_star (past last blanks) ++ 42 ∷ (without_blanks run ++ l)) (parts_added rest others d Stars stop)
    ∙ stars_spaced last blanks (run ++ rest) (without_blanks run) others h apart

pub parts_tidied : (text : List ℕ) (parts : List (List ℕ)) → HasParts text parts → tidied text ≡ with_spaces parts
parts_tidied text parts d = tidied_is text ∙ parts_added text parts d Nothing tt

pub tidy_law : TidyLaw
tidy_law = record { once = once; same = bytes_kept; some = each_type; parts = parts_tidied }
