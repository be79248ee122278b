-- Types are identifiers, and maybe stars after them.
use Rattle.std.proofs.Common.{◌≡◌, ℕ, ◌==◌, Bool, true, false, if◌then◌else◌, List, [], ◌∷◌, ◌++◌, refl, sym, ap, subst, ◌∙◌, append_assoc}
use Rattle.std.proofs.lemmas.Bool.{and_from, and_parts, eqb-true}
use Rattle.std.proofs.lemmas.List.{append-nil}
use Rattle.std.specs.List.{list_all}
use Rattle.xs_base.proofs.AllPass.{all-append}
use Rattle.xs_base.specs.Scanning.{begins_word, is_identifier, is_word_byte}
use Rattle.xs_typemap.specs.TidiedTypes.{is_rest_of_type, is_type}
use Rattle.xs_typemap.specs.TypemapLaws.{IsCType, word, pointer, more, TypesLaw}
use Rattle.xs_typemap.specs.declared.tidying.TypeByte.TheVariants as due

-- ---- a type that is taken is spelt so

with_byte : (name : List ℕ) (b : ℕ) → is_identifier name ≡ true → is_word_byte b ≡ true → is_identifier (name ++ b ∷ []) ≡ true
with_byte [] b h e = absurd cc
with_byte (c ∷ cs) b h e =
    let g = and_parts (begins_word c) (list_all is_word_byte cs) h in
    and_from (begins_word c) (list_all is_word_byte (cs ++ b ∷ [])) g.0 (all-append is_word_byte cs (b ∷ []) g.1 (and_from (is_word_byte b) true e refl))

all_stars : (text : List ℕ) → is_rest_of_type due.Star text ≡ true → list_all (λ b. b == 42) text ≡ true
all_stars [] h = refl
all_stars (b ∷ bs) h = by (b == 42) refl h (all_stars bs)
  where
    by : (t : Bool) → b == 42 ≡ t → (if t then is_rest_of_type due.Star bs else false) ≡ true
        → (is_rest_of_type due.Star bs ≡ true → list_all (λ c. c == 42) bs ≡ true) → list_all (λ c. c == 42) (b ∷ bs) ≡ true
    by true e g ih = and_from (b == 42) (list_all (λ c. c == 42) bs) e (ih g)
    by false e g ih = absurd cc

-- what stands after a word so far
Further : List ℕ → Type 0
Further bs = (name : List ℕ) → is_identifier name ≡ true → is_rest_of_type due.Further bs ≡ true → IsCType (name ++ bs)

next_word : (name : List ℕ) (c : ℕ) (cs : List ℕ) → is_identifier name ≡ true → Further cs → is_rest_of_type due.Next (c ∷ cs) ≡ true
    → IsCType (name ++ 32 ∷ c ∷ cs)
unfolding Further
next_word name c cs h further g = by (begins_word c) (c == 42) refl refl g
  where
    by : (p q : Bool) → begins_word c ≡ p → c == 42 ≡ q
        → (if p then is_rest_of_type due.Further cs else (if q then is_rest_of_type due.Star cs else false)) ≡ true → IsCType (name ++ 32 ∷ c ∷ cs)
    by true q e f k = more name h (further (c ∷ []) (and_from (begins_word c) true e refl) k)
    by false true e f k = subst (λ (b : ℕ). IsCType (name ++ 32 ∷ b ∷ cs)) (sym (eqb-true c 42 f)) (pointer name cs h (all_stars cs k))
    by false false e f k = absurd cc

after_byte : (b : ℕ) (bs : List ℕ) → Further bs
    → ((name : List ℕ) → is_identifier name ≡ true → is_rest_of_type due.Next bs ≡ true → IsCType (name ++ 32 ∷ bs)) → Further (b ∷ bs)
unfolding Further
after_byte b bs further next name h g = by (is_word_byte b) (b == 32) refl refl g
  where
    by : (p q : Bool) → is_word_byte b ≡ p → b == 32 ≡ q
        → (if p then is_rest_of_type due.Further bs else (if q then is_rest_of_type due.Next bs else false)) ≡ true → IsCType (name ++ b ∷ bs)
    by true q e f k = subst IsCType (append_assoc name (b ∷ []) bs) (further (name ++ b ∷ []) (with_byte name b h e) k)
    by false true e f k = subst (λ (c : ℕ). IsCType (name ++ c ∷ bs)) (sym (eqb-true b 32 f)) (next name h k)
    by false false e f k = absurd cc

further_bytes : (bs : List ℕ) → Further bs
unfolding Further
further_bytes [] name h g = subst IsCType (sym (append-nil name)) (word name h)
further_bytes (b ∷ []) name h g = after_byte b [] (further_bytes []) (λ n k e. absurd cc) name h g
further_bytes (b ∷ c ∷ cs) name h g =
    after_byte b (c ∷ cs) (further_bytes (c ∷ cs)) (λ n k e. next_word n c cs k (further_bytes cs) e) name h g

spelt : (text : List ℕ) → is_type text ≡ true → IsCType text
unfolding Further
spelt [] h = absurd cc
spelt (b ∷ bs) h = by (begins_word b) refl h
  where
    by : (t : Bool) → begins_word b ≡ t → (if t then is_rest_of_type due.Further bs else false) ≡ true → IsCType (b ∷ bs)
    by true e g = further_bytes bs (b ∷ []) (and_from (begins_word b) true e refl) g
    by false e g = absurd cc

-- ---- a type that is spelt so is taken

word_passed : (bytes rest : List ℕ) → list_all is_word_byte bytes ≡ true → is_rest_of_type due.Further (bytes ++ rest) ≡ is_rest_of_type due.Further rest
word_passed [] rest h = refl
word_passed (b ∷ bs) rest h =
    let g = and_parts (is_word_byte b) (list_all is_word_byte bs) h in rw g.0 (word_passed bs rest g.1)

name_passed : (name rest : List ℕ) → is_identifier name ≡ true → is_type (name ++ rest) ≡ is_rest_of_type due.Further rest
name_passed [] rest h = absurd cc
name_passed (b ∷ bs) rest h =
    let g = and_parts (begins_word b) (list_all is_word_byte bs) h in rw g.0 (word_passed bs rest g.1)

stars_taken : (stars : List ℕ) → list_all (λ b. b == 42) stars ≡ true → is_rest_of_type due.Star stars ≡ true
stars_taken [] h = refl
stars_taken (b ∷ bs) h = let g = and_parts (b == 42) (list_all (λ c. c == 42) bs) h in rw g.0 (stars_taken bs g.1)

next_taken : (rest : List ℕ) → is_type rest ≡ true → is_rest_of_type due.Next rest ≡ true
next_taken [] h = absurd cc
next_taken (b ∷ bs) h = by (begins_word b) h
  where
    by : (t : Bool) → (if t then is_rest_of_type due.Further bs else false) ≡ true
        → (if t then is_rest_of_type due.Further bs else (if b == 42 then is_rest_of_type due.Star bs else false)) ≡ true
    by true g = g
    by false g = absurd cc

taken : (text : List ℕ) → IsCType text → is_type text ≡ true
taken text (word name h) = ap is_type (sym (append-nil name)) ∙ name_passed name [] h
taken text (pointer name stars h all) = name_passed name (32 ∷ 42 ∷ stars) h ∙ stars_taken stars all
taken text (more name {rest = rest} h d) = name_passed name (32 ∷ rest) h ∙ next_taken rest (taken rest d)

pub types_law : TypesLaw
types_law = record { spelt = spelt; taken = taken }
