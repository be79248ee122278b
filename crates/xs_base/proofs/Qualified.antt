-- Qualified names are identifiers joined by `::`.
use Rattle.std.proofs.Common.{◌≡◌, ℕ, Bool, true, false, ◌==◌, List, [], ◌∷◌, ◌++◌, refl, ap, sym, subst, ◌∙◌, append_assoc}
use Rattle.std.proofs.lemmas.Bool.{and_from, and_parts, eqb-true, or_left}
use Rattle.std.proofs.lemmas.List.{append-nil}
use Rattle.std.specs.List.{list_all}
use Rattle.std.specs.Prelude.{if◌then◌else◌}
use Rattle.xs_base.proofs.AllPass.{all-append, all-weaker}
use Rattle.xs_base.specs.Names as names
use Rattle.xs_base.specs.Names.{IsJoined, is_qualified_name, is_rest_of_name}
use Rattle.xs_base.specs.ByteRuns.{belongs}
use Rattle.xs_base.specs.Scanning.{begins_word, is_ascii_digit, is_identifier, is_word_byte}
use Rattle.xs_base.specs.declared.names.NameByte.TheVariants.{First, Further, SecondColon}
use Rattle.xs_base.specs.declared.byte_runs.ByteClass.TheVariants.{Name}

pub first_in_word : (b : ℕ) → begins_word b ≡ true → is_word_byte b ≡ true
first_in_word b h = or_left (begins_word b) (is_ascii_digit b) h

-- ---- such names are joined identifiers

identifier_longer : (word : List ℕ) (b : ℕ) → is_identifier word ≡ true → is_word_byte b ≡ true → is_identifier (word ++ b ∷ []) ≡ true
identifier_longer [] b i w = absurd cc
identifier_longer (c ∷ cs) b i w =
    let h = and_parts (begins_word c) (list_all is_word_byte cs) i in
    and_from (begins_word c) (list_all is_word_byte (cs ++ b ∷ [])) h.0 (all-append is_word_byte cs (b ∷ []) h.1 (and_from (is_word_byte b) true w refl))

mutual
  first_joined : (bs : List ℕ) → is_rest_of_name First bs ≡ true → IsJoined bs
  first_joined [] h = absurd cc
  first_joined (b ∷ bs) h = by (begins_word b) refl (further_joined (b ∷ []) bs) h
    where
      by : (t : Bool) → begins_word b ≡ t → (is_identifier (b ∷ []) ≡ true → is_rest_of_name Further bs ≡ true → IsJoined (b ∷ bs))
          → (if t then is_rest_of_name Further bs else false) ≡ true → IsJoined (b ∷ bs)
      by true e go g = go (and_from (begins_word b) true e refl) g
      by false e go g = absurd cc

  further_joined : (word bs : List ℕ) → is_identifier word ≡ true → is_rest_of_name Further bs ≡ true → IsJoined (word ++ bs)
  further_joined word [] i h = subst IsJoined (sym (append-nil word)) (names.one word i)
  further_joined word (b ∷ bs) i h = by (is_word_byte b) (b == 58) refl refl (λ w. further_joined (word ++ b ∷ []) bs (identifier_longer word b i w))
      (second_joined word bs i) h
    where
      by : (t u : Bool) → is_word_byte b ≡ t → (b == 58) ≡ u → (is_word_byte b ≡ true → is_rest_of_name Further bs ≡ true → IsJoined ((word ++ b ∷ []) ++ bs))
          → (is_rest_of_name SecondColon bs ≡ true → IsJoined (word ++ 58 ∷ bs))
          → (if t then is_rest_of_name Further bs else (if u then is_rest_of_name SecondColon bs else false)) ≡ true → IsJoined (word ++ b ∷ bs)
      by true u e f go colon g = subst IsJoined (append_assoc word (b ∷ []) bs) (go e g)
      by false true e f go colon g = subst (λ (c : ℕ). IsJoined (word ++ c ∷ bs)) (sym (eqb-true b 58 f)) (colon g)
      by false false e f go colon g = absurd cc

  second_joined : (word bs : List ℕ) → is_identifier word ≡ true → is_rest_of_name SecondColon bs ≡ true → IsJoined (word ++ 58 ∷ bs)
  second_joined word [] i h = absurd cc
  second_joined word (b ∷ bs) i h = by (b == 58) refl (first_joined bs) h
    where
      by : (t : Bool) → (b == 58) ≡ t → (is_rest_of_name First bs ≡ true → IsJoined bs) → (if t then is_rest_of_name First bs else false) ≡ true
          → IsJoined (word ++ 58 ∷ b ∷ bs)
      by true e go g = subst (λ (c : ℕ). IsJoined (word ++ 58 ∷ c ∷ bs)) (sym (eqb-true b 58 e)) (names.more word i (go g))
      by false e go g = absurd cc

pub qualified_joined : (text : List ℕ) → is_qualified_name text ≡ true → IsJoined text
qualified_joined text h = first_joined text h

-- ---- joined identifiers are such names

further_passed : (word rest : List ℕ) → list_all is_word_byte word ≡ true → is_rest_of_name Further (word ++ rest) ≡ is_rest_of_name Further rest
further_passed [] rest h = refl
further_passed (b ∷ bs) rest h =
    let g = and_parts (is_word_byte b) (list_all is_word_byte bs) h in
    rw g.0 (further_passed bs rest g.1)

identifier_passed : (word rest : List ℕ) → is_identifier word ≡ true → is_rest_of_name First (word ++ rest) ≡ is_rest_of_name Further rest
identifier_passed [] rest h = absurd cc
identifier_passed (b ∷ bs) rest h =
    let g = and_parts (begins_word b) (list_all is_word_byte bs) h in
    rw g.0 (further_passed bs rest g.1)

pub joined_qualified : {text : List ℕ} → IsJoined text → is_qualified_name text ≡ true
joined_qualified (names.one word i) = ap (is_rest_of_name First) (sym (append-nil word)) ∙ identifier_passed word [] i
joined_qualified (names.more word {rest = rest} i joined) = identifier_passed word (58 ∷ 58 ∷ rest) i ∙ joined_qualified joined

-- ---- their bytes

pub in_name : (b : ℕ) → is_word_byte b ≡ true → belongs Name b ≡ true
in_name b h = or_left (is_word_byte b) (b == 58) h

-- the bytes of an identifier
pub identifier_bytes : (word : List ℕ) → is_identifier word ≡ true → list_all is_word_byte word ≡ true
identifier_bytes [] h = absurd cc
identifier_bytes (b ∷ bs) h =
    let g = and_parts (begins_word b) (list_all is_word_byte bs) h in
    and_from (is_word_byte b) (list_all is_word_byte bs) (first_in_word b g.0) g.1

joined_bytes : {text : List ℕ} → IsJoined text → list_all (belongs Name) text ≡ true
joined_bytes (names.one word i) = all-weaker is_word_byte (belongs Name) in_name word (identifier_bytes word i)
joined_bytes (names.more word {rest = rest} i joined) =
    all-append (belongs Name) word (58 ∷ 58 ∷ rest) (all-weaker is_word_byte (belongs Name) in_name word (identifier_bytes word i)) (joined_bytes joined)

-- all bytes of a qualified name are of words, or colons
pub qualified_bytes : (text : List ℕ) → is_qualified_name text ≡ true → list_all (belongs Name) text ≡ true
qualified_bytes text h = joined_bytes (qualified_joined text h)
