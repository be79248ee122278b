-- Words that are set one after the other.
use Rattle.std.proofs.Common.{◌≡◌, ℕ, not, ◌||◌, Bool, true, false, cond, if◌then◌else◌, List, [], ◌∷◌, ◌++◌, Option, None, Some, refl, sym, ap, ◌∙◌}
use Rattle.std.proofs.lemmas.Bool.{and_from, and_parts}
use Rattle.std.proofs.lemmas.Slice.Eq.{bytes_eq-Decides}
use Rattle.std.specs.Option.{option_or}
use Rattle.std.specs.Str.{bytes_eq}
use Rattle.xs_base.specs.Names.{is_among}
use Rattle.xs_typemap.specs.TypemapEntries.{Words, value_of, with_word, with_words}
use Rattle.xs_typemap.specs.TypemapLaws.{are_distinct, in_order, words_of}

same_word : (word : List ℕ) → bytes_eq word word ≡ true
same_word word = (bytes_eq-Decides word word).1 refl

equal : (a b : List ℕ) → bytes_eq a b ≡ true → a ≡ b
equal a b h = (bytes_eq-Decides a b).0 h

-- words stay apart where one is set
pub set_distinct : (words : List (List ℕ)) (word : List ℕ) → are_distinct words ≡ true → are_distinct (in_order words word) ≡ true
set_distinct words word all = by (is_among words word) refl
  where
    apart : (w : List ℕ) (ws : List (List ℕ)) → (bytes_eq w word || is_among ws word) ≡ false → (bytes_eq w word ≡ false) × (is_among ws word ≡ false)
    apart w ws h = parts (bytes_eq w word) (is_among ws word) h
      where
        parts : (a b : Bool) → (a || b) ≡ false → (a ≡ false) × (b ≡ false)
        parts true b k = absurd cc
        parts false b k = (refl, k)

    turned : (a b : List ℕ) → bytes_eq a b ≡ false → bytes_eq b a ≡ false
    turned a b h = choose (bytes_eq b a) refl
      where
        choose : (t : Bool) → bytes_eq b a ≡ t → t ≡ false
        choose false e = refl
        choose true e = let k : bytes_eq a b ≡ true = (bytes_eq-Decides a b).1 (sym (equal b a e)) in absurd cc

    last_among : (ws : List (List ℕ)) (w : List ℕ) → bytes_eq word w ≡ false → is_among (ws ++ word ∷ []) w ≡ is_among ws w
    last_among [] w h = rw h refl
    last_among (v ∷ ws) w h = ap (λ t. bytes_eq v w || t) (last_among ws w h)

    last : (ws : List (List ℕ)) → are_distinct ws ≡ true → is_among ws word ≡ false → are_distinct (ws ++ word ∷ []) ≡ true
    last [] d n = refl
    last (w ∷ ws) d n =
        let p = and_parts (not (is_among ws w)) (are_distinct ws) d in
        let q = apart w ws n in
        and_from (not (is_among (ws ++ word ∷ []) w)) (are_distinct (ws ++ word ∷ [])) (ap not (last_among ws w (turned w word q.0)) ∙ p.0) (last ws p.1 q.1)

    by : (t : Bool) → is_among words word ≡ t → are_distinct (if t then words else words ++ word ∷ []) ≡ true
    by true e = all
    by false e = last words all e

module _ {V : Type 0} where
  pub value_given : (words : Words V) (word : List ℕ) (value : V) → value_of (with_word words word value) word ≡ Some value
  value_given [] word value = rw (same_word word) refl
  value_given (entry ∷ words) word value = by (bytes_eq word entry.0) refl (value_given words word value)
    where
      by : (t : Bool) → bytes_eq word entry.0 ≡ t → value_of (with_word words word value) word ≡ Some value
          → value_of (if t then (entry.0, value) ∷ words else entry ∷ with_word words word value) word ≡ Some value
      by true e ih = rw e refl
      by false e ih = rw e ih

  pub value_kept : (words : Words V) (word other : List ℕ) (value : V) → bytes_eq other word ≡ false
      → value_of (with_word words word value) other ≡ value_of words other
  value_kept [] word other value apart = rw apart refl
  value_kept (entry ∷ words) word other value apart = by (bytes_eq word entry.0) refl (value_kept words word other value apart)
    where
      by : (t : Bool) → bytes_eq word entry.0 ≡ t → value_of (with_word words word value) other ≡ value_of words other
          → value_of (if t then (entry.0, value) ∷ words else entry ∷ with_word words word value) other
          ≡ cond (bytes_eq other entry.0) (Some entry.1) (value_of words other)
      by true e ih =
          let h : bytes_eq other entry.0 ≡ false = ap (λ (w : List ℕ). bytes_eq other w) (sym (equal word entry.0 e)) ∙ apart in
          rw h refl
      by false e ih = ap (λ (o : Option V). cond (bytes_eq other entry.0) (Some entry.1) o) ih

  -- the words keep their order
  pub set_in_order : (words : Words V) (word : List ℕ) (value : V) → words_of (with_word words word value) ≡ in_order (words_of words) word
  set_in_order [] word value = refl
  set_in_order (entry ∷ words) word value = by (bytes_eq word entry.0) (bytes_eq entry.0 word) refl refl (set_in_order words word value)
    where
      more : (u : Bool) → (if u then words_of words else words_of words ++ word ∷ []) ≡ words_of (with_word words word value)
          → entry.0 ∷ words_of (with_word words word value) ≡ (if u then entry.0 ∷ words_of words else (entry.0 ∷ words_of words) ++ word ∷ [])
      more true h = ap (λ (l : List (List ℕ)). entry.0 ∷ l) (sym h)
      more false h = ap (λ (l : List (List ℕ)). entry.0 ∷ l) (sym h)

      by : (t u : Bool) → bytes_eq word entry.0 ≡ t → bytes_eq entry.0 word ≡ u
          → words_of (with_word words word value) ≡ in_order (words_of words) word
          → words_of (if t then (entry.0, value) ∷ words else entry ∷ with_word words word value)
          ≡ (if u || is_among (words_of words) word then entry.0 ∷ words_of words else (entry.0 ∷ words_of words) ++ word ∷ [])
      by true true e f ih = refl
      by false false e f ih = more (is_among (words_of words) word) (sym ih)
      by true false e f ih = let h : bytes_eq entry.0 word ≡ true = (bytes_eq-Decides entry.0 word).1 (sym (equal word entry.0 e)) in absurd cc
      by false true e f ih = let h : bytes_eq word entry.0 ≡ true = (bytes_eq-Decides word entry.0).1 (sym (equal entry.0 word f)) in absurd cc

  pub word_distinct : (words : Words V) (word : List ℕ) (value : V) → are_distinct (words_of words) ≡ true
      → are_distinct (words_of (with_word words word value)) ≡ true
  word_distinct words word value all = ap are_distinct (set_in_order words word value) ∙ set_distinct (words_of words) word all

  pub words_distinct : (words more : Words V) → are_distinct (words_of words) ≡ true → are_distinct (words_of (with_words words more)) ≡ true
  words_distinct words [] all = all
  words_distinct words (entry ∷ more) all =
      words_distinct (with_word words entry.0 entry.1) more (word_distinct words entry.0 entry.1 all)

  -- a word that does not stand has no value
  value_absent : (words : Words V) (word : List ℕ) → is_among (words_of words) word ≡ false → value_of words word ≡ None
  value_absent [] word h = refl
  value_absent (entry ∷ words) word h = by (bytes_eq word entry.0) refl (value_absent words word)
    where
      parts : (a b : Bool) → (a || b) ≡ false → (a ≡ false) × (b ≡ false)
      parts true b k = absurd cc
      parts false b k = (refl, k)

      apart : (bytes_eq entry.0 word ≡ false) × (is_among (words_of words) word ≡ false)
      apart = parts (bytes_eq entry.0 word) (is_among (words_of words) word) h

      by : (t : Bool) → bytes_eq word entry.0 ≡ t → (is_among (words_of words) word ≡ false → value_of words word ≡ None)
          → cond t (Some entry.1) (value_of words word) ≡ None
      by true e ih =
          let k : bytes_eq entry.0 word ≡ true = (bytes_eq-Decides entry.0 word).1 (sym (equal word entry.0 e)) in
          let n = apart.0 in absurd cc
      by false e ih = ih apart.1

  -- the value after further words, each of which stands once
  pub value_later : (words more : Words V) (word : List ℕ) → are_distinct (words_of more) ≡ true
      → value_of (with_words words more) word ≡ option_or (value_of more word) (value_of words word)
  value_later words [] word all = refl
  value_later words (entry ∷ more) word all =
      value_later (with_word words entry.0 entry.1) more word parts.1 ∙ by (bytes_eq word entry.0) refl
    where
      parts : (not (is_among (words_of more) entry.0) ≡ true) × (are_distinct (words_of more) ≡ true)
      parts = and_parts (not (is_among (words_of more) entry.0)) (are_distinct (words_of more)) all

      untrue : (t : Bool) → not t ≡ true → t ≡ false
      untrue true k = absurd cc
      untrue false k = refl

      by : (t : Bool) → bytes_eq word entry.0 ≡ t → option_or (value_of more word) (value_of (with_word words entry.0 entry.1) word)
          ≡ option_or (cond t (Some entry.1) (value_of more word)) (value_of words word)
      by true e =
          let is : entry.0 ≡ word = sym (equal word entry.0 e) in
          let none : value_of more word ≡ None =
          value_absent more word
          (ap (λ (w : List ℕ). is_among (words_of more) w) (sym is) ∙ untrue (is_among (words_of more) entry.0) parts.0) in
          let given : value_of (with_word words entry.0 entry.1) word ≡ Some entry.1 =
          ap (λ (w : List ℕ). value_of (with_word words entry.0 entry.1) w) (sym is) ∙ value_given words entry.0 entry.1 in
          rw (none, given) refl
      by false e = ap (λ (o : Option V). option_or (value_of more word) o) (value_kept words entry.0 word entry.1 e)
