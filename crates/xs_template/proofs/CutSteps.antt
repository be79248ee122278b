-- How the cutting of a text goes on over names, escapes and texts.
use Rattle.std.proofs.Common.{◌≡◌, ℕ, ◌==◌, ◌&&◌, ◌||◌, not, Bool, true, false, if◌then◌else◌, List, [], ◌∷◌, ◌++◌, None, Some, refl, sym, ap, ◌∙◌, append_assoc}
use Rattle.std.proofs.lemmas.Bool.{and_parts, eqb-true}
use Rattle.std.proofs.lemmas.List.{append-nil}
use Rattle.std.specs.List.{list_all}
use Rattle.xs_base.specs.Readers.{head_is}
use Rattle.xs_base.specs.Scanning.{is_word_byte}
use Rattle.xs_template.proofs.VariableNames.{name_is_some}
use Rattle.xs_template.specs.TemplateSteps.{braced_byte, braced_word, closing, cut_from, dollar_byte, ended, escaped_byte, is_escaped, is_no_name, plain_byte, with_text}
use Rattle.xs_template.specs.TemplateText.{is_left_brace, stays}
use Rattle.xs_template.specs.Variables.{variable_named}
use Rattle.xs_template.specs.declared.cutting.Cutting.{Cutting}
use Rattle.xs_template.specs.declared.cutting.Mode.TheVariants.{Plain, Backslash, Dollar, Braced, Refused}
use Rattle.xs_template.specs.declared.template.Piece.{Piece}
use Rattle.xs_template.specs.declared.template.Piece.TheVariants.{Named}
use Rattle.xs_template.specs.declared.variables.Variable.{Variable}

-- the states of the cutting
abbrev pub plain : List Piece → List ℕ → List ℕ → Cutting
plain ps t n = record { pieces = ps; text = t; mode = Plain; name = n }

abbrev pub escaping : List Piece → List ℕ → List ℕ → Cutting
escaping ps t n = record { pieces = ps; text = t; mode = Backslash; name = n }

abbrev pub naming : List Piece → List ℕ → List ℕ → Cutting
naming ps t n = record { pieces = ps; text = t; mode = Dollar; name = n }

abbrev pub bracing : List Piece → List ℕ → List ℕ → Cutting
bracing ps t n = record { pieces = ps; text = t; mode = Braced; name = n }

abbrev pub bad : List Piece → List ℕ → List ℕ → Cutting
bad ps t n = record { pieces = ps; text = t; mode = Refused; name = n }

-- the state after a variable
abbrev pub named : List Piece → List ℕ → Variable → Cutting
named ps t v = plain (with_text t ps ++ Named v ∷ []) [] []

-- at the end of a text
abbrev pub outcome : Cutting → List ℕ → Cutting
outcome s text = ended (cut_from s text)

-- ---- single bytes

naming_letter : (ps : List Piece) (t n : List ℕ) (b : ℕ) → is_word_byte b ≡ true → dollar_byte b (naming ps t n) ≡ naming ps t (n ++ b ∷ [])
unfolding dollar_byte
naming_letter ps t n b h = rw h refl

bracing_letter : (ps : List Piece) (t n : List ℕ) (b : ℕ) → is_word_byte b ≡ true → braced_byte b (bracing ps t n) ≡ bracing ps t (n ++ b ∷ [])
unfolding braced_byte
bracing_letter ps t n b h = rw h refl

-- the byte after a whole name
naming_ends : (ps : List Piece) (t n : List ℕ) (v : Variable) (b : ℕ) → is_word_byte b ≡ false → (b == 123 && is_no_name n) ≡ false
    → variable_named n ≡ Some v → dollar_byte b (naming ps t n) ≡ plain_byte b (named ps t v)
unfolding dollar_byte
naming_ends ps t n v b stop brace is = rw (stop, brace, is) refl

naming_fails : (ps : List Piece) (t n : List ℕ) (b : ℕ) → is_word_byte b ≡ false → (b == 123 && is_no_name n) ≡ false
    → variable_named n ≡ None → dollar_byte b (naming ps t n) ≡ bad ps t (36 ∷ n)
unfolding dollar_byte
naming_fails ps t n b stop brace is = rw (stop, brace, is) refl

bracing_ends : (ps : List Piece) (t n : List ℕ) (v : Variable) → variable_named n ≡ Some v → braced_byte 125 (bracing ps t n) ≡ named ps t v
unfolding braced_byte
bracing_ends ps t n v is = rw is refl

bracing_fails : (ps : List Piece) (t n : List ℕ) (b : ℕ) → is_word_byte b ≡ false → (b == 125 ≡ true → variable_named n ≡ None)
    → braced_byte b (bracing ps t n) ≡ bad ps t braced_word
unfolding braced_byte
bracing_fails ps t n b stop none = rw stop (by (b == 125) refl none)
  where
    by : (c : Bool) → b == 125 ≡ c → (c ≡ true → variable_named n ≡ None)
        → (if c then closing (variable_named n) (bracing ps t n) else bad ps t braced_word)
        ≡ bad ps t braced_word
    by true e h = rw (h refl) refl
    by false e h = refl

pub brace_opens : (ps : List Piece) (t : List ℕ) → dollar_byte 123 (naming ps t []) ≡ bracing ps t []
unfolding dollar_byte
brace_opens ps t = refl

-- ---- names

pub name_run : (ps : List Piece) (t n name text : List ℕ) → list_all is_word_byte name ≡ true
    → cut_from (naming ps t n) (name ++ text) ≡ cut_from (naming ps t (n ++ name)) text
name_run ps t n [] text all = ap (λ (m : List ℕ). cut_from (naming ps t m) text) (sym (append-nil n))
name_run ps t n (b ∷ bs) text all =
    let h = and_parts (is_word_byte b) (list_all is_word_byte bs) all in
    ap (λ (s : Cutting). cut_from s (bs ++ text)) (naming_letter ps t n b h.0)
    ∙ name_run ps t (n ++ b ∷ []) bs text h.1
    ∙ ap (λ (m : List ℕ). cut_from (naming ps t m) text) (append_assoc n (b ∷ []) bs)

pub braced_run : (ps : List Piece) (t n name text : List ℕ) → list_all is_word_byte name ≡ true
    → cut_from (bracing ps t n) (name ++ text) ≡ cut_from (bracing ps t (n ++ name)) text
braced_run ps t n [] text all = ap (λ (m : List ℕ). cut_from (bracing ps t m) text) (sym (append-nil n))
braced_run ps t n (b ∷ bs) text all =
    let h = and_parts (is_word_byte b) (list_all is_word_byte bs) all in
    ap (λ (s : Cutting). cut_from s (bs ++ text)) (bracing_letter ps t n b h.0)
    ∙ braced_run ps t (n ++ b ∷ []) bs text h.1
    ∙ ap (λ (m : List ℕ). cut_from (bracing ps t m) text) (append_assoc n (b ∷ []) bs)

nothing_and : (b : Bool) → (b && false) ≡ false
nothing_and true = refl
nothing_and false = refl

pub no_brace : (n : List ℕ) (b : ℕ) → is_no_name n ≡ false → (b == 123 && is_no_name n) ≡ false
no_brace n b h = rw h (nothing_and (b == 123))

-- a whole name of a variable
pub name_ends : (ps : List Piece) (t n text : List ℕ) (v : Variable) → variable_named n ≡ Some v → head_is is_word_byte text ≡ false
    → outcome (naming ps t n) text ≡ outcome (named ps t v) text
name_ends ps t n [] v is whole = rw is refl
name_ends ps t n (b ∷ bs) v is whole =
    ap (λ (s : Cutting). outcome s bs) (naming_ends ps t n v b whole (no_brace n b (name_is_some n v is)) is)

pub braced_ends : (ps : List Piece) (t n text : List ℕ) (v : Variable) → variable_named n ≡ Some v
    → outcome (bracing ps t n) (125 ∷ text) ≡ outcome (named ps t v) text
braced_ends ps t n text v is = ap (λ (s : Cutting). outcome s text) (bracing_ends ps t n v is)

-- ---- what is refused stays so

pub bad_stays : (ps : List Piece) (t w text : List ℕ) → cut_from (bad ps t w) text ≡ bad ps t w
bad_stays ps t w [] = refl
bad_stays ps t w (b ∷ bs) = bad_stays ps t w bs

-- no brace stands after `$`
not_brace : (n : List ℕ) (b : ℕ) (bs : List ℕ) → is_left_brace n (b ∷ bs) ≡ false → (b == 123 && is_no_name n) ≡ false
not_brace (c ∷ cs) b bs h = nothing_and (b == 123)
not_brace [] b bs h = both (b == 123) h
  where
    both : (x : Bool) → x ≡ false → (x && true) ≡ false
    both true k = k
    both false k = refl

-- a whole name of no variable
pub name_fails : (ps : List Piece) (t n text : List ℕ) → variable_named n ≡ None → head_is is_word_byte text ≡ false
    → is_left_brace n text ≡ false → outcome (naming ps t n) text ≡ bad ps t (36 ∷ n)
name_fails ps t n [] is whole brace = rw is refl
name_fails ps t n (b ∷ bs) is whole brace =
    ap (λ (s : Cutting). outcome s bs) (naming_fails ps t n b whole (not_brace n b bs brace) is) ∙ ap ended (bad_stays ps t (36 ∷ n) bs)

-- braces with no name of a variable in them
pub braced_fails : (ps : List Piece) (t n text : List ℕ) → ((name rest : List ℕ) → text ≡ name ++ 125 ∷ rest → variable_named (n ++ name) ≡ None)
    → outcome (bracing ps t n) text ≡ bad ps t braced_word
braced_fails ps t n [] none = refl
braced_fails ps t n (b ∷ bs) none =
    by (is_word_byte b) refl (λ h. braced_fails ps t (n ++ b ∷ []) bs (λ name rest e.
    ap variable_named (append_assoc n (b ∷ []) name) ∙ none (b ∷ name) rest (ap (λ (u : List ℕ). b ∷ u) e)))
  where
    at_end : b == 125 ≡ true → variable_named n ≡ None
    at_end h = ap variable_named (sym (append-nil n)) ∙ none [] bs (ap (λ (c : ℕ). c ∷ bs) (eqb-true b 125 h))

    by : (c : Bool) → is_word_byte b ≡ c → (c ≡ true → outcome (bracing ps t (n ++ b ∷ [])) bs ≡ bad ps t braced_word)
        → outcome (bracing ps t n) (b ∷ bs) ≡ bad ps t braced_word
    by true e more = ap (λ (s : Cutting). outcome s bs) (bracing_letter ps t n b e) ∙ more refl
    by false e more = ap (λ (s : Cutting). outcome s bs) (bracing_fails ps t n b e at_end) ∙ ap ended (bad_stays ps t braced_word bs)

-- ---- texts

-- a backslash that is not lost
backslash_stays : (ps : List Piece) (t n text : List ℕ) → head_is is_escaped text ≡ false
    → outcome (escaping ps t n) text ≡ outcome (plain ps (t ++ 92 ∷ []) n) text
backslash_stays ps t n [] h = refl
backslash_stays ps t n (b ∷ bs) h = by (b == 34) (b == 92) (b == 36) refl refl refl h
  where
    by : (p q r : Bool) → b == 34 ≡ p → b == 92 ≡ q → b == 36 ≡ r → (p || (q || r)) ≡ false
        → outcome (escaped_byte b (escaping ps t n)) bs ≡ outcome (plain_byte b (plain ps (t ++ 92 ∷ []) n)) bs
    by false false false e f g h = rw (e, f, g) refl
    by false false true e f g h = absurd cc
    by false true r e f g h = absurd cc
    by true q r e f g h = absurd cc

-- a byte that stays
pub byte_kept : (ps : List Piece) (t n text : List ℕ) (b : ℕ) → stays b text ≡ true
    → outcome (plain ps t n) (b ∷ text) ≡ outcome (plain ps (t ++ b ∷ []) n) text
byte_kept ps t n text b h = by (b == 36) (b == 92) (head_is is_escaped text) refl refl refl h
  where
    by : (p q r : Bool) → b == 36 ≡ p → b == 92 ≡ q → head_is is_escaped text ≡ r → (not p && not (q && r)) ≡ true
        → outcome (plain_byte b (plain ps t n)) text ≡ outcome (plain ps (t ++ b ∷ []) n) text
    by true q r e f g h = absurd cc
    by false true true e f g h = absurd cc
    by false true false e f g h =
        rw (e, f) (backslash_stays ps t n text g ∙ ap (λ (c : ℕ). outcome (plain ps (t ++ c ∷ []) n) text) (sym (eqb-true b 92 f)))
    by false false r e f g h = rw (e, f) refl

-- a backslash that is lost
pub backslash_lost : (ps : List Piece) (t n text : List ℕ) (b : ℕ) → is_escaped b ≡ true
    → outcome (plain ps t n) (92 ∷ b ∷ text) ≡ outcome (plain ps (t ++ b ∷ []) n) text
backslash_lost ps t n text b h = ap (λ (s : Cutting). outcome s text) (lost h)
  where
    lost : is_escaped b ≡ true → escaped_byte b (escaping ps t n) ≡ plain ps (t ++ b ∷ []) n
    lost h = rw h refl
