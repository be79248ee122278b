-- The slots of the forms of the XS interface, tokens that fit them, and where tokens that fit go on.
use Rattle.std.proofs.Common.{◌≡◌, ◌⊎◌, inl, inr, ℕ, ◌||◌, not, Bool, true, false, if◌then◌else◌, List, [], ◌∷◌, ◌++◌, map, Option, Some, None, refl, ap, sym, ◌∙◌}
use Rattle.std.proofs.lemmas.Bool.{and_from, and_parts, or_parts}
use Rattle.std.proofs.lemmas.Slice.Eq.{bytes_eq-Decides}
use Rattle.std.specs.Option.{option_map_or}
use Rattle.std.specs.Prelude.{codes}
use Rattle.std.specs.Str.{bytes_eq}
use Rattle.xs_base.specs.Names.{is_among}
use Rattle.xs_ctok.specs.declared.token.Literal.{Literal}
use Rattle.xs_ctok.specs.declared.token.TokKind.{TokKind}
use Rattle.xs_ctok.specs.declared.token.TokKind.TheVariants as kind
use Rattle.xs_ctok.specs.declared.token.Token.{Token}
use Rattle.xs_csyn.specs.FaultPlaces.{SameNext}
use Rattle.xs_cinput.proofs.Tables.{EachRow, found_row}
use Rattle.xs_csyn.specs.Grammar.{Is, IsVariable, IsWord}
use Rattle.xs_cinput.specs.Operators.{listed}
use Rattle.xs_cstmt.specs.PerlForms.{Part, fits, form_row, forms, int_of, is_no_operand, is_spelt, leads, text_of}
use Rattle.xs_csyn.specs.TokenTexts.{AreSpelt, IsSpelt, is_wordlike}
use Rattle.xs_cstmt.specs.StatementReader.{openers}
use Rattle.xs_cinput.specs.TokenInput.{is_name, is_punct_kind, is_type, is_word_kind}
use Rattle.xs_ctok.specs.CWords.{is_no_name, is_type_word}
use Rattle.xs_cstmt.specs.declared.forms.Form.{Form}
use Rattle.xs_cstmt.specs.declared.forms.Form.TheVariants as the
use Rattle.xs_cstmt.specs.declared.forms.Slot.{Slot}
use Rattle.xs_cstmt.specs.declared.forms.Slot.TheVariants as slot
use Rattle.xs_values.specs.declared.literal.Base.TheVariants as base
use Rattle.xs_values.specs.declared.literal.Length.TheVariants as long

-- ---- the table

-- a slot for this word or this punctuator
abbrev pub spelt : List ℕ → Part
spelt text = (slot.Spelt, text)

-- a slot for what has this kind, however it is spelt
abbrev pub unspelt : Slot → Part
unspelt s = (s, [])

-- what a form has after its first word
abbrev pub form_slots : Form → List Part
form_slots (the.Word w) = spelt (codes ";") ∷ []
form_slots the.ResetStack = spelt (codes "-=") ∷ spelt (codes "items") ∷ spelt (codes ";") ∷ []
form_slots the.SetIndex =
    spelt (codes ".") ∷ spelt (codes "any_i32") ∷ spelt (codes "=") ∷ unspelt slot.Int ∷ spelt (codes ";") ∷ []
form_slots the.NewXs =
    spelt (codes "(") ∷ unspelt slot.Text ∷ spelt (codes ",") ∷ unspelt slot.Variable ∷ spelt (codes ")") ∷ spelt (codes ";") ∷ []
form_slots the.KeptNewXs =
    spelt (codes "=") ∷ spelt (codes "newXS_deffile") ∷ spelt (codes "(") ∷ unspelt slot.Text ∷ spelt (codes ",") ∷ unspelt slot.Variable ∷ spelt (codes ")")
    ∷ spelt (codes ";") ∷ []
form_slots the.NewRecord =
    spelt (codes "(") ∷ unspelt slot.Variable ∷ spelt (codes ",") ∷ unspelt slot.One ∷ spelt (codes ",") ∷ unspelt slot.Name ∷ spelt (codes ")") ∷ spelt
    (codes ";") ∷ []
form_slots the.Unused = spelt (codes "(") ∷ unspelt slot.Variable ∷ spelt (codes ")") ∷ spelt (codes ";") ∷ []

-- the first word of a form is a name, and its slots are these
abbrev SlotsRow : List ℕ → Form × List Part → Type 0
SlotsRow word row = (row.1 ≡ form_slots row.0) × (is_no_name word ≡ false) × (is_wordlike word ≡ true) × (listed openers word ≡ None)

slots_are : EachRow SlotsRow forms
unfolding forms openers is_no_name
slots_are = (
  (refl, refl, refl, refl),
  (
    (refl, refl, refl, refl),
    (
      (refl, refl, refl, refl),
      (
        (refl, refl, refl, refl),
        (
          (refl, refl, refl, refl),
          (
            (refl, refl, refl, refl),
            (
              (refl, refl, refl, refl),
              (
                (refl, refl, refl, refl),
                (
                  (refl, refl, refl, refl),
                  (
                    (refl, refl, refl, refl),
                    (
                      (refl, refl, refl, refl),
                      (
                        (refl, refl, refl, refl),
                        (
                          (refl, refl, refl, refl),
                          (
                            (refl, refl, refl, refl),
                            (
                              (refl, refl, refl, refl),
                              ((refl, refl, refl, refl), ((refl, refl, refl, refl), ((refl, refl, refl, refl), ((refl, refl, refl, refl), tt)))),
                            ),
                          ),
                        ),
                      ),
                    ),
                  ),
                ),
              ),
            ),
          ),
        ),
      ),
    ),
  ),
)

pub record Row (t : Token) (row : Form × List Part) : Type 0 where
  pub is_a_word : is_word_kind t.kind ≡ true
  pub slots : row.1 ≡ form_slots row.0
  pub names : is_no_name t.text ≡ false
  pub wordlike : is_wordlike t.text ≡ true
  pub no_opener : listed openers t.text ≡ None

pub row_facts : (t : Token) (row : Form × List Part) → form_row t ≡ Some row → Row t row
row_facts t row e = by (is_word_kind t.kind) refl e
  where
    by : (c : Bool) → is_word_kind t.kind ≡ c → (◌≡◌ {A = Option (Form × List Part)} (if c then listed forms t.text else None) (Some row)) → Row t row
    by true k f =
        let x = found_row SlotsRow forms t.text row slots_are f in record { is_a_word = k; slots = x.0; names = x.1; wordlike = x.2; no_opener = x.3 }
    by false k f = absurd cc

-- a word is spelt as words are
pub word_spelt : (t : Token) → is_word_kind t.kind ≡ true → is_wordlike t.text ≡ true → IsSpelt t
word_spelt t k w = ((λ e. w), (λ e. absurd (no_both t.kind k e)))
  where
    no_both : (s : TokKind) → is_word_kind s ≡ true → is_punct_kind s ≡ true → ⊥
    no_both kind.Punct k e = absurd cc
    no_both s k e = absurd cc

-- a name that is no type is a variable
pub variable_of : (types : List (List ℕ)) (t : Token) → is_word_kind t.kind ≡ true → is_no_name t.text ≡ false → is_type types t ≡ false
    → IsVariable types t
variable_of types t k n isnt =
    let other : (is_type_word t.text || is_among types t.text) ≡ false = rw (← isnt, k) refl in
    let none = or_parts (is_type_word t.text) (is_among types t.text) other in
    rw (k, n, none.1) refl

-- ---- tokens that fit

-- the tokens fit the slots, one for each
pub data Fitting (types : List (List ℕ)) : List Part → List Token → Type 0 where
  all_fit : Fitting types [] []
  one_fits : {s : Part} {ss : List Part} {t : Token} {ts : List Token} → fits types s t ≡ true → IsSpelt t → Fitting types ss ts
      → Fitting types (s ∷ ss) (t ∷ ts)

-- The tokens in front fit the slots, so does the next one, and none of them is known to stand in no expression.
pub data Going (types : List (List ℕ)) : List Part → List Token → List Token → Type 0 where
  next_fits : {s : Part} {ss : List Part} {w : Token} {ws : List Token} → fits types s w ≡ true → is_no_operand types w ≡ false → IsSpelt w
      → Going types (s ∷ ss) [] (w ∷ ws)
  goes_on : {s : Part} {ss : List Part} {v : Token} {front rest : List Token} → fits types s v ≡ true → is_no_operand types v ≡ false → IsSpelt v
      → Going types ss front rest → Going types (s ∷ ss) (v ∷ front) rest

-- With another text after the next token the slots lead on as before, or the tokens in front are going on.
pub leads_ways : (types : List (List ℕ)) (ss : List Part) (front rest us : List Token) → SameNext rest us → AreSpelt (front ++ us)
    → (leads types ss (front ++ us) ≡ leads types ss (front ++ rest)) ⊎ Going types ss front rest
leads_ways types [] front rest us e a = inl refl
leads_ways types (s ∷ ss) [] [] [] e a = inl refl
leads_ways types (s ∷ ss) [] [] (u ∷ us) e a = absurd e
leads_ways types (s ∷ ss) [] (w ∷ ws) [] e a = absurd e
leads_ways types (s ∷ ss) [] (w ∷ ws) (u ∷ us) e a = by (fits types s w) (is_no_operand types w) refl refl
  where
    tests : Token → List Token → Bool
    tests t ts = if fits types s t then is_no_operand types t || leads types ss ts else false

    here : tests u us ≡ tests w us
    here = ap (λ t. tests t us) (sym e)

    by : (c d : Bool) → fits types s w ≡ c → is_no_operand types w ≡ d → (tests u us ≡ tests w ws) ⊎ Going types (s ∷ ss) [] (w ∷ ws)
    by false d f n = inl (here ∙ rw f refl)
    by true true f n = inl (here ∙ rw (f, n) refl)
    by true false f n = inr (next_fits f n (rw e (a.0)))
leads_ways types (s ∷ ss) (v ∷ front) rest us e a = by (fits types s v) (is_no_operand types v) refl refl (leads_ways types ss front rest us e a.1)
  where
    tests : List Token → Bool
    tests ts = if fits types s v then is_no_operand types v || leads types ss ts else false

    by : (c d : Bool) → fits types s v ≡ c → is_no_operand types v ≡ d
        → (leads types ss (front ++ us) ≡ leads types ss (front ++ rest)) ⊎ Going types ss front rest
        → (tests (front ++ us) ≡ tests (front ++ rest)) ⊎ Going types (s ∷ ss) (v ∷ front) rest
    by false d f n x = inl (rw f refl)
    by true true f n x = inl (rw (f, n) refl)
    by true false f n (inl x) = inl (rw (f, n) x)
    by true false f n (inr x) = inr (goes_on f n a.0 x)

-- ---- tokens for slots

abbrev pub literal_one : Literal
literal_one = record { value = 1; base = base.Decimal; suffix = record { unsigned = false; length = long.Int } }

-- A token of this kind and text stands where the other does.
abbrev pub made : Token → TokKind → List ℕ → Token
made t k text = record t { kind = k; text = text }

abbrev kind_for : Bool → TokKind
kind_for true = kind.Word
kind_for false = kind.Punct

-- a token for a slot, where the one that is given is a variable
abbrev pub fitting : Token → Part → Token
fitting t (slot.Spelt, text) = made t (kind_for (is_wordlike text)) text
fitting t (slot.Variable, text) = t
fitting t (slot.Name, text) = t
fitting t (slot.Int, text) = made t (kind.Int literal_one) (codes "1")
fitting t (slot.One, text) = made t (kind.Int literal_one) (codes "1")
fitting t (slot.Text, text) = made t (kind.Text []) []

pub sign_spelt : (t : Token) → t.kind ≡ kind.Punct → is_wordlike t.text ≡ false → IsSpelt t
sign_spelt t k w = ((λ e. absurd (let f : is_word_kind t.kind ≡ false = ap is_word_kind k in cc)), (λ e. w))

fitting_spelt : (t : Token) → IsSpelt t → (s : Part) → IsSpelt (fitting t s)
fitting_spelt t x (slot.Spelt, text) = by (is_wordlike text) refl
  where
    by : (c : Bool) → is_wordlike text ≡ c → IsSpelt (made t (kind_for c) text)
    by true e = ((λ f. e), (λ f. absurd cc))
    by false e = ((λ f. absurd cc), (λ f. e))
fitting_spelt t x (slot.Variable, text) = x
fitting_spelt t x (slot.Name, text) = x
fitting_spelt t x (slot.Int, text) = ((λ f. absurd cc), (λ f. absurd cc))
fitting_spelt t x (slot.One, text) = ((λ f. absurd cc), (λ f. absurd cc))
fitting_spelt t x (slot.Text, text) = ((λ f. absurd cc), (λ f. absurd cc))

fitting_fits : (types : List (List ℕ)) (t : Token) → IsVariable types t → (s : Part) → fits types s (fitting t s) ≡ true
fitting_fits types t v (slot.Spelt, text) = by (is_wordlike text) ((bytes_eq-Decides text text).1 refl)
  where
    by : (c : Bool) → bytes_eq text text ≡ true → is_spelt text (made t (kind_for c) text) ≡ true
    by true e = e
    by false e = e
fitting_fits types t v (slot.Variable, text) = v
fitting_fits types t v (slot.Name, text) = (and_parts (is_name t) (not (is_among types t.text)) v).0
fitting_fits types t v (slot.Int, text) = refl
fitting_fits types t v (slot.One, text) = refl
fitting_fits types t v (slot.Text, text) = refl

pub all_fitting : (types : List (List ℕ)) (t : Token) → IsVariable types t → IsSpelt t → (ss : List Part) → Fitting types ss (map (fitting t) ss)
all_fitting types t v x [] = all_fit
all_fitting types t v x (s ∷ ss) = one_fits (fitting_fits types t v s) (fitting_spelt t x s) (all_fitting types t v x ss)

-- Tokens that are going on can be brought to the end of the form.
pub record Filled (types : List (List ℕ)) (ss : List Part) (front rest : List Token) : Type 0 where
  pub first : Token
  pub more : List Token
  pub next : SameNext rest (first ∷ more)
  pub fit : Fitting types ss (front ++ first ∷ more)

pub filled : {types : List (List ℕ)} {ss : List Part} {front rest : List Token} → Going types ss front rest → (t : Token) → IsVariable types t → IsSpelt t
    → Filled types ss front rest
filled {types} (next_fits {s = s} {ss = ss} {w = w} {ws = ws} f n x) t v y = record {
  first = w;
  more = map (fitting t) ss;
  next = refl;
  fit = one_fits f x (all_fitting types t v y ss);
}
filled (goes_on f n x going) t v y = let z = filled going t v y in record { first = z.first; more = z.more; next = z.next; fit = one_fits f x z.fit }

pub fitting_are_spelt : {types : List (List ℕ)} {ss : List Part} {ts : List Token} → Fitting types ss ts → AreSpelt ts
fitting_are_spelt all_fit = tt
fitting_are_spelt (one_fits f x more) = (x, fitting_are_spelt more)

-- ---- what fits a slot

spelt_kind : (t : Token) (m : List ℕ) → is_spelt m t ≡ true → (is_word_kind t.kind ≡ true) ⊎ (is_punct_kind t.kind ≡ true)
spelt_kind t m e = by t.kind (and_parts (is_word_kind t.kind || is_punct_kind t.kind) (bytes_eq t.text m) e).0
  where
    by : (s : TokKind) → (is_word_kind s || is_punct_kind s) ≡ true → (is_word_kind s ≡ true) ⊎ (is_punct_kind s ≡ true)
    by kind.Word e = inl refl
    by kind.Punct e = inr refl
    by s e = absurd cc

-- a punctuator of a form
pub fits_sign : (m : List ℕ) (t : Token) → is_wordlike m ≡ false → is_spelt m t ≡ true → IsSpelt t → Is m t
fits_sign m t other e x = by (spelt_kind t m e)
  where
    same : t.text ≡ m
    same = (bytes_eq-Decides t.text m).0 (and_parts (is_word_kind t.kind || is_punct_kind t.kind) (bytes_eq t.text m) e).1

    by : (is_word_kind t.kind ≡ true) ⊎ (is_punct_kind t.kind ≡ true) → Is m t
    by (inl k) = absurd (let f : is_wordlike m ≡ true = ap is_wordlike (sym same) ∙ x.0 k in cc)
    by (inr k) = and_from (is_punct_kind t.kind) (bytes_eq t.text m) k ((bytes_eq-Decides t.text m).1 same)

-- a word of a form
pub fits_word : (m : List ℕ) (t : Token) → is_wordlike m ≡ true → is_spelt m t ≡ true → IsSpelt t → IsWord m t
fits_word m t other e x = by (spelt_kind t m e)
  where
    same : t.text ≡ m
    same = (bytes_eq-Decides t.text m).0 (and_parts (is_word_kind t.kind || is_punct_kind t.kind) (bytes_eq t.text m) e).1

    by : (is_word_kind t.kind ≡ true) ⊎ (is_punct_kind t.kind ≡ true) → IsWord m t
    by (inl k) = and_from (is_word_kind t.kind) (bytes_eq t.text m) k ((bytes_eq-Decides t.text m).1 same)
    by (inr k) = absurd (let f : is_wordlike m ≡ false = ap is_wordlike (sym same) ∙ x.1 k in cc)

pub int_kind : (s : TokKind) → option_map_or (λ (l : Literal). true) (int_of s) false ≡ true → (l : Literal) × (s ≡ kind.Int l)
int_kind (kind.Int l) e = (l, refl)
int_kind s e = absurd cc

pub text_kind : (s : TokKind) → option_map_or (λ (x : List ℕ). true) (text_of s) false ≡ true → (x : List ℕ) × (s ≡ kind.Text x)
text_kind (kind.Text x) e = (x, refl)
text_kind s e = absurd cc
