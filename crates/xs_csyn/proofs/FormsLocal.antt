-- What is read as a statement in which no other stands rests on the tokens that are passed and on the next one: where the words of a form of the XS
-- interface go on, no reader stops.
use Rattle.std.proofs.Common.{◌≡◌, ◌⊎◌, inl, inr, ℕ, ◌<◌, ◌||◌, Bool, true, false, if◌then◌else◌, List, [], ◌∷◌, ◌++◌, length, Option, Some, None, Result, Ok, Err, refl, ap, sym, subst, ◌∙◌, arith}
use Rattle.xs_base.specs.Readers.{and_then, pure}
use Rattle.xs_ctok.specs.declared.token.Token.{Token}
use Rattle.xs_csyn.proofs.FormRests.{form_first, form_not_there, form_rest, not_there, rest_local}
use Rattle.xs_csyn.proofs.FormSlots.{Going, Row, leads_ways, row_facts, form_slots, variable_of, word_spelt}
use Rattle.xs_csyn.proofs.FormsSound.{begins_by}
use Rattle.xs_csyn.proofs.FormWords.{as_whole, end_spelt, ending, form_done, plain_read}
use Rattle.xs_csyn.proofs.Local.{Local, after_one, alike, alike_there, are_front, comes_to, proper, turned}
use Rattle.xs_csyn.specs.FaultPlaces.{SameNext}
use Rattle.xs_csyn.proofs.Marks.{variable_name}
use Rattle.xs_csyn.proofs.PlainLocal.{plain_local}
use Rattle.xs_csyn.specs.FileGrammar.{AreNames}
use Rattle.xs_csyn.specs.Grammar as g
use Rattle.xs_csyn.specs.Grammar.{IsVariable}
use Rattle.xs_cstmt.specs.PerlForms.{Part, form_ahead, form_at, form_of, form_row, leads, perl_form}
use Rattle.xs_csyn.specs.TokenTexts.{AreSpelt, IsSpelt}
use Rattle.xs_cstmt.specs.StatementReader.{plain, simple}
use Rattle.xs_cexpr.specs.ExpressionTree as tree_expr
use Rattle.xs_cstmt.specs.StatementTree as tree_stmt
use Rattle.xs_cinput.specs.TokenInput.{Input, Reader, is_type, line}
use Rattle.xs_cstmt.specs.declared.forms.Form.{Form}

abbrev pub mapped_answer : {A B : Type 0} → (A → B) → Result A Bool → Result B Bool
mapped_answer f (Ok a) = Ok (f a)
mapped_answer f (Err d) = Err d

pub mapped_comes : {A B : Type 0} (f : A → B) (o : Result A Bool) (b : Input)
    → and_then (comes_to o b) (λ (a : A). pure (f a)) ≡ comes_to (mapped_answer f o) b
mapped_comes f (Ok a) b = refl
mapped_comes f (Err d) b = refl

-- what is made of what was read
abbrev pub mapped : {A B : Type 0} {b : Input} {ts : List Token} {p : ℕ → Reader A} (f : A → B) (x : Local proper b p ts)
    → Local proper b (λ k i. and_then (p k i) (λ a. pure (f a))) ts
mapped {b = b} f x = record {
  front = x.front;
  rest = x.rest;
  is = x.is;
  answer = mapped_answer f x.answer;
  same = λ us k e n. ap (λ r. and_then r (λ a. pure (f a))) (x.same us k e n) ∙ mapped_comes f x.answer (turned b k us);
}

-- a reader with this token put back in front
abbrev pub put_back : {A : Type 0} → Token → Reader A → Reader A
put_back t r = λ i. r (record i { rest = t ∷ i.rest })

pub row_form : (types : List (List ℕ)) (t : Token) (ts : List Token) (row : Form × List Part) → form_row t ≡ Some row
    → form_at types (t ∷ ts) ≡ (if is_type types t || leads types row.1 ts then Some row.0 else None)
row_form types t ts row e = rw e refl

pub no_form : (types : List (List ℕ)) (t : Token) (ts : List Token) → form_row t ≡ None → form_at types (t ∷ ts) ≡ None
no_form types t ts e = rw e refl

pub form_read : (b : Input) (k : ℕ) (t : Token) (us : List Token) (which : Form) → form_at b.types (t ∷ us) ≡ Some which
    → form_of which (turned b k (t ∷ us)) ≡ form_rest which (turned b k us)
    → simple (turned b k (t ∷ us)) ≡ and_then (form_rest which (turned b k us)) (λ p. pure (tree_stmt.Perl t.span.line p))
unfolding simple form_ahead perl_form line
form_read b k t us which is e = rw (is, e) refl

pub plain_here : (b : Input) (k : ℕ) (us : List Token) → form_at b.types us ≡ None → simple (turned b k us) ≡ plain (turned b k us)
unfolding simple form_ahead
plain_here b k us is = rw is refl

module _ (b : Input) (names : AreNames b.types) where
  -- A form by its first word.
  typed_local : (t : Token) (ts : List Token) (row : Form × List Part) → form_row t ≡ Some row → is_type b.types t ≡ true
      → Local proper b (λ k. simple) (t ∷ ts)
  typed_local t ts row e is =
      after_one (mapped (tree_stmt.Perl t.span.line) (rest_local b row.0 ts))
      (λ us k n good. let y = begins_by t row e in form_read b k t us row.0 (row_form b.types t us row e ∙ rw is refl)
      (form_first b row.0 t us k y.is_a_word y.spelt))

  -- The words that go on in a form do so with any tokens after the next one.
  pub led_still : (t : Token) (ts : List Token) (row : Form × List Part) → form_row t ≡ Some row → is_type b.types t ≡ false → leads b.types row.1 ts ≡ true
      → (x : Local proper b (λ k. form_rest row.0) ts) (us : List Token) → SameNext x.rest us → AreSpelt (x.front ++ us)
      → leads b.types row.1 (x.front ++ us) ≡ true
  led_still t ts row e isnt led x us n a = by (leads_ways b.types row.1 x.front x.rest us n a)
    where
      facts : Row t row
      facts = row_facts t row e

      is_variable : IsVariable b.types t
      is_variable = variable_of b.types t facts.is_a_word facts.names isnt

      by : (leads b.types row.1 (x.front ++ us) ≡ leads b.types row.1 (x.front ++ x.rest)) ⊎ Going b.types row.1 x.front x.rest
          → leads b.types row.1 (x.front ++ us) ≡ true
      by (inl same) = same ∙ (ap (leads b.types row.1) (sym x.is) ∙ led)
      by (inr going) =
          absurd (form_not_there b row.0 x (subst (λ (ss : List Part). Going b.types ss x.front x.rest) facts.slots going) t is_variable
          (word_spelt t facts.is_a_word facts.wordlike))

  -- a form by the tokens after its first word
  led_local : (t : Token) (ts : List Token) (row : Form × List Part) → form_row t ≡ Some row → is_type b.types t ≡ false → leads b.types row.1 ts ≡ true
      → Local proper b (λ k. simple) (t ∷ ts)
  led_local t ts row e isnt led =
      let x = rest_local b row.0 ts in
      let made : Local proper b (λ k i. and_then (form_rest row.0 i) (λ p. pure (tree_stmt.Perl t.span.line p))) ts = mapped (tree_stmt.Perl t.span.line) x in
      after_one {p = λ k. put_back t simple} (alike_there {r = λ k. put_back t simple} (mapped (tree_stmt.Perl t.span.line) x) (λ us k n good.
      let y = begins_by t row e in
      form_read b k t (x.front ++ us) row.0 (row_form b.types t (x.front ++ us) row e ∙ rw (isnt, led_still t ts row e isnt led x us n good.1) refl)
      (form_first b row.0 t (x.front ++ us) k y.is_a_word y.spelt)))
      (λ us k n good. refl)

  -- The words that go on in no form do so with no tokens after the next one.
  pub unled_still : (t : Token) (ts : List Token) (row : Form × List Part) → form_row t ≡ Some row → is_type b.types t ≡ false
      → leads b.types row.1 ts ≡ false → (x : Local proper b (λ k. plain) (t ∷ ts)) (us : List Token) → SameNext x.rest us → AreSpelt (x.front ++ us)
      → form_at b.types (x.front ++ us) ≡ None
  unled_still t ts row e isnt led x us n a = still x us n a x.front refl
    where
      facts : Row t row
      facts = row_facts t row e

      is_variable : IsVariable b.types t
      is_variable = variable_of b.types t facts.is_a_word facts.names isnt

      is_spelt : IsSpelt t
      is_spelt = word_spelt t facts.is_a_word facts.wordlike

      -- the word alone is read as an expression
      passes_one : (x : Local proper b (λ k. plain) (t ∷ ts)) → x.front ≡ [] → ⊥
      passes_one x f =
          let rest_is : t ∷ ts ≡ x.rest = x.is ∙ ap (λ l. l ++ x.rest) f in
          not_there x t (ending t ∷ []) (subst (λ (l : List Token). SameNext l (t ∷ ending t ∷ [])) rest_is refl)
          (subst (λ (l : List Token). AreSpelt (l ++ t ∷ ending t ∷ [])) (sym f) (is_spelt, (end_spelt t, tt)))
          (λ k few. (
            tree_stmt.Effect t.span.line (tree_expr.Var t.span.line t.text),
            subst (λ (l : List Token). plain (turned b k (l ++ t ∷ ending t ∷ []))
                ≡ Ok (tree_stmt.Effect t.span.line (tree_expr.Var t.span.line t.text), turned b k []))
                (sym f)
                (plain_read b k t (ending t) (ending t ∷ []) (tree_expr.Var t.span.line t.text) names (variable_name b.types t is_variable) (as_whole
                (g.name is_variable)) refl
                (omega arith) (subst (λ (l : List Token). length (l ++ t ∷ ending t ∷ []) < k) f few)),
          ))

      -- the words that are going on are read as an expression
      passes_on : (x : Local proper b (λ k. plain) (t ∷ ts)) (front : List Token) → x.front ≡ t ∷ front → AreSpelt front
          → Going b.types (form_slots row.0) front x.rest → ⊥
      passes_on x front f spelt_front going =
          let y = form_done b.types row.0 t is_variable is_spelt going in
          let all : List Token = t ∷ (front ++ y.first ∷ y.more) in
          let same : x.front ++ y.first ∷ y.more ≡ all = ap (λ l. l ++ y.first ∷ y.more) f in
          not_there x y.first y.more y.next (subst AreSpelt (sym same) (is_spelt, both_spelt front (y.first ∷ y.more) spelt_front y.spelt))
          (λ k few. (
            tree_stmt.Effect t.span.line y.a,
            subst (λ (l : List Token). plain (turned b k l) ≡ Ok (tree_stmt.Effect t.span.line y.a, turned b k [])) (sym same)
                (plain_read b k t y.stop (front ++ y.first ∷ y.more) y.a names (variable_name b.types t is_variable) y.whole y.semi (omega (arith, y.lower))
                (subst (λ (l : List Token). length l < k) same few)),
          ))
        where
          both_spelt : (xs ys : List Token) → AreSpelt xs → AreSpelt ys → AreSpelt (xs ++ ys)
          both_spelt [] ys a c = c
          both_spelt (z ∷ xs) ys a c = (a.0, both_spelt xs ys a.1 c)

      still : (x : Local proper b (λ k. plain) (t ∷ ts)) (us : List Token) → SameNext x.rest us → AreSpelt (x.front ++ us) → (front : List Token) → x.front
          ≡ front
          → form_at b.types (x.front ++ us) ≡ None
      still x us n a [] f = absurd (passes_one x f)
      still x us n a (v ∷ front) f =
          by (leads_ways b.types row.1 front x.rest us n a'.1)
        where
          whole_is : t ∷ ts ≡ (v ∷ front) ++ x.rest
          whole_is = x.is ∙ ap (λ l. l ++ x.rest) f

          a' : AreSpelt ((v ∷ front) ++ us)
          a' = subst (λ (l : List Token). AreSpelt (l ++ us)) f a

          first_is : t ≡ v
          first_is = ap (λ (l : List Token). first_or l) whole_is
            where
              first_or : List Token → Token
              first_or [] = t
              first_or (z ∷ zs) = z

          more_is : ts ≡ front ++ x.rest
          more_is = ap (λ (l : List Token). others l) whole_is
            where
              others : List Token → List Token
              others [] = []
              others (z ∷ zs) = zs

          front_is : x.front ≡ t ∷ front
          front_is = f ∙ ap (λ z. z ∷ front) (sym first_is)

          by : (leads b.types row.1 (front ++ us) ≡ leads b.types row.1 (front ++ x.rest)) ⊎ Going b.types row.1 front x.rest
              → form_at b.types (x.front ++ us) ≡ None
          by (inl same) =
              ap (λ l. form_at b.types (l ++ us)) front_is
              ∙ (row_form b.types t (front ++ us) row e ∙ rw (isnt, same ∙ (ap (leads b.types row.1) (sym more_is) ∙ led)) refl)
          by (inr going) =
              absurd (passes_on x front front_is (are_front proper front us a'.1) (subst (λ (ss : List Part). Going b.types ss front x.rest) facts.slots going))

  -- no form, by the tokens after its first word
  unled_local : (t : Token) (ts : List Token) (row : Form × List Part) → form_row t ≡ Some row → is_type b.types t ≡ false → leads b.types row.1 ts ≡ false
      → Local proper b (λ k. simple) (t ∷ ts)
  unled_local t ts row e isnt led =
      let x = plain_local b (t ∷ ts) in
      alike_there x (λ us k n good. plain_here b k (x.front ++ us) (unled_still t ts row e isnt led x us n good.1))

  pub simple_local : (ts : List Token) → Local proper b (λ k. simple) ts
  simple_local [] = alike (plain_local b []) (λ us k n good. at_end us k n)
    where
      at_end : (us : List Token) (k : ℕ) → SameNext [] us → simple (turned b k us) ≡ plain (turned b k us)
      at_end [] k n = plain_here b k [] refl
      at_end (u ∷ us) k n = absurd n
  simple_local (t ∷ ts) = by (form_row t) refl
    where
      unformed : form_row t ≡ None → (us : List Token) (k : ℕ) → SameNext (t ∷ ts) us → simple (turned b k us) ≡ plain (turned b k us)
      unformed e [] k n = absurd n
      unformed e (u ∷ us) k n = plain_here b k (u ∷ us) (no_form b.types u us (ap form_row (sym n) ∙ e))

      by_leads : (row : Form × List Part) → form_row t ≡ Some row → is_type b.types t ≡ false → (c : Bool) → leads b.types row.1 ts ≡ c
          → Local proper b (λ k. simple) (t ∷ ts)
      by_leads row e isnt true led = led_local t ts row e isnt led
      by_leads row e isnt false led = unled_local t ts row e isnt led

      by_type : (row : Form × List Part) → form_row t ≡ Some row → (c : Bool) → is_type b.types t ≡ c → Local proper b (λ k. simple) (t ∷ ts)
      by_type row e true is = typed_local t ts row e is
      by_type row e false isnt = by_leads row e isnt (leads b.types row.1 ts) refl

      by : (o : Option (Form × List Part)) → form_row t ≡ o → Local proper b (λ k. simple) (t ∷ ts)
      by None e = alike (plain_local b (t ∷ ts)) (λ us k n good. unformed e us k n)
      by (Some row) e = by_type row e (is_type b.types t) refl
