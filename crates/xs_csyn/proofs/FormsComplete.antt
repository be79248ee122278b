-- What is a statement of the XS interface by the rules is read as that.
use Rattle.std.proofs.Common.{◌≡◌, ℕ, Bool, true, false, if◌then◌else◌, ◌||◌, List, [], ◌∷◌, Option, Some, None, Ok, refl, ap}
use Rattle.std.proofs.lemmas.Bool.{and_from, and_parts, or_left, or_right}
use Rattle.std.specs.Option.{option_map_or}
use Rattle.std.specs.Prelude.{codes}
use Rattle.std.specs.Str.{bytes_eq}
use Rattle.xs_ctok.specs.declared.token.Literal.{Literal}
use Rattle.xs_ctok.specs.declared.token.TokKind.{TokKind}
use Rattle.xs_ctok.specs.declared.token.TokKind.TheVariants as kind
use Rattle.xs_ctok.specs.declared.token.Token.{Token}
use Rattle.xs_csyn.proofs.Marks.{is_word_of}
use Rattle.xs_cinput.proofs.Tables.{EachRow, found_row}
use Rattle.xs_csyn.proofs.Yields.{at}
use Rattle.xs_csyn.specs.Grammar.{Is, IsVariable, IsWord, MayName}
use Rattle.xs_cinput.specs.Operators.{listed}
use Rattle.xs_cstmt.specs.PerlForms.{Part, a_text, an_int, begins_form_at, expect_one, fits, fits_first, form_at, form_of, form_row, forms, int_ahead, int_of, is_int, is_one, is_spelt, is_text, kept_new_xs, leads, new_record, new_xs, perl_form, reset_stack, sees_one, set_index, text_ahead, text_of, unused}
use Rattle.xs_csyn.specs.StatementGrammar as g
use Rattle.xs_csyn.specs.StatementGrammar.{Form as Formed}
use Rattle.xs_cstmt.specs.StatementReader.{openers}
use Rattle.xs_cstmt.specs.StatementTree as tree
use Rattle.xs_cinput.specs.TokenInput.{Input, a_name, a_variable, expect, expect_word, is_punct_kind, is_type, is_word_kind, line, next, sees, sees_name, sees_variable, sees_word, spelling}
use Rattle.xs_cstmt.specs.declared.forms.Form.{Form}
use Rattle.xs_cstmt.specs.declared.forms.Form.TheVariants as the
use Rattle.xs_cstmt.specs.declared.tree.PerlForm.{PerlForm}
use Rattle.xs_cstmt.specs.declared.tree.PerlForm.TheVariants as form
use Rattle.xs_cstmt.specs.declared.tree.PerlWord.{PerlWord}

-- the tokens fit these slots, all of them
abbrev pub FitAll : List (List ℕ) → List Part → List Token → Type 0
FitAll types [] ts = Unit {0}
FitAll types (s ∷ ss) [] = ⊥
FitAll types (s ∷ ss) (t ∷ ts) = (fits types s t ≡ true) × FitAll types ss ts

leads_all : (types : List (List ℕ)) (ss : List Part) (ts : List Token) → FitAll types ss ts → leads types ss ts ≡ true
leads_all types [] ts x = refl
leads_all types (s ∷ ss) [] x = absurd x
leads_all types (s ∷ ss) (t ∷ ts) x = rw (x.0) (or_right _ (leads types ss ts) (leads_all types ss ts x.1))

first_fits : (types : List (List ℕ)) (ss : List Part) (ts : List Token) → FitAll types ss ts → fits_first types ss ts ≡ true
first_fits types [] ts x = refl
first_fits types (s ∷ ss) [] x = absurd x
first_fits types (s ∷ ss) (t ∷ ts) x = x.0

pub spelt_sign : (m : List ℕ) (t : Token) → Is m t → is_spelt m t ≡ true
spelt_sign m t is =
    let h = and_parts (is_punct_kind t.kind) (bytes_eq t.text m) is in
    and_from (is_word_kind t.kind || is_punct_kind t.kind) (bytes_eq t.text m) (or_right (is_word_kind t.kind) (is_punct_kind t.kind) h.0) h.1

pub spelt_word : (m : List ℕ) (t : Token) → IsWord m t → is_spelt m t ≡ true
spelt_word m t is =
    let h = and_parts (is_word_kind t.kind) (bytes_eq t.text m) is in
    and_from (is_word_kind t.kind || is_punct_kind t.kind) (bytes_eq t.text m) (or_left (is_word_kind t.kind) (is_punct_kind t.kind) h.0) h.1

pub int_fits : (l : Literal) (t : Token) → t.kind ≡ kind.Int l → is_int t ≡ true
int_fits l t k = ap (λ s. option_map_or (λ x. true) (int_of s) false) k

pub text_fits : (x : List ℕ) (t : Token) → t.kind ≡ kind.Text x → is_text t ≡ true
text_fits x t k = ap (λ s. option_map_or (λ y. true) (text_of s) false) k

-- ---- the rows of the table

abbrev WordSlots : Form → List Part → Type 0
WordSlots (the.Word w) slots = (types : List (List ℕ)) (u : Token) (ts : List Token) → Is (codes ";") u → FitAll types slots (u ∷ ts)
WordSlots _ slots = Unit {0}

-- the first word of a form is none that begins another statement or a label
abbrev FormRow : List ℕ → Form × List Part → Type 0
FormRow word row =
    (listed openers word ≡ None) × (bytes_eq word (codes "case") ≡ false) × (bytes_eq word (codes "default") ≡ false) × WordSlots row.0 row.1

rows_are : EachRow FormRow forms
unfolding forms openers
rows_are = (
  (refl, refl, refl, (λ types u ts is. (spelt_sign (codes ";") u is, tt))),
  (
    (refl, refl, refl, (λ types u ts is. (spelt_sign (codes ";") u is, tt))),
    (
      (refl, refl, refl, (λ types u ts is. (spelt_sign (codes ";") u is, tt))),
      (
        (refl, refl, refl, (λ types u ts is. (spelt_sign (codes ";") u is, tt))),
        (
          (refl, refl, refl, (λ types u ts is. (spelt_sign (codes ";") u is, tt))),
          (
            (refl, refl, refl, (λ types u ts is. (spelt_sign (codes ";") u is, tt))),
            (
              (refl, refl, refl, (λ types u ts is. (spelt_sign (codes ";") u is, tt))),
              (
                (refl, refl, refl, (λ types u ts is. (spelt_sign (codes ";") u is, tt))),
                (
                  (refl, refl, refl, (λ types u ts is. (spelt_sign (codes ";") u is, tt))),
                  (
                    (refl, refl, refl, (λ types u ts is. (spelt_sign (codes ";") u is, tt))),
                    (
                      (refl, refl, refl, (λ types u ts is. (spelt_sign (codes ";") u is, tt))),
                      (
                        (refl, refl, refl, (λ types u ts is. (spelt_sign (codes ";") u is, tt))),
                        (
                          (refl, refl, refl, (λ types u ts is. (spelt_sign (codes ";") u is, tt))),
                          (
                            (refl, refl, refl, tt),
                            (
                              (refl, refl, refl, tt),
                              (
                                (refl, refl, refl, tt),
                                (
                                  (refl, refl, refl, tt),
                                  (
                                    (refl, refl, refl, tt),
                                    (
                                      (refl, refl, refl, tt),
                                      tt,
                                    ),
                                  ),
                                ),
                              ),
                            ),
                          ),
                        ),
                      ),
                    ),
                  ),
                ),
              ),
            ),
          ),
        ),
      ),
    ),
  ),
)

-- What comes is this form, and nothing else that begins a statement.
pub record Ahead (types : List (List ℕ)) (which : Form) (t : Token) (ts : List Token) : Type 0 where
  pub form_is : form_at types (t ∷ ts) ≡ Some which
  pub begins : begins_form_at types (t ∷ ts) ≡ true
  pub is_a_word : t.kind ≡ kind.Word
  pub no_opener : listed openers t.text ≡ None
  pub no_case : bytes_eq t.text (codes "case") ≡ false
  pub no_default : bytes_eq t.text (codes "default") ≡ false

-- a word with a row in the table
record HasRow (t : Token) (row : Form × List Part) : Type 0 where
  kind_is : t.kind ≡ kind.Word
  facts : FormRow t.text row

has_row : (t : Token) (row : Form × List Part) → form_row t ≡ Some row → HasRow t row
has_row t row e = by t.kind refl e
  where
    by : (k : TokKind) → t.kind ≡ k → (◌≡◌ {A = Option (Form × List Part)} (if is_word_kind k then listed forms t.text else None) (Some row)) → HasRow t row
    by kind.Word k f = record { kind_is = k; facts = found_row FormRow forms t.text row rows_are f }
    by k is f = absurd cc

pub ahead : (types : List (List ℕ)) (t : Token) (ts : List Token) (which : Form) (slots : List Part) → form_row t ≡ Some (which, slots) → FitAll types slots ts
    → Ahead types which t ts
ahead types t ts which slots row x =
    let h = has_row t (which, slots) row in
    record {
      form_is = rw (row, or_right (is_type types t) (leads types slots ts) (leads_all types slots ts x)) refl;
      begins = rw row (first_fits types slots ts x);
      is_a_word = h.kind_is;
      no_opener = h.facts.0;
      no_case = h.facts.1;
      no_default = h.facts.2;
    }

pub row_of : (word : List ℕ) (t : Token) → IsWord word t → form_row t ≡ listed forms word
row_of word t is = let k = is_word_of word t is in rw (k.0, k.1) refl

-- a form that has been read
pub data FormRead (b : Input) : PerlForm → List Token → List Token → Type 0 where
  form_is_read : {which : Form} {p : PerlForm} {t : Token} {ts us : List Token} → Ahead b.types which t ts
      → form_of which (at b (t ∷ ts)) ≡ Ok (p, at b us) → FormRead b p (t ∷ ts) us

module _ (b : Input) where
  word_read : (w : PerlWord) (t u : Token) (ts : List Token) → Is (codes ";") u → form_of (the.Word w) (at b (t ∷ u ∷ ts)) ≡ Ok (form.Word w, at b ts)
  unfolding expect sees next
  word_read w t u ts is = rw is refl

  reset_stack_read : (t c d e : Token) (ts : List Token) → Is (codes "-=") c → IsWord (codes "items") d → Is (codes ";") e
      → form_of the.ResetStack (at b (t ∷ c ∷ d ∷ e ∷ ts)) ≡ Ok (form.ResetStack, at b ts)
  unfolding reset_stack expect expect_word sees sees_word next
  reset_stack_read t c d e ts x y z = rw (x, y, z) refl

  set_index_read : (l : Literal) (t c d e f h : Token) (ts : List Token) → Is (codes ".") c → IsWord (codes "any_i32") d → Is (codes "=") e
      → f.kind ≡ kind.Int l → Is (codes ";") h
      → form_of the.SetIndex (at b (t ∷ c ∷ d ∷ e ∷ f ∷ h ∷ ts)) ≡ Ok (form.SetIndex l, at b ts)
  unfolding set_index an_int int_ahead expect expect_word sees sees_word next
  set_index_read l t c d e f h ts x y z k q = let int_is : int_of f.kind ≡ Some l = ap int_of k in rw (x, y, z, int_is, q) refl

  new_xs_read : (keeps : Bool) (full : List ℕ) (c d e f n h i : Token) (ts : List Token) → IsWord (codes "newXS_deffile") c → Is (codes "(") d
      → e.kind ≡ kind.Text full → Is (codes ",") f → IsVariable b.types n → Is (codes ")") h → Is (codes ";") i
      → new_xs keeps (at b (c ∷ d ∷ e ∷ f ∷ n ∷ h ∷ i ∷ ts)) ≡ Ok (form.NewXs keeps full n.text, at b ts)
  unfolding new_xs a_text text_ahead a_variable sees_variable spelling expect expect_word sees sees_word next
  new_xs_read keeps full c d e f n h i ts x y k z v p q = let text_is : text_of e.kind ≡ Some full = ap text_of k in rw (x, y, text_is, z, v, p, q) refl

  kept_new_xs_read : (full : List ℕ) (t a c d e f n h i : Token) (ts : List Token) → Is (codes "=") a → IsWord (codes "newXS_deffile") c → Is (codes "(") d
      → e.kind ≡ kind.Text full → Is (codes ",") f → IsVariable b.types n → Is (codes ")") h → Is (codes ";") i
      → form_of the.KeptNewXs (at b (t ∷ a ∷ c ∷ d ∷ e ∷ f ∷ n ∷ h ∷ i ∷ ts)) ≡ Ok (form.NewXs true full n.text, at b ts)
  unfolding kept_new_xs expect sees next
  kept_new_xs_read full t a c d e f n h i ts w x y k z v p q = rw w (new_xs_read true full c d e f n h i ts x y k z v p q)

  new_record_read : (t c d e f m n i j : Token) (ts : List Token) → Is (codes "(") c → IsVariable b.types d → Is (codes ",") e → is_one f ≡ true
      → Is (codes ",") m → MayName n → Is (codes ")") i → Is (codes ";") j
      → form_of the.NewRecord (at b (t ∷ c ∷ d ∷ e ∷ f ∷ m ∷ n ∷ i ∷ j ∷ ts)) ≡ Ok (form.NewRecord d.text n.text, at b ts)
  unfolding new_record a_variable sees_variable a_name sees_name expect_one sees_one spelling expect sees next
  new_record_read t c d e f m n i j ts x v y o z k p q = rw (x, v, y, o, z, k, p, q) refl

  unused_read : (t c d e i : Token) (ts : List Token) → Is (codes "(") c → IsVariable b.types d → Is (codes ")") e → Is (codes ";") i
      → form_of the.Unused (at b (t ∷ c ∷ d ∷ e ∷ i ∷ ts)) ≡ Ok (form.Unused d.text, at b ts)
  unfolding unused a_variable sees_variable spelling expect sees next
  unused_read t c d e i ts x v p q = rw (x, v, p, q) refl

  pub form_read : {p : PerlForm} {ts us : List Token} → Formed b.types p ts us → FormRead b p ts us
  unfolding forms
  form_read (g.word {w = w} {slots = slots} {t = t} {u = u} {ts = ts} row is) =
      form_is_read (ahead b.types t (u ∷ ts) (the.Word w) slots row ((has_row t (the.Word w, slots) row).facts.3 b.types u ts is)) (word_read w t u ts is)
  form_read (g.reset_stack {a = t} {b = c} {c = d} {d = e} {ts = ts} w x y z) =
      form_is_read (ahead b.types t (c ∷ d ∷ e ∷ ts) the.ResetStack _ (row_of (codes "SP") t w)
      (spelt_sign (codes "-=") c x, (spelt_word (codes "items") d y, (spelt_sign (codes ";") e z, tt))))
      (reset_stack_read t c d e ts x y z)
  form_read (g.set_index {literal = l} {a = t} {b = c} {c = d} {d = e} {e = f} {f = h} {ts = ts} w x y z k q) =
      form_is_read (ahead b.types t (c ∷ d ∷ e ∷ f ∷ h ∷ ts) the.SetIndex _ (row_of (codes "XSANY") t w)
      (spelt_sign (codes ".") c x, (spelt_word (codes "any_i32") d y, (spelt_sign (codes "=") e z, (int_fits l f k, (spelt_sign (codes ";") h q, tt))))))
      (set_index_read l t c d e f h ts x y z k q)
  form_read (g.new_xs {full = full} {a = c} {b = d} {c = e} {d = f} {e = n} {f = h} {g = i} {ts = ts} x y k z v p q) =
      form_is_read (ahead b.types c (d ∷ e ∷ f ∷ n ∷ h ∷ i ∷ ts) the.NewXs _ (row_of (codes "newXS_deffile") c x)
      (spelt_sign (codes "(") d y, (text_fits full e k, (spelt_sign (codes ",") f z, (v, (spelt_sign (codes ")") h p, (spelt_sign (codes ";") i q, tt)))))))
      (new_xs_read false full c d e f n h i ts x y k z v p q)
  form_read (g.kept_new_xs {full = full} {a = t} {b = a} {c = c} {d = d} {e = e} {f = f} {g = n} {h = h} {i = i} {ts = ts} w o x y k z v p q) =
      form_is_read (ahead b.types t (a ∷ c ∷ d ∷ e ∷ f ∷ n ∷ h ∷ i ∷ ts) the.KeptNewXs _ (row_of (codes "cv") t w) (
        spelt_sign (codes "=") a o,
        (
          spelt_word (codes "newXS_deffile") c x,
          (
            spelt_sign (codes "(") d y,
            (
              text_fits full e k,
              (
                spelt_sign (codes ",") f z,
                (v, (spelt_sign (codes ")") h p, (spelt_sign (codes ";") i q, tt))),
              ),
            ),
          ),
        ),
      ))
      (kept_new_xs_read full t a c d e f n h i ts o x y k z v p q)
  form_read (g.new_record {a = t} {b = c} {c = d} {d = e} {e = f} {f = m} {g = n} {h = i} {i = j} {ts = ts} w x v y o z k p q) =
      form_is_read (ahead b.types t (c ∷ d ∷ e ∷ f ∷ m ∷ n ∷ i ∷ j ∷ ts) the.NewRecord _ (row_of (codes "Newxz") t w) (
        spelt_sign (codes "(") c x,
        (
          v,
          (
            spelt_sign (codes ",") e y,
            (
              o,
              (
                spelt_sign (codes ",") m z,
                (
                  k,
                  (
                    spelt_sign (codes ")") i p,
                    (spelt_sign (codes ";") j q, tt),
                  ),
                ),
              ),
            ),
          ),
        ),
      ))
      (new_record_read t c d e f m n i j ts x v y o z k p q)
  form_read (g.unused {a = t} {b = c} {c = d} {d = e} {e = i} {ts = ts} w x v p q) =
      form_is_read (ahead b.types t (c ∷ d ∷ e ∷ i ∷ ts) the.Unused _ (row_of (codes "PERL_UNUSED_VAR") t w)
      (spelt_sign (codes "(") c x, (v, (spelt_sign (codes ")") e p, (spelt_sign (codes ";") i q, tt)))))
      (unused_read t c d e i ts x v p q)

  -- a form, read as a statement
  pub perl_form_done : (which : Form) (t : Token) (ts us : List Token) (p : PerlForm) → form_of which (at b (t ∷ ts)) ≡ Ok (p, at b us)
      → perl_form which (at b (t ∷ ts)) ≡ Ok (tree.Perl t.span.line p, at b us)
  unfolding perl_form line
  perl_form_done which t ts us p r = rw r refl
