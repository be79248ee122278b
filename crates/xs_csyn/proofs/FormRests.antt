-- What stands after the first word of a form of the XS interface rests on the tokens that are passed and on the next one.
use Rattle.std.proofs.Common.{◌≡◌, ℕ, suc, ◌<◌, Bool, true, false, List, [], ◌∷◌, ◌++◌, length, Some, Result, Ok, Err, refl, ap, sym, ◌∙◌, arith}
use Rattle.std.specs.Prelude.{codes}
use Rattle.xs_base.proofs.ReaderSteps.{same_outcome}
use Rattle.xs_base.specs.Readers.{◌>>=◌, ◌>>◌, pure}
use Rattle.xs_base.specs.declared.fault.Fault.{Fault}
use Rattle.xs_ctok.specs.declared.token.Token.{Token}
use Rattle.xs_csyn.proofs.FormSlots.{Fitting, Going, all_fit, filled, fits_sign, fits_word, fitting_are_spelt, int_kind, one_fits, form_slots, text_kind}
use Rattle.xs_csyn.proofs.FormsSound.{WordOf}
use Rattle.xs_csyn.proofs.Local.{Local, NextTells, alike, bind, by_option, comes_to, expect_local, expect_word_local, gives, name_local, passed_local, proper, refused, same_first, skip_local, turned, variable_local}
use Rattle.xs_csyn.specs.FaultPlaces.{SameNext}
use Rattle.xs_csyn.proofs.Marks.{is_word_from}
use Rattle.xs_csyn.proofs.PlainLocal.{int_tells}
use Rattle.xs_csyn.specs.Grammar.{IsVariable}
use Rattle.xs_cstmt.specs.PerlForms.{a_text, an_int, expect_one, first_text, form_of, int_ahead, int_of, is_one, kept_new_xs, new_record, new_xs, registered, reset_stack, sees_one, set_index, text_ahead, text_of, unused}
use Rattle.xs_csyn.specs.TokenTexts.{AreSpelt, IsSpelt}
use Rattle.xs_cinput.specs.TokenInput.{Input, Reader, a_name, a_variable, expect, expect_word, is_word_kind, next, sees, sees_name, sees_variable, sees_word, spelling}
use Rattle.xs_cstmt.specs.declared.forms.Form.{Form}
use Rattle.xs_cstmt.specs.declared.forms.Form.TheVariants as the
use Rattle.xs_cstmt.specs.declared.tree.PerlForm.{PerlForm}
use Rattle.xs_cstmt.specs.declared.tree.PerlForm.TheVariants as form

-- ---- the readers after the first word

abbrev pub reset_rest : Reader PerlForm
reset_rest = do
  expect (codes "-=")
  expect_word (codes "items")
  expect (codes ";")
  pure form.ResetStack

abbrev pub index_rest : Reader PerlForm
index_rest = do
  expect (codes ".")
  expect_word (codes "any_i32")
  expect (codes "=")
  literal ← an_int
  expect (codes ";")
  pure (form.SetIndex literal)

abbrev pub new_xs_rest : Bool → Reader PerlForm
new_xs_rest keeps = do
  expect (codes "(")
  full ← a_text
  registered keeps full

abbrev pub kept_rest : Reader PerlForm
kept_rest = do
  expect (codes "=")
  expect_word (codes "newXS_deffile")
  new_xs_rest true

abbrev pub record_rest : Reader PerlForm
record_rest = do
  expect (codes "(")
  pointer ← a_variable
  expect (codes ",")
  expect_one
  expect (codes ",")
  of_type ← a_name
  expect (codes ")")
  expect (codes ";")
  pure (form.NewRecord pointer of_type)

abbrev pub unused_rest : Reader PerlForm
unused_rest = do
  expect (codes "(")
  name ← a_variable
  expect (codes ")")
  expect (codes ";")
  pure (form.Unused name)

abbrev pub form_rest : Form → Reader PerlForm
form_rest (the.Word w) = expect (codes ";") >> pure (form.Word w)
form_rest the.ResetStack = reset_rest
form_rest the.SetIndex = index_rest
form_rest the.NewXs = new_xs_rest false
form_rest the.KeptNewXs = kept_rest
form_rest the.NewRecord = record_rest
form_rest the.Unused = unused_rest

pub form_first : (b : Input) (which : Form) (t : Token) (us : List Token) (k : ℕ) → is_word_kind t.kind ≡ true → WordOf which t.text
    → form_of which (turned b k (t ∷ us)) ≡ form_rest which (turned b k us)
unfolding reset_stack set_index new_xs kept_new_xs new_record unused expect_word sees_word next
form_first b (the.Word w) t us k is e = refl
form_first b the.ResetStack t us k is e = refl
form_first b the.SetIndex t us k is e = refl
form_first b the.NewXs t us k is e = rw (is_word_from (codes "newXS_deffile") t is e) refl
form_first b the.KeptNewXs t us k is e = refl
form_first b the.NewRecord t us k is e = refl
form_first b the.Unused t us k is e = refl

module _ (b : Input) where
  int_local : (ts : List Token) → Local proper b (λ k. an_int) ts
  unfolding an_int
  int_local ts = by_option int_ahead (int_tells b ts) (λ l is. bind (skip_local b ts) (λ u e. gives b l _)) (λ none. refused b ts)

  pub text_tells : (ts : List Token) → NextTells b text_ahead ts
  unfolding text_ahead
  text_tells ts us k e = same_first first_text (λ t. text_of t.kind) (λ t js. refl) ts us e

  text_local : (ts : List Token) → Local proper b (λ k. a_text) ts
  unfolding a_text
  text_local ts = by_option text_ahead (text_tells ts) (λ x is. bind (skip_local b ts) (λ u e. gives b x _)) (λ none. refused b ts)

  one_local : (ts : List Token) → Local proper b (λ k. expect_one) ts
  unfolding expect_one sees_one
  one_local ts = alike (passed_local b is_one ts) (λ us k e g. refl)

  new_xs_local : (keeps : Bool) (ts : List Token) → Local proper b (λ k. new_xs_rest keeps) ts
  new_xs_local keeps ts =
      bind (expect_local b (codes "(") ts)
      (λ u e. bind (text_local _)
      (λ full f. bind (expect_local b (codes ",") _)
      (λ v h. bind (variable_local b _)
      (λ function j. bind (expect_local b (codes ")") _)
      (λ w l. bind (expect_local b (codes ";") _) (λ x m. gives b (form.NewXs keeps full function) _))))))

  pub rest_local : (which : Form) (ts : List Token) → Local proper b (λ k. form_rest which) ts
  rest_local (the.Word w) ts = bind (expect_local b (codes ";") ts) (λ u e. gives b (form.Word w) _)
  rest_local the.ResetStack ts =
      bind (expect_local b (codes "-=") ts)
      (λ u e. bind (expect_word_local b (codes "items") _) (λ v f. bind (expect_local b (codes ";") _) (λ w h. gives b form.ResetStack _)))
  rest_local the.SetIndex ts =
      bind (expect_local b (codes ".") ts)
      (λ u e. bind (expect_word_local b (codes "any_i32") _)
      (λ v f. bind (expect_local b (codes "=") _)
      (λ w h. bind (int_local _) (λ l j. bind (expect_local b (codes ";") _) (λ x m. gives b (form.SetIndex l) _)))))
  rest_local the.NewXs ts = new_xs_local false ts
  rest_local the.KeptNewXs ts =
      bind (expect_local b (codes "=") ts) (λ u e. bind (expect_word_local b (codes "newXS_deffile") _) (λ v f. new_xs_local true _))
  rest_local the.NewRecord ts =
      bind (expect_local b (codes "(") ts)
      (λ u e. bind (variable_local b _)
      (λ pointer f. bind (expect_local b (codes ",") _)
      (λ v h. bind (one_local _)
      (λ w j. bind (expect_local b (codes ",") _)
      (λ x l. bind (name_local b _)
      (λ of_type m. bind (expect_local b (codes ")") _)
      (λ y n. bind (expect_local b (codes ";") _) (λ z q. gives b (form.NewRecord pointer of_type) _))))))))
  rest_local the.Unused ts =
      bind (expect_local b (codes "(") ts)
      (λ u e. bind (variable_local b _)
      (λ name f. bind (expect_local b (codes ")") _) (λ v h. bind (expect_local b (codes ";") _) (λ w j. gives b (form.Unused name) _))))

  -- ---- tokens that fit all slots are read

  pub fitting_read : (which : Form) {ts : List Token} → Fitting b.types (form_slots which) ts → (k : ℕ)
      → (p : PerlForm) × (form_rest which (turned b k ts) ≡ Ok (p, turned b k []))
  unfolding an_int int_ahead a_text text_ahead expect_one sees_one a_variable sees_variable a_name sees_name spelling expect expect_word sees sees_word next
  fitting_read (the.Word w) (one_fits {t = a} f x all_fit) k = (form.Word w, rw (fits_sign (codes ";") a refl f x) refl)
  fitting_read the.ResetStack (one_fits {t = a} f x (one_fits {t = c} f' x' (one_fits {t = d} f'' x'' all_fit))) k = (
    form.ResetStack,
    rw (fits_sign (codes "-=") a refl f x, fits_word (codes "items") c refl f' x', fits_sign (codes ";") d refl f'' x'') refl,
  )
  fitting_read the.SetIndex
      (one_fits {t = a} f x (one_fits {t = c} f' x' (one_fits {t = d} f2 x2 (one_fits {t = e} f3 x3 (one_fits {t = g} f4 x4 all_fit))))) k =
      let l = int_kind e.kind f3 in
      let int_is : int_of e.kind ≡ Some l.0 = ap int_of l.1 in (
        form.SetIndex l.0,
        rw (
          fits_sign (codes ".") a refl f x,
          fits_word (codes "any_i32") c refl f' x',
          fits_sign (codes "=") d refl f2 x2,
          int_is,
          fits_sign (codes ";") g refl f4 x4,
        ) refl,
      )
  fitting_read the.NewXs
      (one_fits {t = a} f x (one_fits {t = c} f' x' (one_fits {t = d} f2 x2 (one_fits {t = e} f3 x3 (one_fits {t = g} f4 x4
      (one_fits {t = h} f5 x5 all_fit)))))) k =
      let l = text_kind c.kind f' in
      let text_is : text_of c.kind ≡ Some l.0 = ap text_of l.1 in (
        form.NewXs false l.0 e.text,
        rw (
          fits_sign (codes "(") a refl f x,
          text_is,
          fits_sign (codes ",") d refl f2 x2,
          f3,
          fits_sign (codes ")") g refl f4 x4,
          fits_sign (codes ";") h refl f5 x5,
        ) refl,
      )
  fitting_read the.KeptNewXs
      (one_fits {t = q} j y (one_fits {t = r} j' y'
      (one_fits {t = a} f x (one_fits {t = c} f' x' (one_fits {t = d} f2 x2 (one_fits {t = e} f3 x3 (one_fits {t = g} f4 x4
      (one_fits {t = h} f5 x5 all_fit)))))))) k =
      let l = text_kind c.kind f' in
      let text_is : text_of c.kind ≡ Some l.0 = ap text_of l.1 in (
        form.NewXs true l.0 e.text,
        rw (
          fits_sign (codes "=") q refl j y,
          fits_word (codes "newXS_deffile") r refl j' y',
          fits_sign (codes "(") a refl f x,
          text_is,
          fits_sign (codes ",") d refl f2 x2,
          f3,
          fits_sign (codes ")") g refl f4 x4,
          fits_sign (codes ";") h refl f5 x5,
        ) refl,
      )
  fitting_read the.NewRecord
      (one_fits {t = q} j y (one_fits {t = r} j' y'
      (one_fits {t = a} f x (one_fits {t = c} f' x' (one_fits {t = d} f2 x2 (one_fits {t = e} f3 x3 (one_fits {t = g} f4 x4
      (one_fits {t = h} f5 x5 all_fit)))))))) k = (
        form.NewRecord r.text e.text,
        rw (
          fits_sign (codes "(") q refl j y,
          j',
          fits_sign (codes ",") a refl f x,
          f',
          fits_sign (codes ",") d refl f2 x2,
          f3,
          fits_sign (codes ")") g refl f4 x4,
          fits_sign (codes ";") h refl f5 x5,
        ) refl,
      )
  fitting_read the.Unused (one_fits {t = a} f x (one_fits {t = c} f' x' (one_fits {t = d} f2 x2 (one_fits {t = e} f3 x3 all_fit)))) k = (
    form.Unused c.text,
    rw (fits_sign (codes "(") a refl f x, f', fits_sign (codes ")") d refl f2 x2, fits_sign (codes ";") e refl f3 x3) refl,
  )

-- ---- a reading does not stop where it could go on

no_answer : {A : Type 0} (b : Input) (k : ℕ) (answer : Result A Bool) (w : Token) (more : List Token) (a : A)
    → comes_to answer (turned b k (w ∷ more)) ≡ Ok (a, turned b k []) → ⊥
no_answer b k (Ok c) w more a e =
    let s = same_outcome {E = Fault} c a (turned b k (w ∷ more)) (turned b k []) e in
    let none : ◌≡◌ {A = List Token} (w ∷ more) [] = ap (λ (i : Input). i.rest) s.1 in
    absurd cc
no_answer b k (Err d) w more a e = absurd cc

-- Where all that comes after the next token is read to the end, no reader has stopped at that token.
pub not_there : {A : Type 0} {b : Input} {r : ℕ → Reader A} {ts : List Token} (x : Local proper b r ts) (w : Token) (more : List Token)
    → SameNext x.rest (w ∷ more)
    → AreSpelt (x.front ++ w ∷ more)
    → ((k : ℕ) → length (x.front ++ w ∷ more) < k → (a : A) × (r k (turned b k (x.front ++ w ∷ more)) ≡ Ok (a, turned b k []))) → ⊥
not_there {b = b} x w more e spelt_all reads =
    let k : ℕ = suc (length (x.front ++ w ∷ more)) in
    let read = reads k (omega arith) in
    no_answer b k x.answer w more read.0 (sym (x.same (w ∷ more) k e (omega arith, spelt_all)) ∙ read.1)

-- the reader of a form does not stop at a token that fits
pub form_not_there : (b : Input) (which : Form) {ts : List Token} (x : Local proper b (λ k. form_rest which) ts)
    → Going b.types (form_slots which) x.front x.rest
    → (t : Token) → IsVariable b.types t → IsSpelt t → ⊥
form_not_there b which x going t v is =
    let y = filled going t v is in not_there x y.first y.more y.next (fitting_are_spelt y.fit) (λ k few. fitting_read b which y.fit k)
