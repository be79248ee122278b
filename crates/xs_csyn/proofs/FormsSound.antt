-- What is read as a statement of the XS interface is in the grammar.
use Rattle.std.proofs.Common.{◌≡◌, ℕ, Bool, true, false, if◌then◌else◌, ◌||◌, List, [], ◌∷◌, Option, Some, None, refl, ap}
use Rattle.std.proofs.lemmas.Option.{same_Some}
use Rattle.std.specs.Option.{option_map_or}
use Rattle.std.specs.Prelude.{codes}
use Rattle.xs_base.specs.Readers.{◌>>◌, and_then, pure}
use Rattle.xs_ctok.specs.declared.token.Literal.{Literal}
use Rattle.xs_ctok.specs.declared.token.TokKind.{TokKind}
use Rattle.xs_ctok.specs.declared.token.TokKind.TheVariants as kind
use Rattle.xs_ctok.specs.declared.token.Token.{Token}
use Rattle.xs_csyn.proofs.Marks.{is_word_from}
use Rattle.xs_cinput.proofs.Tables.{EachRow, found_row}
use Rattle.xs_csyn.proofs.Yields.{Yields, at, by_expect, by_name, by_passed, by_variable, by_word, done, fails, step}
use Rattle.xs_csyn.specs.Grammar.{Is, IsVariable, IsWord}
use Rattle.xs_cinput.specs.Operators.{listed}
use Rattle.xs_cstmt.specs.PerlForms.{Part, a_text, an_int, expect_one, form_at, form_of, form_row, forms, if_leads, int_ahead, int_of, is_one, kept_new_xs, leads, new_record, new_xs, perl_form, reset_stack, sees_one, set_index, text_ahead, text_of, unused}
use Rattle.xs_csyn.specs.StatementGrammar as g
use Rattle.xs_csyn.specs.StatementGrammar.{Form as Formed}
use Rattle.xs_cstmt.specs.StatementTree as tree
use Rattle.xs_cinput.specs.TokenInput.{Input, Reader, is_type, is_word_kind, line, next, refuse, skip}
use Rattle.xs_cstmt.specs.declared.forms.Form.{Form}
use Rattle.xs_cstmt.specs.declared.forms.Form.TheVariants as the
use Rattle.xs_cstmt.specs.declared.tree.PerlForm.{PerlForm}
use Rattle.xs_cstmt.specs.declared.tree.PerlForm.TheVariants as form

-- ---- integers and texts

pub int_kind : (k : TokKind) (l : Literal) → int_of k ≡ Some l → k ≡ kind.Int l
int_kind (kind.Int x) l e = ap kind.Int (same_Some x l e)
int_kind k l e = absurd cc

pub text_kind : (k : TokKind) (x : List ℕ) → text_of k ≡ Some x → k ≡ kind.Text x
text_kind (kind.Text y) x e = ap kind.Text (same_Some y x e)
text_kind k x e = absurd cc

option_ways : {A V : Type 0} {b : Input} {P : A → List Token → Type 0} (o : Option V) (i : Input) (go : V → Reader A)
    → ((v : V) → o ≡ Some v → Yields b (go v (next i)) P) → Yields b (and_then (option_map_or {U = Reader V} (λ v. skip >> pure v) o refuse i) go) P
option_ways None i go x = fails _
option_ways (Some v) i go x = x v refl

by_int : {A : Type 0} {b : Input} (F : List Token → Type 0) (P : List Token → A → List Token → Type 0) (ts : List Token) (go : Literal → Reader A) → F ts
    → ((u : Token) (us : List Token) (l : Literal) → F (u ∷ us) → u.kind ≡ kind.Int l → Yields b (go l (at b us)) (P (u ∷ us)))
    → Yields b (and_then (an_int (at b ts)) go) (P ts)
unfolding an_int int_ahead next
by_int F P [] go f x = fails _
by_int {A} {b} F P (u ∷ us) go f x = option_ways (int_of u.kind) (at b (u ∷ us)) go (λ l e. x u us l f (int_kind u.kind l e))

by_text : {A : Type 0} {b : Input} (F : List Token → Type 0) (P : List Token → A → List Token → Type 0) (ts : List Token) (go : List ℕ → Reader A) → F ts
    → ((u : Token) (us : List Token) (l : List ℕ) → F (u ∷ us) → u.kind ≡ kind.Text l → Yields b (go l (at b us)) (P (u ∷ us)))
    → Yields b (and_then (a_text (at b ts)) go) (P ts)
unfolding a_text text_ahead next
by_text F P [] go f x = fails _
by_text {A} {b} F P (u ∷ us) go f x = option_ways (text_of u.kind) (at b (u ∷ us)) go (λ l e. x u us l f (text_kind u.kind l e))

by_one : {A : Type 0} {b : Input} (F : List Token → Type 0) (P : List Token → A → List Token → Type 0) (ts : List Token) (go : Unit {0} → Reader A) → F ts
    → ((u : Token) (us : List Token) → F (u ∷ us) → is_one u ≡ true → Yields b (go tt (at b us)) (P (u ∷ us)))
    → Yields b (and_then (expect_one (at b ts)) go) (P ts)
unfolding expect_one sees_one
by_one F P ts go f x = by_passed F P is_one ts go f x

-- ---- the first word of a form

abbrev pub WordOf : Form → List ℕ → Type 0
WordOf (the.Word w) word = Unit {0}
WordOf the.ResetStack word = word ≡ codes "SP"
WordOf the.SetIndex word = word ≡ codes "XSANY"
WordOf the.NewXs word = word ≡ codes "newXS_deffile"
WordOf the.KeptNewXs word = word ≡ codes "cv"
WordOf the.NewRecord word = word ≡ codes "Newxz"
WordOf the.Unused word = word ≡ codes "PERL_UNUSED_VAR"

abbrev pub RowOf : List ℕ → Form × List Part → Type 0
RowOf word row = WordOf row.0 word

pub rows_are : EachRow RowOf forms
unfolding forms
rows_are = (tt, (tt, (tt, (tt, (tt, (tt, (tt, (tt, (tt, (tt, (tt, (tt, (tt, (refl, (refl, (refl, (refl, (refl, (refl, tt)))))))))))))))))))

-- the token is a word of the table, of this form
pub record Begins (which : Form) (t : Token) : Type 0 where
  pub slots : List Part
  pub is : form_row t ≡ Some (which, slots)
  pub is_a_word : is_word_kind t.kind ≡ true
  pub spelt : WordOf which t.text

pub begins_by : (t : Token) (row : Form × List Part) → form_row t ≡ Some row → Begins row.0 t
begins_by t row e = by (is_word_kind t.kind) refl e
  where
    by : (c : Bool) → is_word_kind t.kind ≡ c → (if c then listed forms t.text else None) ≡ Some row → Begins row.0 t
    by true k f = record { slots = row.1; is = e; is_a_word = k; spelt = found_row RowOf forms t.text row rows_are f }
    by false k f = absurd cc

pub begins : (types : List (List ℕ)) (t : Token) (ts : List Token) (which : Form) → form_at types (t ∷ ts) ≡ Some which → Begins which t
begins types t ts which e = by (form_row t) refl e
  where
    chosen : (row : Form × List Part) → form_row t ≡ Some row → (c : Bool) → (if c then Some row.0 else None) ≡ Some which → Begins which t
    chosen row r true e = let same : row.0 ≡ which = same_Some row.0 which e in rw (← same) (begins_by t row r)
    chosen row r false e = absurd cc

    by : (o : Option (Form × List Part)) → form_row t ≡ o → option_map_or (if_leads types t ts) o None ≡ Some which → Begins which t
    by None r e = absurd cc
    by (Some row) r e = chosen row r (is_type types t || leads types row.1 ts) e

-- ---- the forms

module _ (b : Input) where
  -- What is read stands after the tokens that were passed before.
  new_xs_yields : (keeps : Bool) (W : List Token → PerlForm → List Token → Type 0)
      → ((full : List ℕ) (c d e f g h i : Token) (ts : List Token) → IsWord (codes "newXS_deffile") c → Is (codes "(") d → e.kind ≡ kind.Text full
      → Is (codes ",") f → IsVariable b.types g → Is (codes ")") h → Is (codes ";") i
      → W (c ∷ d ∷ e ∷ f ∷ g ∷ h ∷ i ∷ ts) (form.NewXs keeps full g.text) ts)
      → (ts : List Token) → Yields b (new_xs keeps (at b ts)) (W ts)
  unfolding new_xs
  new_xs_yields keeps W make ts =
      by_word (λ _. Unit {0}) W (codes "newXS_deffile") ts _ tt
      (λ c us _ x. by_expect (λ _. Unit {0}) (λ js. W (c ∷ js)) (codes "(") us _ tt
      (λ d vs _ y. by_text (λ _. Unit {0}) (λ js. W (c ∷ d ∷ js)) vs _ tt
      (λ e ws full _ k. by_expect (λ _. Unit {0}) (λ js. W (c ∷ d ∷ e ∷ js)) (codes ",") ws _ tt
      (λ f xs _ z. by_variable (λ _. Unit {0}) (λ js. W (c ∷ d ∷ e ∷ f ∷ js)) xs _ tt
      (λ n ys _ v. by_expect (λ _. Unit {0}) (λ js. W (c ∷ d ∷ e ∷ f ∷ n ∷ js)) (codes ")") ys _ tt
      (λ h zs _ p. by_expect (λ _. Unit {0}) (λ js. W (c ∷ d ∷ e ∷ f ∷ n ∷ h ∷ js)) (codes ";") zs _ tt
      (λ i rest _ q. done _ rest (make full c d e f n h i rest x y k z v p q))))))))

  reset_stack_yields : (t : Token) (ts : List Token) → IsWord (codes "SP") t
      → Yields b (reset_stack (at b (t ∷ ts))) (λ p us. Formed b.types p (t ∷ ts) us)
  unfolding reset_stack next
  reset_stack_yields t ts w =
      by_expect (λ _. Unit {0}) (λ js p us. Formed b.types p (t ∷ js) us) (codes "-=") ts _ tt
      (λ u us _ x. by_word (λ _. Unit {0}) (λ js p us. Formed b.types p (t ∷ u ∷ js) us) (codes "items") us _ tt
      (λ v vs _ y. by_expect (λ _. Unit {0}) (λ js p us. Formed b.types p (t ∷ u ∷ v ∷ js) us) (codes ";") vs _ tt
      (λ z ws _ q. done _ ws (g.reset_stack w x y q))))

  set_index_yields : (t : Token) (ts : List Token) → IsWord (codes "XSANY") t
      → Yields b (set_index (at b (t ∷ ts))) (λ p us. Formed b.types p (t ∷ ts) us)
  unfolding set_index next
  set_index_yields t ts w =
      by_expect (λ _. Unit {0}) (λ js p us. Formed b.types p (t ∷ js) us) (codes ".") ts _ tt
      (λ c us _ x. by_word (λ _. Unit {0}) (λ js p us. Formed b.types p (t ∷ c ∷ js) us) (codes "any_i32") us _ tt
      (λ d vs _ y. by_expect (λ _. Unit {0}) (λ js p us. Formed b.types p (t ∷ c ∷ d ∷ js) us) (codes "=") vs _ tt
      (λ e ws _ z. by_int (λ _. Unit {0}) (λ js p us. Formed b.types p (t ∷ c ∷ d ∷ e ∷ js) us) ws _ tt
      (λ n xs l _ k. by_expect (λ _. Unit {0}) (λ js p us. Formed b.types p (t ∷ c ∷ d ∷ e ∷ n ∷ js) us) (codes ";") xs _ tt
      (λ i ys _ q. done _ ys (g.set_index w x y z k q))))))

  kept_new_xs_yields : (t : Token) (ts : List Token) → IsWord (codes "cv") t
      → Yields b (kept_new_xs (at b (t ∷ ts))) (λ p us. Formed b.types p (t ∷ ts) us)
  unfolding kept_new_xs next
  kept_new_xs_yields t ts w =
      by_expect (λ _. Unit {0}) (λ js p us. Formed b.types p (t ∷ js) us) (codes "=") ts _ tt
      (λ u us _ x. new_xs_yields true (λ js p vs. Formed b.types p (t ∷ u ∷ js) vs) (λ full c d e f n h i vs y z k q v p r. g.kept_new_xs w x y z k q v p r) us)

  new_record_yields : (t : Token) (ts : List Token) → IsWord (codes "Newxz") t
      → Yields b (new_record (at b (t ∷ ts))) (λ p us. Formed b.types p (t ∷ ts) us)
  unfolding new_record next
  new_record_yields t ts w =
      by_expect (λ _. Unit {0}) (λ js p us. Formed b.types p (t ∷ js) us) (codes "(") ts _ tt
      (λ c us _ x. by_variable (λ _. Unit {0}) (λ js p us. Formed b.types p (t ∷ c ∷ js) us) us _ tt
      (λ d vs _ v. by_expect (λ _. Unit {0}) (λ js p us. Formed b.types p (t ∷ c ∷ d ∷ js) us) (codes ",") vs _ tt
      (λ e ws _ y. by_one (λ _. Unit {0}) (λ js p us. Formed b.types p (t ∷ c ∷ d ∷ e ∷ js) us) ws _ tt
      (λ f xs _ o. by_expect (λ _. Unit {0}) (λ js p us. Formed b.types p (t ∷ c ∷ d ∷ e ∷ f ∷ js) us) (codes ",") xs _ tt
      (λ m ys _ z. by_name (λ _. Unit {0}) (λ js p us. Formed b.types p (t ∷ c ∷ d ∷ e ∷ f ∷ m ∷ js) us) ys _ tt
      (λ n zs _ k. by_expect (λ _. Unit {0}) (λ js p us. Formed b.types p (t ∷ c ∷ d ∷ e ∷ f ∷ m ∷ n ∷ js) us) (codes ")") zs _ tt
      (λ i rest _ p. by_expect (λ _. Unit {0}) (λ js p us. Formed b.types p (t ∷ c ∷ d ∷ e ∷ f ∷ m ∷ n ∷ i ∷ js) us) (codes ";") rest _ tt
      (λ j bs _ q. done _ bs (g.new_record w x v y o z k p q)))))))))

  unused_yields : (t : Token) (ts : List Token) → IsWord (codes "PERL_UNUSED_VAR") t
      → Yields b (unused (at b (t ∷ ts))) (λ p us. Formed b.types p (t ∷ ts) us)
  unfolding unused next
  unused_yields t ts w =
      by_expect (λ _. Unit {0}) (λ js p us. Formed b.types p (t ∷ js) us) (codes "(") ts _ tt
      (λ c us _ x. by_variable (λ _. Unit {0}) (λ js p us. Formed b.types p (t ∷ c ∷ js) us) us _ tt
      (λ d vs _ v. by_expect (λ _. Unit {0}) (λ js p us. Formed b.types p (t ∷ c ∷ d ∷ js) us) (codes ")") vs _ tt
      (λ e ws _ p. by_expect (λ _. Unit {0}) (λ js p us. Formed b.types p (t ∷ c ∷ d ∷ e ∷ js) us) (codes ";") ws _ tt
      (λ i xs _ q. done _ xs (g.unused w x v p q)))))

  form_of_yields : (which : Form) (t : Token) (ts : List Token) → Begins which t
      → Yields b (form_of which (at b (t ∷ ts))) (λ p us. Formed b.types p (t ∷ ts) us)
  unfolding next
  form_of_yields (the.Word w) t ts x =
      by_expect (λ _. Unit {0}) (λ js p us. Formed b.types p (t ∷ js) us) (codes ";") ts _ tt (λ u us _ q. done _ us (g.word x.is q))
  form_of_yields the.ResetStack t ts x = reset_stack_yields t ts (is_word_from (codes "SP") t x.is_a_word x.spelt)
  form_of_yields the.SetIndex t ts x = set_index_yields t ts (is_word_from (codes "XSANY") t x.is_a_word x.spelt)
  form_of_yields the.NewXs t ts x =
      new_xs_yields false (λ js p us. Formed b.types p js us) (λ full c d e f n h i vs y z k q v p r. g.new_xs y z k q v p r) (t ∷ ts)
  form_of_yields the.KeptNewXs t ts x = kept_new_xs_yields t ts (is_word_from (codes "cv") t x.is_a_word x.spelt)
  form_of_yields the.NewRecord t ts x = new_record_yields t ts (is_word_from (codes "Newxz") t x.is_a_word x.spelt)
  form_of_yields the.Unused t ts x = unused_yields t ts (is_word_from (codes "PERL_UNUSED_VAR") t x.is_a_word x.spelt)

  -- a form of the XS interface, as a statement
  pub perl_form_yields : (which : Form) (t : Token) (ts : List Token) → form_at b.types (t ∷ ts) ≡ Some which
      → Yields b (perl_form which (at b (t ∷ ts))) (λ s us. (p : PerlForm) × (s ≡ tree.Perl t.span.line p) × Formed b.types p (t ∷ ts) us)
  unfolding perl_form line
  perl_form_yields which t ts e =
      step _ _ (form_of_yields which t ts (begins b.types t ts which e)) (λ p us x. done _ us (p, refl, x))
