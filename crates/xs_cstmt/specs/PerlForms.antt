-- Statements of the XS interface (perlxs, perlapi, perlcall). Where one of them has a reading, the
-- statement is that one. Else its words are names of an expression.
use Rattle.std.specs.Borrow.{Bor}
use Rattle.std.specs.Option.{option_map_or}
use Rattle.std.specs.Prelude.{ℕ, Bool, true, false, ◌&&◌, ◌||◌, if◌then◌else◌, List, [], ◌∷◌, Option, Some, None, codes, map}
use Rattle.std.specs.Str.{bytes_eq}
use Rattle.xs_base.specs.Readers.{◌>>=◌, ◌>>◌, head_is, pure}
use Rattle.xs_ctok.specs.declared.token.Literal.{Literal}
use Rattle.xs_ctok.specs.declared.token.TokKind.{TokKind}
use Rattle.xs_ctok.specs.declared.token.TokKind.TheVariants as kind
use Rattle.xs_ctok.specs.declared.token.Token.{Token}
use Rattle.xs_cinput.specs.Operators.{listed}
use Rattle.xs_cstmt.specs.StatementTree.{StmtTree, Perl}
use Rattle.xs_cinput.specs.TokenInput.{Input, Reader, a_name, a_variable, expect, expect_word, here, is_name, is_punct_kind, is_sign, is_type, is_variable, is_word_kind, passed, refuse, skip}
use Rattle.xs_cstmt.specs.declared.forms.Form.{Form}
use Rattle.xs_cstmt.specs.declared.forms.Form.TheVariants as the
use Rattle.xs_cstmt.specs.declared.forms.Slot.{Slot}
use Rattle.xs_cstmt.specs.declared.forms.Slot.TheVariants as slot
use Rattle.xs_cstmt.specs.declared.forms.TheConstants.{FORMS}
use Rattle.xs_cstmt.specs.declared.tree.PerlForm.{PerlForm}
use Rattle.xs_cstmt.specs.declared.tree.PerlForm.TheVariants as form

-- what a form has at one place, with the word or the punctuator that stands there
abbrev pub Part : Type 0
Part = Slot × List ℕ

abbrev pub slots_of : List (Slot × Bor (List ℕ)) → List Part
slots_of slots = map (λ s. (s.0, s.1.now)) slots

-- the forms by their first words, each with what stands after it
unfoldable pub forms : List (List ℕ × (Form × List Part))
forms = map (λ row. (row.0.now, (row.1.0, map (λ s. (s.0, s.1.now)) row.1.1.now))) FORMS

-- ---- what a slot of a form takes

abbrev pub int_of : TokKind → Option Literal
int_of (kind.Int literal) = Some literal
int_of _ = None

abbrev pub text_of : TokKind → Option (List ℕ)
text_of (kind.Text text) = Some text
text_of _ = None

abbrev pub is_int : Token → Bool
is_int t = option_map_or (λ literal. true) (int_of t.kind) false

abbrev pub is_text : Token → Bool
is_text t = option_map_or (λ text. true) (text_of t.kind) false

-- the token is the integer `1`, written so
abbrev pub is_one : Token → Bool
is_one t = is_int t && bytes_eq t.text (codes "1")

-- the token is this word or this punctuator
abbrev pub is_spelt : List ℕ → Token → Bool
is_spelt text t = (is_word_kind t.kind || is_punct_kind t.kind) && bytes_eq t.text text

abbrev pub fits : List (List ℕ) → Part → Token → Bool
fits types (slot.Spelt, text) t = is_spelt text t
fits types (slot.Variable, text) t = is_variable types t
fits types (slot.Name, text) t = is_name t
fits types (slot.Int, text) t = is_int t
fits types (slot.One, text) t = is_one t
fits types (slot.Text, text) t = is_text t

-- ---- which form comes next

-- the token can stand in no expression
abbrev pub is_no_operand : List (List ℕ) → Token → Bool
is_no_operand types t = is_type types t || is_sign (codes ".") t

-- The tokens fit these slots, all of them, or up to one that can stand in no expression: then no
-- other reading is left.
abbrev pub leads : List (List ℕ) → List Part → List Token → Bool
leads types [] ts = true
leads types (s ∷ ss) [] = false
leads types (s ∷ ss) (t ∷ ts) =
    if fits types s t then is_no_operand types t || leads types ss ts else false

abbrev pub fits_first : List (List ℕ) → List Part → List Token → Bool
fits_first types [] ts = true
fits_first types (s ∷ ss) ts = head_is (fits types s) ts

-- the form of a word in a table, with what stands after the word
abbrev pub row_in : List (List ℕ × (Form × List Part)) → Token → Option (Form × List Part)
row_in table t = if is_word_kind t.kind then listed table t.text else None

abbrev pub form_row : Token → Option (Form × List Part)
form_row t = row_in forms t

abbrev pub if_leads : List (List ℕ) → Token → List Token → Form × List Part → Option Form
if_leads types t ts row =
    if is_type types t || leads types row.1 ts then Some row.0 else None

abbrev pub form_at : List (List ℕ) → List Token → Option Form
form_at types [] = None
form_at types (t ∷ ts) = option_map_or (if_leads types t ts) (form_row t) None

-- the form that has to be read here, if it is one
unfoldable pub form_ahead : Input → Option Form
form_ahead i = form_at i.types i.rest

abbrev pub begins_form_at : List (List ℕ) → List Token → Bool
begins_form_at types [] = false
begins_form_at types (t ∷ ts) =
    option_map_or (λ row. fits_first types row.1 ts) (form_row t) false

-- The next two tokens begin a form, so that no declaration stands here.
unfoldable pub begins_form : Input → Bool
begins_form i = begins_form_at i.types i.rest

-- ---- the forms

abbrev pub first_int : List Token → Option Literal
first_int [] = None
first_int (t ∷ ts) = int_of t.kind

abbrev pub first_text : List Token → Option (List ℕ)
first_text [] = None
first_text (t ∷ ts) = text_of t.kind

-- the integer that comes next
unfoldable pub int_ahead : Input → Option Literal
int_ahead i = first_int i.rest

unfoldable pub text_ahead : Input → Option (List ℕ)
text_ahead i = first_text i.rest

unfoldable pub sees_one : Input → Bool
sees_one i = head_is is_one i.rest

unfoldable pub an_int : Reader Literal
an_int = λ i.
    option_map_or {U = Reader Literal} (λ literal. skip >> pure literal) (int_ahead i) refuse i

unfoldable pub a_text : Reader (List ℕ)
a_text = λ i.
    option_map_or {U = Reader (List ℕ)} (λ text. skip >> pure text) (text_ahead i) refuse i

unfoldable pub expect_one : Reader (Unit {0})
expect_one = λ i. passed (sees_one i) i

unfoldable pub reset_stack : Reader PerlForm
reset_stack = do
  skip
  expect (codes "-=")
  expect_word (codes "items")
  expect (codes ";")
  pure form.ResetStack

unfoldable pub set_index : Reader PerlForm
set_index = do
  skip
  expect (codes ".")
  expect_word (codes "any_i32")
  expect (codes "=")
  literal ← an_int
  expect (codes ";")
  pure (form.SetIndex literal)

-- after the full name
abbrev pub registered : Bool → List ℕ → Reader PerlForm
registered keeps full = do
  expect (codes ",")
  function ← a_variable
  expect (codes ")")
  expect (codes ";")
  pure (form.NewXs keeps full function)

unfoldable pub new_xs : Bool → Reader PerlForm
new_xs keeps = do
  expect_word (codes "newXS_deffile")
  expect (codes "(")
  full ← a_text
  registered keeps full

unfoldable pub kept_new_xs : Reader PerlForm
kept_new_xs = do
  skip
  expect (codes "=")
  new_xs true

unfoldable pub new_record : Reader PerlForm
new_record = do
  skip
  expect (codes "(")
  pointer ← a_variable
  expect (codes ",")
  expect_one
  expect (codes ",")
  of_type ← a_name
  expect (codes ")")
  expect (codes ";")
  pure (form.NewRecord pointer of_type)

unfoldable pub unused : Reader PerlForm
unused = do
  skip
  expect (codes "(")
  name ← a_variable
  expect (codes ")")
  expect (codes ";")
  pure (form.Unused name)

abbrev pub form_of : Form → Reader PerlForm
form_of (the.Word word) = skip >> (expect (codes ";") >> pure (form.Word word))
form_of the.ResetStack = reset_stack
form_of the.SetIndex = set_index
form_of the.NewXs = new_xs false
form_of the.KeptNewXs = kept_new_xs
form_of the.NewRecord = new_record
form_of the.Unused = unused

unfoldable pub perl_form : Form → Reader StmtTree
perl_form which = do
  line ← here
  read ← form_of which
  pure (Perl line read)
