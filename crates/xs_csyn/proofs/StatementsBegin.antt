-- Where reading a statement breaks off, the tokens that were passed begin one.
use Rattle.std.proofs.Common.{◌≡◌, ℕ, zero, suc, ◌+◌, ◌<◌, ◌≤◌, ◌||◌, max, not, Bool, true, false, if◌then◌else◌, List, [], ◌∷◌, ◌++◌, length, Option, Some, None, Ok, Err, refl, ap, sym, subst, ◌∙◌, arith}
use Rattle.std.proofs.lemmas.Bool.{and_from, and_right, both_ways, false_from_ne_true}
use Rattle.std.proofs.lemmas.Slice.Eq.{bytes_eq-Decides}
use Rattle.std.specs.Prelude.{codes}
use Rattle.std.specs.Str.{bytes_eq}
use Rattle.xs_base.specs.Readers.{◌>>=◌, ◌>>◌, and_then, head_is, pure}
use Rattle.xs_base.specs.declared.fault.Fault.{Fault}
use Rattle.xs_ctok.specs.declared.token.Token.{Token}
use Rattle.xs_csyn.proofs.Breaks.{Viable, after_token, alike_viable, as_local, by_option, by_test, finished, less_of, onward, read, same_fault, step}
use Rattle.xs_csyn.proofs.TokenBreaks.{breaks_at_end, by_eat, by_expect, by_here, by_variable, by_variable_here, by_word_here}
use Rattle.xs_csyn.proofs.TypesBegin.{int_is, sign, stars_viable, type_after_begins, type_after_yields, type_name_begins, sign_spelt, word_spelt, word}
use Rattle.xs_csyn.proofs.ExpressionsComplete.{type_name_first}
use Rattle.xs_csyn.proofs.ExpressionsSound.{stars_yields, type_name_yields}
use Rattle.xs_csyn.proofs.FilesComplete.{type_no_word}
use Rattle.xs_csyn.proofs.FormSlots.{row_facts, form_slots}
use Rattle.xs_csyn.proofs.FormRests.{form_first, form_rest}
use Rattle.xs_csyn.proofs.FormsBegin.{NoElse, an_expr_begins, effect_begins, far, form_may, form_rest_begins, good_tail, leads_may, row_short}
use Rattle.xs_csyn.proofs.FormsLocal.{form_read, led_still, no_form, plain_here, row_form, unled_still}
use Rattle.xs_csyn.proofs.FormsSound.{begins_by, int_kind}
use Rattle.xs_csyn.proofs.Frames.{IsFront, front_one, stars_frame, type_name_frame, type_rest_frame, whole_frame}
use Rattle.xs_csyn.proofs.HoleHeights.{but_low, first_low, hole_none, option_low, values_low}
use Rattle.xs_csyn.proofs.Local.{proper, sees_tells, turned, type_tells, word_tells}
use Rattle.xs_csyn.proofs.MoreTurns.{labels_same, names_same}
use Rattle.xs_csyn.proofs.PlainLocal.{an_expr_local, declarator_local, declarators_local, first_part_local, int_tells, label_local, label_tells, until_local}
use Rattle.xs_csyn.proofs.Marks.{mark_no_word, name_kind, name_no_word, variable_name, words}
use Rattle.xs_csyn.proofs.Sizes.{declarator_shrinks, label_shrinks}
use Rattle.xs_csyn.proofs.Starts.{starts_no_word, whole_begins}
use Rattle.xs_csyn.proofs.StatementFrames.{Fine, begins_stays, declarator_frame, declarators_frame, first_frame, label_frame, until_frame}
use Rattle.xs_csyn.proofs.StatementsLocal.{begins_row, declaration_after}
use Rattle.xs_csyn.proofs.StatementsSound.{an_expr_yields, declarator_yields, declarators_yield, first_part_yields, label_yields, until_yields}
use Rattle.xs_csyn.proofs.TypesLocal.{stars_local, type_after_local, type_name_local}
use Rattle.xs_csyn.proofs.Yields.{at}
use Rattle.xs_csyn.specs.FaultPlaces.{SameNext}
use Rattle.xs_csyn.specs.FileGrammar.{AreNames}
use Rattle.xs_csyn.specs.Prefixes.{height_but, option_height_but, tallest_but, tallest_first_but, tallest_value_but}
use Rattle.xs_cstmt.specs.StatementHeights.{depth}
use Rattle.xs_csyn.specs.Grammar as r
use Rattle.xs_csyn.specs.Grammar.{Is, IsVariable, IsWord, TypeName, Whole}
use Rattle.xs_cstmt.specs.PerlForms as perl_forms
use Rattle.xs_cstmt.specs.PerlForms.{begins_form_at, fits_first, form_at, form_row, forms, int_ahead, is_spelt, leads}
use Rattle.xs_csyn.specs.TokenTexts.{AreSpelt, IsSpelt, is_wordlike}
use Rattle.xs_csyn.specs.StatementGrammar as g
use Rattle.xs_csyn.specs.StatementGrammar.{ALabel, Condition, Declarator, Declarators, Declared, First, ForHead, Groups, Labels, Part, Parts, Statement, Until, Value}
use Rattle.xs_cstmt.specs.StatementReader.{a_label, case_label, condition, declaration, declarator, declarators, declarators_from, default_label, effect, empty, first_part, first_value, for_head, int_label, jump, labels, labels_from, max_nesting, name_label, plain, returned, sees_label, simple, until}
use Rattle.xs_cexpr.specs.ExpressionTree as tree_expr
use Rattle.xs_cstmt.specs.StatementTree as tree_stmt
use Rattle.xs_cexpr.specs.ExpressionTree.{ExprTree}
use Rattle.xs_cstmt.specs.StatementTree.{DeclaratorTree, DeclaredTree, FirstTree, ForTree, GroupTrees, StmtTree, StmtTrees}
use Rattle.xs_cinput.specs.TokenInput.{Input, Outcome, Reader, a_variable, expect, expect_word, is_punct_kind, is_type, is_word, is_word_kind, line, line_at, next, sees, sees_type, sees_variable, sees_word, skip}
use Rattle.xs_cinput.specs.TypeReader.{type_name}
use Rattle.xs_ctok.specs.CWords.{is_no_name, is_type_word}
use Rattle.xs_cstmt.specs.declared.forms.Form.{Form}
use Rattle.xs_cstmt.specs.declared.forms.Form.TheVariants as the
use Rattle.xs_cstmt.specs.declared.tree.Label.{Label}
use Rattle.xs_cstmt.specs.declared.tree.PerlForm.{PerlForm}

-- ---- what begins with no `else`

else_is : (is_no_name (codes "else") ≡ true) × (is_type_word (codes "else") ≡ false)
unfolding is_no_name is_type_word
else_is = (refl, refl)

row_no_else : (t : Token) (row : Form × List perl_forms.Part) → form_row t ≡ Some row → is_word (codes "else") t ≡ false
row_no_else t row e =
    let x = row_facts t row e in
    name_no_word (codes "else") t (and_from (is_word_kind t.kind) (not (is_no_name t.text)) x.is_a_word (ap not x.names)) else_is.0

pub stmt_no_else : {types : List (List ℕ)} {s : StmtTree} {ts us : List Token} → Statement types s ts us → NoElse ts
stmt_no_else (g.block {t = t} o x) = mark_no_word (codes "{") (codes "else") t o
stmt_no_else (g.empty {t = t} is) = mark_no_word (codes ";") (codes "else") t is
stmt_no_else (g.effect n x is) = starts_no_word (codes "else") else_is.0 refl (whole_begins x)
stmt_no_else (g.an_if {t = t} w c x isnt) = words (codes "if") (codes "else") t w
stmt_no_else (g.if_else {t = t} w c x e y) = words (codes "if") (codes "else") t w
stmt_no_else (g.a_while {t = t} w c x) = words (codes "while") (codes "else") t w
stmt_no_else (g.a_do {t = t} w x e c is) = words (codes "do") (codes "else") t w
stmt_no_else (g.a_for {t = t} w h x) = words (codes "for") (codes "else") t w
stmt_no_else (g.a_switch {t = t} w c o x) = words (codes "switch") (codes "else") t w
stmt_no_else (g.a_break {t = t} w is) = words (codes "break") (codes "else") t w
stmt_no_else (g.a_continue {t = t} w is) = words (codes "continue") (codes "else") t w
stmt_no_else (g.a_return {t = t} w x) = words (codes "return") (codes "else") t w
stmt_no_else (g.perl (g.word {w = w} {slots = slots} {t = t} row is)) = row_no_else t (the.Word w, slots) row
stmt_no_else (g.perl (g.reset_stack {a = t} w x y z)) = words (codes "SP") (codes "else") t w
stmt_no_else (g.perl (g.set_index {a = t} w x y z k q)) = words (codes "XSANY") (codes "else") t w
stmt_no_else (g.perl (g.new_xs {a = t} w y k z v p q)) = words (codes "newXS_deffile") (codes "else") t w
stmt_no_else (g.perl (g.kept_new_xs {a = t} w o x y k z v p q)) = words (codes "cv") (codes "else") t w
stmt_no_else (g.perl (g.new_record {a = t} w x v y o z k p q)) = words (codes "Newxz") (codes "else") t w
stmt_no_else (g.perl (g.unused {a = t} w x v p q)) = words (codes "PERL_UNUSED_VAR") (codes "else") t w

pub typed_no_else : (types : List (List ℕ)) → AreNames types → (ts : List Token) → head_is (is_type types) ts ≡ true → NoElse ts
typed_no_else types names [] e = refl
typed_no_else types names (t ∷ ts) e = type_no_word types names (codes "else") t e else_is.0 else_is.1

declared_no_else : {types : List (List ℕ)} → AreNames types → {one : DeclaredTree} {ts us : List Token} → Declared types one ts us → NoElse ts
declared_no_else {types} names (g.names_declared {t = t} {ts = ts} ty x is) = typed_no_else types names (t ∷ ts) (type_name_first ty)

pub part_no_else : {types : List (List ℕ)} → AreNames types → {s : StmtTree} {ts us : List Token} → Part types s ts us → NoElse ts
part_no_else names (g.declared isnt x) = declared_no_else names x
part_no_else names (g.stated x) = stmt_no_else x

pub parts_no_else : {types : List (List ℕ)} → AreNames types → {all : StmtTrees} {ts us : List Token} → Parts types all ts us → NoElse ts
parts_no_else names (g.over {t = t} is) = mark_no_word (codes "}") (codes "else") t is
parts_no_else names (g.part x y) = part_no_else names x

label_no_else : {types : List (List ℕ)} {l : Label} {ts us : List Token} → ALabel types l ts us → NoElse ts
label_no_else (g.int_label {t = t} w k c) = words (codes "case") (codes "else") t w
label_no_else (g.name_label {t = t} w n c) = words (codes "case") (codes "else") t w
label_no_else (g.default_label {t = t} w c) = words (codes "default") (codes "else") t w

labels_no_else : {types : List (List ℕ)} {all : List Label} {ts us : List Token} → Labels types all ts us → NoElse ts
labels_no_else (g.last_label x) = label_no_else x
labels_no_else (g.more_labels x y) = label_no_else x

pub groups_no_else : {types : List (List ℕ)} {may : Bool} {all : GroupTrees} {ts us : List Token} → Groups types may all ts us → NoElse ts
groups_no_else (g.groups_over {t = t} is) = mark_no_word (codes "}") (codes "else") t is
groups_no_else (g.group l x y) = labels_no_else l

-- where no `else` follows, nothing is asked of what did
pub fine_with : (us js : List Token) → NoElse js → Fine us js
fine_with us js n = λ h. absurd (both_ways (head_is (is_word (codes "else")) js) n h)

-- ---- declarations

declared_of : {types : List (List ℕ)} {name : List ℕ} {all : List DeclaratorTree} {u : Token} {ws ks vs : List Token} → TypeName types name ws ks
    → Declarators types all ks (u ∷ vs) → Is (codes ";") u → (one : DeclaredTree) × Declared types one ws vs × (one.names ≡ all)
declared_of (r.type_name (r.one_word i) isnt) x is = (_, g.names_declared (r.type_name (r.one_word i) isnt) x is, refl)
declared_of (r.type_name (r.two_words i j) isnt) x is = (_, g.names_declared (r.type_name (r.two_words i j) isnt) x is, refl)
declared_of (r.type_name (r.three_words i j k) isnt) x is = (_, g.names_declared (r.type_name (r.three_words i j k) isnt) x is, refl)

-- a declarator after its stars
abbrev declarator_then : ℕ → ℕ → Reader DeclaratorTree
declarator_then line n = do
  name ← a_variable
  value ← first_value
  pure (record { line = line; stars = n; name = name; value = value })

-- the declarators after the name of a type
abbrev names_then : ℕ → List ℕ → Reader DeclaredTree
names_then line base = do
  names ← declarators
  expect (codes ";")
  pure (record { line = line; base = base; names = names })

-- A declaration is as tall as its declarators are.
declared_low : {n : ℕ} (hole : List ℕ) (one : DeclaredTree) (all : List DeclaratorTree) → one.names ≡ all → tallest_value_but hole all ≤ n
    → tallest_value_but hole one.names ≤ n
declared_low hole one all e low = rw e low

abbrev name_alone : Token → DeclaratorTree
name_alone x = record { line = x.span.line; stars = 0; name = x.text; value = None }

one_name : (types : List (List ℕ)) (x : Token) → IsVariable types x → (us : List Token) → Declarators types (name_alone x ∷ []) (x ∷ us) us
one_name types x v us = g.last_name (g.declarator r.no_star v g.no_value)

pub name_whole : {types : List (List ℕ)} {x : Token} {us : List Token} → IsVariable types x → Whole types (tree_expr.Var x.span.line x.text) (x ∷ us) us
name_whole v = r.is_choice (r.is_binary (r.is_unary (r.is_operand (r.is_primary (r.name v)))))

-- the tallest expression in the head of a `for`, where a name counts as nothing
abbrev pub head_but : List ℕ → ForTree → ℕ
head_but hole h = max (tallest_first_but hole h.first) (max (option_height_but hole h.test) (option_height_but hole h.step))

module _ (Text : ℕ → List Token → Type 0) (b : Input) (x : Token) (vx : IsVariable b.types x) (sx : IsSpelt x) (nx : form_row x ≡ None) where
  abbrev stop : Token
  stop = sign x (codes ";")

  until_begins : (m : List ℕ) → Is m (sign x m) → is_wordlike m ≡ false → (d : List Token → List Token) (us : List Token) → AreSpelt us
      → ((over : ℕ) (v : Option ExprTree) (ws : List Token) → Until b.types m v ws us → option_height_but x.text v ≤ max_nesting + over → Text over (d ws))
      → (ts : List Token)
      → Viable proper x (suc far) Text b d (λ k. until m) ts
  unfolding until
  until_begins m self wordless d us su fin ts =
      by_eat m ts (λ u ks e is. read refl)
      (step (an_expr_local b ts) (an_expr_yields b ts) (an_expr_begins Text b x vx sx d (sign x m ∷ us)
      (sign_spelt x m wordless, su)
      (λ over a ws q low. fin over (Some a) ws (g.something q self) low) ts)
      (λ a ks y. let h = whole_frame y.0 in onward h (by_expect m ks _ (sign x m ∷ us)
      (fin 0 (Some a) (h.w (sign x m ∷ us)) (g.something (h.moves (sign x m ∷ us)) self) (omega (arith, but_low x.text a, y.1))) (λ u ls e is. read refl))))

  first_value_begins : (d : List Token → List Token) (us : List Token) → AreSpelt us
      → ((over : ℕ) (v : Option ExprTree) (ws : List Token) → Value b.types v ws us → option_height_but x.text v ≤ max_nesting + over → Text over (d ws))
      → (ts : List Token) → Viable proper x (suc far) Text b d (λ k. first_value) ts
  unfolding first_value
  first_value_begins d us su fin ts =
      by_eat (codes "=") ts
      (λ u ks e is. finished _ (an_expr_begins Text b x vx sx (λ js. d (u ∷ js)) us su (λ over a ws q low. fin over (Some a) (u ∷ ws) (g.value is q) low) ks))
      (read refl)

  declarator_begins : (d : List Token → List Token) (us : List Token) → AreSpelt us
      → ((over : ℕ) (one : DeclaratorTree) (ws : List Token) → Declarator b.types one ws us → option_height_but x.text one.value ≤ max_nesting + over
      → Text over (d ws))
      → (ts : List Token) → Viable proper x (suc far) Text b d (λ k. declarator) ts
  unfolding declarator
  declarator_begins d us su fin ts =
      step (stars_local b ts) (stars_yields b ts) (stars_viable ts)
      (λ n ks s. let f = stars_frame s in
      onward f (by_here (λ k line. declarator_then line n) (by_variable ks _ (x ∷ us)
      (fin 0 _ (f.w (x ∷ us)) (g.declarator (f.moves (x ∷ us)) vx g.no_value) (omega arith))
      (λ u ls e v. finished _ (first_value_begins (λ js. d (f.w (u ∷ js))) us su
      (λ over value ws q low. fin over _ (f.w (u ∷ ws)) (g.declarator (f.moves (u ∷ ws)) v q) low) ls)))))

  names_begin : (n : ℕ) (sofar : List DeclaratorTree) (d : List Token → List Token) (us : List Token) → AreSpelt us
      → ((over : ℕ) (all : List DeclaratorTree) (ws : List Token) → Declarators b.types all ws us → tallest_value_but x.text all ≤ max_nesting + over
      → Text over (d ws))
      → (ts : List Token) → length ts < n → Viable proper x (suc far) Text b d (λ k. declarators_from k sofar) ts
  unfolding declarators_from
  names_begin zero sofar d us su fin ts len = absurd (omega (arith, len))
  names_begin (suc n) sofar d us su fin ts len =
      alike_viable {p = λ k. declarators_from (suc k) sofar} (step (declarator_local b ts) (declarator_yields b ts)
      (declarator_begins d us su (λ over one ws q low. fin over (one ∷ []) ws (g.last_name q) (omega (arith, low))) ts)
      (λ one ks y. let h = declarator_frame y.0 in
      onward h (by_eat (codes ",") ks
      (λ u ls e is. names_begin n (sofar ++ one ∷ []) (λ js. d (h.w (u ∷ js))) us su
      (λ over all ws q low. fin over (one ∷ all) (h.w (u ∷ ws)) (g.more_names (h.moves (u ∷ ws)) is q)
      (omega (arith, low, option_low x.text one.value, y.1))) ls
      (omega (arith, len, less_of e, declarator_shrinks y.0))) (read refl))))
      (λ us k e g. names_same (turned b k us) k (suc k) sofar us g.0 (omega (arith, g.0)))

  all_names_begin : (d : List Token → List Token) (us : List Token) → AreSpelt us
      → ((over : ℕ) (all : List DeclaratorTree) (ws : List Token) → Declarators b.types all ws us → tallest_value_but x.text all ≤ max_nesting + over
      → Text over (d ws))
      → (ts : List Token) → Viable proper x (suc far) Text b d (λ k. declarators) ts
  unfolding declarators
  all_names_begin d us su fin ts =
      alike_viable {p = λ k. declarators_from k []} (names_begin (suc (length ts)) [] d us su fin ts (omega arith)) (λ us k e g. refl)

  -- after the name of the type
  names_then_begin : (line : ℕ) (base : List ℕ) (w : List Token → List Token) → ((js : List Token) → TypeName b.types base (w js) js)
      → (d : List Token → List Token) (us : List Token) → AreSpelt us → ((over : ℕ) (one : DeclaredTree) (ws : List Token) → Declared b.types one ws us
      → tallest_value_but x.text one.names ≤ max_nesting + over → Text over (d ws))
      → (ts : List Token) → Viable proper x (suc far) Text b (λ js. d (w js)) (λ k. names_then line base) ts
  names_then_begin line base w moves d us su fin ts =
      step (declarators_local b ts) (declarators_yield b ts) (all_names_begin (λ js. d (w js)) (stop ∷ us)
      (sign_spelt x (codes ";") refl, su)
      (λ over all ws p low. let one = declared_of (moves ws) p refl in fin over one.0 (w ws) one.1 (declared_low x.text one.0 all one.2 low)) ts)
      (λ all ls y. let h = declarators_frame y.0 in onward h (by_expect (codes ";") ls _ (stop ∷ us)
      (let one = declared_of (moves (h.w (stop ∷ us))) (h.moves (stop ∷ us)) refl in
      fin 0 one.0 (w (h.w (stop ∷ us))) one.1 (declared_low x.text one.0 all one.2 (omega (arith, values_low x.text all, y.1)))) (λ u ms e is. read refl)))

  pub declaration_begins : (d : List Token → List Token) (us : List Token) → AreSpelt us
      → ((over : ℕ) (one : DeclaredTree) (ws : List Token) → Declared b.types one ws us → tallest_value_but x.text one.names ≤ max_nesting + over → Text over
      (d ws))
      → (ts : List Token) → Viable proper x (suc far) Text b d (λ k. declaration) ts
  unfolding declaration
  declaration_begins d us su fin ts =
      by_here (λ k line. type_name >>= names_then line) (step (type_name_local b ts) (type_name_yields b ts)
      (type_name_begins Text b x d (x ∷ stop ∷ us) (λ name ws q. let one = declared_of q (one_name b.types x vx (stop ∷ us)) refl in
      fin 0 one.0 ws one.1 (declared_low x.text one.0 (name_alone x ∷ []) one.2 (omega arith))) ts)
      (λ base ks q. let f = type_name_frame q in onward f (names_then_begin (line_at b.last ts) base f.w f.moves d us su fin ks)))

  -- a declaration after its first word
  pub declaration_after_begins : (t : Token) → is_type b.types t ≡ true → (d : List Token → List Token) (us : List Token) → AreSpelt us
      → ((over : ℕ) (one : DeclaredTree) (ws : List Token) → Declared b.types one ws us → tallest_value_but x.text one.names ≤ max_nesting + over → Text over
      (d ws))
      → (ts : List Token) → Viable proper x (suc far) Text b (λ js. d (t ∷ js)) (λ k. declaration_after t.span.line t.text) ts
  declaration_after_begins t is d us su fin ts =
      step (type_after_local b t.text ts) (type_after_yields b t is ts)
      (type_after_begins Text b x t is d (x ∷ stop ∷ us)
      (λ name ws q. let one = declared_of q (one_name b.types x vx (stop ∷ us)) refl in
      fin 0 one.0 ws one.1 (declared_low x.text one.0 (name_alone x ∷ []) one.2 (omega arith))) ts)
      (λ base ks q. let f = type_rest_frame q in onward f (names_then_begin t.span.line base (λ js. t ∷ f.w js) f.moves d us su fin ks))

  -- ---- statements in which no other stands

  plain_begins : (d : List Token → List Token) (us : List Token) → AreSpelt us → NoElse us
      → ((over : ℕ) (s : StmtTree) (ws : List Token) → Statement b.types s ws us → depth s ≤ 0 + over → tallest_but x.text s ≤ max_nesting + over → Text over
      (d ws))
      → (ts : List Token) → form_at b.types ts ≡ None → Viable proper x (suc far) Text b d (λ k. plain) ts
  unfolding plain sees sees_word empty returned jump line next
  plain_begins d us su ne fin [] none = alike_viable (effect_begins Text b x vx sx nx d us su ne fin [] none) (λ us k n g. at_end us k n)
    where
      at_end : (us : List Token) (k : ℕ) → SameNext [] us → plain (turned b k us) ≡ effect (turned b k us)
      at_end [] k n = refl
      at_end (u ∷ us) k n = absurd n
  plain_begins d us su ne fin (t ∷ ts) none =
      by_test (sees (codes ";")) (sees_tells b (codes ";") (t ∷ ts)) (λ is. read refl)
      (λ isnt. by_test (sees_word (codes "return")) (word_tells b (codes "return") (t ∷ ts))
      (λ w. after_token _ (finished _ (until_begins (codes ";") refl refl (λ js. d (t ∷ js)) us su
      (λ over v ws q low. fin over (tree_stmt.Return t.span.line v) (t ∷ ws)
      (g.a_return w q) (omega arith) low) ts)) (λ js' k n good. refl))
      (λ isnt'. by_test (sees_word (codes "break")) (word_tells b (codes "break") (t ∷ ts))
      (λ w. after_token _ (by_expect (codes ";") ts _ (stop ∷ us)
      (fin 0 (tree_stmt.Break t.span.line) (t ∷ stop ∷ us) (g.a_break w refl) (omega arith) (omega arith))
      (λ u ks e is. read refl)) (λ js' k n good. refl))
      (λ isnt''. by_test (sees_word (codes "continue")) (word_tells b (codes "continue") (t ∷ ts))
      (λ w. after_token _ (by_expect (codes ";") ts _ (stop ∷ us)
      (fin 0 (tree_stmt.Continue t.span.line) (t ∷ stop ∷ us) (g.a_continue w refl) (omega arith) (omega arith))
      (λ u ks e is. read refl)) (λ js' k n good. refl))
      (λ other. effect_begins Text b x vx sx nx d us su ne fin (t ∷ ts) none))))

  -- a form by its first word
  typed_begins : (d : List Token → List Token) (us : List Token) → AreSpelt us → NoElse us
      → ((over : ℕ) (s : StmtTree) (ws : List Token) → Statement b.types s ws us → depth s ≤ 0 + over → tallest_but x.text s ≤ max_nesting + over → Text over
      (d ws))
      → (t : Token) (ts : List Token) (row : Form × List perl_forms.Part) → form_row t ≡ Some row → is_type b.types t ≡ true
      → Viable proper x (suc far) Text b d (λ k. simple) (t ∷ ts)
  typed_begins d us su ne fin t ts row e is =
      after_token t (finished (λ p i. (tree_stmt.Perl t.span.line p, i)) (form_rest_begins Text b x vx sx row.0 t row.1 e d us su ne fin ts))
      (λ js k n good. let y = begins_by t row e in form_read b k t js row.0 (row_form b.types t js row e ∙ rw is refl)
      (form_first b row.0 t js k y.is_a_word y.spelt))

  -- a form by the tokens after its first word
  led_begins : AreNames b.types → (d : List Token → List Token) (us : List Token) → AreSpelt us → NoElse us
      → ((over : ℕ) (s : StmtTree) (ws : List Token) → Statement b.types s ws us → depth s ≤ 0 + over → tallest_but x.text s ≤ max_nesting + over → Text over
      (d ws))
      → (t : Token) (ts : List Token) (row : Form × List perl_forms.Part)
      → form_row t ≡ Some row → is_type b.types t ≡ false → leads b.types row.1 ts ≡ true → Viable proper x (suc far) Text b d (λ k. simple) (t ∷ ts)
  led_begins names d us su ne fin t ts row e isnt led = record {
    breaks = λ good f h.
        let y = (form_rest_begins Text b x vx sx row.0 t row.1 e d us su ne fin ts).breaks (good_tail {u = t} refl good) f
        (unmapped (form_rest row.0 (at b ts)) (tree_stmt.Perl t.span.line) f (sym (reads b.turns ts led) ∙ h)) in
        record {
          rest = y.rest;
          w = λ js. t ∷ y.w js;
          front = front_one t y.front;
          here = ap (λ l. t ∷ l) y.here;
          deep = y.deep;
          opens = y.opens;
          stays = y.stays;
          long = λ o. omega (arith, y.long o);
          same = λ js k n good'.
              reads k (y.w js) (ap (leads b.types row.1) (y.front.is js)
              ∙ leads_may b.types row.1 y.front.before y.rest js n
              (λ n'. led_still b names t ts row e isnt led (as_local y) js n' (subst AreSpelt (y.front.is js) good'.1.1))
              (λ o. omega (arith, y.long o, row_short t row e)) (ap (leads b.types row.1) (sym (y.front.is y.rest) ∙ y.here) ∙ led))
              ∙ ap (λ r. and_then r (λ p. pure (tree_stmt.Perl t.span.line p))) (y.same js k n (good_tail {u = t} refl good'));
          staying = y.staying;
          more = y.more;
          text = y.text;
          cause = y.cause;
        };
  }
    where
      reads : (k : ℕ) (js : List Token) → leads b.types row.1 js ≡ true
          → simple (turned b k (t ∷ js)) ≡ and_then (form_rest row.0 (turned b k js)) (λ p. pure (tree_stmt.Perl t.span.line p))
      reads k js on =
          let y = begins_by t row e in
          form_read b k t js row.0 (row_form b.types t js row e ∙ rw (isnt, on) refl) (form_first b row.0 t js k y.is_a_word y.spelt)

      unmapped : (r : Outcome PerlForm) (make : PerlForm → StmtTree) (f : Fault) → and_then r (λ p. pure (make p)) ≡ Err f → r ≡ Err f
      unmapped (Ok p) make f h = absurd (let wrong : ◌≡◌ {A = Outcome StmtTree} (Ok (make p.0, p.1)) (Err f) = h in cc)
      unmapped (Err m) make f h = ap (λ (z : Fault). let r : Outcome PerlForm = Err z in r) (sym (same_fault {A = StmtTree} m f h))

  -- no form, by the tokens after its first word
  unled_begins : AreNames b.types → (d : List Token → List Token) (us : List Token) → AreSpelt us → NoElse us
      → ((over : ℕ) (s : StmtTree) (ws : List Token) → Statement b.types s ws us → depth s ≤ 0 + over → tallest_but x.text s ≤ max_nesting + over → Text over
      (d ws))
      → (t : Token) (ts : List Token) (row : Form × List perl_forms.Part)
      → form_row t ≡ Some row → is_type b.types t ≡ false → leads b.types row.1 ts ≡ false → Viable proper x (suc far) Text b d (λ k. simple) (t ∷ ts)
  unled_begins names d us su ne fin t ts row e isnt led = record {
    breaks = λ good f h.
        let y = (plain_begins d us su ne fin (t ∷ ts) none).breaks good f (sym (plain_here b b.turns (t ∷ ts) none) ∙ h) in
        record {
          rest = y.rest;
          w = y.w;
          front = y.front;
          here = y.here;
          deep = y.deep;
          opens = y.opens;
          stays = y.stays;
          long = y.long;
          same = λ js k n good'.
              plain_here b k (y.w js) (ap (form_at b.types) (y.front.is js)
              ∙ form_may b.types y.front.before y.rest js n
              (λ n'. unled_still b names t ts row e isnt led (as_local y) js n' (subst AreSpelt (y.front.is js) good'.1))
              y.long (ap (form_at b.types) (sym (y.front.is y.rest) ∙ y.here) ∙ none))
              ∙ y.same js k n good';
          staying = y.staying;
          more = y.more;
          text = y.text;
          cause = y.cause;
        };
  }
    where
      none : form_at b.types (t ∷ ts) ≡ None
      none = row_form b.types t ts row e ∙ rw (isnt, led) refl

  pub simple_begins : AreNames b.types → (d : List Token → List Token) (us : List Token) → AreSpelt us → NoElse us
      → ((over : ℕ) (s : StmtTree) (ws : List Token) → Statement b.types s ws us → depth s ≤ 0 + over → tallest_but x.text s ≤ max_nesting + over → Text over
      (d ws)) → (ts : List Token)
      → Viable proper x (suc far) Text b d (λ k. simple) ts
  simple_begins names d us su ne fin [] = alike_viable (plain_begins d us su ne fin [] refl) (λ us k n g. at_end us k n)
    where
      at_end : (us : List Token) (k : ℕ) → SameNext [] us → simple (turned b k us) ≡ plain (turned b k us)
      at_end [] k n = plain_here b k [] refl
      at_end (u ∷ us) k n = absurd n
  simple_begins names d us su ne fin (t ∷ ts) = by (form_row t) refl
    where
      unformed : form_row t ≡ None → (us : List Token) (k : ℕ) → SameNext (t ∷ ts) us → simple (turned b k us) ≡ plain (turned b k us)
      unformed e [] k n = absurd n
      unformed e (u ∷ us) k n = plain_here b k (u ∷ us) (no_form b.types u us (ap form_row (sym n) ∙ e))

      by_leads : (row : Form × List perl_forms.Part) → form_row t ≡ Some row → is_type b.types t ≡ false → (c : Bool) → leads b.types row.1 ts ≡ c
          → Viable proper x (suc far) Text b d (λ k. simple) (t ∷ ts)
      by_leads row e isnt true led = led_begins names d us su ne fin t ts row e isnt led
      by_leads row e isnt false led = unled_begins names d us su ne fin t ts row e isnt led

      by_type : (row : Form × List perl_forms.Part) → form_row t ≡ Some row → (c : Bool) → is_type b.types t ≡ c
          → Viable proper x (suc far) Text b d (λ k. simple) (t ∷ ts)
      by_type row e true is = typed_begins d us su ne fin t ts row e is
      by_type row e false isnt = by_leads row e isnt (leads b.types row.1 ts) refl

      by : (o : Option (Form × List perl_forms.Part)) → form_row t ≡ o → Viable proper x (suc far) Text b d (λ k. simple) (t ∷ ts)
      by None e = alike_viable (plain_begins d us su ne fin (t ∷ ts) (no_form b.types t ts e)) (λ us k n g. unformed e us k n)
      by (Some row) e = by_type row e (is_type b.types t) refl

  -- ---- heads and labels

  pub condition_begins : (d : List Token → List Token) (us : List Token) → AreSpelt us
      → ((over : ℕ) (a : ExprTree) (ws : List Token) → Condition b.types a ws us → height_but x.text a ≤ max_nesting + over → Text over (d ws))
      → (ts : List Token) → Viable proper x (suc far) Text b d (λ k. condition) ts
  unfolding condition
  condition_begins d us su fin ts =
      let close : Token = sign x (codes ")") in
      by_expect (codes "(") ts _ (sign x (codes "(") ∷ x ∷ close ∷ us)
      (fin 0 _ (sign x (codes "(") ∷ x ∷ close ∷ us) (g.condition refl (name_whole vx) refl) (omega (arith, hole_none x)))
      (λ u ks e is. step (an_expr_local b ks) (an_expr_yields b ks) (an_expr_begins Text b x vx sx (λ js. d (u ∷ js)) (close ∷ us)
      (sign_spelt x (codes ")") refl, su)
      (λ over a ws q low. fin over a (u ∷ ws) (g.condition is q refl) low) ks)
      (λ a ls y. let h = whole_frame y.0 in onward h (by_expect (codes ")") ls _ (close ∷ us)
      (fin 0 a (u ∷ h.w (close ∷ us)) (g.condition is (h.moves (close ∷ us)) refl) (omega (arith, but_low x.text a, y.1))) (λ v ms e' is'. read refl))))

  first_of_until : {n : ℕ} (v : Option ExprTree) {ts us : List Token} → Until b.types (codes ";") v ts us → option_height_but x.text v ≤ n
      → (one : FirstTree) × First b.types one ts us × (tallest_first_but x.text one ≤ n)
  first_of_until v (g.nothing is) low = (tree_stmt.NoFirst, g.no_first is, omega arith)
  first_of_until v (g.something {a = a} q is) low = (tree_stmt.FirstEffect a, g.first_effect q is, low)

  first_part_begins : (d : List Token → List Token) (us : List Token) → AreSpelt us
      → ((over : ℕ) (one : FirstTree) (ws : List Token) → First b.types one ws us → tallest_first_but x.text one ≤ max_nesting + over → Text over (d ws))
      → (ts : List Token) → Viable proper x (suc far) Text b d (λ k. first_part) ts
  unfolding first_part
  first_part_begins d us su fin ts =
      by_test sees_type (type_tells b ts)
      (λ is. finished _ (declaration_begins d us su (λ over one ws q low. fin over (tree_stmt.FirstDeclare one) ws (g.first_declared q) low) ts))
      (λ isnt. finished _ (until_begins (codes ";") refl refl d us su
      (λ over v ws q low. let one = first_of_until v q low in fin over one.0 ws one.1 one.2) ts))

  pub for_head_begins : (d : List Token → List Token) (us : List Token) → AreSpelt us
      → ((over : ℕ) (h : ForTree) (ws : List Token) → ForHead b.types h ws us → head_but x.text h ≤ max_nesting + over → Text over (d ws))
      → (ts : List Token) → Viable proper x (suc far) Text b d (λ k. for_head) ts
  unfolding for_head
  for_head_begins d us su fin ts =
      let close : Token = sign x (codes ")") in
      by_expect (codes "(") ts _ (sign x (codes "(") ∷ stop ∷ stop ∷ close ∷ us)
      (fin 0 _ (sign x (codes "(") ∷ stop ∷ stop ∷ close ∷ us) (g.for_head refl (g.no_first refl) (g.nothing refl) (g.nothing refl)) (omega arith))
      (λ u ks e is. step (first_part_local b ks) (first_part_yields b ks)
      (first_part_begins (λ js. d (u ∷ js)) (stop ∷ close ∷ us) (sign_spelt x (codes ";") refl, (sign_spelt x (codes ")") refl, su))
      (λ over one ws q low. fin over _ (u ∷ ws) (g.for_head is q (g.nothing refl) (g.nothing refl)) (omega (arith, low))) ks)
      (λ one ls y. let h = first_frame y.0 in
      onward h (step (until_local b (codes ";") ls) (until_yields b (codes ";") ls)
      (until_begins (codes ";") refl refl (λ js. d (u ∷ h.w js)) (close ∷ us) (sign_spelt x (codes ")") refl, su)
      (λ over v ws q low. fin over _ (u ∷ h.w ws) (g.for_head is (h.moves ws) q (g.nothing refl)) (omega (arith, low, first_low x.text one, y.1))) ls)
      (λ v ms z. let k = until_frame z.0 in
      onward k (finished _ (until_begins (codes ")") refl refl (λ js. d (u ∷ h.w (k.w js))) us su
      (λ over c ws q low. fin over _ (u ∷ h.w (k.w ws)) (g.for_head is (h.moves (k.w ws)) (k.moves ws) q)
      (omega (arith, low, first_low x.text one, y.1, option_low x.text v, z.1))) ms))))))

  label_begins : (d : List Token → List Token) (us : List Token) → ((l : Label) (ws : List Token) → ALabel b.types l ws us → Text 0 (d ws))
      → (ts : List Token) → Viable proper x (suc far) Text b d (λ k. a_label) ts
  unfolding a_label case_label int_ahead name_label int_label default_label sees_word expect_word a_variable sees_variable line next
  label_begins d us fin [] =
      breaks_at_end (word x (codes "default") ∷ sign x (codes ":") ∷ us) (fin _ (word x (codes "default") ∷ sign x (codes ":") ∷ us)
      (g.default_label refl refl)) (λ k. refl)
  label_begins d us fin (t ∷ ts) =
      let colon : Token = sign x (codes ":") in
      by_here (λ k line i. if sees_word (codes "default") i then (skip >> default_label line) i
      else (expect_word (codes "case") >> case_label line) i) (by_test (sees_word (codes "default")) (word_tells b (codes "default") (t ∷ ts))
      (λ w. after_token _ (by_expect (codes ":") ts _ (colon ∷ us) (fin _ (t ∷ colon ∷ us) (g.default_label w refl)) (λ u ks e is. read refl))
      (λ js' k n good. refl))
      (λ isnt. by_word_here (codes "case") t ts _ (word x (codes "default") ∷ colon ∷ us)
      (fin _ (word x (codes "default") ∷ colon ∷ us) (g.default_label refl refl)) (λ w. by_case t w ts)))
    where
      by_case : (t : Token) → IsWord (codes "case") t → (ts : List Token) → Viable proper x (suc far) Text b (λ js. d (t ∷ js)) (λ k. case_label t.span.line) ts
      by_case t w [] =
          breaks_at_end (x ∷ sign x (codes ":") ∷ us) (fin _ (t ∷ x ∷ sign x (codes ":") ∷ us) (g.name_label w vx refl)) (λ k. refl)
      by_case t w (u ∷ ks) =
          by_option int_ahead (int_tells b (u ∷ ks))
          (λ l is. after_token _ (by_expect (codes ":") ks _ (sign x (codes ":") ∷ us)
          (fin _ (t ∷ u ∷ sign x (codes ":") ∷ us) (g.int_label w (int_kind u.kind l is) refl)) (λ v ls e is'. read refl)) (λ js' k n good. refl))
          (λ none. by_variable_here u ks _ (x ∷ sign x (codes ":") ∷ us) (fin _ (t ∷ x ∷ sign x (codes ":") ∷ us) (g.name_label w vx refl))
          (λ v. by_expect (codes ":") ks _ (sign x (codes ":") ∷ us) (fin _ (t ∷ u ∷ sign x (codes ":") ∷ us) (g.name_label w v refl))
          (λ c ls e is. read refl)))

  labels_from_begin : (n : ℕ) (sofar : List Label) (d : List Token → List Token) (us : List Token)
      → ((all : List Label) (ws : List Token) → Labels b.types all ws us → Text 0 (d ws))
      → (ts : List Token) → length ts < n → Viable proper x (suc far) Text b d (λ k. labels_from k sofar) ts
  unfolding labels_from
  labels_from_begin zero sofar d us fin ts len = absurd (omega (arith, len))
  labels_from_begin (suc n) sofar d us fin ts len =
      alike_viable {p = λ k. labels_from (suc k) sofar} (step (label_local b ts) (label_yields b ts)
      (label_begins d us (λ one ws q. fin (one ∷ []) ws (g.last_label q)) ts)
      (λ one ks y. let h = label_frame y in
      onward h (by_test sees_label (label_tells b ks)
      (λ is. labels_from_begin n (sofar ++ one ∷ []) (λ js. d (h.w js)) us (λ all ws q. fin (one ∷ all) (h.w ws) (g.more_labels (h.moves ws) q)) ks
      (omega (arith, len, label_shrinks y))) (λ isnt. read refl))))
      (λ us k e g. labels_same (turned b k us) k (suc k) sofar us g.0 (omega (arith, g.0)))

  pub labels_begin : (d : List Token → List Token) (us : List Token) → ((all : List Label) (ws : List Token) → Labels b.types all ws us → Text 0 (d ws))
      → (ts : List Token) → Viable proper x (suc far) Text b d (λ k. labels) ts
  unfolding labels
  labels_begin d us fin ts =
      alike_viable {p = λ k. labels_from k []} (labels_from_begin (suc (length ts)) [] d us fin ts (omega arith)) (λ us k e g. refl)

  -- ---- what begins a declaration in a block

  int_row : form_row (word x (codes "int")) ≡ None
  unfolding forms
  int_row = refl

  signed_is : is_no_name (codes "signed") ≡ true
  unfolding is_no_name
  signed_is = refl

  not_spelt : (m : List ℕ) → is_wordlike m ≡ false → is_spelt m x ≡ false
  not_spelt m other =
      and_right (is_word_kind x.kind || is_punct_kind x.kind) (bytes_eq x.text m)
      (false_from_ne_true (bytes_eq x.text m) (λ same.
      let text : x.text ≡ m = (bytes_eq-Decides x.text m).0 same in
      both_ways (is_wordlike m) other (ap is_wordlike (sym text) ∙ sx.0 (ap is_word_kind (name_kind x (variable_name b.types x vx))))))

  no_slot : (which : Form) (us : List Token) → fits_first b.types (form_slots which) (x ∷ us) ≡ false
  no_slot (the.Word w) us = not_spelt (codes ";") refl
  no_slot the.ResetStack us = not_spelt (codes "-=") refl
  no_slot the.SetIndex us = not_spelt (codes ".") refl
  no_slot the.NewXs us = not_spelt (codes "(") refl
  no_slot the.KeptNewXs us = not_spelt (codes "=") refl
  no_slot the.NewRecord us = not_spelt (codes "(") refl
  no_slot the.Unused us = not_spelt (codes "(") refl

  pub declared_text : (over : ℕ) (d : List Token → List Token) (us : List Token) → AreSpelt us
      → ((over : ℕ) (s : StmtTree) (ws : List Token) → Part b.types s ws us → depth s ≤ 0 + over → tallest_but x.text s ≤ max_nesting + over → Text over (d ws))
      → (ts : List Token) → head_is (is_type b.types) ts ≡ true → begins_form_at b.types ts ≡ false
      → (w : List Token → List Token) → IsFront w → (rest more : List Token) → w rest ≡ ts → (one : DeclaredTree) → Declared b.types one (w more) us
      → tallest_value_but x.text one.names ≤ max_nesting + over → (js : List Token) × (AreSpelt more → AreSpelt js) × Text over (d (w js))
  declared_text over d us su fin ts typed none w front rest more here one q low = by (begins_form_at b.types (w more)) refl
    where
      all : front.before ++ rest ≡ ts
      all = sym (front.is rest) ∙ here

      alone : front.before ≡ [] → (js : List Token) × (AreSpelt more → AreSpelt js) × Text over (d (w js))
      alone e =
          let int : Token = word x (codes "int") in
          let same : w (int ∷ x ∷ stop ∷ us) ≡ int ∷ x ∷ stop ∷ us = front.is (int ∷ x ∷ stop ∷ us) ∙ ap (λ l. l ++ int ∷ x ∷ stop ∷ us) e in
          let no_form : begins_form_at b.types (int ∷ x ∷ stop ∷ us) ≡ false = rw int_row refl in
          let two = declared_of (r.type_name (r.one_word (int_is b.types x)) refl) (one_name b.types x vx (stop ∷ us)) refl in (
            int ∷ x ∷ stop ∷ us,
            (λ a. (word_spelt x (codes "int") refl, (sx, (sign_spelt x (codes ";") refl, su)))),
            fin over (tree_stmt.Declare two.0) (w (int ∷ x ∷ stop ∷ us))
                (subst (λ (l : List Token). Part b.types (tree_stmt.Declare two.0) l us) (sym same) (g.declared no_form two.1)) (omega arith)
                (declared_low x.text two.0 (name_alone x ∷ []) two.2 (omega arith)),
          )

      one_word : (c : Token) → front.before ≡ c ∷ [] → (row : Form × List perl_forms.Part) → form_row c ≡ Some row
          → (js : List Token) × (AreSpelt more → AreSpelt js) × Text over (d (w js))
      one_word c e row f =
          let same : w (x ∷ stop ∷ us) ≡ c ∷ x ∷ stop ∷ us = front.is (x ∷ stop ∷ us) ∙ ap (λ l. l ++ x ∷ stop ∷ us) e in
          let facts = row_facts c row f in
          let is : is_type b.types c ≡ true = ap (head_is (is_type b.types)) (ap (λ l. l ++ rest) (sym e) ∙ all) ∙ typed in
          let isnt : bytes_eq c.text (codes "signed") ≡ false = false_from_ne_true (bytes_eq c.text (codes "signed")) (λ s.
          both_ways (is_no_name c.text) facts.names (ap is_no_name ((bytes_eq-Decides c.text (codes "signed")).0 s) ∙ signed_is)) in
          let no_form : begins_form_at b.types (c ∷ x ∷ stop ∷ us) ≡ false =
          rw f (ap (λ ss. fits_first b.types ss (x ∷ stop ∷ us)) facts.slots ∙ no_slot row.0 (stop ∷ us)) in
          let two = declared_of (r.type_name (r.one_word is) isnt) (one_name b.types x vx (stop ∷ us)) refl in (
            x ∷ stop ∷ us,
            (λ a. (sx, (sign_spelt x (codes ";") refl, su))),
            fin over (tree_stmt.Declare two.0) (w (x ∷ stop ∷ us))
                (subst (λ (l : List Token). Part b.types (tree_stmt.Declare two.0) l us) (sym same) (g.declared no_form two.1)) (omega arith)
                (declared_low x.text two.0 (name_alone x ∷ []) two.2 (omega arith)),
          )

      by_before : (before : List Token) → front.before ≡ before → begins_form_at b.types (w more) ≡ true
          → (js : List Token) × (AreSpelt more → AreSpelt js) × Text over (d (w js))
      by_before [] e begun = alone e
      by_before (c ∷ []) e begun =
          let here_is : w more ≡ c ∷ more = front.is more ∙ ap (λ l. l ++ more) e in
          let row = begins_row b.types c more (ap (begins_form_at b.types) (sym here_is) ∙ begun) in
          one_word c e row.0 row.1
      by_before (c ∷ v ∷ p) e begun =
          let here_is : w more ≡ (c ∷ v ∷ p) ++ more = front.is more ∙ ap (λ l. l ++ more) e in
          let there_is : (c ∷ v ∷ p) ++ rest ≡ ts = ap (λ l. l ++ rest) (sym e) ∙ all in
          let stays = begins_stays b.types (c ∷ v ∷ p) rest more (omega arith) in
          let wrong : true ≡ false = sym begun ∙ (ap (begins_form_at b.types) here_is ∙ (stays ∙ (ap (begins_form_at b.types) there_is ∙ none))) in
          absurd cc

      by : (c : Bool) → begins_form_at b.types (w more) ≡ c → (js : List Token) × (AreSpelt more → AreSpelt js) × Text over (d (w js))
      by false n = (more, (λ a. a), fin over (tree_stmt.Declare one) (w more) (g.declared n q) (omega arith) low)
      by true begun = by_before front.before refl begun

  -- the same of a token that may stand where a name would be too deep, after more tokens than tell a form
  pub declared_name : (d : List Token → List Token) (us : List Token) → AreSpelt us
      → ((over : ℕ) (s : StmtTree) (ws : List Token) → Part b.types s ws us → depth s ≤ 0 + over → tallest_but x.text s ≤ max_nesting + over
      → Text over (d ws))
      → (ts : List Token) → begins_form_at b.types ts ≡ false → (w : List Token → List Token) (f : IsFront w) (rest : List Token) (over : ℕ) (t : Token)
      (more : List Token) → 1 < length f.before
      → w rest ≡ ts → (one : DeclaredTree) → Declared b.types one (w (t ∷ more)) us → tallest_value_but x.text one.names ≤ max_nesting + over
      → (js : List Token) × (AreSpelt more → AreSpelt js) × Text over (d (w (t ∷ js)))
  declared_name d us su fin ts none w f rest over t more long here one q low =
      let there : begins_form_at b.types (f.before ++ rest) ≡ false = ap (begins_form_at b.types) (sym (f.is rest) ∙ here) ∙ none in
      let still : begins_form_at b.types (w (t ∷ more)) ≡ false =
      ap (begins_form_at b.types) (f.is (t ∷ more)) ∙ (begins_stays b.types f.before rest (t ∷ more) long ∙ there) in
      (more, (λ a. a), fin over (tree_stmt.Declare one) (w (t ∷ more)) (g.declared still q) (omega arith) low)
