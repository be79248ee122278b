-- Where reading statements breaks off, the tokens that were passed begin some.
use Rattle.std.proofs.Common.{◌≡◌, ℕ, zero, suc, ◌+◌, ◌<◌, ◌≤◌, max, Bool, true, false, List, [], ◌∷◌, ◌++◌, length, Some, None, refl, ap, sym, subst, ◌∙◌, arith}
use Rattle.std.specs.Prelude.{codes}
use Rattle.xs_base.specs.Readers.{◌>>=◌, pure}
use Rattle.xs_ctok.specs.declared.token.Token.{Token}
use Rattle.xs_csyn.proofs.Breaks.{Onward, Viable, after_token, alike_viable, breaks_here, by_bool, by_option, by_test, finished, onward, read, retold, sign_here, step}
use Rattle.xs_csyn.proofs.TokenBreaks.{by_eat, by_expect, by_here, by_word}
use Rattle.xs_csyn.proofs.TypesBegin.{sign, sign_spelt, word_spelt, word}
use Rattle.xs_csyn.proofs.FormRests.{form_first}
use Rattle.xs_csyn.proofs.FormSlots.{row_facts}
use Rattle.xs_csyn.proofs.FormsBegin.{NoElse, far, form_rest_begins}
use Rattle.xs_csyn.proofs.FormsLocal.{form_read, row_form}
use Rattle.xs_csyn.proofs.FormsSound.{begins_by}
use Rattle.xs_csyn.proofs.Frames.{IsFront, front_both, front_one}
use Rattle.xs_csyn.proofs.HoleHeights.{but_low, first_low, hole_none, option_low, stmt_low, stmts_low}
use Rattle.xs_csyn.proofs.Local.{Local, proper, sees_tells, turned, word_tells}
use Rattle.xs_csyn.proofs.MoreTurns.{body_same, groups_same, parts_same}
use Rattle.xs_csyn.proofs.PlainLocal.{condition_local, for_head_local, labels_local}
use Rattle.xs_csyn.proofs.StatementsLocal as local
use Rattle.xs_csyn.proofs.StatementsLocal.{begins_row, begins_same, ends_tells, group_local, opener_tells, part_declares, part_ends, part_local, part_states, simple_stmt, stmt_local}
use Rattle.xs_csyn.proofs.Marks.{mark_no_name, word_no_name, words}
use Rattle.xs_csyn.proofs.Sizes.{part_shrinks, stmt_shrinks}
use Rattle.xs_csyn.proofs.StatementFrames.{Fine, condition_frame, for_head_frame, labels_frame, part_standing, stmt_standing, stmts_standing}
use Rattle.xs_csyn.proofs.StatementsBegin.{condition_begins, declaration_after_begins, declared_name, declared_text, fine_with, for_head_begins, groups_no_else, labels_begin, name_whole, parts_no_else, simple_begins, stmt_no_else}
use Rattle.xs_csyn.proofs.StatementsSound.{AGroup, all_labels_yield, condition_yields, for_head_yields, group_shrinks, group_yields, made, opened_word, part_yields, stmt_yields, word_of}
use Rattle.xs_csyn.specs.FaultPlaces.{SameNext}
use Rattle.xs_csyn.specs.FileGrammar.{AreNames}
use Rattle.xs_csyn.specs.Grammar.{Is, IsVariable, IsWord}
use Rattle.xs_cstmt.specs.PerlForms as perl_forms
use Rattle.xs_cstmt.specs.PerlForms.{begins_form_at, form_row}
use Rattle.xs_csyn.specs.TokenTexts.{IsSpelt, AreSpelt}
use Rattle.xs_csyn.specs.Prefixes.{tallest_but, tallest_in_but, tallest_of_but, tallest_value_but}
use Rattle.xs_cstmt.specs.StatementHeights.{depth, depths, group_depths}
use Rattle.xs_csyn.specs.StatementGrammar as g
use Rattle.xs_csyn.specs.StatementGrammar.{Condition, Declared, Groups, Labels, Part, Parts, Statement, Stmts}
use Rattle.xs_cstmt.specs.StatementReader.{a_do, a_for, a_switch, a_while, an_if, block, body_from, else_branch, ends_body, group, group_body, groups, groups_from, labels, last_leaves, max_nesting, opened_by, opener, part, parts, parts_from, simple, stmt}
use Rattle.xs_cexpr.specs.ExpressionTree as tree_expr
use Rattle.xs_cstmt.specs.StatementTree as tree_stmt
use Rattle.xs_cexpr.specs.ExpressionTree.{ExprTree}
use Rattle.xs_cstmt.specs.StatementTree.{DeclaredTree, GroupTree, GroupTrees, StmtTree, StmtTrees, stmts_of}
use Rattle.xs_cinput.specs.TokenInput.{Input, Reader, is_type, line, next, sees, sees_word}
use Rattle.xs_ctok.specs.CWords.{is_no_name}
use Rattle.xs_cstmt.specs.declared.forms.Form.{Form}
use Rattle.xs_cstmt.specs.declared.openers.Opener.{Opener}
use Rattle.xs_cstmt.specs.declared.openers.Opener.TheVariants as opens
use Rattle.xs_cstmt.specs.declared.tree.Label.{Label}

-- statements of a depth
abbrev pub InnerStmt : (ℕ → List Token → Type 0) → Input → Token → ℕ → Type 0
InnerStmt Text b x room = (d : List Token → List Token) (us : List Token) → AreSpelt us → NoElse us
    → ((over : ℕ) (s : StmtTree) (ws : List Token) → Statement b.types s ws us → depth s ≤ room + over → tallest_but x.text s ≤ max_nesting + over
    → Text over (d ws))
    → (ts : List Token) → Viable proper x (suc far) Text b d (λ k. stmt room) ts

pub onward_by : {A : Type 0} {x : Token} {Text : ℕ → List Token → Type 0} {b : Input} {d : List Token → List Token} {ts us : List Token} {r : ℕ → Reader A}
    (w : List Token → List Token) → IsFront w → w us ≡ ts → Viable proper x (suc far) Text b (λ js. d (w js)) r us → Onward proper x (suc far) Text b d r ts us
onward_by w front here v = record { w = w; front = front; here = here; then_viable = v }

stmts_no_else : {types : List (List ℕ)} {all : StmtTrees} {ts us : List Token} → NoElse us → Stmts types all ts us → NoElse ts
stmts_no_else ne g.no_stmts = ne
stmts_no_else ne (g.stmt x y) = stmt_no_else x

-- groups as deep and as tall as the first of them and those after it are
record GroupsOf (types : List (List ℕ)) (hole : List ℕ) (body : StmtTrees) (more : GroupTrees) (ts us : List Token) : Type 0 where
  all : GroupTrees
  stand : Groups types true all ts us
  deep : group_depths all ≡ max (depths body) (group_depths more)
  tall : tallest_in_but hole all ≡ max (tallest_of_but hole body) (tallest_in_but hole more)

group_of : {types : List (List ℕ)} (hole : List ℕ) {all : List Label} {body : StmtTrees} {more : GroupTrees} {ws vs ks us : List Token}
    → Labels types all ws vs → Stmts types body vs ks → Groups types (last_leaves false body) more ks us → GroupsOf types hole body more ws us
group_of hole (g.last_label (g.int_label w k c)) y z =
    record { all = _; stand = g.group (g.last_label (g.int_label w k c)) y z; deep = refl; tall = refl }
group_of hole (g.last_label (g.name_label w n c)) y z =
    record { all = _; stand = g.group (g.last_label (g.name_label w n c)) y z; deep = refl; tall = refl }
group_of hole (g.last_label (g.default_label w c)) y z =
    record { all = _; stand = g.group (g.last_label (g.default_label w c)) y z; deep = refl; tall = refl }
group_of hole (g.more_labels (g.int_label w k c) x) y z =
    record { all = _; stand = g.group (g.more_labels (g.int_label w k c) x) y z; deep = refl; tall = refl }
group_of hole (g.more_labels (g.name_label w n c) x) y z =
    record { all = _; stand = g.group (g.more_labels (g.name_label w n c) x) y z; deep = refl; tall = refl }
group_of hole (g.more_labels (g.default_label w c) x) y z =
    record { all = _; stand = g.group (g.more_labels (g.default_label w c) x) y z; deep = refl; tall = refl }

-- a group, and those that come after it
record GroupOn (types : List (List ℕ)) (hole : List ℕ) (room : ℕ) (one : GroupTree) (ts ks : List Token) : Type 0 where
  w : List Token → List Token
  front : IsFront w
  here : w ks ≡ ts
  deep : depths one.body ≤ room
  tall : tallest_of_but hole one.body ≤ max_nesting
  joins : (more : GroupTrees) (ws us : List Token) → Groups types (last_leaves false one.body) more ws us → GroupsOf types hole one.body more (w ws) us

group_on : {types : List (List ℕ)} {room : ℕ} {one : GroupTree} {ts ks : List Token} (hole : List ℕ) → AGroup types room one ts ks
    → GroupOn types hole room one ts ks
group_on hole (made {body = body} {us = vs} {vs = ks} l s dd hh) =
    let f = labels_frame l in
    let h = stmts_standing s in
    record {
      w = λ js. f.w (h.w js);
      front = front_both f.front h.front;
      here = ap f.w h.here ∙ f.here;
      deep = dd;
      tall = omega (arith, stmts_low hole body, hh);
      joins = λ more ws us q. group_of hole (f.moves (h.w ws)) (h.moves ws (fine_with ks ws (groups_no_else q))) q;
    }

-- a group on this line
abbrev group_then : Reader StmtTree → ℕ → Reader GroupTree
group_then inner line = do
  all ← labels
  body ← group_body inner
  pure (record { line = line; labels = all; body = stmts_of body })

module _ (Text : ℕ → List Token → Type 0) (b : Input) (x : Token) (vx : IsVariable b.types x) (sx : IsSpelt x) (nx : form_row x ≡ None)
    (names : AreNames b.types)
    (room : ℕ) (H : InnerStmt Text b x room) where
  abbrev stop : Token
  stop = sign x (codes ";")

  abbrev brace : Token
  brace = sign x (codes "}")

  inner : (ts : List Token) → Local proper b (λ k. stmt room) ts
  inner ts = stmt_local b names room ts

  -- what stands directly in a block
  pub part_begins : (d : List Token → List Token) (us : List Token) → AreSpelt us → NoElse us
      → ((over : ℕ) (s : StmtTree) (ws : List Token) → Part b.types s ws us → depth s ≤ room + over → tallest_but x.text s ≤ max_nesting + over → Text over
      (d ws))
      → (ts : List Token) → Viable proper x (suc far) Text b d (λ k. part (stmt room)) ts
  part_begins d us su ne fin [] = alike_viable (H d us su ne (λ over s ws q a low. fin over s ws (g.stated q) a low) []) (λ js k n good. at_end js k n)
    where
      at_end : (js : List Token) (k : ℕ) → SameNext [] js → part (stmt room) (turned b k js) ≡ stmt room (turned b k js)
      at_end [] k n = part_ends b room inner k
      at_end (u ∷ js) k n = absurd n
  part_begins d us su ne fin (t ∷ ts) = by (is_type b.types t) (begins_form_at b.types (t ∷ ts)) refl refl
    where
      stated : is_type b.types t ≡ false → (js : List Token) (k : ℕ) → SameNext (t ∷ ts) js → part (stmt room) (turned b k js) ≡ stmt room (turned b k js)
      stated isnt [] k n = absurd n
      stated isnt (u ∷ js) k n = part_states b room inner u js k (ap (is_type b.types) (sym n) ∙ isnt)

      formed : is_type b.types t ≡ true → (row : Form × List perl_forms.Part) → form_row t ≡ Some row → begins_form_at b.types (t ∷ ts) ≡ true
          → Viable proper x (suc far) Text b d (λ k. part (stmt room)) (t ∷ ts)
      formed is row r begins =
          after_token t (finished (λ p i. (tree_stmt.Perl t.span.line p, i)) (form_rest_begins Text b x vx sx row.0 t row.1 r d us su ne
          (λ over s ws q a low. fin over s ws (g.stated q) (omega (arith, a)) low) ts)) (λ js k n good.
          let facts = row_facts t row r in
          let y = begins_by t row r in
          local.part_begins b room t js k (begins_same b.types t ts js n ∙ begins)
          ∙ (simple_stmt b k room t js facts.is_a_word facts.no_opener
          ∙ form_read b k t js row.0 (row_form b.types t js row r ∙ rw is refl) (form_first b row.0 t js k y.is_a_word y.spelt)))

      made : (over : ℕ) (s : StmtTree) (ws : List Token) → Part b.types s ws us → depth s ≤ 0 + over → tallest_but x.text s ≤ max_nesting + over
          → Text over (d ws)
      made over s ws q a low = fin over s ws q (omega (arith, a)) low

      declares : is_type b.types t ≡ true → begins_form_at b.types (t ∷ ts) ≡ false → Viable proper x (suc far) Text b d (λ k. part (stmt room)) (t ∷ ts)
      declares is isnt =
          after_token t (finished (λ one i. (tree_stmt.Declare one, i))
          (retold (declaration_after_begins (λ over ws. (one : DeclaredTree) × Declared b.types one ws us ×
          (tallest_value_but x.text one.names ≤ max_nesting + over))
          b x vx sx nx t is (λ js. js) us su (λ over one ws q low. (one, q, low)) ts)
          (λ w front rest more here over y. declared_text Text b x vx sx nx over d us su made (t ∷ ts) is isnt (λ js. t ∷ w js) (front_one t front) rest more
          (ap (λ l. t ∷ l) here) y.0 y.1 y.2)
          (λ w front rest over u more long here y. declared_name Text b x vx sx nx d us su made (t ∷ ts) isnt (λ js. t ∷ w js) (front_one t front) rest
          over u more (omega (arith, long)) (ap (λ l. t ∷ l) here) y.0 y.1 y.2)))
          (λ js k n good. part_declares b room inner t js k is (begins_same b.types t ts js n ∙ isnt))

      by : (c e : Bool) → is_type b.types t ≡ c → begins_form_at b.types (t ∷ ts) ≡ e → Viable proper x (suc far) Text b d (λ k. part (stmt room)) (t ∷ ts)
      by false e isnt begins = alike_viable (H d us su ne (λ over s ws q a low. fin over s ws (g.stated q) a low) (t ∷ ts)) (λ js k n good. stated isnt js k n)
      by true false is isnt = declares is isnt
      by true true is begins = let row = begins_row b.types t ts begins in formed is row.0 row.1 begins

  pub parts_from_begin : (n : ℕ) (sofar : List StmtTree) (d : List Token → List Token) (us : List Token) → AreSpelt us
      → ((over : ℕ) (all : StmtTrees) (ws : List Token) → Parts b.types all ws us → depths all ≤ room + over → tallest_of_but x.text all ≤ max_nesting + over
      → Text over (d ws))
      → (ts : List Token) → length ts < n → Viable proper x (suc far) Text b d (λ k. parts_from (stmt room) k sofar) ts
  unfolding parts_from
  parts_from_begin zero sofar d us su fin ts len = absurd (omega (arith, len))
  parts_from_begin (suc n) sofar d us su fin ts len =
      alike_viable {p = λ k. parts_from (stmt room) (suc k) sofar} (by_eat (codes "}") ts (λ u ks e is. read refl)
      (step (part_local b room inner ts) (part_yields b (stmt room) room (stmt_yields b room) ts)
      (part_begins d (brace ∷ us) (sign_spelt x (codes "}") refl, su) refl
      (λ over s ws q a low. fin over (tree_stmt.MoreStmts s tree_stmt.NoStmts) ws (g.part q (g.over refl)) (omega (arith, a))
      (omega (arith, low))) ts)
      (λ one ks y. let h = part_standing y.0 in
      onward_by h.w h.front h.here (parts_from_begin n (sofar ++ one ∷ []) (λ js. d (h.w js)) us su
      (λ over all ws q a low. fin over (tree_stmt.MoreStmts one all) (h.w ws) (g.part (h.moves ws (fine_with ks ws (parts_no_else names q))) q)
      (omega (arith, a, y.1)) (omega (arith, low, stmt_low x.text one, y.2))) ks
      (omega (arith, len, part_shrinks y.0))))))
      (λ us k e g. parts_same (turned b k us) room k (suc k) sofar us g.0 (omega (arith, g.0)))

  pub parts_begin : (d : List Token → List Token) (us : List Token) → AreSpelt us
      → ((over : ℕ) (all : StmtTrees) (ws : List Token) → Parts b.types all ws us → depths all ≤ room + over → tallest_of_but x.text all ≤ max_nesting + over
      → Text over (d ws))
      → (ts : List Token) → Viable proper x (suc far) Text b d (λ k. parts (stmt room)) ts
  unfolding parts
  parts_begin d us su fin ts =
      alike_viable {p = λ k. parts_from (stmt room) k []} (parts_from_begin (suc (length ts)) [] d us su fin ts (omega arith)) (λ us k e g. refl)

  block_begins : (t : Token) → Is (codes "{") t → (d : List Token → List Token) (us : List Token) → AreSpelt us
      → ((over : ℕ) (s : StmtTree) (ws : List Token) → Statement b.types s ws us → depth s ≤ suc room + over → tallest_but x.text s ≤ max_nesting + over
      → Text over (d ws))
      → (ts : List Token) → Viable proper x (suc far) Text b d (λ k. block (stmt room)) (t ∷ ts)
  unfolding block line next
  block_begins t is d us su fin ts =
      after_token _ (finished _ (parts_begin (λ js. d (t ∷ js)) us su
      (λ over all ws q a low. fin over (tree_stmt.Block t.span.line all) (t ∷ ws) (g.block is q) (omega (arith, a)) low) ts)) (λ js' k n good. refl)

  else_begins : (n : ℕ) (test : ExprTree) (s : StmtTree) (d : List Token → List Token) (us : List Token) → AreSpelt us → NoElse us → (ts : List Token)
      → ((u : Token) (ks : List Token) → ts ≡ u ∷ ks → IsWord (codes "else") u → (over : ℕ) (o : StmtTree) (ws : List Token) → Statement b.types o ws us
      → depth o ≤ room + over → tallest_but x.text o ≤ max_nesting + over → Text over (d (u ∷ ws)))
      → Viable proper x (suc far) Text b d (λ k. else_branch (stmt room) n test s) ts
  unfolding else_branch sees_word next
  else_begins n test s d us su ne [] fin = read refl
  else_begins n test s d us su ne (u ∷ ks) fin =
      by_test (sees_word (codes "else")) (word_tells b (codes "else") (u ∷ ks))
      (λ is. after_token _ (finished _ (H (λ js. d (u ∷ js)) us su ne (λ over o ws q a low. fin u ks refl is over o ws q a low) ks)) (λ js' k n good. refl))
      (λ isnt. read refl)

  if_begins : (t : Token) → IsWord (codes "if") t → (d : List Token → List Token) (us : List Token) → AreSpelt us → NoElse us
      → ((over : ℕ) (s : StmtTree) (ws : List Token) → Statement b.types s ws us → depth s ≤ suc room + over → tallest_but x.text s ≤ max_nesting + over
      → Text over (d ws))
      → (ts : List Token) → Viable proper x (suc far) Text b d (λ k. an_if (stmt room)) (t ∷ ts)
  unfolding an_if line next
  if_begins t w d us su ne fin ts =
      after_token _ (step (condition_local b ts) (condition_yields b ts)
      (condition_begins Text b x vx sx nx (λ js. d (t ∷ js)) (stop ∷ us) (sign_spelt x (codes ";") refl, su)
      (λ over a ws q low. fin over _ (t ∷ ws) (g.an_if w q (g.empty refl) ne) (omega arith) (omega (arith, low))) ts)
      (λ test ks c. let f = condition_frame c.0 in
      onward f (step (stmt_local b names room ks) (stmt_yields b room ks)
      (H (λ js. d (t ∷ f.w js)) us su ne (λ over s ws q a low. fin over _ (t ∷ f.w ws) (g.an_if w (f.moves ws) q ne)
      (omega (arith, a)) (omega (arith, low, but_low x.text test, c.1))) ks)
      (λ s ls y. let h = stmt_standing y.0 in
      onward_by h.w h.front h.here (else_begins t.span.line test s (λ js. d (t ∷ f.w (h.w js))) us su ne ls
      (λ u ms e is over o ws q a low. fin over _ (t ∷ f.w (h.w (u ∷ ws)))
      (g.if_else w (f.moves (h.w (u ∷ ws))) (h.moves (u ∷ ws) (subst (λ (l : List Token). Fine l (u ∷ ws)) (sym e) (λ i. i))) is q)
      (omega (arith, a, y.1)) (omega (arith, low, but_low x.text test, c.1, stmt_low x.text s, y.2)))))))) (λ js' k n good. refl)

  while_begins : (t : Token) → IsWord (codes "while") t → (d : List Token → List Token) (us : List Token) → AreSpelt us → NoElse us
      → ((over : ℕ) (s : StmtTree) (ws : List Token) → Statement b.types s ws us → depth s ≤ suc room + over → tallest_but x.text s ≤ max_nesting + over
      → Text over (d ws))
      → (ts : List Token) → Viable proper x (suc far) Text b d (λ k. a_while (stmt room)) (t ∷ ts)
  unfolding a_while line next
  while_begins t w d us su ne fin ts =
      after_token _ (step (condition_local b ts) (condition_yields b ts)
      (condition_begins Text b x vx sx nx (λ js. d (t ∷ js)) (stop ∷ us) (sign_spelt x (codes ";") refl, su)
      (λ over a ws q low. fin over _ (t ∷ ws) (g.a_while w q (g.empty refl)) (omega arith) (omega (arith, low))) ts)
      (λ test ks c. let f = condition_frame c.0 in
      onward f (finished _ (H (λ js. d (t ∷ f.w js)) us su ne (λ over s ws q a low. fin over _ (t ∷ f.w ws) (g.a_while w (f.moves ws) q)
      (omega (arith, a)) (omega (arith, low, but_low x.text test, c.1))) ks)))) (λ js' k n good. refl)

  do_begins : (t : Token) → IsWord (codes "do") t → (d : List Token → List Token) (us : List Token) → AreSpelt us → NoElse us
      → ((over : ℕ) (s : StmtTree) (ws : List Token) → Statement b.types s ws us → depth s ≤ suc room + over → tallest_but x.text s ≤ max_nesting + over
      → Text over (d ws))
      → (ts : List Token) → Viable proper x (suc far) Text b d (λ k. a_do (stmt room)) (t ∷ ts)
  unfolding a_do line next
  do_begins t w d us su ne fin ts =
      let in_brackets : List Token = sign x (codes "(") ∷ x ∷ sign x (codes ")") ∷ stop ∷ us in
      let end : List Token = word x (codes "while") ∷ in_brackets in
      let end_are : AreSpelt end =
      (word_spelt x (codes "while") refl, (sign_spelt x (codes "(") refl, (sx, (sign_spelt x (codes ")") refl, (sign_spelt x (codes ";") refl, su))))) in
      let test_there : Condition b.types (tree_expr.Var x.span.line x.text) in_brackets (stop ∷ us) = g.condition refl (name_whole vx) refl in
      after_token _ (step (stmt_local b names room ts) (stmt_yields b room ts)
      (H (λ js. d (t ∷ js)) end end_are refl
      (λ over s ws q a low. fin over _ (t ∷ ws) (g.a_do w q refl test_there refl) (omega (arith, a)) (omega (arith, low, hole_none x))) ts)
      (λ s ks y. let h = stmt_standing y.0 in
      onward_by h.w h.front h.here (by_word (codes "while") ks _ end
      (fin 0 _ (t ∷ h.w end) (g.a_do w (h.moves end (fine_with ks end refl)) refl test_there refl)
      (omega (arith, y.1)) (omega (arith, stmt_low x.text s, y.2, hole_none x)))
      (λ u ls e is. step (condition_local b ls) (condition_yields b ls)
      (condition_begins Text b x vx sx nx (λ js. d (t ∷ h.w (u ∷ js))) (stop ∷ us) (sign_spelt x (codes ";") refl, su)
      (λ over a ws q low. fin over _ (t ∷ h.w (u ∷ ws)) (g.a_do w (h.moves (u ∷ ws)
      (fine_with ks (u ∷ ws) (words (codes "while") (codes "else") u is))) is q refl)
      (omega (arith, y.1)) (omega (arith, low, stmt_low x.text s, y.2))) ls)
      (λ a ms c. let f = condition_frame c.0 in
      onward f (by_expect (codes ";") ms _ (stop ∷ us)
      (fin 0 _ (t ∷ h.w (u ∷ f.w (stop ∷ us)))
      (g.a_do w (h.moves (u ∷ f.w (stop ∷ us)) (fine_with ks (u ∷ f.w (stop ∷ us)) (words (codes "while") (codes "else") u is))) is (f.moves (stop ∷ us)) refl)
      (omega (arith, y.1)) (omega (arith, stmt_low x.text s, y.2, but_low x.text a, c.1)))
      (λ v ns e' is'. read refl))))))) (λ js' k n good. refl)

  for_begins : (t : Token) → IsWord (codes "for") t → (d : List Token → List Token) (us : List Token) → AreSpelt us → NoElse us
      → ((over : ℕ) (s : StmtTree) (ws : List Token) → Statement b.types s ws us → depth s ≤ suc room + over → tallest_but x.text s ≤ max_nesting + over
      → Text over (d ws))
      → (ts : List Token) → Viable proper x (suc far) Text b d (λ k. a_for (stmt room)) (t ∷ ts)
  unfolding a_for line next
  for_begins t w d us su ne fin ts =
      after_token _ (step (for_head_local b ts) (for_head_yields b ts)
      (for_head_begins Text b x vx sx nx (λ js. d (t ∷ js)) (stop ∷ us) (sign_spelt x (codes ";") refl, su)
      (λ over h ws q low. fin over _ (t ∷ ws) (g.a_for w q (g.empty refl)) (omega arith) (omega (arith, low))) ts)
      (λ head ks c. let f = for_head_frame c.0 in
      onward f (finished _ (H (λ js. d (t ∷ f.w js)) us su ne (λ over s ws q a low. fin over _ (t ∷ f.w ws) (g.a_for w (f.moves ws) q) (omega (arith, a))
      (omega (arith, low, first_low x.text head.first, option_low x.text head.test, option_low x.text head.step, c.1))) ks)))) (λ js' k n good. refl)

  -- ---- switches

  body_from_begins : (n : ℕ) (sofar : List StmtTree) (d : List Token → List Token) (us : List Token) → AreSpelt us → NoElse us
      → ((over : ℕ) (all : StmtTrees) (ws : List Token) → Stmts b.types all ws us → depths all ≤ room + over → tallest_of_but x.text all ≤ max_nesting + over
      → Text over (d ws))
      → (ts : List Token) → length ts < n → Viable proper x (suc far) Text b d (λ k. body_from (stmt room) k sofar) ts
  unfolding body_from
  body_from_begins zero sofar d us su ne fin ts len = absurd (omega (arith, len))
  body_from_begins (suc n) sofar d us su ne fin ts len =
      alike_viable {p = λ k. body_from (stmt room) (suc k) sofar} (by_test ends_body (ends_tells b ts) (λ is. read refl)
      (λ isnt. step (stmt_local b names room ts) (stmt_yields b room ts)
      (H d us su ne (λ over s ws q a low. fin over (tree_stmt.MoreStmts s tree_stmt.NoStmts) ws (g.stmt q g.no_stmts) (omega (arith, a))
      (omega (arith, low))) ts)
      (λ one ks y. let h = stmt_standing y.0 in
      onward_by h.w h.front h.here (body_from_begins n (sofar ++ one ∷ []) (λ js. d (h.w js)) us su ne
      (λ over all ws q a low. fin over (tree_stmt.MoreStmts one all) (h.w ws) (g.stmt (h.moves ws (fine_with ks ws (stmts_no_else ne q))) q)
      (omega (arith, a, y.1)) (omega (arith, low, stmt_low x.text one, y.2))) ks
      (omega (arith, len, stmt_shrinks y.0))))))
      (λ us k e g. body_same (turned b k us) room k (suc k) sofar us g.0 (omega (arith, g.0)))

  body_begins : (d : List Token → List Token) (us : List Token) → AreSpelt us → NoElse us
      → ((over : ℕ) (all : StmtTrees) (ws : List Token) → Stmts b.types all ws us → depths all ≤ room + over → tallest_of_but x.text all ≤ max_nesting + over
      → Text over (d ws))
      → (ts : List Token) → Viable proper x (suc far) Text b d (λ k. group_body (stmt room)) ts
  unfolding group_body
  body_begins d us su ne fin ts =
      alike_viable {p = λ k. body_from (stmt room) k []} (body_from_begins (suc (length ts)) [] d us su ne fin ts (omega arith)) (λ us k e g. refl)

  group_begins : (d : List Token → List Token) (us : List Token) → AreSpelt us → NoElse us
      → ((over : ℕ) (all : List Label) (body : StmtTrees) (ws vs : List Token) → Labels b.types all ws vs → Stmts b.types body vs us
      → depths body ≤ room + over → tallest_of_but x.text body ≤ max_nesting + over → Text over (d ws))
      → (ts : List Token) → Viable proper x (suc far) Text b d (λ k. group (stmt room)) ts
  unfolding group
  group_begins d us su ne fin ts =
      by_here (λ k line. group_then (stmt room) line) (step (labels_local b ts) (all_labels_yield b ts)
      (labels_begin Text b x vx sx nx d us (λ all ws q. fin 0 all tree_stmt.NoStmts ws us q g.no_stmts (omega arith) (omega arith)) ts)
      (λ all ks l. let f = labels_frame l in
      onward f (finished _ (body_begins (λ js. d (f.w js)) us su ne (λ over body ws q a low. fin over all body (f.w ws) ws (f.moves ws) q a low) ks))))

  groups_from_begin : (n : ℕ) (may : Bool) (sofar : List GroupTree) (d : List Token → List Token) (us : List Token) → AreSpelt us
      → ((over : ℕ) (all : GroupTrees) (ws : List Token) → Groups b.types may all ws us → group_depths all ≤ room + over
      → tallest_in_but x.text all ≤ max_nesting + over → Text over (d ws))
      → (ts : List Token) → length ts < n → Viable proper x (suc far) Text b d (λ k. groups_from (stmt room) k may sofar) ts
  unfolding groups_from
  groups_from_begin zero may sofar d us su fin ts len = absurd (omega (arith, len))
  groups_from_begin (suc n) may sofar d us su fin ts len =
      alike_viable {p = λ k. groups_from (stmt room) (suc k) may sofar} (by_eat (codes "}") ts (λ u ks e is. read refl)
      (by_bool may
      (λ e. step (group_local b room inner ts) (group_yields b (stmt room) room (stmt_yields b room) ts)
      (group_begins d (brace ∷ us) (sign_spelt x (codes "}") refl, su) refl
      (λ over all body ws vs l q a low. let gs = group_of x.text l q (g.groups_over refl) in
      fin over gs.all ws (rw e (gs.stand)) (omega (arith, a, gs.deep)) (omega (arith, low, gs.tall))) ts)
      (λ one ks y. let h = group_on x.text y in
      onward_by h.w h.front h.here (groups_from_begin n (last_leaves false one.body) (sofar ++ one ∷ []) (λ js. d (h.w js)) us su
      (λ over more ws q a low. let gs = h.joins more ws us q in
      fin over gs.all (h.w ws) (rw e (gs.stand)) (omega (arith, a, gs.deep, h.deep)) (omega (arith, low, gs.tall, h.tall))) ks
      (omega (arith, len, group_shrinks y)))))
      (λ e. breaks_here (brace ∷ us) (fin 0 tree_stmt.NoGroups (brace ∷ us) (g.groups_over refl) (omega arith) (omega arith)) (λ us k n. refl))))
      (λ us k e g. groups_same (turned b k us) room k (suc k) may sofar us g.0 (omega (arith, g.0)))

  groups_begin : (d : List Token → List Token) (us : List Token) → AreSpelt us
      → ((over : ℕ) (all : GroupTrees) (ws : List Token) → Groups b.types true all ws us → group_depths all ≤ room + over
      → tallest_in_but x.text all ≤ max_nesting + over → Text over (d ws))
      → (ts : List Token) → Viable proper x (suc far) Text b d (λ k. groups (stmt room)) ts
  unfolding groups
  groups_begin d us su fin ts =
      alike_viable {p = λ k. groups_from (stmt room) k true []} (groups_from_begin (suc (length ts)) true [] d us su fin ts (omega arith)) (λ us k e g. refl)

  switch_begins : (t : Token) → IsWord (codes "switch") t → (d : List Token → List Token) (us : List Token) → AreSpelt us
      → ((over : ℕ) (s : StmtTree) (ws : List Token) → Statement b.types s ws us → depth s ≤ suc room + over → tallest_but x.text s ≤ max_nesting + over
      → Text over (d ws))
      → (ts : List Token) → Viable proper x (suc far) Text b d (λ k. a_switch (stmt room)) (t ∷ ts)
  unfolding a_switch line next
  switch_begins t w d us su fin ts =
      let end : List Token = sign x (codes "{") ∷ brace ∷ us in
      after_token _ (step (condition_local b ts) (condition_yields b ts)
      (condition_begins Text b x vx sx nx (λ js. d (t ∷ js)) end (sign_spelt x (codes "{") refl, (sign_spelt x (codes "}") refl, su))
      (λ over a ws q low. fin over _ (t ∷ ws) (g.a_switch w q refl (g.groups_over refl)) (omega arith) (omega (arith, low))) ts)
      (λ on ks c. let f = condition_frame c.0 in
      onward f (by_expect (codes "{") ks _ end (fin 0 _ (t ∷ f.w end) (g.a_switch w (f.moves end) refl (g.groups_over refl)) (omega arith)
      (omega (arith, but_low x.text on, c.1)))
      (λ u ls e is. finished _ (groups_begin (λ js. d (t ∷ f.w (u ∷ js))) us su
      (λ over all ws q a low. fin over _ (t ∷ f.w (u ∷ ws)) (g.a_switch w (f.moves (u ∷ ws)) is q)
      (omega (arith, a)) (omega (arith, low, but_low x.text on, c.1))) ls))))) (λ js' k n good. refl)

  opened_begins : (o : Opener) (t : Token) → IsWord (word_of o) t → (d : List Token → List Token) (us : List Token) → AreSpelt us → NoElse us
      → ((over : ℕ) (s : StmtTree) (ws : List Token) → Statement b.types s ws us → depth s ≤ suc room + over → tallest_but x.text s ≤ max_nesting + over
      → Text over (d ws))
      → (ts : List Token) → Viable proper x (suc far) Text b d (λ k. opened_by (stmt room) o) (t ∷ ts)
  opened_begins opens.If t w d us su ne fin ts = if_begins t w d us su ne fin ts
  opened_begins opens.While t w d us su ne fin ts = while_begins t w d us su ne fin ts
  opened_begins opens.Do t w d us su ne fin ts = do_begins t w d us su ne fin ts
  opened_begins opens.For t w d us su ne fin ts = for_begins t w d us su ne fin ts
  opened_begins opens.Switch t w d us su ne fin ts = switch_begins t w d us su fin ts

-- No word that opens a statement is a name.
opener_no_name : (o : Opener) → is_no_name (word_of o) ≡ true
unfolding is_no_name
opener_no_name opens.If = refl
opener_no_name opens.While = refl
opener_no_name opens.Do = refl
opener_no_name opens.For = refl
opener_no_name opens.Switch = refl

-- Each word that opens a statement goes on to the shortest one.
opened_text : (Text : ℕ → List Token → Type 0) (b : Input) (x : Token) → IsVariable b.types x → IsSpelt x → form_row x ≡ None → AreNames b.types
    → (d : List Token → List Token) (us : List Token) → AreSpelt us → NoElse us
    → ((over : ℕ) (s : StmtTree) (ws : List Token) → Statement b.types s ws us → depth s ≤ zero + over → tallest_but x.text s ≤ max_nesting + over
    → Text over (d ws))
    → (o : Opener) (t : Token) → IsWord (word_of o) t → (more : List Token) × AreSpelt more × Text 2 (d (t ∷ more))
opened_text Text b x vx sx nx names d us su ne fin o t w = by o w
  where
    stop : Token
    stop = sign x (codes ";")

    -- a name in parentheses
    tested : List Token → List Token
    tested ks = sign x (codes "(") ∷ x ∷ sign x (codes ")") ∷ ks

    test_there : (ks : List Token) → Condition b.types (tree_expr.Var x.span.line x.text) (tested ks) ks
    test_there ks = g.condition refl (name_whole vx) refl

    tested_are : (ks : List Token) → AreSpelt ks → AreSpelt (tested ks)
    tested_are ks a = (sign_spelt x (codes "(") refl, (sx, (sign_spelt x (codes ")") refl, a)))

    stop_are : (ks : List Token) → AreSpelt ks → AreSpelt (stop ∷ ks)
    stop_are ks a = (sign_spelt x (codes ";") refl, a)

    by : (o : Opener) → IsWord (word_of o) t → (more : List Token) × AreSpelt more × Text 2 (d (t ∷ more))
    by opens.If w = (
      tested (stop ∷ us),
      tested_are (stop ∷ us) (stop_are us su),
      fin 2 _ (t ∷ tested (stop ∷ us)) (g.an_if w (test_there (stop ∷ us)) (g.empty refl) ne)
          (omega arith) (omega (arith, hole_none x)),
    )
    by opens.While w = (
      tested (stop ∷ us),
      tested_are (stop ∷ us) (stop_are us su),
      fin 2 _ (t ∷ tested (stop ∷ us)) (g.a_while w (test_there (stop ∷ us)) (g.empty refl))
          (omega arith) (omega (arith, hole_none x)),
    )
    by opens.Do w =
        let end : List Token = word x (codes "while") ∷ tested (stop ∷ us) in (
          stop ∷ end,
          stop_are end (word_spelt x (codes "while") refl, (tested_are (stop ∷ us) (stop_are us su))),
          fin 2 _ (t ∷ stop ∷ end) (g.a_do w (g.empty refl) refl (test_there (stop ∷ us)) refl) (omega arith) (omega (arith, hole_none x)),
        )
    by opens.For w =
        let end : List Token = sign x (codes "(") ∷ stop ∷ stop ∷ sign x (codes ")") ∷ stop ∷ us in (
          end,
          (
            sign_spelt x (codes "(") refl,
            (stop_are (stop ∷ sign x (codes ")") ∷ stop ∷ us) (stop_are (sign x (codes ")") ∷ stop ∷ us)
                (sign_spelt x (codes ")") refl, (stop_are us su)))),
          ),
          fin 2 _ (t ∷ end) (g.a_for w (g.for_head refl (g.no_first refl) (g.nothing refl) (g.nothing refl)) (g.empty refl)) (omega arith) (omega arith),
        )
    by opens.Switch w =
        let end : List Token = sign x (codes "{") ∷ sign x (codes "}") ∷ us in (
          tested end,
          tested_are end (sign_spelt x (codes "{") refl, (sign_spelt x (codes "}") refl, su)),
          fin 2 _ (t ∷ tested end) (g.a_switch w (test_there end) refl (g.groups_over refl)) (omega arith) (omega (arith, hole_none x)),
        )

-- Where reading a statement breaks off, the tokens that were passed begin one.
pub stmt_begins : (Text : ℕ → List Token → Type 0) (b : Input) (x : Token) → IsVariable b.types x → IsSpelt x → form_row x ≡ None → AreNames b.types
    → (room : ℕ)
    → InnerStmt Text b x room
unfolding stmt sees opener
stmt_begins Text b x vx sx nx names zero d us su ne fin [] =
    alike_viable (simple_begins Text b x vx sx nx names d us su ne (λ over s ws q a low. fin over s ws q (omega (arith, a)) low) [])
    (λ js k n good. at_end js k n)
  where
    at_end : (js : List Token) (k : ℕ) → SameNext [] js → stmt zero (turned b k js) ≡ simple (turned b k js)
    at_end [] k n = refl
    at_end (u ∷ js) k n = absurd n
stmt_begins Text b x vx sx nx names zero d us su ne fin (t ∷ ts) =
    let stop : Token = sign x (codes ";") in
    let brace : Token = sign x (codes "}") in
    by_test (sees (codes "{")) (sees_tells b (codes "{") (t ∷ ts))
    (λ is. sign_here t (mark_no_name (codes "{") t is) (stop ∷ us)
    (fin 0 (tree_stmt.Empty x.span.line) (stop ∷ us) (g.empty refl) (omega arith) (omega arith)) 2 (brace ∷ us)
    (sign_spelt x (codes "}") refl, su)
    (fin 2 (tree_stmt.Block t.span.line tree_stmt.NoStmts) (t ∷ brace ∷ us) (g.block is (g.over refl)) (omega arith) (omega arith)) (λ js k n. refl))
    (λ isnt. by_option opener (opener_tells b (t ∷ ts))
    (λ o is. let z = opened_text Text b x vx sx nx names d us su ne fin o t (opened_word t o is) in
    sign_here t (word_no_name (word_of o) t (opened_word t o is) (opener_no_name o)) (stop ∷ us)
    (fin 0 (tree_stmt.Empty x.span.line) (stop ∷ us) (g.empty refl) (omega arith) (omega arith)) 2 z.0 z.1 z.2 (λ js k n. refl))
    (λ none. simple_begins Text b x vx sx nx names d us su ne (λ over s ws q a low. fin over s ws q (omega (arith, a)) low) (t ∷ ts)))
stmt_begins Text b x vx sx nx names (suc below) d us su ne fin [] =
    alike_viable (simple_begins Text b x vx sx nx names d us su ne (λ over s ws q a low. fin over s ws q (omega (arith, a)) low) [])
    (λ js k n good. at_end js k n)
  where
    at_end : (js : List Token) (k : ℕ) → SameNext [] js → stmt (suc below) (turned b k js) ≡ simple (turned b k js)
    at_end [] k n = refl
    at_end (u ∷ js) k n = absurd n
stmt_begins Text b x vx sx nx names (suc below) d us su ne fin (t ∷ ts) =
    let H : InnerStmt Text b x below = stmt_begins Text b x vx sx nx names below in
    by_test (sees (codes "{")) (sees_tells b (codes "{") (t ∷ ts)) (λ is. block_begins Text b x vx sx nx names below H t is d us su fin ts)
    (λ isnt. by_option opener (opener_tells b (t ∷ ts))
    (λ o is. opened_begins Text b x vx sx nx names below H o t (opened_word t o is) d us su ne fin ts)
    (λ none. simple_begins Text b x vx sx nx names d us su ne (λ over s ws q a low. fin over s ws q (omega (arith, a)) low) (t ∷ ts)))
