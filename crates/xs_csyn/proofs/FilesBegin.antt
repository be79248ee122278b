-- Where reading an item of a file breaks off, the tokens that were passed begin one.
use Rattle.xs_csyn.specs.TokenTexts.{AreSpelt}
use Rattle.xs_csyn.proofs.FormsBegin.{far}
use Rattle.std.proofs.Common.{◌≡◌, ℕ, zero, suc, ◌+◌, ◌-◌, ◌<◌, ◌≤◌, Bool, true, false, if◌then◌else◌, List, [], ◌∷◌, ◌++◌, length, refl, ◌∙◌, arith}
use Rattle.std.proofs.lemmas.Bool.{and_from}
use Rattle.std.specs.Prelude.{codes}
use Rattle.xs_base.specs.Readers.{◌>>=◌, ◌>>◌, head_is, pure}
use Rattle.xs_ctok.specs.declared.token.Token.{Token}
use Rattle.xs_csyn.proofs.BlocksBegin.{InnerStmt, parts_begin, parts_from_begin, stmt_begins}
use Rattle.xs_csyn.proofs.Breaks.{Viable, after_token, after_two, alike_viable, breaks_here, by_test, finished, less_of, onward, read, step}
use Rattle.xs_csyn.proofs.TokenBreaks.{by_eat, by_expect, by_here, by_name, by_variable}
use Rattle.xs_csyn.proofs.TypesBegin.{sign, type_begins, type_then_begins, type_then_yields, word}
use Rattle.xs_csyn.proofs.ExpressionsSound.{type_yields}
use Rattle.xs_csyn.proofs.FileFrames.{fields_frame, head_frame, parameter_at, parameter_frame}
use Rattle.xs_csyn.proofs.FilesLocal.{args_row, body_then, field_local, fields_local, first_statement, head_local, no_args, no_end, none_here, parameter_first, parameter_local, parameter_then, parameter_then_local, parameters_first, parameters_then, unbegun, unvoid, void_alone, void_first, void_is_type, xs_body, xs_body_first}
use Rattle.xs_csyn.proofs.FilesSound.{AField, all_fields_yield, field_shrinks, field_yields, head_yields, one_field, parameter_yields}
use Rattle.xs_csyn.proofs.Frames.{Frame, made_of, type_at, type_frame, with_next}
use Rattle.xs_csyn.proofs.Local.{proper, same_first, turned, word_tells}
use Rattle.xs_csyn.proofs.Marks.{variable_name}
use Rattle.xs_csyn.proofs.MoreTurns.{fields_same, parameters_same}
use Rattle.xs_csyn.proofs.Sizes.{parameter_shrinks}
use Rattle.xs_csyn.proofs.TypesLocal.{type_local, type_then_local}
use Rattle.xs_csyn.proofs.Yields.{Yields, at}
use Rattle.xs_csyn.specs.FaultPlaces.{IsFiller}
use Rattle.xs_csyn.specs.FileGrammar as g
use Rattle.xs_csyn.specs.FileGrammar.{AHead, AreNames, Fields, Item, Parameter, Parameters, SomeParameters, begins_body}
use Rattle.xs_csyn.specs.FileReader.{a_record, a_typedef, body, body_begins, field, fields, fields_from, function, head, item, named_type, parameter, parameters, parameters_from, some_parameters, xs_function}
use Rattle.xs_csyn.specs.Grammar as r
use Rattle.xs_csyn.specs.Grammar.{AType, Is, IsWord, MayName}
use Rattle.xs_csyn.specs.Prefixes.{FitsBut, tallest_of_but}
use Rattle.xs_cstmt.specs.StatementHeights.{depths}
use Rattle.xs_csyn.specs.StatementGrammar as s
use Rattle.xs_csyn.specs.StatementGrammar.{Parts}
use Rattle.xs_cstmt.specs.StatementReader.{max_nesting}
use Rattle.xs_cstmt.specs.StatementTree.{StmtTrees}
use Rattle.xs_csyn.specs.FileTree.{ItemTree}
use Rattle.xs_cinput.specs.TokenInput.{Input, Reader, a_name, a_variable, expect, is_sign, is_type, is_word, line, next, refuse, sees_word, skip}
use Rattle.xs_cinput.specs.declared.tree.CType.{CType}
use Rattle.xs_csyn.specs.declared.tree.Head.{Head}
use Rattle.xs_csyn.specs.declared.tree.Par.{Par}
use Rattle.xs_csyn.specs.declared.tree.Record.{Record}
use Rattle.xs_csyn.specs.declared.tree.Typedef.{Typedef}

head_of : {types : List (List ℕ)} {to : CType} {all : List Par} {u v : Token} {ws ks vs : List Token} → AType types to ws (u ∷ v ∷ ks) → MayName u
    → Is (codes "(") v → Parameters types all ks vs → (h : Head) × AHead types h ws vs
head_of (r.a_type x k) n o p = (_, g.a_head (r.a_type x k) n o p)

-- what stands after a type, by the line of its name
abbrev field_then : CType → ℕ → Reader Par
field_then of_type line = do
  name ← a_name
  expect (codes ";")
  pure (record { line = line; of_type = of_type; name = name })

abbrev name_then : CType → ℕ → Reader Par
name_then of_type line = do
  name ← a_variable
  pure (record { line = line; of_type = of_type; name = name })

abbrev typedef_then : ℕ → CType → ℕ → Reader Typedef
typedef_then line of_type name_line = do
  name ← a_name
  expect (codes ";")
  pure (record { line = line; of_type = of_type; name = name; name_line = name_line })

-- what stands after the fields
abbrev record_then : ℕ → List Par → ℕ → Reader Record
record_then line all name_line = do
  name ← a_name
  expect (codes ";")
  pure (record { line = line; fields = all; name = name; name_line = name_line })

module _ (Text : ℕ → List Token → Type 0) (b : Input) (x : Token) (fill : IsFiller b.types x) where
  abbrev stop : Token
  stop = sign x (codes ";")

  abbrev close : Token
  close = sign x (codes ")")

  x_name : MayName x
  x_name = variable_name b.types x fill.is_variable

  -- ---- types that are declared

  field_begins : (d : List Token → List Token) (us : List Token) → ((p : Par) (ws : List Token) → AField b.types p ws us → Text 0 (d ws))
      → (ts : List Token) → Viable proper x (suc far) Text b d (λ k. field) ts
  unfolding field
  field_begins d us fin ts =
      step (type_local b ts) (type_yields b ts) (type_begins Text b x d (x ∷ stop ∷ us) (λ to ws q. fin _ ws (one_field q x_name refl)) ts)
      (λ to ks ty. let f = type_frame ty in
      onward f (by_here (λ k. field_then to) (by_name ks _ (x ∷ stop ∷ us) (fin _ (f.w (x ∷ stop ∷ us)) (one_field (f.moves (x ∷ stop ∷ us)) x_name refl))
      (λ u ls e n. by_expect (codes ";") ls _ (stop ∷ us) (fin _ (f.w (u ∷ stop ∷ us)) (one_field (f.moves (u ∷ stop ∷ us)) n refl))
      (λ v ms e' is. read refl)))))

  more_fields : {p : Par} {all : List Par} {ws vs us : List Token} → AField b.types p ws vs → Fields b.types all vs us → Fields b.types (p ∷ all) ws us
  more_fields (one_field ty n semi) q = g.field ty n semi q

  field_frame : {p : Par} {ts us : List Token} → AField b.types p ts us → Frame (AField b.types p) ts us
  field_frame (one_field ty n semi) = made_of (with_next (with_next (type_frame ty))) (λ ps bs y. one_field y n semi)

  fields_from_begin : (n : ℕ) (sofar : List Par) (d : List Token → List Token) (us : List Token)
      → ((all : List Par) (ws : List Token) → Fields b.types all ws us → Text 0 (d ws))
      → (ts : List Token) → length ts < n → Viable proper x (suc far) Text b d (λ k. fields_from k sofar) ts
  unfolding fields_from
  fields_from_begin zero sofar d us fin ts len = absurd (omega (arith, len))
  fields_from_begin (suc n) sofar d us fin ts len =
      alike_viable {p = λ k. fields_from (suc k) sofar} (by_eat (codes "}") ts (λ u ks e is. read refl)
      (step (field_local b ts) (field_yields b ts)
      (field_begins d (sign x (codes "}") ∷ us) (λ p ws q. fin (p ∷ []) ws (more_fields q (g.fields_over refl))) ts)
      (λ one ks y. let f = field_frame y in
      onward f (fields_from_begin n (sofar ++ one ∷ []) (λ js. d (f.w js)) us (λ all ws q. fin (one ∷ all) (f.w ws) (more_fields (f.moves ws) q)) ks
      (omega (arith, len, field_shrinks y))))))
      (λ us k e g. fields_same (turned b k us) k (suc k) sofar us g.0 (omega (arith, g.0)))

  fields_begin : (d : List Token → List Token) (us : List Token) → ((all : List Par) (ws : List Token) → Fields b.types all ws us → Text 0 (d ws))
      → (ts : List Token) → Viable proper x (suc far) Text b d (λ k. fields) ts
  unfolding fields
  fields_begin d us fin ts =
      alike_viable {p = λ k. fields_from k []} (fields_from_begin (suc (length ts)) [] d us fin ts (omega arith)) (λ us k e g. refl)

  -- ---- parameters

  parameter_begins : (d : List Token → List Token) (us : List Token) → ((p : Par) (ws : List Token) → Parameter b.types p ws us → Text 0 (d ws))
      → (ts : List Token) → Viable proper x (suc far) Text b d (λ k. parameter) ts
  unfolding parameter
  parameter_begins d us fin ts =
      step (type_local b ts) (type_yields b ts) (type_begins Text b x d (x ∷ us) (λ to ws q. fin _ ws (g.parameter q fill.is_variable)) ts)
      (λ to ks ty. let f = type_frame ty in
      onward f (by_here (λ k. name_then to) (by_variable ks _ (x ∷ us) (fin _ (f.w (x ∷ us)) (g.parameter (f.moves (x ∷ us)) fill.is_variable))
      (λ u ls e v. read refl))))

  parameters_from_begin : (n : ℕ) (sofar : List Par) (d : List Token → List Token) (us : List Token)
      → ((all : List Par) (ws : List Token) → SomeParameters b.types all ws us → Text 0 (d ws))
      → (ts : List Token) → length ts < n → Viable proper x (suc far) Text b d (λ k. parameters_from k sofar) ts
  unfolding parameters_from
  parameters_from_begin zero sofar d us fin ts len = absurd (omega (arith, len))
  parameters_from_begin (suc n) sofar d us fin ts len =
      alike_viable {p = λ k. parameters_from (suc k) sofar} (step (parameter_local b ts) (parameter_yields b ts)
      (parameter_begins d (close ∷ us) (λ p ws q. fin (p ∷ []) ws (g.last_parameter q refl)) ts)
      (λ one ks y. let f = parameter_frame y in
      onward f (by_eat (codes ",") ks
      (λ u ls e is. parameters_from_begin n (sofar ++ one ∷ []) (λ js. d (f.w (u ∷ js))) us
      (λ all ws q. fin (one ∷ all) (f.w (u ∷ ws)) (g.more_parameters (f.moves (u ∷ ws)) is q)) ls
      (omega (arith, len, less_of e, parameter_shrinks y)))
      (by_expect (codes ")") ks _ (close ∷ us) (fin (one ∷ []) (f.w (close ∷ us)) (g.last_parameter (f.moves (close ∷ us)) refl))
      (λ u ls e is. read refl)))))
      (λ us k e g. parameters_same (turned b k us) k (suc k) sofar us g.0 (omega (arith, g.0)))

  more_begin : (sofar : List Par) (d : List Token → List Token) (us : List Token)
      → ((all : List Par) (ws : List Token) → SomeParameters b.types all ws us → Text 0 (d ws))
      → (ts : List Token) → Viable proper x (suc far) Text b d (λ k. parameters_from k sofar) ts
  more_begin sofar d us fin ts = parameters_from_begin (suc (length ts)) sofar d us fin ts (omega arith)

  some_begin : (d : List Token → List Token) (us : List Token) → ((all : List Par) (ws : List Token) → SomeParameters b.types all ws us → Text 0 (d ws))
      → (ts : List Token) → Viable proper x (suc far) Text b d (λ k. some_parameters) ts
  unfolding some_parameters
  some_begin d us fin ts = alike_viable {p = λ k. parameters_from k []} (more_begin [] d us fin ts) (λ us k e g. refl)

  -- a parameter after its first word
  parameter_then_begins : (t : Token) → is_type b.types t ≡ true → (d : List Token → List Token) (us : List Token)
      → ((p : Par) (ws : List Token) → Parameter b.types p ws us → Text 0 (d ws))
      → (ts : List Token) → Viable proper x (suc far) Text b (λ js. d (t ∷ js)) (λ k. parameter_then t.span.line t.text) ts
  parameter_then_begins t is d us fin ts =
      step (type_then_local b t.span.line t.text ts) (type_then_yields b t is ts)
      (type_then_begins Text b x t is d (x ∷ us) (λ to ws q. fin _ ws (g.parameter q fill.is_variable)) ts)
      (λ to ks ty. let f = type_at ty in
      onward f (by_here (λ k. name_then to) (by_variable ks _ (x ∷ us) (fin _ (t ∷ f.w (x ∷ us)) (g.parameter (f.moves (x ∷ us)) fill.is_variable))
      (λ u ls e v. read refl))))

  parameters_then_begin : (t : Token) → is_type b.types t ≡ true → (d : List Token → List Token) (us : List Token)
      → ((all : List Par) (ws : List Token) → SomeParameters b.types all ws us → Text 0 (d ws))
      → (ts : List Token) → Viable proper x (suc far) Text b (λ js. d (t ∷ js)) (λ k. parameters_then t.span.line t.text k) ts
  parameters_then_begin t is d us fin ts =
      step (parameter_then_local b t.span.line t.text ts) then_yields
      (parameter_then_begins t is d (close ∷ us) (λ p ws q. fin (p ∷ []) ws (g.last_parameter q refl)) ts)
      (λ one ks y. let f = parameter_at y in
      onward f (by_eat (codes ",") ks
      (λ u ls e is'. more_begin ([] ++ one ∷ []) (λ js. d (t ∷ f.w (u ∷ js))) us
      (λ all ws q. fin (one ∷ all) (t ∷ f.w (u ∷ ws)) (g.more_parameters (f.moves (u ∷ ws)) is' q)) ls)
      (by_expect (codes ")") ks _ (close ∷ us) (fin (one ∷ []) (t ∷ f.w (close ∷ us)) (g.last_parameter (f.moves (close ∷ us)) refl))
      (λ u ls e is'. read refl))))
    where
      then_yields : Yields b (parameter_then t.span.line t.text (at b ts)) (λ p us. Parameter b.types p (t ∷ ts) us)
      then_yields = record { gives = λ a k e. (parameter_yields b (t ∷ ts)).gives a k (parameter_first b t ts b.turns is ∙ e) }

  parameters_begin : (d : List Token → List Token) (us : List Token) → ((all : List Par) (ws : List Token) → Parameters b.types all ws us → Text 0 (d ws))
      → (ts : List Token) → Viable proper x (suc far) Text b d (λ k. parameters) ts
  parameters_begin d us fin ts = by_void ts (head_is (is_word (codes "void")) ts) refl
    where
      unvoid_begins : (ts : List Token) → Viable proper x (suc far) Text b d (λ k. unvoid) ts
      unvoid_begins ts = by_eat (codes ")") ts (λ u ks e is. read refl) (some_begin d us (λ all ws q. fin all ws (g.some_parameters q)) ts)

      after_void : (t : Token) (ts : List Token) → IsWord (codes "void") t → (c : Bool) → head_is (is_sign (codes ")")) ts ≡ c
          → Viable proper x (suc far) Text b d (λ k. parameters) (t ∷ ts)
      after_void t ts w true c = read (void_alone b b.turns t ts w c)
      after_void t ts w false c =
          after_token t (parameters_then_begin t (void_is_type b.types t w) d us (λ all ws q. fin all ws (g.some_parameters q)) ts)
          (λ js k n g. void_first b k t js w (same_first (head_is (is_sign (codes ")"))) (is_sign (codes ")")) (λ u ks. refl) ts js n ∙ c)
          ∙ (parameters_same (turned b k (t ∷ js)) k (suc k) [] (t ∷ js) g.0 (omega (arith, g.0)) ∙ parameters_first b t js k (void_is_type b.types t w)))

      by_void : (ts : List Token) (c : Bool) → head_is (is_word (codes "void")) ts ≡ c → Viable proper x (suc far) Text b d (λ k. parameters) ts
      by_void ts false e = alike_viable (unvoid_begins ts) (λ js k n g. none_here b ts e js k n)
      by_void [] true e = absurd cc
      by_void (t ∷ ts) true e = after_void t ts e (head_is (is_sign (codes ")")) ts) refl

  head_begins : (n : ℕ) (d : List Token → List Token) (us : List Token) → ((h : Head) (ws : List Token) → AHead b.types h ws us → Text 0 (d ws))
      → (ts : List Token) → Viable proper x (suc far) Text b d (λ k. head n) ts
  unfolding head
  head_begins n d us fin ts =
      let end : List Token = sign x (codes "(") ∷ close ∷ us in
      let no_pars : Parameters b.types [] (close ∷ us) us = g.no_parameters refl in
      step (type_local b ts) (type_yields b ts)
      (type_begins Text b x d (x ∷ end) (λ to ws q. let h = head_of q x_name refl no_pars in fin h.0 ws h.1) ts)
      (λ to ks ty. let f = type_frame ty in
      onward f (by_name ks _ (x ∷ end) (let h = head_of (f.moves (x ∷ end)) x_name refl no_pars in fin h.0 (f.w (x ∷ end)) h.1)
      (λ u ls e n'. by_expect (codes "(") ls _ end (let h = head_of (f.moves (u ∷ end)) n' refl no_pars in fin h.0 (f.w (u ∷ end)) h.1)
      (λ v ms e' is. finished _ (parameters_begin (λ js. d (f.w (u ∷ v ∷ js))) us
      (λ all ws q. let h = head_of (f.moves (u ∷ v ∷ ws)) n' is q in fin h.0 (f.w (u ∷ v ∷ ws)) h.1) ms)))))

  -- after `typedef`
  typedef_begins : (t : Token) → IsWord (codes "typedef") t → (d : List Token → List Token) (us : List Token) → AreSpelt us
      → ((over : ℕ) (one : ItemTree) (ws : List Token) → Item b.types one (t ∷ ws) us → (over ≡ 0 → FitsBut x.text one) → Text over (d ws))
      → (ts : List Token) → Viable proper x (suc far) Text b d (λ k. a_typedef t.span.line) ts
  unfolding a_typedef
  typedef_begins t w d us su fin ts =
      step (type_local b ts) (type_yields b ts) (type_begins Text b x d (x ∷ stop ∷ us) (λ to ws q. fin 0 _ ws (g.a_typedef w q x_name refl) (λ e. tt)) ts)
      (λ to ks ty. let f = type_frame ty in
      onward f (by_here (λ k. typedef_then t.span.line to) (by_name ks _ (x ∷ stop ∷ us)
      (fin 0 _ (f.w (x ∷ stop ∷ us)) (g.a_typedef w (f.moves (x ∷ stop ∷ us)) x_name refl) (λ e. tt))
      (λ u ls e n. by_expect (codes ";") ls _ (stop ∷ us) (fin 0 _ (f.w (u ∷ stop ∷ us)) (g.a_typedef w (f.moves (u ∷ stop ∷ us)) n refl) (λ e. tt))
      (λ v ms e' is. read refl)))))

  -- after `typedef struct`
  record_begins : (t u : Token) → IsWord (codes "typedef") t → IsWord (codes "struct") u → (d : List Token → List Token) (us : List Token) → AreSpelt us
      → ((over : ℕ) (one : ItemTree) (ws : List Token) → Item b.types one (t ∷ u ∷ ws) us → (over ≡ 0 → FitsBut x.text one) → Text over (d ws))
      → (ts : List Token) → Viable proper x (suc far) Text b d (λ k. a_record t.span.line) ts
  unfolding a_record
  record_begins t u w is d us su fin ts =
      let end : List Token = x ∷ stop ∷ us in
      by_expect (codes "{") ts _ (sign x (codes "{") ∷ sign x (codes "}") ∷ end)
      (fin 0 _ (sign x (codes "{") ∷ sign x (codes "}") ∷ end) (g.a_record w is refl (g.fields_over refl) x_name refl) (λ e. tt))
      (λ v ls e o. step (fields_local b ls) (all_fields_yield b ls)
      (fields_begin (λ js. d (v ∷ js)) end (λ all ws q. fin 0 _ (v ∷ ws) (g.a_record w is o q x_name refl) (λ e. tt)) ls)
      (λ all ms q. let f = fields_frame q in
      onward f (by_here (λ k. record_then t.span.line all) (by_name ms _ end (fin 0 _ (v ∷ f.w end) (g.a_record w is o (f.moves end) x_name refl) (λ e. tt))
      (λ c ns e' n. by_expect (codes ";") ns _ (stop ∷ us) (fin 0 _ (v ∷ f.w (c ∷ stop ∷ us)) (g.a_record w is o (f.moves (c ∷ stop ∷ us)) n refl) (λ e. tt))
      (λ h ps e'' is'. read refl))))))

  named_begins : (t : Token) → IsWord (codes "typedef") t → (d : List Token → List Token) (us : List Token) → AreSpelt us
      → ((over : ℕ) (one : ItemTree) (ws : List Token) → Item b.types one (t ∷ ws) us → (over ≡ 0 → FitsBut x.text one) → Text over (d ws))
      → (ts : List Token) → Viable proper x (suc far) Text b d (λ k. named_type t.span.line) ts
  unfolding named_type sees_word next
  named_begins t w d us su fin [] =
      by_test (sees_word (codes "struct")) (word_tells b (codes "struct") []) (λ is. absurd cc) (λ isnt. finished _ (typedef_begins t w d us su fin []))
  named_begins t w d us su fin (u ∷ ks) =
      by_test (sees_word (codes "struct")) (word_tells b (codes "struct") (u ∷ ks))
      (λ is. after_token _ (finished _ (record_begins t u w is (λ js. d (u ∷ js)) us su (λ over one ws q low. fin over one (u ∷ ws) q low) ks))
      (λ js' k n good. refl))
      (λ isnt. finished _ (typedef_begins t w d us su fin (u ∷ ks)))

-- ---- functions

module _ (Text : ℕ → List Token → Type 0) (b : Input) (x : Token) (fill : IsFiller b.types x) (names : AreNames b.types) where
  inner_begins : InnerStmt Text b x (max_nesting - 1)
  inner_begins = stmt_begins Text b x fill.is_variable fill.is_spelt fill.no_form names (max_nesting - 1)

  body_begin : (d : List Token → List Token) (us : List Token) → AreSpelt us → ((over : ℕ) (all : StmtTrees) (ws : List Token) → Parts b.types all ws us
      → depths all ≤ max_nesting - 1 + over → tallest_of_but x.text all ≤ max_nesting + over → Text over (d ws))
      → (ts : List Token) → Viable proper x (suc far) Text b d (λ k. body) ts
  unfolding body
  body_begin d us su fin ts = parts_begin Text b x fill.is_variable fill.is_spelt fill.no_form names (max_nesting - 1) inner_begins d us su fin ts

  function_begins : (t : Token) (d : List Token → List Token) (us : List Token) → AreSpelt us
      → ((over : ℕ) (one : ItemTree) (ws : List Token) → Item b.types one ws us → (over ≡ 0 → FitsBut x.text one) → Text over (d ws))
      → (ts : List Token) → Viable proper x (suc far) Text b d (λ k. function t.span.line) (t ∷ ts)
  unfolding function
  function_begins t d us su fin ts =
      let end : List Token = sign x (codes ";") ∷ us in
      step (head_local b t.span.line (t ∷ ts)) (head_yields b t ts)
      (head_begins Text b x fill t.span.line d end (λ h ws q. fin 0 _ ws (g.prototype q refl) (λ e. tt)) (t ∷ ts))
      (λ h ks q. let f = head_frame q in
      onward f (by_eat (codes ";") ks (λ u ls e is. read refl)
      (by_expect (codes "{") ks _ end (fin 0 _ (f.w end) (g.prototype (f.moves end) refl) (λ e. tt))
      (λ u ls e o. finished _ (body_begin (λ js. d (f.w (u ∷ js))) us su
      (λ over all ws p a low. fin over _ (f.w (u ∷ ws)) (g.function (f.moves (u ∷ ws)) o p) (λ e. (omega (arith, a, e), omega (arith, low, e)))) ls)))))

  abbrev args : Token
  args = word x (codes "dXSARGS")

  abbrev first_end : List Token → List Token
  first_end us = sign x (codes ";") ∷ sign x (codes "}") ∷ us

  -- a body of the first statement alone
  record Begun (t : Token) (us : List Token) : Type 0 where
    all : StmtTrees
    stand : Parts b.types all (t ∷ first_end us) us
    deep : depths all ≤ max_nesting - 1
    tall : tallest_of_but x.text all ≤ max_nesting

  args_parts : (t : Token) → IsWord (codes "dXSARGS") t → (us : List Token) → Begun t us
  args_parts t w us =
      record { all = _; stand = s.part (s.stated (s.perl (s.word (args_row t w) refl))) (s.over refl); deep = omega arith; tall = omega arith }

  begins_with : (t : Token) → IsWord (codes "dXSARGS") t → (us : List Token) → begins_body (t ∷ first_end us) ≡ true
  begins_with t w us = rw w refl

  -- the body of an XS function
  xs_body_begins : (d : List Token → List Token) (us : List Token) → AreSpelt us
      → ((over : ℕ) (all : StmtTrees) (ws : List Token) → begins_body ws ≡ true → Parts b.types all ws us
      → depths all ≤ max_nesting - 1 + over → tallest_of_but x.text all ≤ max_nesting + over → Text over (d ws))
      → (line : ℕ) (name : List ℕ) (ts : List Token) → Viable proper x (suc far) Text b d (λ k. xs_body line name) ts
  xs_body_begins d us su fin line name ts = by_word ts (head_is (is_word (codes "dXSARGS")) ts) refl
    where
      -- after the first statement
      then_begins : (t u : Token) → IsWord (codes "dXSARGS") t → Is (codes ";") u → (ks : List Token)
          → Viable proper x (suc far) Text b (λ js. d (t ∷ u ∷ js)) (λ k. body_then line name t k) ks
      then_begins t u w c ks =
          finished _ (parts_from_begin Text b x fill.is_variable fill.is_spelt fill.no_form names (max_nesting - 1) inner_begins (suc (length ks))
          ([] ++ first_statement t ∷ []) (λ js. d (t ∷ u ∷ js)) us su
          (λ over all ws q a low. fin over _ (t ∷ u ∷ ws) (and_from (is_word (codes "dXSARGS") t) (is_sign (codes ";") u) w c)
          (s.part (s.stated (s.perl (s.word (args_row t w) c))) q) (omega (arith, a)) (omega (arith, low))) ks (omega arith))

      by_end : (t : Token) (ks : List Token) → IsWord (codes "dXSARGS") t → (c : Bool) → head_is (is_sign (codes ";")) ks ≡ c
          → Viable proper x (suc far) Text b d (λ k. xs_body line name) (t ∷ ks)
      by_end t ks w false e =
          let all = args_parts t w us in
          after_token t {p = λ k. refuse {A = ItemTree}}
          (breaks_here (first_end us) (fin 0 all.all (t ∷ first_end us) (begins_with t w us) all.stand (omega (arith, all.deep)) (omega (arith, all.tall)))
          (λ js k n. refl))
          (λ js k n g. unbegun line name (body_begins (turned b k (t ∷ js))) (turned b k js)
          (no_end b k t js w (same_first (head_is (is_sign (codes ";"))) (is_sign (codes ";")) (λ u ls. refl) ks js n ∙ e)))
      by_end t [] w true e = absurd cc
      by_end t (u ∷ ks) w true e = after_two t u (then_begins t u w e ks) (λ js k n g. xs_body_first b line name k t u js w e g.0)

      by_word : (ts : List Token) (c : Bool) → head_is (is_word (codes "dXSARGS")) ts ≡ c → Viable proper x (suc far) Text b d (λ k. xs_body line name) ts
      by_word ts false e =
          let all = args_parts args refl us in
          breaks_here (args ∷ first_end us) (fin 0 all.all (args ∷ first_end us) (begins_with args refl us) all.stand (omega (arith, all.deep))
          (omega (arith, all.tall)))
          (λ js k n. unbegun line name (body_begins (turned b k js)) (turned b k js)
          (no_args b k js (same_first (head_is (is_word (codes "dXSARGS"))) (is_word (codes "dXSARGS")) (λ u ls. refl) ts js n ∙ e)))
      by_word [] true e = absurd cc
      by_word (t ∷ ks) true e = by_end t ks e (head_is (is_sign (codes ";")) ks) refl

  -- after `XS`
  xs_begins : (t : Token) → IsWord (codes "XS") t → (d : List Token → List Token) (us : List Token) → AreSpelt us
      → ((over : ℕ) (one : ItemTree) (ws : List Token) → Item b.types one (t ∷ ws) us → (over ≡ 0 → FitsBut x.text one) → Text over (d ws))
      → (ts : List Token) → Viable proper x (suc far) Text b d (λ k. xs_function t.span.line) ts
  unfolding xs_function
  xs_begins t w d us su fin ts =
      let n = variable_name b.types x fill.is_variable in
      let open' : Token = sign x (codes "(") in
      let end : List Token = sign x (codes "{") ∷ args ∷ first_end us in
      let all = args_parts args refl us in
      let begun_so = begins_with args refl us in
      by_expect (codes "(") ts _ (open' ∷ x ∷ sign x (codes ")") ∷ end)
      (fin 0 _ (open' ∷ x ∷ sign x (codes ")") ∷ end) (g.xs_function w refl n refl refl begun_so all.stand) (λ e. (omega (arith, all.deep), all.tall)))
      (λ u ks e o. by_name ks _ (x ∷ sign x (codes ")") ∷ end)
      (fin 0 _ (u ∷ x ∷ sign x (codes ")") ∷ end) (g.xs_function w o n refl refl begun_so all.stand) (λ e. (omega (arith, all.deep), all.tall)))
      (λ v ls e' n'. by_expect (codes ")") ls _ (sign x (codes ")") ∷ end)
      (fin 0 _ (u ∷ v ∷ sign x (codes ")") ∷ end) (g.xs_function w o n' refl refl begun_so all.stand) (λ e. (omega (arith, all.deep), all.tall)))
      (λ c ms e'' cl. by_expect (codes "{") ms _ end (fin 0 _ (u ∷ v ∷ c ∷ end) (g.xs_function w o n' cl refl begun_so all.stand)
      (λ e. (omega (arith, all.deep), all.tall)))
      (λ h ns e3 ob. xs_body_begins (λ js. d (u ∷ v ∷ c ∷ h ∷ js)) us su
      (λ over all' ws so q a low. fin over _ (u ∷ v ∷ c ∷ h ∷ ws) (g.xs_function w o n' cl ob so q)
      (λ e. (omega (arith, a, e), omega (arith, low, e)))) t.span.line v.text ns))))

  pub item_begins : (t : Token) (d : List Token → List Token) (us : List Token) → AreSpelt us
      → ((over : ℕ) (one : ItemTree) (ws : List Token) → Item b.types one ws us → (over ≡ 0 → FitsBut x.text one) → Text over (d ws))
      → (ts : List Token) → Viable proper x (suc far) Text b d (λ k. item) (t ∷ ts)
  unfolding item sees_word line next
  item_begins t d us su fin ts =
      by_here (λ k line i. if sees_word (codes "typedef") i then (skip >> named_type line) i
      else (if sees_word (codes "XS") i then (skip >> xs_function line) i else function line i))
      (by_test (sees_word (codes "typedef")) (word_tells b (codes "typedef") (t ∷ ts))
      (λ w. after_token _ (named_begins Text b x fill t w (λ js. d (t ∷ js)) us su (λ over one ws q low. fin over one (t ∷ ws) q low) ts)
      (λ js' k n good. refl))
      (λ isnt. by_test (sees_word (codes "XS")) (word_tells b (codes "XS") (t ∷ ts))
      (λ w. after_token _ (xs_begins t w (λ js. d (t ∷ js)) us su (λ over one ws q low. fin over one (t ∷ ws) q low) ts) (λ js' k n good. refl))
      (λ isnt'. function_begins t d us su fin ts)))
