-- What is read as an item of a file rests on the tokens that are passed and on the next one.
use Rattle.std.proofs.Common.{◌≡◌, ℕ, zero, suc, ◌-◌, ◌<◌, Bool, true, false, if◌then◌else◌, List, [], ◌∷◌, ◌++◌, length, Some, Ok, Err, refl, ap, ◌∙◌, arith}
use Rattle.std.specs.Prelude.{codes}
use Rattle.xs_base.specs.Readers.{◌>>=◌, ◌>>◌, and_then, head_is, pure}
use Rattle.xs_ctok.specs.declared.token.Token.{Token}
use Rattle.xs_csyn.proofs.FilesSound.{AField, field_shrinks, field_yields, parameter_yields}
use Rattle.xs_csyn.proofs.FormRests.{form_first, form_rest}
use Rattle.xs_csyn.proofs.FormSlots.{spelt}
use Rattle.xs_csyn.proofs.FormsComplete.{ahead, row_of, spelt_sign}
use Rattle.xs_csyn.proofs.FormsLocal.{form_read}
use Rattle.xs_csyn.proofs.Local.{Good, Local, after_one, alike, at_once, bind, by_bool, by_test, eat_local, expect_local, gives, here_local, moving, name_local, no_longer, proper, refused, same_first, skip_local, turned, variable_local, word_tells}
use Rattle.xs_csyn.proofs.Marks.{is_word_of, word_no_mark}
use Rattle.xs_csyn.proofs.MoreTurns.{fields_same, parameters_same, parts_same}
use Rattle.xs_csyn.proofs.Sizes.{parameter_shrinks}
use Rattle.xs_csyn.proofs.StatementsLocal.{part_begins, parts_from_local, parts_local, simple_stmt, stmt_local}
use Rattle.xs_csyn.proofs.TypesLocal.{type_first, type_local, type_then, type_then_local}
use Rattle.xs_csyn.specs.FaultPlaces.{SameNext}
use Rattle.xs_csyn.specs.FileGrammar.{AreNames}
use Rattle.xs_csyn.specs.FileReader.{a_record, a_typedef, body, body_begins, field, fields, fields_from, function, head, item, named_type, parameter, parameters, parameters_from, sees_none, some_parameters, xs_function}
use Rattle.xs_csyn.specs.FileGrammar.{Parameter}
use Rattle.xs_csyn.specs.Grammar.{Is, IsWord}
use Rattle.xs_cstmt.specs.PerlForms.{form_row, forms}
use Rattle.xs_cstmt.specs.StatementReader.{max_nesting, part, parts, parts_from, stmt}
use Rattle.xs_cstmt.specs.StatementTree as tree_stmt
use Rattle.xs_csyn.specs.FileTree as tree_file
use Rattle.xs_cstmt.specs.StatementTree.{StmtTree, stmts_of}
use Rattle.xs_csyn.specs.FileTree.{FunctionTree, ItemTree}
use Rattle.xs_cinput.specs.TokenInput.{Input, Outcome, Reader, a_variable, after, eat, expect, expect_word, here, is_sign, is_type, is_word, is_word_kind, line, next, refuse, sees, sees_word, skip}
use Rattle.xs_ctok.specs.CWords.{is_type_word}
use Rattle.xs_cstmt.specs.declared.forms.Form.TheVariants as the
use Rattle.xs_csyn.specs.declared.tree.Head.{Head}
use Rattle.xs_csyn.specs.declared.tree.Par.{Par}
use Rattle.xs_cstmt.specs.declared.tree.PerlForm.TheVariants as form
use Rattle.xs_cstmt.specs.declared.tree.PerlWord.TheVariants as word
use Rattle.xs_csyn.specs.declared.tree.Record.{Record}
use Rattle.xs_csyn.specs.declared.tree.Typedef.{Typedef}

-- ---- parameters by their first word

abbrev pub parameter_then : ℕ → List ℕ → Reader Par
parameter_then line first = do
  of_type ← type_then line first
  name_line ← here
  name ← a_variable
  pure (record { line = name_line; of_type = of_type; name = name })

-- a parameter after its first word, and those after it
abbrev pub parameters_then : ℕ → List ℕ → ℕ → Reader (List Par)
parameters_then line first k = do
  one ← parameter_then line first
  more ← eat (codes ",")
  if more then parameters_from k ([] ++ one ∷ []) else (expect (codes ")") >> pure ([] ++ one ∷ []))

-- where not `void` alone stands in the parentheses
abbrev pub unvoid : Reader (List Par)
unvoid = do
  is_none ← eat (codes ")")
  if is_none then pure [] else some_parameters

pub parameter_first : (b : Input) (t : Token) (us : List Token) (k : ℕ) → is_type b.types t ≡ true
    → parameter (turned b k (t ∷ us)) ≡ parameter_then t.span.line t.text (turned b k us)
unfolding parameter
parameter_first b t us k is = rw (type_first b t us k is) refl

pub parameters_first : (b : Input) (t : Token) (us : List Token) (k : ℕ) → is_type b.types t ≡ true
    → parameters_from (suc k) [] (turned b k (t ∷ us)) ≡ parameters_then t.span.line t.text k (turned b k us)
unfolding parameters_from
parameters_first b t us k is = rw (parameter_first b t us k is) refl

not_void : (i : Input) → sees_none i ≡ false → parameters i ≡ unvoid i
unfolding parameters
not_void i e = rw e refl

pub void_alone : (b : Input) (k : ℕ) (t : Token) (us : List Token) → IsWord (codes "void") t → head_is (is_sign (codes ")")) us ≡ true
    → parameters (turned b k (t ∷ us)) ≡ and_then (skip (turned b k us)) (λ u. pure [])
unfolding parameters sees_none sees_word sees next
void_alone b k t us w c = rw (w, c) refl

pub void_first : (b : Input) (k : ℕ) (t : Token) (us : List Token) → IsWord (codes "void") t → head_is (is_sign (codes ")")) us ≡ false
    → parameters (turned b k (t ∷ us)) ≡ parameters_from k [] (turned b k (t ∷ us))
unfolding parameters sees_none sees_word sees after next some_parameters
void_first b k t us w c = rw (w, c, word_no_mark (codes "void") (codes ")") t w) refl

no_void : (b : Input) (k : ℕ) (us : List Token) → head_is (is_word (codes "void")) us ≡ false → sees_none (turned b k us) ≡ false
unfolding sees_none sees_word
no_void b k us e = rw e refl

pub none_here : (b : Input) (ts : List Token) → head_is (is_word (codes "void")) ts ≡ false → (us : List Token) (k : ℕ) → SameNext ts us
    → parameters (turned b k us) ≡ unvoid (turned b k us)
none_here b ts e us k n =
    not_void (turned b k us) (no_void b k us (same_first (head_is (is_word (codes "void"))) (is_word (codes "void")) (λ t js. refl) ts us n ∙ e))

pub void_is_type : (types : List (List ℕ)) (t : Token) → IsWord (codes "void") t → is_type types t ≡ true
unfolding is_type_word
void_is_type types t w = let k = is_word_of (codes "void") t w in rw (k.0, k.1) refl

-- ---- the first statement of an XS function

abbrev xs_item : ℕ → List ℕ → List StmtTree → ItemTree
xs_item line name all = tree_file.XsFunItem (record { line = line; name = name; body = stmts_of all })

-- the body of an XS function, and the item with it
abbrev pub xs_body : ℕ → List ℕ → Reader ItemTree
xs_body line name = do
  body_begins
  all ← body
  pure (xs_item line name all)

abbrev pub first_statement : Token → StmtTree
first_statement t = tree_stmt.Perl t.span.line (form.Word word.DXsArgs)

-- the body after `dXSARGS;`
abbrev pub body_then : ℕ → List ℕ → Token → ℕ → Reader ItemTree
body_then line name t k = do
  all ← parts_from (stmt (max_nesting - 1)) k ([] ++ first_statement t ∷ [])
  pure (xs_item line name all)

pub args_row : (t : Token) → IsWord (codes "dXSARGS") t → form_row t ≡ Some (the.Word word.DXsArgs, spelt (codes ";") ∷ [])
unfolding forms
args_row t w = row_of (codes "dXSARGS") t w

args_end : (b : Input) (k : ℕ) (u : Token) (us : List Token) → Is (codes ";") u
    → form_rest (the.Word word.DXsArgs) (turned b k (u ∷ us)) ≡ Ok (form.Word word.DXsArgs, turned b k us)
unfolding expect sees next
args_end b k u us is = rw is refl

args_part : (b : Input) (room k : ℕ) (t u : Token) (us : List Token) → IsWord (codes "dXSARGS") t → Is (codes ";") u
    → part (stmt room) (turned b k (t ∷ u ∷ us)) ≡ Ok (first_statement t, turned b k us)
args_part b room k t u us w is =
    let x = ahead b.types t (u ∷ us) (the.Word word.DXsArgs) (spelt (codes ";") ∷ []) (args_row t w) (spelt_sign (codes ";") u is, tt) in
    let k_is : is_word_kind t.kind ≡ true = ap is_word_kind x.is_a_word in
    part_begins b room t (u ∷ us) k x.begins
    ∙ (simple_stmt b k room t (u ∷ us) k_is x.no_opener
    ∙ (form_read b k t (u ∷ us) (the.Word word.DXsArgs) x.form_is (form_first b (the.Word word.DXsArgs) t (u ∷ us) k k_is tt)
    ∙ ap (λ r. and_then r (λ p. pure (tree_stmt.Perl t.span.line p))) (args_end b k u us is)))

args_step : (b : Input) (room k : ℕ) (t u : Token) (us : List Token) → IsWord (codes "dXSARGS") t → Is (codes ";") u
    → parts_from (stmt room) (suc k) [] (turned b k (t ∷ u ∷ us)) ≡ parts_from (stmt room) k ([] ++ first_statement t ∷ []) (turned b k us)
unfolding parts_from sees after
args_step b room k t u us w is = rw (word_no_mark (codes "dXSARGS") (codes "}") t w, args_part b room k t u us w is) refl

args_body : (b : Input) (k : ℕ) (t u : Token) (us : List Token) → IsWord (codes "dXSARGS") t → Is (codes ";") u → length (t ∷ u ∷ us) < k
    → body (turned b k (t ∷ u ∷ us)) ≡ parts_from (stmt (max_nesting - 1)) k ([] ++ first_statement t ∷ []) (turned b k us)
unfolding body parts
args_body b k t u us w is few =
    parts_same (turned b k (t ∷ u ∷ us)) (max_nesting - 1) k (suc k) [] (t ∷ u ∷ us) few (omega (arith, few)) ∙ args_step b (max_nesting - 1) k t u us w is

begun : (b : Input) (k : ℕ) (t u : Token) (us : List Token) → IsWord (codes "dXSARGS") t → Is (codes ";") u
    → body_begins (turned b k (t ∷ u ∷ us)) ≡ Ok (tt, turned b k (t ∷ u ∷ us))
unfolding body_begins expect_word sees_word expect sees next
begun b k t u us w is = rw (w, is) refl

pub no_args : (b : Input) (k : ℕ) (us : List Token) → head_is (is_word (codes "dXSARGS")) us ≡ false
    → body_begins (turned b k us) ≡ refuse {A = Unit {0}} (turned b k us)
unfolding body_begins expect_word sees_word
no_args b k us e = rw e refl

pub no_end : (b : Input) (k : ℕ) (t : Token) (us : List Token) → IsWord (codes "dXSARGS") t → head_is (is_sign (codes ";")) us ≡ false
    → body_begins (turned b k (t ∷ us)) ≡ refuse {A = Unit {0}} (turned b k us)
unfolding body_begins expect_word sees_word expect sees next
no_end b k t us w e = rw (w, e) refl

pub unbegun : (line : ℕ) (name : List ℕ) (r : Outcome (Unit {0})) (i : Input) → r ≡ refuse {A = Unit {0}} i
    → and_then r (λ (u : Unit {0}). body >>= λ all. pure (xs_item line name all)) ≡ refuse {A = ItemTree} i
unbegun line name r i e = ap (λ o. and_then o (λ (u : Unit {0}). body >>= λ all. pure (xs_item line name all))) e

pub xs_body_first : (b : Input) (line : ℕ) (name : List ℕ) (k : ℕ) (t u : Token) (us : List Token) → IsWord (codes "dXSARGS") t → Is (codes ";") u
    → length (t ∷ u ∷ us) < k → xs_body line name (turned b k (t ∷ u ∷ us)) ≡ body_then line name t k (turned b k us)
xs_body_first b line name k t u us w c few =
    ap (λ r. and_then r (λ v. body >>= λ all. pure (xs_item line name all))) (begun b k t u us w c)
    ∙ ap (λ r. and_then r (λ all. pure (xs_item line name all))) (args_body b k t u us w c few)

after_two : {A : Type 0} {b : Input} {t u : Token} {ts : List Token} {p r : ℕ → Reader A} → Local proper b p ts
    → ((us : List Token) (k : ℕ) → Good proper k (t ∷ u ∷ us) → r k (turned b k (t ∷ u ∷ us)) ≡ p k (turned b k us)) → Local proper b r (t ∷ u ∷ ts)
after_two {t = t} {u = u} x f = record {
  front = t ∷ u ∷ x.front;
  rest = x.rest;
  is = ap (λ l. t ∷ u ∷ l) x.is;
  answer = x.answer;
  same = λ us k e g. f (x.front ++ us) k g ∙ x.same us k e (omega (arith, g.0), g.1.1.1);
}

module _ (b : Input) where
  -- ---- types that are declared

  pub field_local : (ts : List Token) → Local proper b (λ k. field) ts
  unfolding field
  field_local ts =
      bind (type_local b ts)
      (λ of_type e. bind (here_local b _)
      (λ line f. bind (name_local b _)
      (λ name h. bind (expect_local b (codes ";") _) (λ u j. let one : Par = record { line = line; of_type = of_type; name = name } in gives b one _))))

  fields_from_local : (n : ℕ) (sofar : List Par) (ts : List Token) → length ts < n → Local proper b (λ k. fields_from k sofar) ts
  unfolding fields_from
  fields_from_local zero sofar ts less = absurd (omega (arith, less))
  fields_from_local (suc n) sofar ts less =
      let y = eat_local {s = proper} b (codes "}") ts in
      let x = field_local y.rest in
      alike (bind y (λ is e. by_bool is (λ yes. gives b sofar _)
      (λ isnt. bind x (λ one f. moving (λ us p vs. AField b.types p us vs) x one f (λ k us. field_yields (turned b k us) us) (λ us vs z. field_shrinks z)
      (λ fewer. fields_from_local n (sofar ++ one ∷ []) x.rest (omega (arith, less, fewer, no_longer y)))))))
      (λ us k e g. fields_same (turned b k us) k (suc k) sofar us g.0 (omega (arith, g.0)))

  pub fields_local : (ts : List Token) → Local proper b (λ k. fields) ts
  unfolding fields
  fields_local ts = alike (fields_from_local (suc (length ts)) [] ts (omega arith)) (λ us k e g. refl)

  record_local : (line : ℕ) (ts : List Token) → Local proper b (λ k. a_record line) ts
  unfolding a_record
  record_local line ts =
      bind (expect_local b (codes "{") ts)
      (λ u e. bind (fields_local _)
      (λ all f. bind (here_local b _)
      (λ name_line h. bind (name_local b _)
      (λ name j. bind (expect_local b (codes ";") _)
      (λ v l. let one : Record = record { line = line; fields = all; name = name; name_line = name_line } in gives b one _)))))

  typedef_local : (line : ℕ) (ts : List Token) → Local proper b (λ k. a_typedef line) ts
  unfolding a_typedef
  typedef_local line ts =
      bind (type_local b ts)
      (λ of_type e. bind (here_local b _)
      (λ name_line f. bind (name_local b _)
      (λ name h. bind (expect_local b (codes ";") _)
      (λ v l. let one : Typedef = record { line = line; of_type = of_type; name = name; name_line = name_line } in gives b one _))))

  named_type_local : (line : ℕ) (ts : List Token) → Local proper b (λ k. named_type line) ts
  unfolding named_type
  named_type_local line ts =
      by_test (sees_word (codes "struct")) (word_tells b (codes "struct") ts)
      (λ is. bind (skip_local b ts) (λ u e. bind (record_local line _) (λ r f. gives b (tree_file.RecordItem r) _)))
      (λ isnt. bind (typedef_local line ts) (λ t e. gives b (tree_file.TypedefItem t) _))

  -- ---- parameters

  pub parameter_local : (ts : List Token) → Local proper b (λ k. parameter) ts
  unfolding parameter
  parameter_local ts =
      bind (type_local b ts)
      (λ of_type e. bind (here_local b _)
      (λ line f. bind (variable_local b _) (λ name h. let one : Par = record { line = line; of_type = of_type; name = name } in gives b one _)))

  parameters_from_local : (n : ℕ) (sofar : List Par) (ts : List Token) → length ts < n → Local proper b (λ k. parameters_from k sofar) ts
  unfolding parameters_from
  parameters_from_local zero sofar ts less = absurd (omega (arith, less))
  parameters_from_local (suc n) sofar ts less =
      let x = parameter_local ts in
      alike (bind x (λ one e. moving (λ us p vs. Parameter b.types p us vs) x one e (λ k us. parameter_yields (turned b k us) us)
      (λ us vs z. parameter_shrinks z)
      (λ fewer. bind (eat_local b (codes ",") x.rest)
      (λ more f. by_bool more
      (λ yes. parameters_from_local n (sofar ++ one ∷ []) _ (omega (arith, less, fewer, no_longer {s = proper} (eat_local b (codes ",") x.rest))))
      (λ isnt. bind (expect_local b (codes ")") _) (λ u h. gives b (sofar ++ one ∷ []) _))))))
      (λ us k e g. parameters_same (turned b k us) k (suc k) sofar us g.0 (omega (arith, g.0)))

  some_local : (ts : List Token) → Local proper b (λ k. some_parameters) ts
  unfolding some_parameters
  some_local ts = alike (parameters_from_local (suc (length ts)) [] ts (omega arith)) (λ us k e g. refl)

  unvoid_local : (ts : List Token) → Local proper b (λ k. unvoid) ts
  unvoid_local ts = bind (eat_local b (codes ")") ts) (λ is e. by_bool is (λ yes. gives b [] _) (λ isnt. some_local _))

  more_local : (sofar : List Par) (ts : List Token) → Local proper b (λ k. parameters_from k sofar) ts
  more_local sofar ts = parameters_from_local (suc (length ts)) sofar ts (omega arith)

  pub parameter_then_local : (line : ℕ) (first : List ℕ) (ts : List Token) → Local proper b (λ k. parameter_then line first) ts
  parameter_then_local line first ts =
      bind (type_then_local b line first ts)
      (λ of_type e. bind (here_local b _)
      (λ name_line f. bind (variable_local b _)
      (λ name h. let one : Par = record { line = name_line; of_type = of_type; name = name } in gives b one _)))

  then_local : (line : ℕ) (first : List ℕ) (ts : List Token) → Local proper b (λ k. parameters_then line first k) ts
  then_local line first ts =
      bind (parameter_then_local line first ts)
      (λ one e. bind (eat_local b (codes ",") _)
      (λ more f. by_bool more (λ yes. more_local ([] ++ one ∷ []) _)
      (λ isnt. bind (expect_local b (codes ")") _) (λ u h. gives b ([] ++ one ∷ []) _))))

  parameters_local : (ts : List Token) → Local proper b (λ k. parameters) ts
  parameters_local ts = by_void ts (head_is (is_word (codes "void")) ts) refl
    where
      after_void : (t : Token) (ts : List Token) → IsWord (codes "void") t → (c : Bool) → head_is (is_sign (codes ")")) ts ≡ c
          → Local proper b (λ k. parameters) (t ∷ ts)
      after_void t ts w true c =
          after_one (bind (skip_local b ts) (λ u e. gives b [] _))
          (λ us k n g. void_alone b k t us w (same_first (head_is (is_sign (codes ")"))) (is_sign (codes ")")) (λ u js. refl) ts us n ∙ c))
      after_void t ts w false c =
          after_one (then_local t.span.line t.text ts)
          (λ us k n g. void_first b k t us w (same_first (head_is (is_sign (codes ")"))) (is_sign (codes ")")) (λ u js. refl) ts us n ∙ c)
          ∙ (parameters_same (turned b k (t ∷ us)) k (suc k) [] (t ∷ us) g.0 (omega (arith, g.0)) ∙ parameters_first b t us k (void_is_type b.types t w)))

      by_void : (ts : List Token) (c : Bool) → head_is (is_word (codes "void")) ts ≡ c → Local proper b (λ k. parameters) ts
      by_void ts false e = alike (unvoid_local ts) (λ us k n g. none_here b ts e us k n)
      by_void [] true e = absurd cc
      by_void (t ∷ ts) true e = after_void t ts e (head_is (is_sign (codes ")")) ts) refl

  pub head_local : (line : ℕ) (ts : List Token) → Local proper b (λ k. head line) ts
  unfolding head
  head_local line ts =
      bind (type_local b ts)
      (λ result e. bind (name_local b _)
      (λ name f. bind (expect_local b (codes "(") _)
      (λ u h. bind (parameters_local _)
      (λ pars j. let one : Head = record { line = line; result = result; name = name; pars = pars } in gives b one _))))

module _ (b : Input) (names : AreNames b.types) where
  -- ---- functions

  stmts_local : (ts : List Token) → Local proper b (λ k. body) ts
  unfolding body
  stmts_local ts = parts_local b (max_nesting - 1) (stmt_local b names (max_nesting - 1)) ts

  body_then_local : (line : ℕ) (name : List ℕ) (t : Token) (ts : List Token) → Local proper b (λ k. body_then line name t k) ts
  body_then_local line name t ts =
      bind (parts_from_local b (max_nesting - 1) (stmt_local b names (max_nesting - 1)) (suc (length ts)) ([] ++ first_statement t ∷ []) ts (omega arith))
      (λ all e. gives b (xs_item line name all) _)

  xs_body_local : (line : ℕ) (name : List ℕ) (ts : List Token) → Local proper b (λ k. xs_body line name) ts
  xs_body_local line name ts = by_word ts (head_is (is_word (codes "dXSARGS")) ts) refl
    where
      by_end : (t : Token) (ts : List Token) → IsWord (codes "dXSARGS") t → (c : Bool) → head_is (is_sign (codes ";")) ts ≡ c
          → Local proper b (λ k. xs_body line name) (t ∷ ts)
      by_end t ts w false c =
          after_one {p = λ k. refuse {A = ItemTree}} (refused b ts)
          (λ us k n g. unbegun line name (body_begins (turned b k (t ∷ us))) (turned b k us)
          (no_end b k t us w (same_first (head_is (is_sign (codes ";"))) (is_sign (codes ";")) (λ u js. refl) ts us n ∙ c)))
      by_end t [] w true c = absurd cc
      by_end t (u ∷ ts) w true c =
          after_two (body_then_local line name t ts)
          (λ us k g. xs_body_first b line name k t u us w c g.0)

      by_word : (ts : List Token) (c : Bool) → head_is (is_word (codes "dXSARGS")) ts ≡ c → Local proper b (λ k. xs_body line name) ts
      by_word ts false e =
          at_once ts (Err false) (λ us k n. unbegun line name (body_begins (turned b k us)) (turned b k us)
          (no_args b k us (same_first (head_is (is_word (codes "dXSARGS"))) (is_word (codes "dXSARGS")) (λ u js. refl) ts us n ∙ e)))
      by_word [] true e = absurd cc
      by_word (t ∷ ts) true e = by_end t ts e (head_is (is_sign (codes ";")) ts) refl

  xs_function_local : (line : ℕ) (ts : List Token) → Local proper b (λ k. xs_function line) ts
  unfolding xs_function
  xs_function_local line ts =
      bind (expect_local b (codes "(") ts)
      (λ u e. bind (name_local b _)
      (λ name f. bind (expect_local b (codes ")") _) (λ v h. bind (expect_local b (codes "{") _) (λ w j. xs_body_local line name _))))

  function_local : (line : ℕ) (ts : List Token) → Local proper b (λ k. function line) ts
  unfolding function
  function_local line ts =
      bind (head_local b line ts)
      (λ front e. bind (eat_local b (codes ";") _)
      (λ is f. by_bool is (λ yes. gives b (tree_file.PrototypeItem front) _)
      (λ isnt. bind (expect_local b (codes "{") _)
      (λ u h. bind (stmts_local _)
      (λ all j. let one : FunctionTree = record { head = front; body = stmts_of all } in gives b (tree_file.FunctionItem one) _)))))

  pub item_local : (ts : List Token) → Local proper b (λ k. item) ts
  unfolding item
  item_local ts =
      bind (here_local b ts)
      (λ line e. by_test (sees_word (codes "typedef")) (word_tells b (codes "typedef") _) (λ is. bind (skip_local b _) (λ u f. named_type_local b line _))
      (λ isnt. by_test (sees_word (codes "XS")) (word_tells b (codes "XS") _) (λ is. bind (skip_local b _) (λ u f. xs_function_local line _))
      (λ other. function_local line _)))
