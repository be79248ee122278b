-- What is read as a statement rests on the tokens that are passed and on the next one.
use Rattle.std.proofs.Common.{◌≡◌, ℕ, zero, suc, ◌<◌, ◌&&◌, Bool, true, false, if◌then◌else◌, List, [], ◌∷◌, ◌++◌, length, Option, Some, None, refl, ap, sym, ◌∙◌, arith}
use Rattle.std.specs.Option.{option_map_or}
use Rattle.std.specs.Prelude.{codes}
use Rattle.xs_base.specs.Readers.{◌>>=◌, ◌>>◌, and_then, head_is, pure}
use Rattle.xs_ctok.specs.declared.token.Token.{Token}
use Rattle.xs_csyn.proofs.FormRests.{form_first, rest_local}
use Rattle.xs_csyn.proofs.FormSlots.{row_facts}
use Rattle.xs_csyn.proofs.FormsLocal.{form_read, mapped, row_form, simple_local}
use Rattle.xs_csyn.proofs.FormsSound.{begins_by}
use Rattle.xs_csyn.proofs.Local.{Local, NextTells, after_one, alike, bind, by_bool, by_option, by_test, deep, eat_local, expect_local, expect_word_local, gives, here_local, moving, no_longer, proper, refused, same_first, sees_tells, skip_local, turned, word_tells}
use Rattle.xs_csyn.specs.FaultPlaces.{SameNext}
use Rattle.xs_csyn.proofs.Marks.{no_mark, word_only}
use Rattle.xs_csyn.proofs.MoreTurns.{body_same, groups_same, parts_same}
use Rattle.xs_csyn.proofs.PlainLocal.{condition_local, declarators_local, for_head_local, label_tells, labels_local}
use Rattle.xs_csyn.proofs.Sizes.{part_shrinks, stmt_shrinks}
use Rattle.xs_csyn.proofs.StatementsSound.{AGroup, APart, AStatement, group_shrinks, group_yields, part_yields, stmt_yields}
use Rattle.xs_csyn.proofs.TypesLocal.{type_after, type_after_local, type_name_first}
use Rattle.xs_csyn.specs.FileGrammar.{AreNames}
use Rattle.xs_cinput.specs.Operators.{listed}
use Rattle.xs_cstmt.specs.PerlForms.{Part, begins_form, begins_form_at, fits, fits_first, form_row}
use Rattle.xs_cstmt.specs.StatementReader.{a_do, a_for, a_switch, a_while, an_if, block, body_from, declaration, declarators, else_branch, ends_body, first_opener, group, group_body, groups, groups_from, last_leaves, opened_by, opener, openers, part, parts, parts_from, simple, stmt}
use Rattle.xs_cstmt.specs.StatementTree as tree
use Rattle.xs_cexpr.specs.ExpressionTree.{ExprTree}
use Rattle.xs_cstmt.specs.StatementTree.{DeclaredTree, GroupTree, StmtTree, groups_of, stmts_of}
use Rattle.xs_cinput.specs.TokenInput.{Input, Outcome, Reader, expect, is_punct_kind, is_type, is_word_kind, line, sees, sees_type, sees_word}
use Rattle.xs_cstmt.specs.declared.forms.Form.{Form}
use Rattle.xs_cstmt.specs.declared.openers.Opener.{Opener}
use Rattle.xs_cstmt.specs.declared.openers.Opener.TheVariants as opens

-- ---- declarations by their first word

-- a declaration after its first word
abbrev pub declaration_after : ℕ → List ℕ → Reader DeclaredTree
declaration_after line first = do
  base ← type_after first
  names ← declarators
  expect (codes ";")
  pure (record { line = line; base = base; names = names })

declaration_first : (b : Input) (t : Token) (us : List Token) (k : ℕ) → is_type b.types t ≡ true
    → declaration (turned b k (t ∷ us)) ≡ declaration_after t.span.line t.text (turned b k us)
unfolding declaration line
declaration_first b t us k is = rw (type_name_first b t us k is) refl

declaration_after_local : (b : Input) (line : ℕ) (first : List ℕ) (ts : List Token) → Local proper b (λ k. declaration_after line first) ts
declaration_after_local b line first ts =
    bind (type_after_local b first ts)
    (λ base f. bind (declarators_local b _)
    (λ all h. bind (expect_local b (codes ";") _) (λ u j. let d : DeclaredTree = record { line = line; base = base; names = all } in gives b d _)))

-- the token after the first word tells whether a form begins
pub begins_same : (types : List (List ℕ)) (t : Token) (ts us : List Token) → SameNext ts us → begins_form_at types (t ∷ us) ≡ begins_form_at types (t ∷ ts)
begins_same types t ts us e = by (form_row t)
  where
    by_slots : (ss : List Part) → fits_first types ss us ≡ fits_first types ss ts
    by_slots [] = refl
    by_slots (s ∷ ss) = same_first (head_is (fits types s)) (fits types s) (λ u js. refl) ts us e

    by : (o : Option (Form × List Part))
        → option_map_or (λ (row : Form × List Part). fits_first types row.1 us) o false
        ≡ option_map_or (λ (row : Form × List Part). fits_first types row.1 ts) o false
    by None = refl
    by (Some row) = by_slots row.1

pub begins_row : (types : List (List ℕ)) (t : Token) (ts : List Token) → begins_form_at types (t ∷ ts) ≡ true → (row : Form × List Part) ×
    (form_row t ≡ Some row)
begins_row types t ts e = by (form_row t) refl e
  where
    by : (o : Option (Form × List Part)) → form_row t ≡ o → option_map_or (λ (row : Form × List Part). fits_first types row.1 ts) o false ≡ true
        → (row : Form × List Part) × (form_row t ≡ Some row)
    by None r e = absurd cc
    by (Some row) r e = (row, r)

pub opener_tells : (b : Input) (ts : List Token) → NextTells b opener ts
unfolding opener
opener_tells b ts us k e = same_first first_opener (λ t. if is_word_kind t.kind then listed openers t.text else None) (λ t js. refl) ts us e

pub ends_tells : (b : Input) (ts : List Token) → NextTells b ends_body ts
ends_tells b ts us k e = rw (sees_tells b (codes "}") ts us k e, label_tells b ts us k e) refl

-- a word that begins no other statement
pub simple_stmt : (b : Input) (k room : ℕ) (t : Token) (us : List Token) → is_word_kind t.kind ≡ true → listed openers t.text ≡ None
    → stmt room (turned b k (t ∷ us)) ≡ simple (turned b k (t ∷ us))
unfolding stmt sees opener
simple_stmt b k zero t us w none = rw (no_mark (codes "{") t (ap is_punct_kind (word_only t.kind w)), w, none) refl
simple_stmt b k (suc room) t us w none = rw (no_mark (codes "{") t (ap is_punct_kind (word_only t.kind w)), w, none) refl

-- ---- what stands directly in a block

pub part_begins : (b : Input) (room : ℕ) (t : Token) (us : List Token) (k : ℕ) → begins_form_at b.types (t ∷ us) ≡ true
    → part (stmt room) (turned b k (t ∷ us)) ≡ stmt room (turned b k (t ∷ us))
unfolding part sees_type begins_form
part_begins b room t us k is = rw is (no_declaration (is_type b.types t))
  where
    no_declaration : (c : Bool)
        → ◌≡◌ {A = Outcome StmtTree} (if c && false then and_then (declaration (turned b k (t ∷ us))) (λ d. pure (tree.Declare d)) else stmt room (turned b k
        (t ∷ us)))
        (stmt room (turned b k (t ∷ us)))
    no_declaration true = refl
    no_declaration false = refl

module _ (b : Input) (room : ℕ) (H : (ts : List Token) → Local proper b (λ k. stmt room) ts) where
  pub part_declares : (t : Token) (us : List Token) (k : ℕ) → is_type b.types t ≡ true → begins_form_at b.types (t ∷ us) ≡ false
      → part (stmt room) (turned b k (t ∷ us)) ≡ and_then (declaration_after t.span.line t.text (turned b k us)) (λ d. pure (tree.Declare d))
  unfolding part sees_type begins_form
  part_declares t us k is isnt = rw (is, isnt, declaration_first b t us k is) refl

  pub part_states : (t : Token) (us : List Token) (k : ℕ) → is_type b.types t ≡ false → part (stmt room) (turned b k (t ∷ us)) ≡ stmt room (turned b k (t ∷ us))
  unfolding part sees_type begins_form
  part_states t us k isnt = rw isnt refl

  pub part_ends : (k : ℕ) → part (stmt room) (turned b k []) ≡ stmt room (turned b k [])
  unfolding part sees_type begins_form
  part_ends k = refl

  pub part_local : (ts : List Token) → Local proper b (λ k. part (stmt room)) ts
  part_local [] = alike (H []) (λ us k e g. at_end us k e)
    where
      at_end : (us : List Token) (k : ℕ) → SameNext [] us → part (stmt room) (turned b k us) ≡ stmt room (turned b k us)
      at_end [] k e = part_ends k
      at_end (u ∷ us) k e = absurd e
  part_local (t ∷ ts) = by (is_type b.types t) (begins_form_at b.types (t ∷ ts)) refl refl
    where
      stated : is_type b.types t ≡ false → (us : List Token) (k : ℕ) → SameNext (t ∷ ts) us → part (stmt room) (turned b k us) ≡ stmt room (turned b k us)
      stated isnt [] k e = absurd e
      stated isnt (u ∷ us) k e = part_states u us k (ap (is_type b.types) (sym e) ∙ isnt)

      formed : is_type b.types t ≡ true → (row : Form × List Part) → form_row t ≡ Some row → begins_form_at b.types (t ∷ ts) ≡ true
          → Local proper b (λ k. part (stmt room)) (t ∷ ts)
      formed is row r begins =
          let x = row_facts t row r in
          let y = begins_by t row r in
          after_one (mapped (tree.Perl t.span.line) (rest_local b row.0 ts)) (λ us k e g.
          part_begins b room t us k (begins_same b.types t ts us e ∙ begins)
          ∙ (simple_stmt b k room t us x.is_a_word x.no_opener
          ∙ form_read b k t us row.0 (row_form b.types t us row r ∙ rw is refl) (form_first b row.0 t us k y.is_a_word y.spelt)))

      by : (c d : Bool) → is_type b.types t ≡ c → begins_form_at b.types (t ∷ ts) ≡ d → Local proper b (λ k. part (stmt room)) (t ∷ ts)
      by false d isnt begins = alike (H (t ∷ ts)) (λ us k e g. stated isnt us k e)
      by true false is isnt =
          after_one (bind (declaration_after_local b t.span.line t.text ts) (λ d e. gives b (tree.Declare d) _))
          (λ us k e g. part_declares t us k is (begins_same b.types t ts us e ∙ isnt))
      by true true is begins = let row = begins_row b.types t ts begins in formed is row.0 row.1 begins

  pub parts_from_local : (n : ℕ) (sofar : List StmtTree) (ts : List Token) → length ts < n → Local proper b (λ k. parts_from (stmt room) k sofar) ts
  unfolding parts_from
  parts_from_local zero sofar ts less = absurd (omega (arith, less))
  parts_from_local (suc n) sofar ts less =
      let y = eat_local {s = proper} b (codes "}") ts in
      let x = part_local y.rest in
      alike (bind y (λ is e. by_bool is (λ yes. gives b sofar _)
      (λ isnt. bind x (λ one f. moving (λ us s vs. APart b.types room us s vs) x one f
      (λ k us. part_yields (turned b k us) (stmt room) room (stmt_yields (turned b k us) room) us) (λ us vs z. part_shrinks z.0)
      (λ fewer. parts_from_local n (sofar ++ one ∷ []) x.rest (omega (arith, less, fewer, no_longer y)))))))
      (λ us k e g. parts_same (turned b k us) room k (suc k) sofar us g.0 (omega (arith, g.0)))

  pub parts_local : (ts : List Token) → Local proper b (λ k. parts (stmt room)) ts
  unfolding parts
  parts_local ts = alike (parts_from_local (suc (length ts)) [] ts (omega arith)) (λ us k e g. refl)

  -- ---- statements in which others stand

  block_local : (ts : List Token) → Local proper b (λ k. block (stmt room)) ts
  unfolding block
  block_local ts =
      bind (here_local b ts) (λ line e. bind (skip_local b _) (λ u f. bind (parts_local _) (λ body h. gives b (tree.Block line (stmts_of body)) _)))

  else_local : (line : ℕ) (test : ExprTree) (then_do : StmtTree) (ts : List Token) → Local proper b (λ k. else_branch (stmt room) line test then_do) ts
  unfolding else_branch
  else_local line test then_do ts =
      by_test (sees_word (codes "else")) (word_tells b (codes "else") ts)
      (λ is. bind (skip_local b ts) (λ u e. bind (H _) (λ else_do f. gives b (tree.IfElse line test then_do else_do) _)))
      (λ isnt. gives b (tree.If line test then_do) ts)

  if_local : (ts : List Token) → Local proper b (λ k. an_if (stmt room)) ts
  unfolding an_if
  if_local ts =
      bind (here_local b ts)
      (λ line e. bind (skip_local b _) (λ u f. bind (condition_local b _) (λ test h. bind (H _) (λ then_do j. else_local line test then_do _))))

  while_local : (ts : List Token) → Local proper b (λ k. a_while (stmt room)) ts
  unfolding a_while
  while_local ts =
      bind (here_local b ts)
      (λ line e. bind (skip_local b _) (λ u f. bind (condition_local b _) (λ test h. bind (H _) (λ body j. gives b (tree.While line test body) _))))

  do_local : (ts : List Token) → Local proper b (λ k. a_do (stmt room)) ts
  unfolding a_do
  do_local ts =
      bind (here_local b ts)
      (λ line e. bind (skip_local b _)
      (λ u f. bind (H _)
      (λ body h. bind (expect_word_local b (codes "while") _)
      (λ v j. bind (condition_local b _) (λ test l. bind (expect_local b (codes ";") _) (λ w m. gives b (tree.DoWhile line body test) _))))))

  for_local : (ts : List Token) → Local proper b (λ k. a_for (stmt room)) ts
  unfolding a_for
  for_local ts =
      bind (here_local b ts)
      (λ line e. bind (skip_local b _) (λ u f. bind (for_head_local b _) (λ head h. bind (H _) (λ body j. gives b (tree.For line head body) _))))

  body_local : (n : ℕ) (sofar : List StmtTree) (ts : List Token) → length ts < n → Local proper b (λ k. body_from (stmt room) k sofar) ts
  unfolding body_from
  body_local zero sofar ts less = absurd (omega (arith, less))
  body_local (suc n) sofar ts less =
      let x = H ts in
      alike (by_test ends_body (ends_tells b ts) (λ is. gives b sofar ts)
      (λ isnt. bind x (λ one f. moving (λ us s vs. AStatement b.types room us s vs) x one f
      (λ k us. stmt_yields (turned b k us) room us) (λ us vs y. stmt_shrinks y.0)
      (λ less'. body_local n (sofar ++ one ∷ []) x.rest (omega (arith, less, less'))))))
      (λ us k e g. body_same (turned b k us) room k (suc k) sofar us g.0 (omega (arith, g.0)))

  group_body_local : (ts : List Token) → Local proper b (λ k. group_body (stmt room)) ts
  unfolding group_body
  group_body_local ts = alike (body_local (suc (length ts)) [] ts (omega arith)) (λ us k e g. refl)

  pub group_local : (ts : List Token) → Local proper b (λ k. group (stmt room)) ts
  unfolding group
  group_local ts =
      bind (here_local b ts)
      (λ line e. bind (labels_local b _)
      (λ all f. bind (group_body_local _)
      (λ body h. let one : GroupTree = record { line = line; labels = all; body = stmts_of body } in gives b one _)))

  groups_from_local : (n : ℕ) (may : Bool) (sofar : List GroupTree) (ts : List Token) → length ts < n
      → Local proper b (λ k. groups_from (stmt room) k may sofar) ts
  unfolding groups_from
  groups_from_local zero may sofar ts less = absurd (omega (arith, less))
  groups_from_local (suc n) may sofar ts less =
      let y = eat_local {s = proper} b (codes "}") ts in
      let x = group_local y.rest in
      alike (bind y (λ is e. by_bool is (λ yes. gives b sofar _)
      (λ isnt. by_bool may
      (λ yes. bind x (λ one f. moving (λ us s vs. AGroup b.types room s us vs) x one f
      (λ k us. group_yields (turned b k us) (stmt room) room (stmt_yields (turned b k us) room) us) (λ us vs z. group_shrinks z)
      (λ fewer. groups_from_local n (last_leaves false one.body) (sofar ++ one ∷ []) x.rest (omega (arith, less, fewer, no_longer y)))))
      (λ none. refused b _))))
      (λ us k e g. groups_same (turned b k us) room k (suc k) may sofar us g.0 (omega (arith, g.0)))

  groups_local : (ts : List Token) → Local proper b (λ k. groups (stmt room)) ts
  unfolding groups
  groups_local ts = alike (groups_from_local (suc (length ts)) true [] ts (omega arith)) (λ us k e g. refl)

  switch_local : (ts : List Token) → Local proper b (λ k. a_switch (stmt room)) ts
  unfolding a_switch
  switch_local ts =
      bind (here_local b ts)
      (λ line e. bind (skip_local b _)
      (λ u f. bind (condition_local b _)
      (λ on h. bind (expect_local b (codes "{") _) (λ v j. bind (groups_local _) (λ all l. gives b (tree.Switch line on (groups_of all)) _)))))

  opened_local : (o : Opener) (ts : List Token) → Local proper b (λ k. opened_by (stmt room) o) ts
  opened_local opens.If ts = if_local ts
  opened_local opens.While ts = while_local ts
  opened_local opens.Do ts = do_local ts
  opened_local opens.For ts = for_local ts
  opened_local opens.Switch ts = switch_local ts

  deeper_local : (names : AreNames b.types) (ts : List Token) → Local proper b (λ k. stmt (suc room)) ts
  unfolding stmt
  deeper_local names ts =
      by_test (sees (codes "{")) (sees_tells b (codes "{") ts) (λ is. block_local ts)
      (λ isnt. by_option opener (opener_tells b ts) (λ o is. opened_local o ts) (λ none. simple_local b names ts))

pub stmt_local : (b : Input) (names : AreNames b.types) (room : ℕ) (ts : List Token) → Local proper b (λ k. stmt room) ts
unfolding stmt
stmt_local b names zero ts =
    by_test (sees (codes "{")) (sees_tells b (codes "{") ts) (λ is. deep b ts)
    (λ isnt. by_option opener (opener_tells b ts) (λ o is. deep b ts) (λ none. simple_local b names ts))
stmt_local b names (suc room) ts = deeper_local b room (stmt_local b names room) names ts
