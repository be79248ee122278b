-- What is read as statements is in the grammar, and no deeper than it may be.
use Rattle.std.proofs.Common.{◌≡◌, ℕ, zero, suc, ◌<◌, ◌≤◌, Bool, true, false, if◌then◌else◌, ◌&&◌, ◌||◌, not, List, [], ◌∷◌, ◌++◌, length, Option, Some, None, refl, arith}
use Rattle.std.proofs.lemmas.Bool.{and_parts, not-true}
use Rattle.std.specs.Prelude.{codes}
use Rattle.xs_ctok.specs.declared.token.Token.{Token}
use Rattle.xs_csyn.proofs.ExpressionsSound.{expr_yields, stars_yields, type_name_yields, whole_line}
use Rattle.xs_csyn.proofs.FormsSound.{int_kind, perl_form_yields}
use Rattle.xs_csyn.proofs.Marks.{is_word_from}
use Rattle.xs_csyn.proofs.Sizes.{body_shrinks, labels_shrink}
use Rattle.xs_cinput.proofs.Tables.{EachRow, found_row}
use Rattle.xs_csyn.proofs.Yields.{Adds, Yields, adds_all, adds_last, adds_more, adds_none, at, by_choice, by_eat, by_expect, by_if, by_option, by_variable, by_variable_here, by_word, by_word_here, done, fails, step, weaken}
use Rattle.xs_csyn.specs.Grammar.{Is, IsWord, Stars, Whole}
use Rattle.xs_cexpr.specs.ExpressionHeights.{height}
use Rattle.xs_cstmt.specs.StatementHeights.{depth, depths, group_depths, option_height, tallest, tallest_first, tallest_head, tallest_in, tallest_of, tallest_value}
use Rattle.xs_cinput.specs.Operators.{listed}
use Rattle.xs_cstmt.specs.PerlForms.{begins_form, begins_form_at, form_ahead, form_at, int_ahead, int_of}
use Rattle.xs_csyn.specs.StatementGrammar as g
use Rattle.xs_csyn.specs.StatementGrammar.{ALabel, Condition, Declarator, Declarators, Declared, First, ForHead, Groups, Labels, Part, Parts, Statement, Stmts, Until, Value}
use Rattle.xs_cstmt.specs.StatementReader.{a_do, a_for, a_label, a_switch, a_while, an_expr, an_if, block, body_from, case_label, condition, declaration, declarator, declarators, declarators_from, default_label, effect, else_branch, empty, first_of, first_part, first_value, for_head, group, group_body, groups, groups_from, int_label, jump, labels, labels_from, last_leaves, max_nesting, name_label, opened_by, opener, openers, part, parts, parts_from, plain, returned, sees_label, simple, stmt, until}
use Rattle.xs_cstmt.specs.StatementTree as tree
use Rattle.xs_cexpr.specs.ExpressionTree.{ExprTree}
use Rattle.xs_cstmt.specs.StatementTree.{DeclaratorTree, DeclaredTree, FirstTree, ForTree, StmtTree, StmtTrees, GroupTree, groups_of, stmts_of}
use Rattle.xs_cinput.specs.TokenInput.{Input, Reader, a_variable, expect_word, is_word_kind, line, line_at, next, sees, sees_type, sees_variable, sees_word, too_deep}
use Rattle.xs_cinput.specs.TypeReader.{type_name}
use Rattle.xs_cexpr.specs.declared.node.Level.TheVariants as level
use Rattle.xs_cstmt.specs.declared.openers.Opener.{Opener}
use Rattle.xs_cstmt.specs.declared.openers.Opener.TheVariants as opens
use Rattle.xs_cstmt.specs.declared.tree.Label.{Label}
use Rattle.xs_cstmt.specs.declared.tree.PerlForm.{PerlForm}

-- ---- what is read

abbrev pub AnExpr : List (List ℕ) → List Token → ExprTree → List Token → Type 0
AnExpr types ts a us = Whole types a ts us × (height a ≤ max_nesting)

abbrev Bounded : List (List ℕ) → List ℕ → List Token → Option ExprTree → List Token → Type 0
Bounded types sign ts v us = Until types sign v ts us × (option_height v ≤ max_nesting)

abbrev AValue : List (List ℕ) → List Token → Option ExprTree → List Token → Type 0
AValue types ts v us = Value types v ts us × (option_height v ≤ max_nesting)

abbrev ADeclarator : List (List ℕ) → List Token → DeclaratorTree → List Token → Type 0
ADeclarator types ts d us = Declarator types d ts us × (option_height d.value ≤ max_nesting)

abbrev Names : List (List ℕ) → List DeclaratorTree → List Token → List Token → Type 0
Names types all ts us = Declarators types all ts us × (tallest_value all ≤ max_nesting)

abbrev pub ADeclaration : List (List ℕ) → List Token → DeclaredTree → List Token → Type 0
ADeclaration types ts d us = Declared types d ts us × (tallest_value d.names ≤ max_nesting)

abbrev ACondition : List (List ℕ) → List Token → ExprTree → List Token → Type 0
ACondition types ts a us = Condition types a ts us × (height a ≤ max_nesting)

abbrev AFirst : List (List ℕ) → List Token → FirstTree → List Token → Type 0
AFirst types ts f us = First types f ts us × (tallest_first f ≤ max_nesting)

abbrev AHeadOf : List (List ℕ) → List Token → ForTree → List Token → Type 0
AHeadOf types ts h us = ForHead types h ts us × (tallest_head h ≤ max_nesting)

abbrev pub AStatement : List (List ℕ) → ℕ → List Token → StmtTree → List Token → Type 0
AStatement types room ts s us = Statement types s ts us × (depth s ≤ room) × (tallest s ≤ max_nesting)

abbrev pub APart : List (List ℕ) → ℕ → List Token → StmtTree → List Token → Type 0
APart types room ts s us = Part types s ts us × (depth s ≤ room) × (tallest s ≤ max_nesting)

abbrev pub SomeParts : List (List ℕ) → ℕ → List StmtTree → List Token → List Token → Type 0
SomeParts types room all ts us = Parts types (stmts_of all) ts us × (depths (stmts_of all) ≤ room) × (tallest_of (stmts_of all) ≤ max_nesting)

abbrev SomeStmts : List (List ℕ) → ℕ → List StmtTree → List Token → List Token → Type 0
SomeStmts types room all ts us = Stmts types (stmts_of all) ts us × (depths (stmts_of all) ≤ room) × (tallest_of (stmts_of all) ≤ max_nesting)

abbrev SomeGroups : List (List ℕ) → ℕ → Bool → List GroupTree → List Token → List Token → Type 0
SomeGroups types room may all ts us =
    Groups types may (groups_of all) ts us × (group_depths (groups_of all) ≤ room) × (tallest_in (groups_of all) ≤ max_nesting)

pub data AGroup (types : List (List ℕ)) (room : ℕ) : GroupTree → List Token → List Token → Type 0 where
  made : {all : List Label} {body : StmtTrees} {t : Token} {ts us vs : List Token} → Labels types all (t ∷ ts) us → Stmts types body us vs
      → depths body ≤ room → tallest_of body ≤ max_nesting
      → AGroup types room (record { line = t.span.line; labels = all; body = body }) (t ∷ ts) vs

pub group_shrinks : {types : List (List ℕ)} {room : ℕ} {one : GroupTree} {ts us : List Token} → AGroup types room one ts us → length us < length ts
group_shrinks (made l x d h) = omega (arith, labels_shrink l, body_shrinks x)

one_more_group : {types : List (List ℕ)} {room : ℕ} (one : GroupTree) (all : List GroupTree) {ts us vs : List Token} → AGroup types room one ts us
    → SomeGroups types room (last_leaves false one.body) all us vs → SomeGroups types room true (one ∷ all) ts vs
one_more_group one all (made l s d h) x = (g.group l s x.0, omega (arith, d, x.1), omega (arith, h, x.2))

-- ---- words of statements in which others stand

abbrev pub word_of : Opener → List ℕ
word_of opens.If = codes "if"
word_of opens.While = codes "while"
word_of opens.Do = codes "do"
word_of opens.For = codes "for"
word_of opens.Switch = codes "switch"

abbrev OpenerRow : List ℕ → Opener → Type 0
OpenerRow word o = word ≡ word_of o

openers_are : EachRow OpenerRow openers
unfolding openers
openers_are = (refl, (refl, (refl, (refl, (refl, tt)))))

pub opened_word : (t : Token) (o : Opener) → (if is_word_kind t.kind then listed openers t.text else None) ≡ Some o → IsWord (word_of o) t
opened_word t o e = by (is_word_kind t.kind) refl e
  where
    by : (c : Bool) → is_word_kind t.kind ≡ c → (if c then listed openers t.text else None) ≡ Some o → IsWord (word_of o) t
    by true k f = is_word_from (word_of o) t k (found_row OpenerRow openers t.text o openers_are f)
    by false k f = absurd cc

-- ---- expressions and declarations

first_stands : {types : List (List ℕ)} {v : Option ExprTree} {ts us : List Token} → Until types (codes ";") v ts us → First types (first_of v) ts us
first_stands (g.nothing is) = g.no_first is
first_stands (g.something x is) = g.first_effect x is

first_height : (v : Option ExprTree) → tallest_first (first_of v) ≡ option_height v
first_height None = refl
first_height (Some a) = refl

module _ (b : Input) where
  pub an_expr_yields : (ts : List Token) → Yields b (an_expr (at b ts)) (AnExpr b.types ts)
  unfolding an_expr
  an_expr_yields ts = step _ _ (expr_yields b max_nesting level.Whole ts) (λ f us x. done _ us (x.stands, omega (arith, x.tall, x.within)))

  pub until_yields : (sign : List ℕ) (ts : List Token) → Yields b (until sign (at b ts)) (Bounded b.types sign ts)
  unfolding until
  until_yields sign ts =
      by_eat (λ _. Unit {0}) (Bounded b.types sign) sign ts _ _ tt
      (λ u us _ is. done None us (g.nothing is, omega arith))
      (λ _ isnt. step _ _ (an_expr_yields ts)
      (λ a us x. by_expect (AnExpr b.types ts a) (λ _. Bounded b.types sign ts) sign us _ x (λ u vs x' is. done _ vs (g.something x'.0 is, x'.1))))

  first_value_yields : (ts : List Token) → Yields b (first_value (at b ts)) (AValue b.types ts)
  unfolding first_value
  first_value_yields ts =
      by_eat (λ _. Unit {0}) (AValue b.types) (codes "=") ts _ _ tt
      (λ u us _ is. step _ _ (an_expr_yields us) (λ a vs x. done _ vs (g.value is x.0, x.1)))
      (λ _ isnt. done None ts (g.no_value, omega arith))

  pub declarator_yields : (ts : List Token) → Yields b (declarator (at b ts)) (ADeclarator b.types ts)
  unfolding declarator line
  declarator_yields ts =
      step _ _ (stars_yields b ts)
      (λ n us s. by_variable (λ js. Stars n ts js × (line_at b.last us ≡ line_at b.last js)) (λ _. ADeclarator b.types ts) us _ (s, refl)
      (λ u vs f v. step _ _ (first_value_yields vs) (λ value ws x. done _ ws (rw (f.1) (g.declarator f.0 v x.0), x.1))))

  names_yield : (n : ℕ) (sofar : List DeclaratorTree) (ts : List Token)
      → Yields b (declarators_from n sofar (at b ts)) (Adds (Names b.types) sofar ts)
  unfolding declarators_from
  names_yield zero sofar ts = fails _
  names_yield (suc n) sofar ts =
      step _ _ (declarator_yields ts)
      (λ one us x. by_eat (ADeclarator b.types ts one) (λ _. Adds (Names b.types) sofar ts) (codes ",") us _ _ x
      (λ u vs x' comma. weaken (names_yield n (sofar ++ one ∷ []) vs)
      (λ found ws m. adds_more {R = Names b.types} sofar one m (λ added s. (g.more_names x'.0 comma s.0, omega (arith, x'.1, s.1)))))
      (λ x' isnt. done _ us (adds_last sofar one (g.last_name x'.0, omega (arith, x'.1)))))

  pub declarators_yield : (ts : List Token) → Yields b (declarators (at b ts)) (λ all us. Names b.types all ts us)
  unfolding declarators
  declarators_yield ts = weaken (names_yield b.turns [] ts) (λ found us m. adds_all m)

  pub declaration_yields : (ts : List Token) → Yields b (declaration (at b ts)) (ADeclaration b.types ts)
  unfolding declaration type_name sees_type line
  declaration_yields [] = fails _
  declaration_yields (t ∷ ts) =
      step _ _ (type_name_yields b (t ∷ ts))
      (λ base us x. step _ _ (declarators_yield us)
      (λ all vs y. by_expect (Names b.types all us) (λ _. ADeclaration b.types (t ∷ ts)) (codes ";") vs _ y
      (λ u ws y' semi. done _ ws (g.names_declared x y'.0 semi, y'.1))))

  -- ---- heads and labels

  pub condition_yields : (ts : List Token) → Yields b (condition (at b ts)) (ACondition b.types ts)
  unfolding condition
  condition_yields ts =
      by_expect (λ _. Unit {0}) (ACondition b.types) (codes "(") ts _ tt
      (λ u us _ opening. step _ _ (an_expr_yields us)
      (λ a vs x. by_expect (AnExpr b.types us a) (λ _. ACondition b.types (u ∷ us)) (codes ")") vs _ x
      (λ w ws x' close. done _ ws (g.condition opening x'.0 close, x'.1))))

  pub first_part_yields : (ts : List Token) → Yields b (first_part (at b ts)) (AFirst b.types ts)
  unfolding first_part
  first_part_yields ts =
      by_if (sees_type (at b ts)) _ _ (λ is. step _ _ (declaration_yields ts) (λ d us x. done _ us (g.first_declared x.0, x.1)))
      (λ isnt. step _ _ (until_yields (codes ";") ts) (λ v us x. done _ us (first_stands x.0, rw (first_height v) (x.1))))

  pub for_head_yields : (ts : List Token) → Yields b (for_head (at b ts)) (AHeadOf b.types ts)
  unfolding for_head
  for_head_yields ts =
      by_expect (λ _. Unit {0}) (AHeadOf b.types) (codes "(") ts _ tt
      (λ u us _ opening. step _ _ (first_part_yields us)
      (λ first vs x. step _ _ (until_yields (codes ";") vs)
      (λ test ws y. step _ _ (until_yields (codes ")") ws)
      (λ inc xs z. done _ xs (g.for_head opening x.0 y.0 z.0, omega (arith, x.1, y.1, z.1))))))

  case_yields : (t : Token) (ts : List Token) → IsWord (codes "case") t
      → Yields b (case_label t.span.line (at b ts)) (λ l us. ALabel b.types l (t ∷ ts) us)
  unfolding case_label int_ahead name_label int_label a_variable sees_variable next
  case_yields t [] w = fails _
  case_yields t (u ∷ us) w =
      by_option (int_of u.kind) _ _ _
      (λ l is. by_expect (λ _. Unit {0}) (λ js x vs. ALabel b.types x (t ∷ u ∷ js) vs) (codes ":") us _ tt
      (λ v vs _ colon. done _ vs (g.int_label w (int_kind u.kind l is) colon)))
      (λ none. name_ways t u us w)
    where
      name_ways : (t u : Token) (us : List Token) → IsWord (codes "case") t
          → Yields b (name_label t.span.line (at b (u ∷ us))) (λ l vs. ALabel b.types l (t ∷ u ∷ us) vs)
      name_ways t u us w =
          by_variable_here u us _ (λ n. by_expect (λ _. Unit {0}) (λ js x vs. ALabel b.types x (t ∷ u ∷ js) vs) (codes ":") us _ tt
          (λ v vs _ colon. done _ vs (g.name_label w n colon)))

  pub label_yields : (ts : List Token) → Yields b (a_label (at b ts)) (λ l us. ALabel b.types l ts us)
  unfolding a_label sees_word expect_word line default_label next
  label_yields [] = fails _
  label_yields (t ∷ ts) =
      by_if (sees_word (codes "default") (at b (t ∷ ts))) _ _
      (λ w. by_expect (λ _. Unit {0}) (λ js x us. ALabel b.types x (t ∷ js) us) (codes ":") ts _ tt (λ u us _ colon. done _ us (g.default_label w colon)))
      (λ isnt. by_word_here (codes "case") t ts _ (λ w. case_yields t ts w))

  labels_yield : (n : ℕ) (sofar : List Label) (ts : List Token) → Yields b (labels_from n sofar (at b ts)) (Adds (Labels b.types) sofar ts)
  unfolding labels_from
  labels_yield zero sofar ts = fails _
  labels_yield (suc n) sofar ts =
      step _ _ (label_yields ts)
      (λ one us x. by_if (sees_label (at b us)) _ _
      (λ is. weaken (labels_yield n (sofar ++ one ∷ []) us) (λ found vs m. adds_more {R = Labels b.types} sofar one m (λ added s. g.more_labels x s)))
      (λ isnt. done _ us (adds_last sofar one (g.last_label x))))

  pub all_labels_yield : (ts : List Token) → Yields b (labels (at b ts)) (λ all us. Labels b.types all ts us)
  unfolding labels
  all_labels_yield ts = weaken (labels_yield b.turns [] ts) (λ found us m. adds_all m)

  -- ---- statements in which no other stands

  effect_yields : (room : ℕ) (ts : List Token) → form_at b.types ts ≡ None → Yields b (effect (at b ts)) (AStatement b.types room ts)
  unfolding effect line
  effect_yields room ts none =
      step _ _ (an_expr_yields ts)
      (λ a us x. by_expect (AnExpr b.types ts a) (λ _. AStatement b.types room ts) (codes ";") us _ x
      (λ u vs x' semi. done _ vs (rw (whole_line b.last x'.0) (g.effect none x'.0 semi), omega arith, x'.1)))

  returned_yields : (room : ℕ) (t : Token) (ts : List Token) → IsWord (codes "return") t
      → Yields b (returned (at b (t ∷ ts))) (AStatement b.types room (t ∷ ts))
  unfolding returned line next
  returned_yields room t ts w = step _ _ (until_yields (codes ";") ts) (λ v us x. done _ us (g.a_return w x.0, omega arith, x.1))

  break_yields : (room : ℕ) (t : Token) (ts : List Token) → IsWord (codes "break") t
      → Yields b (jump true (at b (t ∷ ts))) (AStatement b.types room (t ∷ ts))
  unfolding jump line next
  break_yields room t ts w =
      by_expect (λ _. Unit {0}) (λ js. AStatement b.types room (t ∷ js)) (codes ";") ts _ tt
      (λ u us _ semi. done _ us (g.a_break w semi, omega arith, omega arith))

  continue_yields : (room : ℕ) (t : Token) (ts : List Token) → IsWord (codes "continue") t
      → Yields b (jump false (at b (t ∷ ts))) (AStatement b.types room (t ∷ ts))
  unfolding jump line next
  continue_yields room t ts w =
      by_expect (λ _. Unit {0}) (λ js. AStatement b.types room (t ∷ js)) (codes ";") ts _ tt
      (λ u us _ semi. done _ us (g.a_continue w semi, omega arith, omega arith))

  plain_yields : (room : ℕ) (ts : List Token) → form_at b.types ts ≡ None → Yields b (plain (at b ts)) (AStatement b.types room ts)
  unfolding plain sees sees_word empty line next
  plain_yields room [] none = effect_yields room [] none
  plain_yields room (t ∷ ts) none =
      by_if (sees (codes ";") (at b (t ∷ ts))) _ _ (λ semi. done _ ts (g.empty semi, omega arith, omega arith))
      (λ isnt. by_if (sees_word (codes "return") (at b (t ∷ ts))) _ _ (λ w. returned_yields room t ts w)
      (λ isnt'. by_if (sees_word (codes "break") (at b (t ∷ ts))) _ _ (λ w. break_yields room t ts w)
      (λ isnt''. by_if (sees_word (codes "continue") (at b (t ∷ ts))) _ _ (λ w. continue_yields room t ts w) (λ isnt'''. effect_yields room (t ∷ ts) none))))

  simple_yields : (room : ℕ) (ts : List Token) → Yields b (simple (at b ts)) (AStatement b.types room ts)
  unfolding simple form_ahead
  simple_yields room [] = plain_yields room [] refl
  simple_yields room (t ∷ ts) =
      by_option (form_ahead (at b (t ∷ ts))) _ _ _
      (λ which e. weaken (perl_form_yields b which t ts e) (λ s us x. by s us x.0 x.1 (g.perl x.2)))
      (λ none. plain_yields room (t ∷ ts) none)
    where
      by : (s : StmtTree) (us : List Token) (p : PerlForm) → s ≡ tree.Perl t.span.line p → Statement b.types (tree.Perl t.span.line p) (t ∷ ts) us
          → AStatement b.types room (t ∷ ts) s us
      by s us p e x = rw e (x, omega arith, omega arith)

-- ---- statements in which others stand

module _ (b : Input) (inner : Reader StmtTree) (room : ℕ) (H : (ts : List Token) → Yields b (inner (at b ts)) (AStatement b.types room ts)) where
  pub part_yields : (ts : List Token) → Yields b (part inner (at b ts)) (APart b.types room ts)
  unfolding part begins_form
  part_yields ts =
      by_if (sees_type (at b ts) && not (begins_form (at b ts))) _ _
      (λ both. let p = and_parts (sees_type (at b ts)) (not (begins_form_at b.types ts)) both in
      step _ _ (declaration_yields b ts) (λ d us x. done _ us (g.declared (not-true (begins_form_at b.types ts) p.1) x.0, omega arith, x.1)))
      (λ isnt. weaken (H ts) (λ s us x. (g.stated x.0, x.1, x.2)))

  parts_yield : (n : ℕ) (sofar : List StmtTree) (ts : List Token)
      → Yields b (parts_from inner n sofar (at b ts)) (Adds (SomeParts b.types room) sofar ts)
  unfolding parts_from
  parts_yield zero sofar ts = fails _
  parts_yield (suc n) sofar ts =
      by_eat (λ _. Unit {0}) (λ js. Adds (SomeParts b.types room) sofar js) (codes "}") ts _ _ tt
      (λ u us _ is. done sofar us (adds_none sofar (g.over is, omega arith, omega arith)))
      (λ _ isnt. step _ _ (part_yields ts) (λ one us x. weaken (parts_yield n (sofar ++ one ∷ []) us)
      (λ found vs m. adds_more {R = SomeParts b.types room} sofar one m (λ added s. (g.part x.0 s.0, omega (arith, x.1, s.1), omega (arith, x.2, s.2))))))

  pub all_parts_yield : (ts : List Token) → Yields b (parts inner (at b ts)) (λ all us. SomeParts b.types room all ts us)
  unfolding parts
  all_parts_yield ts = weaken (parts_yield b.turns [] ts) (λ found us m. adds_all m)

  block_yields : (t : Token) (ts : List Token) → Is (codes "{") t → Yields b (block inner (at b (t ∷ ts))) (AStatement b.types (suc room) (t ∷ ts))
  unfolding block line next
  block_yields t ts is =
      step _ _ (all_parts_yield ts) (λ all us x. done _ us (g.block is x.0, omega (arith, x.1), x.2))

  else_yields : (t : Token) (test : ExprTree) (s : StmtTree) (ts us vs : List Token) → IsWord (codes "if") t → ACondition b.types ts test us
      → AStatement b.types room us s vs → Yields b (else_branch inner t.span.line test s (at b vs)) (AStatement b.types (suc room) (t ∷ ts))
  unfolding else_branch sees_word next
  else_yields t test s ts us [] w c x =
      done _ [] (g.an_if w c.0 x.0 refl, omega (arith, x.1), omega (arith, c.1, x.2))
  else_yields t test s ts us (v ∷ vs) w c x =
      by_if (sees_word (codes "else") (at b (v ∷ vs))) _ _
      (λ is. step _ _ (H vs) (λ other ws y. done _ ws (g.if_else w c.0 x.0 is y.0, omega (arith, x.1, y.1), omega (arith, c.1, x.2, y.2))))
      (λ isnt. done _ (v ∷ vs) (g.an_if w c.0 x.0 isnt, omega (arith, x.1), omega (arith, c.1, x.2)))

  if_yields : (t : Token) (ts : List Token) → IsWord (codes "if") t → Yields b (an_if inner (at b (t ∷ ts))) (AStatement b.types (suc room) (t ∷ ts))
  unfolding an_if line next
  if_yields t ts w =
      step _ _ (condition_yields b ts) (λ test us c. step _ _ (H us) (λ s vs x. else_yields t test s ts us vs w c x))

  while_yields : (t : Token) (ts : List Token) → IsWord (codes "while") t
      → Yields b (a_while inner (at b (t ∷ ts))) (AStatement b.types (suc room) (t ∷ ts))
  unfolding a_while line next
  while_yields t ts w =
      step _ _ (condition_yields b ts)
      (λ test us c. step _ _ (H us) (λ s vs x. done _ vs (g.a_while w c.0 x.0, omega (arith, x.1), omega (arith, c.1, x.2))))

  do_yields : (t : Token) (ts : List Token) → IsWord (codes "do") t → Yields b (a_do inner (at b (t ∷ ts))) (AStatement b.types (suc room) (t ∷ ts))
  unfolding a_do line next
  do_yields t ts w =
      step _ _ (H ts)
      (λ s us x. by_word (AStatement b.types room ts s) (λ _. AStatement b.types (suc room) (t ∷ ts)) (codes "while") us _ x
      (λ u vs x' w'. step _ _ (condition_yields b vs)
      (λ test ws c. by_expect (ACondition b.types vs test) (λ _. AStatement b.types (suc room) (t ∷ ts)) (codes ";") ws _ c
      (λ v xs c' semi. done _ xs (g.a_do w x'.0 w' c'.0 semi, omega (arith, x'.1), omega (arith, c'.1, x'.2))))))

  for_yields : (t : Token) (ts : List Token) → IsWord (codes "for") t → Yields b (a_for inner (at b (t ∷ ts))) (AStatement b.types (suc room) (t ∷ ts))
  unfolding a_for line next
  for_yields t ts w =
      step _ _ (for_head_yields b ts)
      (λ head us h. step _ _ (H us) (λ s vs x. done _ vs (g.a_for w h.0 x.0, omega (arith, x.1), omega (arith, h.1, x.2))))

  body_yields : (n : ℕ) (sofar : List StmtTree) (ts : List Token)
      → Yields b (body_from inner n sofar (at b ts)) (Adds (SomeStmts b.types room) sofar ts)
  unfolding body_from
  body_yields zero sofar ts = fails _
  body_yields (suc n) sofar ts =
      by_if (sees (codes "}") (at b ts) || sees_label (at b ts)) _ _ (λ is. done sofar ts (adds_none sofar (g.no_stmts, omega arith, omega arith)))
      (λ isnt. step _ _ (H ts) (λ one us x. weaken (body_yields n (sofar ++ one ∷ []) us)
      (λ found vs m. adds_more {R = SomeStmts b.types room} sofar one m (λ added s. (g.stmt x.0 s.0, omega (arith, x.1, s.1), omega (arith, x.2, s.2))))))

  pub group_body_yields : (ts : List Token) → Yields b (group_body inner (at b ts)) (λ all us. SomeStmts b.types room all ts us)
  unfolding group_body
  group_body_yields ts = weaken (body_yields b.turns [] ts) (λ found us m. adds_all m)

  pub group_yields : (ts : List Token) → Yields b (group inner (at b ts)) (λ one us. AGroup b.types room one ts us)
  unfolding group line
  group_yields [] = step _ _ (all_labels_yield b []) (λ all us l. absurd (no_labels all us l))
    where
      no_label : (l : Label) (us : List Token) → ALabel b.types l [] us → ⊥
      no_label l us x = elim x [ ]

      no_labels : (all : List Label) (us : List Token) → Labels b.types all [] us → ⊥
      no_labels all us (g.last_label {l = l} x) = no_label l us x
      no_labels all us (g.more_labels {l = l} {us = vs} x y) = no_label l vs x
  group_yields (t ∷ ts) =
      step _ _ (all_labels_yield b (t ∷ ts)) (λ all us l. step _ _ (group_body_yields us) (λ body vs x. done _ vs (made l x.0 x.1 x.2)))

  groups_yield : (n : ℕ) (may : Bool) (sofar : List GroupTree) (ts : List Token)
      → Yields b (groups_from inner n may sofar (at b ts)) (Adds (SomeGroups b.types room may) sofar ts)
  unfolding groups_from
  groups_yield zero may sofar ts = fails _
  groups_yield (suc n) may sofar ts =
      by_eat (λ _. Unit {0}) (λ js. Adds (SomeGroups b.types room may) sofar js) (codes "}") ts _ _ tt
      (λ u us _ is. done sofar us (adds_none sofar (g.groups_over is, omega arith, omega arith)))
      (λ _ isnt. by_choice may _ _ _
      (λ e. step _ _ (group_yields ts) (λ one us x. weaken (groups_yield n (last_leaves false one.body) (sofar ++ one ∷ []) us)
      (λ found vs m. adds_more {R = SomeGroups b.types room (last_leaves false one.body)} sofar one m (λ added s. rw e (one_more_group one added x s)))))
      (λ e. fails _))

  all_groups_yield : (ts : List Token) → Yields b (groups inner (at b ts)) (λ all us. SomeGroups b.types room true all ts us)
  unfolding groups
  all_groups_yield ts = weaken (groups_yield b.turns true [] ts) (λ found us m. adds_all m)

  switch_yields : (t : Token) (ts : List Token) → IsWord (codes "switch") t
      → Yields b (a_switch inner (at b (t ∷ ts))) (AStatement b.types (suc room) (t ∷ ts))
  unfolding a_switch line next
  switch_yields t ts w =
      step _ _ (condition_yields b ts)
      (λ on us c. by_expect (ACondition b.types ts on) (λ _. AStatement b.types (suc room) (t ∷ ts)) (codes "{") us _ c
      (λ u vs c' opening. step _ _ (all_groups_yield vs) (λ all ws x. done _ ws (g.a_switch w c'.0 opening x.0, omega (arith, x.1), omega (arith, c'.1, x.2)))))

  opened_yields : (o : Opener) (t : Token) (ts : List Token) → IsWord (word_of o) t
      → Yields b (opened_by inner o (at b (t ∷ ts))) (AStatement b.types (suc room) (t ∷ ts))
  opened_yields opens.If t ts w = if_yields t ts w
  opened_yields opens.While t ts w = while_yields t ts w
  opened_yields opens.Do t ts w = do_yields t ts w
  opened_yields opens.For t ts w = for_yields t ts w
  opened_yields opens.Switch t ts w = switch_yields t ts w

-- What is read as a statement is in the grammar.
pub stmt_yields : (b : Input) (room : ℕ) (ts : List Token) → Yields b (stmt room (at b ts)) (AStatement b.types room ts)
unfolding stmt sees opener
stmt_yields b zero [] = simple_yields b 0 []
stmt_yields b zero (t ∷ ts) =
    by_if (sees (codes "{") (at b (t ∷ ts))) _ _ (λ is. fails _) (λ isnt. by_option (opener (at b (t ∷ ts))) (λ o. too_deep) simple (at b (t ∷ ts))
    (λ o is. fails _) (λ none. simple_yields b 0 (t ∷ ts)))
stmt_yields b (suc below) [] = simple_yields b (suc below) []
stmt_yields b (suc below) (t ∷ ts) =
    by_if (sees (codes "{") (at b (t ∷ ts))) _ _ (λ is. block_yields b (stmt below) below (stmt_yields b below) t ts is)
    (λ isnt. by_option (opener (at b (t ∷ ts))) (opened_by (stmt below)) simple (at b (t ∷ ts))
    (λ o is. opened_yields b (stmt below) below (stmt_yields b below) o t ts (opened_word t o is))
    (λ none. simple_yields b (suc below) (t ∷ ts)))
