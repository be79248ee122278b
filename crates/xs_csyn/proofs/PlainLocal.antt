-- What is read as a declaration, a label, or a statement in which no other stands rests on the tokens that are passed and on the next one.
use Rattle.std.proofs.Common.{ℕ, zero, suc, ◌<◌, ◌≤◌, ◌||◌, Bool, true, false, List, [], ◌∷◌, ◌++◌, length, Some, None, refl, arith}
use Rattle.std.specs.Prelude.{codes}
use Rattle.xs_base.specs.Readers.{head_is}
use Rattle.xs_ctok.specs.declared.token.Literal.{Literal}
use Rattle.xs_ctok.specs.declared.token.Token.{Token}
use Rattle.xs_csyn.proofs.ExpressionsLocal.{expr_local}
use Rattle.xs_csyn.proofs.Local.{Local, NextTells, alike, bind, by_bool, by_option, by_test, eat_local, expect_local, expect_word_local, gives, here_local, moving, no_longer, proper, same_first, sees_tells, skip_local, turned, type_tells, variable_local, word_tells}
use Rattle.xs_csyn.proofs.MoreTurns.{labels_same, names_same}
use Rattle.xs_csyn.proofs.Sizes.{declarator_shrinks, label_shrinks}
use Rattle.xs_csyn.proofs.StatementsSound.{declarator_yields, label_yields}
use Rattle.xs_csyn.proofs.TypesLocal.{stars_local, type_name_local}
use Rattle.xs_cstmt.specs.StatementHeights.{option_height}
use Rattle.xs_cstmt.specs.PerlForms.{first_int, int_ahead, int_of}
use Rattle.xs_csyn.specs.StatementGrammar.{ALabel, Declarator}
use Rattle.xs_cstmt.specs.StatementReader.{a_label, an_expr, case_label, condition, declaration, declarator, declarators, declarators_from, default_label, effect, empty, first_of, first_part, first_value, for_head, int_label, jump, labels, labels_from, max_nesting, name_label, plain, returned, sees_label, until}
use Rattle.xs_cstmt.specs.StatementTree as tree
use Rattle.xs_cstmt.specs.StatementTree.{DeclaratorTree, DeclaredTree, ForTree}
use Rattle.xs_cinput.specs.TokenInput.{Input, is_word, sees, sees_type, sees_word}
use Rattle.xs_cexpr.specs.declared.node.Level.TheVariants as level
use Rattle.xs_cstmt.specs.declared.tree.Label.{Label}
use Rattle.xs_cstmt.specs.declared.tree.Label.TheVariants as label

module _ (b : Input) where
  pub an_expr_local : (ts : List Token) → Local proper b (λ k. an_expr) ts
  unfolding an_expr
  an_expr_local ts = bind (expr_local b max_nesting level.Whole ts) (λ f e. gives b f.tree _)

  pub until_local : (sign : List ℕ) (ts : List Token) → Local proper b (λ k. until sign) ts
  unfolding until
  until_local sign ts =
      bind (eat_local b sign ts)
      (λ is e. by_bool is (λ yes. gives b None _) (λ isnt. bind (an_expr_local _) (λ a f. bind (expect_local b sign _) (λ u h. gives b (Some a) _))))

  -- ---- declarations

  first_value_local : (ts : List Token) → Local proper b (λ k. first_value) ts
  unfolding first_value
  first_value_local ts =
      bind (eat_local b (codes "=") ts) (λ is e. by_bool is (λ yes. bind (an_expr_local _) (λ a f. gives b (Some a) _)) (λ isnt. gives b None _))

  pub declarator_local : (ts : List Token) → Local proper b (λ k. declarator) ts
  unfolding declarator
  declarator_local ts =
      bind (stars_local b ts)
      (λ n e. bind (here_local b _)
      (λ line f. bind (variable_local b _)
      (λ name h. bind (first_value_local _)
      (λ value j. let d : DeclaratorTree = record { line = line; stars = n; name = name; value = value } in gives b d _))))

  names_local : (n : ℕ) (sofar : List DeclaratorTree) (ts : List Token) → length ts < n → Local proper b (λ k. declarators_from k sofar) ts
  unfolding declarators_from
  names_local zero sofar ts less = absurd (omega (arith, less))
  names_local (suc n) sofar ts less =
      let x = declarator_local ts in
      alike (bind x (λ one e. moving (λ us d vs. Declarator b.types d us vs × (option_height d.value ≤ max_nesting)) x one e
      (λ k us. declarator_yields (turned b k us) us) (λ us vs y. declarator_shrinks y.0)
      (λ fewer. bind (eat_local b (codes ",") x.rest)
      (λ more f. by_bool more
      (λ yes. names_local n (sofar ++ one ∷ []) _ (omega (arith, less, fewer, no_longer {s = proper} (eat_local b (codes ",") x.rest))))
      (λ isnt. gives b (sofar ++ one ∷ []) _)))))
      (λ us k e g. names_same (turned b k us) k (suc k) sofar us g.0 (omega (arith, g.0)))

  pub declarators_local : (ts : List Token) → Local proper b (λ k. declarators) ts
  unfolding declarators
  declarators_local ts = alike (names_local (suc (length ts)) [] ts (omega arith)) (λ us k e g. refl)

  pub declaration_local : (ts : List Token) → Local proper b (λ k. declaration) ts
  unfolding declaration
  declaration_local ts =
      bind (here_local b ts)
      (λ line e. bind (type_name_local b _)
      (λ base f. bind (declarators_local _)
      (λ all h. bind (expect_local b (codes ";") _)
      (λ u j. let d : DeclaredTree = record { line = line; base = base; names = all } in gives b d _))))

  -- ---- statements in which no other stands

  effect_local : (ts : List Token) → Local proper b (λ k. effect) ts
  unfolding effect
  effect_local ts =
      bind (here_local b ts) (λ line e. bind (an_expr_local _) (λ a f. bind (expect_local b (codes ";") _) (λ u h. gives b (tree.Effect line a) _)))

  empty_local : (ts : List Token) → Local proper b (λ k. empty) ts
  unfolding empty
  empty_local ts = bind (here_local b ts) (λ line e. bind (skip_local b _) (λ u f. gives b (tree.Empty line) _))

  jump_local : (is_break : Bool) (ts : List Token) → Local proper b (λ k. jump is_break) ts
  unfolding jump
  jump_local is_break ts =
      bind (here_local b ts)
      (λ line e. bind (skip_local b _)
      (λ u f. bind (expect_local b (codes ";") _)
      (λ v h. by_bool is_break (λ yes. gives b (tree.Break line) _) (λ isnt. gives b (tree.Continue line) _))))

  returned_local : (ts : List Token) → Local proper b (λ k. returned) ts
  unfolding returned
  returned_local ts =
      bind (here_local b ts) (λ line e. bind (skip_local b _) (λ u f. bind (until_local (codes ";") _) (λ value h. gives b (tree.Return line value) _)))

  pub plain_local : (ts : List Token) → Local proper b (λ k. plain) ts
  unfolding plain
  plain_local ts =
      by_test (sees (codes ";")) (sees_tells b (codes ";") ts) (λ is. empty_local ts)
      (λ isnt. by_test (sees_word (codes "return")) (word_tells b (codes "return") ts) (λ is. returned_local ts)
      (λ isnt'. by_test (sees_word (codes "break")) (word_tells b (codes "break") ts) (λ is. jump_local true ts)
      (λ isnt''. by_test (sees_word (codes "continue")) (word_tells b (codes "continue") ts) (λ is. jump_local false ts) (λ other. effect_local ts))))

  -- ---- heads and labels

  pub condition_local : (ts : List Token) → Local proper b (λ k. condition) ts
  unfolding condition
  condition_local ts =
      bind (expect_local b (codes "(") ts) (λ u e. bind (an_expr_local _) (λ a f. bind (expect_local b (codes ")") _) (λ v h. gives b a _)))

  pub first_part_local : (ts : List Token) → Local proper b (λ k. first_part) ts
  unfolding first_part
  first_part_local ts =
      by_test sees_type (type_tells b ts) (λ is. bind (declaration_local ts) (λ d e. gives b (tree.FirstDeclare d) _))
      (λ isnt. bind (until_local (codes ";") ts) (λ v e. gives b (first_of v) _))

  pub for_head_local : (ts : List Token) → Local proper b (λ k. for_head) ts
  unfolding for_head
  for_head_local ts =
      bind (expect_local b (codes "(") ts)
      (λ u e. bind (first_part_local _)
      (λ first f. bind (until_local (codes ";") _)
      (λ test h. bind (until_local (codes ")") _)
      (λ inc j. let head : ForTree = record { first = first; test = test; step = inc } in gives b head _))))

  pub label_tells : (ts : List Token) → NextTells b sees_label ts
  unfolding sees_label sees_word
  label_tells ts us k e =
      same_first (λ js. head_is (is_word (codes "case")) js || head_is (is_word (codes "default")) js)
      (λ t. is_word (codes "case") t || is_word (codes "default") t) (λ t js. refl) ts us e

  pub int_tells : (ts : List Token) → NextTells b int_ahead ts
  unfolding int_ahead
  int_tells ts us k e = same_first first_int (λ t. int_of t.kind) (λ t js. refl) ts us e

  default_local : (line : ℕ) (ts : List Token) → Local proper b (λ k. default_label line) ts
  unfolding default_label
  default_local line ts = bind (expect_local b (codes ":") ts) (λ u e. gives b (label.Default line) _)

  name_label_local : (line : ℕ) (ts : List Token) → Local proper b (λ k. name_label line) ts
  unfolding name_label
  name_label_local line ts = bind (variable_local b ts) (λ name e. bind (expect_local b (codes ":") _) (λ u f. gives b (label.Name line name) _))

  int_label_local : (line : ℕ) (l : Literal) (ts : List Token) → Local proper b (λ k. int_label line l) ts
  unfolding int_label
  int_label_local line l ts = bind (skip_local b ts) (λ u e. bind (expect_local b (codes ":") _) (λ v f. gives b (label.Int line l) _))

  case_local : (line : ℕ) (ts : List Token) → Local proper b (λ k. case_label line) ts
  unfolding case_label
  case_local line ts = by_option int_ahead (int_tells ts) (λ l is. int_label_local line l ts) (λ none. name_label_local line ts)

  pub label_local : (ts : List Token) → Local proper b (λ k. a_label) ts
  unfolding a_label
  label_local ts =
      bind (here_local b ts)
      (λ line e. by_test (sees_word (codes "default")) (word_tells b (codes "default") _) (λ is. bind (skip_local b _) (λ u f. default_local line _))
      (λ isnt. bind (expect_word_local b (codes "case") _) (λ u f. case_local line _)))

  labels_from_local : (n : ℕ) (sofar : List Label) (ts : List Token) → length ts < n → Local proper b (λ k. labels_from k sofar) ts
  unfolding labels_from
  labels_from_local zero sofar ts less = absurd (omega (arith, less))
  labels_from_local (suc n) sofar ts less =
      let x = label_local ts in
      alike (bind x (λ one e. moving (λ us l vs. ALabel b.types l us vs) x one e (λ k us. label_yields (turned b k us) us) (λ us vs y. label_shrinks y)
      (λ fewer. by_test sees_label (label_tells x.rest) (λ yes. labels_from_local n (sofar ++ one ∷ []) x.rest (omega (arith, less, fewer)))
      (λ isnt. gives b (sofar ++ one ∷ []) x.rest))))
      (λ us k e g. labels_same (turned b k us) k (suc k) sofar us g.0 (omega (arith, g.0)))

  pub labels_local : (ts : List Token) → Local proper b (λ k. labels) ts
  unfolding labels
  labels_local ts = alike (labels_from_local (suc (length ts)) [] ts (omega arith)) (λ us k e g. refl)
