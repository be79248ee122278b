-- Where reading an expression breaks off, the tokens that were passed begin one.
use Rattle.std.proofs.Common.{◌≡◌, ℕ, zero, suc, ◌+◌, ◌<◌, ◌≤◌, ◌&&◌, Bool, true, false, if◌then◌else◌, nat_lt, List, [], ◌∷◌, ◌++◌, length, Option, Some, None, Ok, Err, refl, ap, ◌∙◌, arith}
use Rattle.std.proofs.lemmas.Bool.{and_parts, ltb-false}
use Rattle.std.proofs.lemmas.Slice.Eq.{bytes_eq-Decides}
use Rattle.std.specs.Option.{option_map_or}
use Rattle.std.specs.Prelude.{codes}
use Rattle.std.specs.Str.{bytes_eq}
use Rattle.xs_base.specs.Readers.{◌>>=◌, and_then, head_is, pure}
use Rattle.xs_ctok.specs.declared.token.Token.{Token}
use Rattle.xs_csyn.proofs.Breaks.{Viable, after_deeper, after_token, alike_all, alike_viable, by_option, by_test, by_test_no_name, finished, less_of, onward, operand_here, read, sign_here, step, step_below}
use Rattle.xs_csyn.proofs.TokenBreaks.{breaks_at_end, by_eat, by_eat_below, by_eat_here, by_eat_no_name, by_eat_then, by_expect, by_expect_then, by_first, by_here, by_name, by_variable, by_variable_here}
use Rattle.xs_csyn.proofs.ExpressionsLocal.{expr_local, literal_tells, primary_local}
use Rattle.xs_csyn.proofs.ExpressionsSound.{Stands, Stood, at_least_none, at_least_some, expr_yields, place_in_choice, place_in_operand, binary_line, placed_line, placed_tall, primary_line, primary_yields, type_yields, unary_line}
use Rattle.xs_csyn.proofs.Frames.{binary_frame, choice_frame, primary_frame, type_frame, unary_frame, whole_frame}
use Rattle.xs_csyn.proofs.HoleHeights.{found_low, hole_none, hole_place, place_low, stood_low}
use Rattle.xs_csyn.proofs.Local.{Are, Local, Meant, NextTells, are_more, assignment_tells, operator_tells, prefix_tells, sees_tells, step_tells, turned, word_tells}
use Rattle.xs_csyn.proofs.Marks.{mark_no_name, name_no_mark, row_no_name, variable_name, variable_no_type}
use Rattle.xs_csyn.proofs.MoreTurns.{list_same}
use Rattle.xs_csyn.proofs.Sizes.{whole_shrinks}
use Rattle.xs_csyn.proofs.TypesLocal.{type_local}
use Rattle.xs_csyn.proofs.Yields.{Yields, at}
use Rattle.xs_cexpr.specs.ExpressionReader.{Found, FoundAll, FoundPlace, above, above_place, address, after_name, arguments, assign, binary, by_place, cast, choice, choose, climb, dereferenced, expr, flat, index, int2ptr, joined, last_suffix, list, list_from, literal, named, named_place, no_nodes, opened, operand, other_choice, place, place_height as height_as, place_of, place_tree_of, placed, placed_as, pointed, prefixed, primary, st_place, stepped, suffixes, unary, whole, with_node, worded}
use Rattle.xs_csyn.specs.Prefixes.{height_but, heights_but, place_height_but}
use Rattle.xs_cexpr.specs.ExpressionHeights.{height, place_height}
use Rattle.xs_csyn.specs.Grammar as g
use Rattle.xs_csyn.specs.Grammar.{Binary, Choice, Is, IsVariable, IsWord, Listed, Operand, Place, Primary, Unary, Whole, line_of}
use Rattle.xs_cinput.specs.Operators.{a_step, assignment, assignments, at_least, binary_ops, first_in, operator, prefix_op, prefix_ops, sign_in, steps}
use Rattle.xs_cexpr.specs.ExpressionTree as tree
use Rattle.xs_cexpr.specs.ExpressionTree.{ExprTree, ExprTrees, PlaceTree}
use Rattle.xs_cinput.specs.TokenInput.{Input, Outcome, Reader, a_variable, after, expect, is_name, is_sign, is_type, line, line_at, next, sees, sees_type, sees_variable, sees_word, skip, too_deep}
use Rattle.xs_cinput.specs.TypeReader.{joins}
use Rattle.xs_cexpr.specs.declared.node.Level.{Level}
use Rattle.xs_cexpr.specs.declared.node.Level.TheVariants as level
use Rattle.xs_cinput.specs.declared.tree.BinaryOp.{BinaryOp}
use Rattle.xs_cinput.specs.declared.tree.Step.{Step}
use Rattle.xs_values.specs.declared.unary_operator.UnOp.{UnOp}
use Rattle.xs_csyn.proofs.TypesBegin.{char_joins, int_type, sign, type_begins, with_sign, with_word, word}

pub as_primary : {types : List (List ℕ)} {a : ExprTree} {ts us : List Token} → Primary types a ts us → Whole types a ts us
as_primary x = g.is_choice (g.is_binary (g.is_unary (g.is_operand (g.is_primary x))))

abbrev pub name_of : Token → ExprTree
name_of x = tree.Var x.span.line x.text

-- a tree of a level
abbrev pub AtLevel : List (List ℕ) → Level → ExprTree → List Token → List Token → Type 0
AtLevel types level.Whole a ts us = Whole types a ts us
AtLevel types level.Choice a ts us = Choice types a ts us
AtLevel types (level.Binary n) a ts us = Binary types n a ts us
AtLevel types level.Unary a ts us = Unary types a ts us

pub name_at : (types : List (List ℕ)) (x : Token) → IsVariable types x → (l : Level) (us : List Token) → AtLevel types l (name_of x) (x ∷ us) us
name_at types x v level.Whole us = as_primary (g.name v)
name_at types x v level.Choice us = g.is_binary (g.is_unary (g.is_operand (g.is_primary (g.name v))))
name_at types x v (level.Binary n) us = g.is_unary (g.is_operand (g.is_primary (g.name v)))
name_at types x v level.Unary us = g.is_operand (g.is_primary (g.name v))

two_of : {types : List (List ℕ)} {line n k : ℕ} {op : BinaryOp} {left right : ExprTree} {u : Token} {ws ps bs : List Token} → line ≡ line_of left
    → Binary types k left ws (u ∷ ps) → sign_in binary_ops u ≡ Some (op, k) → n ≤ k → Binary types (k + 1) right ps bs
    → Binary types n (tree.Two line op left right) ws bs
two_of e x is le y = rw e (g.two x is le y)

chosen_of : {types : List (List ℕ)} {line : ℕ} {test a c : ExprTree} {t u : Token} {ws ps bs ds : List Token} → line ≡ line_of test
    → Binary types 1 test ws (t ∷ ps) → Is (codes "?") t → Whole types a ps (u ∷ bs) → Is (codes ":") u → Choice types c bs ds
    → Choice types (tree.Choice line test a c) ws ds
chosen_of e x is y is' z = rw e (g.choose x is y is' z)

-- What is read inside is gone on with: the parts of a rule that has a name of its own come in one row.
nested : {A B C : Type 0} (r : Outcome A) (f : A → Reader (Unit {0})) (made : A → Unit {0} → B) (go : B → Reader C)
    → and_then (and_then r (λ a i. and_then (f a i) (λ u. pure (made a u)))) go ≡ and_then r (λ a i. and_then (f a i) (λ u. go (made a u)))
nested (Ok p) f made go = by (f p.0 p.1)
  where
    by : (o : Outcome (Unit {0})) → and_then (and_then o (λ u. pure (made p.0 u))) go ≡ and_then o (λ u. go (made p.0 u))
    by (Ok q) = refl
    by (Err e) = refl
nested (Err e) f made go = refl

-- ---- expressions

-- whether the next token begins a type
type_seen : (b : Input) (us : List Token) (k : ℕ) → sees_type (turned b k us) ≡ head_is (is_type b.types) us
unfolding sees_type
type_seen b us k = refl

-- A place is no higher than what it is read as, or flat.
place_within : (left : Found) (p : PlaceTree) → place_tree_of left.tree ≡ Some p → left.height ≡ height left.tree → {n : ℕ} → left.height ≤ suc n
    → place_height p ≤ suc n
place_within left p is tall {n} within = by p (height_as p left.height) refl (ap (height_as p) tall ∙ placed_tall left.tree p is)
  where
    by : (p : PlaceTree) (k : ℕ) → height_as p left.height ≡ k → k ≡ place_height p → place_height p ≤ suc n
    by (tree.VarPlace line name) k e h = omega arith
    by (tree.TargetPlace line name) k e h = omega arith
    by (tree.FieldPlace line name field) k e h = omega arith
    by (tree.StPlace line at) k e h = omega (arith, e, h, within)

abbrev pub Inner : Meant → (ℕ → List Token → Type 0) → Input → Token → ℕ → Type 0
Inner s Text b x m = (l : Level) (d : List Token → List Token) (us : List Token) → Are s us
    → ((over : ℕ) (a : ExprTree) (ws : List Token) → AtLevel b.types l a ws us → height_but x.text a ≤ m + over → Text over (d ws))
    → (ts : List Token) → Viable s x m Text b d (λ k. expr m l) ts

abbrev InnerPlace : Meant → (ℕ → List Token → Type 0) → Input → Token → ℕ → Type 0
InnerPlace s Text b x m = (d : List Token → List Token) (us : List Token) → Are s us
    → ((over : ℕ) (p : PlaceTree) (ws : List Token) → Place b.types p ws us → place_height_but x.text p ≤ m + over → Text over (d ws))
    → (ts : List Token) → Viable s x m Text b d (λ k. place_of m) ts

module _ {s : Meant} (Text : ℕ → List Token → Type 0) (b : Input) (x : Token) (vx : IsVariable b.types x) (ax : Are s (x ∷ [])) (m : ℕ)
    (H : Inner s Text b x m) where
  abbrev close : Token
  close = sign x (codes ")")

  abbrev comma : Token
  comma = sign x (codes ",")

  list_begins : (n : ℕ) (all : FoundAll) (d : List Token → List Token) (us : List Token) → Are s us
      → ((over : ℕ) (args : ExprTrees) (ws : List Token) → Listed b.types args ws us → heights_but x.text args ≤ m + over → Text over (d ws))
      → (ts : List Token) → length ts < n → Viable s x m Text b d (λ k. list_from (expr m) k all) ts
  unfolding list_from
  list_begins zero all d us su fin ts len = absurd (omega (arith, len))
  list_begins (suc n) all d us su fin ts len =
      alike_all {p = λ k. list_from (expr m) (suc k) all} (step_below (expr_local b m level.Whole ts) (expr_yields b m level.Whole ts)
      (H level.Whole d (close ∷ us) (with_sign s x (codes ")") refl _ su)
      (λ over a ws q h. fin over (tree.MoreExprs a tree.NoExprs) ws (g.last q refl) (omega (arith, h))) ts)
      (λ one ks y. let w = whole_frame y.stands in onward w (by_eat_then (codes ",") ks
      (λ u ls less is. list_begins n (with_node all one) (λ js. d (w.w (u ∷ js))) us su
      (λ over args ws q h. fin over (tree.MoreExprs one.tree args) (w.w (u ∷ ws)) (g.more (w.moves (u ∷ ws)) is q) (omega (arith, h, stood_low x.text y))) ls
      (omega (arith, len, less_of less, whole_shrinks y.stands)))
      (by_expect (codes ")") ks _ (close ∷ us) (fin 0 (tree.MoreExprs one.tree tree.NoExprs) (w.w (close ∷ us)) (g.last (w.moves (close ∷ us)) refl)
      (omega (arith, stood_low x.text y)))
      (λ u ls less is. read refl)))))
      (λ us k g. list_same (turned b k us) m k (suc k) all us g.0 (omega (arith, g.0)))

  all_listed_begin : (d : List Token → List Token) (us : List Token) → Are s us
      → ((over : ℕ) (args : ExprTrees) (ws : List Token) → Listed b.types args ws us → heights_but x.text args ≤ m + over → Text over (d ws))
      → (ts : List Token) → Viable s x m Text b d (λ k. list (expr m)) ts
  unfolding list
  all_listed_begin d us su fin ts =
      alike_all {p = λ k. list_from (expr m) k no_nodes} (list_begins (suc (length ts)) no_nodes d us su fin ts (omega arith)) (λ us k g. refl)

  arguments_begin : (d : List Token → List Token) (us : List Token) → Are s us
      → ((over : ℕ) (args : ExprTrees) (ws : List Token) → g.Arguments b.types args ws us → heights_but x.text args ≤ m + over → Text over (d ws))
      → (ts : List Token) → Viable s x m Text b d (λ k. arguments (expr m)) ts
  unfolding arguments
  arguments_begin d us su fin ts =
      by_eat_no_name (codes ")") ts (name_no_mark (codes ")") x (variable_name b.types x vx))
      (λ t is. (0, (us, su, fin 0 tree.NoExprs (t ∷ us) (g.none is) (omega arith)))) (λ u ks less is. read refl)
      (all_listed_begin d us su (λ over args ws q h. fin over args ws (g.some q) h) ts)

  -- after the name
  after_name_begins : (t : Token) → IsVariable b.types t → (d : List Token → List Token) (us : List Token) → Are s us
      → ((over : ℕ) (a : ExprTree) (ws : List Token) → Primary b.types a (t ∷ ws) us → height_but x.text a ≤ suc m + over → Text over (d ws))
      → (ts : List Token) → Viable s x (suc m) Text b d (λ k. after_name (expr m) t.span.line t.text) ts
  unfolding after_name
  after_name_begins t v d us su fin ts =
      by_eat_then (codes "(") ts
      (λ u ks less is. finished _ (arguments_begin (λ js. d (u ∷ js)) us su
      (λ over args ws q h. fin over (tree.Call t.span.line t.text args) (u ∷ ws) (g.call v is q) (omega (arith, h))) ks))
      (by_eat (codes "->") ts
      (λ u ks less is. by_name ks _ (x ∷ us) (fin 0 (tree.Arrow t.span.line t.text x.text) (u ∷ x ∷ us) (g.arrow v is (variable_name b.types x vx))
      (omega arith))
      (λ w ls less' n. read refl)) (read refl))

  named_begins : (line : ℕ) (d : List Token → List Token) (us : List Token) → Are s us
      → ((over : ℕ) (a : ExprTree) (ws : List Token) → Primary b.types a ws us → height_but x.text a ≤ suc m + over → Text over (d ws))
      → (ts : List Token) → line ≡ line_at b.last ts → Viable s x (suc m) Text b d (λ k. named (expr m) line) ts
  unfolding named
  named_begins line d us su fin ts e =
      by_variable ts _ (x ∷ us) (fin 0 (name_of x) (x ∷ us) (g.name vx) (omega (arith, hole_none x)))
      (λ t ks less v. let at_t : line ≡ t.span.line = e ∙ ap (line_at b.last) less in
      rw at_t (after_name_begins t v (λ js. d (t ∷ js)) us su (λ over a ws q h. fin over a (t ∷ ws) q h) ks))

  int2ptr_begins : (t : Token) → IsWord (codes "INT2PTR") t → (d : List Token → List Token) (us : List Token) → Are s us
      → ((over : ℕ) (a : ExprTree) (ws : List Token) → Primary b.types a (t ∷ ws) us → height_but x.text a ≤ suc m + over → Text over (d ws))
      → (ts : List Token) → Viable s x (suc m) Text b d (λ k. int2ptr (expr m) t.span.line) ts
  unfolding int2ptr
  int2ptr_begins t w d us su fin ts =
      let end : List Token = x ∷ close ∷ us in
      by_expect (codes "(") ts _ (sign x (codes "(") ∷ word x (codes "int") ∷ comma ∷ end)
      (fin 0 _ (sign x (codes "(") ∷ word x (codes "int") ∷ comma ∷ end)
      (g.int2ptr w refl (int_type b.types x (comma ∷ end)) refl (as_primary (g.name vx)) refl) (omega (arith, hole_none x)))
      (λ u ks less is. step (type_local b ks) (type_yields b ks) (type_begins Text b x (λ js. d (u ∷ js)) (comma ∷ end)
      (λ to ws q. fin 0 _ (u ∷ ws) (g.int2ptr w is q refl (as_primary (g.name vx)) refl) (omega (arith, hole_none x))) ks)
      (λ to ls ty. let f = type_frame ty in onward f (by_expect_then (codes ",") ls _ (comma ∷ end)
      (fin 0 _ (u ∷ f.w (comma ∷ end)) (g.int2ptr w is (f.moves (comma ∷ end)) refl (as_primary (g.name vx)) refl) (omega (arith, hole_none x)))
      (λ v ms less' is'. step_below (expr_local b m level.Whole ms) (expr_yields b m level.Whole ms)
      (H level.Whole (λ js. d (u ∷ f.w (v ∷ js))) (close ∷ us) (with_sign s x (codes ")") refl _ su)
      (λ over a ws q h. fin over _ (u ∷ f.w (v ∷ ws)) (g.int2ptr w is (f.moves (v ∷ ws)) is' q refl) (omega (arith, h))) ms)
      (λ a ns y. let h = whole_frame y.stands in onward h (by_expect (codes ")") ns _ (close ∷ us)
      (fin 0 _ (u ∷ f.w (v ∷ h.w (close ∷ us))) (g.int2ptr w is (f.moves (v ∷ h.w (close ∷ us))) is' (h.moves (close ∷ us)) refl)
      (omega (arith, stood_low x.text y)))
      (λ z ps less'' is''. read refl)))))))

  primary_begins : (t : Token) (d : List Token → List Token) (us : List Token) → Are s us
      → ((over : ℕ) (a : ExprTree) (ws : List Token) → Primary b.types a ws us → height_but x.text a ≤ suc m + over → Text over (d ws))
      → (ts : List Token) → Viable s x (suc m) Text b d (λ k. primary (expr m) t.span.line) (t ∷ ts)
  unfolding primary worded sees_word next
  primary_begins t d us su fin ts =
      by_option (literal t.span.line) (literal_tells b t.span.line (t ∷ ts)) (λ a is. read refl)
      (λ none. by_test (sees_word (codes "INT2PTR")) (word_tells b (codes "INT2PTR") (t ∷ ts))
      (λ w. after_token _ (int2ptr_begins t w (λ js. d (t ∷ js)) us su (λ over a ws q h. fin over a (t ∷ ws) q h) ts) (λ js' k n good. refl))
      (λ isnt. named_begins t.span.line d us su fin (t ∷ ts) refl))

  named_place_begins : (t : Token) → IsVariable b.types t → (d : List Token → List Token) (us : List Token) → Are s us
      → ((over : ℕ) (p : PlaceTree) (ws : List Token) → Place b.types p (t ∷ ws) us → place_height_but x.text p ≤ suc m + over → Text over (d ws))
      → (ts : List Token) → Viable s x (suc m) Text b d (λ k. named_place (expr m) t.span.line t.text) ts
  unfolding named_place sees next
  named_place_begins t v d us su fin ts =
      by_eat (codes "->") ts
      (λ u ks less is. by_name ks _ (x ∷ us) (fin 0 (tree.FieldPlace t.span.line t.text x.text) (u ∷ x ∷ us)
      (g.is_named (g.field v is (variable_name b.types x vx))) (omega arith))
      (λ w ls less' n. read refl)) (st_begins ts)
    where
      no_both : (c : Bool) → (c && false) ≡ true → ⊥
      no_both true e = absurd cc
      no_both false e = absurd cc

      tells : (ts : List Token) → NextTells b (λ i. bytes_eq t.text (codes "ST") && sees (codes "(") i) ts
      tells ts us k n = ap (λ c. bytes_eq t.text (codes "ST") && c) (sees_tells b (codes "(") ts us k n)

      st_begins : (ts : List Token)
          → Viable s x (suc m) Text b d (λ k i. if bytes_eq t.text (codes "ST") && sees (codes "(") i
          then (skip >>= λ v. expr m level.Whole >>= λ a. expect (codes ")") >>= λ u. pure (st_place t.span.line a)) i
          else pure (flat (tree.VarPlace t.span.line t.text)) i) ts
      st_begins [] =
          by_test (λ i. bytes_eq t.text (codes "ST") && sees (codes "(") i) (tells []) (λ both. absurd (no_both (bytes_eq t.text (codes "ST")) both))
          (λ isnt. read refl)
      st_begins (u ∷ ks) =
          by_test (λ i. bytes_eq t.text (codes "ST") && sees (codes "(") i) (tells (u ∷ ks))
          (λ both. let p = and_parts (bytes_eq t.text (codes "ST")) (is_sign (codes "(") u) both in
          after_deeper _ (step_below (expr_local b m level.Whole ks) (expr_yields b m level.Whole ks)
          (H level.Whole (λ js. d (u ∷ js)) (close ∷ us) (with_sign s x (codes ")") refl _ su)
          (λ over a ws q h. fin over (tree.StPlace t.span.line a) (u ∷ ws) (g.is_named (g.st v p.0 p.1 q refl)) (omega (arith, h))) ks)
          (λ a ls y. let h = whole_frame y.stands in onward h (by_expect (codes ")") ls _ (close ∷ us)
          (fin 0 (tree.StPlace t.span.line a.tree) (u ∷ h.w (close ∷ us)) (g.is_named (g.st v p.0 p.1 (h.moves (close ∷ us)) refl))
          (omega (arith, stood_low x.text y))) (λ w ms less is. read refl)))) (λ js' k good. refl))
          (λ isnt. read refl)

  place_begins : (d : List Token → List Token) (us : List Token) → Are s us
      → ((over : ℕ) (p : PlaceTree) (ws : List Token) → Place b.types p ws us → place_height_but x.text p ≤ suc m + over → Text over (d ws))
      → (ts : List Token) → Viable s x (suc m) Text b d (λ k. place (expr m)) ts
  unfolding place line sees after a_variable sees_variable
  place_begins d us su fin [] = breaks_at_end (x ∷ us) (fin 0 (tree.VarPlace x.span.line x.text) (x ∷ us) (g.is_named (g.variable vx))
      (omega (arith, hole_place x))) (λ k. refl)
  place_begins d us su fin (t ∷ ts) =
      by_first (by_eat_here (codes "*") t ts
      (λ is. by_variable ts _ (x ∷ us) (fin 0 (tree.TargetPlace t.span.line x.text) (t ∷ x ∷ us) (g.target is vx) (omega arith)) (λ u ks less v. read refl))
      (by_variable_here t ts _ (x ∷ us) (fin 0 (tree.VarPlace x.span.line x.text) (x ∷ us) (g.is_named (g.variable vx)) (omega (arith, hole_place x)))
      (λ v. named_place_begins t v (λ js. d (t ∷ js)) us su (λ over p ws q h. fin over p (t ∷ ws) q h) ts))) (λ js' k. refl)

  -- after the first of the two that a test chooses from
  other_choice_begins : (line : ℕ) (test a : Found) → height_but x.text test.tree ≤ m → height_but x.text a.tree ≤ m → (w : List Token → List Token)
      → ((u : Token) → Is (codes ":") u → (c : ExprTree) (ps bs : List Token) → Choice b.types c ps bs
      → Choice b.types (tree.Choice line test.tree a.tree c) (w (u ∷ ps)) bs)
      → (d : List Token → List Token) (us : List Token) → Are s us
      → ((over : ℕ) (c : ExprTree) (ws : List Token) → Choice b.types c ws us → height_but x.text c ≤ suc m + over
      → Text over (d ws))
      → (ts : List Token) → Viable s x (suc m) Text b (λ js. d (w js)) (λ k. other_choice (expr m) line test a) ts
  unfolding other_choice
  other_choice_begins line test a low low' w makes d us su fin ts =
      let colon : Token = sign x (codes ":") in
      let other : Choice b.types (name_of x) (x ∷ us) us = name_at b.types x vx level.Choice us in
      by_expect_then (codes ":") ts _ (colon ∷ x ∷ us)
      (fin 0 (tree.Choice line test.tree a.tree (name_of x)) (w (colon ∷ x ∷ us)) (makes colon refl (name_of x) (x ∷ us) us other)
      (omega (arith, low, low', hole_none x)))
      (λ u ls less is. finished _ (H level.Choice (λ js. d (w (u ∷ js))) us su
      (λ over c ws q h. fin over (tree.Choice line test.tree a.tree c) (w (u ∷ ws)) (makes u is c ws us q) (omega (arith, low, low', h))) ls))

by_placed : {s : Meant} {x : Token} {n : ℕ} {Text : ℕ → List Token → Type 0} {b : Input} {d : List Token → List Token} {ts : List Token}
    (f : ℕ → FoundPlace → Reader Found)
    (left : Found)
    → ((p : PlaceTree) → place_tree_of left.tree ≡ Some p → Viable s x n Text b d (λ k. f k (record { place = p; height = height_as p left.height })) ts)
    → Viable s x n Text b d (λ k. by_place (f k) (placed left)) ts
by_placed {s} {x} {n} {Text} {b} {d} {ts} f left h = by (place_tree_of left.tree) refl
  where
    by : (o : Option PlaceTree) → place_tree_of left.tree ≡ o → Viable s x n Text b d (λ k. by_place (f k) (placed_as left o)) ts
    by None e = read refl
    by (Some p) e = h p e

unary_place : {s : Meant} (b : Input) (m : ℕ) (ts : List Token) → Local s b (λ k. unary (expr m) (place_of m) m) ts
unfolding expr
unary_place b m ts = expr_local b (suc m) level.Unary ts

binary_place : {s : Meant} (b : Input) (m : ℕ) (ts : List Token) → Local s b (λ k. binary (expr m) (place_of m) m 1) ts
unfolding expr
binary_place b m ts = expr_local b (suc m) (level.Binary 1) ts

choice_place : {s : Meant} (b : Input) (m : ℕ) (ts : List Token) → Local s b (λ k. choice (expr m) (place_of m) m) ts
unfolding expr
choice_place b m ts = expr_local b (suc m) level.Choice ts

unary_reads : (b : Input) (m : ℕ) (ts : List Token) → Yields b (unary (expr m) (place_of m) m (at b ts)) (Stood (Unary b.types) (suc m) ts)
unfolding expr
unary_reads b m ts = expr_yields b (suc m) level.Unary ts

binary_reads : (b : Input) (m : ℕ) (ts : List Token)
    → Yields b (binary (expr m) (place_of m) m 1 (at b ts)) (Stood (Stands b.types (level.Binary 1)) (suc m) ts)
unfolding expr
binary_reads b m ts = expr_yields b (suc m) (level.Binary 1) ts

choice_reads : (b : Input) (m : ℕ) (ts : List Token) → Yields b (choice (expr m) (place_of m) m (at b ts)) (Stood (Choice b.types) (suc m) ts)
unfolding expr
choice_reads b m ts = expr_yields b (suc m) level.Choice ts

-- What this token goes on with is too deep, or else is read on.
by_room : {s : Meant} {A : Type 0} {x : Token} {k : ℕ} {Text : ℕ → List Token → Type 0} {b : Input} {d : List Token → List Token} {t : Token} {ts : List Token}
    (m n : ℕ) {go : ℕ → Reader A} → is_name t ≡ false → (more : List Token) → Text 0 (d more) → (us : List Token) → Are s us → Text 2 (d (t ∷ us))
    → (n ≤ m → Viable s x k Text b d go (t ∷ ts)) → Viable s x k Text b d (λ j. if nat_lt m n then too_deep else go j) (t ∷ ts)
by_room {s} {A} {x} {k} {Text} {b} {d} {t} {ts} m n {go} nameless more text us are goes v = by (nat_lt m n) refl
  where
    by : (c : Bool) → nat_lt m n ≡ c → Viable s x k Text b d (λ j. if c then too_deep else go j) (t ∷ ts)
    by true e = sign_here t nameless more text 2 us are goes (λ js j n. refl)
    by false e = v (ltb-false m n e)

room_then : {s : Meant} {A B : Type 0} {x : Token} {k : ℕ} {Text : ℕ → List Token → Type 0} {b : Input} {d : List Token → List Token} {t : Token}
    {ts : List Token} (m n : ℕ) (go : ℕ → Reader A) (h : ℕ → A → Reader B) → is_name t ≡ false → (more : List Token) → Text 0 (d more) → (us : List Token)
    → Are s us → Text 2 (d (t ∷ us))
    → (n ≤ m → Viable s x k Text b d (λ j i. and_then (go j i) (h j)) (t ∷ ts))
    → Viable s x k Text b d (λ j i. and_then ((if nat_lt m n then too_deep else go j) i) (h j)) (t ∷ ts)
room_then {s} {A} {B} {x} {k} {Text} {b} {d} {t} {ts} m n go h nameless more text us are goes v = by (nat_lt m n) refl
  where
    by : (c : Bool) → nat_lt m n ≡ c → Viable s x k Text b d (λ j i. and_then ((if c then too_deep else go j) i) (h j)) (t ∷ ts)
    by true e = sign_here t nameless more text 2 us are goes (λ js j n. refl)
    by false e = v (ltb-false m n e)

module _ {s : Meant} (Text : ℕ → List Token → Type 0) (b : Input) (x : Token) (vx : IsVariable b.types x) (ax : Are s (x ∷ [])) (m : ℕ) (H : Inner s Text b x m)
    (HP : InnerPlace s Text b x m) where
  abbrev Made : (List Token → List Token) → List Token → Type 0
  Made d us = (over : ℕ) (a : ExprTree) (ws : List Token) → Operand b.types a ws us → height_but x.text a ≤ suc m + over → Text over (d ws)

  -- an operand with `[` and a name after it
  indexed : (line : ℕ) (left : Found) (lw : List Token → List Token) → ((js : List Token) → Operand b.types left.tree (lw js) js)
      → (d : List Token → List Token) (us : List Token) → Are s us → Made d us → left.height ≡ height left.tree → left.height ≤ suc m
      → (u : Token) → Is (codes "[") u → line ≡ line_of left.tree → Text 2 (d (lw (u ∷ x ∷ sign x (codes "]") ∷ us)))
  indexed line left lw L d us su fin tall within u is e =
      let end : List Token = x ∷ sign x (codes "]") ∷ us in
      fin 2 (tree.Index line left.tree (name_of x)) (lw (u ∷ end)) (rw e (g.index (L (u ∷ end)) is (as_primary (g.name vx)) refl))
      (omega (arith, found_low x.text left tall (suc m) within, hole_none x))

  -- an operand with `++` or `--` after it
  stepped_operand : (line : ℕ) (left : Found) (lw : List Token → List Token) → ((js : List Token) → Operand b.types left.tree (lw js) js)
      → (u : Token) (st : Step) → sign_in steps u ≡ Some st → (p : PlaceTree) → place_tree_of left.tree ≡ Some p → line ≡ line_of left.tree
      → (js : List Token) → Operand b.types (tree.After line p st) (lw (u ∷ js)) js
  stepped_operand line left lw L u st sg p is e js =
      rw (e, ← placed_line left.tree p is) (g.after (place_in_operand left.tree p (lw (u ∷ js)) (u ∷ js) is (L (u ∷ js))) sg)

  after_step : (line : ℕ) (left : Found) (lw : List Token → List Token) → ((js : List Token) → Operand b.types left.tree (lw js) js)
      → (d : List Token → List Token) (us : List Token) → Are s us → Made d us → left.height ≡ height left.tree → left.height ≤ suc m
      → (u : Token) (st : Step) → sign_in steps u ≡ Some st → (p : PlaceTree) → place_tree_of left.tree ≡ Some p → line ≡ line_of left.tree
      → Text 2 (d (lw (u ∷ us)))
  after_step line left lw L d us su fin tall within u st sg p is e =
      fin 2 (tree.After line p st) (lw (u ∷ us)) (stepped_operand line left lw L u st sg p is e us)
      (omega (arith, place_low x.text p, place_within left p is tall within))

  suffixes_begin : (n line : ℕ) (left : Found) (lw : List Token → List Token) (L : (js : List Token) → Operand b.types left.tree (lw js) js)
      (d : List Token → List Token) (us : List Token) → Are s us → ((over : ℕ) (a : ExprTree) (ws : List Token) → Operand b.types a ws us
      → height_but x.text a ≤ suc m + over → Text over (d ws))
      → (ts : List Token) → line ≡ line_of left.tree → left.height ≡ height left.tree → left.height ≤ suc m
      → Viable s x (suc m) Text b (λ js. d (lw js)) (λ k. suffixes (expr m) (place_of m) m line n left) ts
  unfolding suffixes last_suffix index sees a_step next
  suffixes_begin zero line left lw L d us su fin [] e tall within = read refl
  suffixes_begin zero line left lw L d us su fin (u ∷ ks) e tall within =
      by_test (sees (codes "[")) (sees_tells b (codes "[") (u ∷ ks))
      (λ is. sign_here u (mark_no_name (codes "[") u is) us (fin 0 left.tree (lw us) (L us) (omega (arith, found_low x.text left tall (suc m) within))) 2 _
      (are_more s x (sign x (codes "]") ∷ us) ax (with_sign s x (codes "]") refl _ su))
      (indexed line left lw L d us su fin tall within u is e) (λ us' k n. refl))
      (λ isnt. by_option a_step (step_tells b (u ∷ ks))
      (λ st sg. by_placed _ left (λ p is. sign_here u (row_no_name steps u st sg) us
      (fin 0 left.tree (lw us) (L us) (omega (arith, found_low x.text left tall (suc m) within))) 2 us su
      (after_step line left lw L d us su fin tall within u st sg p is e) (λ us' k n. refl)))
      (λ none. read refl))
  suffixes_begin (suc n) line left lw L d us su fin [] e tall within = read refl
  suffixes_begin (suc n) line left lw L d us su fin (u ∷ ks) e tall within =
      by_test (sees (codes "[")) (sees_tells b (codes "[") (u ∷ ks))
      (λ is. room_then m left.height _ _ (mark_no_name (codes "[") u is) us
      (fin 0 left.tree (lw us) (L us) (omega (arith, found_low x.text left tall (suc m) within))) _
      (are_more s x (sign x (codes "]") ∷ us) ax (with_sign s x (codes "]") refl _ su))
      (indexed line left lw L d us su fin tall within u is e) (λ room.
      alike_viable {p = λ k. skip >>= λ v. expr m level.Whole >>= λ a. expect (codes "]") >>= λ v.
      suffixes (expr m) (place_of m) m line n (joined (tree.Index line) left a)}
      (after_deeper _ (step_below (expr_local b m level.Whole ks) (expr_yields b m level.Whole ks)
      (H level.Whole (λ js. d (lw (u ∷ js))) (sign x (codes "]") ∷ us)
      (with_sign s x (codes "]") refl _ su)
      (λ over a ws q h. fin over (tree.Index line left.tree a) (lw (u ∷ ws)) (rw e (g.index (L (u ∷ ws)) is q refl))
      (omega (arith, h, found_low x.text left tall m room))) ks)
      (λ a ls y. let h = whole_frame y.stands in onward h (by_expect (codes "]") ls _ (sign x (codes "]") ∷ us)
      (fin 0 (tree.Index line left.tree a.tree) (lw (u ∷ h.w (sign x (codes "]") ∷ us))) (rw e (g.index (L (u ∷ h.w (sign x (codes "]") ∷ us))) is
      (h.moves (sign x (codes "]") ∷ us)) refl)) (omega (arith, stood_low x.text y, found_low x.text left tall m room)))
      (λ v ms less is'. suffixes_begin n line (joined (tree.Index line) left a) (λ js. lw (u ∷ h.w (v ∷ js)))
      (λ js. rw e (g.index (L (u ∷ h.w (v ∷ js))) is (h.moves (v ∷ js)) is')) d us su fin ms refl (rw (tall, y.tall) refl) (omega (arith, room, y.within))))))
      (λ js' k good. refl))
      (λ us' k n' good. nested (expr m level.Whole (next (turned b k us'))) (λ a. expect (codes "]")) (λ a v. joined (tree.Index line) left a)
      (λ one. suffixes (expr m) (place_of m) m line n one))))
      (λ isnt. by_option a_step (step_tells b (u ∷ ks))
      (λ s' sg. by_placed _ left
      (λ p is. by_room m (height_as p left.height) (row_no_name steps u s' sg) us
      (fin 0 left.tree (lw us) (L us) (omega (arith, found_low x.text left tall (suc m) within))) us su
      (after_step line left lw L d us su fin tall within u s' sg p is e) (λ room.
      after_token _ (suffixes_begin n line (above_place (λ q. tree.After line q s') (record { place = p; height = height_as p left.height }))
      (λ js. lw (u ∷ js))
      (λ js. stepped_operand line left lw L u s' sg p is e js) d us su fin ks refl
      (ap (λ n. n + 1) (ap (height_as p) tall ∙ placed_tall left.tree p is)) (omega (arith, room))) (λ js' k n good. refl))))
      (λ none. read refl))

  -- after the opening parenthesis of a cast
  cast_begins : (t : Token) → Is (codes "(") t → (d : List Token → List Token) (us : List Token) → Are s us
      → ((over : ℕ) (a : ExprTree) (ws : List Token) → Unary b.types a ws us → height_but x.text a ≤ suc m + over → Text over (d ws))
      → (ts : List Token) → Viable s x (suc m) Text b (λ js. d (t ∷ js)) (λ k. cast (expr m) (place_of m) m t.span.line) ts
  unfolding cast
  cast_begins t is d us su fin ts =
      let end : List Token = sign x (codes ")") ∷ x ∷ us in
      let operand : Unary b.types (name_of x) (x ∷ us) us = name_at b.types x vx level.Unary us in
      step (type_local b ts) (type_yields b ts)
      (type_begins Text b x (λ js. d (t ∷ js)) end (λ to ws q. fin 0 (tree.Cast t.span.line to (name_of x)) (t ∷ ws) (g.cast is q refl operand)
      (omega (arith, hole_none x))) ts)
      (λ to ks ty. let f = type_frame ty in onward f (by_expect_then (codes ")") ks _ end
      (fin 0 (tree.Cast t.span.line to (name_of x)) (t ∷ f.w end) (g.cast is (f.moves end) refl operand) (omega (arith, hole_none x)))
      (λ u ls less is'. finished _ (H level.Unary (λ js. d (t ∷ f.w (u ∷ js))) us su
      (λ over a ws q h. fin over (tree.Cast t.span.line to a) (t ∷ f.w (u ∷ ws)) (g.cast is (f.moves (u ∷ ws)) is' q) (omega (arith, h))) ls))))

  -- a cast goes on from its first word
  cast_goes : (t : Token) → Is (codes "(") t → (d : List Token → List Token) (us : List Token) → Are s us
      → ((over : ℕ) (a : ExprTree) (ws : List Token) → Unary b.types a ws us → height_but x.text a ≤ suc m + over → Text over (d ws))
      → (u : Token) → is_type b.types u ≡ true → (over : ℕ) × ((vs : List Token) × Are s vs × Text over (d (t ∷ u ∷ vs)))
  cast_goes t is d us su fin u typed = by (bytes_eq u.text (codes "signed")) refl
    where
      end : List Token
      end = sign x (codes ")") ∷ x ∷ us

      end_are : Are s end
      end_are = with_sign s x (codes ")") refl (x ∷ us) (are_more s x us ax su)

      operand_there : Unary b.types (name_of x) (x ∷ us) us
      operand_there = name_at b.types x vx level.Unary us

      by : (c : Bool) → bytes_eq u.text (codes "signed") ≡ c → (over : ℕ) × ((vs : List Token) × Are s vs × Text over (d (t ∷ u ∷ vs)))
      by false e = (
        0,
        (
          end,
          end_are,
          fin 0 _ (t ∷ u ∷ end) (g.cast is (g.a_type (g.type_name (g.one_word typed) e) g.no_star) refl operand_there) (omega (arith, hole_none x)),
        ),
      )
      by true e =
          let same : u.text ≡ codes "signed" = (bytes_eq-Decides u.text (codes "signed")).0 e in
          let joined : joins u.text (word x (codes "char")) ≡ true = rw same (char_joins x) in
          let isnt : bytes_eq (u.text ++ 32 ∷ codes "char") (codes "signed") ≡ false = rw same refl in (
            0,
            (
              word x (codes "char") ∷ end,
              with_word s x (codes "char") refl end end_are,
              fin 0 _ (t ∷ u ∷ word x (codes "char") ∷ end) (g.cast is (g.a_type (g.type_name (g.two_words typed joined) isnt) g.no_star) refl operand_there)
                  (omega (arith, hole_none x)),
            ),
          )

  opened_begins : (t : Token) → Is (codes "(") t → (d : List Token → List Token) (us : List Token) → Are s us
      → ((over : ℕ) (a : ExprTree) (ws : List Token) → Unary b.types a ws us → height_but x.text a ≤ suc m + over → Text over (d ws))
      → (ts : List Token) → Viable s x m Text b (λ js. d (t ∷ js)) (λ k. opened (expr m) (place_of m) m t.span.line) ts
  unfolding opened
  opened_begins t is d us su fin ts =
      let end : List Token = sign x (codes ")") ∷ us in
      by_test_no_name sees_type (is_type b.types) (λ js k. type_seen b js k) (variable_no_type b.types x vx) (λ u typed. cast_goes t is d us su fin u typed)
      (λ typed. cast_begins t is d us su fin ts)
      (λ isnt. step_below (expr_local b m level.Whole ts) (expr_yields b m level.Whole ts)
      (H level.Whole (λ js. d (t ∷ js)) end (with_sign s x (codes ")") refl _ su)
      (λ over a ws q h. fin over (tree.Paren t.span.line a) (t ∷ ws) (g.is_operand (g.is_primary (g.paren is q refl))) (omega (arith, h))) ts)
      (λ a ks y. let h = whole_frame y.stands in onward h (by_expect (codes ")") ks _ end
      (fin 0 (tree.Paren t.span.line a.tree) (t ∷ h.w end) (g.is_operand (g.is_primary (g.paren is (h.moves end) refl))) (omega (arith, stood_low x.text y)))
      (λ u ls less is'. suffixes_begin m t.span.line (above (tree.Paren t.span.line) a) (λ js. t ∷ h.w (u ∷ js))
      (λ js. g.is_primary (g.paren is (h.moves (u ∷ js)) is')) d us su (λ over c ws q h'. fin over c ws (g.is_operand q) h') ls refl
      (ap (λ n. n + 1) y.tall) (omega (arith, y.within))))))

  operand_begins : (t : Token) (d : List Token → List Token) (us : List Token) → Are s us
      → ((over : ℕ) (a : ExprTree) (ws : List Token) → Unary b.types a ws us → height_but x.text a ≤ suc m + over → Text over (d ws))
      → (ts : List Token) → Viable s x (suc m) Text b d (λ k. operand (expr m) (place_of m) m) (t ∷ ts)
  unfolding operand line
  operand_begins t d us su fin ts =
      by_first (by_eat_below (codes "(") t ts (λ is. opened_begins t is d us su fin ts)
      (step (primary_local b m (λ l js. expr_local b m l js) t.span.line (t ∷ ts)) (primary_yields b (expr m) m (λ l js. expr_yields b m l js) t ts)
      (primary_begins Text b x vx ax m H t d us su (λ over a ws q h. fin over a ws (g.is_operand (g.is_primary q)) h) ts)
      (λ first ks y. let h = primary_frame y.stands in onward h (suffixes_begin m t.span.line first h.w (λ js. g.is_primary (h.moves js)) d us su
      (λ over c ws q h'. fin over c ws (g.is_operand q) h') ks (primary_line b.last y.stands) y.tall y.within)))) (λ js' k. refl)

  prefixed_begins : (op : UnOp) (t : Token) → sign_in prefix_ops t ≡ Some op → (d : List Token → List Token) (us : List Token) → Are s us
      → ((over : ℕ) (a : ExprTree) (ws : List Token) → Unary b.types a ws us → height_but x.text a ≤ suc m + over → Text over (d ws))
      → (ts : List Token) → Viable s x (suc m) Text b d (λ k. prefixed (expr m) (place_of m) m op) (t ∷ ts)
  unfolding prefixed line next
  prefixed_begins op t is d us su fin ts =
      after_deeper _ (finished _ (H level.Unary (λ js. d (t ∷ js)) us su
      (λ over a ws q h. fin over (tree.One t.span.line op a) (t ∷ ws) (g.prefixed is q) (omega (arith, h))) ts)) (λ js' k good. refl)

  dereferenced_begins : (t : Token) → Is (codes "*") t → (d : List Token → List Token) (us : List Token) → Are s us
      → ((over : ℕ) (a : ExprTree) (ws : List Token) → Unary b.types a ws us → height_but x.text a ≤ suc m + over → Text over (d ws))
      → (ts : List Token) → Viable s x (suc m) Text b d (λ k. dereferenced (expr m) (place_of m) m) (t ∷ ts)
  unfolding dereferenced line next
  dereferenced_begins t is d us su fin ts =
      after_deeper _ (finished _ (H level.Unary (λ js. d (t ∷ js)) us su
      (λ over a ws q h. fin over (tree.Deref t.span.line a) (t ∷ ws) (g.dereferenced is q) (omega (arith, h))) ts)) (λ js' k good. refl)

  stepped_begins : (step : Step) (t : Token) → sign_in steps t ≡ Some step → (d : List Token → List Token) (us : List Token) → Are s us
      → ((over : ℕ) (a : ExprTree) (ws : List Token) → Unary b.types a ws us → height_but x.text a ≤ suc m + over → Text over (d ws))
      → (ts : List Token) → Viable s x (suc m) Text b d (λ k. stepped (expr m) (place_of m) m step) (t ∷ ts)
  unfolding stepped line next
  stepped_begins step t is d us su fin ts =
      after_deeper _ (finished _ (HP (λ js. d (t ∷ js)) us su (λ over p ws q h. fin over (tree.Before t.span.line step p) (t ∷ ws) (g.before is q)
      (omega (arith, h))) ts))
      (λ js' k good. refl)

  address_begins : (t : Token) → Is (codes "&") t → (d : List Token → List Token) (us : List Token) → Are s us
      → ((over : ℕ) (a : ExprTree) (ws : List Token) → Unary b.types a ws us → height_but x.text a ≤ suc m + over → Text over (d ws))
      → (ts : List Token) → Viable s x (suc m) Text b d (λ k. address) (t ∷ ts)
  unfolding address line next
  address_begins t is d us su fin ts =
      after_token _ (by_variable ts _ (x ∷ us) (fin 0 (tree.Address t.span.line x.text) (t ∷ x ∷ us) (g.address is vx) (omega arith))
      (λ u ks less v. read refl)) (λ js' k n good. refl)

  unary_at_end : (d : List Token → List Token) (us : List Token) → Text 0 (d (x ∷ us)) → Viable s x (suc m) Text b d (λ k. unary (expr m) (place_of m) m) []
  unfolding unary prefix_op a_step pointed sees operand after primary literal worded sees_word named a_variable sees_variable
  unary_at_end d us text = breaks_at_end (x ∷ us) text (λ k. refl)

  unary_begins : (d : List Token → List Token) (us : List Token) → Are s us
      → ((over : ℕ) (a : ExprTree) (ws : List Token) → Unary b.types a ws us → height_but x.text a ≤ suc m + over → Text over (d ws))
      → (ts : List Token) → Viable s x (suc m) Text b d (λ k. unary (expr m) (place_of m) m) ts
  unfolding unary prefix_op a_step pointed sees
  unary_begins d us su fin [] = unary_at_end d us (fin 0 (name_of x) (x ∷ us) (name_at b.types x vx level.Unary us) (omega (arith, hole_none x)))
  unary_begins d us su fin (t ∷ ts) =
      by_option prefix_op (prefix_tells b (t ∷ ts)) (λ op is. prefixed_begins op t is d us su fin ts)
      (λ none. by_option a_step (step_tells b (t ∷ ts)) (λ s is. stepped_begins s t is d us su fin ts)
      (λ none'. by_test (sees (codes "*")) (sees_tells b (codes "*") (t ∷ ts)) (λ is. dereferenced_begins t is d us su fin ts)
      (λ isnt. by_test (sees (codes "&")) (sees_tells b (codes "&") (t ∷ ts)) (λ is. address_begins t is d us su fin ts)
      (λ isnt'. operand_begins t d us su fin ts))))

  climb_begins : (tight line n : ℕ) (left : Found) (Can : ℕ → Type 0) (lw : List Token → List Token)
      (B : (k : ℕ) → Can k → (js : List Token) → Binary b.types k left.tree (lw js) js) → Can tight → (d : List Token → List Token) (us : List Token) → Are s us
      → ((over : ℕ) (a : ExprTree) (ws : List Token) → Binary b.types tight a ws us → height_but x.text a ≤ suc m + over → Text over (d ws))
      → (ts : List Token) → ((o : BinaryOp × ℕ) → at_least tight (first_in binary_ops ts) ≡ Some o → Can o.1) → line ≡ line_of left.tree
      → left.height ≡ height left.tree → left.height ≤ suc m
      → Viable s x (suc m) Text b (λ js. d (lw js)) (λ k. climb (expr m) (place_of m) m tight line n left) ts
  unfolding climb operator next
  climb_begins tight line zero left Can lw B now d us su fin [] may e tall within = read refl
  climb_begins tight line zero left Can lw B now d us su fin (u ∷ ks) may e tall within =
      by_option (operator tight) (operator_tells b tight (u ∷ ks))
      (λ o is. let q = at_least_some tight (sign_in binary_ops u) o is in
      sign_here u (row_no_name binary_ops u o q.0) us
      (fin 0 left.tree (lw us) (B tight now us) (omega (arith, found_low x.text left tall (suc m) within))) 2 (x ∷ us) (are_more s x us ax su)
      (fin 2 (tree.Two line o.0 left.tree (name_of x)) (lw (u ∷ x ∷ us))
      (two_of e (B o.1 (may o is) (u ∷ x ∷ us)) q.0 q.1 (name_at b.types x vx (level.Binary (o.1 + 1)) us))
      (omega (arith, found_low x.text left tall (suc m) within, hole_none x))) (λ us' k n. refl))
      (λ none. read refl)
  climb_begins tight line (suc n) left Can lw B now d us su fin [] may e tall within = read refl
  climb_begins tight line (suc n) left Can lw B now d us su fin (u ∷ ks) may e tall within =
      by_option (operator tight) (operator_tells b tight (u ∷ ks))
      (λ o is. let q = at_least_some tight (sign_in binary_ops u) o is in
      by_room m left.height (row_no_name binary_ops u o q.0) us
      (fin 0 left.tree (lw us) (B tight now us) (omega (arith, found_low x.text left tall (suc m) within))) (x ∷ us)
      (are_more s x us ax su)
      (fin 2 (tree.Two line o.0 left.tree (name_of x)) (lw (u ∷ x ∷ us))
      (two_of e (B o.1 (may o is) (u ∷ x ∷ us)) q.0 q.1 (name_at b.types x vx (level.Binary (o.1 + 1)) us))
      (omega (arith, found_low x.text left tall (suc m) within, hole_none x)))
      (λ room. after_deeper _ (step_below (expr_local b m (level.Binary (o.1 + 1)) ks) (expr_yields b m (level.Binary (o.1 + 1)) ks)
      (H (level.Binary (o.1 + 1)) (λ js. d (lw (u ∷ js))) us su
      (λ over a ws y h. fin over (tree.Two line o.0 left.tree a) (lw (u ∷ ws)) (two_of e (B o.1 (may o is) (u ∷ ws)) q.0 q.1 y)
      (omega (arith, h, found_low x.text left tall m room))) ks)
      (λ right ls y. let h = binary_frame y.stands.0 in onward h (climb_begins tight line n (joined (tree.Two line o.0) left right) (λ k. k ≤ o.1)
      (λ js. lw (u ∷ h.w js)) (λ k le js. two_of e (B o.1 (may o is) (u ∷ h.w js)) q.0 le (h.moves js)) q.1 d us su fin ls
      (λ o' is'. let q' = at_least_some tight (first_in binary_ops ls) o' is' in
      let lower : o'.1 < o.1 + 1 = at_least_none (o.1 + 1) (first_in binary_ops ls) o' y.stands.1 q'.0 in omega (arith, lower))
      refl (rw (tall, y.tall) refl) (omega (arith, room, y.within))))) (λ js' k good. refl)))
      (λ none. read refl)

  binary_begins : (tight : ℕ) (d : List Token → List Token) (us : List Token) → Are s us
      → ((over : ℕ) (a : ExprTree) (ws : List Token) → Binary b.types tight a ws us → height_but x.text a ≤ suc m + over → Text over (d ws))
      → (ts : List Token) → Viable s x (suc m) Text b d (λ k. binary (expr m) (place_of m) m tight) ts
  unfolding binary
  binary_begins tight d us su fin ts =
      by_here (λ k line. unary (expr m) (place_of m) m >>= climb (expr m) (place_of m) m tight line m)
      (step (unary_place b m ts) (unary_reads b m ts) (unary_begins d us su (λ over a ws q h. fin over a ws (g.is_unary q) h) ts)
      (λ first ks y. let h = unary_frame y.stands in onward h (climb_begins tight (line_at b.last ts) m first (λ k. Unit {0}) h.w
      (λ k can js. g.is_unary (h.moves js)) tt d us su fin ks (λ o is. tt) (unary_line b.last y.stands) y.tall y.within)))

  choose_begins : (line : ℕ) (test : Found) (tw : List Token → List Token) (T : (js : List Token) → Binary b.types 1 test.tree (tw js) js)
      (d : List Token → List Token) (us : List Token) → Are s us → ((over : ℕ) (a : ExprTree) (ws : List Token) → Choice b.types a ws us
      → height_but x.text a ≤ suc m + over → Text over (d ws))
      → (t : Token) (ts : List Token) → Is (codes "?") t → line ≡ line_of test.tree → test.height ≡ height test.tree → test.height ≤ suc m
      → Viable s x (suc m) Text b (λ js. d (tw js)) (λ k. choose (expr m) (place_of m) m line test) (t ∷ ts)
  unfolding choose next
  choose_begins line test tw T d us su fin t ts is e tall within =
      let end : List Token = sign x (codes ":") ∷ x ∷ us in
      let other : Choice b.types (name_of x) (x ∷ us) us = name_at b.types x vx level.Choice us in
      by_room m test.height (mark_no_name (codes "?") t is) us
      (fin 0 test.tree (tw us) (g.is_binary (T us)) (omega (arith, found_low x.text test tall (suc m) within))) (x ∷ end)
      (are_more s x end ax (with_sign s x (codes ":") refl _ (are_more s x us ax su)))
      (fin 2 (tree.Choice line test.tree (name_of x) (name_of x)) (tw (t ∷ x ∷ end))
      (chosen_of e (T (t ∷ x ∷ end)) is (as_primary (g.name vx)) refl other)
      (omega (arith, found_low x.text test tall (suc m) within, hole_none x)))
      (λ room. after_deeper _ (step_below (expr_local b m level.Whole ts) (expr_yields b m level.Whole ts)
      (H level.Whole (λ js. d (tw (t ∷ js))) end (with_sign s x (codes ":") refl _ (are_more s x us ax su))
      (λ over a ws q h. fin over (tree.Choice line test.tree a (name_of x)) (tw (t ∷ ws)) (chosen_of e (T (t ∷ ws)) is q refl other)
      (omega (arith, h, hole_none x, found_low x.text test tall m room))) ts)
      (λ a ks y. let h = whole_frame y.stands in onward h (other_choice_begins Text b x vx ax m H line test a (found_low x.text test tall m room)
      (stood_low x.text y) (λ js. tw (t ∷ h.w js))
      (λ u is' c ps bs q. chosen_of e (T (t ∷ h.w (u ∷ ps))) is (h.moves (u ∷ ps)) is' q) d us su fin ks))) (λ js' k good. refl))

  choice_begins : (d : List Token → List Token) (us : List Token) → Are s us
      → ((over : ℕ) (a : ExprTree) (ws : List Token) → Choice b.types a ws us → height_but x.text a ≤ suc m + over → Text over (d ws))
      → (ts : List Token) → Viable s x (suc m) Text b d (λ k. choice (expr m) (place_of m) m) ts
  unfolding choice sees
  choice_begins d us su fin ts =
      by_here (λ k line. binary (expr m) (place_of m) m 1 >>= λ test i. if sees (codes "?") i then choose (expr m) (place_of m) m line test i else pure test i)
      (step (binary_place b m ts) (binary_reads b m ts) (binary_begins 1 d us su (λ over a ws q h. fin over a ws (g.is_binary q) h) ts)
      (λ test ks y. let h = binary_frame y.stands.0 in onward h (by_mark test h.w h.moves ks (binary_line b.last y.stands.0) y.tall y.within)))
    where
      by_mark : (test : Found) (tw : List Token → List Token) (T : (js : List Token) → Binary b.types 1 test.tree (tw js) js) (ks : List Token)
          → line_at b.last ts ≡ line_of test.tree → test.height ≡ height test.tree → test.height ≤ suc m
          → Viable s x (suc m) Text b (λ js. d (tw js))
          (λ k i. if sees (codes "?") i then choose (expr m) (place_of m) m (line_at b.last ts) test i else pure test i) ks
      by_mark test tw T [] e tall within = read refl
      by_mark test tw T (t ∷ ks) e tall within =
          by_test (sees (codes "?")) (sees_tells b (codes "?") (t ∷ ks)) (λ is. choose_begins (line_at b.last ts) test tw T d us su fin t ks is e tall within)
          (λ isnt. read refl)

  whole_begins : (d : List Token → List Token) (us : List Token) → Are s us
      → ((over : ℕ) (a : ExprTree) (ws : List Token) → Whole b.types a ws us → height_but x.text a ≤ suc m + over → Text over (d ws))
      → (ts : List Token) → Viable s x (suc m) Text b d (λ k. whole (expr m) (place_of m) m) ts
  unfolding whole assignment assign next
  whole_begins d us su fin ts =
      by_here (λ k line. choice (expr m) (place_of m) m >>= λ left i. option_map_or {U = Reader Found}
      (λ op. by_place (assign (expr m) (place_of m) m line op) (placed left)) (assignment i) (pure left) i)
      (step (choice_place b m ts) (choice_reads b m ts) (choice_begins d us su (λ over a ws q h. fin over a ws (g.is_choice q) h) ts)
      (λ left ks y. let h = choice_frame y.stands in onward h (by_set left h.w h.moves y.tall y.within ks)))
    where
      by_set : (left : Found) (lw : List Token → List Token) (L : (js : List Token) → Choice b.types left.tree (lw js) js)
          → left.height ≡ height left.tree → left.height ≤ suc m → (ks : List Token)
          → Viable s x (suc m) Text b (λ js. d (lw js)) (λ k i. option_map_or {U = Reader Found}
          (λ op. by_place (assign (expr m) (place_of m) m (line_at b.last ts) op) (placed left)) (assignment i) (pure left) i) ks
      by_set left lw L tall within [] = read refl
      by_set left lw L tall within (u ∷ ks) =
          by_option assignment (assignment_tells b (u ∷ ks))
          (λ op sg. by_placed _ left
          (λ p is. by_room m (height_as p left.height) (row_no_name assignments u op sg) us (fin 0 left.tree (lw us) (g.is_choice (L us))
          (omega (arith, found_low x.text left tall (suc m) within))) (x ∷ us) (are_more s x us ax su)
          (fin 2 _ (lw (u ∷ x ∷ us))
          (g.set (place_in_choice left.tree p (lw (u ∷ x ∷ us)) (u ∷ x ∷ us) is (L (u ∷ x ∷ us))) sg (as_primary (g.name vx)))
          (omega (arith, place_low x.text p, place_within left p is tall within, hole_none x)))
          (λ room. after_deeper _ (finished _ (H level.Whole (λ js. d (lw (u ∷ js))) us su
          (λ over a ws q h. fin over _ (lw (u ∷ ws)) (g.set (place_in_choice left.tree p (lw (u ∷ ws)) (u ∷ ws) is (L (u ∷ ws))) sg q)
          (omega (arith, h, room, ap (height_as p) tall ∙ placed_tall left.tree p is, place_low x.text p))) ks)) (λ js' k good. refl))))
          (λ none. read refl)

  level_begins : Inner s Text b x (suc m)
  unfolding expr
  level_begins level.Whole d us su fin ts = whole_begins d us su fin ts
  level_begins level.Choice d us su fin ts = choice_begins d us su fin ts
  level_begins (level.Binary tight) d us su fin ts = binary_begins tight d us su fin ts
  level_begins level.Unary d us su fin ts = unary_begins d us su fin ts

levels_begin : {s : Meant} (Text : ℕ → List Token → Type 0) (b : Input) (x : Token) → IsVariable b.types x → Are s (x ∷ []) → (room : ℕ)
    → Inner s Text b x room × InnerPlace s Text b x room
unfolding expr place_of
levels_begin Text b x vx ax zero = (
  (λ l d us su fin ts. operand_here us su (fin 0 (name_of x) (x ∷ us) (name_at b.types x vx l us) (omega (arith, hole_none x))) (λ us' k. refl)),
  (λ d us su fin ts. operand_here us su (fin 0 (tree.VarPlace x.span.line x.text) (x ∷ us) (g.is_named (g.variable vx)) (omega (arith, hole_place x)))
      (λ us' k. refl)),
)
levels_begin Text b x vx ax (suc m) =
    let h = levels_begin Text b x vx ax m in
    (level_begins Text b x vx ax m h.0 h.1, (λ d us su fin ts. place_begins Text b x vx ax m h.0 d us su fin ts))

-- Where reading an expression breaks off, the tokens that were passed begin one.
pub expr_begins : {s : Meant} (Text : ℕ → List Token → Type 0) (b : Input) (x : Token) → IsVariable b.types x → Are s (x ∷ []) → (room : ℕ)
    → Inner s Text b x room
expr_begins Text b x vx ax room = (levels_begin Text b x vx ax room).0
