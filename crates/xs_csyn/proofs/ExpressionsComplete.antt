-- What is an expression by the rules is read.
use Rattle.std.proofs.Common.{◌≡◌, ℕ, zero, suc, ◌+◌, ◌<◌, ◌≤◌, max, Bool, true, false, if◌then◌else◌, nat_le, List, [], ◌∷◌, ◌++◌, length, append_assoc, Option, Some, None, Ok, refl, ap, ◌∙◌, arith}
use Rattle.std.proofs.Math.Nat.{max-zero, zero-max}
use Rattle.std.proofs.lemmas.Bool.{and_left, and_right, le-leb, le-ltb, leb-false, lt-leb}
use Rattle.std.specs.Prelude.{codes}
use Rattle.std.specs.Str.{bytes_eq}
use Rattle.xs_base.proofs.Greatest.{max_assoc}
use Rattle.xs_base.specs.Readers.{head_is}
use Rattle.xs_ctok.specs.declared.token.TokKind.{TokKind}
use Rattle.xs_ctok.specs.declared.token.TokKind.TheVariants as kind
use Rattle.xs_ctok.specs.declared.token.Token.{Token}
use Rattle.xs_csyn.proofs.ExpressionsSound.{binary_line, place_line, placed_line, placed_tall, unary_line}
use Rattle.xs_csyn.proofs.Marks.{is_sign_of, is_word_of, marks, name_kind, name_no_mark, name_no_word, no_mark, sign_row, variable_name, word_no_mark}
use Rattle.xs_csyn.proofs.Sizes.{binary_shrinks, operand_shrinks, place_shrinks, type_name_shrinks, type_shrinks, whole_shrinks}
use Rattle.xs_csyn.proofs.Starts.{Ends, EndsOperand, EndsSet, NoOperator, Stop, a_variable as begins_variable, assignment_ends, bracket, closes, colon, comma, listed_begins, no_close, no_operator, opens as begins_open, operand_begins, operator_ends, question, starts_no_mark, starts_no_type, step_is, whole_begins}
use Rattle.xs_csyn.proofs.Yields.{at}
use Rattle.xs_cexpr.specs.ExpressionReader.{Found, FoundAll, FoundPlace, address, after_name, arguments, assign, at_level, binary, cast, choice, choose, climb, dereferenced, expr, index, int2ptr, last_suffix, leaf, list, list_from, literal, literal_of, named, named_place, opened, operand, other_choice, place, place_of, place_tree_of, pointed, prefixed, primary, stepped, suffixes, unary, whole, worded}
use Rattle.xs_csyn.specs.FileGrammar.{AreNames}
use Rattle.xs_csyn.specs.Grammar as g
use Rattle.xs_csyn.specs.Grammar.{AType, Arguments, Binary, Choice, Is, IsVariable, IsWord, Listed, MayName, NamedPlace, Operand, Place, Primary, Stars, TypeName, Unary, Whole, Words, line_of, line_of_place}
use Rattle.xs_cexpr.specs.ExpressionHeights.{height, heights, place_height}
use Rattle.xs_cinput.specs.Operators.{a_step, assignment, assignments, at_least, binary_ops, first_in, listed, operator, prefix_op, prefix_ops, sign_in, steps}
use Rattle.xs_cexpr.specs.ExpressionTree as tree
use Rattle.xs_cexpr.specs.ExpressionTree.{ExprTree, ExprTrees, PlaceTree, exprs_of}
use Rattle.xs_cinput.specs.TokenInput.{Input, Outcome, a_name, a_variable, after, expect, is_punct_kind, is_sign, is_type, is_word_kind, line, line_at, next, sees, sees_name, sees_type, sees_variable, sees_word, spelling}
use Rattle.xs_cinput.specs.TypeReader.{a_type, is_joined_by, join_table, joined_name, joins, sees_join, stars, stars_from, type_name}
use Rattle.xs_ctok.specs.CWords.{is_no_name}
use Rattle.xs_cexpr.specs.declared.node.Level.{Level}
use Rattle.xs_cexpr.specs.declared.node.Level.TheVariants as level
use Rattle.xs_cinput.specs.declared.tree.BinaryOp.{BinaryOp}
use Rattle.xs_cinput.specs.declared.tree.CType.{CType}
use Rattle.xs_cinput.specs.declared.tree.Step.{Step}
use Rattle.xs_values.specs.declared.operator.Op.{Op}
use Rattle.xs_values.specs.declared.unary_operator.UnOp.{UnOp}

-- ---- heights and lists

height_pos : (a : ExprTree) → 0 < height a
height_pos (tree.Var l x) = omega arith
height_pos a = omega arith

place_pos : (p : PlaceTree) → 0 < place_height p
place_pos (tree.VarPlace l x) = omega arith
place_pos p = omega arith

abbrev pub found_of : ExprTree → Found
found_of a = record { tree = a; height = height a }

abbrev place_found : PlaceTree → FoundPlace
place_found p = record { place = p; height = place_height p }

abbrev list_of : ExprTrees → List ExprTree
list_of tree.NoExprs = []
list_of (tree.MoreExprs a all) = a ∷ list_of all

exprs_of-list_of : (all : ExprTrees) → exprs_of (list_of all) ≡ all
exprs_of-list_of tree.NoExprs = refl
exprs_of-list_of (tree.MoreExprs a all) = ap (tree.MoreExprs a) (exprs_of-list_of all)

-- ---- words and signs

int2ptr_word : is_no_name (codes "INT2PTR") ≡ true
unfolding is_no_name
int2ptr_word = refl

star_words : (listed prefix_ops (codes "*") ≡ None) × (listed steps (codes "*") ≡ None)
unfolding prefix_ops steps
star_words = (refl, refl)

and_words : (listed prefix_ops (codes "&") ≡ None) × (listed steps (codes "&") ≡ None)
unfolding prefix_ops steps
and_words = (refl, refl)

star_no_prefix : (t : Token) → Is (codes "*") t → sign_in prefix_ops t ≡ None
star_no_prefix t is = sign_row prefix_ops (codes "*") t is ∙ star_words.0

star_no_step : (t : Token) → Is (codes "*") t → sign_in steps t ≡ None
star_no_step t is = sign_row steps (codes "*") t is ∙ star_words.1

and_no_prefix : (t : Token) → Is (codes "&") t → sign_in prefix_ops t ≡ None
and_no_prefix t is = sign_row prefix_ops (codes "&") t is ∙ and_words.0

and_no_step : (t : Token) → Is (codes "&") t → sign_in steps t ≡ None
and_no_step t is = sign_row steps (codes "&") t is ∙ and_words.1

-- ---- types

-- no word follows that would go on with a type's name
abbrev pub NoJoin : List Token → Type 0
NoJoin us = (name : List ℕ) → head_is (joins name) us ≡ false

pub mark_no_join : (m : List ℕ) (t : Token) (us : List Token) → Is m t → NoJoin (t ∷ us)
mark_no_join m t us is = λ name. and_left (is_word_kind t.kind) (is_joined_by join_table name t.text) (ap is_word_kind (is_sign_of m t is).0)

module _ (b : Input) where
  joined_no : (name : List ℕ) (ts : List Token) → head_is (joins name) ts ≡ false → joined_name name (at b ts) ≡ Ok (name, at b ts)
  unfolding joined_name sees_join
  joined_no name ts e = rw e refl

  joined_yes : (name : List ℕ) (u : Token) (us : List Token) → joins name u ≡ true → joined_name name (at b (u ∷ us)) ≡ Ok (name ++ 32 ∷ u.text, at b us)
  unfolding joined_name sees_join next spelling
  joined_yes name u us e = rw e refl

  words_done : {name : List ℕ} {ts us : List Token} → Words b.types name ts us → bytes_eq name (codes "signed") ≡ false → NoJoin us
      → type_name (at b ts) ≡ Ok (name, at b us)
  unfolding type_name sees_type next spelling
  words_done (g.one_word {t = t} {ts = ts} i) s isnt = rw (i, joined_no t.text ts (isnt t.text), joined_no t.text ts (isnt t.text), s) refl
  words_done (g.two_words {t = t} {u = u} {ts = ts} i j) s isnt =
      rw (i, joined_yes t.text u ts j, joined_no (t.text ++ 32 ∷ u.text) ts (isnt (t.text ++ 32 ∷ u.text)), s) refl
  words_done (g.three_words {t = t} {u = u} {v = v} {ts = ts} i j k) s isnt =
      rw (i, joined_yes t.text u (v ∷ ts) j, joined_yes (t.text ++ 32 ∷ u.text) v ts k, s) refl

  pub type_name_done : {name : List ℕ} {ts us : List Token} → TypeName b.types name ts us → NoJoin us → type_name (at b ts) ≡ Ok (name, at b us)
  type_name_done (g.type_name x s) isnt = words_done x s isnt

  stars_from_done : {n : ℕ} {ts us : List Token} → Stars n ts us → Stop (codes "*") us → (m k : ℕ) → length ts < m
      → stars_from m k (at b ts) ≡ Ok (k + n, at b us)
  unfolding stars_from sees after next
  stars_from_done s stop zero k few = absurd (omega arith)
  stars_from_done (g.no_star {ts = ts}) stop (suc m) k few = let e : k ≡ k + 0 = omega arith in rw (stop, ← e) refl
  stars_from_done (g.star {n = n} {t = t} {ts = ts} is s) stop (suc m) k few =
      let e : (k + 1) + n ≡ k + suc n = omega arith in rw (is, ← e) (stars_from_done s stop m (k + 1) (omega arith))

  pub stars_done : {n : ℕ} {ts us : List Token} → Stars n ts us → Stop (codes "*") us → length ts < b.turns → stars (at b ts) ≡ Ok (n, at b us)
  unfolding stars
  stars_done {n} s stop few = let e : 0 + n ≡ n = omega arith in rw (stars_from_done s stop b.turns 0 few, e) refl

  -- no stars are words that go on with a name
  pub stars_no_join : {n : ℕ} {ts us : List Token} → Stars n ts us → NoJoin us → NoJoin ts
  stars_no_join g.no_star isnt = isnt
  stars_no_join (g.star {t = t} {ts = ts} is s) isnt = mark_no_join (codes "*") t ts is

  pub type_done : {to : CType} {ts us : List Token} → AType b.types to ts us → Stop (codes "*") us → NoJoin us → length ts < b.turns
      → a_type (at b ts) ≡ Ok (to, at b us)
  unfolding a_type line
  type_done (g.a_type {t = t} {ts = ts} x s) stop isnt few =
      rw (type_name_done x (stars_no_join s isnt), stars_done s stop (omega (arith, type_name_shrinks x))) refl

-- ---- the steps of reading, where it is known what comes

module _ (b : Input) (m : ℕ) where
  abbrev inner : Level → List Token → Outcome Found
  inner l ts = expr m l (at b ts)

  abbrev an_operand : List Token → Outcome Found
  an_operand ts = operand (expr m) (place_of m) m (at b ts)

  abbrev suffixed : ExprTree → ℕ → List Token → Outcome Found
  suffixed a n ts = suffixes (expr m) (place_of m) m (line_of a) n (found_of a) (at b ts)

  abbrev a_unary : List Token → Outcome Found
  a_unary ts = unary (expr m) (place_of m) m (at b ts)

  abbrev a_primary : Token → List Token → Outcome Found
  a_primary t ts = primary (expr m) t.span.line (at b (t ∷ ts))

  literal_none : (n : ℕ) (k : TokKind) → is_word_kind k ≡ true → literal_of n k ≡ None
  literal_none n kind.Word h = refl
  literal_none n k h = absurd cc

  primary_name : (t : Token) (ts : List Token) → IsVariable b.types t → a_primary t ts ≡ after_name (expr m) t.span.line t.text (at b ts)
  unfolding primary literal worded sees_word named a_variable sees_variable spelling next
  primary_name t ts v =
      let n = variable_name b.types t v in
      rw (literal_none t.span.line t.kind (ap is_word_kind (name_kind t n)), name_no_word (codes "INT2PTR") t n int2ptr_word, v) refl

  primary_literal : (t : Token) (ts : List Token) (a : ExprTree) → literal_of t.span.line t.kind ≡ Some a → a_primary t ts ≡ Ok (leaf a, at b ts)
  unfolding primary literal next
  primary_literal t ts a is = rw is refl

  primary_int2ptr : (t : Token) (ts : List Token) → IsWord (codes "INT2PTR") t → a_primary t ts ≡ int2ptr (expr m) t.span.line (at b ts)
  unfolding primary literal worded sees_word next
  primary_int2ptr t ts w = rw (literal_none t.span.line t.kind (ap is_word_kind (is_word_of (codes "INT2PTR") t w).0), w) refl

  operand_plain : (t : Token) (ts : List Token) (f : Found) (us : List Token) → is_sign (codes "(") t ≡ false → a_primary t ts ≡ Ok (f, at b us)
      → an_operand (t ∷ ts) ≡ suffixes (expr m) (place_of m) m t.span.line m f (at b us)
  unfolding operand sees after line
  operand_plain t ts f us isnt r = rw (isnt, r) refl

  after_variable : (t : Token) (us : List Token) → Stop (codes "(") us → Stop (codes "->") us
      → after_name (expr m) t.span.line t.text (at b us) ≡ Ok (found_of (tree.Var t.span.line t.text), at b us)
  unfolding after_name sees after
  after_variable t us isnt isnt' = rw (isnt, isnt') refl

  after_arrow : (t u v : Token) (us : List Token) → Is (codes "->") u → MayName v
      → after_name (expr m) t.span.line t.text (at b (u ∷ v ∷ us)) ≡ Ok (found_of (tree.Arrow t.span.line t.text v.text), at b us)
  unfolding after_name sees after next a_name sees_name spelling
  after_arrow t u v us is n = rw (marks (codes "->") (codes "(") u is, is, n) refl

  after_call : (t u : Token) (ts us : List Token) (args : ExprTrees) → Is (codes "(") u
      → arguments (expr m) (at b ts) ≡ Ok (record { trees = list_of args; height = heights args }, at b us)
      → after_name (expr m) t.span.line t.text (at b (u ∷ ts)) ≡ Ok (found_of (tree.Call t.span.line t.text args), at b us)
  unfolding after_name sees after next
  after_call t u ts us args is r = rw (is, r, exprs_of-list_of args) refl

  int2ptr_done : (t u v w : Token) (ts us vs : List Token) (to : CType) (a : ExprTree) → Is (codes "(") u → a_type (at b ts) ≡ Ok (to, at b (v ∷ us))
      → Is (codes ",") v → inner level.Whole us ≡ Ok (found_of a, at b (w ∷ vs)) → Is (codes ")") w
      → int2ptr (expr m) t.span.line (at b (u ∷ ts)) ≡ Ok (found_of (tree.Int2Ptr t.span.line to a), at b vs)
  unfolding int2ptr expect sees next
  int2ptr_done t u v w ts us vs to a o ty c r cl = rw (o, ty, c, r, cl) refl

  -- ---- suffixes

  -- Reading an operand has come to this tree, and this many suffixes may still follow.
  record Comes (a : ExprTree) (ts us : List Token) : Type 0 where
    more : ℕ
    enough : m + 1 ≤ more + height a
    is : an_operand ts ≡ suffixed a more us

  suffix_stops : (n line : ℕ) (f : Found) (us : List Token) → EndsOperand us → suffixes (expr m) (place_of m) m line n f (at b us) ≡ Ok (f, at b us)
  unfolding suffixes last_suffix sees a_step
  suffix_stops zero line f us x = rw (x.no_index, x.no_step) refl
  suffix_stops (suc n) line f us x = rw (x.no_index, x.no_step) refl

  index_step : (n : ℕ) (a at_tree : ExprTree) (t u : Token) (us vs : List Token) → Is (codes "[") t → height a ≤ m
      → inner level.Whole us ≡ Ok (found_of at_tree, at b (u ∷ vs)) → Is (codes "]") u
      → suffixed a (suc n) (t ∷ us) ≡ suffixed (tree.Index (line_of a) a at_tree) n vs
  unfolding suffixes index sees next expect
  index_step n a at_tree t u us vs o h r c = rw (o, le-ltb m (height a) h, r, c) refl

  index_comes : (a at_tree : ExprTree) (t u : Token) (ts us vs : List Token) → Comes a ts (t ∷ us) → Is (codes "[") t
      → height (tree.Index (line_of a) a at_tree) ≤ m + 1 → inner level.Whole us ≡ Ok (found_of at_tree, at b (u ∷ vs)) → Is (codes "]") u
      → Comes (tree.Index (line_of a) a at_tree) ts vs
  index_comes a at_tree t u ts us vs x o h r c = from x.more x.enough x.is
    where
      from : (n : ℕ) → m + 1 ≤ n + height a → an_operand ts ≡ suffixed a n (t ∷ us) → Comes (tree.Index (line_of a) a at_tree) ts vs
      from zero le is = absurd (omega (arith, h, le))
      from (suc n) le is = record {
        more = n;
        enough = omega (arith, h, le);
        is = is ∙ index_step n a at_tree t u us vs o (omega (arith, h)) r c;
      }

  -- a place that has been read as an operand
  record AsOperand (p : PlaceTree) (ts us : List Token) : Type 0 where
    was : ExprTree
    is : an_operand ts ≡ suffixes (expr m) (place_of m) m (line_of_place p) m (found_of was) (at b us)
    placed : place_tree_of was ≡ Some p

  after_step : (n : ℕ) (p : PlaceTree) (a : ExprTree) (s : Step) (t : Token) (us : List Token) → sign_in steps t ≡ Some s → place_tree_of a ≡ Some p
      → place_height p ≤ m
      → suffixes (expr m) (place_of m) m (line_of_place p) (suc n) (found_of a) (at b (t ∷ us)) ≡ suffixed (tree.After (line_of_place p) p s) n us
  unfolding suffixes sees a_step next
  after_step n p a s t us sign is h = rw ((step_is s t sign).no_index, sign, is, placed_tall a p is, le-ltb m (place_height p) h) refl

  after_comes : (p : PlaceTree) (s : Step) (t : Token) (ts us : List Token) → AsOperand p ts (t ∷ us) → sign_in steps t ≡ Some s → place_height p ≤ m
      → Comes (tree.After (line_of_place p) p s) ts us
  after_comes p s t ts us x sign h = from m refl x.is
    where
      from : (n : ℕ) → n ≡ m
          → an_operand ts ≡ suffixes (expr m) (place_of m) m (line_of_place p) n (found_of x.was) (at b (t ∷ us))
          → Comes (tree.After (line_of_place p) p s) ts us
      from zero same is = absurd (omega (arith, place_pos p))
      from (suc n) same is = record {
        more = n;
        enough = omega (arith, place_pos p);
        is = is ∙ after_step n p x.was s t us sign x.placed h;
      }

  operand_finish : {a : ExprTree} {ts us : List Token} → Comes a ts us → EndsOperand us → an_operand ts ≡ Ok (found_of a, at b us)
  operand_finish {a} {ts} {us} x stop = x.is ∙ suffix_stops x.more (line_of a) (found_of a) us stop

  -- ---- what stands after an opening parenthesis

  paren_comes : (t u : Token) (ts us : List Token) (a : ExprTree) → Is (codes "(") t → head_is (is_type b.types) ts ≡ false
      → inner level.Whole ts ≡ Ok (found_of a, at b (u ∷ us)) → Is (codes ")") u → Comes (tree.Paren t.span.line a) (t ∷ ts) us
  unfolding operand opened sees sees_type after next line expect
  paren_comes t u ts us a o isnt r c = record { more = m; enough = omega (arith, height_pos a); is = rw (o, isnt, r, c) refl }

  cast_done : (t u : Token) (ts us vs : List Token) (to : CType) (a : ExprTree) → Is (codes "(") t → head_is (is_type b.types) ts ≡ true
      → a_type (at b ts) ≡ Ok (to, at b (u ∷ us)) → Is (codes ")") u → inner level.Unary us ≡ Ok (found_of a, at b vs)
      → an_operand (t ∷ ts) ≡ Ok (found_of (tree.Cast t.span.line to a), at b vs)
  unfolding operand opened cast sees sees_type after next line expect
  cast_done t u ts us vs to a o is ty c r = rw (o, is, ty, c, r) refl

  -- ---- operators before an operand

  unary_operand : (ts : List Token) → NoOperator ts → a_unary ts ≡ an_operand ts
  unfolding unary prefix_op a_step pointed sees
  unary_operand ts x = rw (x.no_prefix, x.no_step, x.no_star, x.no_and) refl

  prefix_done : (op : UnOp) (t : Token) (ts us : List Token) (a : ExprTree) → sign_in prefix_ops t ≡ Some op → inner level.Unary ts ≡ Ok (found_of a, at b us)
      → a_unary (t ∷ ts) ≡ Ok (found_of (tree.One t.span.line op a), at b us)
  unfolding unary prefix_op prefixed line next
  prefix_done op t ts us a is r = rw (is, r) refl

  dereference_done : (t : Token) (ts us : List Token) (a : ExprTree) → Is (codes "*") t → inner level.Unary ts ≡ Ok (found_of a, at b us)
      → a_unary (t ∷ ts) ≡ Ok (found_of (tree.Deref t.span.line a), at b us)
  unfolding unary prefix_op a_step pointed sees dereferenced line next
  dereference_done t ts us a is r = rw (star_no_prefix t is, star_no_step t is, is, r) refl

  address_done : (t u : Token) (ts : List Token) → Is (codes "&") t → IsVariable b.types u
      → a_unary (t ∷ u ∷ ts) ≡ Ok (found_of (tree.Address t.span.line u.text), at b ts)
  unfolding unary prefix_op a_step pointed sees address line next a_variable sees_variable spelling
  address_done t u ts is v = rw (and_no_prefix t is, and_no_step t is, marks (codes "&") (codes "*") t is, is, v) refl

  before_done : (s : Step) (p : PlaceTree) (t : Token) (ts us : List Token) → sign_in steps t ≡ Some s → place_of m (at b ts) ≡ Ok (place_found p, at b us)
      → a_unary (t ∷ ts) ≡ Ok (found_of (tree.Before t.span.line s p), at b us)
  unfolding unary prefix_op a_step stepped line next
  before_done s p t ts us is r = rw ((step_is s t is).no_prefix, is, r) refl

  -- ---- lists

  list_last : (n : ℕ) (all : FoundAll) (a : ExprTree) (u : Token) (ts us : List Token) → inner level.Whole ts ≡ Ok (found_of a, at b (u ∷ us))
      → Is (codes ")") u
      → list_from (expr m) (suc n) all (at b ts) ≡ Ok (record { trees = all.trees ++ a ∷ []; height = max all.height (height a) }, at b us)
  unfolding list_from sees after next expect
  list_last n all a u ts us r c = rw (r, marks (codes ")") (codes ",") u c, c) refl

  list_more : (n : ℕ) (all : FoundAll) (a : ExprTree) (u : Token) (ts us : List Token) → inner level.Whole ts ≡ Ok (found_of a, at b (u ∷ us))
      → Is (codes ",") u
      → list_from (expr m) (suc n) all (at b ts)
      ≡ list_from (expr m) n (record { trees = all.trees ++ a ∷ []; height = max all.height (height a) }) (at b us)
  unfolding list_from sees after next
  list_more n all a u ts us r c = rw (r, c) refl

  one_listed : (n : ℕ) (v : Token) (ts us : List Token) (a : ExprTree) → 0 < n → inner level.Whole ts ≡ Ok (found_of a, at b (v ∷ us)) → Is (codes ")") v
      → list_from (expr m) n (record { trees = []; height = 0 }) (at b ts)
      ≡ Ok (record { trees = a ∷ []; height = heights (tree.MoreExprs a tree.NoExprs) }, at b us)
  one_listed zero v ts us a h r c = absurd (omega arith)
  one_listed (suc n) v ts us a h r c =
      list_last n (record { trees = []; height = 0 }) a v ts us r c ∙ rw (zero-max (height a), max-zero (height a)) refl

  -- ---- places

  -- a name of a place, and what was read inside it
  data NamedRead : PlaceTree → List Token → List Token → Type 0 where
    variable_read : {t : Token} {ts : List Token} → IsVariable b.types t → NamedRead (tree.VarPlace t.span.line t.text) (t ∷ ts) ts
    field_read : {t u v : Token} {ts : List Token} → IsVariable b.types t → Is (codes "->") u → MayName v
        → NamedRead (tree.FieldPlace t.span.line t.text v.text) (t ∷ u ∷ v ∷ ts) ts
    st_read : {a : ExprTree} {t u v : Token} {ts us : List Token} → IsVariable b.types t → bytes_eq t.text (codes "ST") ≡ true → Is (codes "(") u
        → Stop (codes ")") ts → length ts < b.turns → inner level.Whole ts ≡ Ok (found_of a, at b (v ∷ us)) → Is (codes ")") v
        → NamedRead (tree.StPlace t.span.line a) (t ∷ u ∷ ts) us

  data PlaceRead : PlaceTree → List Token → List Token → Type 0 where
    target_read : {t u : Token} {ts : List Token} → Is (codes "*") t → IsVariable b.types u
        → PlaceRead (tree.TargetPlace t.span.line u.text) (t ∷ u ∷ ts) ts
    named_read : {p : PlaceTree} {ts us : List Token} → NamedRead p ts us → PlaceRead p ts us

  place_named : (t : Token) (ts : List Token) → IsVariable b.types t
      → place (expr m) (at b (t ∷ ts)) ≡ named_place (expr m) t.span.line t.text (at b ts)
  unfolding place line sees after a_variable sees_variable spelling next
  place_named t ts v = rw (name_no_mark (codes "*") t (variable_name b.types t v), v) refl

  named_variable : (t : Token) (us : List Token) → Stop (codes "(") us → Stop (codes "->") us
      → named_place (expr m) t.span.line t.text (at b us) ≡ Ok (place_found (tree.VarPlace t.span.line t.text), at b us)
  unfolding named_place sees after
  named_variable t us isnt isnt' = rw (isnt', and_right (bytes_eq t.text (codes "ST")) (head_is (is_sign (codes "(")) us) isnt) refl

  named_field : (t u v : Token) (us : List Token) → Is (codes "->") u → MayName v
      → named_place (expr m) t.span.line t.text (at b (u ∷ v ∷ us)) ≡ Ok (place_found (tree.FieldPlace t.span.line t.text v.text), at b us)
  unfolding named_place sees after next a_name sees_name spelling
  named_field t u v us is n = rw (is, n) refl

  named_st : (t u v : Token) (ts us : List Token) (a : ExprTree) → bytes_eq t.text (codes "ST") ≡ true → Is (codes "(") u
      → inner level.Whole ts ≡ Ok (found_of a, at b (v ∷ us)) → Is (codes ")") v
      → named_place (expr m) t.span.line t.text (at b (u ∷ ts)) ≡ Ok (place_found (tree.StPlace t.span.line a), at b us)
  unfolding named_place sees after next expect
  named_st t u v ts us a s o r c = rw (marks (codes "(") (codes "->") u o, s, o, r, c) refl

  place_target : (t u : Token) (ts : List Token) → Is (codes "*") t → IsVariable b.types u
      → place (expr m) (at b (t ∷ u ∷ ts)) ≡ Ok (place_found (tree.TargetPlace t.span.line u.text), at b ts)
  unfolding place line sees after a_variable sees_variable spelling next
  place_target t u ts is v = rw (is, v) refl

  named_place_done : {p : PlaceTree} {ts us : List Token} → NamedRead p ts us → Stop (codes "(") us → Stop (codes "->") us
      → place (expr m) (at b ts) ≡ Ok (place_found p, at b us)
  named_place_done (variable_read {t = t} {ts = ts} v) isnt isnt' = place_named t ts v ∙ named_variable t ts isnt isnt'
  named_place_done (field_read {t = t} {u = u} {v = f} {ts = ts} v o n) isnt isnt' = place_named t (u ∷ f ∷ ts) v ∙ named_field t u f ts o n
  named_place_done (st_read {a = a} {t = t} {u = u} {v = w} {ts = ts} {us = us} v s o nc few r c) isnt isnt' =
      place_named t (u ∷ ts) v ∙ named_st t u w ts us a s o r c

  place_done : {p : PlaceTree} {ts us : List Token} → PlaceRead p ts us → Stop (codes "(") us → Stop (codes "->") us
      → place (expr m) (at b ts) ≡ Ok (place_found p, at b us)
  place_done (target_read {t = t} {u = u} {ts = ts} s v) isnt isnt' = place_target t u ts s v
  place_done (named_read x) isnt isnt' = named_place_done x isnt isnt'

  no_arguments : (u : Token) (ts : List Token) → Is (codes ")") u → arguments (expr m) (at b (u ∷ ts)) ≡ Ok (record { trees = []; height = 0 }, at b ts)
  unfolding arguments sees after next
  no_arguments u ts c = rw c refl

  some_arguments : (all : ExprTrees) (ts us : List Token) → Stop (codes ")") ts
      → list_from (expr m) b.turns (record { trees = []; height = 0 }) (at b ts) ≡ Ok (record { trees = list_of all; height = heights all }, at b us)
      → arguments (expr m) (at b ts) ≡ Ok (record { trees = list_of all; height = heights all }, at b us)
  unfolding arguments list sees after
  some_arguments all ts us isnt r = rw isnt r

  one_argument : (v : Token) (ts us : List Token) (a : ExprTree) → Stop (codes ")") ts → 0 < b.turns → inner level.Whole ts ≡ Ok (found_of a, at b (v ∷ us))
      → Is (codes ")") v → arguments (expr m) (at b ts) ≡ Ok (record { trees = a ∷ []; height = heights (tree.MoreExprs a tree.NoExprs) }, at b us)
  unfolding arguments list sees after
  one_argument v ts us a isnt turns r c = rw isnt (one_listed b.turns v ts us a turns r c)

  named_operand : {p : PlaceTree} {ts us : List Token} → NamedRead p ts us → Stop (codes "(") us → Stop (codes "->") us → AsOperand p ts us
  named_operand (variable_read {t = t} {ts = ts} v) isnt isnt' = record {
    was = tree.Var t.span.line t.text;
    is = operand_plain t ts (found_of (tree.Var t.span.line t.text)) ts (name_no_mark (codes "(") t (variable_name b.types t v))
        (primary_name t ts v ∙ after_variable t ts isnt isnt');
    placed = refl;
  }
  named_operand (field_read {t = t} {u = u} {v = f} {ts = ts} v o n) isnt isnt' = record {
    was = tree.Arrow t.span.line t.text f.text;
    is = operand_plain t (u ∷ f ∷ ts) (found_of (tree.Arrow t.span.line t.text f.text)) ts (name_no_mark (codes "(") t (variable_name b.types t v))
        (primary_name t (u ∷ f ∷ ts) v ∙ after_arrow t u f ts o n);
    placed = refl;
  }
  named_operand (st_read {a = a} {t = t} {u = u} {v = w} {ts = ts} {us = us} v s o nc few r c) isnt isnt' = record {
    was = tree.Call t.span.line t.text (tree.MoreExprs a tree.NoExprs);
    is = operand_plain t (u ∷ ts) (found_of (tree.Call t.span.line t.text (tree.MoreExprs a tree.NoExprs))) us
        (name_no_mark (codes "(") t (variable_name b.types t v))
        (primary_name t (u ∷ ts) v ∙ after_call t u ts us (tree.MoreExprs a tree.NoExprs) o (one_argument w ts us a nc (omega (arith, few)) r c));
    placed = rw s refl;
  }

  -- ---- operators between operands

  -- Reading operands has come to this tree, and this many operators may still follow.
  record Reaches (tight : ℕ) (a : ExprTree) (ts us : List Token) : Type 0 where
    more : ℕ
    enough : m + 1 ≤ more + height a
    is : binary (expr m) (place_of m) m tight (at b ts) ≡ climb (expr m) (place_of m) m tight (line_of a) more (found_of a) (at b us)

  climb_stops : (tight line n : ℕ) (f : Found) (us : List Token) → at_least tight (first_in binary_ops us) ≡ None
      → climb (expr m) (place_of m) m tight line n f (at b us) ≡ Ok (f, at b us)
  unfolding climb operator
  climb_stops tight line zero f us e = rw e refl
  climb_stops tight line (suc n) f us e = rw e refl

  climb_step : (tight k n : ℕ) (op : BinaryOp) (a c : ExprTree) (t : Token) (us vs : List Token) → sign_in binary_ops t ≡ Some (op, k) → tight ≤ k
      → height a ≤ m → inner (level.Binary (k + 1)) us ≡ Ok (found_of c, at b vs)
      → climb (expr m) (place_of m) m tight (line_of a) (suc n) (found_of a) (at b (t ∷ us))
      ≡ climb (expr m) (place_of m) m tight (line_of a) n (found_of (tree.Two (line_of a) op a c)) (at b vs)
  unfolding climb operator next
  climb_step tight k n op a c t us vs is le h r = rw (is, le-leb tight k le, le-ltb m (height a) h, r) refl

  two_reaches : (tight k : ℕ) (op : BinaryOp) (a c : ExprTree) (t : Token) (ts us vs : List Token) → Reaches tight a ts (t ∷ us)
      → sign_in binary_ops t ≡ Some (op, k) → tight ≤ k → height (tree.Two (line_of a) op a c) ≤ m + 1
      → inner (level.Binary (k + 1)) us ≡ Ok (found_of c, at b vs) → Reaches tight (tree.Two (line_of a) op a c) ts vs
  two_reaches tight k op a c t ts us vs x is le h r = from x.more x.enough x.is
    where
      from : (n : ℕ) → m + 1 ≤ n + height a
          → binary (expr m) (place_of m) m tight (at b ts) ≡ climb (expr m) (place_of m) m tight (line_of a) n (found_of a) (at b (t ∷ us))
          → Reaches tight (tree.Two (line_of a) op a c) ts vs
      from zero few is = absurd (omega (arith, h, few))
      from (suc n) few is' = record {
        more = n;
        enough = omega (arith, h, few);
        is = is' ∙ climb_step tight k n op a c t us vs is le (omega (arith, h)) r;
      }

  unary_reaches : (tight : ℕ) (a : ExprTree) (ts us : List Token) → a_unary ts ≡ Ok (found_of a, at b us) → line_at b.last ts ≡ line_of a
      → Reaches tight a ts us
  unfolding binary line
  unary_reaches tight a ts us r e = record { more = m; enough = omega (arith, height_pos a); is = rw (r, e) refl }

  binary_finish : {tight : ℕ} {a : ExprTree} {ts us : List Token} → Reaches tight a ts us → at_least tight (first_in binary_ops us) ≡ None
      → binary (expr m) (place_of m) m tight (at b ts) ≡ Ok (found_of a, at b us)
  binary_finish {tight} {a} {ts} {us} x stop = x.is ∙ climb_stops tight (line_of a) x.more (found_of a) us stop

  -- ---- choices and assignments

  choice_plain : (a : ExprTree) (ts us : List Token) → binary (expr m) (place_of m) m 1 (at b ts) ≡ Ok (found_of a, at b us) → Stop (codes "?") us
      → choice (expr m) (place_of m) m (at b ts) ≡ Ok (found_of a, at b us)
  unfolding choice line sees
  choice_plain a ts us r stop = rw (r, stop) refl

  choose_done : (test a c : ExprTree) (t u : Token) (ts us vs ws : List Token) → binary (expr m) (place_of m) m 1 (at b ts) ≡ Ok (found_of test, at b (t ∷ us))
      → Is (codes "?") t → height test ≤ m → inner level.Whole us ≡ Ok (found_of a, at b (u ∷ vs)) → Is (codes ":") u
      → inner level.Choice vs ≡ Ok (found_of c, at b ws) → line_at b.last ts ≡ line_of test
      → choice (expr m) (place_of m) m (at b ts) ≡ Ok (found_of (tree.Choice (line_of test) test a c), at b ws)
  unfolding choice choose other_choice line sees next expect
  choose_done test a c t u ts us vs ws r o h s p q first = rw (r, o, le-ltb m (height test) h, s, p, q, first) refl

  whole_plain : (a : ExprTree) (ts us : List Token) → choice (expr m) (place_of m) m (at b ts) ≡ Ok (found_of a, at b us) → first_in assignments us ≡ None
      → whole (expr m) (place_of m) m (at b ts) ≡ Ok (found_of a, at b us)
  unfolding whole line assignment
  whole_plain a ts us r stop = rw (r, stop) refl

  set_done : (p : PlaceTree) (op : Option Op) (a was : ExprTree) (t : Token) (ts us vs : List Token)
      → choice (expr m) (place_of m) m (at b ts) ≡ Ok (found_of was, at b (t ∷ us)) → sign_in assignments t ≡ Some op → place_tree_of was ≡ Some p
      → place_height p ≤ m → inner level.Whole us ≡ Ok (found_of a, at b vs) → line_at b.last ts ≡ line_of_place p
      → whole (expr m) (place_of m) m (at b ts) ≡ Ok (found_of (tree.Set (line_of_place p) p op a), at b vs)
  unfolding whole line assignment assign next
  set_done p op a was t ts us vs r sign is h s first = rw (r, sign, is, placed_tall was p is, le-ltb m (place_height p) h, s, first) refl

-- ---- the rules

at_least_more : (n k : ℕ) (q : Option (BinaryOp × ℕ)) → n ≤ k → at_least n q ≡ None → at_least k q ≡ None
at_least_more n k None le e = refl
at_least_more n k (Some q) le e = by (nat_le n q.1) refl e
  where
    by : (c : Bool) → nat_le n q.1 ≡ c → (◌≡◌ {A = Option (BinaryOp × ℕ)} (if c then Some q else None) None) → at_least k (Some q) ≡ None
    by true is e = absurd cc
    by false is e = rw (lt-leb k q.1 (omega (arith, leb-false n q.1 is))) refl

own_level : (op : BinaryOp) (k : ℕ) (t : Token) → sign_in binary_ops t ≡ Some (op, k) → at_least (k + 1) (sign_in binary_ops t) ≡ None
own_level op k t is = rw (is, lt-leb (k + 1) k (omega arith)) refl

words_first : {types : List (List ℕ)} {name : List ℕ} {ts us : List Token} → Words types name ts us → head_is (is_type types) ts ≡ true
words_first (g.one_word i) = i
words_first (g.two_words i j) = i
words_first (g.three_words i j k) = i

pub type_name_first : {types : List (List ℕ)} {name : List ℕ} {ts us : List Token} → TypeName types name ts us → head_is (is_type types) ts ≡ true
type_name_first (g.type_name x s) = words_first x

pub type_first : {types : List (List ℕ)} {to : CType} {ts us : List Token} → AType types to ts us → head_is (is_type types) ts ≡ true
type_first (g.a_type x s) = type_name_first x

module _ (b : Input) (names : AreNames b.types) where
  -- an expression of a level stands one level down, where there is room for it
  inner_done : (l : Level) (room : ℕ) (a : ExprTree) (ts us : List Token) → height a ≤ room
      → ((m : ℕ) → height a ≤ m + 1 → at_level (expr m) (place_of m) m l (at b ts) ≡ Ok (found_of a, at b us)) → expr room l (at b ts)
      ≡ Ok (found_of a, at b us)
  unfolding expr
  inner_done l zero a ts us h go = absurd (omega (arith, height_pos a))
  inner_done l (suc m) a ts us h go = go m (omega (arith, h))

  -- so does a place
  inner_place : (room : ℕ) (p : PlaceTree) (ts us : List Token) → place_height p ≤ room
      → ((m : ℕ) → place_height p ≤ m + 1 → place (expr m) (at b ts) ≡ Ok (place_found p, at b us)) → place_of room (at b ts) ≡ Ok (place_found p, at b us)
  unfolding place_of
  inner_place zero p ts us h go = absurd (omega (arith, place_pos p))
  inner_place (suc m) p ts us h go = go m (omega (arith, h))

  operand_unary : (m : ℕ) (p : PlaceTree) (ts us : List Token) (x : AsOperand b m p ts us) → NoOperator ts → EndsOperand us
      → a_unary b m ts ≡ Ok (found_of x.was, at b us)
  operand_unary m p ts us x isnt stop =
      unary_operand b m ts isnt ∙ (x.is ∙ suffix_stops b m m (line_of_place p) (found_of x.was) us stop)

  named_begins : {m : ℕ} {p : PlaceTree} {ts us : List Token} → NamedRead b m p ts us → NoOperator ts
  named_begins (variable_read v) = no_operator {types = b.types} (begins_variable v)
  named_begins (field_read v o n) = no_operator {types = b.types} (begins_variable v)
  named_begins (st_read v s o nc few r c) = no_operator {types = b.types} (begins_variable v)

  named_line : {m : ℕ} {p : PlaceTree} {ts us : List Token} → NamedRead b m p ts us → line_at b.last ts ≡ line_of_place p
  named_line (variable_read v) = refl
  named_line (field_read v o n) = refl
  named_line (st_read v s o nc few r c) = refl

  -- a place that has been read as a choice
  record AsChoice (m : ℕ) (p : PlaceTree) (ts us : List Token) : Type 0 where
    was : ExprTree
    is : choice (expr m) (place_of m) m (at b ts) ≡ Ok (found_of was, at b us)
    placed : place_tree_of was ≡ Some p

  unary_choice : (m : ℕ) (a : ExprTree) (ts us : List Token) → a_unary b m ts ≡ Ok (found_of a, at b us) → line_at b.last ts ≡ line_of a → EndsSet us
      → choice (expr m) (place_of m) m (at b ts) ≡ Ok (found_of a, at b us)
  unary_choice m a ts us r e stop =
      choice_plain b m a ts us (binary_finish b m (unary_reaches b m 1 a ts us r e) (ap (at_least 1) stop.no_operator)) stop.no_choice

  variable_unary : (m : ℕ) (t : Token) (ts : List Token) → IsVariable b.types t → EndsOperand ts
      → a_unary b m (t ∷ ts) ≡ Ok (found_of (tree.Var t.span.line t.text), at b ts)
  unfolding named_operand
  variable_unary m t ts v stop =
      operand_unary m (tree.VarPlace t.span.line t.text) (t ∷ ts) ts (named_operand b m (variable_read v) stop.no_call stop.no_arrow)
      (no_operator {types = b.types} (begins_variable v)) stop

  as_choice : {m : ℕ} {p : PlaceTree} {ts us : List Token} → PlaceRead b m p ts us → place_height p ≤ m → EndsSet us → AsChoice m p ts us
  as_choice {m} (target_read {t = t} {u = u} {ts = ts} s v) h stop = record {
    was = tree.Deref t.span.line (tree.Var u.span.line u.text);
    is = unary_choice m (tree.Deref t.span.line (tree.Var u.span.line u.text)) (t ∷ u ∷ ts) ts
        (dereference_done b m t (u ∷ ts) ts (tree.Var u.span.line u.text) s
        (inner_done level.Unary m (tree.Var u.span.line u.text) (u ∷ ts) ts (omega (arith, h)) (λ k h'. variable_unary k u ts v stop.operand)))
        refl stop;
    placed = refl;
  }
  as_choice {m} {p} {ts} {us} (named_read x) h stop =
      let o = named_operand b m x stop.operand.no_call stop.operand.no_arrow in
      record {
        was = o.was;
        is = unary_choice m o.was ts us (operand_unary m p ts us o (named_begins x) stop.operand) (named_line x ∙ placed_line o.was p o.placed) stop;
        placed = o.placed;
      }

  mutual
    whole_done : {a : ExprTree} {ts us : List Token} → Whole b.types a ts us → (m : ℕ) → height a ≤ m + 1 → length ts < b.turns → Ends us
        → whole (expr m) (place_of m) m (at b ts) ≡ Ok (found_of a, at b us)
    whole_done (g.set {p = p} {op = op} {a = a} {t = t} {ts = ts} {us = us} {vs = vs} pl o x) m h few stop =
        let c = as_choice (place_read pl m (omega (arith, h)) few) (omega (arith, h)) (assignment_ends op t us o) in
        set_done b m p op a c.was t ts us vs c.is o c.placed (omega (arith, h))
        (inner_done level.Whole m a us vs (omega (arith, h)) (λ k h'. whole_done x k h' (omega (arith, few, place_shrinks pl)) stop))
        (place_line b.last pl)
    whole_done (g.is_choice {a = a} {ts = ts} {us = us} x) m h few stop =
        whole_plain b m a ts us (choice_done x m h few stop.operand (ap (at_least 1) stop.no_operator) stop.no_choice) stop.no_set

    choice_done : {a : ExprTree} {ts us : List Token} → Choice b.types a ts us → (m : ℕ) → height a ≤ m + 1 → length ts < b.turns → EndsOperand us
        → at_least 1 (first_in binary_ops us) ≡ None → Stop (codes "?") us → choice (expr m) (place_of m) m (at b ts) ≡ Ok (found_of a, at b us)
    choice_done (g.choose {test = test} {a = a} {b = c} {t = t} {u = u} {ts = ts} {us = us} {vs = vs} {ws = ws} x o y k z) m h few ends none stop =
        let q = question t us o in
        choose_done b m test a c t u ts us vs ws
        (binary_finish b m (binary_reach x m (omega (arith, h)) few q.operand (ap (at_least (1 + 1)) q.no_operator) 1 (omega arith))
        (ap (at_least 1) q.no_operator))
        o (omega (arith, h))
        (inner_done level.Whole m a us (u ∷ vs) (omega (arith, h)) (λ j h'. whole_done y j h' (omega (arith, few, binary_shrinks x)) (colon u vs k)))
        k
        (inner_done level.Choice m c vs ws (omega (arith, h))
        (λ j h'. choice_done z j h' (omega (arith, few, binary_shrinks x, whole_shrinks y)) ends none stop))
        (binary_line b.last x)
    choice_done (g.is_binary {a = a} {ts = ts} {us = us} x) m h few ends none stop =
        choice_plain b m a ts us
        (binary_finish b m (binary_reach x m h few ends (at_least_more 1 (1 + 1) (first_in binary_ops us) (omega arith) none) 1 (omega arith)) none) stop

    binary_reach : {n : ℕ} {a : ExprTree} {ts us : List Token} → Binary b.types n a ts us → (m : ℕ) → height a ≤ m + 1 → length ts < b.turns
        → EndsOperand us → at_least (n + 1) (first_in binary_ops us) ≡ None → (tight : ℕ) → tight ≤ n → Reaches b m tight a ts us
    binary_reach (g.two {n = n} {k = k} {op = op} {a = a} {b = c} {t = t} {ts = ts} {us = us} {vs = vs} x o le y) m h few ends none tight low =
        let stop = at_least_more (n + 1) (k + 1) (first_in binary_ops vs) (omega (arith, le)) none in
        two_reaches b m tight k op a c t ts us vs
        (binary_reach x m (omega (arith, h)) few (operator_ends (op, k) t us o) (own_level op k t o) tight (omega (arith, low, le)))
        o (omega (arith, low, le)) h
        (inner_done (level.Binary (k + 1)) m c us vs (omega (arith, h))
        (λ j h'. binary_finish b j
        (binary_reach y j h' (omega (arith, few, binary_shrinks x)) ends
        (at_least_more (k + 1) (k + 1 + 1) (first_in binary_ops vs) (omega arith) stop) (k + 1) (omega arith)) stop))
    binary_reach (g.is_unary {n = n} {a = a} {ts = ts} {us = us} x) m h few ends none tight low =
        unary_reaches b m tight a ts us (unary_done x m h few ends) (unary_line b.last x)

    unary_done : {a : ExprTree} {ts us : List Token} → Unary b.types a ts us → (m : ℕ) → height a ≤ m + 1 → length ts < b.turns → EndsOperand us
        → a_unary b m ts ≡ Ok (found_of a, at b us)
    unary_done (g.prefixed {op = op} {a = a} {t = t} {ts = ts} {us = us} o x) m h few ends =
        prefix_done b m op t ts us a o
        (inner_done level.Unary m a ts us (omega (arith, h)) (λ j h'. unary_done x j h' (omega (arith, few)) ends))
    unary_done (g.cast {to = to} {a = a} {t = t} {u = u} {ts = ts} {us = us} {vs = vs} o ty c x) m h few ends =
        unary_operand b m (t ∷ ts) (no_operator {types = b.types} (begins_open o))
        ∙ cast_done b m t u ts us vs to a o (type_first ty)
        (type_done b ty (marks (codes ")") (codes "*") u c) (mark_no_join (codes ")") u us c) (omega (arith, few))) c
        (inner_done level.Unary m a us vs (omega (arith, h)) (λ j h'. unary_done x j h' (omega (arith, few, type_shrinks ty)) ends))
    unary_done (g.dereferenced {a = a} {t = t} {ts = ts} {us = us} o x) m h few ends =
        dereference_done b m t ts us a o
        (inner_done level.Unary m a ts us (omega (arith, h)) (λ j h'. unary_done x j h' (omega (arith, few)) ends))
    unary_done (g.address {t = t} {u = u} {ts = ts} o v) m h few ends = address_done b m t u ts o v
    unary_done (g.before {step = s} {p = p} {t = t} {ts = ts} {us = us} o pl) m h few ends =
        before_done b m s p t ts us o
        (inner_place m p ts us (omega (arith, h)) (λ j h'. place_done b j (place_read pl j h' (omega (arith, few))) ends.no_call ends.no_arrow))
    unary_done (g.is_operand {a = a} {ts = ts} {us = us} x) m h few ends =
        unary_operand b m ts (no_operator (operand_begins x)) ∙ operand_finish b m (operand_comes x m h few ends.no_call ends.no_arrow) ends

    operand_comes : {a : ExprTree} {ts us : List Token} → Operand b.types a ts us → (m : ℕ) → height a ≤ m + 1 → length ts < b.turns
        → Stop (codes "(") us → Stop (codes "->") us → Comes b m a ts us
    operand_comes (g.index {a = a} {at = i} {t = t} {u = u} {ts = ts} {us = us} {vs = vs} x o y c) m h few isnt isnt' =
        index_comes b m a i t u ts us vs
        (operand_comes x m (omega (arith, h)) few (marks (codes "[") (codes "(") t o) (marks (codes "[") (codes "->") t o)) o h
        (inner_done level.Whole m i us (u ∷ vs) (omega (arith, h)) (λ j h'. whole_done y j h' (omega (arith, few, operand_shrinks x)) (bracket u vs c))) c
    operand_comes (g.after {step = s} {p = p} {t = t} {ts = ts} {us = us} pl o) m h few isnt isnt' =
        let st = step_is s t o in
        after_comes b m p s t ts us (named_operand b m (named_parts pl m (omega (arith, h)) few) st.no_call st.no_arrow) o (omega (arith, h))
    operand_comes (g.is_primary x) m h few isnt isnt' = primary_comes x m h few isnt isnt'

    primary_comes : {a : ExprTree} {ts us : List Token} → Primary b.types a ts us → (m : ℕ) → height a ≤ m + 1 → length ts < b.turns
        → Stop (codes "(") us → Stop (codes "->") us → Comes b m a ts us
    primary_comes (g.name {t = t} {ts = ts} v) m h few isnt isnt' = record {
      more = m;
      enough = omega arith;
      is = operand_plain b m t ts (found_of (tree.Var t.span.line t.text)) ts (name_no_mark (codes "(") t (variable_name b.types t v))
          (primary_name b m t ts v ∙ after_variable b m t ts isnt isnt');
    }
    primary_comes (g.int {literal = l} {t = t} {ts = ts} k) m h few isnt isnt' = record {
      more = m;
      enough = omega arith;
      is = operand_plain b m t ts (found_of (tree.Num t.span.line l)) ts (no_mark (codes "(") t (ap is_punct_kind k))
          (primary_literal b m t ts (tree.Num t.span.line l) (ap (literal_of t.span.line) k));
    }
    primary_comes (g.char {byte = l} {t = t} {ts = ts} k) m h few isnt isnt' = record {
      more = m;
      enough = omega arith;
      is = operand_plain b m t ts (found_of (tree.Chr t.span.line l)) ts (no_mark (codes "(") t (ap is_punct_kind k))
          (primary_literal b m t ts (tree.Chr t.span.line l) (ap (literal_of t.span.line) k));
    }
    primary_comes (g.text {bytes = l} {t = t} {ts = ts} k) m h few isnt isnt' = record {
      more = m;
      enough = omega arith;
      is = operand_plain b m t ts (found_of (tree.Str t.span.line l)) ts (no_mark (codes "(") t (ap is_punct_kind k))
          (primary_literal b m t ts (tree.Str t.span.line l) (ap (literal_of t.span.line) k));
    }
    primary_comes (g.call {args = args} {t = t} {u = u} {ts = ts} {us = us} v o x) m h few isnt isnt' = record {
      more = m;
      enough = omega arith;
      is = operand_plain b m t (u ∷ ts) (found_of (tree.Call t.span.line t.text args)) us (name_no_mark (codes "(") t (variable_name b.types t v))
          (primary_name b m t (u ∷ ts) v ∙ after_call b m t u ts us args o (arguments_done x m (omega (arith, h)) (omega (arith, few))));
    }
    primary_comes (g.arrow {t = t} {u = u} {v = f} {ts = ts} v o n) m h few isnt isnt' = record {
      more = m;
      enough = omega arith;
      is = operand_plain b m t (u ∷ f ∷ ts) (found_of (tree.Arrow t.span.line t.text f.text)) ts
          (name_no_mark (codes "(") t (variable_name b.types t v)) (primary_name b m t (u ∷ f ∷ ts) v ∙ after_arrow b m t u f ts o n);
    }
    primary_comes (g.paren {a = a} {t = t} {u = u} {ts = ts} {us = us} o x c) m h few isnt isnt' =
        paren_comes b m t u ts us a o (starts_no_type names (whole_begins x))
        (inner_done level.Whole m a ts (u ∷ us) (omega (arith, h)) (λ j h'. whole_done x j h' (omega (arith, few)) (closes u us c))) c
    primary_comes (g.int2ptr {to = to} {a = a} {t = t} {u = u} {v = v} {w = w} {ts = ts} {us = us} {vs = vs} k o ty c x cl) m h few isnt isnt' = record {
      more = m;
      enough = omega arith;
      is = operand_plain b m t (u ∷ ts) (found_of (tree.Int2Ptr t.span.line to a)) vs (word_no_mark (codes "INT2PTR") (codes "(") t k)
          (primary_int2ptr b m t (u ∷ ts) k
          ∙ int2ptr_done b m t u v w ts us vs to a o
          (type_done b ty (marks (codes ",") (codes "*") v c) (mark_no_join (codes ",") v us c) (omega (arith, few))) c
          (inner_done level.Whole m a us (w ∷ vs) (omega (arith, h)) (λ j h'. whole_done x j h' (omega (arith, few, type_shrinks ty)) (closes w vs cl))) cl);
    }

    place_read : {p : PlaceTree} {ts us : List Token} → Place b.types p ts us → (m : ℕ) → place_height p ≤ m + 1 → length ts < b.turns
        → PlaceRead b m p ts us
    place_read (g.target s v) m h few = target_read s v
    place_read (g.is_named x) m h few = named_read (named_parts x m h few)

    named_parts : {p : PlaceTree} {ts us : List Token} → NamedPlace b.types p ts us → (m : ℕ) → place_height p ≤ m + 1 → length ts < b.turns
        → NamedRead b m p ts us
    named_parts (g.variable v) m h few = variable_read v
    named_parts (g.field v o n) m h few = field_read v o n
    named_parts (g.st {at = a} {t = t} {u = u} {v = w} {ts = ts} {us = us} v s o x c) m h few =
        st_read v s o (starts_no_mark (codes ")") no_close (whole_begins x)) (omega (arith, few))
        (inner_done level.Whole m a ts (w ∷ us) (omega (arith, h)) (λ j h'. whole_done x j h' (omega (arith, few)) (closes w us c))) c

    arguments_done : {all : ExprTrees} {ts us : List Token} → Arguments b.types all ts us → (m : ℕ) → heights all ≤ m → length ts < b.turns
        → arguments (expr m) (at b ts) ≡ Ok (record { trees = list_of all; height = heights all }, at b us)
    arguments_done (g.none {u = u} {ts = ts} c) m h few = no_arguments b m u ts c
    arguments_done (g.some {all = all} {ts = ts} {us = us} x) m h few =
        some_arguments b m all ts us (starts_no_mark (codes ")") no_close (listed_begins x))
        (listed_done x m h b.turns (omega (arith, few)) few (record { trees = []; height = 0 }) ∙ rw (zero-max (heights all)) refl)

    listed_done : {all : ExprTrees} {ts us : List Token} → Listed b.types all ts us → (m : ℕ) → heights all ≤ m → (n : ℕ) → length ts ≤ n
        → length ts < b.turns → (so : FoundAll)
        → list_from (expr m) n so (at b ts) ≡ Ok (record { trees = so.trees ++ list_of all; height = max so.height (heights all) }, at b us)
    listed_done (g.last x c) m h zero len few so = absurd (omega (arith, len, whole_shrinks x))
    listed_done (g.last {a = a} {u = u} {ts = ts} {us = us} x c) m h (suc n) len few so =
        list_last b m n so a u ts us (inner_done level.Whole m a ts (u ∷ us) (omega (arith, h)) (λ j h'. whole_done x j h' few (closes u us c))) c
        ∙ rw (max-zero (height a)) refl
    listed_done (g.more x c y) m h zero len few so = absurd (omega (arith, len, whole_shrinks x))
    listed_done (g.more {a = a} {all = all} {u = u} {ts = ts} {us = us} {vs = vs} x c y) m h (suc n) len few so =
        list_more b m n so a u ts us (inner_done level.Whole m a ts (u ∷ us) (omega (arith, h)) (λ j h'. whole_done x j h' few (comma u us c))) c
        ∙ listed_done y m (omega (arith, h)) n (omega (arith, len, whole_shrinks x)) (omega (arith, few, whole_shrinks x))
        (record { trees = so.trees ++ a ∷ []; height = max so.height (height a) })
        ∙ rw (append_assoc so.trees (a ∷ []) (list_of all), max_assoc so.height (height a) (heights all)) refl

  -- What is an expression by the rules is read, where it is no deeper than it may be.
  pub whole_read : {a : ExprTree} {ts us : List Token} → Whole b.types a ts us → (room : ℕ) → height a ≤ room → length ts < b.turns → Ends us
      → expr room level.Whole (at b ts) ≡ Ok (found_of a, at b us)
  whole_read {a} {ts} {us} x room h few stop = inner_done level.Whole room a ts us h (λ m h'. whole_done x m h' few stop)
