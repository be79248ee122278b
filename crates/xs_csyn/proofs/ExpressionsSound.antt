-- What is read as an expression is in the grammar, and no deeper than it may be.
use Rattle.std.proofs.Common.{◌≡◌, ℕ, zero, suc, ◌+◌, ◌<◌, ◌≤◌, max, Bool, true, false, if◌then◌else◌, ◌&&◌, nat_le, List, [], ◌∷◌, ◌++◌, append_assoc, Option, Some, None, Ok, refl, ap, subst, sym, ◌∙◌, arith}
use Rattle.std.proofs.Math.Nat.{max-zero, zero-max}
use Rattle.std.proofs.lemmas.Bool.{and_parts, leb-false, leb-true, ltb-false}
use Rattle.std.proofs.lemmas.Option.{same_Some}
use Rattle.std.specs.Option.{option_map_or}
use Rattle.std.specs.Prelude.{codes}
use Rattle.std.specs.Str.{bytes_eq}
use Rattle.xs_base.proofs.Greatest.{max_assoc}
use Rattle.xs_base.specs.Readers.{◌>>=◌, and_then, pure}
use Rattle.xs_ctok.specs.declared.token.TokKind.{TokKind}
use Rattle.xs_ctok.specs.declared.token.TokKind.TheVariants as kind
use Rattle.xs_ctok.specs.declared.token.Token.{Token}
use Rattle.xs_csyn.proofs.Yields.{Yields, at, by_choice, by_eat, by_eat_here, by_expect, by_if, by_name, by_option, by_variable, by_variable_here, done, fails, step, weaken}
use Rattle.xs_cexpr.specs.ExpressionReader.{Found, FoundAll, FoundPlace, above, above_place, address, after_name, arguments, assign, assigned, at_level, binary, by_place, cast, choice, choose, chosen, climb, dereferenced, expr, flat, index, int2ptr, joined, last_suffix, list, list_from, list_place, literal, literal_of, named, named_place, no_nodes, opened, operand, other_choice, place, place_height as height_as, place_of, place_tree_of, placed, placed_as, pointed, prefixed, primary, st_place, stepped, suffixes, target_of, unary, whole, with_node, worded}
use Rattle.xs_csyn.specs.Grammar as g
use Rattle.xs_csyn.specs.Grammar.{AType, Arguments, Binary, Choice, Is, IsVariable, IsWord, Listed, NamedPlace, Operand, Place, Primary, Stars, TypeName, Unary, Whole, Words, line_of, line_of_place}
use Rattle.xs_cexpr.specs.ExpressionHeights.{height, heights, place_height}
use Rattle.xs_cinput.specs.Operators.{a_step, assignment, at_least, binary_ops, first_in, operator, prefix_op, prefix_ops, sign_in, steps}
use Rattle.xs_cexpr.specs.ExpressionTree as tree
use Rattle.xs_cexpr.specs.ExpressionTree.{ExprTree, ExprTrees, PlaceTree, exprs_of}
use Rattle.xs_cinput.specs.TokenInput.{Input, Reader, a_variable, after, consumed, expect, is_sign, is_type, line, line_at, next, refuse, sees, sees_type, sees_variable, sees_word, spelling, too_deep}
use Rattle.xs_cinput.specs.TypeReader.{a_type, a_type_word, joined_name, joins, sees_join, stars, stars_from, type_name}
use Rattle.xs_cexpr.specs.declared.node.Level.{Level}
use Rattle.xs_cexpr.specs.declared.node.Level.TheVariants as level
use Rattle.xs_cinput.specs.declared.tree.BinaryOp.{BinaryOp}
use Rattle.xs_cinput.specs.declared.tree.Step.{Step}
use Rattle.xs_values.specs.declared.unary_operator.UnOp.{UnOp}

-- ---- types

-- stars after those that were counted
record Counted (n : ℕ) (ts : List Token) (found : ℕ) (us : List Token) : Type 0 where
  more : ℕ
  is : found ≡ n + more
  stands : Stars more ts us

join_ways : {A : Type 0} {b : Input} {P : A → List Token → Type 0} (c : Bool) (x y : List ℕ) (i j : Input) (go : List ℕ → Reader A)
    → (c ≡ true → Yields b (go x i) P) → Yields b (go y j) P → Yields b (and_then (if c then Ok (x, i) else Ok (y, j)) go) P
join_ways true x y i j go h k = h refl
join_ways false x y i j go h k = k

by_join : {A : Type 0} {b : Input} (P : List Token → A → List Token → Type 0) (name : List ℕ) (ts : List Token) (go : List ℕ → Reader A)
    → ((u : Token) (us : List Token) → joins name u ≡ true → Yields b (go (name ++ 32 ∷ u.text) (at b us)) (P (u ∷ us)))
    → Yields b (go name (at b ts)) (P ts) → Yields b (and_then (joined_name name (at b ts)) go) (P ts)
unfolding joined_name sees_join next spelling
by_join P name [] go x y = y
by_join {A} {b} P name (u ∷ us) go x y = join_ways (joins name u) (name ++ 32 ∷ u.text) name (at b us) (at b (u ∷ us)) go (λ e. x u us e) y

module _ (b : Input) where
  type_end : (name : List ℕ) (ts us : List Token) → Words b.types name ts us
      → Yields b ((if bytes_eq name (codes "signed") then refuse else pure name) (at b us)) (λ n vs. TypeName b.types n ts vs)
  type_end name ts us x = by_choice _ _ _ _ (λ e. fails _) (λ e. done name us (g.type_name x e))

  type_word_ways : {A : Type 0} {P : A → List Token → Type 0} (t : Token) (ts : List Token) (go : List ℕ → Reader A)
      → (is_type b.types t ≡ true → Yields b (go t.text (at b ts)) P) → Yields b (and_then (a_type_word (at b (t ∷ ts))) go) P
  unfolding sees_type next spelling
  type_word_ways {A} {P} t ts go x = by (is_type b.types t) x
    where
      by : (c : Bool) → (c ≡ true → Yields b (go t.text (at b ts)) P) → Yields b (and_then (consumed c (at b (t ∷ ts))) go) P
      by true x = x refl
      by false x = fails _

  pub type_name_yields : (ts : List Token) → Yields b (type_name (at b ts)) (λ n us. TypeName b.types n ts us)
  unfolding type_name sees_type
  type_name_yields [] = fails _
  type_name_yields (t ∷ ts) =
      type_word_ways t ts _ (λ is. by_join (λ js n us. TypeName b.types n (t ∷ js) us) t.text ts _
      (λ u us j. by_join (λ js n vs. TypeName b.types n (t ∷ u ∷ js) vs) (t.text ++ 32 ∷ u.text) us _
      (λ v vs j'. type_end ((t.text ++ 32 ∷ u.text) ++ 32 ∷ v.text) (t ∷ u ∷ v ∷ vs) vs (g.three_words is j j'))
      (type_end (t.text ++ 32 ∷ u.text) (t ∷ u ∷ us) us (g.two_words is j)))
      (by_join (λ js n us. TypeName b.types n (t ∷ js) us) t.text ts _
      (λ u us j. type_end (t.text ++ 32 ∷ u.text) (t ∷ u ∷ us) us (g.two_words is j))
      (type_end t.text (t ∷ ts) ts (g.one_word is))))

  stars_from_yields : (m n : ℕ) (ts : List Token) → Yields b (stars_from m n (at b ts)) (Counted n ts)
  unfolding stars_from
  stars_from_yields zero n ts = fails _
  stars_from_yields (suc m) n ts =
      by_eat (λ _. Unit {0}) (Counted n) (codes "*") ts _ _ tt
      (λ u us _ star. weaken (stars_from_yields m (n + 1) us) (λ found vs c. record {
        more = suc c.more;
        is = omega (arith, c.is);
        stands = g.star star c.stands;
      }))
      (λ _ isnt. done n ts (record { more = 0; is = omega arith; stands = g.no_star }))

  pub stars_yields : (ts : List Token) → Yields b (stars (at b ts)) (λ n us. Stars n ts us)
  unfolding stars
  stars_yields ts = weaken (stars_from_yields b.turns 0 ts) (λ n us c. let same : n ≡ c.more = omega (arith, c.is) in rw same (c.stands))

  pub type_yields : (ts : List Token) → Yields b (a_type (at b ts)) (λ to us. AType b.types to ts us)
  unfolding a_type type_name sees_type line
  type_yields [] = fails _
  type_yields (t ∷ ts) = step _ _ (type_name_yields (t ∷ ts)) (λ name us x. step _ _ (stars_yields us) (λ n vs s. done _ vs (g.a_type x s)))

-- ---- what is read

-- A tree stands, and its height is the one that was told, and no more than it may be.
pub record Stood (R : ExprTree → List Token → List Token → Type 0) (room : ℕ) (ts : List Token) (f : Found) (us : List Token) : Type 0 where
  pub stands : R f.tree ts us
  pub tall : f.height ≡ height f.tree
  pub within : f.height ≤ room

pub record StoodPlace (types : List (List ℕ)) (room : ℕ) (ts : List Token) (p : FoundPlace) (us : List Token) : Type 0 where
  pub stands : Place types p.place ts us
  pub tall : p.height ≡ place_height p.place
  pub within : p.height ≤ room

pub record StoodAll (types : List (List ℕ)) (room : ℕ) (ts : List Token) (all : FoundAll) (us : List Token) : Type 0 where
  pub stands : Arguments types (exprs_of all.trees) ts us
  pub tall : all.height ≡ heights (exprs_of all.trees)
  pub within : all.height ≤ room

-- what is added to arguments
record Added (types : List (List ℕ)) (room : ℕ) (all : FoundAll) (ts : List Token) (found : FoundAll) (us : List Token) : Type 0 where
  added : List ExprTree
  is : found.trees ≡ all.trees ++ added
  stands : Listed types (exprs_of added) ts us
  tall : found.height ≡ max all.height (heights (exprs_of added))
  within : heights (exprs_of added) ≤ room

-- A tree of this level stands. After operands no operator follows that would belong to them.
abbrev pub Stands : List (List ℕ) → Level → ExprTree → List Token → List Token → Type 0
Stands types level.Whole a ts us = Whole types a ts us
Stands types level.Choice a ts us = Choice types a ts us
Stands types (level.Binary n) a ts us = Binary types n a ts us × (at_least n (first_in binary_ops us) ≡ None)
Stands types level.Unary a ts us = Unary types a ts us

abbrev pub Reads : Input → (Level → Reader Found) → ℕ → Type 0
Reads b inner below = (l : Level) (ts : List Token) → Yields b (inner l (at b ts)) (Stood (Stands b.types l) below ts)

abbrev pub ReadsPlace : Input → Reader FoundPlace → ℕ → Type 0
ReadsPlace b inner_place below = (ts : List Token) → Yields b (inner_place (at b ts)) (StoodPlace b.types below ts)

-- ---- lines

pub primary_line : {types : List (List ℕ)} (last : ℕ) {a : ExprTree} {ts us : List Token} → Primary types a ts us → line_at last ts ≡ line_of a
primary_line last (g.name v) = refl
primary_line last (g.int k) = refl
primary_line last (g.char k) = refl
primary_line last (g.text k) = refl
primary_line last (g.call v o x) = refl
primary_line last (g.arrow v o n) = refl
primary_line last (g.paren o x c) = refl
primary_line last (g.int2ptr w o ty m x c) = refl

pub named_place_line : {types : List (List ℕ)} (last : ℕ) {p : PlaceTree} {ts us : List Token} → NamedPlace types p ts us → line_at last ts ≡ line_of_place p
named_place_line last (g.variable v) = refl
named_place_line last (g.field v o n) = refl
named_place_line last (g.st v s o x c) = refl

pub place_line : {types : List (List ℕ)} (last : ℕ) {p : PlaceTree} {ts us : List Token} → Place types p ts us → line_at last ts ≡ line_of_place p
place_line last (g.target s v) = refl
place_line last (g.is_named x) = named_place_line last x

pub operand_line : {types : List (List ℕ)} (last : ℕ) {a : ExprTree} {ts us : List Token} → Operand types a ts us → line_at last ts ≡ line_of a
operand_line last (g.index x o y c) = operand_line last x
operand_line last (g.after p s) = named_place_line last p
operand_line last (g.is_primary x) = primary_line last x

pub unary_line : {types : List (List ℕ)} (last : ℕ) {a : ExprTree} {ts us : List Token} → Unary types a ts us → line_at last ts ≡ line_of a
unary_line last (g.prefixed o x) = refl
unary_line last (g.cast o ty c x) = refl
unary_line last (g.dereferenced s x) = refl
unary_line last (g.address o v) = refl
unary_line last (g.before s p) = refl
unary_line last (g.is_operand x) = operand_line last x

pub binary_line : {types : List (List ℕ)} (last : ℕ) {n : ℕ} {a : ExprTree} {ts us : List Token} → Binary types n a ts us → line_at last ts ≡ line_of a
binary_line last (g.two x o le y) = binary_line last x
binary_line last (g.is_unary x) = unary_line last x

pub choice_line : {types : List (List ℕ)} (last : ℕ) {a : ExprTree} {ts us : List Token} → Choice types a ts us → line_at last ts ≡ line_of a
choice_line last (g.choose x o y c z) = binary_line last x
choice_line last (g.is_binary x) = binary_line last x

pub whole_line : {types : List (List ℕ)} (last : ℕ) {a : ExprTree} {ts us : List Token} → Whole types a ts us → line_at last ts ≡ line_of a
whole_line last (g.set p o x) = place_line last p
whole_line last (g.is_choice x) = choice_line last x

-- ---- places

some_listed : {types : List (List ℕ)} {all : ExprTrees} {ts us : List Token} → Listed types all ts us → all ≡ tree.NoExprs → ⊥
some_listed (g.last x c) e = cc
some_listed (g.more x c y) e = cc

one_argument : {types : List (List ℕ)} (a : ExprTree) (n u : Token) (ts us : List Token) → IsVariable types n → bytes_eq n.text (codes "ST") ≡ true
    → Is (codes "(") u → Arguments types (tree.MoreExprs a tree.NoExprs) ts us → NamedPlace types (tree.StPlace n.span.line a) (n ∷ u ∷ ts) us
one_argument a n u ts us v s o (g.some (g.last x c)) = g.st v s o x c
one_argument a n u ts us v s o (g.some (g.more x c y)) = absurd (some_listed y refl)

list_place_stands : {types : List (List ℕ)} (args : ExprTrees) (p : PlaceTree) (n u : Token) (ts us : List Token) → list_place n.span.line args ≡ Some p
    → IsVariable types n → bytes_eq n.text (codes "ST") ≡ true → Is (codes "(") u → Arguments types args ts us → NamedPlace types p (n ∷ u ∷ ts) us
list_place_stands tree.NoExprs p n u ts us e v s o x = absurd cc
list_place_stands (tree.MoreExprs a tree.NoExprs) p n u ts us e v s o x =
    let same : tree.StPlace n.span.line a ≡ p = cc in rw (← same) (one_argument a n u ts us v s o x)
list_place_stands (tree.MoreExprs a (tree.MoreExprs c all)) p n u ts us e v s o x = absurd cc

place_in_primary : {types : List (List ℕ)} (a : ExprTree) (p : PlaceTree) (ts us : List Token) → place_tree_of a ≡ Some p → Primary types a ts us
    → NamedPlace types p ts us
place_in_primary a p ts us e (g.name {t = n} v) = let same : tree.VarPlace n.span.line n.text ≡ p = cc in rw (← same) (g.variable v)
place_in_primary a p ts us e (g.int k) = absurd cc
place_in_primary a p ts us e (g.char k) = absurd cc
place_in_primary a p ts us e (g.text k) = absurd cc
place_in_primary {types} a p ts us e (g.call {args = args} {t = n} {u = u} {ts = ts'} v o x) = by (bytes_eq n.text (codes "ST")) refl e
  where
    by : (c : Bool) → bytes_eq n.text (codes "ST") ≡ c → (if c then list_place n.span.line args else None) ≡ Some p → NamedPlace types p (n ∷ u ∷ ts') us
    by true s e = list_place_stands args p n u ts' us e v s o x
    by false s e = absurd cc
place_in_primary a p ts us e (g.arrow {t = n} {v = f} v o m) = let same : tree.FieldPlace n.span.line n.text f.text ≡ p = cc in rw (← same) (g.field v o m)
place_in_primary a p ts us e (g.paren o x c) = absurd cc
place_in_primary a p ts us e (g.int2ptr w o ty m x c) = absurd cc

pub place_in_operand : {types : List (List ℕ)} (a : ExprTree) (p : PlaceTree) (ts us : List Token) → place_tree_of a ≡ Some p → Operand types a ts us
    → NamedPlace types p ts us
place_in_operand a p ts us e (g.index x o y c) = absurd cc
place_in_operand a p ts us e (g.after q s) = absurd cc
place_in_operand a p ts us e (g.is_primary x) = place_in_primary a p ts us e x

target_in_primary : {types : List (List ℕ)} (a : ExprTree) (p : PlaceTree) (t : Token) (ts us : List Token) → target_of t.span.line a ≡ Some p
    → Is (codes "*") t → Primary types a ts us → Place types p (t ∷ ts) us
target_in_primary a p t ts us e s (g.name {t = n} v) = let same : tree.TargetPlace t.span.line n.text ≡ p = cc in rw (← same) (g.target s v)
target_in_primary a p t ts us e s (g.int k) = absurd cc
target_in_primary a p t ts us e s (g.char k) = absurd cc
target_in_primary a p t ts us e s (g.text k) = absurd cc
target_in_primary a p t ts us e s (g.call v o x) = absurd cc
target_in_primary a p t ts us e s (g.arrow v o m) = absurd cc
target_in_primary a p t ts us e s (g.paren o x c) = absurd cc
target_in_primary a p t ts us e s (g.int2ptr w o ty m x c) = absurd cc

target_in_unary : {types : List (List ℕ)} (a : ExprTree) (p : PlaceTree) (t : Token) (ts us : List Token) → target_of t.span.line a ≡ Some p
    → Is (codes "*") t → Unary types a ts us → Place types p (t ∷ ts) us
target_in_unary a p t ts us e s (g.prefixed o x) = absurd cc
target_in_unary a p t ts us e s (g.cast o ty c x) = absurd cc
target_in_unary a p t ts us e s (g.dereferenced o x) = absurd cc
target_in_unary a p t ts us e s (g.address o v) = absurd cc
target_in_unary a p t ts us e s (g.before o q) = absurd cc
target_in_unary a p t ts us e s (g.is_operand (g.index x o y c)) = absurd cc
target_in_unary a p t ts us e s (g.is_operand (g.after q o)) = absurd cc
target_in_unary a p t ts us e s (g.is_operand (g.is_primary x)) = target_in_primary a p t ts us e s x

place_in_unary : {types : List (List ℕ)} (a : ExprTree) (p : PlaceTree) (ts us : List Token) → place_tree_of a ≡ Some p → Unary types a ts us
    → Place types p ts us
place_in_unary a p ts us e (g.prefixed o x) = absurd cc
place_in_unary a p ts us e (g.cast o ty c x) = absurd cc
place_in_unary a p ts us e (g.dereferenced {a = d} {t = t} {ts = ts'} o x) = target_in_unary d p t ts' us e o x
place_in_unary a p ts us e (g.address o v) = absurd cc
place_in_unary a p ts us e (g.before o q) = absurd cc
place_in_unary a p ts us e (g.is_operand x) = g.is_named (place_in_operand a p ts us e x)

pub place_in_choice : {types : List (List ℕ)} (a : ExprTree) (p : PlaceTree) (ts us : List Token) → place_tree_of a ≡ Some p → Choice types a ts us
    → Place types p ts us
place_in_choice a p ts us e (g.choose x o y c z) = absurd cc
place_in_choice a p ts us e (g.is_binary (g.two x o le y)) = absurd cc
place_in_choice a p ts us e (g.is_binary (g.is_unary x)) = place_in_unary a p ts us e x

-- A place has the line of the expression that it is.
listed_line : (line : ℕ) (args : ExprTrees) (p : PlaceTree) → list_place line args ≡ Some p → line_of_place p ≡ line
listed_line line tree.NoExprs p e = absurd cc
listed_line line (tree.MoreExprs a tree.NoExprs) p e = ap line_of_place (sym (same_Some (tree.StPlace line a) p e))
listed_line line (tree.MoreExprs a (tree.MoreExprs c all)) p e = absurd cc

target_line : (line : ℕ) (a : ExprTree) (p : PlaceTree) → target_of line a ≡ Some p → line_of_place p ≡ line
target_line line (tree.Var l name) p e = ap line_of_place (sym (same_Some (tree.TargetPlace line name) p e))
target_line line a p e = absurd cc

pub placed_line : (a : ExprTree) (p : PlaceTree) → place_tree_of a ≡ Some p → line_of_place p ≡ line_of a
placed_line (tree.Var line name) p e = ap line_of_place (sym (same_Some (tree.VarPlace line name) p e))
placed_line (tree.Deref line a) p e = target_line line a p e
placed_line (tree.Arrow line name field) p e = ap line_of_place (sym (same_Some (tree.FieldPlace line name field) p e))
placed_line (tree.Call line name args) p e = by (bytes_eq name (codes "ST")) e
  where
    by : (c : Bool) → (if c then list_place line args else None) ≡ Some p → line_of_place p ≡ line
    by true e = listed_line line args p e
    by false e = absurd cc
placed_line a p e = absurd cc

-- A place has its own height.
listed_tall : (line : ℕ) (args : ExprTrees) (p : PlaceTree) → list_place line args ≡ Some p → height_as p (heights args + 1) ≡ place_height p
listed_tall line tree.NoExprs p e = absurd cc
listed_tall line (tree.MoreExprs a tree.NoExprs) p e =
    let same : tree.StPlace line a ≡ p = same_Some (tree.StPlace line a) p e in rw (← same, max-zero (height a)) refl
listed_tall line (tree.MoreExprs a (tree.MoreExprs c all)) p e = absurd cc

target_tall : (line n : ℕ) (a : ExprTree) (p : PlaceTree) → target_of line a ≡ Some p → height_as p n ≡ place_height p
target_tall line n (tree.Var l name) p e = let same : tree.TargetPlace line name ≡ p = same_Some (tree.TargetPlace line name) p e in rw (← same) refl
target_tall line n a p e = absurd cc

pub placed_tall : (a : ExprTree) (p : PlaceTree) → place_tree_of a ≡ Some p → height_as p (height a) ≡ place_height p
placed_tall (tree.Var line name) p e = let same : tree.VarPlace line name ≡ p = same_Some (tree.VarPlace line name) p e in rw (← same) refl
placed_tall (tree.Deref line a) p e = target_tall line (height a + 1) a p e
placed_tall (tree.Arrow line name field) p e =
    let same : tree.FieldPlace line name field ≡ p = same_Some (tree.FieldPlace line name field) p e in rw (← same) refl
placed_tall (tree.Call line name args) p e = by (bytes_eq name (codes "ST")) e
  where
    by : (c : Bool) → (if c then list_place line args else None) ≡ Some p → height_as p (heights args + 1) ≡ place_height p
    by true e = listed_tall line args p e
    by false e = absurd cc
placed_tall a p e = absurd cc

abbrev place_found : Found → PlaceTree → FoundPlace
place_found left p = record { place = p; height = height_as p left.height }

by_placed : {b : Input} {P : Found → List Token → Type 0} (f : FoundPlace → Reader Found) (left : Found) (i : Input)
    → ((p : PlaceTree) → place_tree_of left.tree ≡ Some p → Yields b (f (place_found left p) i) P) → Yields b (pure left i) P
    → Yields b (by_place f (placed left) i) P
by_placed {b} {P} f left i x y = by (place_tree_of left.tree) refl
  where
    by : (o : Option PlaceTree) → place_tree_of left.tree ≡ o → Yields b (by_place f (placed_as left o) i) P
    by None e = y
    by (Some p) e = x p e

-- ---- operators

pub at_least_some : (n : ℕ) (q : Option (BinaryOp × ℕ)) (o : BinaryOp × ℕ) → at_least n q ≡ Some o → (q ≡ Some o) × (n ≤ o.1)
at_least_some n None o e = absurd cc
at_least_some n (Some q) o e = by (nat_le n q.1) refl e
  where
    by : (c : Bool) → nat_le n q.1 ≡ c → (if c then Some q else None) ≡ Some o → (◌≡◌ {A = Option (BinaryOp × ℕ)} (Some q) (Some o)) × (n ≤ o.1)
    by true le e = let same : q ≡ o = same_Some q o e in (e, subst (λ (z : BinaryOp × ℕ). n ≤ z.1) same (leb-true n q.1 le))
    by false le e = absurd cc

pub at_least_none : (n : ℕ) (q : Option (BinaryOp × ℕ)) (o : BinaryOp × ℕ) → at_least n q ≡ None → q ≡ Some o → o.1 < n
at_least_none n None o e f = absurd cc
at_least_none n (Some q) o e f = by (nat_le n q.1) refl e
  where
    by : (c : Bool) → nat_le n q.1 ≡ c → (◌≡◌ {A = Option (BinaryOp × ℕ)} (if c then Some q else None) None) → o.1 < n
    by true le e = absurd cc
    by false le e = subst (λ (z : BinaryOp × ℕ). z.1 < n) (same_Some q o f) (leb-false n q.1 le)

-- Operands and operators up to here stand, and so they do as the left operand of what follows.
record Climbs (types : List (List ℕ)) (room tight : ℕ) (ts : List Token) (left : Found) (us : List Token) : Type 0 where
  stood : Stood (Binary types tight) room ts left us
  by : (o : BinaryOp × ℕ) → at_least tight (first_in binary_ops us) ≡ Some o → Binary types o.1 left.tree ts us

first_climbs : {types : List (List ℕ)} {room : ℕ} (tight : ℕ) {ts : List Token} {left : Found} {us : List Token} → Stood (Unary types) room ts left us
    → Climbs types room tight ts left us
first_climbs tight x = record {
  stood = record { stands = g.is_unary x.stands; tall = x.tall; within = x.within };
  by = λ o e. g.is_unary x.stands;
}

grown : {types : List (List ℕ)} (below tight line : ℕ) (ts : List Token) (left right : Found) (u : Token) (us vs : List Token) (o : BinaryOp × ℕ)
    → line ≡ line_of left.tree → at_least tight (sign_in binary_ops u) ≡ Some o → left.height ≤ below → Climbs types (suc below) tight ts left (u ∷ us)
    → Stood (Stands types (level.Binary (o.1 + 1))) below us right vs → Climbs types (suc below) tight ts (joined (tree.Two line o.0) left right) vs
grown {types} below tight line ts left right u us vs o e is room x y =
    let q = at_least_some tight (sign_in binary_ops u) o is in
    record {
      stood = record {
        stands = two tight q.1;
        tall = rw (x.stood.tall, y.tall) refl;
        within = omega (arith, room, y.within);
      };
      by = λ o' is'.
          let q' = at_least_some tight (first_in binary_ops vs) o' is' in
          let less : o'.1 < o.1 + 1 = at_least_none (o.1 + 1) (first_in binary_ops vs) o' y.stands.1 q'.0 in
          two o'.1 (omega (arith, less));
    }
  where
    two : (k : ℕ) → k ≤ o.1 → Binary types k (tree.Two line o.0 left.tree right.tree) ts vs
    two k le = rw e (g.two (x.by o is) (at_least_some tight (sign_in binary_ops u) o is).0 le y.stands.0)

-- ---- literals

literal_stands : {types : List (List ℕ)} (k : TokKind) (t : Token) (ts : List Token) (a : ExprTree) → t.kind ≡ k → literal_of t.span.line k ≡ Some a
    → Primary types a (t ∷ ts) ts × (height a ≡ 1)
literal_stands (kind.Int l) t ts a e is = let same : tree.Num t.span.line l ≡ a = same_Some (tree.Num t.span.line l) a is in rw (← same) (g.int e, refl)
literal_stands (kind.Char c) t ts a e is = let same : tree.Chr t.span.line c ≡ a = same_Some (tree.Chr t.span.line c) a is in rw (← same) (g.char e, refl)
literal_stands (kind.Text x) t ts a e is = let same : tree.Str t.span.line x ≡ a = same_Some (tree.Str t.span.line x) a is in rw (← same) (g.text e, refl)
literal_stands k t ts a e is = absurd cc

-- ---- the rules

module _ (b : Input) (inner : Level → Reader Found) (below : ℕ) (H : Reads b inner below) where
  list_yields : (n : ℕ) (all : FoundAll) (ts : List Token) → Yields b (list_from inner n all (at b ts)) (Added b.types below all ts)
  unfolding list_from
  list_yields zero all ts = fails _
  list_yields (suc n) all ts =
      step _ _ (H level.Whole ts) (λ one us x. by_eat (Stood (Whole b.types) below ts one) (λ _. Added b.types below all ts) (codes ",") us _ _ x
      (λ u vs x' comma. weaken (list_yields n (with_node all one) vs) (λ found ws m. record {
        added = one.tree ∷ m.added;
        is = m.is ∙ append_assoc all.trees (one.tree ∷ []) m.added;
        stands = g.more x'.stands comma m.stands;
        tall = m.tall ∙ rw (x'.tall, max_assoc all.height (height one.tree) (heights (exprs_of m.added))) refl;
        within = omega (arith, m.within, x'.within, x'.tall);
      }))
      (λ x' isnt. by_expect (Stood (Whole b.types) below ts one) (λ _. Added b.types below all ts) (codes ")") us _ x' (λ u vs x'' close. done _ vs (record {
        added = one.tree ∷ [];
        is = refl;
        stands = g.last x''.stands close;
        tall = rw (x''.tall, max-zero (height one.tree)) refl;
        within = omega (arith, x''.within, x''.tall);
      }))))

  arguments_yields : (ts : List Token) → Yields b (arguments inner (at b ts)) (StoodAll b.types below ts)
  unfolding arguments list
  arguments_yields ts =
      by_eat (λ _. Unit {0}) (StoodAll b.types below) (codes ")") ts _ _ tt
      (λ u us _ close. done _ us (record { stands = g.none close; tall = refl; within = omega arith }))
      (λ _ isnt. weaken (list_yields b.turns no_nodes ts) (λ found us m. record {
        stands = rw m.is (g.some m.stands);
        tall = rw (m.is) (m.tall ∙ zero-max (heights (exprs_of m.added)));
        within = omega (arith, m.tall, m.within);
      }))

  after_name_yields : (t : Token) (ts : List Token) → IsVariable b.types t
      → Yields b (after_name inner t.span.line t.text (at b ts)) (Stood (Primary b.types) (suc below) (t ∷ ts))
  unfolding after_name
  after_name_yields t ts v =
      by_eat (λ _. Unit {0}) (λ js. Stood (Primary b.types) (suc below) (t ∷ js)) (codes "(") ts _ _ tt
      (λ u us _ opening. step _ _ (arguments_yields us) (λ all vs x. done _ vs (record {
        stands = g.call v opening x.stands;
        tall = ap (λ n. n + 1) x.tall;
        within = omega (arith, x.within);
      })))
      (λ _ isnt. by_eat (λ _. Unit {0}) (λ js. Stood (Primary b.types) (suc below) (t ∷ js)) (codes "->") ts _ _ tt
      (λ u us _ arrow. by_name (λ _. Unit {0}) (λ js. Stood (Primary b.types) (suc below) (t ∷ u ∷ js)) us _ tt
      (λ w vs _ n. done _ vs (record { stands = g.arrow v arrow n; tall = refl; within = omega arith })))
      (λ _ isnt'. done _ ts (record { stands = g.name v; tall = refl; within = omega arith })))

  int2ptr_yields : (t : Token) (ts : List Token) → IsWord (codes "INT2PTR") t
      → Yields b (int2ptr inner t.span.line (at b ts)) (Stood (Primary b.types) (suc below) (t ∷ ts))
  unfolding int2ptr
  int2ptr_yields t ts w =
      by_expect (λ _. Unit {0}) (λ js. Stood (Primary b.types) (suc below) (t ∷ js)) (codes "(") ts _ tt
      (λ u us _ opening. step _ _ (type_yields b us)
      (λ to vs ty. by_expect (AType b.types to us) (λ _. Stood (Primary b.types) (suc below) (t ∷ u ∷ us)) (codes ",") vs _ ty
      (λ x ws ty' comma. step _ _ (H level.Whole ws)
      (λ a xs y. by_expect (Stood (Whole b.types) below ws a) (λ _. Stood (Primary b.types) (suc below) (t ∷ u ∷ us)) (codes ")") xs _ y
      (λ z ys y' close. done _ ys (record {
        stands = g.int2ptr w opening ty' comma y'.stands close;
        tall = ap (λ n. n + 1) y'.tall;
        within = omega (arith, y'.within);
      }))))))

  named_yields : (t : Token) (ts : List Token) → Yields b (named inner t.span.line (at b (t ∷ ts))) (Stood (Primary b.types) (suc below) (t ∷ ts))
  unfolding named
  named_yields t ts = by_variable_here t ts _ (λ v. after_name_yields t ts v)

  pub primary_yields : (t : Token) (ts : List Token) → Yields b (primary inner t.span.line (at b (t ∷ ts))) (Stood (Primary b.types) (suc below) (t ∷ ts))
  unfolding primary literal worded sees_word next
  primary_yields t ts =
      by_option (literal t.span.line (at b (t ∷ ts))) _ _ _
      (λ a is. let x = literal_stands t.kind t ts a refl is in done _ ts (record { stands = x.0; tall = sym x.1; within = omega arith }))
      (λ none. by_if (sees_word (codes "INT2PTR") (at b (t ∷ ts))) _ _ (λ w. int2ptr_yields t ts w) (λ isnt. named_yields t ts))

  st_yields : (t : Token) (ts : List Token) → IsVariable b.types t
      → Yields b (if bytes_eq t.text (codes "ST") && sees (codes "(") (at b ts)
      then and_then (inner level.Whole (next (at b ts))) (λ a. expect (codes ")") >>= λ _. pure (st_place t.span.line a))
      else Ok (flat (tree.VarPlace t.span.line t.text), at b ts)) (StoodPlace b.types (suc below) (t ∷ ts))
  unfolding sees next
  st_yields t [] v =
      by_if _ _ _ (λ both. absurd (no_both (bytes_eq t.text (codes "ST")) both))
      (λ isnt. done _ [] (record { stands = g.is_named (g.variable v); tall = refl; within = omega arith }))
    where
      no_both : (c : Bool) → (c && false) ≡ true → ⊥
      no_both true e = absurd cc
      no_both false e = absurd cc
  st_yields t (u ∷ us) v =
      by_if _ _ _ (λ both. let p = and_parts (bytes_eq t.text (codes "ST")) (is_sign (codes "(") u) both in
      step _ _ (H level.Whole us) (λ a vs x. by_expect (Stood (Whole b.types) below us a) (λ _. StoodPlace b.types (suc below) (t ∷ u ∷ us)) (codes ")") vs _ x
      (λ w ws x' close. done _ ws (record {
        stands = g.is_named (g.st v p.0 p.1 x'.stands close);
        tall = ap (λ n. n + 1) x'.tall;
        within = omega (arith, x'.within);
      }))))
      (λ isnt. done _ (u ∷ us) (record { stands = g.is_named (g.variable v); tall = refl; within = omega arith }))

  named_place_yields : (t : Token) (ts : List Token) → IsVariable b.types t
      → Yields b (named_place inner t.span.line t.text (at b ts)) (StoodPlace b.types (suc below) (t ∷ ts))
  unfolding named_place
  named_place_yields t ts v =
      by_eat (λ _. Unit {0}) (λ js. StoodPlace b.types (suc below) (t ∷ js)) (codes "->") ts _ _ tt
      (λ u us _ arrow. by_name (λ _. Unit {0}) (λ js. StoodPlace b.types (suc below) (t ∷ u ∷ js)) us _ tt
      (λ w vs _ n. done _ vs (record { stands = g.is_named (g.field v arrow n); tall = refl; within = omega arith })))
      (λ _ isnt. st_yields t ts v)

  pub place_yields : (ts : List Token) → Yields b (place inner (at b ts)) (StoodPlace b.types (suc below) ts)
  unfolding place line sees after a_variable sees_variable
  place_yields [] = fails _
  place_yields (t ∷ ts) =
      by_eat_here (codes "*") t ts _ _
      (λ star. by_variable (λ _. Unit {0}) (λ js. StoodPlace b.types (suc below) (t ∷ js)) ts _ tt
      (λ u us _ v. done _ us (record { stands = g.target star v; tall = refl; within = omega arith })))
      (λ isnt. by_variable_here t ts _ (λ v. named_place_yields t ts v))

-- what is read as an operand, and its line
abbrev Suffixed : List (List ℕ) → ℕ → ℕ → List Token → Found → List Token → Type 0
Suffixed types room line ts f us = Stood (Operand types) room ts f us × (line ≡ line_of f.tree)

module _ (b : Input) (inner : Level → Reader Found) (inner_place : Reader FoundPlace) (below : ℕ) (H : Reads b inner below)
    (HP : ReadsPlace b inner_place below) where
  index_yields : (line : ℕ) (left : Found) (ts : List Token) (u : Token) (us : List Token) → line ≡ line_of left.tree → Is (codes "[") u
      → Stood (Operand b.types) (suc below) ts left (u ∷ us)
      → Yields b (index inner inner_place below line left (at b (u ∷ us))) (Suffixed b.types (suc below) line ts)
  unfolding index next
  index_yields line left ts u us e is x =
      by_choice _ _ _ _ (λ deep. fails _) (λ room. step _ _ (H level.Whole us)
      (λ a vs y. by_expect (Stood (Whole b.types) below us a) (λ _. Suffixed b.types (suc below) line ts) (codes "]") vs _ y
      (λ v ws y' close. done (joined (tree.Index line) left a) ws (
        record {
          stands = rw e (g.index x.stands is y'.stands close);
          tall = rw (x.tall, y'.tall) refl;
          within = omega (arith, ltb-false below left.height room, y'.within);
        },
        refl,
      ))))

  stepped_on : (line : ℕ) (left : Found) (p : PlaceTree) (s : Step) (ts : List Token) (u : Token) (us : List Token) → line ≡ line_of left.tree
      → place_tree_of left.tree ≡ Some p → sign_in steps u ≡ Some s → height_as p left.height ≤ below → Stood (Operand b.types) (suc below) ts left (u ∷ us)
      → Stood (Operand b.types) (suc below) ts (above_place (λ q. tree.After line q s) (place_found left p)) us
  stepped_on line left p s ts u us e is sign room x = record {
    stands = rw (e, ← placed_line left.tree p is) (g.after (place_in_operand left.tree p ts (u ∷ us) is x.stands) sign);
    tall = ap (λ n. n + 1) (ap (height_as p) x.tall ∙ placed_tall left.tree p is);
    within = omega (arith, room);
  }

  suffixes_yields : (n line : ℕ) (left : Found) (ts us : List Token) → line ≡ line_of left.tree → Stood (Operand b.types) (suc below) ts left us
      → Yields b (suffixes inner inner_place below line n left (at b us)) (Stood (Operand b.types) (suc below) ts)
  unfolding suffixes last_suffix sees a_step next
  suffixes_yields zero line left ts [] e x = done left [] x
  suffixes_yields zero line left ts (u ∷ us) e x =
      by_if (sees (codes "[") (at b (u ∷ us))) _ _ (λ is. fails _)
      (λ isnt. by_option (a_step (at b (u ∷ us))) (λ s. by_place (λ p. too_deep) (placed left)) (pure left) (at b (u ∷ us))
      (λ s sign. by_placed (λ p. too_deep) left (at b (u ∷ us)) (λ p is. fails _) (done left (u ∷ us) x)) (λ none. done left (u ∷ us) x))
  suffixes_yields (suc n) line left ts [] e x = done left [] x
  suffixes_yields (suc n) line left ts (u ∷ us) e x =
      by_if (sees (codes "[") (at b (u ∷ us))) _ _ (λ is. step _ _ (index_yields line left ts u us e is x)
      (λ one vs y. suffixes_yields n line one ts vs y.1 y.0))
      (λ isnt. by_option (a_step (at b (u ∷ us))) _ _ _
      (λ s sign. by_placed _ left _
      (λ p is. by_choice _ _ _ _ (λ deep. fails _) (λ room. suffixes_yields n line (above_place (λ q. tree.After line q s) (place_found left p)) ts us refl
      (stepped_on line left p s ts u us e is sign (ltb-false below (height_as p left.height) room) x)))
      (done left (u ∷ us) x))
      (λ none. done left (u ∷ us) x))

  -- an operand is one of an operator that stands before it
  operand_is_unary : (n line : ℕ) (left : Found) (ts us : List Token) → line ≡ line_of left.tree → Stood (Operand b.types) (suc below) ts left us
      → Yields b (suffixes inner inner_place below line n left (at b us)) (Stood (Unary b.types) (suc below) ts)
  operand_is_unary n line left ts us e x =
      weaken (suffixes_yields n line left ts us e x) (λ f vs y. record { stands = g.is_operand y.stands; tall = y.tall; within = y.within })

  cast_yields : (t : Token) (ts : List Token) → Is (codes "(") t
      → Yields b (cast inner inner_place below t.span.line (at b ts)) (Stood (Unary b.types) (suc below) (t ∷ ts))
  unfolding cast
  cast_yields t ts opening =
      step _ _ (type_yields b ts)
      (λ to us ty. by_expect (AType b.types to ts) (λ _. Stood (Unary b.types) (suc below) (t ∷ ts)) (codes ")") us _ ty
      (λ u vs ty' close. step _ _ (H level.Unary vs) (λ a ws x. done _ ws (record {
        stands = g.cast opening ty' close x.stands;
        tall = ap (λ n. n + 1) x.tall;
        within = omega (arith, x.within);
      }))))

  opened_yields : (t : Token) (ts : List Token) → Is (codes "(") t
      → Yields b (opened inner inner_place below t.span.line (at b ts)) (Stood (Unary b.types) (suc below) (t ∷ ts))
  unfolding opened
  opened_yields t ts opening =
      by_if (sees_type (at b ts)) _ _ (λ is. cast_yields t ts opening) (λ isnt. step _ _ (H level.Whole ts)
      (λ a us x. by_expect (Stood (Whole b.types) below ts a) (λ _. Stood (Unary b.types) (suc below) (t ∷ ts)) (codes ")") us _ x
      (λ u vs x' close. operand_is_unary below t.span.line (above (tree.Paren t.span.line) a) (t ∷ ts) vs refl (record {
        stands = g.is_primary (g.paren opening x'.stands close);
        tall = ap (λ n. n + 1) x'.tall;
        within = omega (arith, x'.within);
      }))))

  operand_yields : (t : Token) (ts : List Token)
      → Yields b (operand inner inner_place below (at b (t ∷ ts))) (Stood (Unary b.types) (suc below) (t ∷ ts))
  unfolding operand line
  operand_yields t ts =
      by_eat_here (codes "(") t ts _ _ (λ opening. opened_yields t ts opening)
      (λ isnt. step _ _ (primary_yields b inner below H t ts)
      (λ first us x. operand_is_unary below t.span.line first (t ∷ ts) us (primary_line b.last x.stands)
      (record { stands = g.is_primary x.stands; tall = x.tall; within = x.within })))

  prefixed_yields : (op : UnOp) (t : Token) (ts : List Token) → sign_in prefix_ops t ≡ Some op
      → Yields b (prefixed inner inner_place below op (at b (t ∷ ts))) (Stood (Unary b.types) (suc below) (t ∷ ts))
  unfolding prefixed line next
  prefixed_yields op t ts is =
      step _ _ (H level.Unary ts)
      (λ a us x. done _ us (record { stands = g.prefixed is x.stands; tall = ap (λ n. n + 1) x.tall; within = omega (arith, x.within) }))

  dereferenced_yields : (t : Token) (ts : List Token) → Is (codes "*") t
      → Yields b (dereferenced inner inner_place below (at b (t ∷ ts))) (Stood (Unary b.types) (suc below) (t ∷ ts))
  unfolding dereferenced line next
  dereferenced_yields t ts is =
      step _ _ (H level.Unary ts)
      (λ a us x. done _ us (record { stands = g.dereferenced is x.stands; tall = ap (λ n. n + 1) x.tall; within = omega (arith, x.within) }))

  stepped_yields : (s : Step) (t : Token) (ts : List Token) → sign_in steps t ≡ Some s
      → Yields b (stepped inner inner_place below s (at b (t ∷ ts))) (Stood (Unary b.types) (suc below) (t ∷ ts))
  unfolding stepped line next
  stepped_yields s t ts is =
      step _ _ (HP ts) (λ p us x. done _ us (record { stands = g.before is x.stands; tall = ap (λ n. n + 1) x.tall; within = omega (arith, x.within) }))

  address_yields : (t : Token) (ts : List Token) → Is (codes "&") t → Yields b (address (at b (t ∷ ts))) (Stood (Unary b.types) (suc below) (t ∷ ts))
  unfolding address line next
  address_yields t ts is =
      by_variable (λ _. Unit {0}) (λ js. Stood (Unary b.types) (suc below) (t ∷ js)) ts _ tt
      (λ u us _ v. done _ us (record { stands = g.address is v; tall = refl; within = omega arith }))

  pointed_yields : (t : Token) (ts : List Token)
      → Yields b (pointed inner inner_place below (at b (t ∷ ts))) (Stood (Unary b.types) (suc below) (t ∷ ts))
  unfolding pointed sees
  pointed_yields t ts =
      by_if (sees (codes "*") (at b (t ∷ ts))) _ _ (λ star. dereferenced_yields t ts star) (λ isnt. by_if (sees (codes "&") (at b (t ∷ ts))) _ _
      (λ amp. address_yields t ts amp) (λ isnt'. operand_yields t ts))

  unary_none : {P : Found → List Token → Type 0} → Yields b (unary inner inner_place below (at b [])) P
  unfolding unary prefix_op a_step pointed sees operand after line primary literal worded sees_word named a_variable sees_variable
  unary_none = fails _

  unary_yields : (ts : List Token) → Yields b (unary inner inner_place below (at b ts)) (Stood (Unary b.types) (suc below) ts)
  unfolding unary prefix_op a_step
  unary_yields [] = unary_none
  unary_yields (t ∷ ts) =
      by_option (prefix_op (at b (t ∷ ts))) _ _ _ (λ op is. prefixed_yields op t ts is)
      (λ none. by_option (a_step (at b (t ∷ ts))) _ _ _ (λ s is. stepped_yields s t ts is) (λ none'. pointed_yields t ts))

  climb_yields : (tight line n : ℕ) (left : Found) (ts us : List Token) → line ≡ line_of left.tree → Climbs b.types (suc below) tight ts left us
      → Yields b (climb inner inner_place below tight line n left (at b us)) (Stood (Stands b.types (level.Binary tight)) (suc below) ts)
  unfolding climb operator next
  climb_yields tight line zero left ts us e x =
      by_option (operator tight (at b us)) (λ op. too_deep) (pure left) (at b us) (λ o is. fails _)
      (λ none. done left us (record { stands = (x.stood.stands, none); tall = x.stood.tall; within = x.stood.within }))
  climb_yields tight line (suc n) left ts [] e x =
      done left [] (record { stands = (x.stood.stands, refl); tall = x.stood.tall; within = x.stood.within })
  climb_yields tight line (suc n) left ts (u ∷ us) e x =
      by_option (operator tight (at b (u ∷ us))) _ _ _
      (λ o is. by_choice _ _ _ _ (λ deep. fails _) (λ room. step _ _ (H (level.Binary (o.1 + 1)) us)
      (λ right vs y. climb_yields tight line n (joined (tree.Two line o.0) left right) ts vs refl
      (grown below tight line ts left right u us vs o e is (ltb-false below left.height room) x y))))
      (λ none. done left (u ∷ us) (record { stands = (x.stood.stands, none); tall = x.stood.tall; within = x.stood.within }))

  binary_yields : (tight : ℕ) (ts : List Token)
      → Yields b (binary inner inner_place below tight (at b ts)) (Stood (Stands b.types (level.Binary tight)) (suc below) ts)
  unfolding binary line
  binary_yields tight ts =
      step _ _ (unary_yields ts)
      (λ first us x. climb_yields tight (line_at b.last ts) below first ts us (unary_line b.last x.stands) (first_climbs tight x))

  chosen_yields : (line : ℕ) (test : Found) (ts us : List Token) → line ≡ line_of test.tree
      → Stood (Stands b.types (level.Binary 1)) (suc below) ts test us
      → Yields b (if sees (codes "?") (at b us) then choose inner inner_place below line test (at b us) else Ok (test, at b us))
      (Stood (Choice b.types) (suc below) ts)
  unfolding choose other_choice sees next
  chosen_yields line test ts [] e x = done test [] (record { stands = g.is_binary x.stands.0; tall = x.tall; within = x.within })
  chosen_yields line test ts (u ∷ us) e x =
      by_if (sees (codes "?") (at b (u ∷ us))) _ _
      (λ mark. by_choice _ _ _ _ (λ deep. fails _) (λ room. step _ _ (H level.Whole us)
      (λ a vs y. by_expect (Stood (Whole b.types) below us a) (λ _. Stood (Choice b.types) (suc below) ts) (codes ":") vs _ y
      (λ v ws y' colon. step _ _ (H level.Choice ws) (λ c xs z. done (chosen line test a c) xs (record {
        stands = rw e (g.choose x.stands.0 mark y'.stands colon z.stands);
        tall = rw (x.tall, y'.tall, z.tall) refl;
        within = omega (arith, ltb-false below test.height room, y'.within, z.within);
      }))))))
      (λ isnt. done test (u ∷ us) (record { stands = g.is_binary x.stands.0; tall = x.tall; within = x.within }))

  choice_yields : (ts : List Token) → Yields b (choice inner inner_place below (at b ts)) (Stood (Choice b.types) (suc below) ts)
  unfolding choice line
  choice_yields ts = step _ _ (binary_yields 1 ts) (λ test us x. chosen_yields (line_at b.last ts) test ts us (binary_line b.last x.stands.0) x)

  assigned_yields : (left : Found) (ts us : List Token) → Stood (Choice b.types) (suc below) ts left us
      → Yields b (option_map_or {U = Reader Found} (λ op. by_place (assign inner inner_place below (line_at b.last ts) op) (placed left)) (assignment (at b us))
      (pure left) (at b us)) (Stood (Whole b.types) (suc below) ts)
  unfolding assignment assign next
  assigned_yields left ts [] x = done left [] (record { stands = g.is_choice x.stands; tall = x.tall; within = x.within })
  assigned_yields left ts (u ∷ us) x =
      by_option (assignment (at b (u ∷ us))) _ _ _
      (λ op sign. by_placed _ left _
      (λ p is. by_choice _ _ _ _ (λ deep. fails _) (λ room. step _ _ (H level.Whole us) (λ a vs y.
      let stands_there : Place b.types p ts (u ∷ us) = place_in_choice left.tree p ts (u ∷ us) is x.stands in
      done (assigned (line_at b.last ts) (place_found left p) op a) vs (record {
        stands = rw (place_line b.last stands_there) (g.set stands_there sign y.stands);
        tall = rw (x.tall, y.tall, placed_tall left.tree p is) refl;
        within = omega (arith, ltb-false below (height_as p left.height) room, y.within);
      }))))
      (done left (u ∷ us) (record { stands = g.is_choice x.stands; tall = x.tall; within = x.within })))
      (λ none. done left (u ∷ us) (record { stands = g.is_choice x.stands; tall = x.tall; within = x.within }))

  whole_yields : (ts : List Token) → Yields b (whole inner inner_place below (at b ts)) (Stood (Whole b.types) (suc below) ts)
  unfolding whole line
  whole_yields ts = step _ _ (choice_yields ts) (λ left us x. assigned_yields left ts us x)

  level_yields : (l : Level) (ts : List Token) → Yields b (at_level inner inner_place below l (at b ts)) (Stood (Stands b.types l) (suc below) ts)
  level_yields level.Whole ts = whole_yields ts
  level_yields level.Choice ts = choice_yields ts
  level_yields (level.Binary tight) ts = binary_yields tight ts
  level_yields level.Unary ts = unary_yields ts

-- What is read as an expression or a place is in the grammar.
pub levels_yield : (b : Input) (room : ℕ) → Reads b (expr room) room × ReadsPlace b (place_of room) room
unfolding expr place_of
levels_yield b zero = ((λ l ts. fails _), (λ ts. fails _))
levels_yield b (suc m) =
    let h = levels_yield b m in
    ((λ l ts. level_yields b (expr m) (place_of m) m h.0 h.1 l ts), (λ ts. place_yields b (expr m) m h.0 ts))

pub expr_yields : (b : Input) (room : ℕ) (l : Level) (ts : List Token) → Yields b (expr room l (at b ts)) (Stood (Stands b.types l) room ts)
expr_yields b room l ts = (levels_yield b room).0 l ts
