-- What is read as an expression rests on the tokens that are passed and on the next one.
use Rattle.std.proofs.Common.{ℕ, zero, suc, ◌+◌, ◌<◌, ◌&&◌, nat_lt, List, length, Option, Result, Ok, Err, refl, ap, arith}
use Rattle.std.specs.Prelude.{codes}
use Rattle.std.specs.Str.{bytes_eq}
use Rattle.xs_ctok.specs.declared.token.Token.{Token}
use Rattle.xs_csyn.proofs.ExpressionsSound.{Stands, Stood, expr_yields}
use Rattle.xs_csyn.proofs.Local.{Local, Meant, NextTells, alike, assignment_tells, bind, by_bool, by_option, by_test, deep, eat_local, expect_local, gives, here_local, moving, name_local, no_longer, operator_tells, prefix_tells, same_first, sees_tells, skip_local, step_tells, turned, type_tells, variable_local, word_tells}
use Rattle.xs_csyn.proofs.MoreTurns.{list_same}
use Rattle.xs_csyn.proofs.Sizes.{whole_shrinks}
use Rattle.xs_csyn.proofs.TypesLocal.{type_local}
use Rattle.xs_cexpr.specs.ExpressionReader.{Found, FoundAll, FoundPlace, above, above_place, address, after_name, arguments, assign, assigned, at_level, binary, by_place, called, cast, choice, choose, chosen, climb, dereferenced, expr, first_literal, flat, index, int2ptr, joined, last_suffix, leaf, list, list_from, literal, literal_of, named, named_place, no_nodes, opened, operand, other_choice, place, place_of, placed, pointed, prefixed, primary, st_place, stepped, suffixes, unary, whole, with_node, worded}
use Rattle.xs_cinput.specs.Operators.{a_step, assignment, operator, prefix_op}
use Rattle.xs_cexpr.specs.ExpressionTree as tree
use Rattle.xs_cinput.specs.TokenInput.{Input, Reader, sees, sees_type, sees_word}
use Rattle.xs_cexpr.specs.declared.node.Level.{Level}
use Rattle.xs_cexpr.specs.declared.node.Level.TheVariants as level
use Rattle.xs_cinput.specs.declared.tree.Step.{Step}
use Rattle.xs_values.specs.declared.operator.Op.{Op}
use Rattle.xs_values.specs.declared.unary_operator.UnOp.{UnOp}

pub literal_tells : (b : Input) (line : ℕ) (ts : List Token) → NextTells b (literal line) ts
unfolding literal
literal_tells b line ts us k e = same_first (first_literal line) (λ t. literal_of line t.kind) (λ t js. refl) ts us e

by_placed : {s : Meant} {b : Input} {ts : List Token} (o : Result FoundPlace Found) {f : ℕ → FoundPlace → Reader Found}
    → ((p : FoundPlace) → Local s b (λ k. f k p) ts)
    → Local s b (λ k. by_place (f k) o) ts
by_placed (Ok p) x = x p
by_placed {s} {b} {ts} (Err n) x = gives b n ts

last_suffix_local : {s : Meant} (b : Input) (left : Found) (ts : List Token) → Local s b (λ k. last_suffix left) ts
unfolding last_suffix
last_suffix_local b left ts =
    by_test (sees (codes "[")) (sees_tells b (codes "[") ts) (λ is. deep b ts)
    (λ isnt. by_option a_step (step_tells b ts) (λ s is. by_placed (placed left) (λ p. deep b ts)) (λ none. gives b left ts))

address_local : {s : Meant} (b : Input) (ts : List Token) → Local s b (λ k. address) ts
unfolding address
address_local b ts =
    bind (here_local b ts) (λ line e. bind (skip_local b _) (λ u f. bind (variable_local b _) (λ name h. gives b (leaf (tree.Address line name)) _)))

module _ {s : Meant} (b : Input) (m : ℕ) (H : (l : Level) (ts : List Token) → Local s b (λ k. expr m l) ts) where
  list_from_local : (n : ℕ) (all : FoundAll) (ts : List Token) → length ts < n → Local s b (λ k. list_from (expr m) k all) ts
  unfolding list_from
  list_from_local zero all ts less = absurd (omega (arith, less))
  list_from_local (suc n) all ts less =
      let x = H level.Whole ts in
      alike (bind x (λ one e. moving (λ us f vs. Stood (Stands b.types level.Whole) m us f vs) x one e
      (λ k us. expr_yields (turned b k us) m level.Whole us) (λ us vs y. whole_shrinks y.stands)
      (λ fewer. bind (eat_local b (codes ",") x.rest)
      (λ more f. by_bool more
      (λ yes. list_from_local n (with_node all one) _ (omega (arith, less, fewer, no_longer {s = s} (eat_local b (codes ",") x.rest))))
      (λ isnt. bind (expect_local b (codes ")") _) (λ u h. gives b (with_node all one) _))))))
      (λ us k e g. list_same (turned b k us) m k (suc k) all us g.0 (omega (arith, g.0)))

  arguments_local : (ts : List Token) → Local s b (λ k. arguments (expr m)) ts
  unfolding arguments list
  arguments_local ts = bind (eat_local b (codes ")") ts) (λ is e. by_bool is (λ yes. gives b no_nodes _) (λ isnt. all_listed _))
    where
      all_listed : (ts : List Token) → Local s b (λ k. list (expr m)) ts
      all_listed ts = alike (list_from_local (suc (length ts)) no_nodes ts (omega arith)) (λ us k e g. refl)

  after_name_local : (line : ℕ) (name : List ℕ) (ts : List Token) → Local s b (λ k. after_name (expr m) line name) ts
  unfolding after_name
  after_name_local line name ts =
      bind (eat_local b (codes "(") ts)
      (λ is e. by_bool is (λ yes. bind (arguments_local _) (λ all f. gives b (called line name all) _))
      (λ isnt. bind (eat_local b (codes "->") _)
      (λ arrow f. by_bool arrow (λ yes. bind (name_local b _) (λ field h. gives b (leaf (tree.Arrow line name field)) _)) (λ none. gives b (leaf
      (tree.Var line name)) _))))

  named_local : (line : ℕ) (ts : List Token) → Local s b (λ k. named (expr m) line) ts
  unfolding named
  named_local line ts = bind (variable_local b ts) (λ name e. after_name_local line name _)

  int2ptr_local : (line : ℕ) (ts : List Token) → Local s b (λ k. int2ptr (expr m) line) ts
  unfolding int2ptr
  int2ptr_local line ts =
      bind (expect_local b (codes "(") ts)
      (λ u e. bind (type_local b _)
      (λ to f. bind (expect_local b (codes ",") _)
      (λ v h. bind (H level.Whole _) (λ a j. bind (expect_local b (codes ")") _) (λ w q. gives b (above (tree.Int2Ptr line to) a) _)))))

  worded_local : (line : ℕ) (ts : List Token) → Local s b (λ k. worded (expr m) line) ts
  unfolding worded
  worded_local line ts =
      by_test (sees_word (codes "INT2PTR")) (word_tells b (codes "INT2PTR") ts) (λ is. bind (skip_local b ts) (λ u e. int2ptr_local line _))
      (λ isnt. named_local line ts)

  pub primary_local : (line : ℕ) (ts : List Token) → Local s b (λ k. primary (expr m) line) ts
  unfolding primary
  primary_local line ts =
      by_option (literal line) (literal_tells b line ts) (λ a is. bind (skip_local b ts) (λ u e. gives b (leaf a) _)) (λ none. worded_local line ts)

  named_place_local : (line : ℕ) (name : List ℕ) (ts : List Token) → Local s b (λ k. named_place (expr m) line name) ts
  unfolding named_place
  named_place_local line name ts =
      bind (eat_local b (codes "->") ts)
      (λ arrow e. by_bool arrow (λ yes. bind (name_local b _) (λ field f. gives b (flat (tree.FieldPlace line name field)) _))
      (λ none. by_test (λ i. bytes_eq name (codes "ST") && sees (codes "(") i)
      (λ us k n. ap (λ c. bytes_eq name (codes "ST") && c) (sees_tells b (codes "(") _ us k n))
      (λ is. bind (skip_local b _) (λ u f. bind (H level.Whole _) (λ a h. bind (expect_local b (codes ")") _) (λ v j. gives b (st_place line a) _))))
      (λ isnt. gives b (flat (tree.VarPlace line name)) _)))

  place_local : (ts : List Token) → Local s b (λ k. place (expr m)) ts
  unfolding place
  place_local ts =
      bind (here_local b ts)
      (λ line e. bind (eat_local b (codes "*") _)
      (λ star f. by_bool star (λ yes. bind (variable_local b _) (λ name h. gives b (flat (tree.TargetPlace line name)) _))
      (λ isnt. bind (variable_local b _) (λ name h. named_place_local line name _))))

  other_choice_local : (line : ℕ) (test a : Found) (ts : List Token) → Local s b (λ k. other_choice (expr m) line test a) ts
  unfolding other_choice
  other_choice_local line test a ts =
      bind (expect_local b (codes ":") ts) (λ u e. bind (H level.Choice _) (λ c f. gives b (chosen line test a c) _))

module _ {s : Meant} (b : Input) (m : ℕ) (H : (l : Level) (ts : List Token) → Local s b (λ k. expr m l) ts)
    (HP : (ts : List Token) → Local s b (λ k. place_of m) ts) where
  index_local : (line : ℕ) (left : Found) (ts : List Token) → Local s b (λ k. index (expr m) (place_of m) m line left) ts
  unfolding index
  index_local line left ts =
      by_bool (nat_lt m left.height) (λ is. deep b ts)
      (λ room. bind (skip_local b ts) (λ u e. bind (H level.Whole _) (λ a f. bind (expect_local b (codes "]") _) (λ v h. gives b (joined
      (tree.Index line) left a) _))))

  suffixes_local : (line n : ℕ) (left : Found) (ts : List Token) → Local s b (λ k. suffixes (expr m) (place_of m) m line n left) ts
  unfolding suffixes
  suffixes_local line zero left ts = last_suffix_local b left ts
  suffixes_local line (suc n) left ts =
      by_test (sees (codes "[")) (sees_tells b (codes "[") ts) (λ is. bind (index_local line left ts) (λ one e. suffixes_local line n one _))
      (λ isnt. by_option a_step (step_tells b ts)
      (λ s is. by_placed (placed left)
      (λ p. by_bool (nat_lt m p.height) (λ yes. deep b ts) (λ room. bind (skip_local b ts) (λ u e. suffixes_local line n (above_place
      (λ q. tree.After line q s) p) _))))
      (λ none. gives b left ts))

  cast_local : (line : ℕ) (ts : List Token) → Local s b (λ k. cast (expr m) (place_of m) m line) ts
  unfolding cast
  cast_local line ts =
      bind (type_local b ts)
      (λ to e. bind (expect_local b (codes ")") _) (λ u f. bind (H level.Unary _) (λ a h. gives b (above (tree.Cast line to) a) _)))

  opened_local : (line : ℕ) (ts : List Token) → Local s b (λ k. opened (expr m) (place_of m) m line) ts
  unfolding opened
  opened_local line ts =
      by_test sees_type (type_tells b ts) (λ is. cast_local line ts)
      (λ isnt. bind (H level.Whole ts) (λ a e. bind (expect_local b (codes ")") _) (λ u f. suffixes_local line m (above (tree.Paren line) a) _)))

  operand_local : (ts : List Token) → Local s b (λ k. operand (expr m) (place_of m) m) ts
  unfolding operand
  operand_local ts =
      bind (here_local b ts)
      (λ line e. bind (eat_local b (codes "(") _)
      (λ is f. by_bool is (λ yes. opened_local line _) (λ isnt. bind (primary_local b m H line _) (λ first h. suffixes_local line m first _))))

  prefixed_local : (op : UnOp) (ts : List Token) → Local s b (λ k. prefixed (expr m) (place_of m) m op) ts
  unfolding prefixed
  prefixed_local op ts = bind (here_local b ts) (λ line e. bind (skip_local b _) (λ u f. bind (H level.Unary _) (λ a h. gives b (above
      (tree.One line op) a) _)))

  dereferenced_local : (ts : List Token) → Local s b (λ k. dereferenced (expr m) (place_of m) m) ts
  unfolding dereferenced
  dereferenced_local ts = bind (here_local b ts) (λ line e. bind (skip_local b _) (λ u f. bind (H level.Unary _) (λ a h. gives b (above
      (tree.Deref line) a) _)))

  stepped_local : (step : Step) (ts : List Token) → Local s b (λ k. stepped (expr m) (place_of m) m step) ts
  unfolding stepped
  stepped_local step ts = bind (here_local b ts) (λ line e. bind (skip_local b _) (λ u f. bind (HP _) (λ p h. gives b (above_place
      (λ q. tree.Before line step q) p) _)))

  pointed_local : (ts : List Token) → Local s b (λ k. pointed (expr m) (place_of m) m) ts
  unfolding pointed
  pointed_local ts =
      by_test (sees (codes "*")) (sees_tells b (codes "*") ts) (λ is. dereferenced_local ts)
      (λ isnt. by_test (sees (codes "&")) (sees_tells b (codes "&") ts) (λ is. address_local b ts) (λ other. operand_local ts))

  unary_local : (ts : List Token) → Local s b (λ k. unary (expr m) (place_of m) m) ts
  unfolding unary
  unary_local ts =
      by_option prefix_op (prefix_tells b ts) (λ op is. prefixed_local op ts)
      (λ none. by_option a_step (step_tells b ts) (λ s is. stepped_local s ts) (λ other. pointed_local ts))

  climb_local : (tight line n : ℕ) (left : Found) (ts : List Token) → Local s b (λ k. climb (expr m) (place_of m) m tight line n left) ts
  unfolding climb
  climb_local tight line zero left ts = by_option (operator tight) (operator_tells b tight ts) (λ op is. deep b ts) (λ none. gives b left ts)
  climb_local tight line (suc n) left ts =
      by_option (operator tight) (operator_tells b tight ts)
      (λ op is. by_bool (nat_lt m left.height) (λ yes. deep b ts)
      (λ room. bind (skip_local b ts) (λ u e. bind (H (level.Binary (op.1 + 1)) _) (λ right f. climb_local tight line n (joined
      (tree.Two line op.0) left right) _))))
      (λ none. gives b left ts)

  binary_local : (tight : ℕ) (ts : List Token) → Local s b (λ k. binary (expr m) (place_of m) m tight) ts
  unfolding binary
  binary_local tight ts = bind (here_local b ts) (λ line e. bind (unary_local _) (λ first f. climb_local tight line m first _))

  choose_local : (line : ℕ) (test : Found) (ts : List Token) → Local s b (λ k. choose (expr m) (place_of m) m line test) ts
  unfolding choose
  choose_local line test ts =
      by_bool (nat_lt m test.height) (λ is. deep b ts)
      (λ room. bind (skip_local b ts) (λ u e. bind (H level.Whole _) (λ a f. other_choice_local b m H line test a _)))

  choice_local : (ts : List Token) → Local s b (λ k. choice (expr m) (place_of m) m) ts
  unfolding choice
  choice_local ts =
      bind (here_local b ts)
      (λ line e. bind (binary_local 1 _)
      (λ test f. by_test (sees (codes "?")) (sees_tells b (codes "?") _) (λ is. choose_local line test _) (λ isnt. gives b test _)))

  assign_local : (line : ℕ) (op : Option Op) (p : FoundPlace) (ts : List Token) → Local s b (λ k. assign (expr m) (place_of m) m line op p) ts
  unfolding assign
  assign_local line op p ts =
      by_bool (nat_lt m p.height) (λ is. deep b ts) (λ room. bind (skip_local b ts) (λ u e. bind (H level.Whole _) (λ a f. gives b (assigned line p op a) _)))

  whole_local : (ts : List Token) → Local s b (λ k. whole (expr m) (place_of m) m) ts
  unfolding whole
  whole_local ts =
      bind (here_local b ts)
      (λ line e. bind (choice_local _)
      (λ left f. by_option assignment (assignment_tells b _) (λ op is. by_placed (placed left) (λ p. assign_local line op p _)) (λ none. gives b left _)))

  level_local : (l : Level) (ts : List Token) → Local s b (λ k. at_level (expr m) (place_of m) m l) ts
  level_local level.Whole ts = whole_local ts
  level_local level.Choice ts = choice_local ts
  level_local (level.Binary tight) ts = binary_local tight ts
  level_local level.Unary ts = unary_local ts

-- expressions and places of each depth
levels_local : {s : Meant} (b : Input) (room : ℕ)
    → ((l : Level) (ts : List Token) → Local s b (λ k. expr room l) ts) × ((ts : List Token) → Local s b (λ k. place_of room) ts)
unfolding expr place_of
levels_local b zero = ((λ l ts. deep b ts), (λ ts. deep b ts))
levels_local b (suc m) = let h = levels_local b m in ((λ l ts. level_local b m h.0 h.1 l ts), (λ ts. place_local b m h.0 ts))

pub expr_local : {s : Meant} (b : Input) (room : ℕ) (l : Level) (ts : List Token) → Local s b (λ k. expr room l) ts
expr_local b room l ts = (levels_local b room).0 l ts
