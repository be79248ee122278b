-- An expression is read alike where there is more room, but for what is too deep where there is less.
use Rattle.std.proofs.Common.{◌≡◌, ℕ, zero, suc, ◌+◌, ◌≤◌, Bool, true, false, if◌then◌else◌, ◌&&◌, nat_lt, List, [], Option, Some, None, Result, Ok, Err, refl, arith}
use Rattle.std.proofs.lemmas.Bool.{le-ltb, ltb-false}
use Rattle.std.specs.Option.{option_map_or}
use Rattle.std.specs.Prelude.{codes}
use Rattle.std.specs.Str.{bytes_eq}
use Rattle.xs_base.specs.Readers.{and_then}
use Rattle.xs_base.specs.declared.fault_codes.TheConstants.{NESTED_TOO_DEEP}
use Rattle.xs_cexpr.specs.ExpressionReader.{Found, FoundAll, FoundPlace, above, above_place, after_name, arguments, assign, at_level, binary, by_place, cast, choice, choose, climb, dereferenced, expr, index, int2ptr, joined, last_suffix, list, list_from, literal, named, named_place, opened, operand, other_choice, place, place_of, placed, pointed, prefixed, primary, stepped, suffixes, unary, whole, with_node, worded}
use Rattle.xs_cexpr.specs.ExpressionTree.{After, Paren, Two}
use Rattle.xs_cexpr.specs.declared.node.Level.{Level}
use Rattle.xs_cexpr.specs.declared.node.Level.TheVariants as level
use Rattle.xs_cinput.specs.Operators.{a_step, assignment, operator, prefix_op}
use Rattle.xs_cinput.specs.TokenInput.{Input, Outcome, Reader, after, expect, fault, next, sees, sees_type, sees_word, too_deep}
use Rattle.xs_cinput.specs.TypeReader.{a_type}
use Rattle.xs_cinput.specs.declared.tree.Step.{Step}
use Rattle.xs_csyn.specs.Laws.{TooDeep}
use Rattle.xs_values.specs.declared.operator.Op.{Op}
use Rattle.xs_values.specs.declared.unary_operator.UnOp.{UnOp}

-- The outcome is this one, or a fault of nesting.
pub data Within {A : Type 0} (r s : Outcome A) : Type 0 where
  same : r ≡ s → Within r s
  deep : TooDeep r → Within r s

-- ---- steps

pub too_deep_here : {A : Type 0} (i : Input) → TooDeep {A = A × Input} (too_deep i)
unfolding fault
too_deep_here i = record { refusal = fault NESTED_TOO_DEEP i; is = refl; code = refl }

within_too_deep : {A : Type 0} {s : Outcome A} (i : Input) → Within (too_deep i) s
within_too_deep i = deep (too_deep_here i)

after_same : {A B : Type 0} (r : Outcome A) (f g : A → Reader B) → ((a : A) (j : Input) → Within (f a j) (g a j)) → Within (and_then r f) (and_then r g)
after_same (Ok p) f g go = go p.0 p.1
after_same (Err e) f g go = same refl

after_within : {A B : Type 0} (r s : Outcome A) (f g : A → Reader B) → Within r s → ((a : A) (j : Input) → Within (f a j) (g a j))
    → Within (and_then r f) (and_then s g)
after_within r s f g (same e) go = rw e (after_same s f g go)
after_within r s f g (deep x) go = rw x.is (deep (record { refusal = x.refusal; is = refl; code = x.code }))

by_if : {A : Type 0} (c : Bool) (r r' s s' : Outcome A) → Within r r' → Within s s' → Within (if c then r else s) (if c then r' else s')
by_if true r r' s s' x y = x
by_if false r r' s s' x y = y

by_test : {A : Type 0} (c : Bool) (p p' q q' : Reader A) (i : Input) → Within (p i) (p' i) → Within (q i) (q' i)
    → Within ((if c then p else q) i) ((if c then p' else q') i)
by_test true p p' q q' i x y = x
by_test false p p' q q' i x y = y

by_option : {A V : Type 0} (o : Option V) (f g : V → Reader A) (d d' : Reader A) (i : Input) → ((v : V) → Within (f v i) (g v i)) → Within (d i) (d' i)
    → Within (option_map_or {U = Reader A} f o d i) (option_map_or {U = Reader A} g o d' i)
by_option None f g d d' i x y = y
by_option (Some v) f g d d' i x y = x v

by_placed : (o : Result FoundPlace Found) (f g : FoundPlace → Reader Found) (i : Input) → ((p : FoundPlace) → Within (f p i) (g p i))
    → Within (by_place f o i) (by_place g o i)
by_placed (Ok p) f g i x = x p
by_placed (Err n) f g i x = same refl

room_ways : {A : Type 0} (c d : Bool) (p q : Reader A) (i : Input) → (c ≡ false → d ≡ false) → Within (p i) (q i)
    → Within ((if c then too_deep else p) i) ((if d then too_deep else q) i)
room_ways true d p q i so x = within_too_deep i
room_ways false d p q i so x = rw (so refl) x

-- what stands in front, of this height, goes one level down
by_room : {A : Type 0} (m n h : ℕ) (p q : Reader A) (i : Input) → m ≤ n → Within (p i) (q i)
    → Within ((if nat_lt m h then too_deep else p) i) ((if nat_lt n h then too_deep else q) i)
by_room m n h p q i le x = room_ways (nat_lt m h) (nat_lt n h) p q i (λ e. le-ltb n h (omega (arith, le, ltb-false m h e))) x

-- ---- the rules, where this is so one level down

module _ (f g : Level → Reader Found) (inner : (l : Level) (i : Input) → Within (f l i) (g l i)) where
  list_from_within : (n : ℕ) (all : FoundAll) (i : Input) → Within (list_from f n all i) (list_from g n all i)
  unfolding list_from
  list_from_within zero all i = same refl
  list_from_within (suc n) all i =
      after_within _ _ _ _ (inner level.Whole i)
      (λ one j. by_test (sees (codes ",") j) _ _ _ _ _ (list_from_within n (with_node all one) (after (codes ",") j)) (same refl))

  list_within : (i : Input) → Within (list f i) (list g i)
  unfolding list
  list_within i = list_from_within i.turns (record { trees = []; height = 0 }) i

  arguments_within : (i : Input) → Within (arguments f i) (arguments g i)
  unfolding arguments
  arguments_within i = by_test (sees (codes ")") i) _ _ _ _ _ (same refl) (list_within (after (codes ")") i))

  after_name_within : (line : ℕ) (name : List ℕ) (i : Input) → Within (after_name f line name i) (after_name g line name i)
  unfolding after_name
  after_name_within line name i =
      by_test (sees (codes "(") i) _ _ _ _ _ (after_within _ _ _ _ (arguments_within (after (codes "(") i)) (λ all j. same refl)) (same refl)

  named_within : (line : ℕ) (i : Input) → Within (named f line i) (named g line i)
  unfolding named
  named_within line i = after_same _ _ _ (λ name j. after_name_within line name j)

  int2ptr_within : (line : ℕ) (i : Input) → Within (int2ptr f line i) (int2ptr g line i)
  unfolding int2ptr
  int2ptr_within line i =
      after_same (expect (codes "(") i) _ _
      (λ _ j. after_same (a_type j) _ _
      (λ to k. after_same (expect (codes ",") k) _ _ (λ _ l. after_within _ _ _ _ (inner level.Whole l) (λ a o. same refl))))

  worded_within : (line : ℕ) (i : Input) → Within (worded f line i) (worded g line i)
  unfolding worded
  worded_within line i = by_if (sees_word (codes "INT2PTR") i) _ _ _ _ (int2ptr_within line (next i)) (named_within line i)

  primary_within : (line : ℕ) (i : Input) → Within (primary f line i) (primary g line i)
  unfolding primary
  primary_within line i = by_option (literal line i) _ _ _ _ i (λ tree. same refl) (worded_within line i)

  named_place_within : (line : ℕ) (name : List ℕ) (i : Input) → Within (named_place f line name i) (named_place g line name i)
  unfolding named_place
  named_place_within line name i =
      by_test (sees (codes "->") i) _ _ _ _ _ (same refl)
      (by_if (bytes_eq name (codes "ST") && sees (codes "(") (after (codes "->") i)) _ _ _ _
      (after_within _ _ _ _ (inner level.Whole (next (after (codes "->") i))) (λ at j. same refl)) (same refl))

  place_within : (i : Input) → Within (place f i) (place g i)
  unfolding place
  place_within i = by_test (sees (codes "*") i) _ _ _ _ _ (same refl) (after_same _ _ _ (λ name j. named_place_within _ name j))

  other_choice_within : (line : ℕ) (test a : Found) (i : Input) → Within (other_choice f line test a i) (other_choice g line test a i)
  unfolding other_choice
  other_choice_within line test a i = after_same _ _ _ (λ _ j. after_within _ _ _ _ (inner level.Choice j) (λ b k. same refl))

module _ (f g : Level → Reader Found) (inner : (l : Level) (i : Input) → Within (f l i) (g l i)) (fp gp : Reader FoundPlace)
    (inner_place : (i : Input) → Within (fp i) (gp i)) (m n : ℕ) (le : m ≤ n) where
  index_within : (line : ℕ) (left : Found) (i : Input) → Within (index f fp m line left i) (index g gp n line left i)
  unfolding index
  index_within line left i = by_room m n left.height _ _ i le (after_within _ _ _ _ (inner level.Whole (next i)) (λ at j. same refl))

  -- where no suffix may follow, and where some may
  last_within : (line k : ℕ) (left : Found) (i : Input) → Within (last_suffix left i) (suffixes g gp n line k left i)
  unfolding suffixes last_suffix
  last_within line zero left i = same refl
  last_within line (suc k) left i =
      by_if (sees (codes "[") i) _ _ _ _ (within_too_deep i)
      (by_option (a_step i) _ _ _ _ i (λ step. by_placed (placed left) _ _ i (λ p. within_too_deep i)) (same refl))

  suffixes_within : (line j k : ℕ) → j ≤ k → (left : Found) (i : Input) → Within (suffixes f fp m line j left i) (suffixes g gp n line k left i)
  unfolding suffixes
  suffixes_within line zero k less left i = last_within line k left i
  suffixes_within line (suc j) zero less left i = absurd (omega (arith, less))
  suffixes_within line (suc j) (suc k) less left i =
      by_if (sees (codes "[") i) _ _ _ _
      (after_within _ _ _ _ (index_within line left i) (λ one o. suffixes_within line j k (omega (arith, less)) one o))
      (by_option (a_step i) _ _ _ _ i
      (λ step. by_placed (placed left) _ _ i (λ p. by_room m n p.height _ _ i le
      (suffixes_within line j k (omega (arith, less)) (above_place (λ place. After line place step) p) (next i))))
      (same refl))

  cast_within : (line : ℕ) (i : Input) → Within (cast f fp m line i) (cast g gp n line i)
  unfolding cast
  cast_within line i =
      after_same (a_type i) _ _
      (λ to j. after_same (expect (codes ")") j) _ _ (λ _ k. after_within _ _ _ _ (inner level.Unary k) (λ a o. same refl)))

  opened_within : (line : ℕ) (i : Input) → Within (opened f fp m line i) (opened g gp n line i)
  unfolding opened
  opened_within line i =
      by_if (sees_type i) _ _ _ _ (cast_within line i)
      (after_within _ _ _ _ (inner level.Whole i) (λ a j. after_same _ _ _ (λ _ k. suffixes_within line m n le (above (Paren line) a) k)))

  operand_within : (i : Input) → Within (operand f fp m i) (operand g gp n i)
  unfolding operand
  operand_within i =
      by_test (sees (codes "(") i) _ _ _ _ _ (opened_within _ (after (codes "(") i))
      (after_within _ _ _ _ (primary_within f g inner _ (after (codes "(") i)) (λ first j. suffixes_within _ m n le first j))

  prefixed_within : (op : UnOp) (i : Input) → Within (prefixed f fp m op i) (prefixed g gp n op i)
  unfolding prefixed
  prefixed_within op i = after_within _ _ _ _ (inner level.Unary (next i)) (λ a j. same refl)

  dereferenced_within : (i : Input) → Within (dereferenced f fp m i) (dereferenced g gp n i)
  unfolding dereferenced
  dereferenced_within i = after_within _ _ _ _ (inner level.Unary (next i)) (λ a j. same refl)

  stepped_within : (step : Step) (i : Input) → Within (stepped f fp m step i) (stepped g gp n step i)
  unfolding stepped
  stepped_within step i = after_within _ _ _ _ (inner_place (next i)) (λ p j. same refl)

  pointed_within : (i : Input) → Within (pointed f fp m i) (pointed g gp n i)
  unfolding pointed
  pointed_within i =
      by_if (sees (codes "*") i) _ _ _ _ (dereferenced_within i) (by_if (sees (codes "&") i) _ _ _ _ (same refl) (operand_within i))

  unary_within : (i : Input) → Within (unary f fp m i) (unary g gp n i)
  unfolding unary
  unary_within i =
      by_option (prefix_op i) _ _ _ _ i (λ op. prefixed_within op i) (by_option (a_step i) _ _ _ _ i (λ step. stepped_within step i) (pointed_within i))

  climb_within : (tight line j k : ℕ) → j ≤ k → (left : Found) (i : Input) → Within (climb f fp m tight line j left i) (climb g gp n tight line k left i)
  unfolding climb
  climb_within tight line zero zero less left i = by_option (operator tight i) _ _ _ _ i (λ op. within_too_deep i) (same refl)
  climb_within tight line zero (suc k) less left i = by_option (operator tight i) _ _ _ _ i (λ op. within_too_deep i) (same refl)
  climb_within tight line (suc j) zero less left i = absurd (omega (arith, less))
  climb_within tight line (suc j) (suc k) less left i =
      by_option (operator tight i) _ _ _ _ i
      (λ op. by_room m n left.height _ _ i le
      (after_within _ _ _ _ (inner (level.Binary (op.1 + 1)) (next i))
      (λ right o. climb_within tight line j k (omega (arith, less)) (joined (Two line op.0) left right) o)))
      (same refl)

  binary_within : (tight : ℕ) (i : Input) → Within (binary f fp m tight i) (binary g gp n tight i)
  unfolding binary
  binary_within tight i = after_within _ _ _ _ (unary_within i) (λ first j. climb_within tight _ m n le first j)

  choose_within : (line : ℕ) (test : Found) (i : Input) → Within (choose f fp m line test i) (choose g gp n line test i)
  unfolding choose
  choose_within line test i =
      by_room m n test.height _ _ i le (after_within _ _ _ _ (inner level.Whole (next i)) (λ a j. other_choice_within f g inner line test a j))

  choice_within : (i : Input) → Within (choice f fp m i) (choice g gp n i)
  unfolding choice
  choice_within i =
      after_within _ _ _ _ (binary_within 1 i) (λ test j. by_if (sees (codes "?") j) _ _ _ _ (choose_within _ test j) (same refl))

  assign_within : (line : ℕ) (op : Option Op) (p : FoundPlace) (i : Input) → Within (assign f fp m line op p i) (assign g gp n line op p i)
  unfolding assign
  assign_within line op p i = by_room m n p.height _ _ i le (after_within _ _ _ _ (inner level.Whole (next i)) (λ value j. same refl))

  whole_within : (i : Input) → Within (whole f fp m i) (whole g gp n i)
  unfolding whole
  whole_within i =
      after_within _ _ _ _ (choice_within i)
      (λ left j. by_option (assignment j) _ _ _ _ j (λ op. by_placed (placed left) _ _ j (λ p. assign_within _ op p j)) (same refl))

  at_level_within : (l : Level) (i : Input) → Within (at_level f fp m l i) (at_level g gp n l i)
  at_level_within level.Whole i = whole_within i
  at_level_within level.Choice i = choice_within i
  at_level_within (level.Binary tight) i = binary_within tight i
  at_level_within level.Unary i = unary_within i

-- ---- expressions

mutual
  unfolding expr place_of

  pub expr_within : (m n : ℕ) → m ≤ n → (l : Level) (i : Input) → Within (expr m l i) (expr n l i)
  expr_within zero n le l i = within_too_deep i
  expr_within (suc m) zero le l i = absurd (omega (arith, le))
  expr_within (suc m) (suc n) le l i =
      at_level_within (expr m) (expr n) (λ k j. expr_within m n (omega (arith, le)) k j) (place_of m) (place_of n)
      (λ j. place_of_within m n (omega (arith, le)) j) m n (omega (arith, le)) l i

  place_of_within : (m n : ℕ) → m ≤ n → (i : Input) → Within (place_of m i) (place_of n i)
  place_of_within zero n le i = within_too_deep i
  place_of_within (suc m) zero le i = absurd (omega (arith, le))
  place_of_within (suc m) (suc n) le i = place_within (expr m) (expr n) (λ k j. expr_within m n (omega (arith, le)) k j) i
