-- A turn of each loop that reads expressions, and an expression by what stands one level down.
use Rattle.std.proofs.Common.{◌≡◌, ℕ, zero, suc, ◌+◌, ◌-◌, ◌<◌, true, false, nat_lt, codes, Some, Ok, refl, arith}
use Rattle.xs_base.proofs.Turns.{deeper}
use Rattle.xs_base.specs.Reading.{Fails}
use Rattle.xs_base.specs.declared.fault.Refuse.{Refuse}
use Rattle.xs_base.specs.declared.fault.Refuse.TheVariants as refuse
use Rattle.xs_cexpr.specs.ExpressionReader.{Found, FoundAll, FoundPlace, above_place, at_level, climb, expr, index, joined, list_from, place_of, placed, suffixes, with_node}
use Rattle.xs_cexpr.specs.ExpressionTree.{After, Two}
use Rattle.xs_cexpr.specs.declared.node.Level.{Level}
use Rattle.xs_cexpr.specs.declared.node.Level.TheVariants as level
use Rattle.xs_cinput.specs.Operators.{a_step, operator}
use Rattle.xs_cinput.specs.TokenInput.{Input, Reader, after, expect, next, sees}
use Rattle.xs_cinput.specs.declared.tree.BinaryOp.{BinaryOp}
use Rattle.xs_cinput.specs.declared.tree.Step.{Step}

pub expr_below : (room : ℕ) (at : Level) → (room ≡ 0 → ⊥) → expr room at ≡ at_level (expr (room - 1)) (place_of (room - 1)) (room - 1) at
unfolding expr
expr_below zero at some = absurd (some refl)
expr_below (suc n) at some = deeper (λ n. expr n at) (suc n) (omega arith)

-- ---- the arguments of a call

pub item_fails : (inner : Level → Reader Found) (n : ℕ) (all : FoundAll) (i : Input) (e : Refuse) → Fails e (inner level.Whole i)
    → Fails e (list_from inner (suc n) all i)
unfolding list_from
item_fails inner n all i refuse.Memory x = tt
item_fails inner n all i (refuse.Fault fault) x = rw x refl

pub end_fails : (inner : Level → Reader Found) (n : ℕ) (all : FoundAll) (i j k : Input) (one : Found) (e : Refuse) → inner level.Whole i ≡ Ok (one, j)
    → sees (codes ",") j ≡ false → k ≡ after (codes ",") j → Fails e (expect (codes ")") k) → Fails e (list_from inner (suc n) all i)
unfolding list_from
end_fails inner n all i j k one refuse.Memory x s a f = tt
end_fails inner n all i j k one (refuse.Fault fault) x s a f = rw (x, s, ← a, f) refl

pub list_ends : (inner : Level → Reader Found) (n : ℕ) (all : FoundAll) (i j k h : Input) (one : Found) (u : Unit {0})
    → inner level.Whole i ≡ Ok (one, j) → sees (codes ",") j ≡ false → k ≡ after (codes ",") j → expect (codes ")") k ≡ Ok (u, h)
    → list_from inner (suc n) all i ≡ Ok (with_node all one, h)
unfolding list_from
list_ends inner n all i j k h one u x s a f = rw (x, s, ← a, f) refl

pub item_more : (inner : Level → Reader Found) (n : ℕ) (all : FoundAll) (i j k : Input) (one : Found) → inner level.Whole i ≡ Ok (one, j)
    → sees (codes ",") j ≡ true → k ≡ after (codes ",") j → list_from inner (suc n) all i ≡ list_from inner n (with_node all one) k
unfolding list_from
item_more inner n all i j k one x s a = rw (x, s, ← a) refl

-- ---- what follows an operand

module _ (inner : Level → Reader Found) (inner_place : Reader FoundPlace) (below : ℕ) where
  pub index_more : (line n : ℕ) (left one : Found) (i j : Input) → sees (codes "[") i ≡ true → index inner inner_place below line left i ≡ Ok (one, j)
      → suffixes inner inner_place below line (suc n) left i ≡ suffixes inner inner_place below line n one j
  unfolding suffixes
  index_more line n left one i j s x = rw (s, x) refl

  pub step_more : (line n : ℕ) (left : Found) (p : FoundPlace) (step : Step) (i j : Input) → sees (codes "[") i ≡ false → a_step i ≡ Some step
      → placed left ≡ Ok p → nat_lt below p.height ≡ false → j ≡ next i
      → suffixes inner inner_place below line (suc n) left i ≡ suffixes inner inner_place below line n (above_place (λ place. After line place step) p) j
  unfolding suffixes
  step_more line n left p step i j s a is h k = rw (s, a, is, h, ← k) refl

  -- an operator, and its right operand
  pub climb_more : (tight line n : ℕ) (left right : Found) (op : BinaryOp × ℕ) (i j k : Input) → operator tight i ≡ Some op → nat_lt below left.height ≡ false
      → j ≡ next i → inner (level.Binary (op.1 + 1)) j ≡ Ok (right, k)
      → climb inner inner_place below tight line (suc n) left i ≡ climb inner inner_place below tight line n (joined (Two line op.0) left right) k
  unfolding climb
  climb_more tight line n left right op i j k o h s x = rw (o, h, ← s, x) refl
