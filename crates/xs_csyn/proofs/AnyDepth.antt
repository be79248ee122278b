-- What stands in the grammar is read, or refused as nested too deep: one proof with bounds on the depth, and without.
use Rattle.std.proofs.Common.{◌≡◌, ℕ, ◌+◌, ◌<◌, ◌≤◌, ◌⊎◌, inl, inr, List, length, Result, Ok, Err, ◌∙◌, arith}
use Rattle.xs_base.specs.declared.fault.Fault.{Fault}
use Rattle.xs_cexpr.specs.ExpressionHeights.{height}
use Rattle.xs_cexpr.specs.ExpressionReader.{expr}
use Rattle.xs_cexpr.specs.ExpressionTree.{ExprTree}
use Rattle.xs_cexpr.specs.declared.node.Level.TheVariants as level
use Rattle.xs_cinput.specs.TokenInput.{Input, Outcome}
use Rattle.xs_csyn.proofs.ExpressionsComplete.{found_of, whole_read}
use Rattle.xs_csyn.proofs.MoreRoom.{Within, deep, expr_within, same}
use Rattle.xs_csyn.proofs.Starts.{Ends}
use Rattle.xs_csyn.proofs.Yields.{at}
use Rattle.xs_csyn.specs.FileGrammar.{AreNames}
use Rattle.xs_csyn.specs.Grammar.{Whole}
use Rattle.xs_csyn.specs.Laws.{TooDeep}
use Rattle.xs_ctok.specs.declared.token.Token.{Token}

-- The answer is this, or a fault of nesting where `Any` holds: any depth is allowed then.
pub data IsRead (Any : Type 0) {A : Type 0} (answer : Result A Fault) (a : A) : Type 0 where
  is_read : answer ≡ Ok a → IsRead Any answer a
  refused : Any → TooDeep answer → IsRead Any answer a

pub bounded : {A : Type 0} {r : Result A Fault} {a : A} → IsRead ⊥ r a → r ≡ Ok a
bounded (is_read e) = e
bounded (refused none x) = absurd none

pub at_any_depth : {Any A : Type 0} {r : Result A Fault} {a : A} → IsRead Any r a → (r ≡ Ok a) ⊎ TooDeep r
at_any_depth (is_read e) = inl e
at_any_depth (refused any x) = inr x

-- ---- what is within a bound, or where any depth is allowed

pub under : {Any P Q : Type 0} → P ⊎ Any → (P → Q) → Q ⊎ Any
under (inl p) so = inl (so p)
under (inr any) so = inr any

pub no_room : {Any P : Type 0} → P ⊎ Any → (P → ⊥) → Any
no_room (inl p) isnt = absurd (isnt p)
no_room (inr any) isnt = any

-- ---- steps

-- The whole is read where its part is, and has the fault that the part has.
pub carry : {Any A B : Type 0} {r : Result A Fault} {a : A} {s : Result B Fault} {c : B} → IsRead Any r a → ((e : Fault) → r ≡ Err e → s ≡ Err e)
    → (r ≡ Ok a → IsRead Any s c) → IsRead Any s c
carry (is_read e) fails goes_on = goes_on e
carry (refused any x) fails goes_on = refused any (record { refusal = x.refusal; is = fails x.refusal x.is; code = x.code })

pub by_same : {Any A : Type 0} {r s : Result A Fault} {a : A} → r ≡ s → IsRead Any s a → IsRead Any r a
by_same e x = rw e x

pub regrouped : {Any A : Type 0} {r : Outcome A} {a c : A} {k : Input} → a ≡ c → IsRead Any r (a, k) → IsRead Any r (c, k)
regrouped e x = rw (← e) x

-- ---- expressions

with_more_room : {Any A : Type 0} {r s : Outcome A} {a : A} {k : Input} → Any → Within r s → s ≡ Ok (a, k) → IsRead Any r (a, k)
with_more_room any (same e) is = is_read (e ∙ is)
with_more_room any (deep x) is = refused any x

module _ (Any : Type 0) (b : Input) (names : AreNames b.types) where
  pub whole_is_read : {a : ExprTree} {ts us : List Token} → Whole b.types a ts us → (room : ℕ) → (height a ≤ room) ⊎ Any → length ts < b.turns → Ends us
      → IsRead Any (expr room level.Whole (at b ts)) (found_of a, at b us)
  whole_is_read x room (inl h) few stop = is_read (whole_read b names x room h few stop)
  whole_is_read {a} {ts} {us} x room (inr any) few stop =
      with_more_room any (expr_within room (room + height a) (omega arith) level.Whole (at b ts))
      (whole_read b names x (room + height a) (omega arith) few stop)
