-- Nodes of parts that are resolved one after the other: what was resolved first stays while the code grows.
use Rattle.std.proofs.Common.{◌≡◌, Option, Some, None, Result, Ok, Err, refl, sym, ap, ap₂, ◌∙◌, subst, arith}
use Rattle.xs_base.specs.declared.fault.Refuse.{Refuse}
use Rattle.xs_base.specs.declared.fault.Refuse.TheVariants as refuse
use Rattle.xs_ctree.specs.declared.typed.Typed.{Typed}
use Rattle.xs_ctree.specs.Functions.{stmt_in}
use Rattle.xs_ctree.specs.Growth.{HasStmt, Keeps}
use Rattle.xs_ctree.proofs.Additions.{keeps_on}
use Rattle.xs_ccheck.specs.declared.exprs.TypedNode.{TypedNode}
use Rattle.xs_ctypes.specs.Checked.{Checked, Good, behind, both}
use Rattle.xs_ctypes.specs.Joining.{joined}
use Rattle.xs_ccheck.specs.Resolving.{HasOption, HasTyped, Refuses, Resolves, option_in, typed_in}
use Rattle.xs_ccheck.proofs.Collecting.{resolves_on}

-- what is seen of nodes stays
pub record Stays {X A : Type 0} (view : Typed → X → A) (there : Typed → X → Type 0) : Type 0 where
  pub still : (old new : Typed) (x : X) → Keeps old new → there old x → there new x
  pub same : (old new : Typed) (x : X) → Keeps old new → there old x → view new x ≡ view old x

pub typed_stays : Stays typed_in HasTyped
typed_stays = record {
  still = λ old new x k h. omega (arith, k.exprs, h);
  same = λ old new x k h. ap (λ e. record { tree = e; of_type = x.of_type }) (k.expr x.node h);
}

pub stmt_stays : Stays stmt_in HasStmt
stmt_stays = record {
  still = λ old new x k h. omega (arith, k.stmts, h);
  same = λ old new x k h. k.stmt x h;
}

option_still : (old new : Typed) (x : Option TypedNode) → Keeps old new → HasOption old x → HasOption new x
option_still old new None k h = tt
option_still old new (Some x) k h = typed_stays.still old new x k h

option_same : (old new : Typed) (x : Option TypedNode) → Keeps old new → HasOption old x → option_in new x ≡ option_in old x
option_same old new None k h = refl
option_same old new (Some x) k h = ap Some (typed_stays.same old new x k h)

pub option_stays : Stays option_in HasOption
option_stays = record { still = option_still; same = option_same }

-- ---- two parts

module _ {X Y A B : Type 0} (va : Typed → X → A) (ta : Typed → X → Type 0) (vb : Typed → Y → B) (tb : Typed → Y → Type 0) where
  abbrev pub pair_in : Typed → X × Y → A × B
  pair_in t z = (va t z.0, vb t z.1)

  abbrev pub HasPair : Typed → X × Y → Type 0
  HasPair t z = ta t z.0 × tb t z.1

  pub pair_stays : Stays va ta → Stays vb tb → Stays pair_in HasPair
  pair_stays sa sb = record {
    still = λ old new z k h. (sa.still old new z.0 k h.0, sb.still old new z.1 k h.1);
    same = λ old new z k h. ap₂ (λ a b. (a, b)) (sa.same old new z.0 k h.0) (sb.same old new z.1 k h.1);
  }

  pub joined_resolves : Stays va ta → (old one new : Typed) (x : Result X Refuse) (y : Result Y Refuse) (p : Checked A) (q : Checked B)
      → Resolves va ta x old one p → Resolves vb tb y one new q → Resolves pair_in HasPair (joined x y) old new (both p q (λ a b. Good (a, b)))
  joined_resolves s old one new (Ok x) (Ok y) p q h g = record {
    means = ap₂ (λ c d. both {C = A × B} c d (λ a b. Good (a, b))) h.means g.means ∙ ap (λ a. Good (a, vb new y)) (sym (s.same one new x g.keeps h.there_is));
    there_is = (s.still one new x g.keeps h.there_is, g.there_is);
    keeps = keeps_on old one new h.keeps g.keeps;
  }
  joined_resolves s old one new (Ok x) (Err refuse.Memory) p q h g = tt
  joined_resolves s old one new (Ok x) (Err (refuse.Fault f)) p q h g = ap₂ (λ c d. both {C = A × B} c d (λ a b. Good (a, b))) h.means g
  joined_resolves s old one new (Err refuse.Memory) (Ok y) p q h g = tt
  joined_resolves s old one new (Err (refuse.Fault f)) (Ok y) p q h g = ap₂ (λ c d. both {C = A × B} c d (λ a b. Good (a, b))) h g.means
  joined_resolves s old one new (Err refuse.Memory) (Err e) p q h g = tt
  joined_resolves s old one new (Err (refuse.Fault f)) (Err refuse.Memory) p q h g = tt
  joined_resolves s old one new (Err (refuse.Fault f)) (Err (refuse.Fault d)) p q h g = ap₂ (λ c d. both {C = A × B} c d (λ a b. Good (a, b))) h g

-- ---- a node behind its parts

module _ {X A Z C : Type 0} (va : Typed → X → A) (ta : Typed → X → Type 0) (vc : Typed → Z → C) (tc : Typed → Z → Type 0) (old one new : Typed)
    (read : Checked A) (k : A → Checked C) where
  -- its parts are good
  pub node_resolves : (x : X) (whole : Checked C) (res : Result Z Refuse) → Resolves va ta (Ok x) old one read → behind read k ≡ whole
      → Resolves vc tc res one new (k (va one x)) → Resolves vc tc res old new whole
  node_resolves x whole res h e g =
      resolves_on vc tc res old one new whole h.keeps (subst (λ c. Resolves vc tc res one new c) (sym (ap (λ r. behind r k) h.means) ∙ e) g)

  -- a part refuses
  pub node_refuses : (e : Refuse) (whole : Checked C) → Resolves va ta (Err e) old one read → behind read k ≡ whole → Refuses e whole
  node_refuses refuse.Memory whole h is = tt
  node_refuses (refuse.Fault f) whole h is = sym is ∙ ap (λ r. behind r k) h
