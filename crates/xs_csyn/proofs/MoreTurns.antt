-- Further turns of the loops change nothing.
use Rattle.xs_cexpr.specs.ExpressionTree.{ExprTree}
use Rattle.std.proofs.Common.{◌≡◌, ℕ, zero, suc, ◌+◌, ◌<◌, Bool, true, false, if◌then◌else◌, ◌||◌, List, [], ◌∷◌, ◌++◌, length, Ok, Err, refl, ap, sym, ◌∙◌, arith}
use Rattle.std.specs.Prelude.{codes}
use Rattle.xs_base.specs.Readers.{◌>>=◌, and_then, head_is}
use Rattle.xs_ctok.specs.declared.token.Token.{Token}
use Rattle.xs_csyn.proofs.ExpressionsSound.{expr_yields}
use Rattle.xs_csyn.proofs.FilesSound.{field_shrinks, field_yields, item_yields, parameter_yields}
use Rattle.xs_csyn.proofs.Sizes.{declarator_shrinks, item_shrinks, label_shrinks, parameter_shrinks, part_shrinks, stmt_shrinks, whole_shrinks}
use Rattle.xs_csyn.proofs.StatementsSound.{declarator_yields, group_shrinks, group_yields, label_yields, part_yields, stmt_yields}
use Rattle.xs_csyn.proofs.Yields.{Yields, at}
use Rattle.xs_cexpr.specs.ExpressionReader.{FoundAll, expr, list_from, with_node}
use Rattle.xs_csyn.specs.FileReader.{args_from, fields_from, item, items_from, parameters_from, rest_from, with_types_of}
use Rattle.xs_csyn.specs.Laws.{TurnsLaw}
use Rattle.xs_cstmt.specs.StatementReader.{body_from, declarators_from, group, groups_from, labels_from, last_leaves, part, parts_from, sees_label, stmt}
use Rattle.xs_cstmt.specs.StatementTree.{DeclaratorTree, GroupTree, StmtTree}
use Rattle.xs_csyn.specs.FileTree.{ItemTree}
use Rattle.xs_cinput.specs.TokenInput.{Input, Outcome, Reader, after, at_end, is_sign, next, refuse, sees}
use Rattle.xs_cinput.specs.TypeReader.{stars_from}
use Rattle.xs_cexpr.specs.declared.node.Level.TheVariants as level
use Rattle.xs_cstmt.specs.declared.tree.Label.{Label}
use Rattle.xs_csyn.specs.declared.tree.Par.{Par}

-- what a reading goes on with is the same
same_after : {A C : Type 0} {b : Input} {P : A → List Token → Type 0} (r : Outcome A) (f g : A → Reader C) → Yields b r P
    → ((a : A) (us : List Token) → P a us → f a (at b us) ≡ g a (at b us)) → and_then r f ≡ and_then r g
same_after (Ok p) f g x h =
    let q = x.gives p.0 p.1 refl in
    ap (λ (j : Input). f p.0 j) q.1 ∙ (h p.0 q.0 q.2 ∙ sym (ap (λ (j : Input). g p.0 j) q.1))
same_after (Err e) f g x h = refl

same_ways : {A : Type 0} (c : Bool) (p q p' q' : Reader A) (i j : Input) → (c ≡ true → p i ≡ p' i) → (c ≡ false → q j ≡ q' j)
    → (if c then p else q) (if c then i else j) ≡ (if c then p' else q') (if c then i else j)
same_ways true p q p' q' i j h k = h refl
same_ways false p q p' q' i j h k = k refl

same_eat : {A : Type 0} (b : Input) (text : List ℕ) (ts : List Token) (p q p' q' : Reader A)
    → ((us : List Token) → length us < length ts → p (at b us) ≡ p' (at b us)) → (head_is (is_sign text) ts ≡ false → q (at b ts) ≡ q' (at b ts))
    → (if sees text (at b ts) then p else q) (after text (at b ts)) ≡ (if sees text (at b ts) then p' else q') (after text (at b ts))
unfolding sees after next
same_eat b text [] p q p' q' h k = k refl
same_eat b text (u ∷ us) p q p' q' h k =
    same_ways (is_sign text u) p q p' q' (at b us) (at b (u ∷ us)) (λ e. h us (omega arith)) (λ e. k e)

same_if : {A : Type 0} (c : Bool) (x y z : A) → (c ≡ false → y ≡ z) → (if c then x else y) ≡ (if c then x else z)
same_if true x y z h = refl
same_if false x y z h = h refl

same_then : {A : Type 0} (c : Bool) (x y z : A) → (c ≡ true → x ≡ y) → (if c then x else z) ≡ (if c then y else z)
same_then true x y z h = h refl
same_then false x y z h = refl

same_choice : {A : Type 0} (c : Bool) (p q r : Reader A) (i : Input) → (c ≡ true → p i ≡ q i) → (if c then p else r) i ≡ (if c then q else r) i
same_choice true p q r i h = h refl
same_choice false p q r i h = refl

module _ (b : Input) where
  pub stars_same : (n m k : ℕ) (ts : List Token) → length ts < n → length ts < m → stars_from n k (at b ts) ≡ stars_from m k (at b ts)
  unfolding stars_from
  stars_same zero m k ts h g = absurd (omega (arith, h))
  stars_same (suc n) zero k ts h g = absurd (omega (arith, g))
  stars_same (suc n) (suc m) k ts h g =
      same_eat b (codes "*") ts _ _ _ _ (λ us less. stars_same n m (k + 1) us (omega (arith, h, less)) (omega (arith, g, less))) (λ isnt. refl)

  pub list_same : (room n m : ℕ) (all : FoundAll) (ts : List Token) → length ts < n → length ts < m
      → list_from (expr room) n all (at b ts) ≡ list_from (expr room) m all (at b ts)
  unfolding list_from
  list_same room zero m all ts h g = absurd (omega (arith, h))
  list_same room (suc n) zero all ts h g = absurd (omega (arith, g))
  list_same room (suc n) (suc m) all ts h g =
      same_after _ _ _ (expr_yields b room level.Whole ts) (λ one us x. same_eat b (codes ",") us _ _ _ _
      (λ vs less. list_same room n m (with_node all one) vs (omega (arith, h, less, whole_shrinks x.stands)) (omega (arith, g, less, whole_shrinks x.stands)))
      (λ isnt. refl))

  pub names_same : (n m : ℕ) (sofar : List DeclaratorTree) (ts : List Token) → length ts < n → length ts < m
      → declarators_from n sofar (at b ts) ≡ declarators_from m sofar (at b ts)
  unfolding declarators_from
  names_same zero m sofar ts h g = absurd (omega (arith, h))
  names_same (suc n) zero sofar ts h g = absurd (omega (arith, g))
  names_same (suc n) (suc m) sofar ts h g =
      same_after _ _ _ (declarator_yields b ts) (λ one us x. same_eat b (codes ",") us _ _ _ _
      (λ vs less. names_same n m (sofar ++ one ∷ []) vs (omega (arith, h, less, declarator_shrinks x.0)) (omega (arith, g, less, declarator_shrinks x.0)))
      (λ isnt. refl))

  pub labels_same : (n m : ℕ) (sofar : List Label) (ts : List Token) → length ts < n → length ts < m
      → labels_from n sofar (at b ts) ≡ labels_from m sofar (at b ts)
  unfolding labels_from
  labels_same zero m sofar ts h g = absurd (omega (arith, h))
  labels_same (suc n) zero sofar ts h g = absurd (omega (arith, g))
  labels_same (suc n) (suc m) sofar ts h g =
      same_after _ _ _ (label_yields b ts)
      (λ one us x. same_then {A = Outcome (List Label)} (sees_label (at b us)) (labels_from n (sofar ++ one ∷ []) (at b us))
      (labels_from m (sofar ++ one ∷ []) (at b us)) (Ok (sofar ++ one ∷ [], at b us))
      (λ is. labels_same n m (sofar ++ one ∷ []) us (omega (arith, h, label_shrinks x)) (omega (arith, g, label_shrinks x))))

  pub parts_same : (room n m : ℕ) (sofar : List StmtTree) (ts : List Token) → length ts < n → length ts < m
      → parts_from (stmt room) n sofar (at b ts) ≡ parts_from (stmt room) m sofar (at b ts)
  unfolding parts_from
  parts_same room zero m sofar ts h g = absurd (omega (arith, h))
  parts_same room (suc n) zero sofar ts h g = absurd (omega (arith, g))
  parts_same room (suc n) (suc m) sofar ts h g =
      same_eat b (codes "}") ts _ _ _ _ (λ us less. refl)
      (λ isnt. same_after _ _ _ (part_yields b (stmt room) room (stmt_yields b room) ts)
      (λ one us x. parts_same room n m (sofar ++ one ∷ []) us (omega (arith, h, part_shrinks x.0)) (omega (arith, g, part_shrinks x.0))))

  pub body_same : (room n m : ℕ) (sofar : List StmtTree) (ts : List Token) → length ts < n → length ts < m
      → body_from (stmt room) n sofar (at b ts) ≡ body_from (stmt room) m sofar (at b ts)
  unfolding body_from
  body_same room zero m sofar ts h g = absurd (omega (arith, h))
  body_same room (suc n) zero sofar ts h g = absurd (omega (arith, g))
  body_same room (suc n) (suc m) sofar ts h g =
      same_if {A = Outcome (List StmtTree)} (sees (codes "}") (at b ts) || sees_label (at b ts)) (Ok (sofar, at b ts))
      (and_then (stmt room (at b ts)) (λ one. body_from (stmt room) n (sofar ++ one ∷ [])))
      (and_then (stmt room (at b ts)) (λ one. body_from (stmt room) m (sofar ++ one ∷ []))) (λ isnt. same_after _ _ _ (stmt_yields b room ts)
      (λ one us x. body_same room n m (sofar ++ one ∷ []) us (omega (arith, h, stmt_shrinks x.0)) (omega (arith, g, stmt_shrinks x.0))))

  pub groups_same : (room n m : ℕ) (may : Bool) (sofar : List GroupTree) (ts : List Token) → length ts < n → length ts < m
      → groups_from (stmt room) n may sofar (at b ts) ≡ groups_from (stmt room) m may sofar (at b ts)
  unfolding groups_from
  groups_same room zero m may sofar ts h g = absurd (omega (arith, h))
  groups_same room (suc n) zero may sofar ts h g = absurd (omega (arith, g))
  groups_same room (suc n) (suc m) may sofar ts h g =
      same_eat b (codes "}") ts _ _ _ _ (λ us less. refl)
      (λ isnt. same_choice may (group (stmt room) >>= λ one. groups_from (stmt room) n (last_leaves false one.body) (sofar ++ one ∷ []))
      (group (stmt room) >>= λ one. groups_from (stmt room) m (last_leaves false one.body) (sofar ++ one ∷ [])) refuse (at b ts)
      (λ is. same_after _ _ _ (group_yields b (stmt room) room (stmt_yields b room) ts)
      (λ one us x. groups_same room n m (last_leaves false one.body) (sofar ++ one ∷ []) us (omega (arith, h, group_shrinks x)) (omega
      (arith, g, group_shrinks x)))))

  pub fields_same : (n m : ℕ) (sofar : List Par) (ts : List Token) → length ts < n → length ts < m
      → fields_from n sofar (at b ts) ≡ fields_from m sofar (at b ts)
  unfolding fields_from
  fields_same zero m sofar ts h g = absurd (omega (arith, h))
  fields_same (suc n) zero sofar ts h g = absurd (omega (arith, g))
  fields_same (suc n) (suc m) sofar ts h g =
      same_eat b (codes "}") ts _ _ _ _ (λ us less. refl)
      (λ isnt. same_after _ _ _ (field_yields b ts)
      (λ one us x. fields_same n m (sofar ++ one ∷ []) us (omega (arith, h, field_shrinks x)) (omega (arith, g, field_shrinks x))))

  pub parameters_same : (n m : ℕ) (sofar : List Par) (ts : List Token) → length ts < n → length ts < m
      → parameters_from n sofar (at b ts) ≡ parameters_from m sofar (at b ts)
  unfolding parameters_from
  parameters_same zero m sofar ts h g = absurd (omega (arith, h))
  parameters_same (suc n) zero sofar ts h g = absurd (omega (arith, g))
  parameters_same (suc n) (suc m) sofar ts h g =
      same_after _ _ _ (parameter_yields b ts) (λ one us x. same_eat b (codes ",") us _ _ _ _
      (λ vs less. parameters_same n m (sofar ++ one ∷ []) vs (omega (arith, h, less, parameter_shrinks x)) (omega (arith, g, less, parameter_shrinks x)))
      (λ isnt. refl))

  pub rest_same : (room n m : ℕ) (sofar : List StmtTree) (ts : List Token) → length ts < n → length ts < m
      → rest_from (stmt room) n sofar (at b ts) ≡ rest_from (stmt room) m sofar (at b ts)
  unfolding rest_from
  rest_same room zero m sofar ts h g = absurd (omega (arith, h))
  rest_same room (suc n) zero sofar ts h g = absurd (omega (arith, g))
  rest_same room (suc n) (suc m) sofar ts h g =
      same_if {A = Outcome (List StmtTree)} (at_end (at b ts)) (Ok (sofar, at b ts))
      (and_then (part (stmt room) (at b ts)) (λ one. rest_from (stmt room) n (sofar ++ one ∷ [])))
      (and_then (part (stmt room) (at b ts)) (λ one. rest_from (stmt room) m (sofar ++ one ∷ [])))
      (λ isnt. same_after _ _ _ (part_yields b (stmt room) room (stmt_yields b room) ts)
      (λ one us x. rest_same room n m (sofar ++ one ∷ []) us (omega (arith, h, part_shrinks x.0)) (omega (arith, g, part_shrinks x.0))))

  pub args_same : (room n m : ℕ) (sofar : List ExprTree) (ts : List Token) → length ts < n → length ts < m
      → args_from room n sofar (at b ts) ≡ args_from room m sofar (at b ts)
  unfolding args_from
  args_same room zero m sofar ts h g = absurd (omega (arith, h))
  args_same room (suc n) zero sofar ts h g = absurd (omega (arith, g))
  args_same room (suc n) (suc m) sofar ts h g =
      same_after _ _ _ (expr_yields b room level.Whole ts) (λ one us x. same_eat b (codes ",") us _ _ _ _
      (λ vs less. args_same room n m (sofar ++ one.tree ∷ []) vs (omega (arith, h, less, whole_shrinks x.stands))
      (omega (arith, g, less, whole_shrinks x.stands)))
      (λ isnt. refl))

pub items_same : (n m : ℕ) (b : Input) (sofar : List ItemTree) (ts : List Token) → length ts < n → length ts < m
    → items_from n sofar (at b ts) ≡ items_from m sofar (at b ts)
unfolding items_from
items_same zero m b sofar ts h g = absurd (omega (arith, h))
items_same (suc n) zero b sofar ts h g = absurd (omega (arith, g))
items_same (suc n) (suc m) b sofar ts h g =
    same_if {A = Outcome (List ItemTree)} (at_end (at b ts)) (Ok (sofar, at b ts))
    (and_then (item (at b ts)) (λ one j. items_from n (sofar ++ one ∷ []) (with_types_of one j)))
    (and_then (item (at b ts)) (λ one j. items_from m (sofar ++ one ∷ []) (with_types_of one j))) (λ isnt. same_after _ _ _ (item_yields b ts)
    (λ one us x. items_same n m (with_types_of one b) (sofar ++ one ∷ []) us (omega (arith, h, item_shrinks x.0)) (omega (arith, g, item_shrinks x.0))))

pub turns_law : TurnsLaw
turns_law = record {
  stars = λ turns n i h. stars_same i turns (suc (length i.rest)) n i.rest h (omega arith);
  arguments = λ room turns all i h. list_same i room turns (suc (length i.rest)) all i.rest h (omega arith);
  names = λ turns sofar i h. names_same i turns (suc (length i.rest)) sofar i.rest h (omega arith);
  labels = λ turns sofar i h. labels_same i turns (suc (length i.rest)) sofar i.rest h (omega arith);
  parts = λ room turns sofar i h. parts_same i room turns (suc (length i.rest)) sofar i.rest h (omega arith);
  bodies = λ room turns sofar i h. body_same i room turns (suc (length i.rest)) sofar i.rest h (omega arith);
  groups = λ room turns may sofar i h. groups_same i room turns (suc (length i.rest)) may sofar i.rest h (omega arith);
  fields = λ turns sofar i h. fields_same i turns (suc (length i.rest)) sofar i.rest h (omega arith);
  parameters = λ turns sofar i h. parameters_same i turns (suc (length i.rest)) sofar i.rest h (omega arith);
  pieces = λ room turns sofar i h. rest_same i room turns (suc (length i.rest)) sofar i.rest h (omega arith);
  items = λ turns sofar i h. items_same turns (suc (length i.rest)) i sofar i.rest h (omega arith);
}
