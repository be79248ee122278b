-- Lists of nodes while the code grows.
use Rattle.std.proofs.Common.{◌≡◌, ℕ, ◌<◌, ◌≤◌, true, List, [], ◌∷◌, ◌++◌, map, length, Option, Some, None, Result, Ok, Err, refl, sym, ap, ap₂, ◌∙◌, subst, arith}
use Rattle.std.specs.Prelude.{IfOk, nat_lt}
use Rattle.std.proofs.lemmas.Bool.{and_parts, and_from, ltb-true, lt-ltb}
use Rattle.std.proofs.lemmas.Bool.Decides.{nat_tests}
use Rattle.std.proofs.lemmas.List.{map-append, map-id}
use Rattle.std.proofs.lemmas.List.Folds.{list_all-append}
use Rattle.std.specs.declared.alloc.Global.{Global}
use Rattle.std.specs.declared.vec.Vec.{Vec}
use Rattle.xs_base.specs.declared.fault.Fault.{Fault}
use Rattle.xs_base.specs.declared.memory.Memory.{Memory}
use Rattle.xs_ctree.specs.declared.node.Group.{Group}
use Rattle.xs_ctree.specs.declared.typed.Typed.{Typed}
use Rattle.xs_ctree.specs.Arena.{all_below}
use Rattle.xs_ctree.specs.Functions.{stmt_in}
use Rattle.xs_ctree.specs.Growth.{AddsStmt, HasStmt, Keeps, groups_in, has_stmts}
use Rattle.xs_ctree.specs.TypedTree.{MoreGroups, Stmt, stmts_of}
use Rattle.xs_ctree.proofs.Opening.{map_same}
use Rattle.xs_ccheck.specs.declared.exprs.TypedNode.{TypedNode}
use Rattle.xs_ctypes.specs.Checked.{Checked, Good, Bad, more}
use Rattle.xs_ctypes.specs.Joining.{first_of, settled}
use Rattle.xs_ccheck.specs.Resolving.{GivesNone, HasGroup, HasLabel, HasTyped, HaveGroups, HaveLabels, HaveStmts, HaveTyped, Stand, all_stmts_in, group_in, label_in, nodes_of, typed_in}
use Rattle.xs_ccheck.specs.StmtTyping.{groups_of, typed_group}
use Rattle.xs_ccheck.proofs.Collecting.{Lasts, on, on_two}

below_more : (m n : ℕ) (xs : List ℕ) → m ≤ n → all_below m xs ≡ true → all_below n xs ≡ true
below_more m n [] le h = refl
below_more m n (x ∷ xs) le h =
    let d = and_parts _ _ h in
    and_from _ _ (one x d.0) (below_more m n xs le d.1)
  where
    one : (x : ℕ) → nat_lt x m ≡ true → nat_lt x n ≡ true
    one x e = grind (arith, nat_tests)

below_last : (n x : ℕ) (xs : List ℕ) → all_below n xs ≡ true → x < n → all_below n (xs ++ x ∷ []) ≡ true
below_last n x xs h lt =
    list_all-append (λ i. nat_lt i n) xs (x ∷ []) ∙ and_from _ _ h (and_from _ _ (lt-ltb x n lt) refl)

pub stmts_last : Lasts stmt_in HasStmt HaveStmts
stmts_last = record {
  last = λ t xs x h lt. below_last (length t.stmts.items) x xs h lt;
  still = λ old new xs k h. below_more (length old.stmts.items) (length new.stmts.items) xs k.stmts h;
  same = λ old new xs k h. map_same (length old.stmts.items) (stmt_in new) (stmt_in old) k.stmt xs h;
}

nodes_last : (n : ℕ) (xs : List TypedNode) (x : TypedNode) → all_below n (nodes_of xs) ≡ true → x.node < n → all_below n (nodes_of (xs ++ x ∷ [])) ≡ true
nodes_last n xs x h lt =
    subst (λ ns. all_below n ns ≡ true) (sym (map-append (λ (z : TypedNode). z.node) xs (x ∷ []))) (below_last n x.node (nodes_of xs) h lt)

typed_same : (old new : Typed) → Keeps old new → (xs : List TypedNode) → HaveTyped old xs → map (typed_in new) xs ≡ map (typed_in old) xs
typed_same old new k [] h = refl
typed_same old new k (x ∷ xs) h =
    let d = and_parts _ _ h in
    ap₂ (λ y ys. y ∷ ys) (ap (λ e. record { tree = e; of_type = x.of_type }) (k.expr x.node (ltb-true x.node (length old.exprs.items) d.0)))
    (typed_same old new k xs d.1)

pub typed_last : Lasts typed_in HasTyped HaveTyped
typed_last = record {
  last = λ t xs x h lt. nodes_last (length t.exprs.items) xs x h lt;
  still = λ old new xs k h. below_more (length old.exprs.items) (length new.exprs.items) (nodes_of xs) k.exprs h;
  same = λ old new xs k h. typed_same old new k xs h;
}

-- ---- labels and groups

pub labels_last : Lasts label_in HasLabel HaveLabels
labels_last = record {
  last = λ t xs x h g. tt;
  still = λ old new xs k h. tt;
  same = λ old new xs k h. refl;
}

group_same : (old new : Typed) → Keeps old new → (g : Group) → HasGroup old g → group_in new g ≡ group_in old g
group_same old new k g h = ap (typed_group (map (label_in new) g.labels.items)) (stmts_last.same old new g.body.items k h)

groups_still : (old new : Typed) → Keeps old new → (gs : List Group) → HaveGroups old gs → HaveGroups new gs
groups_still old new k [] h = refl
groups_still old new k (g ∷ gs) h =
    let d = and_parts _ _ h in
    and_from _ _ (stmts_last.still old new g.body.items k d.0) (groups_still old new k gs d.1)

groups_same : (old new : Typed) → Keeps old new → (gs : List Group) → HaveGroups old gs → map (group_in new) gs ≡ map (group_in old) gs
groups_same old new k [] h = refl
groups_same old new k (g ∷ gs) h =
    let d = and_parts _ _ h in
    ap₂ (λ y ys. y ∷ ys) (group_same old new k g d.0) (groups_same old new k gs d.1)

pub groups_last : Lasts group_in HasGroup HaveGroups
groups_last = record {
  last = λ t xs x h g. list_all-append (has_stmts t) xs (x ∷ []) ∙ and_from _ _ h (and_from _ _ g refl);
  still = λ old new xs k h. groups_still old new k xs h;
  same = λ old new xs k h. groups_same old new k xs h;
}

-- the groups of a switch are those of its parts
pub groups_are : (t : Typed) (gs : List Group) → groups_of (map (group_in t) gs) ≡ groups_in t gs
groups_are t [] = refl
groups_are t (g ∷ gs) =
    ap₂ (λ ns all. MoreGroups ns (stmts_of (map (stmt_in t) g.body.items)) all) (map-id g.labels.items) (groups_are t gs)

-- a statement in front of others
pub stood : (old new : Typed) (first : ℕ) (body : List ℕ) (s : Stmt) (r : Result (Vec ℕ Global) Memory) → AddsStmt old s first new → HaveStmts old body
    → IfOk r (λ all. all.items ≡ first ∷ body) → IfOk r (λ all. Stand old (s ∷ all_stmts_in old body) all.items new)
stood old new first body s (Ok all) a h e =
    subst (λ xs. Stand old (s ∷ all_stmts_in old body) xs new) (sym e) (record {
      keeps = a.keeps;
      there = and_from _ _ (lt-ltb first (length new.stmts.items) a.there) (stmts_last.still old new body a.keeps h);
      are = ap₂ (λ t ts. t ∷ ts) a.is (stmts_last.same old new body a.keeps h);
    })
stood old new first body s (Err m) a h e = tt

-- ---- names that are defined as integers

abbrev pub DefinesSoFar : Option Fault → Checked (List (Unit {0})) → Checked (List (Unit {0})) → Type 0
DefinesSoFar None whole rest = whole ≡ rest
DefinesSoFar (Some f) whole rest = whole ≡ on (Bad f) rest

first_on : (f : Fault) (rest : Checked (List (Unit {0}))) → more (Bad f) rest ≡ on (Bad f) rest
first_on f (Good us) = refl
first_on f (Bad g) = refl

pub define_noted : (least : Option Fault) (f : Fault) (whole now rest : Checked (List (Unit {0}))) → now ≡ more (Bad f) rest → DefinesSoFar least whole now
    → DefinesSoFar (Some (first_of least f)) whole rest
define_noted None f whole now rest e h = h ∙ e ∙ first_on f rest
define_noted (Some g) f whole now rest e h = h ∙ ap (on (Bad g)) e ∙ on_two g f rest

pub defines_end : (least : Option Fault) (whole now : Checked (List (Unit {0}))) → now ≡ Good [] → DefinesSoFar least whole now
    → GivesNone (settled tt least) whole
defines_end None whole now e h = ([], h ∙ e)
defines_end (Some f) whole now e h = h ∙ ap (on (Bad f)) e
