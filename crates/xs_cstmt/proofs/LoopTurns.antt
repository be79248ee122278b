-- One turn of each loop.
use Rattle.std.proofs.Common.{◌≡◌, ◌∙◌, ℕ, suc, Bool, true, false, List, [], ◌∷◌, ◌++◌, map, Ok, Err, refl, ap, ap₂, sym}
use Rattle.std.specs.Prelude.{codes}
use Rattle.std.proofs.lemmas.List.{map-append}
use Rattle.xs_base.specs.Reading.{Fails}
use Rattle.xs_base.specs.declared.fault.Fault.{Fault}
use Rattle.xs_base.specs.declared.fault.Refuse.{Refuse}
use Rattle.xs_base.specs.declared.fault.Refuse.TheVariants as refused
use Rattle.xs_cinput.specs.TokenInput.{Input, Outcome, after, refuse, sees}
use Rattle.xs_cstmt.specs.StatementTree.{DeclaratorTree, GroupTree, StmtTree}
use Rattle.xs_cstmt.specs.StatementReader.{a_label, body_from, declarator, declarators_from, ends_body, group, groups_from, labels_from, last_leaves, part, parts_from, sees_label, stmt}
use Rattle.xs_cstmt.specs.declared.tree.Label.{Label}

-- ---- labels

pub label_more : (n : ℕ) (done : List Label) (i j : Input) (one : Label) → a_label i ≡ Ok (one, j) → sees_label j ≡ true
    → labels_from (suc n) done i ≡ labels_from n (done ++ one ∷ []) j
unfolding labels_from
label_more n done i j one e s = rw (e, s) refl

-- ---- declarators

pub declarator_more : (n : ℕ) (done : List DeclaratorTree) (i j : Input) (one : DeclaratorTree) → declarator i ≡ Ok (one, j) → sees (codes ",") j ≡ true
    → declarators_from (suc n) done i ≡ declarators_from n (done ++ one ∷ []) (after (codes ",") j)
unfolding declarators_from
declarator_more n done i j one e s = rw (e, s) refl

ok_at : {A : Type 0} (a : A) (i j : Input) → j ≡ i → ◌≡◌ {A = Outcome A} (Ok (a, i)) (Ok (a, j))
ok_at {A} a i j e = ap (λ (k : Input). let r : Outcome A = Ok (a, k) in r) (sym e)

-- ---- what stands in a block

parts_over : (room n : ℕ) (done : List StmtTree) (i : Input) → sees (codes "}") i ≡ true
    → parts_from (stmt room) (suc n) done i ≡ Ok (done, after (codes "}") i)
unfolding parts_from
parts_over room n done i s = rw s refl

part_fails : (room n : ℕ) (done : List StmtTree) (i : Input) (f : Fault) → sees (codes "}") i ≡ false
    → part (stmt room) (after (codes "}") i) ≡ Err f → parts_from (stmt room) (suc n) done i ≡ Err f
unfolding parts_from
part_fails room n done i f s e = rw (s, e) refl

part_more : (room n : ℕ) (done : List StmtTree) (i j : Input) (one : StmtTree) → sees (codes "}") i ≡ false
    → part (stmt room) (after (codes "}") i) ≡ Ok (one, j) → parts_from (stmt room) (suc n) done i ≡ parts_from (stmt room) n (done ++ one ∷ []) j
unfolding parts_from
part_more room n done i j one s e = rw (s, e) refl

pub parts_given : (room left : ℕ) (done : List StmtTree) (i j : Input) (whole : Outcome (List StmtTree))
    → whole ≡ parts_from (stmt room) (suc left) done i → sees (codes "}") i ≡ true → j ≡ after (codes "}") i → whole ≡ Ok (done, j)
parts_given room left done i j whole b s a = b ∙ parts_over room left done i s ∙ ok_at done _ j a

pub part_refuses : (room left : ℕ) (done : List StmtTree) (i j : Input) (whole : Outcome (List StmtTree)) (e : Refuse)
    → whole ≡ parts_from (stmt room) (suc left) done i → sees (codes "}") i ≡ false → j ≡ after (codes "}") i
    → Fails e (part (stmt room) j) → Fails e whole
part_refuses room left done i j whole refused.Memory b s a p = tt
part_refuses room left done i j whole (refused.Fault f) b s a p =
    b ∙ part_fails room left done i f s (sym (ap (part (stmt room)) a) ∙ p)

pub parts_go_on : (room left : ℕ) (done longer : List StmtTree) (i j k : Input) (one : StmtTree) (whole : Outcome (List StmtTree))
    → whole ≡ parts_from (stmt room) (suc left) done i → sees (codes "}") i ≡ false → j ≡ after (codes "}") i
    → part (stmt room) j ≡ Ok (one, k) → done ++ one ∷ [] ≡ longer → whole ≡ parts_from (stmt room) left longer k
parts_go_on room left done longer i j k one whole b s a p l =
    b ∙ part_more room left done i k one s (sym (ap (part (stmt room)) a) ∙ p)
    ∙ ap (λ (all : List StmtTree). parts_from (stmt room) left all k) l

-- ---- the statements of a group

pub body_over : (room n : ℕ) (done : List StmtTree) (i : Input) → ends_body i ≡ true → body_from (stmt room) (suc n) done i ≡ Ok (done, i)
unfolding body_from
body_over room n done i s = rw s refl

body_fails : (room n : ℕ) (done : List StmtTree) (i : Input) (f : Fault) → ends_body i ≡ false
    → stmt room i ≡ Err f → body_from (stmt room) (suc n) done i ≡ Err f
unfolding body_from
body_fails room n done i f s e = rw (s, e) refl

body_more : (room n : ℕ) (done : List StmtTree) (i j : Input) (one : StmtTree) → ends_body i ≡ false
    → stmt room i ≡ Ok (one, j) → body_from (stmt room) (suc n) done i ≡ body_from (stmt room) n (done ++ one ∷ []) j
unfolding body_from
body_more room n done i j one s e = rw (s, e) refl

pub body_refuses : (room left : ℕ) (done : List StmtTree) (i : Input) (whole : Outcome (List StmtTree)) (e : Refuse)
    → whole ≡ body_from (stmt room) (suc left) done i → ends_body i ≡ false → Fails e (stmt room i) → Fails e whole
body_refuses room left done i whole refused.Memory b s p = tt
body_refuses room left done i whole (refused.Fault f) b s p = b ∙ body_fails room left done i f s p

pub body_goes_on : (room left : ℕ) (done longer : List StmtTree) (i j : Input) (one : StmtTree) (whole : Outcome (List StmtTree))
    → whole ≡ body_from (stmt room) (suc left) done i → ends_body i ≡ false → stmt room i ≡ Ok (one, j)
    → done ++ one ∷ [] ≡ longer → whole ≡ body_from (stmt room) left longer j
body_goes_on room left done longer i j one whole b s p l =
    b ∙ body_more room left done i j one s p ∙ ap (λ (all : List StmtTree). body_from (stmt room) left all j) l

-- ---- the groups of a `switch`

groups_over : (room n : ℕ) (may : Bool) (done : List GroupTree) (i : Input) → sees (codes "}") i ≡ true
    → groups_from (stmt room) (suc n) may done i ≡ Ok (done, after (codes "}") i)
unfolding groups_from
groups_over room n may done i s = rw s refl

group_falls : (room n : ℕ) (may : Bool) (done : List GroupTree) (i : Input) → sees (codes "}") i ≡ false → may ≡ false
    → groups_from (stmt room) (suc n) may done i ≡ refuse (after (codes "}") i)
unfolding groups_from
group_falls room n may done i s m = rw (s, m) refl

group_fails : (room n : ℕ) (may : Bool) (done : List GroupTree) (i : Input) (f : Fault) → sees (codes "}") i ≡ false → may ≡ true
    → group (stmt room) (after (codes "}") i) ≡ Err f → groups_from (stmt room) (suc n) may done i ≡ Err f
unfolding groups_from
group_fails room n may done i f s m e = rw (s, m, e) refl

group_more : (room n : ℕ) (may : Bool) (done : List GroupTree) (i j : Input) (one : GroupTree) → sees (codes "}") i ≡ false → may ≡ true
    → group (stmt room) (after (codes "}") i) ≡ Ok (one, j)
    → groups_from (stmt room) (suc n) may done i ≡ groups_from (stmt room) n (last_leaves false one.body) (done ++ one ∷ []) j
unfolding groups_from
group_more room n may done i j one s m e = rw (s, m, e) refl

pub groups_given : (room left : ℕ) (may : Bool) (done : List GroupTree) (i j : Input) (whole : Outcome (List GroupTree))
    → whole ≡ groups_from (stmt room) (suc left) may done i → sees (codes "}") i ≡ true → j ≡ after (codes "}") i → whole ≡ Ok (done, j)
groups_given room left may done i j whole b s a = b ∙ groups_over room left may done i s ∙ ok_at done _ j a

pub group_barred : (room left : ℕ) (may : Bool) (done : List GroupTree) (i j : Input) (whole : Outcome (List GroupTree))
    → whole ≡ groups_from (stmt room) (suc left) may done i → sees (codes "}") i ≡ false → j ≡ after (codes "}") i → may ≡ false
    → whole ≡ refuse j
group_barred room left may done i j whole b s a m =
    b ∙ group_falls room left may done i s m ∙ sym (ap (λ (k : Input). let r : Outcome (List GroupTree) = refuse k in r) a)

pub group_refuses : (room left : ℕ) (may : Bool) (done : List GroupTree) (i j : Input) (whole : Outcome (List GroupTree)) (e : Refuse)
    → whole ≡ groups_from (stmt room) (suc left) may done i → sees (codes "}") i ≡ false → j ≡ after (codes "}") i → may ≡ true
    → Fails e (group (stmt room) j) → Fails e whole
group_refuses room left may done i j whole refused.Memory b s a m p = tt
group_refuses room left may done i j whole (refused.Fault f) b s a m p =
    b ∙ group_fails room left may done i f s m (sym (ap (group (stmt room)) a) ∙ p)

pub groups_go_on : (room left : ℕ) (may more : Bool) (done longer : List GroupTree) (i j k : Input) (one : GroupTree) (whole : Outcome (List GroupTree))
    → whole ≡ groups_from (stmt room) (suc left) may done i → sees (codes "}") i ≡ false → j ≡ after (codes "}") i → may ≡ true
    → group (stmt room) j ≡ Ok (one, k) → more ≡ last_leaves false one.body → done ++ one ∷ [] ≡ longer
    → whole ≡ groups_from (stmt room) left more longer k
groups_go_on room left may more done longer i j k one whole b s a m p n l =
    b ∙ group_more room left may done i k one s m (sym (ap (group (stmt room)) a) ∙ p)
    ∙ ap₂ (λ (again : Bool) (all : List GroupTree). groups_from (stmt room) left again all k) (sym n) l

-- ---- lists that grow

pub map_more : {X Y : Type 0} (view : X → Y) (all longer : List X) (x : X) → longer ≡ all ++ x ∷ [] → map view all ++ view x ∷ [] ≡ map view longer
map_more view all longer x e = sym (ap (map view) e ∙ map-append view all (x ∷ []))
