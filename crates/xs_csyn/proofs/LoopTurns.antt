-- A turn of each loop that reads a file, or a piece of one.
use Rattle.std.proofs.Common.{◌≡◌, ℕ, suc, true, false, List, [], ◌∷◌, ◌++◌, Ok, refl, ap, sym, ◌∙◌}
use Rattle.std.specs.Prelude.{codes}
use Rattle.xs_base.specs.Reading as reading
use Rattle.xs_base.specs.Reading.{Fails}
use Rattle.xs_base.specs.declared.fault.Refuse.{Refuse}
use Rattle.xs_base.specs.declared.fault.Refuse.TheVariants as refuse
use Rattle.xs_cexpr.specs.ExpressionReader.{Found, expr}
use Rattle.xs_cexpr.specs.ExpressionTree.{ExprTree}
use Rattle.xs_cexpr.specs.declared.node.Level.TheVariants as level
use Rattle.xs_cinput.specs.TokenInput.{Input, Outcome, after, at_end, sees}
use Rattle.xs_cinput.specs.TypeReader.{with_name}
use Rattle.xs_cstmt.specs.StatementReader.{part, stmt}
use Rattle.xs_cstmt.specs.StatementTree.{StmtTree}
use Rattle.xs_csyn.proofs.FilesSound.{item_yields}
use Rattle.xs_csyn.specs.FileReader.{args_from, field, fields_from, first_of_pair, item, items_from, parameter, parameters_from, rest_from, type_of_item, with_types_of}
use Rattle.xs_csyn.specs.FileTree.{ItemTree}
use Rattle.xs_csyn.specs.declared.tree.Par.{Par}
use Rattle.xs_ctok.specs.declared.token.Token.{Token}

-- ---- fields and parameters

pub field_more : (n : ℕ) (done : List Par) (i j k : Input) (one : Par) → sees (codes "}") i ≡ false → j ≡ after (codes "}") i → field j ≡ Ok (one, k)
    → fields_from (suc n) done i ≡ fields_from n (done ++ one ∷ []) k
unfolding fields_from
field_more n done i j k one s a e = rw (s, ← a, e) refl

pub parameter_more : (n : ℕ) (done : List Par) (i j k : Input) (one : Par) → parameter i ≡ Ok (one, j) → sees (codes ",") j ≡ true
    → k ≡ after (codes ",") j → parameters_from (suc n) done i ≡ parameters_from n (done ++ one ∷ []) k
unfolding parameters_from
parameter_more n done i j k one e s a = rw (e, s, ← a) refl

-- ---- what stands in a block

pub rest_over : (room n : ℕ) (done : List StmtTree) (i : Input) → at_end i ≡ true → rest_from (stmt room) (suc n) done i ≡ Ok (done, i)
unfolding rest_from
rest_over room n done i e = rw e refl

pub part_fails : (room n : ℕ) (done : List StmtTree) (i : Input) (e : Refuse) → at_end i ≡ false → Fails e (part (stmt room) i)
    → Fails e (rest_from (stmt room) (suc n) done i)
unfolding rest_from
part_fails room n done i refuse.Memory more x = tt
part_fails room n done i (refuse.Fault fault) more x = rw (more, x) refl

pub part_more : (room n : ℕ) (done : List StmtTree) (i j : Input) (one : StmtTree) → at_end i ≡ false → part (stmt room) i ≡ Ok (one, j)
    → rest_from (stmt room) (suc n) done i ≡ rest_from (stmt room) n (done ++ one ∷ []) j
unfolding rest_from
part_more room n done i j one more e = rw (more, e) refl

-- ---- arguments

pub argument_fails : (room n : ℕ) (done : List ExprTree) (i : Input) (e : Refuse) → Fails e (expr room level.Whole i)
    → Fails e (args_from room (suc n) done i)
unfolding args_from
argument_fails room n done i refuse.Memory x = tt
argument_fails room n done i (refuse.Fault fault) x = rw x refl

pub argument_last : (room n : ℕ) (done : List ExprTree) (i j k : Input) (one : Found) → expr room level.Whole i ≡ Ok (one, j)
    → sees (codes ",") j ≡ false → k ≡ after (codes ",") j → args_from room (suc n) done i ≡ Ok (done ++ one.tree ∷ [], k)
unfolding args_from
argument_last room n done i j k one e s a = rw (e, s, ← a) refl

pub argument_more : (room n : ℕ) (done : List ExprTree) (i j k : Input) (one : Found) → expr room level.Whole i ≡ Ok (one, j)
    → sees (codes ",") j ≡ true → k ≡ after (codes ",") j → args_from room (suc n) done i ≡ args_from room n (done ++ one.tree ∷ []) k
unfolding args_from
argument_more room n done i j k one e s a = rw (e, s, ← a) refl

-- ---- the items of a file

pub items_over : (n : ℕ) (done : List ItemTree) (i k : Input) (o : Outcome (List ItemTree)) → o ≡ items_from (suc n) done i → k ≡ i → at_end k ≡ true
    → reading.◌>>=◌ o first_of_pair ≡ Ok done
unfolding items_from
items_over n done i k o is same e = rw (is, ← same, e) refl

pub item_fails : (n : ℕ) (done : List ItemTree) (i k : Input) (o : Outcome (List ItemTree)) (e : Refuse) → o ≡ items_from (suc n) done i → k ≡ i
    → at_end k ≡ false → Fails e (item k) → Fails e (reading.◌>>=◌ o first_of_pair)
unfolding items_from
item_fails n done i k o refuse.Memory is same more x = tt
item_fails n done i k o (refuse.Fault fault) is same more x = rw (is, ← same, more, x) refl

-- An item changes nothing of the input but the tokens that are left, and its type comes into scope.
after_item : (i k h : Input) (one : ItemTree) (rest : List Token) (types : List (List ℕ)) → k ≡ i → item k ≡ Ok (one, h) → rest ≡ h.rest
    → types ≡ with_name i.types (type_of_item one) → with_types_of one h ≡ record i { rest = rest; types = types }
after_item i k h one rest types same e r t =
    let q = (item_yields i i.rest).gives one h (ap item (sym same) ∙ e) in
    let left : q.0 ≡ rest = sym (r ∙ ap (λ (j : Input). j.rest) q.1) in
    ap (with_types_of one) q.1
    ∙ ap (λ (ts : List Token). record i { rest = ts; types = with_name i.types (type_of_item one) }) left
    ∙ ap (λ (names : List (List ℕ)). record i { rest = rest; types = names }) (sym t)

pub item_more : (n : ℕ) (done longer : List ItemTree) (i k h : Input) (one : ItemTree) (rest : List Token) (types : List (List ℕ)) → k ≡ i
    → at_end k ≡ false → item k ≡ Ok (one, h) → rest ≡ h.rest → types ≡ with_name i.types (type_of_item one) → done ++ one ∷ [] ≡ longer
    → items_from (suc n) done i ≡ items_from n longer (record i { rest = rest; types = types })
unfolding items_from
item_more n done longer i k h one rest types same more e r t long =
    rw (← after_item i k h one rest types same e r t, ← long, ← same, more, e) refl
