-- What is read as a file, or as a piece of one, is in the grammar.
use Rattle.std.proofs.Common.{◌≡◌, ℕ, zero, suc, ◌-◌, ◌<◌, ◌≤◌, Bool, true, false, if◌then◌else◌, ◌&&◌, List, [], ◌∷◌, ◌++◌, length, append_assoc, append-nil, Result, Ok, Err, refl, ap, subst, sym, ◌∙◌, arith}
use Rattle.std.proofs.lemmas.Bool.{and_parts}
use Rattle.std.specs.Prelude.{codes}
use Rattle.xs_base.proofs.ReaderSteps.{bind_ok, same_outcome}
use Rattle.xs_base.proofs.Stages.{bound}
use Rattle.xs_base.specs.declared.fault.Fault.{Fault}
use Rattle.xs_base.specs.declared.fault_codes.TheConstants.{NO_READING_HERE}
use Rattle.xs_base.specs.declared.source.FileOf.{FileOf}
use Rattle.xs_ctok.specs.declared.token.Token.{Token}
use Rattle.xs_csyn.proofs.Sizes.{type_shrinks}
use Rattle.xs_csyn.proofs.ExpressionsSound.{Stood, expr_yields, type_yields}
use Rattle.xs_csyn.proofs.StatementsSound.{SomeParts, all_parts_yield, part_yields, stmt_yields}
use Rattle.xs_csyn.proofs.Yields.{Adds, Yields, adds_all, adds_last, adds_more, adds_none, at, by_eat, by_expect, by_if, by_name, by_variable, by_word, done, fails, step, weaken}
use Rattle.xs_cexpr.specs.ExpressionReader.{Found, expr}
use Rattle.xs_csyn.specs.FileGrammar as g
use Rattle.xs_csyn.specs.FileGrammar.{AHead, Fields, File, IsFile, Item, Parameter, Parameters, SomeParameters, begins_body}
use Rattle.xs_csyn.specs.FileReader.{a_record, a_typedef, args_from, args_of, block_of, body, body_begins, defines_of, expr_of, field, fields, fields_from, file_of, file_with, first_of_pair, function, head, item, items_from, items_of, named_type, parameter, parameters, parameters_from, rest_from, rest_of, sees_none, some_args, some_parameters, start, whole_of, with_types_of, xs_function}
use Rattle.xs_csyn.specs.Grammar.{AType, Is, IsWord, MayName, Whole}
use Rattle.xs_cexpr.specs.ExpressionHeights.{height, heights}
use Rattle.xs_cstmt.specs.StatementHeights.{depths, tallest_of}
use Rattle.xs_csyn.specs.FileHeights.{Fit, FitItems, FitsItem}
use Rattle.xs_csyn.specs.StatementGrammar as s
use Rattle.xs_csyn.specs.StatementGrammar.{AllArguments, ArgumentList, Parts, Rest}
use Rattle.xs_cstmt.specs.StatementReader.{max_nesting, stmt}
use Rattle.xs_csyn.specs.FileTree as tree
use Rattle.xs_cexpr.specs.ExpressionTree.{ExprTree, exprs_of}
use Rattle.xs_cstmt.specs.StatementTree.{StmtTree, stmts_of}
use Rattle.xs_csyn.specs.FileTree.{FileTree, ItemTree}
use Rattle.xs_cinput.specs.TokenInput.{Input, Outcome, at_end, fault, is_empty, is_word, kept, line, line_at, next, sees, sees_type, sees_word}
use Rattle.xs_cinput.specs.TypeReader.{a_type, type_name}
use Rattle.xs_cexpr.specs.declared.node.Level.TheVariants as level
use Rattle.xs_cinput.specs.declared.tree.CType.{CType}
use Rattle.xs_csyn.specs.declared.tree.Par.{Par}
use Rattle.xs_values.specs.declared.model.DataModel.TheVariants as model

pub data AField (types : List (List ℕ)) : Par → List Token → List Token → Type 0 where
  one_field : {to : CType} {t u : Token} {ts us : List Token} → AType types to ts (t ∷ u ∷ us) → MayName t → Is (codes ";") u
      → AField types (record { line = t.span.line; of_type = to; name = t.text }) ts us

pub field_shrinks : {types : List (List ℕ)} {p : Par} {ts us : List Token} → AField types p ts us → length us < length ts
field_shrinks (one_field ty n semi) = omega (arith, type_shrinks ty)

one_more_field : {types : List (List ℕ)} {p : Par} {all : List Par} {ts us vs : List Token} → AField types p ts us → Fields types all us vs
    → Fields types (p ∷ all) ts vs
one_more_field (one_field ty n semi) x = g.field ty n semi x

abbrev pub AnItem : List (List ℕ) → List Token → ItemTree → List Token → Type 0
AnItem types ts one us = Item types one ts us × FitsItem one

false_is_not : ◌≡◌ {A = Bool} false true → ⊥
false_is_not e = cc

module _ (b : Input) where
  -- ---- types that are declared

  pub field_yields : (ts : List Token) → Yields b (field (at b ts)) (λ p us. AField b.types p ts us)
  unfolding field line
  field_yields ts =
      step _ _ (type_yields b ts)
      (λ to us ty. by_name (λ js. AType b.types to ts js × (line_at b.last us ≡ line_at b.last js)) (λ _ p vs. AField b.types p ts vs) us _ (ty, refl)
      (λ u vs f n. by_expect (λ js. AType b.types to ts (u ∷ js)) (λ _ p ws. AField b.types p ts ws) (codes ";") vs _ (f.0)
      (λ v ws ty' semi. done _ ws (rw (f.1) (one_field ty' n semi)))))

  fields_yield : (n : ℕ) (sofar : List Par) (ts : List Token) → Yields b (fields_from n sofar (at b ts)) (Adds (Fields b.types) sofar ts)
  unfolding fields_from
  fields_yield zero sofar ts = fails _
  fields_yield (suc n) sofar ts =
      by_eat (λ _. Unit {0}) (λ js. Adds (Fields b.types) sofar js) (codes "}") ts _ _ tt
      (λ u us _ is. done sofar us (adds_none sofar (g.fields_over is)))
      (λ _ isnt. step _ _ (field_yields ts) (λ one us x. weaken (fields_yield n (sofar ++ one ∷ []) us)
      (λ found vs m. adds_more {R = Fields b.types} sofar one m (λ added y. one_more_field x y))))

  pub all_fields_yield : (ts : List Token) → Yields b (fields (at b ts)) (λ all us. Fields b.types all ts us)
  unfolding fields
  all_fields_yield ts = weaken (fields_yield b.turns [] ts) (λ found us m. adds_all m)

  typedef_yields : (t : Token) (ts : List Token) → IsWord (codes "typedef") t
      → Yields b (a_typedef t.span.line (at b ts)) (λ d us. Item b.types (tree.TypedefItem d) (t ∷ ts) us)
  unfolding a_typedef line
  typedef_yields t ts w =
      step _ _ (type_yields b ts)
      (λ to us ty. by_name (λ js. AType b.types to ts js × (line_at b.last us ≡ line_at b.last js))
      (λ _ d vs. Item b.types (tree.TypedefItem d) (t ∷ ts) vs) us _ (ty, refl)
      (λ u vs f n. by_expect (λ js. AType b.types to ts (u ∷ js)) (λ _ d ws. Item b.types (tree.TypedefItem d) (t ∷ ts) ws) (codes ";") vs _ (f.0)
      (λ v ws ty' semi. done _ ws (rw (f.1) (g.a_typedef w ty' n semi)))))

  record_yields : (t u : Token) (ts : List Token) → IsWord (codes "typedef") t → IsWord (codes "struct") u
      → Yields b (a_record t.span.line (at b ts)) (λ d us. Item b.types (tree.RecordItem d) (t ∷ u ∷ ts) us)
  unfolding a_record line
  record_yields t u ts w w' =
      by_expect (λ _. Unit {0}) (λ js d us. Item b.types (tree.RecordItem d) (t ∷ u ∷ js) us) (codes "{") ts _ tt
      (λ v vs _ opening. step _ _ (all_fields_yield vs)
      (λ all us x. by_name (λ js. Fields b.types all vs js × (line_at b.last us ≡ line_at b.last js))
      (λ _ d ws. Item b.types (tree.RecordItem d) (t ∷ u ∷ v ∷ vs) ws) us _ (x, refl)
      (λ z ws f n. by_expect (λ js. Fields b.types all vs (z ∷ js)) (λ _ d xs. Item b.types (tree.RecordItem d) (t ∷ u ∷ v ∷ vs) xs) (codes ";") ws _ (f.0)
      (λ y xs x' semi. done _ xs (rw (f.1) (g.a_record w w' opening x' n semi))))))

  named_type_yields : (t : Token) (ts : List Token) → IsWord (codes "typedef") t → Yields b (named_type t.span.line (at b ts)) (AnItem b.types (t ∷ ts))
  unfolding named_type sees_word next
  named_type_yields t [] w = step _ _ (typedef_yields t [] w) (λ d us x. done _ us (x, tt))
  named_type_yields t (u ∷ us) w =
      by_if (sees_word (codes "struct") (at b (u ∷ us))) _ _ (λ w'. step _ _ (record_yields t u us w w') (λ d vs x. done _ vs (x, tt)))
      (λ isnt. step _ _ (typedef_yields t (u ∷ us) w) (λ d vs x. done _ vs (x, tt)))

  -- ---- functions

  body_yields : (ts : List Token) → Yields b (body (at b ts)) (λ all us. SomeParts b.types (max_nesting - 1) all ts us)
  unfolding body
  body_yields ts = all_parts_yield b (stmt (max_nesting - 1)) (max_nesting - 1) (stmt_yields b (max_nesting - 1)) ts

  begins_yields : (ts : List Token) → Yields b (body_begins (at b ts)) (λ _ us. (us ≡ ts) × (begins_body ts ≡ true))
  unfolding body_begins
  begins_yields ts =
      by_word (λ _. Unit {0}) (λ js _ us. (us ≡ ts) × (begins_body js ≡ true)) (codes "dXSARGS") ts _ tt
      (λ u us _ w. by_expect (λ _. Unit {0}) (λ js _ vs. (vs ≡ ts) × (begins_body (u ∷ js) ≡ true)) (codes ";") us _ tt
      (λ v vs _ semi. done tt ts (refl, rw (w, semi) refl)))

  xs_function_yields : (t : Token) (ts : List Token) → IsWord (codes "XS") t → Yields b (xs_function t.span.line (at b ts)) (AnItem b.types (t ∷ ts))
  unfolding xs_function
  xs_function_yields t ts w =
      by_expect (λ _. Unit {0}) (λ js. AnItem b.types (t ∷ js)) (codes "(") ts _ tt
      (λ u us _ opening. by_name (λ _. Unit {0}) (λ js. AnItem b.types (t ∷ u ∷ js)) us _ tt
      (λ v vs _ n. by_expect (λ _. Unit {0}) (λ js. AnItem b.types (t ∷ u ∷ v ∷ js)) (codes ")") vs _ tt
      (λ x ws _ close. by_expect (λ _. Unit {0}) (λ js. AnItem b.types (t ∷ u ∷ v ∷ x ∷ js)) (codes "{") ws _ tt
      (λ y xs _ brace. step _ _ (begins_yields xs)
      (λ _ ys z. step _ _ (body_yields ys)
      (λ all zs p. done _ zs (
        g.xs_function w opening n close brace (z.1) (subst (λ (js : List Token). Parts b.types (stmts_of all) js zs) (z.0) (p.0)),
        (omega (arith, p.1), p.2),
      )))))))

  pub parameter_yields : (ts : List Token) → Yields b (parameter (at b ts)) (λ p us. Parameter b.types p ts us)
  unfolding parameter line
  parameter_yields ts =
      step _ _ (type_yields b ts)
      (λ to us ty. by_variable (λ js. AType b.types to ts js × (line_at b.last us ≡ line_at b.last js)) (λ _ p vs. Parameter b.types p ts vs) us _ (ty, refl)
      (λ u vs f v. done _ vs (rw (f.1) (g.parameter f.0 v))))

  parameters_yield : (n : ℕ) (sofar : List Par) (ts : List Token)
      → Yields b (parameters_from n sofar (at b ts)) (Adds (SomeParameters b.types) sofar ts)
  unfolding parameters_from
  parameters_yield zero sofar ts = fails _
  parameters_yield (suc n) sofar ts =
      step _ _ (parameter_yields ts)
      (λ one us x. by_eat (λ js. Parameter b.types one ts js) (λ _. Adds (SomeParameters b.types) sofar ts) (codes ",") us _ _ x
      (λ u vs x' comma. weaken (parameters_yield n (sofar ++ one ∷ []) vs)
      (λ found ws m. adds_more {R = SomeParameters b.types} sofar one m (λ added y. g.more_parameters x' comma y)))
      (λ x' isnt. by_expect (λ js. Parameter b.types one ts js) (λ _. Adds (SomeParameters b.types) sofar ts) (codes ")") us _ x'
      (λ u vs x'' close. done _ vs (adds_last sofar one (g.last_parameter x'' close)))))

  some_yield : (ts : List Token) → Yields b (some_parameters (at b ts)) (λ all us. Parameters b.types all ts us)
  unfolding some_parameters
  some_yield ts = weaken (parameters_yield b.turns [] ts) (λ found us m. g.some_parameters (adds_all m))

  no_close : (t : Token) → (is_word (codes "void") t && sees (codes ")") (at b [])) ≡ true → ⊥
  unfolding sees
  no_close t both = false_is_not (and_parts (is_word (codes "void") t) false both).1

  closes : (u : Token) (us : List Token) → sees (codes ")") (at b (u ∷ us)) ≡ true → Is (codes ")") u
  unfolding sees
  closes u us is = is

  all_parameters_yield : (ts : List Token) → Yields b (parameters (at b ts)) (λ all us. Parameters b.types all ts us)
  unfolding parameters sees_none sees_word next
  all_parameters_yield [] =
      by_eat (λ _. Unit {0}) (λ js all us. Parameters b.types all js us) (codes ")") [] _ _ tt
      (λ u us _ close. done [] us (g.no_parameters close)) (λ _ isnt. some_yield [])
  all_parameters_yield (t ∷ []) =
      by_if (is_word (codes "void") t && sees (codes ")") (at b [])) _ _ (λ both. absurd (no_close t both))
      (λ isnt. by_eat (λ _. Unit {0}) (λ js all us. Parameters b.types all js us) (codes ")") (t ∷ []) _ _ tt
      (λ u us _ close. done [] us (g.no_parameters close)) (λ _ isnt. some_yield (t ∷ [])))
  all_parameters_yield (t ∷ u ∷ us) =
      by_if (is_word (codes "void") t && sees (codes ")") (at b (u ∷ us))) _ _
      (λ both. let p = and_parts (is_word (codes "void") t) (sees (codes ")") (at b (u ∷ us))) both in done [] us (g.void_parameters p.0 (closes u us p.1)))
      (λ isnt. by_eat (λ _. Unit {0}) (λ js all vs. Parameters b.types all js vs) (codes ")") (t ∷ u ∷ us) _ _ tt
      (λ v vs _ close. done [] vs (g.no_parameters close)) (λ _ isnt. some_yield (t ∷ u ∷ us)))

  pub head_yields : (t : Token) (ts : List Token) → Yields b (head t.span.line (at b (t ∷ ts))) (λ h us. AHead b.types h (t ∷ ts) us)
  unfolding head
  head_yields t ts =
      step _ _ (type_yields b (t ∷ ts))
      (λ to us ty. by_name (AType b.types to (t ∷ ts)) (λ _ h vs. AHead b.types h (t ∷ ts) vs) us _ ty
      (λ u vs ty' n. by_expect (λ js. AType b.types to (t ∷ ts) (u ∷ js)) (λ _ h ws. AHead b.types h (t ∷ ts) ws) (codes "(") vs _ ty'
      (λ v ws ty'' opening. step _ _ (all_parameters_yield ws) (λ all xs x. done _ xs (g.a_head ty'' n opening x)))))

  function_yields : (t : Token) (ts : List Token) → Yields b (function t.span.line (at b (t ∷ ts))) (AnItem b.types (t ∷ ts))
  unfolding function
  function_yields t ts =
      step _ _ (head_yields t ts)
      (λ h us x. by_eat (AHead b.types h (t ∷ ts)) (λ _. AnItem b.types (t ∷ ts)) (codes ";") us _ _ x
      (λ u vs x' semi. done _ vs (g.prototype x' semi, tt))
      (λ x' isnt. by_expect (AHead b.types h (t ∷ ts)) (λ _. AnItem b.types (t ∷ ts)) (codes "{") us _ x'
      (λ u vs x'' opening. step _ _ (body_yields vs) (λ all ws p. done _ ws (g.function x'' opening p.0, (omega (arith, p.1), p.2))))))

  -- ---- files

  no_function : {P : ItemTree → List Token → Type 0} (n : ℕ) → Yields b (function n (at b [])) P
  unfolding function head a_type type_name sees_type line
  no_function n = fails _

  pub item_yields : (ts : List Token) → Yields b (item (at b ts)) (AnItem b.types ts)
  unfolding item sees_word line next
  item_yields [] = no_function b.last
  item_yields (t ∷ ts) =
      by_if (sees_word (codes "typedef") (at b (t ∷ ts))) _ _ (λ w. named_type_yields t ts w) (λ isnt. by_if (sees_word (codes "XS") (at b (t ∷ ts))) _ _
      (λ w. xs_function_yields t ts w) (λ isnt'. function_yields t ts))

-- items that were found, after those that were there
record Items (types : List (List ℕ)) (sofar : List ItemTree) (ts : List Token) (found : List ItemTree) : Type 0 where
  added : List ItemTree
  is : found ≡ sofar ++ added
  stands : File types added ts
  fit : FitItems added

items_sound : (n : ℕ) (b : Input) (sofar found : List ItemTree) (ts : List Token) (k : Input) → items_from n sofar (at b ts) ≡ Ok (found, k)
    → Items b.types sofar ts found
unfolding items_from at_end
items_sound zero b sofar found ts k h = absurd cc
items_sound (suc n) b sofar found [] k h =
    let s = same_outcome {E = Fault} sofar found (at b []) k h in
    record { added = []; is = sym s.0 ∙ sym (append-nil sofar); stands = g.file_over; fit = tt }
items_sound (suc n) b sofar found (t ∷ ts) k h =
    let p = bind_ok (item (at b (t ∷ ts))) (λ one j. items_from n (sofar ++ one ∷ []) (with_types_of one j)) (found, k) h in
    let q = (item_yields b (t ∷ ts)).gives p.0 p.1 p.2 in
    let m = items_sound n (with_types_of p.0 b) (sofar ++ p.0 ∷ []) found q.0 k
    (ap (λ (j : Input). items_from n (sofar ++ p.0 ∷ []) (with_types_of p.0 j)) (sym q.1) ∙ p.3) in
    record {
      added = p.0 ∷ m.added;
      is = m.is ∙ append_assoc sofar (p.0 ∷ []) m.added;
      stands = g.item q.2.0 m.stands;
      fit = (q.2.1, m.fit);
    }

items_are : (i : Input) (ts : List Token) (all : List ItemTree) → i ≡ at i ts → items_of i ≡ Ok all → File i.types all ts × FitItems all
items_are i ts all e h =
    let read = bound (items_from i.turns [] i) first_of_pair all h in
    let m = items_sound i.turns i [] read.at.0 ts read.at.1 (ap (items_from i.turns []) (sym e) ∙ read.was) in
    let same : read.at.0 ≡ all = same_items read.at.0 all read.then_is in
    let found : all ≡ m.added = sym same ∙ m.is in
    (rw found (m.stands), rw found (m.fit))
  where
    same_items : (x y : List ItemTree) → ◌≡◌ {A = Result (List ItemTree) Fault} (Ok x) (Ok y) → x ≡ y
    same_items x y e = cc

pub file_sound : (file : FileOf) (last : ℕ) (ts : List Token) (f : FileTree) → file_of file last ts ≡ Ok f → IsFile f ts × FitItems f.items
unfolding file_of
file_sound file last ts f h =
    let read = bound (items_of (start true ts [] file last)) (file_with (defines_of ts)) f h in
    let x = items_are (start true ts [] file last) (kept true ts) read.at refl read.was in
    by f read.at read.then_is x.0 x.1
  where
    by : (f : FileTree) (all : List ItemTree) → file_with (defines_of ts) all ≡ Ok f → File [] all (kept true ts) → FitItems all → IsFile f ts
        × FitItems f.items
    by f all e x y =
        let made : FileTree = record { model = model.Lp64; defines = defines_of ts; items = all } in
        let same : made ≡ f = same_tree made f e in
        subst (λ (t : FileTree). IsFile t ts × FitItems t.items) same (record { stands = x; defines = refl; of_model = refl }, y)
      where
        same_tree : (x y : FileTree) → ◌≡◌ {A = Result FileTree Fault} (Ok x) (Ok y) → x ≡ y
        same_tree x y e = cc

-- ---- pieces

abbrev SomeRest : List (List ℕ) → ℕ → List StmtTree → List Token → List Token → Type 0
SomeRest types room all ts us = Rest types (stmts_of all) ts × (depths (stmts_of all) ≤ room) × (tallest_of (stmts_of all) ≤ max_nesting)

rest_yields : (b : Input) (room n : ℕ) (sofar : List StmtTree) (ts : List Token)
    → Yields b (rest_from (stmt room) n sofar (at b ts)) (Adds (SomeRest b.types room) sofar ts)
unfolding rest_from at_end
rest_yields b room zero sofar ts = fails _
rest_yields b room (suc n) sofar [] = done sofar [] (adds_none sofar (s.rest_over, omega arith, omega arith))
rest_yields b room (suc n) sofar (t ∷ ts) =
    step _ _ (part_yields b (stmt room) room (stmt_yields b room) (t ∷ ts)) (λ one us x. weaken (rest_yields b room n (sofar ++ one ∷ []) us)
    (λ found vs m. adds_more {R = SomeRest b.types room} sofar one m (λ added y. (s.rest_part x.0 y.0, omega (arith, x.1, y.1), omega (arith, x.2, y.2)))))

pub block_sound : (file : FileOf) (last : ℕ) (types : List (List ℕ)) (around : ℕ) (ts : List Token) (all : List StmtTree)
    → block_of file last types around ts ≡ Ok all → Rest types (stmts_of all) (kept false ts) × Fit (max_nesting - around) (stmts_of all)
unfolding block_of
block_sound file last types around ts all h =
    let i : Input = start false ts types file last in
    let read = bound (rest_of (max_nesting - around) i) first_of_pair all h in
    let q = (rest_yields i (max_nesting - around) i.turns [] (kept false ts)).gives read.at.0 read.at.1 read.was in
    by read.at.0 all read.then_is (adds_all q.2)
  where
    by : (x y : List StmtTree) → ◌≡◌ {A = Result (List StmtTree) Fault} (Ok x) (Ok y)
        → SomeRest types (max_nesting - around) x (kept false ts) [] → Rest types (stmts_of y) (kept false ts) × Fit (max_nesting - around) (stmts_of y)
    by x y e r = let same : x ≡ y = cc in rw (← same) (r.0, (r.1, r.2))

-- what is read where nothing is left
module _ {A : Type 0} (b : Input) (P : A → List Token → Type 0) where
  at_the_end : (a x : A) (k : Input) (c : Bool) → c ≡ true → ◌≡◌ {A = Result A Fault} (if c then Ok a else Err (fault NO_READING_HERE k)) (Ok x) → a ≡ x
  at_the_end a x k true e h = cc
  at_the_end a x k false e h = absurd cc

  not_at_the_end : (a x : A) (k : Input) (c : Bool) → c ≡ false → ◌≡◌ {A = Result A Fault} (if c then Ok a else Err (fault NO_READING_HERE k)) (Ok x) → ⊥
  not_at_the_end a x k true e h = cc
  not_at_the_end a x k false e h = cc

  ended : (a x : A) (k : Input) (us : List Token) → k ≡ at b us → P a us
      → ◌≡◌ {A = Result A Fault} (if at_end k then Ok a else Err (fault NO_READING_HERE k)) (Ok x) → P x []
  unfolding at_end
  ended a x k [] e p h = subst (λ (y : A). P y []) (at_the_end a x k (at_end k) (ap at_end e) h) p
  ended a x k (u ∷ us) e p h = absurd (not_at_the_end a x k (at_end k) (ap at_end e) h)

  whole_sound : (r : Outcome A) (x : A) → Yields b r P → whole_of r ≡ Ok x → P x []
  whole_sound (Ok p) x y h = let q = y.gives p.0 p.1 refl in ended p.0 x p.1 q.0 q.1 q.2 h
  whole_sound (Err e) x y h = absurd cc

pub expr_sound : (file : FileOf) (last : ℕ) (types : List (List ℕ)) (around : ℕ) (ts : List Token) (a : ExprTree)
    → expr_of file last types around ts ≡ Ok a → Whole types a (kept false ts) [] × (height a ≤ max_nesting - around)
unfolding expr_of
expr_sound file last types around ts a h =
    let i : Input = start false ts types file last in
    let read = bound (whole_of (expr (max_nesting - around) level.Whole i)) (λ found. Ok found.tree) a h in
    by read.at a read.then_is
    (whole_sound i (Stood (Whole types) (max_nesting - around) (kept false ts)) (expr (max_nesting - around) level.Whole i) read.at
    (expr_yields i (max_nesting - around) level.Whole (kept false ts)) read.was)
  where
    by : (x : Found) (a : ExprTree) → ◌≡◌ {A = Result ExprTree Fault} (Ok x.tree) (Ok a)
        → Stood (Whole types) (max_nesting - around) (kept false ts) x [] → Whole types a (kept false ts) [] × (height a ≤ max_nesting - around)
    by x a e r = let same : x.tree ≡ a = cc in rw (← same) (r.stands, omega (arith, r.tall, r.within))

abbrev SomeArguments : List (List ℕ) → ℕ → List ExprTree → List Token → List Token → Type 0
SomeArguments types room all ts us = ArgumentList types all ts us × (heights (exprs_of all) ≤ room)

args_yield : (b : Input) (room n : ℕ) (sofar : List ExprTree) (ts : List Token)
    → Yields b (args_from room n sofar (at b ts)) (Adds (SomeArguments b.types room) sofar ts)
unfolding args_from
args_yield b room zero sofar ts = fails _
args_yield b room (suc n) sofar ts =
    step _ _ (expr_yields b room level.Whole ts)
    (λ one us x. by_eat (Stood (Whole b.types) room ts one) (λ _. Adds (SomeArguments b.types room) sofar ts) (codes ",") us _ _ x
    (λ u vs x' comma. weaken (args_yield b room n (sofar ++ one.tree ∷ []) vs)
    (λ found ws m. adds_more {R = SomeArguments b.types room} sofar one.tree m
    (λ added y. (s.more_arguments x'.stands comma y.0, omega (arith, x'.tall, x'.within, y.1)))))
    (λ x' isnt. done (sofar ++ one.tree ∷ []) us (adds_last sofar one.tree (s.last_argument x'.stands, omega (arith, x'.tall, x'.within)))))

some_args_yield : (b : Input) (room : ℕ) (ts : List Token) → Yields b (some_args room (at b ts)) (λ all us. SomeArguments b.types room all ts us)
unfolding some_args
some_args_yield b room ts = weaken (args_yield b room b.turns [] ts) (λ found us m. adds_all m)

pub args_sound : (file : FileOf) (last : ℕ) (types : List (List ℕ)) (around : ℕ) (ts : List Token) (all : List ExprTree)
    → args_of file last types around ts ≡ Ok all → AllArguments types all (kept false ts) × (heights (exprs_of all) ≤ max_nesting - around)
unfolding args_of at_end
args_sound file last types around ts all h =
    by (kept false ts) all (some_args_yield (start false ts types file last) (max_nesting - around) (kept false ts)) h
  where
    none : (x y : List ExprTree) → ◌≡◌ {A = Result (List ExprTree) Fault} (Ok x) (Ok y) → x ≡ y
    none x y e = cc

    by : (us : List Token) (all : List ExprTree)
        → Yields (start false ts types file last) (some_args (max_nesting - around) (at (start false ts types file last) us))
        (λ xs vs. SomeArguments types (max_nesting - around) xs us vs)
        → (if is_empty us then Ok [] else whole_of (some_args (max_nesting - around) (at (start false ts types file last) us))) ≡ Ok all
        → AllArguments types all us × (heights (exprs_of all) ≤ max_nesting - around)
    by [] all y e = let same : [] ≡ all = none [] all e in rw (← same) (s.no_arguments, omega arith)
    by (u ∷ us) all y e =
        let x = whole_sound (start false ts types file last) (λ xs vs. SomeArguments types (max_nesting - around) xs (u ∷ us) vs)
        (some_args (max_nesting - around) (at (start false ts types file last) (u ∷ us))) all y e in
        (s.arguments x.0, x.1)
