-- What is a file by the rules, or a piece of one, is read as that, or refused as nested too deep. So it has no other reading.
use Rattle.std.proofs.Common.{◌≡◌, ℕ, zero, suc, ◌+◌, ◌-◌, ◌<◌, ◌≤◌, max, Bool, true, false, if◌then◌else◌, ◌&&◌, not, List, [], ◌∷◌, ◌++◌, length, append_assoc, append-nil, Some, Result, Ok, Err, ◌⊎◌, inl, inr, refl, ap, sym, ◌∙◌, arith}
use Rattle.std.proofs.lemmas.Bool.{and_parts, and_right, not-true}
use Rattle.std.specs.Prelude.{codes}
use Rattle.xs_base.proofs.ReaderSteps.{same_outcome}
use Rattle.xs_base.specs.Names.{is_among}
use Rattle.xs_base.specs.Readers.{head_is, tail}
use Rattle.xs_base.specs.declared.fault.Fault.{Fault}
use Rattle.xs_base.specs.declared.fault_codes.TheConstants.{NO_READING_HERE}
use Rattle.xs_base.specs.declared.source.FileOf.{FileOf}
use Rattle.xs_base.specs.declared.source.FileOf.TheVariants as which
use Rattle.xs_ctok.specs.declared.token.TokKind.TheVariants as kind
use Rattle.xs_ctok.specs.declared.token.Token.{Token}
use Rattle.xs_csyn.proofs.AnyDepth.{IsRead, at_any_depth, bounded, by_same, carry, is_read, regrouped, under, whole_is_read}
use Rattle.xs_csyn.proofs.ExpressionsComplete.{found_of, type_done, type_first, whole_read}
use Rattle.xs_csyn.proofs.Marks.{mark_no_word, marks, name_no_mark, no_mark, type_no_mark, variable_name, word_no_type, word_only, words}
use Rattle.xs_csyn.proofs.Sizes.{head_shrinks, item_shrinks, parameter_shrinks, part_shrinks, type_shrinks, whole_shrinks}
use Rattle.xs_csyn.proofs.Starts.{Ends, Stop, comma, the_end}
use Rattle.xs_csyn.proofs.StatementsComplete.{list_of, name_no_join, part_done, parts_done, stmts_of-list_of}
use Rattle.xs_csyn.proofs.Yields.{at}
use Rattle.xs_cexpr.specs.ExpressionReader.{Found, expr}
use Rattle.xs_csyn.specs.FileGrammar as g
use Rattle.xs_csyn.specs.FileGrammar.{AHead, AreNames, Fields, File, IsFile, Item, Parameter, Parameters, SomeParameters, begins_body}
use Rattle.xs_cinput.specs.TypeReader.{with_name}
use Rattle.xs_csyn.specs.FileReader.{a_record, a_typedef, args_from, args_of, block_of, body, body_begins, expr_of, field, fields, fields_from, file_of, function, head, item, items_from, items_of, named_type, parameter, parameters, parameters_from, rest_from, sees_none, some_args, some_parameters, start, type_of_item, whole_of, with_types_of, xs_function}
use Rattle.xs_csyn.specs.Grammar as rules
use Rattle.xs_csyn.specs.Grammar.{AType, Is, IsWord, MayName, Stars, Whole, Words}
use Rattle.xs_cexpr.specs.ExpressionHeights.{height, heights}
use Rattle.xs_cstmt.specs.StatementHeights.{depths, tallest_of}
use Rattle.xs_csyn.specs.FileHeights.{Fit, FitItems, FitsItem}
use Rattle.xs_csyn.specs.Laws.{TooDeep}
use Rattle.xs_csyn.specs.StatementGrammar as s
use Rattle.xs_csyn.specs.StatementGrammar.{AllArguments, ArgumentList, Parts, Rest}
use Rattle.xs_cstmt.specs.StatementReader.{max_nesting, part, parts, stmt}
use Rattle.xs_csyn.specs.FileTree as tree
use Rattle.xs_cexpr.specs.ExpressionTree.{ExprTree, exprs_of}
use Rattle.xs_cstmt.specs.StatementTree.{StmtTree, StmtTrees, stmts_of}
use Rattle.xs_csyn.specs.FileTree.{FileTree, ItemTree}
use Rattle.xs_cinput.specs.TokenInput.{Input, Outcome, a_name, a_variable, after, at_end, expect, is_empty, expect_word, is_passed, is_passed_pair, is_punct_kind, is_sign, is_type, is_word, is_word_kind, kept, kept_from, line, next, sees, sees_name, sees_variable, sees_word, spelling}
use Rattle.xs_cinput.specs.TypeReader.{is_joined_by, join_table, joins}
use Rattle.xs_ctok.specs.CWords.{is_no_name, is_type_word}
use Rattle.xs_cexpr.specs.declared.node.Level.TheVariants as level
use Rattle.xs_cinput.specs.declared.tree.CType.{CType}
use Rattle.xs_csyn.specs.declared.tree.Head.{Head}
use Rattle.xs_csyn.specs.declared.tree.Par.{Par}

-- ---- words

grammar_word : (is_no_name (codes "struct") ≡ true) × (is_no_name (codes "typedef") ≡ true) × (is_no_name (codes "XS") ≡ true)
unfolding is_no_name
grammar_word = (refl, refl, refl)

no_type_word : (is_type_word (codes "struct") ≡ false) × (is_type_word (codes "typedef") ≡ false) × (is_type_word (codes "XS") ≡ false)
unfolding is_type_word
no_type_word = (refl, refl, refl)

join_kind : (name : List ℕ) (t : Token) → joins name t ≡ true → t.kind ≡ kind.Word
join_kind name t j = word_only t.kind (and_parts (is_word_kind t.kind) (is_joined_by join_table name t.text) j).0

-- a type begins with no word of the grammar
pub type_no_word : (types : List (List ℕ)) (names : AreNames types) (word : List ℕ) (t : Token) → is_type types t ≡ true → is_no_name word ≡ true
    → is_type_word word ≡ false → is_word word t ≡ false
type_no_word types names word t is isnt other = by (is_word word t) refl
  where
    by : (c : Bool) → is_word word t ≡ c → is_word word t ≡ false
    by false e = e
    by true e = let f = word_no_type types word t names e isnt other in absurd cc

-- ---- what follows the first token of a parameter

words_go_on : {types : List (List ℕ)} {name : List ℕ} {ts us : List Token} → Words types name ts us → Stop (codes ")") us → Stop (codes ")") (tail ts)
words_go_on (rules.one_word i) stop = stop
words_go_on (rules.two_words {t = t} {u = u} i j) stop = no_mark (codes ")") u (ap is_punct_kind (join_kind t.text u j))
words_go_on (rules.three_words {t = t} {u = u} i j k) stop = no_mark (codes ")") u (ap is_punct_kind (join_kind t.text u j))

stars_go_on : {n : ℕ} {ts us : List Token} → Stars n ts us → Stop (codes ")") us → Stop (codes ")") ts
stars_go_on rules.no_star stop = stop
stars_go_on (rules.star {t = t} is s) stop = marks (codes "*") (codes ")") t is

type_goes_on : {types : List (List ℕ)} {to : CType} {ts us : List Token} → AType types to ts us → Stop (codes ")") us → Stop (codes ")") (tail ts)
type_goes_on (rules.a_type (rules.type_name x s) k) stop = words_go_on x (stars_go_on k stop)

parameter_goes_on : {types : List (List ℕ)} {p : Par} {ts us : List Token} → Parameter types p ts us → Stop (codes ")") (tail ts)
parameter_goes_on {types} (g.parameter {t = t} ty v) = type_goes_on ty (name_no_mark (codes ")") t (variable_name types t v))

some_goes_on : {types : List (List ℕ)} {all : List Par} {ts us : List Token} → SomeParameters types all ts us → Stop (codes ")") (tail ts)
some_goes_on (g.last_parameter x c) = parameter_goes_on x
some_goes_on (g.more_parameters x c y) = parameter_goes_on x

-- Where `Any` holds, any depth is allowed.
module _ (Any : Type 0) (b : Input) (names : AreNames b.types) where
  type_token : {to : CType} {t : Token} {ts us : List Token} → AType b.types to (t ∷ ts) us → is_type b.types t ≡ true
  type_token ty = type_first ty

  -- ---- types that are declared

  field_done : {to : CType} {t u : Token} {ts us : List Token} → AType b.types to ts (t ∷ u ∷ us) → MayName t → Is (codes ";") u → length ts < b.turns
      → field (at b ts) ≡ Ok (record { line = t.span.line; of_type = to; name = t.text }, at b us)
  unfolding field line a_name sees_name spelling expect sees next
  field_done {t = t} {u = u} {us = us} ty n is few =
      rw (type_done b ty (name_no_mark (codes "*") t n) (name_no_join t (u ∷ us) n) few, n, is) refl

  fields_done : {all : List Par} {ts us : List Token} → Fields b.types all ts us → length ts < b.turns → (n : ℕ) → length ts ≤ n → (sofar : List Par)
      → fields_from n sofar (at b ts) ≡ Ok (sofar ++ all, at b us)
  unfolding fields_from sees after next
  fields_done (g.fields_over is) few zero len sofar = absurd (omega (arith, len))
  fields_done (g.fields_over is) few (suc n) len sofar = rw (is, append-nil sofar) refl
  fields_done (g.field ty m is x) few zero len sofar = absurd (omega (arith, len, type_shrinks ty))
  fields_done (g.field {to = to} {all = all} {t = t} {u = u} {ts = ts} {us = us} {vs = vs} ty m is x) few (suc n) len sofar =
      let one : Par = record { line = t.span.line; of_type = to; name = t.text } in
      rw (type_no_end ts ty, field_done ty m is few)
      (fields_done x (omega (arith, few, type_shrinks ty)) n (omega (arith, len, type_shrinks ty)) (sofar ++ one ∷ [])
      ∙ rw (append_assoc sofar (one ∷ []) all) refl)
    where
      type_no_end : {to : CType} {us : List Token} (ts : List Token) → AType b.types to ts us → Stop (codes "}") ts
      type_no_end [] ty = absurd (no_type ty)
        where
          no_type : {to : CType} {us : List Token} → AType b.types to [] us → ⊥
          no_type ty = elim ty [ ]
      type_no_end (t ∷ ts) ty = type_no_mark b.types (codes "}") t (type_first ty)

  all_fields_done : {all : List Par} {ts us : List Token} → Fields b.types all ts us → length ts < b.turns → fields (at b ts) ≡ Ok (all, at b us)
  unfolding fields
  all_fields_done x few = fields_done x few b.turns (omega (arith, few)) []

  -- ---- parameters

  parameter_done : {p : Par} {ts us : List Token} → Parameter b.types p ts us → length ts < b.turns → parameter (at b ts) ≡ Ok (p, at b us)
  unfolding parameter line a_variable sees_variable spelling next
  parameter_done (g.parameter {t = t} {ts = ts} {us = us} ty v) few =
      let n = variable_name b.types t v in
      rw (type_done b ty (name_no_mark (codes "*") t n) (name_no_join t us n) few, v) refl

  parameter_last : (n : ℕ) (sofar : List Par) (p : Par) (t : Token) (ts us : List Token) → parameter (at b ts) ≡ Ok (p, at b (t ∷ us)) → Is (codes ")") t
      → parameters_from (suc n) sofar (at b ts) ≡ Ok (sofar ++ p ∷ [], at b us)
  unfolding parameters_from sees after next expect
  parameter_last n sofar p t ts us r c = rw (r, marks (codes ")") (codes ",") t c, c) refl

  parameter_more : (n : ℕ) (sofar : List Par) (p : Par) (t : Token) (ts us : List Token) → parameter (at b ts) ≡ Ok (p, at b (t ∷ us)) → Is (codes ",") t
      → parameters_from (suc n) sofar (at b ts) ≡ parameters_from n (sofar ++ p ∷ []) (at b us)
  unfolding parameters_from sees after next
  parameter_more n sofar p t ts us r c = rw (r, c) refl

  some_done : {all : List Par} {ts us : List Token} → SomeParameters b.types all ts us → length ts < b.turns → (n : ℕ) → length ts ≤ n → (sofar : List Par)
      → parameters_from n sofar (at b ts) ≡ Ok (sofar ++ all, at b us)
  some_done (g.last_parameter x c) few zero len sofar = absurd (omega (arith, len, parameter_shrinks x))
  some_done (g.last_parameter {p = p} {t = t} {ts = ts} {us = us} x c) few (suc n) len sofar =
      parameter_last n sofar p t ts us (parameter_done x few) c
  some_done (g.more_parameters x c y) few zero len sofar = absurd (omega (arith, len, parameter_shrinks x))
  some_done (g.more_parameters {p = p} {all = all} {t = t} {ts = ts} {us = us} x c y) few (suc n) len sofar =
      parameter_more n sofar p t ts us (parameter_done x few) c
      ∙ (some_done y (omega (arith, few, parameter_shrinks x)) n (omega (arith, len, parameter_shrinks x)) (sofar ++ p ∷ [])
      ∙ rw (append_assoc sofar (p ∷ []) all) refl)

  -- what a list of parameters begins with
  parameter_token : {p : Par} {ts us : List Token} → Parameter b.types p ts us → (t : Token) (rest : List Token) → ts ≡ t ∷ rest → is_type b.types t ≡ true
  parameter_token (g.parameter ty v) t rest e = by ty e
    where
      by : {to : CType} {ts us : List Token} → AType b.types to ts us → ts ≡ t ∷ rest → is_type b.types t ≡ true
      by ty e = let x = type_first ty in ap (head_is (is_type b.types)) (sym e) ∙ x

  some_token : {all : List Par} {ts us : List Token} → SomeParameters b.types all ts us → (t : Token) (rest : List Token) → ts ≡ t ∷ rest
      → is_type b.types t ≡ true
  some_token (g.last_parameter x c) t rest e = parameter_token x t rest e
  some_token (g.more_parameters x c y) t rest e = parameter_token x t rest e

  no_none : (ts us : List Token) (all : List Par) → (sees_word (codes "void") (at b ts) && sees (codes ")") (next (at b ts))) ≡ false → Stop (codes ")") ts
      → parameters_from b.turns [] (at b ts) ≡ Ok (all, at b us) → parameters (at b ts) ≡ Ok (all, at b us)
  unfolding parameters sees_none some_parameters sees after
  no_none ts us all isnt stop r = rw (isnt, stop) r

  parameters_done : {all : List Par} {ts us : List Token} → Parameters b.types all ts us → length ts < b.turns → parameters (at b ts) ≡ Ok (all, at b us)
  unfolding parameters sees_none sees_word sees after next
  parameters_done (g.no_parameters {t = t} c) few = rw (mark_no_word (codes ")") (codes "void") t c, c) refl
  parameters_done (g.void_parameters {t = t} {u = u} w c) few = rw (w, c) refl
  parameters_done (g.some_parameters {all = all} {ts = ts} {us = us} x) few =
      no_none ts us all (void_is_no_end ts x) (no_close ts x) (some_done x few b.turns (omega (arith, few)) [])
    where
      no_close : {all : List Par} {us : List Token} (ts : List Token) → SomeParameters b.types all ts us → Stop (codes ")") ts
      no_close [] x = refl
      no_close (t ∷ ts) x = type_no_mark b.types (codes ")") t (some_token x t ts refl)

      void_is_no_end : {all : List Par} {us : List Token} (ts : List Token) → SomeParameters b.types all ts us
          → (head_is (is_word (codes "void")) ts && head_is (is_sign (codes ")")) (tail ts)) ≡ false
      void_is_no_end ts x = and_right (head_is (is_word (codes "void")) ts) (head_is (is_sign (codes ")")) (tail ts)) (some_goes_on x)

  head_done : {h : Head} {ts us : List Token} → AHead b.types h ts us → length ts < b.turns → head (line (at b ts)) (at b ts) ≡ Ok (h, at b us)
  unfolding head line a_name sees_name spelling expect sees next
  head_done (g.a_head {t = t} {u = u} {v = v} {ts = ts} {us = us} ty n o x) few =
      rw (
        type_done b ty (name_no_mark (codes "*") u n) (name_no_join u (v ∷ us) n) few,
        n,
        o,
        parameters_done x (omega (arith, few, type_shrinks ty)),
      ) refl

  -- ---- items

  typedef_done : (t u v : Token) (ts us : List Token) (to : CType) → IsWord (codes "typedef") t → AType b.types to ts (u ∷ v ∷ us) → MayName u
      → Is (codes ";") v → length ts < b.turns
      → item (at b (t ∷ ts))
      ≡ Ok (tree.TypedefItem (record { line = t.span.line; of_type = to; name = u.text; name_line = u.span.line }), at b us)
  unfolding item named_type a_typedef line sees_word a_name sees_name spelling expect sees next
  typedef_done t u v ts us to w ty n is few =
      rw (w, no_struct ts ty, type_done b ty (name_no_mark (codes "*") u n) (name_no_join u (v ∷ us) n) few, n, is) refl
    where
      no_struct : {to : CType} {us : List Token} (ts : List Token) → AType b.types to ts us → head_is (is_word (codes "struct")) ts ≡ false
      no_struct [] ty = refl
      no_struct (t ∷ ts) ty = type_no_word b.types names (codes "struct") t (type_first ty) grammar_word.0 no_type_word.0

  record_done : (t u v w x : Token) (ts us : List Token) (all : List Par) → IsWord (codes "typedef") t → IsWord (codes "struct") u → Is (codes "{") v
      → Fields b.types all ts (w ∷ x ∷ us) → MayName w → Is (codes ";") x → length ts < b.turns
      → item (at b (t ∷ u ∷ v ∷ ts))
      ≡ Ok (tree.RecordItem (record { line = t.span.line; fields = all; name = w.text; name_line = w.span.line }), at b us)
  unfolding item named_type a_record line sees_word a_name sees_name spelling expect sees next
  record_done t u v w x ts us all k l o f n is few = rw (k, l, o, all_fields_done f few, n, is) refl

  -- the bounds of a body
  abbrev Fitting : StmtTrees → Type 0
  Fitting all = ((depths all + 1 ≤ max_nesting) × (tallest_of all ≤ max_nesting)) ⊎ Any

  body_done : {all : StmtTrees} {ts us : List Token} → Parts b.types all ts us → Fitting all → length ts < b.turns
      → IsRead Any (body (at b ts)) (list_of all, at b us)
  unfolding body parts
  body_done x fit few =
      parts_done Any b names x (max_nesting - 1) (under fit (λ k. omega (arith, k.0))) (under fit (λ k. k.1)) few b.turns (omega (arith, few)) []

  begins_done : (ts : List Token) → begins_body ts ≡ true → body_begins (at b ts) ≡ Ok (tt, at b ts)
  unfolding body_begins expect_word sees_word expect sees next
  begins_done [] e = absurd cc
  begins_done (t ∷ []) e = absurd cc
  begins_done (t ∷ u ∷ ts) e = let p = and_parts (is_word (codes "dXSARGS") t) (is_sign (codes ";") u) e in rw (p.0, p.1) refl

  xs_function_done : (t u v w x : Token) (ts us : List Token) (all : StmtTrees) → IsWord (codes "XS") t → Is (codes "(") u → MayName v → Is (codes ")") w
      → Is (codes "{") x → begins_body ts ≡ true → Parts b.types all ts us → Fitting all → length ts < b.turns
      → IsRead Any (item (at b (t ∷ u ∷ v ∷ w ∷ x ∷ ts))) (tree.XsFunItem (record { line = t.span.line; name = v.text; body = all }), at b us)
  unfolding item xs_function line sees_word a_name sees_name spelling expect sees next
  xs_function_done t u v w x ts us all k o n c d begins y fit few =
      let other = words (codes "XS") (codes "typedef") t k in
      let first = begins_done ts begins in
      carry (body_done y fit few) (λ e r. rw (other, k, o, n, c, d, first, r) refl)
      (λ r. is_read (rw (other, k, o, n, c, d, first, r, stmts_of-list_of all) refl))

  -- an item that begins with a type
  typed_item : (ts : List Token) → head_is (is_type b.types) ts ≡ true → item (at b ts) ≡ function (line (at b ts)) (at b ts)
  unfolding item sees_word
  typed_item [] is = absurd cc
  typed_item (t ∷ ts) is =
      rw (
        type_no_word b.types names (codes "typedef") t is grammar_word.1 no_type_word.1,
        type_no_word b.types names (codes "XS") t is grammar_word.2 no_type_word.2,
      ) refl

  head_token : {h : Head} {ts us : List Token} → AHead b.types h ts us → head_is (is_type b.types) ts ≡ true
  head_token (g.a_head ty n o x) = type_first ty

  prototype_done : (h : Head) (t : Token) (ts us : List Token) → AHead b.types h ts (t ∷ us) → Is (codes ";") t → length ts < b.turns
      → function (line (at b ts)) (at b ts) ≡ Ok (tree.PrototypeItem h, at b us)
  unfolding function sees after next
  prototype_done h t ts us x is few = rw (head_done x few, is) refl

  function_done : (h : Head) (t : Token) (ts us vs : List Token) (all : StmtTrees) → AHead b.types h ts (t ∷ us) → Is (codes "{") t → Parts b.types all us vs
      → Fitting all → length ts < b.turns
      → IsRead Any (function (line (at b ts)) (at b ts)) (tree.FunctionItem (record { head = h; body = all }), at b vs)
  unfolding function sees after next expect
  function_done h t ts us vs all x o y fit few =
      let front = head_done x few in
      let other = marks (codes "{") (codes ";") t o in
      carry (body_done y fit (omega (arith, few, head_shrinks x))) (λ e r. rw (front, other, o, r) refl)
      (λ r. is_read (rw (front, other, o, r, stmts_of-list_of all) refl))

  item_done : {one : ItemTree} {ts us : List Token} → Item b.types one ts us → FitsItem one ⊎ Any → length ts < b.turns
      → IsRead Any (item (at b ts)) (one, at b us)
  item_done (g.a_typedef {to = to} {t = t} {u = u} {v = v} {ts = ts} {us = us} w ty n is) fit few =
      is_read (typedef_done t u v ts us to w ty n is (omega (arith, few)))
  item_done (g.a_record {all = all} {t = t} {u = u} {v = v} {w = w} {x = x} {ts = ts} {us = us} k l o f n is) fit few =
      is_read (record_done t u v w x ts us all k l o f n is (omega (arith, few)))
  item_done (g.prototype {head = h} {t = t} {ts = ts} {us = us} x is) fit few = is_read (typed_item ts (head_token x) ∙ prototype_done h t ts us x is few)
  item_done (g.function {head = h} {body = all} {t = t} {ts = ts} {us = us} {vs = vs} x o y) fit few =
      by_same (typed_item ts (head_token x)) (function_done h t ts us vs all x o y fit few)
  item_done (g.xs_function {body = all} {t = t} {u = u} {v = v} {w = w} {x = x} {ts = ts} {us = us} k o n c d begins y) fit few =
      xs_function_done t u v w x ts us all k o n c d begins y fit (omega (arith, few))

-- ---- names of types

one_name_more : (types : List (List ℕ)) (name : List ℕ) → AreNames types → is_no_name name ≡ false → AreNames (types ++ name ∷ [])
one_name_more [] name names isnt = (isnt, tt)
one_name_more (first ∷ more) name names isnt = (names.0, one_name_more more name names.1 isnt)

with_one : (types : List (List ℕ)) (name : List ℕ) → AreNames types → is_no_name name ≡ false → AreNames (with_name types (Some name))
with_one types name names isnt = by (is_among types name)
  where
    by : (c : Bool) → AreNames (if c then types else types ++ name ∷ [])
    by true = names
    by false = one_name_more types name names isnt

name_is_one : (t : Token) → MayName t → is_no_name t.text ≡ false
name_is_one t n = not-true (is_no_name t.text) (and_parts (is_word_kind t.kind) (not (is_no_name t.text)) n).1

pub names_after : {types : List (List ℕ)} {one : ItemTree} {ts us : List Token} → Item types one ts us → AreNames types
    → AreNames (with_name types (type_of_item one))
names_after {types} (g.a_typedef {u = u} w ty n is) names = with_one types u.text names (name_is_one u n)
names_after {types} (g.a_record {w = w} k l o f n is) names = with_one types w.text names (name_is_one w n)
names_after (g.prototype x is) names = names
names_after (g.function x o y) names = names
names_after (g.xs_function k o n c d begins y) names = names

-- ---- files

item_step : (n : ℕ) (b : Input) (sofar : List ItemTree) (one : ItemTree) (ts us : List Token) → item (at b ts) ≡ Ok (one, at b us) → length us < length ts
    → items_from (suc n) sofar (at b ts) ≡ items_from n (sofar ++ one ∷ []) (at (with_types_of one b) us)
unfolding items_from at_end
item_step n b sofar one [] us r less = absurd (omega (arith, less))
item_step n b sofar one (t ∷ ts) us r less = rw r refl

items_end : (n : ℕ) (b : Input) (sofar : List ItemTree) → items_from (suc n) sofar (at b []) ≡ Ok (sofar ++ [], at b [])
unfolding items_from at_end
items_end n b sofar = rw (append-nil sofar) refl

item_fails : (n : ℕ) (b : Input) (sofar : List ItemTree) (ts us : List Token) (e : Fault) → length us < length ts → item (at b ts) ≡ Err e
    → items_from (suc n) sofar (at b ts) ≡ Err e
unfolding items_from at_end
item_fails n b sofar [] us e less r = absurd (omega (arith, less))
item_fails n b sofar (t ∷ ts) us e less r = rw r refl

-- what comes of reading the items, with some input after them
pub record ItemsRead (Any : Type 0) (b : Input) (n : ℕ) (sofar all : List ItemTree) (ts : List Token) : Type 0 where
  pub ends : Input
  pub is : IsRead Any (items_from n sofar (at b ts)) (sofar ++ all, ends)

pub items_done : {types : List (List ℕ)} {all : List ItemTree} {ts : List Token} (Any : Type 0) → File types all ts → (b : Input) → b.types ≡ types
    → AreNames types → FitItems all ⊎ Any → length ts < b.turns → (n : ℕ) → length ts < n → (sofar : List ItemTree) → ItemsRead Any b n sofar all ts
items_done Any g.file_over b e names fit few zero len sofar = absurd (omega (arith, len))
items_done Any g.file_over b e names fit few (suc n) len sofar = record { ends = at b []; is = is_read (items_end n b sofar) }
items_done Any (g.item x y) b e names fit few zero len sofar = absurd (omega (arith, len))
items_done Any (g.item {types = types} {one = one} {all = all} {ts = ts} {us = us} x y) b e names fit few (suc n) len sofar =
    let there : Item b.types one ts us = rw e x in
    let own : AreNames b.types = rw e names in
    let m = items_done Any y (with_types_of one b) (ap (λ known. with_name known (type_of_item one)) e) (names_after x names) (under fit (λ k. k.1))
    (omega (arith, few, item_shrinks x)) n (omega (arith, len, item_shrinks x)) (sofar ++ one ∷ []) in
    record {
      ends = m.ends;
      is = carry (item_done Any b own there (under fit (λ k. k.0)) few) (λ e r. item_fails n b sofar ts us e (item_shrinks x) r)
          (λ r. by_same (item_step n b sofar one ts us r (item_shrinks x)) (regrouped (append_assoc sofar (one ∷ []) all) m.is));
    }

pub kept_shrinks : (whole pair : Bool) (ts : List Token) → length (kept_from whole pair ts) ≤ length ts
kept_shrinks whole pair [] = omega arith
kept_shrinks whole true (t ∷ ts) = omega (arith, kept_shrinks whole false ts)
kept_shrinks whole false (t ∷ ts) = by (is_passed whole t) (is_passed_pair t ts) (kept_shrinks whole false ts) (kept_shrinks whole true ts)
  where
    by : (c d : Bool) → length (kept_from whole false ts) ≤ length ts → length (kept_from whole true ts) ≤ length ts
        → length (if c then kept_from whole false ts else (if d then kept_from whole true ts else t ∷ kept_from whole false ts)) ≤ suc (length ts)
    by true d x y = omega (arith, x)
    by false true x y = omega (arith, y)
    by false false x y = omega (arith, x)

items_of_done : (i : Input) (ts : List Token) (all : List ItemTree) (ends : Input) → i ≡ at i ts → items_from i.turns [] (at i ts) ≡ Ok (all, ends)
    → items_of i ≡ Ok all
items_of_done i ts all ends same r = rw (ap (items_from i.turns []) same ∙ r) refl

items_of_fails : (i : Input) (ts : List Token) (e : Fault) → i ≡ at i ts → items_from i.turns [] (at i ts) ≡ Err e → items_of i ≡ Err e
items_of_fails i ts e same r = rw (ap (items_from i.turns []) same ∙ r) refl

file_is_read : (Any : Type 0) (file : FileOf) (last : ℕ) (ts : List Token) (f : FileTree) → IsFile f ts → FitItems f.items ⊎ Any
    → IsRead Any (file_of file last ts) f
unfolding file_of
file_is_read Any file last ts f x fit =
    let i : Input = start true ts [] file last in
    let few : length (kept true ts) < i.turns = omega (arith, kept_shrinks true false ts) in
    let m = items_done Any x.stands i refl tt fit few i.turns few [] in
    carry (m.is) (λ e r. rw (items_of_fails i (kept true ts) e refl r) refl)
    (λ r. is_read (rw (items_of_done i (kept true ts) f.items m.ends refl r, ← x.defines, ← x.of_model) refl))

pub file_complete : (file : FileOf) (last : ℕ) (ts : List Token) (f : FileTree) → IsFile f ts → FitItems f.items → file_of file last ts ≡ Ok f
file_complete file last ts f x fit = bounded (file_is_read ⊥ file last ts f x (inl fit))

pub file_deep : (file : FileOf) (last : ℕ) (ts : List Token) (f : FileTree) → IsFile f ts
    → (file_of file last ts ≡ Ok f) ⊎ TooDeep (file_of file last ts)
file_deep file last ts f x = at_any_depth (file_is_read (Unit {0}) file last ts f x (inr tt))

pub other_code : {A : Type 0} (answer : Result A Fault) (e : Fault) → answer ≡ Err e → e.code ≡ NO_READING_HERE → TooDeep answer → ⊥
other_code answer e is code x = absurd (omega (arith, sym x.code ∙ (ap (λ (f : Fault). f.code) (same x.refusal e (sym x.is ∙ is)) ∙ code)))
  where
    same : {A : Type 0} (f h : Fault) → ◌≡◌ {A = Result A Fault} (Err f) (Err h) → f ≡ h
    same f h e = cc

pub file_unread : (file : FileOf) (last : ℕ) (ts : List Token) (e : Fault) → file_of file last ts ≡ Err e → e.code ≡ NO_READING_HERE → (f : FileTree)
    → IsFile f ts → ⊥
file_unread file last ts e is code f x = by (file_of file last ts) is (file_deep file last ts f x)
  where
    by : (answer : Result FileTree Fault) → answer ≡ Err e → (answer ≡ Ok f) ⊎ TooDeep answer → ⊥
    by answer is (inl read) = absurd cc
    by answer is (inr deep) = other_code answer e is code deep

pub file_unique : (ts : List Token) (f h : FileTree) → IsFile f ts → FitItems f.items → IsFile h ts → FitItems h.items → f ≡ h
file_unique ts f h x fx y fy = same f h (sym (file_complete which.Xs 0 ts f x fx) ∙ file_complete which.Xs 0 ts h y fy)
  where
    same : (f h : FileTree) → ◌≡◌ {A = Result FileTree Fault} (Ok f) (Ok h) → f ≡ h
    same f h e = cc

-- ---- pieces

rest_end : (b : Input) (room n : ℕ) (sofar : List StmtTree) → rest_from (stmt room) (suc n) sofar (at b []) ≡ Ok (sofar ++ [], at b [])
unfolding rest_from at_end
rest_end b room n sofar = rw (append-nil sofar) refl

rest_step : (b : Input) (room n : ℕ) (sofar : List StmtTree) (one : StmtTree) (ts us : List Token) → part (stmt room) (at b ts) ≡ Ok (one, at b us)
    → length us < length ts → rest_from (stmt room) (suc n) sofar (at b ts) ≡ rest_from (stmt room) n (sofar ++ one ∷ []) (at b us)
unfolding rest_from at_end
rest_step b room n sofar one [] us r less = absurd (omega (arith, less))
rest_step b room n sofar one (t ∷ ts) us r less = rw r refl

rest_fails : (b : Input) (room n : ℕ) (sofar : List StmtTree) (ts us : List Token) (e : Fault) → length us < length ts → part (stmt room) (at b ts) ≡ Err e
    → rest_from (stmt room) (suc n) sofar (at b ts) ≡ Err e
unfolding rest_from at_end
rest_fails b room n sofar [] us e less r = absurd (omega (arith, less))
rest_fails b room n sofar (t ∷ ts) us e less r = rw r refl

pub rest_done : (Any : Type 0) (b : Input) (names : AreNames b.types) (room : ℕ) {all : StmtTrees} {ts : List Token} → Rest b.types all ts
    → (depths all ≤ room) ⊎ Any → (tallest_of all ≤ max_nesting) ⊎ Any → length ts < b.turns → (n : ℕ) → length ts < n → (sofar : List StmtTree)
    → IsRead Any (rest_from (stmt room) n sofar (at b ts)) (sofar ++ list_of all, at b [])
rest_done Any b names room s.rest_over h l few zero len sofar = absurd (omega (arith, len))
rest_done Any b names room s.rest_over h l few (suc n) len sofar = is_read (rest_end b room n sofar)
rest_done Any b names room (s.rest_part x y) h l few zero len sofar = absurd (omega (arith, len))
rest_done Any b names room (s.rest_part {s = one} {all = all} {ts = ts} {us = us} x y) h l few (suc n) len sofar =
    carry (part_done Any b names x room (under h (λ k. omega (arith, k))) (under l (λ k. omega (arith, k))) few)
    (λ e r. rest_fails b room n sofar ts us e (part_shrinks x) r)
    (λ r. by_same (rest_step b room n sofar one ts us r (part_shrinks x))
    (regrouped (append_assoc sofar (one ∷ []) (list_of all))
    (rest_done Any b names room y (under h (λ k. omega (arith, k))) (under l (λ k. omega (arith, k))) (omega (arith, few, part_shrinks x)) n
    (omega (arith, len, part_shrinks x)) (sofar ++ one ∷ []))))

list_of-stmts_of : (all : List StmtTree) → list_of (stmts_of all) ≡ all
list_of-stmts_of [] = refl
list_of-stmts_of (one ∷ all) = ap (λ more. one ∷ more) (list_of-stmts_of all)

block_is_read : (Any : Type 0) (file : FileOf) (last : ℕ) (types : List (List ℕ)) (around : ℕ) (ts : List Token) (all : List StmtTree) → AreNames types
    → Rest types (stmts_of all) (kept false ts) → Fit (max_nesting - around) (stmts_of all) ⊎ Any → IsRead Any (block_of file last types around ts) all
unfolding block_of
block_is_read Any file last types around ts all names x fit =
    let i : Input = start false ts types file last in
    let few : length (kept false ts) < i.turns = omega (arith, kept_shrinks false false ts) in
    carry (rest_done Any i names (max_nesting - around) x (under fit (λ k. k.0)) (under fit (λ k. k.1)) few i.turns few []) (λ e r. rw r refl)
    (λ r. is_read (rw (r, list_of-stmts_of all) refl))

pub block_complete : (file : FileOf) (last : ℕ) (types : List (List ℕ)) (around : ℕ) (ts : List Token) (all : List StmtTree) → AreNames types
    → Rest types (stmts_of all) (kept false ts) → Fit (max_nesting - around) (stmts_of all) → block_of file last types around ts ≡ Ok all
block_complete file last types around ts all names x fit = bounded (block_is_read ⊥ file last types around ts all names x (inl fit))

pub block_deep : (file : FileOf) (last : ℕ) (types : List (List ℕ)) (around : ℕ) (ts : List Token) (all : List StmtTree) → AreNames types
    → Rest types (stmts_of all) (kept false ts) → (block_of file last types around ts ≡ Ok all) ⊎ TooDeep (block_of file last types around ts)
block_deep file last types around ts all names x = at_any_depth (block_is_read (Unit {0}) file last types around ts all names x (inr tt))

expr_is_read : (Any : Type 0) (file : FileOf) (last : ℕ) (types : List (List ℕ)) (around : ℕ) (ts : List Token) (a : ExprTree) → AreNames types
    → Whole types a (kept false ts) [] → (height a ≤ max_nesting - around) ⊎ Any → IsRead Any (expr_of file last types around ts) a
unfolding expr_of at_end
expr_is_read Any file last types around ts a names x h =
    let i : Input = start false ts types file last in
    let few : length (kept false ts) < i.turns = omega (arith, kept_shrinks false false ts) in
    carry (whole_is_read Any i names x (max_nesting - around) h few the_end) (λ e r. rw r refl) (λ r. is_read (rw r refl))

pub expr_complete : (file : FileOf) (last : ℕ) (types : List (List ℕ)) (around : ℕ) (ts : List Token) (a : ExprTree) → AreNames types
    → Whole types a (kept false ts) [] → height a ≤ max_nesting - around → expr_of file last types around ts ≡ Ok a
expr_complete file last types around ts a names x h = bounded (expr_is_read ⊥ file last types around ts a names x (inl h))

pub expr_deep : (file : FileOf) (last : ℕ) (types : List (List ℕ)) (around : ℕ) (ts : List Token) (a : ExprTree) → AreNames types
    → Whole types a (kept false ts) [] → (expr_of file last types around ts ≡ Ok a) ⊎ TooDeep (expr_of file last types around ts)
expr_deep file last types around ts a names x = at_any_depth (expr_is_read (Unit {0}) file last types around ts a names x (inr tt))

pub expr_unique : (types : List (List ℕ)) (ts : List Token) (a c : ExprTree) → AreNames types → Whole types a ts [] → Whole types c ts [] → a ≡ c
expr_unique types ts a c names x y =
    let i : Input = record { rest = ts; types = types; file = which.Xs; last = 0; turns = suc (length ts) } in
    let few : length ts < i.turns = omega arith in
    let room : ℕ = max (height a) (height c) in
    same i a c (sym (whole_read i names x room (omega arith) few the_end) ∙ whole_read i names y room (omega arith) few the_end)
  where
    same : (i : Input) (a c : ExprTree) → ◌≡◌ {A = Outcome Found} (Ok (found_of a, at i [])) (Ok (found_of c, at i [])) → a ≡ c
    same i a c e = ap (λ (f : Found). f.tree) (same_outcome {E = Fault} (found_of a) (found_of c) (at i []) (at i []) e).0

pub arguments_shrink : {types : List (List ℕ)} {all : List ExprTree} {ts us : List Token} → ArgumentList types all ts us → length us < length ts
arguments_shrink (s.last_argument x) = whole_shrinks x
arguments_shrink (s.more_arguments x c y) = omega (arith, whole_shrinks x, arguments_shrink y)

argument_last : (b : Input) (room n : ℕ) (sofar : List ExprTree) (a : ExprTree) (ts us : List Token)
    → expr room level.Whole (at b ts) ≡ Ok (found_of a, at b us) → Stop (codes ",") us → args_from room (suc n) sofar (at b ts) ≡ Ok (sofar ++ a ∷ [], at b us)
unfolding args_from sees after
argument_last b room n sofar a ts us r stop = rw (r, stop) refl

argument_more : (b : Input) (room n : ℕ) (sofar : List ExprTree) (a : ExprTree) (t : Token) (ts us : List Token)
    → expr room level.Whole (at b ts) ≡ Ok (found_of a, at b (t ∷ us)) → Is (codes ",") t
    → args_from room (suc n) sofar (at b ts) ≡ args_from room n (sofar ++ a ∷ []) (at b us)
unfolding args_from sees after next
argument_more b room n sofar a t ts us r c = rw (r, c) refl

argument_fails : (b : Input) (room n : ℕ) (sofar : List ExprTree) (ts : List Token) (e : Fault) → expr room level.Whole (at b ts) ≡ Err e
    → args_from room (suc n) sofar (at b ts) ≡ Err e
unfolding args_from
argument_fails b room n sofar ts e r = rw r refl

pub arguments_done : (Any : Type 0) (b : Input) (names : AreNames b.types) (room : ℕ) {all : List ExprTree} {ts us : List Token}
    → ArgumentList b.types all ts us → (heights (exprs_of all) ≤ room) ⊎ Any → Ends us → Stop (codes ",") us → length ts < b.turns → (n : ℕ)
    → length ts ≤ n → (sofar : List ExprTree) → IsRead Any (args_from room n sofar (at b ts)) (sofar ++ all, at b us)
arguments_done Any b names room (s.last_argument x) h ends stop few zero len sofar = absurd (omega (arith, len, whole_shrinks x))
arguments_done Any b names room (s.last_argument {a = a} {ts = ts} {us = us} x) h ends stop few (suc n) len sofar =
    carry (whole_is_read Any b names x room (under h (λ k. omega (arith, k))) few ends) (λ e r. argument_fails b room n sofar ts e r)
    (λ r. is_read (argument_last b room n sofar a ts us r stop))
arguments_done Any b names room (s.more_arguments x c y) h ends stop few zero len sofar = absurd (omega (arith, len, whole_shrinks x))
arguments_done Any b names room (s.more_arguments {a = a} {all = all} {t = t} {ts = ts} {us = us} x c y) h ends stop few (suc n) len sofar =
    carry (whole_is_read Any b names x room (under h (λ k. omega (arith, k))) few (comma t us c)) (λ e r. argument_fails b room n sofar ts e r)
    (λ r. by_same (argument_more b room n sofar a t ts us r c)
    (regrouped (append_assoc sofar (a ∷ []) all)
    (arguments_done Any b names room y (under h (λ k. omega (arith, k))) ends stop (omega (arith, few, whole_shrinks x)) n
    (omega (arith, len, whole_shrinks x)) (sofar ++ a ∷ []))))

abbrev given : List ExprTree → Result (List ExprTree) Fault
given all = Ok all

args_at : (Any : Type 0) (i : Input) (names : AreNames i.types) (room : ℕ) {all : List ExprTree} {ts : List Token} → AllArguments i.types all ts
    → (heights (exprs_of all) ≤ room) ⊎ Any → length ts < i.turns
    → IsRead Any (if at_end (at i ts) then given [] else whole_of (some_args room (at i ts))) all
unfolding at_end some_args
args_at Any i names room s.no_arguments h few = is_read refl
args_at Any i names room (s.arguments {all = all} {ts = ts} x) h few =
    let some = some_tokens ts (omega (arith, arguments_shrink x)) in
    carry (arguments_done Any i names room x h the_end refl few i.turns (omega (arith, few)) []) (λ e r. rw (some, r) refl)
    (λ r. is_read (rw (some, r) refl))
  where
    some_tokens : (ts : List Token) → 0 < length ts → is_empty ts ≡ false
    some_tokens [] some = absurd (omega (arith, some))
    some_tokens (t ∷ ts) some = refl

args_are_read : (Any : Type 0) (file : FileOf) (last : ℕ) (types : List (List ℕ)) (around : ℕ) (ts : List Token) (all : List ExprTree) → AreNames types
    → AllArguments types all (kept false ts) → (heights (exprs_of all) ≤ max_nesting - around) ⊎ Any → IsRead Any (args_of file last types around ts) all
unfolding args_of
args_are_read Any file last types around ts all names x h =
    args_at Any (start false ts types file last) names (max_nesting - around) x h (omega (arith, kept_shrinks false false ts))

pub args_complete : (file : FileOf) (last : ℕ) (types : List (List ℕ)) (around : ℕ) (ts : List Token) (all : List ExprTree) → AreNames types
    → AllArguments types all (kept false ts) → heights (exprs_of all) ≤ max_nesting - around → args_of file last types around ts ≡ Ok all
args_complete file last types around ts all names x h = bounded (args_are_read ⊥ file last types around ts all names x (inl h))

pub args_deep : (file : FileOf) (last : ℕ) (types : List (List ℕ)) (around : ℕ) (ts : List Token) (all : List ExprTree) → AreNames types
    → AllArguments types all (kept false ts) → (args_of file last types around ts ≡ Ok all) ⊎ TooDeep (args_of file last types around ts)
args_deep file last types around ts all names x = at_any_depth (args_are_read (Unit {0}) file last types around ts all names x (inr tt))

pub block_unique : (types : List (List ℕ)) (around : ℕ) (ts : List Token) (all more : List StmtTree) → AreNames types
    → Rest types (stmts_of all) (kept false ts) → Fit (max_nesting - around) (stmts_of all) → Rest types (stmts_of more) (kept false ts)
    → Fit (max_nesting - around) (stmts_of more) → all ≡ more
block_unique types around ts all more names x fx y fy =
    same all more (sym (block_complete which.Xs 0 types around ts all names x fx) ∙ block_complete which.Xs 0 types around ts more names y fy)
  where
    same : (all more : List StmtTree) → ◌≡◌ {A = Result (List StmtTree) Fault} (Ok all) (Ok more) → all ≡ more
    same all more e = cc
