-- What is a statement by the rules is read, or refused as nested too deep.
use Rattle.std.proofs.Common.{◌≡◌, ℕ, zero, suc, ◌<◌, ◌≤◌, Bool, true, false, if◌then◌else◌, ◌&&◌, ◌||◌, not, List, [], ◌∷◌, ◌++◌, length, append_assoc, append-nil, Option, Some, None, Ok, Err, ◌⊎◌, inl, refl, ap, sym, ◌∙◌, arith}
use Rattle.std.proofs.lemmas.Bool.{and_left, and_parts, and_right, both_ways, false_from_ne_true, not-true, not_from_true, or_from, or_left, or_right}
use Rattle.std.proofs.lemmas.Slice.Eq.{bytes_eq-Decides}
use Rattle.std.specs.Prelude.{codes}
use Rattle.std.specs.Str.{bytes_eq}
use Rattle.xs_base.specs.Readers.{head_is}
use Rattle.xs_base.specs.declared.fault.Fault.{Fault}
use Rattle.xs_ctok.specs.declared.token.TokKind.{TokKind}
use Rattle.xs_ctok.specs.declared.token.TokKind.TheVariants as kind
use Rattle.xs_ctok.specs.declared.token.Token.{Token}
use Rattle.xs_csyn.proofs.AnyDepth.{IsRead, by_same, carry, is_read, no_room, refused, regrouped, under, whole_is_read}
use Rattle.xs_csyn.proofs.ExpressionsComplete.{NoJoin, stars_done, stars_no_join, type_name_done, type_name_first}
use Rattle.xs_csyn.proofs.ExpressionsSound.{whole_line}
use Rattle.xs_csyn.proofs.FormsComplete.{FormRead, form_is_read, form_read, perl_form_done}
use Rattle.xs_csyn.proofs.MoreRoom.{too_deep_here}
use Rattle.xs_csyn.proofs.Marks.{is_sign_of, is_word_of, mark_no_type, mark_no_word, marks, name_kind, name_no_mark, no_mark, type_no_mark, variable_name, word_no_mark, word_no_type, words}
use Rattle.xs_csyn.proofs.Sizes.{body_shrinks, condition_shrinks, declarator_shrinks, first_shrinks, for_head_shrinks, label_shrinks, labels_shrink, part_shrinks, stars_shrink, stmt_shrinks, type_name_shrinks, until_shrinks}
use Rattle.xs_csyn.proofs.Starts.{Begins, Ends, NoStart, Stop, closes, comma, no_brace, no_close, no_end_brace, no_semicolon, semicolon, starts_no_mark, starts_no_type, starts_no_word, whole_begins}
use Rattle.xs_csyn.proofs.StatementsSound.{opened_word, word_of}
use Rattle.xs_cinput.proofs.Tables.{EachRow}
use Rattle.xs_csyn.proofs.Yields.{at}
use Rattle.xs_csyn.specs.FileGrammar.{AreNames}
use Rattle.xs_csyn.specs.Grammar.{Is, IsVariable, IsWord, MayName, Stars, Whole, line_of}
use Rattle.xs_cexpr.specs.ExpressionHeights.{height}
use Rattle.xs_cstmt.specs.StatementHeights.{depth, depths, group_depths, option_height, tallest, tallest_first, tallest_head, tallest_in, tallest_of, tallest_value}
use Rattle.xs_cinput.specs.Operators.{listed}
use Rattle.xs_cstmt.specs.PerlForms.{begins_form, begins_form_at, form_ahead, form_at, form_row, forms, int_ahead, int_of, perl_form}
use Rattle.xs_csyn.specs.StatementGrammar as g
use Rattle.xs_csyn.specs.StatementGrammar.{ALabel, Condition, Declarator, Declarators, Declared, First, ForHead, Form, Groups, Labels, Part, Parts, Statement, Stmts, Until, Value}
use Rattle.xs_cstmt.specs.StatementReader.{a_do, a_for, a_label, a_switch, a_while, an_expr, an_if, block, body_from, case_label, condition, declaration, declarator, declarators, declarators_from, default_label, effect, else_branch, empty, first_opener, first_part, first_value, for_head, group, group_body, groups, groups_from, int_label, jump, labels, labels_from, last_leaves, max_nesting, name_label, opened_by, opener, openers, part, parts, parts_from, plain, returned, sees_label, simple, stmt, until}
use Rattle.xs_cstmt.specs.StatementTree as tree
use Rattle.xs_cexpr.specs.ExpressionTree.{ExprTree}
use Rattle.xs_cstmt.specs.StatementTree.{DeclaratorTree, DeclaredTree, FirstTree, ForTree, StmtTree, StmtTrees, GroupTree, GroupTrees, groups_of, stmts_of}
use Rattle.xs_cinput.specs.TokenInput.{Input, a_variable, after, expect, expect_word, is_punct_kind, is_sign, is_type, is_word, is_word_kind, line, next, sees, sees_type, sees_variable, sees_word, spelling}
use Rattle.xs_cinput.specs.TypeReader.{is_joined_by, join_table, joins}
use Rattle.xs_ctok.specs.CWords.{is_no_name, is_type_word}
use Rattle.xs_cstmt.specs.declared.forms.Form.{Form as Which}
use Rattle.xs_cstmt.specs.declared.openers.Opener.{Opener}
use Rattle.xs_cstmt.specs.declared.openers.Opener.TheVariants as opens
use Rattle.xs_cstmt.specs.declared.tree.Label.{Label}
use Rattle.xs_cstmt.specs.declared.tree.PerlForm.{PerlForm}

-- ---- names go on with no type's name

joined_word : (table : List (List ℕ × List ℕ)) (name word : List ℕ) → EachRow (λ first second. is_no_name second ≡ true) table
    → is_joined_by table name word ≡ true → is_no_name word ≡ true
joined_word [] name word each e = absurd cc
joined_word (row ∷ more) name word each e = by (bytes_eq row.0 name && bytes_eq row.1 word) refl e (λ f. joined_word more name word each.1 f)
  where
    by : (c : Bool) → (bytes_eq row.0 name && bytes_eq row.1 word) ≡ c → (c || is_joined_by more name word) ≡ true
        → (is_joined_by more name word ≡ true → is_no_name word ≡ true) → is_no_name word ≡ true
    by true same f again =
        let p = and_parts (bytes_eq row.0 name) (bytes_eq row.1 word) same in
        ap is_no_name (sym ((bytes_eq-Decides row.1 word).0 p.1)) ∙ each.0
    by false same f again = again f

join_words : EachRow (λ first second. is_no_name second ≡ true) join_table
unfolding join_table is_no_name
join_words = (refl, (refl, (refl, (refl, (refl, (refl, (refl, tt)))))))

pub name_no_join : (t : Token) (us : List Token) → MayName t → NoJoin (t ∷ us)
name_no_join t us n = λ name. false_from_ne_true (joins name t) (λ j.
    let p = and_parts (is_word_kind t.kind) (not (is_no_name t.text)) n in
    let q = and_parts (is_word_kind t.kind) (is_joined_by join_table name t.text) j in
    both_ways (is_no_name t.text) (not-true (is_no_name t.text) p.1) (joined_word join_table name t.text join_words q.1))

-- ---- words

is_a_keyword : (is_no_name (codes "return") ≡ true) × (is_no_name (codes "break") ≡ true) × (is_no_name (codes "continue") ≡ true)
    × (is_no_name (codes "case") ≡ true) × (is_no_name (codes "default") ≡ true) × (is_no_name (codes "else") ≡ true)
unfolding is_no_name
is_a_keyword = (refl, refl, refl, refl, refl, refl)

opener_word : (o : Opener) → (is_no_name (word_of o) ≡ true) × (is_type_word (word_of o) ≡ false)
unfolding is_no_name is_type_word
opener_word opens.If = (refl, refl)
opener_word opens.While = (refl, refl)
opener_word opens.Do = (refl, refl)
opener_word opens.For = (refl, refl)
opener_word opens.Switch = (refl, refl)

no_int2ptr : (o : Opener) → bytes_eq (codes "INT2PTR") (word_of o) ≡ false
no_int2ptr opens.If = refl
no_int2ptr opens.While = refl
no_int2ptr opens.Do = refl
no_int2ptr opens.For = refl
no_int2ptr opens.Switch = refl

-- no statement in which others stand begins here
no_opener : (ts : List Token) → ((o : Opener) → head_is (is_word (word_of o)) ts ≡ false) → first_opener ts ≡ None
no_opener [] isnt = refl
no_opener (t ∷ ts) isnt = by (first_opener (t ∷ ts)) refl
  where
    by : (o : Option Opener) → first_opener (t ∷ ts) ≡ o → first_opener (t ∷ ts) ≡ None
    by None e = e
    by (Some o) e = absurd (both_ways (is_word (word_of o) t) (isnt o) (opened_word t o e))

keyword_no_opener : (word : List ℕ) (t : Token) (ts : List Token) → IsWord word t → ((o : Opener) → bytes_eq word (word_of o) ≡ false)
    → first_opener (t ∷ ts) ≡ None
keyword_no_opener word t ts is other = no_opener (t ∷ ts) (λ o. words word (word_of o) t is ∙ other o)

return_no_opener : (o : Opener) → bytes_eq (codes "return") (word_of o) ≡ false
return_no_opener opens.If = refl
return_no_opener opens.While = refl
return_no_opener opens.Do = refl
return_no_opener opens.For = refl
return_no_opener opens.Switch = refl

break_no_opener : (o : Opener) → bytes_eq (codes "break") (word_of o) ≡ false
break_no_opener opens.If = refl
break_no_opener opens.While = refl
break_no_opener opens.Do = refl
break_no_opener opens.For = refl
break_no_opener opens.Switch = refl

continue_no_opener : (o : Opener) → bytes_eq (codes "continue") (word_of o) ≡ false
continue_no_opener opens.If = refl
continue_no_opener opens.While = refl
continue_no_opener opens.Do = refl
continue_no_opener opens.For = refl
continue_no_opener opens.Switch = refl

-- a word of the grammar begins no form
no_form_words : (listed forms (codes "return") ≡ None) × (listed forms (codes "break") ≡ None) × (listed forms (codes "continue") ≡ None)
unfolding forms
no_form_words = (refl, refl, refl)

row_of_word : (word : List ℕ) (t : Token) → IsWord word t → form_row t ≡ listed forms word
row_of_word word t is = let k = is_word_of word t is in rw (k.0, k.1) refl

no_form_by_word : (types : List (List ℕ)) (word : List ℕ) (t : Token) (ts : List Token) → IsWord word t → listed forms word ≡ None
    → form_at types (t ∷ ts) ≡ None
no_form_by_word types word t ts is none = rw (row_of_word word t is, none) refl

no_form_by_mark : (types : List (List ℕ)) (m : List ℕ) (t : Token) (ts : List Token) → Is m t → form_at types (t ∷ ts) ≡ None
no_form_by_mark types m t ts is = let k = (is_sign_of m t is).0 in rw k refl

-- ---- lists

abbrev pub list_of : StmtTrees → List StmtTree
list_of tree.NoStmts = []
list_of (tree.MoreStmts s all) = s ∷ list_of all

pub stmts_of-list_of : (all : StmtTrees) → stmts_of (list_of all) ≡ all
stmts_of-list_of tree.NoStmts = refl
stmts_of-list_of (tree.MoreStmts s all) = ap (tree.MoreStmts s) (stmts_of-list_of all)

abbrev groups_list : GroupTrees → List GroupTree
groups_list tree.NoGroups = []
groups_list (tree.MoreGroups line labels body all) = record { line = line; labels = labels; body = body } ∷ groups_list all

groups_of-groups_list : (all : GroupTrees) → groups_of (groups_list all) ≡ all
groups_of-groups_list tree.NoGroups = refl
groups_of-groups_list (tree.MoreGroups line labels body all) = ap (tree.MoreGroups line labels body) (groups_of-groups_list all)

-- ---- what statements begin with

abbrev is_label : List Token → Bool
is_label ts = head_is (is_word (codes "case")) ts || head_is (is_word (codes "default")) ts

-- what ends the statements of a group
abbrev ends_body : List Token → Bool
ends_body ts = head_is (is_sign (codes "}")) ts || is_label ts

declared_first : {types : List (List ℕ)} {d : DeclaredTree} {ts us : List Token} → Declared types d ts us → head_is (is_type types) ts ≡ true
declared_first (g.names_declared ty x is) = type_name_first ty

first_no_mark : (types : List (List ℕ)) (m : List ℕ) (ts : List Token) → head_is (is_type types) ts ≡ true → Stop m ts
first_no_mark types m [] is = absurd cc
first_no_mark types m (t ∷ ts) is = type_no_mark types m t is

-- The first token begins a statement, and no declaration.
record Stated (types : List (List ℕ)) (ts : List Token) : Type 0 where
  no_end : Stop (codes "}") ts
  no_label : is_label ts ≡ false
  no_declaration : (head_is (is_type types) ts && not (begins_form_at types ts)) ≡ false

stated_by_word : (types : List (List ℕ)) (names : AreNames types) (word : List ℕ) (t : Token) (ts : List Token) → IsWord word t → is_no_name word ≡ true
    → is_type_word word ≡ false → bytes_eq word (codes "case") ≡ false → bytes_eq word (codes "default") ≡ false → Stated types (t ∷ ts)
stated_by_word types names word t ts is isnt other kase dflt = record {
  no_end = word_no_mark word (codes "}") t is;
  no_label = or_from (is_word (codes "case") t) (is_word (codes "default") t) (words word (codes "case") t is ∙ kase)
      (words word (codes "default") t is ∙ dflt);
  no_declaration = and_left (is_type types t) (not (begins_form_at types (t ∷ ts))) (word_no_type types word t names is isnt other);
}

stated_by_mark : (types : List (List ℕ)) (m : List ℕ) (t : Token) (ts : List Token) → Is m t → bytes_eq m (codes "}") ≡ false → Stated types (t ∷ ts)
stated_by_mark types m t ts is other = record {
  no_end = marks m (codes "}") t is ∙ other;
  no_label = or_from (is_word (codes "case") t) (is_word (codes "default") t) (mark_no_word m (codes "case") t is) (mark_no_word m (codes "default") t is);
  no_declaration = and_left (is_type types t) (not (begins_form_at types (t ∷ ts))) (mark_no_type types m t is);
}

stated_by_expr : (types : List (List ℕ)) (names : AreNames types) (ts : List Token) → Begins types ts → Stated types ts
stated_by_expr types names ts x = record {
  no_end = starts_no_mark (codes "}") no_end_brace x;
  no_label = or_from (head_is (is_word (codes "case")) ts) (head_is (is_word (codes "default")) ts)
      (starts_no_word (codes "case") is_a_keyword.3 refl x) (starts_no_word (codes "default") is_a_keyword.4 refl x);
  no_declaration = and_left (head_is (is_type types) ts) (not (begins_form_at types ts)) (starts_no_type names x);
}

stated_by_form : (b : Input) (p : PerlForm) (ts us : List Token) → FormRead b p ts us → Stated b.types ts
stated_by_form b p ts us (form_is_read {t = t} {ts = rest} x r) = record {
  no_end = no_mark (codes "}") t (ap is_punct_kind x.is_a_word);
  no_label = or_from (is_word (codes "case") t) (is_word (codes "default") t)
      (and_right (is_word_kind t.kind) (bytes_eq t.text (codes "case")) x.no_case)
      (and_right (is_word_kind t.kind) (bytes_eq t.text (codes "default")) x.no_default);
  no_declaration = and_right (is_type b.types t) (not (begins_form_at b.types (t ∷ rest))) (not_from_true (begins_form_at b.types (t ∷ rest)) x.begins);
}

keyword_types : (is_type_word (codes "return") ≡ false) × (is_type_word (codes "break") ≡ false) × (is_type_word (codes "continue") ≡ false)
unfolding is_type_word
keyword_types = (refl, refl, refl)

stated_by_opener : (types : List (List ℕ)) (names : AreNames types) (o : Opener) (t : Token) (ts : List Token) → IsWord (word_of o) t → Stated types (t ∷ ts)
stated_by_opener types names opens.If t ts w = stated_by_word types names (codes "if") t ts w (opener_word opens.If).0 (opener_word opens.If).1 refl refl
stated_by_opener types names opens.While t ts w =
    stated_by_word types names (codes "while") t ts w (opener_word opens.While).0 (opener_word opens.While).1 refl refl
stated_by_opener types names opens.Do t ts w = stated_by_word types names (codes "do") t ts w (opener_word opens.Do).0 (opener_word opens.Do).1 refl refl
stated_by_opener types names opens.For t ts w = stated_by_word types names (codes "for") t ts w (opener_word opens.For).0 (opener_word opens.For).1 refl refl
stated_by_opener types names opens.Switch t ts w =
    stated_by_word types names (codes "switch") t ts w (opener_word opens.Switch).0 (opener_word opens.Switch).1 refl refl

-- Where `Any` holds, any depth is allowed.
module _ (Any : Type 0) (b : Input) (names : AreNames b.types) where
  stmt_stated : {s : StmtTree} {ts us : List Token} → Statement b.types s ts us → Stated b.types ts
  stmt_stated (g.block {t = t} {ts = ts} o x) = stated_by_mark b.types (codes "{") t ts o refl
  stmt_stated (g.empty {t = t} {ts = ts} is) = stated_by_mark b.types (codes ";") t ts is refl
  stmt_stated (g.effect {ts = ts} n x is) = stated_by_expr b.types names ts (whole_begins x)
  stmt_stated (g.an_if {t = t} {ts = ts} w c x isnt) = stated_by_opener b.types names opens.If t ts w
  stmt_stated (g.if_else {t = t} {ts = ts} w c x e y) = stated_by_opener b.types names opens.If t ts w
  stmt_stated (g.a_while {t = t} {ts = ts} w c x) = stated_by_opener b.types names opens.While t ts w
  stmt_stated (g.a_do {t = t} {ts = ts} w x e c is) = stated_by_opener b.types names opens.Do t ts w
  stmt_stated (g.a_for {t = t} {ts = ts} w h x) = stated_by_opener b.types names opens.For t ts w
  stmt_stated (g.a_switch {t = t} {ts = ts} w c o x) = stated_by_opener b.types names opens.Switch t ts w
  stmt_stated (g.a_break {t = t} {u = u} {ts = ts} w is) =
      stated_by_word b.types names (codes "break") t (u ∷ ts) w is_a_keyword.1 keyword_types.1 refl refl
  stmt_stated (g.a_continue {t = t} {u = u} {ts = ts} w is) =
      stated_by_word b.types names (codes "continue") t (u ∷ ts) w is_a_keyword.2 keyword_types.2 refl refl
  stmt_stated (g.a_return {t = t} {ts = ts} w x) =
      stated_by_word b.types names (codes "return") t ts w is_a_keyword.0 keyword_types.0 refl refl
  stmt_stated (g.perl {p = p} {t = t} {ts = ts} {us = us} x) = stated_by_form b p (t ∷ ts) us (form_read b x)

  part_no_end : {s : StmtTree} {ts us : List Token} → Part b.types s ts us → Stop (codes "}") ts
  part_no_end (g.declared {ts = ts} isnt x) = first_no_mark b.types (codes "}") ts (declared_first x)
  part_no_end (g.stated x) = (stmt_stated x).no_end

  -- ---- expressions and declarations

  expr_done : (a : ExprTree) (ts us : List Token) → Whole b.types a ts us → (height a ≤ max_nesting) ⊎ Any → length ts < b.turns → Ends us
      → IsRead Any (an_expr (at b ts)) (a, at b us)
  unfolding an_expr
  expr_done a ts us x h few stop = carry (whole_is_read Any b names x max_nesting h few stop) (λ e r. rw r refl) (λ r. is_read (rw r refl))

  until_done : {v : Option ExprTree} {ts us : List Token} (sign : List ℕ) → NoStart sign → ((t : Token) (vs : List Token) → Is sign t → Ends (t ∷ vs))
      → Until b.types sign v ts us → (option_height v ≤ max_nesting) ⊎ Any → length ts < b.turns → IsRead Any (until sign (at b ts)) (v, at b us)
  unfolding until sees after next expect
  until_done sign isnt ends (g.nothing {t = t} {ts = ts} is) h few = is_read (rw is refl)
  until_done sign isnt ends (g.something {a = a} {t = t} {ts = ts} {us = us} x is) h few =
      let some = starts_no_mark sign isnt (whole_begins x) in
      carry (expr_done a ts (t ∷ us) x h few (ends t us is)) (λ e r. rw (some, r) refl) (λ r. is_read (rw (some, r, is) refl))

  value_done : {v : Option ExprTree} {ts us : List Token} → Value b.types v ts us → (option_height v ≤ max_nesting) ⊎ Any → length ts < b.turns → Ends us
      → Stop (codes "=") us → IsRead Any (first_value (at b ts)) (v, at b us)
  unfolding first_value sees after next
  value_done g.no_value h few ends stop = is_read (rw stop refl)
  value_done (g.value {a = a} {t = t} {ts = ts} {us = us} is x) h few ends stop =
      carry (expr_done a ts us x h (omega (arith, few)) ends) (λ e r. rw (is, r) refl) (λ r. is_read (rw (is, r) refl))

  declarator_done : {d : DeclaratorTree} {ts us : List Token} → Declarator b.types d ts us → (option_height d.value ≤ max_nesting) ⊎ Any
      → length ts < b.turns → Ends us → Stop (codes "=") us → IsRead Any (declarator (at b ts)) (d, at b us)
  unfolding declarator line a_variable sees_variable spelling next
  declarator_done (g.declarator {n = n} {v = v} {t = t} {ts = ts} {us = us} {vs = vs} s i x) h few ends stop =
      let some = stars_done b s (name_no_mark (codes "*") t (variable_name b.types t i)) few in
      carry (value_done x h (omega (arith, few, stars_shrink s)) ends stop) (λ e r. rw (some, i, r) refl) (λ r. is_read (rw (some, i, r) refl))

  name_fails : (n : ℕ) (sofar : List DeclaratorTree) (ts : List Token) (e : Fault) → declarator (at b ts) ≡ Err e
      → declarators_from (suc n) sofar (at b ts) ≡ Err e
  unfolding declarators_from
  name_fails n sofar ts e r = rw r refl

  name_last : (n : ℕ) (sofar : List DeclaratorTree) (d : DeclaratorTree) (ts us : List Token) → declarator (at b ts) ≡ Ok (d, at b us) → Stop (codes ",") us
      → declarators_from (suc n) sofar (at b ts) ≡ Ok (sofar ++ d ∷ [], at b us)
  unfolding declarators_from sees after
  name_last n sofar d ts us r stop = rw (r, stop) refl

  name_more : (n : ℕ) (sofar : List DeclaratorTree) (d : DeclaratorTree) (t : Token) (ts us : List Token) → declarator (at b ts) ≡ Ok (d, at b (t ∷ us))
      → Is (codes ",") t → declarators_from (suc n) sofar (at b ts) ≡ declarators_from n (sofar ++ d ∷ []) (at b us)
  unfolding declarators_from sees after next
  name_more n sofar d t ts us r is = rw (r, is) refl

  names_done : {all : List DeclaratorTree} {ts us : List Token} → Declarators b.types all ts us → (tallest_value all ≤ max_nesting) ⊎ Any
      → length ts < b.turns → Ends us → Stop (codes "=") us → Stop (codes ",") us → (n : ℕ) → length ts ≤ n → (sofar : List DeclaratorTree)
      → IsRead Any (declarators_from n sofar (at b ts)) (sofar ++ all, at b us)
  names_done (g.last_name x) h few ends isnt isnt' zero len sofar = absurd (omega (arith, len, declarator_shrinks x))
  names_done (g.last_name {d = d} {ts = ts} {us = us} x) h few ends isnt isnt' (suc n) len sofar =
      carry (declarator_done x (under h (λ k. omega (arith, k))) few ends isnt) (λ e r. name_fails n sofar ts e r)
      (λ r. is_read (name_last n sofar d ts us r isnt'))
  names_done (g.more_names x c y) h few ends isnt isnt' zero len sofar = absurd (omega (arith, len, declarator_shrinks x))
  names_done (g.more_names {d = d} {all = all} {t = t} {ts = ts} {us = us} {vs = vs} x c y) h few ends isnt isnt' (suc n) len sofar =
      carry (declarator_done x (under h (λ k. omega (arith, k))) few (comma t us c) (marks (codes ",") (codes "=") t c)) (λ e r. name_fails n sofar ts e r)
      (λ r. by_same (name_more n sofar d t ts us r c)
      (regrouped (append_assoc sofar (d ∷ []) all)
      (names_done y (under h (λ k. omega (arith, k))) (omega (arith, few, declarator_shrinks x)) ends isnt isnt' n
      (omega (arith, len, declarator_shrinks x)) (sofar ++ d ∷ []))))

  stars_first : {n : ℕ} {t : Token} {ts us : List Token} → Stars n ts (t ∷ us) → IsVariable b.types t → NoJoin ts
  stars_first {t = t} {us = us} s v = stars_no_join b s (name_no_join t us (variable_name b.types t v))

  declarator_no_join : {d : DeclaratorTree} {ts us : List Token} → Declarator b.types d ts us → NoJoin ts
  declarator_no_join (g.declarator s v x) = stars_first s v

  names_no_join : {all : List DeclaratorTree} {ts us : List Token} → Declarators b.types all ts us → NoJoin ts
  names_no_join (g.last_name x) = declarator_no_join x
  names_no_join (g.more_names x c y) = declarator_no_join x

  pub declaration_done : {d : DeclaredTree} {ts us : List Token} → Declared b.types d ts us → (tallest_value d.names ≤ max_nesting) ⊎ Any
      → length ts < b.turns → IsRead Any (declaration (at b ts)) (d, at b us)
  unfolding declaration declarators line expect sees next
  declaration_done (g.names_declared {base = base} {all = all} {t = t} {u = u} {ts = ts} {us = us} {vs = vs} ty x is) h few =
      let named = type_name_done b ty (names_no_join x) in
      carry (names_done x h (omega (arith, few, type_name_shrinks ty)) (semicolon u vs is) (marks (codes ";") (codes "=") u is)
      (marks (codes ";") (codes ",") u is) b.turns (omega (arith, few, type_name_shrinks ty)) [])
      (λ e r. rw (named, r) refl) (λ r. is_read (rw (named, r, is) refl))

  -- ---- heads and labels

  condition_done : {a : ExprTree} {ts us : List Token} → Condition b.types a ts us → (height a ≤ max_nesting) ⊎ Any → length ts < b.turns
      → IsRead Any (condition (at b ts)) (a, at b us)
  unfolding condition expect sees next
  condition_done (g.condition {a = a} {t = t} {u = u} {ts = ts} {us = us} o x c) h few =
      carry (expr_done a ts (u ∷ us) x h (omega (arith, few)) (closes u us c)) (λ e r. rw (o, r) refl) (λ r. is_read (rw (o, r, c) refl))

  first_done : {f : FirstTree} {ts us : List Token} → First b.types f ts us → (tallest_first f ≤ max_nesting) ⊎ Any → length ts < b.turns
      → IsRead Any (first_part (at b ts)) (f, at b us)
  unfolding first_part sees_type
  first_done (g.no_first {t = t} {ts = ts} is) h few =
      let other = mark_no_type b.types (codes ";") t is in
      carry (until_done (codes ";") no_semicolon semicolon (g.nothing {t = t} {ts = ts} is) (inl (omega arith)) few)
      (λ e r. rw (other, r) refl) (λ r. is_read (rw (other, r) refl))
  first_done (g.first_declared x) h few =
      let is = declared_first x in
      carry (declaration_done x h few) (λ e r. rw (is, r) refl) (λ r. is_read (rw (is, r) refl))
  first_done (g.first_effect {a = a} {t = t} {ts = ts} {us = us} x is) h few =
      let other = starts_no_type names (whole_begins x) in
      carry (until_done (codes ";") no_semicolon semicolon (g.something x is) h few) (λ e r. rw (other, r) refl) (λ r. is_read (rw (other, r) refl))

  head_done : {head : ForTree} {ts us : List Token} → ForHead b.types head ts us → (tallest_head head ≤ max_nesting) ⊎ Any → length ts < b.turns
      → IsRead Any (for_head (at b ts)) (head, at b us)
  unfolding for_head expect sees next
  head_done (g.for_head {t = t} {ts = ts} {us = us} {vs = vs} {ws = ws} o x y z) h few =
      carry (first_done x (under h (λ k. omega (arith, k))) (omega (arith, few))) (λ e p. rw (o, p) refl)
      (λ p. carry (until_done (codes ";") no_semicolon semicolon y (under h (λ k. omega (arith, k))) (omega (arith, few, first_shrinks x)))
      (λ e q. rw (o, p, q) refl)
      (λ q. carry (until_done (codes ")") no_close closes z (under h (λ k. omega (arith, k))) (omega (arith, few, first_shrinks x, until_shrinks y)))
      (λ e r. rw (o, p, q, r) refl) (λ r. is_read (rw (o, p, q, r) refl))))

  name_no_int : (k : TokKind) → k ≡ kind.Word → int_of k ≡ None
  name_no_int k e = ap int_of e

  label_done : {l : Label} {ts us : List Token} → ALabel b.types l ts us → a_label (at b ts) ≡ Ok (l, at b us)
  unfolding a_label case_label int_label name_label default_label int_ahead line sees_word expect_word a_variable sees_variable spelling expect sees next
  label_done (g.int_label {literal = l} {t = t} {u = u} {v = v} {ts = ts} w k c) =
      let int_is : int_of u.kind ≡ Some l = ap int_of k in rw (words (codes "case") (codes "default") t w, w, int_is, c) refl
  label_done (g.name_label {t = t} {u = u} {v = v} {ts = ts} w i c) =
      rw (words (codes "case") (codes "default") t w, w, name_no_int u.kind (name_kind u (variable_name b.types u i)), i, c) refl
  label_done (g.default_label {t = t} {u = u} {ts = ts} w c) = rw (w, c) refl

  label_first : {l : Label} {ts us : List Token} → ALabel b.types l ts us → is_label ts ≡ true
  label_first (g.int_label {t = t} w k c) = or_left (is_word (codes "case") t) (is_word (codes "default") t) w
  label_first (g.name_label {t = t} w v c) = or_left (is_word (codes "case") t) (is_word (codes "default") t) w
  label_first (g.default_label {t = t} w c) = or_right (is_word (codes "case") t) (is_word (codes "default") t) w

  labels_first : {all : List Label} {ts us : List Token} → Labels b.types all ts us → is_label ts ≡ true
  labels_first (g.last_label x) = label_first x
  labels_first (g.more_labels x y) = label_first x

  label_no_end : {l : Label} {ts us : List Token} → ALabel b.types l ts us → Stop (codes "}") ts
  label_no_end (g.int_label {t = t} w k c) = word_no_mark (codes "case") (codes "}") t w
  label_no_end (g.name_label {t = t} w v c) = word_no_mark (codes "case") (codes "}") t w
  label_no_end (g.default_label {t = t} w c) = word_no_mark (codes "default") (codes "}") t w

  labels_no_end : {all : List Label} {ts us : List Token} → Labels b.types all ts us → Stop (codes "}") ts
  labels_no_end (g.last_label x) = label_no_end x
  labels_no_end (g.more_labels x y) = label_no_end x

  label_last : (n : ℕ) (sofar : List Label) (l : Label) (ts us : List Token) → a_label (at b ts) ≡ Ok (l, at b us) → is_label us ≡ false
      → labels_from (suc n) sofar (at b ts) ≡ Ok (sofar ++ l ∷ [], at b us)
  unfolding labels_from sees_label sees_word
  label_last n sofar l ts us r stop = rw (r, stop) refl

  label_more : (n : ℕ) (sofar : List Label) (l : Label) (ts us : List Token) → a_label (at b ts) ≡ Ok (l, at b us) → is_label us ≡ true
      → labels_from (suc n) sofar (at b ts) ≡ labels_from n (sofar ++ l ∷ []) (at b us)
  unfolding labels_from sees_label sees_word
  label_more n sofar l ts us r go = rw (r, go) refl

  labels_done : {all : List Label} {ts us : List Token} → Labels b.types all ts us → is_label us ≡ false → (n : ℕ) → length ts ≤ n → (sofar : List Label)
      → labels_from n sofar (at b ts) ≡ Ok (sofar ++ all, at b us)
  labels_done (g.last_label x) stop zero len sofar = absurd (omega (arith, len, label_shrinks x))
  labels_done (g.last_label {l = l} {ts = ts} {us = us} x) stop (suc n) len sofar = label_last n sofar l ts us (label_done x) stop
  labels_done (g.more_labels x y) stop zero len sofar = absurd (omega (arith, len, label_shrinks x))
  labels_done (g.more_labels {l = l} {all = all} {ts = ts} {us = us} x y) stop (suc n) len sofar =
      label_more n sofar l ts us (label_done x) (labels_first y)
      ∙ (labels_done y stop n (omega (arith, len, label_shrinks x)) (sofar ++ l ∷ []) ∙ rw (append_assoc sofar (l ∷ []) all) refl)

  -- ---- statements in which no other stands

  -- a statement in which no other stands, at any level
  at_any : (room : ℕ) (ts : List Token) → Stop (codes "{") ts → first_opener ts ≡ None → stmt room (at b ts) ≡ simple (at b ts)
  unfolding stmt opener sees
  at_any zero ts isnt none = rw (isnt, none) refl
  at_any (suc room) ts isnt none = rw (isnt, none) refl

  simple_plain : (ts : List Token) → form_at b.types ts ≡ None → simple (at b ts) ≡ plain (at b ts)
  unfolding simple form_ahead
  simple_plain ts none = rw none refl

  empty_done : (room : ℕ) (t : Token) (ts : List Token) → Is (codes ";") t → stmt room (at b (t ∷ ts)) ≡ Ok (tree.Empty t.span.line, at b ts)
  unfolding plain empty line sees next
  empty_done room t ts is =
      at_any room (t ∷ ts) (marks (codes ";") (codes "{") t is) (no_opener (t ∷ ts) (λ o. mark_no_word (codes ";") (word_of o) t is))
      ∙ (simple_plain (t ∷ ts) (no_form_by_mark b.types (codes ";") t ts is) ∙ rw is refl)

  effect_plain : (room : ℕ) (a : ExprTree) (ts us : List Token) → form_at b.types ts ≡ None → Whole b.types a ts us
      → stmt room (at b ts) ≡ effect (at b ts)
  unfolding plain sees sees_word
  effect_plain room a ts us none x =
      let w = whole_begins x in
      at_any room ts (starts_no_mark (codes "{") no_brace w) (no_opener ts (λ o. starts_no_word (word_of o) (opener_word o).0 (no_int2ptr o) w))
      ∙ (simple_plain ts none
      ∙ rw (
        starts_no_mark (codes ";") no_semicolon w,
        starts_no_word (codes "return") is_a_keyword.0 refl w,
        starts_no_word (codes "break") is_a_keyword.1 refl w,
        starts_no_word (codes "continue") is_a_keyword.2 refl w,
      ) refl)

  effect_done : (room : ℕ) (a : ExprTree) (t : Token) (ts us : List Token) → form_at b.types ts ≡ None → Whole b.types a ts (t ∷ us)
      → (height a ≤ max_nesting) ⊎ Any → length ts < b.turns → Is (codes ";") t → IsRead Any (stmt room (at b ts)) (tree.Effect (line_of a) a, at b us)
  unfolding effect line expect sees next
  effect_done room a t ts us none x h few is =
      by_same (effect_plain room a ts (t ∷ us) none x)
      (carry (expr_done a ts (t ∷ us) x h few (semicolon t us is)) (λ e r. rw r refl) (λ r. is_read (rw (r, is, whole_line b.last x) refl)))

  return_plain : (room : ℕ) (t : Token) (ts : List Token) → IsWord (codes "return") t → stmt room (at b (t ∷ ts)) ≡ returned (at b (t ∷ ts))
  unfolding plain sees sees_word
  return_plain room t ts w =
      at_any room (t ∷ ts) (word_no_mark (codes "return") (codes "{") t w) (keyword_no_opener (codes "return") t ts w return_no_opener)
      ∙ (simple_plain (t ∷ ts) (no_form_by_word b.types (codes "return") t ts w no_form_words.0)
      ∙ rw (word_no_mark (codes "return") (codes ";") t w, w) refl)

  return_done : (room : ℕ) (v : Option ExprTree) (t : Token) (ts us : List Token) → IsWord (codes "return") t → Until b.types (codes ";") v ts us
      → (option_height v ≤ max_nesting) ⊎ Any → length ts < b.turns → IsRead Any (stmt room (at b (t ∷ ts))) (tree.Return t.span.line v, at b us)
  unfolding returned line next
  return_done room v t ts us w x h few =
      by_same (return_plain room t ts w)
      (carry (until_done (codes ";") no_semicolon semicolon x h few) (λ e r. rw r refl) (λ r. is_read (rw r refl)))

  break_done : (room : ℕ) (t u : Token) (ts : List Token) → IsWord (codes "break") t → Is (codes ";") u
      → stmt room (at b (t ∷ u ∷ ts)) ≡ Ok (tree.Break t.span.line, at b ts)
  unfolding plain jump line sees sees_word next expect
  break_done room t u ts w is =
      at_any room (t ∷ u ∷ ts) (word_no_mark (codes "break") (codes "{") t w) (keyword_no_opener (codes "break") t (u ∷ ts) w break_no_opener)
      ∙ (simple_plain (t ∷ u ∷ ts) (no_form_by_word b.types (codes "break") t (u ∷ ts) w no_form_words.1)
      ∙ rw (word_no_mark (codes "break") (codes ";") t w, words (codes "break") (codes "return") t w, w, is) refl)

  continue_done : (room : ℕ) (t u : Token) (ts : List Token) → IsWord (codes "continue") t → Is (codes ";") u
      → stmt room (at b (t ∷ u ∷ ts)) ≡ Ok (tree.Continue t.span.line, at b ts)
  unfolding plain jump line sees sees_word next expect
  continue_done room t u ts w is =
      at_any room (t ∷ u ∷ ts) (word_no_mark (codes "continue") (codes "{") t w) (keyword_no_opener (codes "continue") t (u ∷ ts) w continue_no_opener)
      ∙ (simple_plain (t ∷ u ∷ ts) (no_form_by_word b.types (codes "continue") t (u ∷ ts) w no_form_words.2)
      ∙ rw (
        word_no_mark (codes "continue") (codes ";") t w,
        words (codes "continue") (codes "return") t w,
        words (codes "continue") (codes "break") t w,
        w,
        is,
      ) refl)

  word_no_opener : (t : Token) (ts : List Token) → listed openers t.text ≡ None → first_opener (t ∷ ts) ≡ None
  word_no_opener t ts none = by (is_word_kind t.kind)
    where
      by : (c : Bool) → ◌≡◌ {A = Option Opener} (if c then listed openers t.text else None) None
      by true = none
      by false = refl

  simple_form : (which : Which) (t : Token) (ts us : List Token) (p : PerlForm) → form_at b.types (t ∷ ts) ≡ Some which
      → perl_form which (at b (t ∷ ts)) ≡ Ok (tree.Perl t.span.line p, at b us) → simple (at b (t ∷ ts)) ≡ Ok (tree.Perl t.span.line p, at b us)
  unfolding simple form_ahead
  simple_form which t ts us p f r = rw (f, r) refl

  perl_done : (room : ℕ) (p : PerlForm) (t : Token) (ts us : List Token) → Form b.types p (t ∷ ts) us
      → stmt room (at b (t ∷ ts)) ≡ Ok (tree.Perl t.span.line p, at b us)
  perl_done room p t ts us x = by (form_read b x)
    where
      by : FormRead b p (t ∷ ts) us → stmt room (at b (t ∷ ts)) ≡ Ok (tree.Perl t.span.line p, at b us)
      by (form_is_read {which = which} x r) =
          at_any room (t ∷ ts) (no_mark (codes "{") t (ap is_punct_kind x.is_a_word)) (word_no_opener t ts x.no_opener)
          ∙ simple_form which t ts us p x.form_is (perl_form_done b which t ts us p r)

  -- ---- statements in which others stand

  opens_with : (o : Opener) (t : Token) (ts : List Token) → IsWord (word_of o) t → first_opener (t ∷ ts) ≡ Some o
  unfolding openers
  opens_with opens.If t ts w = let k = is_word_of (codes "if") t w in rw (k.0, k.1) refl
  opens_with opens.While t ts w = let k = is_word_of (codes "while") t w in rw (k.0, k.1) refl
  opens_with opens.Do t ts w = let k = is_word_of (codes "do") t w in rw (k.0, k.1) refl
  opens_with opens.For t ts w = let k = is_word_of (codes "for") t w in rw (k.0, k.1) refl
  opens_with opens.Switch t ts w = let k = is_word_of (codes "switch") t w in rw (k.0, k.1) refl

  opened : (room : ℕ) (o : Opener) (t : Token) (ts : List Token) → IsWord (word_of o) t
      → stmt (suc room) (at b (t ∷ ts)) ≡ opened_by (stmt room) o (at b (t ∷ ts))
  unfolding stmt opener sees
  opened room o t ts w = rw (word_no_mark (word_of o) (codes "{") t w, opens_with o t ts w) refl

  -- where no level is left
  word_too_deep : (o : Opener) (t : Token) (ts : List Token) (s : StmtTree) (k : Input) → IsWord (word_of o) t → Any
      → IsRead Any (stmt zero (at b (t ∷ ts))) (s, k)
  unfolding stmt opener sees
  word_too_deep o t ts s k w any = refused any (rw (word_no_mark (word_of o) (codes "{") t w, opens_with o t ts w) (too_deep_here (at b (t ∷ ts))))

  block_too_deep : (t : Token) (ts : List Token) (s : StmtTree) (k : Input) → Is (codes "{") t → Any → IsRead Any (stmt zero (at b (t ∷ ts))) (s, k)
  unfolding stmt sees
  block_too_deep t ts s k is any = refused any (rw is (too_deep_here (at b (t ∷ ts))))

  -- what comes of reading this statement, at so many levels
  abbrev Done : ℕ → StmtTree → List Token → List Token → Type 0
  Done room s ts us = IsRead Any (stmt room (at b ts)) (s, at b us)

  if_done : (room : ℕ) (t : Token) (test : ExprTree) (s : StmtTree) (ts us vs : List Token) → IsRead Any (condition (at b ts)) (test, at b us)
      → Done room s us vs → head_is (is_word (codes "else")) vs ≡ false
      → IsRead Any (an_if (stmt room) (at b (t ∷ ts))) (tree.If t.span.line test s, at b vs)
  unfolding an_if else_branch line sees_word next
  if_done room t test s ts us vs c r isnt =
      carry c (λ e p. rw p refl) (λ p. carry r (λ e q. rw (p, q) refl) (λ q. is_read (rw (p, q, isnt) refl)))

  else_done : (room : ℕ) (t u : Token) (test : ExprTree) (s other : StmtTree) (ts us vs ws : List Token) → IsRead Any (condition (at b ts)) (test, at b us)
      → Done room s us (u ∷ vs) → IsWord (codes "else") u → Done room other vs ws
      → IsRead Any (an_if (stmt room) (at b (t ∷ ts))) (tree.IfElse t.span.line test s other, at b ws)
  unfolding an_if else_branch line sees_word next
  else_done room t u test s other ts us vs ws c x is y =
      carry c (λ e p. rw p refl)
      (λ p. carry x (λ e q. rw (p, q) refl) (λ q. carry y (λ e r. rw (p, q, is, r) refl) (λ r. is_read (rw (p, q, is, r) refl))))

  while_done : (room : ℕ) (t : Token) (test : ExprTree) (s : StmtTree) (ts us vs : List Token) → IsRead Any (condition (at b ts)) (test, at b us)
      → Done room s us vs → IsRead Any (a_while (stmt room) (at b (t ∷ ts))) (tree.While t.span.line test s, at b vs)
  unfolding a_while line next
  while_done room t test s ts us vs c r = carry c (λ e p. rw p refl) (λ p. carry r (λ e q. rw (p, q) refl) (λ q. is_read (rw (p, q) refl)))

  do_done : (room : ℕ) (t u v : Token) (test : ExprTree) (s : StmtTree) (ts us vs : List Token) → Done room s ts (u ∷ us) → IsWord (codes "while") u
      → IsRead Any (condition (at b us)) (test, at b (v ∷ vs)) → Is (codes ";") v
      → IsRead Any (a_do (stmt room) (at b (t ∷ ts))) (tree.DoWhile t.span.line s test, at b vs)
  unfolding a_do line next expect expect_word sees sees_word
  do_done room t u v test s ts us vs r w c is =
      carry r (λ e p. rw p refl) (λ p. carry c (λ e q. rw (p, w, q) refl) (λ q. is_read (rw (p, w, q, is) refl)))

  for_done : (room : ℕ) (t : Token) (head : ForTree) (s : StmtTree) (ts us vs : List Token) → IsRead Any (for_head (at b ts)) (head, at b us)
      → Done room s us vs → IsRead Any (a_for (stmt room) (at b (t ∷ ts))) (tree.For t.span.line head s, at b vs)
  unfolding a_for line next
  for_done room t head s ts us vs h r = carry h (λ e p. rw p refl) (λ p. carry r (λ e q. rw (p, q) refl) (λ q. is_read (rw (p, q) refl)))

  -- what comes of reading what stands in a block, with turns enough
  abbrev PartsDone : ℕ → StmtTrees → List Token → List Token → Type 0
  PartsDone room all ts us = (n : ℕ) → length ts ≤ n → (sofar : List StmtTree)
      → IsRead Any (parts_from (stmt room) n sofar (at b ts)) (sofar ++ list_of all, at b us)

  parts_over : (room : ℕ) (t : Token) (ts : List Token) → Is (codes "}") t → PartsDone room tree.NoStmts (t ∷ ts) ts
  unfolding parts_from sees after next
  parts_over room t ts is zero len sofar = absurd (omega (arith, len))
  parts_over room t ts is (suc n) len sofar = is_read (rw (is, append-nil sofar) refl)

  parts_more : (room : ℕ) (s : StmtTree) (all : StmtTrees) (ts us vs : List Token) → Stop (codes "}") ts
      → IsRead Any (part (stmt room) (at b ts)) (s, at b us) → length us < length ts → PartsDone room all us vs
      → PartsDone room (tree.MoreStmts s all) ts vs
  unfolding parts_from sees after
  parts_more room s all ts us vs isnt r less more zero len sofar = absurd (omega (arith, len, less))
  parts_more room s all ts us vs isnt r less more (suc n) len sofar =
      carry r (λ e p. rw (isnt, p) refl)
      (λ p. rw (isnt, p) (regrouped (append_assoc sofar (s ∷ []) (list_of all)) (more n (omega (arith, len, less)) (sofar ++ s ∷ []))))

  part_declared : (room : ℕ) (d : DeclaredTree) (ts us : List Token) → begins_form_at b.types ts ≡ false → head_is (is_type b.types) ts ≡ true
      → IsRead Any (declaration (at b ts)) (d, at b us) → IsRead Any (part (stmt room) (at b ts)) (tree.Declare d, at b us)
  unfolding part sees_type begins_form
  part_declared room d ts us isnt is r = carry r (λ e p. rw (is, isnt, p) refl) (λ p. is_read (rw (is, isnt, p) refl))

  part_stated : (room : ℕ) (s : StmtTree) (ts us : List Token) → (head_is (is_type b.types) ts && not (begins_form_at b.types ts)) ≡ false
      → Done room s ts us → IsRead Any (part (stmt room) (at b ts)) (s, at b us)
  unfolding part sees_type begins_form
  part_stated room s ts us isnt r = by_same (rw isnt refl) r

  block_done : (room : ℕ) (body : StmtTrees) (t : Token) (ts us : List Token) → Is (codes "{") t → length ts ≤ b.turns → PartsDone room body ts us
      → Done (suc room) (tree.Block t.span.line body) (t ∷ ts) us
  unfolding stmt block parts line sees next
  block_done room body t ts us is few r =
      carry (r b.turns few []) (λ e p. rw (is, p) refl) (λ p. is_read (rw (is, p, stmts_of-list_of body) refl))

  -- ---- groups

  abbrev BodyDone : ℕ → StmtTrees → List Token → List Token → Type 0
  BodyDone room all ts us = (n : ℕ) → length ts < n → (sofar : List StmtTree)
      → IsRead Any (body_from (stmt room) n sofar (at b ts)) (sofar ++ list_of all, at b us)

  body_over : (room : ℕ) (ts : List Token) → ends_body ts ≡ true → BodyDone room tree.NoStmts ts ts
  unfolding body_from sees sees_label sees_word
  body_over room ts is zero len sofar = absurd (omega (arith, len))
  body_over room ts is (suc n) len sofar = is_read (rw (is, append-nil sofar) refl)

  body_more : (room : ℕ) (s : StmtTree) (all : StmtTrees) (ts us vs : List Token) → ends_body ts ≡ false → Done room s ts us → length us < length ts
      → BodyDone room all us vs → BodyDone room (tree.MoreStmts s all) ts vs
  unfolding body_from sees sees_label sees_word
  body_more room s all ts us vs isnt r less more zero len sofar = absurd (omega (arith, len))
  body_more room s all ts us vs isnt r less more (suc n) len sofar =
      carry r (λ e p. rw (isnt, p) refl)
      (λ p. rw (isnt, p) (regrouped (append_assoc sofar (s ∷ []) (list_of all)) (more n (omega (arith, len, less)) (sofar ++ s ∷ []))))

  abbrev GroupsDone : ℕ → Bool → GroupTrees → List Token → List Token → Type 0
  GroupsDone room may all ts us = (n : ℕ) → length ts ≤ n → (sofar : List GroupTree)
      → IsRead Any (groups_from (stmt room) n may sofar (at b ts)) (sofar ++ groups_list all, at b us)

  groups_end : (room : ℕ) (may : Bool) (t : Token) (ts : List Token) → Is (codes "}") t → GroupsDone room may tree.NoGroups (t ∷ ts) ts
  unfolding groups_from sees after next
  groups_end room may t ts is zero len sofar = absurd (omega (arith, len))
  groups_end room may t ts is (suc n) len sofar = is_read (rw (is, append-nil sofar) refl)

  group_done : (room : ℕ) (all : List Label) (body : StmtTrees) (t : Token) (ts us vs : List Token) → labels (at b (t ∷ ts)) ≡ Ok (all, at b us)
      → IsRead Any (group_body (stmt room) (at b us)) (list_of body, at b vs)
      → IsRead Any (group (stmt room) (at b (t ∷ ts))) (record { line = t.span.line; labels = all; body = body }, at b vs)
  unfolding group line
  group_done room all body t ts us vs l r = carry r (λ e p. rw (l, p) refl) (λ p. is_read (rw (l, p, stmts_of-list_of body) refl))

  groups_more : (room : ℕ) (one : GroupTree) (all : GroupTrees) (ts us vs : List Token) → Stop (codes "}") ts
      → IsRead Any (group (stmt room) (at b ts)) (one, at b us) → length us < length ts → GroupsDone room (last_leaves false one.body) all us vs
      → GroupsDone room true (tree.MoreGroups one.line one.labels one.body all) ts vs
  unfolding groups_from sees after
  groups_more room one all ts us vs isnt r less more zero len sofar = absurd (omega (arith, len, less))
  groups_more room one all ts us vs isnt r less more (suc n) len sofar =
      carry r (λ e p. rw (isnt, p) refl)
      (λ p. rw (isnt, p) (regrouped (append_assoc sofar (one ∷ []) (groups_list all)) (more n (omega (arith, len, less)) (sofar ++ one ∷ []))))

  switch_done : (room : ℕ) (on : ExprTree) (all : GroupTrees) (t u : Token) (ts us vs : List Token) → IsRead Any (condition (at b ts)) (on, at b (u ∷ us))
      → Is (codes "{") u → length us ≤ b.turns → GroupsDone room true all us vs
      → IsRead Any (a_switch (stmt room) (at b (t ∷ ts))) (tree.Switch t.span.line on all, at b vs)
  unfolding a_switch groups line expect sees next
  switch_done room on all t u ts us vs c o few r =
      carry c (λ e p. rw p refl)
      (λ p. carry (r b.turns few []) (λ e q. rw (p, o, q) refl) (λ q. is_read (rw (p, o, q, groups_of-groups_list all) refl)))

  all_labels : (all : List Label) (ts us : List Token) → length ts ≤ b.turns → Labels b.types all ts us → is_label us ≡ false
      → labels (at b ts) ≡ Ok (all, at b us)
  unfolding labels
  all_labels all ts us few l stop = labels_done l stop b.turns few []

  all_body : (room : ℕ) (body : StmtTrees) (ts us : List Token) → length ts < b.turns → BodyDone room body ts us
      → IsRead Any (group_body (stmt room) (at b ts)) (list_of body, at b us)
  unfolding group_body
  all_body room body ts us few r = r b.turns few []

  groups_first : {may : Bool} {all : GroupTrees} {ts us : List Token} → Groups b.types may all ts us → ends_body ts ≡ true
  groups_first (g.groups_over {t = t} {ts = ts} is) = or_left (is_sign (codes "}") t) (is_label (t ∷ ts)) is
  groups_first (g.group {t = t} {ts = ts} l x y) = or_right (is_sign (codes "}") t) (is_label (t ∷ ts)) (labels_first l)

  no_more_groups : {may : Bool} {all : GroupTrees} {ts us : List Token} → may ≡ false → Groups b.types may all ts us → is_label ts ≡ false
  no_more_groups isnt (g.groups_over {t = t} is) =
      or_from (is_word (codes "case") t) (is_word (codes "default") t) (mark_no_word (codes "}") (codes "case") t is)
      (mark_no_word (codes "}") (codes "default") t is)
  no_more_groups isnt (g.group l x y) = absurd cc

  after_labels : {body : StmtTrees} {all : GroupTrees} {us vs ws : List Token} → Stmts b.types body us vs
      → Groups b.types (last_leaves false body) all vs ws → is_label us ≡ false
  after_labels g.no_stmts x = no_more_groups refl x
  after_labels (g.stmt y z) x = (stmt_stated y).no_label

  stated_no_end : (ts : List Token) → Stated b.types ts → ends_body ts ≡ false
  stated_no_end ts x = or_from (head_is (is_sign (codes "}")) ts) (is_label ts) x.no_end x.no_label

  mutual
    pub stmt_done : {s : StmtTree} {ts us : List Token} → Statement b.types s ts us → (room : ℕ) → (depth s ≤ room) ⊎ Any
        → (tallest s ≤ max_nesting) ⊎ Any → length ts < b.turns → IsRead Any (stmt room (at b ts)) (s, at b us)
    stmt_done (g.block {body = body} {t = t} {ts = ts} {us = us} o x) zero h l few =
        block_too_deep t ts (tree.Block t.span.line body) (at b us) o (no_room h (λ k. omega (arith, k)))
    stmt_done (g.block {body = body} {t = t} {ts = ts} {us = us} o x) (suc room) h l few =
        block_done room body t ts us o (omega (arith, few)) (parts_done x room (under h (λ k. omega (arith, k))) l (omega (arith, few)))
    stmt_done (g.empty {t = t} {ts = ts} is) room h l few = is_read (empty_done room t ts is)
    stmt_done (g.effect {a = a} {t = t} {ts = ts} {us = us} n x is) room h l few = effect_done room a t ts us n x l few is
    stmt_done (g.an_if {test = test} {s = s} {t = t} {ts = ts} {vs = vs} w c x isnt) zero h l few =
        word_too_deep opens.If t ts (tree.If t.span.line test s) (at b vs) w (no_room h (λ k. omega (arith, k)))
    stmt_done (g.an_if {test = test} {s = s} {t = t} {ts = ts} {us = us} {vs = vs} w c x isnt) (suc room) h l few =
        by_same (opened room opens.If t ts w)
        (if_done room t test s ts us vs (condition_done c (under l (λ k. omega (arith, k))) (omega (arith, few)))
        (stmt_done x room (under h (λ k. omega (arith, k))) (under l (λ k. omega (arith, k))) (omega (arith, few, condition_shrinks c))) isnt)
    stmt_done (g.if_else {test = test} {s = s} {other = other} {t = t} {ts = ts} {ws = ws} w c x e y) zero h l few =
        word_too_deep opens.If t ts (tree.IfElse t.span.line test s other) (at b ws) w (no_room h (λ k. omega (arith, k)))
    stmt_done (g.if_else {test = test} {s = s} {other = other} {t = t} {u = u} {ts = ts} {us = us} {vs = vs} {ws = ws} w c x e y) (suc room) h l few =
        by_same (opened room opens.If t ts w)
        (else_done room t u test s other ts us vs ws (condition_done c (under l (λ k. omega (arith, k))) (omega (arith, few)))
        (stmt_done x room (under h (λ k. omega (arith, k))) (under l (λ k. omega (arith, k))) (omega (arith, few, condition_shrinks c))) e
        (stmt_done y room (under h (λ k. omega (arith, k))) (under l (λ k. omega (arith, k))) (omega (arith, few, condition_shrinks c, stmt_shrinks x))))
    stmt_done (g.a_while {test = test} {s = s} {t = t} {ts = ts} {vs = vs} w c x) zero h l few =
        word_too_deep opens.While t ts (tree.While t.span.line test s) (at b vs) w (no_room h (λ k. omega (arith, k)))
    stmt_done (g.a_while {test = test} {s = s} {t = t} {ts = ts} {us = us} {vs = vs} w c x) (suc room) h l few =
        by_same (opened room opens.While t ts w)
        (while_done room t test s ts us vs (condition_done c (under l (λ k. omega (arith, k))) (omega (arith, few)))
        (stmt_done x room (under h (λ k. omega (arith, k))) (under l (λ k. omega (arith, k))) (omega (arith, few, condition_shrinks c))))
    stmt_done (g.a_do {test = test} {s = s} {t = t} {ts = ts} {vs = vs} w x e c is) zero h l few =
        word_too_deep opens.Do t ts (tree.DoWhile t.span.line s test) (at b vs) w (no_room h (λ k. omega (arith, k)))
    stmt_done (g.a_do {test = test} {s = s} {t = t} {u = u} {v = v} {ts = ts} {us = us} {vs = vs} w x e c is) (suc room) h l few =
        by_same (opened room opens.Do t ts w)
        (do_done room t u v test s ts us vs (stmt_done x room (under h (λ k. omega (arith, k))) (under l (λ k. omega (arith, k))) (omega (arith, few))) e
        (condition_done c (under l (λ k. omega (arith, k))) (omega (arith, few, stmt_shrinks x))) is)
    stmt_done (g.a_for {head = head} {s = s} {t = t} {ts = ts} {vs = vs} w k x) zero h l few =
        word_too_deep opens.For t ts (tree.For t.span.line head s) (at b vs) w (no_room h (λ k. omega (arith, k)))
    stmt_done (g.a_for {head = head} {s = s} {t = t} {ts = ts} {us = us} {vs = vs} w k x) (suc room) h l few =
        by_same (opened room opens.For t ts w)
        (for_done room t head s ts us vs (head_done k (under l (λ k. omega (arith, k))) (omega (arith, few)))
        (stmt_done x room (under h (λ k. omega (arith, k))) (under l (λ k. omega (arith, k))) (omega (arith, few, for_head_shrinks k))))
    stmt_done (g.a_switch {on = on} {groups = all} {t = t} {ts = ts} {vs = vs} w c o x) zero h l few =
        word_too_deep opens.Switch t ts (tree.Switch t.span.line on all) (at b vs) w (no_room h (λ k. omega (arith, k)))
    stmt_done (g.a_switch {on = on} {groups = all} {t = t} {u = u} {ts = ts} {us = us} {vs = vs} w c o x) (suc room) h l few =
        by_same (opened room opens.Switch t ts w)
        (switch_done room on all t u ts us vs (condition_done c (under l (λ k. omega (arith, k))) (omega (arith, few))) o
        (omega (arith, few, condition_shrinks c))
        (groups_done x room (under h (λ k. omega (arith, k))) (under l (λ k. omega (arith, k))) (omega (arith, few, condition_shrinks c))))
    stmt_done (g.a_break {t = t} {u = u} {ts = ts} w is) room h l few = is_read (break_done room t u ts w is)
    stmt_done (g.a_continue {t = t} {u = u} {ts = ts} w is) room h l few = is_read (continue_done room t u ts w is)
    stmt_done (g.a_return {v = v} {t = t} {ts = ts} {us = us} w x) room h l few = return_done room v t ts us w x l (omega (arith, few))
    stmt_done (g.perl {p = p} {t = t} {ts = ts} {us = us} x) room h l few = is_read (perl_done room p t ts us x)

    pub part_done : {s : StmtTree} {ts us : List Token} → Part b.types s ts us → (room : ℕ) → (depth s ≤ room) ⊎ Any → (tallest s ≤ max_nesting) ⊎ Any
        → length ts < b.turns → IsRead Any (part (stmt room) (at b ts)) (s, at b us)
    part_done (g.declared {d = d} {ts = ts} {us = us} isnt x) room h l few =
        part_declared room d ts us isnt (declared_first x) (declaration_done x l few)
    part_done (g.stated {s = s} {ts = ts} {us = us} x) room h l few =
        part_stated room s ts us ((stmt_stated x).no_declaration) (stmt_done x room h l few)

    pub parts_done : {all : StmtTrees} {ts us : List Token} → Parts b.types all ts us → (room : ℕ) → (depths all ≤ room) ⊎ Any
        → (tallest_of all ≤ max_nesting) ⊎ Any → length ts < b.turns → PartsDone room all ts us
    parts_done (g.over {t = t} {ts = ts} is) room h l few = parts_over room t ts is
    parts_done (g.part {s = s} {all = all} {ts = ts} {us = us} {vs = vs} x y) room h l few =
        parts_more room s all ts us vs (part_no_end x) (part_done x room (under h (λ k. omega (arith, k))) (under l (λ k. omega (arith, k))) few)
        (part_shrinks x)
        (parts_done y room (under h (λ k. omega (arith, k))) (under l (λ k. omega (arith, k))) (omega (arith, few, part_shrinks x)))

    groups_done : {may : Bool} {all : GroupTrees} {ts us : List Token} → Groups b.types may all ts us → (room : ℕ) → (group_depths all ≤ room) ⊎ Any
        → (tallest_in all ≤ max_nesting) ⊎ Any → length ts < b.turns → GroupsDone room may all ts us
    groups_done (g.groups_over {may = may} {t = t} {ts = ts} is) room h l few = groups_end room may t ts is
    groups_done (g.group {labels = ls} {body = body} {all = all} {t = t} {ts = ts} {us = us} {vs = vs} {ws = ws} k x y) room h l few =
        groups_more room (record { line = t.span.line; labels = ls; body = body }) all (t ∷ ts) vs ws (labels_no_end k)
        (group_done room ls body t ts us vs (all_labels ls (t ∷ ts) us (omega (arith, few)) k (after_labels x y))
        (all_body room body us vs (omega (arith, few, labels_shrink k))
        (body_done x room (under h (λ k. omega (arith, k))) (under l (λ k. omega (arith, k))) (omega (arith, few, labels_shrink k)) (groups_first y))))
        (omega (arith, labels_shrink k, body_shrinks x))
        (groups_done y room (under h (λ k. omega (arith, k))) (under l (λ k. omega (arith, k))) (omega (arith, few, labels_shrink k, body_shrinks x)))

    body_done : {all : StmtTrees} {ts us : List Token} → Stmts b.types all ts us → (room : ℕ) → (depths all ≤ room) ⊎ Any
        → (tallest_of all ≤ max_nesting) ⊎ Any → length ts < b.turns → ends_body us ≡ true → BodyDone room all ts us
    body_done (g.no_stmts {ts = ts}) room h l few stop = body_over room ts stop
    body_done (g.stmt {s = s} {all = all} {ts = ts} {us = us} {vs = vs} x y) room h l few stop =
        body_more room s all ts us vs (stated_no_end ts (stmt_stated x))
        (stmt_done x room (under h (λ k. omega (arith, k))) (under l (λ k. omega (arith, k))) few) (stmt_shrinks x)
        (body_done y room (under h (λ k. omega (arith, k))) (under l (λ k. omega (arith, k))) (omega (arith, few, stmt_shrinks x)) stop)
