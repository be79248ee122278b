-- What stands in front of a text by the rules of statements stands in front of any other that does not go on with it.
use Rattle.std.proofs.Common.{◌≡◌, ℕ, ◌+◌, ◌<◌, ◌||◌, Bool, true, false, if◌then◌else◌, List, [], ◌∷◌, ◌++◌, length, length-append, Option, Some, None, refl, ap, sym, subst, ◌∙◌, arith}
use Rattle.std.proofs.lemmas.Bool.{both_ways, false_from_ne_true}
use Rattle.std.specs.Option.{option_map_or}
use Rattle.std.specs.Prelude.{codes}
use Rattle.xs_base.specs.Readers.{head_is}
use Rattle.xs_ctok.specs.declared.token.TokKind.TheVariants as kind
use Rattle.xs_ctok.specs.declared.token.Token.{Token}
use Rattle.xs_csyn.proofs.FormSlots.{row_facts, form_slots}
use Rattle.xs_csyn.proofs.Frames.{Frame, IsFront, front_both, front_none, front_one, made_of, nothing, one_token, stars_frame, three_parts, three_tokens, token_before, two_parts, two_tokens, whole_frame, with_next}
use Rattle.xs_csyn.proofs.Marks.{is_sign_of}
use Rattle.xs_csyn.proofs.Sizes.{declarators_shrink, type_name_shrinks, whole_shrinks}
use Rattle.xs_csyn.proofs.StatementsLocal.{begins_same}
use Rattle.xs_csyn.specs.Grammar as r
use Rattle.xs_csyn.specs.Grammar.{Is}
use Rattle.xs_cstmt.specs.PerlForms as perl_forms
use Rattle.xs_cstmt.specs.PerlForms.{begins_form_at, fits, form_at, form_row, leads}
use Rattle.xs_csyn.specs.StatementGrammar as g
use Rattle.xs_csyn.specs.StatementGrammar.{ALabel, Condition, Declarator, Declarators, Declared, First, ForHead, Groups, Labels, Part, Parts, Statement, Stmts, Until, Value}
use Rattle.xs_cexpr.specs.ExpressionTree.{ExprTree}
use Rattle.xs_cstmt.specs.StatementTree.{DeclaratorTree, DeclaredTree, FirstTree, ForTree, GroupTrees, StmtTree, StmtTrees}
use Rattle.xs_cinput.specs.TokenInput.{is_type, is_word}
use Rattle.xs_cstmt.specs.declared.forms.Form.{Form as Kind}
use Rattle.xs_cstmt.specs.declared.forms.Form.TheVariants as the
use Rattle.xs_cstmt.specs.declared.tree.Label.{Label}

-- ---- parts in which no statement stands

pub value_frame : {types : List (List ℕ)} {v : Option ExprTree} {ts us : List Token} → Value types v ts us → Frame (Value types v) ts us
value_frame g.no_value = nothing (λ js. g.no_value)
value_frame (g.value {t = t} is x) = token_before t (whole_frame x) (λ ps bs y. g.value is y)

pub declarator_frame : {types : List (List ℕ)} {one : DeclaratorTree} {ts us : List Token} → Declarator types one ts us → Frame (Declarator types one) ts us
declarator_frame (g.declarator k v x) = two_parts (with_next (stars_frame k)) (value_frame x) (λ ps bs cs p q. g.declarator p v q)

pub declarators_frame : {types : List (List ℕ)} {all : List DeclaratorTree} {ts us : List Token} → Declarators types all ts us
    → Frame (Declarators types all) ts us
declarators_frame (g.last_name x) = made_of (declarator_frame x) (λ ps bs y. g.last_name y)
declarators_frame (g.more_names x c y) = two_parts (with_next (declarator_frame x)) (declarators_frame y) (λ ps bs cs p q. g.more_names p c q)

pub declared_frame : {types : List (List ℕ)} {one : DeclaredTree} {ts us : List Token} → Declared types one ts us → Frame (Declared types one) ts us
declared_frame (g.names_declared {t = t} (r.type_name (r.one_word i) isnt) x is) =
    token_before t (with_next (declarators_frame x)) (λ ps bs y. g.names_declared (r.type_name (r.one_word i) isnt) y is)
declared_frame {types} (g.names_declared {all = all} {t = t} {u = z} (r.type_name (r.two_words {u = u} i j) isnt) x is) =
    token_before t (token_before {Q = λ cs bs. (ds : List Token) × (cs ≡ u ∷ ds) × Declarators types all ds (z ∷ bs)} u (with_next (declarators_frame x))
    (λ ps bs y. (ps, refl, y)))
    (λ ps bs y. rw (y.1) (g.names_declared (r.type_name (r.two_words i j) isnt) y.2 is))
declared_frame {types} (g.names_declared {all = all} {t = t} {u = z} (r.type_name (r.three_words {u = u} {v = v} i j k) isnt) x is) =
    token_before t (token_before {Q = λ cs bs. (ds : List Token) × (cs ≡ u ∷ v ∷ ds) × Declarators types all ds (z ∷ bs)} u
    (token_before {Q = λ cs bs. (ds : List Token) × (cs ≡ v ∷ ds) × Declarators types all ds (z ∷ bs)} v (with_next (declarators_frame x))
    (λ ps bs y. (ps, refl, y)))
    (λ ps bs y. (y.0, ap (λ l. u ∷ l) y.1, y.2)))
    (λ ps bs y. rw (y.1) (g.names_declared (r.type_name (r.three_words i j k) isnt) y.2 is))

pub condition_frame : {types : List (List ℕ)} {a : ExprTree} {ts us : List Token} → Condition types a ts us → Frame (Condition types a) ts us
condition_frame (g.condition {t = t} o x c) = token_before t (with_next (whole_frame x)) (λ ps bs y. g.condition o y c)

pub until_frame : {types : List (List ℕ)} {sign : List ℕ} {v : Option ExprTree} {ts us : List Token} → Until types sign v ts us
    → Frame (Until types sign v) ts us
until_frame (g.nothing {t = t} is) = one_token t (λ js. g.nothing is)
until_frame (g.something x is) = made_of (with_next (whole_frame x)) (λ ps bs y. g.something y is)

pub first_frame : {types : List (List ℕ)} {one : FirstTree} {ts us : List Token} → First types one ts us → Frame (First types one) ts us
first_frame (g.no_first {t = t} is) = one_token t (λ js. g.no_first is)
first_frame (g.first_declared x) = made_of (declared_frame x) (λ ps bs y. g.first_declared y)
first_frame (g.first_effect x is) = made_of (with_next (whole_frame x)) (λ ps bs y. g.first_effect y is)

pub for_head_frame : {types : List (List ℕ)} {h : ForTree} {ts us : List Token} → ForHead types h ts us → Frame (ForHead types h) ts us
for_head_frame {types} {h} (g.for_head {t = t} o x y z) =
    token_before {P = λ ps bs. ForHead types h (t ∷ ps) bs} t (three_parts (first_frame x) (until_frame y) (until_frame z)
    (λ ps bs cs ds p q s. g.for_head o p q s)) (λ ps bs y. y)

-- a label by its first token
label_at : {types : List (List ℕ)} {l : Label} {t : Token} {ts us : List Token} → ALabel types l (t ∷ ts) us → Frame (λ ps bs. ALabel types l (t ∷ ps) bs) ts us
label_at (g.int_label {u = u} {v = v} w k c) = two_tokens u v (λ js. g.int_label w k c)
label_at (g.name_label {u = u} {v = v} w n c) = two_tokens u v (λ js. g.name_label w n c)
label_at (g.default_label {u = u} w c) = one_token u (λ js. g.default_label w c)

pub label_frame : {types : List (List ℕ)} {l : Label} {ts us : List Token} → ALabel types l ts us → Frame (ALabel types l) ts us
label_frame (g.int_label {t = t} {u = u} {v = v} w k c) = three_tokens t u v (λ js. g.int_label w k c)
label_frame (g.name_label {t = t} {u = u} {v = v} w n c) = three_tokens t u v (λ js. g.name_label w n c)
label_frame (g.default_label {t = t} {u = u} w c) = two_tokens t u (λ js. g.default_label w c)

pub labels_frame : {types : List (List ℕ)} {all : List Label} {ts us : List Token} → Labels types all ts us → Frame (Labels types all) ts us
labels_frame (g.last_label x) = made_of (label_frame x) (λ ps bs y. g.last_label y)
labels_frame (g.more_labels x y) = two_parts (label_frame x) (labels_frame y) (λ ps bs cs p q. g.more_labels p q)

labels_at : {types : List (List ℕ)} {all : List Label} {t : Token} {ts us : List Token} → Labels types all (t ∷ ts) us
    → Frame (λ ps bs. Labels types all (t ∷ ps) bs) ts us
labels_at (g.last_label x) = made_of (label_at x) (λ ps bs y. g.last_label y)
labels_at (g.more_labels x y) = two_parts (label_at x) (labels_frame y) (λ ps bs cs p q. g.more_labels p q)

pub tokens : {P : List Token → List Token → Type 0} (front : List Token) {us : List Token} → ((js : List Token) → P (front ++ js) js) → Frame P (front ++ us) us
tokens front f = record { w = λ js. front ++ js; front = record { before = front; is = λ js. refl }; here = refl; moves = f }

-- ---- what follows a statement

-- An `else` follows only where one did.
abbrev pub Fine : List Token → List Token → Type 0
Fine us js = head_is (is_word (codes "else")) js ≡ true → head_is (is_word (codes "else")) us ≡ true

pub record Standing (P : List Token → List Token → Type 0) (ts us : List Token) : Type 0 where
  pub w : List Token → List Token
  pub front : IsFront w
  pub here : w us ≡ ts
  pub moves : (js : List Token) → Fine us js → P (w js) js

pub free : {P : List Token → List Token → Type 0} {ts us : List Token} → Frame P ts us → Standing P ts us
free x = record { w = x.w; front = x.front; here = x.here; moves = λ js fine. x.moves js }

front_fine : (before vs js : List Token) → Fine vs js → Fine (before ++ vs) (before ++ js)
front_fine [] vs js fine = fine
front_fine (t ∷ before) vs js fine = λ h. h

fine_front : {w : List Token → List Token} → IsFront w → (vs js us : List Token) → w vs ≡ us → Fine vs js → Fine us (w js)
fine_front {w} f vs js us e fine =
    let x = front_fine f.before vs js fine in
    subst (λ (l : List Token). Fine l (w js)) (sym (f.is vs) ∙ e) (subst (λ (l : List Token). Fine (f.before ++ vs) l) (sym (f.is js)) x)

pub s_made : {P Q : List Token → List Token → Type 0} {ts us : List Token} → Standing P ts us → ((ps bs : List Token) → P ps bs → Q ps bs) → Standing Q ts us
s_made x f = record { w = x.w; front = x.front; here = x.here; moves = λ js fine. f (x.w js) js (x.moves js fine) }

s_token : {P Q : List Token → List Token → Type 0} (t : Token) {ts us : List Token} → Standing P ts us
    → ((ps bs : List Token) → P ps bs → Q (t ∷ ps) bs) → Standing Q (t ∷ ts) us
s_token t x f = record {
  w = λ js. t ∷ x.w js;
  front = front_one t x.front;
  here = ap (λ l. t ∷ l) x.here;
  moves = λ js fine. f (x.w js) js (x.moves js fine);
}

s_next : {P : List Token → List Token → Type 0} {t : Token} {ts us : List Token} → Standing P ts (t ∷ us) → Standing (λ ps bs. P ps (t ∷ bs)) ts us
s_next {t = t} x = record {
  w = λ js. x.w (t ∷ js);
  front = front_both x.front (front_one t front_none);
  here = x.here;
  moves = λ js fine. x.moves (t ∷ js) (λ h. h);
}

pub s_two : {P Q R : List Token → List Token → Type 0} {ts us vs : List Token} → Standing P ts us → Standing Q us vs
    → ((ps bs cs : List Token) → P ps bs → Q bs cs → R ps cs) → Standing R ts vs
s_two {us = us} {vs = vs} x y f = record {
  w = λ js. x.w (y.w js);
  front = front_both x.front y.front;
  here = ap x.w y.here ∙ x.here;
  moves = λ js fine. f (x.w (y.w js)) (y.w js) js (x.moves (y.w js) (fine_front y.front vs js us y.here fine)) (y.moves js fine);
}

no_else : (us js : List Token) → Fine us js → head_is (is_word (codes "else")) us ≡ false → head_is (is_word (codes "else")) js ≡ false
no_else us js fine isnt =
    false_from_ne_true (head_is (is_word (codes "else")) js) (λ h. both_ways (head_is (is_word (codes "else")) us) isnt (fine h))

-- ---- what is no form stays none

-- none but the last of the slots takes this token
abbrev OnlyLast : List (List ℕ) → Token → List perl_forms.Part → Type 0
OnlyLast types t [] = Unit {0}
OnlyLast types t (s ∷ []) = Unit {0}
OnlyLast types t (s ∷ next ∷ ss) = (fits types s t ≡ false) × OnlyLast types t (next ∷ ss)

leads_stay : (types : List (List ℕ)) (t : Token) (ss : List perl_forms.Part) → OnlyLast types t ss → (p us js : List Token)
    → leads types ss (p ++ t ∷ js) ≡ leads types ss (p ++ t ∷ us)
leads_stay types t [] x p us js = refl
leads_stay types t (s ∷ []) x [] us js = refl
leads_stay types t (s ∷ next ∷ ss) x [] us js = rw (x.0) refl
leads_stay types t (s ∷ []) x (v ∷ p) us js = rw (leads_stay types t [] tt p us js) refl
leads_stay types t (s ∷ next ∷ ss) x (v ∷ p) us js = rw (leads_stay types t (next ∷ ss) x.1 p us js) refl

semicolons : (types : List (List ℕ)) (t : Token) → Is (codes ";") t → (which : Kind) → OnlyLast types t (form_slots which)
semicolons types t is which = by which (is_sign_of (codes ";") t is)
  where
    by : (which : Kind) → (t.kind ≡ kind.Punct) × (t.text ≡ codes ";") → OnlyLast types t (form_slots which)
    by (the.Word w) k = tt
    by the.ResetStack k = (rw (k.0, k.1) refl, (rw (k.0, k.1) refl, tt))
    by the.SetIndex k = (rw (k.0, k.1) refl, (rw (k.0, k.1) refl, (rw (k.0, k.1) refl, (rw (k.0) refl, tt))))
    by the.NewXs k =
        (rw (k.0, k.1) refl, (rw (k.0) refl, (rw (k.0, k.1) refl, (rw (k.0) refl, (rw (k.0, k.1) refl, tt)))))
    by the.KeptNewXs k = (
      rw (k.0, k.1) refl,
      (rw (k.0, k.1) refl, (rw (k.0, k.1) refl, (rw (k.0) refl, (rw (k.0, k.1) refl, (rw (k.0) refl, (rw (k.0, k.1) refl, tt)))))),
    )
    by the.NewRecord k = (
      rw (k.0, k.1) refl,
      (rw (k.0) refl, (rw (k.0, k.1) refl, (rw (k.0) refl, (rw (k.0, k.1) refl, (rw (k.0) refl, (rw (k.0, k.1) refl, tt)))))),
    )
    by the.Unused k = (rw (k.0, k.1) refl, (rw (k.0) refl, (rw (k.0, k.1) refl, tt)))

form_stays : (types : List (List ℕ)) (before : List Token) (t : Token) (us js : List Token) → Is (codes ";") t → 0 < length before
    → form_at types (before ++ t ∷ us) ≡ None → form_at types (before ++ t ∷ js) ≡ None
form_stays types [] t us js is some none = absurd (omega (arith, some))
form_stays types (c ∷ p) t us js is some none = by (form_row c) refl ∙ none
  where
    at_row : List Token → Option (Kind × List perl_forms.Part) → Option Kind
    at_row ts o = option_map_or (λ (row : Kind × List perl_forms.Part). if is_type types c || leads types row.1 ts then Some row.0 else None) o None

    by : (o : Option (Kind × List perl_forms.Part)) → form_row c ≡ o → at_row (p ++ t ∷ js) o ≡ at_row (p ++ t ∷ us) o
    by None e = refl
    by (Some row) e =
        let only : OnlyLast types t row.1 = rw ((row_facts c row e).slots) (semicolons types t is row.0) in
        rw (leads_stay types t row.1 only p us js) refl

pub begins_stays : (types : List (List ℕ)) (before us js : List Token) → 1 < length before → begins_form_at types (before ++ js) ≡ begins_form_at types
    (before ++ us)
begins_stays types [] us js long = absurd (omega (arith, long))
begins_stays types (c ∷ []) us js long = absurd (omega (arith, long))
begins_stays types (c ∷ e ∷ p) us js long = begins_same types c (e ∷ p ++ us) (e ∷ p ++ js) refl

declared_long : {types : List (List ℕ)} {one : DeclaredTree} {ts us : List Token} → Declared types one ts us → length us + 2 < length ts
declared_long (g.names_declared ty x is) = omega (arith, type_name_shrinks ty, declarators_shrink x)

moved_by : (before rest : List Token) → length (before ++ rest) ≡ length before + length rest
moved_by before rest = length-append before rest

-- ---- statements

mutual
  pub stmt_standing : {types : List (List ℕ)} {one : StmtTree} {ts us : List Token} → Statement types one ts us → Standing (Statement types one) ts us
  stmt_standing (g.block {t = t} o x) = s_token t (parts_standing x) (λ ps bs y. g.block o y)
  stmt_standing (g.empty {t = t} is) = free (one_token t (λ js. g.empty is))
  stmt_standing {types} (g.effect {t = t} {ts = ts} {us = us} n x is) =
      let h = whole_frame x in
      let first : form_at types (h.front.before ++ t ∷ us) ≡ None = ap (form_at types) (sym (h.front.is (t ∷ us)) ∙ h.here) ∙ n in
      let long : length (h.front.before ++ t ∷ us) ≡ length ts = ap (λ l. length l) (sym (h.front.is (t ∷ us)) ∙ h.here) in
      let some : 0 < length h.front.before = omega (arith, long, whole_shrinks x, moved_by h.front.before (t ∷ us)) in
      record {
        w = λ js. h.w (t ∷ js);
        front = front_both h.front (front_one t front_none);
        here = h.here;
        moves = λ js fine.
            g.effect (ap (form_at types) (h.front.is (t ∷ js)) ∙ form_stays types h.front.before t us js is some first) (h.moves (t ∷ js)) is;
      }
  stmt_standing (g.an_if {t = t} {us = us} {vs = vs} w c x isnt) =
      let f = condition_frame c in
      let y = stmt_standing x in
      record {
        w = λ js. t ∷ f.w (y.w js);
        front = front_one t (front_both f.front y.front);
        here = ap (λ l. t ∷ f.w l) y.here ∙ ap (λ l. t ∷ l) f.here;
        moves = λ js fine. g.an_if w (f.moves (y.w js)) (y.moves js fine) (no_else vs js fine isnt);
      }
  stmt_standing (g.if_else {t = t} {u = u} w c x e y) =
      let f = condition_frame c in
      let p = stmt_standing x in
      let q = stmt_standing y in
      record {
        w = λ js. t ∷ f.w (p.w (u ∷ q.w js));
        front = front_one t (front_both f.front (front_both p.front (front_one u q.front)));
        here = ap (λ l. t ∷ f.w (p.w (u ∷ l))) q.here ∙ (ap (λ l. t ∷ f.w l) p.here ∙ ap (λ l. t ∷ l) f.here);
        moves = λ js fine. g.if_else w (f.moves (p.w (u ∷ q.w js))) (p.moves (u ∷ q.w js) (λ h. h)) e (q.moves js fine);
      }
  stmt_standing (g.a_while {t = t} w c x) =
      s_token t (s_two {R = λ ps bs. (cs : List Token) × Condition _ _ ps cs × Statement _ _ cs bs} (free (condition_frame c)) (stmt_standing x)
      (λ ps bs cs p q. (bs, p, q))) (λ ps bs y. g.a_while w y.1 y.2)
  stmt_standing (g.a_do {t = t} {u = u} {v = v} w x e c is) =
      s_token t (s_two {R = λ ps bs. (cs : List Token) × Statement _ _ ps (u ∷ cs) × Condition _ _ cs (v ∷ bs)} (s_next (stmt_standing x))
      (free (with_next (condition_frame c))) (λ ps bs cs p q. (bs, p, q))) (λ ps bs y. g.a_do w y.1 e y.2 is)
  stmt_standing (g.a_for {t = t} w h x) =
      s_token t (s_two {R = λ ps bs. (cs : List Token) × ForHead _ _ ps cs × Statement _ _ cs bs} (free (for_head_frame h)) (stmt_standing x)
      (λ ps bs cs p q. (bs, p, q))) (λ ps bs y. g.a_for w y.1 y.2)
  stmt_standing (g.a_switch {t = t} {u = u} w c o x) =
      s_token t (s_two {R = λ ps bs. (cs : List Token) × Condition _ _ ps (u ∷ cs) × Groups _ true _ cs bs} (free (with_next (condition_frame c)))
      (groups_standing x) (λ ps bs cs p q. (bs, p, q))) (λ ps bs y. g.a_switch w y.1 o y.2)
  stmt_standing (g.a_break {t = t} {u = u} w is) = free (two_tokens t u (λ js. g.a_break w is))
  stmt_standing (g.a_continue {t = t} {u = u} w is) = free (two_tokens t u (λ js. g.a_continue w is))
  stmt_standing (g.a_return {t = t} w x) = free (token_before t (until_frame x) (λ ps bs y. g.a_return w y))
  stmt_standing (g.perl (g.word {t = a} {u = c} row is)) = free (two_tokens a c (λ js. g.perl (g.word row is)))
  stmt_standing (g.perl (g.reset_stack {a = a} {b = c} {c = d} {d = e} w x y z)) =
      free (tokens (a ∷ c ∷ d ∷ e ∷ []) (λ js. g.perl (g.reset_stack w x y z)))
  stmt_standing (g.perl (g.set_index {a = a} {b = c} {c = d} {d = e} {e = f} {f = h} w x y z k q)) =
      free (tokens (a ∷ c ∷ d ∷ e ∷ f ∷ h ∷ []) (λ js. g.perl (g.set_index w x y z k q)))
  stmt_standing (g.perl (g.new_xs {a = a} {b = c} {c = d} {d = e} {e = f} {f = h} {g = i} x y k z v p q)) =
      free (tokens (a ∷ c ∷ d ∷ e ∷ f ∷ h ∷ i ∷ []) (λ js. g.perl (g.new_xs x y k z v p q)))
  stmt_standing (g.perl (g.kept_new_xs {a = a} {b = c} {c = d} {d = e} {e = f} {f = h} {g = i} {h = j} {i = l} w o x y k z v p q)) =
      free (tokens (a ∷ c ∷ d ∷ e ∷ f ∷ h ∷ i ∷ j ∷ l ∷ []) (λ js. g.perl (g.kept_new_xs w o x y k z v p q)))
  stmt_standing (g.perl (g.new_record {a = a} {b = c} {c = d} {d = e} {e = f} {f = h} {g = i} {h = j} {i = l} w x v y o z k p q)) =
      free (tokens (a ∷ c ∷ d ∷ e ∷ f ∷ h ∷ i ∷ j ∷ l ∷ []) (λ js. g.perl (g.new_record w x v y o z k p q)))
  stmt_standing (g.perl (g.unused {a = a} {b = c} {c = d} {d = e} {e = f} w x v p q)) =
      free (tokens (a ∷ c ∷ d ∷ e ∷ f ∷ []) (λ js. g.perl (g.unused w x v p q)))

  pub part_standing : {types : List (List ℕ)} {one : StmtTree} {ts us : List Token} → Part types one ts us → Standing (Part types one) ts us
  part_standing {types} {ts = ts} {us = us} (g.declared isnt x) =
      let h = declared_frame x in
      let whole : h.front.before ++ us ≡ ts = sym (h.front.is us) ∙ h.here in
      let long : length (h.front.before ++ us) ≡ length ts = ap (λ l. length l) whole in
      let some : 1 < length h.front.before = omega (arith, long, declared_long x, moved_by h.front.before us) in
      record {
        w = h.w;
        front = h.front;
        here = h.here;
        moves = λ js fine.
            g.declared (ap (begins_form_at types) (h.front.is js) ∙ (begins_stays types h.front.before us js some ∙ (ap (begins_form_at types) whole ∙ isnt)))
            (h.moves js);
      }
  part_standing (g.stated x) = s_made (stmt_standing x) (λ ps bs y. g.stated y)

  pub parts_standing : {types : List (List ℕ)} {all : StmtTrees} {ts us : List Token} → Parts types all ts us → Standing (Parts types all) ts us
  parts_standing (g.over {t = t} is) = free (one_token t (λ js. g.over is))
  parts_standing (g.part x y) = s_two (part_standing x) (parts_standing y) (λ ps bs cs p q. g.part p q)

  pub groups_standing : {types : List (List ℕ)} {may : Bool} {all : GroupTrees} {ts us : List Token} → Groups types may all ts us
      → Standing (Groups types may all) ts us
  groups_standing (g.groups_over {t = t} is) = free (one_token t (λ js. g.groups_over is))
  groups_standing (g.group {labels = l} {body = body} {all = all} {t = t} x y z) =
      s_token t (s_two {R = λ ps bs. (cs ds : List Token) × Labels _ l (t ∷ ps) cs × Stmts _ body cs ds × Groups _ _ all ds bs} (free (labels_at x))
      (s_two {R = λ ps bs. (cs : List Token) × Stmts _ body ps cs × Groups _ _ all cs bs} (stmts_standing y) (groups_standing z) (λ ps bs cs p q. (bs, p, q)))
      (λ ps bs cs p q. (bs, q.0, p, q.1, q.2))) (λ ps bs y. g.group y.2 y.3 y.4)

  pub stmts_standing : {types : List (List ℕ)} {all : StmtTrees} {ts us : List Token} → Stmts types all ts us → Standing (Stmts types all) ts us
  stmts_standing g.no_stmts = free (nothing (λ js. g.no_stmts))
  stmts_standing (g.stmt x y) = s_two (stmt_standing x) (stmts_standing y) (λ ps bs cs p q. g.stmt p q)
