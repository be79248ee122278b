-- What stands in front of a text by the rules of files stands in front of any other that does not go on with it.
use Rattle.std.proofs.Common.{◌≡◌, ℕ, ◌+◌, ◌<◌, true, List, [], ◌∷◌, ◌++◌, length, length-append, refl, ap, sym, ◌∙◌, arith}
use Rattle.std.proofs.lemmas.Bool.{and_parts}
use Rattle.std.specs.Prelude.{codes}
use Rattle.xs_ctok.specs.declared.token.Token.{Token}
use Rattle.xs_csyn.proofs.Frames.{Frame, front_one, made_of, one_token, token_before, two_parts, two_tokens, type_at, type_frame, with_next}
use Rattle.xs_csyn.proofs.Marks.{mark_no_word}
use Rattle.xs_csyn.proofs.Sizes.{part_shrinks, parts_shrink}
use Rattle.xs_csyn.proofs.StatementFrames.{Standing, free, parts_standing, s_two}
use Rattle.xs_csyn.specs.FileGrammar as g
use Rattle.xs_csyn.specs.FileGrammar.{AHead, Fields, Item, Parameter, Parameters, SomeParameters, begins_body}
use Rattle.xs_csyn.specs.StatementGrammar as s
use Rattle.xs_csyn.specs.StatementGrammar.{Parts}
use Rattle.xs_cstmt.specs.StatementTree.{StmtTrees}
use Rattle.xs_csyn.specs.FileTree.{ItemTree}
use Rattle.xs_cinput.specs.TokenInput.{is_sign, is_word}
use Rattle.xs_csyn.specs.declared.tree.Head.{Head}
use Rattle.xs_csyn.specs.declared.tree.Par.{Par}

pub fields_frame : {types : List (List ℕ)} {all : List Par} {ts us : List Token} → Fields types all ts us → Frame (Fields types all) ts us
fields_frame (g.fields_over {t = t} is) = one_token t (λ js. g.fields_over is)
fields_frame (g.field ty n is x) = two_parts (with_next (with_next (type_frame ty))) (fields_frame x) (λ ps bs cs p q. g.field p n is q)

pub parameter_frame : {types : List (List ℕ)} {p : Par} {ts us : List Token} → Parameter types p ts us → Frame (Parameter types p) ts us
parameter_frame (g.parameter ty v) = made_of (with_next (type_frame ty)) (λ ps bs y. g.parameter y v)

pub parameter_at : {types : List (List ℕ)} {p : Par} {t : Token} {ts us : List Token} → Parameter types p (t ∷ ts) us
    → Frame (λ ps bs. Parameter types p (t ∷ ps) bs) ts us
parameter_at (g.parameter ty v) = made_of (with_next (type_at ty)) (λ ps bs y. g.parameter y v)

pub some_frame : {types : List (List ℕ)} {all : List Par} {ts us : List Token} → SomeParameters types all ts us → Frame (SomeParameters types all) ts us
some_frame (g.last_parameter x c) = made_of (with_next (parameter_frame x)) (λ ps bs y. g.last_parameter y c)
some_frame (g.more_parameters x c y) = two_parts (with_next (parameter_frame x)) (some_frame y) (λ ps bs cs p q. g.more_parameters p c q)

pub parameters_frame : {types : List (List ℕ)} {all : List Par} {ts us : List Token} → Parameters types all ts us → Frame (Parameters types all) ts us
parameters_frame (g.no_parameters {t = t} c) = one_token t (λ js. g.no_parameters c)
parameters_frame (g.void_parameters {t = t} {u = u} w c) = two_tokens t u (λ js. g.void_parameters w c)
parameters_frame (g.some_parameters x) = made_of (some_frame x) (λ ps bs y. g.some_parameters y)

pub head_frame : {types : List (List ℕ)} {h : Head} {ts us : List Token} → AHead types h ts us → Frame (AHead types h) ts us
head_frame {types} {h} (g.a_head {t = t} ty n o x) =
    token_before {P = λ ps bs. AHead types h (t ∷ ps) bs} t
    (two_parts (with_next (with_next (type_at ty))) (parameters_frame x) (λ ps bs cs p q. g.a_head p n o q)) (λ ps bs y. y)

-- a body that begins so has two tokens
body_long : {types : List (List ℕ)} {all : StmtTrees} {ts us : List Token} → Parts types all ts us → begins_body ts ≡ true → length us + 1 < length ts
body_long (s.over {t = t} {ts = us} is) e = absurd (by us e)
  where
    by : (us : List Token) → begins_body (t ∷ us) ≡ true → ⊥
    by [] e = cc
    by (u ∷ us) e =
        let w = (and_parts (is_word (codes "dXSARGS") t) (is_sign (codes ";") u) e).0 in
        let no = mark_no_word (codes "}") (codes "dXSARGS") t is in
        cc
body_long (s.part x y) e = omega (arith, part_shrinks x, parts_shrink y)

pub body_stays : (before us js : List Token) → 1 < length before → begins_body (before ++ js) ≡ begins_body (before ++ us)
body_stays [] us js long = absurd (omega (arith, long))
body_stays (c ∷ []) us js long = absurd (omega (arith, long))
body_stays (c ∷ e ∷ p) us js long = refl

pub item_standing : {types : List (List ℕ)} {one : ItemTree} {ts us : List Token} → Item types one ts us → Standing (Item types one) ts us
item_standing (g.a_typedef {t = t} w ty n is) = free (token_before t (with_next (with_next (type_frame ty))) (λ ps bs y. g.a_typedef w y n is))
item_standing {types} {one} (g.a_record {t = t} {u = u} {v = v} k l o f n is) =
    free (token_before {P = λ ps bs. Item types one (t ∷ ps) bs} t (token_before {P = λ ps bs. Item types one (t ∷ u ∷ ps) bs} u
    (token_before v (with_next (with_next (fields_frame f))) (λ ps bs y. g.a_record k l o y n is)) (λ ps bs y. y)) (λ ps bs y. y))
item_standing (g.prototype x is) = free (made_of (with_next (head_frame x)) (λ ps bs y. g.prototype y is))
item_standing (g.function x o y) = s_two (free (with_next (head_frame x))) (parts_standing y) (λ ps bs cs p q. g.function p o q)
item_standing (g.xs_function {t = t} {u = u} {v = v} {w = w} {x = z} {ts = ts} {us = us} k o n c d begins x) =
    let h = parts_standing x in
    let whole : h.front.before ++ us ≡ ts = sym (h.front.is us) ∙ h.here in
    let long : length (h.front.before ++ us) ≡ length ts = ap (λ l. length l) whole in
    let some : 1 < length h.front.before = omega (arith, long, body_long x begins, length-append h.front.before us) in
    record {
      w = λ js. t ∷ u ∷ v ∷ w ∷ z ∷ h.w js;
      front = front_one t (front_one u (front_one v (front_one w (front_one z h.front))));
      here = ap (λ l. t ∷ u ∷ v ∷ w ∷ z ∷ l) h.here;
      moves = λ js fine.
          g.xs_function k o n c d
          (ap begins_body (h.front.is js) ∙ (body_stays h.front.before us js some ∙ (ap begins_body whole ∙ begins))) (h.moves js fine);
    }
