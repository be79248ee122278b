-- What stands in front of a text by the rules stands in front of any other.
use Rattle.std.proofs.Common.{◌≡◌, ℕ, List, [], ◌∷◌, ◌++◌, append_assoc, refl, ap, ◌∙◌}
use Rattle.xs_ctok.specs.declared.token.Token.{Token}
use Rattle.xs_csyn.specs.Grammar as g
use Rattle.xs_csyn.specs.Grammar.{AType, Arguments, Binary, Choice, Listed, NamedPlace, Operand, Place, Primary, Stars, TypeName, Unary, Whole, Words}
use Rattle.xs_cexpr.specs.ExpressionTree.{ExprTree, ExprTrees, PlaceTree}
use Rattle.xs_cinput.specs.declared.tree.CType.{CType}

-- puts some tokens in front
pub record IsFront (w : List Token → List Token) : Type 0 where
  pub before : List Token
  pub is : (js : List Token) → w js ≡ before ++ js

abbrev pub front_none : IsFront (λ js. js)
front_none = record { before = []; is = λ js. refl }

abbrev pub front_one : {w : List Token → List Token} (t : Token) → IsFront w → IsFront (λ js. t ∷ w js)
front_one t f = record { before = t ∷ f.before; is = λ js. ap (λ l. t ∷ l) (f.is js) }

abbrev pub front_both : {w z : List Token → List Token} → IsFront w → IsFront z → IsFront (λ js. w (z js))
front_both {w} {z} f h = record {
  before = f.before ++ h.before;
  is = λ js. f.is (z js) ∙ (ap (λ l. f.before ++ l) (h.is js) ∙ (let e : f.before ++ (h.before ++ js) ≡ (f.before ++ h.before) ++ js = rw
      (append_assoc f.before h.before js) refl in e));
}

-- What stands from the first list up to the second stands so with any list in the place of the second.
pub record Frame (P : List Token → List Token → Type 0) (ts us : List Token) : Type 0 where
  pub w : List Token → List Token
  pub front : IsFront w
  pub here : w us ≡ ts
  pub moves : (js : List Token) → P (w js) js

pub nothing : {P : List Token → List Token → Type 0} {ts : List Token} → ((js : List Token) → P js js) → Frame P ts ts
nothing f = record { w = λ js. js; front = front_none; here = refl; moves = f }

pub one_token : {P : List Token → List Token → Type 0} (t : Token) {us : List Token} → ((js : List Token) → P (t ∷ js) js) → Frame P (t ∷ us) us
one_token t f = record { w = λ js. t ∷ js; front = front_one t front_none; here = refl; moves = f }

pub two_tokens : {P : List Token → List Token → Type 0} (t u : Token) {us : List Token} → ((js : List Token) → P (t ∷ u ∷ js) js) → Frame P (t ∷ u ∷ us) us
two_tokens t u f = record { w = λ js. t ∷ u ∷ js; front = front_one t (front_one u front_none); here = refl; moves = f }

pub three_tokens : {P : List Token → List Token → Type 0} (t u v : Token) {us : List Token} → ((js : List Token) → P (t ∷ u ∷ v ∷ js) js)
    → Frame P (t ∷ u ∷ v ∷ us) us
three_tokens t u v f = record { w = λ js. t ∷ u ∷ v ∷ js; front = front_one t (front_one u (front_one v front_none)); here = refl; moves = f }

pub made_of : {P Q : List Token → List Token → Type 0} {ts us : List Token} → Frame P ts us → ((ps bs : List Token) → P ps bs → Q ps bs) → Frame Q ts us
made_of x f = record { w = x.w; front = x.front; here = x.here; moves = λ js. f (x.w js) js (x.moves js) }

pub token_before : {P Q : List Token → List Token → Type 0} (t : Token) {ts us : List Token} → Frame P ts us
    → ((ps bs : List Token) → P ps bs → Q (t ∷ ps) bs) → Frame Q (t ∷ ts) us
token_before t x f = record {
  w = λ js. t ∷ x.w js;
  front = front_one t x.front;
  here = ap (λ l. t ∷ l) x.here;
  moves = λ js. f (x.w js) js (x.moves js);
}

-- the next token belongs to it
pub with_next : {P : List Token → List Token → Type 0} {t : Token} {ts us : List Token} → Frame P ts (t ∷ us) → Frame (λ ps bs. P ps (t ∷ bs)) ts us
with_next {t = t} x = record {
  w = λ js. x.w (t ∷ js);
  front = front_both x.front (front_one t front_none);
  here = x.here;
  moves = λ js. x.moves (t ∷ js);
}

pub two_parts : {P Q R : List Token → List Token → Type 0} {ts us vs : List Token} → Frame P ts us → Frame Q us vs
    → ((ps bs cs : List Token) → P ps bs → Q bs cs → R ps cs) → Frame R ts vs
two_parts x y f = record {
  w = λ js. x.w (y.w js);
  front = front_both x.front y.front;
  here = ap x.w y.here ∙ x.here;
  moves = λ js. f (x.w (y.w js)) (y.w js) js (x.moves (y.w js)) (y.moves js);
}

pub three_parts : {P Q R S : List Token → List Token → Type 0} {ts us vs ws : List Token} → Frame P ts us → Frame Q us vs → Frame R vs ws
    → ((ps bs cs ds : List Token) → P ps bs → Q bs cs → R cs ds → S ps ds) → Frame S ts ws
three_parts x y z f = record {
  w = λ js. x.w (y.w (z.w js));
  front = front_both x.front (front_both y.front z.front);
  here = ap (λ l. x.w (y.w l)) z.here ∙ (ap x.w y.here ∙ x.here);
  moves = λ js. f (x.w (y.w (z.w js))) (y.w (z.w js)) (z.w js) js (x.moves (y.w (z.w js))) (y.moves (z.w js)) (z.moves js);
}

-- ---- types

words_frame : {types : List (List ℕ)} {name : List ℕ} {ts us : List Token} → Words types name ts us → Frame (Words types name) ts us
words_frame (g.one_word {t = t} i) = one_token t (λ js. g.one_word i)
words_frame (g.two_words {t = t} {u = u} i j) = two_tokens t u (λ js. g.two_words i j)
words_frame (g.three_words {t = t} {u = u} {v = v} i j k) = three_tokens t u v (λ js. g.three_words i j k)

pub type_name_frame : {types : List (List ℕ)} {name : List ℕ} {ts us : List Token} → TypeName types name ts us → Frame (TypeName types name) ts us
type_name_frame (g.type_name x isnt) = made_of (words_frame x) (λ ps bs y. g.type_name y isnt)

-- the words after the first one
pub type_rest_frame : {types : List (List ℕ)} {name : List ℕ} {t : Token} {ts us : List Token} → TypeName types name (t ∷ ts) us
    → Frame (λ ps bs. TypeName types name (t ∷ ps) bs) ts us
type_rest_frame (g.type_name (g.one_word i) isnt) = nothing (λ js. g.type_name (g.one_word i) isnt)
type_rest_frame (g.type_name (g.two_words {u = u} i j) isnt) = one_token u (λ js. g.type_name (g.two_words i j) isnt)
type_rest_frame (g.type_name (g.three_words {u = u} {v = v} i j k) isnt) = two_tokens u v (λ js. g.type_name (g.three_words i j k) isnt)

pub stars_frame : {n : ℕ} {ts us : List Token} → Stars n ts us → Frame (Stars n) ts us
stars_frame g.no_star = nothing (λ js. g.no_star)
stars_frame (g.star {t = t} is more) = token_before t (stars_frame more) (λ ps bs y. g.star is y)

-- a type by its first token
pub type_at : {types : List (List ℕ)} {to : CType} {t : Token} {ts us : List Token} → AType types to (t ∷ ts) us
    → Frame (λ ps bs. AType types to (t ∷ ps) bs) ts us
type_at (g.a_type x more) = two_parts (type_rest_frame x) (stars_frame more) (λ ps bs cs p q. g.a_type p q)

pub type_frame : {types : List (List ℕ)} {to : CType} {ts us : List Token} → AType types to ts us → Frame (AType types to) ts us
type_frame (g.a_type {t = t} (g.type_name (g.one_word i) isnt) more) =
    token_before t (stars_frame more) (λ ps bs y. g.a_type (g.type_name (g.one_word i) isnt) y)
type_frame (g.a_type {n = n} {t = t} (g.type_name (g.two_words {u = u} i j) isnt) more) =
    token_before t (token_before {Q = λ cs bs. (ds : List Token) × (cs ≡ u ∷ ds) × Stars n ds bs} u (stars_frame more) (λ ps bs y. (ps, refl, y)))
    (λ ps bs y. rw (y.1) (g.a_type (g.type_name (g.two_words i j) isnt) y.2))
type_frame (g.a_type {n = n} {t = t} (g.type_name (g.three_words {u = u} {v = v} i j k) isnt) more) =
    token_before t (token_before {Q = λ cs bs. (ds : List Token) × (cs ≡ u ∷ v ∷ ds) × Stars n ds bs} u
    (token_before {Q = λ cs bs. (ds : List Token) × (cs ≡ v ∷ ds) × Stars n ds bs} v (stars_frame more) (λ ps bs y. (ps, refl, y)))
    (λ ps bs y. (y.0, ap (λ l. u ∷ l) y.1, y.2)))
    (λ ps bs y. rw (y.1) (g.a_type (g.type_name (g.three_words i j k) isnt) y.2))

-- ---- expressions

mutual
  pub whole_frame : {types : List (List ℕ)} {a : ExprTree} {ts us : List Token} → Whole types a ts us → Frame (Whole types a) ts us
  whole_frame (g.set p o x) = two_parts (with_next (place_frame p)) (whole_frame x) (λ ps bs cs q y. g.set q o y)
  whole_frame (g.is_choice x) = made_of (choice_frame x) (λ ps bs y. g.is_choice y)

  pub choice_frame : {types : List (List ℕ)} {a : ExprTree} {ts us : List Token} → Choice types a ts us → Frame (Choice types a) ts us
  choice_frame (g.choose x o y c z) =
      three_parts (with_next (binary_frame x)) (with_next (whole_frame y)) (choice_frame z) (λ ps bs cs ds p q r. g.choose p o q c r)
  choice_frame (g.is_binary x) = made_of (binary_frame x) (λ ps bs y. g.is_binary y)

  pub binary_frame : {types : List (List ℕ)} {n : ℕ} {a : ExprTree} {ts us : List Token} → Binary types n a ts us → Frame (Binary types n a) ts us
  binary_frame (g.two x o le y) = two_parts (with_next (binary_frame x)) (binary_frame y) (λ ps bs cs p q. g.two p o le q)
  binary_frame (g.is_unary x) = made_of (unary_frame x) (λ ps bs y. g.is_unary y)

  pub unary_frame : {types : List (List ℕ)} {a : ExprTree} {ts us : List Token} → Unary types a ts us → Frame (Unary types a) ts us
  unary_frame (g.prefixed {t = t} o x) = token_before t (unary_frame x) (λ ps bs y. g.prefixed o y)
  unary_frame {types} (g.cast {to = to} {a = a} {t = t} {u = u} o ty c x) =
      token_before t (two_parts {R = λ ps cs. (bs : List Token) × AType types to ps (u ∷ bs) × Unary types a bs cs} (with_next (type_frame ty)) (unary_frame x)
      (λ ps bs cs p q. (bs, p, q))) (λ ps bs y. g.cast o y.1 c y.2)
  unary_frame (g.dereferenced {t = t} s x) = token_before t (unary_frame x) (λ ps bs y. g.dereferenced s y)
  unary_frame (g.address {t = t} {u = u} o v) = two_tokens t u (λ js. g.address o v)
  unary_frame (g.before {t = t} s p) = token_before t (place_frame p) (λ ps bs y. g.before s y)
  unary_frame (g.is_operand x) = made_of (operand_frame x) (λ ps bs y. g.is_operand y)

  pub operand_frame : {types : List (List ℕ)} {a : ExprTree} {ts us : List Token} → Operand types a ts us → Frame (Operand types a) ts us
  operand_frame (g.index x o y c) = two_parts (with_next (operand_frame x)) (with_next (whole_frame y)) (λ ps bs cs p q. g.index p o q c)
  operand_frame (g.after p s) = made_of (with_next (named_frame p)) (λ ps bs y. g.after y s)
  operand_frame (g.is_primary x) = made_of (primary_frame x) (λ ps bs y. g.is_primary y)

  pub primary_frame : {types : List (List ℕ)} {a : ExprTree} {ts us : List Token} → Primary types a ts us → Frame (Primary types a) ts us
  primary_frame (g.name {t = t} v) = one_token t (λ js. g.name v)
  primary_frame (g.int {t = t} k) = one_token t (λ js. g.int k)
  primary_frame (g.char {t = t} k) = one_token t (λ js. g.char k)
  primary_frame (g.text {t = t} k) = one_token t (λ js. g.text k)
  primary_frame {types} (g.call {args = args} {t = t} {u = u} v o x) =
      token_before t (token_before {Q = λ cs bs. (ds : List Token) × (cs ≡ u ∷ ds) × Arguments types args ds bs} u (arguments_frame x) (λ ps bs y.
      (ps, refl, y)))
      (λ ps bs y. rw (y.1) (g.call v o y.2))
  primary_frame (g.arrow {t = t} {u = u} {v = w} v o n) = three_tokens t u w (λ js. g.arrow v o n)
  primary_frame (g.paren {t = t} o x c) = token_before t (with_next (whole_frame x)) (λ ps bs y. g.paren o y c)
  primary_frame {types} (g.int2ptr {to = to} {a = a} {t = t} {u = u} {v = v} {w = z} w o ty m x c) =
      token_before t (token_before {Q = λ cs bs. (ds es : List Token) × (cs ≡ u ∷ ds) × AType types to ds (v ∷ es) × Whole types a es (z ∷ bs)} u
      (two_parts {R = λ ds bs. (es : List Token) × AType types to ds (v ∷ es) × Whole types a es (z ∷ bs)} (with_next (type_frame ty)) (with_next
      (whole_frame x))
      (λ ps bs cs p q. (bs, p, q))) (λ ps bs y. (ps, y.0, refl, y.1, y.2)))
      (λ ps bs y. rw (y.2) (g.int2ptr w o y.3 m y.4 c))

  pub place_frame : {types : List (List ℕ)} {p : PlaceTree} {ts us : List Token} → Place types p ts us → Frame (Place types p) ts us
  place_frame (g.target {t = t} {u = u} s v) = two_tokens t u (λ js. g.target s v)
  place_frame (g.is_named x) = made_of (named_frame x) (λ ps bs y. g.is_named y)

  pub named_frame : {types : List (List ℕ)} {p : PlaceTree} {ts us : List Token} → NamedPlace types p ts us → Frame (NamedPlace types p) ts us
  named_frame (g.variable {t = t} v) = one_token t (λ js. g.variable v)
  named_frame (g.field {t = t} {u = u} {v = w} v o n) = three_tokens t u w (λ js. g.field v o n)
  named_frame {types} (g.st {at = a} {t = t} {u = u} {v = z} v s o x c) =
      token_before t (token_before {Q = λ cs bs. (ds : List Token) × (cs ≡ u ∷ ds) × Whole types a ds (z ∷ bs)} u (with_next (whole_frame x)) (λ ps bs y.
      (ps, refl, y)))
      (λ ps bs y. rw (y.1) (g.st v s o y.2 c))

  pub arguments_frame : {types : List (List ℕ)} {all : ExprTrees} {ts us : List Token} → Arguments types all ts us → Frame (Arguments types all) ts us
  arguments_frame (g.none {u = u} c) = one_token u (λ js. g.none c)
  arguments_frame (g.some x) = made_of (listed_frame x) (λ ps bs y. g.some y)

  pub listed_frame : {types : List (List ℕ)} {all : ExprTrees} {ts us : List Token} → Listed types all ts us → Frame (Listed types all) ts us
  listed_frame (g.last x c) = made_of (with_next (whole_frame x)) (λ ps bs y. g.last y c)
  listed_frame (g.more x c y) = two_parts (with_next (whole_frame x)) (listed_frame y) (λ ps bs cs p q. g.more p c q)
