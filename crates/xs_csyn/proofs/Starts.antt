-- What an expression begins with, and what ends it.
use Rattle.std.proofs.Common.{◌≡◌, ℕ, Bool, true, false, ◌||◌, if◌then◌else◌, List, [], ◌∷◌, Option, Some, None, refl, ap, sym, ◌∙◌}
use Rattle.std.proofs.lemmas.Bool.{and_left, and_right, false_from_ne_true}
use Rattle.std.proofs.lemmas.Option.{none-some}
use Rattle.std.specs.Prelude.{codes}
use Rattle.std.specs.Str.{bytes_eq}
use Rattle.xs_base.specs.Readers.{head_is}
use Rattle.xs_ctok.specs.declared.token.TokKind.{TokKind}
use Rattle.xs_ctok.specs.declared.token.TokKind.TheVariants as kind
use Rattle.xs_ctok.specs.declared.token.Token.{Token}
use Rattle.xs_csyn.proofs.Marks.{is_sign_of, is_word_of, mark_no_type, mark_no_word, marks, name_kind, name_no_mark, name_no_word, no_mark, no_sign_row, no_word, variable_name, variable_no_type, word_no_mark, word_no_type, words}
use Rattle.xs_cinput.proofs.Tables.{EachRow, sign_found}
use Rattle.xs_csyn.specs.FileGrammar.{AreNames}
use Rattle.xs_csyn.specs.Grammar as g
use Rattle.xs_csyn.specs.Grammar.{Binary, Choice, Is, IsVariable, IsWord, Listed, NamedPlace, Operand, Place, Primary, Unary, Whole}
use Rattle.xs_cinput.specs.Operators.{assignments, binary_ops, first_in, listed, prefix_ops, sign_in, steps}
use Rattle.xs_cexpr.specs.ExpressionTree.{ExprTree, ExprTrees, PlaceTree}
use Rattle.xs_cinput.specs.TokenInput.{is_punct_kind, is_sign, is_type, is_word, is_word_kind}
use Rattle.xs_ctok.specs.CWords.{is_no_name, is_type_word}
use Rattle.xs_cinput.specs.declared.tree.BinaryOp.{BinaryOp}
use Rattle.xs_cinput.specs.declared.tree.Step.{Step}
use Rattle.xs_values.specs.declared.operator.Op.{Op}
use Rattle.xs_values.specs.declared.unary_operator.UnOp.{UnOp}

-- the next token is not this punctuator
abbrev pub Stop : List ℕ → List Token → Type 0
Stop m us = head_is (is_sign m) us ≡ false

-- ---- what ends an operand, and an expression

pub record EndsOperand (us : List Token) : Type 0 where
  pub no_call : Stop (codes "(") us
  pub no_arrow : Stop (codes "->") us
  pub no_index : Stop (codes "[") us
  pub no_step : first_in steps us ≡ None

-- what may follow a whole expression
pub record Ends (us : List Token) : Type 0 where
  pub operand : EndsOperand us
  pub no_operator : first_in binary_ops us ≡ None
  pub no_choice : Stop (codes "?") us
  pub no_set : first_in assignments us ≡ None

-- so is this spelt
abbrev OperandEnd : List ℕ → Type 0
OperandEnd word =
    (bytes_eq word (codes "(") ≡ false) × (bytes_eq word (codes "->") ≡ false) × (bytes_eq word (codes "[") ≡ false) × (listed steps word ≡ None)

abbrev SetEnd : List ℕ → Type 0
SetEnd word = OperandEnd word × (listed binary_ops word ≡ None) × (bytes_eq word (codes "?") ≡ false)

no_row : {V : Type 0} (table : List (List ℕ × V)) (t : Token) → listed table t.text ≡ None → sign_in table t ≡ None
no_row {V} table t e = by (is_punct_kind t.kind)
  where
    by : (c : Bool) → ◌≡◌ {A = Option V} (if c then listed table t.text else None) None
    by true = e
    by false = refl

not_spelt : (m : List ℕ) (t : Token) → bytes_eq t.text m ≡ false → is_sign m t ≡ false
not_spelt m t e = and_right (is_punct_kind t.kind) (bytes_eq t.text m) e

operand_end : (t : Token) (us : List Token) → OperandEnd t.text → EndsOperand (t ∷ us)
operand_end t us e = record {
  no_call = not_spelt (codes "(") t e.0;
  no_arrow = not_spelt (codes "->") t e.1;
  no_index = not_spelt (codes "[") t e.2;
  no_step = no_row steps t e.3;
}

operators_end : EachRow {V = BinaryOp × ℕ} (λ word v. OperandEnd word) binary_ops
unfolding binary_ops steps
operators_end = (
  (refl, refl, refl, refl),
  (
    (refl, refl, refl, refl),
    (
      (refl, refl, refl, refl),
      (
        (refl, refl, refl, refl),
        (
          (refl, refl, refl, refl),
          (
            (refl, refl, refl, refl),
            (
              (refl, refl, refl, refl),
              (
                (refl, refl, refl, refl),
                (
                  (refl, refl, refl, refl),
                  (
                    (refl, refl, refl, refl),
                    (
                      (refl, refl, refl, refl),
                      (
                        (refl, refl, refl, refl),
                        (
                          (refl, refl, refl, refl),
                          (
                            (refl, refl, refl, refl),
                            (
                              (refl, refl, refl, refl),
                              ((refl, refl, refl, refl), ((refl, refl, refl, refl), ((refl, refl, refl, refl), tt))),
                            ),
                          ),
                        ),
                      ),
                    ),
                  ),
                ),
              ),
            ),
          ),
        ),
      ),
    ),
  ),
)

assignments_end : EachRow {V = Option Op} (λ word v. SetEnd word) assignments
unfolding assignments binary_ops steps
assignments_end = (
  ((refl, refl, refl, refl), refl, refl),
  (
    ((refl, refl, refl, refl), refl, refl),
    (
      ((refl, refl, refl, refl), refl, refl),
      (
        ((refl, refl, refl, refl), refl, refl),
        (
          ((refl, refl, refl, refl), refl, refl),
          (
            ((refl, refl, refl, refl), refl, refl),
            (
              ((refl, refl, refl, refl), refl, refl),
              (
                ((refl, refl, refl, refl), refl, refl),
                (
                  ((refl, refl, refl, refl), refl, refl),
                  (((refl, refl, refl, refl), refl, refl), (((refl, refl, refl, refl), refl, refl), tt)),
                ),
              ),
            ),
          ),
        ),
      ),
    ),
  ),
)

steps_no_prefix : EachRow {V = Step} (λ word v. (listed prefix_ops word ≡ None) × (bytes_eq word (codes "(") ≡ false) × (bytes_eq word (codes "->") ≡ false)
    × (bytes_eq word (codes "[") ≡ false)) steps
unfolding steps prefix_ops
steps_no_prefix = ((refl, refl, refl, refl), ((refl, refl, refl, refl), tt))

-- An operator ends the operand before it.
pub operator_ends : (o : BinaryOp × ℕ) (t : Token) (us : List Token) → sign_in binary_ops t ≡ Some o → EndsOperand (t ∷ us)
operator_ends o t us e = operand_end t us (sign_found (λ word v. OperandEnd word) binary_ops t o operators_end e).0

-- So does an assignment, and it ends a choice.
pub record EndsSet (us : List Token) : Type 0 where
  pub operand : EndsOperand us
  pub no_operator : first_in binary_ops us ≡ None
  pub no_choice : Stop (codes "?") us

pub assignment_ends : (o : Option Op) (t : Token) (us : List Token) → sign_in assignments t ≡ Some o → EndsSet (t ∷ us)
assignment_ends o t us e =
    let x = (sign_found (λ word v. SetEnd word) assignments t o assignments_end e).0 in
    record { operand = operand_end t us x.0; no_operator = no_row binary_ops t x.1; no_choice = not_spelt (codes "?") t x.2 }

-- what a step is not
pub record IsStep (t : Token) : Type 0 where
  pub no_prefix : sign_in prefix_ops t ≡ None
  pub no_call : is_sign (codes "(") t ≡ false
  pub no_arrow : is_sign (codes "->") t ≡ false
  pub no_index : is_sign (codes "[") t ≡ false

pub step_is : (s : Step) (t : Token) → sign_in steps t ≡ Some s → IsStep t
step_is s t e =
    let x = (sign_found (λ word v. (listed prefix_ops word ≡ None) × (bytes_eq word (codes "(") ≡ false) × (bytes_eq word (codes "->") ≡ false)
    × (bytes_eq word (codes "[") ≡ false)) steps t s steps_no_prefix e).0 in
    record {
      no_prefix = no_row prefix_ops t x.0;
      no_call = not_spelt (codes "(") t x.1;
      no_arrow = not_spelt (codes "->") t x.2;
      no_index = not_spelt (codes "[") t x.3;
    }

-- this punctuator ends an expression
abbrev EndWord : List ℕ → Type 0
EndWord word = SetEnd word × (listed assignments word ≡ None)

ends_by : (m : List ℕ) (t : Token) (us : List Token) → Is m t → EndWord m → Ends (t ∷ us)
ends_by m t us is e =
    let text = (is_sign_of m t is).1 in
    let x : EndWord t.text = rw text e in
    record {
      operand = operand_end t us x.0.0;
      no_operator = no_row binary_ops t x.0.1;
      no_choice = not_spelt (codes "?") t x.0.2;
      no_set = no_row assignments t x.1;
    }

close_ends : EndWord (codes ")")
unfolding assignments binary_ops steps
close_ends = (((refl, refl, refl, refl), refl, refl), refl)

semi_ends : EndWord (codes ";")
unfolding assignments binary_ops steps
semi_ends = (((refl, refl, refl, refl), refl, refl), refl)

comma_ends : EndWord (codes ",")
unfolding assignments binary_ops steps
comma_ends = (((refl, refl, refl, refl), refl, refl), refl)

bracket_ends : EndWord (codes "]")
unfolding assignments binary_ops steps
bracket_ends = (((refl, refl, refl, refl), refl, refl), refl)

colon_ends : EndWord (codes ":")
unfolding assignments binary_ops steps
colon_ends = (((refl, refl, refl, refl), refl, refl), refl)

pub closes : (t : Token) (us : List Token) → Is (codes ")") t → Ends (t ∷ us)
closes t us is = ends_by (codes ")") t us is close_ends

pub semicolon : (t : Token) (us : List Token) → Is (codes ";") t → Ends (t ∷ us)
semicolon t us is = ends_by (codes ";") t us is semi_ends

pub comma : (t : Token) (us : List Token) → Is (codes ",") t → Ends (t ∷ us)
comma t us is = ends_by (codes ",") t us is comma_ends

pub bracket : (t : Token) (us : List Token) → Is (codes "]") t → Ends (t ∷ us)
bracket t us is = ends_by (codes "]") t us is bracket_ends

pub colon : (t : Token) (us : List Token) → Is (codes ":") t → Ends (t ∷ us)
colon t us is = ends_by (codes ":") t us is colon_ends

pub the_end : Ends []
the_end = record {
  operand = record { no_call = refl; no_arrow = refl; no_index = refl; no_step = refl };
  no_operator = refl;
  no_choice = refl;
  no_set = refl;
}

-- `?` ends what is tested
question_word : OperandEnd (codes "?") × (listed binary_ops (codes "?") ≡ None)
unfolding binary_ops steps
question_word = ((refl, refl, refl, refl), refl)

pub record EndsTest (us : List Token) : Type 0 where
  pub operand : EndsOperand us
  pub no_operator : first_in binary_ops us ≡ None

pub question : (t : Token) (us : List Token) → Is (codes "?") t → EndsTest (t ∷ us)
question t us is =
    let text = (is_sign_of (codes "?") t is).1 in
    let x : OperandEnd t.text × (listed binary_ops t.text ≡ None) = rw text question_word in
    record { operand = operand_end t us x.0; no_operator = no_row binary_ops t x.1 }

-- ---- what an expression begins with

-- the first token of an operand
pub data BeginsOperand (types : List (List ℕ)) : List Token → Type 0 where
  a_variable : {t : Token} {ts : List Token} → IsVariable types t → BeginsOperand types (t ∷ ts)
  a_literal : {t : Token} {ts : List Token} → is_punct_kind t.kind ≡ false → is_word_kind t.kind ≡ false → BeginsOperand types (t ∷ ts)
  int2ptr : {t : Token} {ts : List Token} → IsWord (codes "INT2PTR") t → BeginsOperand types (t ∷ ts)
  opens : {t : Token} {ts : List Token} → Is (codes "(") t → BeginsOperand types (t ∷ ts)

-- the first token of an expression
pub data Begins (types : List (List ℕ)) : List Token → Type 0 where
  an_operand : {ts : List Token} → BeginsOperand types ts → Begins types ts
  a_prefix : {op : UnOp} {t : Token} {ts : List Token} → sign_in prefix_ops t ≡ Some op → Begins types (t ∷ ts)
  a_step : {s : Step} {t : Token} {ts : List Token} → sign_in steps t ≡ Some s → Begins types (t ∷ ts)
  a_star : {t : Token} {ts : List Token} → Is (codes "*") t → Begins types (t ∷ ts)
  an_and : {t : Token} {ts : List Token} → Is (codes "&") t → Begins types (t ∷ ts)

primary_begins : {types : List (List ℕ)} {a : ExprTree} {ts us : List Token} → Primary types a ts us → BeginsOperand types ts
primary_begins (g.name v) = a_variable v
primary_begins (g.int k) = a_literal (ap is_punct_kind k) (ap is_word_kind k)
primary_begins (g.char k) = a_literal (ap is_punct_kind k) (ap is_word_kind k)
primary_begins (g.text k) = a_literal (ap is_punct_kind k) (ap is_word_kind k)
primary_begins (g.call v o x) = a_variable v
primary_begins (g.arrow v o n) = a_variable v
primary_begins (g.paren o x c) = opens o
primary_begins (g.int2ptr w o ty m x c) = int2ptr w

named_begins : {types : List (List ℕ)} {p : PlaceTree} {ts us : List Token} → NamedPlace types p ts us → BeginsOperand types ts
named_begins (g.variable v) = a_variable v
named_begins (g.field v o n) = a_variable v
named_begins (g.st v s o x c) = a_variable v

pub operand_begins : {types : List (List ℕ)} {a : ExprTree} {ts us : List Token} → Operand types a ts us → BeginsOperand types ts
operand_begins (g.index x o y c) = operand_begins x
operand_begins (g.after p s) = named_begins p
operand_begins (g.is_primary x) = primary_begins x

unary_begins : {types : List (List ℕ)} {a : ExprTree} {ts us : List Token} → Unary types a ts us → Begins types ts
unary_begins (g.prefixed o x) = a_prefix o
unary_begins (g.cast o ty c x) = an_operand (opens o)
unary_begins (g.dereferenced s x) = a_star s
unary_begins (g.address o v) = an_and o
unary_begins (g.before s p) = a_step s
unary_begins (g.is_operand x) = an_operand (operand_begins x)

binary_begins : {types : List (List ℕ)} {n : ℕ} {a : ExprTree} {ts us : List Token} → Binary types n a ts us → Begins types ts
binary_begins (g.two x o le y) = binary_begins x
binary_begins (g.is_unary x) = unary_begins x

choice_begins : {types : List (List ℕ)} {a : ExprTree} {ts us : List Token} → Choice types a ts us → Begins types ts
choice_begins (g.choose x o y c z) = binary_begins x
choice_begins (g.is_binary x) = binary_begins x

place_begins : {types : List (List ℕ)} {p : PlaceTree} {ts us : List Token} → Place types p ts us → Begins types ts
place_begins (g.target s v) = a_star s
place_begins (g.is_named x) = an_operand (named_begins x)

pub whole_begins : {types : List (List ℕ)} {a : ExprTree} {ts us : List Token} → Whole types a ts us → Begins types ts
whole_begins (g.set p o x) = place_begins p
whole_begins (g.is_choice x) = choice_begins x

pub listed_begins : {types : List (List ℕ)} {all : ExprTrees} {ts us : List Token} → Listed types all ts us → Begins types ts
listed_begins (g.last x c) = whole_begins x
listed_begins (g.more x c y) = whole_begins x

-- An operand begins with no operator.
pub record NoOperator (ts : List Token) : Type 0 where
  pub no_prefix : first_in prefix_ops ts ≡ None
  pub no_step : first_in steps ts ≡ None
  pub no_star : Stop (codes "*") ts
  pub no_and : Stop (codes "&") ts

open_word : (listed prefix_ops (codes "(") ≡ None) × (listed steps (codes "(") ≡ None)
unfolding prefix_ops steps
open_word = (refl, refl)

no_punct_starts : (t : Token) (ts : List Token) → is_punct_kind t.kind ≡ false → NoOperator (t ∷ ts)
no_punct_starts t ts other = record {
  no_prefix = no_sign_row prefix_ops t other;
  no_step = no_sign_row steps t other;
  no_star = no_mark (codes "*") t other;
  no_and = no_mark (codes "&") t other;
}

pub no_operator : {types : List (List ℕ)} {ts : List Token} → BeginsOperand types ts → NoOperator ts
no_operator {types} (a_variable {t = t} {ts = ts} v) = no_punct_starts t ts (ap is_punct_kind (name_kind t (variable_name types t v)))
no_operator (a_literal {t = t} {ts = ts} p w) = no_punct_starts t ts p
no_operator (int2ptr {t = t} {ts = ts} w) = no_punct_starts t ts (ap is_punct_kind (is_word_of (codes "INT2PTR") t w).0)
no_operator (opens {t = t} {ts = ts} o) =
    let text = (is_sign_of (codes "(") t o).1 in
    record {
      no_prefix = no_row prefix_ops t (rw text (open_word.0));
      no_step = no_row steps t (rw text (open_word.1));
      no_star = marks (codes "(") (codes "*") t o;
      no_and = marks (codes "(") (codes "&") t o;
    }

-- no expression begins with this punctuator
abbrev pub NoStart : List ℕ → Type 0
NoStart m = (listed prefix_ops m ≡ None) × (listed steps m ≡ None) × (bytes_eq (codes "*") m ≡ false) × (bytes_eq (codes "&") m ≡ false)
    × (bytes_eq (codes "(") m ≡ false)

other_sign : {V : Type 0} (table : List (List ℕ × V)) (m : List ℕ) (t : Token) (v : V) → listed table m ≡ None → sign_in table t ≡ Some v → is_sign m t ≡ false
other_sign {V} table m t v none e = false_from_ne_true (is_sign m t) (λ is.
    let k = is_sign_of m t is in
    let same : sign_in table t ≡ listed table m = rw (k.0, k.1) refl in
    none-some v (sym none ∙ (sym same ∙ e)))

pub starts_no_mark : {types : List (List ℕ)} (m : List ℕ) {ts : List Token} → NoStart m → Begins types ts → Stop m ts
starts_no_mark {types} m isnt (an_operand (a_variable {t = t} v)) = name_no_mark m t (variable_name types t v)
starts_no_mark m isnt (an_operand (a_literal {t = t} p w)) = no_mark m t p
starts_no_mark m isnt (an_operand (int2ptr {t = t} w)) = word_no_mark (codes "INT2PTR") m t w
starts_no_mark m isnt (an_operand (opens {t = t} o)) = marks (codes "(") m t o ∙ isnt.4
starts_no_mark m isnt (a_prefix {op = op} {t = t} e) = other_sign prefix_ops m t op isnt.0 e
starts_no_mark m isnt (a_step {s = s} {t = t} e) = other_sign steps m t s isnt.1 e
starts_no_mark m isnt (a_star {t = t} o) = marks (codes "*") m t o ∙ isnt.2
starts_no_mark m isnt (an_and {t = t} o) = marks (codes "&") m t o ∙ isnt.3

pub no_close : NoStart (codes ")")
unfolding prefix_ops steps
no_close = (refl, refl, refl, refl, refl)

pub no_semicolon : NoStart (codes ";")
unfolding prefix_ops steps
no_semicolon = (refl, refl, refl, refl, refl)

pub no_brace : NoStart (codes "{")
unfolding prefix_ops steps
no_brace = (refl, refl, refl, refl, refl)

pub no_end_brace : NoStart (codes "}")
unfolding prefix_ops steps
no_end_brace = (refl, refl, refl, refl, refl)

-- a sign in a table is a punctuator
sign_punct : {V : Type 0} (table : List (List ℕ × V)) (t : Token) (v : V) → sign_in table t ≡ Some v → t.kind ≡ kind.Punct
sign_punct {V} table t v e = by t.kind refl e
  where
    by : (k : TokKind) → t.kind ≡ k → ◌≡◌ {A = Option V} (if is_punct_kind k then listed table t.text else None) (Some v) → t.kind ≡ kind.Punct
    by kind.Punct k e = k
    by k is e = absurd cc

no_type_kind : (types : List (List ℕ)) (t : Token) → is_word_kind t.kind ≡ false → is_type types t ≡ false
no_type_kind types t other = and_left (is_word_kind t.kind) (is_type_word t.text || _) other

-- no expression begins with a type
pub starts_no_type : {types : List (List ℕ)} {ts : List Token} → AreNames types → Begins types ts → head_is (is_type types) ts ≡ false
unfolding is_no_name is_type_word
starts_no_type {types} names (an_operand (a_variable {t = t} v)) = variable_no_type types t v
starts_no_type {types} names (an_operand (a_literal {t = t} p w)) = no_type_kind types t w
starts_no_type {types} names (an_operand (int2ptr {t = t} w)) = word_no_type types (codes "INT2PTR") t names w refl refl
starts_no_type {types} names (an_operand (opens {t = t} o)) = mark_no_type types (codes "(") t o
starts_no_type {types} names (a_prefix {op = op} {t = t} e) = no_type_kind types t (ap is_word_kind (sign_punct prefix_ops t op e))
starts_no_type {types} names (a_step {s = s} {t = t} e) = no_type_kind types t (ap is_word_kind (sign_punct steps t s e))
starts_no_type {types} names (a_star {t = t} o) = mark_no_type types (codes "*") t o
starts_no_type {types} names (an_and {t = t} o) = mark_no_type types (codes "&") t o

-- no expression begins with a word of the grammar, but for INT2PTR
pub starts_no_word : {types : List (List ℕ)} (word : List ℕ) {ts : List Token} → is_no_name word ≡ true → bytes_eq (codes "INT2PTR") word ≡ false
    → Begins types ts → head_is (is_word word) ts ≡ false
starts_no_word {types} word isnt other (an_operand (a_variable {t = t} v)) = name_no_word word t (variable_name types t v) isnt
starts_no_word word isnt other (an_operand (a_literal {t = t} p w)) = no_word word t w
starts_no_word word isnt other (an_operand (int2ptr {t = t} w)) = words (codes "INT2PTR") word t w ∙ other
starts_no_word word isnt other (an_operand (opens {t = t} o)) = mark_no_word (codes "(") word t o
starts_no_word word isnt other (a_prefix {op = op} {t = t} e) = no_word word t (ap is_word_kind (sign_punct prefix_ops t op e))
starts_no_word word isnt other (a_step {s = s} {t = t} e) = no_word word t (ap is_word_kind (sign_punct steps t s e))
starts_no_word word isnt other (a_star {t = t} o) = mark_no_word (codes "*") word t o
starts_no_word word isnt other (an_and {t = t} o) = mark_no_word (codes "&") word t o
