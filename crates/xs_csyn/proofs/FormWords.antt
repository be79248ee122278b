-- The words of a form of the XS interface as an expression: where they are going on, they begin one.
use Rattle.std.proofs.Common.{◌≡◌, ℕ, ◌<◌, ◌≤◌, not, true, false, List, [], ◌∷◌, ◌++◌, length, Option, Some, None, Ok, refl, ap, ◌∙◌, arith}
use Rattle.std.proofs.lemmas.Bool.{and_parts, not-true, or_parts}
use Rattle.std.specs.Prelude.{codes}
use Rattle.xs_ctok.specs.declared.token.Literal.{Literal}
use Rattle.xs_ctok.specs.declared.token.TokKind.TheVariants as kind
use Rattle.xs_ctok.specs.declared.token.Token.{Token}
use Rattle.xs_csyn.proofs.ExpressionsComplete.{whole_read}
use Rattle.xs_csyn.proofs.FormSlots.{Going, fits_sign, fits_word, goes_on, int_kind, made, next_fits, sign_spelt, form_slots, text_kind, variable_of}
use Rattle.xs_csyn.proofs.Local.{turned}
use Rattle.xs_csyn.specs.FaultPlaces.{SameNext}
use Rattle.xs_csyn.proofs.Marks.{is_word_of, name_no_mark, name_no_word, sign_row}
use Rattle.xs_csyn.proofs.Starts.{semicolon}
use Rattle.xs_csyn.specs.FileGrammar.{AreNames}
use Rattle.xs_csyn.specs.Grammar as g
use Rattle.xs_csyn.specs.Grammar.{Is, IsVariable, IsWord, MayName, Primary, Whole}
use Rattle.xs_cexpr.specs.ExpressionHeights.{height}
use Rattle.xs_cinput.specs.Operators.{assignments, sign_in}
use Rattle.xs_cstmt.specs.PerlForms.{is_int, is_no_operand, is_one}
use Rattle.xs_csyn.specs.TokenTexts.{AreSpelt, IsSpelt}
use Rattle.xs_cstmt.specs.StatementReader.{an_expr, effect, max_nesting, plain}
use Rattle.xs_cexpr.specs.ExpressionTree as tree_expr
use Rattle.xs_cstmt.specs.StatementTree as tree_stmt
use Rattle.xs_cexpr.specs.ExpressionTree.{ExprTree}
use Rattle.xs_cinput.specs.TokenInput.{Input, expect, is_sign, is_type, is_word_kind, line, next, sees, sees_word}
use Rattle.xs_ctok.specs.CWords.{is_no_name}
use Rattle.xs_cstmt.specs.declared.forms.Form.{Form}
use Rattle.xs_cstmt.specs.declared.forms.Form.TheVariants as the
use Rattle.xs_values.specs.declared.operator.Op.{Op}
use Rattle.xs_values.specs.declared.operator.Op.TheVariants as operation

-- ---- an expression as a statement

words_of_statements : (is_no_name (codes "return") ≡ true) × (is_no_name (codes "break") ≡ true) × (is_no_name (codes "continue") ≡ true)
unfolding is_no_name
words_of_statements = (refl, refl, refl)

-- An expression that begins with a name is read as a statement.
pub plain_read : (b : Input) (k : ℕ) (t stop : Token) (ts : List Token) (a : ExprTree) → AreNames b.types → MayName t
    → Whole b.types a (t ∷ ts) (stop ∷ []) → Is (codes ";") stop → height a ≤ max_nesting → length (t ∷ ts) < k
    → plain (turned b k (t ∷ ts)) ≡ Ok (tree_stmt.Effect t.span.line a, turned b k [])
unfolding plain effect an_expr sees sees_word line expect next
plain_read b k t stop ts a names n x semi low few =
    rw (
      name_no_mark (codes ";") t n,
      name_no_word (codes "return") t n words_of_statements.0,
      name_no_word (codes "break") t n words_of_statements.1,
      name_no_word (codes "continue") t n words_of_statements.2,
      whole_read (turned b k (t ∷ ts)) names x max_nesting low few (semicolon stop [] semi),
      semi,
    ) refl

-- ---- what the words of a form go on to

-- With these tokens in front of what is left they begin an expression with a `;` after it.
pub record Completed (room : ℕ) (types : List (List ℕ)) (t : Token) (front rest : List Token) : Type 0 where
  pub a : ExprTree
  pub first : Token
  pub more : List Token
  pub stop : Token
  pub next : SameNext rest (first ∷ more)
  pub whole : Whole types a (t ∷ (front ++ first ∷ more)) (stop ∷ [])
  pub semi : Is (codes ";") stop
  pub lower : height a ≤ room
  pub spelt : AreSpelt (first ∷ more)

pub complete : {room : ℕ} {types : List (List ℕ)} {t : Token} {front rest : List Token} (a : ExprTree) (first : Token) (more : List Token) (stop : Token)
    → SameNext rest (first ∷ more) → Whole types a (t ∷ (front ++ first ∷ more)) (stop ∷ []) → Is (codes ";") stop → height a ≤ room
    → AreSpelt (first ∷ more) → Completed room types t front rest
complete a first more stop e x semi low spelt =
    record { a = a; first = first; more = more; stop = stop; next = e; whole = x; semi = semi; lower = low; spelt = spelt }

raised : {types : List (List ℕ)} {t : Token} {front rest : List Token} → Completed 2 types t front rest → Completed 3 types t front rest
raised y = record {
  a = y.a;
  first = y.first;
  more = y.more;
  stop = y.stop;
  next = y.next;
  whole = y.whole;
  semi = y.semi;
  lower = omega (arith, y.lower);
  spelt = y.spelt;
}

abbrev closing : Token → Token
closing t = made t kind.Punct (codes ")")

abbrev comma : Token → Token
comma t = made t kind.Punct (codes ",")

abbrev pub ending : Token → Token
ending t = made t kind.Punct (codes ";")

close_spelt : (t : Token) → IsSpelt (closing t)
close_spelt t = sign_spelt (closing t) refl refl

pub end_spelt : (t : Token) → IsSpelt (ending t)
end_spelt t = sign_spelt (ending t) refl refl

-- ---- operands of one token

record Atom (types : List (List ℕ)) (v : Token) : Type 0 where
  tree : ExprTree
  low : height tree ≡ 1
  reads : (us : List Token) → Primary types tree (v ∷ us) us

pub as_whole : {types : List (List ℕ)} {a : ExprTree} {ts us : List Token} → Primary types a ts us → Whole types a ts us
as_whole x = g.is_choice (g.is_binary (g.is_unary (g.is_operand (g.is_primary x))))

module _ (types : List (List ℕ)) where
  variable_atom : (v : Token) → IsVariable types v → Atom types v
  variable_atom v is = record { tree = tree_expr.Var v.span.line v.text; low = refl; reads = λ us. g.name is }

  text_atom : (v : Token) (x : List ℕ) → v.kind ≡ kind.Text x → Atom types v
  text_atom v x is = record { tree = tree_expr.Str v.span.line x; low = refl; reads = λ us. g.text is }

  int_atom : (v : Token) (l : Literal) → v.kind ≡ kind.Int l → Atom types v
  int_atom v l is = record { tree = tree_expr.Num v.span.line l; low = refl; reads = λ us. g.int is }

  -- a name that may stand in an expression
  name_here : (v : Token) → MayName v → is_no_operand types v ≡ false → IsVariable types v
  name_here v n other =
      let p = and_parts (is_word_kind v.kind) (not (is_no_name v.text)) n in
      variable_of types v p.0 (not-true (is_no_name v.text) p.1) (or_parts (is_type types v) (is_sign (codes ".") v) other).0

  word_here : (m : List ℕ) (v : Token) → is_no_name m ≡ false → IsWord m v → is_no_operand types v ≡ false → IsVariable types v
  word_here m v n is other =
      let k = is_word_of m v is in
      variable_of types v (ap is_word_kind k.0) (ap is_no_name k.1 ∙ n) (or_parts (is_type types v) (is_sign (codes ".") v) other).0

  -- ---- calls

  call_none : (n o c : Token) (us : List Token) → IsVariable types n → Is (codes "(") o → Is (codes ")") c
      → Whole types (tree_expr.Call n.span.line n.text tree_expr.NoExprs) (n ∷ o ∷ c ∷ us) us
  call_none n o c us v is close = as_whole (g.call v is (g.none close))

  call_one : (n o x c : Token) (us : List Token) → IsVariable types n → Is (codes "(") o → (a : Atom types x) → Is (codes ")") c
      → Whole types (tree_expr.Call n.span.line n.text (tree_expr.MoreExprs a.tree tree_expr.NoExprs)) (n ∷ o ∷ x ∷ c ∷ us) us
  call_one n o x c us v is a close = as_whole (g.call v is (g.some (g.last (as_whole (a.reads (c ∷ us))) close)))

  call_two : (n o x m y c : Token) (us : List Token) → IsVariable types n → Is (codes "(") o → (a : Atom types x) → Is (codes ",") m → (d : Atom types y)
      → Is (codes ")") c
      → Whole types (tree_expr.Call n.span.line n.text (tree_expr.MoreExprs a.tree (tree_expr.MoreExprs d.tree tree_expr.NoExprs)))
      (n ∷ o ∷ x ∷ m ∷ y ∷ c ∷ us) us
  call_two n o x m y c us v is a sep d close =
      as_whole (g.call v is (g.some (g.more (as_whole (a.reads (m ∷ y ∷ c ∷ us))) sep (g.last (as_whole (d.reads (c ∷ us))) close))))

  call_three : (n o x m y w z c : Token) (us : List Token) → IsVariable types n → Is (codes "(") o → (a : Atom types x) → Is (codes ",") m → (d : Atom types y)
      → Is (codes ",") w → (f : Atom types z) → Is (codes ")") c
      → Whole types (tree_expr.Call n.span.line n.text (tree_expr.MoreExprs a.tree (tree_expr.MoreExprs d.tree (tree_expr.MoreExprs f.tree tree_expr.NoExprs))))
      (n ∷ o ∷ x ∷ m ∷ y ∷ w ∷ z ∷ c ∷ us) us
  call_three n o x m y w z c us v is a sep d sep' f close =
      as_whole (g.call v is (g.some (g.more (as_whole (a.reads (m ∷ y ∷ w ∷ z ∷ c ∷ us))) sep
      (g.more (as_whole (d.reads (w ∷ z ∷ c ∷ us))) sep' (g.last (as_whole (f.reads (c ∷ us))) close)))))

  none_done : (n o : Token) (ws : List Token) → IsVariable types n → Is (codes "(") o → IsSpelt o → Completed 2 types n [] (o ∷ ws)
  none_done n o ws v is x =
      complete (tree_expr.Call n.span.line n.text tree_expr.NoExprs) o (closing n ∷ ending n ∷ []) (ending n) refl
      (call_none n o (closing n) (ending n ∷ []) v is refl) refl (omega arith) (x, (close_spelt n, (end_spelt n, tt)))

  one_done : (n o w : Token) (ws : List Token) → IsVariable types n → Is (codes "(") o → Atom types w → IsSpelt w → Completed 2 types n (o ∷ []) (w ∷ ws)
  one_done n o w ws v is a x =
      complete _ w (closing n ∷ ending n ∷ []) (ending n) refl (call_one n o w (closing n) (ending n ∷ []) v is a refl) refl (omega (arith, a.low))
      (x, (close_spelt n, (end_spelt n, tt)))

  one_closed : (n o y w : Token) (ws : List Token) → IsVariable types n → Is (codes "(") o → Atom types y → Is (codes ")") w → IsSpelt w
      → Completed 2 types n (o ∷ y ∷ []) (w ∷ ws)
  one_closed n o y w ws v is a close x =
      complete _ w (ending n ∷ []) (ending n) refl (call_one n o y w (ending n ∷ []) v is a close) refl (omega (arith, a.low)) (x, (end_spelt n, tt))

  one_ended : (n o y c w : Token) (ws : List Token) → IsVariable types n → Is (codes "(") o → Atom types y → Is (codes ")") c → Is (codes ";") w → IsSpelt w
      → Completed 2 types n (o ∷ y ∷ c ∷ []) (w ∷ ws)
  one_ended n o y c w ws v is a close semi x =
      complete _ w [] w refl (call_one n o y c (w ∷ []) v is a close) semi (omega (arith, a.low)) (x, tt)

  two_begun : (n o y w : Token) (ws : List Token) → IsVariable types n → IsSpelt n → Is (codes "(") o → Atom types y → Is (codes ",") w → IsSpelt w
      → Completed 2 types n (o ∷ y ∷ []) (w ∷ ws)
  two_begun n o y w ws v s is a sep x =
      complete _ w (n ∷ closing n ∷ ending n ∷ []) (ending n) refl
      (call_two n o y w n (closing n) (ending n ∷ []) v is a sep (variable_atom n v) refl) refl (omega (arith, a.low, (variable_atom n v).low)) (
        x,
        (
          s,
          (close_spelt n, (end_spelt n, tt)),
        ),
      )

  two_done : (n o y m w : Token) (ws : List Token) → IsVariable types n → Is (codes "(") o → Atom types y → Is (codes ",") m → Atom types w → IsSpelt w
      → Completed 2 types n (o ∷ y ∷ m ∷ []) (w ∷ ws)
  two_done n o y m w ws v is a sep d x =
      complete _ w (closing n ∷ ending n ∷ []) (ending n) refl (call_two n o y m w (closing n) (ending n ∷ []) v is a sep d refl) refl
      (omega (arith, a.low, d.low)) (x, (close_spelt n, (end_spelt n, tt)))

  two_closed : (n o y m z w : Token) (ws : List Token) → IsVariable types n → Is (codes "(") o → Atom types y → Is (codes ",") m → Atom types z
      → Is (codes ")") w → IsSpelt w → Completed 2 types n (o ∷ y ∷ m ∷ z ∷ []) (w ∷ ws)
  two_closed n o y m z w ws v is a sep d close x =
      complete _ w (ending n ∷ []) (ending n) refl (call_two n o y m z w (ending n ∷ []) v is a sep d close) refl (omega (arith, a.low, d.low))
      (x, (end_spelt n, tt))

  two_ended : (n o y m z c w : Token) (ws : List Token) → IsVariable types n → Is (codes "(") o → Atom types y → Is (codes ",") m → Atom types z
      → Is (codes ")") c → Is (codes ";") w → IsSpelt w → Completed 2 types n (o ∷ y ∷ m ∷ z ∷ c ∷ []) (w ∷ ws)
  two_ended n o y m z c w ws v is a sep d close semi x =
      complete _ w [] w refl (call_two n o y m z c (w ∷ []) v is a sep d close) semi (omega (arith, a.low, d.low)) (x, tt)

  -- ---- the forms

  new_xs_done : (n : Token) → IsVariable types n → IsSpelt n → {front rest : List Token} → Going types (form_slots the.NewXs) front rest
      → Completed 2 types n front rest
  new_xs_done n v s (next_fits {w = w} {ws = ws} f o x) = none_done n w ws v (fits_sign (codes "(") w refl f x) x
  new_xs_done n v s (goes_on {v = c} f o x (next_fits {w = w} {ws = ws} f1 o1 x1)) =
      let k = text_kind w.kind f1 in one_done n c w ws v (fits_sign (codes "(") c refl f x) (text_atom w k.0 k.1) x1
  new_xs_done n v s (goes_on {v = c} f o x (goes_on {v = d} f1 o1 x1 (next_fits {w = w} {ws = ws} f2 o2 x2))) =
      let k = text_kind d.kind f1 in
      two_begun n c d w ws v s (fits_sign (codes "(") c refl f x) (text_atom d k.0 k.1) (fits_sign (codes ",") w refl f2 x2) x2
  new_xs_done n v s (goes_on {v = c} f o x (goes_on {v = d} f1 o1 x1 (goes_on {v = e} f2 o2 x2 (next_fits {w = w} {ws = ws} f3 o3 x3)))) =
      let k = text_kind d.kind f1 in
      two_done n c d e w ws v (fits_sign (codes "(") c refl f x) (text_atom d k.0 k.1) (fits_sign (codes ",") e refl f2 x2) (variable_atom w f3) x3
  new_xs_done n v s
      (goes_on {v = c} f o x (goes_on {v = d} f1 o1 x1 (goes_on {v = e} f2 o2 x2 (goes_on {v = h} f3 o3 x3 (next_fits {w = w} {ws = ws} f4 o4 x4))))) =
      let k = text_kind d.kind f1 in
      two_closed n c d e h w ws v (fits_sign (codes "(") c refl f x) (text_atom d k.0 k.1) (fits_sign (codes ",") e refl f2 x2) (variable_atom h f3)
      (fits_sign (codes ")") w refl f4 x4) x4
  new_xs_done n v s
      (goes_on {v = c} f o x (goes_on {v = d} f1 o1 x1 (goes_on {v = e} f2 o2 x2 (goes_on {v = h} f3 o3 x3
      (goes_on {v = i} f4 o4 x4 (next_fits {w = w} {ws = ws} f5 o5 x5)))))) =
      let k = text_kind d.kind f1 in
      two_ended n c d e h i w ws v (fits_sign (codes "(") c refl f x) (text_atom d k.0 k.1) (fits_sign (codes ",") e refl f2 x2) (variable_atom h f3)
      (fits_sign (codes ")") i refl f4 x4) (fits_sign (codes ";") w refl f5 x5) x5
  new_xs_done n v s {rest = rest} (goes_on {v = c} f o x (goes_on {v = d} f1 o1 x1 (goes_on {v = e} f2 o2 x2 (goes_on {v = h} f3 o3 x3
      (goes_on {v = i} f4 o4 x4 (goes_on {front = front} f9 o9 x9 going)))))) = elim going [ ]

  unused_done : (n : Token) → IsVariable types n → {front rest : List Token} → Going types (form_slots the.Unused) front rest → Completed 2 types n front rest
  unused_done n v (next_fits {w = w} {ws = ws} f o x) = none_done n w ws v (fits_sign (codes "(") w refl f x) x
  unused_done n v (goes_on {v = c} f o x (next_fits {w = w} {ws = ws} f1 o1 x1)) =
      one_done n c w ws v (fits_sign (codes "(") c refl f x) (variable_atom w f1) x1
  unused_done n v (goes_on {v = c} f o x (goes_on {v = d} f1 o1 x1 (next_fits {w = w} {ws = ws} f2 o2 x2))) =
      one_closed n c d w ws v (fits_sign (codes "(") c refl f x) (variable_atom d f1) (fits_sign (codes ")") w refl f2 x2) x2
  unused_done n v (goes_on {v = c} f o x (goes_on {v = d} f1 o1 x1 (goes_on {v = e} f2 o2 x2 (next_fits {w = w} {ws = ws} f3 o3 x3)))) =
      one_ended n c d e w ws v (fits_sign (codes "(") c refl f x) (variable_atom d f1) (fits_sign (codes ")") e refl f2 x2) (fits_sign
      (codes ";") w refl f3 x3) x3
  unused_done n v {rest = rest} (goes_on {v = c} f o x (goes_on {v = d} f1 o1 x1 (goes_on {v = e} f2 o2 x2
      (goes_on {front = front} f9 o9 x9 going)))) = elim going [ ]

  one_is : (v : Token) → is_one v ≡ true → Atom types v
  one_is v f = let k = int_kind v.kind (and_parts (is_int v) _ f).0 in int_atom v k.0 k.1

  record_done : (n : Token) → IsVariable types n → IsSpelt n → {front rest : List Token} → Going types (form_slots the.NewRecord) front rest
      → Completed 2 types n front rest
  record_done n v s (next_fits {w = w} {ws = ws} f o x) = none_done n w ws v (fits_sign (codes "(") w refl f x) x
  record_done n v s (goes_on {v = c} f o x (next_fits {w = w} {ws = ws} f1 o1 x1)) =
      one_done n c w ws v (fits_sign (codes "(") c refl f x) (variable_atom w f1) x1
  record_done n v s (goes_on {v = c} f o x (goes_on {v = d} f1 o1 x1 (next_fits {w = w} {ws = ws} f2 o2 x2))) =
      two_begun n c d w ws v s (fits_sign (codes "(") c refl f x) (variable_atom d f1) (fits_sign (codes ",") w refl f2 x2) x2
  record_done n v s (goes_on {v = c} f o x (goes_on {v = d} f1 o1 x1 (goes_on {v = e} f2 o2 x2 (next_fits {w = w} {ws = ws} f3 o3 x3)))) =
      two_done n c d e w ws v (fits_sign (codes "(") c refl f x) (variable_atom d f1) (fits_sign (codes ",") e refl f2 x2) (one_is w f3) x3
  record_done n v s
      (goes_on {v = c} f o x (goes_on {v = d} f1 o1 x1 (goes_on {v = e} f2 o2 x2 (goes_on {v = h} f3 o3 x3 (next_fits {w = w} {ws = ws} f4 o4 x4))))) =
      let a = one_is h f3 in
      complete _ w (n ∷ closing n ∷ ending n ∷ []) (ending n) refl
      (call_three n c d e h w n (closing n) (ending n ∷ []) v (fits_sign (codes "(") c refl f x) (variable_atom d f1) (fits_sign (codes ",") e refl f2 x2) a
      (fits_sign (codes ",") w refl f4 x4) (variable_atom n v) refl)
      refl (omega (arith, a.low, (variable_atom n v).low, (variable_atom d f1).low)) (x4, (s, (close_spelt n, (end_spelt n, tt))))
  record_done n v s
      (goes_on {v = c} f o x (goes_on {v = d} f1 o1 x1 (goes_on {v = e} f2 o2 x2 (goes_on {v = h} f3 o3 x3
      (goes_on {v = i} f4 o4 x4 (next_fits {w = w} {ws = ws} f5 o5 x5)))))) =
      let a = one_is h f3 in
      complete _ w (closing n ∷ ending n ∷ []) (ending n) refl
      (call_three n c d e h i w (closing n) (ending n ∷ []) v (fits_sign (codes "(") c refl f x) (variable_atom d f1) (fits_sign (codes ",") e refl f2 x2) a
      (fits_sign (codes ",") i refl f4 x4) (variable_atom w (name_here w f5 o5)) refl)
      refl (omega (arith, a.low, (variable_atom w (name_here w f5 o5)).low, (variable_atom d f1).low)) (x5, (close_spelt n, (end_spelt n, tt)))
  record_done n v s
      (goes_on {v = c} f o x (goes_on {v = d} f1 o1 x1 (goes_on {v = e} f2 o2 x2 (goes_on {v = h} f3 o3 x3
      (goes_on {v = i} f4 o4 x4 (goes_on {v = j} f5 o5 x5 (next_fits {w = w} {ws = ws} f6 o6 x6))))))) =
      let a = one_is h f3 in
      complete _ w (ending n ∷ []) (ending n) refl
      (call_three n c d e h i j w (ending n ∷ []) v (fits_sign (codes "(") c refl f x) (variable_atom d f1) (fits_sign (codes ",") e refl f2 x2) a
      (fits_sign (codes ",") i refl f4 x4) (variable_atom j (name_here j f5 o5)) (fits_sign (codes ")") w refl f6 x6))
      refl (omega (arith, a.low, (variable_atom j (name_here j f5 o5)).low, (variable_atom d f1).low)) (x6, (end_spelt n, tt))
  record_done n v s
      (goes_on {v = c} f o x (goes_on {v = d} f1 o1 x1 (goes_on {v = e} f2 o2 x2 (goes_on {v = h} f3 o3 x3
      (goes_on {v = i} f4 o4 x4 (goes_on {v = j} f5 o5 x5 (goes_on {v = l} f6 o6 x6 (next_fits {w = w} {ws = ws} f7 o7 x7)))))))) =
      let a = one_is h f3 in
      complete _ w [] w refl
      (call_three n c d e h i j l (w ∷ []) v (fits_sign (codes "(") c refl f x) (variable_atom d f1) (fits_sign (codes ",") e refl f2 x2) a
      (fits_sign (codes ",") i refl f4 x4) (variable_atom j (name_here j f5 o5)) (fits_sign (codes ")") l refl f6 x6))
      (fits_sign (codes ";") w refl f7 x7) (omega (arith, a.low, (variable_atom j (name_here j f5 o5)).low, (variable_atom d f1).low)) (x7, tt)
  record_done n v s {rest = rest} (goes_on {v = c} f o x (goes_on {v = d} f1 o1 x1 (goes_on {v = e} f2 o2 x2 (goes_on {v = h} f3 o3 x3
      (goes_on {v = i} f4 o4 x4 (goes_on {v = j} f5 o5 x5 (goes_on {v = l} f6 o6 x6 (goes_on {front = front} f9 o9 x9 going)))))))) = elim going [ ]

  -- ---- assignments

  set_of : (v u : Token) (op : Option Op) {a : ExprTree} {us vs : List Token} → IsVariable types v → sign_in assignments u ≡ Some op → Whole types a us vs
      → Whole types (tree_expr.Set v.span.line (tree_expr.VarPlace v.span.line v.text) op a) (v ∷ u ∷ us) vs
  set_of v u op is e x = g.set (g.is_named (g.variable is)) e x

  minus_is : (u : Token) → Is (codes "-=") u → sign_in assignments u ≡ Some (Some operation.Subtract)
  unfolding assignments
  minus_is u is = sign_row assignments (codes "-=") u is

  equals_is : (u : Token) → Is (codes "=") u → sign_in assignments u ≡ Some None
  unfolding assignments
  equals_is u is = sign_row assignments (codes "=") u is

  names_of_forms : (is_no_name (codes "items") ≡ false) × (is_no_name (codes "newXS_deffile") ≡ false)
  unfolding is_no_name
  names_of_forms = (refl, refl)

  reset_done : (n : Token) → IsVariable types n → IsSpelt n → {front rest : List Token} → Going types (form_slots the.ResetStack) front rest
      → Completed 2 types n front rest
  reset_done n v s (next_fits {w = w} {ws = ws} f o x) =
      complete _ w (n ∷ ending n ∷ []) (ending n) refl
      (set_of n w _ v (minus_is w (fits_sign (codes "-=") w refl f x)) (as_whole (g.name v))) refl (omega arith) (x, (s, (end_spelt n, tt)))
  reset_done n v s (goes_on {v = c} f o x (next_fits {w = w} {ws = ws} f1 o1 x1)) =
      complete _ w (ending n ∷ []) (ending n) refl
      (set_of n c _ v (minus_is c (fits_sign (codes "-=") c refl f x))
      (as_whole (g.name (word_here (codes "items") w names_of_forms.0 (fits_word (codes "items") w refl f1 x1) o1)))) refl (omega arith) (x1, (end_spelt n, tt))
  reset_done n v s (goes_on {v = c} f o x (goes_on {v = d} f1 o1 x1 (next_fits {w = w} {ws = ws} f2 o2 x2))) =
      complete _ w [] w refl
      (set_of n c _ v (minus_is c (fits_sign (codes "-=") c refl f x))
      (as_whole (g.name (word_here (codes "items") d names_of_forms.0 (fits_word (codes "items") d refl f1 x1) o1))))
      (fits_sign (codes ";") w refl f2 x2) (omega arith) (x2, tt)
  reset_done n v s {rest = rest} (goes_on {v = c} f o x (goes_on {v = d} f1 o1 x1 (goes_on {front = front} f9 o9 x9 going))) = elim going [ ]

  kept_done : (n : Token) → IsVariable types n → IsSpelt n → {front rest : List Token} → Going types (form_slots the.KeptNewXs) front rest
      → Completed 3 types n front rest
  kept_done n v s (next_fits {w = w} {ws = ws} f o x) =
      complete _ w (n ∷ ending n ∷ []) (ending n) refl
      (set_of n w _ v (equals_is w (fits_sign (codes "=") w refl f x)) (as_whole (g.name v))) refl (omega arith) (x, (s, (end_spelt n, tt)))
  kept_done n v s (goes_on {v = c} f o x (next_fits {w = w} {ws = ws} f1 o1 x1)) =
      complete _ w (ending n ∷ []) (ending n) refl
      (set_of n c _ v (equals_is c (fits_sign (codes "=") c refl f x))
      (as_whole (g.name (word_here (codes "newXS_deffile") w names_of_forms.1 (fits_word (codes "newXS_deffile") w refl f1 x1) o1))))
      refl (omega arith) (x1, (end_spelt n, tt))
  kept_done n v s (goes_on {v = c} f o x (goes_on {v = d} f1 o1 x1 going)) =
      let y = new_xs_done d (word_here (codes "newXS_deffile") d names_of_forms.1 (fits_word (codes "newXS_deffile") d refl f1 x1) o1) x1 going in
      complete _ y.first y.more y.stop y.next (set_of n c None v (equals_is c (fits_sign (codes "=") c refl f x)) y.whole) y.semi (omega
      (arith, y.lower)) y.spelt

  no_point : (v : Token) → is_no_operand types v ≡ false → Is (codes ".") v → ⊥
  no_point v o is = let n = (or_parts (is_type types v) (is_sign (codes ".") v) o).1 in absurd cc

  -- Where the words of a form are going on, they begin an expression.
  pub form_done : (which : Form) (n : Token) → IsVariable types n → IsSpelt n → {front rest : List Token} → Going types (form_slots which) front rest
      → Completed 3 types n front rest
  form_done (the.Word p) n v s (next_fits {w = w} {ws = ws} f o x) =
      complete _ w [] w refl (as_whole (g.name v)) (fits_sign (codes ";") w refl f x) (omega arith) (x, tt)
  form_done (the.Word p) n v s {rest = rest} (goes_on {v = c} {front = front} f o x going) = elim going [ ]
  form_done the.ResetStack n v s going = raised (reset_done n v s going)
  form_done the.SetIndex n v s (next_fits {w = w} f o x) = absurd (no_point w o (fits_sign (codes ".") w refl f x))
  form_done the.SetIndex n v s (goes_on {v = c} f o x going) = absurd (no_point c o (fits_sign (codes ".") c refl f x))
  form_done the.NewXs n v s going = raised (new_xs_done n v s going)
  form_done the.KeptNewXs n v s going = kept_done n v s going
  form_done the.NewRecord n v s going = raised (record_done n v s going)
  form_done the.Unused n v s going = raised (unused_done n v going)
