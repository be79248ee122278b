-- The author's line of an XSUB: the sum that stands there.
use Rattle.std.proofs.Common.{◌≡◌, ℕ, ◌+◌, ◌≤◌, max, List, [], ◌∷◌, ◌++◌, codes, fold, length, true, append-nil, refl, sym, ap, ap₂, arith}
use Rattle.std.specs.List.{AllByRecursion as All, list_all}
use Rattle.std.specs.Prelude.{None}
use Rattle.xs_base.specs.Scanning.{is_blank}
use Rattle.xs_ctok.specs.LineSpelling.{span_at}
use Rattle.xs_ctok.specs.Tokens.{token_at}
use Rattle.xs_ctok.specs.declared.token.TokKind.TheVariants as kind
use Rattle.xs_ctok.specs.declared.token.Token.{Token}
use Rattle.xs_csyn.specs.Grammar as g
use Rattle.xs_csyn.specs.Grammar.{Binary, Unary, line_of}
use Rattle.xs_cexpr.specs.ExpressionHeights.{height}
use Rattle.xs_cinput.specs.Operators.{assignments, binary_ops}
use Rattle.xs_cstmt.specs.PerlForms.{forms}
use Rattle.xs_csyn.specs.StatementGrammar as s
use Rattle.xs_cexpr.specs.ExpressionTree.{ExprTree, Set, Two, VarPlace, unlined_expr}
use Rattle.xs_cstmt.specs.StatementTree.{Effect, StmtTree}
use Rattle.xs_ctok.specs.CWords.{is_no_name, is_type_word}
use Rattle.xs_cinput.specs.declared.tree.BinaryOp.TheVariants as binary
use Rattle.xs_iface.specs.declared.xsub.Param.{Param}
use Rattle.xs_iface.specs.declared.xsub.Term.{Term}
use Rattle.xs_iface.specs.declared.xsub.Term.TheVariants.{Literal, Parameter}
use Rattle.xs_iface.specs.declared.xsub.Xsub.{Xsub}
use Rattle.xs_stub.proofs.GlueLines.{more_terms, sum_line, sum_line-is, sum_lines}
use Rattle.xs_stub.proofs.GlueWords.{IsSpelled, kind_of_term}
use Rattle.xs_stub.proofs.LinePieces.{piece_tokens}
use Rattle.xs_stub.proofs.Standing.{Body, Stand, regrouped, with_part}
use Rattle.xs_stub.proofs.StatementsStand.{operand, variable_token}
use Rattle.xs_stub.specs.Intended.{assign, sum_of, term_tree}
use Rattle.xs_stub.specs.Stub.{term_text}
use Rattle.xs_values.specs.declared.operator.Op.TheVariants as op

-- ---- the expression

-- the token of a term
abbrev term_token : ℕ → ℕ → List Param → Term → Token
term_token n col params t = token_at (kind_of_term t) (span_at n col) (term_text params t)

-- the tokens after a term, which ends before this column
abbrev after_term : ℕ → ℕ → List Param → List Term → List Token → List Token
after_term n col params ts rest = piece_tokens n col (more_terms params ts) ++ rest

-- A sum stands there, whatever operator binds less around it. It is this one but for lines, and is not taller than so many nodes.
record SumIs (e : ExprTree) (tall : ℕ) (ts us : List Token) : Type 0 where
  tree : ExprTree
  stands : (k : ℕ) → k ≤ 9 → Binary [] k tree ts us
  same : unlined_expr tree ≡ unlined_expr e
  low : height tree ≤ tall

raised : {e : ExprTree} {a b : ℕ} {ts us : List Token} → a ≤ b → SumIs e a ts us → SumIs e b ts us
raised le x = record { tree = x.tree; stands = x.stands; same = x.same; low = omega (arith, le, x.low) }

term_stands : (n col : ℕ) (params : List Param) (t : Term) (ts : List Token) → IsSpelled params t
    → Unary [] (term_tree params n t) (term_token n col params t ∷ ts) ts
term_stands n col params (Parameter at) ts w = operand (g.name (variable_token n col _ w.named))
term_stands n col params (Literal value) ts w = operand (g.int refl)

term_same : (n m : ℕ) (params : List Param) (t : Term) → unlined_expr (term_tree params n t) ≡ unlined_expr (term_tree params m t)
term_same n m params (Parameter at) = refl
term_same n m params (Literal value) = refl

term_height : (n : ℕ) (params : List Param) (t : Term) → height (term_tree params n t) ≡ 1
term_height n params (Parameter at) = refl
term_height n params (Literal value) = refl

taller : (a b h : ℕ) → a ≤ h → b ≡ 1 → 1 ≤ h → max a b + 1 ≤ h + 1
taller a b h le is some = omega (arith, le, is, some)

-- a sum and a term after it
longer_sum : (n col m : ℕ) (params : List Param) (u : Term) (e : ExprTree) (tall : ℕ) (ts rest : List Token) → IsSpelled params u → 1 ≤ tall
    → SumIs e tall ts (token_at kind.Punct (span_at n (col + 1)) (codes "+") ∷ term_token n (col + 1 + 1 + 1) params u ∷ rest)
    → SumIs (Two m (binary.On op.Add) e (term_tree params m u)) (tall + 1) ts rest
unfolding binary_ops
longer_sum n col m params u e tall ts rest w some x = record {
  tree = Two (line_of x.tree) (binary.On op.Add) x.tree (term_tree params n u);
  stands = λ k le. g.two (x.stands 9 (omega arith)) refl le (g.is_unary (term_stands n (col + 1 + 1 + 1) params u rest w));
  same = ap₂ (Two 0 (binary.On op.Add)) x.same (term_same n m params u);
  low = taller (height x.tree) (height (term_tree params n u)) tall x.low (term_height n params u) some;
}

-- the sum of the terms so far and of those that follow
abbrev longer : ℕ → List Param → ExprTree → List Term → ExprTree
longer m params e us = fold (λ sum term. Two m (binary.On op.Add) sum (term_tree params m term)) e us

-- what stands after a sum makes it longer
grown : (n col m : ℕ) (params : List Param) (us : List Term) (e : ExprTree) (tall : ℕ) (ts rest : List Token) → All (IsSpelled params) us → 1 ≤ tall
    → SumIs e tall ts (after_term n col params us rest)
    → (end : ℕ) × SumIs (longer m params e us) (tall + length us) ts (token_at kind.Punct (span_at n end) (codes ";") ∷ rest)
grown n col m params [] e tall ts rest spelled some x = (col, raised (omega arith) x)
grown n col m params (u ∷ us) e tall ts rest spelled some x =
    let next : ℕ = col + 1 + 1 + 1 + length (term_text params u) in
    let more = grown n next m params us (Two m (binary.On op.Add) e (term_tree params m u)) (tall + 1) ts rest spelled.1 (omega arith)
    (longer_sum n col m params u e tall ts (after_term n next params us rest) spelled.0 some x) in
    (more.0, raised (omega arith) more.1)

-- ---- the statement

first_sum : (n col m : ℕ) (params : List Param) (t : Term) (ts : List Token) → IsSpelled params t
    → SumIs (term_tree params m t) 1 (term_token n col params t ∷ ts) ts
first_sum n col m params t ts w = record {
  tree = term_tree params n t;
  stands = λ k le. g.is_unary (term_stands n col params t ts w);
  same = term_same n m params t;
  low = omega (arith, term_height n params t);
}

-- RETVAL gets a sum, in front of other statements
sum_first : (n a b c d m deep : ℕ) (params : List Param) (t : Term) (ts : List Term) (rest : List StmtTree) (vs us : List Token) → IsSpelled params t
    → All (IsSpelled params) ts → length (t ∷ ts) ≤ 32 → Body deep rest vs us
    → Body deep (assign m (codes "RETVAL") (longer m params (term_tree params m t) ts) ∷ rest)
    (token_at kind.Word (span_at n a) (codes "RETVAL") ∷ token_at kind.Punct (span_at n b) (codes "=") ∷ term_token n c params t
    ∷ after_term n d params ts vs) us
unfolding assignments forms is_type_word is_no_name
sum_first n a b c d m deep params t ts rest vs us w ws few h =
    let sum = grown n d m params ts (term_tree params m t) 1 (term_token n c params t ∷ after_term n d params ts vs) vs ws (omega arith)
    (first_sum n c m params t (after_term n d params ts vs) w) in
    let x = sum.1 in
    with_part (Effect n (Set n (VarPlace n (codes "RETVAL")) None x.tree)) (assign m (codes "RETVAL") (longer m params (term_tree params m t) ts))
    (s.stated (s.effect refl (g.set (g.is_named (g.variable refl)) refl (g.is_choice (g.is_binary (x.stands 1 (omega arith))))) refl))
    (ap (λ e. Effect 0 (Set 0 (VarPlace 0 (codes "RETVAL")) None e)) x.same) (omega arith) (omega (arith, x.low, few)) h

sum_line_stands : (m : ℕ) (params : List Param) (indent : List ℕ) (t : Term) (ts : List Term) → list_all is_blank indent ≡ true → IsSpelled params t
    → All (IsSpelled params) ts → length (t ∷ ts) ≤ 32 → Stand (sum_line params indent (t ∷ ts) ∷ []) (sum_of params m (t ∷ ts))
sum_line_stands m params indent t ts blanks w ws few = record {
  fine = (sum_line-is params indent t ts blanks w ws, tt);
  onto = λ n k rest vs h.
      regrouped refl (ap (λ (l : List Token). l ++ vs) (sym (append-nil (piece_tokens n 1 (sum_line params indent (t ∷ ts))))))
      (sum_first n _ _ _ _ m k.0 params t ts rest vs k.1 w ws few h);
}

-- The author's line is the sum.
pub sum_stands : (m : ℕ) (x : Xsub) (t : Term) (ts : List Term) → x.sum ≡ t ∷ ts → list_all is_blank x.indent ≡ true
    → All (IsSpelled x.params) x.sum → length x.sum ≤ 32 → Stand (sum_lines x) (sum_of x.params m x.sum)
sum_stands m x t ts e blanks spelled few = by x.sum e spelled few
  where
    by : (sum : List Term) → sum ≡ t ∷ ts → All (IsSpelled x.params) sum → length sum ≤ 32
        → Stand (sum_line x.params x.indent sum ∷ []) (sum_of x.params m sum)
    by [] e spelled few = absurd cc
    by (u ∷ us) e spelled few = sum_line_stands m x.params x.indent u us blanks spelled.0 spelled.1 few
