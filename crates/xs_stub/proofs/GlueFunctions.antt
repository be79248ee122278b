-- The functions of the glue: what stands in their lines.
use Rattle.std.proofs.Common.{◌≡◌, ℕ, ◌+◌, List, [], ◌∷◌, ◌++◌, codes, length, map, append_assoc, append-nil, false, refl, sym, ap, ◌∙◌, subst, arith}
use Rattle.std.proofs.lemmas.List.Elements.{All-from_recursion, All-weaker, recursion_from_All}
use Rattle.std.specs.List.{AllByRecursion as All, flat_map}
use Rattle.xs_ctok.specs.LineSpelling.{span_at}
use Rattle.xs_ctok.specs.Tokens.{token_at}
use Rattle.xs_ctok.specs.declared.token.TokKind.TheVariants as kind
use Rattle.xs_ctok.specs.declared.token.Token.{Token}
use Rattle.xs_csyn.specs.FileGrammar.{item, xs_function}
use Rattle.xs_csyn.specs.Grammar as g
use Rattle.xs_csyn.specs.Grammar.{Is}
use Rattle.xs_cinput.specs.Operators.{binary_ops}
use Rattle.xs_cstmt.specs.PerlForms.{forms}
use Rattle.xs_csyn.specs.StatementGrammar as s
use Rattle.xs_cexpr.specs.ExpressionTree.{Str, Two, Var}
use Rattle.xs_cstmt.specs.StatementTree.{Block, Effect, If, Perl, StmtTree, StmtTrees, stmts_of, unlined_stmts}
use Rattle.xs_csyn.specs.FileTree.{ItemTree, XsFunItem, unlined_item}
use Rattle.xs_ctok.specs.CWords.{is_no_name, is_type_word}
use Rattle.xs_cinput.specs.declared.tree.BinaryOp.TheVariants as binary
use Rattle.xs_iface.specs.Iface.{underscored}
use Rattle.xs_iface.specs.SumForm.{IsSumModule, IsSumXsub, IsTermOf}
use Rattle.xs_iface.specs.declared.xsub.Module.{Module}
use Rattle.xs_iface.specs.declared.xsub.Xsub.{Xsub}
use Rattle.xs_stub.proofs.GlueLines.{args_line-is, block_end_line-is, block_line-is, boot_end_lines, boot_lines, brace_line-is, closing_lines, croak_line-is, end_line-is, end_lines, opening_lines, registration_lines, return_lines, returned_lines, test_line-is, title_line-is, usage_lines, work_lines, xsub_lines, yes_line-is}
use Rattle.xs_stub.proofs.GlueWords.{IsNamed, IsSpelled, boot_named, glue_named, names_are_bare, term_spelled}
use Rattle.xs_stub.proofs.LinePieces.{AreLines, Piece, are_both, line_tokens, line_tokens-append}
use Rattle.xs_stub.proofs.Standing.{Body, Functions, Items, Stand, each_tree, no_stmt, regrouped, then_trees, with_part}
use Rattle.xs_stub.proofs.StatementsStand.{declarations_stand, inputs_stand, named_token, operand, registrations_stand, results_stand, returned_stands, returns_stand, term}
use Rattle.xs_stub.proofs.SumsStand.{sum_stands}
use Rattle.xs_stub.specs.Intended.{boot_tree, call_of, declared_param, declared_result, dxsargs, inputs_from, number, registration, return_one, return_yes, returned_value, sum_of, usage_test, work_of, xsub_tree}
use Rattle.xs_stub.specs.Stub.{joined_names}
use Rattle.xs_values.specs.declared.operator.Op.TheVariants as op

-- ---- one function

same_function : (all read : StmtTrees) (rest trees : List ItemTree) (n m : ℕ) (name : List ℕ) → unlined_stmts read ≡ unlined_stmts all
    → map unlined_item trees ≡ map unlined_item rest
    → map unlined_item (XsFunItem (record { line = n; name = name; body = read }) ∷ trees)
    ≡ map unlined_item (XsFunItem (record { line = m; name = name; body = all }) ∷ rest)
same_function all read rest trees n m name e f = cc

-- the tokens of a function up to its first statement
opening_fine : (name : List ℕ) → IsNamed name → AreLines (opening_lines name)
opening_fine name w = (tt, (title_line-is name w, (brace_line-is, (args_line-is, tt))))

-- a function before others
function_stands : (n m : ℕ) (name : List ℕ) (all : List StmtTree) (vs ts : List Token) (rest : List ItemTree) → is_no_name name ≡ false
    → Body 1 all vs ts → Items rest ts
    → Items (XsFunItem (record { line = m; name = name; body = stmts_of (Perl m dxsargs ∷ all) }) ∷ rest) (line_tokens n (opening_lines name) ++ vs)
unfolding forms is_type_word is_no_name
function_stands n m name all vs ts rest named body more =
    let whole : Body 1 (Perl m dxsargs ∷ all)
    (token_at kind.Word (span_at (n + 1 + 1 + 1) 5) (codes "dXSARGS") ∷ token_at kind.Punct (span_at (n + 1 + 1 + 1) 12) (codes ";") ∷ vs) ts =
    with_part (Perl (n + 1 + 1 + 1) dxsargs) (Perl m dxsargs) (s.stated (s.perl (s.word refl refl))) refl (omega arith) (omega arith) body in
    record {
      trees = XsFunItem (record { line = n + 1; name = name; body = whole.body }) ∷ more.trees;
      stands = item (xs_function refl refl (named_token (n + 1) 0 name named) refl refl refl whole.parts) more.stands;
      fit = ((omega (arith, whole.flat), whole.low), more.fit);
      same = same_function (stmts_of (Perl m dxsargs ∷ all)) whole.body rest more.trees (n + 1) m name whole.same more.same;
    }

-- ---- the body of a glue function

usage_fine : (x : Xsub) → IsSumXsub x → AreLines (usage_lines x.params)
usage_fine x f = (
  test_line-is (length x.params) (omega (arith, f.few_params)),
  (croak_line-is (joined_names x.params) (names_are_bare x.params f.free_params), (block_line-is, tt)),
)

-- the body after its first statement, by what its block holds
body_stands : (n : ℕ) (x : Xsub) (vs ts : List Token) (brace : Token) → Is (codes "}") brace → Body 0 (work_of x) vs (brace ∷ ts)
    → Body 1 (usage_test x.line x.params ∷ Block x.line (stmts_of (work_of x)) ∷ []) (line_tokens n (usage_lines x.params) ++ vs) ts
unfolding forms is_type_word is_no_name binary_ops
body_stands n x vs ts brace is h =
    with_part (If n (Two n (binary.On op.NotEqual) (Var n (codes "items")) (number n (length x.params)))
    (Effect (n + 1) (call_of (n + 1) (codes "croak_xs_usage") (Var (n + 1) (codes "cv") ∷ Str (n + 1) (joined_names x.params) ∷ []))))
    (usage_test x.line x.params)
    (s.stated (s.an_if refl
    (s.condition refl (g.is_choice (g.is_binary (g.two (g.is_unary (operand (g.name refl))) refl (omega arith) (g.is_unary (operand (g.int refl)))))) refl)
    (s.effect refl (term (g.call refl refl (g.some (g.more (term (g.name refl)) refl (g.last (term (g.text refl)) refl))))) refl) refl)) refl
    (omega arith) (omega arith)
    (with_part (Block (n + 1 + 1) h.body) (Block x.line (stmts_of (work_of x))) (s.stated (s.block refl h.parts)) (ap (Block 0) h.same)
    (omega (arith, h.flat)) h.low (no_stmt brace ts is))

-- ---- the function of an XSUB

-- each of its terms is one word or one number
all_spelled : (x : Xsub) → IsSumXsub x → All (IsSpelled x.params) x.sum
all_spelled x f =
    recursion_from_All (IsSpelled x.params) x.sum
    (All-weaker (IsTermOf (length x.params)) (IsSpelled x.params) (term_spelled x.params f.free_params) x.sum
    (All-from_recursion (IsTermOf (length x.params)) x.sum f.terms))

-- what its block holds, up to the author's line
inner_stands : (x : Xsub) → IsSumXsub x
    → Stand (work_lines x)
    (map (declared_param x.line) x.params ++ (declared_result x.line ++ (inputs_from 0 x.params ++ sum_of x.params x.code_line x.sum)))
inner_stands x f =
    then_trees (declarations_stand x.line x.params f.free_params)
    (then_trees (results_stand x.line) (then_trees (inputs_stand 0 x.params f.free_params (omega (arith, f.few_params)))
    (sum_stands x.code_line x f.first_term f.more_terms f.sum_is f.blanks (all_spelled x f) f.few_terms)))

-- what its block holds
block_stands : (x : Xsub) → IsSumXsub x
    → Stand (work_lines x ++ (returned_lines ++ return_lines))
    ((map (declared_param x.line) x.params ++ (declared_result x.line ++ (inputs_from 0 x.params ++ sum_of x.params x.code_line x.sum)))
    ++ (returned_value x.output_line ++ return_one x.line))
block_stands x f = then_trees (inner_stands x f) (then_trees (returned_stands x.output_line) (returns_stand x.line))

six_regrouped : {A : Type 0} (a b c d e f : List A) → (a ++ (b ++ (c ++ d))) ++ (e ++ f) ≡ a ++ b ++ c ++ d ++ e ++ f
six_regrouped a b c d e f =
    ap (λ l. l ++ (e ++ f)) (sym (append_assoc a b (c ++ d)) ∙ sym (append_assoc (a ++ b) c d)) ∙ sym (append_assoc (a ++ b ++ c ++ d) e f)

work_is : (x : Xsub) → (map (declared_param x.line) x.params ++ (declared_result x.line ++ (inputs_from 0 x.params ++ sum_of x.params x.code_line x.sum)))
    ++ (returned_value x.output_line ++ return_one x.line) ≡ work_of x
work_is x =
    six_regrouped (map (declared_param x.line) x.params) (declared_result x.line) (inputs_from 0 x.params) (sum_of x.params x.code_line x.sum)
    (returned_value x.output_line) (return_one x.line)

-- lines after lines, and tokens after their tokens
seam : (n : ℕ) (all more : List (List Piece)) (ts : List Token)
    → line_tokens n (all ++ more) ++ ts ≡ line_tokens n all ++ (line_tokens (n + length all) more ++ ts)
seam n all more ts =
    ap (λ (l : List Token). l ++ ts) (line_tokens-append n all more) ∙ append_assoc (line_tokens n all) (line_tokens (n + length all) more) ts

-- the lines of the block and the two ends, and what its block holds
inner_body : (n : ℕ) (x : Xsub) (ts : List Token) → IsSumXsub x
    → (brace : Token) × Is (codes "}") brace × Body 0 (work_of x) (line_tokens n (work_lines x ++ end_lines) ++ ts) (brace ∷ ts)
inner_body n x ts f =
    let block = work_lines x ++ (returned_lines ++ return_lines) in
    let m : ℕ = n + length block in
    let brace : Token = token_at kind.Punct (span_at (m + 1) 1) (codes "}") in
    let first : Token = token_at kind.Punct (span_at m 5) (codes "}") in
    let tokens : line_tokens n block ++ (line_tokens m closing_lines ++ ts) ≡ line_tokens n (work_lines x ++ end_lines) ++ ts =
    sym (seam n block closing_lines ts)
    ∙ ap (λ (l : List (List Piece)). line_tokens n l ++ ts) (append_assoc (work_lines x) (returned_lines ++ return_lines) closing_lines) in (
      brace,
      refl,
      regrouped (append-nil _ ∙ work_is x) tokens
          ((block_stands x f).onto n (0, brace ∷ ts) [] (line_tokens m closing_lines ++ ts) (no_stmt first (brace ∷ ts) refl)),
    )

xsub_fine : (x : Xsub) → IsSumXsub x → AreLines (xsub_lines x)
xsub_fine x f =
    are_both (opening_lines x.glue ++ usage_lines x.params) (work_lines x ++ end_lines)
    (are_both (opening_lines x.glue) (usage_lines x.params) (opening_fine x.glue (glue_named x f)) (usage_fine x f))
    (are_both (work_lines x) end_lines (inner_stands x f).fine
    (are_both returned_lines (return_lines ++ closing_lines) (returned_stands x.line).fine
    (are_both return_lines closing_lines (returns_stand x.line).fine (block_end_line-is, (end_line-is, tt)))))

xsub_onto : (x : Xsub) → IsSumXsub x → (n : ℕ) (rest : List ItemTree) (ts : List Token) → Items rest ts
    → Items (xsub_tree x ∷ rest) (line_tokens n (xsub_lines x) ++ ts)
xsub_onto x f n rest ts more =
    let work = work_lines x ++ end_lines in
    let usage = usage_lines x.params in
    let opening = opening_lines x.glue in
    let inner = inner_body (n + 4 + 3) x ts f in
    let body : Body 1 (usage_test x.line x.params ∷ Block x.line (stmts_of (work_of x)) ∷ []) (line_tokens (n + 4) (usage ++ work) ++ ts) ts =
    regrouped refl (sym (seam (n + 4) usage work ts)) (body_stands (n + 4) x (line_tokens (n + 4 + 3) work ++ ts) ts inner.0 inner.1 inner.2) in
    subst (λ (l : List Token). Items (xsub_tree x ∷ rest) l) (sym (seam n opening (usage ++ work) ts))
    (function_stands n x.line x.glue (usage_test x.line x.params ∷ Block x.line (stmts_of (work_of x)) ∷ []) (line_tokens (n + 4) (usage ++ work) ++ ts) ts rest
    (glue_named x f).named body more)

xsub_stands : (x : Xsub) → IsSumXsub x → Functions (xsub_lines x) (xsub_tree x ∷ [])
xsub_stands x f = record { fine = xsub_fine x f; onto = λ n k rest ts more. xsub_onto x f n rest ts more }

pub xsubs_stand : (xs : List Xsub) → All IsSumXsub xs → Functions (flat_map xsub_lines xs) (map xsub_tree xs)
xsubs_stand xs f = each_tree IsSumXsub xsub_lines xsub_tree xsub_stands xs f

-- ---- the boot function

yes_stands : (n m : ℕ) (ts : List Token) → Body 1 (Perl m return_yes ∷ []) (line_tokens n boot_end_lines ++ ts) ts
unfolding forms is_type_word is_no_name
yes_stands n m ts =
    with_part (Perl n return_yes) (Perl m return_yes) (s.stated (s.perl (s.word refl refl))) refl (omega arith) (omega arith)
    (no_stmt (token_at kind.Punct (span_at (n + 1) 1) (codes "}")) ts refl)

boot_onto : (m : Module) → IsSumModule m → (n : ℕ) (rest : List ItemTree) (ts : List Token) → Items rest ts
    → Items (boot_tree m ∷ rest) (line_tokens n (boot_lines m) ++ ts)
boot_onto m f n rest ts more =
    let name = codes "boot_" ++ underscored m.boot in
    let all = map (registration m.boot_line) m.xsubs ++ Perl m.boot_line return_yes ∷ [] in
    let lines = flat_map registration_lines m.xsubs in
    let body : Body 1 all (line_tokens (n + 4) (lines ++ boot_end_lines) ++ ts) ts =
    regrouped refl (sym (seam (n + 4) lines boot_end_lines ts))
    ((registrations_stand m.boot_line m.xsubs f.xsubs).onto (n + 4) (1, ts) (Perl m.boot_line return_yes ∷ [])
    (line_tokens (n + 4 + length lines) boot_end_lines ++ ts) (yes_stands (n + 4 + length lines) m.boot_line ts)) in
    subst (λ (l : List Token). Items (boot_tree m ∷ rest) l) (sym (seam n (opening_lines name) (lines ++ boot_end_lines) ts))
    (function_stands n m.boot_line name all (line_tokens (n + 4) (lines ++ boot_end_lines) ++ ts) ts rest (boot_named m.boot f.boot).named body more)

boot_fine : (m : Module) → IsSumModule m → AreLines (boot_lines m)
boot_fine m f =
    let name = codes "boot_" ++ underscored m.boot in
    are_both (opening_lines name) (flat_map registration_lines m.xsubs ++ boot_end_lines) (opening_fine name (boot_named m.boot f.boot))
    (are_both (flat_map registration_lines m.xsubs) boot_end_lines (registrations_stand m.boot_line m.xsubs f.xsubs).fine (yes_line-is, (end_line-is, tt)))

pub boot_stands : (m : Module) → IsSumModule m → Functions (boot_lines m) (boot_tree m ∷ [])
boot_stands m f = record { fine = boot_fine m f; onto = λ n k rest ts more. boot_onto m f n rest ts more }
