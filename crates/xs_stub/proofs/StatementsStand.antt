-- The statements of a glue function: what stands in their lines.
use Rattle.std.proofs.Common.{◌≡◌, ℕ, ◌+◌, ◌≤◌, Bool, true, false, ◌||◌, cond, List, [], ◌∷◌, codes, length, map, Option, None, Some, option_map, refl, sym, subst, arith}
use Rattle.std.proofs.lemmas.Bool.{or_parts}
use Rattle.std.specs.List.{AllByRecursion as All, find, flat_map}
use Rattle.std.specs.Option.{option_map_or}
use Rattle.std.specs.Prelude.{if◌then◌else◌}
use Rattle.std.specs.Str.{bytes_eq}
use Rattle.xs_base.specs.Names.{is_among}
use Rattle.xs_ctok.specs.LineSpelling.{span_at}
use Rattle.xs_ctok.specs.Tokens.{token_at}
use Rattle.xs_ctok.specs.declared.token.TokKind.TheVariants as kind
use Rattle.xs_ctok.specs.declared.token.Token.{Token}
use Rattle.xs_csyn.specs.Grammar as g
use Rattle.xs_csyn.specs.Grammar.{IsVariable, MayName, Primary, Unary, Whole}
use Rattle.xs_cinput.specs.Operators.{assignments, listed}
use Rattle.xs_cstmt.specs.PerlForms.{Part, form_at, forms, leads}
use Rattle.xs_csyn.specs.StatementGrammar as s
use Rattle.xs_cexpr.specs.ExpressionTree.{ExprTree, Var, Cast}
use Rattle.xs_cstmt.specs.StatementTree.{StmtTree, Effect}
use Rattle.xs_cinput.specs.TokenInput.{is_type}
use Rattle.xs_ctok.specs.CWords.{grammar_words, is_no_name, is_type_word, type_words}
use Rattle.xs_cstmt.specs.declared.forms.Form.{Form}
use Rattle.xs_iface.specs.ReservedWords.{is_free}
use Rattle.xs_iface.specs.SumForm.{IsSumXsub}
use Rattle.xs_iface.specs.declared.xsub.Param.{Param}
use Rattle.xs_iface.specs.declared.xsub.Xsub.{Xsub}
use Rattle.xs_stub.proofs.GlueLines.{declaration_lines, declaration_line-is, input_line, input_line-is, input_lines, mortal_line, mortal_line-is, put_line, put_line-is, registration_lines, registration_line-is, result_lines, return_line, return_line-is, return_lines, returned_lines, scalar_line, scalar_line-is, set_line, set_line-is, value_line, value_line-is}
use Rattle.xs_stub.proofs.GlueWords.{free_name, full_is_bare, glue_named}
use Rattle.xs_stub.proofs.Standing.{Stand, each_tree, no_trees, one_statement, then_trees}
use Rattle.xs_stub.specs.Intended.{assign, call_of, declared, declared_int, declared_param, declared_result, inputs_from, int_argument, iv_type, number, put_first, registration, return_one, returned_value}

-- ---- expressions

-- an operand as an expression
pub alone : {a : ExprTree} {ts us : List Token} → Unary [] a ts us → Whole [] a ts us
alone u = g.is_choice (g.is_binary (g.is_unary u))

pub operand : {a : ExprTree} {ts us : List Token} → Primary [] a ts us → Unary [] a ts us
operand p = g.is_operand (g.is_primary p)

pub term : {a : ExprTree} {ts us : List Token} → Primary [] a ts us → Whole [] a ts us
term p = alone (operand p)

-- a word that may be a name, as a token
pub named_token : (n col : ℕ) (name : List ℕ) → is_no_name name ≡ false → MayName (token_at kind.Word (span_at n col) name)
named_token n col name h = rw h refl

pub variable_token : (n col : ℕ) (name : List ℕ) → is_no_name name ≡ false → IsVariable [] (token_at kind.Word (span_at n col) name)
variable_token n col name h = rw h refl

-- ---- assignments

-- Where each row of a table comes to nothing, so does what stands beside a word.
none_listed : {V : Type 0} (f : V → Option Form) (table : List (List ℕ × V)) (word : List ℕ) → All (λ (row : List ℕ × V). f row.1 ≡ None) table
    → option_map_or f (listed table word) None ≡ None
none_listed f [] word h = refl
none_listed {V} f (row ∷ more) word h = by (bytes_eq row.0 word) (none_listed f more word h.1)
  where
    by : (t : Bool) → option_map_or f (listed more word) None ≡ None
        → option_map_or f (option_map (λ (r : List ℕ × V). r.1) (cond t (Some row) (find (λ (r : List ℕ × V). bytes_eq r.0 word) more))) None ≡ None
    by true rest = h.0
    by false rest = rest

-- what a row comes to where the first word is no type
abbrev if_led : List Token → Form × List Part → Option Form
if_led ts row = if leads [] row.1 ts then Some row.0 else None

no_type : (name : List ℕ) → is_no_name name ≡ false → is_type_word name ≡ false
unfolding is_no_name is_type_word
no_type name h = (or_parts (is_among type_words name) (is_among grammar_words name) h).0

not_type : (n col : ℕ) (name : List ℕ) → is_no_name name ≡ false → is_type [] (token_at kind.Word (span_at n col) name) ≡ false
not_type n col name h = rw (no_type name h) refl

-- No form goes on with `=` and a parenthesis.
abbrev assigned_tokens : ℕ → ℕ → ℕ → List Token → List Token
assigned_tokens n place bracket ts =
    token_at kind.Punct (span_at n place) (codes "=") ∷ token_at kind.Punct (span_at n bracket) (codes "(") ∷ ts

none_led : (n place bracket : ℕ) (ts : List Token)
    → All (λ (row : List ℕ × (Form × List Part)). if_led (assigned_tokens n place bracket ts) row.1 ≡ None) forms
unfolding forms
none_led n place bracket ts =
    (refl, (refl, (refl, (refl, (refl, (refl, (refl, (refl, (refl, (refl, (refl, (refl, (refl, (refl, (refl, (refl, (refl, (refl, (refl, tt)))))))))))))))))))

-- Whatever its first word is, such an assignment is no statement of the XS interface.
pub no_form : (n col place bracket : ℕ) (name : List ℕ) (ts : List Token) → is_no_name name ≡ false
    → form_at [] (token_at kind.Word (span_at n col) name ∷ assigned_tokens n place bracket ts) ≡ None
no_form n col place bracket name ts h =
    let more = assigned_tokens n place bracket ts in
    subst (λ (b : Bool). option_map_or (λ (row : Form × List Part). if b || leads [] row.1 more then Some row.0 else None)
    (listed forms name) None ≡ None)
    (sym (not_type n col name h)) (none_listed (if_led more) forms name (none_led n place bracket ts))

-- ---- variables

declaration_stands : (line : ℕ) (p : Param) → is_free p.name ≡ true → Stand (declaration_lines p) (declared_param line p ∷ [])
unfolding forms is_type_word
declaration_stands line p free = let w = free_name p.name free in
    one_statement (declaration_line-is p.name w, tt) (λ n. record {
      tree = declared_int n p.name;
      stands = λ ts. s.declared refl (s.names_declared (g.type_name (g.one_word refl) refl)
          (s.last_name (s.declarator g.no_star (variable_token n 0 p.name w.named) s.no_value)) refl);
      same = refl;
      flat = refl;
      low = omega arith;
    })

-- a variable for each parameter
pub declarations_stand : (line : ℕ) (params : List Param) → All (λ p. is_free p.name ≡ true) params
    → Stand (flat_map declaration_lines params) (map (declared_param line) params)
declarations_stand line params free = each_tree (λ p. is_free p.name ≡ true) declaration_lines (declared_param line) (declaration_stands line) params free

value_stands : (line : ℕ) → Stand (value_line ∷ []) (declared_int line (codes "RETVAL") ∷ [])
unfolding forms is_type_word is_no_name
value_stands line = one_statement (value_line-is, tt) (λ n. record {
  tree = declared_int n (codes "RETVAL");
  stands = λ ts. s.declared refl (s.names_declared (g.type_name (g.one_word refl) refl) (s.last_name (s.declarator g.no_star refl s.no_value)) refl);
  same = refl;
  flat = refl;
  low = omega arith;
})

scalar_stands : (line : ℕ) → Stand (scalar_line ∷ []) (declared line (codes "SV") 1 (codes "RETVALSV") ∷ [])
unfolding forms is_type_word is_no_name
scalar_stands line = one_statement (scalar_line-is, tt) (λ n. record {
  tree = declared n (codes "SV") 1 (codes "RETVALSV");
  stands = λ ts. s.declared refl (s.names_declared (g.type_name (g.one_word refl) refl)
      (s.last_name (s.declarator (g.star refl g.no_star) refl s.no_value)) refl);
  same = refl;
  flat = refl;
  low = omega arith;
})

-- the variables of the result
pub results_stand : (line : ℕ) → Stand result_lines (declared_result line)
results_stand line = then_trees (value_stands line) (scalar_stands line)

-- ---- inputs

input_stands : (index : ℕ) (p : Param) → is_free p.name ≡ true → index ≤ 64
    → Stand (input_line index p.name ∷ []) (assign p.line p.name (int_argument p.line index) ∷ [])
unfolding assignments is_type_word is_no_name
input_stands index p free few = let w = free_name p.name free in
    one_statement (input_line-is index p.name (omega (arith, few)) w, tt) (λ n. record {
      tree = assign n p.name (int_argument n index);
      stands = λ ts. s.stated (s.effect (no_form n 9 (9 + length p.name + 1) (9 + length p.name + 1 + 1 + 1) p.name _ w.named)
          (g.set (g.is_named (g.variable (variable_token n 0 p.name w.named))) refl
          (alone (g.cast refl (g.a_type (g.type_name (g.one_word refl) refl) g.no_star) refl
          (operand (g.call refl refl (g.some (g.last (term (g.call refl refl (g.some (g.last (term (g.int refl)) refl)))) refl)))))))
          refl);
      same = refl;
      flat = refl;
      low = omega arith;
    })

-- Each parameter's variable gets its argument.
pub inputs_stand : (index : ℕ) (params : List Param) → All (λ p. is_free p.name ≡ true) params → index + length params ≤ 64
    → Stand (input_lines index params) (inputs_from index params)
inputs_stand index [] free few = no_trees
inputs_stand index (p ∷ ps) free few = then_trees (input_stands index p free.0 (omega (arith, few))) (inputs_stand (index + 1) ps free.1 (omega (arith, few)))

-- ---- the end

mortal_stands : (line : ℕ) → Stand (mortal_line ∷ []) (assign line (codes "RETVALSV") (call_of line (codes "sv_newmortal") []) ∷ [])
unfolding assignments forms is_type_word is_no_name
mortal_stands line = one_statement (mortal_line-is, tt) (λ n. record {
  tree = assign n (codes "RETVALSV") (call_of n (codes "sv_newmortal") []);
  stands = λ ts. s.stated (s.effect refl (g.set (g.is_named (g.variable refl)) refl (term (g.call refl refl (g.none refl)))) refl);
  same = refl;
  flat = refl;
  low = omega arith;
})

-- the mortal gets the value
abbrev set_value : ℕ → StmtTree
set_value line = Effect line (call_of line (codes "sv_setiv") (Var line (codes "RETVALSV") ∷ Cast line (iv_type line) (Var line (codes "RETVAL")) ∷ []))

set_stands : (line : ℕ) → Stand (set_line ∷ []) (set_value line ∷ [])
unfolding forms is_type_word is_no_name
set_stands line = one_statement (set_line-is, tt) (λ n. record {
  tree = set_value n;
  stands = λ ts. s.stated (s.effect refl (term (g.call refl refl (g.some (g.more (term (g.name refl)) refl
      (g.last (alone (g.cast refl (g.a_type (g.type_name (g.one_word refl) refl) g.no_star) refl (operand (g.name refl)))) refl))))) refl);
  same = refl;
  flat = refl;
  low = omega arith;
})

put_stands : (line : ℕ) → Stand (put_line ∷ []) (put_first line (Var line (codes "RETVALSV")) ∷ [])
unfolding assignments forms is_type_word is_no_name
put_stands line = one_statement (put_line-is, tt) (λ n. record {
  tree = put_first n (Var n (codes "RETVALSV"));
  stands = λ ts. s.stated (s.effect refl (g.set (g.is_named (g.st refl refl refl (term (g.int refl)) refl)) refl (term (g.name refl))) refl);
  same = refl;
  flat = refl;
  low = omega arith;
})

return_stands : (line : ℕ) → Stand (return_line ∷ []) (Effect line (call_of line (codes "XSRETURN") (number line 1 ∷ [])) ∷ [])
unfolding forms is_type_word is_no_name
return_stands line = one_statement (return_line-is, tt) (λ n. record {
  tree = Effect n (call_of n (codes "XSRETURN") (number n 1 ∷ []));
  stands = λ ts. s.stated (s.effect refl (term (g.call refl refl (g.some (g.last (term (g.int refl)) refl)))) refl);
  same = refl;
  flat = refl;
  low = omega arith;
})

-- RETVAL becomes the value of a new mortal, which is the one item.
pub returned_stands : (line : ℕ) → Stand returned_lines (returned_value line)
returned_stands line = then_trees (mortal_stands line) (set_stands line)

pub returns_stand : (line : ℕ) → Stand return_lines (return_one line)
returns_stand line = then_trees (put_stands line) (return_stands line)

-- ---- registrations

registration_stands : (line : ℕ) (x : Xsub) → IsSumXsub x → Stand (registration_lines x) (registration line x ∷ [])
registration_stands line x f = let w = glue_named x f in
    one_statement (registration_line-is x.full x.glue (full_is_bare x f) w, tt) (λ n. record {
      tree = registration n x;
      stands = λ ts. s.stated (s.perl (s.new_xs refl refl refl refl (variable_token n 0 x.glue w.named) refl refl));
      same = refl;
      flat = refl;
      low = omega arith;
    })

-- Each glue function is registered.
pub registrations_stand : (line : ℕ) (xs : List Xsub) → All IsSumXsub xs → Stand (flat_map registration_lines xs) (map (registration line) xs)
registrations_stand line xs f = each_tree IsSumXsub registration_lines (registration line) (registration_stands line) xs f
