-- The grammar of statements by its rules.
use Rattle.std.specs.Prelude.{◌≡◌, ℕ, Bool, true, false, List, [], ◌∷◌, Option, Some, None, codes}
use Rattle.xs_base.specs.Readers.{head_is}
use Rattle.xs_ctok.specs.declared.token.Literal.{Literal}
use Rattle.xs_ctok.specs.declared.token.TokKind.TheVariants as kind
use Rattle.xs_ctok.specs.declared.token.Token.{Token}
use Rattle.xs_csyn.specs.Grammar.{Is, IsVariable, IsWord, MayName, Stars, TypeName, Whole, line_of}
use Rattle.xs_cstmt.specs.PerlForms as perl_forms
use Rattle.xs_cstmt.specs.PerlForms.{begins_form_at, form_at, form_row, is_one}
use Rattle.xs_cstmt.specs.StatementReader.{last_leaves}
use Rattle.xs_cstmt.specs.StatementTree as tree
use Rattle.xs_cexpr.specs.ExpressionTree.{ExprTree}
use Rattle.xs_cstmt.specs.StatementTree.{DeclaratorTree, DeclaredTree, FirstTree, ForTree, StmtTree, StmtTrees, GroupTrees}
use Rattle.xs_cinput.specs.TokenInput.{is_word}
use Rattle.xs_cstmt.specs.declared.forms.Form.TheVariants as the
use Rattle.xs_cstmt.specs.declared.tree.Label.{Label}
use Rattle.xs_cstmt.specs.declared.tree.Label.TheVariants as label
use Rattle.xs_cstmt.specs.declared.tree.PerlForm.{PerlForm}
use Rattle.xs_cstmt.specs.declared.tree.PerlForm.TheVariants as form
use Rattle.xs_cstmt.specs.declared.tree.PerlWord.{PerlWord}

-- ---- declarations

-- the value after `=`, if there is one
pub data Value (types : List (List ℕ)) : Option ExprTree → List Token → List Token → Type 0 where
  no_value : {ts : List Token} → Value types None ts ts
  value : {a : ExprTree} {t : Token} {ts us : List Token} → Is (codes "=") t → Whole types a ts us
      → Value types (Some a) (t ∷ ts) us

pub data Declarator (types : List (List ℕ)) : DeclaratorTree → List Token → List Token
    → Type 0 where
  declarator : {n : ℕ} {v : Option ExprTree} {t : Token} {ts us vs : List Token}
      → Stars n ts (t ∷ us) → IsVariable types t → Value types v us vs
      → Declarator types (record { line = t.span.line; stars = n; name = t.text; value = v }) ts vs

pub data Declarators (types : List (List ℕ)) : List DeclaratorTree → List Token → List Token
    → Type 0 where
  last_name : {d : DeclaratorTree} {ts us : List Token} → Declarator types d ts us
      → Declarators types (d ∷ []) ts us
  more_names : {d : DeclaratorTree} {all : List DeclaratorTree} {t : Token} {ts us vs : List Token}
      → Declarator types d ts (t ∷ us) → Is (codes ",") t → Declarators types all us vs
      → Declarators types (d ∷ all) ts vs

pub data Declared (types : List (List ℕ)) : DeclaredTree → List Token → List Token → Type 0 where
  names_declared : {base : List ℕ} {all : List DeclaratorTree} {t u : Token}
      {ts us vs : List Token} → TypeName types base (t ∷ ts) us → Declarators types all us (u ∷ vs)
      → Is (codes ";") u
      → Declared types (record { line = t.span.line; base = base; names = all }) (t ∷ ts) vs

-- ---- statements of the XS interface

pub data Form (types : List (List ℕ)) : PerlForm → List Token → List Token → Type 0 where
  word : {w : PerlWord} {slots : List perl_forms.Part} {t u : Token} {ts : List Token}
      → form_row t ≡ Some (the.Word w, slots) → Is (codes ";") u
      → Form types (form.Word w) (t ∷ u ∷ ts) ts
  reset_stack : {a b c d : Token} {ts : List Token} → IsWord (codes "SP") a → Is (codes "-=") b
      → IsWord (codes "items") c → Is (codes ";") d
      → Form types form.ResetStack (a ∷ b ∷ c ∷ d ∷ ts) ts
  set_index : {literal : Literal} {a b c d e f : Token} {ts : List Token}
      → IsWord (codes "XSANY") a → Is (codes ".") b → IsWord (codes "any_i32") c → Is (codes "=") d
      → e.kind ≡ kind.Int literal → Is (codes ";") f
      → Form types (form.SetIndex literal) (a ∷ b ∷ c ∷ d ∷ e ∷ f ∷ ts) ts
  new_xs : {full : List ℕ} {a b c d e f g : Token} {ts : List Token}
      → IsWord (codes "newXS_deffile") a → Is (codes "(") b → c.kind ≡ kind.Text full
      → Is (codes ",") d → IsVariable types e → Is (codes ")") f → Is (codes ";") g
      → Form types (form.NewXs false full e.text) (a ∷ b ∷ c ∷ d ∷ e ∷ f ∷ g ∷ ts) ts
  kept_new_xs : {full : List ℕ} {a b c d e f g h i : Token} {ts : List Token}
      → IsWord (codes "cv") a → Is (codes "=") b → IsWord (codes "newXS_deffile") c
      → Is (codes "(") d → e.kind ≡ kind.Text full → Is (codes ",") f → IsVariable types g
      → Is (codes ")") h → Is (codes ";") i
      → Form types (form.NewXs true full g.text) (a ∷ b ∷ c ∷ d ∷ e ∷ f ∷ g ∷ h ∷ i ∷ ts) ts
  new_record : {a b c d e f g h i : Token} {ts : List Token} → IsWord (codes "Newxz") a
      → Is (codes "(") b → IsVariable types c → Is (codes ",") d → is_one e ≡ true
      → Is (codes ",") f → MayName g → Is (codes ")") h → Is (codes ";") i
      → Form types (form.NewRecord c.text g.text) (a ∷ b ∷ c ∷ d ∷ e ∷ f ∷ g ∷ h ∷ i ∷ ts) ts
  unused : {a b c d e : Token} {ts : List Token} → IsWord (codes "PERL_UNUSED_VAR") a
      → Is (codes "(") b → IsVariable types c → Is (codes ")") d → Is (codes ";") e
      → Form types (form.Unused c.text) (a ∷ b ∷ c ∷ d ∷ e ∷ ts) ts

-- ---- heads and labels

-- an expression in parentheses
pub data Condition (types : List (List ℕ)) : ExprTree → List Token → List Token → Type 0 where
  condition : {a : ExprTree} {t u : Token} {ts us : List Token} → Is (codes "(") t
      → Whole types a ts (u ∷ us) → Is (codes ")") u → Condition types a (t ∷ ts) us

-- an expression up to after this sign, or the sign alone
pub data Until (types : List (List ℕ)) (sign : List ℕ) : Option ExprTree → List Token → List Token
    → Type 0 where
  nothing : {t : Token} {ts : List Token} → Is sign t → Until types sign None (t ∷ ts) ts
  something : {a : ExprTree} {t : Token} {ts us : List Token} → Whole types a ts (t ∷ us)
      → Is sign t → Until types sign (Some a) ts us

pub data First (types : List (List ℕ)) : FirstTree → List Token → List Token → Type 0 where
  no_first : {t : Token} {ts : List Token} → Is (codes ";") t
      → First types tree.NoFirst (t ∷ ts) ts
  first_declared : {d : DeclaredTree} {ts us : List Token} → Declared types d ts us
      → First types (tree.FirstDeclare d) ts us
  first_effect : {a : ExprTree} {t : Token} {ts us : List Token} → Whole types a ts (t ∷ us)
      → Is (codes ";") t → First types (tree.FirstEffect a) ts us

pub data ForHead (types : List (List ℕ)) : ForTree → List Token → List Token → Type 0 where
  for_head : {first : FirstTree} {test step : Option ExprTree} {t : Token}
      {ts us vs ws : List Token} → Is (codes "(") t → First types first ts us
      → Until types (codes ";") test us vs → Until types (codes ")") step vs ws
      → ForHead types (record { first = first; test = test; step = step }) (t ∷ ts) ws

pub data ALabel (types : List (List ℕ)) : Label → List Token → List Token → Type 0 where
  int_label : {literal : Literal} {t u v : Token} {ts : List Token} → IsWord (codes "case") t
      → u.kind ≡ kind.Int literal → Is (codes ":") v
      → ALabel types (label.Int t.span.line literal) (t ∷ u ∷ v ∷ ts) ts
  name_label : {t u v : Token} {ts : List Token} → IsWord (codes "case") t → IsVariable types u
      → Is (codes ":") v → ALabel types (label.Name t.span.line u.text) (t ∷ u ∷ v ∷ ts) ts
  default_label : {t u : Token} {ts : List Token} → IsWord (codes "default") t → Is (codes ":") u
      → ALabel types (label.Default t.span.line) (t ∷ u ∷ ts) ts

pub data Labels (types : List (List ℕ)) : List Label → List Token → List Token → Type 0 where
  last_label : {l : Label} {ts us : List Token} → ALabel types l ts us
      → Labels types (l ∷ []) ts us
  more_labels : {l : Label} {all : List Label} {ts us vs : List Token} → ALabel types l ts us
      → Labels types all us vs → Labels types (l ∷ all) ts vs

-- ---- statements

mutual
  pub data Statement (types : List (List ℕ)) : StmtTree → List Token → List Token → Type 0 where
    block : {body : StmtTrees} {t : Token} {ts us : List Token} → Is (codes "{") t
        → Parts types body ts us → Statement types (tree.Block t.span.line body) (t ∷ ts) us
    empty : {t : Token} {ts : List Token} → Is (codes ";") t
        → Statement types (tree.Empty t.span.line) (t ∷ ts) ts
    -- where no form of the XS interface has to be read
    effect : {a : ExprTree} {t : Token} {ts us : List Token} → form_at types ts ≡ None
        → Whole types a ts (t ∷ us) → Is (codes ";") t
        → Statement types (tree.Effect (line_of a) a) ts us
    -- An `else` belongs to the nearest `if`.
    an_if : {test : ExprTree} {s : StmtTree} {t : Token} {ts us vs : List Token}
        → IsWord (codes "if") t → Condition types test ts us → Statement types s us vs
        → head_is (is_word (codes "else")) vs ≡ false
        → Statement types (tree.If t.span.line test s) (t ∷ ts) vs
    if_else : {test : ExprTree} {s other : StmtTree} {t u : Token} {ts us vs ws : List Token}
        → IsWord (codes "if") t → Condition types test ts us → Statement types s us (u ∷ vs)
        → IsWord (codes "else") u → Statement types other vs ws
        → Statement types (tree.IfElse t.span.line test s other) (t ∷ ts) ws
    a_while : {test : ExprTree} {s : StmtTree} {t : Token} {ts us vs : List Token}
        → IsWord (codes "while") t → Condition types test ts us → Statement types s us vs
        → Statement types (tree.While t.span.line test s) (t ∷ ts) vs
    a_do : {test : ExprTree} {s : StmtTree} {t u v : Token} {ts us vs : List Token}
        → IsWord (codes "do") t → Statement types s ts (u ∷ us) → IsWord (codes "while") u
        → Condition types test us (v ∷ vs) → Is (codes ";") v
        → Statement types (tree.DoWhile t.span.line s test) (t ∷ ts) vs
    a_for : {head : ForTree} {s : StmtTree} {t : Token} {ts us vs : List Token}
        → IsWord (codes "for") t → ForHead types head ts us → Statement types s us vs
        → Statement types (tree.For t.span.line head s) (t ∷ ts) vs
    a_switch : {on : ExprTree} {groups : GroupTrees} {t u : Token} {ts us vs : List Token}
        → IsWord (codes "switch") t → Condition types on ts (u ∷ us) → Is (codes "{") u
        → Groups types true groups us vs
        → Statement types (tree.Switch t.span.line on groups) (t ∷ ts) vs
    a_break : {t u : Token} {ts : List Token} → IsWord (codes "break") t → Is (codes ";") u
        → Statement types (tree.Break t.span.line) (t ∷ u ∷ ts) ts
    a_continue : {t u : Token} {ts : List Token} → IsWord (codes "continue") t → Is (codes ";") u
        → Statement types (tree.Continue t.span.line) (t ∷ u ∷ ts) ts
    a_return : {v : Option ExprTree} {t : Token} {ts us : List Token} → IsWord (codes "return") t
        → Until types (codes ";") v ts us
        → Statement types (tree.Return t.span.line v) (t ∷ ts) us
    perl : {p : PerlForm} {t : Token} {ts us : List Token} → Form types p (t ∷ ts) us
        → Statement types (tree.Perl t.span.line p) (t ∷ ts) us

  -- what stands directly in a block
  pub data Part (types : List (List ℕ)) : StmtTree → List Token → List Token → Type 0 where
    -- where no form of the XS interface begins
    declared : {d : DeclaredTree} {ts us : List Token} → begins_form_at types ts ≡ false
        → Declared types d ts us → Part types (tree.Declare d) ts us
    stated : {s : StmtTree} {ts us : List Token} → Statement types s ts us → Part types s ts us

  -- after the opening brace, up to after the closing one
  pub data Parts (types : List (List ℕ)) : StmtTrees → List Token → List Token → Type 0 where
    over : {t : Token} {ts : List Token} → Is (codes "}") t → Parts types tree.NoStmts (t ∷ ts) ts
    part : {s : StmtTree} {all : StmtTrees} {ts us vs : List Token} → Part types s ts us
        → Parts types all us vs → Parts types (tree.MoreStmts s all) ts vs

  -- After the opening brace of a switch, up to after the closing one. No group may come after one
  -- that is not left at its end.
  pub data Groups (types : List (List ℕ)) : Bool → GroupTrees → List Token → List Token
      → Type 0 where
    groups_over : {may : Bool} {t : Token} {ts : List Token} → Is (codes "}") t
        → Groups types may tree.NoGroups (t ∷ ts) ts
    group : {labels : List Label} {body : StmtTrees} {all : GroupTrees} {t : Token}
        {ts us vs ws : List Token} → Labels types labels (t ∷ ts) us → Stmts types body us vs
        → Groups types (last_leaves false body) all vs ws
        → Groups types true (tree.MoreGroups t.span.line labels body all) (t ∷ ts) ws

  -- the statements of a group
  pub data Stmts (types : List (List ℕ)) : StmtTrees → List Token → List Token → Type 0 where
    no_stmts : {ts : List Token} → Stmts types tree.NoStmts ts ts
    stmt : {s : StmtTree} {all : StmtTrees} {ts us vs : List Token} → Statement types s ts us
        → Stmts types all us vs → Stmts types (tree.MoreStmts s all) ts vs

-- what stands in a block, up to the end of the tokens
pub data Rest (types : List (List ℕ)) : StmtTrees → List Token → Type 0 where
  rest_over : Rest types tree.NoStmts []
  rest_part : {s : StmtTree} {all : StmtTrees} {ts us : List Token} → Part types s ts us
      → Rest types all us → Rest types (tree.MoreStmts s all) ts

-- arguments with commas between them, without parentheses
pub data ArgumentList (types : List (List ℕ)) : List ExprTree → List Token → List Token
    → Type 0 where
  last_argument : {a : ExprTree} {ts us : List Token} → Whole types a ts us
      → ArgumentList types (a ∷ []) ts us
  more_arguments : {a : ExprTree} {all : List ExprTree} {t : Token} {ts us vs : List Token}
      → Whole types a ts (t ∷ us) → Is (codes ",") t → ArgumentList types all us vs
      → ArgumentList types (a ∷ all) ts vs

-- the same up to the end of the tokens, or none
pub data AllArguments (types : List (List ℕ)) : List ExprTree → List Token → Type 0 where
  no_arguments : AllArguments types [] []
  arguments : {all : List ExprTree} {ts : List Token} → ArgumentList types all ts []
      → AllArguments types all ts
