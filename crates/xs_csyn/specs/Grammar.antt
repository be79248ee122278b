-- The grammar of C text by its rules. Where these types are declared, the tree stands from the
-- first list of tokens up to the second, which is a rest of it.
use Rattle.std.specs.Prelude.{◌≡◌, ◌≤◌, ◌+◌, ℕ, suc, true, false, List, ◌∷◌, ◌++◌, Option, Some, codes}
use Rattle.std.specs.Str.{bytes_eq}
use Rattle.xs_ctok.specs.declared.token.Literal.{Literal}
use Rattle.xs_ctok.specs.declared.token.TokKind.TheVariants as kind
use Rattle.xs_ctok.specs.declared.token.Token.{Token}
use Rattle.xs_cinput.specs.Operators.{assignments, binary_ops, prefix_ops, sign_in, steps}
use Rattle.xs_cexpr.specs.ExpressionTree as tree
use Rattle.xs_cexpr.specs.ExpressionTree.{ExprTree, ExprTrees, PlaceTree}
use Rattle.xs_cinput.specs.TokenInput.{is_name, is_sign, is_type, is_variable, is_word}
use Rattle.xs_cinput.specs.TypeReader.{joins}
use Rattle.xs_cinput.specs.declared.tree.BinaryOp.{BinaryOp}
use Rattle.xs_cinput.specs.declared.tree.CType.{CType}
use Rattle.xs_cinput.specs.declared.tree.Step.{Step}
use Rattle.xs_values.specs.declared.operator.Op.{Op}
use Rattle.xs_values.specs.declared.unary_operator.UnOp.{UnOp}

-- ---- tokens

-- the token is this punctuator
abbrev pub Is : List ℕ → Token → Type 0
Is text t = is_sign text t ≡ true

-- the token is this word
abbrev pub IsWord : List ℕ → Token → Type 0
IsWord text t = is_word text t ≡ true

-- the token may be a name of anything
abbrev pub MayName : Token → Type 0
MayName t = is_name t ≡ true

-- the token may be the name of a variable, of a parameter, or of what is called
abbrev pub IsVariable : List (List ℕ) → Token → Type 0
IsVariable types t = is_variable types t ≡ true

-- ---- types

-- one to three words
pub data Words (types : List (List ℕ)) : List ℕ → List Token → List Token → Type 0 where
  one_word : {t : Token} {ts : List Token} → is_type types t ≡ true
      → Words types t.text (t ∷ ts) ts
  two_words : {t u : Token} {ts : List Token} → is_type types t ≡ true → joins t.text u ≡ true
      → Words types (t.text ++ 32 ∷ u.text) (t ∷ u ∷ ts) ts
  three_words : {t u v : Token} {ts : List Token} → is_type types t ≡ true → joins t.text u ≡ true
      → joins (t.text ++ 32 ∷ u.text) v ≡ true
      → Words types ((t.text ++ 32 ∷ u.text) ++ 32 ∷ v.text) (t ∷ u ∷ v ∷ ts) ts

-- `signed` alone names no type
pub data TypeName (types : List (List ℕ)) : List ℕ → List Token → List Token → Type 0 where
  type_name : {name : List ℕ} {ts us : List Token} → Words types name ts us
      → bytes_eq name (codes "signed") ≡ false → TypeName types name ts us

pub data Stars : ℕ → List Token → List Token → Type 0 where
  no_star : {ts : List Token} → Stars 0 ts ts
  star : {n : ℕ} {t : Token} {ts us : List Token} → Is (codes "*") t → Stars n ts us
      → Stars (suc n) (t ∷ ts) us

pub data AType (types : List (List ℕ)) : CType → List Token → List Token → Type 0 where
  a_type : {name : List ℕ} {n : ℕ} {t : Token} {ts us vs : List Token}
      → TypeName types name (t ∷ ts) us → Stars n us vs
      → AType types (record { line = t.span.line; name = name; stars = n }) (t ∷ ts) vs

-- ---- expressions

-- the line of the first token
abbrev pub line_of : ExprTree → ℕ
line_of (tree.Var line name) = line
line_of (tree.Num line literal) = line
line_of (tree.Chr line byte) = line
line_of (tree.Str line text) = line
line_of (tree.Call line name args) = line
line_of (tree.Paren line a) = line
line_of (tree.Int2Ptr line to a) = line
line_of (tree.Index line a at) = line
line_of (tree.Arrow line name field) = line
line_of (tree.One line op a) = line
line_of (tree.Cast line to a) = line
line_of (tree.Deref line a) = line
line_of (tree.Address line name) = line
line_of (tree.Before line step place) = line
line_of (tree.After line place step) = line
line_of (tree.Two line op a b) = line
line_of (tree.Choice line test a b) = line
line_of (tree.Set line place op a) = line

abbrev pub line_of_place : PlaceTree → ℕ
line_of_place (tree.VarPlace line name) = line
line_of_place (tree.TargetPlace line name) = line
line_of_place (tree.FieldPlace line name field) = line
line_of_place (tree.StPlace line at) = line

mutual
  -- assignments group from the right
  pub data Whole (types : List (List ℕ)) : ExprTree → List Token → List Token → Type 0 where
    set : {p : PlaceTree} {op : Option Op} {a : ExprTree} {t : Token} {ts us vs : List Token}
        → Place types p ts (t ∷ us) → sign_in assignments t ≡ Some op → Whole types a us vs
        → Whole types (tree.Set (line_of_place p) p op a) ts vs
    is_choice : {a : ExprTree} {ts us : List Token} → Choice types a ts us → Whole types a ts us

  -- so do choices
  pub data Choice (types : List (List ℕ)) : ExprTree → List Token → List Token → Type 0 where
    choose : {test a b : ExprTree} {t u : Token} {ts us vs ws : List Token}
        → Binary types 1 test ts (t ∷ us) → Is (codes "?") t → Whole types a us (u ∷ vs)
        → Is (codes ":") u → Choice types b vs ws
        → Choice types (tree.Choice (line_of test) test a b) ts ws
    is_binary : {a : ExprTree} {ts us : List Token} → Binary types 1 a ts us → Choice types a ts us

  -- Operators that bind at least so tightly, and what stands between them. Those that bind alike
  -- group from the left.
  pub data Binary (types : List (List ℕ)) : ℕ → ExprTree → List Token → List Token → Type 0 where
    two : {n k : ℕ} {op : BinaryOp} {a b : ExprTree} {t : Token} {ts us vs : List Token}
        → Binary types k a ts (t ∷ us) → sign_in binary_ops t ≡ Some (op, k) → n ≤ k
        → Binary types (k + 1) b us vs → Binary types n (tree.Two (line_of a) op a b) ts vs
    is_unary : {n : ℕ} {a : ExprTree} {ts us : List Token} → Unary types a ts us
        → Binary types n a ts us

  pub data Unary (types : List (List ℕ)) : ExprTree → List Token → List Token → Type 0 where
    prefixed : {op : UnOp} {a : ExprTree} {t : Token} {ts us : List Token}
        → sign_in prefix_ops t ≡ Some op → Unary types a ts us
        → Unary types (tree.One t.span.line op a) (t ∷ ts) us
    cast : {to : CType} {a : ExprTree} {t u : Token} {ts us vs : List Token} → Is (codes "(") t
        → AType types to ts (u ∷ us) → Is (codes ")") u → Unary types a us vs
        → Unary types (tree.Cast t.span.line to a) (t ∷ ts) vs
    dereferenced : {a : ExprTree} {t : Token} {ts us : List Token} → Is (codes "*") t
        → Unary types a ts us → Unary types (tree.Deref t.span.line a) (t ∷ ts) us
    address : {t u : Token} {ts : List Token} → Is (codes "&") t → IsVariable types u
        → Unary types (tree.Address t.span.line u.text) (t ∷ u ∷ ts) ts
    before : {step : Step} {p : PlaceTree} {t : Token} {ts us : List Token}
        → sign_in steps t ≡ Some step → Place types p ts us
        → Unary types (tree.Before t.span.line step p) (t ∷ ts) us
    is_operand : {a : ExprTree} {ts us : List Token} → Operand types a ts us → Unary types a ts us

  -- A step after a place comes before a `*` in front of it.
  pub data Operand (types : List (List ℕ)) : ExprTree → List Token → List Token → Type 0 where
    index : {a at : ExprTree} {t u : Token} {ts us vs : List Token} → Operand types a ts (t ∷ us)
        → Is (codes "[") t → Whole types at us (u ∷ vs) → Is (codes "]") u
        → Operand types (tree.Index (line_of a) a at) ts vs
    after : {step : Step} {p : PlaceTree} {t : Token} {ts us : List Token}
        → NamedPlace types p ts (t ∷ us) → sign_in steps t ≡ Some step
        → Operand types (tree.After (line_of_place p) p step) ts us
    is_primary : {a : ExprTree} {ts us : List Token} → Primary types a ts us
        → Operand types a ts us

  pub data Primary (types : List (List ℕ)) : ExprTree → List Token → List Token → Type 0 where
    name : {t : Token} {ts : List Token} → IsVariable types t
        → Primary types (tree.Var t.span.line t.text) (t ∷ ts) ts
    int : {literal : Literal} {t : Token} {ts : List Token} → t.kind ≡ kind.Int literal
        → Primary types (tree.Num t.span.line literal) (t ∷ ts) ts
    char : {byte : ℕ} {t : Token} {ts : List Token} → t.kind ≡ kind.Char byte
        → Primary types (tree.Chr t.span.line byte) (t ∷ ts) ts
    text : {bytes : List ℕ} {t : Token} {ts : List Token} → t.kind ≡ kind.Text bytes
        → Primary types (tree.Str t.span.line bytes) (t ∷ ts) ts
    call : {args : ExprTrees} {t u : Token} {ts us : List Token} → IsVariable types t
        → Is (codes "(") u → Arguments types args ts us
        → Primary types (tree.Call t.span.line t.text args) (t ∷ u ∷ ts) us
    arrow : {t u v : Token} {ts : List Token} → IsVariable types t → Is (codes "->") u → MayName v
        → Primary types (tree.Arrow t.span.line t.text v.text) (t ∷ u ∷ v ∷ ts) ts
    paren : {a : ExprTree} {t u : Token} {ts us : List Token} → Is (codes "(") t
        → Whole types a ts (u ∷ us) → Is (codes ")") u
        → Primary types (tree.Paren t.span.line a) (t ∷ ts) us
    int2ptr : {to : CType} {a : ExprTree} {t u v w : Token} {ts us vs : List Token}
        → IsWord (codes "INT2PTR") t → Is (codes "(") u → AType types to ts (v ∷ us)
        → Is (codes ",") v → Whole types a us (w ∷ vs) → Is (codes ")") w
        → Primary types (tree.Int2Ptr t.span.line to a) (t ∷ u ∷ ts) vs

  pub data Place (types : List (List ℕ)) : PlaceTree → List Token → List Token → Type 0 where
    target : {t u : Token} {ts : List Token} → Is (codes "*") t → IsVariable types u
        → Place types (tree.TargetPlace t.span.line u.text) (t ∷ u ∷ ts) ts
    is_named : {p : PlaceTree} {ts us : List Token} → NamedPlace types p ts us
        → Place types p ts us

  pub data NamedPlace (types : List (List ℕ)) : PlaceTree → List Token → List Token → Type 0 where
    variable : {t : Token} {ts : List Token} → IsVariable types t
        → NamedPlace types (tree.VarPlace t.span.line t.text) (t ∷ ts) ts
    field : {t u v : Token} {ts : List Token} → IsVariable types t → Is (codes "->") u → MayName v
        → NamedPlace types (tree.FieldPlace t.span.line t.text v.text) (t ∷ u ∷ v ∷ ts) ts
    st : {at : ExprTree} {t u v : Token} {ts us : List Token} → IsVariable types t
        → bytes_eq t.text (codes "ST") ≡ true → Is (codes "(") u → Whole types at ts (v ∷ us)
        → Is (codes ")") v → NamedPlace types (tree.StPlace t.span.line at) (t ∷ u ∷ ts) us

  -- after the opening parenthesis, up to after the closing one
  pub data Arguments (types : List (List ℕ)) : ExprTrees → List Token → List Token → Type 0 where
    none : {u : Token} {ts : List Token} → Is (codes ")") u
        → Arguments types tree.NoExprs (u ∷ ts) ts
    some : {all : ExprTrees} {ts us : List Token} → Listed types all ts us
        → Arguments types all ts us

  pub data Listed (types : List (List ℕ)) : ExprTrees → List Token → List Token → Type 0 where
    last : {a : ExprTree} {u : Token} {ts us : List Token} → Whole types a ts (u ∷ us)
        → Is (codes ")") u → Listed types (tree.MoreExprs a tree.NoExprs) ts us
    more : {a : ExprTree} {all : ExprTrees} {u : Token} {ts us vs : List Token}
        → Whole types a ts (u ∷ us) → Is (codes ",") u → Listed types all us vs
        → Listed types (tree.MoreExprs a all) ts vs
