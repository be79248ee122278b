-- What stands in front of a token of a parameter list, and which parameters that names.
use Rattle.std.specs.Prelude.{◌≡◌, ◌<◌, true, false, List, [], ◌∷◌, ◌++◌, codes, length, Option, Some, None}
use Rattle.xs_base.specs.declared.source.Line.{Line}
use Rattle.xs_ctok.specs.declared.token.Token.{Token}
use Rattle.xs_params.specs.ListTokens.{direction_of, opened_by}
use Rattle.xs_params.specs.ParamGrammar.{AreClosed, AreParams, IsDirected, IsNamed, IsSign, IsTyped, IsWord, are_words, extent_of, words_text}
use Rattle.xs_params.specs.ParamSteps.{bare_head, defaulted, dir_or_in, head_of, is_length_word, length_of, may_have_default, named}
use Rattle.xs_params.specs.declared.opens.Bracket.{Bracket}
use Rattle.xs_params.specs.declared.param.Dir.{Dir}
use Rattle.xs_params.specs.declared.param.Param.{Param}
use Rattle.xs_params.specs.declared.states.Due.{Due}
use Rattle.xs_params.specs.declared.states.Due.TheVariants as due
use Rattle.xs_params.specs.declared.states.Extent.{Extent}
use Rattle.xs_params.specs.declared.states.Head.{Head}
use Rattle.xs_params.specs.declared.states.Named.{Named}
use Rattle.xs_params.specs.declared.states.Pending.{Pending}
use Rattle.xs_params.specs.declared.states.Typed.{Typed}

-- these tokens end in a part of a parameter, after parameters that are each followed by `,`
pub record EndsIn (src : List Line) (ps : List Param) (ts : List Token)
    (Part : List Token → Type 0) : Type 0 where
  pub before : List Token
  pub here : List Token
  pub stand : ts ≡ before ++ here
  pub params : AreParams src before ps
  pub part : Part here

-- words that are a direction, if one, words of a type, if any, and what may be the name
pub data AreNaming : List Token → Named → Type 0 where
  first : {ds : List Token} {direction : Option Dir} {n : Token} → IsDirected ds direction n
      → IsWord n
      → AreNaming (ds ++ n ∷ []) (named (bare_head direction n.span.line) false n)
  further : {ds : List Token} {direction : Option Dir} {w : Token} (more : List Token) (n : Token)
      → IsDirected ds direction w → are_words (w ∷ more) ≡ true → IsWord n
      → AreNaming (ds ++ ((w ∷ more) ++ n ∷ [])) (named (record {
        dir = direction;
        ctype = Some (words_text w more);
        type_line = w.span.line;
      }) false n)

-- a type with one star at least
pub record IsStarred (ts : List Token) (typed : Typed) : Type 0 where
  pub is : IsTyped ts typed
  pub some : 0 < length is.stars

pub record IsDirection (direction : Dir) (n : Named) (ts : List Token) : Type 0 where
  pub word : Token
  pub stand : ts ≡ word ∷ []
  pub is : IsWord word
  pub says : direction_of word.text ≡ Some direction
  pub named_so : n ≡ named (bare_head None word.span.line) false word

-- a type and `&`
pub record IsAddress (typed : Typed) (ts : List Token) : Type 0 where
  pub before : List Token
  pub sign : Token
  pub stand : ts ≡ before ++ sign ∷ []
  pub is : IsTyped before typed
  pub address : IsSign (codes "&") sign

-- a name after stars or `&`
pub data IsMarked : List Token → Named → Type 0 where
  starred : {ts : List Token} {typed : Typed} (n : Token) → IsStarred ts typed → IsWord n
      → IsMarked (ts ++ n ∷ []) (named (head_of typed) false n)
  addressed : {ts : List Token} {typed : Typed} (n : Token) → IsAddress typed ts → IsWord n
      → IsMarked (ts ++ n ∷ []) (named (head_of typed) true n)

-- `length(`
pub record IsLengthOpen (head : Head) (ts : List Token) : Type 0 where
  pub before : List Token
  pub n : Named
  pub sign : Token
  pub stand : ts ≡ before ++ sign ∷ []
  pub is : IsNamed before n
  pub word : is_length_word n ≡ true
  pub bracket : IsSign (codes "(") sign
  pub head_is : head ≡ n.head

-- `length(NAME`
pub record IsLengthName (m : Named) (ts : List Token) : Type 0 where
  pub before : List Token
  pub head : Head
  pub name : Token
  pub stand : ts ≡ before ++ name ∷ []
  pub opens : IsLengthOpen head before
  pub is : IsWord name
  pub named_so : m ≡ named head false name

-- `length(NAME)`
pub record IsLength (p : Param) (ts : List Token) : Type 0 where
  pub before : List Token
  pub name : Named
  pub sign : Token
  pub stand : ts ≡ before ++ sign ∷ []
  pub is : IsLengthName name before
  pub bracket : IsSign (codes ")") sign
  pub param_is : p ≡ length_of name

-- tokens with these brackets open in them, the innermost first
abbrev pub AreOpen : List Bracket → List Token → Type 0
AreOpen [] ts = AreClosed false ts
AreOpen (b ∷ outer) ts =
    (before : List Token) × (t : Token) × (inner : List Token)
    × (ts ≡ before ++ t ∷ inner) × AreOpen outer before × (opened_by t ≡ Some b)
    × AreClosed true inner

abbrev pub extent_in : List Token → Option Extent
extent_in [] = None
extent_in (t ∷ ts) = Some (extent_of t ts)

-- a name, `=` and a part of a default
pub record IsPending (d : Pending) (ts : List Token) : Type 0 where
  pub before : List Token
  pub n : Named
  pub sign : Token
  pub tokens : List Token
  pub stand : ts ≡ before ++ sign ∷ tokens
  pub is : IsNamed before n
  pub may : may_have_default (dir_or_in n.head.dir) ≡ true
  pub equals : IsSign (codes "=") sign
  pub param_is : d.param ≡ defaulted n
  pub are_open : AreOpen d.opens tokens
  pub extent_is : d.extent ≡ extent_in tokens

-- parameters, each followed by `,`, and `...`
pub record IsEllipsis (src : List Line) (ps : List Param) (ts : List Token) : Type 0 where
  pub before : List Token
  pub sign : Token
  pub stand : ts ≡ before ++ sign ∷ []
  pub params : AreParams src before ps
  pub is : IsSign (codes "...") sign

-- These tokens after the `(` begin a list, and break off as it says; they name these parameters,
-- and the one that it has.
abbrev pub Stands : List Line → Due → List Param → List Token → Type 0
Stands src due.First ps ts = (ts ≡ []) × (ps ≡ [])
Stands src due.Next ps ts = AreParams src ts ps × (0 < length ps)
Stands src (due.Direction direction n) ps ts = EndsIn src ps ts (IsDirection direction n)
Stands src (due.Words n) ps ts = EndsIn src ps ts (λ us. AreNaming us n)
Stands src (due.Stars typed) ps ts = EndsIn src ps ts (λ us. IsStarred us typed)
Stands src (due.Address typed) ps ts = EndsIn src ps ts (IsAddress typed)
Stands src (due.Name n) ps ts = EndsIn src ps ts (λ us. IsMarked us n)
Stands src (due.LengthOpen head) ps ts = EndsIn src ps ts (IsLengthOpen head)
Stands src (due.LengthName m) ps ts = EndsIn src ps ts (IsLengthName m)
Stands src (due.Length p) ps ts = EndsIn src ps ts (IsLength p)
Stands src (due.Default d) ps ts = EndsIn src ps ts (IsPending d)
Stands src due.Ellipsis ps ts = IsEllipsis src ps ts
