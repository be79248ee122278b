-- The grammar of parameter lists, over tokens (perlxs: "The XSUB Parameter List").
use Rattle.std.specs.List.{list_all}
use Rattle.std.specs.Prelude.{◌≡◌, ℕ, Bool, true, false, ◌&&◌, not, fold, List, [], ◌∷◌, ◌++◌, codes, map, Option, Some, None}
use Rattle.xs_base.specs.declared.source.Line.{Line}
use Rattle.xs_ctok.specs.declared.token.Token.{Token}
use Rattle.xs_params.specs.ListTokens.{closed_by, direction_of, is_directive, is_sign, is_word, opened_by}
use Rattle.xs_params.specs.ParamSteps.{bare_head, defaulted, dir_or_in, extended, head_of, is_length_word, length_of, may_have_default, named, param_of, with_default}
use Rattle.xs_params.specs.declared.opens.Bracket.{Bracket}
use Rattle.xs_params.specs.declared.param.Dir.{Dir}
use Rattle.xs_params.specs.declared.param.Param.{Param}
use Rattle.xs_params.specs.declared.states.Extent.{Extent}
use Rattle.xs_params.specs.declared.states.Named.{Named}
use Rattle.xs_params.specs.declared.states.Typed.{Typed}

abbrev pub IsSign : List ℕ → Token → Type 0
IsSign text t = is_sign text t ≡ true

abbrev pub IsWord : Token → Type 0
IsWord t = is_word t ≡ true

-- ---- types and names

-- A word of direction, or none, before this token; where there is none the token is not such a
-- word.
pub data IsDirected : List Token → Option Dir → Token → Type 0 where
  without : {t : Token} → direction_of t.text ≡ None → IsDirected [] None t
  with_direction : {d t : Token} {direction : Dir} → IsWord d → direction_of d.text ≡ Some direction
      → IsDirected (d ∷ []) (Some direction) t

-- the words of a type, with one space between them
abbrev pub words_text : Token → List Token → List ℕ
words_text first more = fold (λ text (t : Token). text ++ 32 ∷ t.text) first.text more

-- its stars, after one space
abbrev pub stars_text : List Token → List ℕ
stars_text [] = []
stars_text (s ∷ ss) = 32 ∷ map (λ _. 42) (s ∷ ss)

abbrev pub are_words : List Token → Bool
are_words ts = list_all is_word ts

abbrev pub are_stars : List Token → Bool
are_stars ts = list_all (is_sign (codes "*")) ts

-- A direction, or none, and a type: one or more words with any number of stars after them.
pub record IsTyped (ts : List Token) (typed : Typed) : Type 0 where
  pub before : List Token
  pub first : Token
  pub more : List Token
  pub stars : List Token
  pub stand : ts ≡ before ++ ((first ∷ more) ++ stars)
  pub directed : IsDirected before typed.dir first
  pub words : are_words (first ∷ more) ≡ true
  pub are_stars : are_stars stars ≡ true
  pub text : typed.ctype ≡ words_text first more ++ stars_text stars
  pub line : typed.type_line ≡ first.span.line

-- What stands up to the name of a parameter. A name alone may be a word of direction.
pub data IsNamed : List Token → Named → Type 0 where
  alone : {n : Token} → IsWord n → IsNamed (n ∷ []) (named (bare_head None n.span.line) false n)
  directed : {d n : Token} {direction : Dir} → IsWord d → direction_of d.text ≡ Some direction
      → IsWord n → IsNamed (d ∷ n ∷ []) (named (bare_head (Some direction) n.span.line) false n)
  typed : {ts : List Token} {type : Typed} (n : Token) → IsTyped ts type → IsWord n
      → IsNamed (ts ++ n ∷ []) (named (head_of type) false n)
  by_address : {ts : List Token} {type : Typed} (a n : Token) → IsTyped ts type
      → IsSign (codes "&") a → IsWord n
      → IsNamed (ts ++ a ∷ n ∷ []) (named (head_of type) true n)

-- ---- defaults

-- a token of a default that is no bracket; a `,` stands in brackets only
abbrev pub is_plain : Bool → Token → Bool
is_plain inside t = not (is_directive t) && not (is_sign (codes ",") t && not inside)

-- Tokens whose brackets close in order, outside or inside of other brackets.
pub data AreClosed : Bool → List Token → Type 0 where
  nothing : {inside : Bool} → AreClosed inside []
  plain : {inside : Bool} {t : Token} {ts : List Token} → is_plain inside t ≡ true
      → opened_by t ≡ None → closed_by t ≡ None → AreClosed inside ts → AreClosed inside (t ∷ ts)
  bracket : {inside : Bool} {t : Token} {b : Bracket} {ts us : List Token} (u : Token)
      → opened_by t ≡ Some b → AreClosed true ts → closed_by u ≡ Some b → AreClosed inside us
      → AreClosed inside (t ∷ (ts ++ u ∷ us))

-- where tokens stand, of which the first is this
abbrev pub extent_of : Token → List Token → Extent
extent_of t ts = fold (λ x u. extended (Some x) u) (extended None t) ts

-- ---- parameters

-- `[DIRECTION] [type] name [= default]` or `[type] length(NAME)`
pub data IsParam (src : List Line) : List Token → Param → Type 0 where
  plain : {ts : List Token} {n : Named} → IsNamed ts n → IsParam src ts (param_of n)
  preset : {ts us : List Token} {n : Named} {t : Token} (e : Token) → IsNamed ts n
      → may_have_default (dir_or_in n.head.dir) ≡ true → IsSign (codes "=") e
      → AreClosed false (t ∷ us)
      → IsParam src (ts ++ e ∷ t ∷ us) (with_default src (defaulted n) (extent_of t us))
  length : {ts : List Token} {n : Named} (o w c : Token) → IsNamed ts n
      → is_length_word n ≡ true → IsSign (codes "(") o → IsWord w → IsSign (codes ")") c
      → IsParam src (ts ++ o ∷ w ∷ c ∷ []) (length_of (named n.head false w))

-- parameters, each followed by `,`
pub data AreParams (src : List Line) : List Token → List Param → Type 0 where
  nothing : AreParams src [] []
  more : {ts us : List Token} {ps : List Param} {p : Param} (c : Token) → AreParams src ts ps
      → IsParam src us p → IsSign (codes ",") c
      → AreParams src (ts ++ (us ++ c ∷ [])) (ps ++ p ∷ [])

-- A list after its `(`, up to its `)`, which is this token: its parameters, and whether `...` ends
-- them.
pub data IsList (src : List Line) (c : Token) : List Token → List Param → Bool → Type 0 where
  empty : IsSign (codes ")") c → IsList src c (c ∷ []) [] false
  params : {ts us : List Token} {ps : List Param} {p : Param} → AreParams src ts ps
      → IsParam src us p → IsSign (codes ")") c
      → IsList src c (ts ++ (us ++ c ∷ [])) (ps ++ p ∷ []) false
  ellipsis : {ts : List Token} {ps : List Param} (e : Token) → AreParams src ts ps
      → IsSign (codes "...") e → IsSign (codes ")") c → IsList src c (ts ++ e ∷ c ∷ []) ps true
