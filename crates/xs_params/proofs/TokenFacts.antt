-- What one token is, it is not another.
use Rattle.std.proofs.Common.{◌≡◌, ℕ, Bool, true, false, List, Option, None, Some, refl, subst}
use Rattle.std.proofs.lemmas.Bool.{and_parts}
use Rattle.std.proofs.lemmas.Slice.Eq.{bytes_eq-Decides}
use Rattle.std.specs.Prelude.{codes, if◌then◌else◌}
use Rattle.std.specs.Str.{bytes_eq}
use Rattle.xs_ctok.specs.declared.token.TokKind.{TokKind}
use Rattle.xs_ctok.specs.declared.token.TokKind.TheVariants as kind
use Rattle.xs_ctok.specs.declared.token.Token.{Token}
use Rattle.xs_params.specs.ListTokens.{closed_by, is_directive, is_directive_kind, is_punct_kind, is_sign, is_word, is_word_kind, opened_by}
use Rattle.xs_params.specs.ParamGrammar.{IsSign, IsWord}
use Rattle.xs_params.specs.declared.opens.Bracket.{Bracket}
use Rattle.xs_params.specs.declared.opens.Bracket.TheVariants as bracket

no_word_kind : (k : TokKind) → is_punct_kind k ≡ true → is_word_kind k ≡ false
no_word_kind kind.Word h = absurd cc
no_word_kind _ h = refl

no_punct_kind : (k : TokKind) → is_word_kind k ≡ true → is_punct_kind k ≡ false
no_punct_kind kind.Punct h = absurd cc
no_punct_kind _ h = refl

no_directive_kind : (k : TokKind) → is_punct_kind k ≡ true → is_directive_kind k ≡ false
no_directive_kind kind.Include h = absurd cc
no_directive_kind (kind.Define name literal) h = absurd cc
no_directive_kind _ h = refl

sign_kind : (b : List ℕ) (t : Token) → IsSign b t → is_punct_kind t.kind ≡ true
sign_kind b t h = (and_parts (is_punct_kind t.kind) (bytes_eq t.text b) h).0

-- a sign is another one only where their texts are the same
pub sign_is : (a b : List ℕ) (t : Token) → IsSign b t → is_sign a t ≡ bytes_eq b a
sign_is a b t h =
    let p = and_parts (is_punct_kind t.kind) (bytes_eq t.text b) h in
    rw (p.0, (bytes_eq-Decides t.text b).0 p.1) refl

pub sign_no_word : (b : List ℕ) (t : Token) → IsSign b t → is_word t ≡ false
sign_no_word b t h = no_word_kind t.kind (sign_kind b t h)

pub sign_no_directive : (b : List ℕ) (t : Token) → IsSign b t → is_directive t ≡ false
sign_no_directive b t h = no_directive_kind t.kind (sign_kind b t h)

pub word_no_sign : (a : List ℕ) (t : Token) → IsWord t → is_sign a t ≡ false
word_no_sign a t h = rw (no_punct_kind t.kind h) refl

-- which signs open a bracket
pub data Opening (t : Token) : Bracket → Type 0 where
  round : IsSign (codes "(") t → Opening t bracket.Round
  square : IsSign (codes "[") t → Opening t bracket.Square
  curly : IsSign (codes "{") t → Opening t bracket.Curly

pub data Closing (t : Token) : Bracket → Type 0 where
  round : IsSign (codes ")") t → Closing t bracket.Round
  square : IsSign (codes "]") t → Closing t bracket.Square
  curly : IsSign (codes "}") t → Closing t bracket.Curly

some_same : {a b : Bracket} → Some a ≡ Some b → a ≡ b
some_same {a} {b} e = subst (λ o. Is a o) e refl
  where
    Is : Bracket → Option Bracket → Type 0
    Is x None = ⊥
    Is x (Some y) = x ≡ y

pub opening : (t : Token) (b : Bracket) → opened_by t ≡ Some b → Opening t b
unfolding opened_by
opening t b h = by_round (is_sign (codes "(") t) (is_sign (codes "[") t) (is_sign (codes "{") t) refl refl refl h
  where
    by_round : (x y z : Bool) → is_sign (codes "(") t ≡ x → is_sign (codes "[") t ≡ y → is_sign (codes "{") t ≡ z
        → (if x then Some bracket.Round else if y then Some bracket.Square else if z then Some bracket.Curly else None) ≡ Some b → Opening t b
    by_round true y z p q r e = subst (Opening t) (some_same e) (round p)
    by_round false true z p q r e = subst (Opening t) (some_same e) (square q)
    by_round false false true p q r e = subst (Opening t) (some_same e) (curly r)
    by_round false false false p q r e = absurd cc

pub closing : (t : Token) (b : Bracket) → closed_by t ≡ Some b → Closing t b
unfolding closed_by
closing t b h = by_round (is_sign (codes ")") t) (is_sign (codes "]") t) (is_sign (codes "}") t) refl refl refl h
  where
    by_round : (x y z : Bool) → is_sign (codes ")") t ≡ x → is_sign (codes "]") t ≡ y → is_sign (codes "}") t ≡ z
        → (if x then Some bracket.Round else if y then Some bracket.Square else if z then Some bracket.Curly else None) ≡ Some b → Closing t b
    by_round true y z p q r e = subst (Closing t) (some_same e) (round p)
    by_round false true z p q r e = subst (Closing t) (some_same e) (square q)
    by_round false false true p q r e = subst (Closing t) (some_same e) (curly r)
    by_round false false false p q r e = absurd cc

-- a token that closes nothing is no `)`
pub no_close : (t : Token) → closed_by t ≡ None → is_sign (codes ")") t ≡ false
unfolding closed_by
no_close t h = by_round (is_sign (codes ")") t) refl h
  where
    by_round : (x : Bool) → is_sign (codes ")") t ≡ x
        → (if x then Some bracket.Round else if is_sign (codes "]") t then Some bracket.Square else if is_sign (codes "}") t then Some bracket.Curly else
        None) ≡ None
        → x ≡ false
    by_round true p e = absurd cc
    by_round false p e = refl

-- what an opening bracket is not
pub record NoEnd (t : Token) : Type 0 where
  pub no_comma : is_sign (codes ",") t ≡ false
  pub no_close : is_sign (codes ")") t ≡ false
  pub no_directive : is_directive t ≡ false

pub opening_no_end : (t : Token) (b : Bracket) → Opening t b → NoEnd t
opening_no_end t bracket.Round (round h) =
    record { no_comma = sign_is (codes ",") (codes "(") t h; no_close = sign_is (codes ")") (codes "(") t h; no_directive = sign_no_directive (codes "(") t h }
opening_no_end t bracket.Square (square h) =
    record { no_comma = sign_is (codes ",") (codes "[") t h; no_close = sign_is (codes ")") (codes "[") t h; no_directive = sign_no_directive (codes "[") t h }
opening_no_end t bracket.Curly (curly h) =
    record { no_comma = sign_is (codes ",") (codes "{") t h; no_close = sign_is (codes ")") (codes "{") t h; no_directive = sign_no_directive (codes "{") t h }

-- what a closing bracket does
pub record Closes (t : Token) : Type 0 where
  pub no_open : opened_by t ≡ None
  pub no_directive : is_directive t ≡ false

no_opening : (b : List ℕ) (t : Token) → IsSign b t → bytes_eq b (codes "(") ≡ false → bytes_eq b (codes "[") ≡ false → bytes_eq b (codes "{") ≡ false
    → opened_by t ≡ None
unfolding opened_by
no_opening b t h x y z = rw (sign_is (codes "(") b t h, sign_is (codes "[") b t h, sign_is (codes "{") b t h, x, y, z) refl

pub closing_closes : (t : Token) (b : Bracket) → Closing t b → Closes t
closing_closes t bracket.Round (round h) = record { no_open = no_opening (codes ")") t h refl refl refl; no_directive = sign_no_directive (codes ")") t h }
closing_closes t bracket.Square (square h) = record { no_open = no_opening (codes "]") t h refl refl refl; no_directive = sign_no_directive (codes "]") t h }
closing_closes t bracket.Curly (curly h) = record { no_open = no_opening (codes "}") t h refl refl refl; no_directive = sign_no_directive (codes "}") t h }
