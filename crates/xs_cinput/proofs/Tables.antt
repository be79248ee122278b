-- What stands in a table of words.
use Rattle.std.proofs.Common.{◌≡◌, ℕ, Bool, true, false, if◌then◌else◌, cond, List, [], ◌∷◌, Option, Some, None, find, option_map, refl, subst}
use Rattle.std.proofs.lemmas.Option.{same_Some}
use Rattle.std.proofs.lemmas.Slice.Eq.{bytes_eq-Decides}
use Rattle.std.specs.Str.{bytes_eq}
use Rattle.xs_cinput.specs.Operators.{listed, sign_in}
use Rattle.xs_cinput.specs.TokenInput.{is_punct_kind}
use Rattle.xs_ctok.specs.declared.token.TokKind.{TokKind}
use Rattle.xs_ctok.specs.declared.token.TokKind.TheVariants as kind
use Rattle.xs_ctok.specs.declared.token.Token.{Token}

-- each row has this property
abbrev pub EachRow : {V : Type 0} → (List ℕ → V → Type 0) → List (List ℕ × V) → Type 0
EachRow P [] = Unit {0}
EachRow P (row ∷ more) = P row.0 row.1 × EachRow P more

-- so has what is found
pub found_row : {V : Type 0} (P : List ℕ → V → Type 0) (table : List (List ℕ × V)) (word : List ℕ) (v : V) → EachRow P table → listed table word ≡ Some v
    → P word v
found_row P [] word v each e = absurd cc
found_row {V} P (row ∷ more) word v each e = by (bytes_eq row.0 word) refl e (λ f. found_row P more word v each.1 f)
  where
    by : (c : Bool) → bytes_eq row.0 word ≡ c → option_map (λ (r : List ℕ × V). r.1) (cond c (Some row) (find (λ (r : List ℕ × V). bytes_eq r.0 word) more))
        ≡ Some v
        → (listed more word ≡ Some v → P word v) → P word v
    by true same e again =
        let key : row.0 ≡ word = (bytes_eq-Decides row.0 word).0 same in
        let value : row.1 ≡ v = same_Some row.1 v e in
        subst (λ (w : List ℕ). P w v) key (subst (λ (x : V). P row.0 x) value each.0)
    by false same e again = again e

-- and so has the row of a punctuator
pub sign_found : {V : Type 0} (P : List ℕ → V → Type 0) (table : List (List ℕ × V)) (t : Token) (v : V) → EachRow P table → sign_in table t ≡ Some v
    → P t.text v × (t.kind ≡ kind.Punct)
sign_found {V} P table t v each e = by t.kind refl e
  where
    by : (k : TokKind) → t.kind ≡ k → ◌≡◌ {A = Option V} (if is_punct_kind k then listed table t.text else None) (Some v) → P t.text v × (t.kind ≡ kind.Punct)
    by kind.Punct k e = (found_row P table t.text v each e, k)
    by k is e = absurd cc
