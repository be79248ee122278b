-- Which statement the first token begins.
use Rattle.std.proofs.Common.{◌≡◌, ◌∙◌, true, List, [], ◌∷◌, Some, ℕ, refl, ap}
use Rattle.std.specs.Prelude.{slice_get}
use Rattle.xs_base.specs.Readers.{tail}
use Rattle.xs_cinput.specs.Operators.{listed}
use Rattle.xs_cinput.specs.TokenInput.{Input, is_word_kind}
use Rattle.xs_cstmt.specs.StatementReader.{first_opener, opener, openers}
use Rattle.xs_ctok.specs.declared.token.Token.{Token}

first_and_rest : {A : Type 0} (xs : List A) (x : A) → Some x ≡ slice_get xs 0 → xs ≡ x ∷ tail xs
first_and_rest [] x e = absurd cc
first_and_rest (y ∷ ys) x e = let h : y ≡ x = cc in ap (λ z. z ∷ ys) h

pub opener_listed : (i : Input) (t : Token) (text : List ℕ) → Some t ≡ slice_get i.rest 0 → is_word_kind t.kind ≡ true → text ≡ t.text
    → opener i ≡ listed openers text
unfolding opener
opener_listed i t text e w f =
    let word : first_opener (t ∷ tail i.rest) ≡ listed openers text = rw (w, f) refl in
    ap first_opener (first_and_rest i.rest t e) ∙ word
