-- Texts one after the other, each given by an equation.
use Rattle.std.proofs.Common.{◌≡◌, ℕ, List, [], ◌∷◌, refl, ap, ap₂, ◌∙◌}
use Rattle.std.specs.List.{concat}

abbrev no_texts : List (List ℕ)
no_texts = []

pub no_more : no_texts ≡ no_texts
no_more = refl

infixr 5 ◌then◌
pub ◌then◌ : {t u : List ℕ} {ts us : List (List ℕ)} → t ≡ u → ts ≡ us → t ∷ ts ≡ u ∷ us
e then f = ap₂ ◌∷◌ e f

pub all_joined : {t : List ℕ} {ts us : List (List ℕ)} → ts ≡ us → t ≡ concat ts → t ≡ concat us
all_joined same tokens_are = tokens_are ∙ ap concat same
