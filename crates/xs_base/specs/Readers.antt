-- Readers: what stands in front of a list, and steps that rules of a grammar are made of.
use Rattle.std.specs.Prelude.{Bool, false, List, [], ◌∷◌, Result, Ok, Err}

-- whether there is a first one, and it passes
abbrev pub head_is : {A : Type 0} → (A → Bool) → List A → Bool
head_is p [] = false
head_is p (x ∷ xs) = p x

-- what stands after the first one
abbrev pub tail : {A : Type 0} → List A → List A
tail [] = []
tail (x ∷ xs) = xs

-- What reading from an input comes to: what was read and the input that is left, or why there is no
-- reading.
abbrev pub Outcome : Type 0 → Type 0 → Type 0 → Type 0
Outcome I E A = Result (A × I) E

abbrev pub Reader : Type 0 → Type 0 → Type 0 → Type 0
Reader I E A = I → Outcome I E A

abbrev pub and_then : {I E A B : Type 0} → Outcome I E A → (A → Reader I E B) → Outcome I E B
and_then (Ok p) f = f p.0 p.1
and_then (Err e) f = Err e

infixl 10 ◌>>=◌
abbrev pub ◌>>=◌ : {I E A B : Type 0} → Reader I E A → (A → Reader I E B) → Reader I E B
p >>= f = λ i. and_then (p i) f

infixl 10 ◌>>◌
abbrev pub ◌>>◌ : {I E A B : Type 0} → Reader I E A → Reader I E B → Reader I E B
p >> q = p >>= (λ _. q)

abbrev pub pure : {I E A : Type 0} → A → Reader I E A
pure a = λ i. Ok (a, i)

infixr 11 ◌<$>◌
abbrev pub ◌<$>◌ : {I E A B : Type 0} → (A → B) → Reader I E A → Reader I E B
f <$> p = p >>= (λ x. pure (f x))
