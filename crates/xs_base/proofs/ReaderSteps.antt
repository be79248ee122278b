-- What steps of a reader came from.
use Rattle.std.proofs.Common.{◌≡◌, Ok, Err, refl, sym, ap}
use Rattle.xs_base.specs.Readers.{Outcome, Reader, and_then, pure}

pub same_outcome : {I E A : Type 0} (a b : A) (i k : I) → ◌≡◌ {A = Outcome I E A} (Ok (a, i)) (Ok (b, k)) → (a ≡ b) × (i ≡ k)
same_outcome {I} {E} {A} a b i k h = let e : ◌≡◌ {A = A × I} (a, i) (b, k) = cc in (ap (λ (p : A × I). p.0) e, ap (λ (p : A × I). p.1) e)

pub bind_ok : {I E A B : Type 0} (r : Outcome I E A) (next : A → Reader I E B) (b : B × I) → and_then r next ≡ Ok b
    → (a : A) × (j : I) × (r ≡ Ok (a, j)) × (next a j ≡ Ok b)
bind_ok (Ok p) next b h = (p.0, p.1, refl, h)
bind_ok (Err e) next b h = absurd cc

pub map_ok : {I E A B : Type 0} (f : A → B) (r : Outcome I E A) (b : B) (k : I) → and_then r (λ x. pure (f x)) ≡ Ok (b, k)
    → (a : A) × (r ≡ Ok (a, k)) × (b ≡ f a)
map_ok {I} {E} {A} {B} f (Ok p) b k h =
    let s = same_outcome {I = I} {E = E} (f p.0) b p.1 k h in
    (p.0, ap (λ (j : I). let r : Outcome I E A = Ok (p.0, j) in r) s.1, sym s.0)
map_ok f (Err e) b k h = absurd cc
