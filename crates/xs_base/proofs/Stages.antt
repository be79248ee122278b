-- What a stage after a stage came from.
use Rattle.std.proofs.Common.{◌≡◌, Result, Ok, Err, refl}
use Rattle.xs_base.specs.Reading.{◌>>=◌}
use Rattle.xs_base.specs.declared.fault.Fault.{Fault}

pub record Bound {A B : Type 0} (r : Result A Fault) (k : A → Result B Fault) (b : B) : Type 0 where
  pub at : A
  pub was : r ≡ Ok at
  pub then_is : k at ≡ Ok b

pub bound : {A B : Type 0} (r : Result A Fault) (k : A → Result B Fault) (b : B) → (r >>= k) ≡ Ok b → Bound r k b
bound (Ok a) k b h = record { at = a; was = refl; then_is = h }
bound (Err f) k b h = absurd cc
