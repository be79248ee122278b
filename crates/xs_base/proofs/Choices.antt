-- What a choice that gives this came from.
use Rattle.std.proofs.Common.{◌≡◌, Bool, true, false, Option, None, Some, refl}
use Rattle.std.specs.Option.{option_or}
use Rattle.std.specs.Prelude.{if◌then◌else◌}

-- neither of two gives anything
pub none_of_both : {A : Type 0} (a b : Option A) → option_or a b ≡ None → (a ≡ None) × (b ≡ None)
none_of_both None b h = (refl, h)
none_of_both (Some x) b h = absurd cc

-- nothing is given, so the test fails
pub none_unless : {A : Type 0} (t : Bool) (x : A) (o : Option A) → (if t then Some x else o) ≡ None → (t ≡ false) × (o ≡ None)
none_unless true x o h = absurd cc
none_unless false x o h = (refl, h)

-- something is given, so the test passes
pub some_if : {A : Type 0} (t : Bool) (o : Option A) (a : A) → (if t then o else None) ≡ Some a → (t ≡ true) × (o ≡ Some a)
some_if true o a h = (refl, h)
some_if false o a h = absurd cc
