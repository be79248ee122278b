-- Facts that several proofs of this crate use.
use Rattle.std.proofs.Common.{◌≡◌, ℕ, ◌<◌, ◌||◌, Bool, true, false, List, ◌++◌, Result, Ok, Err, refl, sym, arith}
use Rattle.std.proofs.lemmas.Bool.Decides.{nat_tests}
use Rattle.std.specs.Prelude.{nat_lt}
use Rattle.xs_base.specs.Reading.{with_front}
use Rattle.xs_base.specs.declared.fault.Fault.{Fault}
use Rattle.xs_ctok.specs.declared.front.Front.TheVariants as front
use Rattle.xs_ctok.specs.declared.token.TokKind.{TokKind}
use Rattle.xs_ctok.specs.declared.token.Token.{Token}

pub or_none : (x y : Bool) → (x || y) ≡ false → (x ≡ false) × (y ≡ false)
or_none true y h = absurd cc
or_none false y h = (refl, h)

pub is_less : (m n : ℕ) → nat_lt m n ≡ true → m < n
is_less m n h = grind (arith, nat_tests)

pub less_is : (m n : ℕ) → m < n → nat_lt m n ≡ true
less_is m n h = grind (arith, nat_tests)

-- two fronts that are one token
pub same_piece : (t u : TokKind) (m n : ℕ) → front.Piece t m ≡ front.Piece u n → (t ≡ u) × (n ≡ m)
same_piece t u m n h = (cc, cc)

-- tokens after others
pub front_ok : (before : List Token) (r : Result (List Token) Fault) (ts : List Token) → with_front before r ≡ Ok ts
    → (us : List Token) × (r ≡ Ok us) × (ts ≡ before ++ us)
front_ok before (Ok us) ts h = (us, refl, let e : before ++ us ≡ ts = cc in sym e)
front_ok before (Err f) ts h = absurd cc
