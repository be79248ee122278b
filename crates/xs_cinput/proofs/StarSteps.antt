-- A turn that passes over a `*`.
use Rattle.std.proofs.Common.{◌≡◌, ℕ, suc, ◌+◌, true, refl}
use Rattle.std.specs.Prelude.{codes}
use Rattle.xs_cinput.specs.TokenInput.{Input, after, sees}
use Rattle.xs_cinput.specs.TypeReader.{stars_from}

pub star_more : (m k n : ℕ) (i j : Input) → k ≡ suc m → sees (codes "*") i ≡ true → j ≡ after (codes "*") i → stars_from k n i ≡ stars_from m (n + 1) j
unfolding stars_from
star_more m k n i j e s a = rw (e, s, a) refl
