-- The value of digits only grows as digits follow.
use Rattle.std.proofs.Common.{◌≡◌, ℕ, suc, ◌+◌, ◌*◌, ◌-◌, ◌<◌, ◌≤◌, List, [], ◌∷◌, length, get_or, drop, fold, ap, arith}
use Rattle.std.proofs.Math.Seq.{drop-cons}

abbrev digit_step : ℕ → ℕ → ℕ
digit_step n b = 10 * n + (b - 48)

fold_grows : (n : ℕ) (ds : List ℕ) → n ≤ fold digit_step n ds
fold_grows n [] = omega arith
fold_grows n (d ∷ ds) = omega (arith, fold_grows (10 * n + (d - 48)) ds)

pub too_wide : (n i m : ℕ) (ds : List ℕ) → i < length ds → m ≤ 10 * n + (get_or ds i 0 - 48) → m ≤ fold digit_step n (drop i ds)
too_wide n i m ds h wide =
    let e : fold digit_step n (drop i ds) ≡ fold digit_step (10 * n + (get_or ds i 0 - 48)) (drop (suc i) ds) = ap (fold digit_step n) (drop-cons ds i 0 h) in
    omega (arith, e, fold_grows (10 * n + (get_or ds i 0 - 48)) (drop (suc i) ds))
