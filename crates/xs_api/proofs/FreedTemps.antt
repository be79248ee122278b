-- Temporaries are freed one by one.
use Rattle.std.proofs.Common.{◌≡◌, ℕ, suc, ◌-◌, ◌<◌, List, ◌∷◌, length, sym, ap, ◌∙◌, arith}
use Rattle.xs_values.specs.declared.trap.Trap.{Trap}
use Rattle.xs_api.specs.World.{World, Clean, Dirty, then_swept, free_above, free_newest, lower, with_temps}

free-step : (h n : ℕ) (temps ts : List ℕ) (w : World) → temps ≡ n ∷ ts → h < length temps
    → free_newest (length temps - h) temps w ≡ then_swept (lower n (with_temps ts w)) (free_newest (length ts - h) ts)
free-step h n temps ts w e less =
    let more : length (n ∷ ts) - h ≡ suc (length ts - h) = omega (arith, less, ap length e) in
    ap (λ l. free_newest (length l - h) l w) e ∙ ap (λ k. free_newest k (n ∷ ts) w) more

-- one was freed, and the others are left
pub free-clean : (h n : ℕ) (ts : List ℕ) (w w1 : World) → w.temps ≡ n ∷ ts → h < length w.temps → lower n (with_temps ts w) ≡ Clean w1 → w1.temps ≡ ts
    → free_above h w1 ≡ free_above h w
free-clean h n ts w w1 e less clean same =
    ap (λ l. free_newest (length l - h) l w1) same
    ∙ sym (free-step h n w.temps ts w e less ∙ ap (λ x. then_swept x (free_newest (length ts - h) ts)) clean)

-- one was gone
pub free-dirty : (h n : ℕ) (ts : List ℕ) (w w1 : World) (t : Trap) → w.temps ≡ n ∷ ts → h < length w.temps → lower n (with_temps ts w) ≡ Dirty t w1
    → free_above h w ≡ Dirty t w1
free-dirty h n ts w w1 t e less dirty = free-step h n w.temps ts w e less ∙ ap (λ x. then_swept x (free_newest (length ts - h) ts)) dirty
