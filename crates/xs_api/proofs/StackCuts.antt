-- A stack that is cut.
use Rattle.std.proofs.Common.{◌≡◌, ℕ, ◌-◌, List, ◌++◌, length, take, drop, reverse, sym, ap, ◌∙◌, arith, length-drop}
use Rattle.std.proofs.Math.Seq.{drop-append_seam}
use Rattle.std.proofs.lemmas.List.{reverse-append, length-reverse, take-append-drop}
use Rattle.xs_api.specs.World.{cut_stack}

-- the lowest items
pub cut-reverse : {T : Type 0} (xs : List T) (h : ℕ) → reverse (take h xs) ≡ cut_stack h (reverse xs)
cut-reverse xs h =
    let low = reverse (take h xs) in
    let top = reverse (drop h xs) in
    let whole : reverse xs ≡ top ++ low = ap reverse (sym (take-append-drop h xs)) ∙ reverse-append (take h xs) (drop h xs) in
    let high : length (reverse xs) - h ≡ length top = omega (arith, length-reverse xs, length-reverse (drop h xs), length-drop h xs) in
    sym (ap (λ n. drop n (reverse xs)) high ∙ ap (drop (length top)) whole ∙ drop-append_seam top low)
