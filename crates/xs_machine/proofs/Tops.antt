-- A vector as a stack, whose top is its last element.
use Rattle.std.proofs.Common.{◌≡◌, ℕ, zero, suc, ◌+◌, ◌-◌, List, [], ◌∷◌, ◌++◌, length, take, drop, reverse, refl, sym, ap, ◌∙◌, ⊎_elim, arith, length-drop}
use mathlib.Core.List.{reverse_aux, reverse_aux-eq}
use Rattle.std.proofs.lemmas.Bool.{cases_lt}
use Rattle.xs_api.specs.declared.api.Operand.{Operand}
use Rattle.xs_machine.specs.Machine.{popped}
use Rattle.std.proofs.lemmas.List.{reverse-append, reverse-reverse, length-reverse, take-append-drop}

-- more operands than there are
popped_nil : (n : ℕ) (acc : List Operand) → popped n acc [] ≡ (acc, [])
popped_nil zero acc = refl
popped_nil (suc n) acc = refl

-- the top part, whose last operand is on top
popped_top : (r : List Operand) (n : ℕ) (acc vs : List Operand) → popped (length r + n) acc (r ++ vs) ≡ popped n (reverse_aux r acc) vs
popped_top [] n acc vs = let e : 0 + n ≡ n = omega arith in ap (λ m. popped m acc vs) e
popped_top (v ∷ r) n acc vs =
    let e : length (v ∷ r) + n ≡ suc (length r + n) = omega arith in
    ap (λ m. popped m acc (v ∷ r ++ vs)) e ∙ popped_top r n (v ∷ acc) vs

-- operands that were put on others, the last on top
pub popped_all : (l vs : List Operand) (n : ℕ) → length l ≡ n → popped n [] (reverse_aux l vs) ≡ (l, vs)
popped_all l vs n h =
    let e : n ≡ length (reverse l) + 0 = omega (arith, h, length-reverse l) in
    ap (λ m. popped m [] (reverse_aux l vs)) e ∙ ap (popped (length (reverse l) + 0) []) (reverse_aux-eq l vs) ∙ popped_top (reverse l) 0 [] vs
    ∙ ap (λ r. (r, vs)) (reverse-reverse l)

-- the n topmost operands, and the others
pub popped_split : (s : List Operand) (n at : ℕ) → at ≡ length s - n → popped n [] (reverse s) ≡ (drop at s, reverse (take at s))
popped_split s n at e =
    let top = drop at s in
    let low = take at s in
    let whole : reverse s ≡ reverse top ++ reverse low = ap reverse (sym (take-append-drop at s)) ∙ reverse-append low top in
    let back : reverse (reverse top) ≡ top = reverse-reverse top in
    let long = length-reverse top in
    let size : length top ≡ length s - at = length-drop at s in
    ap (λ l. popped n [] l) whole
    ∙ ⊎_elim
    (λ lt.
    let k : n ≡ length (reverse top) + (n - length s) = omega arith in
    let zero_at : at ≡ 0 = omega arith in
    let none : low ≡ [] = ap (λ i. take i s) zero_at in
    ap (λ m. popped m [] (reverse top ++ reverse low)) k ∙ popped_top (reverse top) (n - length s) [] (reverse low)
    ∙ ap (λ l. popped (n - length s) l (reverse low)) back
    ∙ ap (λ l. popped (n - length s) top (reverse l)) none ∙ popped_nil (n - length s) top ∙ ap (λ l. (top, reverse l)) (sym none))
    (λ le.
    let k : n ≡ length (reverse top) + 0 = omega arith in
    ap (λ m. popped m [] (reverse top ++ reverse low)) k ∙ popped_top (reverse top) 0 [] (reverse low) ∙ ap (λ l. (l, reverse low)) back)
    (cases_lt (length s) n)
