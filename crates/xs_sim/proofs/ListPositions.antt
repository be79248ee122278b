-- Places in a list of cells and in a list of values.
use Rattle.std.proofs.Common.{◌≡◌, ℕ, ◌+◌, arith, List, [], ◌∷◌, ◌++◌, length, Some, refl, sym, ap, ◌∙◌, append_assoc, length-append}
use Rattle.std.proofs.Math.Seq.{get_or-append_seam, set-append_seam}
use Rattle.std.specs.Prelude.{slice_get, slice_index_or, slice_set}

-- what stands after so many
pub get_at : {X : Type 0} (h t : List X) (x d : X) (n : ℕ) → length h ≡ n → slice_index_or (h ++ x ∷ t) n d ≡ x
get_at h t x d n e = ap (λ k. slice_index_or (h ++ x ∷ t) k d) (sym e) ∙ get_or-append_seam h x t d

pub set_at : {X : Type 0} (h t : List X) (x v : X) (n : ℕ) → length h ≡ n → slice_set (h ++ x ∷ t) n v ≡ h ++ v ∷ t
set_at h t x v n e = ap (λ k. slice_set (h ++ x ∷ t) k v) (sym e) ∙ set-append_seam h x t v

get_seam : {X : Type 0} (h : List X) (x : X) (t : List X) → slice_get (h ++ x ∷ t) (length h) ≡ Some x
get_seam [] x t = refl
get_seam (y ∷ h) x t = get_seam h x t

pub find_at : {X : Type 0} (h t : List X) (x : X) (n : ℕ) → length h ≡ n → slice_get (h ++ x ∷ t) n ≡ Some x
find_at h t x n e = ap (slice_get (h ++ x ∷ t)) (sym e) ∙ get_seam h x t

pub one_longer : {X : Type 0} (h : List X) (x : X) (n : ℕ) → length h ≡ n → length (h ++ x ∷ []) ≡ n + 1
one_longer h x n e = omega (arith, e, length-append h (x ∷ []))

-- and what stands after one more
pub get_next : {X : Type 0} (h t : List X) (x y d : X) (n : ℕ) → length h ≡ n → slice_index_or (h ++ x ∷ y ∷ t) (n + 1) d ≡ y
get_next h t x y d n e = ap (λ l. slice_index_or l (n + 1) d) (sym (append_assoc h (x ∷ []) (y ∷ t))) ∙ get_at (h ++ x ∷ []) t y d (n + 1) (one_longer h x n e)

pub set_next : {X : Type 0} (h t : List X) (x y v : X) (n : ℕ) → length h ≡ n → slice_set (h ++ x ∷ y ∷ t) (n + 1) v ≡ h ++ x ∷ v ∷ t
set_next h t x y v n e =
    ap (λ l. slice_set l (n + 1) v) (sym (append_assoc h (x ∷ []) (y ∷ t)))
    ∙ set_at (h ++ x ∷ []) t y v (n + 1) (one_longer h x n e)
    ∙ append_assoc h (x ∷ []) (v ∷ t)
