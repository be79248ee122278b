-- What a heap keeps over its calls.
use Rattle.std.proofs.Common.{◌≡◌, ℕ, zero, suc, ◌+◌, ◌-◌, ◌<◌, ◌≤◌, Bool, true, false, [], ◌∷◌, ◌++◌, length, drop, Option, Some, None, sym, ap, ◌∙◌, subst, arith, length-append, length-drop, inl, inr}
use Rattle.std.proofs.lemmas.Bool.{cases_lt}
use Rattle.std.proofs.lemmas.List.{drop-append-le, drop-set-add, drop-set-lt, get_or-drop, get_or-set_other, get_or_append_left}
use Rattle.std.proofs.lemmas.List.Sums.{count_by-le-length, sum_by-set, sum_by_push}
use Rattle.std.specs.Option.{is_some}
use Rattle.std.specs.Prelude.{cond, slice_set}
use Rattle.std.proofs.Math.ListN.{length-set}
use Rattle.xs_api.specs.declared.heap.Cell.{Cell}
use Rattle.xs_api.specs.Limits.{most_names}
use Rattle.xs_values.specs.declared.plain.Plain.{Plain}
use Rattle.xs_api.specs.Heaps.{HeapHolds, Lowers, Sets}
use Rattle.xs_api.specs.World.{Cells, cell_at, is_uncounted, live_of, living, lowered}

abbrev pub one_of : Option Cell → ℕ
one_of c = cond (is_some c) 1 0

living-drop-set : (cells : Cells) (k n : ℕ) (v : Option Cell) → k ≤ n → n < length cells → living (drop k (slice_set cells n v)) + one_of (cell_at n cells)
    ≡ living (drop k cells) + one_of v
living-drop-set cells k n v le h =
    let at : n ≡ k + (n - k) = omega (arith, le) in
    let moved : drop k (slice_set cells n v) ≡ slice_set (drop k cells) (n - k) v = ap (λ i. drop k (slice_set cells i v)) at
    ∙ drop-set-add k cells (n - k) v in
    let here : cell_at n cells ≡ cell_at (n - k) (drop k cells) = ap (λ i. cell_at i cells) at ∙ sym (get_or-drop k cells (n - k) None) in
    ap (λ l. living l + one_of (cell_at n cells)) moved
    ∙ ap (λ c. living (slice_set (drop k cells) (n - k) v) + one_of c) here
    ∙ sum_by-set one_of (drop k cells) (n - k) v None (omega (arith, le, h, length-drop k cells))

living-drop-append : (cells : Cells) (k : ℕ) (v : Option Cell) → k ≤ length cells → living (drop k (cells ++ v ∷ [])) ≡ living (drop k cells) + one_of v
living-drop-append cells k v h = ap living (drop-append-le k cells (v ∷ []) h) ∙ sum_by_push one_of (drop k cells) v

-- a scalar that is there has its place in the list
pub cell_within : (cells : Cells) (n : ℕ) (c : Cell) → cell_at n cells ≡ Some c → n < length cells
cell_within [] n c e = cc
cell_within (x ∷ cells) zero c e = omega arith
cell_within (x ∷ cells) (suc n) c e = omega (arith, cell_within cells n c e)

set_elsewhere : (cells : Cells) (n : ℕ) (v : Option Cell) → cell_at 0 cells ≡ None → 0 < n → cell_at 0 (slice_set cells n v) ≡ None
set_elsewhere cells n v e h = get_or-set_other cells n 0 v None (λ same. omega (arith, same, h)) ∙ e

kept_in_front : (cells : Cells) (v : Option Cell) → cell_at 0 cells ≡ None → 5 ≤ length cells → cell_at 0 (cells ++ v ∷ []) ≡ None
kept_in_front cells v e h = get_or_append_left cells (v ∷ []) None 0 (omega (arith, h)) ∙ e

-- a counted scalar has a name above the immortals
counted_at : (n : ℕ) → is_uncounted n ≡ false → 0 < n → 5 ≤ n
counted_at zero e h = absurd (omega (arith, h))
counted_at (suc zero) e h = cc
counted_at (suc (suc zero)) e h = cc
counted_at (suc (suc (suc zero))) e h = cc
counted_at (suc (suc (suc (suc zero)))) e h = cc
counted_at (suc (suc (suc (suc (suc n))))) e h = omega arith

not_none : (cells : Cells) (n : ℕ) (c : Cell) → cell_at 0 cells ≡ None → cell_at n cells ≡ Some c → 0 < n
not_none cells zero c e f = cc
not_none cells (suc n) c e f = omega arith

low : (cells : Cells) (n : ℕ) (c v : Cell) (k : ℕ) → k ≤ n → cell_at n cells ≡ Some c → living (drop k (slice_set cells n (Some v))) ≡ living (drop k cells)
low cells n c v k le e = omega (arith, living-drop-set cells k n (Some v) le (cell_within cells n c e), ap one_of e)

-- below the counted names nothing is counted
living-low-set : (cells : Cells) (k n : ℕ) (v : Option Cell) → n < k → living (drop k (slice_set cells n v)) ≡ living (drop k cells)
living-low-set cells k n v h = ap living (drop-set-lt k cells n v h)

same_living : (cells : Cells) (n : ℕ) (c v : Cell) → cell_at n cells ≡ Some c → live_of (slice_set cells n (Some v)) ≡ live_of cells
same_living cells n c v e =
    elim (cases_lt n 5) [
      | inl h ↦ living-low-set cells 5 n (Some v) h
      | inr h ↦ low cells n c v 5 h e
    ]

-- another value or count of a scalar that is there
pub holds_kept : (cells : Cells) (live n : ℕ) (c v : Cell) → HeapHolds cells live → cell_at n cells ≡ Some c → HeapHolds (slice_set cells n (Some v)) live
holds_kept cells live n c v h e = record {
  none = set_elsewhere cells n (Some v) h.none (not_none cells n c h.none e);
  long = omega (arith, h.long, length-set {A = Option Cell} cells n (Some v));
  short = omega (arith, h.short, length-set {A = Option Cell} cells n (Some v));
  counted = h.counted ∙ sym (same_living cells n c v e);
}

-- a scalar goes
pub holds_gone : (cells : Cells) (live n : ℕ) (c : Cell) → HeapHolds cells live → cell_at n cells ≡ Some c → is_uncounted n ≡ false
    → (1 ≤ live) × HeapHolds (slice_set cells n None) (live - 1)
holds_gone cells live n c h e u =
    let at : 5 ≤ n = counted_at n u (not_none cells n c h.none e) in
    let fall : living (drop 5 (slice_set cells n None)) + one_of (Some c) ≡ living (drop 5 cells) + 0 =
    ap (λ x. living (drop 5 (slice_set cells n None)) + one_of x) (sym e) ∙ living-drop-set cells 5 n None at (cell_within cells n c e) in (
      omega (arith, fall, h.counted),
      record {
        none = set_elsewhere cells n None h.none (omega (arith, at));
        long = omega (arith, h.long, length-set {A = Option Cell} cells n None);
        short = omega (arith, h.short, length-set {A = Option Cell} cells n None);
        counted = omega (arith, fall, h.counted);
      },
    )

-- a new scalar
pub holds_made : (cells : Cells) (live : ℕ) (c : Cell) → HeapHolds cells live → length cells < most_names
    → (live < most_names) × HeapHolds (cells ++ Some c ∷ []) (live + 1)
holds_made cells live c h less = (
  omega (arith, less, h.counted, count_by-le-length is_some (drop 5 cells), length-drop 5 cells),
  record {
    none = kept_in_front cells (Some c) h.none h.long;
    long = omega (arith, h.long, length-append cells (Some c ∷ []));
    short = omega (arith, less, length-append cells (Some c ∷ []));
    counted = omega (arith, h.counted, living-drop-append cells 5 (Some c) h.long);
  },
)

-- two owners or more
pub lowered_kept : (k j : ℕ) (p : Plain) → 2 ≤ k → j ≡ k - 1 → lowered k p ≡ Some (record { value = p; count = j })
lowered_kept zero j p h e = absurd (omega (arith, h))
lowered_kept (suc zero) j p h e = absurd (omega (arith, h))
lowered_kept (suc (suc k)) j p h e = let same : suc k ≡ j = omega (arith, e) in ap (λ n. Some (record { value = p; count = n })) same

-- a value that is set, or nothing
pub holds_set : (old new : Cells) (live n : ℕ) (p : Plain) (b : Bool) → HeapHolds old live → Sets n p old b new → HeapHolds new live
holds_set old new live n p true h s = let P : Cells → Type 0 = λ x. HeapHolds x live in subst P (sym s.2) (holds_kept old live n s.0 _ h s.1)
holds_set old new live n p false h s = let P : Cells → Type 0 = λ x. HeapHolds x live in subst P (sym s.1) h

-- another count
pub holds_recounted : (old new : Cells) (live n k : ℕ) (c : Cell) → HeapHolds old live → cell_at n old ≡ Some c
    → new ≡ slice_set old n (Some (record { value = c.value; count = k })) → HeapHolds new live
holds_recounted old new live n k c h e s = let P : Cells → Type 0 = λ x. HeapHolds x live in subst P (sym s) (holds_kept old live n c _ h e)

-- an owner of several is removed
pub lowers_kept : (old now new : Cells) (n k j : ℕ) (c : Cell) → old ≡ now → cell_at n old ≡ Some c → k ≡ c.count → 2 ≤ k → j ≡ k - 1
    → new ≡ slice_set old n (Some (record { value = c.value; count = j })) → Lowers n now true new
lowers_kept old now new n k j c same e count two less sets =
    let P : Cells → Type 0 = λ x. Lowers n x true new in
    subst P same (c, e, sets ∙ ap (slice_set old n) (sym (lowered_kept c.count j c.value (omega (arith, count, two)) (omega (arith, count, less)))))
