-- The arguments of a call are made, each a temporary; the end of the temporaries frees them all.
use Rattle.std.proofs.Common.{◌≡◌, ℕ, ℤ, ◌+◌, ◌-◌, ◌<◌, ◌≤◌, arith, true, false, List, [], ◌∷◌, ◌++◌, length, drop, None, refl, sym, ap, ◌∙◌, append_assoc, append-nil}
use Rattle.std.proofs.lemmas.List.Sums.{sum_by-append}
use Rattle.xs_api.proofs.Cells.{one_of}
use Rattle.std.proofs.lemmas.Bool.Decides.{nat_tests}
use Rattle.std.proofs.lemmas.Bool.{cond_both}
use Rattle.std.proofs.lemmas.List.{drop-append-le, length-map}
use Rattle.xs_api.specs.declared.api.Registered.{Registered}
use Rattle.xs_machine.specs.Machine.{runner_depths}
use Rattle.xs_api.specs.World.{Cells, World, Swept, Clean, Dirty, free_newest, is_read_only, is_uncounted, live_of, living, lower, may_make, sweep, then_swept, with_temps}
use Rattle.xs_values.specs.declared.trap.Trap.TheVariants.{Large}
use Rattle.xs_meaning.specs.DeclaredMeaning.{names_from}
use Rattle.xs_sim.specs.MadeArguments.{Made, AllMade, NotMade, args_made, with_name}
use Rattle.xs_sim.specs.RunnerStates.{gone, holds, made, newest, world}
use Rattle.xs_sim.proofs.ListPositions.{get_at, one_longer, set_at}

-- ---- making

room : (cells : Cells) (n : ℕ) → length cells ≡ n → n < 4000005 → may_make cells ≡ true
room cells n e h = grind (arith, nat_tests)

-- all arguments are made
pub all_made : (zs : List ℤ) (cells : Cells) (n : ℕ) (temps : List ℕ) (names : List Registered) → length cells ≡ n → n + length zs ≤ 4000005
    → args_made zs (world cells [] 0 [] temps names) ≡ AllMade (names_from n zs) (world (cells ++ made zs) [] 0 [] (newest n zs temps) names)
all_made [] cells n temps names e h = ap (λ c. AllMade [] (world c [] 0 [] temps names)) (sym (append-nil cells))
all_made (z ∷ zs) cells n temps names e h =
    let step : args_made (z ∷ zs) (world cells [] 0 [] temps names)
    ≡ with_name (length cells) (args_made zs (world (cells ++ holds z ∷ []) [] 0 [] (length cells ∷ temps) names)) =
    rw (room cells n e (omega (arith, h))) refl in
    let rest = all_made zs (cells ++ holds z ∷ []) (n + 1) (length cells ∷ temps) names (one_longer cells (holds z) n e) (omega (arith, h)) in
    step ∙ ap (with_name (length cells)) rest
    ∙ ap (λ k. AllMade (k ∷ names_from (n + 1) zs) (world ((cells ++ holds z ∷ []) ++ made zs) [] 0 [] (newest (n + 1) zs (k ∷ temps)) names)) e
    ∙ ap (λ c. AllMade (n ∷ names_from (n + 1) zs) (world c [] 0 [] (newest (n + 1) zs (n ∷ temps)) names)) (append_assoc cells (holds z ∷ []) (made zs))

room_left : (cells : Cells) (n : ℕ) → length cells ≡ n → may_make cells ≡ true → n + 1 ≤ 4000005
room_left cells n e h = grind (arith, nat_tests)

-- there are more than may be made
pub not_made : (zs : List ℤ) (cells : Cells) (n : ℕ) (temps : List ℕ) (names : List Registered) → length cells ≡ n → n ≤ 4000005 → 4000005 < n + length zs
    → args_made zs (world cells [] 0 [] temps names) ≡ NotMade Large
not_made [] cells n temps names e le h = absurd (omega (arith, le, h))
not_made (z ∷ zs) cells n temps names e le h =
    cond_both (may_make cells) _ (NotMade Large) (λ (m : Made). m ≡ NotMade Large) (λ q.
    ap (with_name (length cells)) (not_made zs (cells ++ holds z ∷ []) (n + 1) (length cells ∷ temps) names (one_longer cells (holds z) n e)
    (room_left cells n e q) (omega (arith, h)))) (λ q. refl)

-- ---- freeing

counted : (n : ℕ) → 5 ≤ n → is_uncounted n ≡ false
counted n h = grind (arith, nat_tests)

pub writable : (n : ℕ) → 5 ≤ n → is_read_only n ≡ false
writable n h = grind (arith, nat_tests)

-- one temporary is freed
freed : (h t : Cells) (z : ℤ) (n : ℕ) (args : List ℕ) (top : ℕ) (marks temps : List ℕ) (names : List Registered) → length h ≡ n → 5 ≤ n
    → lower n (world (h ++ holds z ∷ t) args top marks temps names) ≡ Clean (world (h ++ None ∷ t) args top marks temps names)
freed h t z n args top marks temps names e le = rw (counted n le, get_at h t (holds z) None n e, set_at h t (holds z) None n e) refl

-- frees all of a list
abbrev free_all : List ℕ → World → Swept World
free_all [] w = Clean (with_temps [] w)
free_all (n ∷ temps) w = then_swept (lower n (with_temps temps w)) (free_all temps)

-- the temporaries that a world had itself do not matter
free_all-own : (temps own : List ℕ) (w : World) → free_all temps (with_temps own w) ≡ free_all temps w
free_all-own [] own w = refl
free_all-own (n ∷ temps) own w = refl

same_then : (s : Swept World) (f g : World → Swept World) → ((w : World) → f w ≡ g w) → then_swept s f ≡ then_swept s g
same_then (Clean w) f g h = h w
same_then (Dirty t w) f g h = refl

free_newest-all : (temps : List ℕ) (w : World) → free_newest (length temps) temps w ≡ free_all temps w
free_newest-all [] w = refl
free_newest-all (n ∷ temps) w = same_then (lower n (with_temps temps w)) (free_newest (length temps) temps) (free_all temps) (free_newest-all temps)

module _ (args : List ℕ) (top : ℕ) (marks own : List ℕ) (names : List Registered) where
  abbrev over : Cells → World
  over cells = world cells args top marks own names

  -- the temporaries of arguments
  all_freed : (zs : List ℤ) (h t : Cells) (n : ℕ) (temps : List ℕ) → length h ≡ n → 5 ≤ n → free_all (newest n zs temps) (over (h ++ (made zs ++ t)))
      ≡ free_all temps (over (h ++ (gone zs ++ t)))
  all_freed [] h t n temps e le = refl
  all_freed (z ∷ zs) h t n temps e le =
      ap (λ c. free_all (newest (n + 1) zs (n ∷ temps)) (over c)) (sym (append_assoc h (holds z ∷ []) (made zs ++ t)))
      ∙ all_freed zs (h ++ holds z ∷ []) t (n + 1) (n ∷ temps) (one_longer h (holds z) n e) (omega (arith, le))
      ∙ ap (λ c. free_all (n ∷ temps) (over c)) (append_assoc h (holds z ∷ []) (gone zs ++ t))
      ∙ ap (λ s. then_swept s (free_all temps)) (freed h (gone zs ++ t) z n args top marks temps names e le)
      ∙ free_all-own temps temps (over (h ++ None ∷ (gone zs ++ t)))

minus_none : (n : ℕ) → n - 0 ≡ n
minus_none n = omega arith

-- the end of the temporaries of a call
pub all_swept : (zs : List ℤ) (h : Cells) (n : ℕ) (args : List ℕ) (top : ℕ) (names : List Registered) → length h ≡ n → 5 ≤ n
    → sweep runner_depths (world (h ++ made zs) args top [] (newest n zs []) names) ≡ Clean (world (h ++ gone zs) [] 0 [] [] names)
all_swept zs h n args top names e le =
    let temps = newest n zs [] in
    let frees : free_newest (length temps - 0) temps (world (h ++ made zs) args top [] temps names) ≡ Clean (world (h ++ gone zs) args top [] [] names) =
    ap (λ k. free_newest k temps (world (h ++ made zs) args top [] temps names)) (minus_none (length temps))
    ∙ free_newest-all temps (world (h ++ made zs) args top [] temps names)
    ∙ ap (λ c. free_all temps (world (h ++ c) args top [] temps names)) (sym (append-nil (made zs)))
    ∙ all_freed args top [] temps names zs h [] n [] e le
    ∙ ap (λ c. free_all [] (world (h ++ c) args top [] temps names)) (append-nil (gone zs)) in
    rw frees refl

-- ---- what is left

pub length-gone : (zs : List ℤ) → length (gone zs) ≡ length zs
length-gone zs = length-map zs (λ z. None)

living-gone : (zs : List ℤ) → living (gone zs) ≡ 0
living-gone [] = refl
living-gone (z ∷ zs) = living-gone zs

-- no counted scalar is left
pub none_left : (h : Cells) (zs : List ℤ) → 5 ≤ length h → live_of h ≡ 0 → live_of (h ++ gone zs) ≡ 0
none_left h zs le e = ap living (drop-append-le 5 h (gone zs) le) ∙ omega (arith, sum_by-append one_of (drop 5 h) (gone zs), living-gone zs, e)
