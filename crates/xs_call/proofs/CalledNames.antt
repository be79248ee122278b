-- The names that the boot registers, and which function and which XSUB a name finds.
use Rattle.std.proofs.Common.{◌≡◌, ℕ, suc, ◌+◌, arith, Bool, true, false, cond, List, [], ◌∷◌, map, length, Option, Some, None, refl, sym, ap, subst, ◌∙◌}
use Rattle.std.proofs.lemmas.Bool.{or_parts}
use Rattle.std.proofs.lemmas.Slice.Eq.{bytes_eq-Decides}
use Rattle.std.specs.List.{list_any, position_from, AllByRecursion as All}
use Rattle.std.specs.Option.{option_or}
use Rattle.std.specs.Prelude.{slice_get}
use Rattle.std.specs.Str.{bytes_eq}
use Rattle.xs_api.specs.declared.api.Registered.{Registered}
use Rattle.xs_ctree.specs.Functions.{boot_from}
use Rattle.xs_ctree.specs.TypedTree.{Function, is_boot}
use Rattle.xs_api.specs.World.{registered}
use Rattle.xs_iface.proofs.Noted.{same_both_ways}
use Rattle.xs_iface.specs.declared.xsub.Xsub.{Xsub}
use Rattle.xs_iface.specs.SumForm.{Differ, IsSumXsub}
use Rattle.xs_call.specs.GlueCode.{functions_on, xsub_function}
use Rattle.xs_meaning.specs.DeclaredMeaning.{xsub_named}

-- the names that are registered for XSUBs whose functions are counted from a number, above others
abbrev pub registered_on : ℕ → List Xsub → List Registered → List Registered
registered_on n [] names = names
registered_on n (x ∷ xs) names = registered_on (n + 1) xs (record { name = x.full; function = n } ∷ names)

-- the function of the first XSUB that has the name
abbrev index_named : List ℕ → ℕ → List Xsub → Option ℕ
index_named name = position_from (λ x. bytes_eq x.full name)

-- a name that none of these has
absent : (name : List ℕ) (n : ℕ) (xs : List Xsub) → list_any (λ later. bytes_eq name later) (map (λ x. x.full) xs) ≡ false → index_named name n xs ≡ None
absent name n [] h = refl
absent name n (x ∷ xs) h =
    let both = or_parts (bytes_eq name x.full) (list_any (λ later. bytes_eq name later) (map (λ x. x.full) xs)) h in
    rw (same_both_ways x.full name ∙ both.0) (absent name (n + 1) xs both.1)

absent_by : (name full : List ℕ) (n : ℕ) (xs : List Xsub) → full ≡ name → list_any (λ later. bytes_eq full later) (map (λ x. x.full) xs) ≡ false
    → index_named name n xs ≡ None
absent_by name full n xs e h = ap (λ l. index_named l n xs) (sym e) ∙ absent full n xs h

one_of_both : (b : Bool) (n : ℕ) (later other : Option ℕ) → (b ≡ true → later ≡ None)
    → option_or later (cond b (Some n) other) ≡ option_or (cond b (Some n) later) other
one_of_both true n later other f = ap (λ l. option_or l (Some n)) (f refl)
one_of_both false n later other f = refl

-- What is registered last under a name is the first XSUB of that name: no name stands twice.
registered_as : (name : List ℕ) (n : ℕ) (xs : List Xsub) (names : List Registered) → Differ (map (λ x. x.full) xs) → registered name (registered_on n xs names)
    ≡ option_or (index_named name n xs) (registered name names)
registered_as name n [] names d = refl
registered_as name n (x ∷ xs) names d =
    registered_as name (n + 1) xs (record { name = x.full; function = n } ∷ names) d.1
    ∙ one_of_both (bytes_eq x.full name) n (index_named name (n + 1) xs) (registered name names)
    (λ e. absent_by name x.full (n + 1) xs ((bytes_eq-Decides x.full name).0 e) d.0)

alone : (place : Option ℕ) → option_or place None ≡ place
alone None = refl
alone (Some n) = refl

-- ---- the function of a name

module _ (name : List ℕ) (all : List Function) (last : Function) (P : Option ℕ → Option Xsub → Type 0) (none : P None None) (some : (x : Xsub) (i : ℕ)
    → IsSumXsub x → slice_get all i ≡ Some (xsub_function x) → P (Some i) (Some x)) where
  one_found : (b : Bool) (n : ℕ) (x : Xsub) (place : Option ℕ) (xsub : Option Xsub) → P (Some n) (Some x) → P place xsub
      → P (cond b (Some n) place) (cond b (Some x) xsub)
  one_found true n x place xsub here later = here
  one_found false n x place xsub here later = later

  found_on : (n : ℕ) (xs : List Xsub) → All IsSumXsub xs → ((i : ℕ) → slice_get all (n + i) ≡ slice_get (functions_on last xs) i)
      → P (index_named name n xs) (xsub_named name xs)
  found_on n [] ok here = none
  found_on n (x ∷ xs) ok here =
      let front : n ≡ n + 0 = omega arith in
      let at : (i : ℕ) → n + 1 + i ≡ n + suc i = λ i. omega arith in
      one_found (bytes_eq x.full name) n x (index_named name (n + 1) xs) (xsub_named name xs)
      (some x n ok.0 (ap (slice_get all) front ∙ here 0))
      (found_on (n + 1) xs ok.1 (λ i. ap (slice_get all) (at i) ∙ here (suc i)))

  -- What a name finds: no function and no XSUB, or an XSUB and its function.
  pub found : (xs : List Xsub) → All IsSumXsub xs → Differ (map (λ x. x.full) xs) → all ≡ functions_on last xs
      → P (registered name (registered_on 0 xs [])) (xsub_named name xs)
  found xs ok differ here =
      let same : registered name (registered_on 0 xs []) ≡ index_named name 0 xs = registered_as name 0 xs [] differ ∙ alone (index_named name 0 xs) in
      let front : (i : ℕ) → 0 + i ≡ i = λ i. omega arith in
      subst (λ place. P place (xsub_named name xs)) (sym same) (found_on 0 xs ok (λ i. ap (slice_get all) (front i) ∙ ap (λ fs. slice_get fs i) here))

-- ---- the boot function

-- it stands after all others
pub boot_index : (last : Function) (n : ℕ) (xs : List Xsub) → is_boot last.sort ≡ true → boot_from n (functions_on last xs) ≡ Some (n + length xs)
boot_index last n [] e = let at : n ≡ n + 0 = omega arith in rw e (ap Some at)
boot_index last n (x ∷ xs) e = let at : n + 1 + length xs ≡ n + suc (length xs) = omega arith in boot_index last (n + 1) xs e ∙ ap Some at

pub last_function : (last : Function) (xs : List Xsub) → slice_get (functions_on last xs) (length xs) ≡ Some last
last_function last [] = refl
last_function last (x ∷ xs) = last_function last xs
