-- Names of which none stands twice.
use Rattle.std.proofs.Common.{◌≡◌, ℕ, ◌+◌, ◌≤◌, ◌||◌, false, List, [], ◌∷◌, ◌++◌, length, map, None, Some, refl, sym, ◌∙◌, subst, arith}
use Rattle.std.proofs.lemmas.Bool.{leb-false, or_from, or_parts}
use Rattle.std.proofs.lemmas.List.Folds.{list_any-append}
use Rattle.std.proofs.lemmas.List.{map-append, length-append}
use Rattle.std.specs.List.{list_any}
use Rattle.std.specs.Prelude.{nat_le, if◌then◌else◌}
use Rattle.std.specs.Str.{bytes_eq}
use Rattle.xs_base.specs.Names.{is_among}
use Rattle.xs_base.proofs.Choices.{none_of_both, none_unless}
use Rattle.xs_iface.specs.Iface.{name_fault, param_fault}
use Rattle.xs_base.specs.Faults.{first_fault}
use Rattle.xs_base.specs.declared.fault_codes.TheConstants.{NAME_TWICE, PARAMETER_TWICE, TOO_MANY_PARAMETERS}
use Rattle.xs_sections.specs.SectionFaults.{fault_at}
use Rattle.std.specs.List.{AllByRecursion as All}
use Rattle.xs_iface.specs.SumForm.{Differ}
use Rattle.xs_iface.specs.declared.xsub.Xsub.{Xsub}

-- each name is another than those before it in the list, and than these
abbrev pub Apart : List (List ℕ) → List (List ℕ) → Type 0
Apart before [] = Unit {0}
Apart before (n ∷ ns) = (is_among before n ≡ false) × Apart (before ++ n ∷ []) ns

-- a name that is not among names and a last one
not_last : (before : List (List ℕ)) (last name : List ℕ) → is_among (before ++ last ∷ []) name ≡ false
    → (is_among before name ≡ false) × (bytes_eq last name ≡ false)
not_last before last name h =
    let g = or_parts (is_among before name) (bytes_eq last name || false) (sym (list_any-append (λ n. bytes_eq n name) before (last ∷ [])) ∙ h) in
    (g.0, (or_parts (bytes_eq last name) false g.1).0)

-- names that are all apart from one
apart_from : (before : List (List ℕ)) (last : List ℕ) (ns : List (List ℕ)) → All (λ (n : List ℕ). is_among (before ++ last ∷ []) n ≡ false) ns
    → (All (λ (n : List ℕ). is_among before n ≡ false) ns) × (list_any (λ (later : List ℕ). bytes_eq last later) ns ≡ false)
apart_from before last [] h = (tt, refl)
apart_from before last (n ∷ ns) h =
    let g = not_last before last n h.0 in
    let r = apart_from before last ns h.1 in
    ((g.0, r.0), or_from (bytes_eq last n) (list_any (λ (later : List ℕ). bytes_eq last later) ns) g.1 r.1)

pub record AreApart (before ns : List (List ℕ)) : Type 0 where
  pub differ : Differ ns
  pub others : All (λ (n : List ℕ). is_among before n ≡ false) ns

pub are_apart : (before ns : List (List ℕ)) → Apart before ns → AreApart before ns
are_apart before [] a = record { differ = tt; others = tt }
are_apart before (n ∷ ns) a =
    let r = are_apart (before ++ n ∷ []) ns a.1 in
    let g = apart_from before n ns r.others in
    record { differ = (g.1, r.differ); others = (a.0, g.0) }

-- ---- parameters

pub params_apart : (line : ℕ) (before names : List (List ℕ)) → first_fault (param_fault line) before names ≡ None → Apart before names
params_apart line before [] h = tt
params_apart line before (n ∷ ns) h =
    let g = none_of_both (param_fault line before n) (first_fault (param_fault line) (before ++ n ∷ []) ns) h in
    let f = none_unless (is_among before n) (fault_at line PARAMETER_TWICE n) (if nat_le 64 (length before) then Some (fault_at line TOO_MANY_PARAMETERS [])
    else None) g.0 in
    (f.0, params_apart line (before ++ n ∷ []) ns g.1)

pub few_names : (line : ℕ) (before names : List (List ℕ)) → first_fault (param_fault line) before names ≡ None → length before ≤ 64
    → length before + length names ≤ 64
few_names line before [] h few = omega (arith, few)
few_names line before (n ∷ ns) h few =
    let g = none_of_both (param_fault line before n) (first_fault (param_fault line) (before ++ n ∷ []) ns) h in
    let f = none_unless (is_among before n) (fault_at line PARAMETER_TWICE n) (if nat_le 64 (length before) then Some (fault_at line TOO_MANY_PARAMETERS [])
    else None) g.0 in
    let m = none_unless (nat_le 64 (length before)) (fault_at line TOO_MANY_PARAMETERS []) None f.1 in
    let more : length (before ++ n ∷ []) ≡ length before + 1 = length-append before (n ∷ []) in
    let room = leb-false 64 (length before) m.0 in
    let r = few_names line (before ++ n ∷ []) ns g.1 (omega (arith, more, room)) in
    omega (arith, more, r)

-- an XSUB without a fault in its parameters has no more than may be
pub few_params : (line : ℕ) (names : List (List ℕ)) → first_fault (param_fault line) [] names ≡ None → length names ≤ 64
few_params line names h = let few = few_names line [] names h (omega arith) in omega (arith, few)

-- ---- XSUBs

pub names_apart : (before xs : List Xsub) → first_fault name_fault before xs ≡ None
    → Apart (map (λ (x : Xsub). x.full) before) (map (λ (x : Xsub). x.full) xs) × Apart (map (λ (x : Xsub). x.glue) before) (map (λ (x : Xsub). x.glue) xs)
names_apart before [] h = (tt, tt)
names_apart before (x ∷ xs) h =
    let g = none_of_both (name_fault before x) (first_fault name_fault (before ++ x ∷ []) xs) h in
    let f = none_unless (is_among (map (λ (e : Xsub). e.full) before) x.full || is_among (map (λ (e : Xsub). e.glue) before) x.glue)
    (fault_at x.line NAME_TWICE x.full) None g.0 in
    let n = or_parts (is_among (map (λ (e : Xsub). e.full) before) x.full) (is_among (map (λ (e : Xsub). e.glue) before) x.glue) f.0 in
    let r = names_apart (before ++ x ∷ []) xs g.1 in
    let P : List (List ℕ) → Type 0 = λ ns. Apart ns (map (λ (e : Xsub). e.full) xs) in
    let Q : List (List ℕ) → Type 0 = λ ns. Apart ns (map (λ (e : Xsub). e.glue) xs) in
    ((n.0, subst P (map-append (λ (e : Xsub). e.full) before (x ∷ [])) r.0), (n.1, subst Q (map-append (λ (e : Xsub). e.glue) before (x ∷ [])) r.1))
