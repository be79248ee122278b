-- Names, as the types stage looks them up: the variables of an XSUB, and the functions of a file.
use Rattle.std.proofs.Common.{◌≡◌, ℕ, zero, suc, ◌+◌, ◌<◌, ◌||◌, Bool, true, false, not, cond, List, [], ◌∷◌, ◌++◌, codes, map, length, slice_get, Option, Some, None, refl, sym, ap, ◌∙◌, arith}
use Rattle.std.proofs.lemmas.Bool.{and_parts, both_ways, false_from_ne_true, not-true, or_parts}
use Rattle.std.proofs.lemmas.Slice.Eq.{bytes_eq-Decides}
use Rattle.std.specs.List.{list_any, AllByRecursion as All}
use Rattle.std.specs.Str.{bytes_eq}
use Rattle.xs_base.specs.Names.{is_among}
use Rattle.xs_iface.specs.declared.xsub.Param.{Param}
use Rattle.xs_base.specs.Scanning.{is_identifier}
use Rattle.xs_iface.specs.SumForm.{Differ}
use Rattle.xs_perlapi.specs.Table.{is_interface_word}
use Rattle.xs_iface.specs.ReservedWords.{glue_words, is_free, is_no_xsub_name}
use Rattle.xs_ctree.specs.declared.value_type.Slot.{Slot}
use Rattle.xs_ctree.specs.declared.value_type.ValueType.TheVariants.{Number, Scalar}
use Rattle.xs_ctok.specs.CWords.{is_dropped_statement, is_dropped_word, is_no_name, is_reserved}
use Rattle.xs_ctypes.specs.Scopes.{Local, variable_of}
use Rattle.xs_ctypes.specs.FileNames.{index_from}
use Rattle.xs_stub.specs.Stub.{name_or_nothing}
use Rattle.xs_values.specs.declared.kind.Kind.TheVariants.{I32}

-- ---- words

pub not_reserved : (word : List ℕ) → is_free word ≡ true → is_no_xsub_name word ≡ false
not_reserved word h = not-true (is_no_xsub_name word) (and_parts (is_identifier word) (not (is_no_xsub_name word)) h).1

pub same : (name : List ℕ) → bytes_eq name name ≡ true
same name = (bytes_eq-Decides name name).1 refl

-- a word that may name a parameter is no word of the XS interface, and none of the glue's own
own_word : (word : List ℕ) → is_no_xsub_name word ≡ false → (is_interface_word word ≡ false) × (is_among glue_words word ≡ false)
own_word word h =
    let own = or_parts (is_reserved word) (is_among glue_words word) h in
    let kept = or_parts (is_dropped_word word) _ (or_parts (is_no_name word) _ own.0).1 in
    ((or_parts (is_dropped_statement word) _ kept.1).1, own.1)

pub no_interface_word : (word : List ℕ) → is_no_xsub_name word ≡ false → is_interface_word word ≡ false
no_interface_word word h = (own_word word h).0

-- and is another than each of these
another : (other : List ℕ) → is_among glue_words other ≡ true → (word : List ℕ) → is_no_xsub_name word ≡ false → bytes_eq word other ≡ false
another other among word h =
    false_from_ne_true (bytes_eq word other)
    (λ same. both_ways (is_among glue_words word) (own_word word h).1 (ap (is_among glue_words) ((bytes_eq-Decides word other).0 same) ∙ among))

pub no_retval : (word : List ℕ) → is_no_xsub_name word ≡ false → bytes_eq word (codes "RETVAL") ≡ false
unfolding glue_words
no_retval word h = another (codes "RETVAL") refl word h

pub no_scalar : (word : List ℕ) → is_no_xsub_name word ≡ false → bytes_eq word (codes "RETVALSV") ≡ false
unfolding glue_words
no_scalar word h = another (codes "RETVALSV") refl word h

-- ---- variables

-- a variable of type `int` that is declared at a line
abbrev pub int_at : ℕ → ℕ → Slot
int_at line slot = record { number = slot; of_type = Number I32; line = line }

abbrev pub scalar_at : ℕ → ℕ → Slot
scalar_at line slot = record { number = slot; of_type = Scalar; line = line }

abbrev pub int_local : ℕ → List ℕ → ℕ → Local
int_local line name slot = record { name = name; slot = int_at line slot }

abbrev pub scalar_local : ℕ → List ℕ → ℕ → Local
scalar_local line name slot = record { name = name; slot = scalar_at line slot }

-- the variables of parameters, from a slot on
abbrev pub locals_from : ℕ → ℕ → List Param → List Local
locals_from line slot [] = []
locals_from line slot (p ∷ ps) = int_local line p.name slot ∷ locals_from line (slot + 1) ps

-- Each of these parameters is found, at the slots in their order.
abbrev pub Known : ℕ → List Local → ℕ → List Param → Type 0
Known line variables slot [] = Unit {0}
Known line variables slot (p ∷ ps) = (variable_of variables p.name ≡ Some (int_at line slot)) × Known line variables (slot + 1) ps

-- None of them is found yet.
abbrev pub Unknown : List Local → List Param → Type 0
Unknown variables ps = All (λ p. variable_of variables p.name ≡ None) ps

abbrev found_first : Local → Option Slot → Bool → Option Slot
found_first v others b = cond b (Some v.slot) others

passed_by : (v : Local) (all : List Local) (name : List ℕ) → bytes_eq v.name name ≡ false → variable_of (v ∷ all) name ≡ variable_of all name
unfolding variable_of
passed_by v all name h = ap (found_first v (variable_of all name)) h

found_here : (v : Local) (all : List Local) (name : List ℕ) → bytes_eq v.name name ≡ true
    → variable_of (v ∷ all) name ≡ Some v.slot
unfolding variable_of
found_here v all name h = ap (found_first v (variable_of all name)) h

found_at_once : (v : Local) (all : List Local) → variable_of (v ∷ all) v.name ≡ Some v.slot
found_at_once v all = found_here v all v.name (same v.name)

pub none_found : (name : List ℕ) → variable_of [] name ≡ None
unfolding variable_of
none_found name = refl

known_after : (line : ℕ) (v : Local) (all : List Local) (slot : ℕ) (ps : List Param) → list_any (λ later. bytes_eq v.name later) (map (λ p. p.name) ps) ≡ false
    → Known line all slot ps → Known line (v ∷ all) slot ps
known_after line v all slot [] h k = tt
known_after line v all slot (p ∷ ps) h k =
    let each = or_parts (bytes_eq v.name p.name) _ h in
    (passed_by v all p.name each.0 ∙ k.0, known_after line v all (slot + 1) ps each.1 k.1)

-- The variables of parameters that differ are all found.
pub all_known : (line slot : ℕ) (ps : List Param) (after : List Local) → Differ (map (λ p. p.name) ps) → Known line (locals_from line slot ps ++ after) slot ps
all_known line slot [] after d = tt
all_known line slot (p ∷ ps) after d = (
  found_at_once (int_local line p.name slot) (locals_from line (slot + 1) ps ++ after),
  known_after line (int_local line p.name slot) (locals_from line (slot + 1) ps ++ after)
      (slot + 1) ps d.0 (all_known line (slot + 1) ps after d.1),
)

-- A word that names no parameter is looked up after them.
pub no_param : (word : List ℕ) (line slot : ℕ) (ps : List Param) (after : List Local) → All (λ p. bytes_eq p.name word ≡ false) ps
    → variable_of (locals_from line slot ps ++ after) word ≡ variable_of after word
no_param word line slot [] after h = refl
no_param word line slot (p ∷ ps) after h =
    passed_by (int_local line p.name slot) (locals_from line (slot + 1) ps ++ after) word h.0 ∙ no_param word line (slot + 1) ps after h.1

none_after : (all : List Local) (v : Local) (name : List ℕ) → variable_of all name ≡ None → bytes_eq v.name name ≡ false
    → variable_of (all ++ v ∷ []) name ≡ None
none_after [] v name h e = passed_by v [] name e ∙ none_found name
none_after (w ∷ all) v name h e = by (bytes_eq w.name name) refl (none_after all v name)
  where
    by : (b : Bool) → bytes_eq w.name name ≡ b → (variable_of all name ≡ None → bytes_eq v.name name ≡ false → variable_of (all ++ v ∷ []) name ≡ None)
        → variable_of ((w ∷ all) ++ v ∷ []) name ≡ None
    by true is then_none = absurd (let some : Some w.slot ≡ None = sym (found_here w all name is) ∙ h in cc)
    by false is then_none = passed_by w (all ++ v ∷ []) name is ∙ then_none (sym (passed_by w all name is) ∙ h) e

-- A new variable makes no other name known.
pub unknown_after : (all : List Local) (v : Local) (ps : List Param) → list_any (λ later. bytes_eq v.name later) (map (λ p. p.name) ps) ≡ false → Unknown all ps
    → Unknown (all ++ v ∷ []) ps
unknown_after all v [] h k = tt
unknown_after all v (p ∷ ps) h k =
    let each = or_parts (bytes_eq v.name p.name) _ h in
    (none_after all v p.name k.0 each.0, unknown_after all v ps each.1 k.1)

pub none_known : (ps : List Param) → Unknown [] ps
none_known [] = tt
none_known (p ∷ ps) = (none_found p.name, none_known ps)

-- the parameter at a place
pub known_at : (line : ℕ) (variables : List Local) (slot at : ℕ) (ps : List Param) → Known line variables slot ps → at < length ps
    → variable_of variables (name_or_nothing (slice_get ps at)) ≡ Some (int_at line (slot + at))
known_at line variables slot at [] k h = absurd (let none : at < 0 = h in omega arith)
known_at line variables slot zero (p ∷ ps) k h = k.0 ∙ ap (λ n. Some (int_at line n)) (omega arith)
known_at line variables slot (suc at) (p ∷ ps) k h = known_at line variables (slot + 1) at ps k.1 (omega arith) ∙ ap (λ n. Some (int_at line n)) (omega arith)

-- ---- functions

-- Each of these names is found, at the places in their order.
abbrev pub IndexedFrom : ℕ → List (List ℕ) → ℕ → List (List ℕ) → Type 0
IndexedFrom first names at [] = Unit {0}
IndexedFrom first names at (n ∷ ns) = (index_from first names n ≡ Some at) × IndexedFrom first names (at + 1) ns

indexed_after : (first : ℕ) (name : List ℕ) (names : List (List ℕ)) (at : ℕ) (ns : List (List ℕ)) → list_any (λ later. bytes_eq name later) ns ≡ false
    → IndexedFrom (first + 1) names at ns → IndexedFrom first (name ∷ names) at ns
indexed_after first name names at [] h k = tt
indexed_after first name names at (n ∷ ns) h k =
    let each = or_parts (bytes_eq name n) _ h in
    (ap (λ b. cond b (Some first) (index_from (first + 1) names n)) each.0 ∙ k.0, indexed_after first name names (at + 1) ns each.1 k.1)

-- Names that differ are all found.
pub all_indexed : (first : ℕ) (ns : List (List ℕ)) → Differ ns → IndexedFrom first ns first ns
all_indexed first [] d = tt
all_indexed first (n ∷ ns) d =
    (ap (λ b. cond b (Some first) (index_from (first + 1) ns n)) (same n), indexed_after first n ns (first + 1) ns d.0 (all_indexed (first + 1) ns d.1))

any_after : (name last : List ℕ) (ns : List (List ℕ)) → list_any (λ later. bytes_eq name later) ns ≡ false → bytes_eq name last ≡ false
    → list_any (λ later. bytes_eq name later) (ns ++ last ∷ []) ≡ false
any_after name last [] h e = ap (λ b. b || false) e
any_after name last (n ∷ ns) h e =
    let each = or_parts (bytes_eq name n) _ h in
    ap (λ b. b || list_any (λ later. bytes_eq name later) (ns ++ last ∷ [])) each.0 ∙ any_after name last ns each.1 e

-- A last name that is none of the others differs from them.
pub differ_after : (ns : List (List ℕ)) (last : List ℕ) → Differ ns → All (λ n. bytes_eq n last ≡ false) ns → Differ (ns ++ last ∷ [])
differ_after [] last d h = (refl, tt)
differ_after (n ∷ ns) last d h = (any_after n last ns d.0 h.0, differ_after ns last d.1 h.1)
