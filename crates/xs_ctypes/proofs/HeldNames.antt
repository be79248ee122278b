-- Maps from names, as the lists of what they hold.
use Rattle.std.proofs.Common.{◌≡◌, ℕ, ◌+◌, ◌<◌, Bool, true, false, cond, List, [], ◌∷◌, ◌++◌, length, map, take, drop, Option, None, Some, refl, sym, ap, ap₂, ◌∙◌, subst, true≢false, is_some, get_or, arith}
use Rattle.std.proofs.lemmas.Bool.{false_from_ne_true, or_parts}
use Rattle.std.proofs.lemmas.Bool.Decides.{same_from_decides}
use Rattle.std.proofs.lemmas.List.{length-map, length-take-le, map-append, take_more}
use Rattle.std.proofs.lemmas.Slice.Eq.{bytes_eq-Decides}
use Rattle.std.specs.List.{drop-map}
use Rattle.std.specs.Map.{lookup, values_of}
use Rattle.std.specs.Option.{option_or}
use Rattle.std.specs.Str.{bytes_eq}
use Rattle.std.specs.declared.alloc.Global.{Global}
use Rattle.std.specs.declared.vec.Vec.{Vec}
use Rattle.indexmap.specs.IndexMap.{IndexMap, get, insert_entry}
use Rattle.indexmap.proofs.CallerLemmas.{insert_entry-new}
use Rattle.xs_csyn.specs.declared.tree.FileItem.{FileItem}
use Rattle.xs_csyn.specs.FileViews.{item_tree}
use Rattle.xs_ctree.specs.declared.value_type.Slot.{Slot}
use Rattle.xs_ctypes.specs.FileNames.{AddsName, FindsFirst, index_from, index_of, item_name, names_in}
use Rattle.xs_ctypes.specs.Scopes.{Local, held, is_in_use, variable_of}

same_both_ways : (xs ys : List ℕ) → bytes_eq xs ys ≡ bytes_eq ys xs
same_both_ways xs ys =
    let d = bytes_eq-Decides ys xs in
    same_from_decides (bytes_eq xs ys) (bytes_eq ys xs) (bytes_eq-Decides xs ys) (λ h. sym (d.0 h), λ e. d.1 (sym e))

-- whether a key is a name
abbrev pub is_key : List ℕ → Vec ℕ Global → Bool
is_key name key = bytes_eq name key.items

abbrev pub same_key : Vec ℕ Global → Vec ℕ Global → Bool
same_key a b = bytes_eq a.items b.items

-- ---- variables

-- a map finds the variable of a name
pub found_held : (es : List (Vec ℕ Global × Slot)) (name : List ℕ) → lookup (is_key name) es ≡ variable_of (map held es) name
unfolding variable_of
found_held [] name = refl
found_held (e ∷ es) name =
    ap (λ b. cond b (Some e.1) (lookup (is_key name) es)) (same_both_ways name e.0.items)
    ∙ ap (λ o. cond (bytes_eq e.0.items name) (Some e.1) o) (found_held es name)

slots_held : (es : List (Vec ℕ Global × Slot)) → values_of es ≡ map (λ (v : Local). v.slot) (map held es)
slots_held [] = refl
slots_held (e ∷ es) = ap (λ slots. e.1 ∷ slots) (slots_held es)

-- the values behind the first so many are the slots of the variables there
pub slots_behind : (es : List (Vec ℕ Global × Slot)) (count : ℕ)
    → drop count (values_of es) ≡ map (λ (v : Local). v.slot) (drop count (map held es))
slots_behind es count = ap (drop count) (slots_held es) ∙ drop-map (λ (v : Local). v.slot) count (map held es)

-- a variable whose name is new stands last
pub held_last : {S : Type 0} (m : IndexMap (Vec ℕ Global) Slot S) (new : List (Vec ℕ Global × Slot)) (key : Vec ℕ Global) (name : List ℕ) (slot : Slot)
    → key.items ≡ name → variable_of (map held m.entries) name ≡ None → new ≡ insert_entry same_key m.entries key slot
    → map held new ≡ map held m.entries ++ record { name = name; slot = slot } ∷ []
held_last m new key name slot e free says =
    let none : get same_key m key ≡ None = found_held m.entries key.items ∙ ap (variable_of (map held m.entries)) e ∙ free in
    ap (map held) (says ∙ insert_entry-new same_key m key slot none)
    ∙ map-append held m.entries ((key, slot) ∷ [])
    ∙ ap (λ n. map held m.entries ++ record { name = n; slot = slot } ∷ []) e

-- a name that may be declared is known nowhere yet
pub free_name : (vs : List Local) (name : List ℕ) → is_in_use vs name ≡ false → variable_of vs name ≡ None
unfolding is_in_use
free_name vs name h = none (variable_of vs name) (or_parts _ _ h).1
  where
    none : (o : Option Slot) → is_some o ≡ false → o ≡ None
    none None h = refl
    none (Some s) h = absurd (true≢false h)

-- ---- names by their indices

lookup_last : {X : Type 0} (test : Vec ℕ Global → Bool) (es : List (Vec ℕ Global × X)) (key : Vec ℕ Global) (v : X)
    → lookup test (es ++ (key, v) ∷ []) ≡ option_or (lookup test es) (cond (test key) (Some v) None)
lookup_last test [] key v = refl
lookup_last {X} test (e ∷ es) key v = by (test e.0) (lookup_last test es key v)
  where
    by : (b : Bool) → lookup test (es ++ (key, v) ∷ []) ≡ option_or (lookup test es) (cond (test key) (Some v) None)
        → cond b (Some e.1) (lookup test (es ++ (key, v) ∷ [])) ≡ option_or (cond b (Some e.1) (lookup test es)) (cond (test key) (Some v) None)
    by true h = refl
    by false h = h

index_last : (names : List (List ℕ)) (name other : List ℕ) (i : ℕ)
    → index_from i (names ++ name ∷ []) other ≡ option_or (index_from i names other) (cond (bytes_eq name other) (Some (i + length names)) None)
index_last [] name other i =
    let e : i ≡ i + 0 = omega arith in
    ap (λ n. cond (bytes_eq name other) (Some n) None) e
index_last (n ∷ names) name other i =
    let e : i + 1 + length names ≡ i + length (n ∷ names) = omega arith in
    by (bytes_eq n other)
    (index_last names name other (i + 1) ∙ ap (λ k. option_or (index_from (i + 1) names other) (cond (bytes_eq name other) (Some k) None)) e)
  where
    by : (b : Bool) → index_from (i + 1) (names ++ name ∷ []) other
        ≡ option_or (index_from (i + 1) names other) (cond (bytes_eq name other) (Some (i + length (n ∷ names))) None)
        → cond b (Some i) (index_from (i + 1) (names ++ name ∷ []) other)
        ≡ option_or (cond b (Some i) (index_from (i + 1) names other)) (cond (bytes_eq name other) (Some (i + length (n ∷ names))) None)
    by true h = refl
    by false h = h

found_already : (o : Option ℕ) (b : Bool) (n : ℕ) → (o ≡ None → b ≡ false) → option_or o (cond b (Some n) None) ≡ o
found_already (Some i) b n h = refl
found_already None true n h = absurd (true≢false (h refl))
found_already None false n h = refl

-- a name that is held is not added again
pub name_there : (name : List ℕ) (at : ℕ) (es : List (Vec ℕ Global × ℕ)) → is_some (lookup (is_key name) es) ≡ true → AddsName name at es es
unfolding index_of
name_there name at es there names count finds other =
    finds other
    ∙ sym (found_already (index_from 0 names other) (bytes_eq name other) (0 + length names)
    (λ none. false_from_ne_true (bytes_eq name other)
    (λ same. true≢false (sym there ∙ ap is_some (finds name ∙ ap (index_from 0 names) ((bytes_eq-Decides name other).0 same) ∙ none)))))
    ∙ sym (index_last names name other 0)

-- a name that is not held is added with the index at which it stands
pub name_last : {S : Type 0} (m : IndexMap (Vec ℕ Global) ℕ S) (new : List (Vec ℕ Global × ℕ)) (key : Vec ℕ Global) (name : List ℕ) (at : ℕ)
    → key.items ≡ name → is_some (lookup (is_key name) m.entries) ≡ false → new ≡ insert_entry same_key m.entries key at → AddsName name at m.entries new
unfolding index_of
name_last m new key name at e free says names count finds other =
    let none : get same_key m key ≡ None = ap (λ n. lookup (is_key n) m.entries) e ∙ not_there (lookup (is_key name) m.entries) free in
    let here : at ≡ 0 + length names = omega (arith, count) in
    ap (lookup (is_key other)) (says ∙ insert_entry-new same_key m key at none)
    ∙ lookup_last (is_key other) m.entries key at
    ∙ ap₂ option_or (finds other) (ap (λ b. cond b (Some at) None) (same_both_ways other key.items ∙ ap (λ n. bytes_eq n other) e))
    ∙ ap (λ n. option_or (index_from 0 names other) (cond (bytes_eq name other) (Some n) None)) here
    ∙ sym (index_last names name other 0)
  where
    not_there : (o : Option ℕ) → is_some o ≡ false → o ≡ None
    not_there None h = refl
    not_there (Some s) h = absurd (true≢false h)

-- nothing is held of no names
pub none_held : FindsFirst [] []
unfolding index_of
none_held name = refl

-- the names of one item more are held
pub names_next : (items : List FileItem) (at : ℕ) (x : FileItem) (name : List ℕ) (old new : List (Vec ℕ Global × ℕ)) → at < length items → x ≡ get_or items at x
    → name ≡ item_name (item_tree x) → FindsFirst (names_in (take at items)).functions old → AddsName name at old new
    → FindsFirst (names_in (take (at + 1) items)).functions new
names_next items at x name old new lt is named finds adds =
    let before = take at items in
    let fewer : length before ≡ at = length-take-le at items (omega (arith, lt)) in
    let count : length (names_in before).functions ≡ at = length-map (map item_tree before) item_name ∙ length-map before item_tree ∙ fewer in
    let last : take (at + 1) items ≡ before ++ x ∷ [] = take_more items at x lt ∙ ap (λ y. before ++ y ∷ []) (sym is) in
    let more : (names_in (take (at + 1) items)).functions ≡ (names_in before).functions ++ name ∷ [] =
    ap (λ xs. map item_name (map item_tree xs)) last
    ∙ ap (map item_name) (map-append item_tree before (x ∷ []))
    ∙ map-append item_name (map item_tree before) (item_tree x ∷ [])
    ∙ ap (λ n. (names_in before).functions ++ n ∷ []) (sym named) in
    subst (λ names. FindsFirst names new) (sym more) (adds (names_in before).functions count finds)
