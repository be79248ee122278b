-- The names that a file gives a meaning, each by the first item that has it.
use Rattle.std.specs.Prelude.{◌≡◌, ◌++◌, ◌∷◌, ℕ, Bool, false, List, Option, None, Some, [], codes, length, map, nat_eq, nat_lt}
use Rattle.std.specs.List.{position_from, starts_with}
use Rattle.std.specs.Map.{lookup}
use Rattle.std.specs.Str.{bytes_eq}
use Rattle.std.specs.declared.alloc.Global.{Global}
use Rattle.std.specs.declared.vec.Vec.{Vec}
use Rattle.xs_csyn.specs.declared.tree.FileItem.{FileItem}
use Rattle.xs_csyn.specs.FileTree.{ItemTree, XsFunItem}
use Rattle.xs_csyn.specs.FileViews.{item_tree}

-- the names that a file gives a meaning: those of its XS functions, in its items' order
pub record FileNames : Type 0 where
  pub functions : List (List ℕ)

-- the index of a name among the names of a file's functions
abbrev pub index_from : ℕ → List (List ℕ) → List ℕ → Option ℕ
index_from i names name = position_from (λ n. bytes_eq n name) i names

unfoldable pub index_of : List (List ℕ) → List ℕ → Option ℕ
index_of names name = index_from 0 names name

-- whether an index is there and below another
abbrev pub is_earlier : Option ℕ → ℕ → Bool
is_earlier None at = false
is_earlier (Some index) at = nat_lt index at

-- the name of an XS function; no other item is registered by its name
abbrev pub item_name : ItemTree → List ℕ
item_name (XsFunItem f) = f.name
item_name _ = []

abbrev pub names_of : List ItemTree → FileNames
names_of items = record { functions = map item_name items }

-- the names of a file
abbrev pub names_in : List FileItem → FileNames
names_in items = names_of (map item_tree items)

-- ---- the boot function

abbrev pub boot_begin : List ℕ
boot_begin = codes "boot_"

-- whether a function of this name is the boot function
unfoldable pub is_boot_name : List ℕ → Bool
is_boot_name name = starts_with nat_eq name boot_begin

-- ---- maps from names

-- each name is held with the index at which it stands first
abbrev pub FindsFirst : List (List ℕ) → List (Vec ℕ Global × ℕ) → Type 0
FindsFirst names held = (name : List ℕ)
    → lookup (λ (key : Vec ℕ Global). bytes_eq name key.items) held ≡ index_of names name

-- what holds each name with its first index does so still where a name stands behind the others
abbrev pub AddsName : List ℕ → ℕ → List (Vec ℕ Global × ℕ) → List (Vec ℕ Global × ℕ) → Type 0
AddsName name at old new = (names : List (List ℕ)) → length names ≡ at → FindsFirst names old
    → FindsFirst (names ++ name ∷ []) new
