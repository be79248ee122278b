-- How code grows: what was there stays the same.
use Rattle.std.specs.List.{list_all}
use Rattle.std.specs.Prelude.{◌≡◌, ℕ, ◌<◌, ◌≤◌, Bool, true, nat_lt, List, [], ◌∷◌, ◌++◌, length, map, Option, slice_index_or}
use Rattle.xs_values.specs.Numbers.{Number}
use Rattle.xs_ctree.specs.declared.node.FunctionNode.{FunctionNode}
use Rattle.xs_ctree.specs.declared.node.Group.{Group}
use Rattle.xs_ctree.specs.declared.node.GroupNode.{GroupNode}
use Rattle.xs_ctree.specs.declared.node.Range.{Range}
use Rattle.xs_ctree.specs.declared.typed.Typed.{Typed}
use Rattle.xs_ctree.specs.declared.value_type.RecordType.{RecordType}
use Rattle.xs_ctree.specs.declared.value_type.Slot.{Slot}
use Rattle.xs_ctree.specs.Arena.{all_below, function_of, group_fits, group_parts, groups_fit, is_within, ranged}
use Rattle.xs_ctree.specs.Functions.{arena_of, expr_in, functions_in, records_in, stmt_in}
use Rattle.xs_ctree.specs.TypedTree.{Expr, Groups, Stmt, groups_from}

-- whether an expression, and a statement, is there
abbrev pub HasExpr : Typed → ℕ → Type 0
HasExpr t i = i < length t.exprs.items

abbrev pub HasStmt : Typed → ℕ → Type 0
HasStmt t i = i < length t.stmts.items

pub record Keeps (old new : Typed) : Type 0 where
  pub expr : (i : ℕ) → HasExpr old i → expr_in new i ≡ expr_in old i
  pub stmt : (i : ℕ) → HasStmt old i → stmt_in new i ≡ stmt_in old i
  pub functions : functions_in new ≡ functions_in old
  pub records : records_in new ≡ records_in old
  pub exprs : length old.exprs.items ≤ length new.exprs.items
  pub stmts : length old.stmts.items ≤ length new.stmts.items

-- an expression stands at an index, and what was there is kept
pub record AddsExpr (old : Typed) (e : Expr) (i : ℕ) (new : Typed) : Type 0 where
  pub keeps : Keeps old new
  pub there : HasExpr new i
  pub is : expr_in new i ≡ e

-- a statement stands at an index, and what was there is kept
pub record AddsStmt (old : Typed) (s : Stmt) (i : ℕ) (new : Typed) : Type 0 where
  pub keeps : Keeps old new
  pub there : HasStmt new i
  pub is : stmt_in new i ≡ s

-- a function stands after the others
pub record AddsFunction (old : Typed) (f : FunctionNode) (new : Typed) : Type 0 where
  pub stmt : (i : ℕ) → stmt_in new i ≡ stmt_in old i
  pub functions : functions_in new ≡ functions_in old ++ function_of (arena_of old) f ∷ []
  pub records : records_in new ≡ records_in old

-- a record stands after the others
pub record AddsRecord (old : Typed) (r : RecordType) (new : Typed) : Type 0 where
  pub expr : (i : ℕ) → expr_in new i ≡ expr_in old i
  pub stmt : (i : ℕ) → stmt_in new i ≡ stmt_in old i
  pub functions : functions_in new ≡ functions_in old
  pub records : records_in new ≡ records_in old ++ r ∷ []

-- ---- what nodes name is added before them

-- what a list has after another's elements
abbrev pub Longer : {A : Type 0} → List A → List A → Type 0
Longer {A} old new = (more : List A) × (new ≡ old ++ more)

-- the nodes are as they were
pub record SameNodes (old new : Typed) : Type 0 where
  pub exprs : new.exprs.items ≡ old.exprs.items
  pub stmts : new.stmts.items ≡ old.stmts.items

-- the parts of a list stand in a range
pub record AddsParts (old : Typed) (parts : List ℕ) (r : Range) (new : Typed) : Type 0 where
  pub keeps : Keeps old new
  pub nodes : SameNodes old new
  pub within : is_within new.parts.items r ≡ true
  pub are : ranged new.parts.items r ≡ parts
  pub more : Longer old.parts.items new.parts.items
  pub slots : new.slots.items ≡ old.slots.items
  pub labels : new.labels.items ≡ old.labels.items
  pub groups : new.groups.items ≡ old.groups.items
  pub texts : new.texts.items ≡ old.texts.items

-- slots stand in a range
pub record AddsSlots (old : Typed) (slots : List Slot) (r : Range) (new : Typed) : Type 0 where
  pub keeps : Keeps old new
  pub nodes : SameNodes old new
  pub within : is_within new.slots.items r ≡ true
  pub are : ranged new.slots.items r ≡ slots

-- a text stands at an index
pub record AddsText (old : Typed) (text : List ℕ) (t : ℕ) (new : Typed) : Type 0 where
  pub keeps : Keeps old new
  pub nodes : SameNodes old new
  pub there : nat_lt t (length new.texts.items) ≡ true
  pub is : slice_index_or new.texts.items t [] ≡ text

-- ---- the groups of a switch

abbrev pub group_view : Group → List (Option Number) × List ℕ
group_view g = (g.labels.items, g.body.items)

-- whether the statements of a group are there
abbrev pub has_stmts : Typed → Group → Bool
has_stmts t g = all_below (length t.stmts.items) g.body.items

-- the groups of these parts
abbrev pub groups_in : Typed → List Group → Groups
groups_in t gs = groups_from (stmt_in t) (map group_view gs)

-- the labels of a group stand in a range
pub record AddsLabels (old : Typed) (labels : List (Option Number)) (r : Range) (new : Typed)
    : Type 0 where
  pub keeps : Keeps old new
  pub nodes : SameNodes old new
  pub within : is_within new.labels.items r ≡ true
  pub are : ranged new.labels.items r ≡ labels
  pub more : Longer old.labels.items new.labels.items
  pub parts : new.parts.items ≡ old.parts.items
  pub groups : new.groups.items ≡ old.groups.items

-- the labels and the statements of a group stand in ranges
pub record AddsGroup (old : Typed) (g : Group) (node : GroupNode) (new : Typed) : Type 0 where
  pub keeps : Keeps old new
  pub nodes : SameNodes old new
  pub fits : group_fits (arena_of new) (length new.stmts.items) node ≡ true
  pub are : group_parts (arena_of new) node ≡ group_view g
  pub labels : Longer old.labels.items new.labels.items
  pub parts : Longer old.parts.items new.parts.items
  pub groups : new.groups.items ≡ old.groups.items

-- groups stand after the others
pub record GroupsStand (old : Typed) (gs : List Group) (new : Typed) : Type 0 where
  pub keeps : Keeps old new
  pub nodes : SameNodes old new
  pub added : List GroupNode
  pub groups : new.groups.items ≡ old.groups.items ++ added
  pub fit : list_all (group_fits (arena_of new) (length new.stmts.items)) added ≡ true
  pub are : map (group_parts (arena_of new)) added ≡ map group_view gs

-- groups stand in a range
pub record AddsGroups (old : Typed) (gs : List Group) (r : Range) (new : Typed) : Type 0 where
  pub keeps : Keeps old new
  pub nodes : SameNodes old new
  pub fit : groups_fit (arena_of new) (length new.stmts.items) r ≡ true
  pub are : map (group_parts (arena_of new)) (ranged new.groups.items r) ≡ map group_view gs
