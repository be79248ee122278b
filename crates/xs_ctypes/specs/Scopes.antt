-- Which variables are known where. Scope is syntax: a declaration, sound or not, makes a free name
-- known behind it, and no slot is used twice.
use Rattle.std.specs.Prelude.{ℕ, Bool, ◌||◌, if◌then◌else◌, List, [], ◌∷◌, ◌++◌, map, length, take, drop, Option}
use Rattle.std.specs.Map.{lookup}
use Rattle.std.specs.Option.{is_some}
use Rattle.std.specs.Str.{bytes_eq}
use Rattle.std.specs.declared.alloc.Global.{Global}
use Rattle.std.specs.declared.vec.Vec.{Vec}
use Rattle.xs_cstmt.specs.StatementTree as syntax
use Rattle.xs_cstmt.specs.StatementTree.{DeclaratorTree, DeclaredTree, FirstTree, StmtTree, StmtTrees, GroupTrees}
use Rattle.xs_perlapi.specs.Table.{is_interface_word}
use Rattle.xs_ctree.specs.declared.value_type.Slot.{Slot}
use Rattle.xs_ctree.specs.declared.value_type.ValueType.{ValueType}
use Rattle.xs_ctypes.specs.TypeNames.{declared_type}

-- a variable that is known
pub record Local : Type 0 where
  pub name : List ℕ
  pub slot : Slot

-- a variable as a map from names holds it
abbrev pub held : Vec ℕ Global × Slot → Local
held e = record { name = e.0.items; slot = e.1 }

-- the variables that are known, in the order of their declarations, and all slots so far
pub record Scope : Type 0 where
  pub variables : List Local
  pub slots : List Slot

-- a variable under its name
abbrev pub named : Local → List ℕ × Slot
named v = (v.name, v.slot)

-- the first variable of a name
unfoldable pub variable_of : List Local → List ℕ → Option Slot
variable_of variables name = lookup (λ n. bytes_eq n name) (map named variables)

-- whether a name may not be declared: it is known here, in this block or an outer one, or means
-- something to the XS interface
unfoldable pub is_in_use : List Local → List ℕ → Bool
is_in_use variables name = is_interface_word name || is_some (variable_of variables name)

-- the slot that is declared next
abbrev pub next_slot : Scope → ℕ → ValueType → Slot
next_slot scope line t = record { number = length scope.slots; of_type = t; line = line }

abbrev pub new_variable : Scope → List ℕ → Slot → Scope
new_variable scope name slot = record {
  variables = scope.variables ++ record { name = name; slot = slot } ∷ [];
  slots = scope.slots ++ slot ∷ [];
}

abbrev pub with_variable : Scope → ℕ → List ℕ → ValueType → Scope
with_variable scope line name t =
    if is_in_use scope.variables name then scope
    else new_variable scope name (next_slot scope line t)

-- a scope in which the first so many variables are known still
abbrev pub knowing : ℕ → Scope → Scope
knowing count scope = record scope { variables = take count scope.variables }

-- the scope behind a block: the variables of the block are known no more
abbrev pub outside : Scope → Scope → Scope
outside scope inner = knowing (length scope.variables) inner

-- the slots that a block declares itself
abbrev pub declared_in : Scope → Scope → List Slot
declared_in scope inner = map (λ v. v.slot) (drop (length scope.variables) inner.variables)

-- the scope behind a name that is declared with a type word
abbrev pub name_behind : List ℕ → Scope → DeclaratorTree → Scope
name_behind base scope d = with_variable scope d.line d.name (declared_type base d.stars)

abbrev pub declarators_behind : List ℕ → Scope → List DeclaratorTree → Scope
declarators_behind base scope [] = scope
declarators_behind base scope (d ∷ rest) =
    declarators_behind base (name_behind base scope d) rest

abbrev pub declared_behind : Scope → DeclaredTree → Scope
declared_behind scope d = declarators_behind d.base scope d.names

-- the scope behind what stands first in the head of a `for`
abbrev pub first_behind : Scope → FirstTree → Scope
first_behind scope syntax.NoFirst = scope
first_behind scope (syntax.FirstDeclare d) = declared_behind scope d
first_behind scope (syntax.FirstEffect e) = scope

unfoldable mutual
  -- the scope behind a statement; what the head of a `for` declares is known in the `for` alone
  pub scope_behind : Scope → StmtTree → Scope
  scope_behind scope (syntax.Block line body) = outside scope (scopes_behind scope body)
  scope_behind scope (syntax.Declare d) = declared_behind scope d
  scope_behind scope (syntax.If line test s) = scope_behind scope s
  scope_behind scope (syntax.IfElse line test s other) =
      scope_behind (scope_behind scope s) other
  scope_behind scope (syntax.While line test s) = scope_behind scope s
  scope_behind scope (syntax.DoWhile line s test) = scope_behind scope s
  scope_behind scope (syntax.For line head s) =
      outside scope (scope_behind (first_behind scope head.first) s)
  scope_behind scope (syntax.Switch line e all) = groups_behind scope all
  scope_behind scope _ = scope

  pub scopes_behind : Scope → StmtTrees → Scope
  scopes_behind scope syntax.NoStmts = scope
  scopes_behind scope (syntax.MoreStmts s rest) = scopes_behind (scope_behind scope s) rest

  pub groups_behind : Scope → GroupTrees → Scope
  groups_behind scope syntax.NoGroups = scope
  groups_behind scope (syntax.MoreGroups line labels body rest) =
      groups_behind (scopes_behind scope body) rest

-- where the first statement of a function stands
abbrev pub beginning : Scope
beginning = record { variables = []; slots = [] }
