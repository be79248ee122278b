-- The variables that a template may name.
use Rattle.std.specs.Prelude.{ℕ, if◌then◌else◌, List, [], ◌∷◌, map, Option, None, Some}
use Rattle.std.specs.Str.{bytes_eq}
use Rattle.xs_template.specs.declared.variables.Variable.{Variable}
use Rattle.xs_template.specs.declared.variables.TheConstants.{VARIABLES}

-- the variable that rows list for a name
abbrev pub variable_in : List (List ℕ × Variable) → List ℕ → Option Variable
variable_in [] name = None
variable_in (row ∷ rows) name = if bytes_eq row.0 name then Some row.1 else variable_in rows name

-- each variable with its name
abbrev pub variables : List (List ℕ × Variable)
variables = map (λ row. (row.0.now, row.1)) VARIABLES

-- the variable of a name
unfoldable pub variable_named : List ℕ → Option Variable
variable_named name = variable_in variables name
