-- The kinds of the types that C text names.
use Rattle.std.specs.List.{find}
use Rattle.std.specs.Prelude.{ℕ, List, Option, map, option_map}
use Rattle.std.specs.Str.{bytes_eq}
use Rattle.xs_values.specs.declared.kind.Kind.{Kind}
use Rattle.xs_values.specs.declared.kind.Kind.TheVariants.{I64}
use Rattle.xs_values.specs.declared.model.DataModel.{DataModel}
use Rattle.xs_values.specs.declared.model.DataModel.TheVariants.{Lp64}
use Rattle.xs_values.specs.declared.types.TheConstants.{NUMBER_TYPES}

-- the kind of `long`
abbrev pub long_kind_of : DataModel → Kind
long_kind_of Lp64 = I64

-- the table: the words of each type, and its kind where the data model is LP64
unfoldable pub number_types : List (List ℕ × Kind)
number_types = map (λ row. (row.0.now, row.1)) NUMBER_TYPES

-- what stands beside words in a table, where they stand first
abbrev pub kind_among : List (List ℕ × Kind) → List ℕ → Option Kind
kind_among table words = option_map (λ row. row.1) (find (λ row. bytes_eq row.0 words) table)

-- the kind of a type's words; LP64 is the one data model so far
abbrev pub kind_of_type : DataModel → List ℕ → Option Kind
kind_of_type model words = kind_among number_types words
