-- What the names of types mean.
use Rattle.std.specs.Prelude.{ℕ, Bool, true, false, ◌&&◌, ◌||◌, if◌then◌else◌, nat_eq, List, Option, Some, None, unwrap_or, codes}
use Rattle.std.specs.Str.{bytes_eq}
use Rattle.xs_values.specs.declared.kind.Kind.{Kind}
use Rattle.xs_values.specs.declared.model.DataModel.TheVariants.{Lp64}
use Rattle.xs_values.specs.Types.{kind_of_type}
use Rattle.xs_ctree.specs.declared.value_type.ValueType.{ValueType}
use Rattle.xs_ctree.specs.declared.value_type.ValueType.TheVariants as type_of

-- whether a name with so many `*` after it is this one with this number of them
abbrev pub is_spelled : List ℕ → ℕ → List ℕ → ℕ → Bool
is_spelled name stars other count = bytes_eq name other && nat_eq stars count

-- a pointer to a number: bytes that are a text, or the address of a variable
abbrev pub pointer_to : List ℕ → Kind → ValueType
pointer_to name kind =
    if bytes_eq name (codes "char") || bytes_eq name (codes "unsigned char") then type_of.Text
    else type_of.Address kind

-- a number type with so many `*` after it
abbrev pub of_kind : List ℕ → Kind → ℕ → Option ValueType
of_kind name kind stars =
    if nat_eq stars 0 then Some (type_of.Number kind)
    else if nat_eq stars 1 then Some (pointer_to name kind)
    else None

-- a scalar, or a place of one
abbrev pub of_scalar : List ℕ → ℕ → Option ValueType
of_scalar name stars =
    if is_spelled name stars (codes "SV") 1 then Some type_of.Scalar
    else if is_spelled name stars (codes "SV") 2 then Some type_of.Place
    else if is_spelled name stars (codes "SVREF") 0 then Some type_of.Scalar
    else if is_spelled name stars (codes "SVREF") 1 then Some type_of.Place
    else None

-- another type of Perl, or one of C that is no number
abbrev pub of_other : List ℕ → ℕ → Option ValueType
of_other name stars =
    if is_spelled name stars (codes "AV") 1 then Some type_of.Array
    else if is_spelled name stars (codes "HV") 1 then Some type_of.Hash
    else if is_spelled name stars (codes "void") 0 then Some type_of.Void
    else if is_spelled name stars (codes "void") 1 then Some type_of.Untyped
    else None

-- the first of two types, where there is one
abbrev pub first_type : Option ValueType → Option ValueType → Option ValueType
first_type None other = other
first_type (Some t) other = Some t

abbrev pub of_words : List ℕ → ℕ → Option Kind → Option ValueType
of_words name stars (Some kind) = of_kind name kind stars
of_words name stars None = first_type (of_scalar name stars) (of_other name stars)

-- What a name with so many `*` after it means. LP64 is the one data model so far.
unfoldable pub type_meant : List ℕ → ℕ → Option ValueType
type_meant name stars = of_words name stars (kind_of_type Lp64 name)

-- whether a variable may have a type
abbrev pub may_vary : ValueType → Bool
may_vary type_of.Untyped = false
may_vary (type_of.Address kind) = false
may_vary type_of.Null = false
may_vary type_of.Void = false
may_vary type_of.Faulty = false
may_vary _ = true

-- whether a value may be cast to a type
abbrev pub is_cast : ValueType → Bool
is_cast type_of.Untyped = true
is_cast type_of.Void = true
is_cast t = may_vary t

-- a type, where it may stand
abbrev pub where_it : (ValueType → Bool) → Option ValueType → Option ValueType
where_it may None = None
where_it may (Some t) = if may t then Some t else None

-- the type of a variable, by a name with so many `*` after it
unfoldable pub type_named : List ℕ → ℕ → Option ValueType
type_named name stars = where_it may_vary (type_meant name stars)

-- the type that a value is cast to
unfoldable pub cast_named : List ℕ → ℕ → Option ValueType
cast_named name stars = where_it is_cast (type_meant name stars)

-- the type of what is declared with it
abbrev pub declared_type : List ℕ → ℕ → ValueType
declared_type name stars = unwrap_or (type_named name stars) type_of.Faulty
