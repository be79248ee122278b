-- The kinds of integer literals.
use Rattle.std.specs.List.{find}
use Rattle.std.specs.Prelude.{ℕ, pos, nat_le, not, ◌&&◌, ◌||◌, Bool, true, false, unwrap_or}
use Rattle.xs_values.specs.declared.kind.Kind.{Kind}
use Rattle.xs_values.specs.declared.kind.Kind.TheVariants.{I32, I64, U64}
use Rattle.xs_values.specs.declared.literal.Base.{Base}
use Rattle.xs_values.specs.declared.literal.Base.TheVariants.{Decimal, Octal, Hexadecimal}
use Rattle.xs_values.specs.declared.literal.Length.{Length}
use Rattle.xs_values.specs.declared.literal.Length.TheVariants.{Int, Long, LongLong}
use Rattle.xs_values.specs.declared.literal.Suffix.{Suffix}
use Rattle.xs_values.specs.declared.literal.TheConstants.{LITERAL_KINDS}
use Rattle.xs_values.specs.declared.model.DataModel.{DataModel}
use Rattle.xs_values.specs.Kinds.{bits_of, is_signed}
use Rattle.xs_values.specs.Numbers.{is_held}
use Rattle.xs_values.specs.Types.{long_kind_of}

abbrev pub is_decimal_base : Base → Bool
is_decimal_base Decimal = true
is_decimal_base Octal = false
is_decimal_base Hexadecimal = false

-- the kind at which a suffix lets the search begin
abbrev pub start_of : DataModel → Length → Kind
start_of model Int = I32
start_of model Long = long_kind_of model
start_of model LongLong = I64

-- Whether a literal may have a kind: an `l` or `ll` asks for the width of its type, a `u` for an
-- unsigned kind, and a decimal literal without `u` for a signed one.
abbrev pub may_have : DataModel → Base → Suffix → Kind → Bool
may_have model base suffix k =
    nat_le (bits_of (start_of model suffix.length)) (bits_of k)
    && ((is_signed k && not suffix.unsigned)
    || (not (is_signed k) && (suffix.unsigned || not (is_decimal_base base))))

-- The kind of a literal (C11 6.4.4.1): the first of its kinds that holds its value. The standard
-- gives no kind to a decimal literal that no signed kind holds; here it has kind U64, as every
-- literal above the other kinds has.
abbrev pub literal_kind_of : DataModel → Base → Suffix → ℕ → Kind
literal_kind_of model base suffix n =
    unwrap_or (find (λ k. may_have model base suffix k && is_held k (pos n)) LITERAL_KINDS) U64
