-- The kinds of C's integers: their ranges, promotion, and the common kind of two operands.
use Rattle.std.specs.Prelude.{ℤ, pos, negsuc, ℕ, Bool, true, false, if◌then◌else◌, nat_lt}
use Rattle.xs_values.specs.declared.kind.Kind.{Kind}
use Rattle.xs_values.specs.declared.kind.Kind.TheVariants.{I8, U8, I16, U16, I32, U32, I64, U64}
use Rattle.xs_values.specs.declared.kind.Kind.TheVariants as kind

-- the width (C11 6.2.6.2): how many bits tell the numbers of a kind apart
abbrev pub bits_of : Kind → ℕ
bits_of I8 = 8
bits_of U8 = 8
bits_of I16 = 16
bits_of U16 = 16
bits_of I32 = 32
bits_of U32 = 32
bits_of I64 = 64
bits_of U64 = 64
bits_of kind.Bool = 1

-- whether there are negative numbers
abbrev pub is_signed : Kind → Bool
is_signed I8 = true
is_signed U8 = false
is_signed I16 = true
is_signed U16 = false
is_signed I32 = true
is_signed U32 = false
is_signed I64 = true
is_signed U64 = false
is_signed kind.Bool = false

-- the least number, and the greatest (C11 5.2.4.2.1, with two's complement)
abbrev pub low_of : Kind → ℤ
low_of I8 = negsuc 127
low_of U8 = pos 0
low_of I16 = negsuc 32767
low_of U16 = pos 0
low_of I32 = negsuc 2147483647
low_of U32 = pos 0
low_of I64 = negsuc 9223372036854775807
low_of U64 = pos 0
low_of kind.Bool = pos 0

abbrev pub high_of : Kind → ℤ
high_of I8 = pos 127
high_of U8 = pos 255
high_of I16 = pos 32767
high_of U16 = pos 65535
high_of I32 = pos 2147483647
high_of U32 = pos 4294967295
high_of I64 = pos 9223372036854775807
high_of U64 = pos 18446744073709551615
high_of kind.Bool = pos 1

-- Integer promotion (C11 6.3.1.1): a kind of less width than I32 becomes I32, which holds all its
-- numbers.
abbrev pub promoted : Kind → Kind
promoted I8 = I32
promoted U8 = I32
promoted I16 = I32
promoted U16 = I32
promoted I32 = I32
promoted U32 = U32
promoted I64 = I64
promoted U64 = U64
promoted kind.Bool = I32

-- the wider of two kinds, and at one width the unsigned one
abbrev pub wider : Kind → Kind → Kind
wider a b = if nat_lt (bits_of a) (bits_of b) then b
    else (if nat_lt (bits_of b) (bits_of a) then a else (if is_signed a then b else a))

-- The usual arithmetic conversions (C11 6.3.1.8): the kind that both operands of an operator are
-- converted to.
abbrev pub common_kind : Kind → Kind → Kind
common_kind a b = wider (promoted a) (promoted b)
