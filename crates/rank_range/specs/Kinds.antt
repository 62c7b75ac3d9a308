-- The whole types of C, and the numbers that words of 64 bits stand for (C11, 6.2.5, 6.3.1.1, 6.3.1.3 and 6.3.1.8). The
-- widths, that `char` is signed, and that a number which doesn't fit loses its high bits are this profile's own.
use Rattle.std.specs.Prelude.{ℕ, ℤ, pos, ◌≡◌, ◌^◌, if◌then◌else◌, Bool, true, false, nat_lt, nat_le, unsigned_abs}
use Rattle.std.specs.Int.{w8, w16, w32, w64, cast_signed, int_rem_euclid}
use Rattle.rank_range.specs.declared.kinds.Kind.{Kind}
use Rattle.rank_range.specs.declared.kinds.Kind.TheVariants.{Char, UnsignedChar, Short, UnsignedShort, Int, Unsigned, Long, UnsignedLong}
use Rattle.rank_range.specs.declared.width.Width.{Width}
use Rattle.rank_range.specs.declared.width.Width.TheVariants.{One, Two, Four, Eight}

abbrev pub is_signed : Kind → Bool
is_signed Char = true
is_signed UnsignedChar = false
is_signed Short = true
is_signed UnsignedShort = false
is_signed Int = true
is_signed Unsigned = false
is_signed Long = true
is_signed UnsignedLong = false

-- how many bytes and how many bits a number of the kind has
abbrev pub width_of : Kind → Width
width_of Char = One
width_of UnsignedChar = One
width_of Short = Two
width_of UnsignedShort = Two
width_of Int = Four
width_of Unsigned = Four
width_of Long = Eight
width_of UnsignedLong = Eight

abbrev pub bits_in : Width → ℕ
bits_in One = 8
bits_in Two = 16
bits_in Four = 32
bits_in Eight = 64

abbrev pub bits_of : Kind → ℕ
bits_of kind = bits_in (width_of kind)

-- the lowest bits of z in two's complement: its remainder that isn't negative
abbrev pub low_bits : ℕ → ℤ → ℕ
low_bits bits z = unsigned_abs (int_rem_euclid z (pos (2 ^ bits)))

-- The number of the kind that differs from z by a multiple of 2 ^ bits_of kind.
unfoldable pub reduced : Kind → ℤ → ℤ
reduced Char z = cast_signed w8 (low_bits 8 z)
reduced UnsignedChar z = pos (low_bits 8 z)
reduced Short z = cast_signed w16 (low_bits 16 z)
reduced UnsignedShort z = pos (low_bits 16 z)
reduced Int z = cast_signed w32 (low_bits 32 z)
reduced Unsigned z = pos (low_bits 32 z)
reduced Long z = cast_signed w64 (low_bits 64 z)
reduced UnsignedLong z = pos (low_bits 64 z)

-- A number is kept in a word of 64 bits: as itself, or 2 ^ 64 more where it is negative. So the signed kinds are extended
-- by their sign, and the unsigned ones by zeros.
unfoldable pub word_of : ℤ → ℕ
word_of z = low_bits 64 z

-- the number of the kind that the lowest bits of a word stand for
abbrev pub value_of : Kind → ℕ → ℤ
value_of kind word = reduced kind (pos word)

-- the word of that number
unfoldable pub extended : Kind → ℕ → ℕ
extended kind word = word_of (value_of kind word)

-- a value of one kind as one of another
unfoldable pub convert : ℕ → Kind → Kind → ℕ
convert word from to = word_of (reduced to (value_of from word))

-- The word is that of a number of the kind.
abbrev pub IsWordOf : Kind → ℕ → Type 0
IsWordOf kind word = extended kind word ≡ word

-- A word that was extended is that of a number of the kind.
abbrev pub AreWords : Type 0
AreWords = (kind : Kind) (word : ℕ) → IsWordOf kind (extended kind word)

-- A value that is kept as its word is converted by extending that word.
abbrev pub AreExtended : Type 0
AreExtended = (from to : Kind) (word : ℕ) → IsWordOf from word → convert word from to ≡ extended to word

-- the rank of the kind among the whole types, as an order
abbrev pub order_of : Kind → ℕ
order_of Char = 1
order_of UnsignedChar = 1
order_of Short = 2
order_of UnsignedShort = 2
order_of Int = 3
order_of Unsigned = 3
order_of Long = 4
order_of UnsignedLong = 4

-- The integer promotions: a kind below `int` becomes `int`, which holds all its numbers.
abbrev pub promoted : Kind → Kind
promoted kind = if nat_lt (order_of kind) (order_of Int) then Int else kind

-- the unsigned kind of the same rank
abbrev pub unsigned_of : Kind → Kind
unsigned_of Char = UnsignedChar
unsigned_of UnsignedChar = UnsignedChar
unsigned_of Short = UnsignedShort
unsigned_of UnsignedShort = UnsignedShort
unsigned_of Int = Unsigned
unsigned_of Unsigned = Unsigned
unsigned_of Long = UnsignedLong
unsigned_of UnsignedLong = UnsignedLong

-- of two kinds that are both signed or both unsigned, the one of greater rank
abbrev pub greater_of : Kind → Kind → Kind
greater_of a b = if nat_lt (order_of a) (order_of b) then b else a

-- Of a signed kind and an unsigned one: the unsigned one where its rank is no less; the signed one where it holds all
-- numbers of the other; else the unsigned kind of the signed one's rank.
abbrev pub mixed_of : Kind → Kind → Kind
mixed_of signed unsigned =
    if nat_le (order_of signed) (order_of unsigned) then unsigned
    else (if nat_lt (bits_of unsigned) (bits_of signed) then signed else unsigned_of signed)

abbrev pub common_of : Kind → Kind → Kind
common_of a b =
    if is_signed a
    then (if is_signed b then greater_of a b else mixed_of a b)
    else (if is_signed b then mixed_of b a else greater_of a b)

-- The usual arithmetic conversions: the kind in which an operator works whose operands have these kinds.
abbrev pub usual : Kind → Kind → Kind
usual a b = common_of (promoted a) (promoted b)
