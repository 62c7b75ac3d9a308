-- Reductions: what an operation makes of the elements of all members (MPI 3.1, sections 5.9.1 and 5.9.2). `MPI_CHAR` is
-- taken as signed char, which is this profile's own choice.
use Rattle.std.specs.Prelude.{ℕ, ℤ, pos, ◌+◌, ◌-◌, ◌*◌, ◌%◌, ◌^◌, ◌==◌, ◌&&◌, ◌||◌, not, int_lt, nat_lt, if◌then◌else◌, bit_and, bit_or, bit_xor, Bool, true, false, zero, suc, List, [], ◌∷◌, map, drop, fold}
use Rattle.std.specs.List.{flat_map}
use Rattle.byteorder.specs.Endian.{little_number, little_bytes, twos_complement}
use Rattle.mpi_types.specs.declared.kinds.Datatype.{Datatype}
use Rattle.mpi_types.specs.declared.kinds.Datatype.TheVariants.{Char, SignedChar, UnsignedChar, Byte, Short, UnsignedShort, Int, Unsigned, Long, UnsignedLong, LongLong, UnsignedLongLong}
use Rattle.mpi_types.specs.declared.kinds.Operation.{Operation}
use Rattle.mpi_types.specs.declared.kinds.Operation.TheVariants.{Sum, Prod, Max, Min, Land, Lor, Band, Bor, Bxor}
use Rattle.mpi_types.specs.Tables.{datatype_size}

abbrev pub is_signed : Datatype → Bool
is_signed Char = true
is_signed SignedChar = true
is_signed UnsignedChar = false
is_signed Byte = false
is_signed Short = true
is_signed UnsignedShort = false
is_signed Int = true
is_signed Unsigned = false
is_signed Long = true
is_signed UnsignedLong = false
is_signed LongLong = true
is_signed UnsignedLongLong = false

-- An element is the number that its bytes spell, the lowest byte first. Its value is that number, in two's complement
-- where the datatype is signed.
abbrev pub value_of : Datatype → ℕ → ℤ
value_of t n = if is_signed t then twos_complement (datatype_size t) n else pos n

abbrev pub is_less : Datatype → ℕ → ℕ → Bool
is_less t a b = int_lt (value_of t a) (value_of t b)

-- a number of two's complement so shifted, by half of what its width can count, that negative ones come first
abbrev pub shifted : ℕ → ℕ → ℕ
shifted n half = if nat_lt n half then n + half else n - half

-- a truth value: 1 where it is true
abbrev pub truth : Bool → ℕ
truth true = 1
truth false = 0

-- an element as a truth value: it is false where it is 0
abbrev pub is_true : ℕ → Bool
is_true a = not (a == 0)

-- What the operation makes of two elements, in the width of the datatype. Sums and products of signed numbers wrap.
abbrev pub combined : Operation → Datatype → ℕ → ℕ → ℕ
combined Sum t a b = (a + b) % 256 ^ datatype_size t
combined Prod t a b = (a * b) % 256 ^ datatype_size t
combined Max t a b = if is_less t a b then b else a
combined Min t a b = if is_less t a b then a else b
combined Land t a b = truth (is_true a && is_true b)
combined Lor t a b = truth (is_true a || is_true b)
combined Band t a b = bit_and a b
combined Bor t a b = bit_or a b
combined Bxor t a b = bit_xor a b

-- What the operation makes of one element alone: a logical operation gives a truth value.
abbrev pub begun : Operation → ℕ → ℕ
begun Sum a = a
begun Prod a = a
begun Max a = a
begun Min a = a
begun Land a = truth (is_true a)
begun Lor a = truth (is_true a)
begun Band a = a
begun Bor a = a
begun Bxor a = a

-- each element with the one at its place
abbrev pub combined_lists : Operation → Datatype → List ℕ → List ℕ → List ℕ
combined_lists operation t [] ys = []
combined_lists operation t (x ∷ xs) [] = []
combined_lists operation t (x ∷ xs) (y ∷ ys) = combined operation t x y ∷ combined_lists operation t xs ys

-- The elements of all members, folded in the order of the members.
abbrev pub folded : Operation → Datatype → List (List ℕ) → List ℕ
folded operation t [] = []
folded operation t (xs ∷ more) = fold (combined_lists operation t) (map (begun operation) xs) more

-- the first elements, so many, of so many bytes each
abbrev pub elements_of : ℕ → ℕ → List ℕ → List ℕ
elements_of size zero bytes = []
elements_of size (suc count) bytes = little_number size bytes ∷ elements_of size count (drop size bytes)

-- the bytes of elements
abbrev pub bytes_of : ℕ → List ℕ → List ℕ
bytes_of size elements = flat_map (little_bytes size) elements

-- What is left of so many elements of each member, given as bytes, after the reduction.
abbrev pub reduced : Operation → Datatype → ℕ → List (List ℕ) → List ℕ
reduced operation t count bodies =
    bytes_of (datatype_size t) (folded operation t (map (elements_of (datatype_size t) count) bodies))
