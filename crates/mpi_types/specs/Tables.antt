-- The numbers and sizes of `mpi.h`, and the numbers of collectives. They are this profile's own, as MPI 3.1 leaves
-- them to each implementation.
use Rattle.std.specs.Prelude.{ℕ, ◌==◌, Bool, true, false, Option, [], ◌∷◌, find}
use Rattle.mpi_types.specs.declared.kinds.Datatype.{Datatype}
use Rattle.mpi_types.specs.declared.kinds.Datatype.TheVariants.{Char, SignedChar, UnsignedChar, Byte, Short, UnsignedShort, Int, Unsigned, Long, UnsignedLong, LongLong, UnsignedLongLong}
use Rattle.mpi_types.specs.declared.collective.Collective.{Collective}
use Rattle.mpi_types.specs.declared.collective.Collective.TheVariants.{Barrier, Bcast, Reduce, Allreduce, Scan, Gather, Scatter, Allgather, Alltoall, CommDup, CommSplit, Migrate}
use Rattle.mpi_types.specs.declared.kinds.Operation.{Operation}
use Rattle.mpi_types.specs.declared.kinds.Operation.TheVariants.{Sum, Prod, Max, Min, Land, Lor, Band, Bor, Bxor}

-- a datatype's number
abbrev pub datatype_number : Datatype → ℕ
datatype_number Char = 1
datatype_number SignedChar = 2
datatype_number UnsignedChar = 3
datatype_number Byte = 4
datatype_number Short = 5
datatype_number UnsignedShort = 6
datatype_number Int = 7
datatype_number Unsigned = 8
datatype_number Long = 9
datatype_number UnsignedLong = 10
datatype_number LongLong = 11
datatype_number UnsignedLongLong = 12

-- how many bytes an element of the datatype has
abbrev pub datatype_size : Datatype → ℕ
datatype_size Char = 1
datatype_size SignedChar = 1
datatype_size UnsignedChar = 1
datatype_size Byte = 1
datatype_size Short = 2
datatype_size UnsignedShort = 2
datatype_size Int = 4
datatype_size Unsigned = 4
datatype_size Long = 8
datatype_size UnsignedLong = 8
datatype_size LongLong = 8
datatype_size UnsignedLongLong = 8

-- an operation's number
abbrev pub operation_number : Operation → ℕ
operation_number Sum = 1
operation_number Prod = 2
operation_number Max = 3
operation_number Min = 4
operation_number Land = 5
operation_number Lor = 6
operation_number Band = 7
operation_number Bor = 8
operation_number Bxor = 9

-- a collective's number in images and packets
abbrev pub collective_number : Collective → ℕ
collective_number Barrier = 1
collective_number Bcast = 2
collective_number Reduce = 3
collective_number Allreduce = 4
collective_number Scan = 5
collective_number Gather = 6
collective_number Scatter = 7
collective_number Allgather = 8
collective_number Alltoall = 9
collective_number CommDup = 10
collective_number CommSplit = 11
collective_number Migrate = 12

-- the datatype and the operation of a number
abbrev pub datatype_of : ℕ → Option Datatype
datatype_of n =
    find (λ t. datatype_number t == n)
    (Char ∷ SignedChar ∷ UnsignedChar ∷ Byte ∷ Short ∷ UnsignedShort ∷ Int ∷ Unsigned ∷ Long ∷ UnsignedLong ∷ LongLong
    ∷ UnsignedLongLong ∷ [])

abbrev pub operation_of : ℕ → Option Operation
operation_of n =
    find (λ o. operation_number o == n) (Sum ∷ Prod ∷ Max ∷ Min ∷ Land ∷ Lor ∷ Band ∷ Bor ∷ Bxor ∷ [])

-- `MPI_BYTE` has the operations on bits alone.
abbrev pub is_on_bits : Operation → Bool
is_on_bits Sum = false
is_on_bits Prod = false
is_on_bits Max = false
is_on_bits Min = false
is_on_bits Land = false
is_on_bits Lor = false
is_on_bits Band = true
is_on_bits Bor = true
is_on_bits Bxor = true

abbrev pub has_operation : Datatype → Operation → Bool
has_operation Char o = true
has_operation SignedChar o = true
has_operation UnsignedChar o = true
has_operation Byte o = is_on_bits o
has_operation Short o = true
has_operation UnsignedShort o = true
has_operation Int o = true
has_operation Unsigned o = true
has_operation Long o = true
has_operation UnsignedLong o = true
has_operation LongLong o = true
has_operation UnsignedLongLong o = true

-- whether the collective has a datatype, and whether it has an operation
abbrev pub is_typed : Collective → Bool
is_typed Barrier = false
is_typed Bcast = true
is_typed Reduce = true
is_typed Allreduce = true
is_typed Scan = true
is_typed Gather = true
is_typed Scatter = true
is_typed Allgather = true
is_typed Alltoall = true
is_typed CommDup = false
is_typed CommSplit = false
is_typed Migrate = false

abbrev pub is_reducing : Collective → Bool
is_reducing Barrier = false
is_reducing Bcast = false
is_reducing Reduce = true
is_reducing Allreduce = true
is_reducing Scan = true
is_reducing Gather = false
is_reducing Scatter = false
is_reducing Allgather = false
is_reducing Alltoall = false
is_reducing CommDup = false
is_reducing CommSplit = false
is_reducing Migrate = false
