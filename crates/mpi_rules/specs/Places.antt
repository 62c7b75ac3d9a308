-- The bytes of a rank's memory that calls read and write.
use Rattle.std.specs.Prelude.{ℕ, ℤ, pos, negsuc, ◌*◌, ◌%◌, ◌^◌, ◌==◌, nat_lt, if◌then◌else◌, Bool, Option, None, is_some, unwrap_or, List, [], ◌∷◌, ◌++◌, length, slice_index}
use Rattle.std.specs.List.{list_all}
use Rattle.std.specs.Int.{w32, cast_signed, cast_unsigned}
use Rattle.byteorder.specs.Endian.{little_bytes}
use Rattle.rank_range.specs.Areas.{Areas, bytes_at, with_bytes_at, number_of}
use Rattle.mpi_types.specs.declared.call.Write.{Write}
use Rattle.mpi_types.specs.declared.kinds.Datatype.{Datatype}
use Rattle.mpi_types.specs.declared.kinds.Operation.{Operation}
use Rattle.mpi_types.specs.declared.status.Status.{Status}
use Rattle.mpi_types.specs.Collected.{size_of}
use Rattle.mpi_types.specs.Tables.{datatype_of, operation_of}

-- the int that a word holds: its low 32 bits in two's complement
unfoldable pub int_of : ℕ → ℤ
int_of word = cast_signed w32 (word % 2 ^ 32)

-- the argument at a place, as an int
abbrev pub int_at : List ℕ → ℕ → ℤ
int_at words i = int_of (slice_index words i)

-- a count as a number; a negative one is 0
abbrev pub count_of : ℤ → ℕ
count_of (pos n) = n
count_of (negsuc n) = 0

-- an int as the number of a byte; one that is no such number is 0
abbrev pub byte_of : ℤ → ℕ
byte_of (pos n) = if nat_lt n 256 then n else 0
byte_of (negsuc n) = 0

-- the datatype and the operation that an int names
abbrev pub byte_named : {X : Type 0} → (ℕ → Option X) → ℤ → Option X
byte_named of (pos n) = if nat_lt n 256 then of n else None
byte_named of (negsuc n) = None

abbrev pub datatype_named : ℤ → Option Datatype
datatype_named n = byte_named datatype_of n

abbrev pub operation_named : ℤ → Option Operation
operation_named n = byte_named operation_of n

-- how many bytes so many elements of a datatype have; elements of no datatype have none
abbrev pub bytes_of : ℤ → ℤ → ℕ
bytes_of count datatype = count_of count * size_of (datatype_named datatype)

-- the bytes are all in one accessible area; no bytes always are
unfoldable pub is_open : Areas → ℕ → ℕ → Bool
is_open areas a n = is_some (bytes_at areas a n)

-- the bytes there; none where they aren't accessible
unfoldable pub read_at : Areas → ℕ → ℕ → List ℕ
read_at areas a n = unwrap_or (bytes_at areas a n) []

-- the number of four bytes there; 0 where they aren't accessible
unfoldable pub variable_at : Areas → ℕ → ℕ
variable_at areas a = unwrap_or (number_of areas a 4) 0

-- ---- writes

abbrev pub write_at : ℕ → List ℕ → Write
write_at a bytes = record { address = a; bytes = bytes }

-- a write of bytes; no bytes are not written
abbrev pub write_of : ℕ → List ℕ → List Write
write_of a [] = []
write_of a (b ∷ bytes) = write_at a (b ∷ bytes) ∷ []

-- a write of an int
abbrev pub int_bytes : ℤ → List ℕ
int_bytes n = little_bytes 4 (cast_unsigned w32 n)

abbrev pub int_write : ℕ → ℤ → Write
int_write a n = write_at a (int_bytes n)

-- The four ints of a status: source, tag, error, which is always 0, and how many bytes the message has.
abbrev pub status_bytes : Status → List ℕ
status_bytes s = int_bytes s.source ++ (int_bytes s.tag ++ (int_bytes (pos 0) ++ little_bytes 4 s.bytes))

-- a status is written where its address isn't that of `MPI_STATUS_IGNORE`
abbrev pub status_writes : ℕ → Status → List Write
status_writes a s = if a == 0 then [] else write_at a (status_bytes s) ∷ []

-- all these bytes are accessible
abbrev pub are_open : Areas → List Write → Bool
are_open areas writes = list_all (λ w. is_open areas w.address (length w.bytes)) writes

-- the areas after a write; one that isn't accessible changes nothing
unfoldable pub written_one : Areas → ℕ → List ℕ → Areas
written_one areas a bytes = unwrap_or (with_bytes_at areas a bytes) areas

-- the same of writes, one after another
unfoldable pub written : Areas → List Write → Areas
written areas [] = areas
written areas (w ∷ writes) = written (written_one areas w.address w.bytes) writes
