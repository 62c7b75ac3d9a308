-- The names that the headers declare. They are those of C11 and of MPI 3.1 that this profile has; the numbers of
-- mpi.h are its own.
use Rattle.std.specs.Prelude.{ℕ, pos, negsuc, if◌then◌else◌, List, [], ◌∷◌, Option, None, Some, codes}
use Rattle.std.specs.Str.{bytes_eq}
use Rattle.am_base.specs.declared.calls.HeaderType.TheVariants.{UnsignedLong, VoidPointer, Int, Status, StatusPointer}
use Rattle.am_base.specs.declared.calls.LibCall.TheVariants as lib
use Rattle.am_base.specs.declared.calls.MpiCall.TheVariants as mpi
use Rattle.am_base.specs.declared.headers.Header.{Header}
use Rattle.am_base.specs.declared.headers.Header.TheVariants.{Mpi as InMpi, Stdio, Stdlib, Strings}
use Rattle.am_base.specs.declared.headers.HeaderItem.{HeaderItem}
use Rattle.am_base.specs.declared.headers.HeaderItem.TheVariants.{TypeName, Constant, NullPointer, Library, Mpi}
use Rattle.am_base.specs.declared.headers.HeaderName.{HeaderName}

-- a name, and what it stands for
pub record Row : Type 0 where
  pub name : List ℕ
  pub item : HeaderItem

-- what the first row of that name says
abbrev pub item_in : List Row → List ℕ → Option HeaderItem
item_in [] name = None
item_in (row ∷ rows) name = if bytes_eq row.name name then Some row.item else item_in rows name

abbrev pub rows_of : List HeaderName → List Row
rows_of [] = []
rows_of (n ∷ ns) = record { name = n.name.now; item = n.item } ∷ rows_of ns

abbrev row : List ℕ → HeaderItem → Row
row name item = record { name = name; item = item }

abbrev pub items_of : Header → List Row
items_of Stdio =
    row (codes "size_t") (TypeName UnsignedLong) ∷
    row (codes "NULL") (NullPointer VoidPointer) ∷
    row (codes "printf") (Library lib.Printf) ∷
    row (codes "puts") (Library lib.Puts) ∷
    row (codes "putchar") (Library lib.Putchar) ∷
    []
items_of Stdlib =
    row (codes "size_t") (TypeName UnsignedLong) ∷
    row (codes "NULL") (NullPointer VoidPointer) ∷
    row (codes "malloc") (Library lib.Malloc) ∷
    row (codes "calloc") (Library lib.Calloc) ∷
    row (codes "free") (Library lib.Free) ∷
    row (codes "atoi") (Library lib.Atoi) ∷
    row (codes "abs") (Library lib.Abs) ∷
    row (codes "exit") (Library lib.Exit) ∷
    []
items_of Strings =
    row (codes "size_t") (TypeName UnsignedLong) ∷
    row (codes "NULL") (NullPointer VoidPointer) ∷
    row (codes "memcpy") (Library lib.Memcpy) ∷
    row (codes "memset") (Library lib.Memset) ∷
    row (codes "memcmp") (Library lib.Memcmp) ∷
    row (codes "strlen") (Library lib.Strlen) ∷
    row (codes "strcmp") (Library lib.Strcmp) ∷
    row (codes "strcpy") (Library lib.Strcpy) ∷
    []
items_of InMpi =
    row (codes "MPI_Comm") (TypeName Int) ∷
    row (codes "MPI_Datatype") (TypeName Int) ∷
    row (codes "MPI_Op") (TypeName Int) ∷
    row (codes "MPI_Request") (TypeName Int) ∷
    row (codes "MPI_Info") (TypeName Int) ∷
    row (codes "MPI_Status") (TypeName Status) ∷
    row (codes "MPI_SUCCESS") (Constant (pos 0)) ∷
    row (codes "MPI_COMM_NULL") (Constant (pos 0)) ∷
    row (codes "MPI_COMM_WORLD") (Constant (pos 1)) ∷
    row (codes "MPI_REQUEST_NULL") (Constant (pos 0)) ∷
    row (codes "MPI_ANY_SOURCE") (Constant (negsuc 0)) ∷
    row (codes "MPI_ANY_TAG") (Constant (negsuc 0)) ∷
    row (codes "MPI_PROC_NULL") (Constant (negsuc 1)) ∷
    row (codes "MPI_UNDEFINED") (Constant (negsuc 32765)) ∷
    row (codes "AMPI_INFO_LB_SYNC") (Constant (pos 1)) ∷
    row (codes "MPI_CHAR") (Constant (pos 1)) ∷
    row (codes "MPI_SIGNED_CHAR") (Constant (pos 2)) ∷
    row (codes "MPI_UNSIGNED_CHAR") (Constant (pos 3)) ∷
    row (codes "MPI_BYTE") (Constant (pos 4)) ∷
    row (codes "MPI_SHORT") (Constant (pos 5)) ∷
    row (codes "MPI_UNSIGNED_SHORT") (Constant (pos 6)) ∷
    row (codes "MPI_INT") (Constant (pos 7)) ∷
    row (codes "MPI_UNSIGNED") (Constant (pos 8)) ∷
    row (codes "MPI_LONG") (Constant (pos 9)) ∷
    row (codes "MPI_UNSIGNED_LONG") (Constant (pos 10)) ∷
    row (codes "MPI_LONG_LONG") (Constant (pos 11)) ∷
    row (codes "MPI_LONG_LONG_INT") (Constant (pos 11)) ∷
    row (codes "MPI_UNSIGNED_LONG_LONG") (Constant (pos 12)) ∷
    row (codes "MPI_SUM") (Constant (pos 1)) ∷
    row (codes "MPI_PROD") (Constant (pos 2)) ∷
    row (codes "MPI_MAX") (Constant (pos 3)) ∷
    row (codes "MPI_MIN") (Constant (pos 4)) ∷
    row (codes "MPI_LAND") (Constant (pos 5)) ∷
    row (codes "MPI_LOR") (Constant (pos 6)) ∷
    row (codes "MPI_BAND") (Constant (pos 7)) ∷
    row (codes "MPI_BOR") (Constant (pos 8)) ∷
    row (codes "MPI_BXOR") (Constant (pos 9)) ∷
    row (codes "MPI_STATUS_IGNORE") (NullPointer StatusPointer) ∷
    row (codes "MPI_STATUSES_IGNORE") (NullPointer StatusPointer) ∷
    row (codes "MPI_Init") (Mpi mpi.Init) ∷
    row (codes "MPI_Initialized") (Mpi mpi.Initialized) ∷
    row (codes "MPI_Finalized") (Mpi mpi.Finalized) ∷
    row (codes "MPI_Finalize") (Mpi mpi.Finalize) ∷
    row (codes "MPI_Comm_rank") (Mpi mpi.CommRank) ∷
    row (codes "MPI_Comm_size") (Mpi mpi.CommSize) ∷
    row (codes "MPI_Comm_dup") (Mpi mpi.CommDup) ∷
    row (codes "MPI_Comm_split") (Mpi mpi.CommSplit) ∷
    row (codes "MPI_Comm_free") (Mpi mpi.CommFree) ∷
    row (codes "MPI_Abort") (Mpi mpi.Abort) ∷
    row (codes "MPI_Send") (Mpi mpi.Send) ∷
    row (codes "MPI_Recv") (Mpi mpi.Recv) ∷
    row (codes "MPI_Isend") (Mpi mpi.Isend) ∷
    row (codes "MPI_Irecv") (Mpi mpi.Irecv) ∷
    row (codes "MPI_Wait") (Mpi mpi.Wait) ∷
    row (codes "MPI_Waitall") (Mpi mpi.Waitall) ∷
    row (codes "MPI_Test") (Mpi mpi.Test) ∷
    row (codes "MPI_Get_count") (Mpi mpi.GetCount) ∷
    row (codes "MPI_Barrier") (Mpi mpi.Barrier) ∷
    row (codes "MPI_Bcast") (Mpi mpi.Bcast) ∷
    row (codes "MPI_Reduce") (Mpi mpi.Reduce) ∷
    row (codes "MPI_Allreduce") (Mpi mpi.Allreduce) ∷
    row (codes "MPI_Scan") (Mpi mpi.Scan) ∷
    row (codes "MPI_Gather") (Mpi mpi.Gather) ∷
    row (codes "MPI_Scatter") (Mpi mpi.Scatter) ∷
    row (codes "MPI_Allgather") (Mpi mpi.Allgather) ∷
    row (codes "MPI_Alltoall") (Mpi mpi.Alltoall) ∷
    row (codes "AMPI_Migrate") (Mpi mpi.Migrate) ∷
    []
