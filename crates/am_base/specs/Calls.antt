-- The calls of the C library (C11, 7.21 to 7.24) and of MPI (MPI 3.1), by name and by the types of their declarations.
use Rattle.std.specs.Prelude.{ℕ, List, [], ◌∷◌, codes}
use Rattle.am_base.specs.declared.calls.HeaderType.{HeaderType}
use Rattle.am_base.specs.declared.calls.HeaderType.TheVariants.{Void, Int, UnsignedLong, VoidPointer, ConstVoidPointer, CharPointer, ConstCharPointer, IntPointer, ArgumentsPointer, StatusPointer, ConstStatusPointer}
use Rattle.am_base.specs.declared.calls.LibCall.{LibCall}
use Rattle.am_base.specs.declared.calls.LibCall.TheVariants as lib
use Rattle.am_base.specs.declared.calls.MpiCall.{MpiCall}
use Rattle.am_base.specs.declared.calls.MpiCall.TheVariants as mpi

-- by what name a program calls it
abbrev pub lib_name : LibCall → List ℕ
lib_name lib.Printf = codes "printf"
lib_name lib.Puts = codes "puts"
lib_name lib.Putchar = codes "putchar"
lib_name lib.Malloc = codes "malloc"
lib_name lib.Calloc = codes "calloc"
lib_name lib.Free = codes "free"
lib_name lib.Memcpy = codes "memcpy"
lib_name lib.Memset = codes "memset"
lib_name lib.Memcmp = codes "memcmp"
lib_name lib.Strlen = codes "strlen"
lib_name lib.Strcmp = codes "strcmp"
lib_name lib.Strcpy = codes "strcpy"
lib_name lib.Atoi = codes "atoi"
lib_name lib.Abs = codes "abs"
lib_name lib.Exit = codes "exit"

-- the type of its result
abbrev pub lib_result : LibCall → HeaderType
lib_result lib.Printf = Int
lib_result lib.Puts = Int
lib_result lib.Putchar = Int
lib_result lib.Malloc = VoidPointer
lib_result lib.Calloc = VoidPointer
lib_result lib.Free = Void
lib_result lib.Memcpy = VoidPointer
lib_result lib.Memset = VoidPointer
lib_result lib.Memcmp = Int
lib_result lib.Strlen = UnsignedLong
lib_result lib.Strcmp = Int
lib_result lib.Strcpy = CharPointer
lib_result lib.Atoi = Int
lib_result lib.Abs = Int
lib_result lib.Exit = Void

-- The types of its parameters. `printf` takes further arguments behind them.
abbrev pub lib_parameters : LibCall → List HeaderType
lib_parameters lib.Printf = ConstCharPointer ∷ []
lib_parameters lib.Puts = ConstCharPointer ∷ []
lib_parameters lib.Putchar = Int ∷ []
lib_parameters lib.Malloc = UnsignedLong ∷ []
lib_parameters lib.Calloc = UnsignedLong ∷ UnsignedLong ∷ []
lib_parameters lib.Free = VoidPointer ∷ []
lib_parameters lib.Memcpy = VoidPointer ∷ ConstVoidPointer ∷ UnsignedLong ∷ []
lib_parameters lib.Memset = VoidPointer ∷ Int ∷ UnsignedLong ∷ []
lib_parameters lib.Memcmp = ConstVoidPointer ∷ ConstVoidPointer ∷ UnsignedLong ∷ []
lib_parameters lib.Strlen = ConstCharPointer ∷ []
lib_parameters lib.Strcmp = ConstCharPointer ∷ ConstCharPointer ∷ []
lib_parameters lib.Strcpy = CharPointer ∷ ConstCharPointer ∷ []
lib_parameters lib.Atoi = ConstCharPointer ∷ []
lib_parameters lib.Abs = Int ∷ []
lib_parameters lib.Exit = Int ∷ []

abbrev pub mpi_name : MpiCall → List ℕ
mpi_name mpi.Init = codes "MPI_Init"
mpi_name mpi.Initialized = codes "MPI_Initialized"
mpi_name mpi.Finalized = codes "MPI_Finalized"
mpi_name mpi.Finalize = codes "MPI_Finalize"
mpi_name mpi.CommRank = codes "MPI_Comm_rank"
mpi_name mpi.CommSize = codes "MPI_Comm_size"
mpi_name mpi.CommDup = codes "MPI_Comm_dup"
mpi_name mpi.CommSplit = codes "MPI_Comm_split"
mpi_name mpi.CommFree = codes "MPI_Comm_free"
mpi_name mpi.Abort = codes "MPI_Abort"
mpi_name mpi.Send = codes "MPI_Send"
mpi_name mpi.Recv = codes "MPI_Recv"
mpi_name mpi.Isend = codes "MPI_Isend"
mpi_name mpi.Irecv = codes "MPI_Irecv"
mpi_name mpi.Wait = codes "MPI_Wait"
mpi_name mpi.Waitall = codes "MPI_Waitall"
mpi_name mpi.Test = codes "MPI_Test"
mpi_name mpi.GetCount = codes "MPI_Get_count"
mpi_name mpi.Barrier = codes "MPI_Barrier"
mpi_name mpi.Bcast = codes "MPI_Bcast"
mpi_name mpi.Reduce = codes "MPI_Reduce"
mpi_name mpi.Allreduce = codes "MPI_Allreduce"
mpi_name mpi.Scan = codes "MPI_Scan"
mpi_name mpi.Gather = codes "MPI_Gather"
mpi_name mpi.Scatter = codes "MPI_Scatter"
mpi_name mpi.Allgather = codes "MPI_Allgather"
mpi_name mpi.Alltoall = codes "MPI_Alltoall"
mpi_name mpi.Migrate = codes "AMPI_Migrate"

-- the types of its parameters; each call of MPI answers an int
abbrev pub mpi_parameters : MpiCall → List HeaderType
mpi_parameters mpi.Init = IntPointer ∷ ArgumentsPointer ∷ []
mpi_parameters mpi.Initialized = IntPointer ∷ []
mpi_parameters mpi.Finalized = IntPointer ∷ []
mpi_parameters mpi.Finalize = []
mpi_parameters mpi.CommRank = Int ∷ IntPointer ∷ []
mpi_parameters mpi.CommSize = Int ∷ IntPointer ∷ []
mpi_parameters mpi.CommDup = Int ∷ IntPointer ∷ []
mpi_parameters mpi.CommSplit = Int ∷ Int ∷ Int ∷ IntPointer ∷ []
mpi_parameters mpi.CommFree = IntPointer ∷ []
mpi_parameters mpi.Abort = Int ∷ Int ∷ []
mpi_parameters mpi.Send = ConstVoidPointer ∷ Int ∷ Int ∷ Int ∷ Int ∷ Int ∷ []
mpi_parameters mpi.Recv = VoidPointer ∷ Int ∷ Int ∷ Int ∷ Int ∷ Int ∷ StatusPointer ∷ []
mpi_parameters mpi.Isend = ConstVoidPointer ∷ Int ∷ Int ∷ Int ∷ Int ∷ Int ∷ IntPointer ∷ []
mpi_parameters mpi.Irecv = VoidPointer ∷ Int ∷ Int ∷ Int ∷ Int ∷ Int ∷ IntPointer ∷ []
mpi_parameters mpi.Wait = IntPointer ∷ StatusPointer ∷ []
mpi_parameters mpi.Waitall = Int ∷ IntPointer ∷ StatusPointer ∷ []
mpi_parameters mpi.Test = IntPointer ∷ IntPointer ∷ StatusPointer ∷ []
mpi_parameters mpi.GetCount = ConstStatusPointer ∷ Int ∷ IntPointer ∷ []
mpi_parameters mpi.Barrier = Int ∷ []
mpi_parameters mpi.Bcast = VoidPointer ∷ Int ∷ Int ∷ Int ∷ Int ∷ []
mpi_parameters mpi.Reduce = ConstVoidPointer ∷ VoidPointer ∷ Int ∷ Int ∷ Int ∷ Int ∷ Int ∷ []
mpi_parameters mpi.Allreduce = ConstVoidPointer ∷ VoidPointer ∷ Int ∷ Int ∷ Int ∷ Int ∷ []
mpi_parameters mpi.Scan = ConstVoidPointer ∷ VoidPointer ∷ Int ∷ Int ∷ Int ∷ Int ∷ []
mpi_parameters mpi.Gather = ConstVoidPointer ∷ Int ∷ Int ∷ VoidPointer ∷ Int ∷ Int ∷ Int ∷ Int ∷ []
mpi_parameters mpi.Scatter = ConstVoidPointer ∷ Int ∷ Int ∷ VoidPointer ∷ Int ∷ Int ∷ Int ∷ Int ∷ []
mpi_parameters mpi.Allgather = ConstVoidPointer ∷ Int ∷ Int ∷ VoidPointer ∷ Int ∷ Int ∷ Int ∷ []
mpi_parameters mpi.Alltoall = ConstVoidPointer ∷ Int ∷ Int ∷ VoidPointer ∷ Int ∷ Int ∷ Int ∷ []
mpi_parameters mpi.Migrate = Int ∷ []
