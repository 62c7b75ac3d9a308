-- The alternatives that images and packets spell as a number of one byte. This profile's own.
use Rattle.std.specs.Prelude.{ℕ, ◌==◌, Option, List, [], ◌∷◌, find}
use Rattle.am_base.specs.declared.traps.TrapCause.{TrapCause}
use Rattle.am_base.specs.declared.traps.TrapCause.TheVariants.{BadAddress, BadFree, DivisionByZero, DivisionOverflow, ShiftCount, CallDepth, DataStack, BadFormat, TextLimit, ErrOther, ErrComm, ErrRequest, ErrCount, ErrType, ErrOp, ErrRoot, ErrRank, ErrTag, ErrBuffer, ErrTruncate, CollectiveMismatch}
use Rattle.am_base.specs.Traps.{trap_number}
use Rattle.mpi_types.specs.declared.collective.Collective.{Collective}
use Rattle.mpi_types.specs.declared.collective.Collective.TheVariants.{Barrier, Bcast, Reduce, Allreduce, Scan, Gather, Scatter, Allgather, Alltoall, CommDup, CommSplit, Migrate}
use Rattle.mpi_types.specs.Tables.{collective_number}
use Rattle.mpi_types.specs.declared.argument.Direction.{Direction}
use Rattle.mpi_types.specs.declared.argument.Direction.TheVariants.{Up, Down}
use Rattle.mpi_types.specs.Order.{direction_number}
use Rattle.mpi_types.specs.declared.state.Phase.{Phase}
use Rattle.mpi_types.specs.declared.state.Phase.TheVariants.{Before, Running, After}

-- the cause of a trap of that number
abbrev pub all_causes : List TrapCause
all_causes =
    BadAddress ∷ BadFree ∷ DivisionByZero ∷ DivisionOverflow ∷ ShiftCount ∷ CallDepth ∷ DataStack ∷ BadFormat ∷ TextLimit
    ∷ ErrOther ∷ ErrComm ∷ ErrRequest ∷ ErrCount ∷ ErrType ∷ ErrOp ∷ ErrRoot ∷ ErrRank ∷ ErrTag ∷ ErrBuffer ∷ ErrTruncate
    ∷ CollectiveMismatch ∷ []

abbrev pub cause_of : ℕ → Option TrapCause
cause_of n = find (λ c. trap_number c == n) all_causes

-- the collective of that number
abbrev pub all_collectives : List Collective
all_collectives =
    Barrier ∷ Bcast ∷ Reduce ∷ Allreduce ∷ Scan ∷ Gather ∷ Scatter ∷ Allgather ∷ Alltoall ∷ CommDup ∷ CommSplit ∷ Migrate ∷ []

abbrev pub collective_of : ℕ → Option Collective
collective_of n = find (λ c. collective_number c == n) all_collectives

-- the direction in a tree of that number
abbrev pub direction_of : ℕ → Option Direction
direction_of n = find (λ d. direction_number d == n) (Up ∷ Down ∷ [])

-- how far a rank is with MPI, by its number
abbrev pub phase_number : Phase → ℕ
phase_number Before = 0
phase_number Running = 1
phase_number After = 2

abbrev pub phase_of : ℕ → Option Phase
phase_of n = find (λ p. phase_number p == n) (Before ∷ Running ∷ After ∷ [])
