-- Which calls `begin` serves: all first ticks, and the calls that have one tick but for Wait, Waitall and Test.
use Rattle.std.specs.Prelude.{◌||◌, Bool, true, false, Option, Some, None}
use Rattle.am_base.specs.declared.calls.MpiCall.{MpiCall}
use Rattle.am_base.specs.declared.calls.MpiCall.TheVariants as call
use Rattle.mpi_types.specs.declared.collective.Collective.{Collective}
use Rattle.mpi_types.specs.declared.collective.Collective.TheVariants as kind

abbrev pub is_begun : MpiCall → Bool
is_begun call.Wait = false
is_begun call.Waitall = false
is_begun call.Test = false
is_begun call.Init = true
is_begun call.Initialized = true
is_begun call.Finalized = true
is_begun call.Finalize = true
is_begun call.CommRank = true
is_begun call.CommSize = true
is_begun call.CommDup = true
is_begun call.CommSplit = true
is_begun call.CommFree = true
is_begun call.Abort = true
is_begun call.Send = true
is_begun call.Recv = true
is_begun call.Isend = true
is_begun call.Irecv = true
is_begun call.GetCount = true
is_begun call.Barrier = true
is_begun call.Bcast = true
is_begun call.Reduce = true
is_begun call.Allreduce = true
is_begun call.Scan = true
is_begun call.Gather = true
is_begun call.Scatter = true
is_begun call.Allgather = true
is_begun call.Alltoall = true
is_begun call.Migrate = true

-- the collectives
abbrev pub is_collective : MpiCall → Bool
is_collective call.Wait = false
is_collective call.Waitall = false
is_collective call.Test = false
is_collective call.Init = false
is_collective call.Initialized = false
is_collective call.Finalized = false
is_collective call.Finalize = false
is_collective call.CommRank = false
is_collective call.CommSize = false
is_collective call.CommDup = true
is_collective call.CommSplit = true
is_collective call.CommFree = false
is_collective call.Abort = false
is_collective call.Send = false
is_collective call.Recv = false
is_collective call.Isend = false
is_collective call.Irecv = false
is_collective call.GetCount = false
is_collective call.Barrier = true
is_collective call.Bcast = true
is_collective call.Reduce = true
is_collective call.Allreduce = true
is_collective call.Scan = true
is_collective call.Gather = true
is_collective call.Scatter = true
is_collective call.Allgather = true
is_collective call.Alltoall = true
is_collective call.Migrate = true

-- Which calls `finish` serves: the second ticks of receives and of collectives, Wait, Waitall and Test.
abbrev pub is_finished : MpiCall → Bool
is_finished call.Recv = true
is_finished call.Wait = true
is_finished call.Test = true
is_finished call.Waitall = true
is_finished call.Init = false
is_finished call.Initialized = false
is_finished call.Finalized = false
is_finished call.Finalize = false
is_finished call.CommRank = false
is_finished call.CommSize = false
is_finished call.CommDup = true
is_finished call.CommSplit = true
is_finished call.CommFree = false
is_finished call.Abort = false
is_finished call.Send = false
is_finished call.Isend = false
is_finished call.Irecv = false
is_finished call.GetCount = false
is_finished call.Barrier = true
is_finished call.Bcast = true
is_finished call.Reduce = true
is_finished call.Allreduce = true
is_finished call.Scan = true
is_finished call.Gather = true
is_finished call.Scatter = true
is_finished call.Allgather = true
is_finished call.Alltoall = true
is_finished call.Migrate = true

-- it is a receive, whose second tick it is
abbrev pub is_receive : MpiCall → Bool
is_receive call.Recv = true
is_receive call.Wait = false
is_receive call.Test = false
is_receive call.Waitall = false
is_receive call.Init = false
is_receive call.Initialized = false
is_receive call.Finalized = false
is_receive call.Finalize = false
is_receive call.CommRank = false
is_receive call.CommSize = false
is_receive call.CommDup = false
is_receive call.CommSplit = false
is_receive call.CommFree = false
is_receive call.Abort = false
is_receive call.Send = false
is_receive call.Isend = false
is_receive call.Irecv = false
is_receive call.GetCount = false
is_receive call.Barrier = false
is_receive call.Bcast = false
is_receive call.Reduce = false
is_receive call.Allreduce = false
is_receive call.Scan = false
is_receive call.Gather = false
is_receive call.Scatter = false
is_receive call.Allgather = false
is_receive call.Alltoall = false
is_receive call.Migrate = false

-- it is served at its second tick
abbrev pub is_second : MpiCall → Bool
is_second c = is_receive c || is_collective c

-- the collective that a call is
abbrev pub collective_of : MpiCall → Option Collective
collective_of call.Barrier = Some kind.Barrier
collective_of call.Bcast = Some kind.Bcast
collective_of call.Reduce = Some kind.Reduce
collective_of call.Allreduce = Some kind.Allreduce
collective_of call.Scan = Some kind.Scan
collective_of call.Gather = Some kind.Gather
collective_of call.Scatter = Some kind.Scatter
collective_of call.Allgather = Some kind.Allgather
collective_of call.Alltoall = Some kind.Alltoall
collective_of call.CommDup = Some kind.CommDup
collective_of call.CommSplit = Some kind.CommSplit
collective_of call.Migrate = Some kind.Migrate
collective_of call.Init = None
collective_of call.Initialized = None
collective_of call.Finalized = None
collective_of call.Finalize = None
collective_of call.CommRank = None
collective_of call.CommSize = None
collective_of call.CommFree = None
collective_of call.Abort = None
collective_of call.Send = None
collective_of call.Recv = None
collective_of call.Isend = None
collective_of call.Irecv = None
collective_of call.Wait = None
collective_of call.Waitall = None
collective_of call.Test = None
collective_of call.GetCount = None
