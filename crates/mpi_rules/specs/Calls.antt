-- What each call gives: the table of MPI's calls, on a rank's MPI data and the memory that its program may reach.
use Rattle.std.specs.Prelude.{ℕ, Bool, true, false, List, slice_index}
use Rattle.am_base.specs.declared.calls.MpiCall.{MpiCall}
use Rattle.am_base.specs.declared.calls.MpiCall.TheVariants as call
use Rattle.rank_range.specs.Areas.{Areas}
use Rattle.mpi_types.specs.declared.call.Call.{Call}
use Rattle.mpi_types.specs.declared.collective.Collective.{Collective}
use Rattle.mpi_types.specs.declared.collective.Collective.TheVariants as kind
use Rattle.mpi_rules.specs.Data.{MpiData}
use Rattle.mpi_rules.specs.Places.{int_at}
use Rattle.mpi_rules.specs.Reply.{Reply}
use Rattle.mpi_rules.specs.Own.{init_reply, initialized_reply, finalized_reply, finalize_reply, rank_reply, size_reply, free_reply, abort_reply}
use Rattle.mpi_rules.specs.Messages.{message_args, send_reply, isend_reply, receive_reply, ireceive_reply}
use Rattle.mpi_rules.specs.Requests.{received_reply, wait_reply, waitall_reply, test_reply, count_reply}
use Rattle.mpi_rules.specs.Collectives.{collective_args, join_reply, gathered_reply}

-- a receive, and a collective, by whether it is at its second tick
abbrev pub receive_by : Bool → Areas → MpiData → List ℕ → Reply
receive_by false areas mpi words = receive_reply areas mpi (message_args words)
receive_by true areas mpi words = received_reply areas mpi (slice_index words 6)

abbrev pub collective_by : Bool → Collective → Areas → MpiData → List ℕ → Reply
collective_by false kind areas mpi words = join_reply areas mpi (collective_args kind words)
collective_by true kind areas mpi words = gathered_reply areas mpi (collective_args kind words)

abbrev pub reply_to : MpiCall → Bool → List ℕ → Areas → MpiData → Reply
reply_to call.Init second words areas mpi = init_reply mpi
reply_to call.Initialized second words areas mpi = initialized_reply areas mpi (slice_index words 0)
reply_to call.Finalized second words areas mpi = finalized_reply areas mpi (slice_index words 0)
reply_to call.Finalize second words areas mpi = finalize_reply mpi
reply_to call.CommRank second words areas mpi = rank_reply areas mpi (int_at words 0) (slice_index words 1)
reply_to call.CommSize second words areas mpi = size_reply areas mpi (int_at words 0) (slice_index words 1)
reply_to call.CommDup second words areas mpi = collective_by second kind.CommDup areas mpi words
reply_to call.CommSplit second words areas mpi = collective_by second kind.CommSplit areas mpi words
reply_to call.CommFree second words areas mpi = free_reply areas mpi (slice_index words 0)
reply_to call.Abort second words areas mpi = abort_reply areas mpi (int_at words 0) (int_at words 1)
reply_to call.Send second words areas mpi = send_reply areas mpi (message_args words)
reply_to call.Recv second words areas mpi = receive_by second areas mpi words
reply_to call.Isend second words areas mpi = isend_reply areas mpi (message_args words) (slice_index words 6)
reply_to call.Irecv second words areas mpi = ireceive_reply areas mpi (message_args words) (slice_index words 6)
reply_to call.Wait second words areas mpi = wait_reply areas mpi (slice_index words 0) (slice_index words 1)
reply_to call.Waitall second words areas mpi =
    waitall_reply areas mpi (int_at words 0) (slice_index words 1) (slice_index words 2)
reply_to call.Test second words areas mpi =
    test_reply areas mpi (slice_index words 0) (slice_index words 1) (slice_index words 2)
reply_to call.GetCount second words areas mpi =
    count_reply areas mpi (slice_index words 0) (int_at words 1) (slice_index words 2)
reply_to call.Barrier second words areas mpi = collective_by second kind.Barrier areas mpi words
reply_to call.Bcast second words areas mpi = collective_by second kind.Bcast areas mpi words
reply_to call.Reduce second words areas mpi = collective_by second kind.Reduce areas mpi words
reply_to call.Allreduce second words areas mpi = collective_by second kind.Allreduce areas mpi words
reply_to call.Scan second words areas mpi = collective_by second kind.Scan areas mpi words
reply_to call.Gather second words areas mpi = collective_by second kind.Gather areas mpi words
reply_to call.Scatter second words areas mpi = collective_by second kind.Scatter areas mpi words
reply_to call.Allgather second words areas mpi = collective_by second kind.Allgather areas mpi words
reply_to call.Alltoall second words areas mpi = collective_by second kind.Alltoall areas mpi words
reply_to call.Migrate second words areas mpi = collective_by second kind.Migrate areas mpi words

-- what a call gives
unfoldable pub reply : Areas → MpiData → Call → Reply
reply areas mpi c = reply_to c.name c.second c.args areas mpi
