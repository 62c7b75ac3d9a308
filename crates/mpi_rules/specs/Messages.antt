-- Sends and the first ticks of receives (MPI 3.1, sections 3.2 and 3.7).
use Rattle.std.specs.Prelude.{ℕ, ℤ, pos, ◌+◌, ◌&&◌, ◌||◌, not, int_lt, if◌then◌else◌, Bool, Option, Some, None, is_some, List, [], ◌∷◌, ◌++◌, slice_index}
use Rattle.std.specs.Ordering.{int_eq}
use Rattle.byteorder.specs.Endian.{little_bytes}
use Rattle.am_base.specs.declared.numbers.RankId.{RankId}
use Rattle.rank_range.specs.Areas.{Areas}
use Rattle.mpi_types.specs.declared.constants.TheConstants.{ANY_SOURCE, ANY_TAG, PROC_NULL}
use Rattle.mpi_types.specs.declared.group.Communicator.{Communicator}
use Rattle.mpi_types.specs.declared.group.Group.{Group}
use Rattle.mpi_types.specs.declared.message.Message.{Message}
use Rattle.mpi_types.specs.declared.message.Posted.{Posted}
use Rattle.mpi_types.specs.declared.call.Write.{Write}
use Rattle.mpi_types.specs.declared.state.CompleteKind.{CompleteKind}
use Rattle.mpi_types.specs.declared.state.CompleteKind.TheVariants.{Send, NoProcess}
use Rattle.mpi_types.specs.declared.state.OwnData.{OwnData}
use Rattle.mpi_types.specs.Collected.{is_member}
use Rattle.mpi_types.specs.Groups.{rank_of}
use Rattle.mpi_rules.specs.declared.arguments.MessageArgs.{MessageArgs}
use Rattle.mpi_rules.specs.declared.faults.Faults.{Faults}
use Rattle.mpi_rules.specs.declared.given.SendOut.{SendOut}
use Rattle.mpi_rules.specs.Data.{MpiData, is_running, communicator_in, comm_facts, is_full}
use Rattle.mpi_rules.specs.Places.{int_at, datatype_named, bytes_of, is_open, read_at, write_at}
use Rattle.mpi_rules.specs.Reply.{Given, Reply, Gives, quiet, with_own, checked, answered, no_faults}

abbrev pub message_args : List ℕ → MessageArgs
message_args words =
    record {
      buffer = slice_index words 0;
      count = int_at words 1;
      datatype = int_at words 2;
      peer = int_at words 3;
      tag = int_at words 4;
      comm = int_at words 5;
    }

-- how many bytes the buffer has
abbrev pub room_of : MessageArgs → ℕ
room_of args = bytes_of args.count args.datatype

-- the group of a communicator; it is empty where there is none
abbrev pub group_in : Option Communicator → Group
group_in None = record { ctx = []; members = [] }
group_in (Some c) = c.group

abbrev pub group_of : OwnData → ℤ → Group
group_of own comm = group_in (communicator_in own.communicators comm)

-- ---- checks

abbrev pub is_peer : ℕ → ℤ → Bool
is_peer members peer = is_member members peer || int_eq peer PROC_NULL

-- what is looked at for sends and receives alike
abbrev pub message_faults : Areas → MpiData → MessageArgs → Faults
message_faults areas mpi args =
    record no_faults {
      other = not (is_running mpi.own.phase);
      comm = not (comm_facts areas.rank mpi.own args.comm).known;
      count = int_lt args.count (pos 0);
      datatype = not (is_some (datatype_named args.datatype));
      buffer = not (is_open areas args.buffer (room_of args));
    }

abbrev pub send_faults : Areas → MpiData → MessageArgs → Faults
send_faults areas mpi args =
    record (message_faults areas mpi args) {
      rank = not (is_peer (comm_facts areas.rank mpi.own args.comm).members args.peer);
      tag = int_lt args.tag (pos 0);
    }

abbrev pub isend_faults : Areas → MpiData → MessageArgs → Faults
isend_faults areas mpi args = record (send_faults areas mpi args) { request = is_full mpi }

-- A receive also takes any source and any tag.
abbrev pub receive_faults : Areas → MpiData → MessageArgs → Faults
receive_faults areas mpi args =
    record (message_faults areas mpi args) {
      request = is_full mpi;
      rank = not (is_peer (comm_facts areas.rank mpi.own args.comm).members args.peer || int_eq args.peer ANY_SOURCE);
      tag = int_lt args.tag (pos 0) && not (int_eq args.tag ANY_TAG);
    }

-- ---- sends

abbrev pub message_of : Areas → MpiData → MessageArgs → Message
message_of areas mpi args =
    record {
      sender = record { 0 = areas.rank };
      ctx = (group_of mpi.own args.comm).ctx;
      member = (comm_facts areas.rank mpi.own args.comm).member;
      tag = args.tag;
      body = read_at areas args.buffer (room_of args);
    }

abbrev pub rank_named : Group → ℤ → RankId
rank_named g (pos member) = rank_of g member
rank_named g other = record { 0 = 0 }

-- the message, which goes nowhere where the receiver is `MPI_PROC_NULL`
abbrev pub send_of : Areas → MpiData → MessageArgs → Option SendOut
send_of areas mpi args =
    if int_eq args.peer PROC_NULL then None
    else Some (record { to = rank_named (group_of mpi.own args.comm) args.peer; message = message_of areas mpi args })

-- A send is done at once: the bytes are copied.
unfoldable pub send_reply : Areas → MpiData → MessageArgs → Reply
send_reply areas mpi args =
    checked (send_faults areas mpi args) (Gives (record (quiet mpi) { send = send_of areas mpi args }))

-- a write of a request's number
abbrev pub request_write : ℕ → ℕ → Write
request_write a n = write_at a (little_bytes 4 n)

-- the data with one more request: its number is taken, and it is complete, or doesn't stand here
abbrev pub own_with_next : OwnData → OwnData
own_with_next own = record own { next = own.next + 1 }

abbrev pub own_with_complete : CompleteKind → OwnData → OwnData
own_with_complete kind own =
    record own { next = own.next + 1; complete = own.complete ++ record { number = own.next; kind = kind } ∷ [] }

unfoldable pub isend_reply : Areas → MpiData → MessageArgs → ℕ → Reply
isend_reply areas mpi args variable =
    checked (isend_faults areas mpi args)
    (answered areas (record (quiet (with_own (own_with_complete Send mpi.own) mpi)) {
      writes = request_write variable mpi.own.next ∷ [];
      send = send_of areas mpi args;
    }))

-- ---- receives

abbrev pub post_of : MpiData → MessageArgs → Posted
post_of mpi args =
    record {
      request = mpi.own.next;
      ctx = (group_of mpi.own args.comm).ctx;
      source = args.peer;
      tag = args.tag;
      room = room_of args;
      buffer = args.buffer;
    }

-- A receive takes a request. That of one from `MPI_PROC_NULL` is complete at once.
abbrev pub receiving : MpiData → MessageArgs → Given
receiving mpi args =
    if int_eq args.peer PROC_NULL then quiet (with_own (own_with_complete NoProcess mpi.own) mpi)
    else record (quiet (with_own (own_with_next mpi.own) mpi)) { post = Some (post_of mpi args) }

unfoldable pub receive_reply : Areas → MpiData → MessageArgs → Reply
receive_reply areas mpi args = checked (receive_faults areas mpi args) (Gives (record (receiving mpi args) { answer = None }))

unfoldable pub ireceive_reply : Areas → MpiData → MessageArgs → ℕ → Reply
ireceive_reply areas mpi args variable =
    checked (receive_faults areas mpi args)
    (answered areas (record (receiving mpi args) { writes = request_write variable mpi.own.next ∷ [] }))
