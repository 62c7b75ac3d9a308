-- Collectives (MPI 3.1, chapter 5 and section 6.4.2, and this profile's own `AMPI_Migrate`): a rank joins one at the first
-- tick, and has its share of it at the second, once it has gathered the arguments of all members.
use Rattle.std.specs.Prelude.{ℕ, ℤ, pos, zero, suc, ◌+◌, ◌*◌, ◌==◌, ◌&&◌, ◌||◌, not, nat_le, int_lt, if◌then◌else◌, Bool, true, false, Option, Some, None, is_some, unwrap_or, List, [], ◌∷◌, ◌++◌, length, slice_index, slice_get, bytes_eq}
use Rattle.std.specs.Ordering.{int_eq}
use Rattle.rank_range.specs.Areas.{Areas}
use Rattle.mpi_types.specs.declared.argument.Arg.{Arg}
use Rattle.mpi_types.specs.declared.argument.Joined.{Joined}
use Rattle.mpi_types.specs.declared.call.Write.{Write}
use Rattle.mpi_types.specs.declared.collective.Collective.{Collective}
use Rattle.mpi_types.specs.declared.collective.Collective.TheVariants.{Barrier, Bcast, Reduce, Allreduce, Scan, Gather, Scatter, Allgather, Alltoall, CommDup, CommSplit, Migrate}
use Rattle.mpi_types.specs.declared.constants.TheConstants.{COMM_NULL, COMM_WORLD, UNDEFINED}
use Rattle.mpi_types.specs.declared.group.Communicator.{Communicator}
use Rattle.mpi_types.specs.declared.group.Group.{Group}
use Rattle.mpi_types.specs.declared.state.OwnData.{OwnData}
use Rattle.mpi_types.specs.Collected.{sent_blocks, is_member, are_alike, is_pair_allowed, collected}
use Rattle.mpi_types.specs.Groups.{dup_of, split_of, split_args_of}
use Rattle.mpi_types.specs.Tables.{is_reducing}
use Rattle.mpi_rules.specs.declared.arguments.CollectiveArgs.{CollectiveArgs}
use Rattle.mpi_rules.specs.declared.arguments.CommFacts.{CommFacts}
use Rattle.mpi_rules.specs.declared.arguments.Elements.{Elements}
use Rattle.mpi_rules.specs.declared.faults.Faults.{Faults}
use Rattle.mpi_rules.specs.declared.faults.LateFaults.{LateFaults}
use Rattle.mpi_rules.specs.declared.given.Joining.{Joining}
use Rattle.mpi_rules.specs.Data.{MpiData, is_running, communicator_limit, level_limit, communicator_in, comm_facts, is_taken, with_communicator, with_next_position}
use Rattle.mpi_rules.specs.Places.{int_at, count_of, byte_of, datatype_named, operation_named, bytes_of, is_open, read_at, write_of, int_write, are_open}
use Rattle.mpi_rules.specs.Messages.{group_of}
use Rattle.mpi_rules.specs.Reply.{Reply, Gives, NotYet, half, writing, with_own, checked, ended, no_faults}

-- ---- arguments

abbrev pub elements : ℕ → ℤ → ℤ → Elements
elements address count datatype = record { address = address; count = count; datatype = datatype }

abbrev pub no_elements : Elements
no_elements = elements 0 (pos 0) (pos 0)

-- what a collective of this kind sends and receives in a communicator, with no other argument
abbrev pub plain_args : Collective → Elements → Elements → ℤ → CollectiveArgs
plain_args kind sent received comm =
    record {
      kind = kind;
      sent = sent;
      received = received;
      operation = pos 0;
      root = pos 0;
      colour = pos 0;
      key = pos 0;
      comm = comm;
      made = 0;
    }

abbrev pub rooted : ℤ → CollectiveArgs → CollectiveArgs
rooted root args = record args { root = root }

abbrev pub reducing : ℤ → CollectiveArgs → CollectiveArgs
reducing operation args = record args { operation = operation }

-- the elements that the words tell from this one on: an address, a count and a datatype
abbrev pub elements_from : List ℕ → ℕ → Elements
elements_from words i = elements (slice_index words i) (int_at words (i + 1)) (int_at words (i + 2))

-- Reductions send from the first address and receive at the second, as many elements.
abbrev pub reduction_args : Collective → List ℕ → ℤ → CollectiveArgs
reduction_args kind words comm =
    reducing (int_at words 4)
    (plain_args kind (elements (slice_index words 0) (int_at words 2) (int_at words 3))
    (elements (slice_index words 1) (int_at words 2) (int_at words 3)) comm)

-- the arguments of the call, by its words
abbrev pub collective_args : Collective → List ℕ → CollectiveArgs
collective_args Barrier words = plain_args Barrier no_elements no_elements (int_at words 0)
collective_args Bcast words =
    rooted (int_at words 3) (plain_args Bcast (elements_from words 0) (elements_from words 0) (int_at words 4))
collective_args Reduce words = rooted (int_at words 5) (reduction_args Reduce words (int_at words 6))
collective_args Allreduce words = reduction_args Allreduce words (int_at words 5)
collective_args Scan words = reduction_args Scan words (int_at words 5)
collective_args Gather words =
    rooted (int_at words 6) (plain_args Gather (elements_from words 0) (elements_from words 3) (int_at words 7))
collective_args Scatter words =
    rooted (int_at words 6) (plain_args Scatter (elements_from words 0) (elements_from words 3) (int_at words 7))
collective_args Allgather words = plain_args Allgather (elements_from words 0) (elements_from words 3) (int_at words 6)
collective_args Alltoall words = plain_args Alltoall (elements_from words 0) (elements_from words 3) (int_at words 6)
collective_args CommDup words =
    record (plain_args CommDup no_elements no_elements (int_at words 0)) { made = slice_index words 1 }
collective_args CommSplit words =
    record (plain_args CommSplit no_elements no_elements (int_at words 0)) {
      colour = int_at words 1;
      key = int_at words 2;
      made = slice_index words 3;
    }
collective_args Migrate words = plain_args Migrate no_elements no_elements COMM_WORLD

-- ---- blocks

-- how many blocks a member receives, of n members, and where it is the root; how many it sends says `sent_blocks`
abbrev pub received_blocks : Collective → ℕ → Bool → ℕ
received_blocks Barrier n is_root = 0
received_blocks Bcast n is_root = if is_root then 0 else 1
received_blocks Reduce n is_root = if is_root then 1 else 0
received_blocks Allreduce n is_root = 1
received_blocks Scan n is_root = 1
received_blocks Gather n is_root = if is_root then n else 0
received_blocks Scatter n is_root = 1
received_blocks Allgather n is_root = n
received_blocks Alltoall n is_root = n
received_blocks CommDup n is_root = 0
received_blocks CommSplit n is_root = 0
received_blocks Migrate n is_root = 0

-- how many blocks the rank sends and receives
abbrev pub is_root : CommFacts → CollectiveArgs → Bool
is_root facts args = int_eq args.root (pos facts.member)

abbrev pub sends : CommFacts → CollectiveArgs → ℕ
sends facts args = sent_blocks args.kind facts.members (is_root facts args)

abbrev pub receives : CommFacts → CollectiveArgs → ℕ
receives facts args = received_blocks args.kind facts.members (is_root facts args)

-- how many bytes a block has
abbrev pub bytes_in : Elements → ℕ
bytes_in e = bytes_of e.count e.datatype

abbrev pub has_datatype : Elements → Bool
has_datatype e = is_some (datatype_named e.datatype)

-- ---- checks at the first tick. Elements that the rank neither sends nor receives are not looked at.

-- it makes a communicator for the rank
abbrev pub makes_by : Collective → ℤ → Bool
makes_by Barrier colour = false
makes_by Bcast colour = false
makes_by Reduce colour = false
makes_by Allreduce colour = false
makes_by Scan colour = false
makes_by Gather colour = false
makes_by Scatter colour = false
makes_by Allgather colour = false
makes_by Alltoall colour = false
makes_by CommDup colour = true
makes_by CommSplit colour = not (int_eq colour UNDEFINED)
makes_by Migrate colour = false

abbrev pub makes : CollectiveArgs → Bool
makes args = makes_by args.kind args.colour

-- a colour that is negative and not `MPI_UNDEFINED`
abbrev pub has_bad_colour : CollectiveArgs → Bool
has_bad_colour args = int_lt args.colour (pos 0) && not (int_eq args.colour UNDEFINED)

-- a communicator or a level too many
abbrev pub is_crowded : CommFacts → OwnData → Bool
is_crowded facts own = nat_le communicator_limit (length own.communicators) || nat_le level_limit facts.depth

-- elements that are sent or received are wrong in this way
abbrev pub in_use : ℕ → Bool → Bool
in_use blocks wrong = not (blocks == 0) && wrong

-- the bytes sent and received differ, where both are looked at and both datatypes are known
abbrev pub bytes_differ : CommFacts → CollectiveArgs → Bool
bytes_differ facts args =
    in_use (sends facts args) (in_use (receives facts args)
    (has_datatype args.sent && has_datatype args.received && not (bytes_in args.sent == bytes_in args.received)))

abbrev pub has_wrong_operation : CollectiveArgs → Bool
has_wrong_operation args =
    is_reducing args.kind && not (is_pair_allowed (operation_named args.operation) (datatype_named args.sent.datatype))

abbrev pub join_faults : Areas → MpiData → CommFacts → CollectiveArgs → Faults
join_faults areas mpi facts args =
    record no_faults {
      other = not (is_running mpi.own.phase) || (has_bad_colour args || makes args && is_crowded facts mpi.own);
      comm = not facts.known;
      count = in_use (sends facts args) (int_lt args.sent.count (pos 0))
          || (in_use (receives facts args) (int_lt args.received.count (pos 0)) || bytes_differ facts args);
      datatype = in_use (sends facts args) (not (has_datatype args.sent))
          || in_use (receives facts args) (not (has_datatype args.received));
      operation = has_wrong_operation args;
      root = not (is_member facts.members args.root);
      buffer = not (is_open areas args.sent.address (sends facts args * bytes_in args.sent))
          || not (is_open areas args.received.address (receives facts args * bytes_in args.received));
    }

-- ---- the first tick

-- Those elements tell the datatype and the count: of a scatter the received ones, else the sent ones.
abbrev pub told_by : Collective → CollectiveArgs → Elements
told_by Scatter args = args.received
told_by other args = args.sent

-- what the rank gives
abbrev pub arg_of : Areas → CommFacts → CollectiveArgs → Arg
arg_of areas facts args =
    record {
      member = facts.member;
      kind = args.kind;
      root = args.root;
      operation = byte_of args.operation;
      datatype = byte_of (told_by args.kind args).datatype;
      count = count_of (told_by args.kind args).count;
      colour = args.colour;
      key = args.key;
      body = read_at areas args.sent.address (sends facts args * bytes_in args.sent);
    }

abbrev pub position_in : Option Communicator → ℕ
position_in None = 0
position_in (Some c) = c.position

abbrev pub joining : Areas → MpiData → CommFacts → CollectiveArgs → Joining
joining areas mpi facts args =
    record {
      group = group_of mpi.own args.comm;
      position = position_in (communicator_in mpi.own.communicators args.comm);
      arg = arg_of areas facts args;
    }

-- the communicator's next collective has the next position
abbrev pub own_joined : ℤ → OwnData → OwnData
own_joined comm own = record own { communicators = with_next_position comm own.communicators }

unfoldable pub join_reply : Areas → MpiData → CollectiveArgs → Reply
join_reply areas mpi args =
    let facts : CommFacts = comm_facts areas.rank mpi.own args.comm in
    checked (join_faults areas mpi facts args)
    (Gives (record (half (with_own (own_joined args.comm mpi.own) mpi)) { join = Some (joining areas mpi facts args) }))

-- ---- the second tick

abbrev pub is_same_arg : Arg → Arg → Bool
is_same_arg a b =
    are_alike a b && (a.member == b.member && (int_eq a.colour b.colour && (int_eq a.key b.key && bytes_eq a.body b.body)))

-- the rank's own argument stands in the list, where that isn't empty, as the rank gave it
abbrev pub is_found : Arg → Option Arg → Bool
is_found own None = false
is_found own (Some a) = is_same_arg own a

abbrev pub has_own : Arg → List Arg → Bool
has_own own [] = true
has_own own (a ∷ list) = is_found own (slice_get (a ∷ list) own.member)

-- the rank's share
abbrev pub share_in : Arg → List Arg → List ℕ
share_in own list = unwrap_or (collected list own.member) []

-- the group of a new communicator, if the rank is in one
abbrev pub group_made : Collective → Group → ℕ → List Arg → ℕ → Option Group
group_made Barrier g position list member = None
group_made Bcast g position list member = None
group_made Reduce g position list member = None
group_made Allreduce g position list member = None
group_made Scan g position list member = None
group_made Gather g position list member = None
group_made Scatter g position list member = None
group_made Allgather g position list member = None
group_made Alltoall g position list member = None
group_made CommDup g position list member = Some (dup_of g position)
group_made CommSplit g position list member = split_of g position (split_args_of list) member
group_made Migrate g position list member = None

-- the least number from n on that no communicator has, among so many
abbrev pub free_from : ℕ → ℕ → List Communicator → ℕ
free_from zero n list = n
free_from (suc more) n list = if is_taken n list then free_from more (n + 1) list else n

-- the number of a new communicator: the least one from 2 on that is free
unfoldable pub new_number : List Communicator → ℕ
new_number list = free_from (length list) 2 list

abbrev pub new_communicator : OwnData → Group → Communicator
new_communicator own g = record { number = new_number own.communicators; group = g; position = 0 }

abbrev pub own_made : Option Group → OwnData → OwnData
own_made None own = own
own_made (Some g) own = record own { communicators = with_communicator (new_communicator own g) own.communicators }

-- what is written where a communicator's number is wanted
abbrev pub made_number : Option Group → OwnData → ℤ
made_number None own = COMM_NULL
made_number (Some g) own = pos (new_number own.communicators)

abbrev pub made_writes : Collective → ℕ → ℤ → List Write
made_writes Barrier made n = []
made_writes Bcast made n = []
made_writes Reduce made n = []
made_writes Allreduce made n = []
made_writes Scan made n = []
made_writes Gather made n = []
made_writes Scatter made n = []
made_writes Allgather made n = []
made_writes Alltoall made n = []
made_writes CommDup made n = int_write made n ∷ []
made_writes CommSplit made n = int_write made n ∷ []
made_writes Migrate made n = []

abbrev pub gathered_writes : MpiData → CollectiveArgs → Arg → List Arg → Option Group → List Write
gathered_writes mpi args own list made =
    write_of args.received.address (share_in own list) ++ made_writes args.kind args.made (made_number made mpi.own)

-- the data once the collective has ended
abbrev pub gathered_data : MpiData → Option Group → MpiData
gathered_data mpi made = record mpi { own = own_made made mpi.own; joined = None }

abbrev pub gathered_faults : Areas → Arg → List Arg → List Write → LateFaults
gathered_faults areas own list writes =
    record {
      long = false;
      mismatched = not (is_some (collected list own.member) && has_own own list);
      address = not (are_open areas writes);
    }

abbrev pub gathered : Areas → MpiData → CollectiveArgs → Joined → Option (List Arg) → Reply
gathered areas mpi args j None = NotYet
gathered areas mpi args j (Some list) =
    let made : Option Group = group_made args.kind (group_of mpi.own args.comm) j.position list j.arg.member in
    let writes : List Write = gathered_writes mpi args j.arg list made in
    ended (gathered_faults areas j.arg list writes) (writing (gathered_data mpi made) writes)

abbrev pub joined : Areas → MpiData → CollectiveArgs → Option Joined → Reply
joined areas mpi args None = NotYet
joined areas mpi args (Some j) = gathered areas mpi args j j.gathered

unfoldable pub gathered_reply : Areas → MpiData → CollectiveArgs → Reply
gathered_reply areas mpi args = joined areas mpi args mpi.joined
