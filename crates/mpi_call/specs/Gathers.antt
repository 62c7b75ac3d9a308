-- What a rank has of a collective that is gathered.
use Rattle.std.specs.Prelude.{ℕ, ℤ, pos, ◌≡◌, ◌<◌, ◌++◌, ◌||◌, not, if◌then◌else◌, Bool, true, false, Option, Some, None, is_some, List, length}
use Rattle.rank_range.specs.Areas.{Areas}
use Rattle.mpi_types.specs.declared.argument.Arg.{Arg}
use Rattle.mpi_types.specs.declared.argument.Joined.{Joined}
use Rattle.mpi_types.specs.declared.call.Write.{Write}
use Rattle.mpi_types.specs.declared.collective.Collective.{Collective}
use Rattle.mpi_types.specs.declared.collective.Collective.TheVariants.{Barrier, Bcast, Reduce, Allreduce, Scan, Gather, Scatter, Allgather, Alltoall, CommDup, CommSplit, Migrate}
use Rattle.mpi_types.specs.declared.group.Group.{Group}
use Rattle.mpi_types.specs.declared.state.OwnData.{OwnData}
use Rattle.mpi_types.specs.Collected.{collected}
use Rattle.mpi_types.specs.Groups.{split_args_of}
use Rattle.mpi_rules.specs.declared.arguments.CollectiveArgs.{CollectiveArgs}
use Rattle.mpi_rules.specs.Collectives.{has_own, share_in, makes_by, made_number, made_writes, own_made, gathered_faults}
use Rattle.mpi_rules.specs.Faults.{late_cause_of}
use Rattle.mpi_rules.specs.Data.{communicator_in, communicator_limit, level_limit}
use Rattle.mpi_rules.specs.Messages.{group_of}
use Rattle.mpi_rules.specs.Places.{is_open, write_of}
use Rattle.mpi_call.specs.declared.done.CallStop.{CallStop}
use Rattle.mpi_call.specs.declared.done.CallStop.TheVariants.{Trap, End, Memory}
use Rattle.mpi_call.specs.declared.done.Done.{Done}
use Rattle.mpi_call.specs.Answers.{Kept, ended_done}
use Rattle.comms.specs.Members.{AreOfMembers}

-- the rank's share, where what all gave fits and the rank's own argument is there as it gave it
abbrev pub fitting_share : Arg → List Arg → Option (List ℕ)
fitting_share own list = if has_own own list then collected list own.member else None

-- whether the collective gives a communicator's number
abbrev pub gives_number : Collective → Bool
gives_number Barrier = false
gives_number Bcast = false
gives_number Reduce = false
gives_number Allreduce = false
gives_number Scan = false
gives_number Gather = false
gives_number Scatter = false
gives_number Allgather = false
gives_number Alltoall = false
gives_number CommDup = true
gives_number CommSplit = true
gives_number Migrate = false

-- What a rank may gather: its communicator is known, the list has an argument of each member, of which the rank is one; and where a
-- communicator is made for it, there is room for one more, and one more level.
pub record MayGather (kind : Collective) (own : OwnData) (comm : ℤ) (j : Joined) (list : List Arg) : Type 0 where
  pub known : is_some (communicator_in own.communicators comm) ≡ true
  pub member : j.arg.member < length list
  pub each : AreOfMembers (group_of own comm) (split_args_of list)
  pub deep : makes_by kind j.arg.colour ≡ true → length (group_of own comm).ctx < level_limit
  pub room : makes_by kind j.arg.colour ≡ true → length own.communicators < communicator_limit

-- what is known of the collective that was joined, if it is gathered
abbrev pub MayEndBy : Collective → OwnData → ℤ → Joined → Option (List Arg) → Type 0
MayEndBy kind own comm j None = Unit {0}
MayEndBy kind own comm j (Some list) = MayGather kind own comm j list

abbrev pub MayEnd : Collective → OwnData → ℤ → Option Joined → Type 0
MayEnd kind own comm None = Unit {0}
MayEnd kind own comm (Some j) = MayEndBy kind own comm j j.gathered

-- The rank gets these bytes, and what is written is accessible.
pub record HasShare (areas : Areas) (args : CollectiveArgs) (own : Arg) (list : List Arg) (bytes : List ℕ) : Type 0 where
  pub fits : has_own own list ≡ true
  pub share_is : collected list own.member ≡ Some bytes
  pub opens : is_open areas args.received.address (length bytes) ≡ true
  pub place : (not (gives_number args.kind) || is_open areas args.made 4) ≡ true

-- what is written, with this number of a communicator
abbrev pub writes_with : CollectiveArgs → List ℕ → ℤ → List Write
writes_with args bytes n = write_of args.received.address bytes ++ made_writes args.kind args.made n

-- The call traps, whatever number a communicator would have; or the host has no memory.
abbrev pub LacksShare : Areas → CollectiveArgs → Arg → List Arg → CallStop → Type 0
LacksShare areas args own list (Trap why) =
    (n : ℤ) → Some why ≡ late_cause_of (gathered_faults areas own list (writes_with args (share_in own list) n))
LacksShare areas args own list (End status) = ⊥
LacksShare areas args own list Memory = Unit {0}

-- The collective has ended: what it answers and writes, and what the rank keeps.
pub record IsSettled (args : CollectiveArgs) (bytes : List ℕ) (made : Option Group) (old : Kept) (done : Done) (new : Kept) : Type 0 where
  pub done_is : done ≡ ended_done (pos 0) (writes_with args bytes (made_number made old.own))
  pub own_is : new.own ≡ own_made made old.own
  pub lists_are : new.lists ≡ old.lists
  pub sweep_is : new.sweep ≡ record { joined = None; tree = old.sweep.tree }
