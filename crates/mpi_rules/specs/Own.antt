-- Calls that a rank answers by its own data alone (MPI 3.1, sections 6.4 and 8.7).
use Rattle.std.specs.Prelude.{ℕ, ℤ, pos, not, ◌||◌, Bool, true, false, [], ◌∷◌}
use Rattle.std.specs.Ordering.{int_eq}
use Rattle.rank_range.specs.Areas.{Areas}
use Rattle.mpi_types.specs.declared.constants.TheConstants.{COMM_NULL, COMM_WORLD}
use Rattle.mpi_types.specs.declared.state.OwnData.{OwnData}
use Rattle.mpi_types.specs.declared.state.Phase.{Phase}
use Rattle.mpi_types.specs.declared.state.Phase.TheVariants.{Running, After}
use Rattle.mpi_rules.specs.declared.arguments.CommFacts.{CommFacts}
use Rattle.mpi_rules.specs.declared.faults.Faults.{Faults}
use Rattle.mpi_rules.specs.Data.{MpiData, is_before, is_running, is_after, comm_facts, without_communicator}
use Rattle.mpi_rules.specs.Places.{int_of, is_open, variable_at, int_write}
use Rattle.mpi_rules.specs.Reply.{Reply, Ends, Gives, quiet, writing, with_own, checked, answered, no_faults}

-- a truth value as an int
abbrev pub flag_of : Bool → ℤ
flag_of true = pos 1
flag_of false = pos 0

abbrev pub with_phase : Phase → MpiData → MpiData
with_phase phase mpi = with_own (record (mpi.own) { phase = phase }) mpi

-- It reads neither of its arguments. A second one traps, also behind `MPI_Finalize`.
unfoldable pub init_reply : MpiData → Reply
init_reply mpi = checked (record no_faults { other = not (is_before mpi.own.phase) }) (Gives (quiet (with_phase Running mpi)))

unfoldable pub finalize_reply : MpiData → Reply
finalize_reply mpi = checked (record no_faults { other = not (is_running mpi.own.phase) }) (Gives (quiet (with_phase After mpi)))

-- whether `MPI_Init` was called, and whether `MPI_Finalize` was
unfoldable pub initialized_reply : Areas → MpiData → ℕ → Reply
initialized_reply areas mpi flag = answered areas (writing mpi (int_write flag (flag_of (not (is_before mpi.own.phase))) ∷ []))

unfoldable pub finalized_reply : Areas → MpiData → ℕ → Reply
finalized_reply areas mpi flag = answered areas (writing mpi (int_write flag (flag_of (is_after mpi.own.phase)) ∷ []))

-- a call that asks something of a communicator
abbrev pub comm_faults : MpiData → CommFacts → Faults
comm_faults mpi facts = record no_faults { other = not (is_running mpi.own.phase); comm = not facts.known }

-- the rank's number in a communicator, and how many members it has
unfoldable pub rank_reply : Areas → MpiData → ℤ → ℕ → Reply
rank_reply areas mpi comm to =
    let facts : CommFacts = comm_facts areas.rank mpi.own comm in
    checked (comm_faults mpi facts) (answered areas (writing mpi (int_write to (pos facts.member) ∷ [])))

unfoldable pub size_reply : Areas → MpiData → ℤ → ℕ → Reply
size_reply areas mpi comm to =
    let facts : CommFacts = comm_facts areas.rank mpi.own comm in
    checked (comm_faults mpi facts) (answered areas (writing mpi (int_write to (pos facts.members) ∷ [])))

-- The communicator that a variable holds is freed, and the variable set to `MPI_COMM_NULL`. The world isn't freed.
abbrev pub free_faults : Areas → MpiData → ℕ → ℤ → Faults
free_faults areas mpi variable comm =
    record no_faults {
      other = not (is_running mpi.own.phase);
      handle = not (is_open areas variable 4);
      comm = not (comm_facts areas.rank mpi.own comm).known || int_eq comm COMM_WORLD;
    }

abbrev pub own_without_communicator : ℤ → OwnData → OwnData
own_without_communicator comm own = record own { communicators = without_communicator comm own.communicators }

unfoldable pub free_reply : Areas → MpiData → ℕ → Reply
free_reply areas mpi variable =
    let comm : ℤ = int_of (variable_at areas variable) in
    checked (free_faults areas mpi variable comm)
    (answered areas (writing (with_own (own_without_communicator comm mpi.own) mpi) (int_write variable COMM_NULL ∷ [])))

-- It may be called at any time. Only its communicator is looked at.
unfoldable pub abort_reply : Areas → MpiData → ℤ → ℤ → Reply
abort_reply areas mpi comm status =
    checked (record no_faults { comm = not (comm_facts areas.rank mpi.own comm).known }) (Ends status)
