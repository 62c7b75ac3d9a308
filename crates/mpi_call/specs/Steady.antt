-- What holds of a rank's MPI data from call to call.
use Rattle.std.specs.Prelude.{ℕ, zero, suc, ◌≡◌, ◌+◌, ◌^◌, ◌<◌, ◌≤◌, ◌++◌, All, length, true, false, List, [], ◌∷◌, Option, None}
use Rattle.am_base.specs.declared.calls.MpiCall.{MpiCall}
use Rattle.am_base.specs.declared.numbers.RankId.{RankId}
use Rattle.rank_range.specs.Areas.{Areas}
use Rattle.mpi_types.specs.declared.lists.BookLists.{BookLists}
use Rattle.mpi_types.specs.declared.message.Hit.{Hit}
use Rattle.mpi_types.specs.declared.message.Message.{Message}
use Rattle.mpi_types.specs.declared.state.OwnData.{OwnData}
use Rattle.mpi_types.specs.declared.state.Phase.TheVariants.{Before}
use Rattle.mpi_types.specs.declared.argument.Sweep.{Sweep}
use Rattle.mpi_types.specs.Post.{Arrives}
use Rattle.mpi_rules.specs.Calls.{reply_to}
use Rattle.mpi_rules.specs.Data.{is_live, data_of, place_among}
use Rattle.mpi_call.specs.declared.done.Done.{Done}
use Rattle.mpi_call.specs.Answers.{Kept, kept, data_in, DoesGive}
use Rattle.mpi_call.specs.InOrder.{AreInOrder}
use Rattle.mpi_call.specs.Lawful.{AreSized, MayBegin}
use Rattle.mpi_call.specs.Served.{is_begun, is_receive, is_finished, is_collective}

-- Each communicator has at most as many members as there may be ranks, the rank is one of them, and of its collectives no more have
-- begun than the rank has taken ticks.
pub record HasMember (rank ticks : ℕ) (own : OwnData) : Type 0 where
  pub sized : AreSized own
  pub member : All (λ c. place_among rank c.group.members < length c.group.members) own.communicators
  pub positions : All (λ c. c.position ≤ ticks) own.communicators

-- What holds of a rank that has taken so many ticks: its requests stand in order, and it has taken at most one at a tick.
pub record IsSteady (rank ticks : ℕ) (k : Kept) : Type 0 where
  pub order : AreInOrder k.own k.lists
  pub some : 1 ≤ k.own.next
  pub few : k.own.next ≤ ticks + 1
  pub communicators : HasMember rank ticks k.own

-- It holds behind each tick at which a call begins.
abbrev pub BeginsSteady : Type 0
BeginsSteady =
    (areas : Areas) (call : MpiCall) (words : List ℕ) (done : Done) (ticks : ℕ) (old new : Kept) → is_begun call ≡ true
    → IsSteady areas.rank ticks old → DoesGive (reply_to call false words areas (data_in old)) done old new
    → IsSteady areas.rank (ticks + 1) new

-- It holds behind the second tick of a receive and behind Wait, Waitall and Test.
abbrev pub EndsSteady : Type 0
EndsSteady =
    (areas : Areas) (call : MpiCall) (words : List ℕ) (done : Done) (ticks : ℕ) (old new : Kept) → is_finished call ≡ true
    → is_collective call ≡ false → IsSteady areas.rank ticks old
    → DoesGive (reply_to call (is_receive call) words areas (data_in old)) done old new
    → IsSteady areas.rank (ticks + 1) new

-- It holds behind the arrival of a message, and each request that is live stays so.
abbrev pub ArrivesSteady : Type 0
ArrivesSteady =
    (rank ticks : ℕ) (k : Kept) (message : Message) (hit : Option Hit) (new : BookLists) → Arrives k.lists message hit new
    → (IsSteady rank ticks k → IsSteady rank ticks (kept k.own k.sweep new))
    × ((n : ℕ) → is_live (data_in k) n ≡ true → is_live (data_of k.own k.sweep new) n ≡ true)

-- A rank of which it holds may begin a call, if nothing is joined and its ticks leave room for one more number.
abbrev pub SteadyBegin : Type 0
SteadyBegin =
    (rank ticks : ℕ) (k : Kept) → IsSteady rank ticks k → k.sweep.joined ≡ None → ticks + 2 < 2 ^ 32
    → MayBegin rank k.own k.sweep k.lists

-- ---- before the first call

-- the first ranks of the world, so many
abbrev pub members_below : ℕ → List RankId
members_below zero = []
members_below (suc n) = members_below n ++ record { 0 = n } ∷ []

-- before `MPI_Init`, with no request, and with one communicator: `MPI_COMM_WORLD`, of all ranks
unfoldable pub own_at_start : ℕ → OwnData
own_at_start ranks =
    record {
      phase = Before;
      next = 1;
      complete = [];
      communicators = record { number = 1; group = record { ctx = []; members = members_below ranks }; position = 0 } ∷ [];
    }

abbrev pub no_lists : BookLists
no_lists = record { posted = []; matched = []; arrived = [] }

abbrev pub no_sweep : Sweep
no_sweep = record { joined = None; tree = [] }

-- It holds of a rank before its first tick.
abbrev pub StartsSteady : Type 0
StartsSteady = (rank ranks : ℕ) → rank < ranks → ranks ≤ 256 → IsSteady rank 0 (kept (own_at_start ranks) no_sweep no_lists)
