-- The data of MPI that a call's answer goes by: a rank's own, the receives that it posted, and the collective that it joined.
-- Messages that have arrived and met no receive, and messages of trees, are no part of it.
use Rattle.std.specs.Prelude.{ℕ, ℤ, pos, ◌+◌, ◌==◌, ◌||◌, not, nat_le, nat_lt, if◌then◌else◌, Bool, true, false, Option, Some, None, is_some, List, [], ◌∷◌, length, filter, find}
use Rattle.std.specs.List.{list_any}
use Rattle.std.specs.Ordering.{int_eq}
use Rattle.am_base.specs.declared.numbers.RankId.{RankId}
use Rattle.mpi_types.specs.declared.argument.Joined.{Joined}
use Rattle.mpi_types.specs.declared.argument.Sweep.{Sweep}
use Rattle.mpi_types.specs.declared.group.Communicator.{Communicator}
use Rattle.mpi_types.specs.declared.lists.BookLists.{BookLists}
use Rattle.mpi_types.specs.declared.lists.MatchedPair.{MatchedPair}
use Rattle.mpi_types.specs.declared.message.Posted.{Posted}
use Rattle.mpi_types.specs.declared.state.CompleteRequest.{CompleteRequest}
use Rattle.mpi_types.specs.declared.state.OwnData.{OwnData}
use Rattle.mpi_types.specs.declared.state.Phase.{Phase}
use Rattle.mpi_types.specs.declared.state.Phase.TheVariants.{Before, Running, After}
use Rattle.mpi_rules.specs.declared.arguments.CommFacts.{CommFacts}

pub record MpiData : Type 0 where
  -- the phase, the next request, complete requests, communicators
  pub own : OwnData
  -- the receives that have no message yet, in order of posting
  pub posted : List Posted
  -- those that have their message and aren't completed yet, by request
  pub matched : List MatchedPair
  -- the collective that was joined and hasn't ended
  pub joined : Option Joined

-- of what a rank keeps: its own data, its collectives, and the lists that its book stands for
abbrev pub data_of : OwnData → Sweep → BookLists → MpiData
data_of own sweep lists =
    record { own = own; posted = lists.posted; matched = lists.matched; joined = sweep.joined }

-- ---- phases

abbrev pub is_before : Phase → Bool
is_before Before = true
is_before Running = false
is_before After = false

abbrev pub is_running : Phase → Bool
is_running Before = false
is_running Running = true
is_running After = false

abbrev pub is_after : Phase → Bool
is_after Before = false
is_after Running = false
is_after After = true

-- ---- communicators

-- how many communicators a rank may have
abbrev pub communicator_limit : ℕ
communicator_limit = 64

-- how many levels a context may have
abbrev pub level_limit : ℕ
level_limit = 16

-- the communicator of a number
abbrev pub communicator_in : List Communicator → ℤ → Option Communicator
communicator_in list n = find (λ c. int_eq (pos c.number) n) list

-- how many members come before the rank, by its number in the world
abbrev pub place_among : ℕ → List RankId → ℕ
place_among rank [] = 0
place_among rank (r ∷ members) = if r.0 == rank then 0 else place_among rank members + 1

-- what is known of a communicator; nothing is where there is none
abbrev pub facts_in : ℕ → Option Communicator → CommFacts
facts_in rank None = record { known = false; members = 0; member = 0; depth = 0 }
facts_in rank (Some c) =
    record { known = true; members = length c.group.members; member = place_among rank c.group.members; depth = length c.group.ctx }

unfoldable pub comm_facts : ℕ → OwnData → ℤ → CommFacts
comm_facts rank own n = facts_in rank (communicator_in own.communicators n)

-- the communicators with the one at its place by number
abbrev pub with_communicator : Communicator → List Communicator → List Communicator
with_communicator new [] = new ∷ []
with_communicator new (c ∷ list) = if nat_lt new.number c.number then new ∷ c ∷ list else c ∷ with_communicator new list

abbrev pub without_communicator : ℤ → List Communicator → List Communicator
without_communicator n list = filter (λ c. not (int_eq (pos c.number) n)) list

-- Whether a communicator has the number, and from n on the least number that none has. The list is as long as may be.
abbrev pub is_taken : ℕ → List Communicator → Bool
is_taken n list = list_any (λ c. c.number == n) list

-- each communicator, the one of this number with its next collective's position one further
abbrev pub with_next_position : ℤ → List Communicator → List Communicator
with_next_position n [] = []
with_next_position n (c ∷ list) =
    (if int_eq (pos c.number) n then record { number = c.number; group = c.group; position = c.position + 1 } else c)
    ∷ with_next_position n list

-- ---- requests

-- how many requests may be live
abbrev pub request_limit : ℕ
request_limit = 65536

-- the request of this number
abbrev pub complete_of : ℕ → List CompleteRequest → Option CompleteRequest
complete_of n list = find (λ r. r.number == n) list

abbrev pub pair_of : ℕ → List MatchedPair → Option MatchedPair
pair_of n list = find (λ p. p.receive.request == n) list

abbrev pub is_waiting : ℕ → List Posted → Bool
is_waiting n list = list_any (λ q. q.request == n) list

-- it is live: a complete one, one that has its message, or one that waits for it
unfoldable pub is_live : MpiData → ℕ → Bool
is_live mpi n = is_some (complete_of n mpi.own.complete) || (is_waiting n mpi.posted || is_some (pair_of n mpi.matched))

-- as many are live as may be
unfoldable pub is_full : MpiData → Bool
is_full mpi = nat_le request_limit (length mpi.own.complete + (length mpi.posted + length mpi.matched))

-- the data without the request of this number
abbrev pub without_complete : ℕ → List CompleteRequest → List CompleteRequest
without_complete n list = filter (λ r. not (r.number == n)) list

abbrev pub without_pair : ℕ → List MatchedPair → List MatchedPair
without_pair n list = filter (λ p. not (p.receive.request == n)) list

abbrev pub own_without : ℕ → OwnData → OwnData
own_without n own = record own { complete = without_complete n own.complete }

unfoldable pub without : ℕ → MpiData → MpiData
without n mpi = record mpi { own = own_without n mpi.own; matched = without_pair n mpi.matched }
