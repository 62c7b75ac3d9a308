-- The state in which a call may be made.
use Rattle.std.specs.Prelude.{ℕ, ◌≡◌, ◌+◌, ◌-◌, ◌^◌, ◌<◌, ◌≤◌, true, Option, Some, None, List, is_some, length, All}
use Rattle.am_base.specs.declared.calls.MpiCall.{MpiCall}
use Rattle.mpi_types.specs.declared.argument.Joined.{Joined}
use Rattle.mpi_types.specs.declared.argument.Sweep.{Sweep}
use Rattle.mpi_types.specs.declared.collective.Collective.{Collective}
use Rattle.mpi_types.specs.declared.lists.BookLists.{BookLists}
use Rattle.mpi_types.specs.declared.state.OwnData.{OwnData}
use Rattle.mpi_types.specs.Book.{IsLive, IsNext, IsOrderly}
use Rattle.mpi_rules.specs.Collectives.{collective_args}
use Rattle.mpi_rules.specs.Data.{complete_of, data_of, is_live, place_among}
use Rattle.mpi_call.specs.Gathers.{MayEnd}
use Rattle.mpi_call.specs.Served.{is_receive, collective_of}

-- how many ranks there may be
abbrev pub most_ranks : ℕ
most_ranks = 256

-- no communicator has more members than there may be ranks
pub record AreSized (own : OwnData) : Type 0 where
  pub members : All (λ c. length c.group.members ≤ most_ranks) own.communicators

-- One more request may be taken: its number fits, and is greater than that of every live receive.
pub record MayTake (own : OwnData) (lists : BookLists) : Type 0 where
  pub fits : own.next + 1 < 2 ^ 32
  pub next : IsNext lists own.next

-- The requests of a rank: those of its book stand in order, and no complete one is live in the book.
pub record AreApart (own : OwnData) (lists : BookLists) : Type 0 where
  pub orderly : IsOrderly lists
  pub apart : (n : ℕ) → is_some (complete_of n own.complete) ≡ true → IsLive lists n → ⊥

-- Each communicator has the rank as a member, and its next collective's position fits.
pub record MayJoin (rank : ℕ) (own : OwnData) : Type 0 where
  pub member : All (λ c. place_among rank c.group.members < length c.group.members) own.communicators
  pub position : All (λ c. c.position + 1 < 2 ^ 32) own.communicators

-- The state in which a rank may begin a call: with the call's arguments, and nothing joined.
pub record MayBegin (rank : ℕ) (own : OwnData) (sweep : Sweep) (lists : BookLists) : Type 0 where
  pub sized : AreSized own
  pub join : MayJoin rank own
  pub take : MayTake own lists
  pub idle : sweep.joined ≡ None

-- what is known of what was joined, if the call is a collective
abbrev pub MayEndCall : Option Collective → OwnData → List ℕ → Option Joined → Type 0
MayEndCall None own words joined = Unit {0}
MayEndCall (Some kind) own words joined = MayEnd kind own (collective_args kind words).comm joined

-- The state in which a rank may end a call with these arguments. Before the second tick of a receive its request is live, directly
-- below the next number. Before that of a collective the list that was gathered is one of the communicator's members.
pub record MayFinish (call : MpiCall) (words : List ℕ) (own : OwnData) (sweep : Sweep) (lists : BookLists) : Type 0 where
  pub apart : AreApart own lists
  pub some : is_receive call ≡ true → 1 < own.next
  pub live : is_receive call ≡ true → is_live (data_of own sweep lists) (own.next - 1) ≡ true
  pub gathered : MayEndCall (collective_of call) own words sweep.joined
