-- What a book of receives and messages stands for: three lists.
use Rattle.std.specs.Prelude.{ℕ, ◌≡◌, ◌≢◌, ◌+◌, ◌<◌, ◌⊎◌, length, All, AllPairs, Any, Contains}
use Rattle.mpi_types.specs.declared.message.Message.{Message}
use Rattle.mpi_types.specs.declared.message.Posted.{Posted}
use Rattle.mpi_types.specs.declared.lists.BookLists.{BookLists}
use Rattle.mpi_types.specs.Accepts.{IsAcceptedBy}
use Rattle.mpi_types.specs.First.{NoneOf}

-- the receive of this number is posted and has no message yet
abbrev pub IsWaiting : BookLists → ℕ → Type 0
IsWaiting l n = Any (λ receive. receive.request ≡ n) l.posted

-- the receive of this number has its message
abbrev pub IsMatched : BookLists → ℕ → Type 0
IsMatched l n = Any (λ pair. pair.receive.request ≡ n) l.matched

-- the request is live: it isn't completed yet
abbrev pub IsLive : BookLists → ℕ → Type 0
IsLive l n = IsWaiting l n ⊎ IsMatched l n

-- how many requests are live
abbrev pub live_count : BookLists → ℕ
live_count l = length l.posted + length l.matched

-- the number is greater than that of every live request
pub record IsNext (l : BookLists) (n : ℕ) : Type 0 where
  pub above_posted : All (λ receive. receive.request < n) l.posted
  pub above_matched : All (λ pair. pair.receive.request < n) l.matched

-- the live receive of this number
pub record IsReceiveOf (l : BookLists) (n : ℕ) (receive : Posted) : Type 0 where
  pub number : receive.request ≡ n
  pub live : Contains l.posted receive ⊎ Any (λ pair. pair.receive ≡ receive) l.matched

-- the message that the receive of this number has
abbrev pub IsMessageOf : BookLists → ℕ → Message → Type 0
IsMessageOf l n message = Any (λ pair. (pair.receive.request ≡ n) × (pair.message ≡ message)) l.matched

-- Receives stand in the order of posting and pairs by request, each number below all later ones, and no number
-- stands in both lists.
pub record IsOrderly (l : BookLists) : Type 0 where
  pub posted_ascend : AllPairs (λ earlier later. earlier.request < later.request) l.posted
  pub matched_ascend : AllPairs (λ lower higher. lower.receive.request < higher.receive.request) l.matched
  pub apart : All (λ receive. All (λ pair. receive.request ≢ pair.receive.request) l.matched) l.posted

-- nothing that is posted accepts anything that has arrived
abbrev pub IsSettled : BookLists → Type 0
IsSettled l = All (λ receive. NoneOf (IsAcceptedBy receive) l.arrived) l.posted
