-- What posting, arrival and completion do to the three lists of a book (MPI 3.1, sections 3.5 and 3.7).
use Rattle.std.specs.Prelude.{ℕ, ◌≡◌, ◌<◌, nat_lt, if◌then◌else◌, List, [], ◌∷◌, ◌++◌, All, Option, None, Some}
use Rattle.mpi_types.specs.declared.message.Message.{Message}
use Rattle.mpi_types.specs.declared.message.Posted.{Posted}
use Rattle.mpi_types.specs.declared.message.Hit.{Hit}
use Rattle.mpi_types.specs.declared.lists.MatchedPair.{MatchedPair}
use Rattle.mpi_types.specs.declared.lists.BookLists.{BookLists}
use Rattle.mpi_types.specs.declared.book.Completion.{Completion}
use Rattle.mpi_types.specs.declared.book.Completion.TheVariants.{Done, NotYet}
use Rattle.mpi_types.specs.Accepts.{IsAcceptedBy}
use Rattle.mpi_types.specs.First.{NoneOf, IsFirst}
use Rattle.mpi_types.specs.Book.{IsWaiting}

-- The pair stands in the new list at its place by request; the others are those of the old list, in their order.
pub record IsInserted (old new : List MatchedPair) (pair : MatchedPair) : Type 0 where
  pub lower : List MatchedPair
  pub higher : List MatchedPair
  pub before : old ≡ lower ++ higher
  pub now : new ≡ lower ++ pair ∷ higher
  pub all_lower : All (λ p. p.receive.request < pair.receive.request) lower
  pub all_higher : All (λ p. pair.receive.request < p.receive.request) higher

-- the list with the pair at its place by request
abbrev pub with_pair : MatchedPair → List MatchedPair → List MatchedPair
with_pair pair [] = pair ∷ []
with_pair pair (p ∷ pairs) =
    if nat_lt pair.receive.request p.receive.request then pair ∷ p ∷ pairs else p ∷ with_pair pair pairs

-- a pair stands at its one place
abbrev pub InsertionIsOnePlace : Type 0
InsertionIsOnePlace = (old new : List MatchedPair) (pair : MatchedPair) → IsInserted old new pair → new ≡ with_pair pair old

-- who has met whom
abbrev pub hit_of : Posted → Message → Hit
hit_of receive message = record { request = receive.request; sender = message.sender }

-- the receive takes the first arrived message that it accepts
pub record TakesMessage (old : BookLists) (receive : Posted) (hit : Hit) (new : BookLists) : Type 0 where
  pub message : Message
  pub before : List Message
  pub behind : List Message
  pub first : IsFirst (IsAcceptedBy receive) old.arrived before message behind
  pub told : hit ≡ hit_of receive message
  pub arrived : new.arrived ≡ before ++ behind
  pub matched : IsInserted old.matched new.matched (record { receive = receive; message = message })
  pub posted : new.posted ≡ old.posted

-- Posting a receive: it takes the first arrived message that it accepts. Where it accepts none, it stands behind the
-- others.
abbrev pub Posts : BookLists → Posted → Option Hit → BookLists → Type 0
Posts old receive None new =
    NoneOf (IsAcceptedBy receive) old.arrived × (new ≡ record old { posted = old.posted ++ receive ∷ [] })
Posts old receive (Some hit) new = TakesMessage old receive hit new

-- the message goes to the first posted receive that accepts it
pub record TakesReceive (old : BookLists) (message : Message) (hit : Hit) (new : BookLists) : Type 0 where
  pub receive : Posted
  pub before : List Posted
  pub behind : List Posted
  pub first : IsFirst (λ r. IsAcceptedBy r message) old.posted before receive behind
  pub told : hit ≡ hit_of receive message
  pub posted : new.posted ≡ before ++ behind
  pub matched : IsInserted old.matched new.matched (record { receive = receive; message = message })
  pub arrived : new.arrived ≡ old.arrived

-- The arrival of a message: it goes to the first posted receive that accepts it. Where none does, it stands behind the
-- others.
abbrev pub Arrives : BookLists → Message → Option Hit → BookLists → Type 0
Arrives old message None new =
    NoneOf (λ receive. IsAcceptedBy receive message) old.posted
    × (new ≡ record old { arrived = old.arrived ++ message ∷ [] })
Arrives old message (Some hit) new = TakesReceive old message hit new

-- the request of this number ends and gives its message
pub record Ends (old : BookLists) (request : ℕ) (message : Message) (new : BookLists) : Type 0 where
  pub receive : Posted
  pub lower : List MatchedPair
  pub higher : List MatchedPair
  pub number : receive.request ≡ request
  pub before : old.matched ≡ lower ++ record { receive = receive; message = message } ∷ higher
  pub now : new ≡ record old { matched = lower ++ higher }

-- Completing a request: one that has its message ends and gives it. One that waits changes nothing.
abbrev pub Completes : BookLists → ℕ → Completion → BookLists → Type 0
Completes old request NotYet new = IsWaiting old request × (new ≡ old)
Completes old request (Done message) new = Ends old request message new
