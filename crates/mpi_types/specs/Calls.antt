-- What a book answers over a list of calls.
use Rattle.std.specs.Prelude.{◌≡◌, ◌-◌, ◌^◌, ◌⊎◌, ◌↔◌, min, Bool, IsTrue, List, [], ◌∷◌, Option, MatchOption}
use Rattle.mpi_types.specs.declared.message.Message.{Message}
use Rattle.mpi_types.specs.declared.message.Posted.{Posted}
use Rattle.mpi_types.specs.declared.message.Hit.{Hit}
use Rattle.mpi_types.specs.declared.lists.BookLists.{BookLists}
use Rattle.mpi_types.specs.declared.book.Completion.{Completion}
use Rattle.mpi_types.specs.declared.calls.Envelope.{Envelope}
use Rattle.mpi_types.specs.declared.calls.BookCall.{BookCall}
use Rattle.mpi_types.specs.declared.calls.BookCall.TheVariants.{Post, Arrive, Complete, AskLive, AskMatched, AskReceive, AskMessage, Peek, AskLists, AskCount}
use Rattle.mpi_types.specs.declared.calls.BookAnswer.{BookAnswer}
use Rattle.mpi_types.specs.declared.calls.BookAnswer.TheVariants.{Met, Completed, Live, Matched, Receive, Found, Lists, Count, Refused}
use Rattle.mpi_types.specs.Accepts.{Accepts}
use Rattle.mpi_types.specs.First.{NoneOf, IsFirstOf}
use Rattle.mpi_types.specs.Book.{IsWaiting, IsMatched, IsLive, live_count, IsNext, IsReceiveOf, IsMessageOf}
use Rattle.mpi_types.specs.Post.{Posts, Arrives, Completes}

-- the call's condition
abbrev pub MayAsk : BookLists → BookCall → Type 0
MayAsk l (Post receive) = IsNext l receive.request
MayAsk l (Arrive message) = Unit {0}
MayAsk l (Complete request) = IsLive l request
MayAsk l (AskLive request) = Unit {0}
MayAsk l (AskMatched request) = IsLive l request
MayAsk l (AskReceive request) = IsLive l request
MayAsk l (AskMessage request) = IsLive l request
MayAsk l (Peek envelope) = Unit {0}
MayAsk l AskLists = Unit {0}
MayAsk l AskCount = Unit {0}

-- the first arrived message that a receive with these values accepts
abbrev pub IsPeeked : BookLists → Envelope → Option Message → Type 0
IsPeeked l envelope message =
    MatchOption message (NoneOf (Accepts envelope.ctx envelope.source envelope.tag) l.arrived)
    (IsFirstOf (Accepts envelope.ctx envelope.source envelope.tag) l.arrived)

-- What a call answers where its condition holds, and what the book stands for then. Only the first three change it.
abbrev pub Answers : BookLists → BookCall → BookAnswer → BookLists → Type 0
Answers old (Post receive) answer new = (hit : Option Hit) × (answer ≡ Met hit) × Posts old receive hit new
Answers old (Arrive message) answer new = (hit : Option Hit) × (answer ≡ Met hit) × Arrives old message hit new
Answers old (Complete request) answer new =
    (completion : Completion) × (answer ≡ Completed completion) × Completes old request completion new
Answers old (AskLive request) answer new =
    (live : Bool) × (answer ≡ Live live) × (IsTrue live ↔ IsLive old request) × (new ≡ old)
Answers old (AskMatched request) answer new =
    (matched : Bool) × (answer ≡ Matched matched) × (IsTrue matched ↔ IsMatched old request) × (new ≡ old)
Answers old (AskReceive request) answer new =
    (receive : Posted) × (answer ≡ Receive receive) × IsReceiveOf old request receive × (new ≡ old)
Answers old (AskMessage request) answer new =
    (message : Option Message) × (answer ≡ Found message)
    × MatchOption message (IsWaiting old request) (IsMessageOf old request) × (new ≡ old)
Answers old (Peek envelope) answer new =
    (message : Option Message) × (answer ≡ Found message) × IsPeeked old envelope message × (new ≡ old)
Answers old AskLists answer new = (answer ≡ Lists old) × (new ≡ old)
Answers old AskCount answer new = (answer ≡ Count (min (live_count old) (2 ^ 32 - 1))) × (new ≡ old)

-- one call: a call whose condition doesn't hold is refused and changes nothing
abbrev pub IsAsked : BookLists → BookCall → BookAnswer → BookLists → Type 0
IsAsked old call answer new =
    (MayAsk old call × Answers old call answer new) ⊎ ((MayAsk old call → ⊥) × (answer ≡ Refused) × (new ≡ old))

-- a list of calls, one after another, with their answers
abbrev pub IsRun : BookLists → List BookCall → List BookAnswer → BookLists → Type 0
IsRun old [] answers new = (answers ≡ []) × (new ≡ old)
IsRun old (call ∷ calls) answers new =
    (answer : BookAnswer) × (rest : List BookAnswer) × (middle : BookLists)
    × (answers ≡ answer ∷ rest) × IsAsked old call answer middle × IsRun middle calls rest new
